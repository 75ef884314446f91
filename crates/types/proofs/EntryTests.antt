-- The test of two context types, name by name, whatever the types of a common name are held to: `fields_tests` gives what SortedNames asks of a test.
-- Assumes nothing.
use Prim.Native.Nat.{ℕ, suc, ◌<◌}
use mathlib.Core.Path.{◌≡◌, refl, ap, ap₂, ◌∙◌}
use mathlib.Core.Bool.{Bool, false, cond, ◌&&◌}
use mathlib.Core.Option.{some}
use native.Mathlib.Omega.{arith}
use lib.Dec.{eqb}
use borrow.Author.Tests.{eq-eqb, ne_eqb}
use Rattle.form.specs.Trees.{Ty, Fields, no_fields, field}
use Rattle.order.specs.Order.{fixed}
use Rattle.order.specs.Types.{lookup, found, all_fields}
use Rattle.order.specs.Ascending.{Asc, AscFields}
use Rattle.order.proofs.Conform.{look_below}
use Rattle.order.proofs.Bools.{found_none}
use Rattle.types.specs.Conform.{entries}
use Rattle.types.proofs.SortedNames.{Tests}

-- a name smaller than all that are asked for does not matter
skipped : (test : Ty → Ty → Bool) (n : ℕ) (t : Ty) (fs gs : Fields) (k : ℕ) → AscFields gs k → n < k → entries test (field n t fs) gs ≡ entries test fs gs
unfolding all_fields lookup Asc
skipped test n t fs no_fields k w h = refl
skipped test n t fs (field m u gs) k w h =
    let ne : eqb m n ≡ false = ne_eqb m n (λ e. omega (arith, w.0)) in
    ap₂ ◌&&◌ (ap (λ q. found (cond q (some t) (lookup m fs)) (λ a. test a u)) ne) (skipped test n t fs gs (suc m) w.2 (omega (arith, w.0)))

missing : (test : Ty → Ty → Bool) (n : ℕ) (t : Ty) (fs : Fields) (m : ℕ) (u : Ty) (gs : Fields) → AscFields fs (suc n) → m < n → entries test (field n t fs) (field m u gs) ≡ false
unfolding all_fields lookup
missing test n t fs m u gs w h =
    ap (λ q. found (cond q (some t) (lookup m fs)) (λ a. test a u) && entries test (field n t fs) gs) (ne_eqb m n (λ e. omega arith))
    ∙ ap (λ x. x && entries test (field n t fs) gs) (found_none (lookup m fs) (λ a. test a u) (look_below fixed fs (suc n) m w (omega arith)))

pub common : (test : Ty → Ty → Bool) (n : ℕ) (t u : Ty) (fs gs : Fields) → AscFields gs (suc n) → entries test (field n t fs) (field n u gs) ≡ test t u && entries test fs gs
unfolding all_fields lookup
common test n t u fs gs w = ap₂ (λ q x. found (cond q (some t) (lookup n fs)) (λ a. test a u) && x) (eq-eqb n n refl) (skipped test n t fs gs (suc n) w (omega arith))

pub fields_tests : (test : Ty → Ty → Bool) → Tests no_fields field AscFields test (entries test)
unfolding all_fields lookup
fields_tests test = record {
  done = refl;
  left = λ m u gs. refl;
  first = λ n t fs gs w. skipped test n t fs gs (suc n) w (omega arith);
  missing = missing test;
  common = common test;
}
