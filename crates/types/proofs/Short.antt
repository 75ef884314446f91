-- A short way past a leaf, whatever is read: where it is taken the leaf is there (`passed`), where not what is read is no leaf (`not_passed`).
-- Assumes nothing.
use Prim.Native.Nat.{ℕ, ◌<◌}
use mathlib.Core.Path.{◌≡◌, refl, sym, ap, ◌∙◌}
use mathlib.Core.Bool.{Bool, true, false}
use mathlib.Core.Option.{Option, some}
use Rattle.std.specs.declared.option.Option.{Option as Maybe}
use Rattle.std.specs.declared.option.Option.TheVariants.{None, Some}
use Rattle.form.specs.Outcome.{pick}
use Rattle.form.proofs.Some.{some_is, some_none}
use Rattle.form.specs.Read.{Got, got, bad}
use Rattle.form.specs.Walks.{Short, leaf_in}
use Rattle.types.specs.At.{seen}
use Rattle.types.proofs.Reading.{seen_got}

pub record Passed {X : Type 0} (sz : X → ℕ) (isLeaf : X → Bool) (r : Option X) (n : ℕ) : Type 0 where
  pub x : X
  pub read : r ≡ some x
  pub leafy : isLeaf x ≡ true
  pub is : n ≡ sz x

module _ {X : Type 0} (sz : X → ℕ) (isLeaf : X → Bool) (g : Got X) (told : (x : X) (m : ℕ) → g ≡ got x m → m ≡ sz x) (room : ℕ) where
  pub passed : (n : ℕ) → Short isLeaf g (Some n) room → Passed sz isLeaf (seen g) n
  unfolding seen leaf_in
  passed n h = go g refl
    where
      of : (q : Bool) (x : X) (m : ℕ) → isLeaf x ≡ q → ◌≡◌ {A = Maybe ℕ} (Some n) (pick q (Some m) None) → g ≡ got x m → Passed sz isLeaf (seen g) n
      of true x m t e r = record { x = x; read = ap seen r; leafy = t; is = some_is e ∙ told x m r }
      of false x m t e r = absurd (some_none e)

      go : (f : Got X) → g ≡ f → Passed sz isLeaf (seen g) n
      go (got x m) r = of (isLeaf x) x m refl (h.size ∙ ap (leaf_in isLeaf) r) r
      go (bad f) r = absurd (some_none (h.size ∙ ap (leaf_in isLeaf) r))

  pub not_passed : Short isLeaf g None room → (x : X) → seen g ≡ some x → isLeaf x ≡ false
  unfolding leaf_in
  not_passed h x e = seen_got g x e (λ m r. of (isLeaf x) m refl (h.size ∙ ap (leaf_in isLeaf) r))
    where
      of : (q : Bool) (m : ℕ) → isLeaf x ≡ q → ◌≡◌ {A = Maybe ℕ} None (pick q (Some m) None) → isLeaf x ≡ false
      of true m t p = absurd (some_none (sym p))
      of false m t p = t
