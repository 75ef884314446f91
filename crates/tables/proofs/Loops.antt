-- Tests over a stretch of numbers, and a number from its bits.
-- Index: `all_at`, `all_from_lem`, `any_at`, `any_from_lem`, `all_below` (tests over a stretch of numbers); `is_row_lem` (one of ten rows); `packed_more`, `packed_small` (a number from its bits).
-- Assumes nothing.
use Prim.Native.Nat.{ℕ, zero, suc, ◌+◌, ◌-◌, ◌*◌, ◌%◌, ◌^◌, ◌≤◌, ◌<◌}
use mathlib.Core.Path.{◌≡◌, refl, sym, ap, ◌∙◌, subst}
use mathlib.Core.Bool.{Bool, true, false, cond, ◌||◌, false≢true}
use mathlib.Core.List.{List}
use native.Mathlib.Omega.{arith}
use native.Mathlib.Nat.{pow-suc, mul_assoc}
use lib.ListN.{length, get_or}
use lib.Dec.{eqb}
use Rattle.std.proofs.Common.{add-one}
use Rattle.std.proofs.Math.Pow.{pow-lt}
use denote.Param.Members.{Mut}
use Rattle.std.specs.Fn.{Called}
use Rattle.std.specs.Iterator.{ChecksAll}
use Rattle.std.specs.List.{list_all, list_any, range_with_len}
use Rattle.std.specs.declared.ops.Range.{Range}
use Rattle.std.proofs.iter.Yields.{nat_range_steps}
use Rattle.std.proofs.lemmas.Iterator.{YieldsList-from_range}
use Rattle.std.proofs.lemmas.Iterator.Search.{all_from_yields_List}
use Rattle.std.proofs.lemmas.List.FromFn.{length-range_with_len, get_or-range_with_len, fill_by_all}
use Rattle.std.proofs.lemmas.List.Recursion.{and_at, and_from_places, or_at}
use Rattle.order.specs.Table.{pack}
use Rattle.tables.specs.Rows.{all_from, any_from, is_row}

-- ---- tests over a stretch of numbers
pub all_at : (f : ℕ → Bool) (i k j : ℕ) → all_from f i k ≡ true → i ≤ j → j < i + k → f j ≡ true
unfolding all_from
all_at f i k j e lo hi =
    let place : get_or (range_with_len i k) (j - i) 0 ≡ j = get_or-range_with_len i k (j - i) 0 (omega arith) ∙ omega arith in
    subst (λ (x : ℕ). f x ≡ true) place (and_at (list_all f) f refl (λ _ _. refl) (range_with_len i k) (j - i) 0 (omega (arith, length-range_with_len i k)) e)

pub all_from_lem : (f : ℕ → Bool) (i k : ℕ) → ((j : ℕ) → i ≤ j → j < i + k → f j ≡ true) → all_from f i k ≡ true
unfolding all_from
all_from_lem f i k h =
    and_from_places (list_all f) f refl (λ _ _. refl) (range_with_len i k) 0 (λ m l.
    let n : m < k = omega (arith, length-range_with_len i k) in
    subst (λ (x : ℕ). f x ≡ true) (sym (get_or-range_with_len i k m 0 n)) (h (i + m) (omega arith) (omega arith)))

pub any_at : (f : ℕ → Bool) (i k : ℕ) → any_from f i k ≡ true → (j : ℕ) × (i ≤ j) × (j < i + k) × (f j ≡ true)
unfolding any_from
any_at f i zero e = absurd (false≢true e)
any_at f i (suc k) e = step (f i) refl e (λ h. any_at f (i + 1) k h)
  where
    step : (q : Bool) → f i ≡ q → q || list_any f (range_with_len (i + 1) k) ≡ true → (list_any f (range_with_len (i + 1) k) ≡ true → (j : ℕ) × (i + 1 ≤ j) × (j < i + 1 + k) × (f j ≡ true))
        → (j : ℕ) × (i ≤ j) × (j < i + suc k) × (f j ≡ true)
    step true h p ih = (i, omega arith, omega arith, h)
    step false h p ih = let g = ih p in (g.0, omega (arith, g.1), omega (arith, g.2), g.3)

pub any_from_lem : (f : ℕ → Bool) (i k j : ℕ) → i ≤ j → j < i + k → f j ≡ true → any_from f i k ≡ true
unfolding any_from
any_from_lem f i k j lo hi e =
    let place : get_or (range_with_len i k) (j - i) 0 ≡ j = get_or-range_with_len i k (j - i) 0 (omega arith) ∙ omega arith in
    or_at (list_any f) f refl (λ _ _. refl) (range_with_len i k) (j - i) 0 (omega (arith, length-range_with_len i k)) (ap f place ∙ e)

-- `(0..n).all(..)` of a closure that tests f
pub all_below : {F : Type 0} {g : Mut F (ℕ × Unit {0}) Bool} {s : Range ℕ} {u : Range ℕ} {q : F} {r : Bool} (f : ℕ → Bool) (n : ℕ) → ChecksAll nat_range_steps g s q r u
    → s ≡ record { start = 0; end = n } → ((x : ℕ) (b : Bool) (p : F) → Called g q (x, tt) b p → (p ≡ q) × (b ≡ f x)) → r ≡ all_from f 0 n
unfolding all_from
all_below {u = u} {q = q} {r = r} f n ran whole calls = all_from_yields_List f u q r ran (YieldsList-from_range 0 n n whole (omega arith)) calls

-- one of ten rows, by their places
pub is_row_lem : (r : Bool) (rows : List ℕ) (common : ℕ) → length rows ≡ 10 → r ≡ list_any (λ y. eqb y common) rows → r ≡ is_row rows common
unfolding any_from
is_row_lem r rows common l e = e ∙ ap (list_any (λ y. eqb y common)) (fill_by_all (λ u. get_or rows u 0) rows 10 0 l (λ k h. refl))

-- ---- a number from its bits
-- one bit more, above those so far
pack_more : (f : ℕ → ℕ) (i k : ℕ) → pack f i (suc k) ≡ pack f i k + f (i + k) * 2 ^ k
unfolding pack
pack_more f i zero = let e : i + 0 ≡ i = omega arith in omega (arith, ap f e)
pack_more f i (suc k) =
    let e : suc i + k ≡ i + suc k = omega arith in
    let p : f (i + suc k) * 2 ^ suc k ≡ f (i + suc k) * 2 ^ k * 2 = ap (λ (x : ℕ). f (i + suc k) * x) (pow-suc 2 k) ∙ sym (mul_assoc (f (i + suc k)) (2 ^ k) 2) in
    omega (arith, pack_more f (suc i) k, ap (λ (x : ℕ). f x * 2 ^ k) e, p)

-- the sum fits 64 bits
above : (b : Bool) (n k : ℕ) → n < 2 ^ k → k < 64 → (n + cond b (2 ^ k % 2 ^ 64) 0 ≡ n + cond b 1 0 * 2 ^ k) × (n + cond b 1 0 * 2 ^ k < 2 ^ suc k)
above true n k l h = let p = pow-suc 2 k in let q : 2 ^ k < 2 ^ 64 = pow-lt h in (omega arith, omega arith)
above false n k l h = let p = pow-suc 2 k in (omega arith, omega arith)

pub packed_more : (f : ℕ → ℕ) (b : Bool) (n k : ℕ) → n ≡ pack f 0 k → n < 2 ^ k → k < 64 → f k ≡ cond b 1 0 → n + cond b (2 ^ k % 2 ^ 64) 0 ≡ pack f 0 (k + 1)
packed_more f b n k e l h p =
    let z : 0 + k ≡ k = omega arith in
    rw (add-one, pack_more f 0 k) ((above b n k l h).0 ∙ ap (λ (x : ℕ). x + cond b 1 0 * 2 ^ k) e ∙ ap (λ (x : ℕ). pack f 0 k + x * 2 ^ k) (sym (ap f z ∙ p)))

pub packed_small : (b : Bool) (n k : ℕ) → n < 2 ^ k → k < 64 → n + cond b (2 ^ k % 2 ^ 64) 0 < 2 ^ (k + 1)
packed_small b n k l h = rw (add-one, (above b n k l h).0) (above b n k l h).1
