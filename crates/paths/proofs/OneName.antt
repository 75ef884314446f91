-- The value of a name in entries, and the entries below it, by the first entry.
-- Index: `value_first`, `value_later`, `value_absent`, `value_empty`; `below_more`, `below_none`.
-- Assumes nothing.
use Prim.Native.Nat.{ℕ, ◌<◌, ◌≤◌}
use native.Mathlib.Omega.{arith}
use mathlib.Core.Path.{◌≡◌, refl, ap, ◌∙◌}
use mathlib.Core.Bool.{cond}
use mathlib.Core.Option.{none, some}
use borrow.Author.Tests.{eq-eqb, ne_eqb, lt-ltb, le-ltb}
use Rattle.form.specs.Trees.{Val, Entries, no_entries, entry}
use Rattle.paths.specs.Paths.{value_of, below}
use Rattle.values.proofs.Reading.{From}

pub value_first : (n : ℕ) (v : Val) (es : Entries) → value_of n (entry n v es) ≡ some v
unfolding value_of
value_first n v es = ap (λ q. cond q (some v) (value_of n es)) (eq-eqb n n refl)

pub value_later : (n m : ℕ) (v : Val) (es : Entries) → (n ≡ m → ⊥) → value_of n (entry m v es) ≡ value_of n es
unfolding value_of
value_later n m v es d = ap (λ q. cond q (some v) (value_of n es)) (ne_eqb n m d)

-- a name below all of them
pub value_absent : (n k : ℕ) (es : Entries) → From k es → n < k → value_of n es ≡ none
unfolding From value_of
value_absent n k no_entries f h = refl
value_absent n k (entry m v es) f h = let d : n ≡ m → ⊥ = λ e. omega (arith, f.0) in ap (λ q. cond q (some v) (value_of n es)) (ne_eqb n m d) ∙ value_absent n k es f.1 h

pub below_more : (n m : ℕ) (v : Val) (es : Entries) → m < n → below n (entry m v es) ≡ entry m v (below n es)
unfolding below
below_more n m v es h = ap (λ q. cond q (entry m v (below n es)) no_entries) (lt-ltb m n h)

pub below_none : (n m : ℕ) (v : Val) (es : Entries) → n ≤ m → below n (entry m v es) ≡ no_entries
unfolding below
below_none n m v es h = ap (λ q. cond q (entry m v (below n es)) no_entries) (le-ltb m n h)

pub value_empty : (n : ℕ) → value_of n no_entries ≡ none
unfolding value_of
value_empty n = refl
