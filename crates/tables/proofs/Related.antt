-- What a reading says of two simple types, by their commands, and the loop over the eight types between Null and Any.
-- Idea: a command c is the code c - 32.
-- Index: `related_inner` (a table relates only two of the eight types); `Narrowing`, `narrowing_next`, `narrowing_end` (the loop).
-- Assumes nothing.
use Prim.Native.Nat.{ℕ, suc, ◌+◌, ◌-◌, ◌≤◌, ◌<◌}
use mathlib.Core.Path.{◌≡◌, sym, ap, ap₂, ◌∙◌}
use mathlib.Core.Bool.{Bool, true, false, cond}
use native.Mathlib.Omega.{arith}
use Rattle.std.proofs.lemmas.Bool.Decides.{nat_tests}
use Rattle.order.specs.Order.{related, narrowed}

-- both are among the eight
pub related_inner : (reading c d : ℕ) → related reading (c - 32) (d - 32) ≡ true → ((33 ≤ c) × (c ≤ 40)) × ((33 ≤ d) × (d ≤ 40))
related_inner reading c d e = grind (arith, nat_tests)

-- ---- the loop over the eight types: what is left of it gives what all of it gives
pub record Narrowing (better : ℕ → ℕ → Bool) (whole best u : ℕ) : Type 0 where
  pub small : best ≤ 9
  pub rest : narrowed better best u (9 - u) ≡ whole

module _ (better : ℕ → ℕ → Bool) (whole best u : ℕ) (v : Narrowing better whole best u) where
  next_of : (k m : ℕ) → k ≡ suc m → narrowed better best u k ≡ narrowed better (cond (better u best) u best) (suc u) m
  unfolding narrowed
  next_of k m e = ap (λ (z : ℕ). narrowed better best u z) e

  -- u takes the place of the best where it is better
  pub narrowing_next : u ≤ 8 → (next : ℕ) → next ≡ cond (better u best) u best → Narrowing better whole next (u + 1)
  narrowing_next h next n =
      let s : u + 1 ≡ suc u = omega arith in
      record {
        small = go (better u best) n;
        rest = ap₂ (λ (a b : ℕ). narrowed better a b (9 - b)) n s ∙ sym (next_of (9 - u) (9 - suc u) (omega arith)) ∙ v.rest;
      }
    where
      go : (b : Bool) → next ≡ cond b u best → next ≤ 9
      go true m = omega arith
      go false m = omega (arith, v.small)

  pub narrowing_end : 8 < u → (best ≤ 9) × (best ≡ whole)
  unfolding narrowed
  narrowing_end h =
      let z : 9 - u ≡ 0 = omega arith in
      (v.small, sym (ap (λ (k : ℕ). narrowed better best u k) z) ∙ v.rest)
