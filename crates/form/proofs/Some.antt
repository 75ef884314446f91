-- What an answer that may be missing has: equal answers have equal numbers (`some_is`), and a number is not missing (`some_none`).
-- Assumes nothing.
use Prim.Native.Nat.{ℕ}
use mathlib.Core.Path.{◌≡◌, ap}
use native.Mathlib.Omega.{arith}
use Rattle.std.specs.declared.option.Option.{Option}
use Rattle.std.specs.declared.option.Option.TheVariants.{None, Some}

unfoldable pub worth : ℕ → Option ℕ → ℕ
worth d (Some n) = n
worth d None = d

pub some_is : {n m : ℕ} → ◌≡◌ {A = Option ℕ} (Some n) (Some m) → n ≡ m
unfolding worth
some_is e = ap (worth 0) e

pub some_none : {n : ℕ} → ◌≡◌ {A = Option ℕ} (Some n) None → ⊥
unfolding worth
some_none {n} e =
    let p : n ≡ 0 = ap (worth 0) e in
    let q : n ≡ 1 = ap (worth 1) e in
    omega arith
