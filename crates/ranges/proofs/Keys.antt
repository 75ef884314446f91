-- A key that is read, by the number of its eight bytes: `key_fits`, and `key_means`, the whole number that it means.
-- Assumes nothing.
use Prim.Native.Nat.{ℕ, ◌<◌, ◌≤◌, ◌^◌}
use mathlib.Core.Path.{◌≡◌, ap, ◌∙◌}
use mathlib.Core.List.{List, [], ◌∷◌}
use native.Mathlib.Omega.{arith}
use lib.ListN.{length, get_or}
use mir.Syntax.{w8}
use mir.Val.{Fits}
use Rattle.std.specs.Int.{w64, from_le_bytes, cast_signed}
use Rattle.form.specs.Form.{num, num_at}
use Rattle.ranges.specs.Ranges.{meaning}
use Rattle.ranges.proofs.Signed.{cast_is}

abbrev eight : List ℕ → List ℕ
eight s = get_or s 1 0 ∷ get_or s 2 0 ∷ get_or s 3 0 ∷ get_or s 4 0 ∷ get_or s 5 0 ∷ get_or s 6 0 ∷ get_or s 7 0 ∷ get_or s 8 0 ∷ []

key_is : (s : List ℕ) → 9 ≤ length s → from_le_bytes w64 (eight s) ≡ num_at 8 1 s
unfolding num
key_is (c ∷ b0 ∷ b1 ∷ b2 ∷ b3 ∷ b4 ∷ b5 ∷ b6 ∷ b7 ∷ s) h = omega arith
key_is s h = absurd (omega arith)

module _ (s : List ℕ) (h : 9 ≤ length s) (b : (i : ℕ) → Fits w8 (get_or s i 0)) where
  pub key_fits : num_at 8 1 s < 2 ^ 64
  key_fits = omega (arith, key_is s h, (b 1).fits, (b 2).fits, (b 3).fits, (b 4).fits, (b 5).fits, (b 6).fits, (b 7).fits, (b 8).fits)

  pub key_means : cast_signed w64 (from_le_bytes w64 (eight s)) ≡ meaning (num_at 8 1 s)
  key_means = ap (cast_signed w64) (key_is s h) ∙ cast_is (num_at 8 1 s) key_fits
