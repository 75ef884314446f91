-- `ranges::decimals::Decimal::scaled` meets its contract: the table is right at every place, which one computed test says; neither number, nor the product, needs more than 128 bits.
-- Assumes nothing.
use Rattle.std.proofs.Common.{◌≡◌, ℕ, ◌-◌, ◌<◌, ◌≤◌, ◌^◌, List, [], ◌∷◌, get_or, eqb, arith, rules, ap, ◌∙◌}
use Rattle.std.proofs.Math.Nat.{pow-le-pow_right}
use Rattle.std.specs.Prelude.{ℤ, pos, negsuc, ◌*ℤ◌}
use Rattle.std.specs.Int.{w64, w128}
use Rattle.std.specs.Int.RustNames.{unsigned_abs}
use Rattle.std.proofs.lemmas.Int.{to_z-of_z, fits_signed_mul}
use lib.Dec.{eqb→eq}
use lib.Signed.{mag}
use mir.Val.{SFits, to_z, of_z}
use Rattle.form.proofs.Table.{at}
use Rattle.ranges.proofs.decimals.Decimal.scaled.Goals as goal

-- the powers, as the code has them
abbrev powers : List ℕ
powers =
    1 ∷ 10 ∷ 100 ∷ 1000 ∷ 10000 ∷ 100000 ∷ 1000000 ∷ 10000000 ∷ 100000000 ∷ 1000000000 ∷ 10000000000 ∷ 100000000000 ∷ 1000000000000 ∷ 10000000000000 ∷ 100000000000000
    ∷ 1000000000000000 ∷ 10000000000000000 ∷ 100000000000000000 ∷ 1000000000000000000 ∷ []

power_is : (p : ℕ) → p ≤ 18 → get_or powers p 0 ≡ 10 ^ p
power_is p h = eqb→eq (get_or powers p 0) (10 ^ p) (at (λ i x. eqb x (10 ^ i)) powers tt p (omega arith))

abs_le : (z : ℤ) → mag z < 2 ^ 63 → unsigned_abs z ≤ 2 ^ 63
abs_le (pos n) h = omega arith
abs_le (negsuc n) h = omega arith

product : (z x y : ℤ) (n : ℕ) → SFits w64 z → n < 2 ^ 64 → x ≡ to_z w64 (of_z w64 z) → y ≡ pos n → to_z w128 (of_z w128 (to_z w128 (of_z w128 x) *ℤ to_z w128 (of_z w128 y))) ≡ z *ℤ pos n
product z x y n h k d e =
    let f : SFits w128 z = record { sfits = omega arith } in
    let g : SFits w128 (pos n) = record { sfits = omega arith } in
    let p : SFits w128 (z *ℤ pos n) = fits_signed_mul w128 z (pos n) (2 ^ 63) (2 ^ 64 - 1) (abs_le z h.sfits) (omega arith) (omega arith) in
    rw (d ∙ to_z-of_z w64 z h, e) (simp to_z-of_z)

pub returns : goal.returns
returns c =
    let k = c.args.k in
    let z : SFits w64 c.args.self.coefficient = search rules in
    let y : c.from-3.result ≡ pos (10 ^ k) = c.from-3.ensures ∙ ap pos (ap (λ p. get_or powers p 0) c.from-2.ensures ∙ power_is k c.requires) in
    let n : 10 ^ k ≤ 10 ^ 18 = pow-le-pow_right (omega arith) c.requires in
    product c.args.self.coefficient _ _ (10 ^ k) z (omega arith) c.from.ensures y
