-- An end of a range that was read, in terms of its bytes.
-- Index: `end_point` (its point, by its command); `end_there` (what stands behind the command is there).
-- Assumes nothing.
use Prim.Native.Nat.{ℕ, ◌<◌}
use mathlib.Core.Path.{◌≡◌, sym, ◌∙◌}
use mathlib.Core.Bool.{false≢true}
use mathlib.Core.List.{List}
use native.Mathlib.Omega.{arith}
use lib.ListN.{length, get_or}
use Rattle.std.proofs.lemmas.Bool.Decides.{nat_tests}
use Rattle.form.specs.Trees.{Val}
use Rattle.form.proofs.CommandKinds.{no_leaf_high, leaf_decimal}
use Rattle.form.proofs.ExactValues.{code_small_temporal}
use Rattle.form.proofs.Nodes.{value_read}
use Rattle.form.specs.Read.{got, read_v}
use Rattle.ranges.specs.Ranges.{point}
use Rattle.ranges.specs.Calls.{EndAt, point_at}
use Rattle.ranges.proofs.Fronts.{Front, f_null, f_boolean, f_number, f_decimal, f_string, f_temporal, f_other, front_read}

point_told : (s : List ℕ) (v : Val) (n : ℕ) → Front s v n → point v ≡ point_at s
unfolding point_at
point_told s v n (f_null c k) = grind (arith, nat_tests)
point_told s v n (f_boolean c k y) = grind (arith, nat_tests)
point_told s v n (f_number c k) = grind (arith, nat_tests)
point_told s v n (f_decimal c k y) = grind (arith, nat_tests)
point_told s v n (f_string c k) = grind (arith, nat_tests)
point_told s v n (f_temporal t c k) = let g = code_small_temporal t in grind (arith, nat_tests)
point_told s v n (f_other w k o) = let h = no_leaf_high (get_or s 0 0) o.no_leaf in let e = o.off in grind (arith, nat_tests)

there_told : (s : List ℕ) (v : Val) (n : ℕ) → Front s v n → 0 < length s → EndAt s
there_told s v n (f_null c k) h = record { some = h; number = omega arith; text = omega arith; temporal = omega arith; decimal = λ e. absurd (omega arith) }
there_told s v n (f_boolean c k y) h = record { some = h; number = omega arith; text = omega arith; temporal = omega arith; decimal = λ e. absurd (omega arith) }
there_told s v n (f_number c k) h = record { some = h; number = omega arith; text = omega arith; temporal = omega arith; decimal = λ e. absurd (omega arith) }
there_told s v n (f_decimal c k y) h = record { some = h; number = omega arith; text = omega arith; temporal = omega arith; decimal = λ e. (omega arith, y) }
there_told s v n (f_string c k) h = record { some = h; number = omega arith; text = omega arith; temporal = omega arith; decimal = λ e. absurd (omega arith) }
there_told s v n (f_temporal t c k) h =
    let g = code_small_temporal t in
    record { some = h; number = omega arith; text = omega arith; temporal = omega arith; decimal = λ e. absurd (omega arith) }
there_told s v n (f_other w k o) h =
    let l = no_leaf_high (get_or s 0 0) o.no_leaf in
    let d : (get_or s 0 0 ≡ 16 → ⊥) = λ e. false≢true (sym o.no_leaf ∙ leaf_decimal (get_or s 0 0) e) in
    record { some = h; number = omega arith; text = omega arith; temporal = omega arith; decimal = λ e. absurd (d e) }

pub end_point : (l : ℕ) (s : List ℕ) (v : Val) (n : ℕ) → read_v l s ≡ got v n → point v ≡ point_at s
end_point l s v n e = point_told s v n (front_read l s v n e)

pub end_there : (l : ℕ) (s : List ℕ) (v : Val) (n : ℕ) → read_v l s ≡ got v n → EndAt s
end_there l s v n e = there_told s v n (front_read l s v n e) (value_read l s v n e).some_byte
