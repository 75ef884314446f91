-- The front of a context, one piece behind the other.
-- Index: `begun_is`, `length_begun` (`write_front`); `opened_is`, `length_opened` (`write_to_name`); `closed_is` (`write_without`).
-- Assumes nothing.
use Prim.Native.Nat.{ℕ, ◌+◌, ◌-◌, ◌/◌, ◌%◌, ◌<◌, ◌≤◌}
use native.Mathlib.Omega.{arith}
use mathlib.Core.Path.{◌≡◌, refl, sym, ap, ◌∙◌}
use mathlib.Core.List.{List, [], ◌∷◌, ◌++◌}
use lib.ListN.{length, take, drop, length-append, length-drop}
use lib.Seq.{length-take-le}
use Rattle.form.specs.Limits.{name_width}
use Rattle.form.specs.Form.{bytes}
use Rattle.form.proofs.Numbers.{length_bytes}
use Rattle.form.proofs.Runs.{rest}
use Rattle.output.proofs.FillLaws.{put_then, two_bytes}
use Rattle.updates.specs.Writing.{begun, opened, closed}
use Rattle.output.specs.Output.{fill, puts}

-- ---- the front of a context
pub begun_is : (c old mid new : List ℕ) (at count p q : ℕ) → count < 65536 → p ≡ count % 256 → q ≡ count / 256 → mid ≡ fill (0x0B ∷ p ∷ q ∷ []) old → new ≡ puts 3 (take (at - 3) (drop 3 c)) mid
    → new ≡ fill (begun count c at) old
unfolding begun
begun_is c old mid new at count p q h ep eq em en =
    put_then (0x0B ∷ p ∷ q ∷ []) (take (at - 3) (drop 3 c)) old mid new 3 em refl en
    ∙ ap (λ (z : List ℕ). fill ((0x0B ∷ z) ++ take (at - 3) (drop 3 c)) old) (sym (two_bytes count p q h ep eq))

pub length_begun : (count : ℕ) (c : List ℕ) (at : ℕ) → 3 ≤ at → at ≤ length c → length (begun count c at) ≡ at
unfolding begun bytes
length_begun count c at l h = let z : length (take (at - 3) (drop 3 c)) ≡ at - 3 = length-take-le (at - 3) (drop 3 c) (simp length-drop (omega arith)) in omega (arith, z)

pub opened_is : (c old mid new : List ℕ) (at count name : ℕ) → 3 ≤ at → at ≤ length c → mid ≡ fill (begun count c at) old
    → new ≡ puts at (bytes name_width name) mid → new ≡ fill (opened count c at name) old
unfolding opened
opened_is c old mid new at count name l h em en = put_then (begun count c at) (bytes name_width name) old mid new at em (length_begun count c at l h) en

pub length_opened : (count : ℕ) (c : List ℕ) (at name : ℕ) → 3 ≤ at → at ≤ length c → length (opened count c at name) ≡ at + name_width
unfolding opened
length_opened count c at name l h = omega (arith, length-append (begun count c at) (bytes name_width name), length_begun count c at l h, length_bytes name_width name)

pub closed_is : (c old mid new : List ℕ) (at to count r : ℕ) → 3 ≤ at → at ≤ length c → mid ≡ fill (begun count c at) old → r ≡ at + length (take (length c - to) (drop to c))
    → new ≡ puts at (take (length c - to) (drop to c)) mid → (r ≡ length (closed count c at to)) × (new ≡ fill (closed count c at to) old)
unfolding closed
closed_is c old mid new at to count r l h em er en = (
  omega (arith, er, ap length (rest c to), length-append (begun count c at) (drop to c), length_begun count c at l h),
  put_then (begun count c at) (take (length c - to) (drop to c)) old mid new at em (length_begun count c at l h) en ∙ ap (λ (z : List ℕ). fill (begun count c at ++ z) old) (rest c to),
)
