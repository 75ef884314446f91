-- The order inside one argument: no byte before the level, and a name before its entry's child.
-- Idea: the readers' own first tests.
-- Index: `no_byte`, `level_next`, `name_first`; `operand_front`, `length_front` (a number that stands in front).
-- Assumes nothing.
use Prim.Native.Nat.{ℕ, zero, suc, ◌+◌, ◌<◌, ◌^◌}
use native.Mathlib.Omega.{arith}
use mathlib.Core.Path.{◌≡◌, refl, ap, subst, ◌∙◌}
use mathlib.Core.List.{List, [], ◌∷◌, ◌++◌}
use lib.ListN.{length, take, drop, length-append}
use lib.Seq.{drop-append_seam, take-append_seam}
use borrow.Author.Tests.{le-leb, lt-leb}
use Rattle.form.specs.Limits.{name_width, name_end}
use Rattle.form.specs.Faults.{Shape, Names, Level}
use Rattle.form.specs.Form.{bytes}
use Rattle.form.specs.Read.{Got, bad, or_else, operand, named, read_named, read_t, read_v}
use Rattle.form.proofs.Numbers.{length_bytes, num_bytes}

pub no_byte : (l : ℕ) → (read_v l [] ≡ bad Shape) × (read_t l [] ≡ bad Shape)
unfolding read_v read_t
no_byte zero = (refl, refl)
no_byte (suc l) = (refl, refl)

pub level_next : (b : ℕ) (s : List ℕ) → (read_v 0 (b ∷ s) ≡ bad Level) × (read_t 0 (b ∷ s) ≡ bad Level)
unfolding read_v read_t
level_next b s = (refl, refl)

-- the bytes of a number in front
pub length_front : (k n : ℕ) (e : List ℕ) → length (bytes k n ++ e) ≡ k + length e
length_front k n e = length-append (bytes k n) e ∙ ap (λ (i : ℕ). i + length e) (length_bytes k n)

-- an operand that stands in front is read
pub operand_front : {X : Type 0} (k : ℕ) (more : ℕ → List ℕ → Got X) (n : ℕ) (s : List ℕ) → n < 256 ^ k → operand k more (bytes k n ++ s) ≡ more n s
unfolding operand or_else
operand_front k more n s h =
    let l : length (bytes k n) ≡ k = length_bytes k n in
    let a : length (bytes k n ++ s) ≡ k + length s = length_front k n s in
    let t : take k (bytes k n ++ s) ≡ bytes k n = subst (λ (i : ℕ). take i (bytes k n ++ s) ≡ bytes k n) l (take-append_seam (bytes k n) s) in
    let d : drop k (bytes k n ++ s) ≡ s = subst (λ (i : ℕ). drop i (bytes k n ++ s) ≡ s) l (drop-append_seam (bytes k n) s) in
    rw (le-leb k (length (bytes k n ++ s)) (omega arith), t, d, num_bytes k n h)

pub name_first : {X R : Type 0} (nil : R) (cons : ℕ → X → R → R) (next : ℕ → ℕ) (child : List ℕ → Got X) (count least m : ℕ) (s : List ℕ)
    → m < name_end → m < least → read_named nil cons next child (suc count) least (bytes name_width m ++ s) ≡ bad Names
unfolding read_named named or_else
name_first nil cons next child count least m s b h =
    operand_front name_width (named cons (λ j. read_named nil cons next child count (next j)) child least) m s b ∙ rw (lt-leb least m h)
