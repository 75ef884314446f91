-- The small pieces of a text: the gap in front of an entry, and an entry's name with what stands around it.
-- Assumes nothing.
use Prim.Native.Nat.{ℕ, zero, suc, ◌≤◌}
use mathlib.Core.Path.{◌≡◌, sym}
use mathlib.Core.List.{List, ◌++◌, append_assoc}
use native.Mathlib.Omega.{arith}
use lib.ListN.{length}
use Rattle.display.specs.Texts.{colon}
use Rattle.display.specs.Writing.{gap, label}

pub gap_length : (i : ℕ) → length (gap i) ≤ 2
gap_length zero = omega arith
gap_length (suc i) = omega arith

pub label_is : (i : ℕ) (name : List ℕ) → label i name ≡ (gap i ++ name) ++ colon
label_is i name = sym (append_assoc (gap i) name colon)
