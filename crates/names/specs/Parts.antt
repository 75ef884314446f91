-- The parts of a name: a count byte, then each part behind its length byte.
-- Assumes nothing.
use Rattle.std.specs.Prelude.{ℕ, Bool, true, ◌&&◌, List, [], ◌∷◌, length, leb}
use Rattle.std.proofs.Math.Option.{Option, none}
use Rattle.form.specs.Limits.{most_bytes}
use Rattle.names.specs.Reader.{Rule, provided, read_texts}

-- a part: bytes 00 to 7F
unfoldable pub plain : List ℕ → Bool
plain [] = true
plain (b ∷ s) = leb b 0x7F && plain s

abbrev pub in_parts : Rule
in_parts before t = plain t

-- a count byte, then the parts
abbrev pub counted_parts : List ℕ → Option (List (List ℕ))
counted_parts [] = none
counted_parts (a ∷ s) = read_texts in_parts none a s

-- at most 16,384 bytes
unfoldable pub read_parts : List ℕ → Option (List (List ℕ))
read_parts s = provided (leb (length s) most_bytes) (counted_parts s)
