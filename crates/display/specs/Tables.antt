-- The table of texts: a 16-bit count, then each text behind its length byte, strictly ascending.
-- Assumes nothing.
use Rattle.std.specs.Prelude.{ℕ, zero, suc, ◌+◌, ◌*◌, Bool, true, false, cond, not, ◌&&◌, List, [], ◌∷◌, length, leb, ltb, eqb}
use Rattle.std.specs.List.{list_all}
use Rattle.std.proofs.Math.Option.{Option, none, some}
use Rattle.form.specs.Limits.{most_bytes}
use Rattle.names.specs.Reader.{first, last, Rule, provided, read_texts}

-- ---- the rules of a text
-- bytes 20 to 7E
abbrev pub printable : List ℕ → Bool
printable s = list_all (λ b. leb 0x20 b && leb b 0x7E) s

-- a text of a table: bytes 20 to 7E, neither first nor last 20
abbrev pub tidy : List ℕ → Bool
tidy s = printable s && (not (eqb (first s) 0x20) && not (eqb (last s) 0x20))

-- s is below t: by the first byte that differs; a proper beginning is below
unfoldable pub less_text : List ℕ → List ℕ → Bool
less_text s [] = false
less_text [] (b ∷ t) = true
less_text (a ∷ s) (b ∷ t) = cond (eqb a b) (less_text s t) (ltb a b)

-- ---- the reader
-- strictly ascending
abbrev pub above : Option (List ℕ) → List ℕ → Bool
above none t = true
above (some s) t = less_text s t

-- the one before text i, which the first does not have
abbrev pub behind : ℕ → List ℕ → Option (List ℕ)
behind zero before = none
behind (suc i) before = some before

abbrev pub in_table : Rule
in_table before t = tidy t && above before t

-- a 16-bit count, then the texts
abbrev pub counted_texts : List ℕ → Option (List (List ℕ))
counted_texts [] = none
counted_texts (a ∷ []) = none
counted_texts (a ∷ b ∷ s) = read_texts in_table none (a + b * 256) s

-- at most 16,384 bytes
unfoldable pub read_table : List ℕ → Option (List (List ℕ))
read_table s = provided (leb (length s) most_bytes) (counted_texts s)
