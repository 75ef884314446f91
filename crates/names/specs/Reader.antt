-- The reader of texts that stand one behind the other, over a rule for a text behind the one before it: parts of a name here, a table of texts in `display`.
-- Assumes nothing.
use Rattle.std.specs.Prelude.{ℕ, zero, suc, ◌-◌, Bool, true, false, cond, ◌&&◌, List, [], ◌∷◌, length, take, drop, get_or, leb}
use Rattle.std.proofs.Math.Option.{Option, none, some}
use Rattle.form.specs.Options.{map}

-- the first byte, and the last; 0 where there is none
abbrev pub first : List ℕ → ℕ
first s = get_or s 0 0

abbrev pub last : List ℕ → ℕ
last s = get_or s (length s - 1) 0

-- what a text must be behind the one before it, which the first does not have
abbrev pub Rule : Type 0
Rule = Option (List ℕ) → List ℕ → Bool

-- no bytes are left over
abbrev pub at_end : List ℕ → Option (List (List ℕ))
at_end [] = some []
at_end (b ∷ s) = none

abbrev pub provided : {X : Type 0} → Bool → Option X → Option X
provided test x = cond test x none

-- the text at the front behind its length byte, and what stands behind it
abbrev pub split_text : List ℕ → Option (List ℕ × List ℕ)
split_text [] = none
split_text (n ∷ s) = provided (leb n (length s)) (some (take n s, drop n s))

-- so many texts, each a length byte and as many bytes, and nothing behind them
unfoldable pub read_texts : Rule → Option (List ℕ) → ℕ → List ℕ → Option (List (List ℕ))
read_texts rule before zero s = at_end s
read_texts rule before (suc count) [] = none
read_texts rule before (suc count) (n ∷ s) =
    provided (leb n (length s) && rule before (take n s))
    (map (λ ts. take n s ∷ ts) (read_texts rule (some (take n s)) count (drop n s)))

-- whether it was read
abbrev pub is_read : {X : Type 0} → Option X → Bool
is_read none = false
is_read (some x) = true
