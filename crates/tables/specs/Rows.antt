-- A table by its rows, each a ten-bit number: what the code tests. The laws in proofs/Rows.antt say that it is what document 02 asks.
-- Assumes nothing.
use Rattle.std.specs.Prelude.{ℕ, ◌+◌, ◌*◌, Bool, not, ◌&&◌, ◌||◌, List, map, get_or, eqb}
use Rattle.std.specs.List.{list_all, list_any, range_with_len}
use Rattle.std.specs.Int.Bits.{bit_and}
use Rattle.order.specs.Order.{bit}
use Rattle.order.specs.Table.{imp, pack}

-- row i: bit j says whether i conforms to j
abbrev pub row_of : List ℕ → ℕ → ℕ
row_of table i = pack (λ j. get_or table (10 * i + j) 0) 0 10

abbrev pub rows_of : List ℕ → List ℕ
rows_of table = map (row_of table) (range_with_len 0 10)

-- of the k numbers from i on, all pass; one passes
unfoldable pub all_from : (ℕ → Bool) → ℕ → ℕ → Bool
all_from f i k = list_all f (range_with_len i k)

unfoldable pub any_from : (ℕ → Bool) → ℕ → ℕ → Bool
any_from f i k = list_any f (range_with_len i k)

module _ (rows : List ℕ) where
  abbrev pub row : ℕ → ℕ
  row i = get_or rows i 0

  -- where i conforms to j: j does not conform to i, unless it is i, and i conforms to all that j conforms to
  abbrev pub carries_at : ℕ → ℕ → Bool
  carries_at i j = imp (bit (row i) j) ((eqb i j || not (bit (row j) i)) && eqb (bit_and (row i) (row j)) (row j))

  -- i conforms to itself, Null to it and it to Any
  abbrev pub ordered_at : ℕ → Bool
  ordered_at i = bit (row i) i && (bit (row 9) i && (bit (row i) 0 && all_from (carries_at i) 0 10))

  abbrev pub ordered_rows : Bool
  ordered_rows = all_from ordered_at 0 10

  -- one row is what the two have in common
  abbrev pub is_row : ℕ → Bool
  is_row common = any_from (λ u. eqb (row u) common) 0 10

  -- i has a join with each before it
  abbrev pub joined_at : ℕ → Bool
  joined_at i = all_from (λ j. is_row (bit_and (row i) (row j))) 0 i

  abbrev pub joined_rows : Bool
  joined_rows = all_from joined_at 0 10
