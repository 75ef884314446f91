-- K9: a table is loaded. Exactly a hundred bytes; the refusals in document 02's sequence.
-- Assumes nothing.
use Rattle.std.specs.Prelude.{ℕ, Bool, true, List}
use Rattle.form.specs.Outcome.{Outcome, done, ◌>>◌, check}
use Rattle.order.specs.Order.{Order}
use Rattle.order.specs.Table.{is_table, is_ordered, in_table, has_joins, table_order, packed}

-- 26: length or byte wrong; 27: one of the order conditions fails; 28: two types lack a least common supertype; otherwise x
unfoldable pub where_loads : {X : Type 0} → List ℕ → X → Outcome X
where_loads table x = do
  check 26 (is_table table)
  check 27 (is_ordered (in_table table))
  check 28 (has_joins (in_table table))
  done x

-- the table's order, for the calls over it: `do` blocks that begin with it refuse the table before all else
abbrev pub load_table : List ℕ → Outcome Order
load_table table = where_loads table (table_order table)

-- `check_table`
abbrev pub check_table : List ℕ → Outcome Bool
check_table table = where_loads table true

-- the reading of a table, by which walks and builders have its order
abbrev pub reading_of : List ℕ → Outcome ℕ
reading_of table = where_loads table (packed table)
