-- What a table's loading gives, and what follows it in a call over the table.
-- Index: `handed_on` (the exit by `?`); `tested`, `as_tests`, `by_rows` (the outcome by three tests); `checked_refused`, `loads_from`, `loads_is_done` (whatever is asked);
-- `over_refused`, `over_loaded` (a call over the table).
-- Assumes nothing.
use Prim.Native.Nat.{ℕ}
use mathlib.Core.Path.{◌≡◌, sym, ap, ◌∙◌}
use mathlib.Core.Bool.{Bool, true, false}
use mathlib.Core.List.{List}
use native.Mathlib.Omega.{arith}
use Rattle.std.specs.declared.result.Result.{Result}
use Rattle.std.specs.Result.{IsErrAnd}
use Rattle.std.proofs.lemmas.Result.{err_from_is_err_and}
use Rattle.form.specs.declared.refusals.Refusal.{Refusal}
use Rattle.form.specs.Answers.{number, outcome}
use Rattle.form.specs.Outcome.{Outcome, done, refused, ◌>>=◌, ◌>>◌}
use Rattle.order.specs.Order.{Order, order_of}
use Rattle.order.specs.Table.{is_table, is_ordered, in_table, has_joins, packed, Loads, table_order}
use Rattle.order.proofs.Packed.{packed_order}
use Rattle.tables.specs.Rows.{rows_of, ordered_rows, joined_rows}
use Rattle.tables.specs.Calls.{where_loads, load_table, reading_of}
use Rattle.tables.proofs.Rows.{ordered_rows_lem, joined_rows_lem}

-- the exit by `?`: the refusal is handed on
pub handed_on : {X : Type 0} (r : Result X Refusal) (e : Refusal) (o : Outcome X) → IsErrAnd r (λ y. y ≡ e) → refused (number e) ≡ o → outcome r ≡ o
handed_on r e o h p = let q = err_from_is_err_and r h in rw (q.1, q.2) p

-- the outcome by three tests
abbrev pub tested : {X : Type 0} → Bool → Bool → Bool → X → Outcome X
tested false b c x = refused 26
tested true false c x = refused 27
tested true true false x = refused 28
tested true true true x = done x

module _ {X : Type 0} (table : List ℕ) (x : X) where
  pub as_tests : where_loads table x ≡ tested (is_table table) (is_ordered (in_table table)) (has_joins (in_table table)) x
  unfolding where_loads ◌>>◌
  as_tests = grind arith

  -- the tests of the code
  pub by_rows : where_loads table x ≡ tested (is_table table) (ordered_rows (rows_of table)) (joined_rows (rows_of table)) x
  by_rows = let q = as_tests in grind (arith, ordered_rows_lem table, joined_rows_lem table)

-- ---- the reading's outcome tells that of every call over the table
-- refused with the same number, whatever is asked
pub checked_refused : {X Y : Type 0} (table : List ℕ) (y : Y) (x : X) (n : ℕ) → refused n ≡ where_loads table y → refused n ≡ where_loads table x
checked_refused table y x n e = let p = as_tests table y in let q = as_tests table x in grind arith

-- loaded, and what is answered is what was handed in
pub loads_from : {X : Type 0} (table : List ℕ) (x y : X) → done y ≡ where_loads table x → Loads table × (y ≡ x)
loads_from table x y e = let q = as_tests table x in (record { is_table_lem = grind arith; is_ordered_lem = grind arith; has_joins_lem = grind arith }, grind arith)

pub loads_is_done : {X : Type 0} (table : List ℕ) (x : X) → Loads table → where_loads table x ≡ done x
loads_is_done table x l = let q = as_tests table x in grind (arith, l.is_table_lem, l.is_ordered_lem, l.has_joins_lem)

-- a call over the table: refused before all else, or what it answers under the reading's order
module _ {Y : Type 0} (table : List ℕ) (more : Order → Outcome Y) where
  pub over_refused : (n : ℕ) → refused n ≡ reading_of table → refused n ≡ (◌>>=◌ (load_table table) more)
  unfolding ◌>>=◌
  over_refused n e = ap (λ o. ◌>>=◌ o more) (checked_refused table (packed table) (table_order table) n e)

  pub over_loaded : (m : ℕ) → done m ≡ reading_of table → more (order_of m) ≡ (◌>>=◌ (load_table table) more)
  unfolding ◌>>=◌
  over_loaded m e =
      let l = loads_from table (packed table) m e in
      ap more (ap order_of l.1 ∙ packed_order table l.0) ∙ ap (λ o. ◌>>=◌ o more) (sym (loads_is_done table (table_order table) l.0))
