-- The definitions of the calls: refusals in document 01's order, then the answer.
-- Assumes nothing.
use Rattle.std.specs.Prelude.{◌≡◌, Bool, true, List, ℕ, ◌*◌, length, leb}
use Rattle.form.specs.Outcome.{Outcome, done, refused, ◌>>=◌, ◌>>◌, check, fits}
use Rattle.form.specs.Form.{Bytes, enc}
use Rattle.form.specs.Trees.{Val}
use Rattle.form.specs.Read.{read_value}
use Rattle.order.specs.Order.{Order, fixed, strict_order}
use Rattle.order.specs.Values.{is_data_by}
use Rattle.order.specs.Values as values
use Rattle.order.specs.Inferred.{type_of}
use Rattle.tables.specs.Calls.{load_table}
use Rattle.infer.specs.Typing.{type_by}

-- the scratch wanted of a value: four times its length
abbrev pub wanted : List ℕ → ℕ
wanted v = 4 * length v

-- Least type under an order; 13: the value is no data; 14: the scratch is too short
unfoldable pub least_type_by : Order → List ℕ → ℕ → ℕ → Outcome (List ℕ)
least_type_by O v scratch room = do
  w ← read_value v
  check 13 (is_data_by O w)
  check 14 (leb (wanted v) scratch)
  fits room (enc (values.least O w))

-- Least type; 13: the value holds 0C, 0D, 0E or 0F
abbrev pub least_type_call : List ℕ → ℕ → ℕ → Outcome (List ℕ)
least_type_call v scratch room = least_type_by fixed v scratch room

-- K8: as DMN has it; 13: the value holds 0D, 0E or 0F
abbrev pub strict_least_type_call : List ℕ → ℕ → ℕ → Outcome (List ℕ)
strict_least_type_call v scratch room = least_type_by strict_order v scratch room

-- K9: over a members' table, which is refused before all else
abbrev pub table_least_type_call : List ℕ → List ℕ → ℕ → ℕ → Outcome (List ℕ)
table_least_type_call table v scratch room = do
  order ← load_table table
  least_type_by order v scratch room

-- Value::type_of
unfoldable pub type_of_call : List ℕ → ℕ → ℕ → Outcome (List ℕ)
type_of_call v scratch room = do
  w ← read_value v
  check 14 (leb (wanted v) scratch)
  fits room (enc (type_of w))

-- ---- what both do behind the reader
-- the value was accepted, and is data where the least type is asked
unfoldable pub ReadyFor : Order → Bool → Outcome Val → Type 0
ReadyFor O least (done w) = least ≡ true → is_data_by O w ≡ true
ReadyFor O least (refused n) = ⊥

abbrev pub Ready : Order → Bool → List ℕ → Type 0
Ready O least v = Bytes v × ReadyFor O least (read_value v)

unfoldable pub type_call : Order → Bool → List ℕ → ℕ → ℕ → Outcome (List ℕ)
type_call O least v scratch room = do
  w ← read_value v
  check 14 (leb (wanted v) scratch)
  fits room (enc (type_by O least w))
