-- What stands at the front of the bytes of a value, for the walks over values: the reader's tree without its size.
-- Assumes nothing.
use Rattle.std.specs.Prelude.{ℕ, ◌+◌, List}
use Rattle.std.proofs.Math.Option.{Option, none, some}
use Rattle.form.specs.Trees.{Ty, Val, Vals, Entries, Params}
use Rattle.form.specs.Read.{and_then, read_t, read_v, read_vals, read_entries, read_params}
use Rattle.order.specs.Size.{size, size_val, size_params}
use Rattle.types.specs.At.{seen}

-- the value at the front, with so many levels left
unfoldable pub value_at : ℕ → List ℕ → Option Val
value_at l s = seen (read_v l s)

-- n values, one behind the other
unfoldable pub items_at : ℕ → ℕ → List ℕ → Option Vals
items_at l n s = seen (read_vals (read_v l) n s)

-- n entries of a context, their names ascending and at least `least`
unfoldable pub entries_at : ℕ → ℕ → ℕ → List ℕ → Option Entries
entries_at l n least s = seen (read_entries (read_v l) n least s)

-- the result type and the parameters of a function definition
pub data Definition : Type 0 where
  definition : Ty → Params → Definition

abbrev pub size_definition : Definition → ℕ
size_definition (definition r ps) = size r + size_params ps

-- the result type, then n names and types in any order
unfoldable pub definition_at : ℕ → ℕ → List ℕ → Option Definition
definition_at l n s = seen (and_then definition 0 s (read_params (read_t l) n 0) (read_t l s))

-- the size, 0 where nothing was read
unfoldable pub size_at_v : Option Val → ℕ
size_at_v (some v) = size_val v
size_at_v none = 0
