-- Common supertype, common subtype and reduced form: the calls.
-- Assumes nothing.
use Rattle.std.specs.Prelude.{List, ℕ, ◌+◌, length, leb}
use Rattle.form.specs.Outcome.{Outcome, ◌>>=◌, ◌>>◌, check, fits}
use Rattle.form.specs.Trees.{Ty}
use Rattle.form.specs.Form.{enc}
use Rattle.form.specs.Read.{read_type}
use Rattle.order.specs.Order.{Order, strict_order}
use Rattle.order.specs.Types.{sup, sub}
use Rattle.order.specs.Document.{reduced_form, supertype, subtype}
use Rattle.tables.specs.Calls.{load_table}

-- of two types; 14: the scratch is shorter than both together
abbrev pub combined : (Ty → Ty → Ty) → List ℕ → List ℕ → ℕ → ℕ → Outcome (List ℕ)
combined answer a b scratch room = do
  s ← read_type a
  t ← read_type b
  check 14 (leb (length a + length b) scratch)
  fits room (enc (answer s t))

abbrev pub common_supertype : List ℕ → List ℕ → ℕ → ℕ → Outcome (List ℕ)
common_supertype a b scratch room = combined supertype a b scratch room

abbrev pub common_subtype : List ℕ → List ℕ → ℕ → ℕ → Outcome (List ℕ)
common_subtype a b scratch room = combined subtype a b scratch room

-- K8: as DMN has it, with the results of functions without parameters
abbrev pub strict_common_supertype : List ℕ → List ℕ → ℕ → ℕ → Outcome (List ℕ)
strict_common_supertype a b scratch room = combined (sup strict_order) a b scratch room

abbrev pub strict_common_subtype : List ℕ → List ℕ → ℕ → ℕ → Outcome (List ℕ)
strict_common_subtype a b scratch room = combined (sub strict_order) a b scratch room

-- K9: over a members' table, which is refused before all else
abbrev pub table_combined : (Order → Ty → Ty → Ty) → List ℕ → List ℕ → List ℕ → ℕ → ℕ → Outcome (List ℕ)
table_combined of table a b scratch room = do
  order ← load_table table
  combined (of order) a b scratch room

abbrev pub table_common_supertype : List ℕ → List ℕ → List ℕ → ℕ → ℕ → Outcome (List ℕ)
table_common_supertype table a b scratch room = table_combined sup table a b scratch room

abbrev pub table_common_subtype : List ℕ → List ℕ → List ℕ → ℕ → ℕ → Outcome (List ℕ)
table_common_subtype table a b scratch room = table_combined sub table a b scratch room

abbrev pub reduced_call : List ℕ → ℕ → Outcome (List ℕ)
reduced_call t room = do
  s ← read_type t
  fits room (enc (reduced_form s))
