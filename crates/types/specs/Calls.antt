-- The definitions of the calls: refusals in document 01's order, then the answer.
-- Assumes nothing.
use Rattle.std.specs.Prelude.{Bool, false, List, ℕ}
use Rattle.form.specs.Trees.{null, Ty, leaf, built, simple}
use Rattle.form.specs.Outcome.{Outcome, done, refused, ◌>>=◌}
use Rattle.form.specs.Read.{read_type}
use Rattle.order.specs.Order.{Order, fixed, strict_order, same}
use Rattle.order.specs.Types.{le}
use Rattle.order.specs.Document.{is_instance_of}
use Rattle.tables.specs.Calls.{load_table}

-- conformance of two types under an order: self, then the target
unfoldable pub is_conformant_by : Order → List ℕ → List ℕ → Outcome Bool
is_conformant_by O a b = do
  s ← read_type a
  t ← read_type b
  done (le O s t)

-- FeelType::is_conformant: document 01's relation
abbrev pub is_conformant : List ℕ → List ℕ → Outcome Bool
is_conformant a b = is_conformant_by fixed a b

-- K8: as DMN has it
abbrev pub strict_is_conformant : List ℕ → List ℕ → Outcome Bool
strict_is_conformant a b = is_conformant_by strict_order a b

-- K9: over a members' table, which is refused before all else
abbrev pub table_is_conformant : List ℕ → List ℕ → List ℕ → Outcome Bool
table_is_conformant table a b = do
  order ← load_table table
  is_conformant_by order a b

-- both are read, and the answer is no: what is left to say where they do not conform
unfoldable pub read_then_no : List ℕ → List ℕ → Outcome Bool
read_then_no a b = do
  s ← read_type a
  t ← read_type b
  done false

-- it answers yes
abbrev pub is_yes : Outcome Bool → Bool
is_yes (done q) = q
is_yes (refused n) = false

-- FeelType::instance_of: self, then the other
unfoldable pub instance_of : List ℕ → List ℕ → Outcome Bool
instance_of a b = do
  s ← read_type a
  t ← read_type b
  done (is_instance_of s t)

-- FeelType::is_simple_built_in_type
unfoldable pub is_simple_built_in_type : List ℕ → Outcome Bool
is_simple_built_in_type t = do
  s ← read_type t
  done (simple s)

abbrev pub null_type : Ty → Bool
null_type (leaf s) = same s null
null_type (built x) = false

-- FeelType::is_null
unfoldable pub is_null : List ℕ → Outcome Bool
is_null t = do
  s ← read_type t
  done (null_type s)
