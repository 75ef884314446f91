-- The definitions of the calls: refusals in document 01's order, then the answer.
-- Assumes nothing.
use Rattle.std.specs.Prelude.{Bool, List, ℕ, ◌≡◌}
use Rattle.form.specs.Outcome.{Outcome, done, ◌>>=◌}
use Rattle.form.specs.Read.{read_type, read_value}
use Rattle.order.specs.Order.{Order, fixed, strict_order}
use Rattle.order.specs.Values.{conforms}
use Rattle.tables.specs.Calls.{load_table}
use Rattle.form.specs.Trees.{Ty, Val}
use Rattle.form.specs.Form.{Bytes}

-- conformance of a value to a type under an order: self, then the target
unfoldable pub is_conformant_by : Order → List ℕ → List ℕ → Outcome Bool
is_conformant_by O v t = do
  w ← read_value v
  u ← read_type t
  done (conforms O w u)

-- Value::is_conformant: document 01's relation
abbrev pub is_conformant : List ℕ → List ℕ → Outcome Bool
is_conformant v t = is_conformant_by fixed v t

-- K8: as DMN has it
abbrev pub strict_is_conformant : List ℕ → List ℕ → Outcome Bool
strict_is_conformant v t = is_conformant_by strict_order v t

-- K9: over a members' table, which is refused before all else
abbrev pub table_is_conformant : List ℕ → List ℕ → List ℕ → Outcome Bool
table_is_conformant table v t = do
  order ← load_table table
  is_conformant_by order v t

-- both arguments of a call were accepted
pub record Accepted (t v : List ℕ) : Type 0 where
  pub bytes_t : Bytes t
  pub bytes_v : Bytes v
  pub type : Ty
  pub value : Val
  pub read_t_lem : read_type t ≡ done type
  pub read_v_lem : read_value v ≡ done value
