-- The definitions of the calls: refusals in document 01's order, then the answer.
-- Assumes nothing.
use Rattle.std.specs.Prelude.{List, ℕ}
use Rattle.form.specs.Outcome.{Outcome, ◌>>=◌, or_refuse}
use Rattle.form.specs.Read.{read_type, read_value}
use Rattle.retrieval.specs.Retrieve.{get_value_checked, get_conformant_value}
use Rattle.output.specs.Result.{checked_result}

-- FeelType::get_value_checked: self, then the value; 15: Err
unfoldable pub get_value_checked_call : List ℕ → List ℕ → ℕ → Outcome (List ℕ)
get_value_checked_call t v room = do
  u ← read_type t
  w ← read_value v
  x ← or_refuse 15 (get_value_checked u w)
  checked_result room x

-- FeelType::get_conformant_value: self, then the value
unfoldable pub get_conformant_value_call : List ℕ → List ℕ → ℕ → Outcome (List ℕ)
get_conformant_value_call t v room = do
  u ← read_type t
  w ← read_value v
  checked_result room (get_conformant_value u w)
