-- The definitions of the calls: refusals in document 01's order, then the answer.
-- Assumes nothing.
use Rattle.std.specs.Prelude.{ℕ, List, length, leb}
use Rattle.std.specs.Prelude.{Option as Answer, None, Some}
use Rattle.std.proofs.Math.Option.{Option, none, some}
use Rattle.form.specs.Limits.{most_bytes}
use Rattle.form.specs.Outcome.{Outcome, ◌>>=◌, ◌>>◌, check, or_refuse, fits}
use Rattle.names.specs.BuiltInNames.{command, from_str}
use Rattle.names.specs.Names.{trim, name_new}
use Rattle.names.specs.Parts.{read_parts}
use Rattle.form.specs.Options.{map}

-- Name::new
unfoldable pub name_new_call : List ℕ → ℕ → Outcome (List ℕ)
name_new_call parts room = do
  ps ← or_refuse 19 (read_parts parts)
  fits room (name_new ps)

-- Name::from with an output: at most 16,384 bytes, as the parts of a name
unfoldable pub trim_call : List ℕ → ℕ → Outcome (List ℕ)
trim_call s room = do
  check 19 (leb (length s) most_bytes)
  fits room (trim s)

-- FeelType::from_str: the command of the type; none is unknown
abbrev pub from_str_call : List ℕ → Option ℕ
from_str_call s = map command (from_str s)

-- what that call answers
abbrev pub known : Answer ℕ → Option ℕ
known (Some c) = some c
known None = none
