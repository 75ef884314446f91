-- `feel::feel_table_type_is_conformant` meets its contract: the call is `types::table_is_conformant`, and its verdict becomes its number.
-- Assumes nothing.
use mathlib.Core.Path.{ap, ◌∙◌}
use Rattle.feel.specs.Numbers.{judged}
use Rattle.feel.proofs.feel_table_type_is_conformant.Goals as goal

pub returns : goal.returns
returns c = c.verdict_number.ensures ∙ ap judged c.table_is_conformant.ensures
