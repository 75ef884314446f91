-- `feel::feel_table_check` meets its contract: the call is `tables::check_table`, and its verdict becomes its number.
-- Assumes nothing.
use mathlib.Core.Path.{ap, ◌∙◌}
use Rattle.feel.specs.Numbers.{judged}
use Rattle.feel.proofs.feel_table_check.Goals as goal

pub returns : goal.returns
returns c = c.verdict_number.ensures ∙ ap judged c.check_table.ensures
