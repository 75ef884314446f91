-- `feel::feel_value_is_list` meets its contract: the call is `ranges::is_list`, and its verdict becomes its number.
-- Assumes nothing.
use mathlib.Core.Path.{ap, ◌∙◌}
use Rattle.feel.specs.Numbers.{judged}
use Rattle.feel.proofs.feel_value_is_list.Goals as goal

pub returns : goal.returns
returns c = c.verdict_number.ensures ∙ ap judged c.is_list.ensures
