-- `feel::feel_value_is_null` meets its contract: the call is `ranges::is_null`, and its verdict becomes its number.
-- Assumes nothing.
use mathlib.Core.Path.{ap, ◌∙◌}
use Rattle.feel.specs.Numbers.{judged}
use Rattle.feel.proofs.feel_value_is_null.Goals as goal

pub returns : goal.returns
returns c = c.verdict_number.ensures ∙ ap judged c.is_null.ensures
