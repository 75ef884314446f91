-- `feel::feel_value_is_invalid_coercion` meets its contract: the call is `ranges::is_invalid_coercion`, and its verdict becomes its number.
-- Assumes nothing.
use mathlib.Core.Path.{ap, ◌∙◌}
use Rattle.feel.specs.Numbers.{judged}
use Rattle.feel.proofs.feel_value_is_invalid_coercion.Goals as goal

pub returns : goal.returns
returns c = c.verdict_number.ensures ∙ ap judged c.is_invalid_coercion.ensures
