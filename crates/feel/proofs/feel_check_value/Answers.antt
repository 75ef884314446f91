-- `feel::feel_check_value` meets its contract: the call is `form::check_value`, and its answer becomes its number: the level, or the refusal.
-- Assumes nothing.
use mathlib.Core.Path.{ap, ◌∙◌}
use Rattle.feel.specs.Numbers.{numbered}
use Rattle.feel.proofs.feel_check_value.Goals as goal

pub returns : goal.returns
returns c = c.plain_number.ensures ∙ ap numbered c.check_value.ensures.result_value
