-- `feel::feel_type_instance_of` meets its contract: the call is `types::instance_of`, and its verdict becomes its number.
-- Assumes nothing.
use mathlib.Core.Path.{ap, ◌∙◌}
use Rattle.feel.specs.Numbers.{judged}
use Rattle.feel.proofs.feel_type_instance_of.Goals as goal

pub returns : goal.returns
returns c = c.verdict_number.ensures ∙ ap judged c.instance_of.ensures
