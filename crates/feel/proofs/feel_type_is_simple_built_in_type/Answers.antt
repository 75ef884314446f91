-- `feel::feel_type_is_simple_built_in_type` meets its contract: the call is `types::is_simple_built_in_type`, and its verdict becomes its number.
-- Assumes nothing.
use mathlib.Core.Path.{ap, ◌∙◌}
use Rattle.feel.specs.Numbers.{judged}
use Rattle.feel.proofs.feel_type_is_simple_built_in_type.Goals as goal

pub returns : goal.returns
returns c = c.verdict_number.ensures ∙ ap judged c.is_simple_built_in_type.ensures
