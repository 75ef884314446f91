-- `feel::feel_context_is_empty` meets its contract: the call is `paths::is_empty`, and its verdict becomes its number.
-- Assumes nothing.
use mathlib.Core.Path.{ap, ◌∙◌}
use Rattle.feel.specs.Numbers.{judged}
use Rattle.feel.proofs.feel_context_is_empty.Goals as goal

pub returns : goal.returns
returns c = c.verdict_number.ensures ∙ ap judged c.is_empty.ensures
