-- `feel::feel_context_contains_entry` meets its contract: the call is `paths::contains_entry`, and its verdict becomes its number.
-- Assumes nothing.
use mathlib.Core.Path.{ap, ◌∙◌}
use Rattle.feel.specs.Numbers.{judged}
use Rattle.feel.proofs.feel_context_contains_entry.Goals as goal

pub returns : goal.returns
returns c = c.verdict_number.ensures ∙ ap judged c.contains_entry.ensures
