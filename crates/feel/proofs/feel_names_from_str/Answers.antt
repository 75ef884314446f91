-- `feel::feel_names_from_str` meets its contract: the call is `names::from_str`, and the command, or that there is none, becomes its number.
-- Assumes nothing.
use mathlib.Core.Path.{ap, ◌∙◌}
use Rattle.feel.specs.Numbers.{named}
use Rattle.feel.proofs.feel_names_from_str.Goals as goal

pub returns : goal.returns
returns c = c.known_number.ensures ∙ ap named c.from_str.ensures
