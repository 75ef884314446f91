-- `feel::feel_names_is_built_in_type_name` meets its contract: the call is `names::is_built_in_type_name`, and yes or no becomes its number.
-- Assumes nothing.
use mathlib.Core.Path.{ap, ◌∙◌}
use mathlib.Core.Bool.{Bool}
use Rattle.form.specs.Outcome.{done}
use Rattle.feel.specs.Numbers.{judged}
use Rattle.feel.proofs.feel_names_is_built_in_type_name.Goals as goal

pub returns : goal.returns
returns c = c.yes_number.ensures ∙ ap (λ (b : Bool). judged (done b)) c.is_built_in_type_name.ensures
