-- `feel::feel_type_get_value_checked` meets its contract: the call is `retrieval::get_value_checked`, which writes the output; the length or the refusal becomes its number.
-- Assumes nothing.
use mathlib.Core.Path.{ap, ◌∙◌}
use Rattle.feel.specs.Numbers.{numbered}
use Rattle.feel.proofs.feel_type_get_value_checked.Goals as goal

pub returns : goal.returns
returns c =
    let x1 = c.get_value_checked.ensures in
    record { answer = c.plain_number.ensures ∙ ap numbered x1.answer; output = x1.output }
