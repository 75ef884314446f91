-- `feel::feel_type_get_conformant_value` meets its contract: the call is `retrieval::get_conformant_value`, which writes the output; the length or the refusal becomes its number.
-- Assumes nothing.
use mathlib.Core.Path.{ap, ◌∙◌}
use Rattle.feel.specs.Numbers.{numbered}
use Rattle.feel.proofs.feel_type_get_conformant_value.Goals as goal

pub returns : goal.returns
returns c =
    let x1 = c.get_conformant_value.ensures in
    record { answer = c.plain_number.ensures ∙ ap numbered x1.answer; output = x1.output }
