-- `feel::feel_value_type_of` meets its contract: the call is `infer::type_of`, which writes the output; the length or the refusal becomes its number.
-- Assumes nothing.
use mathlib.Core.Path.{ap, ◌∙◌}
use Rattle.feel.specs.Numbers.{numbered}
use Rattle.feel.proofs.feel_value_type_of.Goals as goal

pub returns : goal.returns
returns c =
    record { answer = c.plain_number.ensures ∙ ap numbered c.type_of.ensures.answer; output = c.type_of.ensures.output }
