-- `feel::feel_type_common_subtype` meets its contract: the call is `bounds::common_subtype`, which writes the output; the length or the refusal becomes its number.
-- Assumes nothing.
use mathlib.Core.Path.{ap, ◌∙◌}
use Rattle.feel.specs.Numbers.{numbered}
use Rattle.feel.proofs.feel_type_common_subtype.Goals as goal

pub returns : goal.returns
returns c =
    record { answer = c.plain_number.ensures ∙ ap numbered c.common_subtype.ensures.answer; output = c.common_subtype.ensures.output }
