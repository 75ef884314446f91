-- `feel::feel_bif_feel_type` meets its contract: the call is `ranges::bif_feel_type`, which writes the output; the length or the refusal becomes its number.
-- Assumes nothing.
use mathlib.Core.Path.{ap, ◌∙◌}
use Rattle.feel.specs.Numbers.{numbered}
use Rattle.feel.proofs.feel_bif_feel_type.Goals as goal

pub returns : goal.returns
returns c =
    record {
      answer = c.plain_number.ensures ∙ ap numbered c.bif_feel_type.ensures.answer;
      output = c.bif_feel_type.ensures.output;
    }
