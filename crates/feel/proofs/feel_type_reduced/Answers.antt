-- `feel::feel_type_reduced` meets its contract: the call is `bounds::reduced`, which writes the output; the length or the refusal becomes its number.
-- Assumes nothing.
use mathlib.Core.Path.{ap, ◌∙◌}
use Rattle.feel.specs.Numbers.{numbered}
use Rattle.feel.proofs.feel_type_reduced.Goals as goal

pub returns : goal.returns
returns c =
    record {
      answer = c.plain_number.ensures ∙ ap numbered c.reduced.ensures.answer;
      output = c.reduced.ensures.output;
    }
