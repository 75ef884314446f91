-- `feel::feel_names_trim` meets its contract: the call is `names::trim_into`, which writes the output; the length or the refusal becomes its number.
-- Assumes nothing.
use mathlib.Core.Path.{ap, ◌∙◌}
use Rattle.feel.specs.Numbers.{numbered}
use Rattle.feel.proofs.feel_names_trim.Goals as goal

pub returns : goal.returns
returns c =
    record {
      answer = c.plain_number.ensures ∙ ap numbered c.trim_into.ensures.answer;
      output = c.trim_into.ensures.output;
    }
