-- `feel::feel_names_display` meets its contract: the call is `display::display`, which writes the output; the length or the refusal becomes its number.
-- Assumes nothing.
use mathlib.Core.Path.{ap, ◌∙◌}
use Rattle.feel.specs.Numbers.{numbered}
use Rattle.feel.proofs.feel_names_display.Goals as goal

pub returns : goal.returns
returns c =
    record {
      answer = c.plain_number.ensures ∙ ap numbered c.display.ensures.answer;
      output = c.display.ensures.output;
    }
