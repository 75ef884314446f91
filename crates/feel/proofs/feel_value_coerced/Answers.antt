-- `feel::feel_value_coerced` meets its contract: the call is `coercion::coerced`, which writes the output; the length or the refusal becomes its number.
-- Assumes nothing.
use mathlib.Core.Path.{ap, ◌∙◌}
use Rattle.feel.specs.Numbers.{numbered}
use Rattle.feel.proofs.feel_value_coerced.Goals as goal

pub returns : goal.returns
returns c =
    record {
      answer = c.plain_number.ensures ∙ ap numbered c.coerced.ensures.answer;
      output = c.coerced.ensures.output;
    }
