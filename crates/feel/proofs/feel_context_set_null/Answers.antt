-- `feel::feel_context_set_null` meets its contract: the call is `context::set_null`, which writes the output; the length or the refusal becomes its number.
-- Assumes nothing.
use mathlib.Core.Path.{ap, ◌∙◌}
use Rattle.feel.specs.Numbers.{numbered}
use Rattle.feel.proofs.feel_context_set_null.Goals as goal

pub returns : goal.returns
returns c =
    record {
      answer = c.plain_number.ensures ∙ ap numbered c.set_null.ensures.answer;
      output = c.set_null.ensures.output;
    }
