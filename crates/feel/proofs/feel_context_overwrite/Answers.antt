-- `feel::feel_context_overwrite` meets its contract: the call is `context::overwrite`, which writes the output; the length or the refusal becomes its number.
-- Assumes nothing.
use mathlib.Core.Path.{ap, ◌∙◌}
use Rattle.feel.specs.Numbers.{numbered}
use Rattle.feel.proofs.feel_context_overwrite.Goals as goal

pub returns : goal.returns
returns c =
    record {
      answer = c.plain_number.ensures ∙ ap numbered c.overwrite.ensures.answer;
      output = c.overwrite.ensures.output;
    }
