-- `feel::feel_context_apply_entries` meets its contract: the call is `context::apply_entries`, which writes the output; the length or the refusal becomes its number.
-- Assumes nothing.
use mathlib.Core.Path.{ap, ◌∙◌}
use Rattle.feel.specs.Numbers.{numbered}
use Rattle.feel.proofs.feel_context_apply_entries.Goals as goal

pub returns : goal.returns
returns c =
    record {
      answer = c.plain_number.ensures ∙ ap numbered c.apply_entries.ensures.answer;
      output = c.apply_entries.ensures.output;
    }
