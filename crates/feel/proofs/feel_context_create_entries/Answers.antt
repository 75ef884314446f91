-- `feel::feel_context_create_entries` meets its contract: the call is `context::create_entries`, which writes the output; the length or the refusal becomes its number.
-- Assumes nothing.
use mathlib.Core.Path.{ap, ◌∙◌}
use Rattle.feel.specs.Numbers.{numbered}
use Rattle.feel.proofs.feel_context_create_entries.Goals as goal

pub returns : goal.returns
returns c =
    record {
      answer = c.plain_number.ensures ∙ ap numbered c.create_entries.ensures.answer;
      output = c.create_entries.ensures.output;
    }
