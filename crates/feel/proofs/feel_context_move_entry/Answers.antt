-- `feel::feel_context_move_entry` meets its contract: the call is `context::move_entry`, which writes the output; the length or the refusal becomes its number.
-- Assumes nothing.
use mathlib.Core.Path.{ap, ◌∙◌}
use Rattle.feel.specs.Numbers.{numbered}
use Rattle.feel.proofs.feel_context_move_entry.Goals as goal

pub returns : goal.returns
returns c =
    record {
      answer = c.plain_number.ensures ∙ ap numbered c.move_entry.ensures.answer;
      output = c.move_entry.ensures.output;
    }
