-- `feel::feel_names_name_new` meets its contract: the call is `names::name_new`, which writes the output; the length or the refusal becomes its number.
-- Assumes nothing.
use mathlib.Core.Path.{ap, ◌∙◌}
use Rattle.feel.specs.Numbers.{numbered}
use Rattle.feel.proofs.feel_names_name_new.Goals as goal

pub returns : goal.returns
returns c =
    record {
      answer = c.plain_number.ensures ∙ ap numbered c.name_new.ensures.answer;
      output = c.name_new.ensures.output;
    }
