-- `feel::feel_table_value_least_type` meets its contract: the call is `infer::table_least_type`, which writes the output; the length or the refusal becomes its number.
-- Assumes nothing.
use mathlib.Core.Path.{ap, ◌∙◌}
use Rattle.feel.specs.Numbers.{numbered}
use Rattle.feel.proofs.feel_table_value_least_type.Goals as goal

pub returns : goal.returns
returns c =
    record { answer = c.plain_number.ensures ∙ ap numbered c.table_least_type.ensures.answer; output = c.table_least_type.ensures.output }
