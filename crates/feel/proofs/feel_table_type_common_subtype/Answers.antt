-- `feel::feel_table_type_common_subtype` meets its contract: the call is `bounds::table_common_subtype`, which writes the output; the length or the refusal becomes its number.
-- Assumes nothing.
use mathlib.Core.Path.{ap, ◌∙◌}
use Rattle.feel.specs.Numbers.{numbered}
use Rattle.feel.proofs.feel_table_type_common_subtype.Goals as goal

pub returns : goal.returns
returns c =
    record { answer = c.plain_number.ensures ∙ ap numbered c.table_common_subtype.ensures.answer; output = c.table_common_subtype.ensures.output }
