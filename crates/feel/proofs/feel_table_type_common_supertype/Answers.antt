-- `feel::feel_table_type_common_supertype` meets its contract: the call is `bounds::table_common_supertype`, which writes the output; the length or the refusal becomes its number.
-- Assumes nothing.
use mathlib.Core.Path.{ap, ◌∙◌}
use Rattle.feel.specs.Numbers.{numbered}
use Rattle.feel.proofs.feel_table_type_common_supertype.Goals as goal

pub returns : goal.returns
returns c =
    record { answer = c.plain_number.ensures ∙ ap numbered c.table_common_supertype.ensures.answer; output = c.table_common_supertype.ensures.output }
