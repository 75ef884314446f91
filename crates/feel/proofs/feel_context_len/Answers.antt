-- `feel::feel_context_len` meets its contract: the call is `paths::len`, and the count or the refusal becomes its number.
-- Assumes nothing.
use mathlib.Core.Path.{ap, ◌∙◌}
use Rattle.feel.specs.Numbers.{numbered}
use Rattle.feel.proofs.feel_context_len.Goals as goal

pub returns : goal.returns
returns c = c.plain_number.ensures ∙ ap numbered c.len.ensures
