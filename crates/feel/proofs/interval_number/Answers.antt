-- `feel::interval_number` meets its contract: a byte over 3 is refused; otherwise yes or no becomes its number.
-- Assumes nothing.
use mathlib.Core.Path.{refl, ap, ◌∙◌}
use Rattle.ranges.proofs.Questions.{interval_refused, interval_done}
use Rattle.feel.specs.Numbers.{judged}
use Rattle.feel.proofs.interval_number.Goals as goal

pub returns-then-i-gt3 : goal.returns-then-i-gt3
returns-then-i-gt3 c = c.refused_number.ensures ∙ ap judged (interval_refused (λ x. c.args.yes) c.if-i-gt3.true)

pub returns : goal.returns
returns c = c.yes_number.ensures ∙ ap judged (interval_done (λ x. c.args.yes) c.if-i-gt3.false refl)
