-- `feel::feel_interval_undefined` meets its contract: of the four interval types 1 and 3 are the odd ones, and only those four are asked.
-- Assumes nothing.
use Prim.Native.Nat.{◌%◌}
use mathlib.Core.Path.{sym, ap, ◌∙◌}
use lib.Dec.{eqb}
use Rattle.ranges.specs.Ranges as ranges
use Rattle.ranges.proofs.Questions.{interval_same, odd_is}
use Rattle.feel.specs.Numbers.{judged}
use Rattle.feel.proofs.feel_interval_undefined.Goals as goal

pub returns : goal.returns
returns c =
    let i = c.args.i in
    c.interval_number.ensures ∙ ap judged (interval_same (λ x. eqb (i % 2) 1) ranges.undefined i (λ h. sym (odd_is i h)))
