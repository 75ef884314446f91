-- `ranges::bif_feel_type` meets its contract: a position over 85 is refused; the bytes of each arm are those of the function's type.
-- Assumes nothing.
use Rattle.std.proofs.Common.{arith, rules}
use Rattle.ranges.proofs.Builtins.{bif_refused, of_number, of_others}
use Rattle.ranges.proofs.bif_feel_type.Goals as goal

pub returns-in-0 : goal.returns-in-0
returns-in-0 c = search (rules, of_number)

pub returns-in-0-to-85 : goal.returns-in-0-to-85
returns-in-0-to-85 c = of_others _ _ _ _ (omega arith) (search rules) c.give-in-0-to-85.ensures

pub returns-in_default : goal.returns-in_default
returns-in_default c = search (rules, bif_refused)
