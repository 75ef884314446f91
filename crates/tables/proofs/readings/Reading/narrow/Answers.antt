-- `tables::readings::Reading::narrow` meets its contract: what is left of the loop gives what all of it gives (`Narrowing`).
-- Assumes nothing.
use Rattle.std.proofs.Common.{arith}
use Rattle.tables.proofs.Related.{narrowing_next, narrowing_end}
use Rattle.tables.proofs.readings.Reading.narrow.Goals.{then-is_closer, else-is_closer}
use Rattle.tables.proofs.readings.Reading.narrow.Goals as goal

pub loop-u-preserved : goal.loop-u-preserved
loop-u-preserved c = narrowing_next _ _ c.loop-u.best c.loop-u.u c.loop-u.invariant (omega arith) _ (elim c.if-is_closer.branch [ then-is_closer w ↦ grind arith | else-is_closer w ↦ grind arith ])

pub returns : goal.returns
returns c = narrowing_end _ _ c.loop-u.best c.loop-u.u c.loop-u.invariant (omega arith)
