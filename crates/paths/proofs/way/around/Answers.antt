-- `paths::way::around` meets its contract: the entry itself where its value has no cut, and otherwise the value's cut, counted on from the value's start.
-- Assumes nothing.
use Rattle.paths.proofs.Along.{within_new, within_old}
use Rattle.paths.proofs.way.around.Goals as goal

pub returns-then-cut-eq0 : goal.returns-then-cut-eq0
returns-then-cut-eq0 c = within_new _ _ _ _ c.if-cut-eq0.true

pub returns : goal.returns
returns c = within_old _ _ _ _ c.if-cut-eq0.false
