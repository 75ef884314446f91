-- `updates::write_front` meets its contract: the head and the entries before the place are two pieces, one behind the other.
-- Assumes nothing.
use Rattle.updates.proofs.ContextFront.{begun_is}
use Rattle.updates.proofs.write_front.Goals as goal

pub returns : goal.returns
returns c =
    begun_is _ _ _ _ _ _ _ _ c.requires.2 c.low.ensures c.high.ensures c.fill.ensures
    c.put.ensures.out_after
