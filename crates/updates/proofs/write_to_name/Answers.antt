-- `updates::write_to_name` meets its contract: the front of the context, and the name behind it.
-- Assumes nothing.
use Rattle.updates.proofs.ContextFront.{opened_is}
use Rattle.updates.proofs.write_to_name.Goals as goal

pub returns-clause-out_after : goal.returns-clause-out_after
returns-clause-out_after c = opened_is _ _ _ _ _ _ _ c.requires.0 c.requires.1 c.write_front.ensures c.put_name.ensures.out_after
