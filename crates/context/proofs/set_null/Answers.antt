-- `context::set_null` meets its contract: two zero bytes are the null that is set.
-- Assumes nothing.
use Rattle.context.proofs.CallContracts.{null_built}
use Rattle.context.proofs.set_null.Goals as goal

pub returns : goal.returns
returns c = null_built _ _ _ _ _ c.set_entry.ensures
