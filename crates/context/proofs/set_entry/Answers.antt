-- `context::set_entry` meets its contract: one name is a path of one.
-- Assumes nothing.
use Rattle.context.proofs.CallContracts.{set_built}
use Rattle.context.proofs.set_entry.Goals as goal

pub returns : goal.returns
returns c = set_built _ _ _ _ _ _ c.create_entries.ensures
