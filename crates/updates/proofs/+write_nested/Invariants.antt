-- The cycle of `updates::write_nested` meets its contract; the measure is the length of the path.
use lib.ListN.{length}
use Rattle.updates.proofs.+write_nested.Given as goal

abbrev pub decreases-write_nested : goal.decreases-write_nested
decreases-write_nested l = length l.path.now
