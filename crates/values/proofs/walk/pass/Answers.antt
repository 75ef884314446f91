-- `values::walk::pass` meets its contract: the short way past a leaf of data, whose level is 1, or the walk.
-- Assumes nothing.
use Rattle.values.proofs.Reading.{pass_short}
use Rattle.values.proofs.walk.pass.Goals as goal

pub returns-in-Some : goal.returns-in-Some
returns-in-Some c = pass_short c.args.left c.args.s.now c.in-Some.n c.in-Some.ensures
