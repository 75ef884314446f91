-- `values::walk::skip` meets its contract: the pass says the size.
-- Assumes nothing.
use mathlib.Core.Path.{◌∙◌}
use Rattle.values.proofs.Reading.{skip_is}
use Rattle.values.proofs.walk.skip.Goals as goal

pub returns : goal.returns
returns c = c.pass.ensures.size ∙ skip_is c.args.left c.args.s.now
