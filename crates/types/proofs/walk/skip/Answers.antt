-- `types::walk::skip` meets its contract: the short way past a simple type, or the walk, says the size.
-- Assumes nothing.
use mathlib.Core.Path.{◌∙◌}
use Rattle.types.proofs.Entries.{skip_is, skip_short}
use Rattle.types.proofs.walk.skip.Goals as goal

pub returns-in-Some : goal.returns-in-Some
returns-in-Some c =
    let a = c.args in
    skip_short a.left a.s.now c.in-Some.n _ c.in-Some.ensures

pub returns : goal.returns
returns c =
    let a = c.args in
    c.walk_type.ensures.size ∙ skip_is a.left a.s.now
