-- `coercion::conversion::conforms` meets its contract: the size that the pass over both answers is not 0 exactly when both are read and the value conforms.
-- Assumes nothing.
use Rattle.coercion.proofs.Rules.{value_says}
use Rattle.coercion.proofs.conversion.conforms.Goals as goal

pub returns : goal.returns
returns c =
    let args = c.args in
    value_says args.v.now args.t.now c.conforms.result c.conforms.new.other
    c.conforms.ensures
