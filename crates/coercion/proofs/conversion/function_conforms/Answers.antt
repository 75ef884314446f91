-- `coercion::conversion::function_conforms` meets its contract: the four bytes are the type of Abs, and the pass over both types says whether it conforms.
-- Assumes nothing.
use Rattle.coercion.proofs.Rules.{function_says}
use Rattle.coercion.proofs.conversion.function_conforms.Goals as goal

pub returns : goal.returns
returns c =
    function_says c.args.t.now c.conforms.result
    c.conforms.new.other c.conforms.ensures
