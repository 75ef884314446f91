-- `types::is_simple_built_in_type` meets its contract: the reader's refusals, then the first byte of the type that was read.
-- Assumes nothing.
use Rattle.tables.proofs.CallContracts.{handed_on}
use Rattle.form.specs.Trees.{simple}
use Rattle.types.specs.Calls.{is_simple_built_in_type}
use Rattle.types.proofs.CallContracts.{question_refused, byte_there, simple_answered}
use Rattle.types.proofs.is_simple_built_in_type.Goals as goal

pub returns-in_err-check_type : goal.returns-in_err-check_type
unfolding is_simple_built_in_type
returns-in_err-check_type c = handed_on _ _ _ c.from_residual.ensures.1 (question_refused c.args.t.now _ simple c.in_err-check_type.ensures.result_value)

pub bounds-t-0 : goal.bounds-t-0
bounds-t-0 c = byte_there c.args.t.now _ c.in_ok-check_type.ensures.result_value

pub returns : goal.returns
returns c = simple_answered c.args.t.now _ c.in_ok-check_type.ensures.result_value
