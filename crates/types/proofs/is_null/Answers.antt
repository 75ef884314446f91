-- `types::is_null` meets its contract: the reader's refusals, then the first byte of the type that was read.
-- Assumes nothing.
use Rattle.tables.proofs.CallContracts.{handed_on}
use Rattle.types.specs.Calls.{null_type, is_null}
use Rattle.types.proofs.CallContracts.{question_refused, byte_there, null_answered}
use Rattle.types.proofs.is_null.Goals as goal

pub returns-in_err-check_type : goal.returns-in_err-check_type
unfolding is_null
returns-in_err-check_type c = handed_on _ _ _ c.from_residual.ensures.1 (question_refused c.args.t.now _ null_type c.in_err-check_type.ensures.result_value)

pub bounds-t-0 : goal.bounds-t-0
bounds-t-0 c = byte_there c.args.t.now _ c.in_ok-check_type.ensures.result_value

pub returns : goal.returns
returns c = null_answered c.args.t.now _ c.in_ok-check_type.ensures.result_value
