-- `retrieval::get_value_checked` meets its contract: the refusals of both readers in their order, then what the builder writes.
-- Assumes nothing.
use mathlib.Core.Path.{sym}
use Rattle.types.proofs.CallContracts.{was_refused, was_accepted}
use Rattle.values.proofs.CallContracts.{value_refused}
use Rattle.output.proofs.Outcomes.{built_refused, built_handed}
use Rattle.retrieval.proofs.CallContracts.{accepted, checked_refused_t, checked_refused_v}
use Rattle.retrieval.proofs.get_value_checked.Goals as goal

pub write_retrieved-requires : goal.write_retrieved-requires
write_retrieved-requires c =
    let args = c.args in
    (accepted args.t.now args.v.now _ _ c.in_ok-check_type.ensures.bytes c.in_ok-check_value.ensures.bytes
    (sym c.in_ok-check_type.ensures.result_value)
    (sym c.in_ok-check_value.ensures.result_value))

pub returns-in_err-check_type : goal.returns-in_err-check_type
returns-in_err-check_type c =
    let args = c.args in
    built_handed _ _ _ _ c.from_residual.ensures.1
    (built_refused _ _ args.out.now
    (checked_refused_t args.t.now args.v.now _ _
    (was_refused args.t.now _ c.in_err-check_type.ensures.result_value)))

pub returns-in_err-check_value : goal.returns-in_err-check_value
returns-in_err-check_value c =
    let args = c.args in
    built_handed _ _ _ _ c.from_residual-in_err-check_value.ensures.1
    (built_refused _ _ args.out.now
    (checked_refused_v args.t.now args.v.now _ _ _
    (was_accepted args.t.now _ c.in_ok-check_type.ensures.result_value).whole
    (value_refused args.v.now _ c.in_err-check_value.ensures.result_value)))
