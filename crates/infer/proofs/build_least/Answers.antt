-- `infer::build_least` meets its contract: the reader's refusal, then that of a value that is not data; of a data value the type is built.
-- Assumes nothing.
use mathlib.Core.Bool.{true}
use Rattle.order.specs.Order.{order_of}
use Rattle.output.proofs.Outcomes.{built_handed}
use Rattle.infer.proofs.CallContracts.{fine, fine_ok, ask, is_data_lem, least_refused, least_other, least_done}
use Rattle.infer.proofs.build_least.Goals as goal

pub returns-in_err-check_value : goal.returns-in_err-check_value
returns-in_err-check_value c =
    let args = c.args in
    built_handed _ _ _ _ c.from_residual.ensures.1 (least_refused (order_of args.reading) args.v.now _ _ args.out.now c.in_err-check_value.ensures.result_value)

pub is_data-requires : goal.is_data-requires
is_data-requires c = fine_ok (fine c.args.v.now _ c.in_ok-check_value.ensures.bytes c.in_ok-check_value.ensures.result_value)

pub returns-then-is_none : goal.returns-then-is_none
returns-then-is_none c =
    let args = c.args in
    least_other (order_of args.reading) args.v.now (fine args.v.now _ c.in_ok-check_value.ensures.bytes c.in_ok-check_value.ensures.result_value)
    _ c.is_data.ensures c.if-is_none.ensures _ args.out.now

pub build-requires : goal.build-requires
build-requires c =
    let args = c.args in
    let bytes = c.in_ok-check_value.ensures.bytes in
    let F = fine args.v.now _ bytes c.in_ok-check_value.ensures.result_value in
    ask (order_of args.reading) true args.v.now F bytes (λ _. is_data_lem (order_of args.reading) args.v.now F _ c.is_data.ensures c.if-is_none.ensures)

pub returns : goal.returns
returns c =
    let args = c.args in
    let F = fine args.v.now _ c.in_ok-check_value.ensures.bytes c.in_ok-check_value.ensures.result_value in
    least_done (order_of args.reading) args.v.now F (is_data_lem (order_of args.reading) args.v.now F _ c.is_data.ensures c.if-is_none.ensures)
    _ args.out.now _ _ c.build.ensures
