-- `bounds::combine` meets its contract: the answer is built in the scratch, which is long enough, and handed on.
-- Assumes nothing.
use native.Mathlib.Omega.{arith}
use mathlib.Core.Path.{sym}
use lib.ListN.{length}
use lib.Seq.{length-take-le}
use Rattle.order.specs.Order.{toward, order_of}
use Rattle.output.proofs.Outcomes.{built_handed}
use Rattle.bounds.proofs.CallContracts.{fine, first_refused, second_refused, scratch_short, call_ready, call_size, call_given}
use Rattle.bounds.proofs.combine.Goals as goal

pub returns-in_err-check_type : goal.returns-in_err-check_type
returns-in_err-check_type c =
    let args = c.args in
    built_handed _ _ _ _ c.from_residual.ensures.1
    (first_refused (order_of args.reading) (toward args.up) args.a.now args.b.now (length args.scratch.now) args.out.now _ c.in_err-check_type.ensures.result_value)

pub returns-in_err-check_type-2 : goal.returns-in_err-check_type-2
returns-in_err-check_type-2 c =
    let args = c.args in
    built_handed _ _ _ _ c.from_residual-in_err-check_type-2.ensures.1
    (second_refused (order_of args.reading) (toward args.up) args.a.now args.b.now (length args.scratch.now) args.out.now
    (fine args.a.now _ c.in_ok-check_type.ensures.bytes c.in_ok-check_type.ensures.result_value) _ c.in_err-check_type-2.ensures.result_value)

pub returns-then-scratch-a : goal.returns-then-scratch-a
returns-then-scratch-a c =
    let args = c.args in
    scratch_short (order_of args.reading) (toward args.up) args.a.now args.b.now (length args.scratch.now) args.out.now
    (fine args.a.now _ c.in_ok-check_type.ensures.bytes c.in_ok-check_type.ensures.result_value)
    (fine args.b.now _ c.in_ok-check_type-2.ensures.bytes c.in_ok-check_type-2.ensures.result_value)
    c.if-scratch-a.true

pub write-e-requires : goal.write-e-requires
write-e-requires c =
    let args = c.args in
    call_ready (order_of args.reading) (toward args.up) args.a.now args.b.now (length args.scratch.now) args.out.now
    (fine args.a.now _ c.in_ok-check_type.ensures.bytes c.in_ok-check_type.ensures.result_value)
    (fine args.b.now _ c.in_ok-check_type-2.ensures.bytes c.in_ok-check_type-2.ensures.result_value)
    c.if-scratch-a.false

pub slice_bounds-give-end : goal.slice_bounds-give-end
slice_bounds-give-end c =
    let args = c.args in
    omega (
      arith,
      c.write-e.auto.out,
      call_size (order_of args.reading) (toward args.up) args.a.now args.b.now (length args.scratch.now) args.out.now
          (fine args.a.now _ c.in_ok-check_type.ensures.bytes c.in_ok-check_type.ensures.result_value)
          (fine args.b.now _ c.in_ok-check_type-2.ensures.bytes c.in_ok-check_type-2.ensures.result_value)
          c.if-scratch-a.false _ _ _ _ _ c.write-e.ensures,
    )

pub slice_bounds-give-end-2 : goal.slice_bounds-give-end-2
slice_bounds-give-end-2 c =
    let args = c.args in
    sym
    (length-take-le c.write-e.result.wrote c.write-e.new.out
    (omega (
      arith,
      c.write-e.auto.out,
      call_size (order_of args.reading) (toward args.up) args.a.now args.b.now (length args.scratch.now) args.out.now
          (fine args.a.now _ c.in_ok-check_type.ensures.bytes c.in_ok-check_type.ensures.result_value)
          (fine args.b.now _ c.in_ok-check_type-2.ensures.bytes c.in_ok-check_type-2.ensures.result_value)
          c.if-scratch-a.false _ _ _ _ _ c.write-e.ensures,
    )))

pub returns : goal.returns
returns c =
    let args = c.args in
    call_given (order_of args.reading) (toward args.up) args.a.now args.b.now (length args.scratch.now) args.out.now
    (fine args.a.now _ c.in_ok-check_type.ensures.bytes c.in_ok-check_type.ensures.result_value)
    (fine args.b.now _ c.in_ok-check_type-2.ensures.bytes c.in_ok-check_type-2.ensures.result_value)
    c.if-scratch-a.false _ _ _ _ _ c.write-e.ensures _ _ c.give.ensures
