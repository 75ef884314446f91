-- `infer::builder::build_with` meets its contract: the type is no longer than the value, so it is built in the scratch and copied where the output has room.
-- Assumes nothing.
use native.Mathlib.Omega.{arith}
use mathlib.Core.Path.{sym}
use lib.ListN.{length}
use Rattle.order.specs.Order.{order_of}
use Rattle.form.proofs.Numbers.{take_length}
use Rattle.infer.proofs.CallContracts.{build_long, build_scratch, build_ask, build_inside, build_given}
use Rattle.infer.proofs.builder.build_with.Goals as goal

pub overflow_mul-v : goal.overflow_mul-v
overflow_mul-v c =
    omega (
      arith,
      build_long (order_of c.args.reading) c.args.least c.args.v.now (length c.args.scratch.now)
          c.args.out.now c.requires.ready,
    )

pub returns-then-scratch-v : goal.returns-then-scratch-v
returns-then-scratch-v c =
    build_scratch (order_of c.args.reading) c.args.least c.args.v.now (length c.args.scratch.now)
    c.args.out.now c.requires.ready c.if-scratch-v.true

pub write_type-e-requires : goal.write_type-e-requires
write_type-e-requires c =
    record {
      fit_val = build_ask (order_of c.args.reading) c.args.least c.args.v.now (length c.args.scratch.now)
          c.args.out.now c.requires.ready c.if-scratch-v.false _ c.requires.v_in_bounds;
      left_le_value_levels = omega arith;
    }

pub slice_bounds-give-end : goal.slice_bounds-give-end
slice_bounds-give-end c =
    build_inside (order_of c.args.reading) c.args.least c.args.v.now (length c.args.scratch.now)
    c.args.out.now c.requires.ready c.if-scratch-v.false
    c.args.scratch.now _ _ _ c.write_type-e.ensures.typed

pub slice_bounds-give-end-2 : goal.slice_bounds-give-end-2
slice_bounds-give-end-2 c =
    sym
    (take_length _ _
    (build_inside (order_of c.args.reading) c.args.least c.args.v.now (length c.args.scratch.now)
    c.args.out.now c.requires.ready c.if-scratch-v.false
    c.args.scratch.now _ _ _ c.write_type-e.ensures.typed))

pub returns : goal.returns
returns c =
    build_given (order_of c.args.reading) c.args.least c.args.v.now (length c.args.scratch.now)
    c.args.out.now c.requires.ready c.if-scratch-v.false
    c.args.scratch.now _ _ _ c.write_type-e.ensures.typed _ _ c.give.ensures
