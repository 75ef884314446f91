-- `infer::builder::build` meets its contract: either spare place is as long as the value.
-- Assumes nothing.
use lib.ListN.{length}
use Rattle.order.specs.Order.{order_of}
use Rattle.infer.proofs.CallContracts.{build_long}
use Rattle.infer.proofs.builder.build.Goals as goal

pub build_with-requires-2 : goal.build_with-requires-2
build_with-requires-2 c =
    record {
      ready = c.requires;
      v_in_bounds = build_long (order_of c.args.reading) c.args.least c.args.v.now (length c.args.scratch.now)
          c.args.out.now c.requires;
    }
