-- `context::builder::give_without` meets its contract: the answer's length is known before it is written, so without room nothing is.
-- Assumes nothing.
use Rattle.context.proofs.CallContracts.{without_short, without_done}
use Rattle.context.proofs.builder.give_without.Goals as goal

pub returns-then-out-c : goal.returns-then-out-c
returns-then-out-c c =
    without_short c.args.count c.args.c.now c.args.at c.args.to c.args.out.now c.requires.0 c.requires.1 c.requires.2
    c.if-out-c.true

pub returns : goal.returns
returns c =
    without_done c.args.count c.args.c.now c.args.at c.args.to c.args.out.now c.requires.0 c.requires.1 c.requires.2
    c.if-out-c.false _ _ c.write_without.ensures.value c.write_without.ensures.out_after
