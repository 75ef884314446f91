-- `context::builder::give_within` meets its contract: the size and the level, then the room.
-- Assumes nothing.
use Rattle.output.proofs.Outcomes.{built_refused}
use Rattle.context.proofs.CallContracts.{within_over, within_done}
use Rattle.context.proofs.builder.give_within.Goals as goal

pub returns-then-not-is_small : goal.returns-then-not-is_small
returns-then-not-is_small c =
    let args = c.args in
    λ w H. built_refused _ _ _ (within_over args.spare.now args.totals.size args.totals.level w H args.out.now (cc))

pub returns : goal.returns
returns c =
    let args = c.args in
    λ w H.
    within_done args.spare.now args.totals.size args.totals.level w H args.out.now (cc) _ _
    c.give.ensures
