-- `context::builder::join_in` meets its contract: the spare place holds the merge, and its level is told.
-- Assumes nothing.
use Rattle.context.proofs.CallContracts.{merge_room, merge_holds}
use Rattle.context.proofs.builder.join_in.Goals as goal

pub give_within-requires : goal.give_within-requires
give_within-requires c =
    merge_room c.args.all c.args.c.now c.args.o.now c.args.spare.now _ _ _ c.requires.ok c.requires.ok_2 c.merge-totals.ensures
    c.requires.most_bytes_in_bounds

pub returns : goal.returns
returns c =
    λ es gs ec eo.
    c.give_within.ensures _
    (merge_holds c.args.all c.args.c.now c.args.o.now es gs ec eo c.args.spare.now _ _ _ c.merge-totals.ensures
    c.requires.most_bytes_in_bounds)
