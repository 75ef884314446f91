-- `coercion::conversion::convert` meets its contract: the rules are asked in their order, and each return is the result of its rule.
-- Assumes nothing.
use Rattle.coercion.proofs.Rules.{value_fits, give_same, give_item, give_no_item, give_single, give_failed}
use Rattle.coercion.proofs.conversion.convert.Goals as goal

pub wrap-requires : goal.wrap-requires
wrap-requires c = value_fits c.args.t.now c.args.v.now c.requires.ready.both _ c.requires.ready.level

pub returns-then-keeps : goal.returns-then-keeps
returns-then-keeps c = rw (← give_same c.args.t.now c.args.v.now c.requires.ready.both c.if-keeps.ensures _) c.give.ensures

pub returns-then-takes_item : goal.returns-then-takes_item
returns-then-takes_item c =
    rw (← give_item c.args.t.now c.args.v.now c.requires.ready.both c.if-keeps.ensures c.if-v-eq-LIST.true c.if-takes_item.ensures _) c.give-then-takes_item.ensures

pub returns-else-takes_item : goal.returns-else-takes_item
returns-else-takes_item c =
    rw (← give_no_item c.args.t.now c.args.v.now c.requires.ready.both c.if-keeps.ensures c.if-v-eq-LIST.true c.if-takes_item.ensures _) c.give-else-takes_item.ensures

pub returns-then-meets_inner : goal.returns-then-meets_inner
returns-then-meets_inner c =
    rw (← give_single c.args.t.now c.args.v.now c.requires.ready.both c.if-keeps.ensures c.if-v-eq-LIST.false c.if-meets_inner.ensures _ c.requires.ready.level _) c.wrap.ensures

pub returns-else-meets_inner : goal.returns-else-meets_inner
returns-else-meets_inner c =
    rw (← give_failed c.args.t.now c.args.v.now c.requires.ready.both c.if-keeps.ensures c.if-v-eq-LIST.false c.if-meets_inner.ensures _) c.give-else-meets_inner.ensures
