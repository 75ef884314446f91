-- `form::commands::leaf_size` meets its contract: one byte more than the width of a leaf, and no leaf has so many that it is taken for none.
-- Assumes nothing.
use native.Mathlib.Omega.{arith}
use Rattle.form.proofs.CommandKinds.{sized_leaf, sized_none}
use Rattle.form.proofs.commands.leaf_size.Goals as goal

pub overflow_add-result : goal.overflow_add-result
overflow_add-result c =
    let w = c.leaf_width-w in
    omega (arith, sized_leaf c.args.c w.result w.ensures c.if-w-eq-NO_WIDTH.false)

pub returns-then-w-eq-NO_WIDTH : goal.returns-then-w-eq-NO_WIDTH
returns-then-w-eq-NO_WIDTH c =
    let w = c.leaf_width-w in
    sized_none c.args.c w.result w.ensures c.if-w-eq-NO_WIDTH.true

pub returns-else-w-eq-NO_WIDTH : goal.returns-else-w-eq-NO_WIDTH
returns-else-w-eq-NO_WIDTH c =
    let w = c.leaf_width-w in
    (sized_leaf c.args.c w.result w.ensures c.if-w-eq-NO_WIDTH.false).1
