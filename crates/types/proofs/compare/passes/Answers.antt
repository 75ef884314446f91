-- `types::compare::passes` meets its contract: the pass answers yes exactly where both sizes are the lengths of the two arguments, within the limit.
-- Assumes nothing.
use Rattle.order.specs.Order.{order_of}
use Rattle.order.specs.Types.{le}
use Rattle.types.specs.Calls.{is_conformant_by}
use Rattle.types.proofs.TwoArguments.{long_first, long_second, apart, over_first, told_whole}
use Rattle.types.proofs.CallContracts.{whole_type}
use Rattle.types.proofs.compare.passes.Goals as goal

pub returns-then-a-gt-MOST_BYTES : goal.returns-then-a-gt-MOST_BYTES
unfolding is_conformant_by
returns-then-a-gt-MOST_BYTES c =
    long_first whole_type whole_type (le (order_of c.args.reading)) c.args.a.now
    c.args.b.now c.if-a-gt-MOST_BYTES.true

pub returns-then-b-gt-MOST_BYTES : goal.returns-then-b-gt-MOST_BYTES
unfolding is_conformant_by
returns-then-b-gt-MOST_BYTES c =
    let args = c.args in
    long_second whole_type whole_type (le (order_of args.reading)) args.a.now args.b.now c.if-b-gt-MOST_BYTES.true

pub returns-then-size-eq0 : goal.returns-then-size-eq0
unfolding is_conformant_by
returns-then-size-eq0 c =
    let args = c.args in
    apart whole_type whole_type (le (order_of args.reading)) args.a.now args.b.now c.conforms-size.result
    c.conforms-size.new.other c.conforms-size.ensures c.if-size-eq0.true

pub returns-then-size-a : goal.returns-then-size-a
unfolding is_conformant_by
returns-then-size-a c =
    let args = c.args in
    over_first whole_type whole_type (le (order_of args.reading)) args.a.now args.b.now c.conforms-size.result
    c.conforms-size.new.other c.conforms-size.ensures c.if-size-eq0.false c.if-size-a.true

pub returns : goal.returns
unfolding is_conformant_by
returns c =
    let args = c.args in
    told_whole whole_type whole_type (le (order_of args.reading)) args.a.now args.b.now c.conforms-size.result
    c.conforms-size.new.other c.conforms-size.ensures c.if-size-eq0.false c.if-size-a.false
    c.if-a-gt-MOST_BYTES.false c.if-b-gt-MOST_BYTES.false
