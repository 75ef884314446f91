-- `values::compare::passes` meets its contract: the pass answers yes exactly where both sizes are the lengths of the two arguments, within the limit.
-- Assumes nothing.
use Rattle.order.specs.Order.{order_of}
use Rattle.order.specs.Values.{conforms}
use Rattle.types.proofs.TwoArguments.{long_first, long_second, apart, over_first, told_whole}
use Rattle.types.proofs.CallContracts.{whole_type}
use Rattle.values.specs.Calls.{is_conformant_by}
use Rattle.values.proofs.CallContracts.{whole_value}
use Rattle.values.proofs.compare.passes.Goals as goal

pub returns-then-v-gt-MOST_BYTES : goal.returns-then-v-gt-MOST_BYTES
unfolding is_conformant_by
returns-then-v-gt-MOST_BYTES c =
    long_first whole_value whole_type (conforms (order_of c.args.reading)) c.args.v.now
    c.args.t.now c.if-v-gt-MOST_BYTES.true

pub returns-then-t-gt-MOST_BYTES : goal.returns-then-t-gt-MOST_BYTES
unfolding is_conformant_by
returns-then-t-gt-MOST_BYTES c =
    let args = c.args in
    long_second whole_value whole_type (conforms (order_of args.reading)) args.v.now args.t.now c.if-t-gt-MOST_BYTES.true

pub returns-then-size-eq0 : goal.returns-then-size-eq0
unfolding is_conformant_by
returns-then-size-eq0 c =
    let args = c.args in
    apart whole_value whole_type (conforms (order_of args.reading)) args.v.now args.t.now
    c.conforms-size.result c.conforms-size.new.other c.conforms-size.ensures
    c.if-size-eq0.true

pub returns-then-size-v : goal.returns-then-size-v
unfolding is_conformant_by
returns-then-size-v c =
    let args = c.args in
    over_first whole_value whole_type (conforms (order_of args.reading)) args.v.now args.t.now
    c.conforms-size.result c.conforms-size.new.other c.conforms-size.ensures
    c.if-size-eq0.false c.if-size-v.true

pub returns : goal.returns
unfolding is_conformant_by
returns c =
    let args = c.args in
    told_whole whole_value whole_type (conforms (order_of args.reading)) args.v.now args.t.now
    c.conforms-size.result c.conforms-size.new.other c.conforms-size.ensures
    c.if-size-eq0.false c.if-size-v.false c.if-v-gt-MOST_BYTES.false c.if-t-gt-MOST_BYTES.false
