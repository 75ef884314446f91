-- `values::compare::conform_definition` meets its contract: a definition that was read, parameter by parameter and then result by result, against what is left of the function type.
-- Assumes nothing.
use Prim.Native.Nat.{◌+◌, ◌-◌}
use native.Mathlib.Omega.{arith}
use mathlib.Core.Path.{refl}
use Rattle.form.specs.Limits.{name_width}
use Rattle.order.specs.Order.{order_of}
use Rattle.order.specs.Types.{cmp}
use Rattle.types.proofs.SortedNames.{readable_type}
use Rattle.types.proofs.Pairs.{pair}
use Rattle.values.specs.Held.{parameter_way}
use Rattle.values.proofs.Definitions.{definition_start, name_there, param_apart, param_fits, param_turn, result_apart}
use Rattle.values.proofs.Definitions.{result_fits, result_yes}
use Rattle.values.proofs.compare.conform_definition.Goals as goal

pub loop-init : goal.loop-init
loop-init c =
    definition_start (order_of c.args.reading) (c.args.left - 1) c.args.left c.args.v.now c.args.t.now
    c.args.count (omega arith) c.requires.2 c.skip-at.result c.skip-at.ensures

pub overflow_add-p : goal.overflow_add-p
overflow_add-p c = let h = name_there c.loop.invariant c.loop-test.true in omega arith

pub slice_bounds-conform_parameter-count : goal.slice_bounds-conform_parameter-count
slice_bounds-conform_parameter-count c = let h = name_there c.loop.invariant c.loop-test.true in omega arith

pub slice_bounds-conform_parameter-start : goal.slice_bounds-conform_parameter-start
slice_bounds-conform_parameter-start c = let h = name_there c.loop.invariant c.loop-test.true in omega arith

pub slice_bounds-conform_parameter-count-in-loop : goal.slice_bounds-conform_parameter-count-in-loop
slice_bounds-conform_parameter-count-in-loop c = omega (arith, c.loop.invariant)

pub slice_bounds-conform_parameter-start-in-loop : goal.slice_bounds-conform_parameter-start-in-loop
slice_bounds-conform_parameter-start-in-loop c = omega (arith, c.loop.invariant)

pub returns-then-x-eq0 : goal.returns-then-x-eq0
returns-then-x-eq0 c =
    param_apart c.loop.invariant c.loop-test.true c.conform_parameter-x.result
    c.conform_parameter-x.new.other c.conform_parameter-x.ensures c.if-x-eq0.true _

pub overflow_add-at : goal.overflow_add-at
overflow_add-at c =
    let args = c.args in
    let called = c.conform_parameter-x in
    let h =
    param_fits c.loop.invariant c.loop-test.true called.result called.new.other
    (pair (readable_type args.left) (readable_type args.left) (cmp (order_of args.reading) (parameter_way (order_of args.reading))) args.v.now
    (c.loop.at + name_width) args.t.now c.loop.bt called.result
    called.new.other called.ensures c.if-x-eq0.false) in
    omega arith

pub overflow_add-bt : goal.overflow_add-bt
overflow_add-bt c =
    let args = c.args in
    let h = param_fits c.loop.invariant c.loop-test.true c.conform_parameter-x.result
    c.conform_parameter-x.new.other
    (pair (readable_type args.left) (readable_type args.left) (cmp (order_of args.reading) (parameter_way (order_of args.reading))) args.v.now
    (c.loop.at + name_width) args.t.now c.loop.bt c.conform_parameter-x.result
    c.conform_parameter-x.new.other c.conform_parameter-x.ensures c.if-x-eq0.false) in
    omega arith

pub loop-preserved : goal.loop-preserved
loop-preserved c =
    let args = c.args in
    param_turn c.loop.invariant c.loop-test.true c.conform_parameter-x.result
    c.conform_parameter-x.new.other
    (pair (readable_type args.left) (readable_type args.left) (cmp (order_of args.reading) (parameter_way (order_of args.reading))) args.v.now
    (c.loop.at + name_width) args.t.now c.loop.bt c.conform_parameter-x.result
    c.conform_parameter-x.new.other c.conform_parameter-x.ensures c.if-x-eq0.false)

pub slice_bounds-conforms-count-2 : goal.slice_bounds-conforms-count-2
slice_bounds-conforms-count-2 c = omega (arith, c.loop.invariant)

pub slice_bounds-conforms-start-2 : goal.slice_bounds-conforms-start-2
slice_bounds-conforms-start-2 c = omega (arith, c.loop.invariant)

pub returns-then-x-eq0-2 : goal.returns-then-x-eq0-2
returns-then-x-eq0-2 c =
    result_apart c.loop.invariant c.loop-test.false c.conforms-x.result
    c.conforms-x.new.other c.conforms-x.ensures c.if-x-eq0-2.true _

pub overflow_add-other : goal.overflow_add-other
overflow_add-other c =
    let h = result_fits c.loop.invariant c.loop-test.false c.conforms-x.result
    c.conforms-x.new.other c.conforms-x.ensures c.if-x-eq0-2.false in
    omega (arith, c.requires)

pub overflow_add-other-2 : goal.overflow_add-other-2
overflow_add-other-2 c =
    let h = result_fits c.loop.invariant c.loop-test.false c.conforms-x.result
    c.conforms-x.new.other c.conforms-x.ensures c.if-x-eq0-2.false in
    omega (arith, c.requires)

pub overflow_add-result : goal.overflow_add-result
overflow_add-result c = omega (arith, c.loop.invariant, c.requires)

pub returns : goal.returns
returns c =
    result_yes c.loop.invariant c.loop-test.false c.conforms-x.result
    c.conforms-x.new.other c.conforms-x.ensures c.if-x-eq0-2.false _ _ refl refl
