-- `values::compare::conform_parameter` meets its contract: the own parameter's type is held to the target's, strict the target's to the own one, with the two sizes changed over.
-- Assumes nothing.
use mathlib.Core.Path.{sym, ◌∙◌}
use Rattle.order.specs.Order.{order_of}
use Rattle.values.proofs.Definitions.{parameter_plain, parameter_apart, parameter_swapped}
use Rattle.values.proofs.compare.conform_parameter.Goals as goal

pub returns-then-y-eq0 : goal.returns-then-y-eq0
returns-then-y-eq0 c =
    let args = c.args in
    parameter_apart (order_of args.reading) args.left args.v.now args.t.now c.conforms-y.result
    c.conforms-y.new.other (sym c.is_strict.ensures ∙ c.if-is_strict.true)
    c.conforms-y.ensures c.if-y-eq0.true _

pub returns-then-is_strict : goal.returns-then-is_strict
returns-then-is_strict c =
    let args = c.args in
    parameter_swapped (order_of args.reading) args.left args.v.now args.t.now c.conforms-y.result
    c.conforms-y.new.other (sym c.is_strict.ensures ∙ c.if-is_strict.true)
    c.conforms-y.ensures c.if-y-eq0.false

pub returns : goal.returns
returns c =
    let args = c.args in
    parameter_plain (order_of args.reading) args.left args.v.now args.t.now c.conforms.result
    c.conforms.new.other (sym c.is_strict.ensures ∙ c.if-is_strict.false) c.conforms.ensures
