-- `values::judge` meets its contract: a yes of the walk is the answer; without it the readers give the refusals, self first, and then the answer is no.
-- Assumes nothing.
use mathlib.Core.Path.{sym, ap, ◌∙◌}
use Rattle.form.specs.Outcome.{done}
use Rattle.form.specs.Read.{read_type}
use Rattle.order.specs.Order.{order_of}
use Rattle.order.specs.Values.{conforms}
use Rattle.tables.proofs.CallContracts.{handed_on}
use Rattle.types.proofs.CallContracts.{was_refused, was_accepted}
use Rattle.types.proofs.TwoArguments.{first_refused, second_refused, both_read, fails, asked_yes}
use Rattle.values.specs.Calls.{is_conformant_by}
use Rattle.values.proofs.CallContracts.{value_refused, value_accepted}
use Rattle.values.proofs.judge.Goals as goal

pub returns-then-passes : goal.returns-then-passes
returns-then-passes c = asked_yes (is_conformant_by (order_of c.args.reading) c.args.v.now c.args.t.now) (sym c.if-passes.true ∙ c.passes.ensures)

pub returns-in_err-check_value : goal.returns-in_err-check_value
unfolding is_conformant_by
returns-in_err-check_value c =
    handed_on _ _ _ c.from_residual.ensures.1
    (first_refused (conforms (order_of c.args.reading)) (read_type c.args.t.now) (value_refused c.args.v.now _ c.in_err-check_value.ensures.result_value))

pub returns-in_err-check_type : goal.returns-in_err-check_type
unfolding is_conformant_by
returns-in_err-check_type c =
    handed_on _ _ _ c.from_residual-in_err-check_type.ensures.1
    (second_refused (conforms (order_of c.args.reading)) (read_type c.args.t.now)
    (value_accepted c.args.v.now c.in_ok-check_value.ensures.bytes _ c.in_ok-check_value.ensures.result_value).whole
    (was_refused c.args.t.now _ c.in_err-check_type.ensures.result_value))

pub returns : goal.returns
unfolding is_conformant_by
returns c =
    let test = conforms (order_of c.args.reading) in
    let value = (value_accepted c.args.v.now c.in_ok-check_value.ensures.bytes _ c.in_ok-check_value.ensures.result_value).whole in
    let type = (was_accepted c.args.t.now _ c.in_ok-check_type.ensures.result_value).whole in
    sym (both_read test (read_type c.args.t.now) value type ∙ ap done (fails test (read_type c.args.t.now) value type (sym c.if-passes.false ∙ c.passes.ensures)))
