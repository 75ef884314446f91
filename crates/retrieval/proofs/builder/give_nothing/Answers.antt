-- `retrieval::builder::give_nothing` meets its contract: the refusals of both readers in their order; then null, with trace 0 for the type Null and 2 for a value that does not conform.
-- Assumes nothing.
use mathlib.Core.Path.{sym, subst}
use lib.ListN.{length}
use Rattle.form.specs.Answers.{Built}
use Rattle.types.proofs.CallContracts.{was_refused, was_accepted}
use Rattle.values.proofs.CallContracts.{value_refused}
use Rattle.output.proofs.Outcomes.{built_refused, built_handed}
use Rattle.retrieval.proofs.CallContracts.{accepted, conformant_refused_t, conformant_refused_v, some_type, null_target, not_conformant}
use Rattle.retrieval.proofs.builder.give_nothing.Goals as goal

pub returns-in_err-check_type : goal.returns-in_err-check_type
returns-in_err-check_type c =
    let args = c.args in
    built_handed _ _ _ _ c.from_residual.ensures.1
    (built_refused _ _ args.out.now
    (conformant_refused_t args.t.now args.v.now _ _
    (was_refused args.t.now _ c.in_err-check_type.ensures.result_value)))

pub returns-in_err-check_value : goal.returns-in_err-check_value
returns-in_err-check_value c =
    let args = c.args in
    built_handed _ _ _ _ c.from_residual-in_err-check_value.ensures.1
    (built_refused _ _ args.out.now
    (conformant_refused_v args.t.now args.v.now _ _ _
    (was_accepted args.t.now _ c.in_ok-check_type.ensures.result_value).whole
    (value_refused args.v.now _ c.in_err-check_value.ensures.result_value)))

pub bounds-t-0 : goal.bounds-t-0
bounds-t-0 c =
    let args = c.args in
    some_type args.t.now args.v.now
    (accepted args.t.now args.v.now _ _ c.in_ok-check_type.ensures.bytes
    c.in_ok-check_value.ensures.bytes
    (sym c.in_ok-check_type.ensures.result_value)
    (sym c.in_ok-check_value.ensures.result_value))

pub returns-then-t-eq-NULL_TYPE : goal.returns-then-t-eq-NULL_TYPE
returns-then-t-eq-NULL_TYPE c =
    let args = c.args in
    subst
    (λ o. Built o args.out.now c.give.new.out c.give.result)
    (null_target args.t.now args.v.now
    (accepted args.t.now args.v.now _ _ c.in_ok-check_type.ensures.bytes
    c.in_ok-check_value.ensures.bytes
    (sym c.in_ok-check_type.ensures.result_value)
    (sym c.in_ok-check_value.ensures.result_value))
    c.if-t-eq-NULL_TYPE.true (length args.out.now))
    c.give.ensures

pub returns : goal.returns
returns c =
    subst
    (λ o. Built o c.args.out.now c.give-2.new.out c.give-2.result)
    (not_conformant c.args.t.now c.args.v.now
    (accepted c.args.t.now c.args.v.now _ _ c.in_ok-check_type.ensures.bytes
    c.in_ok-check_value.ensures.bytes
    (sym c.in_ok-check_type.ensures.result_value)
    (sym c.in_ok-check_value.ensures.result_value))
    c.if-t-eq-NULL_TYPE.false c.requires (length c.args.out.now))
    c.give-2.ensures
