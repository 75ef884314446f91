-- `context::builder::join` meets its contract: the refusals in their order; either spare place is as long as `join_in` asks.
-- Assumes nothing.
use mathlib.Core.Path.{refl, sym}
use lib.ListN.{length}
use Rattle.form.proofs.Values.{ValueTold, value_told}
use Rattle.output.proofs.Outcomes.{built_refused}
use Rattle.paths.proofs.CallContracts.{value_refused, held_byte}
use Rattle.context.proofs.CallContracts.{refused_on, few_room, all_room, join_first, join_second, join_other, join_others, Joins, joined, join_asks, join_done}
use Rattle.context.proofs.builder.join.Goals as goal
use Rattle.context.proofs.builder.join.Goals.{In_ok-check_value, In_ok-check_value-2, Else-not-is_context}

first : (c : In_ok-check_value) → ValueTold c.args.c.now c.in_ok-check_value.field-0
first c = value_told c.args.c.now c.in_ok-check_value.ensures.bytes c.in_ok-check_value.field-0 (sym c.in_ok-check_value.ensures.result_value)

second : (c : In_ok-check_value-2) → ValueTold c.args.o.now c.in_ok-check_value-2.field-0
second c = value_told c.args.o.now c.in_ok-check_value-2.ensures.bytes c.in_ok-check_value-2.field-0 (sym c.in_ok-check_value-2.ensures.result_value)

both : (c : Else-not-is_context) → Joins c.args.all c.args.c.now c.args.o.now (length c.args.out.now)
both c =
    joined c.args.all c.args.c.now c.args.o.now (length c.args.out.now)
    (value_told c.args.c.now c.in_ok-check_value.ensures.bytes c.in_ok-check_value.field-0 (sym c.in_ok-check_value.ensures.result_value))
    (value_told c.args.o.now c.in_ok-check_value-2.ensures.bytes c.in_ok-check_value-2.field-0 (sym c.in_ok-check_value-2.ensures.result_value))
    c.if-c-ne-CONTEXT.false c.if-not-is_context.false

pub returns-in_err-check_value : goal.returns-in_err-check_value
returns-in_err-check_value c =
    refused_on _ _ _ _ c.from_residual.ensures.1 (join_first c.args.all c.args.c.now c.args.o.now _ _ (value_refused _ _ c.in_err-check_value.ensures.result_value))

pub returns-in_err-check_value-2 : goal.returns-in_err-check_value-2
returns-in_err-check_value-2 c =
    refused_on _ _ _ _ c.from_residual-in_err-check_value-2.ensures.1
    (join_second c.args.all c.args.c.now c.args.o.now _ (first (goal.at.returns-in_err-check_value-2 c).In_ok-check_value) _
    (value_refused _ _ c.in_err-check_value-2.ensures.result_value))

pub bounds-c-0 : goal.bounds-c-0
bounds-c-0 c = held_byte _ 0 (first (goal.at.bounds-c-0 c).In_ok-check_value).reads

pub returns-then-c-ne-CONTEXT : goal.returns-then-c-ne-CONTEXT
returns-then-c-ne-CONTEXT c =
    let here = goal.at.returns-then-c-ne-CONTEXT c in
    built_refused _ _ _ (join_other c.args.all c.args.c.now c.args.o.now _ (first here.In_ok-check_value) (second here.In_ok-check_value-2) c.if-c-ne-CONTEXT.true)

pub bounds-o-0 : goal.bounds-o-0
bounds-o-0 c = held_byte _ 0 (second (goal.at.bounds-o-0 c).In_ok-check_value-2).reads

pub returns-then-not-is_context : goal.returns-then-not-is_context
returns-then-not-is_context c =
    let here = goal.at.returns-then-not-is_context c in
    built_refused _ _ _
    (join_others c.args.all c.args.c.now c.args.o.now _ (first here.In_ok-check_value) (second here.In_ok-check_value-2) c.if-c-ne-CONTEXT.false c.if-not-is_context.true)

pub join_in-requires : goal.join_in-requires
join_in-requires c = join_asks (both (goal.at.join_in-requires c).Else-not-is_context) _ (few_room _ _ c.if-c-o-le512.true refl)

pub returns-then-c-o-le512 : goal.returns-then-c-o-le512
returns-then-c-o-le512 c = join_done (both (goal.at.returns-then-c-o-le512 c).Else-not-is_context) _ _ _ c.join_in.ensures

pub join_in-requires-2 : goal.join_in-requires-2
join_in-requires-2 c = join_asks (both (goal.at.join_in-requires-2 c).Else-not-is_context) _ (all_room _ _ refl)

pub returns : goal.returns
returns c = join_done (both (goal.at.returns c).Else-not-is_context) _ _ _ c.join_in-2.ensures
