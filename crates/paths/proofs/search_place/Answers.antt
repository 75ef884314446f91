-- `paths::search_place` meets its contract: the refusals in their order; then what the walk along the path cuts is what the search finds.
-- Assumes nothing.
use borrow.Author.Rules.{rules}
use mathlib.Core.Path.{sym, ap, ◌∙◌}
use Rattle.form.proofs.Values.{ValueTold, value_told}
use Rattle.form.proofs.Whole.{bytes_of}
use Rattle.paths.specs.Places.{found}
use Rattle.paths.proofs.CallContracts.{handed_on, value_refused, first_refused, names_refused, other_refused, held_byte, part_refused}
use Rattle.paths.proofs.CallContracts.{Searched, searched, searched_none, searched_part, searched_name, searched_room}
use Rattle.paths.proofs.search_place.Goals.{In_ok-way, Else-c-ne-CONTEXT}
use Rattle.paths.proofs.search_place.Goals as goal

told : (c : In_ok-way) → ValueTold c.args.c.now c.in_ok-way.way.level
told c = value_told c.args.c.now (bytes_of c.args.c.now c.type_inv.c) c.in_ok-way.way.level (sym c.in_ok-way.ensures.level)

cut_known : (c : Else-c-ne-CONTEXT) → Searched c.args.c.now c.args.path.now c.in_ok-way.way.cut
cut_known c =
    let T = value_told c.args.c.now (bytes_of c.args.c.now c.type_inv.c) c.in_ok-way.way.level (sym c.in_ok-way.ensures.level) in
    searched c.args.c.now c.args.path.now _ _ T c.if-is_long.false c.if-c-ne-CONTEXT.false c.in_ok-way.ensures.surveyed

pub returns-in_err-way : goal.returns-in_err-way
returns-in_err-way c =
    ap found (handed_on _ _ c.from_residual.ensures.1)
    ∙ part_refused _ _ _ (first_refused _ _ _ (value_refused _ _ c.in_err-way.ensures.level))

pub returns-then-is_long : goal.returns-then-is_long
returns-then-is_long c =
    part_refused _ _ _ (names_refused _ _ (told (goal.at.returns-then-is_long c).In_ok-way).reads c.if-is_long.true)

pub bounds-c-0 : goal.bounds-c-0
bounds-c-0 c = held_byte _ 0 (told (goal.at.bounds-c-0 c).In_ok-way).reads

pub returns-then-c-ne-CONTEXT : goal.returns-then-c-ne-CONTEXT
returns-then-c-ne-CONTEXT c =
    part_refused _ _ _ (other_refused _ _ (told (goal.at.returns-then-c-ne-CONTEXT c).In_ok-way).reads c.if-is_long.false c.if-c-ne-CONTEXT.true)

pub returns-then-is_new : goal.returns-then-is_new
returns-then-is_new c = searched_none (cut_known (goal.at.returns-then-is_new c).Else-c-ne-CONTEXT) c.then-is_new.either

pub overflow_add-result : goal.overflow_add-result
overflow_add-result c = search (rules, searched_room (cut_known (goal.at.overflow_add-result c).Else-c-ne-CONTEXT))

pub overflow_sub-result : goal.overflow_sub-result
overflow_sub-result c = searched_name (cut_known (goal.at.overflow_sub-result c).Else-c-ne-CONTEXT) c.if-is_new.false

pub returns : goal.returns
returns c = searched_part (cut_known (goal.at.returns c).Else-c-ne-CONTEXT) c.if-is_new.false c.if-way-path.false
