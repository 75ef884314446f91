-- `context::builder::update` meets its contract: the walk along the path, the names, the value, the command, each refusal in its turn; then `place`.
-- Assumes nothing.
use mathlib.Core.Path.{sym}
use Rattle.form.proofs.Values.{ValueTold, value_told}
use Rattle.form.proofs.Whole.{bytes_of}
use Rattle.output.proofs.Outcomes.{built_refused}
use Rattle.paths.proofs.CallContracts.{value_refused, held_byte}
use Rattle.context.proofs.CallContracts.{refused_on, update_first, update_names, update_second, update_other, update_small, update_value, update_level, update_context, update_done}
use Rattle.context.proofs.builder.update.Goals as goal
use Rattle.context.proofs.builder.update.Goals.{In_ok-way, In_ok-level}

first : (c : In_ok-way) → ValueTold c.args.c.now c.in_ok-way.way.level
first c = value_told c.args.c.now (bytes_of c.args.c.now c.type_inv.c) c.in_ok-way.way.level (sym c.in_ok-way.ensures.level)

second : (c : In_ok-level) → ValueTold c.args.v.now c.in_ok-level.level
second c = value_told c.args.v.now c.in_ok-level.ensures.bytes c.in_ok-level.level (sym c.in_ok-level.ensures.result_value)

pub returns-in_err-way : goal.returns-in_err-way
returns-in_err-way c =
    let args = c.args in
    refused_on _ _ _ _ c.from_residual.ensures.1
    (update_first args.strict args.c.now args.path.now args.v.now args.out.now _ (value_refused _ _ c.in_err-way.ensures.level))

pub returns-then-path-gt-MOST_NAMES : goal.returns-then-path-gt-MOST_NAMES
returns-then-path-gt-MOST_NAMES c =
    let args = c.args in
    built_refused _ _ _
    (update_names args.strict args.c.now args.path.now args.v.now args.out.now (first (goal.at.returns-then-path-gt-MOST_NAMES c).In_ok-way) c.if-path-gt-MOST_NAMES.true)

pub returns-in_err-level : goal.returns-in_err-level
returns-in_err-level c =
    let args = c.args in
    refused_on _ _ _ _ c.from_residual-in_err-level.ensures.1
    (update_second args.strict args.c.now args.path.now args.v.now args.out.now (first (goal.at.returns-in_err-level c).In_ok-way) c.if-path-gt-MOST_NAMES.false _
    (value_refused _ _ c.in_err-level.ensures.result_value))

pub bounds-c-0 : goal.bounds-c-0
bounds-c-0 c = held_byte _ 0 (first (goal.at.bounds-c-0 c).In_ok-way).reads

pub returns-then-c-ne-CONTEXT : goal.returns-then-c-ne-CONTEXT
returns-then-c-ne-CONTEXT c =
    let args = c.args in
    let here = goal.at.returns-then-c-ne-CONTEXT c in
    built_refused _ _ _
    (update_other args.strict args.c.now args.path.now args.v.now args.out.now (first here.In_ok-way) c.if-path-gt-MOST_NAMES.false (second here.In_ok-level)
    c.if-c-ne-CONTEXT.true)

pub place-requires : goal.place-requires
place-requires c =
    let args = c.args in
    let here = goal.at.place-requires c in
    let h = c.if-path-gt-MOST_NAMES.false in
    let A = first here.In_ok-way in
    let B = second here.In_ok-level in
    record {
      ok = update_context args.strict args.c.now args.path.now args.v.now args.out.now A h B c.if-c-ne-CONTEXT.false;
      ok_2 = update_value args.strict args.c.now args.path.now args.v.now args.out.now A h B;
      small = update_small args.strict args.c.now args.path.now args.v.now args.out.now A h B;
      surveyed = c.in_ok-way.ensures.surveyed;
      level_value = update_level args.strict args.c.now args.path.now args.v.now args.out.now A h B;
    }

pub returns : goal.returns
returns c =
    let args = c.args in
    let here = goal.at.returns c in
    update_done args.strict args.c.now args.path.now args.v.now args.out.now (first here.In_ok-way) c.if-path-gt-MOST_NAMES.false (second here.In_ok-level)
    c.if-c-ne-CONTEXT.false _ _ c.place.ensures
