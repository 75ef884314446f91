-- `context::builder::place` meets its contract: the sizes that the builders tell decide 16, 17 and 18; then the splice is the updated context.
-- Assumes nothing.
use borrow.Author.Rules.{rules}
use mathlib.Core.Path.{◌≡◌}
use mathlib.Core.Option.{some}
use Rattle.form.specs.Limits.{value_levels}
use Rattle.form.specs.Trees.{Val, Entries}
use Rattle.form.proofs.Whole.{bytes_of}
use Rattle.output.proofs.Outcomes.{built_refused}
use Rattle.paths.specs.Places.{whole_at, context_at}
use Rattle.updates.specs.Writing.{updated, spliced}
use Rattle.context.proofs.CallContracts.{along, place_copy, place_asks, place_err, Placed, placed, placed_over, placed_short, placed_done}
use Rattle.context.proofs.builder.place.Goals as goal
use Rattle.context.proofs.builder.place.Goals.{After-measure-totals}

-- what the splice builds
built : (c : After-measure-totals) (es : Entries) (x : Val) → context_at value_levels c.args.c.now ≡ some es → whole_at value_levels c.args.v.now ≡ some x
    → Placed (updated c.args.strict c.args.path.now x es) (spliced c.args.c.now c.args.way.cut c.args.path.now c.args.v.now) c.measure-totals.result.size c.measure-totals.result.level
built c es x ec ex =
    let args = c.args in
    let W = along args.c.now args.path.now args.way.rest args.way.cut es ec c.requires.surveyed in
    placed args.strict args.c.now args.path.now args.v.now args.out.now es x ec ex (bytes_of args.c.now c.type_inv.c) (bytes_of args.v.now c.type_inv.v)
    c.requires.small.bytes_c (search rules) args.way.rest args.way.cut W.0 W.1 (cc) args.level (c.requires.level_value x ex) _ _
    c.measure-totals.ensures.size_value c.measure-totals.ensures.level_value

pub returns-then-is_unchanged : goal.returns-then-is_unchanged
returns-then-is_unchanged c =
    let args = c.args in
    λ es x ec ex.
    place_copy args.strict args.c.now args.path.now args.v.now args.out.now es x ec ex (bytes_of args.c.now c.type_inv.c) (bytes_of args.v.now c.type_inv.v)
    c.requires.small.bytes_c _ _ (search rules) c.give.ensures

pub returns-then-is_err : goal.returns-then-is_err
returns-then-is_err c =
    let args = c.args in
    λ es x ec ex.
    let W = along args.c.now args.path.now args.way.rest args.way.cut es ec c.requires.surveyed in
    built_refused _ _ _
    (place_err args.strict args.c.now args.path.now args.v.now args.out.now es x ec ex (bytes_of args.c.now c.type_inv.c) (bytes_of args.v.now c.type_inv.v)
    c.requires.small.bytes_c (search rules) args.way.rest args.way.cut W.0 W.1 (cc))

pub measure-totals-requires : goal.measure-totals-requires
measure-totals-requires c =
    let args = c.args in
    let pre = c.requires in
    let A = place_asks args.c.now args.path.now args.v.now args.way.rest args.level args.way.cut pre.ok pre.ok_2 pre.small pre.surveyed pre.level_value
    (bytes_of args.c.now c.type_inv.c) (bytes_of args.v.now c.type_inv.v) (search rules) in
    record { small = pre.small; cuts = A.0; rest_le_most_bytes = A.1 }

pub returns-then-is_over : goal.returns-then-is_over
returns-then-is_over c =
    λ es x ec ex. built_refused _ _ _ (placed_over (built (goal.at.returns-then-is_over c).After-measure-totals es x ec ex) _ (cc))

pub returns-then-out-totals : goal.returns-then-out-totals
returns-then-out-totals c =
    λ es x ec ex. placed_short (built (goal.at.returns-then-out-totals c).After-measure-totals es x ec ex) _ (cc) c.if-out-totals.true

pub splice-requires-clause-cuts : goal.splice-requires-clause-cuts
splice-requires-clause-cuts c =
    let args = c.args in
    let pre = c.requires in
    (place_asks args.c.now args.path.now args.v.now args.way.rest args.level args.way.cut pre.ok pre.ok_2 pre.small pre.surveyed pre.level_value
    (bytes_of args.c.now c.type_inv.c) (bytes_of args.v.now c.type_inv.v) (search rules)).0

pub returns : goal.returns
returns c =
    λ es x ec ex.
    placed_done (built (goal.at.returns c).After-measure-totals es x ec ex) _ (cc) c.if-out-totals.false _ _ c.splice.ensures.value
    c.splice.ensures.out_after
