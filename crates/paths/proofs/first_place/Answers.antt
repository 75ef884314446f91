-- `paths::first_place` meets its contract: the refusals first; the first value stands behind the context's three bytes and its name.
-- Assumes nothing.
use native.Mathlib.Omega.{arith}
use mathlib.Core.Path.{ap, ◌∙◌}
use Rattle.form.proofs.Whole.{bytes_of}
use Rattle.paths.specs.Places.{found}
use Rattle.paths.proofs.CallContracts.{handed_on, part_refused, Counted, counted, count_refused, first_none, first_inside, first_done}
use Rattle.paths.proofs.first_place.Goals.{In_ok-len}
use Rattle.paths.proofs.first_place.Goals as goal

told : (c : In_ok-len) → Counted c.args.c.now c.in_ok-len.field-0
told c = counted c.args.c.now c.in_ok-len.field-0 (bytes_of c.args.c.now c.type_inv.c) c.in_ok-len.ensures

pub returns-in_err-len : goal.returns-in_err-len
returns-in_err-len c = ap found (handed_on _ _ c.from_residual.ensures.1) ∙ part_refused _ _ _ (count_refused _ _ c.in_err-len.ensures)

pub returns-then-branch-eq0 : goal.returns-then-branch-eq0
returns-then-branch-eq0 c = first_none _ (told (goal.at.returns-then-branch-eq0 c).In_ok-len) c.if-branch-eq0.true

pub slice_bounds-skip-count : goal.slice_bounds-skip-count
slice_bounds-skip-count c = first_inside _ (told (goal.at.slice_bounds-skip-count c).In_ok-len) c.if-branch-eq0.false

pub slice_bounds-skip-start : goal.slice_bounds-skip-start
slice_bounds-skip-start c = omega (arith, first_inside _ (told (goal.at.slice_bounds-skip-start c).In_ok-len) c.if-branch-eq0.false)

pub returns : goal.returns
returns c = first_done _ (told (goal.at.returns c).In_ok-len) c.if-branch-eq0.false _ c.skip.ensures
