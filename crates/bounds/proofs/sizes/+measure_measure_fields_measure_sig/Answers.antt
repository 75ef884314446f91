-- The cycle `bounds::sizes::measure`, `measure_fields`, `measure_sig` meets its contracts; the measure is twice the level that is left, one more for the loops.
-- One template for all: a type's sizes are those of its part and the bytes in front of it; the loops keep both sizes of the entries and parameters that are left.
-- Assumes nothing.
use native.Mathlib.Omega.{arith}
use Rattle.bounds.proofs.ReducedSizes.{within_ok, within_ends, within_done, some_first, some_left, simple_sizes, in_wrapped, context_three, in_context, function_at, none_sizes}
use Rattle.bounds.proofs.ReducedSizes.{in_function, entries_start, entry_name, entry_there, entry_ends, entry_next, entries_done, parameters_start}
use Rattle.bounds.proofs.ReducedSizes.{parameter_there, parameter_ends, parameter_next, result_there, result_fits, parameters_done}
use Rattle.bounds.proofs.sizes.+measure_measure_fields_measure_sig.Goals as goal

pub measure-bounds-s-0 : goal.measure-bounds-s-0
measure-bounds-s-0 t c = omega (arith, some_first _ c.args.s.now c.requires)

pub measure-returns-then-c-lt-LIST_TYPE : goal.measure-returns-then-c-lt-LIST_TYPE
measure-returns-then-c-lt-LIST_TYPE t c = simple_sizes _ c.args.s.now c.requires c.if-c-lt-LIST_TYPE.true

pub measure-slice_bounds-measure-count : goal.measure-slice_bounds-measure-count
measure-slice_bounds-measure-count t c =
    omega (
      arith,
      some_first _ c.args.s.now c.requires,
    )

pub measure-slice_bounds-measure-start : goal.measure-slice_bounds-measure-start
measure-slice_bounds-measure-start t c =
    omega (
      arith,
      some_first _ c.args.s.now c.requires,
    )

pub measure-overflow_sub-left : goal.measure-overflow_sub-left
measure-overflow_sub-left t c =
    omega (
      arith,
      some_left _ c.args.s.now c.requires,
    )

pub measure-measure-m-requires : goal.measure-measure-m-requires
measure-measure-m-requires t c = (
  omega (arith, c.decreases, some_left _ c.args.s.now c.requires),
  within_ok (in_wrapped _ c.args.s.now c.requires c.if-c-lt-LIST_TYPE.false c.if-c-lt-CONTEXT_TYPE.true),
)

pub measure-overflow_add-result : goal.measure-overflow_add-result
measure-overflow_add-result t c =
    omega (
      arith,
      c.well_formed,
      within_ends (in_wrapped _ c.args.s.now c.requires c.if-c-lt-LIST_TYPE.false c.if-c-lt-CONTEXT_TYPE.true) _ _ c.measure-m.ensures,
    )

pub measure-overflow_add-result-then-c-lt-CONTEXT_TYPE : goal.measure-overflow_add-result-then-c-lt-CONTEXT_TYPE
measure-overflow_add-result-then-c-lt-CONTEXT_TYPE t c =
    omega (
      arith,
      c.well_formed,
      within_ends (in_wrapped _ c.args.s.now c.requires c.if-c-lt-LIST_TYPE.false c.if-c-lt-CONTEXT_TYPE.true) _ _ c.measure-m.ensures,
    )

pub measure-returns-then-c-lt-CONTEXT_TYPE : goal.measure-returns-then-c-lt-CONTEXT_TYPE
measure-returns-then-c-lt-CONTEXT_TYPE t c =
    within_done (in_wrapped _ c.args.s.now c.requires c.if-c-lt-LIST_TYPE.false c.if-c-lt-CONTEXT_TYPE.true) _ _ c.measure-m.ensures

pub measure-slice_bounds-measure_fields-count : goal.measure-slice_bounds-measure_fields-count
measure-slice_bounds-measure_fields-count t c =
    omega (
      arith,
      context_three _ c.args.s.now c.requires c.if-c-eq-CONTEXT_TYPE.true,
    )

pub measure-slice_bounds-measure_fields-start : goal.measure-slice_bounds-measure_fields-start
measure-slice_bounds-measure_fields-start t c =
    omega (
      arith,
      context_three _ c.args.s.now c.requires c.if-c-eq-CONTEXT_TYPE.true,
    )

pub measure-word_at-requires : goal.measure-word_at-requires
measure-word_at-requires t c =
    omega (
      arith,
      context_three _ c.args.s.now c.requires c.if-c-eq-CONTEXT_TYPE.true,
    )

pub measure-overflow_sub-left-then-c-eq-CONTEXT_TYPE : goal.measure-overflow_sub-left-then-c-eq-CONTEXT_TYPE
measure-overflow_sub-left-then-c-eq-CONTEXT_TYPE t c =
    omega (
      arith,
      some_left _ c.args.s.now c.requires,
    )

pub measure-measure_fields-m-requires : goal.measure-measure_fields-m-requires
measure-measure_fields-m-requires t c = (
  omega (arith, c.decreases, some_left _ c.args.s.now c.requires),
  within_ok (in_context _ c.args.s.now c.requires c.if-c-eq-CONTEXT_TYPE.true _ c.word_at.ensures.0),
)

pub measure-overflow_add-result-then-c-eq-CONTEXT_TYPE : goal.measure-overflow_add-result-then-c-eq-CONTEXT_TYPE
measure-overflow_add-result-then-c-eq-CONTEXT_TYPE t c =
    omega (
      arith,
      c.well_formed,
      within_ends (in_context _ c.args.s.now c.requires c.if-c-eq-CONTEXT_TYPE.true _ c.word_at.ensures.0) _ _
          c.measure_fields-m.ensures,
    )

pub measure-overflow_add-result-then-c-eq-CONTEXT_TYPE-2 : goal.measure-overflow_add-result-then-c-eq-CONTEXT_TYPE-2
measure-overflow_add-result-then-c-eq-CONTEXT_TYPE-2 t c =
    omega (
      arith,
      c.well_formed,
      within_ends (in_context _ c.args.s.now c.requires c.if-c-eq-CONTEXT_TYPE.true _ c.word_at.ensures.0) _ _
          c.measure_fields-m.ensures,
    )

pub measure-returns-then-c-eq-CONTEXT_TYPE : goal.measure-returns-then-c-eq-CONTEXT_TYPE
measure-returns-then-c-eq-CONTEXT_TYPE t c =
    within_done (in_context _ c.args.s.now c.requires c.if-c-eq-CONTEXT_TYPE.true _ c.word_at.ensures.0) _ _
    c.measure_fields-m.ensures

pub measure-bounds-s-1 : goal.measure-bounds-s-1
measure-bounds-s-1 t c =
    omega (
      arith,
      (function_at _ c.args.s.now c.requires c.if-c-lt-CONTEXT_TYPE.false c.if-c-eq-CONTEXT_TYPE.false).two,
    )

pub measure-returns-then-n-eq0 : goal.measure-returns-then-n-eq0
measure-returns-then-n-eq0 t c =
    none_sizes (function_at _ c.args.s.now c.requires c.if-c-lt-CONTEXT_TYPE.false c.if-c-eq-CONTEXT_TYPE.false) c.if-n-eq0.true _ c.skip.ensures

pub measure-slice_bounds-measure_sig-count : goal.measure-slice_bounds-measure_sig-count
measure-slice_bounds-measure_sig-count t c =
    omega (
      arith,
      (function_at _ c.args.s.now c.requires c.if-c-lt-CONTEXT_TYPE.false c.if-c-eq-CONTEXT_TYPE.false).two,
    )

pub measure-slice_bounds-measure_sig-start : goal.measure-slice_bounds-measure_sig-start
measure-slice_bounds-measure_sig-start t c =
    omega (
      arith,
      (function_at _ c.args.s.now c.requires c.if-c-lt-CONTEXT_TYPE.false c.if-c-eq-CONTEXT_TYPE.false).two,
    )

pub measure-overflow_sub-left-2 : goal.measure-overflow_sub-left-2
measure-overflow_sub-left-2 t c =
    omega (
      arith,
      some_left _ c.args.s.now c.requires,
    )

pub measure-measure_sig-m-requires : goal.measure-measure_sig-m-requires
measure-measure_sig-m-requires t c = (
  omega (arith, c.decreases, some_left _ c.args.s.now c.requires),
  within_ok
      (in_function (function_at _ c.args.s.now c.requires c.if-c-lt-CONTEXT_TYPE.false c.if-c-eq-CONTEXT_TYPE.false) c.if-n-eq0.false _
      c.from.ensures),
)

pub measure-overflow_add-result-2 : goal.measure-overflow_add-result-2
measure-overflow_add-result-2 t c =
    omega (
      arith,
      c.well_formed,
      within_ends
          (in_function (function_at _ c.args.s.now c.requires c.if-c-lt-CONTEXT_TYPE.false c.if-c-eq-CONTEXT_TYPE.false) c.if-n-eq0.false _
          c.from.ensures)
          _ _ c.measure_sig-m.ensures,
    )

pub measure-overflow_add-result-3 : goal.measure-overflow_add-result-3
measure-overflow_add-result-3 t c =
    omega (
      arith,
      c.well_formed,
      within_ends
          (in_function (function_at _ c.args.s.now c.requires c.if-c-lt-CONTEXT_TYPE.false c.if-c-eq-CONTEXT_TYPE.false) c.if-n-eq0.false _
          c.from.ensures)
          _ _ c.measure_sig-m.ensures,
    )

pub measure-returns : goal.measure-returns
measure-returns t c =
    within_done
    (in_function (function_at _ c.args.s.now c.requires c.if-c-lt-CONTEXT_TYPE.false c.if-c-eq-CONTEXT_TYPE.false) c.if-n-eq0.false _
    c.from.ensures)
    _ _ c.measure_sig-m.ensures

pub measure_fields-loop-init : goal.measure_fields-loop-init
measure_fields-loop-init t c = entries_start _ _ _ c.requires

pub measure_fields-overflow_add-p : goal.measure_fields-overflow_add-p
measure_fields-overflow_add-p t c = omega (arith, c.well_formed, entry_name c.loop.invariant c.loop-test.true)

pub measure_fields-overflow_add-w : goal.measure_fields-overflow_add-w
measure_fields-overflow_add-w t c =
    omega (arith, c.well_formed, c.loop.invariant.low, entry_name c.loop.invariant c.loop-test.true)

pub measure_fields-slice_bounds-measure-count : goal.measure_fields-slice_bounds-measure-count
measure_fields-slice_bounds-measure-count t c = omega (arith, entry_name c.loop.invariant c.loop-test.true)

pub measure_fields-slice_bounds-measure-start : goal.measure_fields-slice_bounds-measure-start
measure_fields-slice_bounds-measure-start t c = omega (arith, entry_name c.loop.invariant c.loop-test.true)

pub measure_fields-measure-m-requires : goal.measure_fields-measure-m-requires
measure_fields-measure-m-requires t c = (omega (arith, c.decreases), entry_there c.loop.invariant c.loop-test.true)

pub measure_fields-overflow_add-at : goal.measure_fields-overflow_add-at
measure_fields-overflow_add-at t c =
    omega (arith, c.well_formed, entry_ends c.loop.invariant c.loop-test.true _ _ c.measure-m.ensures)

pub measure_fields-overflow_add-to : goal.measure_fields-overflow_add-to
measure_fields-overflow_add-to t c =
    omega (arith, c.well_formed, entry_ends c.loop.invariant c.loop-test.true _ _ c.measure-m.ensures)

pub measure_fields-loop-preserved : goal.measure_fields-loop-preserved
measure_fields-loop-preserved t c = entry_next c.loop.invariant c.loop-test.true _ _ c.measure-m.ensures

pub measure_fields-returns : goal.measure_fields-returns
measure_fields-returns t c = entries_done c.loop.invariant c.loop-test.false

pub measure_sig-loop-init : goal.measure_sig-loop-init
measure_sig-loop-init t c = parameters_start _ _ _ c.requires

pub measure_sig-slice_bounds-measure-count : goal.measure_sig-slice_bounds-measure-count
measure_sig-slice_bounds-measure-count t c = omega (arith, c.loop.invariant.within)

pub measure_sig-slice_bounds-measure-start : goal.measure_sig-slice_bounds-measure-start
measure_sig-slice_bounds-measure-start t c = omega (arith, c.loop.invariant.within)

pub measure_sig-measure-m-requires : goal.measure_sig-measure-m-requires
measure_sig-measure-m-requires t c = (omega (arith, c.decreases), parameter_there c.loop.invariant c.loop-test.true)

pub measure_sig-overflow_add-at : goal.measure_sig-overflow_add-at
measure_sig-overflow_add-at t c =
    omega (arith, c.well_formed, parameter_ends c.loop.invariant c.loop-test.true _ _ c.measure-m.ensures)

pub measure_sig-overflow_add-to : goal.measure_sig-overflow_add-to
measure_sig-overflow_add-to t c =
    omega
    (arith, c.well_formed, parameter_ends c.loop.invariant c.loop-test.true _ _ c.measure-m.ensures)

pub measure_sig-loop-preserved : goal.measure_sig-loop-preserved
measure_sig-loop-preserved t c = parameter_next c.loop.invariant c.loop-test.true _ _ c.measure-m.ensures

pub measure_sig-slice_bounds-measure-count-2 : goal.measure_sig-slice_bounds-measure-count-2
measure_sig-slice_bounds-measure-count-2 t c = omega (arith, c.loop.invariant.within)

pub measure_sig-slice_bounds-measure-start-2 : goal.measure_sig-slice_bounds-measure-start-2
measure_sig-slice_bounds-measure-start-2 t c = omega (arith, c.loop.invariant.within)

pub measure_sig-measure-m-requires-2 : goal.measure_sig-measure-m-requires-2
measure_sig-measure-m-requires-2 t c = (omega (arith, c.decreases), result_there c.loop.invariant c.loop-test.false)

pub measure_sig-overflow_add-result : goal.measure_sig-overflow_add-result
measure_sig-overflow_add-result t c =
    omega (arith, c.well_formed, result_fits c.loop.invariant c.loop-test.false _ _ c.measure-m-2.ensures)

pub measure_sig-overflow_add-result-2 : goal.measure_sig-overflow_add-result-2
measure_sig-overflow_add-result-2 t c =
    omega (arith, c.well_formed, result_fits c.loop.invariant c.loop-test.false _ _ c.measure-m-2.ensures)

pub measure_sig-returns : goal.measure_sig-returns
measure_sig-returns t c = parameters_done c.loop.invariant c.loop-test.false _ _ c.measure-m-2.ensures
