-- The cycle `display::show`, `show_inner`, `show_fields`, `show_sig` meets its contracts; twice the level, and at most 1 more, falls at each call.
-- One template for all: a text stands between the two pieces around its part; the loops keep what is left of the tree and what was written of its text.
-- Assumes nothing.
use Prim.Native.Nat.{◌+◌}
use mathlib.Core.Path.{refl}
use mathlib.Core.List.{[]}
use native.Mathlib.Omega.{arith}
use Rattle.form.specs.Limits.{name_width}
use Rattle.form.proofs.Runs.{length_rest}
use Rattle.display.proofs.ShowContract.{wrap_ok, wrap_none, wrap_fits, wrap_done, wrap_open}
use Rattle.display.proofs.ShowNodes.{node, simple_short, simple_done, list_ok, range_ok, list_done, range_done, in_inner, in_context, in_function}
use Rattle.display.proofs.ShowFields.{fields_start, name_there, name_missing, label_fits, type_there, type_missing, type_fits, field_next, fields_done}
use Rattle.display.proofs.ShowSigs.{sig_start, param_there, param_missing, gap_fits, param_fits, param_next, result_there, result_missing, result_fits, sig_done}
use Rattle.display.proofs.+shows.Goals as goal

pub show-bounds-t-0 : goal.show-bounds-t-0
show-bounds-t-0 t c =
    (node c.args.left c.args.t.now c.requires.ok).some

pub show-overflow_sub-c : goal.show-overflow_sub-c
show-overflow_sub-c t c =
    (node c.args.left c.args.t.now c.requires.ok).low

pub show-put-requires : goal.show-put-requires
show-put-requires t c =
    omega (arith, simple_short c.simple_names.result.now c.simple_names.ensures c.from.result (omega arith) (record { ref_ptr = (0, 0); now = [] }))

pub show-returns-then-c-lt-LIST_TYPE-clause-shows : goal.show-returns-then-c-lt-LIST_TYPE-clause-shows
show-returns-then-c-lt-LIST_TYPE-clause-shows t c =
    let args = c.args in
    let pre = c.requires in
    let put = c.put.ensures in
    simple_done args.left args.t.now args.texts.now pre.ok c.if-c-lt-LIST_TYPE.true _ c.from.ensures _ c.simple_names.ensures _ _ _ _ _ put.value put.out_after

pub show-returns-then-c-lt-LIST_TYPE-clause-bound : goal.show-returns-then-c-lt-LIST_TYPE-clause-bound
show-returns-then-c-lt-LIST_TYPE-clause-bound t c =
    omega (arith, simple_short c.simple_names.result.now c.simple_names.ensures c.from.result (omega arith) (record { ref_ptr = (0, 0); now = [] }))

pub show-overflow_sub-left : goal.show-overflow_sub-left
show-overflow_sub-left t c =
    (node c.args.left c.args.t.now c.requires.ok).level

pub show-show_inner-requires : goal.show-show_inner-requires
show-show_inner-requires t c =
    let args = c.args in
    let pre = c.requires in
    let n = node args.left args.t.now pre.ok in
    let k = length_rest args.t.now 1 in
    (omega (arith, c.decreases, n.level), (omega arith, (omega (arith, k), (list_ok args.left args.t.now args.texts.now pre.ok c.if-c-eq-LIST_TYPE.true, omega (arith, k, n.some)))))

pub show-returns-then-c-eq-LIST_TYPE-clause-shows : goal.show-returns-then-c-eq-LIST_TYPE-clause-shows
show-returns-then-c-eq-LIST_TYPE-clause-shows t c =
    list_done c.args.left c.args.t.now c.args.texts.now c.requires.ok _ _ _ _ c.if-c-eq-LIST_TYPE.true c.show_inner.ensures.shows

pub show-overflow_sub-left-then-c-eq-RANGE_TYPE : goal.show-overflow_sub-left-then-c-eq-RANGE_TYPE
show-overflow_sub-left-then-c-eq-RANGE_TYPE t c =
    (node c.args.left c.args.t.now c.requires.ok).level

pub show-show_inner-requires-then-c-eq-RANGE_TYPE : goal.show-show_inner-requires-then-c-eq-RANGE_TYPE
show-show_inner-requires-then-c-eq-RANGE_TYPE t c =
    let args = c.args in
    let pre = c.requires in
    let n = node args.left args.t.now pre.ok in
    let k = length_rest args.t.now 1 in
    (omega (arith, c.decreases, n.level), (omega arith, (omega (arith, k), (range_ok args.left args.t.now args.texts.now pre.ok c.if-c-eq-RANGE_TYPE.true, omega (arith, k, n.some)))))

pub show-returns-then-c-eq-RANGE_TYPE-clause-shows : goal.show-returns-then-c-eq-RANGE_TYPE-clause-shows
show-returns-then-c-eq-RANGE_TYPE-clause-shows t c =
    range_done c.args.left c.args.t.now c.args.texts.now c.requires.ok _ _ _ _ c.if-c-eq-RANGE_TYPE.true c.show_inner-then-c-eq-RANGE_TYPE.ensures.shows

pub show-slice_bounds-show_fields-count : goal.show-slice_bounds-show_fields-count
show-slice_bounds-show_fields-count t c =
    (node c.args.left c.args.t.now c.requires.ok).context c.if-c-eq-CONTEXT_TYPE.true

pub show-slice_bounds-show_fields-start : goal.show-slice_bounds-show_fields-start
show-slice_bounds-show_fields-start t c =
    omega (arith, (node c.args.left c.args.t.now c.requires.ok).context c.if-c-eq-CONTEXT_TYPE.true)

pub show-word_at-requires : goal.show-word_at-requires
show-word_at-requires t c =
    (node c.args.left c.args.t.now c.requires.ok).context c.if-c-eq-CONTEXT_TYPE.true

pub show-overflow_sub-left-then-c-eq-CONTEXT_TYPE : goal.show-overflow_sub-left-then-c-eq-CONTEXT_TYPE
show-overflow_sub-left-then-c-eq-CONTEXT_TYPE t c =
    (node c.args.left c.args.t.now c.requires.ok).level

pub show-show_fields-requires : goal.show-show_fields-requires
show-show_fields-requires t c =
    let args = c.args in
    let pre = c.requires in
    let w = in_context args.left args.t.now args.texts.now pre.ok pre.t_len_bound c.if-c-eq-CONTEXT_TYPE.true _ c.word_at.ensures.0 in
    let n = node args.left args.t.now pre.ok in
    let k = length_rest args.t.now 3 in
    (omega (arith, c.decreases, n.level), (omega (arith, k), (wrap_ok w, omega (arith, k, n.context c.if-c-eq-CONTEXT_TYPE.true))))

pub show-returns-in_err-fields-clause-shows : goal.show-returns-in_err-fields-clause-shows
show-returns-in_err-fields-clause-shows t c =
    let args = c.args in
    let pre = c.requires in
    let w = in_context args.left args.t.now args.texts.now pre.ok pre.t_len_bound c.if-c-eq-CONTEXT_TYPE.true _ c.word_at.ensures.0 in
    let put = c.put-from.ensures in
    wrap_none w args.at _ args.out.now _ _ _ put.value put.out_after c.show_fields.ensures.shows c.in_err-fields.was _ _ c.from_residual.ensures

pub show-overflow_add-result : goal.show-overflow_add-result
show-overflow_add-result t c =
    let args = c.args in
    let pre = c.requires in
    let w = in_context args.left args.t.now args.texts.now pre.ok pre.t_len_bound c.if-c-eq-CONTEXT_TYPE.true _ c.word_at.ensures.0 in
    let put = c.put-from.ensures in
    omega (arith, wrap_fits w args.at _ args.out.now _ _ _ put.value put.out_after c.show_fields.ensures.shows _ c.in_ok-fields.was)

pub show-put-requires-then-c-eq-CONTEXT_TYPE : goal.show-put-requires-then-c-eq-CONTEXT_TYPE
show-put-requires-then-c-eq-CONTEXT_TYPE t c =
    let args = c.args in
    let pre = c.requires in
    let w = in_context args.left args.t.now args.texts.now pre.ok pre.t_len_bound c.if-c-eq-CONTEXT_TYPE.true _ c.word_at.ensures.0 in
    let put = c.put-from.ensures in
    omega (arith, put.value, c.in_ok-fields.ensures.bound, pre.room, wrap_fits w args.at _ args.out.now _ _ _ put.value put.out_after c.show_fields.ensures.shows _ c.in_ok-fields.was)

pub show-returns-then-c-eq-CONTEXT_TYPE-clause-shows : goal.show-returns-then-c-eq-CONTEXT_TYPE-clause-shows
show-returns-then-c-eq-CONTEXT_TYPE-clause-shows t c =
    let args = c.args in
    let pre = c.requires in
    let w = in_context args.left args.t.now args.texts.now pre.ok pre.t_len_bound c.if-c-eq-CONTEXT_TYPE.true _ c.word_at.ensures.0 in
    let put = c.put-from.ensures in
    let last = c.put-then-c-eq-CONTEXT_TYPE.ensures in
    wrap_done w args.at _ args.out.now _ _ _ put.value put.out_after c.show_fields.ensures.shows _ c.in_ok-fields.was _ _ last.value last.out_after _ refl

pub show-slice_bounds-show_sig-count : goal.show-slice_bounds-show_sig-count
show-slice_bounds-show_sig-count t c =
    let n = node c.args.left c.args.t.now c.requires.ok in
    n.function (n.last c.if-c-lt-LIST_TYPE.false c.if-c-eq-LIST_TYPE.false c.if-c-eq-RANGE_TYPE.false c.if-c-eq-CONTEXT_TYPE.false)

pub show-slice_bounds-show_sig-start : goal.show-slice_bounds-show_sig-start
show-slice_bounds-show_sig-start t c =
    let n = node c.args.left c.args.t.now c.requires.ok in
    omega (arith, n.function (n.last c.if-c-lt-LIST_TYPE.false c.if-c-eq-LIST_TYPE.false c.if-c-eq-RANGE_TYPE.false c.if-c-eq-CONTEXT_TYPE.false))

pub show-bounds-t-1 : goal.show-bounds-t-1
show-bounds-t-1 t c =
    let n = node c.args.left c.args.t.now c.requires.ok in
    omega (arith, n.function (n.last c.if-c-lt-LIST_TYPE.false c.if-c-eq-LIST_TYPE.false c.if-c-eq-RANGE_TYPE.false c.if-c-eq-CONTEXT_TYPE.false))

pub show-overflow_sub-left-2 : goal.show-overflow_sub-left-2
show-overflow_sub-left-2 t c =
    (node c.args.left c.args.t.now c.requires.ok).level

pub show-show_sig-requires : goal.show-show_sig-requires
show-show_sig-requires t c =
    let args = c.args in
    let pre = c.requires in
    let n = node args.left args.t.now pre.ok in
    let e = n.last c.if-c-lt-LIST_TYPE.false c.if-c-eq-LIST_TYPE.false c.if-c-eq-RANGE_TYPE.false c.if-c-eq-CONTEXT_TYPE.false in
    let w = in_function args.left args.t.now args.texts.now pre.ok pre.t_len_bound e _ c.from-2.ensures in
    let k = length_rest args.t.now 2 in
    (omega (arith, c.decreases, n.level), (omega (arith, k), (wrap_ok w, omega (arith, k, n.function e))))

pub show-returns-in_err-sig-clause-shows : goal.show-returns-in_err-sig-clause-shows
show-returns-in_err-sig-clause-shows t c =
    let args = c.args in
    let pre = c.requires in
    let n = node args.left args.t.now pre.ok in
    let e = n.last c.if-c-lt-LIST_TYPE.false c.if-c-eq-LIST_TYPE.false c.if-c-eq-RANGE_TYPE.false c.if-c-eq-CONTEXT_TYPE.false in
    let w = in_function args.left args.t.now args.texts.now pre.ok pre.t_len_bound e _ c.from-2.ensures in
    let put = c.put-from-2.ensures in
    wrap_none w args.at _ args.out.now _ _ _ put.value put.out_after c.show_sig.ensures.shows c.in_err-sig.was _ _ c.from_residual-in_err-sig.ensures

pub show-overflow_add-result-2 : goal.show-overflow_add-result-2
show-overflow_add-result-2 t c =
    let args = c.args in
    let pre = c.requires in
    let n = node args.left args.t.now pre.ok in
    let e = n.last c.if-c-lt-LIST_TYPE.false c.if-c-eq-LIST_TYPE.false c.if-c-eq-RANGE_TYPE.false c.if-c-eq-CONTEXT_TYPE.false in
    let w = in_function args.left args.t.now args.texts.now pre.ok pre.t_len_bound e _ c.from-2.ensures in
    let put = c.put-from-2.ensures in
    omega (arith, wrap_fits w args.at _ args.out.now _ _ _ put.value put.out_after c.show_sig.ensures.shows _ c.in_ok-sig.was)

pub show-returns-clause-shows : goal.show-returns-clause-shows
show-returns-clause-shows t c =
    let args = c.args in
    let pre = c.requires in
    let n = node args.left args.t.now pre.ok in
    let e = n.last c.if-c-lt-LIST_TYPE.false c.if-c-eq-LIST_TYPE.false c.if-c-eq-RANGE_TYPE.false c.if-c-eq-CONTEXT_TYPE.false in
    let w = in_function args.left args.t.now args.texts.now pre.ok pre.t_len_bound e _ c.from-2.ensures in
    let put = c.put-from-2.ensures in
    wrap_open w args.at _ args.out.now _ _ _ put.value put.out_after c.show_sig.ensures.shows _ c.in_ok-sig.was refl _ refl

pub show_inner-returns-in_err-inner-clause-shows : goal.show_inner-returns-in_err-inner-clause-shows
show_inner-returns-in_err-inner-clause-shows t c =
    let args = c.args in
    let pre = c.requires in
    let w = in_inner args.left args.t.now args.texts.now pre.ok pre.t_len_bound args.front.now in
    let put = c.put-from.ensures in
    wrap_none w args.at _ args.out.now _ _ _ put.value put.out_after c.show.ensures.shows c.in_err-inner.was _ _ c.from_residual.ensures

pub show_inner-overflow_add-result : goal.show_inner-overflow_add-result
show_inner-overflow_add-result t c =
    let args = c.args in
    let pre = c.requires in
    let w = in_inner args.left args.t.now args.texts.now pre.ok pre.t_len_bound args.front.now in
    let put = c.put-from.ensures in
    omega (arith, wrap_fits w args.at _ args.out.now _ _ _ put.value put.out_after c.show.ensures.shows _ c.in_ok-inner.was)

pub show_inner-put-requires : goal.show_inner-put-requires
show_inner-put-requires t c =
    let args = c.args in
    let pre = c.requires in
    let w = in_inner args.left args.t.now args.texts.now pre.ok pre.t_len_bound args.front.now in
    let put = c.put-from.ensures in
    omega (arith, put.value, c.in_ok-inner.ensures.bound, pre.room, pre.front_len_bound, wrap_fits w args.at _ args.out.now _ _ _ put.value put.out_after c.show.ensures.shows _ c.in_ok-inner.was)

pub show_inner-returns-clause-shows : goal.show_inner-returns-clause-shows
show_inner-returns-clause-shows t c =
    let args = c.args in
    let pre = c.requires in
    let w = in_inner args.left args.t.now args.texts.now pre.ok pre.t_len_bound args.front.now in
    let put = c.put-from.ensures in
    wrap_done w args.at _ args.out.now _ _ _ put.value put.out_after c.show.ensures.shows _ c.in_ok-inner.was _ _ c.put.ensures.value c.put.ensures.out_after _ refl

pub show_fields-loop-i-init : goal.show_fields-loop-i-init
show_fields-loop-i-init t c =
    fields_start c.args.left c.args.s.now c.args.count c.args.texts.now c.args.at c.args.out.now c.requires.ok

pub show_fields-name_at-requires : goal.show_fields-name_at-requires
show_fields-name_at-requires t c =
    name_there c.loop-i.invariant c.loop-i-test.true

pub show_fields-returns-in_err-name-clause-shows : goal.show_fields-returns-in_err-name-clause-shows
show_fields-returns-in_err-name-clause-shows t c =
    name_missing c.loop-i.invariant c.loop-i-test.true _ c.name_at.ensures.0 c.in_err-name.ensures.text _ _ c.from_residual.ensures

pub show_fields-slice_bounds-show-count : goal.show_fields-slice_bounds-show-count
show_fields-slice_bounds-show-count t c =
    name_there c.loop-i.invariant c.loop-i-test.true

pub show_fields-slice_bounds-show-start : goal.show_fields-slice_bounds-show-start
show_fields-slice_bounds-show-start t c =
    omega (arith, name_there c.loop-i.invariant c.loop-i-test.true)

pub show_fields-show-requires : goal.show_fields-show-requires
show_fields-show-requires t c =
    let name = c.in_ok-name.ensures in
    let put = c.put_label-to.ensures in
    let k = length_rest c.args.s.now (c.loop-i.read + name_width) in
    let there = name_there c.loop-i.invariant c.loop-i-test.true in
    let fits = label_fits c.loop-i.invariant c.loop-i-test.true _ c.name_at.ensures.0 _ name.text name.bound _ _ put.value put.out_after in
    (omega (arith, c.decreases), (omega (arith, k), (type_there c.loop-i.invariant c.loop-i-test.true, omega (arith, k, there, fits))))

pub show_fields-returns-in_err-shown-clause-shows : goal.show_fields-returns-in_err-shown-clause-shows
show_fields-returns-in_err-shown-clause-shows t c =
    let name = c.in_ok-name.ensures in
    let put = c.put_label-to.ensures in
    type_missing c.loop-i.invariant c.loop-i-test.true _ c.name_at.ensures.0 _ name.text name.bound _ _ put.value put.out_after
    _ _ c.show.ensures.shows c.in_err-shown.was _ _ c.from_residual-in_err-shown.ensures

pub show_fields-overflow_add-read : goal.show_fields-overflow_add-read
show_fields-overflow_add-read t c =
    let name = c.in_ok-name.ensures in
    let put = c.put_label-to.ensures in
    let fits = type_fits c.loop-i.invariant c.loop-i-test.true _ c.name_at.ensures.0 _ name.text name.bound _ _ put.value put.out_after in
    omega (arith, c.requires.s_len_bound, fits _ _ c.show.ensures.shows _ c.in_ok-shown.was)

pub show_fields-loop-i-preserved : goal.show_fields-loop-i-preserved
show_fields-loop-i-preserved t c =
    let name = c.in_ok-name.ensures in
    let put = c.put_label-to.ensures in
    field_next c.loop-i.invariant c.loop-i-test.true _ c.name_at.ensures.0 _ name.text name.bound _ _ put.value put.out_after
    _ _ c.show.ensures.shows _ c.in_ok-shown.was c.in_ok-shown.ensures.bound

pub show_fields-returns-clause-shows : goal.show_fields-returns-clause-shows
show_fields-returns-clause-shows t c =
    fields_done c.loop-i.invariant c.loop-i-test.false _ refl

pub show_sig-loop-i-init : goal.show_sig-loop-i-init
show_sig-loop-i-init t c =
    sig_start c.args.left c.args.s.now c.args.count c.args.texts.now c.args.at c.args.out.now c.requires.ok

pub show_sig-show-requires : goal.show_sig-show-requires
show_sig-show-requires t c =
    let put = c.put_gap-to.ensures in
    let k = length_rest c.args.s.now c.loop-i.read in
    let fits = gap_fits c.loop-i.invariant c.loop-i-test.true _ _ put.value put.out_after in
    (omega (arith, c.decreases), (omega (arith, k), (param_there c.loop-i.invariant c.loop-i-test.true, omega (arith, k, c.requires.room, c.loop-i.invariant.in_s, fits))))

pub show_sig-returns-in_err-shown-clause-shows : goal.show_sig-returns-in_err-shown-clause-shows
show_sig-returns-in_err-shown-clause-shows t c =
    let put = c.put_gap-to.ensures in
    param_missing c.loop-i.invariant c.loop-i-test.true _ _ put.value put.out_after _ _ c.show.ensures.shows c.in_err-shown.was _ _ c.from_residual.ensures

pub show_sig-overflow_add-read : goal.show_sig-overflow_add-read
show_sig-overflow_add-read t c =
    let put = c.put_gap-to.ensures in
    omega (arith, c.requires.s_len_bound, param_fits c.loop-i.invariant c.loop-i-test.true _ _ put.value put.out_after _ _ c.show.ensures.shows _ c.in_ok-shown.was)

pub show_sig-loop-i-preserved : goal.show_sig-loop-i-preserved
show_sig-loop-i-preserved t c =
    let put = c.put_gap-to.ensures in
    param_next c.loop-i.invariant c.loop-i-test.true _ _ put.value put.out_after _ _ c.show.ensures.shows _ c.in_ok-shown.was c.in_ok-shown.ensures.bound

pub show_sig-show-requires-2 : goal.show_sig-show-requires-2
show_sig-show-requires-2 t c =
    let put = c.put-to.ensures in
    let k = length_rest c.args.s.now c.loop-i.read in
    let Q = c.loop-i.invariant in
    (omega (arith, c.decreases), (omega (arith, k), (result_there Q c.loop-i-test.false, omega (arith, k, c.requires.room, put.value, Q.in_s, Q.low))))

pub show_sig-returns-in_err-shown-2-clause-shows : goal.show_sig-returns-in_err-shown-2-clause-shows
show_sig-returns-in_err-shown-2-clause-shows t c =
    let put = c.put-to.ensures in
    result_missing c.loop-i.invariant c.loop-i-test.false _ _ put.value put.out_after _ _ c.show-2.ensures.shows c.in_err-shown-2.was _ _ c.from_residual-in_err-shown-2.ensures

pub show_sig-overflow_add-result : goal.show_sig-overflow_add-result
show_sig-overflow_add-result t c =
    let put = c.put-to.ensures in
    omega (arith, c.requires.s_len_bound, result_fits c.loop-i.invariant c.loop-i-test.false _ _ put.value put.out_after _ _ c.show-2.ensures.shows _ c.in_ok-shown-2.was)

pub show_sig-returns-clause-shows : goal.show_sig-returns-clause-shows
show_sig-returns-clause-shows t c =
    let put = c.put-to.ensures in
    sig_done c.loop-i.invariant c.loop-i-test.false _ _ put.value put.out_after _ _ c.show-2.ensures.shows _ c.in_ok-shown-2.was _ refl
