-- The cycle `retrieval::builder::retrieve`, `retrieve_list`, `retrieve_context` meets its contracts; the measure is twice the level that is left, one more for `retrieve`.
-- One template for all: each branch is a law of ByCommand; the loops keep what was written and what is left of the answer (ItemsLoop, EntriesLoop).
-- Assumes nothing.
use mathlib.Core.Path.{ap, ◌∙◌}
use native.Mathlib.Omega.{arith}
use lib.ListN.{length}
use lib.Seq.{length-take-le}
use Rattle.form.proofs.Whole.{bytes_of}
use Rattle.output.proofs.FillLaws.{length_fill}
use Rattle.retrieval.proofs.ItemsLoop.{Lists, lists, ListInv, list_begins, list_kept, type_ok, item_ok, item_no, item_read, item_wrote, item_next, list_done, list_none, list_type_lem}
use Rattle.retrieval.proofs.ItemsLoop as listing
use Rattle.retrieval.proofs.EntriesLoop.{contexts, context_begins, context_kept, peek_v, peek_t, more_v, name_v, skip_v, passed_v, more_t, name_t, skip_t}
use Rattle.retrieval.proofs.EntriesLoop.{passed_t, both_v, both_t, common_v, common_t, common_to, common_ok_v, common_ok_t, back_kept, common-no, both-read-v, both-read-t, both-wrote}
use Rattle.retrieval.proofs.EntriesLoop.{common-next, context_done}
use Rattle.retrieval.proofs.ByCommand.{first_v, first_t, null_done, list_refused, context_refused, kind_refused, copy_fits, kind_copied}
use Rattle.retrieval.proofs.builder.+retrieve_retrieve_context_retrieve_list.Goals as goal

pub retrieve-bounds-v-0 : goal.retrieve-bounds-v-0
retrieve-bounds-v-0 t c =
    omega (
      arith,
      first_v c.args.left c.args.t.now c.args.v.now c.requires.ok c.requires.ok_2,
    )

pub retrieve-bounds-t-0 : goal.retrieve-bounds-t-0
retrieve-bounds-t-0 t c =
    omega (
      arith,
      first_t c.args.left c.args.t.now c.args.v.now c.requires.ok c.requires.ok_2,
    )

pub retrieve-returns-then-c-eq-NULL : goal.retrieve-returns-then-c-eq-NULL
retrieve-returns-then-c-eq-NULL t c =
    null_done c.args.left c.args.t.now c.args.v.now c.requires.ok c.requires.ok_2 c.if-c-eq-NULL.true _ c.skip.ensures _ _
    c.fill.ensures

pub retrieve-returns-then-d-eq-LIST_TYPE : goal.retrieve-returns-then-d-eq-LIST_TYPE
retrieve-returns-then-d-eq-LIST_TYPE t c =
    list_refused c.args.left c.args.t.now c.args.v.now c.requires.ok c.requires.ok_2 c.if-d-eq-LIST_TYPE.true
    c.if-c-eq-NULL.false c.if-c-eq-LIST.false _

pub retrieve-returns-then-d-eq-CONTEXT_TYPE : goal.retrieve-returns-then-d-eq-CONTEXT_TYPE
retrieve-returns-then-d-eq-CONTEXT_TYPE t c =
    context_refused c.args.left c.args.t.now c.args.v.now c.requires.ok c.requires.ok_2 c.if-d-eq-CONTEXT_TYPE.true
    c.if-c-eq-NULL.false c.if-c-eq-CONTEXT.false _

pub retrieve-slice_bounds-fill-end-then-outer_kind : goal.retrieve-slice_bounds-fill-end-then-outer_kind
retrieve-slice_bounds-fill-end-then-outer_kind t c =
    omega (
      arith,
      length-take-le _ c.args.v.now
          (copy_fits c.args.left c.args.t.now c.args.v.now c.requires.ok c.requires.ok_2 c.if-c-eq-NULL.false
          c.if-d-eq-LIST_TYPE.false c.if-d-eq-CONTEXT_TYPE.false _ c.outer_kind.ensures
          (bytes_of c.args.v.now c.shared_slice_known-2-1.given) _ c.skip-n.ensures),
    )

pub retrieve-returns-then-outer_kind : goal.retrieve-returns-then-outer_kind
retrieve-returns-then-outer_kind t c =
    kind_copied c.args.left c.args.t.now c.args.v.now c.requires.ok c.requires.ok_2 c.if-c-eq-NULL.false
    c.if-d-eq-LIST_TYPE.false c.if-d-eq-CONTEXT_TYPE.false _ c.outer_kind.ensures (bytes_of c.args.v.now c.shared_slice_known-2-1.given) _
    c.skip-n.ensures c.if-outer_kind.true _ c.skip-then-outer_kind.ensures _ _ c.fill-then-outer_kind.ensures

pub retrieve-returns : goal.retrieve-returns
retrieve-returns t c =
    kind_refused c.args.left c.args.t.now c.args.v.now c.requires.ok c.requires.ok_2 c.if-c-eq-NULL.false c.if-d-eq-LIST_TYPE.false
    c.if-d-eq-CONTEXT_TYPE.false _ c.outer_kind.ensures c.if-outer_kind.false _

pub retrieve_context-word_at-m-requires : goal.retrieve_context-word_at-m-requires
retrieve_context-word_at-m-requires t c = (contexts c.args.left c.args.t.now c.args.v.now c.requires.ok c.requires.ok_2 c.requires.t_value.0 c.requires.t_value.1).three_t

pub retrieve_context-word_at-n-requires : goal.retrieve_context-word_at-n-requires
retrieve_context-word_at-n-requires t c = (contexts c.args.left c.args.t.now c.args.v.now c.requires.ok c.requires.ok_2 c.requires.t_value.0 c.requires.t_value.1).three_v

pub retrieve_context-slice_bounds-fill-end : goal.retrieve_context-slice_bounds-fill-end
retrieve_context-slice_bounds-fill-end t c =
    omega (
      arith,
      length-take-le 3 c.args.v.now (contexts c.args.left c.args.t.now c.args.v.now c.requires.ok c.requires.ok_2 c.requires.t_value.0 c.requires.t_value.1).three_v,
    )

pub retrieve_context-loop-p-init : goal.retrieve_context-loop-p-init
retrieve_context-loop-p-init t c =
    context_begins (contexts c.args.left c.args.t.now c.args.v.now c.requires.ok c.requires.ok_2 c.requires.t_value.0 c.requires.t_value.1)
    _ _ c.args.out.now _ c.word_at-m.ensures.0 c.word_at-n.ensures.0
    c.word_at-n.ensures.1 c.fill.ensures

pub retrieve_context-next_name-x-requires : goal.retrieve_context-next_name-x-requires
retrieve_context-next_name-x-requires t c = peek_v c.loop-p.invariant

pub retrieve_context-next_name-y-requires : goal.retrieve_context-next_name-y-requires
retrieve_context-next_name-y-requires t c = peek_t c.loop-p.invariant

pub retrieve_context-slice_bounds-skip-count : goal.retrieve_context-slice_bounds-skip-count
retrieve_context-slice_bounds-skip-count t c =
    omega (
      arith,
      name_v c.loop-p.invariant c.next_name-x.result c.next_name-y.result c.next_name-x.ensures.value c.next_name-y.ensures.value
          c.next_name-x.ensures.upper_bound.0 c.next_name-y.ensures.upper_bound.0 c.if-x-y.true,
    )

pub retrieve_context-slice_bounds-skip-start : goal.retrieve_context-slice_bounds-skip-start
retrieve_context-slice_bounds-skip-start t c =
    omega (
      arith,
      name_v c.loop-p.invariant c.next_name-x.result c.next_name-y.result c.next_name-x.ensures.value c.next_name-y.ensures.value
          c.next_name-x.ensures.upper_bound.0 c.next_name-y.ensures.upper_bound.0 c.if-x-y.true,
    )

pub retrieve_context-overflow_add-at : goal.retrieve_context-overflow_add-at
retrieve_context-overflow_add-at t c =
    omega (
      arith,
      c.well_formed,
      skip_v c.loop-p.invariant c.next_name-x.result c.next_name-y.result c.next_name-x.ensures.value
          c.next_name-y.ensures.value c.next_name-x.ensures.upper_bound.0 c.next_name-y.ensures.upper_bound.0 c.if-x-y.true _
          c.skip.ensures,
    )

pub retrieve_context-loop-p-smaller-then-x-y : goal.retrieve_context-loop-p-smaller-then-x-y
retrieve_context-loop-p-smaller-then-x-y t c =
    omega (
      arith,
      more_v c.loop-p.invariant c.next_name-x.result c.next_name-y.result c.next_name-x.ensures.value
          c.next_name-y.ensures.value c.next_name-x.ensures.upper_bound.0 c.next_name-y.ensures.upper_bound.0 c.if-x-y.true,
    )

pub retrieve_context-loop-p-preserved-then-x-y : goal.retrieve_context-loop-p-preserved-then-x-y
retrieve_context-loop-p-preserved-then-x-y t c =
    passed_v c.loop-p.invariant c.next_name-x.result c.next_name-y.result c.next_name-x.ensures.value
    c.next_name-y.ensures.value c.next_name-x.ensures.upper_bound.0 c.next_name-y.ensures.upper_bound.0 c.if-x-y.true _
    c.skip.ensures

pub retrieve_context-slice_bounds-skip-count-then-y-x : goal.retrieve_context-slice_bounds-skip-count-then-y-x
retrieve_context-slice_bounds-skip-count-then-y-x t c =
    omega (
      arith,
      name_t c.loop-p.invariant c.next_name-x.result c.next_name-y.result c.next_name-x.ensures.value
          c.next_name-y.ensures.value c.next_name-x.ensures.upper_bound.0 c.next_name-y.ensures.upper_bound.0 c.if-y-x.true,
    )

pub retrieve_context-slice_bounds-skip-start-then-y-x : goal.retrieve_context-slice_bounds-skip-start-then-y-x
retrieve_context-slice_bounds-skip-start-then-y-x t c =
    omega (
      arith,
      name_t c.loop-p.invariant c.next_name-x.result c.next_name-y.result c.next_name-x.ensures.value
          c.next_name-y.ensures.value c.next_name-x.ensures.upper_bound.0 c.next_name-y.ensures.upper_bound.0 c.if-y-x.true,
    )

pub retrieve_context-overflow_add-bt : goal.retrieve_context-overflow_add-bt
retrieve_context-overflow_add-bt t c =
    omega (
      arith,
      c.well_formed,
      skip_t c.loop-p.invariant c.next_name-x.result c.next_name-y.result c.next_name-x.ensures.value
          c.next_name-y.ensures.value c.next_name-x.ensures.upper_bound.0 c.next_name-y.ensures.upper_bound.0 c.if-y-x.true _
          c.skip-then-y-x.ensures,
    )

pub retrieve_context-loop-p-smaller-then-y-x : goal.retrieve_context-loop-p-smaller-then-y-x
retrieve_context-loop-p-smaller-then-y-x t c =
    omega (
      arith,
      more_t c.loop-p.invariant c.next_name-x.result c.next_name-y.result c.next_name-x.ensures.value
          c.next_name-y.ensures.value c.next_name-x.ensures.upper_bound.0 c.next_name-y.ensures.upper_bound.0 c.if-y-x.true,
    )

pub retrieve_context-loop-p-preserved-then-y-x : goal.retrieve_context-loop-p-preserved-then-y-x
retrieve_context-loop-p-preserved-then-y-x t c =
    passed_t c.loop-p.invariant c.next_name-x.result c.next_name-y.result c.next_name-x.ensures.value
    c.next_name-y.ensures.value c.next_name-x.ensures.upper_bound.0 c.next_name-y.ensures.upper_bound.0 c.if-y-x.true _
    c.skip-then-y-x.ensures

pub retrieve_context-slice_bounds-fill-end-in-loop-p : goal.retrieve_context-slice_bounds-fill-end-in-loop-p
retrieve_context-slice_bounds-fill-end-in-loop-p t c =
    omega (
      arith,
      common_v c.loop-p.invariant c.next_name-x.result c.next_name-y.result c.next_name-x.ensures.value
          c.next_name-y.ensures.value c.next_name-x.ensures.upper_bound.0 c.next_name-y.ensures.upper_bound.0 c.if-x-y.false
          c.if-y-x.false c.if-x-eq-NAME_END.false,
    )

pub retrieve_context-slice_bounds-retrieve-count : goal.retrieve_context-slice_bounds-retrieve-count
retrieve_context-slice_bounds-retrieve-count t c =
    omega (
      arith,
      common_t c.loop-p.invariant c.next_name-x.result c.next_name-y.result c.next_name-x.ensures.value
          c.next_name-y.ensures.value c.next_name-x.ensures.upper_bound.0 c.next_name-y.ensures.upper_bound.0 c.if-x-y.false c.if-y-x.false
          c.if-x-eq-NAME_END.false,
    )

pub retrieve_context-slice_bounds-retrieve-start : goal.retrieve_context-slice_bounds-retrieve-start
retrieve_context-slice_bounds-retrieve-start t c =
    omega (
      arith,
      common_t c.loop-p.invariant c.next_name-x.result c.next_name-y.result c.next_name-x.ensures.value
          c.next_name-y.ensures.value c.next_name-x.ensures.upper_bound.0 c.next_name-y.ensures.upper_bound.0 c.if-x-y.false c.if-y-x.false
          c.if-x-eq-NAME_END.false,
    )

pub retrieve_context-slice_bounds-retrieve-count-in-loop-p : goal.retrieve_context-slice_bounds-retrieve-count-in-loop-p
retrieve_context-slice_bounds-retrieve-count-in-loop-p t c =
    omega (
      arith,
      common_v c.loop-p.invariant c.next_name-x.result c.next_name-y.result c.next_name-x.ensures.value
          c.next_name-y.ensures.value c.next_name-x.ensures.upper_bound.0 c.next_name-y.ensures.upper_bound.0 c.if-x-y.false c.if-y-x.false
          c.if-x-eq-NAME_END.false,
    )

pub retrieve_context-slice_bounds-retrieve-start-in-loop-p : goal.retrieve_context-slice_bounds-retrieve-start-in-loop-p
retrieve_context-slice_bounds-retrieve-start-in-loop-p t c =
    omega (
      arith,
      common_v c.loop-p.invariant c.next_name-x.result c.next_name-y.result c.next_name-x.ensures.value
          c.next_name-y.ensures.value c.next_name-x.ensures.upper_bound.0 c.next_name-y.ensures.upper_bound.0 c.if-x-y.false c.if-y-x.false
          c.if-x-eq-NAME_END.false,
    )

pub retrieve_context-retrieve-requires : goal.retrieve_context-retrieve-requires
retrieve_context-retrieve-requires t c =
    let next-name = c.next_name-x in (
      omega (arith, c.requires-raw.0, (contexts c.args.left c.args.t.now c.args.v.now c.requires.ok c.requires.ok_2 c.requires.t_value.0 c.requires.t_value.1).level),
      (
        common_ok_t c.loop-p.invariant next-name.result c.next_name-y.result next-name.ensures.value c.next_name-y.ensures.value
            next-name.ensures.upper_bound.0 c.next_name-y.ensures.upper_bound.0 c.if-x-y.false c.if-y-x.false c.if-x-eq-NAME_END.false,
        common_ok_v c.loop-p.invariant next-name.result c.next_name-y.result next-name.ensures.value c.next_name-y.ensures.value
            next-name.ensures.upper_bound.0 c.next_name-y.ensures.upper_bound.0 c.if-x-y.false c.if-y-x.false c.if-x-eq-NAME_END.false,
      ),
    )

pub retrieve_context-overflow_add-at-in-loop-p : goal.retrieve_context-overflow_add-at-in-loop-p
retrieve_context-overflow_add-at-in-loop-p t c =
    omega (
      arith,
      c.well_formed,
      both-read-v c.loop-p.invariant c.next_name-x.result c.next_name-y.result c.next_name-x.ensures.value
          c.next_name-y.ensures.value c.next_name-x.ensures.upper_bound.0 c.next_name-y.ensures.upper_bound.0 c.if-x-y.false
          c.if-y-x.false c.if-x-eq-NAME_END.false (bytes_of c.args.v.now c.shared_slice_known-2-1.given) _
          c.min-w.ensures _ c.fill-in-loop-p.ensures _ _ _ c.retrieve.ensures _ _ _ c.in_ok-e.was,
    )

pub retrieve_context-overflow_add-bt-in-loop-p : goal.retrieve_context-overflow_add-bt-in-loop-p
retrieve_context-overflow_add-bt-in-loop-p t c =
    omega (
      arith,
      c.well_formed,
      both-read-t c.loop-p.invariant c.next_name-x.result c.next_name-y.result c.next_name-x.ensures.value
          c.next_name-y.ensures.value c.next_name-x.ensures.upper_bound.0 c.next_name-y.ensures.upper_bound.0 c.if-x-y.false
          c.if-y-x.false c.if-x-eq-NAME_END.false (bytes_of c.args.v.now c.shared_slice_known-2-1.given) _
          c.min-w.ensures _ c.fill-in-loop-p.ensures _ _ _ c.retrieve.ensures _ _ _ c.in_ok-e.was,
    )

pub retrieve_context-overflow_add-to : goal.retrieve_context-overflow_add-to
retrieve_context-overflow_add-to t c =
    omega (
      arith,
      c.well_formed,
      common_to c.loop-p.invariant c.next_name-x.result c.next_name-y.result c.next_name-x.ensures.value
          c.next_name-y.ensures.value c.next_name-x.ensures.upper_bound.0 c.next_name-y.ensures.upper_bound.0 c.if-x-y.false
          c.if-y-x.false c.if-x-eq-NAME_END.false,
    )

pub retrieve_context-overflow_add-to-in-loop-p-2 : goal.retrieve_context-overflow_add-to-in-loop-p-2
retrieve_context-overflow_add-to-in-loop-p-2 t c =
    omega (
      arith,
      c.well_formed,
      both-wrote c.loop-p.invariant c.next_name-x.result c.next_name-y.result c.next_name-x.ensures.value
          c.next_name-y.ensures.value c.next_name-x.ensures.upper_bound.0 c.next_name-y.ensures.upper_bound.0 c.if-x-y.false
          c.if-y-x.false c.if-x-eq-NAME_END.false (bytes_of c.args.v.now c.shared_slice_known-2-1.given) _
          c.min-w.ensures _ c.fill-in-loop-p.ensures _ _ _ c.retrieve.ensures _ _ _ c.in_ok-e.was,
    )

pub retrieve_context-shape_of-out-in_err-e : goal.retrieve_context-shape_of-out-in_err-e
retrieve_context-shape_of-out-in_err-e t c =
    back_kept c.loop-p.invariant c.next_name-x.result c.next_name-y.result c.next_name-x.ensures.value
    c.next_name-y.ensures.value c.next_name-x.ensures.upper_bound.0 c.next_name-y.ensures.upper_bound.0 c.if-x-y.false
    c.if-y-x.false c.if-x-eq-NAME_END.false (bytes_of c.args.v.now c.shared_slice_known-2-1.given) _
    c.min-w.ensures _ c.fill-in-loop-p.ensures _ _ _ c.retrieve.ensures ∙ ap length c.fill.ensures ∙ length_fill _ _

pub retrieve_context-returns-in_err-e : goal.retrieve_context-returns-in_err-e
retrieve_context-returns-in_err-e t c =
    rw c.from_residual.ensures
    (common-no c.loop-p.invariant c.next_name-x.result c.next_name-y.result c.next_name-x.ensures.value
    c.next_name-y.ensures.value c.next_name-x.ensures.upper_bound.0 c.next_name-y.ensures.upper_bound.0 c.if-x-y.false
    c.if-y-x.false c.if-x-eq-NAME_END.false (bytes_of c.args.v.now c.shared_slice_known-2-1.given) _
    c.min-w.ensures _ c.fill-in-loop-p.ensures _ _ _ c.retrieve.ensures c.in_err-e.was _ c.fill.ensures)

pub retrieve_context-overflow_add-j-in-loop-p : goal.retrieve_context-overflow_add-j-in-loop-p
retrieve_context-overflow_add-j-in-loop-p t c =
    omega (
      arith,
      both_t c.loop-p.invariant c.next_name-x.result c.next_name-y.result c.next_name-x.ensures.value
          c.next_name-y.ensures.value c.next_name-x.ensures.upper_bound.0 c.next_name-y.ensures.upper_bound.0 c.if-x-y.false
          c.if-y-x.false c.if-x-eq-NAME_END.false,
      c.word_at-m.ensures.1,
    )

pub retrieve_context-loop-p-smaller : goal.retrieve_context-loop-p-smaller
retrieve_context-loop-p-smaller t c =
    let next-name = c.next_name-x in
    omega (
      arith,
      both_v c.loop-p.invariant next-name.result c.next_name-y.result next-name.ensures.value c.next_name-y.ensures.value
          next-name.ensures.upper_bound.0 c.next_name-y.ensures.upper_bound.0 c.if-x-y.false c.if-y-x.false c.if-x-eq-NAME_END.false,
      both_t c.loop-p.invariant next-name.result c.next_name-y.result next-name.ensures.value c.next_name-y.ensures.value
          next-name.ensures.upper_bound.0 c.next_name-y.ensures.upper_bound.0 c.if-x-y.false c.if-y-x.false c.if-x-eq-NAME_END.false,
    )

pub retrieve_context-loop-p-preserved : goal.retrieve_context-loop-p-preserved
retrieve_context-loop-p-preserved t c =
    common-next c.loop-p.invariant c.next_name-x.result c.next_name-y.result c.next_name-x.ensures.value
    c.next_name-y.ensures.value c.next_name-x.ensures.upper_bound.0 c.next_name-y.ensures.upper_bound.0 c.if-x-y.false
    c.if-y-x.false c.if-x-eq-NAME_END.false (bytes_of c.args.v.now c.shared_slice_known-2-1.given) _
    c.min-w.ensures _ c.fill-in-loop-p.ensures _ _ _ c.retrieve.ensures _ _ _ c.in_ok-e.was c.min-u.ensures

pub retrieve_context-shape_of-out : goal.retrieve_context-shape_of-out
retrieve_context-shape_of-out t c =
    ap length c.fill-2.ensures ∙ length_fill _ _ ∙ context_kept c.loop-p.invariant ∙ ap length
    c.fill.ensures ∙ length_fill _ _

pub retrieve_context-returns : goal.retrieve_context-returns
retrieve_context-returns t c =
    context_done c.loop-p.invariant c.next_name-x.result c.next_name-y.result c.next_name-x.ensures.value
    c.next_name-y.ensures.value c.next_name-x.ensures.upper_bound.0 c.next_name-y.ensures.upper_bound.0 c.next_name-x.ensures.upper_bound.1
    c.next_name-y.ensures.upper_bound.1 c.if-x-y.false c.if-y-x.false c.if-x-eq-NAME_END.true _ _ c.low.ensures c.high.ensures _
    _ c.fill.ensures c.fill-2.ensures

pub retrieve_list-word_at-n-requires : goal.retrieve_list-word_at-n-requires
retrieve_list-word_at-n-requires t c = (lists c.args.left c.args.t.now c.args.v.now c.requires.ok c.requires.ok_2 c.requires.t_value.0 c.requires.t_value.1).three

pub retrieve_list-slice_bounds-fill-end : goal.retrieve_list-slice_bounds-fill-end
retrieve_list-slice_bounds-fill-end t c =
    omega (
      arith,
      length-take-le 3 c.args.v.now (lists c.args.left c.args.t.now c.args.v.now c.requires.ok c.requires.ok_2 c.requires.t_value.0 c.requires.t_value.1).three,
    )

pub retrieve_list-loop-init : goal.retrieve_list-loop-init
retrieve_list-loop-init t c =
    list_begins (lists c.args.left c.args.t.now c.args.v.now c.requires.ok c.requires.ok_2 c.requires.t_value.0 c.requires.t_value.1) _ c.args.out.now _
    (bytes_of c.args.v.now c.shared_slice_known-2-1.given) c.word_at-n.ensures.0
    c.fill.ensures

pub retrieve_list-retrieve-requires : goal.retrieve_list-retrieve-requires
retrieve_list-retrieve-requires t c = (
  omega (arith, c.requires-raw.0, (lists c.args.left c.args.t.now c.args.v.now c.requires.ok c.requires.ok_2 c.requires.t_value.0 c.requires.t_value.1).level),
  (
    type_ok c.loop.invariant,
    item_ok c.loop.invariant c.loop-test.true,
  ),
)

pub retrieve_list-overflow_add-at : goal.retrieve_list-overflow_add-at
retrieve_list-overflow_add-at t c =
    omega (
      arith,
      c.well_formed,
      item_read c.loop.invariant c.loop-test.true _ _ _ c.retrieve.ensures _ _ _ c.in_ok-e.was,
    )

pub retrieve_list-overflow_add-to : goal.retrieve_list-overflow_add-to
retrieve_list-overflow_add-to t c =
    omega (
      arith,
      c.well_formed,
      item_wrote c.loop.invariant c.loop-test.true _ _ _ c.retrieve.ensures _ _ _ c.in_ok-e.was,
    )

pub retrieve_list-shape_of-out-in_err-e : goal.retrieve_list-shape_of-out-in_err-e
retrieve_list-shape_of-out-in_err-e t c =
    listing.back_kept c.loop.invariant c.loop-test.true _ _ _ c.retrieve.ensures ∙ list_kept c.loop.invariant ∙ ap length
    c.fill.ensures ∙ length_fill _ _

pub retrieve_list-returns-in_err-e : goal.retrieve_list-returns-in_err-e
retrieve_list-returns-in_err-e t c =
    rw c.from_residual.ensures
    (item_no c.loop.invariant c.loop-test.true _ _ _ c.retrieve.ensures c.in_err-e.was _
    c.fill.ensures)

pub retrieve_list-loop-preserved : goal.retrieve_list-loop-preserved
retrieve_list-loop-preserved t c =
    item_next c.loop.invariant c.loop-test.true _ _ _ c.retrieve.ensures _ _ _ c.in_ok-e.was
    c.min-p.ensures

pub retrieve_list-shape_of-out-then-n-eq0 : goal.retrieve_list-shape_of-out-then-n-eq0
retrieve_list-shape_of-out-then-n-eq0 t c = list_kept c.loop.invariant ∙ ap length c.fill.ensures ∙ length_fill _ _

pub retrieve_list-returns-then-n-eq0 : goal.retrieve_list-returns-then-n-eq0
retrieve_list-returns-then-n-eq0 t c =
    list_none c.loop.invariant c.loop-test.false _ c.skip.ensures _
    c.fill.ensures

pub retrieve_list-overflow_add-result : goal.retrieve_list-overflow_add-result
retrieve_list-overflow_add-result t c =
    omega (
      arith,
      c.well_formed,
      list_type_lem c.loop.invariant (omega (arith, c.if-n-eq0.false)),
    )

pub retrieve_list-shape_of-out : goal.retrieve_list-shape_of-out
retrieve_list-shape_of-out t c = list_kept c.loop.invariant ∙ ap length c.fill.ensures ∙ length_fill _ _

pub retrieve_list-returns : goal.retrieve_list-returns
retrieve_list-returns t c =
    list_done c.loop.invariant c.loop-test.false (omega (arith, c.if-n-eq0.false)) _
    c.fill.ensures
