-- The cycle `infer::data::is_data`, `are_data`, `hold_data` meets its contracts; the measure is twice the level that is left, one more for the loops.
-- One template for all: a value's answer is that of its run of children behind three bytes; the loops keep the answer to what is left.
-- Assumes nothing.
use Prim.Native.Nat.{ℕ}
use Rattle.order.specs.Order.{order_of}
use native.Mathlib.Omega.{arith}
use mathlib.Core.Path.{◌≡◌, refl, sym, ◌∙◌}
use mathlib.Core.Bool.{true}
use lib.ListN.{get_or}
use Rattle.form.specs.Layout.{is_leaf_command}
use Rattle.form.proofs.CommandKinds.{leaf_low, leaf_decimal}
use Rattle.infer.proofs.OnlyData.{items_start, items_end, items_done, items_ok, items_no, items_fit}
use Rattle.infer.proofs.OnlyData.{items_again, items_some, items_leaf_fit, items_leaf, definition_done, definition_no}
use Rattle.infer.proofs.OnlyData.{entries_start, entries_two, entries_done, entries_ok, entries_no, entries_fit, entries_again, entries_some, entries_leaf_fit, entries_leaf, has_byte}
use Rattle.infer.proofs.OnlyData.{has_level, leaf_done, leaf_fits, other_done, ranges, lists, contexts, run_ok, run_fits, run_done, run_no}
use Rattle.infer.proofs.data.+are_data_hold_data_is_data.Goals as goal
use Rattle.infer.proofs.data.+are_data_hold_data_is_data.Goals.{is_data-After-width, is_data-in-16-1, is_data-in_default+then-this-lt9}

-- the commands of the first arm are those of leaves
leaf_arm : (t : ℕ) (c : is_data-After-width t) → is_leaf_command (get_or c.args.v.now 0 0) ≡ true
leaf_arm t c =
    elim c.in-0-to-8-1.branch [
      | is_data-in-16-1 w ↦ leaf_decimal (get_or c.args.v.now 0 0) (omega arith)
      | is_data-in_default+then-this-lt9 w ↦ leaf_low (get_or c.args.v.now 0 0) (omega arith)
    ]

pub are_data-loop-init : goal.are_data-loop-init
are_data-loop-init t c = items_start _ _ _ _ c.requires

pub are_data-slice_bounds-leaf-count : goal.are_data-slice_bounds-leaf-count
are_data-slice_bounds-leaf-count t c = items_end c.loop.invariant

pub are_data-slice_bounds-leaf-start : goal.are_data-slice_bounds-leaf-start
are_data-slice_bounds-leaf-start t c = items_end c.loop.invariant

pub are_data-leaf-requires : goal.are_data-leaf-requires
are_data-leaf-requires t c = items_some c.loop.invariant c.loop-test.true

pub are_data-overflow_add-at : goal.are_data-overflow_add-at
are_data-overflow_add-at t c =
    omega (
      arith,
      c.well_formed,
      items_leaf_fit c.loop.invariant c.loop-test.true _ c.in-Some.ensures,
    )

pub are_data-loop-preserved-in-Some : goal.are_data-loop-preserved-in-Some
are_data-loop-preserved-in-Some t c =
    items_leaf c.loop.invariant c.loop-test.true _
    c.in-Some.ensures

pub are_data-slice_bounds-is_data-count : goal.are_data-slice_bounds-is_data-count
are_data-slice_bounds-is_data-count t c = items_end c.loop.invariant

pub are_data-slice_bounds-is_data-start : goal.are_data-slice_bounds-is_data-start
are_data-slice_bounds-is_data-start t c = items_end c.loop.invariant

pub are_data-is_data-requires : goal.are_data-is_data-requires
are_data-is_data-requires t c = (omega (arith, c.decreases), items_ok c.loop.invariant c.loop-test.true)

pub are_data-overflow_add-at-in-loop : goal.are_data-overflow_add-at-in-loop
are_data-overflow_add-at-in-loop t c =
    omega (
      arith,
      items_fit c.loop.invariant c.loop-test.true _ c.in_ok-at.ensures,
    )

pub are_data-returns-in_err-at : goal.are_data-returns-in_err-at
are_data-returns-in_err-at t c = rw c.from_residual.ensures (items_no c.loop.invariant c.loop-test.true c.in_err-at.ensures)

pub are_data-loop-preserved : goal.are_data-loop-preserved
are_data-loop-preserved t c = items_again c.loop.invariant c.loop-test.true _ c.in_ok-at.ensures

pub are_data-returns : goal.are_data-returns
are_data-returns t c = items_done c.loop.invariant c.loop-test.false

pub hold_data-loop-init : goal.hold_data-loop-init
hold_data-loop-init t c = entries_start _ _ _ _ c.requires

pub hold_data-overflow_add-p : goal.hold_data-overflow_add-p
hold_data-overflow_add-p t c = omega (arith, entries_two c.loop.invariant c.loop-test.true)

pub hold_data-slice_bounds-leaf-count : goal.hold_data-slice_bounds-leaf-count
hold_data-slice_bounds-leaf-count t c = omega (arith, entries_two c.loop.invariant c.loop-test.true)

pub hold_data-slice_bounds-leaf-start : goal.hold_data-slice_bounds-leaf-start
hold_data-slice_bounds-leaf-start t c = omega (arith, entries_two c.loop.invariant c.loop-test.true)

pub hold_data-leaf-requires : goal.hold_data-leaf-requires
hold_data-leaf-requires t c = entries_some c.loop.invariant c.loop-test.true

pub hold_data-overflow_add-at : goal.hold_data-overflow_add-at
hold_data-overflow_add-at t c =
    omega (
      arith,
      c.well_formed,
      entries_leaf_fit c.loop.invariant c.loop-test.true _ c.in-Some.ensures,
    )

pub hold_data-loop-preserved-in-Some : goal.hold_data-loop-preserved-in-Some
hold_data-loop-preserved-in-Some t c =
    entries_leaf c.loop.invariant c.loop-test.true _
    c.in-Some.ensures

pub hold_data-slice_bounds-is_data-count : goal.hold_data-slice_bounds-is_data-count
hold_data-slice_bounds-is_data-count t c = omega (arith, entries_two c.loop.invariant c.loop-test.true)

pub hold_data-slice_bounds-is_data-start : goal.hold_data-slice_bounds-is_data-start
hold_data-slice_bounds-is_data-start t c = omega (arith, entries_two c.loop.invariant c.loop-test.true)

pub hold_data-is_data-requires : goal.hold_data-is_data-requires
hold_data-is_data-requires t c = (omega (arith, c.decreases), entries_ok c.loop.invariant c.loop-test.true)

pub hold_data-overflow_add-at-in-loop : goal.hold_data-overflow_add-at-in-loop
hold_data-overflow_add-at-in-loop t c =
    omega (
      arith,
      entries_fit c.loop.invariant c.loop-test.true _ c.in_ok-at.ensures,
    )

pub hold_data-returns-in_err-at : goal.hold_data-returns-in_err-at
hold_data-returns-in_err-at t c = rw c.from_residual.ensures (entries_no c.loop.invariant c.loop-test.true c.in_err-at.ensures)

pub hold_data-loop-preserved : goal.hold_data-loop-preserved
hold_data-loop-preserved t c = entries_again c.loop.invariant c.loop-test.true _ c.in_ok-at.ensures

pub hold_data-returns : goal.hold_data-returns
hold_data-returns t c = entries_done c.loop.invariant c.loop-test.false

pub is_data-bounds-v-0 : goal.is_data-bounds-v-0
is_data-bounds-v-0 t c = has_byte _ _ c.requires

pub is_data-slice_bounds-are_data-count : goal.is_data-slice_bounds-are_data-count
is_data-slice_bounds-are_data-count t c = (ranges (order_of c.args.reading) _ _ c.requires c.in-9.is).three

pub is_data-slice_bounds-are_data-start : goal.is_data-slice_bounds-are_data-start
is_data-slice_bounds-are_data-start t c = (ranges (order_of c.args.reading) _ _ c.requires c.in-9.is).three

pub is_data-overflow_sub-left : goal.is_data-overflow_sub-left
is_data-overflow_sub-left t c = has_level _ _ c.requires

pub is_data-are_data-requires : goal.is_data-are_data-requires
is_data-are_data-requires t c =
    (omega (arith, c.decreases, has_level _ _ c.requires), run_ok (ranges (order_of c.args.reading) _ _ c.requires c.in-9.is))

pub is_data-slice_bounds-are_data-count-in-10 : goal.is_data-slice_bounds-are_data-count-in-10
is_data-slice_bounds-are_data-count-in-10 t c = (lists (order_of c.args.reading) _ _ c.requires _ refl c.in-10.is).three

pub is_data-slice_bounds-are_data-start-in-10 : goal.is_data-slice_bounds-are_data-start-in-10
is_data-slice_bounds-are_data-start-in-10 t c = (lists (order_of c.args.reading) _ _ c.requires _ refl c.in-10.is).three

pub is_data-word_at-n-requires : goal.is_data-word_at-n-requires
is_data-word_at-n-requires t c = (lists (order_of c.args.reading) _ _ c.requires _ refl c.in-10.is).three

pub is_data-overflow_sub-left-in-10 : goal.is_data-overflow_sub-left-in-10
is_data-overflow_sub-left-in-10 t c = has_level _ _ c.requires

pub is_data-are_data-requires-in-10 : goal.is_data-are_data-requires-in-10
is_data-are_data-requires-in-10 t c =
    (omega (arith, c.decreases, has_level _ _ c.requires), run_ok (lists (order_of c.args.reading) _ _ c.requires _ c.word_at-n.ensures.0 c.in-10.is))

pub is_data-slice_bounds-hold_data-count : goal.is_data-slice_bounds-hold_data-count
is_data-slice_bounds-hold_data-count t c = (contexts (order_of c.args.reading) _ _ c.requires _ refl c.in-11.is).three

pub is_data-slice_bounds-hold_data-start : goal.is_data-slice_bounds-hold_data-start
is_data-slice_bounds-hold_data-start t c = (contexts (order_of c.args.reading) _ _ c.requires _ refl c.in-11.is).three

pub is_data-word_at-n-requires-in-11 : goal.is_data-word_at-n-requires-in-11
is_data-word_at-n-requires-in-11 t c = (contexts (order_of c.args.reading) _ _ c.requires _ refl c.in-11.is).three

pub is_data-overflow_sub-left-in-11 : goal.is_data-overflow_sub-left-in-11
is_data-overflow_sub-left-in-11 t c = has_level _ _ c.requires

pub is_data-hold_data-requires : goal.is_data-hold_data-requires
is_data-hold_data-requires t c =
    (omega (arith, c.decreases, has_level _ _ c.requires), run_ok (contexts (order_of c.args.reading) _ _ c.requires _ c.word_at-n-in-11.ensures.0 c.in-11.is))

pub is_data-overflow_add-result-in-0-to-8 : goal.is_data-overflow_add-result-in-0-to-8
is_data-overflow_add-result-in-0-to-8 t c =
    omega (
      arith,
      leaf_fits (order_of c.args.reading) _ _ c.requires _ c.width.ensures
          (leaf_arm t c),
    )

pub is_data-returns-in_err-are_data-in-9 : goal.is_data-returns-in_err-are_data-in-9
is_data-returns-in_err-are_data-in-9 t c =
    rw c.from_residual.ensures (run_no (ranges (order_of c.args.reading) _ _ c.requires c.in-9.is) c.in_err-are_data-in-9.ensures)

pub is_data-overflow_add-result : goal.is_data-overflow_add-result
is_data-overflow_add-result t c =
    omega (
      arith,
      run_fits (ranges (order_of c.args.reading) _ _ c.requires c.in-9.is) _ c.in_ok-are_data-in-9.ensures,
    )

pub is_data-returns-in_ok-are_data-in-9 : goal.is_data-returns-in_ok-are_data-in-9
is_data-returns-in_ok-are_data-in-9 t c = run_done (ranges (order_of c.args.reading) _ _ c.requires c.in-9.is) _ c.in_ok-are_data-in-9.ensures

pub is_data-returns-in_err-are_data-in-10 : goal.is_data-returns-in_err-are_data-in-10
is_data-returns-in_err-are_data-in-10 t c =
    rw c.from_residual-in_err-are_data-in-10.ensures (run_no (lists (order_of c.args.reading) _ _ c.requires _ c.word_at-n.ensures.0 c.in-10.is) c.in_err-are_data-in-10.ensures)

pub is_data-overflow_add-result-in-10 : goal.is_data-overflow_add-result-in-10
is_data-overflow_add-result-in-10 t c =
    omega (
      arith,
      run_fits (lists (order_of c.args.reading) _ _ c.requires _ c.word_at-n.ensures.0 c.in-10.is) _ c.in_ok-are_data-in-10.ensures,
    )

pub is_data-returns-in_ok-are_data-in-10 : goal.is_data-returns-in_ok-are_data-in-10
is_data-returns-in_ok-are_data-in-10 t c = run_done (lists (order_of c.args.reading) _ _ c.requires _ c.word_at-n.ensures.0 c.in-10.is) _ c.in_ok-are_data-in-10.ensures

pub is_data-returns-in_err-hold_data-in-11 : goal.is_data-returns-in_err-hold_data-in-11
is_data-returns-in_err-hold_data-in-11 t c =
    rw c.from_residual-in_err-hold_data-in-11.ensures (run_no (contexts (order_of c.args.reading) _ _ c.requires _ c.word_at-n-in-11.ensures.0 c.in-11.is) c.in_err-hold_data-in-11.ensures)

pub is_data-overflow_add-result-in-11 : goal.is_data-overflow_add-result-in-11
is_data-overflow_add-result-in-11 t c =
    omega (
      arith,
      run_fits (contexts (order_of c.args.reading) _ _ c.requires _ c.word_at-n-in-11.ensures.0 c.in-11.is) _ c.in_ok-hold_data-in-11.ensures,
    )

pub is_data-returns-in_ok-hold_data-in-11 : goal.is_data-returns-in_ok-hold_data-in-11
is_data-returns-in_ok-hold_data-in-11 t c = run_done (contexts (order_of c.args.reading) _ _ c.requires _ c.word_at-n-in-11.ensures.0 c.in-11.is) _ c.in_ok-hold_data-in-11.ensures

pub is_data-returns-in-12 : goal.is_data-returns-in-12
is_data-returns-in-12 t c =
    definition_done (order_of c.args.reading) _ _ c.requires c.in-12.is
    (sym c.is_strict.ensures ∙ c.if-is_strict.true) _ c.skip.ensures

pub is_data-returns-in_default-2 : goal.is_data-returns-in_default-2
is_data-returns-in_default-2 t c =
    other_done (order_of c.args.reading) _ _ c.requires (omega arith) (λ e. omega arith)

pub is_data-returns-in_default : goal.is_data-returns-in_default
is_data-returns-in_default t c =
    definition_no (order_of c.args.reading) _ _ c.requires c.in-12.is
    (sym c.is_strict.ensures ∙ c.if-is_strict.false)

pub is_data-returns-in-0-to-8 : goal.is_data-returns-in-0-to-8
is_data-returns-in-0-to-8 t c =
    leaf_done (order_of c.args.reading) _ _ c.requires _ c.width.ensures
    (leaf_arm t c)
