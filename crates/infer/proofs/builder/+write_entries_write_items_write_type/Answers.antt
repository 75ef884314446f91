-- The cycle `infer::builder::write_type`, `write_items`, `write_entries` meets its contracts; the measure is twice the level that is left, one more for the loops.
-- One template for all: a part is written behind a front that stands already (ByCommand); a loop keeps what was written and what is left (Items, Entries).
-- Assumes nothing.
use Prim.Native.Nat.{ℕ}
use mathlib.Core.Path.{◌≡◌, refl, ◌∙◌}
use mathlib.Core.Bool.{true}
use lib.ListN.{get_or, set}
use Rattle.order.specs.Order.{order_of}
use Rattle.order.proofs.Ends.{reading_ends}
use native.Mathlib.Omega.{arith}
use Rattle.form.specs.Layout.{is_leaf_command}
use Rattle.form.proofs.Whole.{bytes_of}
use Rattle.form.proofs.CommandKinds.{leaf_low, leaf_decimal}
use Rattle.infer.proofs.Entries.{entries_start, entry_name, entry_room, name_len, entry_fits, entry_read, entry_wrote, entry_next, entry_some, entry_byte, entry_free}
use Rattle.infer.proofs.Entries.{entry_leaf_read, entry_leaf_wrote, entry_leaf, entries_done}
use Rattle.infer.proofs.Items.{items_one, items_none, items_first, items_kept, items_start, item_room, item_fits, item_read, item_sides, item_reduced, item_next, item_some}
use Rattle.infer.proofs.Items.{item_byte, item_free, leaf_read, leaf_sides, leaf_reduced, leaf_next, items_done}
use Rattle.infer.proofs.ByCommand.{first_byte, level_left, one_free, leaf_ends, leaf_done, other_ends, other_done, in_range, in_list, in_context, in_definition, definition_fits}
use Rattle.infer.proofs.ByCommand.{in_type, type_end, type_room, type_done, part_fits, under_head, under_room, under_free, under_read, under_wrote, under_kept, under_done, still}
use Rattle.infer.proofs.builder.+write_entries_write_items_write_type.Goals as goal
use Rattle.infer.proofs.builder.+write_entries_write_items_write_type.Goals.{write_type-After-width-in-0-to-8, write_type-in-16-1, write_type-in_default+then-c-lt9}

-- the commands of the first arm are those of leaves
leaf_arm : (t : ℕ) (c : write_type-After-width-in-0-to-8 t) → is_leaf_command (get_or c.args.v.now 0 0) ≡ true
leaf_arm t c =
    elim c.in-0-to-8-1.branch [
      | write_type-in-16-1 w ↦ leaf_decimal (get_or c.args.v.now 0 0) (omega arith)
      | write_type-in_default+then-c-lt9 w ↦ leaf_low (get_or c.args.v.now 0 0) (omega arith)
    ]

pub write_entries-loop-init : goal.write_entries-loop-init
write_entries-loop-init t c = entries_start _ _ _ _ _ _ _ c.requires.fit_entries

pub write_entries-overflow_add-p : goal.write_entries-overflow_add-p
write_entries-overflow_add-p t c =
    omega (
      arith,
      c.well_formed,
      entry_name c.loop.invariant (bytes_of c.args.v.now c.type_inv.v) c.loop-test.true,
    )

pub write_entries-overflow_add-w : goal.write_entries-overflow_add-w
write_entries-overflow_add-w t c =
    omega (
      arith,
      c.well_formed,
      c.loop.invariant.low,
      entry_name c.loop.invariant (bytes_of c.args.v.now c.type_inv.v) c.loop-test.true,
    )

pub write_entries-copy_name-requires : goal.write_entries-copy_name-requires
write_entries-copy_name-requires t c =
    let bytes-of1 = bytes_of c.args.v.now c.type_inv.v in
    record {
      name_width_in_bounds = entry_name c.loop.invariant bytes-of1 c.loop-test.true;
      name_width_in_bounds_2 = entry_room c.loop.invariant bytes-of1 c.loop-test.true;
    }

pub write_entries-slice_bounds-leaf-count : goal.write_entries-slice_bounds-leaf-count
write_entries-slice_bounds-leaf-count t c =
    entry_name c.loop.invariant (bytes_of c.args.v.now c.type_inv.v) c.loop-test.true

pub write_entries-slice_bounds-leaf-start : goal.write_entries-slice_bounds-leaf-start
write_entries-slice_bounds-leaf-start t c =
    omega (
      arith,
      entry_name c.loop.invariant (bytes_of c.args.v.now c.type_inv.v) c.loop-test.true,
    )

pub write_entries-leaf-requires : goal.write_entries-leaf-requires
write_entries-leaf-requires t c =
    entry_some c.loop.invariant (bytes_of c.args.v.now c.type_inv.v) c.loop-test.true

pub write_entries-bounds-v-p : goal.write_entries-bounds-v-p
write_entries-bounds-v-p t c =
    entry_byte c.loop.invariant
    (bytes_of c.args.v.now c.type_inv.v)
    c.loop-test.true

pub write_entries-bounds-out-w : goal.write_entries-bounds-out-w
write_entries-bounds-out-w t c =
    entry_free c.loop.invariant
    (bytes_of c.args.v.now c.type_inv.v)
    c.loop-test.true _ c.copy_name.ensures

pub write_entries-overflow_add-at : goal.write_entries-overflow_add-at
write_entries-overflow_add-at t c =
    omega (
      arith,
      c.well_formed,
      entry_leaf_read c.loop.invariant (bytes_of c.args.v.now c.type_inv.v) c.loop-test.true _
          c.copy_name.ensures _ c.leaf_type.ensures _ c.in-Some.ensures,
    )

pub write_entries-overflow_add-to : goal.write_entries-overflow_add-to
write_entries-overflow_add-to t c =
    omega (
      arith,
      c.well_formed,
      entry_leaf_wrote c.loop.invariant (bytes_of c.args.v.now c.type_inv.v) c.loop-test.true _
          c.copy_name.ensures _ c.leaf_type.ensures _ c.in-Some.ensures,
    )

pub write_entries-loop-preserved-in-Some : goal.write_entries-loop-preserved-in-Some
write_entries-loop-preserved-in-Some t c =
    entry_leaf c.loop.invariant
    (bytes_of c.args.v.now c.type_inv.v)
    c.loop-test.true _ c.copy_name.ensures _ c.leaf_type.ensures _
    c.in-Some.ensures

pub write_entries-slice_bounds-write_type-count : goal.write_entries-slice_bounds-write_type-count
write_entries-slice_bounds-write_type-count t c =
    entry_name c.loop.invariant
    (bytes_of c.args.v.now c.type_inv.v)
    c.loop-test.true

pub write_entries-slice_bounds-write_type-start : goal.write_entries-slice_bounds-write_type-start
write_entries-slice_bounds-write_type-start t c =
    omega (
      arith,
      entry_name c.loop.invariant
          (bytes_of c.args.v.now c.type_inv.v)
          c.loop-test.true,
    )

pub write_entries-slice_bounds-write_type-count-in-loop : goal.write_entries-slice_bounds-write_type-count-in-loop
write_entries-slice_bounds-write_type-count-in-loop t c =
    let bytes-of1 = bytes_of c.args.v.now c.type_inv.v in
    omega (
      arith,
      entry_room c.loop.invariant bytes-of1 c.loop-test.true,
      name_len c.loop.invariant bytes-of1 c.loop-test.true _ c.copy_name.ensures,
    )

pub write_entries-slice_bounds-write_type-start-in-loop : goal.write_entries-slice_bounds-write_type-start-in-loop
write_entries-slice_bounds-write_type-start-in-loop t c =
    let bytes-of1 = bytes_of c.args.v.now c.type_inv.v in
    omega (
      arith,
      entry_room c.loop.invariant bytes-of1 c.loop-test.true,
      name_len c.loop.invariant bytes-of1 c.loop-test.true _ c.copy_name.ensures,
    )

pub write_entries-write_type-e-requires : goal.write_entries-write_type-e-requires
write_entries-write_type-e-requires t c =
    let bytes-of1 = bytes_of c.args.v.now c.type_inv.v in (
      omega (arith, c.decreases),
      (
        entry_fits c.loop.invariant bytes-of1 c.loop-test.true c.copy_name.new.out
            (name_len c.loop.invariant bytes-of1 c.loop-test.true _ c.copy_name.ensures),
        omega arith,
      ),
    )

pub write_entries-overflow_add-at-in-loop : goal.write_entries-overflow_add-at-in-loop
write_entries-overflow_add-at-in-loop t c =
    omega (
      arith,
      c.well_formed,
      entry_read c.loop.invariant (bytes_of c.args.v.now c.type_inv.v)
          c.loop-test.true _ _ _ _ c.copy_name.ensures c.write_type-e.ensures.typed,
    )

pub write_entries-overflow_add-to-in-loop : goal.write_entries-overflow_add-to-in-loop
write_entries-overflow_add-to-in-loop t c =
    omega (
      arith,
      c.well_formed,
      entry_wrote c.loop.invariant (bytes_of c.args.v.now c.type_inv.v)
          c.loop-test.true _ _ _ _ c.copy_name.ensures c.write_type-e.ensures.typed,
    )

pub write_entries-loop-preserved : goal.write_entries-loop-preserved
write_entries-loop-preserved t c =
    entry_next c.loop.invariant (bytes_of c.args.v.now c.type_inv.v)
    c.loop-test.true _ _ _ _ c.copy_name.ensures c.write_type-e.ensures.typed _ c.write_type-e.ensures.spare_len_unchanged

pub write_entries-returns : goal.write_entries-returns
write_entries-returns t c =
    record {
      typed = entries_done c.loop.invariant (bytes_of c.args.v.now c.type_inv.v) c.loop-test.false;
      spare_len_unchanged = c.loop.invariant.spare_len;
    }

pub write_items-bounds-out-0 : goal.write_items-bounds-out-0
write_items-bounds-out-0 t c =
    omega (
      arith,
      items_one (order_of c.args.reading) c.args.least c.args.equal c.args.left c.args.v.now c.args.n c.args.out.now c.args.spare.now
          c.requires.fit_items,
    )

pub write_items-returns-then-n-eq0 : goal.write_items-returns-then-n-eq0
write_items-returns-then-n-eq0 t c =
    record {
      typed = items_none (order_of c.args.reading) c.args.least c.args.equal c.args.left c.args.v.now c.args.n c.args.out.now c.args.spare.now
          c.requires.fit_items c.if-n-eq0.true;
      spare_len_unchanged = refl;
    }

pub write_items-write_type-e-requires : goal.write_items-write_type-e-requires
write_items-write_type-e-requires t c = (
  omega (arith, c.decreases),
  (
    items_first (order_of c.args.reading) c.args.least c.args.equal c.args.left c.args.v.now c.args.n c.args.out.now c.args.spare.now
        c.requires.fit_items (bytes_of c.args.v.now c.type_inv.v) c.requires.left_le_value_levels c.if-n-eq0.false,
    omega arith,
  ),
)

pub write_items-loop-init : goal.write_items-loop-init
write_items-loop-init t c =
    let args = c.args in
    items_start (order_of args.reading) args.least args.equal args.left args.v.now args.n args.out.now args.spare.now c.requires.fit_items
    (bytes_of args.v.now c.type_inv.v) c.requires.left_le_value_levels c.if-n-eq0.false _ _ _ _
    c.write_type-e.ensures.typed c.write_type-e.ensures.spare_len_unchanged

pub write_items-leaf-requires : goal.write_items-leaf-requires
write_items-leaf-requires t c =
    item_some c.loop.invariant (bytes_of c.args.v.now c.type_inv.v) c.loop-test.true

pub write_items-bounds-v-at : goal.write_items-bounds-v-at
write_items-bounds-v-at t c =
    item_byte c.loop.invariant (bytes_of c.args.v.now c.type_inv.v) c.loop-test.true

pub write_items-bounds-out-to : goal.write_items-bounds-out-to
write_items-bounds-out-to t c =
    item_free c.loop.invariant (bytes_of c.args.v.now c.type_inv.v) c.loop-test.true

pub write_items-overflow_add-at : goal.write_items-overflow_add-at
write_items-overflow_add-at t c =
    omega (
      arith,
      c.well_formed,
      leaf_read c.loop.invariant (bytes_of c.args.v.now c.type_inv.v) c.loop-test.true
          c.requires.left_le_value_levels _ c.leaf_type.ensures _ c.in-Some.ensures,
    )

pub write_items-join-to-requires : goal.write_items-join-to-requires
write_items-join-to-requires t c =
    let c1 = c.in-Some.ensures in
    let bytes-of1 = bytes_of c.args.v.now c.type_inv.v in record {
      sides = leaf_sides c.loop.invariant bytes-of1 c.loop-test.true c.requires.left_le_value_levels _ c.leaf_type.ensures _ c1;
      reduced = leaf_reduced c.loop.invariant bytes-of1 c.loop-test.true c.requires.left_le_value_levels _ c.leaf_type.ensures _ c1;
    }

pub write_items-loop-preserved-in-Some : goal.write_items-loop-preserved-in-Some
write_items-loop-preserved-in-Some t c =
    leaf_next c.loop.invariant (bytes_of c.args.v.now c.type_inv.v) c.loop-test.true
    c.requires.left_le_value_levels _ c.leaf_type.ensures _ c.in-Some.ensures _ _ _
    c.join-to.ensures.joined c.join-to.ensures.spare_len_unchanged

pub write_items-slice_bounds-write_type-count-in-loop : goal.write_items-slice_bounds-write_type-count-in-loop
write_items-slice_bounds-write_type-count-in-loop t c = item_room c.loop.invariant (bytes_of c.args.v.now c.type_inv.v)

pub write_items-slice_bounds-write_type-start-in-loop : goal.write_items-slice_bounds-write_type-start-in-loop
write_items-slice_bounds-write_type-start-in-loop t c =
    omega (
      arith,
      item_room c.loop.invariant (bytes_of c.args.v.now c.type_inv.v),
    )

pub write_items-write_type-e-requires-in-loop : goal.write_items-write_type-e-requires-in-loop
write_items-write_type-e-requires-in-loop t c = (
  omega (arith, c.decreases),
  (
    item_fits c.loop.invariant (bytes_of c.args.v.now c.type_inv.v) c.loop-test.true,
    omega arith,
  ),
)

pub write_items-overflow_add-at-in-loop : goal.write_items-overflow_add-at-in-loop
write_items-overflow_add-at-in-loop t c =
    omega (
      arith,
      c.well_formed,
      item_read c.loop.invariant (bytes_of c.args.v.now c.type_inv.v) c.loop-test.true
          c.requires.left_le_value_levels _ c.write_type-e-in-loop.new.spare _ _ c.write_type-e-in-loop.ensures.typed c.write_type-e-in-loop.ensures.spare_len_unchanged,
    )

pub write_items-join-to-requires-in-loop : goal.write_items-join-to-requires-in-loop
write_items-join-to-requires-in-loop t c =
    let bytes-of1 = bytes_of c.args.v.now c.type_inv.v in record {
      sides = item_sides c.loop.invariant bytes-of1 c.loop-test.true c.requires.left_le_value_levels _ c.write_type-e-in-loop.new.spare _ _
          c.write_type-e-in-loop.ensures.typed c.write_type-e-in-loop.ensures.spare_len_unchanged;
      reduced = item_reduced c.loop.invariant bytes-of1 c.loop-test.true c.requires.left_le_value_levels _ c.write_type-e-in-loop.new.spare _ _
          c.write_type-e-in-loop.ensures.typed c.write_type-e-in-loop.ensures.spare_len_unchanged;
    }

pub write_items-loop-preserved : goal.write_items-loop-preserved
write_items-loop-preserved t c =
    item_next c.loop.invariant (bytes_of c.args.v.now c.type_inv.v) c.loop-test.true
    c.requires.left_le_value_levels _ c.write_type-e-in-loop.new.spare _ _ c.write_type-e-in-loop.ensures.typed c.write_type-e-in-loop.ensures.spare_len_unchanged _ _ _
    c.join-to-in-loop.ensures.joined c.join-to-in-loop.ensures.spare_len_unchanged

pub write_items-shape_of-out : goal.write_items-shape_of-out
write_items-shape_of-out t c =
    let args = c.args in
    c.loop.invariant.out_len ∙
    (items_kept (order_of args.reading) args.least args.equal args.left args.v.now args.n args.out.now args.spare.now c.requires.fit_items
    (bytes_of args.v.now c.type_inv.v) c.requires.left_le_value_levels c.if-n-eq0.false _ _ _ c.write_type-e.ensures.typed)

pub write_items-returns : goal.write_items-returns
write_items-returns t c =
    let args = c.args in
    let bytes-of1 = bytes_of args.v.now c.type_inv.v in record {
      typed = items_done c.loop.invariant bytes-of1 c.loop-test.false _
          (items_kept (order_of args.reading) args.least args.equal args.left args.v.now args.n args.out.now args.spare.now c.requires.fit_items bytes-of1
          c.requires.left_le_value_levels c.if-n-eq0.false _ _ _ c.write_type-e.ensures.typed);
      spare_len_unchanged = c.loop.invariant.spare_len ∙ c.write_type-e.ensures.spare_len_unchanged;
    }

pub write_type-bounds-v-0 : goal.write_type-bounds-v-0
write_type-bounds-v-0 t c =
    first_byte (order_of c.args.reading) c.args.least c.args.left c.args.v.now c.args.out.now c.args.spare.now c.requires.fit_val
    (bytes_of c.args.v.now c.type_inv.v)

pub write_type-bounds-out-0 : goal.write_type-bounds-out-0
write_type-bounds-out-0 t c =
    omega (
      arith,
      one_free (order_of c.args.reading) c.args.least c.args.left c.args.v.now c.args.out.now c.args.spare.now c.requires.fit_val
          (bytes_of c.args.v.now c.type_inv.v),
    )

pub write_type-slice_bounds-write_items-count : goal.write_type-slice_bounds-write_items-count
write_type-slice_bounds-write_items-count t c =
    under_head
    (in_range (order_of c.args.reading) c.args.least c.args.left c.args.v.now c.args.out.now c.args.spare.now c.requires.fit_val
    (bytes_of c.args.v.now c.type_inv.v) c.in-9.is).under

pub write_type-slice_bounds-write_items-start : goal.write_type-slice_bounds-write_items-start
write_type-slice_bounds-write_items-start t c =
    omega (
      arith,
      under_head
          (in_range (order_of c.args.reading) c.args.least c.args.left c.args.v.now c.args.out.now c.args.spare.now c.requires.fit_val
          (bytes_of c.args.v.now c.type_inv.v) c.in-9.is).under,
    )

pub write_type-slice_bounds-write_items-count-in-9 : goal.write_type-slice_bounds-write_items-count-in-9
write_type-slice_bounds-write_items-count-in-9 t c =
    under_free
    (in_range (order_of c.args.reading) c.args.least c.args.left c.args.v.now c.args.out.now c.args.spare.now c.requires.fit_val
    (bytes_of c.args.v.now c.type_inv.v) c.in-9.is).under

pub write_type-slice_bounds-write_items-start-in-9 : goal.write_type-slice_bounds-write_items-start-in-9
write_type-slice_bounds-write_items-start-in-9 t c =
    omega (
      arith,
      under_free
          (in_range (order_of c.args.reading) c.args.least c.args.left c.args.v.now c.args.out.now c.args.spare.now c.requires.fit_val
          (bytes_of c.args.v.now c.type_inv.v) c.in-9.is).under,
    )

pub write_type-overflow_sub-left : goal.write_type-overflow_sub-left
write_type-overflow_sub-left t c =
    let args = c.args in
    level_left (order_of args.reading) args.least args.left args.v.now args.out.now args.spare.now c.requires.fit_val
    (bytes_of args.v.now c.type_inv.v)

pub write_type-write_items-e-requires : goal.write_type-write_items-e-requires
write_type-write_items-e-requires t c =
    let args = c.args in
    let bytes-of1 = bytes_of args.v.now c.type_inv.v in (
      omega (arith, c.decreases, level_left (order_of args.reading) args.least args.left args.v.now args.out.now args.spare.now c.requires.fit_val bytes-of1),
      (
        part_fits
            (in_range (order_of args.reading) args.least args.left args.v.now args.out.now args.spare.now c.requires.fit_val bytes-of1 c.in-9.is),
        omega arith,
      ),
    )

pub write_type-overflow_add-result : goal.write_type-overflow_add-result
write_type-overflow_add-result t c =
    omega (
      arith,
      c.well_formed,
      let args = c.args in
          under_read
          (in_range (order_of args.reading) args.least args.left args.v.now args.out.now args.spare.now c.requires.fit_val
          (bytes_of args.v.now c.type_inv.v) c.in-9.is).under
          _ _ _ c.write_items-e.ensures.typed,
    )

pub write_type-overflow_add-result-in-9 : goal.write_type-overflow_add-result-in-9
write_type-overflow_add-result-in-9 t c =
    omega (
      arith,
      c.well_formed,
      let args = c.args in
          under_wrote
          (in_range (order_of args.reading) args.least args.left args.v.now args.out.now args.spare.now c.requires.fit_val
          (bytes_of args.v.now c.type_inv.v) c.in-9.is).under
          _ _ _ c.write_items-e.ensures.typed,
    )

pub write_type-word_at-n-requires : goal.write_type-word_at-n-requires
write_type-word_at-n-requires t c =
    under_head
    (in_list (order_of c.args.reading) c.args.least c.args.left c.args.v.now c.args.out.now c.args.spare.now c.requires.fit_val
    (bytes_of c.args.v.now c.type_inv.v) (reading_ends c.args.reading) _ refl c.in-10.is).under

pub write_type-bounds-out-0-in-10 : goal.write_type-bounds-out-0-in-10
write_type-bounds-out-0-in-10 t c =
    omega (
      arith,
      one_free (order_of c.args.reading) c.args.least c.args.left c.args.v.now c.args.out.now c.args.spare.now c.requires.fit_val
          (bytes_of c.args.v.now c.type_inv.v),
    )

pub write_type-slice_bounds-write_items-count-in-10 : goal.write_type-slice_bounds-write_items-count-in-10
write_type-slice_bounds-write_items-count-in-10 t c =
    under_head
    (in_list (order_of c.args.reading) c.args.least c.args.left c.args.v.now c.args.out.now c.args.spare.now c.requires.fit_val
    (bytes_of c.args.v.now c.type_inv.v) (reading_ends c.args.reading) _ c.word_at-n.ensures.0 c.in-10.is).under

pub write_type-slice_bounds-write_items-start-in-10 : goal.write_type-slice_bounds-write_items-start-in-10
write_type-slice_bounds-write_items-start-in-10 t c =
    omega (
      arith,
      under_head
          (in_list (order_of c.args.reading) c.args.least c.args.left c.args.v.now c.args.out.now c.args.spare.now c.requires.fit_val
          (bytes_of c.args.v.now c.type_inv.v) (reading_ends c.args.reading) _ c.word_at-n.ensures.0 c.in-10.is).under,
    )

pub write_type-slice_bounds-write_items-count-in-10-2 : goal.write_type-slice_bounds-write_items-count-in-10-2
write_type-slice_bounds-write_items-count-in-10-2 t c =
    under_free
    (in_list (order_of c.args.reading) c.args.least c.args.left c.args.v.now c.args.out.now c.args.spare.now c.requires.fit_val
    (bytes_of c.args.v.now c.type_inv.v) (reading_ends c.args.reading) _ c.word_at-n.ensures.0 c.in-10.is).under

pub write_type-slice_bounds-write_items-start-in-10-2 : goal.write_type-slice_bounds-write_items-start-in-10-2
write_type-slice_bounds-write_items-start-in-10-2 t c =
    omega (
      arith,
      under_free
          (in_list (order_of c.args.reading) c.args.least c.args.left c.args.v.now c.args.out.now c.args.spare.now c.requires.fit_val
          (bytes_of c.args.v.now c.type_inv.v) (reading_ends c.args.reading) _ c.word_at-n.ensures.0 c.in-10.is).under,
    )

pub write_type-overflow_sub-left-in-10 : goal.write_type-overflow_sub-left-in-10
write_type-overflow_sub-left-in-10 t c =
    let args = c.args in
    level_left (order_of args.reading) args.least args.left args.v.now args.out.now args.spare.now c.requires.fit_val
    (bytes_of args.v.now c.type_inv.v)

pub write_type-write_items-e-requires-in-10 : goal.write_type-write_items-e-requires-in-10
write_type-write_items-e-requires-in-10 t c =
    let args = c.args in
    let bytes-of1 = bytes_of args.v.now c.type_inv.v in (
      omega (arith, c.decreases, level_left (order_of args.reading) args.least args.left args.v.now args.out.now args.spare.now c.requires.fit_val bytes-of1),
      (
        part_fits
            (in_list (order_of args.reading) args.least args.left args.v.now args.out.now args.spare.now c.requires.fit_val bytes-of1 (reading_ends args.reading) _
            c.word_at-n.ensures.0
            c.in-10.is),
        omega arith,
      ),
    )

pub write_type-overflow_add-result-in-10 : goal.write_type-overflow_add-result-in-10
write_type-overflow_add-result-in-10 t c =
    omega (
      arith,
      c.well_formed,
      let args = c.args in
          under_read
          (in_list (order_of args.reading) args.least args.left args.v.now args.out.now args.spare.now c.requires.fit_val
          (bytes_of args.v.now c.type_inv.v) (reading_ends args.reading) _ c.word_at-n.ensures.0 c.in-10.is).under
          _ _ _ c.write_items-e-in-10.ensures.typed,
    )

pub write_type-overflow_add-result-in-10-2 : goal.write_type-overflow_add-result-in-10-2
write_type-overflow_add-result-in-10-2 t c =
    omega (
      arith,
      c.well_formed,
      let args = c.args in
          under_wrote
          (in_list (order_of args.reading) args.least args.left args.v.now args.out.now args.spare.now c.requires.fit_val
          (bytes_of args.v.now c.type_inv.v) (reading_ends args.reading) _ c.word_at-n.ensures.0 c.in-10.is).under
          _ _ _ c.write_items-e-in-10.ensures.typed,
    )

pub write_type-word_at-n-requires-in-11 : goal.write_type-word_at-n-requires-in-11
write_type-word_at-n-requires-in-11 t c =
    under_head
    (in_context (order_of c.args.reading) c.args.least c.args.left c.args.v.now c.args.out.now c.args.spare.now c.requires.fit_val
    (bytes_of c.args.v.now c.type_inv.v) _ refl c.in-11.is).under

pub write_type-bounds-out-0-in-11 : goal.write_type-bounds-out-0-in-11
write_type-bounds-out-0-in-11 t c =
    omega (
      arith,
      under_room
          (in_context (order_of c.args.reading) c.args.least c.args.left c.args.v.now c.args.out.now c.args.spare.now c.requires.fit_val
          (bytes_of c.args.v.now c.type_inv.v) _ c.word_at-n-in-11.ensures.0 c.in-11.is).under,
    )

pub write_type-bounds-v-1 : goal.write_type-bounds-v-1
write_type-bounds-v-1 t c =
    omega (
      arith,
      under_head
          (in_context (order_of c.args.reading) c.args.least c.args.left c.args.v.now c.args.out.now c.args.spare.now c.requires.fit_val
          (bytes_of c.args.v.now c.type_inv.v) _ c.word_at-n-in-11.ensures.0 c.in-11.is).under,
    )

pub write_type-bounds-out-1 : goal.write_type-bounds-out-1
write_type-bounds-out-1 t c =
    still 2 c.args.out.now 0 44
    (omega (
      arith,
      under_room
          (in_context (order_of c.args.reading) c.args.least c.args.left c.args.v.now c.args.out.now c.args.spare.now c.requires.fit_val
          (bytes_of c.args.v.now c.type_inv.v) _ c.word_at-n-in-11.ensures.0 c.in-11.is).under,
    ))

pub write_type-bounds-v-2 : goal.write_type-bounds-v-2
write_type-bounds-v-2 t c =
    omega (
      arith,
      let args = c.args in
          under_head
          (in_context (order_of args.reading) args.least args.left args.v.now args.out.now args.spare.now c.requires.fit_val
          (bytes_of args.v.now c.type_inv.v) _ c.word_at-n-in-11.ensures.0 c.in-11.is).under,
    )

pub write_type-bounds-out-2 : goal.write_type-bounds-out-2
write_type-bounds-out-2 t c =
    still 3 (set c.args.out.now 0 44) 1 (get_or c.args.v.now 1 0)
    (still 3 c.args.out.now 0 44
    (omega (
      arith,
      under_room
          (in_context (order_of c.args.reading) c.args.least c.args.left c.args.v.now c.args.out.now c.args.spare.now c.requires.fit_val
          (bytes_of c.args.v.now c.type_inv.v) _ c.word_at-n-in-11.ensures.0 c.in-11.is).under,
    )))

pub write_type-slice_bounds-write_entries-count : goal.write_type-slice_bounds-write_entries-count
write_type-slice_bounds-write_entries-count t c =
    let args = c.args in
    under_head
    (in_context (order_of args.reading) args.least args.left args.v.now args.out.now args.spare.now c.requires.fit_val
    (bytes_of args.v.now c.type_inv.v) _ c.word_at-n-in-11.ensures.0 c.in-11.is).under

pub write_type-slice_bounds-write_entries-start : goal.write_type-slice_bounds-write_entries-start
write_type-slice_bounds-write_entries-start t c =
    omega (
      arith,
      let args = c.args in
          under_head
          (in_context (order_of args.reading) args.least args.left args.v.now args.out.now args.spare.now c.requires.fit_val
          (bytes_of args.v.now c.type_inv.v) _ c.word_at-n-in-11.ensures.0 c.in-11.is).under,
    )

pub write_type-slice_bounds-write_entries-count-in-11 : goal.write_type-slice_bounds-write_entries-count-in-11
write_type-slice_bounds-write_entries-count-in-11 t c =
    let args = c.args in
    under_free
    (in_context (order_of args.reading) args.least args.left args.v.now args.out.now args.spare.now c.requires.fit_val
    (bytes_of args.v.now c.type_inv.v) _ c.word_at-n-in-11.ensures.0 c.in-11.is).under

pub write_type-slice_bounds-write_entries-start-in-11 : goal.write_type-slice_bounds-write_entries-start-in-11
write_type-slice_bounds-write_entries-start-in-11 t c =
    omega (
      arith,
      let args = c.args in
          under_free
          (in_context (order_of args.reading) args.least args.left args.v.now args.out.now args.spare.now c.requires.fit_val
          (bytes_of args.v.now c.type_inv.v) _ c.word_at-n-in-11.ensures.0 c.in-11.is).under,
    )

pub write_type-overflow_sub-left-in-11 : goal.write_type-overflow_sub-left-in-11
write_type-overflow_sub-left-in-11 t c =
    let args = c.args in
    level_left (order_of args.reading) args.least args.left args.v.now args.out.now args.spare.now c.requires.fit_val
    (bytes_of args.v.now c.type_inv.v)

pub write_type-write_entries-e-requires : goal.write_type-write_entries-e-requires
write_type-write_entries-e-requires t c =
    let args = c.args in
    let bytes-of1 = bytes_of args.v.now c.type_inv.v in (
      omega (arith, c.decreases, level_left (order_of args.reading) args.least args.left args.v.now args.out.now args.spare.now c.requires.fit_val bytes-of1),
      (
        part_fits
            (in_context (order_of args.reading) args.least args.left args.v.now args.out.now args.spare.now c.requires.fit_val bytes-of1 _ c.word_at-n-in-11.ensures.0
            c.in-11.is),
        omega arith,
      ),
    )

pub write_type-overflow_add-result-in-11 : goal.write_type-overflow_add-result-in-11
write_type-overflow_add-result-in-11 t c =
    omega (
      arith,
      c.well_formed,
      let args = c.args in
          under_read
          (in_context (order_of args.reading) args.least args.left args.v.now args.out.now args.spare.now c.requires.fit_val
          (bytes_of args.v.now c.type_inv.v) _ c.word_at-n-in-11.ensures.0 c.in-11.is).under
          _ _ _ c.write_entries-e.ensures.typed,
    )

pub write_type-overflow_add-result-in-11-2 : goal.write_type-overflow_add-result-in-11-2
write_type-overflow_add-result-in-11-2 t c =
    omega (
      arith,
      c.well_formed,
      let args = c.args in
          under_wrote
          (in_context (order_of args.reading) args.least args.left args.v.now args.out.now args.spare.now c.requires.fit_val
          (bytes_of args.v.now c.type_inv.v) _ c.word_at-n-in-11.ensures.0 c.in-11.is).under
          _ _ _ c.write_entries-e.ensures.typed,
    )

pub write_type-bounds-v-1-in-12 : goal.write_type-bounds-v-1-in-12
write_type-bounds-v-1-in-12 t c =
    omega (
      arith,
      under_head
          (in_definition (order_of c.args.reading) c.args.least c.args.left c.args.v.now c.args.out.now c.args.spare.now c.requires.fit_val
          (bytes_of c.args.v.now c.type_inv.v) _ refl c.in-12.is),
    )

pub write_type-bounds-out-0-in-12 : goal.write_type-bounds-out-0-in-12
write_type-bounds-out-0-in-12 t c =
    omega (
      arith,
      under_room
          (in_definition (order_of c.args.reading) c.args.least c.args.left c.args.v.now c.args.out.now c.args.spare.now c.requires.fit_val
          (bytes_of c.args.v.now c.type_inv.v) _ refl c.in-12.is),
    )

pub write_type-bounds-out-1-in-12 : goal.write_type-bounds-out-1-in-12
write_type-bounds-out-1-in-12 t c =
    still 2 c.args.out.now 0 45
    (omega (
      arith,
      under_room
          (in_definition (order_of c.args.reading) c.args.least c.args.left c.args.v.now c.args.out.now c.args.spare.now c.requires.fit_val
          (bytes_of c.args.v.now c.type_inv.v) _ refl c.in-12.is),
    ))

pub write_type-slice_bounds-write_signature-count : goal.write_type-slice_bounds-write_signature-count
write_type-slice_bounds-write_signature-count t c =
    under_head
    (in_definition (order_of c.args.reading) c.args.least c.args.left c.args.v.now c.args.out.now c.args.spare.now c.requires.fit_val
    (bytes_of c.args.v.now c.type_inv.v) _ refl c.in-12.is)

pub write_type-slice_bounds-write_signature-start : goal.write_type-slice_bounds-write_signature-start
write_type-slice_bounds-write_signature-start t c =
    omega (
      arith,
      under_head
          (in_definition (order_of c.args.reading) c.args.least c.args.left c.args.v.now c.args.out.now c.args.spare.now c.requires.fit_val
          (bytes_of c.args.v.now c.type_inv.v) _ refl c.in-12.is),
    )

pub write_type-slice_bounds-write_signature-count-in-12 : goal.write_type-slice_bounds-write_signature-count-in-12
write_type-slice_bounds-write_signature-count-in-12 t c =
    let args = c.args in
    under_free
    (in_definition (order_of args.reading) args.least args.left args.v.now args.out.now args.spare.now c.requires.fit_val
    (bytes_of args.v.now c.type_inv.v) _ c.from.ensures c.in-12.is)

pub write_type-slice_bounds-write_signature-start-in-12 : goal.write_type-slice_bounds-write_signature-start-in-12
write_type-slice_bounds-write_signature-start-in-12 t c =
    omega (
      arith,
      let args = c.args in
          under_free
          (in_definition (order_of args.reading) args.least args.left args.v.now args.out.now args.spare.now c.requires.fit_val
          (bytes_of args.v.now c.type_inv.v) _ c.from.ensures c.in-12.is),
    )

pub write_type-overflow_sub-left-in-12 : goal.write_type-overflow_sub-left-in-12
write_type-overflow_sub-left-in-12 t c =
    let args = c.args in
    level_left (order_of args.reading) args.least args.left args.v.now args.out.now args.spare.now c.requires.fit_val
    (bytes_of args.v.now c.type_inv.v)

pub write_type-write_signature-e-requires : goal.write_type-write_signature-e-requires
write_type-write_signature-e-requires t c =
    let args = c.args in
    definition_fits
    (in_definition (order_of args.reading) args.least args.left args.v.now args.out.now args.spare.now c.requires.fit_val
    (bytes_of args.v.now c.type_inv.v) _ c.from.ensures c.in-12.is)

pub write_type-overflow_add-result-in-12 : goal.write_type-overflow_add-result-in-12
write_type-overflow_add-result-in-12 t c =
    omega (
      arith,
      c.well_formed,
      let args = c.args in
          under_read
          (in_definition (order_of args.reading) args.least args.left args.v.now args.out.now args.spare.now c.requires.fit_val
          (bytes_of args.v.now c.type_inv.v) _ c.from.ensures c.in-12.is)
          _ _ _ c.write_signature-e.ensures,
    )

pub write_type-overflow_add-result-in-12-2 : goal.write_type-overflow_add-result-in-12-2
write_type-overflow_add-result-in-12-2 t c =
    omega (
      arith,
      c.well_formed,
      let args = c.args in
          under_wrote
          (in_definition (order_of args.reading) args.least args.left args.v.now args.out.now args.spare.now c.requires.fit_val
          (bytes_of args.v.now c.type_inv.v) _ c.from.ensures c.in-12.is)
          _ _ _ c.write_signature-e.ensures,
    )

pub write_type-slice_bounds-skip-count : goal.write_type-slice_bounds-skip-count
write_type-slice_bounds-skip-count t c =
    first_byte (order_of c.args.reading) c.args.least c.args.left c.args.v.now c.args.out.now c.args.spare.now c.requires.fit_val
    (bytes_of c.args.v.now c.type_inv.v)

pub write_type-slice_bounds-skip-start : goal.write_type-slice_bounds-skip-start
write_type-slice_bounds-skip-start t c =
    omega (
      arith,
      first_byte (order_of c.args.reading) c.args.least c.args.left c.args.v.now c.args.out.now c.args.spare.now c.requires.fit_val
          (bytes_of c.args.v.now c.type_inv.v),
    )

pub write_type-overflow_sub-left-in-14 : goal.write_type-overflow_sub-left-in-14
write_type-overflow_sub-left-in-14 t c =
    level_left (order_of c.args.reading) c.args.least c.args.left c.args.v.now c.args.out.now c.args.spare.now c.requires.fit_val
    (bytes_of c.args.v.now c.type_inv.v)

pub write_type-overflow_add-p : goal.write_type-overflow_add-p
write_type-overflow_add-p t c =
    omega (
      arith,
      c.well_formed,
      let args = c.args in
          let bytes-of1 = bytes_of args.v.now c.type_inv.v in
          type_end (order_of args.reading) args.least args.left args.v.now args.out.now _ bytes-of1
          (in_type (order_of args.reading) args.least args.left args.v.now args.out.now args.spare.now c.requires.fit_val bytes-of1
          c.in-14.is)
          _ c.skip-n.ensures,
    )

pub write_type-slice_bounds-copy-end : goal.write_type-slice_bounds-copy-end
write_type-slice_bounds-copy-end t c =
    omega (
      arith,
      let args = c.args in
          let bytes-of1 = bytes_of args.v.now c.type_inv.v in
          type_end (order_of args.reading) args.least args.left args.v.now args.out.now _ bytes-of1
          (in_type (order_of args.reading) args.least args.left args.v.now args.out.now args.spare.now c.requires.fit_val bytes-of1
          c.in-14.is)
          _ c.skip-n.ensures,
    )

pub write_type-copy-requires : goal.write_type-copy-requires
write_type-copy-requires t c =
    let args = c.args in
    let bytes-of1 = bytes_of args.v.now c.type_inv.v in
    type_room (order_of args.reading) args.least args.left args.v.now args.out.now _ bytes-of1
    (in_type (order_of args.reading) args.least args.left args.v.now args.out.now args.spare.now c.requires.fit_val bytes-of1 c.in-14.is) _
    c.skip-n.ensures

pub write_type-bounds-out-0-in_default : goal.write_type-bounds-out-0-in_default
write_type-bounds-out-0-in_default t c =
    omega (
      arith,
      one_free (order_of c.args.reading) c.args.least c.args.left c.args.v.now c.args.out.now c.args.spare.now c.requires.fit_val
          (bytes_of c.args.v.now c.type_inv.v),
    )

pub write_type-overflow_add-result-in_default : goal.write_type-overflow_add-result-in_default
write_type-overflow_add-result-in_default t c =
    omega (
      arith,
      c.well_formed,
      c.width.ensures,
      other_ends (order_of c.args.reading) c.args.least c.args.left c.args.v.now c.args.out.now c.args.spare.now c.requires.fit_val
          (bytes_of c.args.v.now c.type_inv.v) ((omega arith, λ e. omega arith), λ e. omega arith),
    )

pub write_type-bounds-out-0-in-0-to-8 : goal.write_type-bounds-out-0-in-0-to-8
write_type-bounds-out-0-in-0-to-8 t c =
    omega (
      arith,
      one_free (order_of c.args.reading) c.args.least c.args.left c.args.v.now c.args.out.now c.args.spare.now c.requires.fit_val
          (bytes_of c.args.v.now c.type_inv.v),
    )

pub write_type-overflow_add-result-in-0-to-8 : goal.write_type-overflow_add-result-in-0-to-8
write_type-overflow_add-result-in-0-to-8 t c =
    omega (
      arith,
      c.well_formed,
      c.width-in-0-to-8.ensures,
      leaf_ends (order_of c.args.reading) c.args.least c.args.left c.args.v.now c.args.out.now c.args.spare.now c.requires.fit_val
          (bytes_of c.args.v.now c.type_inv.v)
          (leaf_arm t c),
    )

pub write_type-shape_of-out-in-9 : goal.write_type-shape_of-out-in-9
write_type-shape_of-out-in-9 t c =
    let args = c.args in
    under_kept
    (in_range (order_of args.reading) args.least args.left args.v.now args.out.now args.spare.now c.requires.fit_val
    (bytes_of args.v.now c.type_inv.v) c.in-9.is).under
    _ _ _ c.write_items-e.ensures.typed

pub write_type-returns-in-9 : goal.write_type-returns-in-9
write_type-returns-in-9 t c =
    let args = c.args in record {
      typed = under_done
          (in_range (order_of args.reading) args.least args.left args.v.now args.out.now args.spare.now c.requires.fit_val
          (bytes_of args.v.now c.type_inv.v) c.in-9.is).under
          _ _ _ c.write_items-e.ensures.typed;
      spare_len_unchanged = c.write_items-e.ensures.spare_len_unchanged;
    }

pub write_type-shape_of-out-in-10 : goal.write_type-shape_of-out-in-10
write_type-shape_of-out-in-10 t c =
    let args = c.args in
    under_kept
    (in_list (order_of args.reading) args.least args.left args.v.now args.out.now args.spare.now c.requires.fit_val
    (bytes_of args.v.now c.type_inv.v) (reading_ends args.reading) _ c.word_at-n.ensures.0 c.in-10.is).under
    _ _ _ c.write_items-e-in-10.ensures.typed

pub write_type-returns-in-10 : goal.write_type-returns-in-10
write_type-returns-in-10 t c =
    let args = c.args in record {
      typed = under_done
          (in_list (order_of args.reading) args.least args.left args.v.now args.out.now args.spare.now c.requires.fit_val
          (bytes_of args.v.now c.type_inv.v) (reading_ends args.reading) _ c.word_at-n.ensures.0 c.in-10.is).under
          _ _ _ c.write_items-e-in-10.ensures.typed;
      spare_len_unchanged = c.write_items-e-in-10.ensures.spare_len_unchanged;
    }

pub write_type-shape_of-out-in-11 : goal.write_type-shape_of-out-in-11
write_type-shape_of-out-in-11 t c =
    let args = c.args in
    under_kept
    (in_context (order_of args.reading) args.least args.left args.v.now args.out.now args.spare.now c.requires.fit_val
    (bytes_of args.v.now c.type_inv.v) _ c.word_at-n-in-11.ensures.0 c.in-11.is).under
    _ _ _ c.write_entries-e.ensures.typed

pub write_type-returns-in-11 : goal.write_type-returns-in-11
write_type-returns-in-11 t c =
    let args = c.args in record {
      typed = under_done
          (in_context (order_of args.reading) args.least args.left args.v.now args.out.now args.spare.now c.requires.fit_val
          (bytes_of args.v.now c.type_inv.v) _ c.word_at-n-in-11.ensures.0 c.in-11.is).under
          _ _ _ c.write_entries-e.ensures.typed;
      spare_len_unchanged = c.write_entries-e.ensures.spare_len_unchanged;
    }

pub write_type-shape_of-out-in-12 : goal.write_type-shape_of-out-in-12
write_type-shape_of-out-in-12 t c =
    let args = c.args in
    under_kept
    (in_definition (order_of args.reading) args.least args.left args.v.now args.out.now args.spare.now c.requires.fit_val
    (bytes_of args.v.now c.type_inv.v) _ c.from.ensures c.in-12.is)
    _ _ _ c.write_signature-e.ensures

pub write_type-returns-in-12 : goal.write_type-returns-in-12
write_type-returns-in-12 t c =
    let args = c.args in record {
      typed = under_done
          (in_definition (order_of args.reading) args.least args.left args.v.now args.out.now args.spare.now c.requires.fit_val
          (bytes_of args.v.now c.type_inv.v) _ c.from.ensures c.in-12.is)
          _ _ _ c.write_signature-e.ensures;
      spare_len_unchanged = refl;
    }

pub write_type-returns-in-14 : goal.write_type-returns-in-14
write_type-returns-in-14 t c =
    let args = c.args in
    let bytes-of1 = bytes_of args.v.now c.type_inv.v in record {
      typed = type_done (order_of args.reading) args.least args.left args.v.now args.out.now _ bytes-of1
          (in_type (order_of args.reading) args.least args.left args.v.now args.out.now args.spare.now c.requires.fit_val bytes-of1
          c.in-14.is)
          _ c.skip-n.ensures _ c.copy.ensures;
      spare_len_unchanged = refl;
    }

pub write_type-returns-in_default : goal.write_type-returns-in_default
write_type-returns-in_default t c =
    record {
      typed = other_done (order_of c.args.reading) c.args.least c.args.left c.args.v.now c.args.out.now c.args.spare.now c.requires.fit_val
          (bytes_of c.args.v.now c.type_inv.v) ((omega arith, λ e. omega arith), λ e. omega arith) _ c.width.ensures;
      spare_len_unchanged = refl;
    }

pub write_type-returns-in-0-to-8 : goal.write_type-returns-in-0-to-8
write_type-returns-in-0-to-8 t c =
    record {
      typed = leaf_done (order_of c.args.reading) c.args.least c.args.left c.args.v.now c.args.out.now c.args.spare.now c.requires.fit_val
          (bytes_of c.args.v.now c.type_inv.v)
          (leaf_arm t c)
          _ c.leaf_type.ensures _ c.width-in-0-to-8.ensures;
      spare_len_unchanged = refl;
    }
