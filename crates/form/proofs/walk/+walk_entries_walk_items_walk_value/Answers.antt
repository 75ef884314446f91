-- The cycle `form::walk::walk_value`, `walk_items`, `walk_entries` meets its contracts; the measure is twice the level that is left, one more for the loops.
-- One template for all: each return hands on what a callee told, or what the reader's equation says of the command; each turn of a loop is one law of Loops, over the child's walk.
-- Assumes nothing.
use Prim.Native.Nat.{ℕ, ◌<◌, ◌+◌, ◌-◌, ◌≤◌, max}
use borrow.Author.Rules.{rules}
use native.Mathlib.Omega.{arith}
use mathlib.Core.Path.{refl, ap, ◌∙◌}
use mathlib.Core.List.{List}
use lib.ListN.{length, get_or}
use Rattle.form.specs.Limits.{name_width}
use Rattle.form.specs.Faults.{Shape, Level}
use Rattle.form.specs.Trees.{no_entries, entry, no_items, item, is_short_leaf}
use Rattle.form.specs.Form.{level_v, level_vals, level_entries}
use Rattle.form.specs.Layout.{k_range, k_list, k_context, of_value, kind_of, operands_v, operands}
use Rattle.form.specs.Read.{read_v, read_run, read_named, read_vals, read_entries, ascending}
use Rattle.form.specs.Walks.{walk_of, walk_by}
use Rattle.form.proofs.Loops.{deep_start, deep_turn, deep_is, none_told, level_some, run_empty, named_empty, fits}
use Rattle.form.proofs.Loops.{items_short, items_walk, items_fault, items_end, names_end, names_none, names_fall, names_short}
use Rattle.form.proofs.Loops.{names_walk, names_fault}
use Rattle.form.proofs.WalkAnswers.{told_stop, told_parent, told_whole, on_whole, ample, part_room}
use Rattle.form.proofs.ValueLaws.{value_level, leaf_level, entries_law, entries_flat, vals_law, vals_flat, v_level, v_range_first}
use Rattle.form.proofs.ValueLaws.{v_range_second, v_range_is, v_list_is, v_context_is}
use Rattle.form.proofs.walk.+walk_entries_walk_items_walk_value.Goals as goal

pub walk_entries-returns-then-count-eq0 : goal.walk_entries-returns-then-count-eq0
walk_entries-returns-then-count-eq0 t c =
    let args = c.args in
    none_told level_entries
    (λ (n : ℕ). read_named no_entries entry ascending (read_v args.left) n 0)
    no_entries entries_flat (named_empty no_entries entry ascending (read_v args.left) 0)
    args.s.now args.count 3 _ _ _ c.if-count-eq0.true (omega arith)
    c.end.ensures.0 c.end.ensures.1

pub walk_entries-loop-init : goal.walk_entries-loop-init
walk_entries-loop-init t c =
    let args = c.args in
    deep_start level_entries
    (λ (n : ℕ). read_named no_entries entry ascending (read_v args.left) n 0)
    args.s.now args.count

pub walk_entries-overflow_sub-s : goal.walk_entries-overflow_sub-s
walk_entries-overflow_sub-s t c = omega (arith, c.loop.invariant.run)

pub walk_entries-returns-then-s-at-lt-NAME_WIDTH : goal.walk_entries-returns-then-s-at-lt-NAME_WIDTH
walk_entries-returns-then-s-at-lt-NAME_WIDTH t c =
    names_none level_v level_entries no_entries entry ascending entries_law entries_flat
    (read_v c.args.left) c.loop.least
    c.loop.invariant.run 3 _ _ _ c.loop-test.true c.if-s-at-lt-NAME_WIDTH.true
    c.stop.ensures.0 c.stop.ensures.1

pub walk_entries-returns-then-name-least : goal.walk_entries-returns-then-name-least
walk_entries-returns-then-name-least t c =
    names_fall level_v level_entries no_entries entry ascending entries_law entries_flat
    (read_v c.args.left) c.loop.least c.loop.invariant.run
    c.name_at-name.result c.name_at-name.ensures.0 c.if-s-at-lt-NAME_WIDTH.false
    c.loop-test.true 3 _ _ _ c.if-name-least.true
    c.stop-then-name-least.ensures.0 c.stop-then-name-least.ensures.1

pub walk_entries-overflow_add-at : goal.walk_entries-overflow_add-at
walk_entries-overflow_add-at t c =
    omega (
      arith,
      c.in-Some.ensures.room,
      c.loop.invariant.run,
    )

pub walk_entries-loop-preserved-in-Some : goal.walk_entries-loop-preserved-in-Some
walk_entries-loop-preserved-in-Some t c =
    let readV1 = read_v c.args.left in
    deep_turn c.loop.invariant
    (λ (n : ℕ). read_named no_entries entry ascending readV1 n (ascending c.name_at-name.result))
    _ c.loop.deep 1
    (names_short level_v level_entries no_entries entry ascending entries_law entries_flat readV1
    c.loop.least c.loop.invariant.run c.name_at-name.result c.name_at-name.ensures.0
    c.if-s-at-lt-NAME_WIDTH.false c.loop-test.true c.if-name-least.false
    is_short_leaf leaf_level c.in-Some.n (max c.loop.invariant.d 1)
    c.in-Some.ensures refl)
    (omega arith)
    (let w = c.loop.invariant.deeper in
    omega arith)

pub walk_entries-returns-then-size-eq0 : goal.walk_entries-returns-then-size-eq0
walk_entries-returns-then-size-eq0 t c =
    names_fault level_v level_entries no_entries entry ascending entries_law entries_flat
    (read_v c.args.left) c.loop.least
    c.loop.invariant.run c.name_at-name.result c.name_at-name.ensures.0 c.if-s-at-lt-NAME_WIDTH.false
    c.loop-test.true c.if-name-least.false c.walk_value-size.result _ 3 _
    c.walk_value-size.ensures c.if-size-eq0.true

pub walk_entries-overflow_add-at-in-loop : goal.walk_entries-overflow_add-at-in-loop
walk_entries-overflow_add-at-in-loop t c =
    let q = fits level_v (read_v c.args.left)
    c.args.s.now (c.loop.at + name_width)
    c.walk_value-size.result _ c.walk_value-size.ensures c.if-size-eq0.false in
    omega (arith, c.loop.invariant.run)

pub walk_entries-loop-preserved : goal.walk_entries-loop-preserved
walk_entries-loop-preserved t c =
    let args = c.args in
    deep_turn c.loop.invariant
    (λ (n : ℕ).
    read_named no_entries entry ascending (read_v args.left) n (ascending c.name_at-name.result))
    _ c.max-deep.result c.walk_value-size.new.told
    (names_walk level_v level_entries no_entries entry ascending entries_law entries_flat
    (read_v args.left) c.loop.least c.loop.invariant.run c.name_at-name.result
    c.name_at-name.ensures.0 c.if-s-at-lt-NAME_WIDTH.false c.loop-test.true
    c.if-name-least.false c.walk_value-size.result c.walk_value-size.new.told
    (max c.loop.invariant.d c.walk_value-size.new.told) c.walk_value-size.ensures
    c.if-size-eq0.false refl)
    (level_some level_v value_level (read_v args.left) args.s.now (c.loop.at + name_width)
    c.walk_value-size.result c.walk_value-size.new.told c.walk_value-size.ensures
    c.if-size-eq0.false)
    c.max-deep.ensures

pub walk_entries-overflow_add-at-2 : goal.walk_entries-overflow_add-at-2
walk_entries-overflow_add-at-2 t c = omega (arith, c.loop.invariant.run)

pub walk_entries-overflow_add-deep : goal.walk_entries-overflow_add-deep
walk_entries-overflow_add-deep t c =
    let e =
    deep_is c.loop.invariant (omega (arith, c.if-count-eq0.false)) c.loop-test.false in
    omega (arith, c.loop.invariant.run)

pub walk_entries-returns : goal.walk_entries-returns
walk_entries-returns t c =
    names_end level_v level_entries no_entries entry ascending entries_law entries_flat
    (read_v c.args.left) c.loop.least c.loop.invariant.run 3 _ _
    c.loop-test.false (omega arith) c.end-2.ensures.0
    (c.end-2.ensures.1 ∙ ap
    (λ (z : ℕ). z + 1)
    (deep_is c.loop.invariant (omega (arith, c.if-count-eq0.false)) c.loop-test.false))

pub walk_items-returns-then-count-eq0 : goal.walk_items-returns-then-count-eq0
walk_items-returns-then-count-eq0 t c =
    let args = c.args in
    none_told level_vals (read_run no_items item (read_v args.left)) no_items vals_flat
    (run_empty no_items item (read_v args.left)) args.s.now args.count 3 _ _ _
    c.if-count-eq0.true (omega arith) c.end.ensures.0 c.end.ensures.1

pub walk_items-loop-init : goal.walk_items-loop-init
walk_items-loop-init t c =
    let args = c.args in
    deep_start level_vals (read_run no_items item (read_v args.left)) args.s.now args.count

pub walk_items-leaf_size_at-requires : goal.walk_items-leaf_size_at-requires
walk_items-leaf_size_at-requires t c = omega (arith, c.loop.invariant.run)

pub walk_items-overflow_add-at : goal.walk_items-overflow_add-at
walk_items-overflow_add-at t c = omega (arith, c.in-Some.ensures.room, c.loop.invariant.run)

pub walk_items-loop-preserved-in-Some : goal.walk_items-loop-preserved-in-Some
walk_items-loop-preserved-in-Some t c =
    let readV1 = read_v c.args.left in
    deep_turn c.loop.invariant (read_run no_items item readV1) _ c.loop.deep 1
    (items_short level_v level_vals no_items item vals_law vals_flat readV1 c.loop.invariant.run is_short_leaf
    leaf_level c.in-Some.n (max c.loop.invariant.d 1)
    c.loop-test.true c.in-Some.ensures refl)
    (omega arith)
    (let w = c.loop.invariant.deeper in
    omega arith)

pub walk_items-slice_bounds-walk_value-count : goal.walk_items-slice_bounds-walk_value-count
walk_items-slice_bounds-walk_value-count t c = omega (arith, c.loop.invariant.run)

pub walk_items-slice_bounds-walk_value-start : goal.walk_items-slice_bounds-walk_value-start
walk_items-slice_bounds-walk_value-start t c = omega (arith, c.loop.invariant.run)

pub walk_items-returns-then-size-eq0 : goal.walk_items-returns-then-size-eq0
walk_items-returns-then-size-eq0 t c =
    items_fault level_v level_vals no_items item vals_law vals_flat
    (read_v c.args.left) c.loop.invariant.run
    c.walk_value-size.result _ 3 _ c.loop-test.true c.walk_value-size.ensures
    c.if-size-eq0.true

pub walk_items-overflow_add-at-in-loop : goal.walk_items-overflow_add-at-in-loop
walk_items-overflow_add-at-in-loop t c =
    let q = fits level_v (read_v c.args.left)
    c.args.s.now c.loop.at c.walk_value-size.result _
    c.walk_value-size.ensures c.if-size-eq0.false in
    omega (arith, c.loop.invariant.run)

pub walk_items-loop-preserved : goal.walk_items-loop-preserved
walk_items-loop-preserved t c =
    let args = c.args in
    let loop = c.loop in
    deep_turn loop.invariant (read_run no_items item (read_v args.left)) _ c.max-deep.result
    c.walk_value-size.new.told
    (items_walk level_v level_vals no_items item vals_law vals_flat (read_v args.left) loop.invariant.run
    c.walk_value-size.result c.walk_value-size.new.told
    (max loop.invariant.d c.walk_value-size.new.told) c.loop-test.true
    c.walk_value-size.ensures c.if-size-eq0.false refl)
    (level_some level_v value_level (read_v args.left) args.s.now loop.at
    c.walk_value-size.result c.walk_value-size.new.told c.walk_value-size.ensures
    c.if-size-eq0.false)
    c.max-deep.ensures

pub walk_items-overflow_add-at-2 : goal.walk_items-overflow_add-at-2
walk_items-overflow_add-at-2 t c = omega (arith, c.loop.invariant.run)

pub walk_items-overflow_add-deep : goal.walk_items-overflow_add-deep
walk_items-overflow_add-deep t c =
    let e =
    deep_is c.loop.invariant (omega (arith, c.if-count-eq0.false)) c.loop-test.false in
    omega (arith, c.loop.invariant.run)

pub walk_items-returns : goal.walk_items-returns
walk_items-returns t c =
    items_end level_v level_vals no_items item vals_law vals_flat
    (read_v c.args.left) c.loop.invariant.run 3 _ _
    c.loop-test.false (omega arith) c.end-2.ensures.0
    (c.end-2.ensures.1 ∙ ap
    (λ (z : ℕ). z + 1)
    (deep_is c.loop.invariant (omega (arith, c.if-count-eq0.false)) c.loop-test.false))

pub walk_value-returns-then-s-lt3 : goal.walk_value-returns-then-s-lt3
walk_value-returns-then-s-lt3 t c =
    let args = c.args in
    told_whole
    (λ (r : List ℕ). walk_of level_v (read_v args.left r))
    args.s.now _ _ c.walk_other.ensures

pub walk_value-returns-then-left-eq0 : goal.walk_value-returns-then-left-eq0
walk_value-returns-then-left-eq0 t c =
    let args = c.args in
    told_stop Level (v_level args.left args.s.now (omega arith) c.if-left-eq0.true)
    c.stop.ensures.0 c.stop.ensures.1

pub walk_value-returns-then-s-gt3 : goal.walk_value-returns-then-s-gt3
walk_value-returns-then-s-gt3 t c =
    unfold kind_of operands operands_v in
    let w =
    ample c.args.s.now 0x09
    2 (of_value k_range) c.in-9.is refl refl (omega arith) in
    told_stop Shape
    (v_range_first
    c.args.left
    c.args.s.now
    (omega arith) (omega arith) w.1 w.0 c.if-s-gt3.true)
    c.stop-then-s-gt3.ensures.0 c.stop-then-s-gt3.ensures.1

pub walk_value-returns-then-s-gt3-2 : goal.walk_value-returns-then-s-gt3-2
walk_value-returns-then-s-gt3-2 t c =
    unfold kind_of operands operands_v in
    let w = ample
    c.args.s.now
    0x09 2 (of_value k_range) c.in-9.is refl refl
    (omega arith) in
    told_stop Shape
    (v_range_second
    c.args.left
    c.args.s.now
    (omega arith) (omega arith) w.1 w.0 c.if-s-gt3.false
    c.if-s-gt3-2.true)
    c.stop-then-s-gt3-2.ensures.0 c.stop-then-s-gt3-2.ensures.1

pub walk_value-walk_items-requires : goal.walk_value-walk_items-requires
walk_value-walk_items-requires t c = (search rules, part_room c.args.s.now 3 (omega arith) (omega (arith, c.well_formed)))

pub walk_value-walk_items-requires-in-10 : goal.walk_value-walk_items-requires-in-10
walk_value-walk_items-requires-in-10 t c = (search rules, part_room c.args.s.now 3 (omega arith) (omega (arith, c.well_formed)))

pub walk_value-walk_entries-requires : goal.walk_value-walk_entries-requires
walk_value-walk_entries-requires t c = (search rules, part_room c.args.s.now 3 (omega arith) (omega (arith, c.well_formed)))

pub walk_value-walk_other-requires-in_default : goal.walk_value-walk_other-requires-in_default
walk_value-walk_other-requires-in_default t c =
    on_whole
    (λ (r : List ℕ). 3 ≤ length r → 9 ≤ get_or r 0 0 → 11 < get_or r 0 0)
    c.args.s.now
    (λ x y. omega (arith, c.in_default.in_default-own.rest))

pub walk_value-returns-else-s-gt3-2 : goal.walk_value-returns-else-s-gt3-2
walk_value-returns-else-s-gt3-2 t c =
    unfold kind_of operands operands_v in
    let w = ample
    c.args.s.now
    0x09 2 (of_value k_range) c.in-9.is
    refl refl (omega arith) in
    told_parent
    (λ (r : List ℕ).
    walk_by level_vals 0 0
    (read_vals
    (read_v
    (c.args.left
    - 1))
    2 r))
    c.args.s.now
    3 _ _
    (v_range_is
    c.args.left
    c.args.s.now
    (omega arith) (omega arith) w.1 w.0 c.if-s-gt3.false
    c.if-s-gt3-2.false)
    (omega arith) c.walk_items.ensures

pub walk_value-returns-in-10 : goal.walk_value-returns-in-10
walk_value-returns-in-10 t c =
    unfold kind_of operands operands_v in
    let w =
    ample c.args.s.now 0x0A
    2 (of_value k_list) c.in-10.is refl refl (omega arith) in
    told_parent
    (λ (r : List ℕ).
    walk_by level_vals 0 0
    (read_vals
    (read_v (c.args.left - 1))
    c.word_at.result r))
    c.args.s.now 3 _ _
    (v_list_is c.args.left
    c.args.s.now
    (omega arith) (omega arith) w.1 c.word_at.result
    c.word_at.ensures.0 w.0)
    (omega arith) c.walk_items-in-10.ensures

pub walk_value-returns-in-11 : goal.walk_value-returns-in-11
walk_value-returns-in-11 t c =
    unfold kind_of operands operands_v in
    let w =
    ample c.args.s.now 0x0B
    2 (of_value k_context) c.in-11.is refl refl (omega arith) in
    told_parent
    (λ (r : List ℕ).
    walk_by level_entries 0 0
    (read_entries
    (read_v (c.args.left - 1))
    c.word_at-in-11.result 0 r))
    c.args.s.now 3 _ _
    (v_context_is c.args.left
    c.args.s.now
    (omega arith) (omega arith) w.1 c.word_at-in-11.result
    c.word_at-in-11.ensures.0 w.0)
    (omega arith) c.walk_entries.ensures

pub walk_value-returns-in_default : goal.walk_value-returns-in_default
walk_value-returns-in_default t c =
    let args = c.args in
    told_whole
    (λ (r : List ℕ). walk_of level_v (read_v args.left r))
    args.s.now _ _ c.walk_other-in_default.ensures
