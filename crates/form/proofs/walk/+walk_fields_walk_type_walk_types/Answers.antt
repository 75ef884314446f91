-- The cycle `form::walk::walk_type`, `walk_types`, `walk_fields` meets its contracts; the measure is twice the level that is left, one more for the loops.
-- One template for all: each return hands on what a callee told, or what the reader's equation says of the command; each turn of a loop is one law of Loops, over the child's walk.
-- Assumes nothing.
use Prim.Native.Nat.{ℕ, ◌+◌, ◌-◌}
use borrow.Author.Rules.{rules}
use native.Mathlib.Omega.{arith}
use mathlib.Core.Path.{refl}
use mathlib.Core.List.{List}
use Rattle.form.specs.Limits.{name_width}
use Rattle.form.specs.Faults.{Shape, Level}
use Rattle.form.specs.Trees.{no_fields, field, no_params, param, simple}
use Rattle.form.specs.Form.{level, level_fields, level_tys}
use Rattle.form.specs.Layout.{t_context, t_function, of_type, kind_of, operands_t, operands}
use Rattle.form.specs.Read.{read_t, read_run, read_named, read_tys, read_fields, ascending}
use Rattle.form.specs.Walks.{walk_by}
use Rattle.form.proofs.Runs.{run_start}
use Rattle.form.proofs.WalkAnswers.{told_stop, told_ended, told_parent, ample, scant, part_room}
use Rattle.form.proofs.Loops.{fits, items_short, items_walk, items_fault, items_end, names_end, names_none, names_fall, names_short}
use Rattle.form.proofs.Loops.{names_walk, names_fault}
use Rattle.form.proofs.CommandKinds.{kind_simple}
use Rattle.form.proofs.TypeLaws.{simple_level, fields_law, fields_flat, tys_law, tys_flat, t_none, t_level, t_short, t_other}
use Rattle.form.proofs.TypeLaws.{t_simple_lem, t_one_run, t_context_lem, t_function_lem}
use Rattle.form.proofs.walk.+walk_fields_walk_type_walk_types.Goals as goal
use Rattle.form.proofs.walk.+walk_fields_walk_type_walk_types.Goals.{walk_type-in_default-via-then-this-lt32, walk_type-in_default-via-else-this-lt32+else-this-lt42}

pub walk_fields-loop-init : goal.walk_fields-loop-init
walk_fields-loop-init t c =
    run_start level_fields
    (λ (n : ℕ). read_named no_fields field ascending (read_t c.args.left) n 0)
    c.args.s.now c.args.count 0 0 (omega arith) (omega arith)

pub walk_fields-overflow_sub-s : goal.walk_fields-overflow_sub-s
walk_fields-overflow_sub-s t c = omega (arith, c.loop.invariant)

pub walk_fields-returns-then-s-at-lt-NAME_WIDTH : goal.walk_fields-returns-then-s-at-lt-NAME_WIDTH
walk_fields-returns-then-s-at-lt-NAME_WIDTH t c =
    names_none level level_fields no_fields field ascending fields_law fields_flat
    (read_t c.args.left) c.loop.least c.loop.invariant 3
    _ _ _ c.loop-test.true c.if-s-at-lt-NAME_WIDTH.true c.stop.ensures.0
    c.stop.ensures.1

pub walk_fields-returns-then-name-least : goal.walk_fields-returns-then-name-least
walk_fields-returns-then-name-least t c =
    names_fall level level_fields no_fields field ascending fields_law fields_flat
    (read_t c.args.left) c.loop.least c.loop.invariant c.name_at-name.result
    c.name_at-name.ensures.0 c.if-s-at-lt-NAME_WIDTH.false c.loop-test.true 3 _ _ _
    c.if-name-least.true c.stop-then-name-least.ensures.0 c.stop-then-name-least.ensures.1

pub walk_fields-overflow_add-at : goal.walk_fields-overflow_add-at
walk_fields-overflow_add-at t c =
    omega (
      arith,
      c.in-Some.ensures.room,
      c.loop.invariant,
    )

pub walk_fields-loop-preserved-in-Some : goal.walk_fields-loop-preserved-in-Some
walk_fields-loop-preserved-in-Some t c =
    names_short level level_fields no_fields field ascending fields_law fields_flat
    (read_t c.args.left) c.loop.least c.loop.invariant c.name_at-name.result
    c.name_at-name.ensures.0 c.if-s-at-lt-NAME_WIDTH.false c.loop-test.true
    c.if-name-least.false simple simple_level c.in-Some.n c.max-deep.result
    c.in-Some.ensures c.max-deep.ensures

pub walk_fields-returns-then-size-eq0 : goal.walk_fields-returns-then-size-eq0
walk_fields-returns-then-size-eq0 t c =
    names_fault level level_fields no_fields field ascending fields_law fields_flat
    (read_t c.args.left) c.loop.least c.loop.invariant
    c.name_at-name.result c.name_at-name.ensures.0 c.if-s-at-lt-NAME_WIDTH.false c.loop-test.true
    c.if-name-least.false c.walk_type-size.result _ 3 _ c.walk_type-size.ensures c.if-size-eq0.true

pub walk_fields-overflow_add-at-in-loop : goal.walk_fields-overflow_add-at-in-loop
walk_fields-overflow_add-at-in-loop t c =
    let q = fits level (read_t c.args.left) c.args.s.now
    (c.loop.at + name_width) c.walk_type-size.result _ c.walk_type-size.ensures
    c.if-size-eq0.false in
    omega (arith, c.loop.invariant)

pub walk_fields-loop-preserved : goal.walk_fields-loop-preserved
walk_fields-loop-preserved t c =
    names_walk level level_fields no_fields field ascending fields_law fields_flat
    (read_t c.args.left) c.loop.least
    c.loop.invariant c.name_at-name.result c.name_at-name.ensures.0
    c.if-s-at-lt-NAME_WIDTH.false c.loop-test.true c.if-name-least.false c.walk_type-size.result
    c.walk_type-size.new.told c.max-deep-in-loop.result c.walk_type-size.ensures
    c.if-size-eq0.false c.max-deep-in-loop.ensures

pub walk_fields-overflow_add-at-2 : goal.walk_fields-overflow_add-at-2
walk_fields-overflow_add-at-2 t c = omega (arith, c.loop.invariant)

pub walk_fields-overflow_add-deep : goal.walk_fields-overflow_add-deep
walk_fields-overflow_add-deep t c = omega (arith, c.loop.invariant)

pub walk_fields-returns : goal.walk_fields-returns
walk_fields-returns t c =
    names_end level level_fields no_fields field ascending fields_law fields_flat
    (read_t c.args.left) c.loop.least c.loop.invariant 3 _ _
    c.loop-test.false (omega arith) c.end.ensures.0 c.end.ensures.1

pub walk_type-returns-then-s-eq0 : goal.walk_type-returns-then-s-eq0
walk_type-returns-then-s-eq0 t c =
    let args = c.args in
    told_stop Shape (t_none args.left args.s.now c.if-s-eq0.true)
    c.stop.ensures.0 c.stop.ensures.1

pub walk_type-returns-then-left-eq0 : goal.walk_type-returns-then-left-eq0
walk_type-returns-then-left-eq0 t c =
    let args = c.args in
    told_stop Level (t_level args.left args.s.now (omega arith) c.if-left-eq0.true)
    c.stop-then-left-eq0.ensures.0 c.stop-then-left-eq0.ensures.1

pub walk_type-walk_types-requires : goal.walk_type-walk_types-requires
walk_type-walk_types-requires t c = (
  search rules,
  (search rules, part_room c.args.s.now 1 (omega arith) (omega (arith, c.well_formed))),
)

pub walk_type-walk_types-requires-in-43 : goal.walk_type-walk_types-requires-in-43
walk_type-walk_types-requires-in-43 t c = (
  search rules,
  (search rules, part_room c.args.s.now 1 (omega arith) (omega (arith, c.well_formed))),
)

pub walk_type-returns-then-s-lt3 : goal.walk_type-returns-then-s-lt3
walk_type-returns-then-s-lt3 t c =
    unfold kind_of operands operands_t in
    told_stop Shape
    (t_short c.args.left
    c.args.s.now (omega arith)
    (omega arith)
    (scant c.args.s.now 0x2C 2
    (of_type t_context) c.in-44.is refl refl (omega arith) (omega arith)))
    c.stop-then-s-lt3.ensures.0 c.stop-then-s-lt3.ensures.1

pub walk_type-walk_fields-requires : goal.walk_type-walk_fields-requires
walk_type-walk_fields-requires t c = (search rules, part_room c.args.s.now 3 (omega arith) (omega (arith, c.well_formed)))

pub walk_type-returns-then-s-lt2 : goal.walk_type-returns-then-s-lt2
walk_type-returns-then-s-lt2 t c =
    unfold kind_of operands operands_t in
    told_stop Shape
    (t_short c.args.left
    c.args.s.now (omega arith)
    (omega arith)
    (scant c.args.s.now 0x2D 1
    (of_type t_function) c.in-45.is refl refl (omega arith) (omega arith)))
    c.stop-then-s-lt2.ensures.0 c.stop-then-s-lt2.ensures.1

pub walk_type-walk_types-requires-in-45 : goal.walk_type-walk_types-requires-in-45
walk_type-walk_types-requires-in-45 t c = (
  search rules,
  (search rules, part_room c.args.s.now 2 (omega arith) (omega (arith, c.well_formed))),
)

pub walk_type-returns-in-42 : goal.walk_type-returns-in-42
walk_type-returns-in-42 t c =
    let args = c.args in
    told_parent
    (λ (r : List ℕ). walk_by level_tys 0 0 (read_tys (read_t (args.left - 1)) 1 r))
    args.s.now 1 _ _
    (t_one_run args.left args.s.now (omega arith) (omega arith) (omega (arith, c.in-42.is))
    (omega (arith, c.in-42.is)))
    (omega arith) c.walk_types.ensures

pub walk_type-returns-in-43 : goal.walk_type-returns-in-43
walk_type-returns-in-43 t c =
    let args = c.args in
    told_parent
    (λ (r : List ℕ). walk_by level_tys 0 0 (read_tys (read_t (args.left - 1)) 1 r))
    args.s.now 1 _ _
    (t_one_run args.left args.s.now (omega arith) (omega arith) (omega (arith, c.in-43.is))
    (omega (arith, c.in-43.is)))
    (omega arith) c.walk_types-in-43.ensures

pub walk_type-returns-else-s-lt3 : goal.walk_type-returns-else-s-lt3
walk_type-returns-else-s-lt3 t c =
    unfold kind_of operands operands_t in
    let w = ample
    c.args.s.now
    0x2C 2 (of_type t_context) c.in-44.is refl refl
    (omega arith) in
    told_parent
    (λ (r : List ℕ).
    walk_by level_fields 0 0
    (read_fields
    (read_t
    (c.args.left - 1))
    c.word_at.result 0 r))
    c.args.s.now 3
    _ _
    (t_context_lem
    c.args.left
    c.args.s.now
    (omega arith) (omega arith) w.1 c.word_at.result
    c.word_at.ensures.0 w.0)
    (omega arith) c.walk_fields.ensures

pub walk_type-returns-else-s-lt2 : goal.walk_type-returns-else-s-lt2
walk_type-returns-else-s-lt2 t c =
    unfold kind_of operands operands_t in
    let w = ample
    c.args.s.now
    0x2D 1 (of_type t_function) c.in-45.is refl
    refl (omega arith) in
    told_parent
    (λ (r : List ℕ).
    walk_by level_tys 0 0
    (read_tys
    (read_t
    (c.args.left
    - 1))
    (c.from.result + 1) r))
    c.args.s.now
    2 _ _
    (t_function_lem
    c.args.left
    c.args.s.now
    (omega arith) (omega arith) w.1 (c.from.result + 1)
    (omega (arith, c.from.ensures)) w.0)
    (omega arith) c.walk_types-in-45.ensures

pub walk_type-returns-in-32-to-41 : goal.walk_type-returns-in-32-to-41
walk_type-returns-in-32-to-41 t c =
    let args = c.args in
    told_ended
    (t_simple_lem args.left args.s.now (omega arith) (omega arith)
    (kind_simple _ c.in-32-to-41.if-this-lt32-own.false c.in-32-to-41.if-this-lt42-own.true))
    (omega arith) (omega arith) (omega arith) c.end.ensures.0 c.end.ensures.1

pub walk_type-returns-in_default : goal.walk_type-returns-in_default
walk_type-returns-in_default t c =
    let args = c.args in
    told_stop Shape
    (t_other args.left args.s.now (omega arith) (omega arith)
    (λ x y. elim c.in_default.branch [ walk_type-in_default-via-then-this-lt32 w ↦ omega arith | walk_type-in_default-via-else-this-lt32+else-this-lt42 w ↦ omega arith ])
    (λ x y. omega (arith, c.in_default-1.rest))
    c.in_default-1.rest.0.1 c.in_default-1.rest.1)
    c.stop-in_default.ensures.0 c.stop-in_default.ensures.1

pub walk_types-loop-init : goal.walk_types-loop-init
walk_types-loop-init t c =
    run_start level_tys (read_run no_params param (read_t c.args.left))
    c.args.s.now c.args.count 0 0 (omega arith) (omega arith)

pub walk_types-simple_at-requires : goal.walk_types-simple_at-requires
walk_types-simple_at-requires t c = omega (arith, c.loop.invariant)

pub walk_types-overflow_add-at : goal.walk_types-overflow_add-at
walk_types-overflow_add-at t c = omega (arith, c.in-Some.ensures.room, c.loop.invariant)

pub walk_types-loop-preserved-in-Some : goal.walk_types-loop-preserved-in-Some
walk_types-loop-preserved-in-Some t c =
    items_short level level_tys no_params param tys_law tys_flat
    (read_t c.args.left) c.loop.invariant simple
    simple_level c.in-Some.n c.max-deep.result c.loop-test.true
    c.in-Some.ensures c.max-deep.ensures

pub walk_types-slice_bounds-walk_type-count : goal.walk_types-slice_bounds-walk_type-count
walk_types-slice_bounds-walk_type-count t c = omega (arith, c.loop.invariant)

pub walk_types-slice_bounds-walk_type-start : goal.walk_types-slice_bounds-walk_type-start
walk_types-slice_bounds-walk_type-start t c = omega (arith, c.loop.invariant)

pub walk_types-returns-then-size-eq0 : goal.walk_types-returns-then-size-eq0
walk_types-returns-then-size-eq0 t c =
    items_fault level level_tys no_params param tys_law tys_flat
    (read_t c.args.left) c.loop.invariant
    c.walk_type-size.result _ c.args.k _ c.loop-test.true
    c.walk_type-size.ensures c.if-size-eq0.true

pub walk_types-overflow_add-at-in-loop : goal.walk_types-overflow_add-at-in-loop
walk_types-overflow_add-at-in-loop t c =
    let q = fits level (read_t c.args.left) c.args.s.now
    c.loop.at c.walk_type-size.result _ c.walk_type-size.ensures c.if-size-eq0.false in
    omega (arith, c.loop.invariant)

pub walk_types-loop-preserved : goal.walk_types-loop-preserved
walk_types-loop-preserved t c =
    items_walk level level_tys no_params param tys_law tys_flat
    (read_t c.args.left) c.loop.invariant c.walk_type-size.result
    c.walk_type-size.new.told c.max-deep-in-loop.result c.loop-test.true c.walk_type-size.ensures
    c.if-size-eq0.false c.max-deep-in-loop.ensures

pub walk_types-overflow_add-at-2 : goal.walk_types-overflow_add-at-2
walk_types-overflow_add-at-2 t c = omega (arith, c.loop.invariant)

pub walk_types-overflow_add-deep : goal.walk_types-overflow_add-deep
walk_types-overflow_add-deep t c = omega (arith, c.loop.invariant)

pub walk_types-returns : goal.walk_types-returns
walk_types-returns t c =
    items_end level level_tys no_params param tys_law tys_flat (read_t c.args.left)
    c.loop.invariant c.args.k _ _ c.loop-test.false
    c.requires.0 c.end.ensures.0 c.end.ensures.1
