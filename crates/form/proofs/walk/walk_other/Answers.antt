-- `form::walk::walk_other` meets its contract: operands missing are one fault, all leaves of data are one law, and each other arm is the reader's equation of its command.
-- Assumes nothing.
use borrow.Author.Rules.{rules}
use native.Mathlib.Omega.{arith}
use mathlib.Core.Path.{refl}
use mathlib.Core.List.{List}
use lib.ListN.{length, get_or}
use Prim.Native.Nat.{ℕ, ◌+◌, ◌-◌}
use Rattle.form.specs.Faults.{Shape, Level}
use Rattle.form.specs.Form.{level, level_params, level_tys}
use Rattle.form.specs.Layout.{k_range, k_list, k_context, k_definition, k_built_in, k_type, k_irrelevant, of_value, kind_of, operands, operands_v, width_of}
use Rattle.form.specs.Read.{read_t, read_tys, read_params}
use Rattle.form.specs.Walks.{walk_by, pair_walk, flag_walk}
use Rattle.form.proofs.CommandKinds.{arm, leaf_low, leaf_decimal}
use Rattle.form.proofs.WalkAnswers.{told_stop, told_ended, told_parent, told_within, part_room, no_parent}
use Rattle.form.proofs.ValueLaws.{v_none, v_level, v_short, v_other, v_leaf_is, v_built_in_is, v_definition, v_type_is, v_irrelevant_is}
use Rattle.form.proofs.walk.walk_other.Goals as goal
use Rattle.form.proofs.walk.walk_other.Goals.{in-16-1, in_default+then-c-lt9}

pub returns-then-s-eq0 : goal.returns-then-s-eq0
returns-then-s-eq0 c =
    let args = c.args in
    told_stop Shape (v_none args.left args.s.now c.if-s-eq0.true) c.stop.ensures.0 c.stop.ensures.1

pub returns-then-left-eq0 : goal.returns-then-left-eq0
returns-then-left-eq0 c =
    let args = c.args in
    told_stop Level (v_level args.left args.s.now (omega arith) c.if-left-eq0.true) c.stop-then-left-eq0.ensures.0 c.stop-then-left-eq0.ensures.1

pub returns-then-s-w : goal.returns-then-s-w
returns-then-s-w c =
    let args = c.args in
    told_stop Shape (v_short args.left args.s.now (omega arith) (omega arith) (omega (arith, c.width-w.ensures)))
    c.stop-then-s-w.ensures.0 c.stop-then-s-w.ensures.1

pub slice_bounds-walk_definition-count : goal.slice_bounds-walk_definition-count
slice_bounds-walk_definition-count c =
    unfold kind_of operands operands_v in
    let w = arm (get_or c.args.s.now 0 0) 0x0C
    (length c.args.s.now - 1) (of_value k_definition) c.in-12.is refl
    (omega (arith, c.width-w.ensures)) in
    let n = w.1 in
    omega arith

pub slice_bounds-walk_definition-start : goal.slice_bounds-walk_definition-start
slice_bounds-walk_definition-start c =
    unfold kind_of operands operands_v in
    let w = arm (get_or c.args.s.now 0 0) 0x0C
    (length c.args.s.now - 1) (of_value k_definition) c.in-12.is refl
    (omega (arith, c.width-w.ensures)) in
    let n = w.1 in
    omega arith

pub bounds-s-1 : goal.bounds-s-1
bounds-s-1 c =
    unfold kind_of operands operands_v in
    let w = arm (get_or c.args.s.now 0 0) 0x0C
    (length c.args.s.now - 1) (of_value k_definition)
    c.in-12.is refl (omega (arith, c.width-w.ensures)) in
    let n = w.1 in
    omega arith

pub walk_definition-requires : goal.walk_definition-requires
walk_definition-requires c =
    unfold kind_of operands operands_v in
    let w = arm (get_or c.args.s.now 0 0) 0x0C
    (length c.args.s.now - 1) (of_value k_definition)
    c.in-12.is refl (omega (arith, c.width-w.ensures)) in
    let n = w.1 in
    part_room c.args.s.now 4 (omega arith)
    (omega (arith, c.well_formed))

pub bounds-s-1-in-13 : goal.bounds-s-1-in-13
bounds-s-1-in-13 c =
    unfold kind_of operands operands_v in
    let w = arm (get_or c.args.s.now 0 0) 0x0D
    (length c.args.s.now - 1) (of_value k_built_in) c.in-13.is refl
    (omega (arith, c.width-w.ensures)) in
    let n = w.1 in
    omega arith

pub walk_types-requires : goal.walk_types-requires
walk_types-requires c = (search rules, part_room c.args.s.now 1 (omega arith) (omega (arith, c.well_formed)))

pub bounds-s-w : goal.bounds-s-w
bounds-s-w c = omega (arith, c.width-w.ensures)

pub overflow_add-w : goal.overflow_add-w
overflow_add-w c = omega (arith, c.width-w.ensures)

pub returns-in-12 : goal.returns-in-12
returns-in-12 c =
    unfold kind_of operands operands_v in
    let w = arm (get_or c.args.s.now 0 0) 0x0C
    (length c.args.s.now - 1) (of_value k_definition)
    c.in-12.is refl
    (omega (arith, c.width-w.ensures)) in
    let n = w.1 in
    told_parent
    (λ (r : List ℕ).
    pair_walk level level_params r
    (read_params (read_t (c.args.left - 1))
    c.from.result 0)
    (read_t (c.args.left - 1) r))
    c.args.s.now 4 _ _
    (v_definition c.args.left
    c.args.s.now (omega arith) (omega arith)
    (omega (arith, c.width-w.ensures)) c.from.result
    c.from.ensures w.0)
    (omega arith) c.walk_definition.ensures

pub returns-in-13 : goal.returns-in-13
returns-in-13 c =
    unfold kind_of operands operands_v in
    let w = arm (get_or c.args.s.now 0 0) 0x0D
    (length c.args.s.now - 1) (of_value k_built_in)
    c.in-13.is refl (omega (arith, c.width-w.ensures)) in
    let n = w.1 in
    told_within (flag_walk (get_or c.args.s.now 1 0) 85 2) 2
    (length c.args.s.now) _ _ c.flag.ensures
    (v_built_in_is c.args.left
    c.args.s.now (omega arith) (omega arith)
    (omega (arith, c.width-w.ensures)) w.0)
    (omega arith)

pub returns-in-14 : goal.returns-in-14
returns-in-14 c =
    unfold kind_of operands operands_v in
    let w = arm (get_or c.args.s.now 0 0) 0x0E
    (length c.args.s.now - 1) (of_value k_type)
    c.in-14.is refl (omega (arith, c.width-w.ensures)) in
    told_parent
    (λ (r : List ℕ).
    walk_by level_tys 0 0 (read_tys (read_t (c.args.left - 1)) 1 r))
    c.args.s.now 1 _ _
    (v_type_is c.args.left
    c.args.s.now (omega arith) (omega arith) w.0)
    (omega arith) c.walk_types.ensures

pub returns-in-15 : goal.returns-in-15
returns-in-15 c =
    unfold kind_of operands operands_v in
    let w = arm (get_or c.args.s.now 0 0) 0x0F
    (length c.args.s.now - 1) (of_value k_irrelevant)
    c.in-15.is refl (omega (arith, c.width-w.ensures)) in
    told_ended
    (v_irrelevant_is c.args.left
    c.args.s.now (omega arith) (omega arith) w.0)
    (omega arith) (omega arith) (omega arith) c.end.ensures.0 c.end.ensures.1

pub returns-in_default : goal.returns-in_default
returns-in_default c =
    unfold kind_of operands operands_v in
    told_stop Shape
    (v_other c.args.left
    c.args.s.now (omega arith) (omega arith)
    c.in_default.if-c-lt9-own.false
    (no_parent c.args.s.now 9 (of_value k_range) refl refl (omega arith)
    (omega arith) (omega arith) (omega (arith, c.width-w.ensures))
    c.requires)
    (no_parent c.args.s.now 10 (of_value k_list) refl refl (omega arith)
    (omega arith) (omega arith) (omega (arith, c.width-w.ensures))
    c.requires)
    (no_parent c.args.s.now 11 (of_value k_context) refl refl
    (omega arith) (omega arith) (omega arith) (omega (arith, c.width-w.ensures))
    c.requires)
    c.in_default.in_default-own.rest.0.0.0.1 c.in_default.in_default-own.rest.0.0.1 c.in_default.in_default-own.rest.0.1
    c.in_default.in_default-own.rest.1 c.in_default.in_default-own.rest.0.0.0.0.1)
    c.stop-in_default.ensures.0 c.stop-in_default.ensures.1

pub returns-in-0-to-8 : goal.returns-in-0-to-8
returns-in-0-to-8 c =
    let args = c.args in
    let s-now = args.s.now in
    let w = c.width-w in
    told_within (flag_walk (get_or s-now w.result 0) c.operand_end.result (w.result + 1)) (w.result + 1) (length s-now) _ _ c.flag-in-0-to-8.ensures
    (rw (w.ensures, c.operand_end.ensures)
    (v_leaf_is args.left s-now (omega arith) (omega arith) (omega (arith, w.ensures))
    (omega (arith, c.shared_slice_known-in-0-to-8-1.given (width_of (get_or s-now 0 0))))
    (elim c.in-0-to-8-1.branch [ in-16-1 w ↦ leaf_decimal (get_or s-now 0 0) (omega arith) | in_default+then-c-lt9 w ↦ leaf_low (get_or s-now 0 0) (omega arith) ])))
    (omega arith)
