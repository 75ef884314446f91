-- `form::walk::walk_definition` meets its contract: the result type, then one loop over names and types, whose turns are laws of Loops.
-- Assumes nothing.
use native.Mathlib.Omega.{arith}
use mathlib.Core.Path.{refl, sym, ap}
use lib.ListN.{length}
use Prim.Native.Nat.{ℕ, ◌+◌}
use Rattle.form.specs.Limits.{name_width}
use Rattle.form.specs.Trees.{no_parameters, parameter}
use Rattle.form.specs.Form.{num_at, level, level_params}
use Rattle.form.specs.Read.{read_t, read_named, any_order}
use Rattle.form.specs.Walks.{walk_of, pair_walk, up}
use Rattle.form.proofs.Runs.{run_start, pair_end, pair_fault}
use Rattle.form.proofs.WalkAnswers.{told_end, told_fault}
use Rattle.form.proofs.Loops.{fits, names_end, names_none, names_walk, names_fault}
use Rattle.form.proofs.ValueLaws.{params_law, params_flat}
use Rattle.form.proofs.walk.walk_definition.Goals as goal

pub returns-then-at-eq0 : goal.returns-then-at-eq0
returns-then-at-eq0 c =
    let args = c.args in
    let readNamed1 = read_named no_parameters parameter any_order (read_t args.left) args.count 0 in
    let s-now = args.s.now in
    let x1 = (read_t args.left) s-now in
    told_fault (walk_of level x1) (up 4 (pair_walk level level_params s-now readNamed1 x1)) (length s-now)
    (length s-now + 4) c.walk_type-at.result c.walk_type-at.new.told
    c.walk_type-at.ensures c.if-at-eq0.true
    (λ f e. sym (ap (up 4) (pair_fault level level_params s-now readNamed1 f x1 e)))

pub loop-init : goal.loop-init
loop-init c =
    let args = c.args in
    let x1 = (read_t args.left) args.s.now in
    let e = told_end (walk_of level x1) (length args.s.now) c.walk_type-at.result
    c.walk_type-at.new.told c.walk_type-at.ensures (omega arith) in
    rw
    (pair_end level level_params args.s.now
    (read_named no_parameters parameter any_order (read_t args.left) args.count 0)
    c.walk_type-at.result c.walk_type-at.new.told x1 e.0)
    (run_start level_params
    (λ (n : ℕ). read_named no_parameters parameter any_order (read_t args.left) n 0)
    args.s.now args.count c.walk_type-at.result c.walk_type-at.new.told e.1.0
    e.1.1)

pub overflow_sub-s : goal.overflow_sub-s
overflow_sub-s c = omega (arith, c.loop.invariant)

pub returns-then-s-at-lt-NAME_WIDTH : goal.returns-then-s-at-lt-NAME_WIDTH
returns-then-s-at-lt-NAME_WIDTH c =
    names_none level level_params no_parameters parameter any_order params_law params_flat
    (read_t c.args.left) 0
    c.loop.invariant 4 _ _ _ c.loop-test.true c.if-s-at-lt-NAME_WIDTH.true
    c.stop.ensures.0 c.stop.ensures.1

pub returns-then-size-eq0 : goal.returns-then-size-eq0
returns-then-size-eq0 c =
    let args = c.args in
    names_fault level level_params no_parameters parameter any_order params_law params_flat
    (read_t args.left) 0 c.loop.invariant
    (num_at name_width c.loop.at args.s.now) refl c.if-s-at-lt-NAME_WIDTH.false c.loop-test.true
    (omega arith) c.walk_type-size.result _ 4 _ c.walk_type-size.ensures c.if-size-eq0.true

pub overflow_add-at : goal.overflow_add-at
overflow_add-at c =
    let args = c.args in
    let q = fits level (read_t args.left) args.s.now (c.loop.at + name_width)
    c.walk_type-size.result _ c.walk_type-size.ensures c.if-size-eq0.false in
    omega (arith, c.loop.invariant)

pub loop-preserved : goal.loop-preserved
loop-preserved c =
    let args = c.args in
    names_walk level level_params no_parameters parameter any_order params_law params_flat
    (read_t args.left) 0 c.loop.invariant (num_at name_width c.loop.at args.s.now) refl
    c.if-s-at-lt-NAME_WIDTH.false c.loop-test.true (omega arith) c.walk_type-size.result
    c.walk_type-size.new.told c.max-deep.result c.walk_type-size.ensures
    c.if-size-eq0.false c.max-deep.ensures

pub overflow_add-at-2 : goal.overflow_add-at-2
overflow_add-at-2 c = omega (arith, c.loop.invariant)

pub overflow_add-deep : goal.overflow_add-deep
overflow_add-deep c = omega (arith, c.loop.invariant)

pub returns : goal.returns
returns c =
    names_end level level_params no_parameters parameter any_order params_law params_flat
    (read_t c.args.left) 0
    c.loop.invariant 4 _ _ c.loop-test.false (omega arith)
    c.end.ensures.0 c.end.ensures.1
