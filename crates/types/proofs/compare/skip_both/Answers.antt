-- `types::compare::skip_both` meets its contract: both sizes where both are read, 0 where one is not.
-- Assumes nothing.
use Rattle.types.specs.Conform.{any_two}
use Rattle.types.proofs.TypeConformance.{sized, unsized, two_read, never}
use Rattle.types.proofs.compare.skip_both.Goals as goal

pub returns-then-x-eq0 : goal.returns-then-x-eq0
returns-then-x-eq0 c =
    let args = c.args in
    never any_two args.left args.a.now args.b.now _
    (λ x y e f.
    unsized args.left args.a.now c.skip-x.result c.skip-x.ensures
    c.if-x-eq0.true x e)

pub returns-then-y-eq0 : goal.returns-then-y-eq0
returns-then-y-eq0 c =
    let args = c.args in
    never any_two args.left args.a.now args.b.now _
    (λ x y e f.
    unsized args.left args.b.now c.skip-y.result c.skip-y.ensures
    c.if-y-eq0.true y f)

pub returns : goal.returns
returns c =
    let args = c.args in
    two_read args.left args.a.now args.b.now c.skip-x.result c.skip-y.result
    (sized args.left args.a.now c.skip-x.result c.skip-x.ensures
    c.if-x-eq0.false)
    (sized args.left args.b.now c.skip-y.result c.skip-y.ensures
    c.if-y-eq0.false)
