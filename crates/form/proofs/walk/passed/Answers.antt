-- `form::walk::passed` meets its contract: one test of the size.
-- Assumes nothing.
use mathlib.Core.Path.{ap}
use borrow.Author.Tests.{ne_eqb, eq-eqb}
use Rattle.form.specs.Walks.{walk_told}
use Rattle.form.specs.Walks as walk
use Rattle.form.specs.Faults.{Fault}
use Rattle.form.proofs.walk.passed.Goals as goal

pub returns-then-size-eq0 : goal.returns-then-size-eq0
returns-then-size-eq0 c = unfold walk_told in rw (eq-eqb c.args.size 0 c.if-size-eq0.true) (ap (λ (f : Fault). walk.Stop f) c.fault_of.ensures)

pub returns : goal.returns
returns c = unfold walk_told in rw (ne_eqb c.args.size 0 c.if-size-eq0.false)
