-- `form::walk::fault_of` meets its contract: the fault is chosen by its number.
-- Assumes nothing.
use native.Mathlib.Omega.{arith}
use borrow.Author.Tests.{ne_eqb, eq-eqb}
use Rattle.form.proofs.walk.fault_of.Goals as goal

pub returns-in-1 : goal.returns-in-1
returns-in-1 c = rw (eq-eqb c.args.told 1 c.in-1.is)

pub returns-in-2 : goal.returns-in-2
returns-in-2 c = rw (ne_eqb c.args.told 1 (λ e. omega arith), eq-eqb c.args.told 2 c.in-2.is)

pub returns-in_default : goal.returns-in_default
returns-in_default c = rw (ne_eqb c.args.told 1 (λ e. omega arith), ne_eqb c.args.told 2 (λ e. omega arith))
