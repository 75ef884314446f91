-- `form::walk::simple_at` meets its contract: 1 where the command is that of a simple type, none where the level, the byte or such a command is missing.
-- Assumes nothing.
use native.Mathlib.Omega.{arith}
use Rattle.form.proofs.Leaves.{simple_none, simple_some}
use Rattle.form.proofs.walk.simple_at.Goals as goal
use Rattle.form.proofs.walk.simple_at.Goals.{then-left-eq0-via-then-left-eq0, then-left-eq0-via-else-left-eq0+then-s-at}

pub returns-then-left-eq0 : goal.returns-then-left-eq0
returns-then-left-eq0 c =
    let a = c.args in
    elim c.then-left-eq0.branch [
      | then-left-eq0-via-then-left-eq0 w ↦ simple_none a.left a.s.now a.at (λ p h x y. omega (arith, w.if-left-eq0.true))
      | then-left-eq0-via-else-left-eq0+then-s-at w ↦ simple_none a.left a.s.now a.at (λ p h x y. omega (arith, w.if-s-at.true))
    ]

pub returns-in-32-to-41 : goal.returns-in-32-to-41
returns-in-32-to-41 c =
    let a = c.args in
    simple_some a.left a.s.now a.at (omega arith) (omega arith) (omega arith) (omega arith)

pub returns-in_default : goal.returns-in_default
returns-in_default c =
    let a = c.args in
    simple_none a.left a.s.now a.at (λ p h x y. omega arith)

pub returns-in_default-2 : goal.returns-in_default-2
returns-in_default-2 c =
    let a = c.args in
    simple_none a.left a.s.now a.at (λ p h x y. omega arith)
