-- `form::walk::flag` meets its contract: an operand byte within its bound ends the leaf after two bytes, one beyond it is a fault.
-- Assumes nothing.
use native.Mathlib.Omega.{arith}
use borrow.Author.Tests.{le-leb, lt-leb}
use Rattle.form.specs.Faults.{Shape}
use Rattle.form.proofs.WalkAnswers.{told_stop, told_ended}
use Rattle.form.proofs.walk.flag.Goals as goal

pub returns-then-x-most : goal.returns-then-x-most
returns-then-x-most c =
    told_ended
    (rw
    (le-leb c.args.x c.args.most
    c.if-x-most.true))
    (omega arith) (omega arith) (omega arith) c.end.ensures.0 c.end.ensures.1

pub returns-else-x-most : goal.returns-else-x-most
returns-else-x-most c =
    told_stop Shape
    (rw
    (lt-leb c.args.x c.args.most
    c.if-x-most.false))
    c.stop.ensures.0 c.stop.ensures.1
