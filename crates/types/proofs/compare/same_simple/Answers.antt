-- `types::compare::same_simple` meets its contract: a simple type by the short way, and the same command on the other side.
-- Assumes nothing.
use native.Mathlib.Omega.{arith}
use Rattle.types.proofs.TypeConformance.{simple_none, simple_end, simple_apart, simple_both}
use Rattle.types.proofs.compare.same_simple.Goals as goal
use Rattle.types.proofs.compare.same_simple.Goals.{then-b-bt-via-then-b-bt, then-b-bt-via-else-b-bt+then-a-at}

pub returns-in_err-n : goal.returns-in_err-n
returns-in_err-n c =
    let args = c.args in
    rw c.from_residual.ensures (simple_none args.left args.a.now args.at args.b.now args.bt _ c.in_err-n.ensures)

pub returns-then-b-bt : goal.returns-then-b-bt
returns-then-b-bt c =
    let args = c.args in
    elim c.then-b-bt.branch [
      | then-b-bt-via-then-b-bt w ↦ simple_end args.left args.a.now args.at args.b.now args.bt 0 w.if-b-bt.true
      | then-b-bt-via-else-b-bt+then-a-at w ↦ simple_apart args.left args.a.now args.at args.b.now args.bt 0 w.if-a-at.true
    ]

pub returns : goal.returns
returns c =
    let args = c.args in
    simple_both args.left args.a.now args.at args.b.now args.bt _ c.in_ok-n.n c.in_ok-n.ensures (omega (arith, c.requires, c.if-b-bt.false)) c.if-a-at.false
