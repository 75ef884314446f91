-- `values::compare::leaf` meets its contract: a leaf of data by the short way, and the type's command: its own, Any, or any simple one for a null.
-- Assumes nothing.
use mathlib.Core.Path.{sym, ◌∙◌}
use Prim.Native.Nat.{◌-◌}
use native.Mathlib.Omega.{arith}
use Rattle.values.proofs.ValueConformance.{leaf_no_type, leaf_below, leaf_above, leaf_none, leaf-is-null, leaf_to_any, leaf_to_own, leaf_to_none}
use Rattle.values.proofs.compare.leaf.Goals as goal
use Rattle.values.proofs.compare.leaf.Goals.{then-d-leaf_type-via-then-d-leaf_type, then-d-leaf_type-via-else-d-leaf_type+then-d-eq-ANY_TYPE}
use Rattle.values.proofs.compare.leaf.Goals.{then-c-ne-NULL-via-then-c-ne-NULL, then-c-ne-NULL-via-else-c-ne-NULL+then-d-lt-ANY_TYPE}
use Rattle.values.proofs.compare.leaf.Goals.{then-c-ne-NULL-via-else-c-ne-NULL+else-d-lt-ANY_TYPE+then-d-gt-NULL_TYPE}

pub returns-then-t-bt : goal.returns-then-t-bt
returns-then-t-bt c = leaf_no_type (c.args.left - 1) c.args.left c.args.v.now c.args.at c.args.t.now c.args.bt c.if-t-bt.true

pub returns-in_err-n : goal.returns-in_err-n
returns-in_err-n c = rw c.from_residual.ensures (leaf_none (c.args.left - 1) c.args.left c.args.v.now c.args.at c.args.t.now c.args.bt _ c.in_err-n.ensures)

pub returns-then-d-leaf_type : goal.returns-then-d-leaf_type
returns-then-d-leaf_type c =
    let args = c.args in
    elim c.then-d-leaf_type.branch [
      | then-d-leaf_type-via-then-d-leaf_type w ↦ leaf_to_own (args.left - 1) args.left args.v.now args.at args.t.now args.bt _ c.in_ok-n.n c.in_ok-n.ensures
          c.requires.2 (omega (arith, c.requires, c.if-t-bt.false)) (w.if-d-leaf_type.true ∙ c.leaf_type.ensures)
      | then-d-leaf_type-via-else-d-leaf_type+then-d-eq-ANY_TYPE w ↦ leaf_to_any (args.left - 1) args.left args.v.now args.at args.t.now args.bt _ c.in_ok-n.n c.in_ok-n.ensures
          c.requires.2 (omega (arith, c.requires, c.if-t-bt.false)) w.if-d-eq-ANY_TYPE.true
    ]

pub returns-then-c-ne-NULL : goal.returns-then-c-ne-NULL
returns-then-c-ne-NULL c =
    let args = c.args in
    elim c.then-c-ne-NULL.branch [
      | then-c-ne-NULL-via-then-c-ne-NULL w ↦ leaf_to_none (args.left - 1) args.left args.v.now args.at args.t.now args.bt _ c.in_ok-n.n c.in_ok-n.ensures
          w.if-c-ne-NULL.true c.if-d-eq-ANY_TYPE.false (λ z. c.if-d-leaf_type.false (z ∙ sym c.leaf_type.ensures))
      | then-c-ne-NULL-via-else-c-ne-NULL+then-d-lt-ANY_TYPE w ↦ leaf_below (args.left - 1) args.left args.v.now args.at args.t.now args.bt w.if-d-lt-ANY_TYPE.true
      | then-c-ne-NULL-via-else-c-ne-NULL+else-d-lt-ANY_TYPE+then-d-gt-NULL_TYPE w ↦ leaf_above (args.left - 1) args.left args.v.now args.at args.t.now args.bt
          w.if-d-gt-NULL_TYPE.true
    ]

pub returns : goal.returns
returns c =
    let args = c.args in
    leaf-is-null (args.left - 1) args.left args.v.now args.at args.t.now args.bt _ c.in_ok-n.n c.in_ok-n.ensures c.requires.2
    (omega (arith, c.requires, c.if-t-bt.false)) c.if-d-lt-ANY_TYPE.false c.if-d-gt-NULL_TYPE.false c.if-c-ne-NULL.false
