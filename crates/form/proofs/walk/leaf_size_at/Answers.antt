-- `form::walk::leaf_size_at` meets its contract: where no such leaf's command stands there is none, and each arm's size and tests are those of the command that stands there.
-- Assumes nothing.
use Prim.Native.Nat.{ℕ, ◌+◌, ◌-◌}
use mathlib.Core.Path.{refl, sym, ap, ◌∙◌}
use native.Mathlib.Omega.{arith}
use lib.ListN.{get_or}
use Rattle.form.specs.Layout.{width_of}
use Rattle.form.specs.Walks.{operand_end}
use Rattle.form.proofs.CommandKinds.{leaf_wide, key_width, flag_width, past_text}
use Rattle.form.proofs.Leaves.{leaf_none, leaf_bounded, leaf_within, leaf_away, temporal_bound}
use Rattle.form.proofs.walk.leaf_size_at.Goals as goal
use Rattle.form.proofs.walk.leaf_size_at.Goals.{then-left-eq0-via-then-left-eq0, then-left-eq0-via-else-left-eq0+then-s-at}

pub returns-then-left-eq0 : goal.returns-then-left-eq0
returns-then-left-eq0 c =
    let args = c.args in
    elim c.then-left-eq0.branch [
      | then-left-eq0-via-then-left-eq0 w ↦ leaf_none args.left args.s.now args.at (λ p h n f. omega (arith, w.if-left-eq0.true))
      | then-left-eq0-via-else-left-eq0+then-s-at w ↦ leaf_none args.left args.s.now args.at (λ p h n f. omega (arith, w.if-s-at.true))
    ]

pub returns-in_ok-leaf_size-in-2 : goal.returns-in_ok-leaf_size-in-2
returns-in_ok-leaf_size-in-2 c =
    unfold operand_end in
    leaf_within c.args.left
    c.args.s.now c.args.at
    c.in_ok-leaf_size-in-2.field-0 (omega arith) (omega arith) (omega (arith, c.in-2.is))
    (leaf_wide 2 c.in_ok-leaf_size-in-2.field-0 c.in_ok-leaf_size-in-2.ensures refl ∙ ap
    (λ (z : ℕ). width_of z + 1)
    (sym c.in-2.is))
    (omega (
      arith,
      c.type_inv.s
          (c.args.at + c.in_ok-leaf_size-in-2.field-0 - 1),
    ))
    c.within.result c.within.ensures (ap operand_end c.in-2.is)

pub returns-in_ok-leaf_size-in-3 : goal.returns-in_ok-leaf_size-in-3
returns-in_ok-leaf_size-in-3 c =
    unfold operand_end in
    leaf_within c.args.left
    c.args.s.now c.args.at
    c.in_ok-leaf_size-in-3.field-0 (omega arith) (omega arith) (omega (arith, c.in-3.is))
    (leaf_wide 3 c.in_ok-leaf_size-in-3.field-0 c.in_ok-leaf_size-in-3.ensures refl ∙ ap
    (λ (z : ℕ). width_of z + 1)
    (sym c.in-3.is))
    (omega (
      arith,
      c.type_inv.s
          (c.args.at + c.in_ok-leaf_size-in-3.field-0 - 1),
    ))
    c.within-in-3.result c.within-in-3.ensures (ap operand_end c.in-3.is)

pub returns-in_ok-leaf_size-in-0-to-1 : goal.returns-in_ok-leaf_size-in-0-to-1
returns-in_ok-leaf_size-in-0-to-1 c =
    let args = c.args in
    leaf_bounded args.left args.s.now args.at c.in_ok-leaf_size-in-0-to-1.field-0 (omega arith) (omega arith)
    (omega (arith, c.in-0-to-1.if-this-lt2-own.true))
    (omega (
      arith,
      leaf_wide 0 c.in_ok-leaf_size-in-0-to-1.field-0 c.in_ok-leaf_size-in-0-to-1.ensures refl,
      flag_width 0 (omega arith),
      flag_width (get_or args.s.now args.at 0) c.in-0-to-1.if-this-lt2-own.true,
    ))
    (omega (arith, c.type_inv.s (args.at + c.in_ok-leaf_size-in-0-to-1.field-0 - 1))) c.bounded.result
    c.operand_end.result c.bounded.ensures c.operand_end.ensures

pub returns-in_ok-leaf_size-in-4-to-8 : goal.returns-in_ok-leaf_size-in-4-to-8
returns-in_ok-leaf_size-in-4-to-8 c =
    let args = c.args in
    let b = get_or args.s.now args.at 0 in
    let low = past_text b c.in-4-to-8.if-this-lt2-own.false c.in-4-to-8.in_default-own.rest.0.1 c.in-4-to-8.in_default-own.rest.1 in
    leaf_within args.left args.s.now args.at c.in_ok-leaf_size-in-4-to-8.field-0 (omega arith) (omega arith) c.in-4-to-8.if-this-lt9-own.true
    (leaf_wide 4 c.in_ok-leaf_size-in-4-to-8.field-0 c.in_ok-leaf_size-in-4-to-8.ensures refl
    ∙ ap (λ (z : ℕ). z + 1) (key_width 4 (omega arith) (omega arith) ∙ sym (key_width b low c.in-4-to-8.if-this-lt9-own.true)))
    (omega (arith, c.type_inv.s (args.at + c.in_ok-leaf_size-in-4-to-8.field-0 - 1))) c.within-in-4-to-8.result c.within-in-4-to-8.ensures
    (temporal_bound b low c.in-4-to-8.if-this-lt9-own.true)

pub returns-in_default : goal.returns-in_default
returns-in_default c =
    let args = c.args in
    leaf_away args.left args.s.now args.at c.in_default.if-this-lt9-own.false
