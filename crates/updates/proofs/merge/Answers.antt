-- `updates::merge` meets its contract: the loop keeps that what was written and the merge of what is left make the whole, and their levels its level; the head is written again with the
-- count.
-- Assumes nothing.
use Prim.Native.Nat.{◌+◌, ◌≤◌}
use native.Mathlib.Omega.{arith}
use mathlib.Core.Path.{refl}
use lib.ListN.{length}
use lib.Seq.{length-take-le}
use Rattle.form.specs.Limits.{name_width, value_levels}
use Rattle.form.proofs.Whole.{bytes_of}
use Rattle.updates.proofs.MergeLoop.{context_three, joining_starts, name_in, end_in, own_more, own_next, new_more}
use Rattle.updates.proofs.MergeLoop.{new_next, new_passed, both_c, both_o, both_next, joining_done, passed}
use Rattle.updates.proofs.merge.Goals as goal
use Rattle.updates.proofs.merge.Goals.{Then-x-y, Then-y-x, Else-x-eq-NAME_END}

-- the name of the entry that is next
own_name : (c : Then-x-y) → c.loop-p.at + name_width ≤ length c.args.c.now
own_name c = name_in c.loop-p.invariant.left_c (own_more c.loop-p.invariant c.next_name-x.ensures c.next_name-y.ensures c.if-x-y.true)

new_name : (c : Then-y-x) → c.loop-p.bt + name_width ≤ length c.args.o.now
new_name c = name_in c.loop-p.invariant.left_o (new_more c.loop-p.invariant c.next_name-x.ensures c.next_name-y.ensures c.if-y-x.true)

both_names : (c : Else-x-eq-NAME_END) → (c.loop-p.at + name_width ≤ length c.args.c.now) × (c.loop-p.bt + name_width ≤ length c.args.o.now)
both_names c =
    let loop-inv = c.loop-p.invariant in (
      name_in loop-inv.left_c (both_c loop-inv c.next_name-x.ensures c.next_name-y.ensures c.if-x-y.false c.if-y-x.false c.if-x-eq-NAME_END.false),
      name_in loop-inv.left_o (both_o loop-inv c.next_name-x.ensures c.next_name-y.ensures c.if-x-y.false c.if-y-x.false c.if-x-eq-NAME_END.false),
    )

pub word_at-n-requires : goal.word_at-n-requires
word_at-n-requires c = (context_three value_levels c.args.c.now c.requires.ok)

pub word_at-m-requires : goal.word_at-m-requires
word_at-m-requires c = (context_three value_levels c.args.o.now c.requires.ok_2)

pub slice_bounds-fill-end : goal.slice_bounds-fill-end
slice_bounds-fill-end c =
    omega (
      arith,
      length-take-le 3 c.args.c.now (context_three value_levels c.args.c.now c.requires.ok),
    )

pub loop-p-init : goal.loop-p-init
loop-p-init c =
    joining_starts c.args.all value_levels c.args.c.now c.args.o.now _ _ c.args.out.now _ c.requires.ok c.requires.ok_2
    c.requires.c_len_bound c.word_at-n.ensures.0 c.word_at-m.ensures.0 c.fill.ensures

pub next_name-x-requires : goal.next_name-x-requires
next_name-x-requires c = name_in c.loop-p.invariant.left_c

pub next_name-y-requires : goal.next_name-y-requires
next_name-y-requires c = name_in c.loop-p.invariant.left_o

pub slice_bounds-pass-count : goal.slice_bounds-pass-count
slice_bounds-pass-count c = omega (arith, own_name (goal.at.slice_bounds-pass-count c).Then-x-y)

pub slice_bounds-pass-start : goal.slice_bounds-pass-start
slice_bounds-pass-start c = omega (arith, own_name (goal.at.slice_bounds-pass-start c).Then-x-y)

pub slice_bounds-put-end : goal.slice_bounds-put-end
slice_bounds-put-end c =
    let loop = c.loop-p in
    omega (
      arith,
      end_in loop.invariant.left_c (own_more loop.invariant c.next_name-x.ensures c.next_name-y.ensures c.if-x-y.true) _ (passed value_levels c.args.c.now loop.at c.pass.ensures),
    )

pub loop-p-preserved-then-x-y : goal.loop-p-preserved-then-x-y
loop-p-preserved-then-x-y c =
    own_next c.loop-p.invariant c.next_name-x.ensures c.next_name-y.ensures c.if-x-y.true _ _
    c.pass.ensures (bytes_of c.args.c.now c.type_inv.c) _ _ _ c.put-to.ensures.value
    c.put-to.ensures.out_after c.max-deep.ensures

pub slice_bounds-pass-count-then-y-x : goal.slice_bounds-pass-count-then-y-x
slice_bounds-pass-count-then-y-x c = omega (arith, new_name (goal.at.slice_bounds-pass-count-then-y-x c).Then-y-x)

pub slice_bounds-pass-start-then-y-x : goal.slice_bounds-pass-start-then-y-x
slice_bounds-pass-start-then-y-x c = omega (arith, new_name (goal.at.slice_bounds-pass-start-then-y-x c).Then-y-x)

pub slice_bounds-put-end-then-y-x : goal.slice_bounds-put-end-then-y-x
slice_bounds-put-end-then-y-x c =
    let loop = c.loop-p in
    omega (
      arith,
      end_in loop.invariant.left_o (new_more loop.invariant c.next_name-x.ensures c.next_name-y.ensures c.if-y-x.true) _
          (passed value_levels c.args.o.now loop.bt c.pass-then-y-x.ensures),
    )

pub loop-p-preserved-then-is_passed_over : goal.loop-p-preserved-then-is_passed_over
loop-p-preserved-then-is_passed_over c =
    new_passed c.loop-p.invariant c.next_name-x.ensures c.next_name-y.ensures c.if-y-x.true _ _ c.pass-then-y-x.ensures
    c.if-is_passed_over.true

pub loop-p-preserved-then-y-x : goal.loop-p-preserved-then-y-x
loop-p-preserved-then-y-x c =
    new_next c.loop-p.invariant c.next_name-x.ensures c.next_name-y.ensures c.if-y-x.true _ _
    c.pass-then-y-x.ensures c.if-is_passed_over.false (bytes_of c.args.o.now c.type_inv.o) _ _ _
    c.put-to-then-y-x.ensures.value c.put-to-then-y-x.ensures.out_after c.max-deep-then-y-x.ensures

pub slice_bounds-skip-count : goal.slice_bounds-skip-count
slice_bounds-skip-count c = omega (arith, (both_names (goal.at.slice_bounds-skip-count c).Else-x-eq-NAME_END).0)

pub slice_bounds-skip-start : goal.slice_bounds-skip-start
slice_bounds-skip-start c = omega (arith, (both_names (goal.at.slice_bounds-skip-start c).Else-x-eq-NAME_END).0)

pub overflow_add-at : goal.overflow_add-at
overflow_add-at c =
    let loop-inv = c.loop-p.invariant in
    omega (
      arith,
      end_in loop-inv.left_c
          (both_c loop-inv c.next_name-x.ensures c.next_name-y.ensures c.if-x-y.false c.if-y-x.false c.if-x-eq-NAME_END.false) _
          c.skip.ensures,
      loop-inv.both.small_c,
    )

pub slice_bounds-pass-count-in-loop-p : goal.slice_bounds-pass-count-in-loop-p
slice_bounds-pass-count-in-loop-p c = omega (arith, (both_names (goal.at.slice_bounds-pass-count-in-loop-p c).Else-x-eq-NAME_END).1)

pub slice_bounds-pass-start-in-loop-p : goal.slice_bounds-pass-start-in-loop-p
slice_bounds-pass-start-in-loop-p c = omega (arith, (both_names (goal.at.slice_bounds-pass-start-in-loop-p c).Else-x-eq-NAME_END).1)

pub slice_bounds-put-end-in-loop-p : goal.slice_bounds-put-end-in-loop-p
slice_bounds-put-end-in-loop-p c =
    let loop = c.loop-p in
    omega (
      arith,
      end_in loop.invariant.left_o
          (both_o loop.invariant c.next_name-x.ensures c.next_name-y.ensures c.if-x-y.false c.if-y-x.false c.if-x-eq-NAME_END.false) _
          (passed value_levels c.args.o.now loop.bt c.pass-in-loop-p.ensures),
    )

pub loop-p-preserved : goal.loop-p-preserved
loop-p-preserved c =
    both_next c.loop-p.invariant c.next_name-x.ensures c.next_name-y.ensures c.if-x-y.false
    c.if-y-x.false c.if-x-eq-NAME_END.false _ c.skip.ensures _ _ c.pass-in-loop-p.ensures
    (bytes_of c.args.o.now c.type_inv.o) _ _ _ c.put-to-in-loop-p.ensures.value c.put-to-in-loop-p.ensures.out_after
    c.max-deep-in-loop-p.ensures

pub returns : goal.returns
returns c =
    joining_done c.loop-p.invariant c.next_name-x.ensures c.next_name-y.ensures c.if-x-y.false c.if-y-x.false
    c.if-x-eq-NAME_END.true _ _ c.low.ensures c.high.ensures
    c.args.out.now _ _
    c.fill.ensures c.fill-2.ensures refl
