-- `context::move_entry` meets its contract: an absent name copies; otherwise the entry's value is moved, in the short spare place or in the long one.
-- Assumes nothing.
use Prim.Native.Nat.{◌-◌}
use native.Mathlib.Omega.{arith}
use mathlib.Core.Path.{refl}
use Rattle.form.proofs.Whole.{bytes_of}
use Rattle.paths.proofs.PathSearch.{hit_inside, hit_start}
use Rattle.context.proofs.CallContracts.{refused_on, call_refused, some_entry, found, Takes, taken_none, taken_some, move_copy, move_asks, move_done, short}
use Rattle.context.proofs.move_entry.Goals as goal
use Rattle.context.proofs.move_entry.Goals.{Else-cut-eq0}

taken : (c : Else-cut-eq0) → Takes c.args.c.now c.args.name c.in_ok-cut.cut
taken c = taken_some c.args.c.now c.args.name c.in_ok-cut.cut c.in_ok-cut.ensures c.if-cut-eq0.false

pub returns-in_err-cut : goal.returns-in_err-cut
returns-in_err-cut c = refused_on _ _ _ _ c.from_residual.ensures.1 (call_refused _ _ _ c.in_err-cut.ensures)

pub returns-then-cut-eq0 : goal.returns-then-cut-eq0
returns-then-cut-eq0 c =
    let args = c.args in
    move_copy args.c.now args.out.now args.name (found args.c.now args.name _ c.in_ok-cut.ensures) (bytes_of args.c.now c.type_inv.c) args.parent _
    (taken_none args.c.now args.name _ c.in_ok-cut.ensures c.if-cut-eq0.true) _ _ c.give.ensures

pub word_at-count-requires : goal.word_at-count-requires
word_at-count-requires c =
    let hit = (taken (goal.at.word_at-count-requires c).Else-cut-eq0).hit in
    let bs = bytes_of c.args.c.now c.type_inv.c in
    omega (arith, hit.start, hit_start hit bs, hit_inside hit bs)

pub overflow_sub-count : goal.overflow_sub-count
overflow_sub-count c =
    omega (arith, c.word_at-count.ensures.0, some_entry (taken (goal.at.overflow_sub-count c).Else-cut-eq0).hit (bytes_of c.args.c.now c.type_inv.c))

pub move_in-requires : goal.move_in-requires
move_in-requires c =
    let args = c.args in
    let bs = bytes_of args.c.now c.type_inv.c in
    let O = found args.c.now args.name _ c.in_ok-cut.ensures in
    let T = taken (goal.at.move_in-requires c).Else-cut-eq0 in
    move_asks args.c.now args.out.now args.name O bs _ T _ (omega (arith, c.word_at-count.ensures.0, some_entry T.hit bs)) (omega (arith, c.word_at-count.ensures.1)) _ refl
    _ c.if-c-le512.true

pub returns-then-c-le512 : goal.returns-then-c-le512
returns-then-c-le512 c =
    let args = c.args in
    let bs = bytes_of args.c.now c.type_inv.c in
    let hit = (taken (goal.at.returns-then-c-le512 c).Else-cut-eq0).hit in
    move_done args.c.now args.out.now args.name (found args.c.now args.name _ c.in_ok-cut.ensures) bs _ _ hit (c.word_at-count.result - 1)
    (omega (arith, c.word_at-count.ensures.0, some_entry hit bs)) args.parent _ _ c.move_in.ensures

pub move_in-requires-2 : goal.move_in-requires-2
move_in-requires-2 c =
    let args = c.args in
    let bs = bytes_of args.c.now c.type_inv.c in
    let O = found args.c.now args.name _ c.in_ok-cut.ensures in
    let T = taken (goal.at.move_in-requires-2 c).Else-cut-eq0 in
    move_asks args.c.now args.out.now args.name O bs _ T _ (omega (arith, c.word_at-count.ensures.0, some_entry T.hit bs)) (omega (arith, c.word_at-count.ensures.1)) _ refl
    _ (short args.c.now args.out.now args.name O bs)

pub returns : goal.returns
returns c =
    let args = c.args in
    let bs = bytes_of args.c.now c.type_inv.c in
    let hit = (taken (goal.at.returns c).Else-cut-eq0).hit in
    move_done args.c.now args.out.now args.name (found args.c.now args.name _ c.in_ok-cut.ensures) bs _ _ hit (c.word_at-count.result - 1)
    (omega (arith, c.word_at-count.ensures.0, some_entry hit bs)) args.parent _ _ c.move_in-2.ensures
