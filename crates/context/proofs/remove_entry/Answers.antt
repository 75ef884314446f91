-- `context::remove_entry` meets its contract: an absent name copies; otherwise the entry goes.
-- Assumes nothing.
use native.Mathlib.Omega.{arith}
use Rattle.form.proofs.Whole.{bytes_of}
use Rattle.paths.proofs.PathSearch.{hit_inside, hit_start}
use Rattle.context.proofs.CallContracts.{refused_on, call_refused, some_entry, found, Takes, taken_none, taken_some, remove_copy, remove_done, short}
use Rattle.context.proofs.remove_entry.Goals as goal
use Rattle.context.proofs.remove_entry.Goals.{Else-cut-eq0}

taken : (c : Else-cut-eq0) → Takes c.args.c.now c.args.name c.in_ok-cut.cut
taken c = taken_some c.args.c.now c.args.name c.in_ok-cut.cut c.in_ok-cut.ensures c.if-cut-eq0.false

pub returns-in_err-cut : goal.returns-in_err-cut
returns-in_err-cut c = refused_on _ _ _ _ c.from_residual.ensures.1 (call_refused _ _ _ c.in_err-cut.ensures)

pub returns-then-cut-eq0 : goal.returns-then-cut-eq0
returns-then-cut-eq0 c =
    let args = c.args in
    remove_copy args.c.now args.out.now args.name (found args.c.now args.name _ c.in_ok-cut.ensures) (bytes_of args.c.now c.type_inv.c) _
    (taken_none args.c.now args.name _ c.in_ok-cut.ensures c.if-cut-eq0.true) _ _ c.give.ensures

pub word_at-count-requires : goal.word_at-count-requires
word_at-count-requires c =
    let hit = (taken (goal.at.word_at-count-requires c).Else-cut-eq0).hit in
    let bs = bytes_of c.args.c.now c.type_inv.c in
    omega (arith, hit.start, hit_start hit bs, hit_inside hit bs)

pub overflow_sub-count : goal.overflow_sub-count
overflow_sub-count c =
    omega (arith, c.word_at-count.ensures.0, some_entry (taken (goal.at.overflow_sub-count c).Else-cut-eq0).hit (bytes_of c.args.c.now c.type_inv.c))

pub overflow_add-cut : goal.overflow_add-cut
overflow_add-cut c =
    let args = c.args in
    let bs = bytes_of args.c.now c.type_inv.c in
    omega (
      arith,
      hit_inside (taken (goal.at.overflow_add-cut c).Else-cut-eq0).hit bs,
      short args.c.now args.out.now args.name (found args.c.now args.name _ c.in_ok-cut.ensures) bs,
    )

pub give_without-requires : goal.give_without-requires
give_without-requires c =
    let hit = (taken (goal.at.give_without-requires c).Else-cut-eq0).hit in
    (omega (arith, hit.start), omega arith, hit_inside hit (bytes_of c.args.c.now c.type_inv.c), omega (arith, c.word_at-count.ensures.1))

pub returns : goal.returns
returns c =
    let args = c.args in
    let bs = bytes_of args.c.now c.type_inv.c in
    let hit = (taken (goal.at.returns c).Else-cut-eq0).hit in
    remove_done args.c.now args.out.now args.name (found args.c.now args.name _ c.in_ok-cut.ensures) bs _ _ hit _
    (omega (arith, c.word_at-count.ensures.0, some_entry hit bs)) _ _ c.give_without.ensures
