-- `context::builder::find` meets its contract: the walk along the one name reads the context and says its entry.
-- Assumes nothing.
use native.Mathlib.Omega.{arith}
use mathlib.Core.Path.{sym}
use Rattle.form.proofs.Values.{ValueTold, value_told}
use Rattle.form.proofs.Whole.{bytes_of}
use Rattle.paths.proofs.CallContracts.{handed_on, value_refused, first_refused, other_refused, opened, held_byte}
use Rattle.context.proofs.CallContracts.{finds}
use Rattle.context.proofs.builder.find.Goals as goal
use Rattle.context.proofs.builder.find.Goals.{In_ok-way}

told : (c : In_ok-way) → ValueTold c.args.c.now c.in_ok-way.way.level
told c = value_told c.args.c.now (bytes_of c.args.c.now c.type_inv.c) c.in_ok-way.way.level (sym c.in_ok-way.ensures.level)

pub returns-in_err-way : goal.returns-in_err-way
returns-in_err-way c = rw (handed_on _ _ c.from_residual.ensures.1) (first_refused _ 0 _ (value_refused _ _ c.in_err-way.ensures.level))

pub bounds-c-0 : goal.bounds-c-0
bounds-c-0 c = held_byte _ 0 (told (goal.at.bounds-c-0 c).In_ok-way).reads

pub returns-then-c-ne-CONTEXT : goal.returns-then-c-ne-CONTEXT
returns-then-c-ne-CONTEXT c = other_refused _ 0 (told (goal.at.returns-then-c-ne-CONTEXT c).In_ok-way).reads (omega arith) c.if-c-ne-CONTEXT.true

pub returns : goal.returns
returns c =
    finds _ c.args.name c.in_ok-way.way.rest _ (opened _ 0 (told (goal.at.returns c).In_ok-way).reads (omega arith) c.if-c-ne-CONTEXT.false) c.in_ok-way.ensures.surveyed
