-- `form::commands::operand_end` meets its contract: the bound of the last operand byte of each command, arm by arm.
-- Assumes nothing.
use mathlib.Core.Path.{sym, ap}
use borrow.Author.Tests.{ne_eqb}
use Rattle.form.specs.Walks.{operand_end}
use Rattle.form.proofs.commands.operand_end.Goals as goal

pub returns-in-0 : goal.returns-in-0
returns-in-0 c = unfold operand_end in sym (ap operand_end c.in-0.is)

pub returns-in-1 : goal.returns-in-1
returns-in-1 c = unfold operand_end in sym (ap operand_end c.in-1.is)

pub returns-in-16 : goal.returns-in-16
returns-in-16 c = unfold operand_end in sym (ap operand_end c.in-16.is)

pub returns-in_default : goal.returns-in_default
returns-in_default c =
    unfold operand_end in
    simp (
      ne_eqb c.args.c 0 c.in_default.in_default-own.rest.0.0.1,
      ne_eqb c.args.c 1 c.in_default.in_default-own.rest.0.1,
      ne_eqb c.args.c 16 c.in_default.in_default-own.rest.1,
    )
