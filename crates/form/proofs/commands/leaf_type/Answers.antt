-- `form::commands::leaf_type` meets its contract: null, a leaf below 09, a decimal number, and what is no leaf, each by one law.
-- Assumes nothing.
use native.Mathlib.Omega.{arith}
use Rattle.form.proofs.CommandKinds.{null_type_lem, decimal_type, low_type, no_type, leaf_high}
use Rattle.form.proofs.commands.leaf_type.Goals as goal

pub returns-in-0 : goal.returns-in-0
returns-in-0 c = null_type_lem c.args.c c.in-0.is

pub returns-in-16 : goal.returns-in-16
returns-in-16 c = decimal_type c.args.c c.in-16.is

pub returns-in-1-to-8 : goal.returns-in-1-to-8
returns-in-1-to-8 c = low_type c.args.c (omega arith) (omega arith)

pub returns-in_default : goal.returns-in_default
returns-in_default c = no_type c.args.c (leaf_high c.args.c (omega arith) c.in_default.in_default-own.rest.1)
