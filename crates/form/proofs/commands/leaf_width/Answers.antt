-- `form::commands::leaf_width` meets its contract: the width of a single command is computed, that of a range by a test at each byte of it; the other bytes are no leaf's.
-- Assumes nothing.
use mathlib.Core.Path.{ap}
use native.Mathlib.Omega.{arith}
use Rattle.form.specs.Limits.{name_width}
use Rattle.form.specs.Layout.{kind_of, operands_v, operands, width_of}
use Rattle.form.proofs.CommandKinds.{range_width, low_width, high_width, leaf_low, leaf_decimal, leaf_high}
use Rattle.form.proofs.commands.leaf_width.Goals as goal

pub returns-in-3 : goal.returns-in-3
returns-in-3 c =
    unfold width_of kind_of operands operands_v in
    let e = c.in-3.is in
    low_width c.args.c name_width (leaf_low c.args.c (omega (arith, e))) (ap width_of e)

pub returns-in-16 : goal.returns-in-16
returns-in-16 c =
    unfold width_of kind_of operands operands_v in let e = c.in-16.is in low_width c.args.c 9 (leaf_decimal c.args.c e) (ap width_of e)

pub returns-in-0-to-1 : goal.returns-in-0-to-1
returns-in-0-to-1 c =
    unfold width_of kind_of operands operands_v in
    low_width c.args.c 1 (leaf_low c.args.c (omega arith))
    (range_width 0x00 2 1 tt c.args.c (omega arith) (omega arith))

pub returns-in_default : goal.returns-in_default
returns-in_default c = high_width c.args.c (leaf_high c.args.c (omega arith) c.in_default.in_default-own.rest.1)

pub returns-in-2 : goal.returns-in-2
returns-in-2 c =
    unfold width_of kind_of operands operands_v in
    let e = c.in-2.in-2-own.keys1 in
    low_width c.args.c 8 (leaf_low c.args.c (omega (arith, e))) (ap width_of e)

pub returns-in-2-2 : goal.returns-in-2-2
returns-in-2-2 c =
    unfold width_of kind_of operands operands_v in
    low_width c.args.c 8 (leaf_low c.args.c (omega arith))
    (range_width 0x04 5 8 tt c.args.c (omega arith) (omega arith))
