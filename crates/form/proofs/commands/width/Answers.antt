-- `form::commands::width` meets its contract: a leaf's width is `leaf_width`'s, that of a single command is computed, that of a range by a test at each byte of it.
-- Assumes nothing.
use Rattle.form.proofs.CommandKinds.{leaf_low, leaf_decimal, range_width, width_other, low_is}
use mathlib.Core.Path.{sym, ap}
use native.Mathlib.Omega.{arith}
use Rattle.form.specs.Layout.{kind_of, operands_v, operands_t, operands, width_of}
use Rattle.form.proofs.commands.width.Goals as goal
use Rattle.form.proofs.commands.width.Goals.{in-16-1, in_default+then-c-lt9}

pub returns-in-9-to-11 : goal.returns-in-9-to-11
returns-in-9-to-11 c =
    unfold width_of kind_of operands operands_v in sym (range_width 0x09 3 2 tt c.args.c (omega arith) (omega arith))

pub returns-in-12 : goal.returns-in-12
returns-in-12 c = unfold width_of kind_of operands operands_v in sym (ap width_of c.in-12.is)

pub returns-in-13 : goal.returns-in-13
returns-in-13 c = unfold width_of kind_of operands operands_v in sym (ap width_of c.in-13.is)

pub returns-in_default-c : goal.returns-in_default-c
returns-in_default-c c =
    unfold width_of kind_of operands operands_v in sym (range_width 0x0E 2 0 tt c.args.c (omega arith) (omega arith))

pub returns-in-44 : goal.returns-in-44
returns-in-44 c = unfold width_of kind_of operands operands_t in sym (ap width_of c.in-44.is)

pub returns-in-45 : goal.returns-in-45
returns-in-45 c = unfold width_of kind_of operands operands_t in sym (ap width_of c.in-45.is)

pub returns-in_default-c-2 : goal.returns-in_default-c-2
returns-in_default-c-2 c =
    unfold width_of kind_of operands operands_t in
    sym (range_width 0x20 12 0 tt c.args.c (omega arith) (omega arith))

pub returns-in_default : goal.returns-in_default
returns-in_default c = sym (width_other c.args.c (omega arith) (λ h. omega arith))

pub returns-in_default-2 : goal.returns-in_default-2
returns-in_default-2 c = sym (width_other c.args.c (omega arith) (λ h. omega arith))

pub returns-in-0-to-8 : goal.returns-in-0-to-8
returns-in-0-to-8 c =
    let args-c = c.args.c in
    low_is args-c c.leaf_width.result c.leaf_width.ensures
    (elim c.in-0-to-8-1.branch [ in-16-1 w ↦ leaf_decimal args-c (omega arith) | in_default+then-c-lt9 w ↦ leaf_low args-c (omega arith) ])
