-- `retrieval::builder::outer_kind` meets its contract: one law for each arm of the type's command.
-- Assumes nothing.
use native.Mathlib.Omega.{arith}
use Rattle.retrieval.proofs.ByCommand.{kind_any, kind_range, kind_function, kind_simple, kind_below, kind_above}
use Rattle.retrieval.proofs.builder.outer_kind.Goals as goal

pub returns-in-32 : goal.returns-in-32
returns-in-32 c = kind_any _ _ c.in-32.is

pub returns-in-43 : goal.returns-in-43
returns-in-43 c = kind_range _ _ c.in-43.is

pub returns-in-45 : goal.returns-in-45
returns-in-45 c = kind_function _ _ c.in-45.is

pub returns-in-33-to-40 : goal.returns-in-33-to-40
returns-in-33-to-40 c =
    kind_simple c.args.c c.args.d c.leaf_type.ensures
    (omega (arith, c.in-33-to-40.if-d-lt32-own.false)) (omega (arith, c.in-33-to-40.if-d-lt41-own.true))

pub returns-in_default : goal.returns-in_default
returns-in_default c =
    let x = c.in_default.in_default-own.rest in
    kind_below c.args.c c.args.d (omega (arith, c.in_default.if-d-lt32-own.true))

pub returns-in_default-2 : goal.returns-in_default-2
returns-in_default-2 c =
    let x = c.in_default.in_default-own.rest in
    kind_above c.args.c c.args.d (omega (arith, c.in_default.if-d-lt41-own.false)) x.0.1 x.1
