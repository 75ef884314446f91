-- `infer::data::leaf` meets its contract: each arm has the size that `form` tells of a command of the same width, and every command from 1 to 8 has an arm.
-- Assumes nothing.
use native.Mathlib.Omega.{arith}
use mathlib.Core.Path.{ap}
use Rattle.form.specs.Layout.{width_of}
use Rattle.infer.proofs.OnlyData.{plain, same_key}
use Rattle.infer.proofs.data.leaf.Goals as goal

pub returns-in-1 : goal.returns-in-1
returns-in-1 c =
    let e = c.in-1.is in plain _ 1 _ c.leaf_size.ensures (ap width_of e) (omega arith) (omega (arith, e)) (omega (arith, e))

pub returns-in-2 : goal.returns-in-2
returns-in-2 c =
    let e = c.in-2.is in plain _ 2 _ c.leaf_size-in-2.ensures (ap width_of e) (omega arith) (omega (arith, e)) (omega (arith, e))

pub returns-in-3 : goal.returns-in-3
returns-in-3 c =
    let e = c.in-3.is in plain _ 3 _ c.leaf_size-in-3.ensures (ap width_of e) (omega arith) (omega (arith, e)) (omega (arith, e))

pub returns-in-4-to-8 : goal.returns-in-4-to-8
returns-in-4-to-8 c =
    plain _ 4 _ c.leaf_size-in-4-to-8.ensures (same_key _ 4 (omega arith) (omega arith) (omega arith) (omega arith)) (omega arith) (omega arith) (omega arith)
