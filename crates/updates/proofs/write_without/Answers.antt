-- `updates::write_without` meets its contract: the front of the context, and behind it the entries from `to` on.
-- Assumes nothing.
use native.Mathlib.Omega.{arith}
use Rattle.updates.proofs.ContextFront.{closed_is}
use Rattle.updates.proofs.write_without.Goals as goal

pub returns : goal.returns
returns c =
    let pre = c.requires in
    let e =
    closed_is _ _ _ _ _ _ _ _ pre.0 (omega (arith, pre.1, pre.2)) c.write_front.ensures c.put.ensures.value
    c.put.ensures.out_after in
    record { value = e.0; out_after = e.1 }
