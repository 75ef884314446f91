-- The measures of the cycle of the builders, and the invariants of their loops.
-- The measure is five times the level that is left, and counts the calls within one level.
-- Assumes nothing.
use Prim.Native.Nat.{◌*◌, ◌+◌, ◌-◌}
use Rattle.order.specs.Order.{toward, order_of}
use Rattle.lattice.proofs.SortedMerge.{FieldsInv}
use Rattle.lattice.proofs.SignatureLoop.{SigInv}
use Rattle.lattice.proofs.+bounds.Given as goal

abbrev pub decreases-same : goal.decreases-same
decreases-same l = 5 * l.left

abbrev pub decreases-write_other : goal.decreases-write_other
decreases-write_other l = 5 * l.left + 1

abbrev pub decreases-write : goal.decreases-write
decreases-write l = 5 * l.left + 2

abbrev pub decreases-entry : goal.decreases-entry
decreases-entry l = 5 * l.left + 3

abbrev pub decreases-signature : goal.decreases-signature
decreases-signature l = 5 * l.left + 3

abbrev pub decreases-fields : goal.decreases-fields
decreases-fields l = 5 * l.left + 4

abbrev pub invariant-fields-loop-at : goal.invariant-fields-loop-at
invariant-fields-loop-at l = FieldsInv (order_of l.reading) (toward l.up) l.left l.a l.n l.b l.m l.initial.out l.out l.at l.i l.bt l.j l.to l.k

abbrev pub decreases-fields-loop-at : goal.decreases-fields-loop-at
decreases-fields-loop-at l = (l.n - l.i) + (l.m - l.j)

abbrev pub invariant-signature-loop : goal.invariant-signature-loop
invariant-signature-loop l = SigInv (order_of l.reading) (toward l.up) l.left l.a l.b l.count l.initial.out l.out l.ends.first l.ends.second l.ends.wrote l.counter
