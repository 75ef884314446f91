-- The cycle `infer::data::is_data`, `are_data`, `hold_data` meets its contracts; the measure is twice the level that is left, one more for the loops.
use Prim.Native.Nat.{◌*◌, ◌+◌}
use Rattle.order.specs.Order.{order_of}
use Rattle.infer.proofs.OnlyData.{ItemsInv}
use Rattle.infer.proofs.OnlyData.{EntriesInv}
use Rattle.infer.proofs.data.+are_data_hold_data_is_data.Given as goal

abbrev pub decreases-are_data : goal.decreases-are_data
decreases-are_data l = 2 * l.left + 1

abbrev pub decreases-hold_data : goal.decreases-hold_data
decreases-hold_data l = 2 * l.left + 1

abbrev pub decreases-is_data : goal.decreases-is_data
decreases-is_data l = 2 * l.left

abbrev pub invariant-are_data-loop : goal.invariant-are_data-loop
invariant-are_data-loop l = ItemsInv (order_of l.reading) l.left l.v l.n l.at l.counter

abbrev pub invariant-hold_data-loop : goal.invariant-hold_data-loop
invariant-hold_data-loop l = EntriesInv (order_of l.reading) l.left l.v l.n l.at l.counter
