-- The cycle `infer::builder::write_type`, `write_items`, `write_entries` meets its contracts; the measure is twice the level that is left, one more for the loops.
use Prim.Native.Nat.{◌+◌, ◌*◌}
use Rattle.order.specs.Order.{order_of}
use Rattle.infer.proofs.Entries.{EntriesInv}
use Rattle.infer.proofs.Items.{ItemsInv}
use Rattle.infer.proofs.builder.+write_entries_write_items_write_type.Given as goal

abbrev pub decreases-write_entries : goal.decreases-write_entries
decreases-write_entries l = 2 * l.left + 1

abbrev pub decreases-write_items : goal.decreases-write_items
decreases-write_items l = 2 * l.left + 1

abbrev pub decreases-write_type : goal.decreases-write_type
decreases-write_type l = 2 * l.left

abbrev pub invariant-write_entries-loop : goal.invariant-write_entries-loop
invariant-write_entries-loop l = EntriesInv (order_of l.reading) l.least l.left l.v l.n l.initial.out l.initial.spare l.out l.spare l.at l.to l.counter

abbrev pub invariant-write_items-loop : goal.invariant-write_items-loop
invariant-write_items-loop l = ItemsInv (order_of l.reading) l.least l.equal l.left l.v l.n l.initial.out l.initial.spare l.out l.spare l.at l.to l.counter
