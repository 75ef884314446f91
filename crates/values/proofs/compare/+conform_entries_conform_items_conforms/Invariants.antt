-- The cycle `values::compare::conforms`, `conform_items`, `conform_entries` meets its contracts; the measure is twice the level that is left, one more for the loops.
use Prim.Native.Nat.{◌+◌, ◌*◌, ◌-◌}
use Rattle.form.specs.Trees.{no_entries, entry}
use Rattle.order.specs.Order.{order_of}
use Rattle.order.specs.Size.{size_val, size_entries}
use Rattle.order.specs.Values as order
use Rattle.types.specs.At.{type_at, fields_at}
use Rattle.types.proofs.SortedNames.{NamesGo}
use Rattle.values.specs.At.{value_at, items_at, entries_at}
use Rattle.values.specs.Held.{entries_conform, held_items, held_entries}
use Rattle.values.proofs.Items.{ItemsGo}
use Rattle.values.proofs.Reading.{Above}
use Rattle.values.proofs.compare.+conform_entries_conform_items_conforms.Given as goal

abbrev pub decreases-conform_entries : goal.decreases-conform_entries
decreases-conform_entries l = 2 * l.left + 1

abbrev pub decreases-conform_items : goal.decreases-conform_items
decreases-conform_items l = 2 * l.left + 1

abbrev pub decreases-conforms : goal.decreases-conforms
decreases-conforms l = 2 * l.left

abbrev pub invariant-conform_entries-loop : goal.invariant-conform_entries-loop
invariant-conform_entries-loop l = NamesGo size_val size_entries (value_at (l.left - 1)) (entries_at (l.left - 1)) no_entries entry Above
    (order.conforms (order_of l.reading)) (entries_conform (order_of l.reading)) l.left
    (held_entries (order_of l.reading) (entries_at (l.left - 1) l.n 0 l.v) (fields_at l.left l.m 0 l.t))
    l.v l.n l.t l.m l.at l.least l.counter l.bt l.j

abbrev pub invariant-conform_items-loop : goal.invariant-conform_items-loop
invariant-conform_items-loop l = ItemsGo (order_of l.reading) (l.left - 1) l.left (held_items (order_of l.reading) (items_at (l.left - 1) l.n l.v) (type_at l.left l.t)) l.v l.n l.t l.at l.bt l.counter
