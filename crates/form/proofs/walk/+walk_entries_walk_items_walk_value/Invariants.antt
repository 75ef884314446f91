-- The cycle `form::walk::walk_value`, `walk_items`, `walk_entries` meets its contracts; the measure is twice the level that is left, one more for the loops.
use Prim.Native.Nat.{ℕ, ◌+◌, ◌*◌}
use Rattle.form.specs.Trees.{no_entries, entry, no_items, item}
use Rattle.form.specs.Form.{level_vals, level_entries}
use Rattle.form.specs.Read.{read_v, read_run, read_named, ascending}
use Rattle.form.specs.Walks.{walk_by}
use Rattle.form.proofs.Loops.{DeepInv}
use Rattle.form.proofs.walk.+walk_entries_walk_items_walk_value.Given as goal

abbrev pub decreases-walk_entries : goal.decreases-walk_entries
decreases-walk_entries l = 2 * l.left + 1

abbrev pub decreases-walk_items : goal.decreases-walk_items
decreases-walk_items l = 2 * l.left + 1

abbrev pub decreases-walk_value : goal.decreases-walk_value
decreases-walk_value l = 2 * l.left

abbrev pub invariant-walk_entries-loop : goal.invariant-walk_entries-loop
invariant-walk_entries-loop l = DeepInv level_entries
    (walk_by level_entries 0 0 (read_named no_entries entry ascending (read_v l.left) l.count 0 l.s))
    (λ (n : ℕ). read_named no_entries entry ascending (read_v l.left) n l.least)
    l.s l.count l.at l.deep l.counter

abbrev pub invariant-walk_items-loop : goal.invariant-walk_items-loop
invariant-walk_items-loop l = DeepInv level_vals (walk_by level_vals 0 0 (read_run no_items item (read_v l.left) l.count l.s))
    (read_run no_items item (read_v l.left)) l.s l.count l.at l.deep l.counter
