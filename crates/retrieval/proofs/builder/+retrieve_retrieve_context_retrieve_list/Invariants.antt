-- The cycle `retrieval::builder::retrieve`, `retrieve_list`, `retrieve_context` meets its contracts; the measure is twice the level that is left, one more for `retrieve`.
use Prim.Native.Nat.{◌*◌, ◌+◌, ◌-◌}
use Rattle.retrieval.proofs.ItemsLoop.{ListInv}
use Rattle.retrieval.proofs.EntriesLoop.{ContextInv}
use Rattle.retrieval.proofs.builder.+retrieve_retrieve_context_retrieve_list.Given as goal

abbrev pub decreases-retrieve : goal.decreases-retrieve
decreases-retrieve l = 2 * l.left + 1

abbrev pub decreases-retrieve_context : goal.decreases-retrieve_context
decreases-retrieve_context l = 2 * l.left

abbrev pub decreases-retrieve_list : goal.decreases-retrieve_list
decreases-retrieve_list l = 2 * l.left

abbrev pub invariant-retrieve_context-loop-p : goal.invariant-retrieve_context-loop-p
invariant-retrieve_context-loop-p l = ContextInv l.left l.t l.m l.v l.n l.initial.out l.out l.bt l.j l.at l.i l.to l.k

abbrev pub decreases-retrieve_context-loop-p : goal.decreases-retrieve_context-loop-p
decreases-retrieve_context-loop-p l = (l.n - l.i) + (l.m - l.j)

abbrev pub invariant-retrieve_list-loop : goal.invariant-retrieve_list-loop
invariant-retrieve_list-loop l = ListInv l.left l.t l.v l.n l.initial.out l.out l.at l.to l.bt l.counter
