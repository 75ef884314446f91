-- `updates::merge` meets its contract: the loop keeps that what was written and the merge of what is left make the whole, and their levels its level; the head is written again with the
use Prim.Native.Nat.{◌+◌, ◌-◌}
use Rattle.form.specs.Limits.{value_levels}
use Rattle.updates.proofs.MergeLoop.{Joining}
use Rattle.updates.proofs.merge.Given as goal

abbrev pub invariant-loop-p : goal.invariant-loop-p
invariant-loop-p l = Joining l.all value_levels l.c l.o l.n l.m l.initial.out l.out l.at l.i l.bt l.j l.to l.k l.deep

abbrev pub decreases-loop-p : goal.decreases-loop-p
decreases-loop-p l = (l.n - l.i) + (l.m - l.j)
