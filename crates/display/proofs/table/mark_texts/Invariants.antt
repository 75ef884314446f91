-- `display::table::mark_texts` meets its contract: the loop keeps that the texts that are marked and those that are left make all.
use Prim.Native.Nat.{◌-◌}
use Rattle.display.proofs.Marks.{Marking}
use Rattle.display.proofs.table.mark_texts.Given as goal

abbrev pub invariant-loop-i : goal.invariant-loop-i
invariant-loop-i l = Marking l.table l.initial.marks l.marks l.before l.rest (l.count - l.i) l.i
