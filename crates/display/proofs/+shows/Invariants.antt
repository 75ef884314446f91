-- The cycle `display::show`, `show_inner`, `show_fields`, `show_sig` meets its contracts; twice the level, and at most 1 more, falls at each call.
use Prim.Native.Nat.{◌+◌, ◌*◌}
use Rattle.display.proofs.ShowFields.{FieldsInv}
use Rattle.display.proofs.ShowSigs.{SigInv}
use Rattle.display.proofs.+shows.Given as goal

abbrev pub decreases-show : goal.decreases-show
decreases-show l = 2 * l.left

abbrev pub decreases-show_fields : goal.decreases-show_fields
decreases-show_fields l = 2 * l.left + 1

abbrev pub decreases-show_inner : goal.decreases-show_inner
decreases-show_inner l = 2 * l.left + 1

abbrev pub decreases-show_sig : goal.decreases-show_sig
decreases-show_sig l = 2 * l.left + 1

abbrev pub invariant-show_fields-loop-i : goal.invariant-show_fields-loop-i
invariant-show_fields-loop-i l = FieldsInv l.left l.s l.count l.texts l.at l.initial.out l.out l.read l.to l.i

abbrev pub invariant-show_sig-loop-i : goal.invariant-show_sig-loop-i
invariant-show_sig-loop-i l = SigInv l.left l.s l.count l.texts l.at l.initial.out l.out l.read l.to l.i
