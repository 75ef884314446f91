-- The cycle `types::compare::conforms`, `conform_inner`, `conform_sig`, `conform_fields` meets its contracts; the measure is twice the level that is left, one more for the other three.
use Prim.Native.Nat.{◌+◌, ◌*◌, ◌-◌}
use Rattle.order.specs.Order.{order_of}
use Rattle.order.specs.Types.{le}
use Rattle.order.specs.Size.{size, size_fields}
use Rattle.types.specs.At.{type_at, fields_at, sig_at, size_sig}
use Rattle.types.specs.Conform.{conform_by, entries, ignores_at, le_sig}
use Rattle.form.specs.Trees.{no_fields, field}
use Rattle.order.specs.Ascending.{AscFields}
use Rattle.types.proofs.SortedNames.{NamesGo}
use Rattle.types.proofs.TypeConformance.{SigGo}
use Rattle.types.proofs.compare.+conform_fields_conform_inner_conform_sig_conforms.Given as goal

abbrev pub decreases-conform_fields : goal.decreases-conform_fields
decreases-conform_fields l = 2 * l.left + 1

abbrev pub decreases-conform_inner : goal.decreases-conform_inner
decreases-conform_inner l = 2 * l.left + 1

abbrev pub decreases-conform_sig : goal.decreases-conform_sig
decreases-conform_sig l = 2 * l.left + 1

abbrev pub decreases-conforms : goal.decreases-conforms
decreases-conforms l = 2 * l.left

abbrev pub invariant-conform_fields-loop : goal.invariant-conform_fields-loop
invariant-conform_fields-loop l = NamesGo size size_fields (type_at l.left) (fields_at l.left) no_fields field AscFields (le (order_of l.reading))
    (entries (le (order_of l.reading))) l.left
    (conform_by size_fields size_fields (entries (le (order_of l.reading))) (fields_at l.left l.n 0 l.a) (fields_at l.left l.m 0 l.b))
    l.a l.n l.b l.m l.at l.least l.counter l.bt l.j

abbrev pub invariant-conform_sig-loop : goal.invariant-conform_sig-loop
invariant-conform_sig-loop l = SigGo (order_of l.reading) l.left (ignores_at (order_of l.reading) l.count)
    (conform_by size_sig size_sig (le_sig (order_of l.reading) (ignores_at (order_of l.reading) l.count)) (sig_at l.left l.count l.a) (sig_at l.left l.count l.b)) l.a l.b
    l.count l.at l.bt l.counter
