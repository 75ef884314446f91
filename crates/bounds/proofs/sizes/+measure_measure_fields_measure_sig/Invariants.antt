-- The cycle `bounds::sizes::measure`, `measure_fields`, `measure_sig` meets its contracts; the measure is twice the level that is left, one more for the loops.
use Prim.Native.Nat.{◌*◌, ◌+◌}
use Rattle.bounds.proofs.ReducedSizes.{EntriesInv, ParametersInv}
use Rattle.bounds.proofs.sizes.+measure_measure_fields_measure_sig.Given as goal

abbrev pub decreases-measure : goal.decreases-measure
decreases-measure l = 2 * l.left

abbrev pub decreases-measure_fields : goal.decreases-measure_fields
decreases-measure_fields l = 2 * l.left + 1

abbrev pub decreases-measure_sig : goal.decreases-measure_sig
decreases-measure_sig l = 2 * l.left + 1

abbrev pub invariant-measure_fields-loop : goal.invariant-measure_fields-loop
invariant-measure_fields-loop l = EntriesInv l.left l.s l.n l.at l.to l.counter

abbrev pub invariant-measure_sig-loop : goal.invariant-measure_sig-loop
invariant-measure_sig-loop l = ParametersInv l.left l.s l.count l.at l.to l.counter
