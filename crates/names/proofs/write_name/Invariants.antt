-- `names::write_name` meets its contract: the loop keeps that the name so far and the parts that are left make the whole name.
use Prim.Native.Nat.{◌-◌}
use Rattle.names.proofs.NameNew.{Naming}
use Rattle.names.proofs.write_name.Given as goal

abbrev pub invariant-loop-index : goal.invariant-loop-index
invariant-loop-index l = Naming l.parts l.initial.out l.out l.prev l.to l.rest (l.index-end - l.index) l.index
