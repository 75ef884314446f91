-- `values::compare::conform_definition` meets its contract: a definition that was read, parameter by parameter and then result by result, against what is left of the function type.
use Prim.Native.Nat.{◌-◌}
use Rattle.order.specs.Order.{order_of}
use Rattle.types.specs.At.{sig_at}
use Rattle.values.specs.At.{definition_at}
use Rattle.values.specs.Held.{held_definition}
use Rattle.values.proofs.Definitions.{DefinitionGo}
use Rattle.values.proofs.compare.conform_definition.Given as goal

abbrev pub invariant-loop : goal.invariant-loop
invariant-loop l = DefinitionGo (order_of l.reading) (l.left - 1) l.left (held_definition (order_of l.reading) (definition_at (l.left - 1) l.count l.v) (sig_at l.left l.count l.t))
    l.v l.t l.count l.at l.bt l.counter
