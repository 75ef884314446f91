-- `tables::readings::Reading::narrow` meets its contract: what is left of the loop gives what all of it gives (`Narrowing`).
use Rattle.tables.proofs.Related.{Narrowing}
use Rattle.form.specs.Trees.{code}
use Rattle.order.specs.Order.{top, toward, closer, narrowed}
use Rattle.tables.proofs.readings.Reading.narrow.Given as goal

abbrev pub invariant-loop-u : goal.invariant-loop-u
invariant-loop-u l =
    let better = closer l.self (toward l.up) l.i l.j in
    Narrowing better (narrowed better (code (top (toward l.up))) 1 8) l.best l.u
