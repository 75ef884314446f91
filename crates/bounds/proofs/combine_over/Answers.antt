-- `bounds::combine_over` meets its contract: a table that does not load is refused first; otherwise `combine` under its reading.
-- Assumes nothing.
use mathlib.Core.Path.{sym, subst}
use lib.ListN.{length}
use Rattle.form.specs.Answers.{Built}
use Rattle.output.proofs.Outcomes.{built_refused, built_handed}
use Rattle.order.specs.Order.{toward}
use Rattle.tables.proofs.CallContracts.{over_refused, over_loaded}
use Rattle.lattice.specs.Writing.{answer}
use Rattle.bounds.specs.Calls.{combined, table_combined}
use Rattle.bounds.proofs.combine_over.Goals as goal

pub returns-in_err-load : goal.returns-in_err-load
returns-in_err-load c =
    let args = c.args in
    built_handed _ _ _ _ c.from_residual.ensures.1
    (built_refused
    (table_combined (λ order. answer order (toward args.up)) args.table.now args.a.now args.b.now (length args.scratch.now) (length args.out.now))
    _ args.out.now
    (sym
    (over_refused args.table.now
    (λ order. combined (answer order (toward args.up)) args.a.now args.b.now (length args.scratch.now) (length args.out.now))
    _ c.in_err-load.ensures)))

pub returns : goal.returns
returns c =
    let args = c.args in
    subst
    (λ o. Built o args.out.now c.combine.new.out c.combine.result)
    (over_loaded args.table.now
    (λ order. combined (answer order (toward args.up)) args.a.now args.b.now (length args.scratch.now) (length args.out.now))
    _ c.in_ok-load.ensures)
    c.combine.ensures
