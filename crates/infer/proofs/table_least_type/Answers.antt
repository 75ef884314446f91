-- `infer::table_least_type` meets its contract: a table that does not load is refused first; otherwise the builder under its reading.
-- Assumes nothing.
use mathlib.Core.Path.{sym, subst}
use lib.ListN.{length}
use Rattle.form.specs.Answers.{Built}
use Rattle.output.proofs.Outcomes.{built_refused, built_handed}
use Rattle.tables.proofs.CallContracts.{over_refused, over_loaded}
use Rattle.infer.specs.Calls.{least_type_by, table_least_type_call}
use Rattle.infer.proofs.table_least_type.Goals as goal

pub returns-in_err-load : goal.returns-in_err-load
returns-in_err-load c =
    let args = c.args in
    built_handed _ _ _ _ c.from_residual.ensures.1
    (built_refused (table_least_type_call args.table.now args.v.now (length args.scratch.now) (length args.out.now)) _ args.out.now
    (sym
    (over_refused args.table.now
    (λ order. least_type_by order args.v.now (length args.scratch.now) (length args.out.now))
    _ c.in_err-load.ensures)))

pub returns : goal.returns
returns c =
    let args = c.args in
    subst
    (λ o. Built o args.out.now c.build_least.new.out c.build_least.result)
    (over_loaded args.table.now
    (λ order. least_type_by order args.v.now (length args.scratch.now) (length args.out.now))
    _ c.in_ok-load.ensures)
    c.build_least.ensures
