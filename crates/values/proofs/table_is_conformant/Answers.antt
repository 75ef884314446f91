-- `values::table_is_conformant` meets its contract: a table that does not load is refused first; otherwise the answer under its reading.
-- Assumes nothing.
use mathlib.Core.Path.{◌∙◌}
use Rattle.tables.proofs.CallContracts.{handed_on, over_refused, over_loaded}
use Rattle.values.specs.Calls.{is_conformant_by}
use Rattle.values.proofs.table_is_conformant.Goals as goal

pub returns-in_err-load : goal.returns-in_err-load
returns-in_err-load c =
    handed_on _ _ _ c.from_residual.ensures.1
    (over_refused c.args.table.now (λ order. is_conformant_by order c.args.v.now c.args.t.now) _ c.in_err-load.ensures)

pub returns : goal.returns
returns c =
    c.judge.ensures ∙ over_loaded c.args.table.now (λ order. is_conformant_by order c.args.v.now c.args.t.now) _ c.in_ok-load.ensures
