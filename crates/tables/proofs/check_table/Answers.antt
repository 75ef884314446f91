-- `tables::check_table` meets its contract: refused where loading is.
-- Assumes nothing.
use Rattle.tables.proofs.CallContracts.{handed_on, checked_refused}
use Rattle.tables.proofs.check_table.Goals as goal

pub returns-in_err-load : goal.returns-in_err-load
returns-in_err-load c = handed_on _ _ _ c.from_residual.ensures.1 (checked_refused c.args.table.now _ _ _ c.in_err-load.ensures)
