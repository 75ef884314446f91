-- `tables::load::is_row` meets its contract: the ten rows are those at the ten places.
-- Assumes nothing.
use Rattle.std.proofs.Common.{rules}
use Rattle.tables.proofs.Loops.{is_row_lem}
use Rattle.tables.proofs.load.is_row.Goals as goal

pub returns : goal.returns
returns c = search (rules, is_row_lem)
