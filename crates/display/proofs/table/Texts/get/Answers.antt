-- `display::table::Texts::get` meets its contract: the mark says where the text stands.
-- Assumes nothing.
use Rattle.display.proofs.Marks.{nth_none, nth_there}
use Rattle.display.proofs.table.Texts.get.Goals as goal

pub returns-in_err-get-clause-text : goal.returns-in_err-get-clause-text
returns-in_err-get-clause-text c = rw (c.from_residual.ensures, ← c.self.view_is) (nth_none _ _ _ c.in_err-get.ensures.lookup.3)

pub returns-clause-text : goal.returns-clause-text
returns-clause-text c = rw (← c.self.view_is) (nth_there _ _ _ _ _ _ c.in_ok-get.ensures.lookup.3.0 c.in_ok-get.ensures.lookup.1 c.from-at.ensures c.from.ensures)
