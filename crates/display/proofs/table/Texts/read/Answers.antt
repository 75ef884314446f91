-- `display::table::Texts::read` meets its contract: the marks of the texts that were read.
-- Assumes nothing.
use mathlib.Core.Path.{sym}
use lib.Seq.{length-take-le}
use Rattle.display.proofs.Marks.{reads_none, reads_some}
use Rattle.display.proofs.table.Texts.read.Goals as goal

pub returns-in_err-count : goal.returns-in_err-count
returns-in_err-count c = rw c.from_residual.ensures (reads_none _ _ _ _ c.mark_texts.ensures c.in_err-count.was)

pub slice_bounds-result-end : goal.slice_bounds-result-end
slice_bounds-result-end c = sym (length-take-le _ _ (reads_some _ _ _ _ c.mark_texts.ensures _ c.in_ok-count.was).long)

pub invariant_of-result : goal.invariant_of-result
invariant_of-result c = (reads_some _ _ _ _ c.mark_texts.ensures _ c.in_ok-count.was).good

pub returns : goal.returns
returns c = (reads_some _ _ _ _ c.mark_texts.ensures _ c.in_ok-count.was).is
