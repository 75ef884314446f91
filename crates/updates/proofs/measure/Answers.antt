-- `updates::measure` meets its contract: the length of the pieces that `splice` writes (`length_spliced`), and the larger of the two levels.
-- Assumes nothing.
use mathlib.Core.Path.{sym}
use Rattle.updates.proofs.Splices.{length_spliced}
use Rattle.updates.proofs.measure.Goals as goal

pub returns-clause-size_value : goal.returns-clause-size_value
returns-clause-size_value c = sym (length_spliced _ _ _ _ c.requires.cuts)
