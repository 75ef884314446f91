-- `names::trim` meets its contract: what is left between the two ends, and that it lies in the caller's own bytes.
-- Assumes nothing.
use mathlib.Core.Path.{refl}
use borrow.Author.Rules.{rules}
use Rattle.names.proofs.Trimming.{trimmed}
use Rattle.names.proofs.trim.Goals as goal

pub returns : goal.returns
returns c =
    let front = c.trim_start-from.ensures in
    let back = c.trim_end-to.ensures in
    trimmed _ _ front.within front.blanks front.stops _ _ back.within back.blanks back.stops (search rules) refl
