-- `output::put` meets its contract: the place is cut to the output's length, and the rest from there on is filled (`put_is`).
-- Assumes nothing.
use mathlib.Core.Path.{refl}
use Rattle.output.proofs.FillLaws.{put_is}
use Rattle.output.proofs.put.Goals as goal

pub returns : goal.returns
returns c =
    record {
      value = refl;
      out_after = put_is _ _ _ _ _ c.min-p.ensures c.fill.ensures;
    }
