-- `output::fill` meets its contract: the first `n` bytes of `src`, where `n` is the smaller of the two lengths, are copied (`fills`).
-- Assumes nothing.
use mathlib.Core.Path.{sym}
use native.Mathlib.Omega.{arith}
use lib.Seq.{length-take-le}
use Rattle.output.proofs.FillLaws.{fills, cut_length}
use Rattle.output.proofs.fill.Goals as goal

pub slice_bounds-copy-end : goal.slice_bounds-copy-end
slice_bounds-copy-end c = sym (length-take-le _ c.args.src.now (omega (arith, c.min-n.ensures)))

pub copy-requires : goal.copy-requires
copy-requires c =
    let args = c.args in
    cut_length args.src.now args.out.now _ c.min-n.ensures

pub returns : goal.returns
returns c =
    fills c.args.src.now c.args.out.now _ _ c.min-n.ensures
    c.copy.ensures
