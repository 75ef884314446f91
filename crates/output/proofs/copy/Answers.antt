-- `output::copy` meets its contract: the front of the output, as long as the source, becomes the source.
-- Assumes nothing.
use Rattle.std.proofs.Common.{ap, ℕ, List, ◌++◌, length, drop}
use Rattle.form.specs.Answers.{onto}
use Rattle.output.proofs.copy.Goals as goal

pub returns : goal.returns
unfolding onto
returns c = ap (λ (z : List ℕ). z ++ drop (length c.args.src.now) c.args.out.now) c.copy_from_slice.ensures.after
