-- `output::give` meets its contract: without room the refusal, otherwise the bytes are copied and their length is answered.
-- Assumes nothing.
use mathlib.Core.Path.{refl}
use lib.ListN.{length}
use Rattle.form.specs.Outcome.{fits}
use Rattle.output.proofs.Outcomes.{built_short, built_wrote}
use Rattle.output.proofs.give.Goals as goal

pub returns-then-out-n : goal.returns-then-out-n
returns-then-out-n c =
    let args = c.args in
    built_short (fits (length args.out.now) args.src.now) args.src.now args.out.now refl c.if-out-n.true

pub returns : goal.returns
returns c =
    let args = c.args in
    built_wrote (fits (length args.out.now) args.src.now) args.src.now args.out.now _ _ refl refl c.if-out-n.false
    c.copy.ensures
