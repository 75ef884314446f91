-- `names::trim_into` meets its contract: above the limit the refusal, otherwise what `trim` gives is handed on.
-- Assumes nothing.
use Rattle.names.proofs.CallContracts.{trim_long, trim_given}
use Rattle.names.proofs.trim_into.Goals as goal

pub returns-then-s-gt-MOST_BYTES : goal.returns-then-s-gt-MOST_BYTES
returns-then-s-gt-MOST_BYTES c = trim_long c.args.s.now c.args.out.now c.if-s-gt-MOST_BYTES.true

pub returns : goal.returns
returns c = trim_given c.args.s.now c.args.out.now c.if-s-gt-MOST_BYTES.false _ _ _ c.trim.ensures.bytes c.give.ensures
