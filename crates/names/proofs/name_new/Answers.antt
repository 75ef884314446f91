-- `names::name_new` meets its contract: parts that are too long are refused; of others a spare place is long enough.
-- Assumes nothing.
use Rattle.names.proofs.CallContracts.{parts_long}
use Rattle.names.proofs.name_new.Goals as goal

pub returns-then-parts-gt-MOST_BYTES : goal.returns-then-parts-gt-MOST_BYTES
returns-then-parts-gt-MOST_BYTES c = parts_long c.args.parts.now c.args.out.now c.if-parts-gt-MOST_BYTES.true
