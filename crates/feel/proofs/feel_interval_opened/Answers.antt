-- `feel::feel_interval_opened` meets its contract: the test on the byte is the definition's, and `interval_number` refuses a byte over 3.
-- Assumes nothing.
use Rattle.feel.proofs.feel_interval_opened.Goals as goal

pub returns : goal.returns
returns c = c.interval_number.ensures
