-- `paths::is_empty` meets its contract: yes exactly where `len` is 0.
-- Assumes nothing.
use mathlib.Core.Path.{ap, ◌∙◌}
use lib.Dec.{eqb}
use Rattle.form.specs.Answers.{outcome}
use Rattle.paths.specs.Calls.{len_call}
use Rattle.paths.proofs.CallContracts.{handed_on, asked_refused, asked_done, empty_asked}
use Rattle.paths.proofs.is_empty.Goals as goal

pub returns-in_err-len : goal.returns-in_err-len
returns-in_err-len c =
    ap outcome (handed_on _ _ c.from_residual.ensures.1)
    ∙ asked_refused (len_call c.args.c.now) (λ n. eqb n 0) _ (empty_asked c.args.c.now) _ c.in_err-len.ensures

pub returns : goal.returns
returns c = asked_done (len_call c.args.c.now) (λ n. eqb n 0) _ (empty_asked c.args.c.now) _ c.in_ok-len.ensures
