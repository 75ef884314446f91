-- `types::refuse` meets its contract: the readers' refusals, self first, then no.
-- Assumes nothing.
use mathlib.Core.Path.{sym}
use mathlib.Core.Bool.{false}
use Rattle.form.specs.Read.{read_type}
use Rattle.tables.proofs.CallContracts.{handed_on}
use Rattle.types.proofs.CallContracts.{was_refused, was_accepted}
use Rattle.types.proofs.TwoArguments.{first_refused, second_refused, both_read}
use Rattle.types.specs.Calls.{read_then_no}
use Rattle.types.proofs.refuse.Goals as goal

pub returns-in_err-check_type : goal.returns-in_err-check_type
unfolding read_then_no
returns-in_err-check_type c =
    handed_on _ _ _ c.from_residual.ensures.1
    (first_refused (λ s t. false) (read_type c.args.b.now) (was_refused c.args.a.now _ c.in_err-check_type.ensures.result_value))

pub returns-in_err-check_type-2 : goal.returns-in_err-check_type-2
unfolding read_then_no
returns-in_err-check_type-2 c =
    handed_on _ _ _ c.from_residual-in_err-check_type-2.ensures.1
    (second_refused (λ s t. false) (read_type c.args.b.now) (was_accepted c.args.a.now _ c.in_ok-check_type.ensures.result_value).whole
    (was_refused c.args.b.now _ c.in_err-check_type-2.ensures.result_value))

pub returns : goal.returns
unfolding read_then_no
returns c =
    sym
    (both_read (λ s t. false) (read_type c.args.b.now) (was_accepted c.args.a.now _ c.in_ok-check_type.ensures.result_value).whole
    (was_accepted c.args.b.now _ c.in_ok-check_type-2.ensures.result_value).whole)
