-- `infer::type_of` meets its contract: the reader's refusal; of an accepted value the inferred type is built.
-- Assumes nothing.
use mathlib.Core.Path.{sym}
use mathlib.Core.Bool.{false, true≢false}
use Rattle.order.specs.Order.{fixed}
use Rattle.output.proofs.Outcomes.{built_handed}
use Rattle.infer.proofs.CallContracts.{fine, ask, type_refused, type_done}
use Rattle.infer.proofs.type_of.Goals as goal

pub returns-in_err-check_value : goal.returns-in_err-check_value
returns-in_err-check_value c =
    let args = c.args in
    built_handed _ _ _ _ c.from_residual.ensures.1 (type_refused args.v.now _ _ args.out.now c.in_err-check_value.ensures.result_value)

pub build-requires : goal.build-requires
build-requires c =
    let v = c.args.v in
    let bytes = c.in_ok-check_value.ensures.bytes in
    ask fixed false v.now (fine v.now _ bytes c.in_ok-check_value.ensures.result_value) bytes (λ h. absurd (true≢false (sym h)))

pub returns : goal.returns
returns c =
    let args = c.args in
    type_done args.v.now _ args.out.now _ _ c.build.ensures
