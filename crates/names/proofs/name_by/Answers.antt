-- `names::name_by` meets its contract: the name is not longer than its parts, so it stands whole in the spare place and is handed on.
-- Assumes nothing.
use mathlib.Core.Path.{◌≡◌}
use Rattle.std.proofs.Common.{rules, Err, None, Some}
use Rattle.form.specs.declared.refusals.Refusal.TheVariants as refusal_is
use Rattle.names.proofs.CallContracts.{name_refused, name_handed}
use Rattle.names.proofs.name_by.Goals as goal

pub returns-in_err-n : goal.returns-in_err-n
returns-in_err-n c =
    let n : c.write_name.result ≡ None = search rules in
    let e : c.from_residual.result ≡ Err refusal_is.Texts = search rules in
    rw e (name_refused c.args.parts.now c.args.out.now _ _ _ c.write_name.ensures.writes n)

pub returns : goal.returns
returns c =
    let n : c.write_name.result ≡ Some c.in_ok-n.n = search rules in
    name_handed c.args.parts.now c.args.out.now _ _ _ c.write_name.ensures.writes _ n c.write_name.ensures.bound c.requires.room _ _ c.give.ensures
