-- `display::display_by` meets its contract: a table that is not read is refused; otherwise the text over its texts is the answer.
-- Assumes nothing.
use mathlib.Core.Path.{◌≡◌}
use Rattle.std.proofs.Common.{rules, None, Some, Err}
use Rattle.std.proofs.lemmas.Option.{MatchOption-at_none, MatchOption-at_some}
use Rattle.form.specs.declared.refusals.Refusal.TheVariants.{Texts}
use Rattle.display.proofs.DisplayCall.{unread, over_table}
use Rattle.display.proofs.display_by.Goals as goal

pub returns-in_err-texts : goal.returns-in_err-texts
returns-in_err-texts c =
    let n : c.read.result ≡ None = search rules in
    let e : c.from_residual.result ≡ Err Texts = search rules in
    rw e (unread c.args.t.now c.args.table.now c.args.out.now c.requires.accepted (MatchOption-at_none _ _ n c.read.ensures))

pub returns : goal.returns
returns c =
    let n : c.read.result ≡ Some c.in_ok-texts.texts = search rules in
    over_table c.args.t.now c.args.table.now c.args.out.now c.requires.accepted _ (MatchOption-at_some _ _ _ n c.read.ensures) _ _ c.write_text.ensures
