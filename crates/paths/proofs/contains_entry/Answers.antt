-- `paths::contains_entry` meets its contract: the name is contained exactly when its place is found.
-- Assumes nothing.
use mathlib.Core.Path.{sym, ap, ◌∙◌}
use Rattle.form.specs.Answers.{outcome}
use Rattle.form.specs.Outcome.{done}
use Rattle.paths.specs.Paths.{is_some}
use Rattle.paths.specs.Calls.{get_entry_call}
use Rattle.paths.proofs.CallContracts.{handed_on, extent_refused, asked_refused, has_part, entry_asked}
use Rattle.paths.proofs.contains_entry.Goals as goal

pub returns-in_err-entry_place : goal.returns-in_err-entry_place
returns-in_err-entry_place c =
    let args = c.args in
    ap outcome (handed_on _ _ c.from_residual.ensures.1)
    ∙ asked_refused (get_entry_call args.c.now args.name) is_some _ (entry_asked args.c.now args.name) _ (sym (extent_refused _ _ c.in_err-entry_place.ensures))

pub returns : goal.returns
returns c = ap done c.is_some.ensures ∙ has_part _ _ (entry_asked c.args.c.now c.args.name) _ c.in_ok-entry_place.ensures
