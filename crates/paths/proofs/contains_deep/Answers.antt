-- `paths::contains_deep` meets its contract: the path is contained exactly when the search finds a place.
-- Assumes nothing.
use mathlib.Core.Path.{sym, ap, ◌∙◌}
use Rattle.form.specs.Answers.{outcome}
use Rattle.form.specs.Outcome.{done}
use Rattle.paths.specs.Paths.{is_some}
use Rattle.paths.specs.Calls.{search_deep_call}
use Rattle.paths.proofs.CallContracts.{handed_on, extent_refused, asked_refused, has_part, deep_asked}
use Rattle.paths.proofs.contains_deep.Goals as goal

pub returns-in_err-search_place : goal.returns-in_err-search_place
returns-in_err-search_place c =
    let args = c.args in
    ap outcome (handed_on _ _ c.from_residual.ensures.1)
    ∙ asked_refused (search_deep_call args.c.now args.path.now) is_some _ (deep_asked args.c.now args.path.now) _ (sym (extent_refused _ _ c.in_err-search_place.ensures))

pub returns : goal.returns
returns c = ap done c.is_some.ensures ∙ has_part _ _ (deep_asked c.args.c.now c.args.path.now) _ c.in_ok-search_place.ensures
