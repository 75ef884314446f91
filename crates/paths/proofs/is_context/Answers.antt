-- `paths::is_context` meets its contract: the first byte of the value that was found says whether it is a context.
-- Assumes nothing.
use mathlib.Core.Path.{sym, ap, ◌∙◌}
use Rattle.form.specs.Answers.{outcome}
use Rattle.form.proofs.Whole.{bytes_of}
use Rattle.paths.specs.Laws.{holds_context}
use Rattle.paths.specs.Calls.{get_entry_call}
use Rattle.paths.proofs.CallContracts.{handed_on, extent_refused, asked_refused, context_asked, Entered, entered, entered_inside, context_none, context_is}
use Rattle.paths.proofs.is_context.Goals.{In-Some}
use Rattle.paths.proofs.is_context.Goals as goal

there : (c : In-Some) → Entered c.args.c.now c.args.name c.in-Some.part.place
there c = entered c.args.c.now c.args.name c.in-Some.part.place c.in-Some.part.size (rw c.in-Some.is at c.in_ok-part.ensures)

pub returns-in_err-part : goal.returns-in_err-part
returns-in_err-part c =
    let args = c.args in
    ap outcome (handed_on _ _ c.from_residual.ensures.1)
    ∙ asked_refused (get_entry_call args.c.now args.name) holds_context _ (context_asked args.c.now args.name) _ (sym (extent_refused _ _ c.in_err-part.ensures))

pub bounds-c-part : goal.bounds-c-part
bounds-c-part c = entered_inside (there (goal.at.bounds-c-part c).In-Some) (bytes_of _ c.type_inv.c)

pub returns-in-Some : goal.returns-in-Some
returns-in-Some c = context_is (there (goal.at.returns-in-Some c).In-Some) (bytes_of _ c.type_inv.c)

pub returns-in-None : goal.returns-in-None
returns-in-None c = context_none c.args.c.now c.args.name (rw c.in-None.is at c.in_ok-part.ensures)
