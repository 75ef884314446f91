-- The cycle `paths::way::survey`, `survey_entries` meets its contracts; the measure is twice the level that is left, one more for `survey`.
-- Each return and each turn of the loop is one law of Along, over what the callee told of the entry's value.
-- Assumes nothing.
use native.Mathlib.Omega.{arith}
use mathlib.Core.Path.{refl, sym, ◌∙◌}
use borrow.Author.Tests.{eqb-true}
use Rattle.paths.proofs.Along.{along_start, along_none, along_fall, along_fault, along_this, along_before}
use Rattle.paths.proofs.Along.{along_behind, along_end, along_cut, flat_answer, path_parts}
use Rattle.paths.proofs.way.+survey_survey_entries.Goals as goal
use Rattle.paths.proofs.way.+survey_survey_entries.Goals.{survey-then-is_empty-via-then-is_empty, survey-then-is_empty-via-else-is_empty+then-s-lt3}
use Rattle.paths.proofs.way.+survey_survey_entries.Goals.{survey-then-is_empty-via-else-is_empty+else-s-lt3+then-left-eq0}
use Rattle.paths.proofs.way.+survey_survey_entries.Goals.{survey-then-is_empty-via-else-is_empty+else-s-lt3+else-left-eq0+then-s-ne-CONTEXT}
use Rattle.paths.proofs.way.+survey_survey_entries.Goals.{survey_entries-then-x-name-2, survey_entries-else-x-name-2}

pub survey-returns-then-is_empty-clause-surveyed : goal.survey-returns-then-is_empty-clause-surveyed
survey-returns-then-is_empty-clause-surveyed t c =
    (flat_answer _ _ _ _ _ _ _ c.pass.ensures.told c.pass.ensures.rest_value (λ d h k z. elim c.then-is_empty.branch [
      | survey-then-is_empty-via-then-is_empty w ↦ d (eqb-true _ _ (sym c.is_empty.ensures ∙ w.if-is_empty.true))
      | survey-then-is_empty-via-else-is_empty+then-s-lt3 w ↦ omega arith
      | survey-then-is_empty-via-else-is_empty+else-s-lt3+then-left-eq0 w ↦ omega arith
      | survey-then-is_empty-via-else-is_empty+else-s-lt3+else-left-eq0+then-s-ne-CONTEXT w ↦ w.if-s-ne-CONTEXT.true z
    ])).1

pub survey_entries-loop-i-init : goal.survey_entries-loop-i-init
survey_entries-loop-i-init t c =
    let pre = c.requires in
    along_start _ _ _ _ _ _ pre.0 pre.1 pre.2 c.word_at-n.ensures.0 refl

pub survey_entries-returns-then-s-at-lt-NAME_WIDTH : goal.survey_entries-returns-then-s-at-lt-NAME_WIDTH
survey_entries-returns-then-s-at-lt-NAME_WIDTH t c =
    let a = along_none c.loop-i.invariant _ _ _ _ _ c.loop-i-test.true
    c.if-s-at-lt-NAME_WIDTH.true c.stop.ensures in
    record { told = a.0; surveyed = a.1 }

pub survey_entries-returns-then-x-least : goal.survey_entries-returns-then-x-least
survey_entries-returns-then-x-least t c =
    let a = along_fall c.loop-i.invariant c.loop-i-test.true c.if-s-at-lt-NAME_WIDTH.false
    c.name_at-x.ensures.0 _ _ _ _ _ c.if-x-least.true c.stop-then-x-least.ensures in
    record { told = a.0; surveyed = a.1 }

pub survey_entries-returns-then-w-eq0 : goal.survey_entries-returns-then-w-eq0
survey_entries-returns-then-w-eq0 t c =
    let a = along_fault c.loop-i.invariant c.loop-i-test.true c.if-s-at-lt-NAME_WIDTH.false
    c.name_at-x.ensures.0 c.if-x-least.false c.survey-w.ensures.told _
    _ _ _ _ c.if-w-eq0.true c.stop-then-w-eq0.ensures in
    record { told = a.0; surveyed = a.1 }

pub survey_entries-around-cut-requires-clause-base_le_size : goal.survey_entries-around-cut-requires-clause-base_le_size
survey_entries-around-cut-requires-clause-base_le_size t c =
    along_cut c.loop-i.invariant c.loop-i-test.true c.if-s-at-lt-NAME_WIDTH.false c.name_at-x.ensures.0 c.if-x-least.false
    c.survey-w.ensures.told c.if-w-eq0.false _ _ c.survey-w.ensures.surveyed

pub survey_entries-loop-i-preserved-then-x-name : goal.survey_entries-loop-i-preserved-then-x-name
survey_entries-loop-i-preserved-then-x-name t c =
    along_this c.loop-i.invariant c.loop-i-test.true c.if-s-at-lt-NAME_WIDTH.false
    c.name_at-x.ensures.0 c.if-x-least.false c.survey-w.ensures.told
    c.if-w-eq0.false c.if-x-name.true _ _ c.survey-w.ensures.surveyed c.max-deep.ensures
    c.max-rest.ensures c.around-cut.ensures

pub survey_entries-returns-then-size-eq0 : goal.survey_entries-returns-then-size-eq0
survey_entries-returns-then-size-eq0 t c =
    let a = along_fault c.loop-i.invariant c.loop-i-test.true c.if-s-at-lt-NAME_WIDTH.false
    c.name_at-x.ensures.0 c.if-x-least.false c.pass-size.ensures _ _ _ _ _
    c.if-size-eq0.true c.stop-then-size-eq0.ensures in
    record { told = a.0; surveyed = a.1 }

pub survey_entries-loop-i-preserved : goal.survey_entries-loop-i-preserved
survey_entries-loop-i-preserved t c =
    elim c.if-x-name-2.branch [
      | survey_entries-then-x-name-2 w ↦
          along_before c.loop-i.invariant c.loop-i-test.true c.if-s-at-lt-NAME_WIDTH.false c.name_at-x.ensures.0 c.if-x-least.false
          c.pass-size.ensures c.if-size-eq0.false w.if-x-name-2.true c.max-deep-in-loop-i.ensures c.max-rest-in-loop-i.ensures w.cut-is
      | survey_entries-else-x-name-2 w ↦
          along_behind c.loop-i.invariant c.loop-i-test.true c.if-s-at-lt-NAME_WIDTH.false c.name_at-x.ensures.0 c.if-x-least.false
          c.pass-size.ensures c.if-size-eq0.false (omega (arith, w.if-x-name-2.false, c.if-x-name.false)) c.max-deep-in-loop-i.ensures
          c.max-rest-in-loop-i.ensures w.cut-is
    ]

pub survey_entries-returns : goal.survey_entries-returns
survey_entries-returns t c =
    let a = along_end c.loop-i.invariant _ _ _ _
    (path_parts _ _ c.requires.3
    c.from-name.ensures)
    c.loop-i-test.false refl refl refl in
    record { told = a.0; surveyed = a.1 }
