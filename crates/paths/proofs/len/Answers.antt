-- `paths::len` meets its contract: the refusals first; the count in the bytes is that of the entries.
-- Assumes nothing.
use native.Mathlib.Omega.{arith}
use mathlib.Core.Path.{sym, ap, ◌∙◌}
use Rattle.form.specs.Answers.{outcome}
use Rattle.form.proofs.Values.{ValueTold, value_told}
use Rattle.paths.proofs.CallContracts.{handed_on, value_refused, first_refused, other_refused, held_byte, opened, call_refused, len_done}
use Rattle.paths.proofs.len.Goals as goal
use Rattle.paths.proofs.len.Goals.{In_ok-check_value}

told : (c : In_ok-check_value) → ValueTold c.args.c.now c.in_ok-check_value.field-0
told c = value_told c.args.c.now c.in_ok-check_value.ensures.bytes c.in_ok-check_value.field-0 (sym c.in_ok-check_value.ensures.result_value)

pub returns-in_err-check_value : goal.returns-in_err-check_value
returns-in_err-check_value c =
    ap outcome (handed_on _ _ c.from_residual.ensures.1)
    ∙ call_refused _ _ _ (first_refused _ 0 _ (value_refused _ _ c.in_err-check_value.ensures.result_value))

pub bounds-c-0 : goal.bounds-c-0
bounds-c-0 c = held_byte _ 0 (told (goal.at.bounds-c-0 c).In_ok-check_value).reads

pub word_at-requires : goal.word_at-requires
word_at-requires c = omega (arith, (opened _ 0 (told (goal.at.word_at-requires c).In_ok-check_value).reads (omega arith) c.if-c-eq-CONTEXT.true).ctx.three)

pub returns-then-c-eq-CONTEXT : goal.returns-then-c-eq-CONTEXT
returns-then-c-eq-CONTEXT c =
    len_done _ (opened _ 0 (told (goal.at.returns-then-c-eq-CONTEXT c).In_ok-check_value).reads (omega arith) c.if-c-eq-CONTEXT.true)
    c.in_ok-check_value.ensures.bytes _ c.word_at.ensures.0

pub returns-else-c-eq-CONTEXT : goal.returns-else-c-eq-CONTEXT
returns-else-c-eq-CONTEXT c =
    call_refused _ _ _ (other_refused _ 0 (told (goal.at.returns-else-c-eq-CONTEXT c).In_ok-check_value).reads (omega arith) c.if-c-eq-CONTEXT.false)
