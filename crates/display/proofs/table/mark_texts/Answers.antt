-- `display::table::mark_texts` meets its contract: the loop keeps that the texts that are marked and those that are left make all.
-- Assumes nothing.
use mathlib.Core.Path.{◌≡◌, refl, ap}
use Rattle.std.proofs.Common.{Some}
use native.Mathlib.Omega.{arith}
use Rattle.std.proofs.lemmas.Bool.Decides.{nat_tests}
use Rattle.display.proofs.Marks.{no_table, too_many, marking_starts, marking_none, marking_bad, marking_next, marking_over, marking_ended}
use Rattle.display.proofs.table.mark_texts.Goals as goal

pub returns-then-table-lt2 : goal.returns-then-table-lt2
returns-then-table-lt2 c = no_table c.args.table.now c.args.marks.now c.then-table-lt2.either _ refl

pub returns-then-marks-count : goal.returns-then-marks-count
returns-then-marks-count c =
    too_many c.args.table.now c.args.marks.now _
    c.if-table-gt-MOST_BYTES.false c.if-table-lt2.false c.word_at-count.ensures.0 (c.requires c.if-table-lt2.false) c.if-marks-count.true _ refl

pub loop-i-init : goal.loop-i-init
loop-i-init c = marking_starts c.args.table.now _ _ _ c.if-table-gt-MOST_BYTES.false c.if-table-lt2.false c.word_at-count.ensures.0

pub returns-in_err-text : goal.returns-in_err-text
returns-in_err-text c = marking_none c.loop-i.invariant (omega arith) c.in_err-text.ensures _ c.from_residual.ensures

pub returns-then-not-is_next : goal.returns-then-not-is_next
returns-then-not-is_next c = marking_bad c.loop-i.invariant _ _ c.in_ok-text.ensures _ c.is_next.ensures (omega arith) c.if-not-is_next.true _ refl

pub overflow_sub-marks : goal.overflow_sub-marks
overflow_sub-marks c = omega arith

pub loop-i-preserved : goal.loop-i-preserved
loop-i-preserved c = marking_next c.loop-i.invariant _ _ c.in_ok-text.ensures _ c.is_next.ensures _ (omega arith) c.if-not-is_next.false (omega arith) _ refl

pub returns-then-is_empty : goal.returns-then-is_empty
returns-then-is_empty c =
    marking_ended c.loop-i.invariant (omega arith) (grind (arith, nat_tests)) (omega arith) c.if-table-gt-MOST_BYTES.false _
    (let z : c.word_at-count.result ≡ c.loop-i.i = omega arith in ap Some z)

pub returns-else-is_empty : goal.returns-else-is_empty
returns-else-is_empty c = marking_over c.loop-i.invariant (omega arith) (λ e. grind (arith, nat_tests)) _ refl
