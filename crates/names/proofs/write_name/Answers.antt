-- `names::write_name` meets its contract: the loop keeps that the name so far and the parts that are left make the whole name.
-- Assumes nothing.
use mathlib.Core.Path.{refl}
use native.Mathlib.Omega.{arith}
use Rattle.std.proofs.lemmas.Bool.Decides.{nat_tests}
use Rattle.names.proofs.NameNew.{plain_is, nothing_read, naming_starts, naming_broken, naming_high, naming_next, naming_ended, naming_over}
use Rattle.names.proofs.write_name.Goals as goal

pub returns-in_err-count-clause-writes : goal.returns-in_err-count-clause-writes
returns-in_err-count-clause-writes c = nothing_read c.args.parts.now _ _ _ c.in_err-count.ensures.cases c.from_residual.ensures

pub loop-index-init : goal.loop-index-init
loop-index-init c = naming_starts c.args.parts.now _ _ _ c.in_ok-count.ensures.cases.0 c.requires

pub returns-in_err-part-clause-writes : goal.returns-in_err-part-clause-writes
returns-in_err-part-clause-writes c = naming_broken c.loop-index.invariant (omega arith) c.in_err-part.ensures _ c.from_residual-in_err-part.ensures

pub returns-then-not-is_ascii-clause-writes : goal.returns-then-not-is_ascii-clause-writes
returns-then-not-is_ascii-clause-writes c =
    naming_high c.loop-index.invariant _ _ c.in_ok-part.ensures _ (plain_is _ _ c.is_ascii.ensures.cases) (omega arith) c.if-not-is_ascii.true _ refl

pub loop-index-preserved : goal.loop-index-preserved
loop-index-preserved c =
    naming_next c.loop-index.invariant _ _ c.in_ok-part.ensures _ (plain_is _ _ c.is_ascii.ensures.cases) _ (omega arith) c.if-not-is_ascii.false _ _ _
    (cc (c.trim-trimmed.ensures.bytes, c.put_part-to.ensures.value)) (cc (c.trim-trimmed.ensures.bytes, c.is_mark-prev.ensures)) (cc (c.trim-trimmed.ensures.bytes, c.put_part-to.ensures.out_after))

pub returns-then-is_empty-clause-writes : goal.returns-then-is_empty-clause-writes
returns-then-is_empty-clause-writes c = naming_ended c.loop-index.invariant (omega arith) (grind (arith, nat_tests)) _ refl

pub returns-else-is_empty-clause-writes : goal.returns-else-is_empty-clause-writes
returns-else-is_empty-clause-writes c = naming_over c.loop-index.invariant (omega arith) (λ e. grind (arith, nat_tests)) _ refl
