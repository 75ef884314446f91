-- `types::instance::is_instance` meets its contract: within the limits by the first command; what is no list and no context is an instance of nothing.
-- Assumes nothing.
use Rattle.std.proofs.Common.{arith, sym}
use borrow.Author.Tests.{eqb-true}
use Rattle.order.specs.Document.{is_instance_of}
use Rattle.types.specs.Calls.{instance_of}
use Rattle.types.proofs.TwoArguments.{long_first, long_second}
use Rattle.types.proofs.CallContracts.{whole_type}
use Rattle.types.proofs.Instances.{nothing_first, other_kinds}
use Rattle.types.proofs.instance.is_instance.Goals.{then-is_empty-via-then-is_empty, then-is_empty-via-else-is_empty+then-a-gt-MOST_BYTES}
use Rattle.types.proofs.instance.is_instance.Goals.{then-is_empty-via-else-is_empty+else-a-gt-MOST_BYTES+then-b-gt-MOST_BYTES}
use Rattle.types.proofs.instance.is_instance.Goals as goal

pub returns-then-is_empty : goal.returns-then-is_empty
unfolding instance_of
returns-then-is_empty c =
    let args = c.args in
    elim c.then-is_empty.branch [
      | then-is_empty-via-then-is_empty w ↦ nothing_first args.a.now args.b.now (eqb-true _ _ (sym w.if-is_empty.ensures))
      | then-is_empty-via-else-is_empty+then-a-gt-MOST_BYTES w ↦ long_first whole_type whole_type is_instance_of args.a.now args.b.now w.if-a-gt-MOST_BYTES.true
      | then-is_empty-via-else-is_empty+else-a-gt-MOST_BYTES+then-b-gt-MOST_BYTES w ↦
          long_second whole_type whole_type is_instance_of args.a.now args.b.now w.if-b-gt-MOST_BYTES.true
    ]

pub returns-in_default : goal.returns-in_default
unfolding instance_of
returns-in_default c = other_kinds c.args.a.now c.args.b.now (λ h. omega arith) (λ h. omega arith)
