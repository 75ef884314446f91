-- `types::instance::instance_context` meets its contract: the pass over both lists of names answers yes exactly where both sizes are the lengths of the two arguments.
-- Assumes nothing.
use native.Mathlib.Omega.{arith}
use Rattle.form.specs.Limits.{type_levels}
use Rattle.form.proofs.WalkAnswers.{part_room}
use Rattle.order.specs.Document.{is_instance_of}
use Rattle.types.specs.At.{type_at}
use Rattle.types.specs.Conform.{types_by, Met}
use Rattle.types.specs.Calls.{instance_of}
use Rattle.types.proofs.TwoArguments.{not_all, told_whole}
use Rattle.types.proofs.CallContracts.{whole_type}
use Rattle.types.proofs.Instances.{context_cut, context_short, context_apart, instance_contexts}
use Rattle.types.proofs.instance.instance_context.Goals.{then-a-lt3-via-then-a-lt3, then-a-lt3-via-else-a-lt3+then-b-lt3}
use Rattle.types.proofs.instance.instance_context.Goals.{then-a-lt3-via-else-a-lt3+else-b-lt3+then-b-ne-CONTEXT_TYPE, After-instance_fields-size}
use Rattle.types.proofs.instance.instance_context.Goals as goal

pub returns-then-a-lt3 : goal.returns-then-a-lt3
unfolding instance_of
returns-then-a-lt3 c =
    let args = c.args in
    elim c.then-a-lt3.branch [
      | then-a-lt3-via-then-a-lt3 w ↦ context_cut args.a.now args.b.now c.requires.3 (λ h. omega arith)
      | then-a-lt3-via-else-a-lt3+then-b-lt3 w ↦ context_short args.a.now args.b.now c.requires.3 (λ h. omega arith)
      | then-a-lt3-via-else-a-lt3+else-b-lt3+then-b-ne-CONTEXT_TYPE w ↦ context_apart args.a.now args.b.now c.requires.3 w.if-b-ne-CONTEXT_TYPE.true
    ]

pub instance_fields-size-requires : goal.instance_fields-size-requires
instance_fields-size-requires c = (
  part_room c.args.a.now 3 (omega arith) (omega (arith, c.well_formed)),
  part_room c.args.b.now 3 (omega arith) (omega (arith, c.well_formed)),
)

-- both were passed over, as two types
met : (c : After-instance_fields-size)
    → Met (types_by is_instance_of (type_at type_levels c.args.a.now) (type_at type_levels c.args.b.now)) c.instance_fields-size.result c.instance_fields-size.new.other
met c =
    let args = c.args in
    instance_contexts type_levels args.a.now args.b.now (omega arith) (omega arith) (omega arith) c.instance_fields-size.result
    c.instance_fields-size.new.other c.word_at.result c.word_at-2.result c.word_at.ensures.0 c.word_at-2.ensures.0 c.requires.3
    c.if-b-ne-CONTEXT_TYPE.false (omega arith) (omega arith) c.instance_fields-size.ensures

pub returns-then-size-a : goal.returns-then-size-a
unfolding instance_of
returns-then-size-a c =
    told_whole whole_type whole_type is_instance_of c.args.a.now c.args.b.now c.instance_fields-size.result c.instance_fields-size.new.other
    (met (goal.at.returns-then-size-a c).After-instance_fields-size) (λ z. omega arith) c.if-size-a.true c.requires.1 c.requires.2

pub returns-else-size-a : goal.returns-else-size-a
unfolding instance_of
returns-else-size-a c =
    not_all whole_type whole_type is_instance_of c.args.a.now c.args.b.now c.instance_fields-size.result c.instance_fields-size.new.other
    (met (goal.at.returns-else-size-a c).After-instance_fields-size) c.if-size-a.false
