-- `paths::way::read` meets its contract: the length is tested first; then the walk's size is held to it, or its fault is the refusal.
-- Assumes nothing.
use borrow.Author.Rules.{rules}
use native.Mathlib.Omega.{arith}
use mathlib.Core.Path.{ap, ◌∙◌}
use Rattle.form.specs.Limits.{value_refusals, value_levels}
use Rattle.form.specs.Form.{level_v}
use Rattle.form.specs.Outcome.{refused}
use Rattle.form.specs.Read.{read_v, check_value}
use Rattle.form.proofs.Whole.{whole_empty, whole_long}
use Rattle.paths.proofs.Along.{whole_surveyed, read_ended, read_left, read_fault}
use Rattle.paths.proofs.way.read.Goals as goal
use Rattle.paths.proofs.way.read.Goals.{then-is_empty-via-then-is_empty, then-is_empty-via-else-is_empty+then-c-gt-MOST_BYTES}

pub returns-then-is_empty-clause-level : goal.returns-then-is_empty-clause-level
returns-then-is_empty-clause-level c =
    unfold check_value in elim c.then-is_empty.branch [
      | then-is_empty-via-then-is_empty w ↦ whole_empty level_v value_refusals (read_v value_levels) c.args.c.now (search rules)
      | then-is_empty-via-else-is_empty+then-c-gt-MOST_BYTES w ↦ whole_long level_v value_refusals (read_v value_levels) c.args.c.now (search rules) w.if-c-gt-MOST_BYTES.true
    ]

pub returns-in-0-clause-level : goal.returns-in-0-clause-level
returns-in-0-clause-level c = ap refused c.value_fault.ensures ∙ read_fault c.args.c.now (search rules) c.if-c-gt-MOST_BYTES.false c.survey-way.ensures.told c.in-0.is

pub returns-in_default-clause-level : goal.returns-in_default-clause-level
returns-in_default-clause-level c = read_ended c.args.c.now (search rules) c.if-c-gt-MOST_BYTES.false c.survey-way.ensures.told c.if-size-c.true

pub returns-in_default-clause-surveyed : goal.returns-in_default-clause-surveyed
returns-in_default-clause-surveyed c = whole_surveyed value_levels _ _ _ _ c.survey-way.ensures.surveyed

pub returns-in_default-2-clause-level : goal.returns-in_default-2-clause-level
returns-in_default-2-clause-level c =
    read_left c.args.c.now (search rules) c.if-c-gt-MOST_BYTES.false c.survey-way.ensures.told (λ z. omega arith) c.if-size-c.false
