-- `form::check_value` meets its contract: the length is tested first; then the walk's end is held to the length, or its fault is the refusal.
-- Assumes nothing.
use Prim.Native.Nat.{ℕ}
use mathlib.Core.Path.{◌∙◌, ap}
use borrow.Author.Rules.{rules}
use Rattle.form.specs.Outcome.{refused}
use Rattle.form.specs.Limits.{value_refusals, value_levels}
use Rattle.form.specs.Form.{level_v}
use Rattle.form.specs.Read.{read_v, check_value}
use Rattle.form.proofs.Whole.{bytes_of, whole_empty, whole_long, whole_ended, whole_left, whole_fault}
use Rattle.form.proofs.check_value.Goals as goal
use Rattle.form.proofs.check_value.Goals.{then-is_empty-via-then-is_empty, then-is_empty-via-else-is_empty+then-s-gt-MOST_BYTES}

pub returns-then-is_empty : goal.returns-then-is_empty
returns-then-is_empty c =
    unfold check_value in record {
      result_value = elim c.then-is_empty.branch [
        | then-is_empty-via-then-is_empty w ↦ whole_empty level_v value_refusals (read_v value_levels) c.args.s.now (search rules)
        | then-is_empty-via-else-is_empty+then-s-gt-MOST_BYTES w ↦ whole_long level_v value_refusals (read_v value_levels) c.args.s.now (search rules) w.if-s-gt-MOST_BYTES.true
      ];
      bytes = bytes_of c.args.s.now c.type_inv.s;
    }

pub returns-in-Ok : goal.returns-in-Ok
returns-in-Ok c =
    unfold check_value in record {
      result_value = whole_ended level_v value_refusals (read_v value_levels) c.args.s.now (search rules) c.if-s-gt-MOST_BYTES.false c.in-Ok.whole c.in-Ok.ensures c.if-whole-s.true;
      bytes = bytes_of c.args.s.now c.type_inv.s;
    }

pub returns-in-Ok-2 : goal.returns-in-Ok-2
returns-in-Ok-2 c =
    unfold check_value in record {
      result_value = whole_left level_v value_refusals (read_v value_levels) c.args.s.now (search rules) c.if-s-gt-MOST_BYTES.false c.in-Ok.whole c.in-Ok.ensures c.if-whole-s.false;
      bytes = bytes_of c.args.s.now c.type_inv.s;
    }

pub returns-in-Err : goal.returns-in-Err
returns-in-Err c =
    unfold check_value in record {
      result_value = ap (λ (n : ℕ). refused n) c.of_value.ensures
          ∙ whole_fault level_v value_refusals (read_v value_levels) c.args.s.now (search rules) c.if-s-gt-MOST_BYTES.false c.in-Err.fault c.in-Err.ensures;
      bytes = bytes_of c.args.s.now c.type_inv.s;
    }
