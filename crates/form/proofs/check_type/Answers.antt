-- `form::check_type` meets its contract: the length is tested first; then the walk's end is held to the length, or its fault is the refusal.
-- Assumes nothing.
use Prim.Native.Nat.{ℕ}
use mathlib.Core.Path.{◌∙◌, ap}
use borrow.Author.Rules.{rules}
use Rattle.form.specs.Outcome.{refused}
use Rattle.form.specs.Limits.{type_refusals, type_levels}
use Rattle.form.specs.Form.{level}
use Rattle.form.specs.Read.{read_t, check_type}
use Rattle.form.proofs.Whole.{bytes_of, whole_empty, whole_long, whole_ended, whole_left, whole_fault}
use Rattle.form.proofs.check_type.Goals as goal
use Rattle.form.proofs.check_type.Goals.{then-is_empty-via-then-is_empty, then-is_empty-via-else-is_empty+then-s-gt-MOST_BYTES}

pub returns-then-is_empty : goal.returns-then-is_empty
returns-then-is_empty c =
    unfold check_type in record {
      result_value = elim c.then-is_empty.branch [
        | then-is_empty-via-then-is_empty w ↦ whole_empty level type_refusals (read_t type_levels) c.args.s.now (search rules)
        | then-is_empty-via-else-is_empty+then-s-gt-MOST_BYTES w ↦ whole_long level type_refusals (read_t type_levels) c.args.s.now (search rules) w.if-s-gt-MOST_BYTES.true
      ];
      bytes = bytes_of c.args.s.now c.type_inv.s;
    }

pub returns-in-Ok : goal.returns-in-Ok
returns-in-Ok c =
    unfold check_type in record {
      result_value = whole_ended level type_refusals (read_t type_levels) c.args.s.now (search rules) c.if-s-gt-MOST_BYTES.false c.in-Ok.whole c.in-Ok.ensures c.if-whole-s.true;
      bytes = bytes_of c.args.s.now c.type_inv.s;
    }

pub returns-in-Ok-2 : goal.returns-in-Ok-2
returns-in-Ok-2 c =
    unfold check_type in record {
      result_value = whole_left level type_refusals (read_t type_levels) c.args.s.now (search rules) c.if-s-gt-MOST_BYTES.false c.in-Ok.whole c.in-Ok.ensures c.if-whole-s.false;
      bytes = bytes_of c.args.s.now c.type_inv.s;
    }

pub returns-in-Err : goal.returns-in-Err
returns-in-Err c =
    unfold check_type in record {
      result_value = ap (λ (n : ℕ). refused n) c.of_type.ensures
          ∙ whole_fault level type_refusals (read_t type_levels) c.args.s.now (search rules) c.if-s-gt-MOST_BYTES.false c.in-Err.fault c.in-Err.ensures;
      bytes = bytes_of c.args.s.now c.type_inv.s;
    }
