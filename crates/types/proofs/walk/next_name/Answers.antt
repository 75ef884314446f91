-- `types::walk::next_name` meets its contract: the name that stands at `at` where an entry is left, and the number above all names where none is.
-- Assumes nothing.
use mathlib.Core.Path.{sym, ap, ◌∙◌}
use mathlib.Core.Bool.{cond}
use native.Mathlib.Omega.{arith}
use borrow.Author.Tests.{lt-ltb, le-ltb}
use Rattle.form.specs.Limits.{name_width, name_end}
use Rattle.form.specs.Form.{num_at}
use Rattle.types.proofs.walk.next_name.Goals as goal

pub name_at-requires : goal.name_at-requires
name_at-requires c = c.requires c.if-i-n.true

pub returns-then-i-n : goal.returns-then-i-n
returns-then-i-n c =
    let args = c.args in record {
      value = c.name_at.ensures.0 ∙ sym
          (ap
          (λ z. cond z (num_at name_width args.at args.s.now) name_end)
          (lt-ltb args.i args.n c.if-i-n.true));
      upper_bound = (omega (arith, c.name_at.ensures.1), λ h. c.name_at.ensures.1);
    }

pub returns : goal.returns
returns c =
    let args = c.args in record {
      value = sym
          (ap
          (λ z. cond z (num_at name_width args.at args.s.now) name_end)
          (le-ltb args.i args.n c.if-i-n.false));
      upper_bound = (omega arith, λ h. absurd (omega (arith, c.if-i-n.false)));
    }
