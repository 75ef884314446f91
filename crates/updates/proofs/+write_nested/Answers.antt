-- The cycle of `updates::write_nested` meets its contract; the measure is the length of the path.
-- Each call writes a context of one entry up to its name, and the rest of the path behind it.
-- Assumes nothing.
use Rattle.updates.proofs.Splices.{nested_ends, nested_next, nested_bound}
use native.Mathlib.Omega.{arith}
use Rattle.updates.proofs.+write_nested.Goals as goal

pub returns-in_default : goal.returns-in_default
returns-in_default t c =
    let e = nested_ends _ _ _ _ (omega arith) c.fill.ensures in
    record { value = e.0; out_after = e.1 }

pub overflow_add-result : goal.overflow_add-result
overflow_add-result t c =
    omega (
      arith,
      c.write_to_name-p.ensures.value,
      c.write_nested.ensures.value,
      nested_bound c.args.path.now c.args.v.now 1 c.requires.0 c.requires.1,
    )

pub returns : goal.returns
returns t c =
    let e =
    nested_next _ _ _ _ _ _ _ _ _ (λ z. omega arith) c.from.ensures
    c.write_to_name-p.ensures.value c.write_to_name-p.ensures.out_after c.min-q.ensures c.write_nested.ensures.value
    c.write_nested.ensures.out_after in
    record { value = e.0; out_after = e.1 }
