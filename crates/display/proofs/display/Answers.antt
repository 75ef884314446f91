-- `display::display` meets its contract: the type is refused first.
-- Assumes nothing.
use mathlib.Core.Path.{◌≡◌}
use Rattle.std.proofs.Common.{rules, Err}
use Rattle.display.proofs.DisplayCall.{display_refused, accepted}
use Rattle.display.proofs.display.Goals as goal

pub returns-in_err-check_type : goal.returns-in_err-check_type
returns-in_err-check_type c =
    let e : c.from_residual.result ≡ Err c.in_err-check_type.field-0.0 = search rules in
    rw e (display_refused c.args.t.now c.args.table.now c.args.out.now _ c.in_err-check_type.ensures.result_value)

pub display_by-requires-clause-accepted : goal.display_by-requires-clause-accepted
display_by-requires-clause-accepted c = accepted c.args.t.now _ c.check_type.ensures.bytes c.in_ok-check_type.ensures.result_value

pub display_by-requires-2-clause-accepted : goal.display_by-requires-2-clause-accepted
display_by-requires-2-clause-accepted c = accepted c.args.t.now _ c.check_type.ensures.bytes c.in_ok-check_type.ensures.result_value
