-- `coercion::coerced` meets its contract: a value that conforms is handed on; otherwise the readers give the refusals, and then the rules give the result.
-- Assumes nothing.
use mathlib.Core.Path.{sym, ◌∙◌}
use Rattle.form.proofs.Whole.{bytes_of}
use Rattle.output.proofs.Outcomes.{built_handed}
use Rattle.values.proofs.CallContracts.{passed}
use Rattle.coercion.proofs.Rules.{give_conformant, ready, first_refused, second_refused}
use Rattle.coercion.proofs.coerced.Goals as goal

pub returns-then-passes : goal.returns-then-passes
returns-then-passes c =
    let args = c.args in
    let both = passed args.t.now args.v.now (bytes_of args.t.now c.type_inv.t) (bytes_of args.v.now c.type_inv.v) (sym c.if-passes.true ∙ c.passes.ensures) in
    rw (← give_conformant args.t.now args.v.now both.both both.holds _) c.give.ensures

pub returns-in_err-level : goal.returns-in_err-level
returns-in_err-level c =
    built_handed _ _ _ _ c.from_residual.ensures.1 (first_refused c.args.v.now c.args.t.now c.args.out.now _ c.in_err-level.ensures.result_value)

pub returns-in_err-check_type : goal.returns-in_err-check_type
returns-in_err-check_type c =
    built_handed _ _ _ _ c.from_residual-in_err-check_type.ensures.1
    (second_refused c.args.v.now c.args.t.now c.args.out.now _ _ c.in_ok-level.ensures.bytes c.in_ok-level.ensures.result_value c.in_err-check_type.ensures.result_value)

pub convert-requires-clause-ready : goal.convert-requires-clause-ready
convert-requires-clause-ready c =
    ready c.args.v.now c.args.t.now _ _ c.in_ok-level.ensures.bytes c.in_ok-check_type.ensures.bytes c.in_ok-level.ensures.result_value c.in_ok-check_type.ensures.result_value
