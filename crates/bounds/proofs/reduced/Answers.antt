-- `bounds::reduced` meets its contract: the common supertype of a type with itself is its reduced form, written once it is known to fit.
-- Assumes nothing.
use mathlib.Core.Path.{refl}
use Rattle.output.proofs.Outcomes.{built_handed}
use Rattle.bounds.proofs.CallContracts.{fine, reduced_refused, reduced_there, reduced_short, reduced_ready, reduced_done}
use Rattle.bounds.proofs.reduced.Goals as goal

pub returns-in_err-check_type : goal.returns-in_err-check_type
returns-in_err-check_type c =
    let args = c.args in
    built_handed _ _ _ _ c.from_residual.ensures.1 (reduced_refused args.t.now args.out.now _ c.in_err-check_type.ensures.result_value)

pub has_room-requires : goal.has_room-requires
has_room-requires c =
    let args = c.args in
    reduced_there args.t.now args.out.now (fine args.t.now _ c.in_ok-check_type.ensures.bytes c.in_ok-check_type.ensures.result_value)

pub returns-then-not-has_room : goal.returns-then-not-has_room
returns-then-not-has_room c =
    let args = c.args in
    reduced_short args.t.now args.out.now (fine args.t.now _ c.in_ok-check_type.ensures.bytes c.in_ok-check_type.ensures.result_value)
    _ c.has_room.ensures c.if-not-has_room.true

pub same-e-requires : goal.same-e-requires
same-e-requires c =
    let args = c.args in record {
      ready = reduced_ready args.t.now args.out.now (fine args.t.now _ c.in_ok-check_type.ensures.bytes c.in_ok-check_type.ensures.result_value)
          _ c.has_room.ensures c.if-not-has_room.false;
      a_value = refl;
    }

pub returns : goal.returns
returns c =
    let args = c.args in
    reduced_done args.t.now args.out.now (fine args.t.now _ c.in_ok-check_type.ensures.bytes c.in_ok-check_type.ensures.result_value)
    _ c.has_room.ensures c.if-not-has_room.false _ _ _ _ c.same-e.ensures
