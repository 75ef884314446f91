-- `retrieval::builder::retrieve_by` meets its contract: the retrieved value is no longer than the value, so it stands whole in the spare place and is handed on.
-- Assumes nothing.
use native.Mathlib.Omega.{arith}
use lib.ListN.{length-take}
use Rattle.retrieval.proofs.CallContracts.{call_err, call_room, call_done, type_ok, value_ok}
use Rattle.retrieval.proofs.builder.retrieve_by.Goals as goal

pub retrieve-requires : goal.retrieve-requires
retrieve-requires c =
    record {
      ok = type_ok c.args.t.now c.args.v.now c.requires.accepted;
      ok_2 = value_ok c.args.t.now c.args.v.now c.requires.accepted;
    }

pub slice_bounds-give-end : goal.slice_bounds-give-end
slice_bounds-give-end c =
    call_room c.args.t.now c.args.v.now c.requires.accepted c.args.out.now _ _ _ c.retrieve.ensures _ _ _ c.in-Some.is
    c.requires.v_in_bounds

pub slice_bounds-give-end-in-Some : goal.slice_bounds-give-end-in-Some
slice_bounds-give-end-in-Some c =
    simp length-take
    (omega (
      arith,
      call_room c.args.t.now c.args.v.now c.requires.accepted c.args.out.now _ _ _ c.retrieve.ensures _ _ _
          c.in-Some.is c.requires.v_in_bounds,
    ))

pub returns-in-None : goal.returns-in-None
returns-in-None c = call_err c.args.t.now c.args.v.now c.requires.accepted c.args.out.now _ _ _ c.retrieve.ensures c.in-None.is

pub returns-in-Some : goal.returns-in-Some
returns-in-Some c =
    call_done c.args.t.now c.args.v.now c.requires.accepted c.args.out.now _ _ _ c.retrieve.ensures _
    _ _ c.in-Some.is c.requires.v_in_bounds _ _ c.give.ensures
