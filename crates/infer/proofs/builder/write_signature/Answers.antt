-- `infer::builder::write_signature` meets its contract: the loop keeps that what was written and the types that are left make the function type's text; the result is copied last.
-- Assumes nothing.
use native.Mathlib.Omega.{arith}
use mathlib.Core.Path.{sym}
use Rattle.form.proofs.Numbers.{take_length}
use Rattle.form.proofs.Whole.{bytes_of}
use Rattle.infer.proofs.Signatures.{sig_start, sig_name, sig_type, sig_to, sig_part, sig_wide, sig_again, sig_result, sig_last}
use Rattle.infer.proofs.Signatures.{sig_last_room, sig_same, sig_done}
use Rattle.infer.proofs.builder.write_signature.Goals as goal

pub loop-init : goal.loop-init
loop-init c = sig_start _ _ _ _ _ c.requires c.skip-k.ensures

pub overflow_add-p : goal.overflow_add-p
overflow_add-p c = omega (arith, sig_name c.loop.invariant c.loop-test.true)

pub slice_bounds-skip-count : goal.slice_bounds-skip-count
slice_bounds-skip-count c = sig_name c.loop.invariant c.loop-test.true

pub slice_bounds-skip-start : goal.slice_bounds-skip-start
slice_bounds-skip-start c = sig_name c.loop.invariant c.loop-test.true

pub overflow_add-q : goal.overflow_add-q
overflow_add-q c =
    omega (
      arith,
      sig_type c.loop.invariant c.loop-test.true _
          c.skip-x.ensures,
    )

pub slice_bounds-copy-end : goal.slice_bounds-copy-end
slice_bounds-copy-end c =
    sig_type c.loop.invariant c.loop-test.true _
    c.skip-x.ensures

pub slice_bounds-copy-count-in-loop : goal.slice_bounds-copy-count-in-loop
slice_bounds-copy-count-in-loop c = sig_to c.loop.invariant

pub slice_bounds-copy-start-in-loop : goal.slice_bounds-copy-start-in-loop
slice_bounds-copy-start-in-loop c = sig_to c.loop.invariant

pub copy-requires : goal.copy-requires
copy-requires c = sig_part c.loop.invariant c.loop-test.true _ c.skip-x.ensures

pub overflow_add-to : goal.overflow_add-to
overflow_add-to c =
    omega (
      arith,
      sig_wide c.loop.invariant c.loop-test.true _
          c.skip-x.ensures,
    )

pub loop-preserved : goal.loop-preserved
loop-preserved c =
    sig_again c.loop.invariant c.loop-test.true _ c.skip-x.ensures
    (bytes_of c.args.v.now
    c.type_inv.v)
    _ c.copy.ensures

pub slice_bounds-copy-end-2 : goal.slice_bounds-copy-end-2
slice_bounds-copy-end-2 c = sym (take_length _ _ (sig_result c.loop.invariant))

pub slice_bounds-copy-count-2 : goal.slice_bounds-copy-count-2
slice_bounds-copy-count-2 c = sig_to c.loop.invariant

pub slice_bounds-copy-start-2 : goal.slice_bounds-copy-start-2
slice_bounds-copy-start-2 c = sig_to c.loop.invariant

pub copy-requires-2 : goal.copy-requires-2
copy-requires-2 c = sig_last c.loop.invariant

pub overflow_add-result : goal.overflow_add-result
overflow_add-result c = omega (arith, sig_last_room c.loop.invariant)

pub shape_of-out : goal.shape_of-out
shape_of-out c =
    sig_same c.loop.invariant c.loop-test.false
    (bytes_of c.args.v.now c.type_inv.v) _
    c.copy-2.ensures

pub returns : goal.returns
returns c =
    sig_done c.loop.invariant c.loop-test.false
    (bytes_of c.args.v.now c.type_inv.v) _
    c.copy-2.ensures
