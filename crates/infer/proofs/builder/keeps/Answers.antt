-- `infer::builder::keeps` meets its contract: equal types have equal bytes; otherwise the pass over both types says whether the second conforms to the first.
-- Assumes nothing.
use native.Mathlib.Omega.{arith}
use mathlib.Core.Path.{sym}
use Rattle.std.proofs.lemmas.Bool.Decides.{Decides-eqb}
use Rattle.std.proofs.lemmas.Slice.Eq.{slice_eq-Decides}
use Rattle.form.proofs.Numbers.{take_length}
use Rattle.form.proofs.Whole.{bytes_of}
use Rattle.form.proofs.Exact.{bytes_drop}
use Rattle.infer.proofs.JoinedTypes.{both_inside, kept_equal, kept_by}
use Rattle.infer.proofs.builder.keeps.Goals as goal

pub overflow_add-p : goal.overflow_add-p
overflow_add-p c =
    omega (
      arith,
      both_inside c.args.s.now c.args.n c.args.m _ c.requires,
    )

pub slice_bounds-eq-end : goal.slice_bounds-eq-end
slice_bounds-eq-end c =
    sym
    (take_length c.args.n c.args.s.now
    (omega (arith, both_inside c.args.s.now c.args.n c.args.m _ c.requires)))

pub slice_bounds-eq-end-then-equal : goal.slice_bounds-eq-end-then-equal
slice_bounds-eq-end-then-equal c = both_inside c.args.s.now c.args.n c.args.m _ c.requires

pub returns-then-equal : goal.returns-then-equal
returns-then-equal c =
    let args = c.args in
    let bytes-of1 = bytes_of args.s.now c.type_inv.s in
    kept_equal args.s.now args.n args.m _ c.requires bytes-of1
    (bytes_drop args.n args.s.now bytes-of1) _ _ c.if-equal.true
    (slice_eq-Decides Decides-eqb _ _ _ c.eq.ensures)

pub slice_bounds-conforms-count : goal.slice_bounds-conforms-count
slice_bounds-conforms-count c =
    omega (
      arith,
      both_inside c.args.s.now c.args.n c.args.m _ c.requires,
    )

pub slice_bounds-conforms-start : goal.slice_bounds-conforms-start
slice_bounds-conforms-start c =
    omega (
      arith,
      both_inside c.args.s.now c.args.n c.args.m _ c.requires,
    )

pub returns : goal.returns
returns c =
    kept_by c.args.s.now c.args.n c.args.m _ c.requires _ c.if-equal.false
    c.conforms.result _ c.conforms.ensures
