-- `types::instance::null_or_same` meets its contract: both are passed over; then Null at the front of the first, or equal bytes, which are equal types.
-- Assumes nothing.
use mathlib.Core.Path.{sym, ◌∙◌}
use mathlib.Core.Bool.{true≢false}
use Rattle.std.proofs.lemmas.Bool.Decides.{Decides-eqb}
use Rattle.std.proofs.lemmas.Slice.Eq.{slice_eq-Decides}
use Rattle.form.proofs.Numbers.{take_length}
use Rattle.form.proofs.Whole.{bytes_of}
use Rattle.order.specs.Document.{null_or_same}
use Rattle.types.proofs.Instances.{unread, within, byte_first, null_first, same_or_null, neither_same}
use Rattle.types.proofs.instance.null_or_same.Goals as goal

pub returns-then-x-eq0 : goal.returns-then-x-eq0
returns-then-x-eq0 c =
    let args = c.args in
    unread args.left args.a.now args.b.now c.skip_both-x.result
    c.skip_both-x.new.other c.skip_both-x.ensures c.if-x-eq0.true null_or_same
    _

pub bounds-a-0 : goal.bounds-a-0
bounds-a-0 c =
    let args = c.args in
    byte_first args.left args.a.now args.b.now c.skip_both-x.result
    c.skip_both-x.new.other c.skip_both-x.ensures c.if-x-eq0.false

pub returns-then-a-eq-NULL_TYPE : goal.returns-then-a-eq-NULL_TYPE
returns-then-a-eq-NULL_TYPE c =
    let args = c.args in
    null_first args.left args.a.now args.b.now c.skip_both-x.result
    c.skip_both-x.new.other c.skip_both-x.ensures c.if-x-eq0.false
    c.if-a-eq-NULL_TYPE.true

pub slice_bounds-eq-end : goal.slice_bounds-eq-end
slice_bounds-eq-end c =
    let args = c.args in
    sym
    (take_length c.skip_both-x.result args.a.now
    (within args.left args.a.now args.b.now c.skip_both-x.result
    c.skip_both-x.new.other c.skip_both-x.ensures c.if-x-eq0.false).0)

pub slice_bounds-eq-end-2 : goal.slice_bounds-eq-end-2
slice_bounds-eq-end-2 c =
    let args = c.args in
    sym
    (take_length c.skip_both-x.new.other args.b.now
    (within args.left args.a.now args.b.now c.skip_both-x.result
    c.skip_both-x.new.other c.skip_both-x.ensures c.if-x-eq0.false).1)

pub returns-then-eq : goal.returns-then-eq
returns-then-eq c =
    let args = c.args in
    same_or_null args.left args.a.now args.b.now c.skip_both-x.result
    c.skip_both-x.new.other c.skip_both-x.ensures c.if-x-eq0.false
    (bytes_of args.a.now c.type_inv.a) (bytes_of args.b.now c.type_inv.b)
    ((slice_eq-Decides Decides-eqb _ _ _ c.eq.ensures).0 c.if-eq.true)

pub returns : goal.returns
returns c =
    let args = c.args in
    neither_same args.left args.a.now args.b.now c.skip_both-x.result
    c.skip_both-x.new.other c.skip_both-x.ensures c.if-x-eq0.false
    (bytes_of args.a.now c.type_inv.a) (bytes_of args.b.now c.type_inv.b) c.if-a-eq-NULL_TYPE.false
    (λ h. true≢false (sym ((slice_eq-Decides Decides-eqb _ _ _ c.eq.ensures).1 h) ∙ c.if-eq.false))
    _
