-- The cycle `lattice::write`, `write_other`, `same`, `fields`, `entry`, `signature` meets its contracts, in either direction.
-- Idea: each return of `write` and `same` is a law of Branches, each turn of a loop one of SortedMerge or SignatureLoop.
-- Assumes nothing.
use Prim.Native.Nat.{ℕ, ◌≤◌}
use mathlib.Core.Path.{◌≡◌, refl, sym, ap, ◌∙◌}
use mathlib.Core.Bool.{false}
use native.Mathlib.Omega.{arith}
use lib.ListN.{length, get_or, set, length-set}
use Rattle.order.specs.Order.{toward, order_of}
use Rattle.order.proofs.Ends.{reading_ends}
use Rattle.types.specs.Conform.{ignores_at}
use Rattle.types.proofs.TypeConformance.{compared_strict, compared_some}
use Rattle.types.proofs.Entries.{at_end_lem}
use Rattle.output.proofs.OntoLaws.{back_length}
use Rattle.lattice.proofs.BoundTrees.{turned, least_code}
use Rattle.lattice.proofs.Branches.{byte_a, byte_b, level_a, one, left_ready, left_done, right_ready, right_done, other_done, inner_ready, inner_ends, leaf_done, wrapped}
use Rattle.lattice.proofs.Branches.{wrapped_done, ctx_three, in_contexts, ctx_count, ctx_done, in_functions, fun_other, fun_none_room, fun_none, fun_head, ignored}
use Rattle.lattice.proofs.Branches.{in_sigs, fun_done}
use Rattle.lattice.proofs.SortedMerge.{alone_ready, alone_down, name_fits, in_entries, entry_done}
use Rattle.lattice.proofs.SortedMerge.{peeked, fields_start, peek_a, peek_b, more_a, more_b, over_a_fits, over_a, over_b_fits, over_b}
use Rattle.lattice.proofs.SortedMerge.{a_ready, a_ends, a_next, b_ready, b_ends, b_next, fields_done, both_ready, both_names, both_ends, both_next}
use Rattle.lattice.proofs.SignatureLoop.{sig_start, param_ready, param_ends, param_next, result_ready, result_ends, sig_done}
use Rattle.lattice.proofs.+bounds.Goals as goal
use Rattle.lattice.proofs.+bounds.Goals.{same-Joined-else-n-eq0, same-else-n-eq0-via-then-n-eq0+else-not-is_strict, same-else-n-eq0-via-else-n-eq0}

-- ---- entry: an entry of each with the same name
pub entry-copy_name-requires : goal.entry-copy_name-requires
entry-copy_name-requires t c =
    let g = name_fits _ _ _ _ _ _ c.requires.ready c.requires.same_name in
    record { name_width_in_bounds = omega (arith, g); name_width_in_bounds_2 = omega (arith, g) }

pub entry-slice_bounds-write-count : goal.entry-slice_bounds-write-count
entry-slice_bounds-write-count t c = omega (arith, name_fits _ _ _ _ _ _ c.requires.ready c.requires.same_name)

pub entry-slice_bounds-write-start : goal.entry-slice_bounds-write-start
entry-slice_bounds-write-start t c = omega (arith, name_fits _ _ _ _ _ _ c.requires.ready c.requires.same_name)

pub entry-slice_bounds-write-count-2 : goal.entry-slice_bounds-write-count-2
entry-slice_bounds-write-count-2 t c = omega (arith, name_fits _ _ _ _ _ _ c.requires.ready c.requires.same_name)

pub entry-slice_bounds-write-start-2 : goal.entry-slice_bounds-write-start-2
entry-slice_bounds-write-start-2 t c = omega (arith, name_fits _ _ _ _ _ _ c.requires.ready c.requires.same_name)

pub entry-slice_bounds-write-count-3 : goal.entry-slice_bounds-write-count-3
entry-slice_bounds-write-count-3 t c = omega (arith, name_fits _ _ _ _ _ _ c.requires.ready c.requires.same_name, c.copy_name.auto.out)

pub entry-slice_bounds-write-start-3 : goal.entry-slice_bounds-write-start-3
entry-slice_bounds-write-start-3 t c = omega (arith, name_fits _ _ _ _ _ _ c.requires.ready c.requires.same_name, c.copy_name.auto.out)

pub entry-write-requires : goal.entry-write-requires
entry-write-requires t c = (omega (arith, c.decreases), inner_ready (in_entries _ _ _ _ _ _ c.requires.ready c.requires.same_name) c.copy_name.new.out c.copy_name.auto.out)

pub entry-behind-requires : goal.entry-behind-requires
entry-behind-requires t c =
    let g = inner_ends (in_entries _ _ _ _ _ _ c.requires.ready c.requires.same_name) _ _ _ _ _ c.write.ensures in
    (omega (arith, g), omega (arith, g), omega (arith, g))

pub entry-returns : goal.entry-returns
entry-returns t c = rw c.behind.ensures (entry_done _ _ _ _ _ _ c.requires.ready c.requires.same_name c.args.out.now _ refl c.copy_name.ensures _ _ _ _ c.write.ensures)

-- ---- fields: the entries of two contexts
pub fields-loop-at-init : goal.fields-loop-at-init
fields-loop-at-init t c = fields_start (reading_ends c.args.reading) _ _ _ _ _ _ _ c.requires

pub fields-next_name-x-requires : goal.fields-next_name-x-requires
fields-next_name-x-requires t c = peek_a c.loop-at.invariant

pub fields-next_name-y-requires : goal.fields-next_name-y-requires
fields-next_name-y-requires t c = peek_b c.loop-at.invariant

-- a name of the first alone: passed over, or taken with itself
pub fields-slice_bounds-skip-count : goal.fields-slice_bounds-skip-count
fields-slice_bounds-skip-count t c =
    let pk = peeked c.next_name-x.ensures c.next_name-y.ensures in
    omega (arith, peek_a c.loop-at.invariant (more_a c.loop-at.invariant pk (omega (arith, c.if-x-y.true, c.next_name-y.ensures.upper_bound.0))))

pub fields-slice_bounds-skip-start : goal.fields-slice_bounds-skip-start
fields-slice_bounds-skip-start t c =
    let pk = peeked c.next_name-x.ensures c.next_name-y.ensures in
    omega (arith, peek_a c.loop-at.invariant (more_a c.loop-at.invariant pk (omega (arith, c.if-x-y.true, c.next_name-y.ensures.upper_bound.0))))

pub fields-overflow_add-at-then-up : goal.fields-overflow_add-at-then-up
fields-overflow_add-at-then-up t c = omega (arith, over_a_fits c.loop-at.invariant (peeked c.next_name-x.ensures c.next_name-y.ensures) c.if-x-y.true _ c.skip.ensures)

pub fields-overflow_add-at-then-up-2 : goal.fields-overflow_add-at-then-up-2
fields-overflow_add-at-then-up-2 t c = omega (arith, over_a_fits c.loop-at.invariant (peeked c.next_name-x.ensures c.next_name-y.ensures) c.if-x-y.true _ c.skip.ensures)

pub fields-loop-at-preserved-then-up : goal.fields-loop-at-preserved-then-up
fields-loop-at-preserved-then-up t c = over_a c.loop-at.invariant (peeked c.next_name-x.ensures c.next_name-y.ensures) c.if-x-y.true _ c.skip.ensures (ap toward c.if-up.true)

pub fields-entry-e-requires : goal.fields-entry-e-requires
fields-entry-e-requires t c =
    let pk = peeked c.next_name-x.ensures c.next_name-y.ensures in
    (omega (arith, c.decreases), (alone_ready _ _ _ _ _ (a_ready c.loop-at.invariant pk c.if-x-y.true) (reading_ends c.args.reading) (ap toward c.if-up.false), refl))

pub fields-overflow_add-at-then-x-y : goal.fields-overflow_add-at-then-x-y
fields-overflow_add-at-then-x-y t c =
    let pk = peeked c.next_name-x.ensures c.next_name-y.ensures in
    let g = alone_down _ _ _ _ _ (a_ready c.loop-at.invariant pk c.if-x-y.true) (reading_ends c.args.reading) (ap toward c.if-up.false) _ _ _ _ _ c.entry-e.ensures in
    omega (arith, c.loop-at.invariant.out_len, a_ends c.loop-at.invariant pk c.if-x-y.true _ _ _ _ _ g.0 g.1)

pub fields-overflow_add-to : goal.fields-overflow_add-to
fields-overflow_add-to t c =
    let pk = peeked c.next_name-x.ensures c.next_name-y.ensures in
    let g = alone_down _ _ _ _ _ (a_ready c.loop-at.invariant pk c.if-x-y.true) (reading_ends c.args.reading) (ap toward c.if-up.false) _ _ _ _ _ c.entry-e.ensures in
    omega (arith, c.loop-at.invariant.out_len, a_ends c.loop-at.invariant pk c.if-x-y.true _ _ _ _ _ g.0 g.1)

pub fields-overflow_add-k : goal.fields-overflow_add-k
fields-overflow_add-k t c =
    let pk = peeked c.next_name-x.ensures c.next_name-y.ensures in
    let g = alone_down _ _ _ _ _ (a_ready c.loop-at.invariant pk c.if-x-y.true) (reading_ends c.args.reading) (ap toward c.if-up.false) _ _ _ _ _ c.entry-e.ensures in
    omega (arith, c.loop-at.invariant.out_len, a_ends c.loop-at.invariant pk c.if-x-y.true _ _ _ _ _ g.0 g.1)

pub fields-loop-at-preserved-then-x-y : goal.fields-loop-at-preserved-then-x-y
fields-loop-at-preserved-then-x-y t c =
    let pk = peeked c.next_name-x.ensures c.next_name-y.ensures in
    let g = alone_down _ _ _ _ _ (a_ready c.loop-at.invariant pk c.if-x-y.true) (reading_ends c.args.reading) (ap toward c.if-up.false) _ _ _ _ _ c.entry-e.ensures in
    a_next c.loop-at.invariant pk c.if-x-y.true _ _ _ _ _ g.0 g.1 c.entry-e.auto.out

-- a name of the second alone
pub fields-slice_bounds-skip-count-then-up-2 : goal.fields-slice_bounds-skip-count-then-up-2
fields-slice_bounds-skip-count-then-up-2 t c =
    let pk = peeked c.next_name-x.ensures c.next_name-y.ensures in
    omega (arith, peek_b c.loop-at.invariant (more_b c.loop-at.invariant pk (omega (arith, c.if-y-x.true, c.next_name-x.ensures.upper_bound.0))))

pub fields-slice_bounds-skip-start-then-up-2 : goal.fields-slice_bounds-skip-start-then-up-2
fields-slice_bounds-skip-start-then-up-2 t c =
    let pk = peeked c.next_name-x.ensures c.next_name-y.ensures in
    omega (arith, peek_b c.loop-at.invariant (more_b c.loop-at.invariant pk (omega (arith, c.if-y-x.true, c.next_name-x.ensures.upper_bound.0))))

pub fields-overflow_add-bt-then-up-2 : goal.fields-overflow_add-bt-then-up-2
fields-overflow_add-bt-then-up-2 t c = omega (arith, over_b_fits c.loop-at.invariant (peeked c.next_name-x.ensures c.next_name-y.ensures) c.if-y-x.true _ c.skip-then-up-2.ensures)

pub fields-overflow_add-bt-then-up-2-2 : goal.fields-overflow_add-bt-then-up-2-2
fields-overflow_add-bt-then-up-2-2 t c = omega (arith, over_b_fits c.loop-at.invariant (peeked c.next_name-x.ensures c.next_name-y.ensures) c.if-y-x.true _ c.skip-then-up-2.ensures)

pub fields-loop-at-preserved-then-up-2 : goal.fields-loop-at-preserved-then-up-2
fields-loop-at-preserved-then-up-2 t c = over_b c.loop-at.invariant (peeked c.next_name-x.ensures c.next_name-y.ensures) c.if-y-x.true _ c.skip-then-up-2.ensures (ap toward c.if-up-2.true)

pub fields-entry-e-requires-then-y-x : goal.fields-entry-e-requires-then-y-x
fields-entry-e-requires-then-y-x t c =
    let pk = peeked c.next_name-x.ensures c.next_name-y.ensures in
    (omega (arith, c.decreases), (alone_ready _ _ _ _ _ (b_ready c.loop-at.invariant pk c.if-y-x.true) (reading_ends c.args.reading) (ap toward c.if-up-2.false), refl))

pub fields-overflow_add-bt-then-y-x : goal.fields-overflow_add-bt-then-y-x
fields-overflow_add-bt-then-y-x t c =
    let pk = peeked c.next_name-x.ensures c.next_name-y.ensures in
    let g = alone_down _ _ _ _ _ (b_ready c.loop-at.invariant pk c.if-y-x.true) (reading_ends c.args.reading) (ap toward c.if-up-2.false) _ _ _ _ _ c.entry-e-then-y-x.ensures in
    omega (arith, c.loop-at.invariant.out_len, b_ends c.loop-at.invariant pk c.if-y-x.true _ _ _ _ _ g.0 g.1)

pub fields-overflow_add-to-then-y-x : goal.fields-overflow_add-to-then-y-x
fields-overflow_add-to-then-y-x t c =
    let pk = peeked c.next_name-x.ensures c.next_name-y.ensures in
    let g = alone_down _ _ _ _ _ (b_ready c.loop-at.invariant pk c.if-y-x.true) (reading_ends c.args.reading) (ap toward c.if-up-2.false) _ _ _ _ _ c.entry-e-then-y-x.ensures in
    omega (arith, c.loop-at.invariant.out_len, b_ends c.loop-at.invariant pk c.if-y-x.true _ _ _ _ _ g.0 g.1)

pub fields-overflow_add-k-then-y-x : goal.fields-overflow_add-k-then-y-x
fields-overflow_add-k-then-y-x t c =
    let pk = peeked c.next_name-x.ensures c.next_name-y.ensures in
    let g = alone_down _ _ _ _ _ (b_ready c.loop-at.invariant pk c.if-y-x.true) (reading_ends c.args.reading) (ap toward c.if-up-2.false) _ _ _ _ _ c.entry-e-then-y-x.ensures in
    omega (arith, c.loop-at.invariant.out_len, b_ends c.loop-at.invariant pk c.if-y-x.true _ _ _ _ _ g.0 g.1)

pub fields-loop-at-preserved-then-y-x : goal.fields-loop-at-preserved-then-y-x
fields-loop-at-preserved-then-y-x t c =
    let pk = peeked c.next_name-x.ensures c.next_name-y.ensures in
    let g = alone_down _ _ _ _ _ (b_ready c.loop-at.invariant pk c.if-y-x.true) (reading_ends c.args.reading) (ap toward c.if-up-2.false) _ _ _ _ _ c.entry-e-then-y-x.ensures in
    b_next c.loop-at.invariant pk c.if-y-x.true _ _ _ _ _ g.0 g.1 c.entry-e-then-y-x.auto.out

-- no name is left
pub fields-returns-then-x-eq-NAME_END : goal.fields-returns-then-x-eq-NAME_END
fields-returns-then-x-eq-NAME_END t c =
    let d = fields_done c.loop-at.invariant (peeked c.next_name-x.ensures c.next_name-y.ensures)
    (at_end_lem c.loop-at.i c.args.n c.next_name-x.result c.next_name-x.ensures.upper_bound.1 c.if-x-eq-NAME_END.true)
    (at_end_lem c.loop-at.j c.args.m c.next_name-y.result c.next_name-y.ensures.upper_bound.1
    (omega (arith, c.if-x-y.false, c.if-y-x.false, c.if-x-eq-NAME_END.true))) in
    record { combined = d.0; counted = d.1 }

-- a name of both
pub fields-entry-e-requires-in-loop-at : goal.fields-entry-e-requires-in-loop-at
fields-entry-e-requires-in-loop-at t c =
    let pk = peeked c.next_name-x.ensures c.next_name-y.ensures in (
      omega (arith, c.decreases),
      (
        both_ready c.loop-at.invariant pk c.if-x-y.false c.if-y-x.false c.if-x-eq-NAME_END.false,
        both_names c.loop-at.invariant pk c.if-x-y.false c.if-y-x.false c.if-x-eq-NAME_END.false,
      ),
    )

pub fields-overflow_add-at-in-loop-at : goal.fields-overflow_add-at-in-loop-at
fields-overflow_add-at-in-loop-at t c =
    omega (arith, both_ends c.loop-at.invariant (peeked c.next_name-x.ensures c.next_name-y.ensures) c.if-x-y.false c.if-y-x.false c.if-x-eq-NAME_END.false _ _ _ _ c.entry-e-in-loop-at.ensures)

pub fields-overflow_add-bt-in-loop-at : goal.fields-overflow_add-bt-in-loop-at
fields-overflow_add-bt-in-loop-at t c =
    omega (arith, both_ends c.loop-at.invariant (peeked c.next_name-x.ensures c.next_name-y.ensures) c.if-x-y.false c.if-y-x.false c.if-x-eq-NAME_END.false _ _ _ _ c.entry-e-in-loop-at.ensures)

pub fields-overflow_add-to-in-loop-at : goal.fields-overflow_add-to-in-loop-at
fields-overflow_add-to-in-loop-at t c =
    omega (
      arith,
      c.loop-at.invariant.out_len,
      both_ends c.loop-at.invariant (peeked c.next_name-x.ensures c.next_name-y.ensures) c.if-x-y.false c.if-y-x.false c.if-x-eq-NAME_END.false _ _ _ _ c.entry-e-in-loop-at.ensures,
    )

pub fields-overflow_add-k-in-loop-at : goal.fields-overflow_add-k-in-loop-at
fields-overflow_add-k-in-loop-at t c =
    omega (arith, both_ends c.loop-at.invariant (peeked c.next_name-x.ensures c.next_name-y.ensures) c.if-x-y.false c.if-y-x.false c.if-x-eq-NAME_END.false _ _ _ _ c.entry-e-in-loop-at.ensures)

pub fields-loop-at-preserved : goal.fields-loop-at-preserved
fields-loop-at-preserved t c =
    let pk = peeked c.next_name-x.ensures c.next_name-y.ensures in
    both_next c.loop-at.invariant pk c.if-x-y.false c.if-y-x.false c.if-x-eq-NAME_END.false _ _ _ _ c.entry-e-in-loop-at.ensures c.entry-e-in-loop-at.auto.out

-- ---- signature: the parameters and results of two functions
pub signature-loop-init : goal.signature-loop-init
signature-loop-init t c = sig_start _ _ _ _ _ _ _ c.requires

pub signature-write-e-requires : goal.signature-write-e-requires
signature-write-e-requires t c = (omega (arith, c.decreases), param_ready c.loop.invariant (turned c.args.up) c.loop-test.true)

pub signature-then-ends-requires : goal.signature-then-ends-requires
signature-then-ends-requires t c =
    let g = param_ends c.loop.invariant (turned c.args.up) c.loop-test.true _ _ _ _ c.write-e.ensures in
    (omega (arith, g), omega (arith, g), omega (arith, g))

pub signature-loop-preserved : goal.signature-loop-preserved
signature-loop-preserved t c = rw c.then-ends.ensures (param_next c.loop.invariant (turned c.args.up) c.loop-test.true _ _ _ _ c.write-e.ensures c.write-e.auto.out)

pub signature-write-requires : goal.signature-write-requires
signature-write-requires t c = (omega (arith, c.decreases), result_ready c.loop.invariant c.loop-test.false)

pub signature-then-requires : goal.signature-then-requires
signature-then-requires t c =
    let g = result_ends c.loop.invariant c.loop-test.false _ _ _ _ c.write.ensures in
    (omega (arith, g), omega (arith, g), omega (arith, g))

pub signature-returns : goal.signature-returns
signature-returns t c = rw c.then.ensures (sig_done c.loop.invariant c.loop-test.false _ _ _ _ c.write.ensures)

-- ---- write: any two types
pub write-bounds-a-0 : goal.write-bounds-a-0
write-bounds-a-0 t c = omega (arith, byte_a _ _ _ _ _ _ c.requires)

pub write-bounds-b-0 : goal.write-bounds-b-0
write-bounds-b-0 t c = omega (arith, byte_b _ _ _ _ _ _ c.requires)

pub write-bounds-out-0 : goal.write-bounds-out-0
write-bounds-out-0 t c = omega (arith, one _ _ _ _ _ _ c.requires)

pub write-returns-then-c-lt-LIST_TYPE : goal.write-returns-then-c-lt-LIST_TYPE
write-returns-then-c-lt-LIST_TYPE t c = leaf_done _ _ _ _ _ _ c.requires c.if-c-d.true (reading_ends c.args.reading) c.if-c-lt-LIST_TYPE.true _ refl

-- ---- write_other: any two types but two equal simple ones, which go through `same` too
pub write_other-bounds-a-0 : goal.write_other-bounds-a-0
write_other-bounds-a-0 t c = omega (arith, byte_a _ _ _ _ _ _ c.requires)

pub write_other-bounds-b-0 : goal.write_other-bounds-b-0
write_other-bounds-b-0 t c = omega (arith, byte_b _ _ _ _ _ _ c.requires)

pub write_other-same-e-requires : goal.write_other-same-e-requires
write_other-same-e-requires t c = (
  omega (arith, c.decreases),
  (left_ready _ _ _ _ _ _ c.requires (reading_ends c.args.reading) (c.if-c-least.true ∙ c.greatest-least.ensures ∙ least_code c.args.up), refl),
)

pub write_other-returns-then-c-least : goal.write_other-returns-then-c-least
write_other-returns-then-c-least t c =
    left_done _ _ _ _ _ _ c.requires (reading_ends c.args.reading) (c.if-c-least.true ∙ c.greatest-least.ensures ∙ least_code c.args.up) _ _ _ _ _ c.same-e.ensures

pub write_other-same-e-requires-then-d-least : goal.write_other-same-e-requires-then-d-least
write_other-same-e-requires-then-d-least t c = (
  omega (arith, c.decreases),
  (right_ready _ _ _ _ _ _ c.requires (reading_ends c.args.reading) (c.if-d-least.true ∙ c.greatest-least.ensures ∙ least_code c.args.up), refl),
)

pub write_other-returns-then-d-least : goal.write_other-returns-then-d-least
write_other-returns-then-d-least t c =
    right_done _ _ _ _ _ _ c.requires (reading_ends c.args.reading) (c.if-d-least.true ∙ c.greatest-least.ensures ∙ least_code c.args.up) _ _ _ _ _ c.same-e-then-d-least.ensures

pub write_other-bounds-out-0 : goal.write_other-bounds-out-0
write_other-bounds-out-0 t c = omega (arith, one _ _ _ _ _ _ c.requires)

pub write_other-returns : goal.write_other-returns
write_other-returns t c =
    let least = sym (c.greatest-least.ensures ∙ least_code c.args.up) in
    other_done c.args.reading _ _ _ _ _ c.requires c.if-c-d.false (λ e. c.if-c-least.false (e ∙ least)) (λ e. c.if-d-least.false (e ∙ least)) c.nearest.result c.nearest.ensures _ refl _ _
    c.skip.ensures c.skip-2.ensures

-- ---- same: two types with the same command
pub same-bounds-a-0 : goal.same-bounds-a-0
same-bounds-a-0 t c = omega (arith, byte_a _ _ _ _ _ _ c.requires.ready)

pub same-bounds-out-0 : goal.same-bounds-out-0
same-bounds-out-0 t c = omega (arith, one _ _ _ _ _ _ c.requires.ready)

pub same-returns-then-c-lt-LIST_TYPE : goal.same-returns-then-c-lt-LIST_TYPE
same-returns-then-c-lt-LIST_TYPE t c = leaf_done _ _ _ _ _ _ c.requires.ready c.requires.a_value (reading_ends c.args.reading) c.if-c-lt-LIST_TYPE.true _ refl

-- a list or a range
pub same-bounds-out-0-then-c-lt-CONTEXT_TYPE : goal.same-bounds-out-0-then-c-lt-CONTEXT_TYPE
same-bounds-out-0-then-c-lt-CONTEXT_TYPE t c = omega (arith, one _ _ _ _ _ _ c.requires.ready)

pub same-slice_bounds-write-count-then-c-lt-CONTEXT_TYPE-2 : goal.same-slice_bounds-write-count-then-c-lt-CONTEXT_TYPE-2
same-slice_bounds-write-count-then-c-lt-CONTEXT_TYPE-2 t c = simp length-set (omega (arith, one _ _ _ _ _ _ c.requires.ready))

pub same-slice_bounds-write-start-then-c-lt-CONTEXT_TYPE-2 : goal.same-slice_bounds-write-start-then-c-lt-CONTEXT_TYPE-2
same-slice_bounds-write-start-then-c-lt-CONTEXT_TYPE-2 t c = simp length-set (omega (arith, one _ _ _ _ _ _ c.requires.ready))

pub same-overflow_sub-left : goal.same-overflow_sub-left
same-overflow_sub-left t c = omega (arith, level_a _ _ _ _ _ _ c.requires.ready)

pub same-write-requires : goal.same-write-requires
same-write-requires t c = (
  omega (arith, c.decreases, level_a _ _ _ _ _ _ c.requires.ready),
  inner_ready (wrapped _ _ _ _ _ _ c.requires.ready c.requires.a_value c.if-c-lt-LIST_TYPE.false c.if-c-lt-CONTEXT_TYPE.true).inner _ (length-set c.args.out.now 0 (get_or c.args.a.now 0 0)),
)

pub same-behind-requires : goal.same-behind-requires
same-behind-requires t c =
    let g = inner_ends (wrapped _ _ _ _ _ _ c.requires.ready c.requires.a_value c.if-c-lt-LIST_TYPE.false c.if-c-lt-CONTEXT_TYPE.true).inner _ _ _ _ _ c.write.ensures in
    (omega (arith, g), omega (arith, g), omega (arith, g))

pub same-returns-then-c-lt-CONTEXT_TYPE : goal.same-returns-then-c-lt-CONTEXT_TYPE
same-returns-then-c-lt-CONTEXT_TYPE t c =
    rw c.behind.ensures
    (wrapped_done (wrapped _ _ _ _ _ _ c.requires.ready c.requires.a_value c.if-c-lt-LIST_TYPE.false c.if-c-lt-CONTEXT_TYPE.true) c.args.out.now _ _ _ _ refl c.write.ensures)

-- a context
pub same-word_at-n-requires : goal.same-word_at-n-requires
same-word_at-n-requires t c = omega (arith, ctx_three _ _ _ _ _ _ c.requires.ready c.requires.a_value c.if-c-eq-CONTEXT_TYPE.true)

pub same-word_at-m-requires : goal.same-word_at-m-requires
same-word_at-m-requires t c = omega (arith, ctx_three _ _ _ _ _ _ c.requires.ready c.requires.a_value c.if-c-eq-CONTEXT_TYPE.true)

pub same-slice_bounds-fields-count : goal.same-slice_bounds-fields-count
same-slice_bounds-fields-count t c = omega (arith, ctx_three _ _ _ _ _ _ c.requires.ready c.requires.a_value c.if-c-eq-CONTEXT_TYPE.true)

pub same-slice_bounds-fields-start : goal.same-slice_bounds-fields-start
same-slice_bounds-fields-start t c = omega (arith, ctx_three _ _ _ _ _ _ c.requires.ready c.requires.a_value c.if-c-eq-CONTEXT_TYPE.true)

pub same-slice_bounds-fields-count-then-c-eq-CONTEXT_TYPE : goal.same-slice_bounds-fields-count-then-c-eq-CONTEXT_TYPE
same-slice_bounds-fields-count-then-c-eq-CONTEXT_TYPE t c = omega (arith, ctx_three _ _ _ _ _ _ c.requires.ready c.requires.a_value c.if-c-eq-CONTEXT_TYPE.true)

pub same-slice_bounds-fields-start-then-c-eq-CONTEXT_TYPE : goal.same-slice_bounds-fields-start-then-c-eq-CONTEXT_TYPE
same-slice_bounds-fields-start-then-c-eq-CONTEXT_TYPE t c = omega (arith, ctx_three _ _ _ _ _ _ c.requires.ready c.requires.a_value c.if-c-eq-CONTEXT_TYPE.true)

pub same-slice_bounds-fields-count-then-c-eq-CONTEXT_TYPE-2 : goal.same-slice_bounds-fields-count-then-c-eq-CONTEXT_TYPE-2
same-slice_bounds-fields-count-then-c-eq-CONTEXT_TYPE-2 t c =
    omega (arith, (in_contexts _ _ _ _ _ _ c.requires.ready c.requires.a_value c.if-c-eq-CONTEXT_TYPE.true _ _ c.word_at-n.ensures.0 c.word_at-m.ensures.0).room)

pub same-slice_bounds-fields-start-then-c-eq-CONTEXT_TYPE-2 : goal.same-slice_bounds-fields-start-then-c-eq-CONTEXT_TYPE-2
same-slice_bounds-fields-start-then-c-eq-CONTEXT_TYPE-2 t c =
    omega (arith, (in_contexts _ _ _ _ _ _ c.requires.ready c.requires.a_value c.if-c-eq-CONTEXT_TYPE.true _ _ c.word_at-n.ensures.0 c.word_at-m.ensures.0).room)

pub same-overflow_sub-left-then-c-eq-CONTEXT_TYPE : goal.same-overflow_sub-left-then-c-eq-CONTEXT_TYPE
same-overflow_sub-left-then-c-eq-CONTEXT_TYPE t c = omega (arith, level_a _ _ _ _ _ _ c.requires.ready)

pub same-fields-e-requires : goal.same-fields-e-requires
same-fields-e-requires t c = (
  omega (arith, c.decreases, level_a _ _ _ _ _ _ c.requires.ready),
  inner_ready (in_contexts _ _ _ _ _ _ c.requires.ready c.requires.a_value c.if-c-eq-CONTEXT_TYPE.true _ _ c.word_at-n.ensures.0 c.word_at-m.ensures.0) c.args.out.now refl,
)

pub same-bounds-out-0-then-c-eq-CONTEXT_TYPE : goal.same-bounds-out-0-then-c-eq-CONTEXT_TYPE
same-bounds-out-0-then-c-eq-CONTEXT_TYPE t c =
    let I = in_contexts _ _ _ _ _ _ c.requires.ready c.requires.a_value c.if-c-eq-CONTEXT_TYPE.true _ _ c.word_at-n.ensures.0 c.word_at-m.ensures.0 in
    omega (arith, I.room, back_length 3 c.args.out.now c.fields-e.new.out c.fields-e.auto.out)

pub same-bounds-out-1 : goal.same-bounds-out-1
same-bounds-out-1 t c =
    let I = in_contexts _ _ _ _ _ _ c.requires.ready c.requires.a_value c.if-c-eq-CONTEXT_TYPE.true _ _ c.word_at-n.ensures.0 c.word_at-m.ensures.0 in
    simp length-set (omega (arith, I.room, back_length 3 c.args.out.now c.fields-e.new.out c.fields-e.auto.out))

pub same-high-requires : goal.same-high-requires
same-high-requires t c =
    ctx_count _ _ _ _ _ _ c.requires.ready c.requires.a_value c.if-c-eq-CONTEXT_TYPE.true _ _ c.word_at-n.ensures.0 c.word_at-m.ensures.0 c.args.out.now _ _ _ _ _ refl c.fields-e.ensures.combined
    c.fields-e.ensures.counted

pub same-bounds-out-2 : goal.same-bounds-out-2
same-bounds-out-2 t c =
    let I = in_contexts _ _ _ _ _ _ c.requires.ready c.requires.a_value c.if-c-eq-CONTEXT_TYPE.true _ _ c.word_at-n.ensures.0 c.word_at-m.ensures.0 in
    simp length-set (omega (arith, I.room, back_length 3 c.args.out.now c.fields-e.new.out c.fields-e.auto.out))

pub same-behind-requires-then-c-eq-CONTEXT_TYPE : goal.same-behind-requires-then-c-eq-CONTEXT_TYPE
same-behind-requires-then-c-eq-CONTEXT_TYPE t c =
    let I = in_contexts _ _ _ _ _ _ c.requires.ready c.requires.a_value c.if-c-eq-CONTEXT_TYPE.true _ _ c.word_at-n.ensures.0 c.word_at-m.ensures.0 in
    let g = inner_ends I _ _ _ _ _ c.fields-e.ensures.combined in
    (omega (arith, g), omega (arith, g), omega (arith, g))

pub same-returns-then-c-eq-CONTEXT_TYPE : goal.same-returns-then-c-eq-CONTEXT_TYPE
same-returns-then-c-eq-CONTEXT_TYPE t c =
    rw c.behind-then-c-eq-CONTEXT_TYPE.ensures
    (ctx_done _ _ _ _ _ _ c.requires.ready c.requires.a_value c.if-c-eq-CONTEXT_TYPE.true _ _ c.word_at-n.ensures.0 c.word_at-m.ensures.0 c.args.out.now _ _ _ _ _ refl c.fields-e.ensures.combined
    c.fields-e.ensures.counted _ _ c.low.ensures c.high.ensures)

-- two functions
pub same-bounds-a-1 : goal.same-bounds-a-1
same-bounds-a-1 t c = omega (arith, (in_functions _ _ _ _ _ _ c.requires.ready c.requires.a_value c.if-c-lt-CONTEXT_TYPE.false c.if-c-eq-CONTEXT_TYPE.false).two_a)

pub same-bounds-b-1 : goal.same-bounds-b-1
same-bounds-b-1 t c = omega (arith, (in_functions _ _ _ _ _ _ c.requires.ready c.requires.a_value c.if-c-lt-CONTEXT_TYPE.false c.if-c-eq-CONTEXT_TYPE.false).two_b)

pub same-bounds-out-0-then-n-m : goal.same-bounds-out-0-then-n-m
same-bounds-out-0-then-n-m t c = omega (arith, one _ _ _ _ _ _ c.requires.ready)

pub same-returns-then-n-m : goal.same-returns-then-n-m
same-returns-then-n-m t c =
    fun_other (in_functions _ _ _ _ _ _ c.requires.ready c.requires.a_value c.if-c-lt-CONTEXT_TYPE.false c.if-c-eq-CONTEXT_TYPE.false) c.if-n-m.true c.greatest.result c.greatest.ensures _ refl _ _
    c.skip.ensures c.skip-then-n-m.ensures

pub same-bounds-out-0-2 : goal.same-bounds-out-0-2
same-bounds-out-0-2 t c = omega (arith, one _ _ _ _ _ _ c.requires.ready)

pub same-bounds-out-1-2 : goal.same-bounds-out-1-2
same-bounds-out-1-2 t c =
    simp length-set
    (omega (arith, fun_head (in_functions _ _ _ _ _ _ c.requires.ready c.requires.a_value c.if-c-lt-CONTEXT_TYPE.false c.if-c-eq-CONTEXT_TYPE.false) c.if-n-m.false))

pub same-bounds-out-2-then-not-is_strict : goal.same-bounds-out-2-then-not-is_strict
same-bounds-out-2-then-not-is_strict t c =
    let plain = ignored (order_of c.args.reading) (get_or c.args.a.now 1 0) c.if-n-eq0.true (sym c.is_strict.ensures ∙ c.if-not-is_strict.true) in
    let room : 3 ≤ length c.args.out.now
    = fun_none_room (in_functions _ _ _ _ _ _ c.requires.ready c.requires.a_value c.if-c-lt-CONTEXT_TYPE.false c.if-c-eq-CONTEXT_TYPE.false) c.if-n-m.false plain in
    simp length-set (omega (arith, room))

pub same-returns-then-not-is_strict : goal.same-returns-then-not-is_strict
same-returns-then-not-is_strict t c =
    fun_none (in_functions _ _ _ _ _ _ c.requires.ready c.requires.a_value c.if-c-lt-CONTEXT_TYPE.false c.if-c-eq-CONTEXT_TYPE.false) c.if-n-m.false
    (ignored (order_of c.args.reading) (get_or c.args.a.now 1 0) c.if-n-eq0.true (sym c.is_strict.ensures ∙ c.if-not-is_strict.true)) _ refl _ _ c.skip-then-not-is_strict.ensures
    c.skip-then-not-is_strict-2.ensures

-- strict, or with parameters: the results are taken together
taken : (t : ℕ) (c : same-Joined-else-n-eq0 t) → ignores_at (order_of c.args.reading) (get_or c.args.a.now 1 0) ≡ false
taken t c =
    elim c.else-n-eq0.branch [
      | same-else-n-eq0-via-then-n-eq0+else-not-is_strict w ↦
          compared_strict (order_of c.args.reading) (get_or c.args.a.now 1 0) (sym w.is_strict.ensures ∙ w.if-not-is_strict.false)
      | same-else-n-eq0-via-else-n-eq0 w ↦ compared_some (order_of c.args.reading) (get_or c.args.a.now 1 0) (λ e. w.if-n-eq0.false (sym e))
    ]

pub same-slice_bounds-signature-count : goal.same-slice_bounds-signature-count
same-slice_bounds-signature-count t c =
    omega (arith, (in_functions _ _ _ _ _ _ c.requires.ready c.requires.a_value c.if-c-lt-CONTEXT_TYPE.false c.if-c-eq-CONTEXT_TYPE.false).two_a)

pub same-slice_bounds-signature-start : goal.same-slice_bounds-signature-start
same-slice_bounds-signature-start t c =
    omega (arith, (in_functions _ _ _ _ _ _ c.requires.ready c.requires.a_value c.if-c-lt-CONTEXT_TYPE.false c.if-c-eq-CONTEXT_TYPE.false).two_a)

pub same-slice_bounds-signature-count-2 : goal.same-slice_bounds-signature-count-2
same-slice_bounds-signature-count-2 t c =
    omega (arith, (in_functions _ _ _ _ _ _ c.requires.ready c.requires.a_value c.if-c-lt-CONTEXT_TYPE.false c.if-c-eq-CONTEXT_TYPE.false).two_b)

pub same-slice_bounds-signature-start-2 : goal.same-slice_bounds-signature-start-2
same-slice_bounds-signature-start-2 t c =
    omega (arith, (in_functions _ _ _ _ _ _ c.requires.ready c.requires.a_value c.if-c-lt-CONTEXT_TYPE.false c.if-c-eq-CONTEXT_TYPE.false).two_b)

pub same-slice_bounds-signature-count-3 : goal.same-slice_bounds-signature-count-3
same-slice_bounds-signature-count-3 t c =
    simp length-set
    (omega (arith, fun_head (in_functions _ _ _ _ _ _ c.requires.ready c.requires.a_value c.if-c-lt-CONTEXT_TYPE.false c.if-c-eq-CONTEXT_TYPE.false) c.if-n-m.false))

pub same-slice_bounds-signature-start-3 : goal.same-slice_bounds-signature-start-3
same-slice_bounds-signature-start-3 t c =
    simp length-set
    (omega (arith, fun_head (in_functions _ _ _ _ _ _ c.requires.ready c.requires.a_value c.if-c-lt-CONTEXT_TYPE.false c.if-c-eq-CONTEXT_TYPE.false) c.if-n-m.false))

pub same-overflow_sub-left-2 : goal.same-overflow_sub-left-2
same-overflow_sub-left-2 t c = omega (arith, level_a _ _ _ _ _ _ c.requires.ready)

pub same-signature-requires : goal.same-signature-requires
same-signature-requires t c =
    let F = in_functions _ _ _ _ _ _ c.requires.ready c.requires.a_value c.if-c-lt-CONTEXT_TYPE.false c.if-c-eq-CONTEXT_TYPE.false in (
      omega (arith, c.decreases, level_a _ _ _ _ _ _ c.requires.ready),
      inner_ready (in_sigs F c.if-n-m.false (taken t (goal.at.same-signature-requires t c).Joined-else-n-eq0) _ c.from.ensures) _
          (length-set (set c.args.out.now 0 45) 1 (get_or c.args.a.now 1 0) ∙ length-set c.args.out.now 0 45),
    )

pub same-behind-requires-2 : goal.same-behind-requires-2
same-behind-requires-2 t c =
    let F = in_functions _ _ _ _ _ _ c.requires.ready c.requires.a_value c.if-c-lt-CONTEXT_TYPE.false c.if-c-eq-CONTEXT_TYPE.false in
    let g = inner_ends (in_sigs F c.if-n-m.false (taken t (goal.at.same-behind-requires-2 t c).Joined-else-n-eq0) _ c.from.ensures) _ _ _ _ _ c.signature.ensures in
    (omega (arith, g), omega (arith, g), omega (arith, g))

pub same-returns : goal.same-returns
same-returns t c =
    let F = in_functions _ _ _ _ _ _ c.requires.ready c.requires.a_value c.if-c-lt-CONTEXT_TYPE.false c.if-c-eq-CONTEXT_TYPE.false in
    rw c.behind-2.ensures (fun_done F c.if-n-m.false (taken t (goal.at.same-returns t c).Joined-else-n-eq0) _ c.from.ensures c.args.out.now _ _ _ _ refl c.signature.ensures)
