-- The cycle `types::compare::conforms`, `conform_inner`, `conform_sig`, `conform_fields` meets its contracts; the measure is twice the level that is left, one more for the other three.
-- One template for all: the loops keep that the verdict on the whole is that on what is left, behind what was passed (`NamesGo`, `SigGo`); every 0 is a law that the test fails
-- or that one of the two is not read.
-- Assumes nothing.
use Prim.Native.Nat.{ℕ, ◌<◌, ◌+◌, ◌≤◌}
use borrow.Author.Rules.{rules}
use native.Mathlib.Omega.{arith}
use mathlib.Core.Path.{◌≡◌, refl, sym, ◌∙◌}
use mathlib.Core.Bool.{false}
use mathlib.Core.Logic.{inl, inr}
use lib.ListN.{length}
use Rattle.form.specs.Limits.{name_width}
use Rattle.form.proofs.WalkAnswers.{part_room}
use Rattle.order.specs.Order.{order_of}
use Rattle.order.proofs.Ends.{reading_ends}
use Rattle.order.specs.Types.{le}
use Rattle.types.specs.Conform.{ignores_at, any_two}
use Rattle.types.proofs.Pairs.{pair, pair_in, sized_in}
use Rattle.types.proofs.SortedNames.{readable_type, fields_run, names_start, cut_a, cut_b, falls_a, names_left, names_done}
use Rattle.types.proofs.SortedNames.{names_missing, names_unread, names_skip, b_more, names_apart, names_common}
use Rattle.types.proofs.EntryTests.{fields_tests}
use Rattle.types.proofs.TypeConformance.{simple_pair, behind_pair, sized_part, unsized_part, no_level, no_a, no_b, no_command_lem, beyond}
use Rattle.types.proofs.TypeConformance.{no_context, no_function, no_other, no_counts, met_table, met_null, met_any, met_simple, met_list, met_range}
use Rattle.types.proofs.TypeConformance.{met_context, met_function, behind_yes, behind_no, passed_over, sig_start, sig_turn}
use Rattle.types.proofs.TypeConformance.{sig_apart, sig_done, sig_last_apart, compared_strict, compared_some}
use Rattle.types.proofs.compare.+conform_fields_conform_inner_conform_sig_conforms.Goals as goal
use Rattle.types.proofs.compare.+conform_fields_conform_inner_conform_sig_conforms.Goals.{conform_fields-Joined-j-m, conform_fields-then-j-m+else-b-bt-lt-NAME_WIDTH}
use Rattle.types.proofs.compare.+conform_fields_conform_inner_conform_sig_conforms.Goals.{conform_fields-else-j-m, conform_sig-Joined-count-eq0}
use Rattle.types.proofs.compare.+conform_fields_conform_inner_conform_sig_conforms.Goals.{conform_sig-then-count-eq0+else-not-is_strict, conform_sig-else-count-eq0}

there : (t : ℕ) (c : conform_fields-Joined-j-m t) → c.loop.j < c.args.m → c.loop.bt + name_width ≤ length c.args.b.now
there t c h =
    elim c.if-j-m.branch [
      | conform_fields-then-j-m+else-b-bt-lt-NAME_WIDTH w ↦ omega (arith, w.if-b-bt-lt-NAME_WIDTH.false, h)
      | conform_fields-else-j-m w ↦ absurd (omega (arith, w.if-j-m.false, h))
    ]

looked_at : (t : ℕ) (c : conform_sig-Joined-count-eq0 t) → ignores_at (order_of c.args.reading) c.args.count ≡ false
looked_at t c =
    elim c.if-count-eq0.branch [
      | conform_sig-then-count-eq0+else-not-is_strict w ↦
          compared_strict (order_of c.args.reading) c.args.count (sym w.is_strict.ensures ∙ w.if-not-is_strict.false)
      | conform_sig-else-count-eq0 w ↦ compared_some (order_of c.args.reading) c.args.count w.if-count-eq0.false
    ]

pub conform_fields-loop-init : goal.conform_fields-loop-init
conform_fields-loop-init t c =
    let args = c.args in
    names_start (fields_run args.left) (fields_tests (le (order_of args.reading))) args.left args.a.now
    args.n args.b.now args.m

pub conform_fields-overflow_sub-a : goal.conform_fields-overflow_sub-a
conform_fields-overflow_sub-a t c = omega (arith, c.loop.invariant)

pub conform_fields-returns-then-a-at-lt-NAME_WIDTH : goal.conform_fields-returns-then-a-at-lt-NAME_WIDTH
conform_fields-returns-then-a-at-lt-NAME_WIDTH t c = cut_a c.loop.invariant 3 _ c.loop-test.true c.if-a-at-lt-NAME_WIDTH.true

pub conform_fields-returns-then-name-least : goal.conform_fields-returns-then-name-least
conform_fields-returns-then-name-least t c =
    falls_a c.loop.invariant 3 _
    c.loop-test.true c.name_at-name.result
    c.name_at-name.ensures.0 c.if-name-least.true

pub conform_fields-overflow_sub-b : goal.conform_fields-overflow_sub-b
conform_fields-overflow_sub-b t c = omega (arith, c.loop.invariant)

pub conform_fields-returns-then-b-bt-lt-NAME_WIDTH : goal.conform_fields-returns-then-b-bt-lt-NAME_WIDTH
conform_fields-returns-then-b-bt-lt-NAME_WIDTH t c =
    cut_b c.loop.invariant 3 _ c.if-j-m.true
    c.if-b-bt-lt-NAME_WIDTH.true

pub conform_fields-next_name-next-requires : goal.conform_fields-next_name-next-requires
conform_fields-next_name-next-requires t c = there t (goal.at.conform_fields-next_name-next-requires t c).Joined-j-m

pub conform_fields-returns-then-next-name : goal.conform_fields-returns-then-next-name
conform_fields-returns-then-next-name t c =
    names_missing c.loop.invariant 3 _ c.loop-test.true
    (omega (arith, c.loop.invariant, c.if-a-at-lt-NAME_WIDTH.false)) c.name_at-name.result
    c.next_name-next.result c.name_at-name.ensures.0 c.if-name-least.false
    c.name_at-name.ensures.1 c.next_name-next.ensures.value c.if-next-name.true

pub conform_fields-returns-then-k-eq0 : goal.conform_fields-returns-then-k-eq0
conform_fields-returns-then-k-eq0 t c =
    names_unread c.loop.invariant 3 _ c.loop-test.true
    (omega (arith, c.loop.invariant, c.if-a-at-lt-NAME_WIDTH.false)) c.name_at-name.result c.next_name-next.result
    c.name_at-name.ensures.0 c.if-name-least.false c.name_at-name.ensures.1
    c.next_name-next.ensures.value
    (unsized_part c.args.left c.args.a.now
    (c.loop.at + name_width) c.skip-k.result c.skip-k.ensures c.if-k-eq0.true)

pub conform_fields-overflow_add-at : goal.conform_fields-overflow_add-at
conform_fields-overflow_add-at t c =
    omega (
      arith,
      let args = c.args in
          sized_in (readable_type args.left) args.a.now (c.loop.at + name_width)
          c.skip-k.result (omega (arith, c.loop.invariant, c.if-a-at-lt-NAME_WIDTH.false))
          (sized_part args.left args.a.now (c.loop.at + name_width) c.skip-k.result
          c.skip-k.ensures c.if-k-eq0.false),
    )

pub conform_fields-loop-preserved-then-name-next : goal.conform_fields-loop-preserved-then-name-next
conform_fields-loop-preserved-then-name-next t c =
    names_skip c.loop.invariant 3 0 c.loop-test.true
    (omega (arith, c.loop.invariant, c.if-a-at-lt-NAME_WIDTH.false)) c.name_at-name.result c.next_name-next.result
    c.name_at-name.ensures.0 c.if-name-least.false c.name_at-name.ensures.1
    c.next_name-next.ensures.value c.if-name-next.true c.skip-k.result
    (sized_part c.args.left c.args.a.now
    (c.loop.at + name_width) c.skip-k.result c.skip-k.ensures c.if-k-eq0.false)

pub conform_fields-overflow_add-q : goal.conform_fields-overflow_add-q
conform_fields-overflow_add-q t c =
    omega (
      arith,
      (there t (goal.at.conform_fields-overflow_add-q t c).Joined-j-m
          (b_more c.loop.invariant 3 0 c.loop-test.true
          (omega (arith, c.loop.invariant, c.if-a-at-lt-NAME_WIDTH.false)) c.name_at-name.result
          c.next_name-next.result c.name_at-name.ensures.0 c.if-name-least.false
          c.name_at-name.ensures.1 c.next_name-next.ensures.value c.if-name-next.false c.if-next-name.false)),
    )

pub conform_fields-overflow_add-j : goal.conform_fields-overflow_add-j
conform_fields-overflow_add-j t c =
    omega (
      arith,
      (b_more c.loop.invariant 3 0 c.loop-test.true
          (omega (arith, c.loop.invariant, c.if-a-at-lt-NAME_WIDTH.false)) c.name_at-name.result
          c.next_name-next.result c.name_at-name.ensures.0 c.if-name-least.false
          c.name_at-name.ensures.1 c.next_name-next.ensures.value c.if-name-next.false c.if-next-name.false),
    )

pub conform_fields-same_simple-requires : goal.conform_fields-same_simple-requires
conform_fields-same_simple-requires t c =
    let loop-inv = c.loop.invariant in (
      omega (arith, loop-inv, c.if-a-at-lt-NAME_WIDTH.false),
      (there t (goal.at.conform_fields-same_simple-requires t c).Joined-j-m
          (b_more loop-inv 3 0 c.loop-test.true
          (omega (arith, loop-inv, c.if-a-at-lt-NAME_WIDTH.false)) c.name_at-name.result c.next_name-next.result
          c.name_at-name.ensures.0 c.if-name-least.false c.name_at-name.ensures.1
          c.next_name-next.ensures.value c.if-name-next.false c.if-next-name.false)),
    )

pub conform_fields-overflow_add-at-in-Some : goal.conform_fields-overflow_add-at-in-Some
conform_fields-overflow_add-at-in-Some t c =
    omega (
      arith,
      let args = c.args in
          let loop = c.loop in
          pair_in (readable_type args.left) (readable_type args.left) (le (order_of args.reading)) args.a.now
          (loop.at + name_width) args.b.now (loop.bt + name_width) c.in-Some.k
          c.in-Some.k (omega (arith, loop.invariant, c.if-a-at-lt-NAME_WIDTH.false))
          (there t (goal.at.conform_fields-overflow_add-at-in-Some t c).Joined-j-m
          (b_more loop.invariant 3 0 c.loop-test.true (omega (arith, loop.invariant, c.if-a-at-lt-NAME_WIDTH.false))
          c.name_at-name.result c.next_name-next.result c.name_at-name.ensures.0 c.if-name-least.false
          c.name_at-name.ensures.1 c.next_name-next.ensures.value c.if-name-next.false
          c.if-next-name.false))
          (simple_pair (reading_ends args.reading) args.left args.a.now (loop.at + name_width) args.b.now (loop.bt + name_width)
          c.in-Some.k c.in-Some.ensures.0 (λ z. omega (arith, z, c.in-Some.ensures.1))),
    )

pub conform_fields-overflow_add-bt : goal.conform_fields-overflow_add-bt
conform_fields-overflow_add-bt t c =
    omega (
      arith,
      let args = c.args in
          let loop = c.loop in
          pair_in (readable_type args.left) (readable_type args.left) (le (order_of args.reading)) args.a.now
          (loop.at + name_width) args.b.now (loop.bt + name_width) c.in-Some.k
          c.in-Some.k (omega (arith, loop.invariant, c.if-a-at-lt-NAME_WIDTH.false))
          (there t (goal.at.conform_fields-overflow_add-bt t c).Joined-j-m
          (b_more loop.invariant 3 0 c.loop-test.true (omega (arith, loop.invariant, c.if-a-at-lt-NAME_WIDTH.false))
          c.name_at-name.result c.next_name-next.result c.name_at-name.ensures.0 c.if-name-least.false
          c.name_at-name.ensures.1 c.next_name-next.ensures.value c.if-name-next.false
          c.if-next-name.false))
          (simple_pair (reading_ends args.reading) args.left args.a.now (loop.at + name_width) args.b.now (loop.bt + name_width)
          c.in-Some.k c.in-Some.ensures.0 (λ z. omega (arith, z, c.in-Some.ensures.1))),
    )

pub conform_fields-loop-preserved-in-Some : goal.conform_fields-loop-preserved-in-Some
conform_fields-loop-preserved-in-Some t c =
    let args = c.args in
    names_common c.loop.invariant 3 0 c.loop-test.true
    (omega (arith, c.loop.invariant, c.if-a-at-lt-NAME_WIDTH.false)) c.name_at-name.result c.next_name-next.result
    c.name_at-name.ensures.0 c.if-name-least.false c.name_at-name.ensures.1 c.next_name-next.ensures.value
    c.if-name-next.false c.if-next-name.false
    (there t (goal.at.conform_fields-loop-preserved-in-Some t c).Joined-j-m
    (b_more c.loop.invariant 3 0 c.loop-test.true
    (omega (arith, c.loop.invariant, c.if-a-at-lt-NAME_WIDTH.false)) c.name_at-name.result c.next_name-next.result
    c.name_at-name.ensures.0 c.if-name-least.false c.name_at-name.ensures.1 c.next_name-next.ensures.value
    c.if-name-next.false c.if-next-name.false))
    c.in-Some.k c.in-Some.k
    (simple_pair (reading_ends args.reading) args.left args.a.now (c.loop.at + name_width) args.b.now
    (c.loop.bt + name_width) c.in-Some.k c.in-Some.ensures.0 (λ z. omega (arith, z, c.in-Some.ensures.1)))

pub conform_fields-slice_bounds-conforms-count-in-loop : goal.conform_fields-slice_bounds-conforms-count-in-loop
conform_fields-slice_bounds-conforms-count-in-loop t c =
    omega (
      arith,
      (there t (goal.at.conform_fields-slice_bounds-conforms-count-in-loop t c).Joined-j-m
          (b_more c.loop.invariant 3 0 c.loop-test.true
          (omega (arith, c.loop.invariant, c.if-a-at-lt-NAME_WIDTH.false)) c.name_at-name.result
          c.next_name-next.result c.name_at-name.ensures.0 c.if-name-least.false
          c.name_at-name.ensures.1 c.next_name-next.ensures.value c.if-name-next.false c.if-next-name.false)),
    )

pub conform_fields-slice_bounds-conforms-start-in-loop : goal.conform_fields-slice_bounds-conforms-start-in-loop
conform_fields-slice_bounds-conforms-start-in-loop t c =
    omega (
      arith,
      (there t (goal.at.conform_fields-slice_bounds-conforms-start-in-loop t c).Joined-j-m
          (b_more c.loop.invariant 3 0 c.loop-test.true
          (omega (arith, c.loop.invariant, c.if-a-at-lt-NAME_WIDTH.false)) c.name_at-name.result
          c.next_name-next.result c.name_at-name.ensures.0 c.if-name-least.false
          c.name_at-name.ensures.1 c.next_name-next.ensures.value c.if-name-next.false c.if-next-name.false)),
    )

pub conform_fields-returns-then-x-eq0 : goal.conform_fields-returns-then-x-eq0
conform_fields-returns-then-x-eq0 t c =
    names_apart c.loop.invariant 3 _ c.loop-test.true
    (omega (arith, c.loop.invariant, c.if-a-at-lt-NAME_WIDTH.false))
    c.name_at-name.result c.next_name-next.result c.name_at-name.ensures.0 c.if-name-least.false
    c.name_at-name.ensures.1 c.next_name-next.ensures.value c.if-name-next.false c.if-next-name.false
    c.conforms-x.result c.conforms-x.new.other c.conforms-x.ensures
    c.if-x-eq0.true

pub conform_fields-overflow_add-at-in-loop : goal.conform_fields-overflow_add-at-in-loop
conform_fields-overflow_add-at-in-loop t c =
    omega (
      arith,
      let args = c.args in
          let loop = c.loop in
          let conforms = c.conforms-x in
          pair_in (readable_type args.left) (readable_type args.left) (le (order_of args.reading)) args.a.now
          (loop.at + name_width) args.b.now (loop.bt + name_width) conforms.result
          conforms.new.other (omega (arith, loop.invariant, c.if-a-at-lt-NAME_WIDTH.false))
          (there t (goal.at.conform_fields-overflow_add-at-in-loop t c).Joined-j-m
          (b_more loop.invariant 3 0 c.loop-test.true
          (omega (arith, loop.invariant, c.if-a-at-lt-NAME_WIDTH.false)) c.name_at-name.result c.next_name-next.result
          c.name_at-name.ensures.0 c.if-name-least.false c.name_at-name.ensures.1
          c.next_name-next.ensures.value c.if-name-next.false c.if-next-name.false))
          (pair (readable_type args.left) (readable_type args.left) (le (order_of args.reading)) args.a.now
          (loop.at + name_width) args.b.now (loop.bt + name_width) conforms.result
          conforms.new.other conforms.ensures c.if-x-eq0.false),
    )

pub conform_fields-overflow_add-bt-in-loop : goal.conform_fields-overflow_add-bt-in-loop
conform_fields-overflow_add-bt-in-loop t c =
    omega (
      arith,
      let args = c.args in
          let loop = c.loop in
          pair_in (readable_type args.left) (readable_type args.left) (le (order_of args.reading)) args.a.now
          (loop.at + name_width) args.b.now (loop.bt + name_width) c.conforms-x.result
          c.conforms-x.new.other (omega (arith, loop.invariant, c.if-a-at-lt-NAME_WIDTH.false))
          (there t (goal.at.conform_fields-overflow_add-bt-in-loop t c).Joined-j-m
          (b_more loop.invariant 3 0 c.loop-test.true
          (omega (arith, loop.invariant, c.if-a-at-lt-NAME_WIDTH.false)) c.name_at-name.result c.next_name-next.result
          c.name_at-name.ensures.0 c.if-name-least.false c.name_at-name.ensures.1
          c.next_name-next.ensures.value c.if-name-next.false c.if-next-name.false))
          (pair (readable_type args.left) (readable_type args.left) (le (order_of args.reading)) args.a.now
          (loop.at + name_width) args.b.now (loop.bt + name_width) c.conforms-x.result
          c.conforms-x.new.other c.conforms-x.ensures c.if-x-eq0.false),
    )

pub conform_fields-loop-preserved : goal.conform_fields-loop-preserved
conform_fields-loop-preserved t c =
    let args = c.args in
    names_common c.loop.invariant 3 0 c.loop-test.true
    (omega (arith, c.loop.invariant, c.if-a-at-lt-NAME_WIDTH.false)) c.name_at-name.result c.next_name-next.result
    c.name_at-name.ensures.0 c.if-name-least.false c.name_at-name.ensures.1
    c.next_name-next.ensures.value c.if-name-next.false c.if-next-name.false
    (there t (goal.at.conform_fields-loop-preserved t c).Joined-j-m
    (b_more c.loop.invariant 3 0 c.loop-test.true
    (omega (arith, c.loop.invariant, c.if-a-at-lt-NAME_WIDTH.false)) c.name_at-name.result c.next_name-next.result
    c.name_at-name.ensures.0 c.if-name-least.false c.name_at-name.ensures.1
    c.next_name-next.ensures.value c.if-name-next.false c.if-next-name.false))
    c.conforms-x.result c.conforms-x.new.other
    (pair (readable_type args.left) (readable_type args.left) (le (order_of args.reading)) args.a.now
    (c.loop.at + name_width) args.b.now (c.loop.bt + name_width) c.conforms-x.result
    c.conforms-x.new.other c.conforms-x.ensures c.if-x-eq0.false)

pub conform_fields-returns-then-j-m-2 : goal.conform_fields-returns-then-j-m-2
conform_fields-returns-then-j-m-2 t c = names_left c.loop.invariant 3 _ c.loop-test.false c.if-j-m-2.true

pub conform_fields-overflow_add-other : goal.conform_fields-overflow_add-other
conform_fields-overflow_add-other t c = omega (arith, c.loop.invariant, c.requires-raw)

pub conform_fields-overflow_add-result : goal.conform_fields-overflow_add-result
conform_fields-overflow_add-result t c = omega (arith, c.loop.invariant, c.requires-raw)

pub conform_fields-returns : goal.conform_fields-returns
conform_fields-returns t c =
    names_done c.loop.invariant 3 _ c.loop-test.false c.if-j-m-2.false _ refl
    refl

pub conform_inner-same_simple-requires : goal.conform_inner-same_simple-requires
conform_inner-same_simple-requires t c = (omega arith, omega arith)

pub conform_inner-overflow_add-other : goal.conform_inner-overflow_add-other
conform_inner-overflow_add-other t c =
    omega (
      arith,
      pair_in (readable_type c.args.left) (readable_type c.args.left) (le (order_of c.args.reading))
          c.args.a.now 0 c.args.b.now 0 c.in-Some.k
          c.in-Some.k (omega arith) (omega arith)
          (simple_pair (reading_ends c.args.reading) c.args.left c.args.a.now 0 c.args.b.now 0
          c.in-Some.k c.in-Some.ensures.0 (λ z. omega (arith, z, c.in-Some.ensures.1))),
      c.requires-raw,
    )

pub conform_inner-overflow_add-result : goal.conform_inner-overflow_add-result
conform_inner-overflow_add-result t c =
    omega (
      arith,
      pair_in (readable_type c.args.left) (readable_type c.args.left) (le (order_of c.args.reading))
          c.args.a.now 0 c.args.b.now 0 c.in-Some.k
          c.in-Some.k (omega arith) (omega arith)
          (simple_pair (reading_ends c.args.reading) c.args.left c.args.a.now 0 c.args.b.now 0
          c.in-Some.k c.in-Some.ensures.0 (λ z. omega (arith, z, c.in-Some.ensures.1))),
      c.requires-raw,
    )

pub conform_inner-returns-in-Some : goal.conform_inner-returns-in-Some
conform_inner-returns-in-Some t c =
    let args = c.args in
    behind_pair (le (order_of args.reading)) args.left args.a.now args.b.now 1 c.in-Some.k
    c.in-Some.k
    (simple_pair (reading_ends args.reading) args.left args.a.now 0 args.b.now 0 c.in-Some.k
    c.in-Some.ensures.0 (λ z. omega (arith, z, c.in-Some.ensures.1)))
    _ _ refl refl

pub conform_inner-returns-then-x-eq0 : goal.conform_inner-returns-then-x-eq0
conform_inner-returns-then-x-eq0 t c =
    let args = c.args in
    behind_no (le (order_of args.reading)) args.left args.a.now args.b.now 1 c.conforms-x.result
    c.conforms-x.new.other c.conforms-x.ensures c.if-x-eq0.true _

pub conform_inner-overflow_add-other-2 : goal.conform_inner-overflow_add-other-2
conform_inner-overflow_add-other-2 t c =
    omega (
      arith,
      let readable-type1 = readable_type c.args.left in
          pair_in readable-type1 readable-type1 (le (order_of c.args.reading)) c.args.a.now 0 c.args.b.now 0
          c.conforms-x.result c.conforms-x.new.other (omega arith) (omega arith)
          (pair readable-type1 readable-type1 (le (order_of c.args.reading)) c.args.a.now 0 c.args.b.now 0
          c.conforms-x.result c.conforms-x.new.other c.conforms-x.ensures
          c.if-x-eq0.false),
      c.requires-raw,
    )

pub conform_inner-overflow_add-result-2 : goal.conform_inner-overflow_add-result-2
conform_inner-overflow_add-result-2 t c =
    omega (
      arith,
      let readable-type1 = readable_type c.args.left in
          pair_in readable-type1 readable-type1 (le (order_of c.args.reading)) c.args.a.now 0 c.args.b.now 0
          c.conforms-x.result c.conforms-x.new.other (omega arith) (omega arith)
          (pair readable-type1 readable-type1 (le (order_of c.args.reading)) c.args.a.now 0 c.args.b.now 0
          c.conforms-x.result c.conforms-x.new.other c.conforms-x.ensures
          c.if-x-eq0.false),
      c.requires-raw,
    )

pub conform_inner-returns : goal.conform_inner-returns
conform_inner-returns t c =
    let args = c.args in
    behind_yes (le (order_of args.reading)) args.left args.a.now args.b.now 1 c.conforms-x.result
    c.conforms-x.new.other c.conforms-x.ensures c.if-x-eq0.false _ _ refl refl

pub conform_sig-returns-then-x-eq0 : goal.conform_sig-returns-then-x-eq0
conform_sig-returns-then-x-eq0 t c =
    let args = c.args in
    passed_over (order_of args.reading) args.left args.a.now args.b.now args.count c.if-count-eq0.true
    (sym c.is_strict.ensures ∙ c.if-not-is_strict.true) 0 _
    (behind_no any_two args.left args.a.now args.b.now 2 c.skip_both-x.result
    c.skip_both-x.new.other c.skip_both-x.ensures c.if-x-eq0.true _)

pub conform_sig-overflow_add-other : goal.conform_sig-overflow_add-other
conform_sig-overflow_add-other t c =
    omega (
      arith,
      let readable-type1 = readable_type c.args.left in
          pair_in readable-type1 readable-type1 any_two c.args.a.now 0 c.args.b.now 0
          c.skip_both-x.result c.skip_both-x.new.other (omega arith) (omega arith)
          (pair readable-type1 readable-type1 any_two c.args.a.now 0 c.args.b.now 0
          c.skip_both-x.result c.skip_both-x.new.other c.skip_both-x.ensures
          c.if-x-eq0.false),
      c.requires-raw,
    )

pub conform_sig-overflow_add-result : goal.conform_sig-overflow_add-result
conform_sig-overflow_add-result t c =
    omega (
      arith,
      let readable-type1 = readable_type c.args.left in
          pair_in readable-type1 readable-type1 any_two c.args.a.now 0 c.args.b.now 0
          c.skip_both-x.result c.skip_both-x.new.other (omega arith) (omega arith)
          (pair readable-type1 readable-type1 any_two c.args.a.now 0 c.args.b.now 0
          c.skip_both-x.result c.skip_both-x.new.other c.skip_both-x.ensures
          c.if-x-eq0.false),
      c.requires-raw,
    )

pub conform_sig-returns-then-not-is_strict : goal.conform_sig-returns-then-not-is_strict
conform_sig-returns-then-not-is_strict t c =
    let args = c.args in
    passed_over (order_of args.reading) args.left args.a.now args.b.now args.count c.if-count-eq0.true
    (sym c.is_strict.ensures ∙ c.if-not-is_strict.true) _ _
    (behind_yes any_two args.left args.a.now args.b.now 2 c.skip_both-x.result
    c.skip_both-x.new.other c.skip_both-x.ensures c.if-x-eq0.false _ _ refl refl)

pub conform_sig-loop-init : goal.conform_sig-loop-init
conform_sig-loop-init t c =
    let args = c.args in
    sig_start (order_of args.reading) args.left (ignores_at (order_of args.reading) args.count) args.a.now args.b.now args.count

pub conform_sig-same_simple-requires : goal.conform_sig-same_simple-requires
conform_sig-same_simple-requires t c = (omega (arith, c.loop.invariant), omega (arith, c.loop.invariant))

pub conform_sig-overflow_add-bt : goal.conform_sig-overflow_add-bt
conform_sig-overflow_add-bt t c =
    omega (
      arith,
      let args = c.args in
          pair_in (readable_type args.left) (readable_type args.left) (le (order_of args.reading)) args.b.now
          c.loop.bt args.a.now c.loop.at c.in-Some.k
          c.in-Some.k c.loop.invariant.in_b c.loop.invariant.in_a
          (simple_pair (reading_ends args.reading) args.left args.b.now c.loop.bt args.a.now c.loop.at
          c.in-Some.k c.in-Some.ensures.0 (λ z. omega (arith, z, c.in-Some.ensures.1))),
    )

pub conform_sig-overflow_add-at : goal.conform_sig-overflow_add-at
conform_sig-overflow_add-at t c =
    omega (
      arith,
      let args = c.args in
          pair_in (readable_type args.left) (readable_type args.left) (le (order_of args.reading)) args.b.now
          c.loop.bt args.a.now c.loop.at c.in-Some.k
          c.in-Some.k c.loop.invariant.in_b c.loop.invariant.in_a
          (simple_pair (reading_ends args.reading) args.left args.b.now c.loop.bt args.a.now c.loop.at
          c.in-Some.k c.in-Some.ensures.0 (λ z. omega (arith, z, c.in-Some.ensures.1))),
    )

pub conform_sig-loop-preserved-in-Some : goal.conform_sig-loop-preserved-in-Some
conform_sig-loop-preserved-in-Some t c =
    let args = c.args in
    sig_turn c.loop.invariant c.loop-test.true c.in-Some.k
    c.in-Some.k
    (simple_pair (reading_ends args.reading) args.left args.b.now c.loop.bt args.a.now c.loop.at
    c.in-Some.k c.in-Some.ensures.0 (λ z. omega (arith, z, c.in-Some.ensures.1)))

pub conform_sig-slice_bounds-conforms-count : goal.conform_sig-slice_bounds-conforms-count
conform_sig-slice_bounds-conforms-count t c = omega (arith, c.loop.invariant)

pub conform_sig-slice_bounds-conforms-start : goal.conform_sig-slice_bounds-conforms-start
conform_sig-slice_bounds-conforms-start t c = omega (arith, c.loop.invariant)

pub conform_sig-slice_bounds-conforms-count-in-loop : goal.conform_sig-slice_bounds-conforms-count-in-loop
conform_sig-slice_bounds-conforms-count-in-loop t c = omega (arith, c.loop.invariant)

pub conform_sig-slice_bounds-conforms-start-in-loop : goal.conform_sig-slice_bounds-conforms-start-in-loop
conform_sig-slice_bounds-conforms-start-in-loop t c = omega (arith, c.loop.invariant)

pub conform_sig-returns-then-y-eq0 : goal.conform_sig-returns-then-y-eq0
conform_sig-returns-then-y-eq0 t c =
    sig_apart c.loop.invariant c.loop-test.true 2 _ c.conforms-y.result
    c.conforms-y.new.other c.conforms-y.ensures c.if-y-eq0.true

pub conform_sig-overflow_add-bt-in-loop : goal.conform_sig-overflow_add-bt-in-loop
conform_sig-overflow_add-bt-in-loop t c =
    omega (
      arith,
      let args = c.args in
          let conforms = c.conforms-y in
          pair_in (readable_type args.left) (readable_type args.left) (le (order_of args.reading)) args.b.now
          c.loop.bt args.a.now c.loop.at conforms.result conforms.new.other
          c.loop.invariant.in_b c.loop.invariant.in_a
          (pair (readable_type args.left) (readable_type args.left) (le (order_of args.reading)) args.b.now
          c.loop.bt args.a.now c.loop.at conforms.result conforms.new.other
          conforms.ensures c.if-y-eq0.false),
    )

pub conform_sig-overflow_add-at-in-loop : goal.conform_sig-overflow_add-at-in-loop
conform_sig-overflow_add-at-in-loop t c =
    omega (
      arith,
      let args = c.args in
          pair_in (readable_type args.left) (readable_type args.left) (le (order_of args.reading)) args.b.now
          c.loop.bt args.a.now c.loop.at c.conforms-y.result c.conforms-y.new.other
          c.loop.invariant.in_b c.loop.invariant.in_a
          (pair (readable_type args.left) (readable_type args.left) (le (order_of args.reading)) args.b.now
          c.loop.bt args.a.now c.loop.at c.conforms-y.result c.conforms-y.new.other
          c.conforms-y.ensures c.if-y-eq0.false),
    )

pub conform_sig-loop-preserved : goal.conform_sig-loop-preserved
conform_sig-loop-preserved t c =
    let args = c.args in
    sig_turn c.loop.invariant c.loop-test.true c.conforms-y.result
    c.conforms-y.new.other
    (pair (readable_type args.left) (readable_type args.left) (le (order_of args.reading)) args.b.now
    c.loop.bt args.a.now c.loop.at c.conforms-y.result
    c.conforms-y.new.other c.conforms-y.ensures c.if-y-eq0.false)

pub conform_sig-slice_bounds-conforms-count-2 : goal.conform_sig-slice_bounds-conforms-count-2
conform_sig-slice_bounds-conforms-count-2 t c = omega (arith, c.loop.invariant)

pub conform_sig-slice_bounds-conforms-start-2 : goal.conform_sig-slice_bounds-conforms-start-2
conform_sig-slice_bounds-conforms-start-2 t c = omega (arith, c.loop.invariant)

pub conform_sig-slice_bounds-conforms-count-3 : goal.conform_sig-slice_bounds-conforms-count-3
conform_sig-slice_bounds-conforms-count-3 t c = omega (arith, c.loop.invariant)

pub conform_sig-slice_bounds-conforms-start-3 : goal.conform_sig-slice_bounds-conforms-start-3
conform_sig-slice_bounds-conforms-start-3 t c = omega (arith, c.loop.invariant)

pub conform_sig-returns-then-x-eq0-2 : goal.conform_sig-returns-then-x-eq0-2
conform_sig-returns-then-x-eq0-2 t c =
    sig_last_apart c.loop.invariant c.loop-test.false (looked_at t (goal.at.conform_sig-returns-then-x-eq0-2 t c).Joined-count-eq0)
    c.conforms-x.result c.conforms-x.new.other
    c.conforms-x.ensures c.if-x-eq0-2.true _

pub conform_sig-overflow_add-other-2 : goal.conform_sig-overflow_add-other-2
conform_sig-overflow_add-other-2 t c =
    omega (
      arith,
      let args = c.args in
          pair_in (readable_type args.left) (readable_type args.left) (le (order_of args.reading)) args.a.now
          c.loop.at args.b.now c.loop.bt c.conforms-x.result
          c.conforms-x.new.other c.loop.invariant.in_a c.loop.invariant.in_b
          (pair (readable_type args.left) (readable_type args.left) (le (order_of args.reading)) args.a.now
          c.loop.at args.b.now c.loop.bt c.conforms-x.result
          c.conforms-x.new.other c.conforms-x.ensures c.if-x-eq0-2.false),
      c.requires-raw,
    )

pub conform_sig-overflow_add-other-3 : goal.conform_sig-overflow_add-other-3
conform_sig-overflow_add-other-3 t c =
    omega (
      arith,
      let args = c.args in
          pair_in (readable_type args.left) (readable_type args.left) (le (order_of args.reading)) args.a.now
          c.loop.at args.b.now c.loop.bt c.conforms-x.result
          c.conforms-x.new.other c.loop.invariant.in_a c.loop.invariant.in_b
          (pair (readable_type args.left) (readable_type args.left) (le (order_of args.reading)) args.a.now
          c.loop.at args.b.now c.loop.bt c.conforms-x.result
          c.conforms-x.new.other c.conforms-x.ensures c.if-x-eq0-2.false),
      c.requires-raw,
    )

pub conform_sig-overflow_add-result-2 : goal.conform_sig-overflow_add-result-2
conform_sig-overflow_add-result-2 t c =
    omega (
      arith,
      let args = c.args in
          pair_in (readable_type args.left) (readable_type args.left) (le (order_of args.reading)) args.a.now
          c.loop.at args.b.now c.loop.bt c.conforms-x.result
          c.conforms-x.new.other c.loop.invariant.in_a c.loop.invariant.in_b
          (pair (readable_type args.left) (readable_type args.left) (le (order_of args.reading)) args.a.now
          c.loop.at args.b.now c.loop.bt c.conforms-x.result
          c.conforms-x.new.other c.conforms-x.ensures c.if-x-eq0-2.false),
      c.requires-raw,
    )

pub conform_sig-overflow_add-result-3 : goal.conform_sig-overflow_add-result-3
conform_sig-overflow_add-result-3 t c =
    omega (
      arith,
      let args = c.args in
          pair_in (readable_type args.left) (readable_type args.left) (le (order_of args.reading)) args.a.now
          c.loop.at args.b.now c.loop.bt c.conforms-x.result
          c.conforms-x.new.other c.loop.invariant.in_a c.loop.invariant.in_b
          (pair (readable_type args.left) (readable_type args.left) (le (order_of args.reading)) args.a.now
          c.loop.at args.b.now c.loop.bt c.conforms-x.result
          c.conforms-x.new.other c.conforms-x.ensures c.if-x-eq0-2.false),
      c.requires-raw,
    )

pub conform_sig-returns : goal.conform_sig-returns
conform_sig-returns t c =
    sig_done c.loop.invariant c.loop-test.false (looked_at t (goal.at.conform_sig-returns t c).Joined-count-eq0)
    c.conforms-x.result c.conforms-x.new.other c.conforms-x.ensures
    c.if-x-eq0-2.false _ _ refl refl

pub conforms-returns-then-left-eq0 : goal.conforms-returns-then-left-eq0
conforms-returns-then-left-eq0 t c =
    let args = c.args in
    no_level (le (order_of args.reading)) args.left args.a.now args.b.now _ c.if-left-eq0.true

pub conforms-returns-then-a-eq0 : goal.conforms-returns-then-a-eq0
conforms-returns-then-a-eq0 t c =
    let args = c.args in
    no_a (le (order_of args.reading)) args.left args.a.now args.b.now _ c.if-a-eq0.true

pub conforms-returns-then-b-eq0 : goal.conforms-returns-then-b-eq0
conforms-returns-then-b-eq0 t c =
    let args = c.args in
    no_b (le (order_of args.reading)) args.left args.a.now args.b.now _ c.if-b-eq0.true

pub conforms-returns-then-e-eq-NULL_TYPE : goal.conforms-returns-then-e-eq-NULL_TYPE
conforms-returns-then-e-eq-NULL_TYPE t c =
    let args = c.args in
    met_null (reading_ends args.reading) args.left args.a.now args.b.now _ _ c.skip_both.ensures c.if-e-eq-NULL_TYPE.true

pub conforms-returns-then-f-eq-ANY_TYPE : goal.conforms-returns-then-f-eq-ANY_TYPE
conforms-returns-then-f-eq-ANY_TYPE t c =
    let args =
    c.args in
    met_any (reading_ends args.reading) args.left args.a.now args.b.now _ _ c.skip_both-then-f-eq-ANY_TYPE.ensures c.if-f-eq-ANY_TYPE.true

pub conforms-returns-then-is_related : goal.conforms-returns-then-is_related
conforms-returns-then-is_related t c =
    let args =
    c.args in
    met_table args.left args.a.now args.b.now 0 args.reading (omega arith) (omega arith) (omega arith) c.if-e-f.true
    c.if-e-eq-NULL_TYPE.false c.if-f-eq-ANY_TYPE.false c.is_related.result c.is_related.ensures c.if-is_related.true

pub conforms-returns-then-e-f : goal.conforms-returns-then-e-f
conforms-returns-then-e-f t c =
    let args =
    c.args in
    no_other args.left args.a.now args.b.now _ args.reading c.if-e-f.true
    c.if-e-eq-NULL_TYPE.false c.if-f-eq-ANY_TYPE.false c.is_related.result c.is_related.ensures c.if-is_related.false

pub conforms-conform_inner-requires : goal.conforms-conform_inner-requires
conforms-conform_inner-requires t c = (
  search rules,
  (
    part_room c.args.a.now 1 (omega arith) (omega (arith, c.well_formed)),
    part_room c.args.b.now 1 (omega arith) (omega (arith, c.well_formed)),
  ),
)

pub conforms-conform_inner-requires-in-43 : goal.conforms-conform_inner-requires-in-43
conforms-conform_inner-requires-in-43 t c = (
  search rules,
  (
    part_room c.args.a.now 1 (omega arith) (omega (arith, c.well_formed)),
    part_room c.args.b.now 1 (omega arith) (omega (arith, c.well_formed)),
  ),
)

pub conforms-returns-then-a-lt3 : goal.conforms-returns-then-a-lt3
conforms-returns-then-a-lt3 t c =
    let args =
    c.args in
    no_context (le (order_of args.reading)) args.left args.a.now args.b.now _ c.in-44.is
    (sym c.if-e-f.false ∙ c.in-44.is)
    (λ x y. omega arith)

pub conforms-returns-then-b-lt3 : goal.conforms-returns-then-b-lt3
conforms-returns-then-b-lt3 t c =
    let args = c.args in
    no_context (le (order_of args.reading)) args.left args.a.now args.b.now _ c.in-44.is
    (sym c.if-e-f.false ∙ c.in-44.is)
    (λ x y. omega arith)

pub conforms-conform_fields-requires : goal.conforms-conform_fields-requires
conforms-conform_fields-requires t c = (
  search rules,
  (
    part_room c.args.a.now 3 (omega arith) (omega (arith, c.well_formed)),
    part_room c.args.b.now 3 (omega arith) (omega (arith, c.well_formed)),
  ),
)

pub conforms-returns-then-a-lt2 : goal.conforms-returns-then-a-lt2
conforms-returns-then-a-lt2 t c =
    let args =
    c.args in
    no_function (le (order_of args.reading)) args.left args.a.now args.b.now _ c.in-45.is
    (sym c.if-e-f.false ∙ c.in-45.is)
    (λ x y. omega arith)

pub conforms-returns-then-b-lt2 : goal.conforms-returns-then-b-lt2
conforms-returns-then-b-lt2 t c =
    let args = c.args in
    no_function (le (order_of args.reading)) args.left args.a.now args.b.now _ c.in-45.is
    (sym c.if-e-f.false ∙ c.in-45.is)
    (λ x y. omega arith)

pub conforms-returns-then-k-b : goal.conforms-returns-then-k-b
conforms-returns-then-k-b t c =
    let args = c.args in
    no_counts args.left args.a.now args.b.now _ (order_of args.reading) c.in-45.is
    (sym c.if-e-f.false ∙ c.in-45.is) c.if-k-b.true

pub conforms-conform_sig-requires : goal.conforms-conform_sig-requires
conforms-conform_sig-requires t c = (
  search rules,
  (
    part_room c.args.a.now 2 (omega arith) (omega (arith, c.well_formed)),
    part_room c.args.b.now 2 (omega arith) (omega (arith, c.well_formed)),
  ),
)

pub conforms-returns-in-42 : goal.conforms-returns-in-42
conforms-returns-in-42 t c =
    let args = c.args in
    met_list (order_of args.reading) args.left args.a.now args.b.now (omega arith) (omega arith) (omega arith) _ _
    c.in-42.is (sym c.if-e-f.false ∙ c.in-42.is) c.conform_inner.ensures

pub conforms-returns-in-43 : goal.conforms-returns-in-43
conforms-returns-in-43 t c =
    let args = c.args in
    met_range (order_of args.reading) args.left args.a.now args.b.now (omega arith) (omega arith) (omega arith) _ _
    c.in-43.is (sym c.if-e-f.false ∙ c.in-43.is) c.conform_inner-in-43.ensures

pub conforms-returns-else-b-lt3 : goal.conforms-returns-else-b-lt3
conforms-returns-else-b-lt3 t c =
    let args = c.args in
    met_context (order_of args.reading) args.left args.a.now args.b.now (omega arith) (omega arith) (omega arith) _ _
    c.word_at.result c.word_at-in-44.result c.word_at.ensures.0
    c.word_at-in-44.ensures.0 c.in-44.is
    (sym c.if-e-f.false ∙ c.in-44.is) (omega arith) (omega arith)
    c.conform_fields.ensures

pub conforms-returns-else-k-b : goal.conforms-returns-else-k-b
conforms-returns-else-k-b t c =
    let args = c.args in
    met_function (order_of args.reading) args.left args.a.now args.b.now (omega arith) (omega arith) (omega arith) _
    _ c.from.result c.from.ensures c.if-k-b.false
    c.in-45.is (sym c.if-e-f.false ∙ c.in-45.is) (omega arith) (omega arith)
    c.conform_sig.ensures

pub conforms-returns-in-32-to-41 : goal.conforms-returns-in-32-to-41
conforms-returns-in-32-to-41 t c =
    let args =
    c.args in
    met_simple (reading_ends args.reading) args.left args.a.now args.b.now (omega arith) (omega arith) (omega arith)
    c.if-e-f.false c.in-32-to-41.if-e-lt32-own.false (omega arith)

pub conforms-returns-in_default : goal.conforms-returns-in_default
conforms-returns-in_default t c =
    let args =
    c.args in
    no_command_lem (le (order_of args.reading)) args.left args.a.now args.b.now _ (inl c.in_default.if-e-lt32-own.true)

pub conforms-returns-in_default-2 : goal.conforms-returns-in_default-2
conforms-returns-in_default-2 t c =
    let args =
    c.args in
    let rest = c.in_default.in_default-own.rest in
    no_command_lem (le (order_of args.reading)) args.left args.a.now args.b.now _
    (inr (beyond _ c.in_default.if-e-lt42-own.false rest.0.0.0.1 rest.0.0.1 rest.0.1 rest.1))
