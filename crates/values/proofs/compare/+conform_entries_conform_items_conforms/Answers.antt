-- The cycle `values::compare::conforms`, `conform_items`, `conform_entries` meets its contracts; the measure is twice the level that is left, one more for the loops.
-- One template for all: the loops keep that the verdict on the whole is that on what is left, behind what was passed (`NamesGo`, `ItemsGo`); every 0 is a law that the value
-- does not conform or that one of the two is not read.
-- Assumes nothing.
use Prim.Native.Nat.{ℕ, ◌<◌, ◌+◌, ◌-◌, ◌≤◌}
use native.Mathlib.Omega.{arith}
use mathlib.Core.Path.{refl}
use lib.ListN.{length}
use Rattle.form.specs.Limits.{name_width}
use Rattle.form.proofs.WalkAnswers.{part_room}
use Rattle.order.specs.Order.{order_of}
use Rattle.order.specs.Values as order
use Rattle.order.proofs.Ends.{reading_ends}
use Rattle.types.proofs.Pairs.{pair, pair_in, sized_in}
use Rattle.types.proofs.SortedNames.{readable_type, names_start, cut_a, cut_b, falls_a, names_left, names_done, names_missing}
use Rattle.types.proofs.SortedNames.{names_unread, names_skip, b_more, names_apart, names_common}
use Rattle.types.proofs.TypeConformance.{sized_part}
use Rattle.values.proofs.ValueConformance.{readable_value, sized_value, unsized_value, leaf_pair, told_other, other_short, other_rest}
use Rattle.values.proofs.ValueConformance.{met_any, no_level, no_type, range_apart, list_apart, context_apart, no_interval, no_fields_there}
use Rattle.values.proofs.ValueConformance.{met_range, met_list, met_context}
use Rattle.values.proofs.Items.{items_start, items_apart, items_fit, items_turn, items_done, items_unread, items_none}
use Rattle.values.proofs.Entries.{entries_run, entries_tests, entries_left, entries_none, entries_low}
use borrow.Author.Rules.{rules}
use Rattle.values.proofs.compare.+conform_entries_conform_items_conforms.Goals as goal
use Rattle.values.proofs.compare.+conform_entries_conform_items_conforms.Goals.{conform_entries-Joined-j-m, conform_entries-then-j-m+else-t-bt-lt-NAME_WIDTH, conform_entries-else-j-m}

there : (t : ℕ) (c : conform_entries-Joined-j-m t) → c.loop.j < c.args.m → c.loop.bt + name_width ≤ length c.args.t.now
there t c h =
    elim c.if-j-m.branch [
      | conform_entries-then-j-m+else-t-bt-lt-NAME_WIDTH w ↦ omega (arith, w.if-t-bt-lt-NAME_WIDTH.false, h)
      | conform_entries-else-j-m w ↦ absurd (omega (arith, w.if-j-m.false, h))
    ]

pub conform_entries-returns-then-m-gt0 : goal.conform_entries-returns-then-m-gt0
conform_entries-returns-then-m-gt0 t c =
    let args = c.args in
    entries_left (order_of args.reading) (args.left - 1) args.left args.v.now args.n args.t.now args.m
    c.if-n-eq0.true c.if-m-gt0.true _

pub conform_entries-returns-then-n-eq0 : goal.conform_entries-returns-then-n-eq0
conform_entries-returns-then-n-eq0 t c =
    let args = c.args in
    entries_none (order_of args.reading) (args.left - 1) args.left args.v.now args.n args.t.now args.m
    c.if-n-eq0.true c.if-m-gt0.false _ _ refl refl

pub conform_entries-returns-then-left-lt2 : goal.conform_entries-returns-then-left-lt2
conform_entries-returns-then-left-lt2 t c =
    let args = c.args in
    entries_low (order_of args.reading) (args.left - 1) args.left args.v.now args.n args.t.now args.m
    c.if-n-eq0.false (omega arith) _

pub conform_entries-loop-init : goal.conform_entries-loop-init
conform_entries-loop-init t c =
    let args = c.args in
    names_start (entries_run (args.left - 1)) (entries_tests (order_of args.reading)) args.left args.v.now args.n
    args.t.now args.m

pub conform_entries-overflow_sub-v : goal.conform_entries-overflow_sub-v
conform_entries-overflow_sub-v t c = omega (arith, c.loop.invariant)

pub conform_entries-returns-then-v-at-lt-NAME_WIDTH : goal.conform_entries-returns-then-v-at-lt-NAME_WIDTH
conform_entries-returns-then-v-at-lt-NAME_WIDTH t c = cut_a c.loop.invariant 3 _ c.loop-test.true c.if-v-at-lt-NAME_WIDTH.true

pub conform_entries-returns-then-name-least : goal.conform_entries-returns-then-name-least
conform_entries-returns-then-name-least t c =
    falls_a c.loop.invariant 3 _
    c.loop-test.true c.name_at-name.result
    c.name_at-name.ensures.0 c.if-name-least.true

pub conform_entries-overflow_sub-t : goal.conform_entries-overflow_sub-t
conform_entries-overflow_sub-t t c = omega (arith, c.loop.invariant)

pub conform_entries-returns-then-t-bt-lt-NAME_WIDTH : goal.conform_entries-returns-then-t-bt-lt-NAME_WIDTH
conform_entries-returns-then-t-bt-lt-NAME_WIDTH t c =
    cut_b c.loop.invariant 3 _ c.if-j-m.true
    c.if-t-bt-lt-NAME_WIDTH.true

pub conform_entries-next_name-next-requires : goal.conform_entries-next_name-next-requires
conform_entries-next_name-next-requires t c = there t (goal.at.conform_entries-next_name-next-requires t c).Joined-j-m

pub conform_entries-returns-then-next-name : goal.conform_entries-returns-then-next-name
conform_entries-returns-then-next-name t c =
    names_missing c.loop.invariant 3 _ c.loop-test.true
    (omega (arith, c.loop.invariant, c.if-v-at-lt-NAME_WIDTH.false)) c.name_at-name.result
    c.next_name-next.result c.name_at-name.ensures.0 c.if-name-least.false
    c.name_at-name.ensures.1 c.next_name-next.ensures.value c.if-next-name.true

pub conform_entries-returns-then-k-eq0 : goal.conform_entries-returns-then-k-eq0
conform_entries-returns-then-k-eq0 t c =
    let args = c.args in
    names_unread c.loop.invariant 3 _ c.loop-test.true
    (omega (arith, c.loop.invariant, c.if-v-at-lt-NAME_WIDTH.false)) c.name_at-name.result c.next_name-next.result
    c.name_at-name.ensures.0 c.if-name-least.false c.name_at-name.ensures.1
    c.next_name-next.ensures.value
    (unsized_value (args.left - 1) args.v.now (c.loop.at + name_width) c.skip-k.result
    c.skip-k.ensures c.if-k-eq0.true)

pub conform_entries-overflow_add-at : goal.conform_entries-overflow_add-at
conform_entries-overflow_add-at t c =
    omega (
      arith,
      let args = c.args in
          sized_in (readable_value (args.left - 1)) args.v.now (c.loop.at + name_width)
          c.skip-k.result (omega (arith, c.loop.invariant, c.if-v-at-lt-NAME_WIDTH.false))
          (sized_value (args.left - 1) args.v.now (c.loop.at + name_width) c.skip-k.result
          c.skip-k.ensures c.if-k-eq0.false),
    )

pub conform_entries-loop-preserved-then-name-next : goal.conform_entries-loop-preserved-then-name-next
conform_entries-loop-preserved-then-name-next t c =
    let args = c.args in
    names_skip c.loop.invariant 3 0 c.loop-test.true
    (omega (arith, c.loop.invariant, c.if-v-at-lt-NAME_WIDTH.false)) c.name_at-name.result c.next_name-next.result
    c.name_at-name.ensures.0 c.if-name-least.false c.name_at-name.ensures.1
    c.next_name-next.ensures.value c.if-name-next.true c.skip-k.result
    (sized_value (args.left - 1) args.v.now (c.loop.at + name_width) c.skip-k.result
    c.skip-k.ensures c.if-k-eq0.false)

pub conform_entries-overflow_add-q : goal.conform_entries-overflow_add-q
conform_entries-overflow_add-q t c =
    omega (
      arith,
      (there t (goal.at.conform_entries-overflow_add-q t c).Joined-j-m
          (b_more c.loop.invariant 3 0 c.loop-test.true
          (omega (arith, c.loop.invariant, c.if-v-at-lt-NAME_WIDTH.false)) c.name_at-name.result
          c.next_name-next.result c.name_at-name.ensures.0 c.if-name-least.false
          c.name_at-name.ensures.1 c.next_name-next.ensures.value c.if-name-next.false c.if-next-name.false)),
    )

pub conform_entries-overflow_add-j : goal.conform_entries-overflow_add-j
conform_entries-overflow_add-j t c =
    omega (
      arith,
      (b_more c.loop.invariant 3 0 c.loop-test.true
          (omega (arith, c.loop.invariant, c.if-v-at-lt-NAME_WIDTH.false)) c.name_at-name.result
          c.next_name-next.result c.name_at-name.ensures.0 c.if-name-least.false
          c.name_at-name.ensures.1 c.next_name-next.ensures.value c.if-name-next.false c.if-next-name.false),
    )

pub conform_entries-leaf-requires : goal.conform_entries-leaf-requires
conform_entries-leaf-requires t c = (
  omega (arith, c.loop.invariant, c.if-v-at-lt-NAME_WIDTH.false),
  (there t (goal.at.conform_entries-leaf-requires t c).Joined-j-m
      (b_more c.loop.invariant 3 0 c.loop-test.true
      (omega (arith, c.loop.invariant, c.if-v-at-lt-NAME_WIDTH.false)) c.name_at-name.result c.next_name-next.result
      c.name_at-name.ensures.0 c.if-name-least.false c.name_at-name.ensures.1
      c.next_name-next.ensures.value c.if-name-next.false c.if-next-name.false)),
  c.requires.2,
)

pub conform_entries-overflow_add-at-in-Some : goal.conform_entries-overflow_add-at-in-Some
conform_entries-overflow_add-at-in-Some t c =
    omega (
      arith,
      let args = c.args in
          let loop = c.loop in
          pair_in (readable_value (args.left - 1)) (readable_type args.left) (order.conforms (order_of args.reading))
          args.v.now (loop.at + name_width) args.t.now (loop.bt + name_width)
          c.in-Some.k 1 (omega (arith, loop.invariant, c.if-v-at-lt-NAME_WIDTH.false))
          (there t (goal.at.conform_entries-overflow_add-at-in-Some t c).Joined-j-m
          (b_more loop.invariant 3 0 c.loop-test.true (omega (arith, loop.invariant, c.if-v-at-lt-NAME_WIDTH.false))
          c.name_at-name.result c.next_name-next.result c.name_at-name.ensures.0 c.if-name-least.false
          c.name_at-name.ensures.1 c.next_name-next.ensures.value c.if-name-next.false
          c.if-next-name.false))
          (leaf_pair (reading_ends args.reading) (args.left - 1) args.left args.v.now (loop.at + name_width) args.t.now
          (loop.bt + name_width) c.in-Some.k c.in-Some.ensures.0 (λ z. omega (arith, z, c.in-Some.ensures.1))),
    )

pub conform_entries-overflow_add-bt : goal.conform_entries-overflow_add-bt
conform_entries-overflow_add-bt t c =
    omega (
      arith,
      let args = c.args in
          let loop = c.loop in
          pair_in (readable_value (args.left - 1)) (readable_type args.left) (order.conforms (order_of args.reading))
          args.v.now (loop.at + name_width) args.t.now (loop.bt + name_width)
          c.in-Some.k 1 (omega (arith, loop.invariant, c.if-v-at-lt-NAME_WIDTH.false))
          (there t (goal.at.conform_entries-overflow_add-bt t c).Joined-j-m
          (b_more loop.invariant 3 0 c.loop-test.true (omega (arith, loop.invariant, c.if-v-at-lt-NAME_WIDTH.false))
          c.name_at-name.result c.next_name-next.result c.name_at-name.ensures.0 c.if-name-least.false
          c.name_at-name.ensures.1 c.next_name-next.ensures.value c.if-name-next.false
          c.if-next-name.false))
          (leaf_pair (reading_ends args.reading) (args.left - 1) args.left args.v.now (loop.at + name_width) args.t.now
          (loop.bt + name_width) c.in-Some.k c.in-Some.ensures.0 (λ z. omega (arith, z, c.in-Some.ensures.1))),
    )

pub conform_entries-loop-preserved-in-Some : goal.conform_entries-loop-preserved-in-Some
conform_entries-loop-preserved-in-Some t c =
    let args = c.args in
    names_common c.loop.invariant 3 0 c.loop-test.true
    (omega (arith, c.loop.invariant, c.if-v-at-lt-NAME_WIDTH.false)) c.name_at-name.result c.next_name-next.result
    c.name_at-name.ensures.0 c.if-name-least.false c.name_at-name.ensures.1 c.next_name-next.ensures.value
    c.if-name-next.false c.if-next-name.false
    (there t (goal.at.conform_entries-loop-preserved-in-Some t c).Joined-j-m
    (b_more c.loop.invariant 3 0 c.loop-test.true
    (omega (arith, c.loop.invariant, c.if-v-at-lt-NAME_WIDTH.false)) c.name_at-name.result c.next_name-next.result
    c.name_at-name.ensures.0 c.if-name-least.false c.name_at-name.ensures.1 c.next_name-next.ensures.value
    c.if-name-next.false c.if-next-name.false))
    c.in-Some.k 1
    (leaf_pair (reading_ends args.reading) (args.left - 1) args.left args.v.now (c.loop.at + name_width) args.t.now
    (c.loop.bt + name_width) c.in-Some.k c.in-Some.ensures.0 (λ z. omega (arith, z, c.in-Some.ensures.1)))

pub conform_entries-slice_bounds-conforms-count-in-loop : goal.conform_entries-slice_bounds-conforms-count-in-loop
conform_entries-slice_bounds-conforms-count-in-loop t c =
    omega (
      arith,
      (there t (goal.at.conform_entries-slice_bounds-conforms-count-in-loop t c).Joined-j-m
          (b_more c.loop.invariant 3 0 c.loop-test.true
          (omega (arith, c.loop.invariant, c.if-v-at-lt-NAME_WIDTH.false)) c.name_at-name.result
          c.next_name-next.result c.name_at-name.ensures.0 c.if-name-least.false
          c.name_at-name.ensures.1 c.next_name-next.ensures.value c.if-name-next.false c.if-next-name.false)),
    )

pub conform_entries-slice_bounds-conforms-start-in-loop : goal.conform_entries-slice_bounds-conforms-start-in-loop
conform_entries-slice_bounds-conforms-start-in-loop t c =
    omega (
      arith,
      (there t (goal.at.conform_entries-slice_bounds-conforms-start-in-loop t c).Joined-j-m
          (b_more c.loop.invariant 3 0 c.loop-test.true
          (omega (arith, c.loop.invariant, c.if-v-at-lt-NAME_WIDTH.false)) c.name_at-name.result
          c.next_name-next.result c.name_at-name.ensures.0 c.if-name-least.false
          c.name_at-name.ensures.1 c.next_name-next.ensures.value c.if-name-next.false c.if-next-name.false)),
    )

pub conform_entries-returns-then-x-eq0 : goal.conform_entries-returns-then-x-eq0
conform_entries-returns-then-x-eq0 t c =
    names_apart c.loop.invariant 3 _ c.loop-test.true
    (omega (arith, c.loop.invariant, c.if-v-at-lt-NAME_WIDTH.false))
    c.name_at-name.result c.next_name-next.result c.name_at-name.ensures.0 c.if-name-least.false
    c.name_at-name.ensures.1 c.next_name-next.ensures.value c.if-name-next.false c.if-next-name.false
    c.conforms-x.result c.conforms-x.new.other c.conforms-x.ensures
    c.if-x-eq0.true

pub conform_entries-overflow_add-at-in-loop : goal.conform_entries-overflow_add-at-in-loop
conform_entries-overflow_add-at-in-loop t c =
    omega (
      arith,
      let args = c.args in
          let loop = c.loop in
          let conforms = c.conforms-x in
          pair_in (readable_value (args.left - 1)) (readable_type args.left) (order.conforms (order_of args.reading))
          args.v.now (loop.at + name_width) args.t.now (loop.bt + name_width) conforms.result
          conforms.new.other (omega (arith, loop.invariant, c.if-v-at-lt-NAME_WIDTH.false))
          (there t (goal.at.conform_entries-overflow_add-at-in-loop t c).Joined-j-m
          (b_more loop.invariant 3 0 c.loop-test.true
          (omega (arith, loop.invariant, c.if-v-at-lt-NAME_WIDTH.false)) c.name_at-name.result c.next_name-next.result
          c.name_at-name.ensures.0 c.if-name-least.false c.name_at-name.ensures.1
          c.next_name-next.ensures.value c.if-name-next.false c.if-next-name.false))
          (pair (readable_value (args.left - 1)) (readable_type args.left) (order.conforms (order_of args.reading)) args.v.now
          (loop.at + name_width) args.t.now (loop.bt + name_width) conforms.result
          conforms.new.other conforms.ensures c.if-x-eq0.false),
    )

pub conform_entries-overflow_add-bt-in-loop : goal.conform_entries-overflow_add-bt-in-loop
conform_entries-overflow_add-bt-in-loop t c =
    omega (
      arith,
      let args = c.args in
          let loop = c.loop in
          pair_in (readable_value (args.left - 1)) (readable_type args.left) (order.conforms (order_of args.reading))
          args.v.now (loop.at + name_width) args.t.now (loop.bt + name_width) c.conforms-x.result
          c.conforms-x.new.other (omega (arith, loop.invariant, c.if-v-at-lt-NAME_WIDTH.false))
          (there t (goal.at.conform_entries-overflow_add-bt-in-loop t c).Joined-j-m
          (b_more loop.invariant 3 0 c.loop-test.true
          (omega (arith, loop.invariant, c.if-v-at-lt-NAME_WIDTH.false)) c.name_at-name.result c.next_name-next.result
          c.name_at-name.ensures.0 c.if-name-least.false c.name_at-name.ensures.1
          c.next_name-next.ensures.value c.if-name-next.false c.if-next-name.false))
          (pair (readable_value (args.left - 1)) (readable_type args.left) (order.conforms (order_of args.reading)) args.v.now
          (loop.at + name_width) args.t.now (loop.bt + name_width) c.conforms-x.result
          c.conforms-x.new.other c.conforms-x.ensures c.if-x-eq0.false),
    )

pub conform_entries-loop-preserved : goal.conform_entries-loop-preserved
conform_entries-loop-preserved t c =
    let args = c.args in
    names_common c.loop.invariant 3 0 c.loop-test.true
    (omega (arith, c.loop.invariant, c.if-v-at-lt-NAME_WIDTH.false)) c.name_at-name.result c.next_name-next.result
    c.name_at-name.ensures.0 c.if-name-least.false c.name_at-name.ensures.1
    c.next_name-next.ensures.value c.if-name-next.false c.if-next-name.false
    (there t (goal.at.conform_entries-loop-preserved t c).Joined-j-m
    (b_more c.loop.invariant 3 0 c.loop-test.true
    (omega (arith, c.loop.invariant, c.if-v-at-lt-NAME_WIDTH.false)) c.name_at-name.result c.next_name-next.result
    c.name_at-name.ensures.0 c.if-name-least.false c.name_at-name.ensures.1
    c.next_name-next.ensures.value c.if-name-next.false c.if-next-name.false))
    c.conforms-x.result c.conforms-x.new.other
    (pair (readable_value (args.left - 1)) (readable_type args.left) (order.conforms (order_of args.reading)) args.v.now
    (c.loop.at + name_width) args.t.now (c.loop.bt + name_width) c.conforms-x.result
    c.conforms-x.new.other c.conforms-x.ensures c.if-x-eq0.false)

pub conform_entries-returns-then-j-m-2 : goal.conform_entries-returns-then-j-m-2
conform_entries-returns-then-j-m-2 t c = names_left c.loop.invariant 3 _ c.loop-test.false c.if-j-m-2.true

pub conform_entries-overflow_add-other : goal.conform_entries-overflow_add-other
conform_entries-overflow_add-other t c =
    omega (
      arith,
      c.loop.invariant,
      c.requires-raw,
    )

pub conform_entries-overflow_add-result : goal.conform_entries-overflow_add-result
conform_entries-overflow_add-result t c =
    omega (
      arith,
      c.loop.invariant,
      c.requires-raw,
    )

pub conform_entries-returns : goal.conform_entries-returns
conform_entries-returns t c =
    names_done c.loop.invariant 3 _ c.loop-test.false c.if-j-m-2.false _ refl
    refl

pub conform_items-returns-then-m-eq0 : goal.conform_items-returns-then-m-eq0
conform_items-returns-then-m-eq0 t c =
    let args = c.args in
    items_unread (order_of args.reading) (args.left - 1) args.left args.v.now args.n args.t.now
    c.if-n-eq0.true c.skip-m.result c.skip-m.ensures
    c.if-m-eq0.true _

pub conform_items-overflow_add-other : goal.conform_items-overflow_add-other
conform_items-overflow_add-other t c =
    omega (
      arith,
      sized_in (readable_type c.args.left) c.args.t.now 0 c.skip-m.result
          (omega arith)
          (sized_part c.args.left c.args.t.now 0 c.skip-m.result
          c.skip-m.ensures c.if-m-eq0.false),
      c.requires-raw,
    )

pub conform_items-returns-then-n-eq0 : goal.conform_items-returns-then-n-eq0
conform_items-returns-then-n-eq0 t c =
    let args = c.args in
    items_none (order_of args.reading) (args.left - 1) args.left args.v.now args.n args.t.now
    c.if-n-eq0.true c.skip-m.result c.skip-m.ensures
    c.if-m-eq0.false _ _ refl refl

pub conform_items-loop-init : goal.conform_items-loop-init
conform_items-loop-init t c =
    let args = c.args in
    items_start (order_of args.reading) (args.left - 1) args.left args.v.now args.n args.t.now

pub conform_items-leaf-requires : goal.conform_items-leaf-requires
conform_items-leaf-requires t c = (
  omega (arith, c.loop.invariant),
  omega arith,
  c.requires.2,
)

pub conform_items-overflow_add-at : goal.conform_items-overflow_add-at
conform_items-overflow_add-at t c =
    omega (
      arith,
      let args = c.args in
          items_fit c.loop.invariant c.loop-test.true c.in-Some.k 1
          (leaf_pair (reading_ends args.reading) (args.left - 1) args.left args.v.now c.loop.at args.t.now 0
          c.in-Some.k c.in-Some.ensures.0 (λ z. omega (arith, z, c.in-Some.ensures.1))),
    )

pub conform_items-loop-preserved-in-Some : goal.conform_items-loop-preserved-in-Some
conform_items-loop-preserved-in-Some t c =
    let args = c.args in
    items_turn c.loop.invariant c.loop-test.true c.in-Some.k 1
    (leaf_pair (reading_ends args.reading) (args.left - 1) args.left args.v.now c.loop.at args.t.now 0
    c.in-Some.k c.in-Some.ensures.0 (λ z. omega (arith, z, c.in-Some.ensures.1)))

pub conform_items-slice_bounds-conforms-count : goal.conform_items-slice_bounds-conforms-count
conform_items-slice_bounds-conforms-count t c = omega (arith, c.loop.invariant)

pub conform_items-slice_bounds-conforms-start : goal.conform_items-slice_bounds-conforms-start
conform_items-slice_bounds-conforms-start t c = omega (arith, c.loop.invariant)

pub conform_items-returns-then-x-eq0 : goal.conform_items-returns-then-x-eq0
conform_items-returns-then-x-eq0 t c =
    items_apart c.loop.invariant c.loop-test.true c.conforms-x.result
    c.conforms-x.new.other c.conforms-x.ensures c.if-x-eq0.true _

pub conform_items-overflow_add-at-in-loop : goal.conform_items-overflow_add-at-in-loop
conform_items-overflow_add-at-in-loop t c =
    omega (
      arith,
      let args = c.args in
          let conforms = c.conforms-x in
          items_fit c.loop.invariant c.loop-test.true conforms.result
          conforms.new.other
          (pair (readable_value (args.left - 1)) (readable_type args.left) (order.conforms (order_of args.reading)) args.v.now
          c.loop.at args.t.now 0 conforms.result conforms.new.other
          conforms.ensures c.if-x-eq0.false),
    )

pub conform_items-loop-preserved : goal.conform_items-loop-preserved
conform_items-loop-preserved t c =
    let args = c.args in
    items_turn c.loop.invariant c.loop-test.true c.conforms-x.result
    c.conforms-x.new.other
    (pair (readable_value (args.left - 1)) (readable_type args.left) (order.conforms (order_of args.reading)) args.v.now
    c.loop.at args.t.now 0 c.conforms-x.result c.conforms-x.new.other
    c.conforms-x.ensures c.if-x-eq0.false)

pub conform_items-overflow_add-other-2 : goal.conform_items-overflow_add-other-2
conform_items-overflow_add-other-2 t c =
    omega (
      arith,
      sized_in (readable_type c.args.left) c.args.t.now 0 c.loop.bt (omega arith)
          (c.loop.invariant.known (omega (arith, c.loop.invariant, c.if-n-eq0.false))),
      c.requires-raw,
    )

pub conform_items-overflow_add-result : goal.conform_items-overflow_add-result
conform_items-overflow_add-result t c = omega (arith, c.loop.invariant, c.requires-raw)

pub conform_items-returns : goal.conform_items-returns
conform_items-returns t c =
    items_done c.loop.invariant c.loop-test.false
    (omega (arith, c.loop.invariant, c.if-n-eq0.false)) _ _ refl refl

pub conforms-conform_other-requires : goal.conforms-conform_other-requires
conforms-conform_other-requires t c =
    other_short c.args.v.now
    c.if-v-lt3.true

pub conforms-returns-then-v-lt3 : goal.conforms-returns-then-v-lt3
conforms-returns-then-v-lt3 t c =
    let args = c.args in
    told_other (order_of args.reading) (args.left - 1) args.left args.v.now args.t.now _ _
    c.conform_other.ensures

pub conforms-returns-then-left-lt2 : goal.conforms-returns-then-left-lt2
conforms-returns-then-left-lt2 t c =
    let args = c.args in
    no_level (order.conforms (order_of args.reading)) (args.left - 1) args.left args.v.now args.t.now _ (omega arith)

pub conforms-returns-then-t-eq0 : goal.conforms-returns-then-t-eq0
conforms-returns-then-t-eq0 t c =
    let args = c.args in
    no_type (order.conforms (order_of args.reading)) (args.left - 1) args.left args.v.now args.t.now _
    c.if-t-eq0.true

pub conforms-returns-then-d-eq-ANY_TYPE : goal.conforms-returns-then-d-eq-ANY_TYPE
conforms-returns-then-d-eq-ANY_TYPE t c =
    let args = c.args in
    met_any (reading_ends args.reading) (args.left - 1) args.left args.v.now args.t.now (omega arith) (omega arith)
    c.if-d-eq-ANY_TYPE.true c.skip.result c.skip.ensures

pub conforms-returns-then-d-ne-RANGE_TYPE : goal.conforms-returns-then-d-ne-RANGE_TYPE
conforms-returns-then-d-ne-RANGE_TYPE t c =
    let args =
    c.args in
    range_apart args.reading (args.left - 1) args.left args.v.now args.t.now _ c.in-9.is
    c.if-d-eq-ANY_TYPE.false c.if-d-ne-RANGE_TYPE.true

pub conforms-returns-then-v-gt3 : goal.conforms-returns-then-v-gt3
conforms-returns-then-v-gt3 t c =
    let args =
    c.args in
    no_interval (order.conforms (order_of args.reading)) (args.left - 1) args.left args.v.now args.t.now _ (omega arith)
    (omega arith) c.in-9.is
    (λ i j. omega arith)

pub conforms-returns-then-v-gt3-2 : goal.conforms-returns-then-v-gt3-2
conforms-returns-then-v-gt3-2 t c =
    let args = c.args in
    no_interval (order.conforms (order_of args.reading)) (args.left - 1) args.left args.v.now args.t.now _ (omega arith)
    (omega arith) c.in-9.is
    (λ i j. omega arith)

pub conforms-conform_items-requires : goal.conforms-conform_items-requires
conforms-conform_items-requires t c = (
  search rules,
  (
    part_room c.args.v.now 3 (omega arith) (omega (arith, c.well_formed)),
    part_room c.args.t.now 1 (omega arith) (omega (arith, c.well_formed)),
    omega arith,
  ),
)

pub conforms-returns-then-d-ne-LIST_TYPE : goal.conforms-returns-then-d-ne-LIST_TYPE
conforms-returns-then-d-ne-LIST_TYPE t c =
    let args =
    c.args in
    list_apart args.reading (args.left - 1) args.left args.v.now args.t.now _ c.in-10.is
    c.if-d-eq-ANY_TYPE.false c.if-d-ne-LIST_TYPE.true

pub conforms-conform_items-requires-in-10 : goal.conforms-conform_items-requires-in-10
conforms-conform_items-requires-in-10 t c = (
  search rules,
  (
    part_room c.args.v.now 3 (omega arith) (omega (arith, c.well_formed)),
    part_room c.args.t.now 1 (omega arith) (omega (arith, c.well_formed)),
    omega arith,
  ),
)

pub conforms-returns-then-d-ne-CONTEXT_TYPE : goal.conforms-returns-then-d-ne-CONTEXT_TYPE
conforms-returns-then-d-ne-CONTEXT_TYPE t c =
    let args =
    c.args in
    context_apart args.reading (args.left - 1) args.left args.v.now args.t.now _
    c.in-11.is c.if-d-eq-ANY_TYPE.false c.if-d-ne-CONTEXT_TYPE.true

pub conforms-returns-then-t-lt3 : goal.conforms-returns-then-t-lt3
conforms-returns-then-t-lt3 t c =
    let args =
    c.args in
    no_fields_there (order.conforms (order_of args.reading)) (args.left - 1) args.left args.v.now args.t.now _ c.if-d-ne-CONTEXT_TYPE.false
    (λ h. omega arith)

pub conforms-conform_entries-requires : goal.conforms-conform_entries-requires
conforms-conform_entries-requires t c = (
  search rules,
  (
    part_room c.args.v.now 3 (omega arith) (omega (arith, c.well_formed)),
    part_room c.args.t.now 3 (omega arith) (omega (arith, c.well_formed)),
    omega arith,
  ),
)

pub conforms-conform_other-requires-in_default : goal.conforms-conform_other-requires-in_default
conforms-conform_other-requires-in_default t c =
    other_rest
    c.args.v.now
    c.in_default.in_default-own.rest.0.0.1 c.in_default.in_default-own.rest.0.1 c.in_default.in_default-own.rest.1

pub conforms-returns-else-v-gt3-2 : goal.conforms-returns-else-v-gt3-2
conforms-returns-else-v-gt3-2 t c =
    let args =
    c.args in
    met_range (order_of args.reading) (args.left - 1) args.left args.v.now args.t.now (omega arith) (omega arith)
    (omega arith) (omega arith) _ _ c.in-9.is c.if-d-ne-RANGE_TYPE.false c.if-v-gt3.false
    c.if-v-gt3-2.false c.conform_items.ensures

pub conforms-returns-else-d-ne-LIST_TYPE : goal.conforms-returns-else-d-ne-LIST_TYPE
conforms-returns-else-d-ne-LIST_TYPE t c =
    let args =
    c.args in
    met_list (order_of args.reading) (args.left - 1) args.left args.v.now args.t.now (omega arith) (omega arith)
    (omega arith) (omega arith) _ _ c.in-10.is c.if-d-ne-LIST_TYPE.false c.word_at.result
    c.word_at.ensures.0 c.conform_items-in-10.ensures

pub conforms-returns-else-t-lt3 : goal.conforms-returns-else-t-lt3
conforms-returns-else-t-lt3 t c =
    let args =
    c.args in
    met_context (order_of args.reading) (args.left - 1) args.left args.v.now args.t.now (omega arith) (omega arith)
    (omega arith) (omega arith) _ _ c.in-11.is c.if-d-ne-CONTEXT_TYPE.false (omega arith)
    c.word_at-in-11.result c.word_at-in-11-2.result c.word_at-in-11.ensures.0
    c.word_at-in-11-2.ensures.0 c.conform_entries.ensures

pub conforms-returns-in_default : goal.conforms-returns-in_default
conforms-returns-in_default t c =
    let args =
    c.args in
    told_other (order_of args.reading) (args.left - 1) args.left args.v.now args.t.now _ _
    c.conform_other-in_default.ensures
