-- `types::instance::instance_fields` meets its contract: two ascending lists of names in step, as in conformance, with Null or the equal type in place of conformance.
-- Assumes nothing.
use Prim.Native.Nat.{◌+◌, ◌<◌, ◌≤◌}
use native.Mathlib.Omega.{arith}
use mathlib.Core.Path.{refl}
use lib.ListN.{length}
use Rattle.form.specs.Limits.{name_width}
use Rattle.order.specs.Document.{null_or_same}
use Rattle.types.proofs.Pairs.{pair, pair_in, sized_in}
use Rattle.types.proofs.SortedNames.{readable_type, fields_run, names_start, cut_a, cut_b, falls_a, names_left, names_done}
use Rattle.types.proofs.SortedNames.{names_missing, names_unread, names_skip, b_more, names_apart, names_common}
use Rattle.types.proofs.EntryTests.{fields_tests}
use Rattle.types.proofs.TypeConformance.{sized_part, unsized_part}
use Rattle.types.proofs.instance.instance_fields.Goals as goal
use Rattle.types.proofs.instance.instance_fields.Goals.{Joined-else-j-m, else-j-m-via-then-j-m+else-b-bt-lt-NAME_WIDTH, else-j-m-via-else-j-m}

there : (c : Joined-else-j-m) → c.loop.j < c.args.m → c.loop.bt + name_width ≤ length c.args.b.now
there c h =
    elim c.else-j-m.branch [
      | else-j-m-via-then-j-m+else-b-bt-lt-NAME_WIDTH w ↦ omega (arith, w.if-b-bt-lt-NAME_WIDTH.false, h)
      | else-j-m-via-else-j-m w ↦ absurd (omega (arith, w.if-j-m.false, h))
    ]

pub loop-init : goal.loop-init
loop-init c =
    let args = c.args in
    names_start (fields_run args.left) (fields_tests null_or_same) args.left args.a.now
    args.n args.b.now args.m

pub returns-then-a-at-lt-NAME_WIDTH : goal.returns-then-a-at-lt-NAME_WIDTH
returns-then-a-at-lt-NAME_WIDTH c = cut_a c.loop.invariant 3 _ c.loop-test.true c.if-a-at-lt-NAME_WIDTH.true

pub returns-then-name-least : goal.returns-then-name-least
returns-then-name-least c =
    falls_a c.loop.invariant 3 _
    c.loop-test.true c.name_at-name.result
    c.name_at-name.ensures.0 c.if-name-least.true

pub returns-then-b-bt-lt-NAME_WIDTH : goal.returns-then-b-bt-lt-NAME_WIDTH
returns-then-b-bt-lt-NAME_WIDTH c =
    cut_b c.loop.invariant 3 _ c.if-j-m.true
    c.if-b-bt-lt-NAME_WIDTH.true

pub next_name-next-requires : goal.next_name-next-requires
next_name-next-requires c = there (goal.at.next_name-next-requires c).Joined-else-j-m

pub returns-then-next-name : goal.returns-then-next-name
returns-then-next-name c =
    names_missing c.loop.invariant 3 _ c.loop-test.true
    (omega (arith, c.loop.invariant, c.if-a-at-lt-NAME_WIDTH.false)) c.name_at-name.result
    c.next_name-next.result c.name_at-name.ensures.0 c.if-name-least.false
    c.name_at-name.ensures.1 c.next_name-next.ensures.value c.if-next-name.true

pub returns-then-k-eq0 : goal.returns-then-k-eq0
returns-then-k-eq0 c =
    names_unread c.loop.invariant 3 _ c.loop-test.true
    (omega (arith, c.loop.invariant, c.if-a-at-lt-NAME_WIDTH.false)) c.name_at-name.result c.next_name-next.result
    c.name_at-name.ensures.0 c.if-name-least.false c.name_at-name.ensures.1
    c.next_name-next.ensures.value
    (unsized_part c.args.left c.args.a.now
    (c.loop.at + name_width) c.skip-k.result c.skip-k.ensures c.if-k-eq0.true)

pub overflow_add-at : goal.overflow_add-at
overflow_add-at c =
    omega (
      arith,
      let args = c.args in
          sized_in (readable_type args.left) args.a.now (c.loop.at + name_width)
          c.skip-k.result (omega (arith, c.loop.invariant, c.if-a-at-lt-NAME_WIDTH.false))
          (sized_part args.left args.a.now (c.loop.at + name_width) c.skip-k.result
          c.skip-k.ensures c.if-k-eq0.false),
    )

pub loop-preserved-then-name-next : goal.loop-preserved-then-name-next
loop-preserved-then-name-next c =
    names_skip c.loop.invariant 3 0 c.loop-test.true
    (omega (arith, c.loop.invariant, c.if-a-at-lt-NAME_WIDTH.false)) c.name_at-name.result c.next_name-next.result
    c.name_at-name.ensures.0 c.if-name-least.false c.name_at-name.ensures.1
    c.next_name-next.ensures.value c.if-name-next.true c.skip-k.result
    (sized_part c.args.left c.args.a.now
    (c.loop.at + name_width) c.skip-k.result c.skip-k.ensures c.if-k-eq0.false)

pub overflow_add-q : goal.overflow_add-q
overflow_add-q c =
    omega (
      arith,
      (there (goal.at.overflow_add-q c).Joined-else-j-m
          (b_more c.loop.invariant 3 0 c.loop-test.true
          (omega (arith, c.loop.invariant, c.if-a-at-lt-NAME_WIDTH.false)) c.name_at-name.result
          c.next_name-next.result c.name_at-name.ensures.0 c.if-name-least.false
          c.name_at-name.ensures.1 c.next_name-next.ensures.value c.if-name-next.false c.if-next-name.false)),
    )

pub slice_bounds-null_or_same-count-in-loop : goal.slice_bounds-null_or_same-count-in-loop
slice_bounds-null_or_same-count-in-loop c =
    omega (
      arith,
      (there (goal.at.slice_bounds-null_or_same-count-in-loop c).Joined-else-j-m
          (b_more c.loop.invariant 3 0 c.loop-test.true
          (omega (arith, c.loop.invariant, c.if-a-at-lt-NAME_WIDTH.false)) c.name_at-name.result
          c.next_name-next.result c.name_at-name.ensures.0 c.if-name-least.false
          c.name_at-name.ensures.1 c.next_name-next.ensures.value c.if-name-next.false
          c.if-next-name.false)),
    )

pub slice_bounds-null_or_same-start-in-loop : goal.slice_bounds-null_or_same-start-in-loop
slice_bounds-null_or_same-start-in-loop c =
    omega (
      arith,
      (there (goal.at.slice_bounds-null_or_same-start-in-loop c).Joined-else-j-m
          (b_more c.loop.invariant 3 0 c.loop-test.true
          (omega (arith, c.loop.invariant, c.if-a-at-lt-NAME_WIDTH.false)) c.name_at-name.result
          c.next_name-next.result c.name_at-name.ensures.0 c.if-name-least.false
          c.name_at-name.ensures.1 c.next_name-next.ensures.value c.if-name-next.false
          c.if-next-name.false)),
    )

pub returns-then-x-eq0 : goal.returns-then-x-eq0
returns-then-x-eq0 c =
    names_apart c.loop.invariant 3 _ c.loop-test.true
    (omega (arith, c.loop.invariant, c.if-a-at-lt-NAME_WIDTH.false)) c.name_at-name.result
    c.next_name-next.result c.name_at-name.ensures.0 c.if-name-least.false
    c.name_at-name.ensures.1 c.next_name-next.ensures.value c.if-name-next.false c.if-next-name.false
    c.null_or_same-x.result c.null_or_same-x.new.other
    c.null_or_same-x.ensures c.if-x-eq0.true

pub overflow_add-at-in-loop : goal.overflow_add-at-in-loop
overflow_add-at-in-loop c =
    omega (
      arith,
      let args = c.args in
          let loop = c.loop in
          pair_in (readable_type args.left) (readable_type args.left) null_or_same args.a.now
          (loop.at + name_width) args.b.now (loop.bt + name_width) c.null_or_same-x.result
          c.null_or_same-x.new.other (omega (arith, loop.invariant, c.if-a-at-lt-NAME_WIDTH.false))
          (there (goal.at.overflow_add-at-in-loop c).Joined-else-j-m
          (b_more loop.invariant 3 0 c.loop-test.true
          (omega (arith, loop.invariant, c.if-a-at-lt-NAME_WIDTH.false)) c.name_at-name.result c.next_name-next.result
          c.name_at-name.ensures.0 c.if-name-least.false c.name_at-name.ensures.1
          c.next_name-next.ensures.value c.if-name-next.false c.if-next-name.false))
          (pair (readable_type args.left) (readable_type args.left) null_or_same args.a.now
          (loop.at + name_width) args.b.now (loop.bt + name_width) c.null_or_same-x.result
          c.null_or_same-x.new.other c.null_or_same-x.ensures c.if-x-eq0.false),
    )

pub overflow_add-bt : goal.overflow_add-bt
overflow_add-bt c =
    omega (
      arith,
      let args = c.args in
          let loop = c.loop in
          pair_in (readable_type args.left) (readable_type args.left) null_or_same args.a.now
          (loop.at + name_width) args.b.now (loop.bt + name_width) c.null_or_same-x.result
          c.null_or_same-x.new.other (omega (arith, loop.invariant, c.if-a-at-lt-NAME_WIDTH.false))
          (there (goal.at.overflow_add-bt c).Joined-else-j-m
          (b_more loop.invariant 3 0 c.loop-test.true
          (omega (arith, loop.invariant, c.if-a-at-lt-NAME_WIDTH.false)) c.name_at-name.result c.next_name-next.result
          c.name_at-name.ensures.0 c.if-name-least.false c.name_at-name.ensures.1
          c.next_name-next.ensures.value c.if-name-next.false c.if-next-name.false))
          (pair (readable_type args.left) (readable_type args.left) null_or_same args.a.now
          (loop.at + name_width) args.b.now (loop.bt + name_width) c.null_or_same-x.result
          c.null_or_same-x.new.other c.null_or_same-x.ensures c.if-x-eq0.false),
    )

pub overflow_add-j : goal.overflow_add-j
overflow_add-j c =
    omega (
      arith,
      b_more c.loop.invariant 3 0 c.loop-test.true
          (omega (arith, c.loop.invariant, c.if-a-at-lt-NAME_WIDTH.false))
          c.name_at-name.result c.next_name-next.result c.name_at-name.ensures.0 c.if-name-least.false
          c.name_at-name.ensures.1 c.next_name-next.ensures.value c.if-name-next.false c.if-next-name.false,
    )

pub loop-preserved : goal.loop-preserved
loop-preserved c =
    let args = c.args in
    names_common c.loop.invariant 3 0 c.loop-test.true
    (omega (arith, c.loop.invariant, c.if-a-at-lt-NAME_WIDTH.false)) c.name_at-name.result c.next_name-next.result
    c.name_at-name.ensures.0 c.if-name-least.false c.name_at-name.ensures.1
    c.next_name-next.ensures.value c.if-name-next.false c.if-next-name.false
    (there (goal.at.loop-preserved c).Joined-else-j-m
    (b_more c.loop.invariant 3 0 c.loop-test.true
    (omega (arith, c.loop.invariant, c.if-a-at-lt-NAME_WIDTH.false)) c.name_at-name.result c.next_name-next.result
    c.name_at-name.ensures.0 c.if-name-least.false c.name_at-name.ensures.1
    c.next_name-next.ensures.value c.if-name-next.false c.if-next-name.false))
    c.null_or_same-x.result c.null_or_same-x.new.other
    (pair (readable_type args.left) (readable_type args.left) null_or_same args.a.now
    (c.loop.at + name_width) args.b.now (c.loop.bt + name_width) c.null_or_same-x.result
    c.null_or_same-x.new.other c.null_or_same-x.ensures c.if-x-eq0.false)

pub returns-then-j-m-2 : goal.returns-then-j-m-2
returns-then-j-m-2 c = names_left c.loop.invariant 3 _ c.loop-test.false c.if-j-m-2.true

pub returns : goal.returns
returns c = names_done c.loop.invariant 3 _ c.loop-test.false c.if-j-m-2.false _ refl refl
