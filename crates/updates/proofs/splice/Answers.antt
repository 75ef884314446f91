-- `updates::splice` meets its contract: the bytes before the context, its front up to the name, what stands under the name, and the rest are written one behind the other.
-- Assumes nothing.
use borrow.Author.Rules.{rules}
use mathlib.Core.Path.{◌≡◌, refl}
use Rattle.updates.proofs.Splices.{base_inside, front_asks, end_fits, count_more, count_kept, spliced_out}
use Rattle.updates.specs.Writing.{count_after}
use native.Mathlib.Omega.{arith}
use Rattle.updates.proofs.splice.Goals as goal
use Rattle.updates.proofs.splice.Goals.{Joined-is_new, then-is_new, else-is_new}

counted : (c : Joined-is_new) → c.if-is_new.count ≡ count_after c.args.c.now c.args.cut
counted c =
    elim c.if-is_new.branch [
      | then-is_new w ↦ count_more c.args.c.now c.args.cut _ _ c.word_at-count.ensures.0 w.if-is_new.true w.count-is
      | else-is_new w ↦ count_kept c.args.c.now c.args.cut _ _ c.word_at-count.ensures.0 w.if-is_new.false w.count-is
    ]

pub slice_bounds-fill-end : goal.slice_bounds-fill-end
slice_bounds-fill-end c =
    base_inside c.args.c.now c.args.path.now c.args.v.now c.args.cut c.requires.small c.requires.cuts

pub write_to_name-requires : goal.write_to_name-requires
write_to_name-requires c =
    front_asks c.args.c.now c.args.path.now c.args.v.now c.args.cut c.requires.small c.requires.cuts _ _ (counted (goal.at.write_to_name-requires c).Joined-is_new)
    (search rules)

pub overflow_add-p-2 : goal.overflow_add-p-2
overflow_add-p-2 c =
    omega (
      arith,
      end_fits c.args.c.now c.args.path.now c.args.v.now c.args.cut c.requires.small c.requires.cuts _ _
          c.write_to_name.ensures.value c.write_nested-n.ensures.value,
    )

pub put-requires : goal.put-requires
put-requires c =
    end_fits c.args.c.now c.args.path.now c.args.v.now c.args.cut c.requires.small c.requires.cuts _ _
    c.write_to_name.ensures.value c.write_nested-n.ensures.value

pub returns : goal.returns
returns c =
    let e = spliced_out c.args.c.now c.args.path.now c.args.v.now c.args.out.now c.args.cut c.requires.cuts _ _
    (counted (goal.at.returns c).Joined-is_new) c.from-name.ensures _ _ _ _ _ _ _ _ _ _ _ c.fill.ensures c.min-q.ensures
    c.write_to_name.ensures.value c.write_to_name.ensures.out_after refl c.min-r.ensures c.write_nested-n.ensures.value
    c.write_nested-n.ensures.out_after refl c.put.ensures.value c.put.ensures.out_after in
    record { value = e.0; out_after = e.1 }
