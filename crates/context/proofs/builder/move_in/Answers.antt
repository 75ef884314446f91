-- `context::builder::move_in` meets its contract: the context without the entry stands in the spare place; the walk along the path and `place` do the rest.
-- Assumes nothing.
use Prim.Native.Nat.{◌+◌}
use native.Mathlib.Omega.{arith}
use mathlib.Core.Path.{sym, ap, ◌∙◌}
use lib.Seq.{length-take-le}
use Rattle.form.specs.Limits.{value_levels}
use Rattle.paths.specs.Places.{context_at}
use Rattle.paths.proofs.Along.{whole_surveyed}
use Rattle.context.proofs.CallContracts.{cut_inside_lem, cut_is, cut_ok, cut_small}
use Rattle.context.proofs.builder.move_in.Goals as goal

pub slice_bounds-left-end : goal.slice_bounds-left-end
slice_bounds-left-end c =
    cut_inside_lem c.args.count c.args.c.now c.args.cut.at (c.args.cut.at + c.args.cut.gone) c.requires.le_at.0
    (omega (arith, c.requires.le_at.1)) c.requires.le_at.2 _ _ _ c.write_without-k.ensures.value c.write_without-k.ensures.out_after
    c.requires.c_in_bounds

pub slice_bounds-left-end-2 : goal.slice_bounds-left-end-2
slice_bounds-left-end-2 c =
    sym
    (length-take-le _ _
    (cut_inside_lem c.args.count c.args.c.now c.args.cut.at (c.args.cut.at + c.args.cut.gone) c.requires.le_at.0
    (omega (arith, c.requires.le_at.1)) c.requires.le_at.2 _ _ _ c.write_without-k.ensures.value c.write_without-k.ensures.out_after c.requires.c_in_bounds))

pub place-requires : goal.place-requires
place-requires c =
    let cut = c.args.cut in
    let pre = c.requires in record {
      ok = cut_ok c.args.count c.args.c.now cut.at (cut.at + cut.gone) pre.le_at.0 (omega (arith, pre.le_at.1)) pre.le_at.2 _ _ _
          c.write_without-k.ensures.value c.write_without-k.ensures.out_after pre.c_in_bounds pre.ok;
      ok_2 = pre.ok_2;
      small = cut_small c.args.count c.args.c.now cut.at (cut.at + cut.gone) pre.le_at.0 (omega (arith, pre.le_at.1)) pre.le_at.2 _ _ _
          c.write_without-k.ensures.value c.write_without-k.ensures.out_after pre.c_in_bounds c.args.path.now pre.small;
      surveyed = whole_surveyed value_levels _ c.args.path.now _ _ c.survey-way.ensures.surveyed;
      level_value = pre.cut_value;
    }

pub returns : goal.returns
returns c =
    λ es x ec ex.
    c.place.ensures es x
    (ap (context_at value_levels)
    (cut_is c.args.count c.args.c.now c.args.cut.at (c.args.cut.at + c.args.cut.gone) c.requires.le_at.0
    (omega (arith, c.requires.le_at.1)) c.requires.le_at.2 _ _ _ c.write_without-k.ensures.value c.write_without-k.ensures.out_after c.requires.c_in_bounds)
    ∙ ec)
    ex
