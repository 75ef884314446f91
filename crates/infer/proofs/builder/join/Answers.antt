-- `infer::builder::join` meets its contract: equal types stay; for the least type the supertype is written, for the inferred one the first stays or becomes Any.
-- Assumes nothing.
use borrow.Author.Rules.{rules}
use native.Mathlib.Omega.{arith}
use mathlib.Core.Path.{sym, refl}
use Rattle.order.specs.Order.{order_of}
use Rattle.order.proofs.Ends.{reading_ends}
use Rattle.form.proofs.Numbers.{take_length}
use Rattle.form.proofs.Whole.{bytes_of}
use Rattle.infer.proofs.JoinedTypes.{both_inside, first_byte, join_ask, sup_spared, sup_inside, sup_kept, joined_super, keeps_ask}
use Rattle.infer.proofs.JoinedTypes.{joined_first, joined_same, joined_any}
use Rattle.infer.proofs.builder.join.Goals as goal

pub keeps-requires : goal.keeps-requires
keeps-requires c = keeps_ask c.args.out.now c.args.n c.args.m _ c.requires.sides

pub returns-then-keeps : goal.returns-then-keeps
returns-then-keeps c =
    record {
      joined = joined_same c.args.out.now c.args.n c.args.m _ c.requires.sides (order_of c.args.reading) (reading_ends c.args.reading)
          (bytes_of c.args.out.now (λ i. search rules)) _ _ _ c.requires.reduced
          c.keeps.ensures c.if-keeps.true;
      spare_len_unchanged = refl;
    }

pub slice_bounds-write-count : goal.slice_bounds-write-count
slice_bounds-write-count c =
    omega (
      arith,
      both_inside c.args.out.now c.args.n c.args.m _ c.requires.sides,
    )

pub slice_bounds-write-start : goal.slice_bounds-write-start
slice_bounds-write-start c =
    omega (
      arith,
      both_inside c.args.out.now c.args.n c.args.m _ c.requires.sides,
    )

pub write-e-requires : goal.write-e-requires
write-e-requires c = join_ask c.args.out.now c.args.n c.args.m _ c.requires.sides (order_of c.args.reading)

pub slice_bounds-copy-end : goal.slice_bounds-copy-end
slice_bounds-copy-end c =
    let args = c.args in
    omega (
      arith,
      sup_spared args.out.now args.n args.m _ c.requires.sides (order_of args.reading) args.spare.now _ _ _ _ refl
          c.write-e.ensures,
      sup_kept args.out.now args.n args.m _ c.requires.sides (order_of args.reading) args.spare.now _ _ _ _ refl
          c.write-e.ensures,
    )

pub slice_bounds-copy-end-then-least : goal.slice_bounds-copy-end-then-least
slice_bounds-copy-end-then-least c =
    let args = c.args in
    sym
    (take_length _ _
    (omega (
      arith,
      sup_spared args.out.now args.n args.m _ c.requires.sides (order_of args.reading) args.spare.now _ _ _ _ refl
          c.write-e.ensures,
      sup_kept args.out.now args.n args.m _ c.requires.sides (order_of args.reading) args.spare.now _ _ _ _ refl
          c.write-e.ensures,
    )))

pub copy-requires : goal.copy-requires
copy-requires c =
    let args = c.args in
    omega (
      arith,
      sup_inside args.out.now args.n args.m _ c.requires.sides (order_of args.reading) args.spare.now _ _ _ _ refl
          c.write-e.ensures,
      take_length c.write-e.result.wrote c.write-e.new.out
          (omega (
            arith,
            sup_spared args.out.now args.n args.m _ c.requires.sides (order_of args.reading) args.spare.now _ _ _ _ refl
                c.write-e.ensures,
            sup_kept args.out.now args.n args.m _ c.requires.sides (order_of args.reading) args.spare.now _ _ _ _ refl
                c.write-e.ensures,
          )),
    )

pub returns-then-least : goal.returns-then-least
returns-then-least c =
    let args = c.args in record {
      joined = joined_super args.out.now args.n args.m _ c.requires.sides (order_of args.reading) args.spare.now _ _ _ _ refl
          c.write-e.ensures _ _ c.if-least.true _
          c.copy.ensures;
      spare_len_unchanged = sup_kept args.out.now args.n args.m _ c.requires.sides (order_of args.reading) args.spare.now _ _ _ _ refl
          c.write-e.ensures;
    }

pub keeps-requires-2 : goal.keeps-requires-2
keeps-requires-2 c = keeps_ask c.args.out.now c.args.n c.args.m _ c.requires.sides

pub returns-then-keeps-2 : goal.returns-then-keeps-2
returns-then-keeps-2 c =
    let args = c.args in record {
      joined = joined_first args.out.now args.n args.m _ c.requires.sides (order_of args.reading)
          (bytes_of args.out.now (λ i. search rules)) _ _ _ c.if-least.false
          c.keeps-2.ensures c.if-keeps-2.true;
      spare_len_unchanged = refl;
    }

pub bounds-out-0 : goal.bounds-out-0
bounds-out-0 c = first_byte c.args.out.now c.args.n c.args.m _ c.requires.sides

pub returns : goal.returns
returns c =
    record {
      joined = joined_any c.args.out.now c.args.n c.args.m _ c.requires.sides (order_of c.args.reading) _ _ _
          c.if-least.false c.keeps-2.ensures c.if-keeps-2.false;
      spare_len_unchanged = refl;
    }
