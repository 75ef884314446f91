-- `tables::load::is_ordered_at` meets its contract: three bits, and all ten types pass.
-- Assumes nothing.
use Rattle.std.proofs.Common.{refl, arith, rules, tests}
use Rattle.tables.specs.Rows.{carries_at}
use Rattle.tables.proofs.Loops.{all_below}
use Rattle.tables.proofs.load.is_ordered_at.Goals as goal

pub returns-then-has_bit-3 : goal.returns-then-has_bit-3
returns-then-has_bit-3 c =
    let all = all_below (carries_at c.args.rows.now c.args.i) 10 c.all.ensures.ran refl (λ x b q k. search (rules, tests)) in
    grind (arith, all)
