-- `tables::load::is_joined_at` meets its contract: all types before it pass.
-- Assumes nothing.
use Rattle.std.proofs.Common.{refl, rules, tests}
use Rattle.std.specs.Int.Bits.{bit_and}
use Rattle.tables.specs.Rows.{row, is_row}
use Rattle.tables.proofs.Loops.{all_below}
use Rattle.tables.proofs.load.is_joined_at.Goals as goal

pub returns : goal.returns
returns c =
    let rows = c.args.rows.now in
    all_below (λ j. is_row rows (bit_and (row rows c.args.i) (row rows j))) c.args.i c.all.ensures.ran refl (λ x b q k. search (rules, tests))
