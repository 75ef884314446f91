-- `tables::load::is_ordered` meets its contract: all ten types pass.
-- Assumes nothing.
use Rattle.std.proofs.Common.{refl, rules, tests}
use Rattle.tables.specs.Rows.{ordered_at}
use Rattle.tables.proofs.Loops.{all_below}
use Rattle.tables.proofs.load.is_ordered.Goals as goal

pub returns : goal.returns
returns c = all_below (ordered_at c.args.rows.now) 10 c.all.ensures.ran refl (λ x b q k. search (rules, tests))
