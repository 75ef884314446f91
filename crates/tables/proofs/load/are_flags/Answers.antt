-- `tables::load::are_flags` meets its contract: the definition tests the bytes one by one.
-- Assumes nothing.
use Rattle.std.proofs.Common.{◌∙◌, ◌&&◌, refl, rules, tests, ltb}
use Rattle.std.specs.List.{list_all}
use Rattle.std.proofs.lemmas.Iterator.{YieldsList-from_slice}
use Rattle.std.proofs.lemmas.Iterator.Search.{all_from_yields_List}
use Rattle.std.proofs.lemmas.List.Recursion.{same_from_clauses}
use Rattle.order.specs.Table.{are_flags}
use Rattle.tables.proofs.load.are_flags.Goals as goal

pub returns : goal.returns
unfolding are_flags
returns c =
    all_from_yields_List (λ b. ltb b 2) _ _ _ c.all.ensures.ran (YieldsList-from_slice c.args.table.now cc) (λ x b q k. search (rules, tests))
    ∙ same_from_clauses (list_all (λ b. ltb b 2)) are_flags (λ x q. ltb x 2 && q) refl (λ x xs. refl) (λ x xs. refl) c.args.table.now
