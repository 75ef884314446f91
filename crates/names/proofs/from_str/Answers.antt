-- `names::from_str` meets its contract: the place of the text among the ten names is the code of its type.
-- Assumes nothing.
use Rattle.std.proofs.Common.{List, ℕ, rules, tests, Bor}
use Rattle.std.specs.Str.{bytes_eq}
use Rattle.std.proofs.lemmas.Iterator.{YieldsList-from_slice}
use Rattle.std.proofs.lemmas.Iterator.Search.{position_from_yields_List}
use Rattle.names.proofs.BuiltInNames.{named}
use Rattle.names.proofs.from_str.Goals as goal

pub returns : goal.returns
returns c =
    named c.args.s.now _ c.simple_names.ensures _
    (position_from_yields_List (λ (name : Bor (List ℕ)). bytes_eq c.args.s.now name.now) _ _ c.position-place.result c.position-place.ensures.ran
    (YieldsList-from_slice _ c.iter.ensures.rest) (λ x b q k. search (rules, tests))) _ (search rules)
