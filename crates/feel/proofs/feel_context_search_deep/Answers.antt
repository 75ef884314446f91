-- `feel::feel_context_search_deep` meets its contract: the call is `paths::search_place`; an accepted context is short, so the place and the length of a part have 16 bits each.
-- Assumes nothing.
use mathlib.Core.Path.{ap, ◌∙◌}
use Rattle.form.proofs.Whole.{bytes_of}
use Rattle.paths.specs.Places.{found}
use Rattle.feel.specs.Numbers.{parted}
use Rattle.feel.proofs.PartPlaces.{halves_deep}
use Rattle.feel.proofs.feel_context_search_deep.Goals as goal

pub part_number-requires : goal.part_number-requires
part_number-requires c =
    let args = c.args in
    halves_deep args.c.now args.path.now (found c.search_place.result)
    (bytes_of args.c.now c.type_inv.c) c.search_place.ensures

pub returns : goal.returns
returns c = c.part_number.ensures ∙ ap parted c.search_place.ensures
