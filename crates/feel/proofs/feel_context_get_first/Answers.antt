-- `feel::feel_context_get_first` meets its contract: the call is `paths::first_place`; an accepted context is short, so the place and the length of a part have 16 bits each.
-- Assumes nothing.
use mathlib.Core.Path.{ap, ◌∙◌}
use Rattle.form.proofs.Whole.{bytes_of}
use Rattle.paths.specs.Places.{found}
use Rattle.feel.specs.Numbers.{parted}
use Rattle.feel.proofs.PartPlaces.{halves_first}
use Rattle.feel.proofs.feel_context_get_first.Goals as goal

pub part_number-requires : goal.part_number-requires
part_number-requires c =
    halves_first c.args.c.now (found c.first_place.result)
    (bytes_of c.args.c.now c.type_inv.c) c.first_place.ensures

pub returns : goal.returns
returns c = c.part_number.ensures ∙ ap parted c.first_place.ensures
