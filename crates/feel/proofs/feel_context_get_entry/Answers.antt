-- `feel::feel_context_get_entry` meets its contract: the call is `paths::entry_place`; an accepted context is short, so the place and the length of a part have 16 bits each.
-- Assumes nothing.
use mathlib.Core.Path.{ap, ◌∙◌}
use Rattle.form.proofs.Whole.{bytes_of}
use Rattle.paths.specs.Places.{found}
use Rattle.feel.specs.Numbers.{parted}
use Rattle.feel.proofs.PartPlaces.{halves_entry}
use Rattle.feel.proofs.feel_context_get_entry.Goals as goal

pub part_number-requires : goal.part_number-requires
part_number-requires c =
    let args = c.args in
    halves_entry args.c.now args.name (found c.entry_place.result) (bytes_of args.c.now c.type_inv.c)
    c.entry_place.ensures

pub returns : goal.returns
returns c = c.part_number.ensures ∙ ap parted c.entry_place.ensures
