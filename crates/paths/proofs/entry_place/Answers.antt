-- `paths::entry_place` meets its contract: one name is a path of one.
-- Assumes nothing.
use mathlib.Core.Path.{ap, ◌∙◌}
use Rattle.paths.specs.Places.{extent_of}
use Rattle.paths.proofs.CallContracts.{entry_call}
use Rattle.paths.proofs.entry_place.Goals as goal

pub returns : goal.returns
returns c = c.search_place.ensures ∙ ap extent_of (entry_call c.args.c.now c.args.name)
