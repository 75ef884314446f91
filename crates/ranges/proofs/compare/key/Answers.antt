-- `ranges::compare::key` meets its contract: the eight bytes, read as a signed number, are what the number of the bytes means.
-- Assumes nothing.
use Rattle.std.proofs.Common.{rules, ◌∙◌}
use Rattle.std.proofs.lemmas.Int.{to_z-of_z}
use Rattle.std.specs.Int.{w64}
use mir.Val.{SFits}
use Rattle.ranges.proofs.Keys.{key_fits, key_means}
use Rattle.ranges.proofs.compare.key.Goals as goal

pub returns-clause-value : goal.returns-clause-value
returns-clause-value c =
    let f : SFits w64 c.from_le_bytes.result = search rules in
    to_z-of_z w64 c.from_le_bytes.result f ∙ c.from_le_bytes.ensures ∙ key_means c.args.s.now c.requires c.type_inv.s

pub returns-clause-eight_bytes : goal.returns-clause-eight_bytes
returns-clause-eight_bytes c = key_fits c.args.s.now c.requires c.type_inv.s
