-- `tables::load::Flags::number` meets its contract: its places are the bits.
-- Assumes nothing.
use Rattle.std.proofs.Common.{rules, tests}
use Rattle.order.specs.Table.{place}
use Rattle.order.proofs.Packed.{place_lt}
use Rattle.tables.proofs.load.Flags.number.Goals as goal

pub returns : goal.returns
returns c = c.pack.ensures (place c.args.self.now.bytes.now) (λ k b h p. let small = place_lt c.args.self.now.bytes.now c.args.self.now.each k in search (rules, tests))
