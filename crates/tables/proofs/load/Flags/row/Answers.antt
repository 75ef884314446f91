-- `tables::load::Flags::row` meets its contract: its bytes are the bits.
-- Assumes nothing.
use Rattle.std.proofs.Common.{◌+◌, ◌*◌, get_or, rules, tests}
use Rattle.order.proofs.Packed.{flag}
use Rattle.tables.proofs.load.Flags.row.Goals as goal

pub returns : goal.returns
returns c =
    c.pack.ensures (λ j. get_or c.args.self.now.bytes.now (10 * c.args.i + j) 0)
    (λ k b h p. let small = flag c.args.self.now.bytes.now c.args.self.now.each (10 * c.args.i + k) in search (rules, tests))
