-- `tables::load::pack` meets its contract: the number so far has the bits so far, whatever the later ones are.
use Rattle.std.proofs.Common.{◌≡◌, ℕ, Bool, cond, ◌<◌, ◌^◌}
use Rattle.order.specs.Table.{pack}
use Rattle.tables.proofs.load.pack.Given as goal

abbrev pub invariant-loop-k : goal.invariant-loop-k
invariant-loop-k g l =
    record {
      small : l.n < 2 ^ l.k;
      same : (f : ℕ → ℕ) → ((k : ℕ) (b : Bool) → k < l.fn.count → goal.F-post g l.fn.flag k b → f k ≡ cond b 1 0) → l.n ≡ pack f 0 l.k;
    }
