-- `tables::load::pack` meets its contract: the number so far has the bits so far, whatever the later ones are.
-- Assumes nothing.
use Rattle.std.proofs.Common.{◌≡◌, ℕ, Bool, true, false, ◌<◌, ◌+◌, ◌*◌, ◌%◌, ◌^◌, cond, refl, ap, arith, ◌∙◌}
use mir.Val.{bool_byte}
use Rattle.order.specs.Table.{pack}
use Rattle.tables.proofs.Loops.{packed_more, packed_small}
use Rattle.tables.proofs.load.pack.Goals as goal

pub loop-k-init : goal.loop-k-init
unfolding pack
loop-k-init g c = record { small = omega arith; same = λ f h. refl }

shifted : (b : Bool) (k : ℕ) → bool_byte b * 2 ^ k % 2 ^ 64 ≡ cond b (2 ^ k % 2 ^ 64) 0
shifted true k = omega arith
shifted false k = omega arith

pub loop-k-preserved : goal.loop-k-preserved
loop-k-preserved g c =
    let v = c.loop-k.invariant in
    let room : c.loop-k.k < 64 = omega (arith, c.requires.room) in
    let sum : c.loop-k.n + c.from.result * 2 ^ c.loop-k.k % 2 ^ 64 ≡ c.loop-k.n + cond c.flag.result (2 ^ c.loop-k.k % 2 ^ 64) 0
    = ap (λ (x : ℕ). c.loop-k.n + x) (ap (λ (r : ℕ). r * 2 ^ c.loop-k.k % 2 ^ 64) c.from.ensures ∙ shifted c.flag.result c.loop-k.k) in
    record {
      small = rw sum (packed_small c.flag.result c.loop-k.n c.loop-k.k v.small room);
      same = λ f h. sum ∙ packed_more f c.flag.result c.loop-k.n c.loop-k.k (v.same f h) v.small room (h c.loop-k.k c.flag.result c.loop-k-test.true c.flag.ensures);
    }
