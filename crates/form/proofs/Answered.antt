-- An answer has passed every line of its definition: one law for each kind of line of a `do` block.
-- Index: `bind_done`, `check_done`, `fits_done` (the lines); `done_same` (one answer only).
-- Assumes nothing.
use Prim.Native.Nat.{ℕ, ◌≤◌}
use mathlib.Core.Path.{◌≡◌, refl, sym}
use mathlib.Core.Bool.{Bool, true, false}
use mathlib.Core.List.{List}
use lib.ListN.{length}
use lib.Dec.{leb}
use borrow.Author.Tests.{leb-true}
use Rattle.form.specs.Outcome.{Outcome, done, refused, ◌>>=◌, ◌>>◌, pick, check, fits}
use Rattle.form.proofs.Accepted.{refused_done}

pub done_same : {X : Type 0} {x y : X} → done x ≡ done y → x ≡ y
done_same e = cc

-- x ← o: there was an x, and the rest answered
pub bind_done : {X Y P : Type 0} (o : Outcome X) (more : X → Outcome Y) (y : Y) → (do x ← o; more x) ≡ done y → ((x : X) → o ≡ done x → more x ≡ done y → P) → P
unfolding ◌>>=◌
bind_done (done x) more y e k = k x refl e
bind_done (refused n) more y e k = absurd (refused_done e)

-- check: the test was passed, and the rest answered
pub check_done : {Y P : Type 0} (n : ℕ) (test : Bool) (more : Outcome Y) (y : Y) → (do check n test; more) ≡ done y → (test ≡ true → more ≡ done y → P) → P
unfolding ◌>>◌
check_done n true more y e k = k refl e
check_done n false more y e k = absurd (refused_done e)

-- fits: there was room, and these bytes are the answer
pub fits_done : {P : Type 0} (room : ℕ) (bs y : List ℕ) → fits room bs ≡ done y → (length bs ≤ room → y ≡ bs → P) → P
fits_done {P} room bs y e k = go (leb (length bs) room) refl e
  where
    go : (b : Bool) → leb (length bs) room ≡ b → pick b (done bs) (refused 18) ≡ done y → P
    go true p q = k (leb-true (length bs) room p) (done_same (sym q))
    go false p q = absurd (refused_done q)
