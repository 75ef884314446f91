-- The size of a type and of its reduced form, and whether the reduced form has room.
-- Assumes nothing.
use Rattle.std.specs.Prelude.{◌≡◌, Bool, ℕ, leb}
use Rattle.std.proofs.Math.Option.{Option}
use Rattle.form.specs.Trees.{Ty}
use Rattle.form.specs.Options.{WhereRead}
use Rattle.order.specs.Order.{fixed}
use Rattle.order.specs.Types.{reduce, reduce_tys}
use Rattle.order.specs.Size.{size}
use Rattle.types.specs.At.{Sig, sig}

-- ---- reduced forms
unfoldable pub reduce_sig : Sig → Sig
reduce_sig (sig ps r) = sig (reduce_tys fixed ps) (reduce fixed r)

-- the size of what stands there, and of its reduced form
unfoldable pub Measured : {X : Type 0} → (X → X) → (X → ℕ) → Option X → ℕ → ℕ → Type 0
Measured red sized r read short = WhereRead (Unit {0}) (λ x. (read ≡ sized x) × (short ≡ sized (red x))) r

-- whether its reduced form has room
unfoldable pub Roomy : Option Ty → ℕ → Bool → Type 0
Roomy x room r = WhereRead (Unit {0}) (λ t. r ≡ leb (size (reduce fixed t)) room) x
