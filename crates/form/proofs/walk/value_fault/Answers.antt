-- `form::walk::value_fault` meets its contract: the fault with that number has that place.
-- Assumes nothing.
use Prim.Native.Nat.{ℕ, ◌≤◌}
use mathlib.Core.Path.{◌≡◌, refl, ap}
use mathlib.Core.Bool.{Bool, true, false}
use native.Mathlib.Omega.{arith}
use lib.Dec.{eqb}
use borrow.Author.Tests.{eqb-true, eqb-false}
use Rattle.form.specs.Outcome.{pick}
use Rattle.form.specs.Faults.{Shape, Names, Level, place}
use Rattle.form.specs.Walks.{fault_told}
use Rattle.form.proofs.walk.value_fault.Goals as goal

placed : (t : ℕ) → 1 ≤ t → t ≤ 3 → place (fault_told t) ≡ t
placed t h k = go (eqb t 1) refl (eqb t 2) refl
  where
    go : (a : Bool) → eqb t 1 ≡ a → (b : Bool) → eqb t 2 ≡ b → place (pick a Shape (pick b Names Level)) ≡ t
    go true p b q = omega (arith, eqb-true t 1 p)
    go false p true q = omega (arith, eqb-true t 2 q)
    go false p false q = omega (arith, eqb-false t 1 p, eqb-false t 2 q)

pub returns : goal.returns
returns c = omega (arith, c.of_value.ensures, ap place c.fault_of.ensures, placed c.args.told c.requires.0 c.requires.1)
