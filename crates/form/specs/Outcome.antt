-- What the definition of a call gives: its answer, or the number of the refusal that comes first.
-- Assumes nothing.
use Rattle.std.specs.Prelude.{ℕ, Bool, true, false, List, length, leb}
use Rattle.std.proofs.Math.Option.{Option, none, some}

pub data Outcome (X : Type 0) : Type 0 where
  done : X → Outcome X
  refused : ℕ → Outcome X

-- A definition is a `do` block, one line a check, in the order of the refusals: the first line that refuses decides.
unfoldable pub ◌>>=◌ : {X Y : Type 0} → Outcome X → (X → Outcome Y) → Outcome Y
◌>>=◌ (done x) more = more x
◌>>=◌ (refused n) more = refused n

unfoldable pub ◌>>◌ : {X Y : Type 0} → Outcome X → Outcome Y → Outcome Y
◌>>◌ (done x) more = more
◌>>◌ (refused n) more = refused n

abbrev pub pick : {X : Type 0} → Bool → X → X → X
pick true a b = a
pick false a b = b

-- refusal n where the test fails
abbrev pub check : ℕ → Bool → Outcome (Unit {0})
check n test = pick test (done tt) (refused n)

-- refusal n where the work has no result
abbrev pub or_refuse : {X : Type 0} → ℕ → Option X → Outcome X
or_refuse n none = refused n
or_refuse n (some x) = done x

-- 18: the output is too short for the answer
abbrev pub fits : ℕ → List ℕ → Outcome (List ℕ)
fits room bs = pick (leb (length bs) room) (done bs) (refused 18)
