-- The number that an exported function answers: high word 0 and the answer in the low word; high word 1, refused, and the refusal's number;
-- high word 2, none or unknown.
-- Every answer is below 2^32, so none reads as a refusal: specs/LowWord.antt.
-- Assumes nothing.
use Rattle.std.specs.Prelude.{ℕ, ◌+◌, ◌*◌, ◌<◌, ◌^◌, ◌≡◌, Bool, true, false, List, length}
use Rattle.std.proofs.Math.Option.{Option, none, some}
use Rattle.form.specs.Outcome.{Outcome, done, refused}
use Rattle.form.specs.Answers.{length_of, leaves}
use Rattle.paths.specs.Places.{Piece, piece}

-- a high word
abbrev pub high : ℕ → ℕ
high w = w * 2 ^ 32

-- of a call whose answer is a number
abbrev pub numbered : Outcome ℕ → ℕ
numbered (done n) = n
numbered (refused k) = high 1 + k

-- of a call that answers yes or no
abbrev pub judged : Outcome Bool → ℕ
judged (done true) = 1
judged (done false) = 0
judged (refused k) = high 1 + k

-- of a call that finds a part: its place, then its length; high word 2 where there is none
abbrev pub parted : Outcome (Option Piece) → ℕ
parted (done (some (piece p n))) = p * 65536 + n
parted (done none) = high 2
parted (refused k) = high 1 + k

-- of a call whose answer may be unknown
abbrev pub named : Option ℕ → ℕ
named (some c) = c
named none = high 2

-- place and length have their halves of the low word
abbrev pub Halves : Outcome (Option Piece) → Type 0
Halves (done (some (piece p n))) = (p < 65536) × (n < 65536)
Halves (done none) = Unit {0}
Halves (refused k) = Unit {0}

-- what a call that builds owes, `o` being its definition, `old` and `new` the output before and after
pub record Exported (o : Outcome (List ℕ)) (old new : List ℕ) (r : ℕ) : Type 0 where
  pub answer : r ≡ numbered (length_of o)
  pub output : new ≡ leaves o old

-- the same of a call that works in a scratch
abbrev pub ExportedApart : (ℕ → ℕ → Outcome (List ℕ)) → List ℕ → List ℕ → List ℕ → ℕ → Type 0
ExportedApart call scratch old new r = Exported (call (length scratch) (length old)) old new r
