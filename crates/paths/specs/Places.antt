-- What the calls on a context ask and answer, over its bytes.
-- Assumes nothing.
use Rattle.std.specs.Prelude.{ℕ, ◌+◌, ◌≤◌, ◌≡◌, List, length, take, drop, eqb, Some, None, Ok, Err, Result}
use Rattle.std.specs.declared.option.Option as answer
use Rattle.std.proofs.Math.Option.{Option, none, some}
use Rattle.std.specs.Borrow.{Bor}
use Rattle.form.specs.Trees.{Val, Entries}
use Rattle.form.specs.Form.{enc_v}
use Rattle.form.specs.Outcome.{Outcome, done, refused, pick, ◌>>=◌}
use Rattle.form.specs.Parts.{LiesAt}
use Rattle.form.specs.Read.{Got, got, bad, read_v}
use Rattle.paths.specs.Paths.{entries_of, bind, search, place}
use Rattle.paths.specs.declared.Part.{Part}
use Rattle.form.specs.declared.refusals.Refusal.{Refusal}
use Rattle.form.specs.Answers.{number}
use Rattle.form.specs.Options.{map}

-- ---- the value of which all n bytes were taken
unfoldable pub taken : ℕ → Got Val → Option Val
taken n (got v m) = pick (eqb m n) (some v) none
taken n (bad f) = none

unfoldable pub whole_at : ℕ → List ℕ → Option Val
whole_at l s = taken (length s) (read_v l s)

-- its entries, where it is a context
unfoldable pub context_at : ℕ → List ℕ → Option Entries
context_at l s = bind (whole_at l s) entries_of

-- ---- a part of a context's bytes
-- a value and the place where it stands
pub data Spot : Type 0 where
  spot : ℕ → Val → Spot

-- a place and so many bytes from it on
pub data Piece : Type 0 where
  piece : ℕ → ℕ → Piece

abbrev pub extent : Spot → Piece
extent (spot p v) = piece p (length (enc_v v))

-- the answer of a call that finds a part: the part, or none, or the refusal
abbrev pub found : Result (answer.Option Part) Refusal → Outcome (Option Piece)
found (Ok (Some part)) = done (some (piece part.place part.size))
found (Ok None) = done none
found (Err refusal) = refused (number refusal)

-- the part that a definition finds: place and length of its value, or none, or the refusal
unfoldable pub extent_of : Outcome (Option Spot) → Outcome (Option Piece)
extent_of o = do
  s ← o
  done (map extent s)

-- the value at a path with its place
abbrev pub spot_in : List ℕ → Entries → Option Spot
spot_in p es = map (spot (place p es)) (search p es)

-- ---- a part of the caller's own bytes
-- the value that the definition o finds, and its bytes, where they stand in c
pub record LentPart (o : Outcome (Option Spot)) (c part : Bor (List ℕ)) : Type 0 where
  pub place : ℕ
  pub value : Val
  pub is : o ≡ done (some (spot place value))
  pub bytes : part.now ≡ enc_v value
  pub lies : LiesAt place c part

-- what is owed for the definition o: the value's part, or none, or the refusal
abbrev pub Lent : Outcome (Option Spot) → Bor (List ℕ) → Result (answer.Option (Bor (List ℕ))) Refusal → Type 0
Lent o c (Ok (Some part)) = LentPart o c part
Lent o c (Ok None) = o ≡ done none
Lent o c (Err refusal) = o ≡ refused (number refusal)

-- a part that was found ends within c
abbrev pub Within : Outcome (Option Piece) → List ℕ → Type 0
Within (done (some (piece p n))) c = p + n ≤ length c
Within (done none) c = Unit {0}
Within (refused n) c = Unit {0}

-- what lies at a place of c
pub record IsPart (p : Part) (c part : Bor (List ℕ)) : Type 0 where
  pub bytes : part.now ≡ take p.size (drop p.place c.now)
  pub lies : LiesAt p.place c part

abbrev pub Lends : answer.Option Part → Bor (List ℕ) → answer.Option (Bor (List ℕ)) → Type 0
Lends (Some p) c (Some part) = IsPart p c part
Lends None c None = Unit {0}
Lends (Some p) c None = ⊥
Lends None c (Some part) = ⊥
