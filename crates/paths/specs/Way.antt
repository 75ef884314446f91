-- Along a path, on trees: the level of what an update leaves of a value, which of its bytes an update changes, and the value that these tell at the path.
-- Assumes nothing.
use Rattle.std.specs.Prelude.{ℕ, suc, ◌+◌, ◌-◌, max, ◌≡◌, cond, List, [], ◌∷◌, eqb, ltb, Ok, Err, Result}
use Rattle.std.proofs.Math.Option.{Option, none, some}
use Rattle.form.specs.Limits.{name_width}
use Rattle.form.specs.Trees.{Val, Entries, no_entries, entry}
use Rattle.form.specs.Form.{level_v}
use Rattle.form.specs.Outcome.{Outcome, done, refused}
use Rattle.form.specs.declared.refusals.Refusal.{Refusal}
use Rattle.form.specs.Answers.{number}
use Rattle.form.specs.Options.{WhereRead}
use Rattle.order.specs.Size.{size_val}
use Rattle.paths.specs.Paths.{value_of, entries_of, entry_place}
use Rattle.paths.specs.Places.{Piece, piece}
use Rattle.paths.specs.declared.way.Cut.{Cut}
use Rattle.paths.specs.declared.way.Way.{Way}

-- ---- the level of what an update at the path leaves: one more than the largest of the context's entries, where what it leaves counts for the entry of the
-- first name. The value at the path goes, and a value on the way that is no context.
unfoldable pub stays_in : ℕ → (Val → ℕ) → Entries → ℕ
stays_in n left no_entries = 0
stays_in n left (entry m v es) = max (cond (eqb n m) (left v) (level_v v)) (stays_in n left es)

abbrev pub stays_of : ℕ → (Val → ℕ) → Option Entries → ℕ
stays_of n left none = 0
stays_of n left (some es) = suc (stays_in n left es)

unfoldable pub stays : List ℕ → Val → ℕ
stays [] v = 0
stays (n ∷ p) v = stays_of n (stays p) (entries_of v)

-- ---- which bytes it changes: those of one entry, in the last context on the way
-- none: no name, or no context
abbrev pub no_cut : Cut
no_cut = record { base = 0; at = 0; gone = 0; names = 0; old = 0 }

-- so many bytes of the context itself, from `at` on, which hold a value of that level
abbrev pub cut_here : ℕ → ℕ → ℕ → Cut
cut_here at gone old = record { base = 0; at = at; gone = gone; names = 1; old = old }

-- in the value of an entry at `at`, k being the cut there
abbrev pub cut_inside : ℕ → Cut → Cut
cut_inside at k = record { base = at + name_width + k.base; at = at + name_width + k.at; gone = k.gone; names = k.names + 1; old = k.old }

-- the entry at `at`, whose value has so many bytes, that level and the cut k: in the value, or the entry itself
unfoldable pub within : ℕ → ℕ → ℕ → Cut → Cut
within at size level k = cond (eqb k.names 0) (cut_here at (name_width + size) level) (cut_inside at k)

-- at the place of a name: its entry, or nothing where the name is new
abbrev pub cut_at : ℕ → (Val → Cut) → Option Val → Cut
cut_at at under none = cut_here at 0 0
cut_at at under (some v) = within at (size_val v) (level_v v) (under v)

abbrev pub cut_in : ℕ → (Val → Cut) → Option Entries → Cut
cut_in n under none = no_cut
cut_in n under (some es) = cut_at (entry_place n es) under (value_of n es)

unfoldable pub cut_of : List ℕ → Val → Cut
cut_of [] v = no_cut
cut_of (n ∷ p) v = cut_in n (cut_of p) (entries_of v)

-- ---- the value at a path of so many names: all were gone into, and an entry is there; its value stands behind the name
abbrev pub part_of : ℕ → Cut → Option Piece
part_of names k = cond (eqb k.gone 0) none (cond (ltb k.names names) none (some (piece (k.at + name_width) (k.gone - name_width))))

-- ---- what the walk tells of the value that it read
unfoldable pub Surveyed : List ℕ → Option Val → ℕ → Cut → Type 0
Surveyed p o rest k = WhereRead (Unit {0}) (λ v. (rest ≡ stays p v) × (k ≡ cut_of p v)) o

-- the level of what was accepted, or the refusal
abbrev pub judged : Result Way Refusal → Outcome ℕ
judged (Ok way) = done way.level
judged (Err refusal) = refused (number refusal)
