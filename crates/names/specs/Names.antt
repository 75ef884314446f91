-- Names: `Name::from`, which trims, and `Name::new` over parts.
-- Assumes nothing.
use Rattle.std.specs.Prelude.{ℕ, suc, ◌-◌, ◌≡◌, Bool, true, false, cond, not, ◌&&◌, ◌||◌, List, [], ◌∷◌, ◌++◌, length, leb, ltb, eqb}
use Rattle.std.specs.Prelude.{Option as Answer, None, Some}
use Rattle.std.proofs.Math.Option.{Option, none, some}
use Rattle.std.specs.Borrow.{Bor}
use Rattle.form.specs.Parts.{LiesAt}
use Rattle.output.specs.Output.{fill}

-- ---- trim
-- 09 to 0D and 20
abbrev pub blank : ℕ → Bool
blank b = (leb 0x09 b && leb b 0x0D) || eqb b 0x20

unfoldable pub trim_start : List ℕ → List ℕ
trim_start [] = []
trim_start (b ∷ s) = cond (blank b) (trim_start s) (b ∷ s)

-- b in front of what is left behind it; a blank with nothing behind it goes
abbrev pub keep : ℕ → List ℕ → List ℕ
keep b [] = cond (blank b) [] (b ∷ [])
keep b (c ∷ s) = b ∷ c ∷ s

unfoldable pub trim_end : List ℕ → List ℕ
trim_end [] = []
trim_end (b ∷ s) = keep b (trim_end s)

-- `Name::from`
abbrev pub trim : List ℕ → List ℕ
trim s = trim_end (trim_start s)

-- how many blanks stand at the front
abbrev pub front_blanks : List ℕ → ℕ
front_blanks s = length s - length (trim_start s)

-- what trim hands back: a part of the caller's own bytes, behind the blanks at the front
pub record Trimmed (s r : Bor (List ℕ)) : Type 0 where
  pub bytes : r.now ≡ trim s.now
  pub lies : LiesAt (front_blanks s.now) s r

-- ---- Name::new
-- matches!(part, "." | "/" | "-" | "'" | "+" | "*")
abbrev pub is_mark : List ℕ → Bool
is_mark [] = false
is_mark (b ∷ []) = eqb b 0x2E || (eqb b 0x2F || (eqb b 0x2D || (eqb b 0x27 || (eqb b 0x2B || eqb b 0x2A))))
is_mark (a ∷ b ∷ s) = false

abbrev pub is_empty : List ℕ → Bool
is_empty [] = true
is_empty (b ∷ s) = false

-- index > 0 && !prev && !current && !part.is_empty()
abbrev pub parted : ℕ → Bool → List ℕ → Bool
parted index prev part = ltb 0 index && (not prev && (not (is_mark part) && not (is_empty part)))

-- a space, or nothing
abbrev pub space : Bool → List ℕ
space true = 0x20 ∷ []
space false = []

-- what a part adds to the name: the space and the part
abbrev pub added : ℕ → Bool → List ℕ → List ℕ
added index prev part = space (parted index prev part) ++ part

-- the loop: the index, prev, the result so far, and the parts that are left, which are trimmed
unfoldable pub pushed : ℕ → Bool → List ℕ → List (List ℕ) → List ℕ
pushed index prev result [] = result
pushed index prev result (p ∷ ps) = pushed (suc index) (is_mark (trim p)) (result ++ added index prev (trim p)) ps

-- `Name::new`
abbrev pub name_new : List (List ℕ) → List ℕ
name_new parts = pushed 0 false [] parts

-- what a writer of a name leaves: its length, and as much of it as has room; nothing is said of the output where there is no name
unfoldable pub Writes : Option (List ℕ) → List ℕ → List ℕ → Answer ℕ → Type 0
Writes none old new r = r ≡ None
Writes (some bs) old new r = (r ≡ Some (length bs)) × (new ≡ fill bs old)
