-- What trim and Name::new are, said without their loops.
-- Assumes nothing.
use Rattle.std.specs.Prelude.{ℕ, ◌≡◌, Bool, true, false, not, ◌&&◌, List, [], ◌∷◌, ◌++◌, length}
use Rattle.names.specs.Names.{blank, trim, front_blanks, is_mark, is_empty, space, name_new}
use Rattle.names.specs.Reader.{first, last}

-- ---- trim
-- blanks only
unfoldable pub blanks : List ℕ → Bool
blanks [] = true
blanks (b ∷ s) = blank b && blanks s

-- s is blanks, what trim leaves of it, and blanks
pub record Around (s : List ℕ) : Type 0 where
  pub front : List ℕ
  pub back : List ℕ
  pub whole : s ≡ front ++ (trim s ++ back)
  pub front_blank : blanks front ≡ true
  pub back_blank : blanks back ≡ true
  -- trim's part stands behind them
  pub place : length front ≡ front_blanks s

pub record Trimming : Type 0 where
  pub around : (s : List ℕ) → Around s
  -- what is left neither begins nor ends with a blank; of no bytes the first and the last are 0, which is none
  pub first_kept : (s : List ℕ) → blank (first (trim s)) ≡ false
  pub last_kept : (s : List ℕ) → blank (last (trim s)) ≡ false
  -- and nothing else is so
  pub only : (front t back : List ℕ) → blanks front ≡ true → blanks back ≡ true → blank (first t) ≡ false → blank (last t) ≡ false → trim (front ++ (t ++ back)) ≡ t

-- ---- Name::new
-- what stands between a part and the one before it: a single 20 where neither is a mark and the part is not empty
abbrev pub between : List ℕ → List ℕ → List ℕ
between before part = space (not (is_mark before) && (not (is_mark part) && not (is_empty part)))

-- the trimmed parts one behind the other, with what stands between two of them
pub record Joining : Type 0 where
  pub no_part : name_new [] ≡ []
  pub one_part : (p : List ℕ) → name_new (p ∷ []) ≡ trim p
  pub two_parts : (p q : List ℕ) → name_new (p ∷ q ∷ []) ≡ trim p ++ (between (trim p) (trim q) ++ trim q)
  -- each further part behind those before it
  pub one_more : (ps : List (List ℕ)) (p q : List ℕ) → name_new (ps ++ (p ∷ q ∷ [])) ≡ name_new (ps ++ (p ∷ [])) ++ (between (trim p) (trim q) ++ trim q)
  -- and nothing else is so
  pub only : (f : List (List ℕ) → List ℕ) → f [] ≡ [] → ((p : List ℕ) → f (p ∷ []) ≡ trim p)
      → ((ps : List (List ℕ)) (p q : List ℕ) → f (ps ++ (p ∷ q ∷ [])) ≡ f (ps ++ (p ∷ [])) ++ (between (trim p) (trim q) ++ trim q)) → (ps : List (List ℕ)) → f ps ≡ name_new ps
  -- parts "", "b" give " b"
  pub empty_first : name_new ([] ∷ (0x62 ∷ []) ∷ []) ≡ 0x20 ∷ 0x62 ∷ []
