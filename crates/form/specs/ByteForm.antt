-- The byte form, in one place: what the readers accept, what each of their refusals means, and how accepted types and types of any size are tied together.
-- Assumes nothing.
use Rattle.std.specs.Prelude.{ℕ, suc, ◌+◌, ◌<◌, ◌≤◌, ◌≡◌, ◌↔◌, ◌⊎◌, List, [], ◌∷◌, ◌++◌, length, take}
use Rattle.form.specs.Trees.{Ty, Val}
use Rattle.form.specs.Limits.{name_width, name_end, most_bytes, type_levels, value_levels, type_refusals, value_refusals}
use Rattle.form.specs.Outcome.{done, refused}
use Rattle.form.specs.Faults.{Fault, Shape, Names, Level, place}
use Rattle.form.specs.Form.{bytes, Bytes, enc, enc_v, level, level_v, Wf, WfV}
use Rattle.form.specs.Read.{got, bad, read_fields, read_entries, read_t, read_v, read_type, read_value, read_any_type}

-- s is the encoding of x, x is well-formed, its level is at most `most`, and s has at most 16,384 bytes
pub record Accepted {X : Type 0} (enc : X → List ℕ) (good : X → Type 0) (lv : X → ℕ) (most : ℕ) (s : List ℕ) (x : X) : Type 0 where
  pub bytes : s ≡ enc x
  pub well : good x
  pub low : lv x ≤ most
  pub short : length s ≤ most_bytes

-- 1 to 16,384 bytes
pub record RightLength (s : List ℕ) : Type 0 where
  pub some : 0 < length s
  pub short : length s ≤ most_bytes

-- bytes left over: s has the right length, a well-formed tree of level at most `most` stands at its front, and bytes follow it
pub record LeftOver {X : Type 0} (enc : X → List ℕ) (good : X → Type 0) (lv : X → ℕ) (most : ℕ) (s : List ℕ) : Type 0 where
  pub tree : X
  pub rest : List ℕ
  pub bytes : s ≡ enc tree ++ rest
  pub well : good tree
  pub low : lv tree ≤ most
  pub over : 0 < length rest
  pub short : length s ≤ most_bytes

pub record ByteForm : Type 0 where
  -- ACCEPTED
  -- the readers accept exactly the encodings of well-formed trees within the limits
  pub types_exact : (s : List ℕ) → Bytes s → (t : Ty) → (read_type s ≡ done t) ↔ Accepted enc Wf level type_levels s t
  pub values_exact : (s : List ℕ) → Bytes s → (v : Val) → (read_value s ≡ done v) ↔ Accepted enc_v WfV level_v value_levels s v
  -- an encoding is made of bytes
  pub types_bytes : (t : Ty) → Wf t → Bytes (enc t)
  pub values_bytes : (v : Val) → WfV v → Bytes (enc_v v)
  -- encodings are injective: type equality is byte equality
  pub types_same : (t u : Ty) → Wf t → Wf u → enc t ≡ enc u → t ≡ u
  pub values_same : (v w : Val) → WfV v → WfV w → enc_v v ≡ enc_v w → v ≡ w
  -- what was read ends within the bytes, and the bytes that it took are its encoding
  pub types_inside : (l : ℕ) (s : List ℕ) → Bytes s → (t : Ty) (n : ℕ) → read_t l s ≡ got t n → n ≤ length s
  pub values_inside : (l : ℕ) (s : List ℕ) → Bytes s → (v : Val) (n : ℕ) → read_v l s ≡ got v n → n ≤ length s
  pub types_took : (l : ℕ) (s : List ℕ) → Bytes s → (t : Ty) (n : ℕ) → read_t l s ≡ got t n → take n s ≡ enc t
  pub values_took : (l : ℕ) (s : List ℕ) → Bytes s → (v : Val) (n : ℕ) → read_v l s ≡ got v n → take n s ≡ enc_v v
  -- REFUSED
  -- 1 and 6: exactly by the length
  pub value_length : (s : List ℕ) → (read_value s ≡ refused value_refusals) ↔ ((length s ≡ 0) ⊎ (most_bytes < length s))
  pub type_length : (s : List ℕ) → (read_type s ≡ refused type_refusals) ↔ ((length s ≡ 0) ⊎ (most_bytes < length s))
  -- 2 to 4 and 7 to 9: exactly by the first fault from the left, where the length is right
  pub value_fault : (s : List ℕ) (f : Fault) → (read_value s ≡ refused (value_refusals + place f)) ↔ (RightLength s × (read_v value_levels s ≡ bad f))
  pub type_fault : (s : List ℕ) (f : Fault) → (read_type s ≡ refused (type_refusals + place f)) ↔ (RightLength s × (read_t type_levels s ≡ bad f))
  -- 5 and 10: exactly when a well-formed tree within the limits stands at the front and bytes are left over
  pub value_left : (s : List ℕ) → Bytes s → (read_value s ≡ refused (value_refusals + 4)) ↔ LeftOver enc_v WfV level_v value_levels s
  pub type_left : (s : List ℕ) → Bytes s → (read_type s ≡ refused (type_refusals + 4)) ↔ LeftOver enc Wf level type_levels s
  -- Inside one argument: where a child must start but no byte stands, shape; next the level; and a name is judged before its entry's child, whatever stands behind it.
  pub no_byte : (l : ℕ) → (read_v l [] ≡ bad Shape) × (read_t l [] ≡ bad Shape)
  pub level_next : (b : ℕ) (s : List ℕ) → (read_v 0 (b ∷ s) ≡ bad Level) × (read_t 0 (b ∷ s) ≡ bad Level)
  pub value_name : (l count least m : ℕ) (s : List ℕ) → m < name_end → m < least → read_entries (read_v l) (suc count) least (bytes name_width m ++ s) ≡ bad Names
  pub type_name : (l count least m : ℕ) (s : List ℕ) → m < name_end → m < least → read_fields (read_t l) (suc count) least (bytes name_width m ++ s) ≡ bad Names
  -- there is no other number
  pub value_numbers : (s : List ℕ) (n : ℕ) → read_value s ≡ refused n → (value_refusals ≤ n) × (n ≤ value_refusals + 4)
  pub type_numbers : (s : List ℕ) (n : ℕ) → read_type s ≡ refused n → (type_refusals ≤ n) × (n ≤ type_refusals + 4)
  -- OF ANY SIZE
  -- a type of any size: the encoding of a well-formed tree, with no limit on level or length
  pub any_size : (s : List ℕ) → Bytes s → (t : Ty) → (read_any_type s ≡ done t) ↔ ((s ≡ enc t) × Wf t)
  -- an accepted type is exactly a type of any size within the two limits
  pub accepted_any : (s : List ℕ) → Bytes s → (t : Ty) → (read_type s ≡ done t) ↔ ((read_any_type s ≡ done t) × ((level t ≤ type_levels) × (length s ≤ most_bytes)))
  -- no bytes are no type
  pub any_some : (s : List ℕ) (t : Ty) → read_any_type s ≡ done t → 0 < length s
  -- it is refused for 7, 8 or 10 only: never for its length or its level
  pub any_numbers : (s : List ℕ) (n : ℕ) → read_any_type s ≡ refused n → (n ≡ 7) ⊎ ((n ≡ 8) ⊎ (n ≡ 10))
