-- The laws of the byte form of types: accepted exactly when an encoding of a well-formed tree within the limits; equal bytes are equal types.
-- Idea: the laws of a whole (Accepted) at the reader of types (ExactTypes).
-- Index: `AcceptedType`, `type_accepted`, `type_accepts`, `type_exact` (acceptance); `enc_same`, `took_enc`, `read_inside` (bytes and trees);
-- `level_length`, `any_accepts`, `any_accepted`, `any_exact`, `any_same` (types of any size); `TypeTold`, `type_told` (the tree behind the code's answer).
-- Assumes nothing.
use Prim.Native.Nat.{ℕ, suc, ◌+◌, ◌<◌, ◌≤◌}
use mathlib.Core.Path.{◌≡◌, sym, ap, subst}
use mathlib.Core.Logic.{◌↔◌}
use mathlib.Core.List.{List, [], ◌++◌, append-nil}
use native.Mathlib.Omega.{arith}
use lib.ListN.{length, take, length-append}
use lib.Seq.{take-append_seam}
use Rattle.form.specs.Trees.{Ty, leaf, built, Built, list, range, context, function, Fields, no_fields, field, Tys, no_params, param}
use Rattle.form.specs.Limits.{name_width, type_levels, type_refusals}
use Rattle.form.specs.Outcome.{done}
use Rattle.form.specs.Form.{Bytes, enc, enc_built, enc_fields, enc_tys, level, level_built, level_fields, level_tys, count_fields, Wf}
use Rattle.form.specs.Read.{got, read_t, read_type, read_any_type, check_type}
use Rattle.form.proofs.First.{length_front}
use Rattle.form.proofs.Exact.{found_inside}
use Rattle.form.proofs.ExactTypes.{read_enc, enc_read}
use Rattle.form.specs.ByteForm.{Accepted}
use Rattle.form.proofs.Accepted.{all_parts, all_got, found_whole, whole_accepted, whole_accepts, read_same, level_told}

pub enc_some : (t : Ty) → 0 < length (enc t)
unfolding enc
enc_some (leaf s) = omega arith
enc_some (built (list t)) = omega arith
enc_some (built (range t)) = omega arith
enc_some (built (context fs)) = omega arith
enc_some (built (function ts t)) = omega arith

-- a type is accepted exactly when it is the encoding of a well-formed tree of level at most 32 and at most 16,384 bytes
abbrev pub AcceptedType : List ℕ → Ty → Type 0
AcceptedType s t = Accepted enc Wf level type_levels s t

pub type_accepted : (s : List ℕ) → Bytes s → (t : Ty) → read_type s ≡ done t → AcceptedType s t
type_accepted s bs t e = whole_accepted enc Wf level type_refusals type_levels (read_t type_levels) (enc_read type_levels) s bs t e

pub type_accepts : (s : List ℕ) (t : Ty) → AcceptedType s t → read_type s ≡ done t
type_accepts s t A = whole_accepts enc Wf level type_refusals type_levels (read_t type_levels) (λ x g h r. read_enc x type_levels r g h) enc_some s t A

pub type_exact : (s : List ℕ) → Bytes s → (t : Ty) → (read_type s ≡ done t) ↔ AcceptedType s t
type_exact s bs t = (type_accepted s bs t, type_accepts s t)

-- type equality is byte equality
pub enc_same : (t u : Ty) → Wf t → Wf u → enc t ≡ enc u → t ≡ u
enc_same t u g h e =
    let l = level t + level u in
    read_same (read_t l) (enc t ++ []) (enc u ++ []) t u (length (enc t)) (length (enc u)) (ap (λ (r : List ℕ). r ++ []) e) (read_enc t l [] g (omega arith)) (read_enc u l [] h (omega arith))

-- the bytes that were taken are the tree's
pub took_enc : (l : ℕ) (s : List ℕ) → Bytes s → (t : Ty) (n : ℕ) → read_t l s ≡ got t n → take n s ≡ enc t
took_enc l s bs t n e = let F = enc_read l s bs t n e in rw (F.took, F.bytes) (take-append_seam (enc t) F.rest)

-- a type ends within the bytes
pub read_inside : (l : ℕ) (s : List ℕ) → Bytes s → (t : Ty) (n : ℕ) → read_t l s ≡ got t n → n ≤ length s
read_inside l s bs t n e = found_inside (enc_read l s bs t n e)

-- ---- types of any size
-- no type has more levels than bytes
mutual
  unfolding enc enc_fields enc_tys level level_fields level_tys

  pub level_length : (t : Ty) → level t ≤ length (enc t)
  level_length (leaf s) = omega arith
  level_length (built x) = built_length x

  built_length : (x : Built) → suc (level_built x) ≤ length (enc_built x)
  built_length (list t) = omega (arith, level_length t)
  built_length (range t) = omega (arith, level_length t)
  built_length (context fs) = omega (arith, fields_length fs, length_front 2 (count_fields fs) (enc_fields fs))
  built_length (function ts t) = omega (arith, tys_length ts, level_length t, length-append (enc_tys ts) (enc t))

  fields_length : (fs : Fields) → level_fields fs ≤ length (enc_fields fs)
  fields_length no_fields = omega arith
  fields_length (field m t fs) = omega (arith, level_length t, fields_length fs, length-append (enc t) (enc_fields fs), length_front name_width m (enc t ++ enc_fields fs))

  tys_length : (ts : Tys) → level_tys ts ≤ length (enc_tys ts)
  tys_length no_params = omega arith
  tys_length (param t ts) = omega (arith, level_length t, tys_length ts, length-append (enc t) (enc_tys ts))

pub any_accepts : (t : Ty) → Wf t → read_any_type (enc t) ≡ done t
unfolding read_any_type
any_accepts t g = all_got type_refusals (length (enc t)) (read_t (length (enc t)) (enc t)) t (rw append-nil at (read_enc t (length (enc t)) [] g (level_length t)))

pub any_accepted : (s : List ℕ) → Bytes s → (t : Ty) → read_any_type s ≡ done t → (s ≡ enc t) × Wf t
unfolding read_any_type
any_accepted s bs t e = all_parts type_refusals (length s) (read_t (length s) s) t e (λ r. let F = enc_read (length s) s bs t (length s) r in (found_whole F, F.well))

pub any_exact : (s : List ℕ) → Bytes s → (t : Ty) → (read_any_type s ≡ done t) ↔ ((s ≡ enc t) × Wf t)
any_exact s bs t = (any_accepted s bs t, λ a. subst (λ (r : List ℕ). read_any_type r ≡ done t) (sym a.0) (any_accepts t a.1))

-- an accepted type is read the same without the limits
pub any_same : (s : List ℕ) → Bytes s → (t : Ty) → read_type s ≡ done t → read_any_type s ≡ done t
any_same s bs t e = let A = type_accepted s bs t e in rw A.bytes (any_accepts t A.well)

-- ---- what a caller has from the code's answer: the tree
pub record TypeTold (s : List ℕ) (n : ℕ) : Type 0 where
  pub tree : Ty
  pub reads : read_type s ≡ done tree
  pub accepted : AcceptedType s tree
  pub deep : level tree ≡ n

pub type_told : (s : List ℕ) → Bytes s → (n : ℕ) → check_type s ≡ done n → TypeTold s n
unfolding check_type
type_told s bs n e = level_told level (read_type s) n e (λ t r d. record { tree = t; reads = r; accepted = type_accepted s bs t r; deep = d })
