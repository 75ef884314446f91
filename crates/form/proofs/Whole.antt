-- The reader of a whole, in the terms of the code: length first, leftovers last. And a slice's elements are bytes.
-- Index: `bytes_of` (a slice); `whole_empty`, `whole_long`, `whole_ended`, `whole_left`, `whole_fault` (`check_type`, `check_value`);
-- `place_is`, `told_passed` (`pass_type`, `pass_value`).
-- Assumes nothing.
use Prim.Native.Nat.{ℕ, suc, ◌+◌, ◌<◌, ◌≤◌}
use mathlib.Core.Path.{◌≡◌, sym, ap, ◌∙◌}
use mathlib.Core.List.{List, [], ◌∷◌}
use native.Mathlib.Omega.{arith}
use lib.ListN.{length, get_or}
use mir.Syntax.{w8}
use mir.Val.{Fits}
use borrow.Author.Tests.{lt-ltb, le-ltb, le-leb, lt-leb, eq-eqb, ne_eqb}
use Rattle.form.specs.Limits.{most_bytes}
use Rattle.form.specs.Outcome.{Outcome, done, refused, ◌>>=◌, ◌>>◌}
use Rattle.form.specs.Form.{Bytes}
use Rattle.form.specs.Read.{Got, got, bad, number_of, all, read_whole}
use Rattle.std.specs.declared.result.Result.{Result}
use Rattle.std.specs.declared.result.Result.TheVariants.{Ok, Err}
use Rattle.form.specs.Walks.{Walk, walk_of, walked, walk_told, Told, Passed}
use Rattle.form.specs.Faults.{Fault, Shape, Names, Level, place}
use Rattle.form.specs.declared.walk.Walked.{Walked}
use Rattle.form.proofs.Runs.{end_stop, stop_is}
use Rattle.form.specs.Walks as walk

-- what a code proof knows of every element of a `&[u8]` (`shared-slice-known`), as the premise of the laws
pub bytes_of : (s : List ℕ) → ((i : ℕ) → Fits w8 (get_or s i 0)) → Bytes s
unfolding Bytes
bytes_of [] h = tt
bytes_of (b ∷ s) h = ((h 0).fits, bytes_of s (λ (i : ℕ). h (suc i)))

-- the outcome of a check: what was read, as its level
abbrev pub levelled : {X : Type 0} → (X → ℕ) → Outcome X → Outcome ℕ
levelled lv o = do
  x ← o
  done (lv x)

module _ {X : Type 0} (lv : X → ℕ) (base : ℕ) (read : List ℕ → Got X) (s : List ℕ) where
  pub whole_empty : length s ≡ 0 → refused base ≡ levelled lv (read_whole base read s)
  unfolding read_whole ◌>>=◌ ◌>>◌
  whole_empty h = rw (le-ltb 0 (length s) (omega arith))

  pub whole_long : (length s ≡ 0 → ⊥) → most_bytes < length s → refused base ≡ levelled lv (read_whole base read s)
  unfolding read_whole ◌>>=◌ ◌>>◌
  whole_long h k = rw (lt-ltb 0 (length s) (omega arith), lt-leb (length s) most_bytes k)

  -- a whole that was walked to its end
  pub whole_ended : (length s ≡ 0 → ⊥) → length s ≤ most_bytes → (v : Walked) → Passed (walk_of lv (read s)) (length s) (Ok v) → v.size ≡ length s → done v.level ≡ levelled lv (read_whole base read s)
  unfolding read_whole ◌>>◌ ◌>>=◌ all walk_of
  whole_ended h k v a e = rw (lt-ltb 0 (length s) (omega arith), le-leb (length s) most_bytes k) (go (read s) (sym a.answer))
    where
      go : (g : Got X) → walk_of lv g ≡ walk.End v.size v.level → done v.level ≡ levelled lv (all base (length s) g)
      go (got x m) w = let p : m ≡ v.size = cc in let q : lv x ≡ v.level = cc in rw (eq-eqb m (length s) (p ∙ e)) (ap done (sym q))
      go (bad f) w = absurd (end_stop (sym w))

  -- bytes are left over
  pub whole_left : (length s ≡ 0 → ⊥) → length s ≤ most_bytes → (v : Walked) → Passed (walk_of lv (read s)) (length s) (Ok v) → (v.size ≡ length s → ⊥)
      → refused (base + 4) ≡ levelled lv (read_whole base read s)
  unfolding read_whole ◌>>◌ ◌>>=◌ all walk_of
  whole_left h k v a z = rw (lt-ltb 0 (length s) (omega arith), le-leb (length s) most_bytes k) (go (read s) (sym a.answer))
    where
      go : (g : Got X) → walk_of lv g ≡ walk.End v.size v.level → refused (base + 4) ≡ levelled lv (all base (length s) g)
      go (got x m) w = let p : m ≡ v.size = cc in rw (ne_eqb m (length s) (λ e. z (sym p ∙ e)))
      go (bad f) w = absurd (end_stop (sym w))

  -- a fault
  pub whole_fault : (length s ≡ 0 → ⊥) → length s ≤ most_bytes → (f : Fault) → Passed (walk_of lv (read s)) (length s) (Err f) → refused (base + place f) ≡ levelled lv (read_whole base read s)
  unfolding read_whole ◌>>◌ ◌>>=◌ all walk_of number_of
  whole_fault h k f a = rw (lt-ltb 0 (length s) (omega arith), le-leb (length s) most_bytes k) (go (read s) (sym a.answer))
    where
      go : (g : Got X) → walk_of lv g ≡ walk.Stop f → refused (base + place f) ≡ levelled lv (all base (length s) g)
      go (got x m) w = absurd (end_stop w)
      go (bad e) w = rw (stop_is w)

-- ---- a walk's two numbers
-- a fault's number is from 1 to 3
pub place_is : (w : Walk) (n r t : ℕ) → Told w n r t → r ≡ 0 → (1 ≤ t) × (t ≤ 3)
place_is (walk.End size lv) n r t a q = absurd (omega (arith, a.size, a.inside))
place_is (walk.Stop Shape) n r t a q = (omega (arith, a.told), omega (arith, a.told))
place_is (walk.Stop Names) n r t a q = (omega (arith, a.told), omega (arith, a.told))
place_is (walk.Stop Level) n r t a q = (omega (arith, a.told), omega (arith, a.told))

pub told_passed : (w : Walk) (n r t : ℕ) (x : Result Walked Fault) → Told w n r t → walked x ≡ walk_told r t → Passed w n x
unfolding walk_told
told_passed (walk.End size lv) n r t x a e =
    record { answer = e ∙ rw (a.size, a.told, ne_eqb size 0 (λ z. omega (arith, z, a.inside))); inside = a.inside }
told_passed (walk.Stop Shape) n r t x a e = record { answer = e ∙ rw (a.size, a.told); inside = tt }
told_passed (walk.Stop Names) n r t x a e = record { answer = e ∙ rw (a.size, a.told); inside = tt }
told_passed (walk.Stop Level) n r t x a e = record { answer = e ∙ rw (a.size, a.told); inside = tt }
