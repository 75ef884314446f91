-- A whole is accepted exactly when it is the encoding of a well-formed tree within the limits, whatever is read.
-- Idea: the tests of `read_whole` are passed one by one; what a sound reader found and fills all bytes is the encoding.
-- Index: `whole_accepted`, `whole_accepts` (both directions); `whole_got`, `whole_short` (read whole, within the limit); `read_same` (equal bytes, equal trees);
-- `level_told`, `level_refused` (from the answer of a check back to that of the reader).
-- Assumes nothing.
use Prim.Native.Nat.{ℕ, ◌+◌, ◌<◌, ◌≤◌}
use mathlib.Core.Path.{◌≡◌, refl, sym, ap, subst, ◌∙◌}
use mathlib.Core.Bool.{Bool, true, false}
use mathlib.Core.List.{List, [], ◌∷◌, ◌++◌, append-nil}
use native.Mathlib.Omega.{arith}
use lib.ListN.{length, length-append}
use lib.Dec.{ltb, leb, eqb}
use borrow.Author.Tests.{lt-ltb, le-leb, leb-true, eq-eqb, eqb-true}
use Rattle.form.specs.Limits.{most_bytes}
use Rattle.form.specs.Outcome.{Outcome, done, refused, ◌>>=◌, ◌>>◌, pick, check}
use Rattle.form.specs.Form.{Bytes}
use Rattle.form.specs.Read.{Got, got, bad, all, read_whole}
use Rattle.form.specs.ByteForm.{Accepted}
use Rattle.form.proofs.Exact.{Sound, Found, got_parts}

pub refused_done : {X : Type 0} {n : ℕ} {x : X} → refused n ≡ done x → ⊥
refused_done e = let z : ◌≡◌ {A = ℕ} 0 1 = cc in omega arith

empty_rest : (n : ℕ) (a r : List ℕ) → length a ≡ n → n ≡ length (a ++ r) → a ++ r ≡ a
empty_rest n a [] p q = append-nil a
empty_rest n a (x ∷ r) p q = absurd (omega (arith, length-append a (x ∷ r)))

-- what fills all n bytes
pub all_parts : {X : Type 0} {P : Type 0} (base n : ℕ) (r : Got X) (x : X) → all base n r ≡ done x → (r ≡ got x n → P) → P
unfolding all
all_parts {X} {P} base n (got y m) x e k = go (eqb m n) refl e
  where
    go : (z : Bool) → eqb m n ≡ z → pick z (done y) (refused (base + 4)) ≡ done x → P
    go true ze we =
        let p : y ≡ x = cc in
        k (rw (p, eqb-true m n ze))
    go false ze we = absurd (refused_done we)
all_parts base n (bad f) x e k = absurd (refused_done e)

pub all_got : {X : Type 0} (base n : ℕ) (r : Got X) (x : X) → r ≡ got x n → all base n r ≡ done x
unfolding all
all_got base n r x e = rw (e, eq-eqb n n refl)

-- what was found and fills all bytes is the encoding
pub found_whole : {X : Type 0} {enc : X → List ℕ} {good : X → Type 0} {lv : X → ℕ} {l : ℕ} {s : List ℕ} {x : X} → Found enc good lv l s x (length s) → s ≡ enc x
found_whole {enc = enc} {s = s} {x = x} F = F.bytes ∙ empty_rest (length s) (enc x) F.rest (sym F.took) (ap length F.bytes)

module _ {X : Type 0} (enc : X → List ℕ) (good : X → Type 0) (lv : X → ℕ) (base most : ℕ) (read : List ℕ → Got X) where
  pub whole_accepted : Sound enc good lv most read → (s : List ℕ) → Bytes s → (x : X) → read_whole base read s ≡ done x → Accepted enc good lv most s x
  unfolding read_whole ◌>>◌
  whole_accepted snd s bs x e = go (ltb 0 (length s)) (leb (length s) most_bytes) refl e
    where
      go : (a b : Bool) → leb (length s) most_bytes ≡ b → (do check base a; check base b; all base (length s) (read s)) ≡ done x → Accepted enc good lv most s x
      go false b be ee = absurd (refused_done ee)
      go true false be ee = absurd (refused_done ee)
      go true true be ee = all_parts base (length s) (read s) x ee (λ r. let F = snd s bs x (length s) r in record
          { bytes = found_whole F; well = F.well; low = F.low; short = leb-true (length s) most_bytes be })

  pub whole_accepts : ((x : X) → good x → lv x ≤ most → (r : List ℕ) → read (enc x ++ r) ≡ got x (length (enc x))) → ((x : X) → 0 < length (enc x)) → (s : List ℕ) (x : X)
      → Accepted enc good lv most s x → read_whole base read s ≡ done x
  unfolding read_whole ◌>>◌
  whole_accepts back some s x A =
      let r : read (enc x) ≡ got x (length (enc x)) = rw append-nil at (back x A.well A.low []) in
      let f : length (enc x) ≤ most_bytes = subst (λ (y : List ℕ). length y ≤ most_bytes) A.bytes A.short in
      rw (A.bytes, lt-ltb 0 (length (enc x)) (some x), le-leb (length (enc x)) most_bytes f) (all_got base (length (enc x)) (read (enc x)) x r)

-- what was accepted was read whole
pub whole_got : {X : Type 0} (base : ℕ) (read : List ℕ → Got X) (s : List ℕ) (x : X) → read_whole base read s ≡ done x → read s ≡ got x (length s)
unfolding read_whole ◌>>◌
whole_got base read s x e = go (ltb 0 (length s)) (leb (length s) most_bytes) e
  where
    go : (a b : Bool) → (do check base a; check base b; all base (length s) (read s)) ≡ done x → read s ≡ got x (length s)
    go false b ee = absurd (refused_done ee)
    go true false ee = absurd (refused_done ee)
    go true true ee = all_parts base (length s) (read s) x ee (λ r. r)

pub whole_short : {X : Type 0} (base : ℕ) (read : List ℕ → Got X) (s : List ℕ) (x : X) → read_whole base read s ≡ done x → length s ≤ most_bytes
unfolding read_whole ◌>>◌
whole_short base read s x e = go (ltb 0 (length s)) (leb (length s) most_bytes) refl e
  where
    go : (a b : Bool) → leb (length s) most_bytes ≡ b → (do check base a; check base b; all base (length s) (read s)) ≡ done x → length s ≤ most_bytes
    go false b be ee = absurd (refused_done ee)
    go true false be ee = absurd (refused_done ee)
    go true true be ee = leb-true (length s) most_bytes be

-- two trees that are read back from equal bytes are equal
pub read_same : {X : Type 0} (read : List ℕ → Got X) (s t : List ℕ) (x y : X) (n m : ℕ) → s ≡ t → read s ≡ got x n → read t ≡ got y m → x ≡ y
read_same read s t x y n m e p q = got_parts x y n m (sym p ∙ ap read e ∙ q) (λ a b. a)

-- the tree behind an accepting answer
pub level_told : {X : Type 0} {P : Type 0} (lv : X → ℕ) (o : Outcome X) (n : ℕ) → (do x ← o; done (lv x)) ≡ done n → ((x : X) → o ≡ done x → lv x ≡ n → P) → P
unfolding ◌>>=◌
level_told lv (done x) n e k = let d : lv x ≡ n = cc in k x refl d
level_told lv (refused m) n e k = absurd (refused_done e)

-- the refusal behind a refusing one
pub level_refused : {X : Type 0} (lv : X → ℕ) (o : Outcome X) (n : ℕ) → (do x ← o; done (lv x)) ≡ refused n → o ≡ refused n
unfolding ◌>>=◌
level_refused lv (done x) n e = absurd (refused_done (sym e))
level_refused lv (refused m) n e = let d : m ≡ n = cc in ap refused d
