-- What each refusal of a reader of a whole means: the length, the first fault from the left, or bytes left over; whatever is read.
-- Idea: the three tests of `read_whole` are taken apart once (`cause`); every number is then told from the others by its distance from the base.
-- Index: `refused_length`, `refused_fault`, `refused_rest`, `refused_left` (each refusal, both directions); `refused_numbers` (no others); `Cause`, `cause`; `refused_same`, `place_same`.
-- Assumes nothing.
use Prim.Native.Nat.{ℕ, ◌+◌, ◌<◌, ◌≤◌}
use mathlib.Core.Path.{◌≡◌, refl, sym, ap, subst, ◌∙◌}
use mathlib.Core.Logic.{◌↔◌, ◌⊎◌, inl, inr}
use mathlib.Core.Bool.{Bool, true, false}
use mathlib.Core.List.{List, [], ◌∷◌, ◌++◌, append-nil}
use native.Mathlib.Omega.{arith}
use lib.ListN.{length, length-append}
use lib.Dec.{ltb, leb, eqb}
use borrow.Author.Tests.{lt-ltb, le-ltb, le-leb, lt-leb, ltb-true, ltb-false, leb-true, leb-false, ne_eqb, eqb-false}
use Rattle.form.specs.Limits.{most_bytes}
use Rattle.form.specs.Outcome.{Outcome, done, refused, ◌>>◌, pick, check}
use Rattle.form.specs.Faults.{Fault, Shape, Names, Level, place}
use Rattle.form.specs.Form.{Bytes}
use Rattle.form.specs.Read.{Got, got, bad, number_of, all, read_whole}
use Rattle.form.specs.ByteForm.{RightLength, LeftOver}
use Rattle.form.proofs.Exact.{Sound}
use Rattle.form.proofs.Accepted.{refused_done}

pub refused_same : {X : Type 0} {n m : ℕ} → ◌≡◌ {A = Outcome X} (refused n) (refused m) → n ≡ m
refused_same e = cc

pub place_some : (f : Fault) → (1 ≤ place f) × (place f ≤ 3)
place_some Shape = (omega arith, omega arith)
place_some Names = (omega arith, omega arith)
place_some Level = (omega arith, omega arith)

pub place_same : (f g : Fault) → place f ≡ place g → f ≡ g
place_same Shape Shape e = refl
place_same Shape Names e = absurd (omega arith)
place_same Shape Level e = absurd (omega arith)
place_same Names Shape e = absurd (omega arith)
place_same Names Names e = refl
place_same Names Level e = absurd (omega arith)
place_same Level Shape e = absurd (omega arith)
place_same Level Names e = absurd (omega arith)
place_same Level Level e = refl

-- something was read that does not fill all n bytes
pub record Short {X : Type 0} (n : ℕ) (r : Got X) : Type 0 where
  pub tree : X
  pub took : ℕ
  pub read : r ≡ got tree took
  pub other : took ≡ n → ⊥

-- how a refusal comes about
pub data Cause {X : Type 0} (base : ℕ) (s : List ℕ) (r : Got X) : ℕ → Type 0 where
  by_length : (length s ≡ 0) ⊎ (most_bytes < length s) → Cause base s r base
  by_fault : RightLength s → (f : Fault) → r ≡ bad f → Cause base s r (base + place f)
  by_rest : RightLength s → Short (length s) r → Cause base s r (base + 4)

module _ {X : Type 0} (base : ℕ) (read : List ℕ → Got X) (s : List ℕ) where
  all_cause : RightLength s → (r : Got X) (n : ℕ) → all base (length s) r ≡ refused n → Cause base s r n
  unfolding all number_of
  all_cause l (got x m) n e = go (eqb m (length s)) refl e
    where
      go : (b : Bool) → eqb m (length s) ≡ b → pick b (done x) (refused (base + 4)) ≡ refused n → Cause base s (got x m) n
      go true p q = absurd (refused_done (sym q))
      go false p q = subst (λ k. Cause {X = X} base s (got x m) k) (refused_same q) (by_rest l (record { tree = x; took = m; read = refl; other = eqb-false m (length s) p }))
  all_cause l (bad f) n e = subst (λ k. Cause {X = X} base s (bad f) k) (refused_same e) (by_fault l f refl)

  pub cause : (n : ℕ) → read_whole base read s ≡ refused n → Cause base s (read s) n
  unfolding read_whole ◌>>◌
  cause n e = go (ltb 0 (length s)) (leb (length s) most_bytes) refl refl e
    where
      go : (a b : Bool) → ltb 0 (length s) ≡ a → leb (length s) most_bytes ≡ b → (do check base a; check base b; all base (length s) (read s)) ≡ refused n → Cause base s (read s) n
      go false b p q ee = subst (λ k. Cause base s (read s) k) (refused_same ee) (by_length (inl (let h = ltb-false 0 (length s) p in omega arith)))
      go true false p q ee = subst (λ k. Cause base s (read s) k) (refused_same ee) (by_length (inr (leb-false (length s) most_bytes q)))
      go true true p q ee = all_cause (record { some = ltb-true 0 (length s) p; short = leb-true (length s) most_bytes q }) (read s) n ee

  pub from_length : (length s ≡ 0) ⊎ (most_bytes < length s) → read_whole base read s ≡ refused base
  unfolding read_whole ◌>>◌
  from_length (inl h) = rw (le-ltb 0 (length s) (omega arith))
  from_length (inr h) = rw (lt-ltb 0 (length s) (omega arith), lt-leb (length s) most_bytes h)

  whole_all : RightLength s → read_whole base read s ≡ all base (length s) (read s)
  unfolding read_whole ◌>>◌
  whole_all l = rw (lt-ltb 0 (length s) l.some, le-leb (length s) most_bytes l.short)

  pub from_fault : RightLength s → (f : Fault) → read s ≡ bad f → read_whole base read s ≡ refused (base + place f)
  unfolding all number_of
  from_fault l f e = whole_all l ∙ rw e

  pub from_rest : RightLength s → Short (length s) (read s) → read_whole base read s ≡ refused (base + 4)
  unfolding all
  from_rest l r = whole_all l ∙ rw (r.read, ne_eqb r.took (length s) r.other)

  -- ---- by the length, by a fault, by what is left; and there is no other number
  pub refused_length : (read_whole base read s ≡ refused base) ↔ ((length s ≡ 0) ⊎ (most_bytes < length s))
  refused_length = (λ e. go base (cause base e) refl, from_length)
    where
      go : (n : ℕ) → Cause base s (read s) n → n ≡ base → (length s ≡ 0) ⊎ (most_bytes < length s)
      go n (by_length h) e = h
      go n (by_fault l f r) e = absurd (omega (arith, (place_some f).0))
      go n (by_rest l r) e = absurd (omega arith)

  pub refused_fault : (f : Fault) → (read_whole base read s ≡ refused (base + place f)) ↔ (RightLength s × (read s ≡ bad f))
  refused_fault f = (λ e. go (base + place f) (cause (base + place f) e) refl, λ h. from_fault h.0 f h.1)
    where
      go : (n : ℕ) → Cause base s (read s) n → n ≡ base + place f → RightLength s × (read s ≡ bad f)
      go n (by_length h) e = absurd (omega (arith, (place_some f).0))
      go n (by_fault l g r) e = (l, r ∙ ap bad (place_same g f (omega arith)))
      go n (by_rest l r) e = absurd (omega (arith, (place_some f).1))

  pub refused_rest : (read_whole base read s ≡ refused (base + 4)) ↔ (RightLength s × Short (length s) (read s))
  refused_rest = (λ e. go (base + 4) (cause (base + 4) e) refl, λ h. from_rest h.0 h.1)
    where
      go : (n : ℕ) → Cause base s (read s) n → n ≡ base + 4 → RightLength s × Short (length s) (read s)
      go n (by_length h) e = absurd (omega arith)
      go n (by_fault l f r) e = absurd (omega (arith, (place_some f).1))
      go n (by_rest l r) e = (l, r)

  pub refused_numbers : (n : ℕ) → read_whole base read s ≡ refused n → (base ≤ n) × (n ≤ base + 4)
  refused_numbers n e = go n (cause n e)
    where
      go : (m : ℕ) → Cause base s (read s) m → (base ≤ m) × (m ≤ base + 4)
      go m (by_length h) = (omega arith, omega arith)
      go m (by_fault l f r) = (omega arith, omega (arith, (place_some f).1))
      go m (by_rest l r) = (omega arith, omega arith)

-- ---- what is left over, as an encoding at the front
module _ {X : Type 0} (enc : X → List ℕ) (good : X → Type 0) (lv : X → ℕ) (base most : ℕ) (read : List ℕ → Got X) (snd : Sound enc good lv most read)
    (back : (x : X) → good x → lv x ≤ most → (r : List ℕ) → read (enc x ++ r) ≡ got x (length (enc x))) (some : (x : X) → 0 < length (enc x)) where
  rest_some : (s : List ℕ) (x : X) (rest : List ℕ) → s ≡ enc x ++ rest → (length (enc x) ≡ length s → ⊥) → 0 < length rest
  rest_some s x [] e h = absurd (h (sym (ap length (e ∙ append-nil (enc x)))))
  rest_some s x (b ∷ r) e h = omega arith

  short_left : (s : List ℕ) → Bytes s → RightLength s → Short (length s) (read s) → LeftOver enc good lv most s
  short_left s bs l r =
      let F = snd s bs r.tree r.took r.read in
      record {
        tree = r.tree;
        rest = F.rest;
        bytes = F.bytes;
        well = F.well;
        low = F.low;
        over = rest_some s r.tree F.rest F.bytes (λ e. r.other (F.took ∙ e));
        short = l.short;
      }

  left_short : (s : List ℕ) → LeftOver enc good lv most s → RightLength s × Short (length s) (read s)
  left_short s L =
      let l : length s ≡ length (enc L.tree) + length L.rest = ap length L.bytes ∙ length-append (enc L.tree) L.rest in (
        record { some = omega (arith, some L.tree); short = L.short },
        record { tree = L.tree; took = length (enc L.tree); read = ap read L.bytes ∙ back L.tree L.well L.low L.rest; other = λ e. omega (arith, L.over) },
      )

  pub refused_left : (s : List ℕ) → Bytes s → (read_whole base read s ≡ refused (base + 4)) ↔ LeftOver enc good lv most s
  refused_left s bs =
      let r = refused_rest base read s in
      (λ e. let h = r.0 e in short_left s bs h.0 h.1, λ L. r.1 (left_short s L))
