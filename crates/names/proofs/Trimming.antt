-- trim: what stands behind the blanks at the front, and in front of those at the end; and trim with an output.
-- Idea: induction on the bytes.
-- Assumes nothing.
use Prim.Native.Nat.{ℕ, zero, suc, ◌-◌, ◌<◌, ◌≤◌}
use native.Mathlib.Omega.{arith}
use mathlib.Core.Path.{◌≡◌, refl, sym, ap, subst, ◌∙◌}
use mathlib.Core.Bool.{true, false, cond}
use mathlib.Core.List.{List, [], ◌∷◌}
use lib.ListN.{length, take, drop, get_or, length-drop}
use denote.Ref.{Bor}
use Rattle.form.specs.Parts.{LiesAt}
use Rattle.form.proofs.Runs.{rest}
use Rattle.names.specs.Names.{blank, trim_start, keep, trim_end, front_blanks, Trimmed}

-- ---- at the front
pub start_more : (b : ℕ) (s : List ℕ) → blank b ≡ true → trim_start (b ∷ s) ≡ trim_start s
unfolding trim_start
start_more b s h = ap (λ q. cond q (trim_start s) (b ∷ s)) h

pub start_kept : (b : ℕ) (s : List ℕ) → blank b ≡ false → trim_start (b ∷ s) ≡ b ∷ s
unfolding trim_start
start_kept b s h = ap (λ q. cond q (trim_start s) (b ∷ s)) h

-- blanks up to n, and none there
start_is : (s : List ℕ) (n : ℕ) → n ≤ length s → ((k : ℕ) → k < n → blank (get_or s k 0) ≡ true) → (n < length s → blank (get_or s n 0) ≡ false) → drop n s ≡ trim_start s
unfolding trim_start
start_is [] zero w f g = refl
start_is [] (suc n) w f g = absurd (omega arith)
start_is (b ∷ s) zero w f g = sym (start_kept b s (g (omega arith)))
start_is (b ∷ s) (suc n) w f g = start_is s n (omega arith) (λ k h. f (suc k) (omega arith)) (λ h. g (omega arith)) ∙ sym (start_more b s (f 0 (omega arith)))

-- ---- at the end
kept : (b : ℕ) (s : List ℕ) (n : ℕ) → n ≤ length s → (n ≡ 0 → blank b ≡ false) → b ∷ take n s ≡ keep b (take n s)
kept b s zero w f = sym (ap (λ q. cond q [] (b ∷ [])) (f refl))
kept b [] (suc n) w f = absurd (omega arith)
kept b (c ∷ s) (suc n) w f = refl

-- blanks from n on, and none in front of it
end_is : (s : List ℕ) (n : ℕ) → n ≤ length s → ((k : ℕ) → n ≤ k → k < length s → blank (get_or s k 0) ≡ true) → ((k : ℕ) → suc k ≡ n → blank (get_or s k 0) ≡ false) → take n s ≡ trim_end s
unfolding trim_end
end_is [] zero w f g = refl
end_is [] (suc n) w f g = absurd (omega arith)
end_is (b ∷ s) zero w f g =
    sym (ap (λ q. cond q [] (b ∷ [])) (f 0 (omega arith) (omega arith))) ∙ ap (keep b) (end_is s zero (omega arith) (λ k h l. f (suc k) (omega arith) (omega arith)) (λ k e. absurd (omega arith)))
end_is (b ∷ s) (suc n) w f g =
    kept b s n (omega arith) (λ e. g 0 (omega arith)) ∙ ap (keep b) (end_is s n (omega arith) (λ k h l. f (suc k) (omega arith) (omega arith)) (λ k e. g (suc k) (omega arith)))

-- ---- both
last : (s : List ℕ) (k n : ℕ) → suc k ≡ n → (0 < n → blank (get_or s (n - 1) 0) ≡ false) → blank (get_or s k 0) ≡ false
last s k n e g = let z : k ≡ n - 1 = omega arith in ap (λ (i : ℕ). blank (get_or s i 0)) z ∙ g (omega arith)

module _ (s : Bor (List ℕ)) (from : ℕ) (w : from ≤ length s.now) (f : (k : ℕ) → k < from → blank (get_or s.now k 0) ≡ true) (g : from < length s.now → blank (get_or s.now from 0) ≡ false) where
  abbrev front : List ℕ
  front = take (length s.now - from) (drop from s.now)

  behind : drop from s.now ≡ trim_start s.now
  behind = start_is s.now from w f g

  place : from ≡ front_blanks s.now
  place = omega (arith, w, sym (length-drop from s.now) ∙ ap length behind)

  pub trimmed : (r : Bor (List ℕ)) (to : ℕ) → to ≤ length front → ((k : ℕ) → to ≤ k → k < length front → blank (get_or front k 0) ≡ true) → (0 < to → blank (get_or front (to - 1) 0) ≡ false)
      → LiesAt from s r → r.now ≡ take to front → Trimmed s r
  trimmed r to wt ft gt l e =
      record { bytes = e ∙ end_is front to wt ft (λ k h. last front k to h gt) ∙ ap trim_end (rest s.now from ∙ behind); lies = subst (λ (q : ℕ). LiesAt q s r) place l }
