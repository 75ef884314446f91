-- The bytes of a context of which some entries stand already.
-- Index: `context_text` (the definition); `ended` (no entry is left); `text_none`, `count_none`.
-- Assumes nothing.
use Prim.Native.Nat.{ℕ, ◌+◌, ◌/◌, ◌%◌, ◌<◌}
use mathlib.Core.List.{List, ◌∷◌, ◌++◌, [], append-nil}
use Rattle.form.specs.Trees.{Entries, no_entries}
use Rattle.form.specs.Form.{bytes, count_entries, enc_entries}
use mathlib.Core.Path.{◌≡◌, refl, sym, ap, ap₂, ◌∙◌}
use native.Mathlib.Omega.{arith}

-- the bytes of a context of which k entries stand in d
abbrev pub context_text : ℕ → List ℕ → Entries → List ℕ
context_text k d ws = (11 ∷ bytes 2 (k + count_entries ws)) ++ (d ++ enc_entries ws)

pub text_none : enc_entries no_entries ≡ []
unfolding enc_entries
text_none = refl

pub count_none : count_entries no_entries ≡ 0
unfolding count_entries
count_none = refl

-- no entry is left of a context of k entries
pub ended : (k p q : ℕ) (d : List ℕ) → k < 65536 → p ≡ k % 256 → q ≡ k / 256 → context_text k d no_entries ≡ (11 ∷ p ∷ q ∷ []) ++ d
unfolding bytes
ended k p q d h ep eq =
    let e : k + count_entries no_entries ≡ k = omega (arith, count_none) in
    let f : k / 256 % 256 ≡ k / 256 = omega arith in
    ap₂ (λ (c : ℕ) (z : List ℕ). (11 ∷ bytes 2 c) ++ (d ++ z)) e text_none
    ∙ ap₂ (λ (x y : ℕ). (11 ∷ x ∷ y ∷ []) ++ (d ++ [])) (sym ep) (f ∙ sym eq)
    ∙ ap (λ (z : List ℕ). (11 ∷ p ∷ q ∷ []) ++ z) (append-nil d)
