-- Pieces that are put one behind the other from any place on. Idea: to put from a place on is to fill with what already stands in front of it.
-- Index: `put_twice` (two pieces as one); `put_none`, `fill_none` (no piece).
-- Assumes nothing.
use Prim.Native.Nat.{ℕ, zero, suc, ◌+◌}
use mathlib.Core.Path.{◌≡◌, refl, sym, ap, ◌∙◌}
use mathlib.Core.List.{List, [], ◌∷◌, ◌++◌, append_assoc, append-nil}
use native.Mathlib.Omega.{arith}
use lib.ListN.{length, length-append}
use Rattle.form.specs.Answers.{onto}
use Rattle.output.proofs.FillLaws.{put_then}
use Rattle.output.specs.Output.{fill, puts}

-- so many bytes that change nothing
abbrev pad : ℕ → List ℕ → List ℕ
pad zero old = []
pad (suc n) [] = 0 ∷ pad n []
pad (suc n) (o ∷ old) = o ∷ pad n old

length_pad : (n : ℕ) (old : List ℕ) → length (pad n old) ≡ n
length_pad zero old = refl
length_pad (suc n) [] = ap suc (length_pad n [])
length_pad (suc n) (o ∷ old) = ap suc (length_pad n old)

pad_same : (n : ℕ) (old : List ℕ) → old ≡ fill (pad n old) old
unfolding fill onto
pad_same zero [] = refl
pad_same zero (o ∷ old) = refl
pad_same (suc n) [] = refl
pad_same (suc n) (o ∷ old) = ap (λ (z : List ℕ). o ∷ z) (pad_same n old)

pub fill_none : (old : List ℕ) → old ≡ fill [] old
fill_none old = pad_same zero old

put_fill : (at : ℕ) (a old : List ℕ) → puts at a old ≡ fill (pad at old ++ a) old
put_fill at a old = put_then (pad at old) a old old (puts at a old) at (pad_same at old) (length_pad at old) refl

pub put_none : (at : ℕ) (old : List ℕ) → puts at [] old ≡ old
put_none at old = put_fill at [] old ∙ ap (λ (z : List ℕ). fill z old) (append-nil (pad at old)) ∙ sym (pad_same at old)

pub put_twice : (n at : ℕ) (a b old : List ℕ) → n ≡ at + length a → puts n b (puts at a old) ≡ puts at (a ++ b) old
put_twice n at a b old e =
    put_then (pad at old ++ a) b old (puts at a old) (puts n b (puts at a old)) n (put_fill at a old) (omega (arith, length-append (pad at old) a, length_pad at old)) refl
    ∙ ap (λ (z : List ℕ). fill z old) (append_assoc (pad at old) a b)
    ∙ sym (put_fill at (a ++ b) old)
