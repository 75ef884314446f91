-- The reader of texts over a rule: one text after the other, as the code splits them off, and what a list of texts that was read says of its first text.
-- Index: `read_zero`, `read_nil`, `split_none`, `split_some`, `split_length`, `Split`, `split_got` (one text); `Text`, `texts_got` (texts that were read); `provided_got`, `end_none`, `is_mapped`.
-- Assumes nothing.
use Prim.Native.Nat.{ℕ, suc, ◌+◌, ◌≤◌}
use native.Mathlib.Omega.{arith}
use mathlib.Core.Path.{◌≡◌, refl, sym, ap, ◌∙◌}
use mathlib.Core.Bool.{Bool, true, false, ◌&&◌}
use mathlib.Core.Option.{Option, none, some}
use mathlib.Core.List.{List, [], ◌∷◌}
use lib.ListN.{length, take, drop, length-drop}
use lib.Seq.{length-take-le}
use lib.Dec.{leb}
use borrow.Author.Tests.{leb-true}
use Rattle.form.proofs.Options.{none_some, some_same}
use Rattle.names.specs.Reader.{Rule, at_end, provided, split_text, read_texts, is_read}
use Rattle.form.specs.Options.{map}

-- ---- results taken apart
pub provided_got : {X : Type 0} (q : Bool) (o : Option X) (x : X) → provided q o ≡ some x → (q ≡ true) × (o ≡ some x)
provided_got true o x e = (refl, e)
provided_got false o x e = absurd (none_some e)

pub end_none : (s : List ℕ) (ts : List (List ℕ)) → at_end s ≡ some ts → ts ≡ []
end_none [] ts e = sym (some_same e)
end_none (b ∷ s) ts e = absurd (none_some e)

pub is_mapped : {X Y : Type 0} (f : X → Y) (o : Option X) → is_read (map f o) ≡ is_read o
is_mapped f none = refl
is_mapped f (some x) = refl

-- ---- one text
pub read_zero : (rule : Rule) (before : Option (List ℕ)) (s : List ℕ) → read_texts rule before 0 s ≡ at_end s
unfolding read_texts
read_zero rule before s = refl

pub read_nil : (rule : Rule) (before : Option (List ℕ)) (c : ℕ) → read_texts rule before (suc c) [] ≡ none
unfolding read_texts
read_nil rule before c = refl

read_cons : (rule : Rule) (before : Option (List ℕ)) (c n : ℕ) (s : List ℕ)
    → read_texts rule before (suc c) (n ∷ s) ≡ provided (leb n (length s) && rule before (take n s)) (map (λ ts. take n s ∷ ts) (read_texts rule (some (take n s)) c (drop n s)))
unfolding read_texts
read_cons rule before c n s = refl

-- the bytes that were split
pub record Split (n : ℕ) (s t r : List ℕ) : Type 0 where
  pub test : leb n (length s) ≡ true
  pub first : t ≡ take n s
  pub rest : r ≡ drop n s

pub split_got : (n : ℕ) (s t r : List ℕ) → split_text (n ∷ s) ≡ some (t, r) → Split n s t r
split_got n s t r e =
    let g = provided_got (leb n (length s)) (some (take n s, drop n s)) (t, r) e in
    let p = some_same g.1 in
    record { test = g.0; first = sym (ap (λ (q : List ℕ × List ℕ). q.0) p); rest = sym (ap (λ (q : List ℕ × List ℕ). q.1) p) }

pub split_length : (s t r : List ℕ) → split_text s ≡ some (t, r) → length s ≡ length t + length r + 1
split_length [] t r e = absurd (none_some e)
split_length (n ∷ s) t r e =
    let S = split_got n s t r e in
    omega (arith, leb-true n (length s) S.test, ap length S.first, ap length S.rest, length-take-le n s (leb-true n (length s) S.test), length-drop n s)

module _ (rule : Rule) (before : Option (List ℕ)) (c : ℕ) where
  pub split_none : (s : List ℕ) → split_text s ≡ none → read_texts rule before (suc c) s ≡ none
  split_none [] e = read_nil rule before c
  split_none (n ∷ s) e = read_cons rule before c n s ∙ go (leb n (length s)) refl e
    where
      go : (q : Bool) → leb n (length s) ≡ q → provided {X = List ℕ × List ℕ} q (some (take n s, drop n s)) ≡ none
          → provided (q && rule before (take n s)) (map (λ ts. take n s ∷ ts) (read_texts rule (some (take n s)) c (drop n s))) ≡ none
      go true t z = absurd (none_some (sym z))
      go false t z = refl

  pub split_some : (s t r : List ℕ) → split_text s ≡ some (t, r) → read_texts rule before (suc c) s ≡ provided (rule before t) (map (λ ts. t ∷ ts) (read_texts rule (some t) c r))
  split_some [] t r e = absurd (none_some e)
  split_some (n ∷ s) t r e =
      let S = split_got n s t r e in
      rw (S.first, S.rest) (read_cons rule before c n s ∙ ap (λ q. provided (q && rule before (take n s)) (map (λ ts. take n s ∷ ts) (read_texts rule (some (take n s)) c (drop n s)))) S.test)

-- ---- a list of texts that was read
pub record Text (rule : Rule) (before : Option (List ℕ)) (c n : ℕ) (s : List ℕ) (ts : List (List ℕ)) : Type 0 where
  pub fits : n ≤ length s
  pub ruled : rule before (take n s) ≡ true
  pub more : List (List ℕ)
  pub next : read_texts rule (some (take n s)) c (drop n s) ≡ some more
  pub is : ts ≡ take n s ∷ more

pub texts_got : (rule : Rule) (before : Option (List ℕ)) (c n : ℕ) (s : List ℕ) (ts : List (List ℕ)) → read_texts rule before (suc c) (n ∷ s) ≡ some ts → Text rule before c n s ts
texts_got rule before c n s ts e = go (leb n (length s)) (rule before (take n s)) (read_texts rule (some (take n s)) c (drop n s)) refl refl refl (sym (read_cons rule before c n s) ∙ e)
  where
    go : (p q : Bool) (o : Option (List (List ℕ))) → leb n (length s) ≡ p → rule before (take n s) ≡ q → read_texts rule (some (take n s)) c (drop n s) ≡ o
        → provided (p && q) (map (λ r. take n s ∷ r) o) ≡ some ts → Text rule before c n s ts
    go true true (some more) ep eq eo z = record { fits = leb-true n (length s) ep; ruled = eq; more = more; next = eo; is = cc }
    go true true none ep eq eo z = absurd (none_some z)
    go true false o ep eq eo z = absurd (none_some z)
    go false q o ep eq eo z = absurd (none_some z)
