-- trim takes the blanks at both ends and nothing else (`trimming`); Name::new is its trimmed parts one behind the other (`joining`). By induction on the bytes, and on the parts.
-- Assumes nothing.
use Prim.Native.Nat.{ℕ, suc, ◌-◌}
use native.Mathlib.Omega.{arith}
use mathlib.Core.Path.{◌≡◌, refl, sym, ap, subst, ◌∙◌}
use mathlib.Core.Bool.{Bool, true, false, cond, not, ◌&&◌}
use mathlib.Core.List.{List, [], ◌∷◌, ◌++◌, append_assoc}
use lib.ListN.{length, get_or, length-append}
use borrow.Author.Tests.{lt-ltb}
use Rattle.names.specs.Names.{blank, trim_start, keep, trim_end, trim, is_mark, is_empty, parted, space, added, pushed, name_new}
use Rattle.names.specs.Reader.{first, last}
use Rattle.names.specs.Laws.{blanks, Around, Trimming, between, Joining}
use Rattle.names.proofs.Trimming.{start_more, start_kept}

-- ---- blanks
module _ (b : ℕ) (s : List ℕ) where
  more_blanks : blank b ≡ true → blanks s ≡ true → blanks (b ∷ s) ≡ true
  unfolding blanks
  more_blanks e h = ap (λ q. q && blanks s) e ∙ h

  first_blank : blanks (b ∷ s) ≡ true → blank b ≡ true
  unfolding blanks
  first_blank h = grind arith

  other_blanks : blanks (b ∷ s) ≡ true → blanks s ≡ true
  unfolding blanks
  other_blanks h = grind arith

-- ---- what is taken
record Front (s t : List ℕ) : Type 0 where
  front : List ℕ
  whole : s ≡ front ++ t
  blank_all : blanks front ≡ true

no_front : (s : List ℕ) → Front s s
unfolding blanks
no_front s = record { front = []; whole = refl; blank_all = refl }

at_front : (s : List ℕ) → Front s (trim_start s)
unfolding trim_start
at_front [] = no_front []
at_front (b ∷ s) = go (blank b) refl (at_front s)
  where
    go : (q : Bool) → blank b ≡ q → Front s (trim_start s) → Front (b ∷ s) (cond q (trim_start s) (b ∷ s))
    go true e F = record { front = b ∷ F.front; whole = ap (λ (x : List ℕ). b ∷ x) F.whole; blank_all = more_blanks b F.front e F.blank_all }
    go false e F = no_front (b ∷ s)

record Back (s t : List ℕ) : Type 0 where
  back : List ℕ
  whole : s ≡ t ++ back
  blank_all : blanks back ≡ true

at_back : (s : List ℕ) → Back s (trim_end s)
unfolding trim_end blanks
at_back [] = record { back = []; whole = refl; blank_all = refl }
at_back (b ∷ s) = go (trim_end s) (at_back s)
  where
    alone : (q : Bool) → blank b ≡ q → Back s [] → Back (b ∷ s) (cond q [] (b ∷ []))
    alone true e B = record { back = b ∷ B.back; whole = ap (λ (x : List ℕ). b ∷ x) B.whole; blank_all = more_blanks b B.back e B.blank_all }
    alone false e B = record { back = B.back; whole = ap (λ (x : List ℕ). b ∷ x) B.whole; blank_all = B.blank_all }

    go : (t : List ℕ) → Back s t → Back (b ∷ s) (keep b t)
    go [] B = alone (blank b) refl B
    go (c ∷ t) B = record { back = B.back; whole = ap (λ (x : List ℕ). b ∷ x) B.whole; blank_all = B.blank_all }

around : (s : List ℕ) → Around s
around s =
    let F = at_front s in
    let B = at_back (trim_start s) in
    record {
      front = F.front;
      back = B.back;
      whole = F.whole ∙ ap (λ (x : List ℕ). F.front ++ x) B.whole;
      front_blank = F.blank_all;
      back_blank = B.blank_all;
      place = omega (arith, ap length F.whole, length-append F.front (trim_start s));
    }

-- ---- what is left
start_first : (s : List ℕ) → blank (first (trim_start s)) ≡ false
unfolding trim_start
start_first [] = refl
start_first (b ∷ s) = go (blank b) refl (start_first s)
  where
    go : (q : Bool) → blank b ≡ q → blank (first (trim_start s)) ≡ false → blank (first (cond q (trim_start s) (b ∷ s))) ≡ false
    go true e h = h
    go false e h = e

end_first : (s : List ℕ) → blank (first s) ≡ false → blank (first (trim_end s)) ≡ false
unfolding trim_end
end_first [] h = refl
end_first (b ∷ s) h = go (trim_end s)
  where
    go : (t : List ℕ) → blank (first (keep b t)) ≡ false
    go [] = ap (λ q. blank (first (cond q [] (b ∷ [])))) h ∙ h
    go (c ∷ t) = h

last_later : (b c : ℕ) (t : List ℕ) → last (b ∷ c ∷ t) ≡ last (c ∷ t)
last_later b c t = let z : suc (suc (length t)) - 1 ≡ suc (suc (length t) - 1) = omega arith in ap (λ (k : ℕ). get_or (b ∷ c ∷ t) k 0) z

end_last : (s : List ℕ) → blank (last (trim_end s)) ≡ false
unfolding trim_end
end_last [] = refl
end_last (b ∷ s) = go (trim_end s) (end_last s)
  where
    alone : (q : Bool) → blank b ≡ q → blank (last (cond q [] (b ∷ []))) ≡ false
    alone true e = refl
    alone false e = e

    go : (t : List ℕ) → blank (last t) ≡ false → blank (last (keep b t)) ≡ false
    go [] h = alone (blank b) refl
    go (c ∷ t) h = ap blank (last_later b c t) ∙ h

-- ---- nothing else
start_blanks : (f s : List ℕ) → blanks f ≡ true → trim_start (f ++ s) ≡ trim_start s
start_blanks [] s h = refl
start_blanks (b ∷ f) s h = start_more b (f ++ s) (first_blank b f h) ∙ start_blanks f s (other_blanks b f h)

all_blanks : (k : List ℕ) → blanks k ≡ true → trim_end k ≡ []
unfolding trim_end
all_blanks [] h = refl
all_blanks (b ∷ k) h = ap (keep b) (all_blanks k (other_blanks b k h)) ∙ ap (λ q. cond q [] (b ∷ [])) (first_blank b k h)

end_blanks : (s k : List ℕ) → blanks k ≡ true → trim_end (s ++ k) ≡ trim_end s
unfolding trim_end
end_blanks [] k h = all_blanks k h
end_blanks (b ∷ s) k h = ap (keep b) (end_blanks s k h)

end_same : (t : List ℕ) → blank (last t) ≡ false → trim_end t ≡ t
unfolding trim_end
end_same [] h = refl
end_same (b ∷ []) h = ap (λ q. cond q [] (b ∷ [])) h
end_same (b ∷ c ∷ t) h = ap (keep b) (end_same (c ∷ t) (ap blank (sym (last_later b c t)) ∙ h))

start_all : (k : List ℕ) → blanks k ≡ true → trim_start k ≡ []
unfolding trim_start
start_all [] h = refl
start_all (b ∷ k) h = start_more b k (first_blank b k h) ∙ start_all k (other_blanks b k h)

start_same : (t k : List ℕ) → blanks k ≡ true → blank (first t) ≡ false → trim_end (trim_start (t ++ k)) ≡ trim_end t
start_same [] k h e = ap trim_end (start_all k h)
start_same (b ∷ t) k h e = ap trim_end (start_kept b (t ++ k) e) ∙ end_blanks (b ∷ t) k h

only : (front t back : List ℕ) → blanks front ≡ true → blanks back ≡ true → blank (first t) ≡ false → blank (last t) ≡ false → trim (front ++ (t ++ back)) ≡ t
only front t back hf hb e l = ap trim_end (start_blanks front (t ++ back) hf) ∙ start_same t back hb e ∙ end_same t l

pub trimming : Trimming
trimming = record { around = around; first_kept = λ s. end_first (trim_start s) (start_first s); last_kept = λ s. end_last (trim_start s); only = only }

-- ---- the parts
behind_first : (i : ℕ) (p : Bool) (s : List ℕ) → (not p && (not (is_mark s) && not (is_empty s))) ≡ parted (suc i) p s
behind_first i p s = sym (ap (λ q. q && (not p && (not (is_mark s) && not (is_empty s)))) (lt-ltb 0 (suc i) (omega arith)))

pushed_more : (i : ℕ) (b : Bool) (r : List ℕ) (ps : List (List ℕ)) (p q : List ℕ) → pushed i b r (ps ++ (p ∷ q ∷ [])) ≡ pushed i b r (ps ++ (p ∷ [])) ++ (between (trim p) (trim q) ++ trim q)
unfolding pushed
pushed_more i b r [] p q = ap (λ z. (r ++ added i b (trim p)) ++ (space z ++ trim q)) (sym (behind_first i (is_mark (trim p)) (trim q)))
pushed_more i b r (x ∷ ps) p q = pushed_more (suc i) (is_mark (trim x)) (r ++ added i b (trim x)) ps p q

one_part : (p : List ℕ) → name_new (p ∷ []) ≡ trim p
unfolding pushed
one_part p = refl

no_part : name_new [] ≡ []
unfolding pushed
no_part = refl

empty_first : name_new ([] ∷ (0x62 ∷ []) ∷ []) ≡ 0x20 ∷ 0x62 ∷ []
unfolding pushed trim_start trim_end
empty_first = refl

-- by the parts in front of the last two
only_joined : (f : List (List ℕ) → List ℕ) → f [] ≡ [] → ((p : List ℕ) → f (p ∷ []) ≡ trim p)
    → ((ps : List (List ℕ)) (p q : List ℕ) → f (ps ++ (p ∷ q ∷ [])) ≡ f (ps ++ (p ∷ [])) ++ (between (trim p) (trim q) ++ trim q)) → (ps : List (List ℕ)) → f ps ≡ name_new ps
only_joined f z o m [] = z ∙ sym no_part
only_joined f z o m (p ∷ ps) = go [] p ps (o p ∙ sym (one_part p))
  where
    go : (front : List (List ℕ)) (p : List ℕ) (ps : List (List ℕ)) → f (front ++ (p ∷ [])) ≡ name_new (front ++ (p ∷ [])) → f (front ++ (p ∷ ps)) ≡ name_new (front ++ (p ∷ ps))
    go front p [] e = e
    go front p (q ∷ ps) e =
        let more : f (front ++ (p ∷ q ∷ [])) ≡ name_new (front ++ (p ∷ q ∷ [])) = m front p q
        ∙ ap (λ (x : List ℕ). x ++ (between (trim p) (trim q) ++ trim q)) e ∙ sym (pushed_more 0 false [] front p q) in
        subst (λ (xs : List (List ℕ)). f xs ≡ name_new xs) (append_assoc front (p ∷ []) (q ∷ ps))
        (go (front ++ (p ∷ [])) q ps (subst (λ (xs : List (List ℕ)). f xs ≡ name_new xs) (sym (append_assoc front (p ∷ []) (q ∷ []))) more))

pub joining : Joining
joining = record {
  no_part = no_part;
  one_part = one_part;
  two_parts = λ p q. pushed_more 0 false [] [] p q ∙ ap (λ (x : List ℕ). x ++ (between (trim p) (trim q) ++ trim q)) (one_part p);
  one_more = λ ps p q. pushed_more 0 false [] ps p q;
  only = only_joined;
  empty_first = empty_first;
}
