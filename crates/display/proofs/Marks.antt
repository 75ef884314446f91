-- A table that is read: how many texts it has and how long they are, the loop that marks them, and the text with a number.
-- Idea: the texts that are marked and those that are left make all.
-- Index: `texts_counted`, `beyond`, `table_named` (a table that was read); `Marking`, `marking_starts`, `marking_none`, `marking_next`, `marking_ended`, `no_table`, `too_many` (`mark_texts`);
-- `Marked`, `reads_none`, `reads_some` (what it answers); `nth_none`, `nth_there` (`Texts::get`).
-- Assumes nothing.
use Prim.Native.Nat.{ℕ, zero, suc, ◌+◌, ◌-◌, ◌*◌, ◌<◌, ◌≤◌, min}
use native.Mathlib.Omega.{arith}
use native.Mathlib.Numerals.{add-one}
use mathlib.Core.Path.{◌≡◌, refl, sym, ap, ap₂, subst, ◌∙◌}
use mathlib.Core.Logic.{◌⊎◌, inl, inr}
use mathlib.Core.Bool.{Bool, true, false, ◌&&◌}
use mathlib.Core.Option.{Option, none, some}
use mathlib.Core.List.{List, [], ◌∷◌, ◌++◌, append_assoc, append-nil}
use lib.ListN.{length, take, drop, get_or, set, length-set, length-take, length-drop, length-append}
use lib.Seq.{drop-drop, length-take-le, take-suc-set, get_or-set_same, get_or-set_other}
use lib.Dec.{leb, ltb}
use borrow.Author.Tests.{le-leb, lt-leb, leb-true, ltb-true, ltb-false}
use Rattle.std.specs.Prelude.{Option as Answer, None, Some}
use Rattle.std.proofs.lemmas.Option.{none-some, same_Some}
use Rattle.std.proofs.lemmas.List.{get_or_read, get_or-take, map-append}
use Rattle.form.specs.Limits.{most_bytes}
use Rattle.form.specs.Form.{num, num_at}
use Rattle.form.specs.Options.{map as optional}
use Rattle.form.proofs.Options.{none_some}
use Rattle.form.proofs.Runs.{rest}
use Rattle.names.specs.Reader.{Rule, provided, at_end, split_text, read_texts}
use Rattle.names.proofs.Reader.{provided_got, read_zero, read_nil, split_got, split_length, split_none, split_some, texts_got}
use Rattle.display.specs.Tables.{less_text, tidy, behind, in_table, counted_texts, read_table}
use Rattle.display.proofs.Texts.{Most}
use Rattle.display.specs.Texts.{nth}
use Rattle.display.specs.Marks.{text_from, texts_of, Marks, Reads}

-- ---- the text with a number, by its mark
pub nth_none : (a marks : List ℕ) (n : ℕ) → length marks ≤ n → nth (texts_of a marks) n ≡ none
unfolding nth
nth_none a [] n h = refl
nth_none a (m ∷ marks) zero h = absurd (omega arith)
nth_none a (m ∷ marks) (suc n) h = nth_none a marks n (omega arith)

nth_from : (a marks : List ℕ) (n : ℕ) → n < length marks → nth (texts_of a marks) n ≡ some (text_from a (get_or marks n 0))
unfolding nth
nth_from a [] n h = absurd (omega arith)
nth_from a (m ∷ marks) zero h = refl
nth_from a (m ∷ marks) (suc n) h = nth_from a marks n (omega arith)

pub nth_there : (a marks : List ℕ) (n m at k : ℕ) → n < length marks → m ≡ get_or marks n m → at ≡ m → k ≡ get_or a at 0
    → nth (texts_of a marks) n ≡ some (take (at + 1 + k - (at + 1)) (drop (at + 1) a))
nth_there a marks n m at k h e p f =
    let z : get_or a at 0 ≡ at + 1 + k - (at + 1) = omega arith in
    nth_from a marks n h ∙ ap (λ (i : ℕ). some (text_from a i)) (sym (get_or_read marks n m h e 0) ∙ sym p) ∙ ap (λ (j : ℕ). some (take j (drop (at + 1) a))) z

-- ---- as many as were counted, and none longer than the bytes
pub texts_counted : (rule : Rule) (before : Option (List ℕ)) (c : ℕ) (s : List ℕ) (ts : List (List ℕ)) → read_texts rule before c s ≡ some ts → length ts ≡ c
unfolding read_texts
texts_counted rule before zero [] ts e = let p : ts ≡ [] = cc in ap length p
texts_counted rule before zero (b ∷ s) ts e = absurd (none_some e)
texts_counted rule before (suc c) [] ts e = absurd (none_some e)
texts_counted rule before (suc c) (n ∷ s) ts e =
    let F = texts_got rule before c n s ts e in
    ap length F.is ∙ ap suc (texts_counted rule (some (take n s)) c (drop n s) F.more F.next)

pub beyond : (ts : List (List ℕ)) (n : ℕ) → length ts ≤ n → nth ts n ≡ none
unfolding nth
beyond [] n h = refl
beyond (t ∷ ts) zero h = absurd (omega arith)
beyond (t ∷ ts) (suc n) h = beyond ts n (omega arith)

all_most : (rule : Rule) (m : ℕ) (before : Option (List ℕ)) (c : ℕ) (s : List ℕ) (ts : List (List ℕ)) → read_texts rule before c s ≡ some ts → length s ≤ m → (n : ℕ) → Most m (nth ts n)
unfolding read_texts nth
all_most rule m before zero [] ts e h n = let p : [] ≡ ts = cc in subst (λ (z : List (List ℕ)). Most m (nth z n)) p tt
all_most rule m before zero (b ∷ s) ts e h n = absurd (none_some e)
all_most rule m before (suc c) [] ts e h n = absurd (none_some e)
all_most rule m before (suc c) (k ∷ s) ts e h n =
    let F = texts_got rule before c k s ts e in
    subst (λ (z : List (List ℕ)). Most m (nth z n)) (sym F.is) (go F.more (λ i. all_most rule m (some (take k s)) c (drop k s) F.more F.next (simp length-drop (omega arith)) i) n)
  where
    go : (more : List (List ℕ)) → ((i : ℕ) → Most m (nth more i)) → (i : ℕ) → Most m (nth (take k s ∷ more) i)
    go more ih zero = simp length-take (omega arith)
    go more ih (suc i) = ih i

-- ---- a table has at most 8,192 texts: behind the first none is empty
not_both : (q : Bool) → (q && false) ≡ true → ⊥
not_both false e = let z : ◌≡◌ {A = ℕ} 0 1 = cc in omega arith
not_both true e = let z : ◌≡◌ {A = ℕ} 0 1 = cc in omega arith

some_byte : (b t : List ℕ) → in_table (some b) t ≡ true → 1 ≤ length t
unfolding less_text
some_byte b [] e = absurd (not_both (tidy []) e)
some_byte b (x ∷ t) e = omega arith

two_each : (b : List ℕ) (c : ℕ) (s : List ℕ) (ts : List (List ℕ)) → read_texts in_table (some b) c s ≡ some ts → 2 * c ≤ length s
two_each b zero s ts e = omega arith
two_each b (suc c) [] ts e = absurd (none_some (sym (read_nil in_table (some b) c) ∙ e))
two_each b (suc c) (n ∷ s) ts e =
    let F = texts_got in_table (some b) c n s ts e in
    omega (arith, F.fits, two_each (take n s) c (drop n s) F.more F.next, some_byte b (take n s) F.ruled, length-take n s, length-drop n s)

two_but_first : (c : ℕ) (s : List ℕ) (ts : List (List ℕ)) → read_texts in_table none c s ≡ some ts → 2 * c ≤ length s + 1
two_but_first zero s ts e = omega arith
two_but_first (suc c) [] ts e = absurd (none_some (sym (read_nil in_table none c) ∙ e))
two_but_first (suc c) (n ∷ s) ts e =
    let F = texts_got in_table none c n s ts e in
    omega (arith, two_each (take n s) c (drop n s) F.more F.next, length-drop n s)

-- ---- a table's bytes
num_two : (a b : ℕ) → num (a ∷ b ∷ []) ≡ a + b * 256
unfolding num
num_two a b = omega arith

table_is : (a : List ℕ) → length a ≤ most_bytes → 2 ≤ length a → read_table a ≡ read_texts in_table none (num_at 2 0 a) (drop 2 a)
unfolding read_table
table_is [] h k = absurd (omega arith)
table_is (x ∷ []) h k = absurd (omega arith)
table_is (x ∷ y ∷ s) h k =
    ap (λ q. provided q (read_texts in_table none (x + y * 256) s)) (le-leb (suc (suc (length s))) most_bytes h) ∙ ap (λ (n : ℕ). read_texts in_table none n s) (sym (num_two x y))

table_got : (a : List ℕ) (ts : List (List ℕ)) → read_table a ≡ some ts → (length a ≤ most_bytes) × (2 ≤ length a)
unfolding read_table
table_got a ts e = let g = provided_got (leb (length a) most_bytes) (counted_texts a) ts e in (leb-true (length a) most_bytes g.0, go a g.1)
  where
    go : (a : List ℕ) → counted_texts a ≡ some ts → 2 ≤ length a
    go [] e = absurd (none_some e)
    go (x ∷ []) e = absurd (none_some e)
    go (x ∷ y ∷ s) e = omega arith

-- a text of a table
pub table_named : (a : List ℕ) (ts : List (List ℕ)) → read_table a ≡ some ts → (n : ℕ) → Most most_bytes (nth ts n)
table_named a ts e n =
    let g = table_got a ts e in
    all_most in_table most_bytes none (num_at 2 0 a) (drop 2 a) ts (sym (table_is a g.0 g.1) ∙ e) (omega (arith, length-drop 2 a, g.0)) n

-- ---- the loop
-- the text whose length byte stands at `at`
record Found (a : List ℕ) (at : ℕ) (t b : List ℕ) : Type 0 where
  is : text_from a at ≡ t
  pub fits : at + 1 + get_or a at 0 ≤ length a
  next : drop (at + 1 + length t) a ≡ b

byte_at : (a : List ℕ) (at n : ℕ) (s : List ℕ) → drop at a ≡ n ∷ s → (get_or a at 0 ≡ n) × (drop (suc at) a ≡ s)
byte_at [] zero n s e = absurd (let z : ◌≡◌ {A = ℕ} 0 1 = cc in omega arith)
byte_at [] (suc at) n s e = absurd (let z : ◌≡◌ {A = ℕ} 0 1 = cc in omega arith)
byte_at (x ∷ a) zero n s e = (cc, cc)
byte_at (x ∷ a) (suc at) n s e = byte_at a at n s e

found : (a : List ℕ) (at : ℕ) (rest t b : List ℕ) → drop at a ≡ rest → split_text rest ≡ some (t, b) → Found a at t b
found a at [] t b e f = absurd (none_some f)
found a at (n ∷ s) t b e f =
    let g = byte_at a at n s e in
    let S = split_got n s t b f in
    let d : drop (at + 1) a ≡ s = ap (λ (k : ℕ). drop k a) (add-one at) ∙ g.1 in
    let l : length t ≡ n = ap length S.first ∙ length-take-le n s (leb-true n (length s) S.test) in
    record {
      is = ap₂ take g.0 d ∙ sym S.first;
      fits = omega (arith, g.0, ap length d, length-drop (at + 1) a, leb-true n (length s) S.test, ap length e, length-drop at a);
      next = sym (drop-drop (length t) (at + 1) a) ∙ ap₂ drop l d ∙ sym S.rest;
    }

behind_next : (i : ℕ) (t : List ℕ) → behind (i + 1) t ≡ some t
behind_next i t = ap (λ (k : ℕ). behind k t) (add-one i)

one_more : (xs : List (List ℕ)) (t : List ℕ) (o : Option (List (List ℕ))) → optional (λ ts. xs ++ ts) (optional (λ ts. t ∷ ts) o) ≡ optional (λ ts. (xs ++ (t ∷ [])) ++ ts) o
one_more xs t none = refl
one_more xs t (some ts) = ap some (sym (append_assoc xs (t ∷ []) ts))

-- the texts up to i are marked, `before` is the last of them, and `rest` is left
pub record Marking (a old marks before rest : List ℕ) (left i : ℕ) : Type 0 where
  pub texts : List (List ℕ)
  pub same : read_table a ≡ optional (λ ts. texts ++ ts) (read_texts in_table (behind i before) left rest)
  pub long : length texts ≡ i
  pub marked : texts_of a (take i marks) ≡ texts
  pub inside : (k : ℕ) → k < i → get_or marks k 0 + 1 + get_or a (get_or marks k 0) 0 ≤ length a
  pub kept : length marks ≡ length old
  pub short : length rest ≤ length a
  pub here : drop (length a - length rest) a ≡ rest

pub marking_starts : (a marks before : List ℕ) (n : ℕ) → length a ≤ most_bytes → 2 ≤ length a → n ≡ num_at 2 0 a → Marking a marks marks before (take (length a - 2) (drop 2 a)) (n - 0) 0
marking_starts a marks before n h k e =
    let z : n - 0 ≡ num_at 2 0 a = omega arith in
    let y : length a - length (drop 2 a) ≡ 2 = omega (arith, length-drop 2 a) in
    rw (rest a 2)
    (record {
      texts = [];
      same = table_is a h k ∙ ap (λ (j : ℕ). read_texts in_table none j (drop 2 a)) (sym z) ∙ sym (all_left (read_texts in_table none (n - 0) (drop 2 a)));
      long = refl;
      marked = refl;
      inside = λ j l. absurd (omega arith);
      kept = refl;
      short = omega (arith, length-drop 2 a);
      here = ap (λ (j : ℕ). drop j a) y;
    })
  where
    all_left : (o : Option (List (List ℕ))) → optional (λ ts. [] ++ ts) o ≡ o
    all_left none = refl
    all_left (some ts) = refl

nothing : (o : Option (List (List ℕ))) (a marks : List ℕ) (r : Answer ℕ) → o ≡ none → r ≡ None → Reads o a marks r
unfolding Reads
nothing o a marks r e h = rw e h

-- too few bytes, or too many
pub no_table : (a marks : List ℕ) → (length a < 2) ⊎ ((2 ≤ length a) × (most_bytes < length a)) → (r : Answer ℕ) → r ≡ None → Reads (read_table a) a marks r
unfolding read_table
no_table [] marks h r e = nothing (read_table []) [] marks r refl e
no_table (x ∷ []) marks h r e = nothing (read_table (x ∷ [])) (x ∷ []) marks r refl e
no_table (x ∷ y ∷ a) marks (inl h) r e = absurd (omega arith)
no_table (x ∷ y ∷ a) marks (inr h) r e =
    nothing (read_table (x ∷ y ∷ a)) (x ∷ y ∷ a) marks r (ap (λ q. provided q (counted_texts (x ∷ y ∷ a))) (lt-leb (length (x ∷ y ∷ a)) most_bytes h.1)) e

module _ {a old marks before rest : List ℕ} {left i : ℕ} (Q : Marking a old marks before rest left i) where
  none_read : read_texts in_table (behind i before) left rest ≡ none → (r : Answer ℕ) → r ≡ None → Reads (read_table a) a marks r
  none_read e r h = nothing (read_table a) a marks r (Q.same ∙ ap (optional (λ ts. Q.texts ++ ts)) e) h

  pub marking_none : 0 < left → split_text rest ≡ none → (r : Answer ℕ) → r ≡ None → Reads (read_table a) a marks r
  marking_none h e =
      let z : left ≡ suc (left - 1) = omega arith in
      none_read (ap (λ (k : ℕ). read_texts in_table (behind i before) k rest) z ∙ split_none in_table (behind i before) (left - 1) rest e)

  module _ (t b : List ℕ) (e : split_text rest ≡ some (t, b)) (q : Bool) (eq : q ≡ in_table (behind i before) t) where
    next_read : (c : ℕ) → left ≡ suc c → read_texts in_table (behind i before) left rest ≡ provided q (optional (λ ts. t ∷ ts) (read_texts in_table (some t) c b))
    next_read c z = ap (λ (k : ℕ). read_texts in_table (behind i before) k rest) z ∙ split_some in_table (behind i before) c rest t b e
        ∙ ap (λ p. provided p (optional (λ ts. t ∷ ts) (read_texts in_table (some t) c b))) (sym eq)

    pub marking_bad : 0 < left → q ≡ false → (r : Answer ℕ) → r ≡ None → Reads (read_table a) a marks r
    marking_bad h f = none_read (next_read (left - 1) (omega arith) ∙ ap (λ p. provided p (optional (λ ts. t ∷ ts) (read_texts in_table (some t) (left - 1) b))) f)

    pub marking_next : (c : ℕ) → left ≡ suc c → q ≡ true → i < length marks → (at : ℕ) → at ≡ length a - length rest → Marking a old (set marks i at) t b c (i + 1)
    marking_next c z f r at p =
        let F = found a at rest t b (ap (λ (k : ℕ). drop k a) p ∙ Q.here) e in
        let l = split_length rest t b e in
        let y : length a - length b ≡ at + 1 + length t = omega (arith, Q.short) in
        record {
          texts = Q.texts ++ (t ∷ []);
          same = Q.same ∙ ap (optional (λ ts. Q.texts ++ ts)) (next_read c z ∙ ap (λ w. provided w (optional (λ ts. t ∷ ts) (read_texts in_table (some t) c b))) f)
              ∙ one_more Q.texts t (read_texts in_table (some t) c b)
              ∙ ap (λ o. optional (λ ts. (Q.texts ++ (t ∷ [])) ++ ts) (read_texts in_table o c b)) (sym (behind_next i t));
          long = omega (arith, length-append Q.texts (t ∷ []), Q.long);
          marked = ap (λ (k : ℕ). texts_of a (take k (set marks i at))) (add-one i) ∙ ap (texts_of a) (take-suc-set marks i at r)
              ∙ map-append (text_from a) (take i marks) (at ∷ []) ∙ ap₂ (λ xs x. xs ++ (x ∷ [])) Q.marked F.is;
          inside = λ k h. go k h (ltb k i) refl;
          kept = length-set marks i at ∙ Q.kept;
          short = omega (arith, Q.short);
          here = ap (λ (k : ℕ). drop k a) y ∙ F.next;
        }
      where
        go : (k : ℕ) → k < i + 1 → (w : Bool) → ltb k i ≡ w → get_or (set marks i at) k 0 + 1 + get_or a (get_or (set marks i at) k 0) 0 ≤ length a
        go k h true w =
            let less = ltb-true k i w in
            subst (λ (j : ℕ). j + 1 + get_or a j 0 ≤ length a) (sym (get_or-set_other marks i k at 0 (λ x. omega arith))) (Q.inside k less)
        go k h false w =
            let same : i ≡ k = omega (arith, ltb-false k i w) in
            let F = found a at rest t b (ap (λ (k : ℕ). drop k a) p ∙ Q.here) e in
            subst (λ (n : ℕ). get_or (set marks i at) n 0 + 1 + get_or a (get_or (set marks i at) n 0) 0 ≤ length a) same
            (subst (λ (j : ℕ). j + 1 + get_or a j 0 ≤ length a) (sym (get_or-set_same marks i at 0 r)) F.fits)

  ended : left ≡ 0 → read_table a ≡ optional (λ ts. Q.texts ++ ts) (at_end rest)
  ended z = Q.same ∙ ap (λ (k : ℕ). optional (λ ts. Q.texts ++ ts) (read_texts in_table (behind i before) k rest)) z ∙ ap (optional (λ ts. Q.texts ++ ts)) (read_zero in_table (behind i before) rest)

  pub marking_over : left ≡ 0 → (length rest ≡ 0 → ⊥) → (r : Answer ℕ) → r ≡ None → Reads (read_table a) a marks r
  marking_over z d r h = nothing (read_table a) a marks r (ended z ∙ go rest d) h
    where
      go : (s : List ℕ) → (length s ≡ 0 → ⊥) → optional (λ ts. Q.texts ++ ts) (at_end s) ≡ none
      go [] d = absurd (d refl)
      go (b ∷ s) d = refl

  pub marking_ended : left ≡ 0 → length rest ≡ 0 → i ≤ length marks → length a ≤ most_bytes → (r : Answer ℕ) → r ≡ Some i → Reads (read_table a) a marks r
  unfolding Reads
  marking_ended z d l m r h =
      rw (ended z ∙ go rest d)
      (rw (append-nil Q.texts, Q.long) (
        h,
        l,
        Q.marked,
        record {
          short = m;
          inside = λ k g. let y : k < i = omega (arith, length-take i marks) in subst (λ (j : ℕ). j + 1 + get_or a j 0 ≤ length a) (sym (get_or-take i marks k 0 y)) (Q.inside k y);
        },
      ))
    where
      go : (s : List ℕ) → length s ≡ 0 → optional (λ ts. Q.texts ++ ts) (at_end s) ≡ some (Q.texts ++ [])
      go [] d = refl
      go (b ∷ s) d = absurd (omega arith)

-- ---- more texts than a table can have
pub too_many : (a marks : List ℕ) (n : ℕ) → length a ≤ most_bytes → 2 ≤ length a → n ≡ num_at 2 0 a → min (num_at 2 0 a) 8192 ≤ length marks → length marks < n → (r : Answer ℕ) → r ≡ None
    → Reads (read_table a) a marks r
too_many a marks n h k e w l r z = nothing (read_table a) a marks r (go (read_table a) refl) z
  where
    go : (o : Option (List (List ℕ))) → read_table a ≡ o → o ≡ none
    go none p = refl
    go (some ts) p = absurd (omega (arith, two_but_first (num_at 2 0 a) (drop 2 a) ts (sym (table_is a h k) ∙ p), length-drop 2 a))

-- ---- what was read
pub record Marked (o : Option (List (List ℕ))) (a marks : List ℕ) (n : ℕ) : Type 0 where
  pub long : n ≤ length marks
  pub is : o ≡ some (texts_of a (take n marks))
  pub good : Marks a (take n marks)

module _ (o : Option (List (List ℕ))) (a marks : List ℕ) (r : Answer ℕ) (R : Reads o a marks r) where
  pub reads_none : r ≡ None → o ≡ none
  unfolding Reads
  reads_none e = go o R
    where
      go : (o : Option (List (List ℕ))) → Reads o a marks r → o ≡ none
      go none h = refl
      go (some ts) h = absurd (none-some (length ts) (sym e ∙ h.0))

  pub reads_some : (n : ℕ) → r ≡ Some n → Marked o a marks n
  unfolding Reads
  reads_some n e = go o R
    where
      go : (o : Option (List (List ℕ))) → Reads o a marks r → Marked o a marks n
      go none h = absurd (none-some n (sym h ∙ e))
      go (some ts) h =
          let k : length ts ≡ n = same_Some (length ts) n (sym h.0 ∙ e) in
          record { long = omega (arith, h.1); is = ap some (sym h.2 ∙ ap (λ (j : ℕ). texts_of a (take j marks)) k); good = subst (λ (j : ℕ). Marks a (take j marks)) k h.3 }
