-- What holds of Display (`displaying`): a simple type is shown by its name, a table keeps its order, and not all types are told apart.
-- Idea: the order of texts is transitive, so each text is above all before it; the types that are not told apart are computed.
-- Index: `Displaying`, `displaying` (the statements); `less_trans`, `less_self` (the order of texts); `OneText` (two types with one text).
-- Assumes nothing.
use Prim.Native.Nat.{ℕ, zero, suc, ◌<◌}
use native.Mathlib.Omega.{arith}
use mathlib.Core.Path.{◌≡◌, refl, sym, ap, ◌∙◌}
use mathlib.Core.Logic.{◌⊎◌, inl, inr, ⊎_elim}
use mathlib.Core.Bool.{Bool, true, false, cond, false≢true}
use mathlib.Core.Option.{Option, none, some}
use mathlib.Core.List.{List, [], ◌∷◌}
use lib.ListN.{length, take, drop}
use lib.Dec.{leb, ltb, eqb}
use borrow.Author.Tests.{lt-ltb, eq-eqb, ne_eqb, ltb-true, ltb-false, eqb-true}
use Rattle.form.specs.Trees.{Simple, leaf}
use Rattle.form.specs.Form.{num}
use Rattle.form.specs.Layout.{kind_of}
use Rattle.form.specs.Limits.{most_bytes}
use Rattle.form.specs.Outcome.{done, ◌>>=◌, ◌>>◌}
use Rattle.form.specs.Read.{front, and_then, or_else, operand, read_run, named, read_named, counted, read_function, step_type, step_t, read_t, number_of, all, read_whole}
use Rattle.order.proofs.Simple.{and_right}
use Rattle.form.proofs.Options.{none_some, some_same}
use Rattle.names.specs.BuiltInNames.{name_of}
use Rattle.names.specs.Reader.{read_texts}
use Rattle.names.proofs.Reader.{provided_got, end_none, read_zero, read_nil, texts_got}
use Rattle.display.specs.Texts.{nth, join, text, text_built, texts_of_fields, texts_of_tys}
use Rattle.display.specs.Tables.{tidy, less_text, in_table, counted_texts, read_table}
use Rattle.display.specs.Calls.{display_call}
use Rattle.display.proofs.Texts.{text_leaf}

-- ---- the order of texts
pub less_nil : (s : List ℕ) → less_text s [] ≡ false
unfolding less_text
less_nil [] = refl
less_nil (a ∷ s) = refl

pub less_begin : (b : ℕ) (t : List ℕ) → less_text [] (b ∷ t) ≡ true
unfolding less_text
less_begin b t = refl

less_empty : (s : List ℕ) → less_text s [] ≡ true → ⊥
less_empty s e = false≢true (sym (less_nil s) ∙ e)

-- by the first byte, or by the rest
less_parts : (a b : ℕ) (s t : List ℕ) → less_text (a ∷ s) (b ∷ t) ≡ true → (a < b) ⊎ ((a ≡ b) × (less_text s t ≡ true))
unfolding less_text
less_parts a b s t e = go (eqb a b) refl e
  where
    go : (q : Bool) → eqb a b ≡ q → cond q (less_text s t) (ltb a b) ≡ true → (a < b) ⊎ ((a ≡ b) × (less_text s t ≡ true))
    go true p z = inr (eqb-true a b p, z)
    go false p z = inl (ltb-true a b z)

less_byte : (a b : ℕ) (s t : List ℕ) → a < b → less_text (a ∷ s) (b ∷ t) ≡ true
unfolding less_text
less_byte a b s t h = ap (λ q. cond q (less_text s t) (ltb a b)) (ne_eqb a b (λ e. omega arith)) ∙ lt-ltb a b h

less_rest : (a b : ℕ) (s t : List ℕ) → a ≡ b → less_text s t ≡ true → less_text (a ∷ s) (b ∷ t) ≡ true
unfolding less_text
less_rest a b s t e h = ap (λ q. cond q (less_text s t) (ltb a b)) (eq-eqb a b e) ∙ h

pub less_trans : (s t u : List ℕ) → less_text s t ≡ true → less_text t u ≡ true → less_text s u ≡ true
less_trans s [] u p q = absurd (less_empty s p)
less_trans s (b ∷ t) [] p q = absurd (less_empty (b ∷ t) q)
less_trans [] (b ∷ t) (c ∷ u) p q = less_begin c u
less_trans (a ∷ s) (b ∷ t) (c ∷ u) p q =
    ⊎_elim
    (λ h. ⊎_elim (λ k. less_byte a c s u (omega arith)) (λ k. less_byte a c s u (omega (arith, k.0))) (less_parts b c t u q))
    (λ h. ⊎_elim (λ k. less_byte a c s u (omega (arith, h.0))) (λ k. less_rest a c s u (h.0 ∙ k.0) (less_trans s t u h.1 k.1)) (less_parts b c t u q))
    (less_parts a b s t p)

pub less_self : (s : List ℕ) → less_text s s ≡ true → ⊥
less_self [] e = less_empty [] e
less_self (a ∷ s) e = ⊎_elim (λ h. omega arith) (λ h. less_self s h.1) (less_parts a a s s e)

-- ---- a table keeps it
nth_none : (n : ℕ) (b : List ℕ) → nth [] n ≡ some b → ⊥
unfolding nth
nth_none n b e = none_some e

nth_first : (t b : List ℕ) (ts : List (List ℕ)) → nth (t ∷ ts) 0 ≡ some b → t ≡ b
unfolding nth
nth_first t b ts e = some_same e

pub nth_next : (t : List ℕ) (ts : List (List ℕ)) (n : ℕ) → nth (t ∷ ts) (suc n) ≡ nth ts n
unfolding nth
nth_next t ts n = refl

none_left : (before : Option (List ℕ)) (s : List ℕ) (ts : List (List ℕ)) (n : ℕ) (b : List ℕ) → read_texts in_table before 0 s ≡ some ts → nth ts n ≡ some b → ⊥
none_left before s ts n b e p = nth_none n b (sym (ap (λ x. nth x n) (end_none s ts (sym (read_zero in_table before s) ∙ e))) ∙ p)

-- all texts behind one are above it
above_all : (c : ℕ) (a s : List ℕ) (ts : List (List ℕ)) → read_texts in_table (some a) c s ≡ some ts → (n : ℕ) (b : List ℕ) → nth ts n ≡ some b → less_text a b ≡ true
above_all zero a s ts e n b p = absurd (none_left (some a) s ts n b e p)
above_all (suc c) a [] ts e n b p = absurd (none_some (sym (read_nil in_table (some a) c) ∙ e))
above_all (suc c) a (m ∷ s) ts e n b p =
    let T = texts_got in_table (some a) c m s ts e in
    go n T.more (λ k. above_all c (take m s) (drop m s) T.more T.next k b) (and_right (tidy (take m s)) (less_text a (take m s)) T.ruled) (sym (ap (λ x. nth x n) T.is) ∙ p)
  where
    go : (n : ℕ) (more : List (List ℕ)) → ((k : ℕ) → nth more k ≡ some b → less_text (take m s) b ≡ true) → less_text a (take m s) ≡ true → nth (take m s ∷ more) n ≡ some b → less_text a b ≡ true
    go zero more ih h z = ap (less_text a) (sym (nth_first (take m s) b more z)) ∙ h
    go (suc k) more ih h z = less_trans a (take m s) b h (ih k (sym (nth_next (take m s) more k) ∙ z))

in_order_lem : (c : ℕ) (before : Option (List ℕ)) (s : List ℕ) (ts : List (List ℕ)) → read_texts in_table before c s ≡ some ts
    → (i j : ℕ) (a b : List ℕ) → i < j → nth ts i ≡ some a → nth ts j ≡ some b → less_text a b ≡ true
in_order_lem zero before s ts e i j a b h p q = absurd (none_left before s ts i a e p)
in_order_lem (suc c) before [] ts e i j a b h p q = absurd (none_some (sym (read_nil in_table before c) ∙ e))
in_order_lem (suc c) before (m ∷ s) ts e i j a b h p q =
    let T = texts_got in_table before c m s ts e in
    go i j T.more h (above_all c (take m s) (drop m s) T.more T.next) (λ k l. in_order_lem c (some (take m s)) (drop m s) T.more T.next k l a b)
    (sym (ap (λ x. nth x i) T.is) ∙ p) (sym (ap (λ x. nth x j) T.is) ∙ q)
  where
    go : (i j : ℕ) (more : List (List ℕ)) → i < j → ((n : ℕ) (b : List ℕ) → nth more n ≡ some b → less_text (take m s) b ≡ true)
        → ((k l : ℕ) → k < l → nth more k ≡ some a → nth more l ≡ some b → less_text a b ≡ true)
        → nth (take m s ∷ more) i ≡ some a → nth (take m s ∷ more) j ≡ some b → less_text a b ≡ true
    go i zero more h f g y z = absurd (omega arith)
    go zero (suc l) more h f g y z = ap (λ (x : List ℕ). less_text x b) (sym (nth_first (take m s) a more y)) ∙ f l b (sym (nth_next (take m s) more l) ∙ z)
    go (suc k) (suc l) more h f g y z = g k l (omega arith) (sym (nth_next (take m s) more k) ∙ y) (sym (nth_next (take m s) more l) ∙ z)

table_ordered : (s : List ℕ) (ts : List (List ℕ)) → read_table s ≡ some ts → (i j : ℕ) (a b : List ℕ) → i < j → nth ts i ≡ some a → nth ts j ≡ some b → less_text a b ≡ true
unfolding read_table
table_ordered s ts e = go s (provided_got (leb (length s) most_bytes) (counted_texts s) ts e).1
  where
    go : (s : List ℕ) → counted_texts s ≡ some ts → (i j : ℕ) (a b : List ℕ) → i < j → nth ts i ≡ some a → nth ts j ≡ some b → less_text a b ≡ true
    go [] z = absurd (none_some z)
    go (x ∷ []) z = absurd (none_some z)
    go (x ∷ y ∷ s) z = in_order_lem _ none s ts z

table_distinct : (s : List ℕ) (ts : List (List ℕ)) → read_table s ≡ some ts → (i j : ℕ) (a b : List ℕ) → (i ≡ j → ⊥) → nth ts i ≡ some a → nth ts j ≡ some b → a ≡ b → ⊥
table_distinct s ts e i j a b d p q z = go (ltb i j) refl
  where
    go : (r : Bool) → ltb i j ≡ r → ⊥
    go true t = less_self b (ap (λ (x : List ℕ). less_text x b) (sym z) ∙ table_ordered s ts e i j a b (ltb-true i j t) p q)
    go false t = less_self a (ap (λ (x : List ℕ). less_text x a) z ∙ table_ordered s ts e j i b a (let h = ltb-false i j t in omega arith) q p)

-- ---- two types with one text
-- both types and the table are accepted, the types differ, and Display gives the same
pub record OneText (t u table : List ℕ) : Type 0 where
  pub said : List ℕ
  pub first : display_call t table 100 ≡ done said
  pub second : display_call u table 100 ≡ done said
  pub apart : t ≡ u → ⊥

head_apart : {b c : ℕ} {s t : List ℕ} → b ∷ s ≡ c ∷ t → b ≡ c
head_apart e = cc

tail_apart : {b c : ℕ} {s t : List ℕ} → b ∷ s ≡ c ∷ t → s ≡ t
tail_apart e = cc

-- the types of 9 and of 6 bytes, {0: Any, 2: Any} and {1: Any}
abbrev pub two_entries : List ℕ
two_entries = 0x2C ∷ 0x02 ∷ 0x00 ∷ 0x00 ∷ 0x00 ∷ 0x20 ∷ 0x02 ∷ 0x00 ∷ 0x20 ∷ []

abbrev pub one_entry : List ℕ
one_entry = 0x2C ∷ 0x01 ∷ 0x00 ∷ 0x01 ∷ 0x00 ∷ 0x20 ∷ []

-- the table "", ": Any, a", "a"
abbrev pub three_texts : List ℕ
three_texts = 0x03 ∷ 0x00 ∷ 0x00 ∷ 0x08 ∷ 0x3A ∷ 0x20 ∷ 0x41 ∷ 0x6E ∷ 0x79 ∷ 0x2C ∷ 0x20 ∷ 0x61 ∷ 0x01 ∷ 0x61 ∷ []

-- the types {0: {}, 1: {0: Any}} and {0: {0: {}, 1: Any}}
abbrev pub second_inside : List ℕ
second_inside = 0x2C ∷ 0x02 ∷ 0x00 ∷ 0x00 ∷ 0x00 ∷ 0x2C ∷ 0x00 ∷ 0x00 ∷ 0x01 ∷ 0x00 ∷ 0x2C ∷ 0x01 ∷ 0x00 ∷ 0x00 ∷ 0x00 ∷ 0x20 ∷ []

abbrev pub both_inside : List ℕ
both_inside = 0x2C ∷ 0x01 ∷ 0x00 ∷ 0x00 ∷ 0x00 ∷ 0x2C ∷ 0x02 ∷ 0x00 ∷ 0x00 ∷ 0x00 ∷ 0x2C ∷ 0x00 ∷ 0x00 ∷ 0x01 ∷ 0x00 ∷ 0x20 ∷ []

-- the table ">, a", "a"
abbrev pub two_texts : List ℕ
two_texts = 0x02 ∷ 0x00 ∷ 0x04 ∷ 0x3E ∷ 0x2C ∷ 0x20 ∷ 0x61 ∷ 0x01 ∷ 0x61 ∷ []

-- "context<: Any, a: Any>"
small_types : OneText two_entries one_entry three_texts
unfolding num kind_of front and_then or_else operand read_run named read_named counted read_function step_type step_t read_t number_of all read_whole ◌>>=◌ ◌>>◌ nth join text
    text_built texts_of_fields texts_of_tys less_text read_texts read_table display_call
small_types = record {
  said = 0x63 ∷ 0x6F ∷ 0x6E ∷ 0x74 ∷ 0x65 ∷ 0x78 ∷ 0x74 ∷ 0x3C ∷ 0x3A ∷ 0x20 ∷ 0x41 ∷ 0x6E ∷ 0x79 ∷ 0x2C ∷ 0x20 ∷ 0x61 ∷ 0x3A ∷ 0x20 ∷ 0x41 ∷ 0x6E ∷ 0x79 ∷ 0x3E ∷ [];
  first = refl;
  second = refl;
  apart = λ e. let z : ◌≡◌ {A = ℕ} 2 1 = head_apart (tail_apart e) in omega arith;
}

-- "context<>, a: context<>, a: context<>, a: Any>>"
small_table : OneText second_inside both_inside two_texts
unfolding num kind_of front and_then or_else operand read_run named read_named counted read_function step_type step_t read_t number_of all read_whole ◌>>=◌ ◌>>◌ nth join text
    text_built texts_of_fields texts_of_tys less_text read_texts read_table display_call
small_table = record {
  said = 0x63 ∷ 0x6F ∷ 0x6E ∷ 0x74 ∷ 0x65 ∷ 0x78 ∷ 0x74 ∷ 0x3C ∷ 0x3E ∷ 0x2C ∷ 0x20 ∷
      0x61 ∷ 0x3A ∷ 0x20 ∷ 0x63 ∷ 0x6F ∷ 0x6E ∷ 0x74 ∷ 0x65 ∷ 0x78 ∷ 0x74 ∷ 0x3C ∷ 0x3E ∷ 0x2C ∷ 0x20 ∷ 0x61 ∷ 0x3A ∷ 0x20 ∷
      0x63 ∷ 0x6F ∷ 0x6E ∷ 0x74 ∷ 0x65 ∷ 0x78 ∷ 0x74 ∷ 0x3C ∷ 0x3E ∷ 0x2C ∷ 0x20 ∷ 0x61 ∷ 0x3A ∷ 0x20 ∷ 0x41 ∷ 0x6E ∷ 0x79 ∷ 0x3E ∷ 0x3E ∷ [];
  first = refl;
  second = refl;
  apart = λ e. let z : ◌≡◌ {A = ℕ} 2 1 = head_apart (tail_apart e) in omega arith;
}

-- ---- in one place
pub record Displaying : Type 0 where
  -- Display of a simple type is its name
  pub shown : (ts : List (List ℕ)) (x : Simple) → text ts (leaf x) ≡ some (name_of x)
  -- a table that was read keeps the order of names
  pub ordered : (s : List ℕ) (ts : List (List ℕ)) → read_table s ≡ some ts → (i j : ℕ) (a b : List ℕ) → i < j → nth ts i ≡ some a → nth ts j ≡ some b → less_text a b ≡ true
  -- so different numbers have different texts
  pub distinct : (s : List ℕ) (ts : List (List ℕ)) → read_table s ≡ some ts → (i j : ℕ) (a b : List ℕ) → (i ≡ j → ⊥) → nth ts i ≡ some a → nth ts j ≡ some b → a ≡ b → ⊥
  -- Display does not tell all types apart: a text of the table may look like a part of Display. Two small types, and a small table
  pub types_alike : OneText two_entries one_entry three_texts
  pub table_alike : OneText second_inside both_inside two_texts

pub displaying : Displaying
displaying = record { shown = text_leaf; ordered = table_ordered; distinct = table_distinct; types_alike = small_types; table_alike = small_table }
