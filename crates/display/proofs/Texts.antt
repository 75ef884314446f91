-- The texts of trees: a join as a run with a gap in front of each entry, what is still to come of it, and how long a text gets.
-- Idea: equations for one more entry, and an induction on the tree for the length.
-- Index: `after`, `fields_all`, `sig_all` (what is still to come); `one_field`, `no_name`, `no_type`, `no_more` (an entry); `one_param`, `no_param`, `one_result`, `no_result` (parameters);
-- `text_leaf`, `text_list`, `text_range`, `text_context`, `text_function` (by the kind); `Most`, `text_most`, `fields_most`, `sig_most` (lengths).
-- Assumes nothing.
use Prim.Native.Nat.{ℕ, zero, suc, ◌+◌, ◌*◌, ◌≤◌}
use mathlib.Core.Path.{◌≡◌, refl, sym, ap, ap₂, subst, ◌∙◌}
use mathlib.Core.Option.{Option, none, some}
use mathlib.Core.List.{List, [], ◌∷◌, ◌++◌, append_assoc, append-nil}
use native.Mathlib.Omega.{arith}
use native.Mathlib.Numerals.{add-one}
use lib.ListN.{length, length-append}
use Rattle.form.specs.Limits.{most_bytes}
use Rattle.form.specs.Trees.{Simple, any, boolean, number, string, date, time, date_time, days_and_time, years_and_months, null, Ty, leaf, built, Built, list, range, context, function}
use Rattle.form.specs.Trees.{Fields, no_fields, field, Tys, no_params, param}
use Rattle.order.specs.Size.{size, size_built, size_fields, size_tys}
use Rattle.form.proofs.Options.{none_some, map_twice}
use Rattle.types.specs.At.{Sig, sig, cons, fun_of, size_sig}
use Rattle.names.specs.BuiltInNames.{name_of}
use Rattle.display.specs.Texts.{nth, join, close, comma, colon, arrow, list_open, range_open, context_open, function_open}
use Rattle.display.specs.Texts.{within, entry_text, signature_text, text, text_built, texts_of_fields, texts_of_tys, text_fields, text_sig}
use Rattle.display.specs.Writing.{gap, label}
use Rattle.form.specs.Options.{map, both}

-- ---- a join, from entry i on
-- each with a comma in front of it
unfoldable pub commas : List (List ℕ) → List ℕ
commas [] = []
commas (x ∷ xs) = comma ++ (x ++ commas xs)

abbrev pub from : ℕ → List (List ℕ) → List ℕ
from zero [] = []
from zero (x ∷ xs) = x ++ commas xs
from (suc i) xs = commas xs

from_none : (i : ℕ) → from i [] ≡ []
unfolding commas
from_none zero = refl
from_none (suc i) = refl

from_next : (i : ℕ) (x : List ℕ) (xs : List (List ℕ)) → from i (x ∷ xs) ≡ gap i ++ (x ++ from (i + 1) xs)
unfolding commas
from_next zero x xs = refl
from_next (suc i) x xs = ap (λ (k : ℕ). comma ++ (x ++ from k xs)) (sym (add-one (suc i)))

join_commas : (x : List ℕ) (xs : List (List ℕ)) → join (x ∷ xs) ≡ x ++ commas xs
unfolding join commas
join_commas x [] = sym (append-nil x)
join_commas x (y ∷ xs) = ap (λ (z : List ℕ). x ++ (comma ++ z)) (join_commas y xs)

join_from : (xs : List (List ℕ)) → join xs ≡ from 0 xs
unfolding join
join_from [] = refl
join_from (x ∷ xs) = join_commas x xs

-- ---- what is still to come of the entries of a context type, and of a signature
unfoldable pub fields_from : ℕ → List (List ℕ) → Fields → Option (List ℕ)
fields_from i ts fs = map (from i) (texts_of_fields ts fs)

unfoldable pub sig_from : ℕ → List (List ℕ) → Sig → Option (List ℕ)
sig_from i ts (sig ps r) = both (λ xs x. from i xs ++ (arrow ++ x)) (texts_of_tys ts ps) (text ts r)

-- behind what was written
abbrev pub after : List ℕ → Option (List ℕ) → Option (List ℕ)
after d o = map (λ x. d ++ x) o

join_mapped : (o : Option (List (List ℕ))) → map (from 0) o ≡ map join o
join_mapped none = refl
join_mapped (some xs) = ap some (sym (join_from xs))

after_none : (o : Option (List ℕ)) → after [] o ≡ o
after_none none = refl
after_none (some x) = refl

pub fields_all : (ts : List (List ℕ)) (fs : Fields) → after [] (fields_from 0 ts fs) ≡ text_fields ts fs
unfolding fields_from text_fields
fields_all ts fs = after_none (map (from 0) (texts_of_fields ts fs)) ∙ join_mapped (texts_of_fields ts fs)

join_sig : (o : Option (List (List ℕ))) (p : Option (List ℕ)) → both (λ xs x. from 0 xs ++ (arrow ++ x)) o p ≡ both signature_text o p
join_sig none p = refl
join_sig (some xs) none = refl
join_sig (some xs) (some x) = ap (λ (z : List ℕ). some (z ++ (arrow ++ x))) (sym (join_from xs))

pub sig_all : (ts : List (List ℕ)) (f : Sig) → after [] (sig_from 0 ts f) ≡ text_sig ts f
unfolding sig_from text_sig
sig_all ts (sig ps r) = after_none (both (λ xs x. from 0 xs ++ (arrow ++ x)) (texts_of_tys ts ps) (text ts r)) ∙ join_sig (texts_of_tys ts ps) (text ts r)

-- ---- one entry
both_none : {X Y Z : Type 0} (f : X → Y → Z) (o : Option X) → both f o none ≡ none
both_none f none = refl
both_none f (some x) = refl

pub no_name : (i : ℕ) (ts : List (List ℕ)) (n : ℕ) (t : Ty) (fs : Fields) → nth ts n ≡ none → fields_from i ts (field n t fs) ≡ none
unfolding fields_from text
no_name i ts n t fs e = ap (λ o. map (from i) (both ◌∷◌ (both entry_text o (text ts t)) (texts_of_fields ts fs))) e

pub no_type : (i : ℕ) (ts : List (List ℕ)) (n : ℕ) (t : Ty) (fs : Fields) → text ts t ≡ none → fields_from i ts (field n t fs) ≡ none
unfolding fields_from text
no_type i ts n t fs e =
    ap (λ o. map (from i) (both ◌∷◌ (both entry_text (nth ts n) o) (texts_of_fields ts fs))) e
    ∙ ap (λ o. map (from i) (both ◌∷◌ o (texts_of_fields ts fs))) (both_none entry_text (nth ts n))

entry_list : (d g n t e : List ℕ) → d ++ (g ++ ((n ++ (colon ++ t)) ++ e)) ≡ ((d ++ (g ++ (n ++ colon))) ++ t) ++ e
entry_list d g n t e = simp append_assoc refl

entry_text_lem : (i : ℕ) (d name bs : List ℕ) (o : Option (List (List ℕ)))
    → after d (map (from i) (map (λ xs. entry_text name bs ∷ xs) o)) ≡ after ((d ++ label i name) ++ bs) (map (from (i + 1)) o)
entry_text_lem i d name bs none = refl
entry_text_lem i d name bs (some xs) =
    ap some (ap (λ (z : List ℕ). d ++ z) (from_next i (entry_text name bs) xs) ∙ entry_list d (gap i) name bs (from (i + 1) xs))

pub one_field : (i : ℕ) (d : List ℕ) (ts : List (List ℕ)) (n : ℕ) (t : Ty) (fs : Fields) (name bs : List ℕ) → nth ts n ≡ some name → text ts t ≡ some bs
    → after d (fields_from i ts (field n t fs)) ≡ after ((d ++ label i name) ++ bs) (fields_from (i + 1) ts fs)
unfolding fields_from text
one_field i d ts n t fs name bs e f =
    ap₂ (λ o p. after d (map (from i) (both ◌∷◌ (both entry_text o p) (texts_of_fields ts fs)))) e f ∙ entry_text_lem i d name bs (texts_of_fields ts fs)

pub no_more : (i : ℕ) (d : List ℕ) (ts : List (List ℕ)) → after d (fields_from i ts no_fields) ≡ some d
unfolding fields_from text
no_more i d ts = ap some (ap (λ (z : List ℕ). d ++ z) (from_none i) ∙ append-nil d)

-- ---- one parameter, and the result
pub no_param : (i : ℕ) (ts : List (List ℕ)) (t : Ty) (f : Sig) → text ts t ≡ none → sig_from i ts (cons t f) ≡ none
unfolding sig_from text
no_param i ts t (sig ps r) e = ap (λ o. both (λ xs x. from i xs ++ (arrow ++ x)) (both ◌∷◌ o (texts_of_tys ts ps)) (text ts r)) e

param_list : (d g t e r : List ℕ) → d ++ ((g ++ (t ++ e)) ++ r) ≡ ((d ++ g) ++ t) ++ (e ++ r)
param_list d g t e r = simp append_assoc refl

param_text : (i : ℕ) (d bs : List ℕ) (o : Option (List (List ℕ))) (p : Option (List ℕ))
    → after d (both (λ xs x. from i xs ++ (arrow ++ x)) (map (λ xs. bs ∷ xs) o) p) ≡ after ((d ++ gap i) ++ bs) (both (λ xs x. from (i + 1) xs ++ (arrow ++ x)) o p)
param_text i d bs none p = refl
param_text i d bs (some xs) none = refl
param_text i d bs (some xs) (some x) =
    ap some (ap (λ (z : List ℕ). d ++ (z ++ (arrow ++ x))) (from_next i bs xs) ∙ param_list d (gap i) bs (from (i + 1) xs) (arrow ++ x))

pub one_param : (i : ℕ) (d : List ℕ) (ts : List (List ℕ)) (t : Ty) (f : Sig) (bs : List ℕ) → text ts t ≡ some bs
    → after d (sig_from i ts (cons t f)) ≡ after ((d ++ gap i) ++ bs) (sig_from (i + 1) ts f)
unfolding sig_from text
one_param i d ts t (sig ps r) bs e =
    ap (λ o. after d (both (λ xs x. from i xs ++ (arrow ++ x)) (both ◌∷◌ o (texts_of_tys ts ps)) (text ts r))) e ∙ param_text i d bs (texts_of_tys ts ps) (text ts r)

pub no_result : (i : ℕ) (ts : List (List ℕ)) (r : Ty) → text ts r ≡ none → sig_from i ts (sig no_params r) ≡ none
unfolding sig_from text
no_result i ts r e = ap (λ o. both (λ xs x. from i xs ++ (arrow ++ x)) (some []) o) e

pub one_result : (i : ℕ) (d : List ℕ) (ts : List (List ℕ)) (r : Ty) (bs : List ℕ) → text ts r ≡ some bs → after d (sig_from i ts (sig no_params r)) ≡ some ((d ++ arrow) ++ bs)
unfolding sig_from text
one_result i d ts r bs e =
    ap (λ o. after d (both (λ xs x. from i xs ++ (arrow ++ x)) (some []) o)) e
    ∙ ap some (ap (λ (z : List ℕ). d ++ (z ++ (arrow ++ bs))) (from_none i) ∙ sym (append_assoc d arrow bs))

-- ---- the texts of a type, by its parts
pub text_leaf : (ts : List (List ℕ)) (x : Simple) → text ts (leaf x) ≡ some (name_of x)
unfolding text
text_leaf ts x = refl

pub text_list : (ts : List (List ℕ)) (t : Ty) → text ts (built (list t)) ≡ map (within list_open) (text ts t)
unfolding text
text_list ts t = refl

pub text_range : (ts : List (List ℕ)) (t : Ty) → text ts (built (range t)) ≡ map (within range_open) (text ts t)
unfolding text
text_range ts t = refl

pub text_context : (ts : List (List ℕ)) (fs : Fields) → text ts (built (context fs)) ≡ map (within context_open) (text_fields ts fs)
unfolding text text_fields
text_context ts fs = sym (map_twice (within context_open) join (texts_of_fields ts fs))

pub text_function : (ts : List (List ℕ)) (f : Sig) → text ts (fun_of f) ≡ map (λ s. function_open ++ s) (text_sig ts f)
unfolding text text_sig
text_function ts (sig ps r) = refl

-- ---- how long a text gets: no more than so many times the bytes of the type, if each text of the table is no longer
abbrev pub Most : ℕ → Option (List ℕ) → Type 0
Most m none = Unit {0}
Most m (some x) = length x ≤ m

abbrev Short : ℕ → Option (List ℕ) → Type 0
Short n none = Unit {0}
Short n (some x) = length x + 2 ≤ n

abbrev Shorts : ℕ → Option (List (List ℕ)) → Type 0
Shorts n none = Unit {0}
Shorts n (some xs) = length (commas xs) ≤ n

pub leaf_short : (x : Simple) → length (name_of x) ≤ 25
leaf_short any = omega arith
leaf_short boolean = omega arith
leaf_short number = omega arith
leaf_short string = omega arith
leaf_short date = omega arith
leaf_short time = omega arith
leaf_short date_time = omega arith
leaf_short days_and_time = omega arith
leaf_short years_and_months = omega arith
leaf_short null = omega arith

join_short : (xs : List (List ℕ)) → length (join xs) ≤ length (commas xs)
unfolding join commas
join_short [] = omega arith
join_short (x ∷ xs) = omega (arith, ap length (join_commas x xs))

within_short : (front : List ℕ) → length front ≤ 9 → (n : ℕ) (o : Option (List ℕ)) → Short n o → Short (most_bytes + n) (map (within front) o)
within_short front h n none k = tt
within_short front h n (some s) k = omega (arith, length-append front (s ++ close), length-append s close)

entries_short : (n : ℕ) (o : Option (List (List ℕ))) → Shorts n o → Short (3 * most_bytes + n) (map (λ es. within context_open (join es)) o)
entries_short n none k = tt
entries_short n (some xs) k = omega (arith, length-append context_open (join xs ++ close), length-append (join xs) close, join_short xs)

function_short : (n m : ℕ) (o : Option (List (List ℕ))) (p : Option (List ℕ)) → Shorts n o → Short m p → Short (2 * most_bytes + n + m) (map (λ s. function_open ++ s) (both signature_text o p))
function_short n m none p h k = tt
function_short n m (some xs) none h k = tt
function_short n m (some xs) (some r) h k = omega (arith, length-append function_open (join xs ++ (arrow ++ r)), length-append (join xs) (arrow ++ r), length-append arrow r, join_short xs)

entry_short : (n m : ℕ) (o p : Option (List ℕ)) (q : Option (List (List ℕ))) → Most most_bytes o → Short n p → Shorts m q → Shorts (2 * most_bytes + n + m) (both ◌∷◌ (both entry_text o p) q)
unfolding commas
entry_short n m none p q h k j = tt
entry_short n m (some x) none q h k j = tt
entry_short n m (some x) (some y) none h k j = tt
entry_short n m (some x) (some y) (some xs) h k j =
    omega (arith, length-append comma ((x ++ (colon ++ y)) ++ commas xs), length-append (x ++ (colon ++ y)) (commas xs), length-append x (colon ++ y), length-append colon y)

param_short : (n m : ℕ) (o : Option (List ℕ)) (p : Option (List (List ℕ))) → Short n o → Shorts m p → Shorts (n + m) (both ◌∷◌ o p)
unfolding commas
param_short n m none p h k = tt
param_short n m (some x) none h k = tt
param_short n m (some x) (some xs) h k = omega (arith, length-append comma (x ++ commas xs), length-append x (commas xs))

short_as : (n m : ℕ) (o : Option (List ℕ)) → n ≡ m → Short n o → Short m o
short_as n m o e h = subst (λ (k : ℕ). Short k o) e h

shorts_as : (n m : ℕ) (o : Option (List (List ℕ))) → n ≡ m → Shorts n o → Shorts m o
shorts_as n m o e h = subst (λ (k : ℕ). Shorts k o) e h

module _ (ts : List (List ℕ)) (named : (n : ℕ) → Most most_bytes (nth ts n)) where
  mutual
    unfolding text size commas

    text_short : (t : Ty) → Short (most_bytes * size t) (text ts t)
    text_short (leaf x) = omega (arith, leaf_short x)
    text_short (built x) = built_short x

    built_short : (x : Built) → Short (most_bytes * size_built x) (text_built ts x)
    built_short (list t) = short_as _ _ (map (within list_open) (text ts t)) (omega arith) (within_short list_open (omega arith) (most_bytes * size t) (text ts t) (text_short t))
    built_short (range t) = short_as _ _ (map (within range_open) (text ts t)) (omega arith) (within_short range_open (omega arith) (most_bytes * size t) (text ts t) (text_short t))
    built_short (context fs) =
        short_as _ _ (map (λ es. within context_open (join es)) (texts_of_fields ts fs)) (omega arith)
        (entries_short (most_bytes * size_fields fs) (texts_of_fields ts fs) (fields_short fs))
    built_short (function ps r) =
        short_as _ _ (map (λ s. function_open ++ s) (both signature_text (texts_of_tys ts ps) (text ts r))) (omega arith)
        (function_short (most_bytes * size_tys ps) (most_bytes * size r) (texts_of_tys ts ps) (text ts r) (tys_short ps) (text_short r))

    fields_short : (fs : Fields) → Shorts (most_bytes * size_fields fs) (texts_of_fields ts fs)
    fields_short no_fields = omega arith
    fields_short (field n t fs) =
        shorts_as _ _ (both ◌∷◌ (both entry_text (nth ts n) (text ts t)) (texts_of_fields ts fs)) (omega arith)
        (entry_short (most_bytes * size t) (most_bytes * size_fields fs) (nth ts n) (text ts t) (texts_of_fields ts fs) (named n) (text_short t) (fields_short fs))

    tys_short : (ps : Tys) → Shorts (most_bytes * size_tys ps) (texts_of_tys ts ps)
    tys_short no_params = omega arith
    tys_short (param t ps) =
        shorts_as _ _ (both ◌∷◌ (text ts t) (texts_of_tys ts ps)) (omega arith)
        (param_short (most_bytes * size t) (most_bytes * size_tys ps) (text ts t) (texts_of_tys ts ps) (text_short t) (tys_short ps))

  pub text_most : (t : Ty) (bs : List ℕ) → text ts t ≡ some bs → length bs + 2 ≤ most_bytes * size t
  text_most t bs e = subst (λ (o : Option (List ℕ)). Short (most_bytes * size t) o) e (text_short t)

  fields_of : (n : ℕ) (o : Option (List (List ℕ))) (bs : List ℕ) → Shorts n o → map join o ≡ some bs → length bs ≤ n
  fields_of n none bs h e = absurd (none_some e)
  fields_of n (some xs) bs h e = let p : join xs ≡ bs = cc in omega (arith, ap length p, join_short xs)

  pub fields_most : (fs : Fields) (bs : List ℕ) → text_fields ts fs ≡ some bs → length bs ≤ most_bytes * size_fields fs
  unfolding text_fields
  fields_most fs bs e = fields_of (most_bytes * size_fields fs) (texts_of_fields ts fs) bs (fields_short fs) e

  sig_of : (n m : ℕ) (o : Option (List (List ℕ))) (p : Option (List ℕ)) (bs : List ℕ) → Shorts n o → Short m p → both signature_text o p ≡ some bs → length bs ≤ n + m + 1
  sig_of n m none p bs h k e = absurd (none_some e)
  sig_of n m (some xs) none bs h k e = absurd (none_some e)
  sig_of n m (some xs) (some r) bs h k e =
      let p : join xs ++ (arrow ++ r) ≡ bs = cc in
      omega (arith, ap length p, join_short xs, length-append (join xs) (arrow ++ r), length-append arrow r)

  pub sig_most : (f : Sig) (bs : List ℕ) → text_sig ts f ≡ some bs → length bs ≤ most_bytes * size_sig f + 1
  unfolding text_sig
  sig_most (sig ps r) bs e = omega (arith, sig_of (most_bytes * size_tys ps) (most_bytes * size r) (texts_of_tys ts ps) (text ts r) bs (tys_short ps) (text_short r) e)
