-- Document 01's sentences hold (specs/Sentences.antt). Idea: most of them compute (proofs/Alone.antt); the two that speak of names are inductions on a context.
-- Before the record stand equations over every order that proofs about code cite: context and function types, and two ascending lists of names taken in step.
-- Index: `sentences` (the record); `le_contexts`, `le_functions` (conformance); `sup_fields_first`, `sup_fields_second`, `sup_fields_both` (common names in step);
-- `sub_fields_first`, `sub_fields_second`, `sub_fields_both` (all names in step); `type_sentences`, `sub_pairs`, `sup_pairs`, `null_sup`, `any_sub`, `any_value`, `only_any`, `every_data`,
-- `every_entry` (for the sentences of the strict reading).
-- Assumes nothing.
use Prim.Native.Nat.{ℕ, suc, ◌<◌}
use native.Mathlib.Omega.{arith}
use mathlib.Core.Path.{◌≡◌, refl, sym, ◌∙◌, ap, ap₂, subst}
use mathlib.Core.Bool.{Bool, true, false, cond, ◌&&◌, ◌||◌, true≢false}
use mathlib.Core.Option.{Option, none, some}
use mathlib.Core.Logic.{◌↔◌}
use lib.Dec.{eqb, ltb}
use borrow.Author.Tests.{eqb-true, eqb-false, ne_eqb, eq-eqb, ltb-true}
use Rattle.form.specs.Trees.{Simple, any, null, code, Ty, leaf, built, list, range, context, function, Fields, no_fields, field, Tys, no_params, param, Leaf, Params, Val, v_leaf, v_range, v_list}
use Rattle.form.specs.Trees.{v_context, v_function, v_built_in, v_type, v_irrelevant, Vals, no_items, item, Entries, no_entries, entry}
use Rattle.order.specs.Order.{same, up, down, Order, fixed, flat, flat_join, flat_meet, flat_order, strict_order}
use Rattle.order.specs.Types.{lookup, found, all_fields, same_count, kind, ignores, empty, cmp, le, les, reduce, reduce_fields, reduce_tys, keep, insert_with, bound}
use Rattle.order.specs.Types.{intersect_with, merge, sup, sub}
use Rattle.order.specs.Types.{sup_fields, sub_fields, sup_tys, sub_tys}
use Rattle.order.specs.Ascending.{AscFields, Asc}
use Rattle.order.specs.Document.{conforms_to, reduced_form, supertype, subtype, eq_ty, instance_built, is_instance_of}
use Rattle.order.specs.Values.{leaf_type, is_any, conforms, all_conform, is_data_by, are_data, hold_data, least, least_items, least_entries, types_of}
use Rattle.order.specs.Inferred.{value_conforms_to, least_type, type_of, items_below, entry_types}
use Rattle.order.specs.Sentences.{each_field, each_parameter, each_pair, in_both, in_either, all_items, all_entries, each_entry, TypeSentences, SupertypeSentences, SubtypeSentences, ValueSentences}
use Rattle.order.specs.Sentences.{LeastTypeSentences, InferredSentences, Sentences}
pub use Rattle.order.proofs.Alone.{sup_simple_built, sup_built_simple, sub_simple_built, sub_built_simple, sup_functions, sub_functions, sup_functions_other, sub_functions_other}
use Rattle.order.proofs.Alone.{le_simple_built, le_built_simple, le_lists, le_ranges, le_functions_down, sup_simple, sub_simple, sup_lists, sup_ranges, sup_contexts, sub_lists}
use Rattle.order.proofs.Alone.{sub_ranges, sub_contexts, least_lists}
use Rattle.order.proofs.Simple.{flat_laws, fixed_laws, same_eq}
use Rattle.order.proofs.Bools.{and_false, and_assoc, and_true, or_cases}
use Rattle.order.proofs.Conform.{has_look, flip_tys, all_ext, look_below}
use Rattle.order.proofs.Bound.{cmp_other, bound_other}
use Rattle.order.proofs.Answers.{asc_merge, asc_weaken, merge_first, merge_second, merge_both}
use Rattle.order.proofs.Laws.{le_sup}
use Rattle.order.proofs.Equal.{eq_bytes}
use Rattle.order.proofs.Least.{le_null, le_any}

module _ (O : Order) where
  -- CONFORMANCE
  -- each name of B is in A with A's type ≤ B's
  pub le_contexts : (fs gs : Fields) → le O (built (context fs)) (built (context gs)) ≡ all_fields (λ n t. found (lookup n fs) (λ a. le O a t)) gs
  unfolding cmp
  le_contexts fs gs = all_ext _ (λ n t. found (lookup n fs) (λ a. le O a t)) gs (λ n t. has_look O fs n t)

  -- equal counts, each parameter of B ≤ that of A, result of A ≤ that of B; without parameters the result is not looked at
  pub le_functions : (ps qs : Tys) (r s : Ty) → le O (built (function ps r)) (built (function qs s)) ≡ les O qs ps && (ignores O ps || le O r s)
  le_functions ps qs r s = le_functions_down O ps qs r s ∙ ap (λ x. x && (ignores O ps || le O r s)) (flip_tys O up ps qs)

  -- COMMON NAMES, two ascending lists in step
  common_skip : (fs : Fields) (m k : ℕ) (b : Ty) (gs : Fields) → AscFields fs k → m < k → intersect_with O fs (field m b gs) ≡ intersect_with O fs gs
  unfolding bound lookup Asc
  common_skip no_fields m k b gs w h = refl
  common_skip (field n a fs) m k b gs w h =
      ap₂ (λ q x. keep n (cond q (some b) (lookup n gs)) (λ c. bound O up a c) x) (ne_eqb n m (λ e. omega (arith, w.0)))
      (common_skip fs m (suc n) b gs w.2 (omega (arith, w.0)))

  pub sup_fields_second : (fs : Fields) (m k : ℕ) (b : Ty) (gs : Fields) → AscFields fs k → m < k → sup_fields O fs (field m b gs) ≡ sup_fields O fs gs
  sup_fields_second fs m k b gs w h = ap (reduce_fields O) (common_skip fs m k b gs w h)

  pub sup_fields_first : (n : ℕ) (a : Ty) (fs gs : Fields) → AscFields gs (suc n) → sup_fields O (field n a fs) gs ≡ sup_fields O fs gs
  unfolding bound
  sup_fields_first n a fs gs w =
      ap (λ o. reduce_fields O (keep n o (λ c. bound O up a c) (intersect_with O fs gs))) (look_below O gs (suc n) n w (omega arith))

  pub sup_fields_both : (n : ℕ) (a b : Ty) (fs gs : Fields) → AscFields fs (suc n)
      → sup_fields O (field n a fs) (field n b gs) ≡ field n (sup O a b) (sup_fields O fs gs)
  unfolding bound lookup reduce
  sup_fields_both n a b fs gs w =
      ap₂ (λ q x. reduce_fields O (keep n (cond q (some b) (lookup n gs)) (λ c. bound O up a c) x)) (eq-eqb n n refl)
      (common_skip fs n (suc n) b gs w (omega arith))

  -- ALL NAMES, two ascending lists in step
  pub sub_fields_first : (n : ℕ) (a : Ty) (fs gs : Fields) → AscFields fs (suc n) → AscFields gs (suc n)
      → sub_fields O (field n a fs) gs ≡ field n (reduce O a) (sub_fields O fs gs)
  unfolding reduce
  sub_fields_first n a fs gs v w = ap (reduce_fields O) (merge_first O n a fs gs v w)

  pub sub_fields_second : (fs : Fields) (m k : ℕ) (b : Ty) (gs : Fields) → AscFields fs k → m < k
      → sub_fields O fs (field m b gs) ≡ field m (reduce O b) (sub_fields O fs gs)
  unfolding reduce
  sub_fields_second fs m k b gs w h = ap (reduce_fields O) (merge_second O fs m k b gs w h)

  pub sub_fields_both : (n : ℕ) (a b : Ty) (fs gs : Fields) → AscFields fs (suc n)
      → sub_fields O (field n a fs) (field n b gs) ≡ field n (sub O a b) (sub_fields O fs gs)
  unfolding reduce
  sub_fields_both n a b fs gs v = ap (reduce_fields O) (merge_both O n a b fs gs v)

-- ---- THE SENTENCES
not_true : (q : Bool) → (q ≡ true → ⊥) → q ≡ false
not_true true h = absurd (h refl)
not_true false h = refl

cond_no : {A : Type 0} (q : Bool) (x y : A) → (q ≡ true → ⊥) → cond q x y ≡ y
cond_no q x y h = ap (λ b. cond b x y) (not_true q h)

cond_same : {A : Type 0} (q : Bool) (x y : A) → (q ≡ true → x ≡ y) → cond q x y ≡ y
cond_same true x y h = h refl
cond_same false x y h = refl

-- ---- type against type
flat_only : (s t : Simple) → (s ≡ null → ⊥) → (t ≡ any → ⊥) → flat s t ≡ true → s ≡ t
flat_only s t h k e =
    or_cases (same s null) (same t any || same s t) e (λ p. absurd (h (same_eq s null p)))
    (λ p. or_cases (same t any) (same s t) p (λ q. absurd (k (same_eq t any q))) (same_eq s t))

any_not_null : any ≡ null → ⊥
any_not_null e = let z : ◌≡◌ {A = ℕ} 0 1 = cc in omega arith

not_below_null : (s : Simple) → (s ≡ null → ⊥) → flat s null ≡ true → ⊥
not_below_null s h e = h (flat_only s null h (λ n. any_not_null (sym n)) e)

not_above_any : (t : Simple) → (t ≡ any → ⊥) → flat any t ≡ true → ⊥
not_above_any t h e = h (sym (flat_only any t any_not_null h e))

counts_differ : (ps qs : Tys) → same_count ps qs ≡ false → les fixed ps qs ≡ false
unfolding same_count cmp
counts_differ no_params no_params h = absurd (true≢false h)
counts_differ no_params (param b qs) h = refl
counts_differ (param a ps) no_params h = refl
counts_differ (param a ps) (param b qs) h = ap (λ x. conforms_to a b && x) (counts_differ ps qs h) ∙ and_false (conforms_to a b)

plain : (qs : Tys) (r s : Ty) → conforms_to (built (function no_params r)) (built (function qs s)) ≡ empty qs
unfolding cmp
plain no_params r s = refl
plain (param b qs) r s = refl

reduced_fields : (fs : Fields) → reduce_fields fixed fs ≡ each_field reduced_form fs
unfolding reduce each_field
reduced_fields no_fields = refl
reduced_fields (field n t fs) = ap (field n (reduced_form t)) (reduced_fields fs)

reduced_tys : (ps : Tys) → reduce_tys fixed ps ≡ each_parameter reduced_form ps
unfolding reduce each_parameter
reduced_tys no_params = refl
reduced_tys (param t ps) = ap (param (reduced_form t)) (reduced_tys ps)

reduced_fun : (ps : Tys) (r : Ty) → empty ps ≡ false → reduced_form (built (function ps r)) ≡ built (function (each_parameter reduced_form ps) (reduced_form r))
unfolding reduce
reduced_fun ps r h = ap₂ (λ x q. built (function x (cond q (leaf any) (reduced_form r)))) (reduced_tys ps) h

pub type_sentences : TypeSentences
unfolding cmp reduce
type_sentences = record {
  null_below = le_null fixed fixed_laws;
  below_any = le_any fixed fixed_laws;
  simple_types = λ s t h k. (flat_only s t h k, λ e. subst (λ x. flat s x ≡ true) e (fixed_laws.reflexive s));
  simple_built = λ s y h. le_simple_built fixed s y ∙ not_true (flat s null) (not_below_null s h);
  built_simple = λ x t h. le_built_simple fixed x t ∙ not_true (flat any t) (not_above_any t h);
  lists = le_lists fixed;
  ranges = le_ranges fixed;
  contexts = le_contexts fixed;
  functions = λ ps qs r s h. le_functions fixed ps qs r s ∙ ap (λ q. les fixed qs ps && (q || conforms_to r s)) h;
  counts = counts_differ;
  no_parameters = refl;
  parameters = λ a b ps qs. refl;
  plain_functions = plain;
  unlike_kinds = λ x y h. cmp_other fixed up x y (ne_eqb (kind x) (kind y) h);
  reduced_plain = λ r. refl;
  reduced_function = reduced_fun;
  reduced_simple = λ s. refl;
  reduced_list = λ t. refl;
  reduced_range = λ t. refl;
  reduced_context = λ fs. ap (λ x. built (context x)) (reduced_fields fs);
  equal_bytes = eq_bytes;
}

-- ---- supertype and subtype
-- a name of a reduced context
abbrev mapped : (Ty → Ty) → Option Ty → Option Ty
mapped f none = none
mapped f (some t) = some (f t)

mapped_cond : (f : Ty → Ty) (q : Bool) (t : Ty) (o : Option Ty) → cond q (some (f t)) (mapped f o) ≡ mapped f (cond q (some t) o)
mapped_cond f true t o = refl
mapped_cond f false t o = refl

look_reduce : (n : ℕ) (fs : Fields) → lookup n (reduce_fields fixed fs) ≡ mapped reduced_form (lookup n fs)
unfolding lookup reduce
look_reduce n no_fields = refl
look_reduce n (field m t fs) = ap (cond (eqb n m) (some (reduced_form t))) (look_reduce n fs) ∙ mapped_cond reduced_form (eqb n m) t (lookup n fs)

-- a common name
both_none : (f : Ty → Ty → Ty) (o : Option Ty) → in_both f o none ≡ none
both_none f none = refl
both_none f (some a) = refl

mapped_both : (f : Ty → Ty → Ty) (o p : Option Ty) → mapped reduced_form (in_both f o p) ≡ in_both (λ a b. reduced_form (f a b)) o p
mapped_both f none p = refl
mapped_both f (some a) none = refl
mapped_both f (some a) (some b) = refl

look_keep : (n m : ℕ) (a : Ty) (fs gs cs : Fields) (o : Option Ty) → lookup m gs ≡ o → (q : Bool) → eqb n m ≡ q
    → lookup n cs ≡ in_both (λ x y. bound fixed up x y) (lookup n fs) (lookup n gs)
    → lookup n (keep m o (λ b. bound fixed up a b) cs) ≡ in_both (λ x y. bound fixed up x y) (cond q (some a) (lookup n fs)) (lookup n gs)
unfolding lookup
look_keep n m a fs gs cs none e true q h =
    let g : lookup n gs ≡ none = ap (λ k. lookup k gs) (eqb-true n m q) ∙ e in
    h ∙ ap (in_both (λ x y. bound fixed up x y) (lookup n fs)) g ∙ both_none (λ x y. bound fixed up x y) (lookup n fs)
    ∙ sym (ap (in_both (λ x y. bound fixed up x y) (some a)) g)
look_keep n m a fs gs cs none e false q h = h
look_keep n m a fs gs cs (some b) e true q h =
    ap (λ i. cond i (some (bound fixed up a b)) (lookup n cs)) q
    ∙ sym (ap (in_both (λ x y. bound fixed up x y) (some a)) (ap (λ k. lookup k gs) (eqb-true n m q) ∙ e))
look_keep n m a fs gs cs (some b) e false q h = ap (λ i. cond i (some (bound fixed up a b)) (lookup n cs)) q ∙ h

look_common : (n : ℕ) (fs gs : Fields) → lookup n (intersect_with fixed fs gs) ≡ in_both (λ x y. bound fixed up x y) (lookup n fs) (lookup n gs)
unfolding bound lookup
look_common n no_fields gs = refl
look_common n (field m a fs) gs = look_keep n m a fs gs (intersect_with fixed fs gs) (lookup m gs) refl (eqb n m) refl (look_common n fs gs)

-- a name of either
mapped_either : (f : Ty → Ty → Ty) (o p : Option Ty) → mapped reduced_form (in_either f (λ t. t) o p) ≡ in_either (λ a b. reduced_form (f a b)) reduced_form o p
mapped_either f none none = refl
mapped_either f none (some b) = refl
mapped_either f (some a) none = refl
mapped_either f (some a) (some b) = refl

-- the type at which a name is put into a context that has it, or has it not
abbrev put_type : Option Ty → Ty → (Ty → Ty) → Ty
put_type none a f = a
put_type (some b) a f = f b

look_place : (n m k : ℕ) (a : Ty) (f : Ty → Ty) (hs : Fields) → AscFields hs k
    → lookup n (insert_with m a f hs) ≡ cond (eqb n m) (some (put_type (lookup m hs) a f)) (lookup n hs)
unfolding lookup insert_with Asc
look_place n m k a f no_fields w = refl
look_place n m k a f (field j b hs) w = step (eqb m j) refl (ltb m j) refl (look_place n m (suc j) a f hs w.2)
  where
    twice : (q : Bool) (x y z : Option Ty) → cond q x z ≡ cond q x (cond q y z)
    twice true x y z = refl
    twice false x y z = refl

    crossed : (p q : Bool) (x y z : Option Ty) → (p ≡ true → q ≡ true → ⊥) → cond p x (cond q y z) ≡ cond q y (cond p x z)
    crossed true true x y z h = absurd (h refl refl)
    crossed true false x y z h = refl
    crossed false true x y z h = refl
    crossed false false x y z h = refl

    step : (q : Bool) → eqb m j ≡ q → (l : Bool) → ltb m j ≡ l → lookup n (insert_with m a f hs) ≡ cond (eqb n m) (some (put_type (lookup m hs) a f)) (lookup n hs)
        → lookup n (cond q (field j (f b) hs) (cond l (field m a (field j b hs)) (field j b (insert_with m a f hs))))
        ≡ cond (eqb n m) (some (put_type (cond q (some b) (lookup m hs)) a f)) (cond (eqb n j) (some b) (lookup n hs))
    step true e l g ih =
        twice (eqb n j) (some (f b)) (some b) (lookup n hs) ∙ ap (λ i. cond (eqb n i) (some (f b)) (cond (eqb n j) (some b) (lookup n hs))) (sym (eqb-true m j e))
    step false e true g ih =
        ap (λ o. cond (eqb n m) (some (put_type o a f)) (cond (eqb n j) (some b) (lookup n hs))) (sym (look_below fixed hs (suc j) m w.2 (omega (arith, ltb-true m j g))))
    step false e false g ih =
        ap (cond (eqb n j) (some b)) ih
        ∙ crossed (eqb n j) (eqb n m) (some b) (some (put_type (lookup m hs) a f)) (lookup n hs)
        (λ x y. eqb-false m j e (sym (eqb-true n m y) ∙ eqb-true n j x))

look_put : (n m : ℕ) (a : Ty) (fs gs : Fields) (o : Option Ty) (q : Bool) → eqb n m ≡ q → o ≡ lookup m gs
    → cond q (some (put_type o a (λ b. bound fixed down a b))) (in_either (λ x y. bound fixed down x y) (λ t. t) (lookup n fs) (lookup n gs))
    ≡ in_either (λ x y. bound fixed down x y) (λ t. t) (cond q (some a) (lookup n fs)) (lookup n gs)
look_put n m a fs gs o true e h = put o ∙ ap (in_either (λ x y. bound fixed down x y) (λ t. t) (some a)) (h ∙ sym (ap (λ k. lookup k gs) (eqb-true n m e)))
  where
    put : (p : Option Ty) → some (put_type p a (λ b. bound fixed down a b)) ≡ in_either (λ x y. bound fixed down x y) (λ t. t) (some a) p
    put none = refl
    put (some b) = refl
look_put n m a fs gs o false e h = refl

either_none : (f : Ty → Ty → Ty) (p : Option Ty) → in_either f (λ t. t) none p ≡ p
either_none f none = refl
either_none f (some b) = refl

look_merge : (n k : ℕ) (fs gs : Fields) → AscFields fs k → AscFields gs k
    → lookup n (merge fixed fs gs) ≡ in_either (λ x y. bound fixed down x y) (λ t. t) (lookup n fs) (lookup n gs)
unfolding bound lookup Asc
look_merge n k no_fields gs v w = sym (either_none (λ x y. bound fixed down x y) (lookup n gs))
look_merge n k (field m a fs) gs v w =
    let u : AscFields fs k = asc_weaken fs k (suc m) (omega (arith, v.0)) v.2 in
    look_place n m k a (λ b. bound fixed down a b) (merge fixed fs gs) (asc_merge fixed fs gs k u w)
    ∙ ap (cond (eqb n m) (some (put_type (lookup m (merge fixed fs gs)) a (λ b. bound fixed down a b)))) (look_merge n k fs gs u w)
    ∙ look_put n m a fs gs (lookup m (merge fixed fs gs)) (eqb n m) refl
    (look_merge m k fs gs u w ∙ ap (λ o. in_either (λ x y. bound fixed down x y) (λ t. t) o (lookup m gs)) (look_below fixed fs (suc m) m v.2 (omega arith))
    ∙ either_none (λ x y. bound fixed down x y) (lookup m gs))

-- parameters in pairs
pub sub_pairs : (O : Order) (ps qs : Tys) → sub_tys O ps qs ≡ each_pair (sub O) ps qs
unfolding bound reduce each_pair
sub_pairs O no_params no_params = refl
sub_pairs O no_params (param b qs) = refl
sub_pairs O (param a ps) no_params = refl
sub_pairs O (param a ps) (param b qs) = ap (param (sub O a b)) (sub_pairs O ps qs)

pub sup_pairs : (O : Order) (ps qs : Tys) → sup_tys O ps qs ≡ each_pair (sup O) ps qs
unfolding bound reduce each_pair
sup_pairs O no_params no_params = refl
sup_pairs O no_params (param b qs) = refl
sup_pairs O (param a ps) no_params = refl
sup_pairs O (param a ps) (param b qs) = ap (param (sup O a b)) (sup_pairs O ps qs)

sup_null : (t : Ty) → supertype t (leaf null) ≡ reduced_form t
unfolding bound reduce
sup_null (leaf s) = ap leaf (cond_same (same s null) null s (λ e. sym (same_eq s null e)))
sup_null (built x) = refl

pub null_sup : (strict : Bool) (t : Ty) → sup (flat_order strict) (leaf null) t ≡ reduce (flat_order strict) t
unfolding bound reduce
null_sup strict (leaf s) = refl
null_sup strict (built x) = refl

sub_any : (t : Ty) → subtype t (leaf any) ≡ reduced_form t
unfolding bound reduce
sub_any (leaf s) = ap leaf (cond_same (same s any) any s (λ e. sym (same_eq s any e)))
sub_any (built x) = refl

pub any_sub : (strict : Bool) (t : Ty) → sub (flat_order strict) (leaf any) t ≡ reduce (flat_order strict) t
unfolding bound reduce
any_sub strict (leaf s) = refl
any_sub strict (built x) = refl

equal_own : (p q : Bool) (s u : Simple) → q ≡ true → cond p s (cond p s (cond q s u)) ≡ s
equal_own true q s u h = refl
equal_own false q s u h = ap (λ b. cond b s u) h

join_other : (s t : Simple) → (s ≡ null → ⊥) → (t ≡ null → ⊥) → (s ≡ t → ⊥) → flat_join s t ≡ any
join_other s t h k d =
    cond_no (same s null) t _ (λ e. h (same_eq s null e)) ∙ cond_no (same t null) s _ (λ e. k (same_eq t null e)) ∙ cond_no (same s t) s any (λ e. d (same_eq s t e))

meet_other : (s t : Simple) → (s ≡ any → ⊥) → (t ≡ any → ⊥) → (s ≡ t → ⊥) → flat_meet s t ≡ null
meet_other s t h k d =
    cond_no (same s any) t _ (λ e. h (same_eq s any e)) ∙ cond_no (same t any) s _ (λ e. k (same_eq t any e)) ∙ cond_no (same s t) s null (λ e. d (same_eq s t e))

pub counted : same_count no_params no_params ≡ true
unfolding same_count
counted = refl

supertype_sentences : SupertypeSentences
unfolding bound reduce
supertype_sentences = record {
  null_with_lem = null_sup false;
  with_null = sup_null;
  equal_simple = λ s. ap leaf (equal_own (same s null) (same s s) s any (eq-eqb (code s) (code s) refl));
  lists = sup_lists fixed;
  ranges = sup_ranges fixed;
  contexts = sup_contexts fixed;
  common_names = λ n fs gs. look_reduce n (intersect_with fixed fs gs) ∙ ap (mapped reduced_form) (look_common n fs gs) ∙ mapped_both (λ x y. bound fixed up x y) (lookup n fs) (lookup n gs);
  functions = λ ps qs r s h k. sup_functions fixed ps qs r s h ∙ ap₂ (λ x q. built (function x (cond q (leaf any) (supertype r s)))) (sub_pairs fixed ps qs) k;
  plain_functions = λ r s. sup_functions fixed no_params no_params r s counted;
  other_simple = λ s t h k d. sup_simple fixed s t ∙ ap leaf (join_other s t h k d);
  simple_built = λ s y h. sup_simple_built fixed s y ∙ cond_no (flat s null) (reduced_form (built y)) (leaf any) (not_below_null s h);
  built_simple = λ x t h. sup_built_simple fixed x t ∙ cond_no (flat t null) (reduced_form (built x)) (leaf any) (not_below_null t h);
  unlike_kinds = λ x y h. ap reduced_form (bound_other fixed up x y (ne_eqb (kind x) (kind y) h));
  unlike_counts = sup_functions_other fixed;
}

subtype_sentences : SubtypeSentences
unfolding bound reduce
subtype_sentences = record {
  any_with = any_sub false;
  with_any = sub_any;
  equal_simple = λ s. ap leaf (equal_own (same s any) (same s s) s null (eq-eqb (code s) (code s) refl));
  lists = sub_lists fixed;
  ranges = sub_ranges fixed;
  contexts = sub_contexts fixed;
  all_names = λ n fs gs v w.
      look_reduce n (merge fixed fs gs) ∙ ap (mapped reduced_form) (look_merge n 0 fs gs v w) ∙ mapped_either (λ x y. bound fixed down x y) (lookup n fs) (lookup n gs);
  functions = λ ps qs r s h k. sub_functions fixed ps qs r s h ∙ ap₂ (λ x q. built (function x (cond q (leaf any) (subtype r s)))) (sup_pairs fixed ps qs) k;
  plain_functions = λ r s. sub_functions fixed no_params no_params r s counted;
  other_simple = λ s t h k d. sub_simple fixed s t ∙ ap leaf (meet_other s t h k d);
  simple_built = λ s y h. sub_simple_built fixed s y ∙ cond_no (flat any s) (reduced_form (built y)) (leaf null) (not_above_any s h);
  built_simple = λ x t h. sub_built_simple fixed x t ∙ cond_no (flat any t) (reduced_form (built x)) (leaf null) (not_above_any t h);
  unlike_kinds = λ x y h. ap reduced_form (bound_other fixed down x y (ne_eqb (kind x) (kind y) h));
  unlike_counts = sub_functions_other fixed;
}

-- ---- value against type
pub any_value : (strict : Bool) (v : Val) → conforms (flat_order strict) v (leaf any) ≡ true
unfolding conforms
any_value strict (v_leaf l) = le_any (flat_order strict) (flat_laws strict) (leaf (leaf_type l))
any_value strict (v_range i j v w) = refl
any_value strict (v_list vs) = refl
any_value strict (v_context es) = refl
any_value true (v_function ps b r) = le_any strict_order (flat_laws true) (built (function (types_of ps) r))
any_value false (v_function ps b r) = refl
any_value strict (v_built_in n) = refl
any_value strict (v_type a) = refl
any_value strict v_irrelevant = refl

-- a built value, a function or another value against a simple type that is not Any
not_any : (s : Simple) → (leaf s ≡ leaf any → ⊥) → flat any s ≡ false
not_any s h = not_true (flat any s) (not_above_any s (λ e. h (ap leaf e)))

own_type : (l : Leaf) (t : Ty) → (leaf_type l ≡ null → ⊥) → (t ≡ leaf any → ⊥) → (value_conforms_to (v_leaf l) t ≡ true) ↔ (t ≡ leaf (leaf_type l))
unfolding conforms cmp
own_type l (leaf s) h k = (
  λ e. ap leaf (sym (flat_only (leaf_type l) s h (λ x. k (ap leaf x)) e)),
  λ e. subst (λ t. conforms_to (leaf (leaf_type l)) t ≡ true) (sym e) (fixed_laws.reflexive (leaf_type l)),
)
own_type l (built y) h k = (λ e. absurd (not_below_null (leaf_type l) h e), λ e. absurd (let z : ◌≡◌ {A = ℕ} 0 1 = cc in omega arith))

every_item : (vs : Vals) (u : Ty) → all_conform fixed vs u ≡ all_items (λ v. value_conforms_to v u) vs
unfolding conforms all_items
every_item no_items u = refl
every_item (item v vs) u = ap (λ x. value_conforms_to v u && x) (every_item vs u)

no_range : (i j : ℕ) (v w : Val) (t : Ty) → (t ≡ leaf any → ⊥) → ((u : Ty) → t ≡ built (range u) → ⊥) → value_conforms_to (v_range i j v w) t ≡ false
unfolding conforms
no_range i j v w (leaf s) h k = not_any s h
no_range i j v w (built (list u)) h k = refl
no_range i j v w (built (range u)) h k = absurd (k u refl)
no_range i j v w (built (context fs)) h k = refl
no_range i j v w (built (function qs s)) h k = refl

no_list : (vs : Vals) (t : Ty) → (t ≡ leaf any → ⊥) → ((u : Ty) → t ≡ built (list u) → ⊥) → value_conforms_to (v_list vs) t ≡ false
unfolding conforms
no_list vs (leaf s) h k = not_any s h
no_list vs (built (list u)) h k = absurd (k u refl)
no_list vs (built (range u)) h k = refl
no_list vs (built (context fs)) h k = refl
no_list vs (built (function qs s)) h k = refl

no_context : (es : Entries) (t : Ty) → (t ≡ leaf any → ⊥) → ((fs : Fields) → t ≡ built (context fs) → ⊥) → value_conforms_to (v_context es) t ≡ false
unfolding conforms
no_context es (leaf s) h k = not_any s h
no_context es (built (list u)) h k = refl
no_context es (built (range u)) h k = refl
no_context es (built (context fs)) h k = absurd (k fs refl)
no_context es (built (function qs s)) h k = refl

no_function : (ps : Params) (b : ℕ) (r t : Ty) → (t ≡ leaf any → ⊥) → ((qs : Tys) (s : Ty) → t ≡ built (function qs s) → ⊥) → value_conforms_to (v_function ps b r) t ≡ false
unfolding conforms
no_function ps b r (leaf s) h k = not_any s h
no_function ps b r (built (list u)) h k = refl
no_function ps b r (built (range u)) h k = refl
no_function ps b r (built (context fs)) h k = refl
no_function ps b r (built (function qs s)) h k = absurd (k qs s refl)

pub only_any : (t : Ty) → (t ≡ leaf any → ⊥) → is_any fixed t ≡ false
only_any (leaf s) h = not_any s h
only_any (built y) h = refl

value_sentences : ValueSentences
unfolding conforms
value_sentences = record {
  any_target = any_value false;
  null_value = λ n. le_null fixed fixed_laws;
  simple_kinds = own_type;
  ranges = λ i j v w u. refl;
  lists = every_item;
  contexts = λ es fs. refl;
  absent = λ n u. refl;
  present = λ n m v es u. refl;
  definitions = λ ps b r qs s. refl;
  other_range = no_range;
  other_list = no_list;
  other_context = no_context;
  other_definition = no_function;
  other_built_in = λ n. only_any;
  other_type = λ a. only_any;
  other_irrelevant = only_any;
}

-- ---- least type
pub every_data : (O : Order) (vs : Vals) → are_data O vs ≡ all_items (is_data_by O) vs
unfolding is_data_by all_items
every_data O no_items = refl
every_data O (item v vs) = ap (λ x. is_data_by O v && x) (every_data O vs)

pub every_entry : (O : Order) (es : Entries) → hold_data O es ≡ all_entries (is_data_by O) es
unfolding is_data_by all_entries
every_entry O no_entries = refl
every_entry O (entry n v es) = ap (λ x. is_data_by O v && x) (every_entry O es)

least_each : (es : Entries) → least_entries fixed es ≡ each_entry least_type es
unfolding least each_entry
least_each no_entries = refl
least_each (entry n v es) = ap (field n (least_type v)) (least_each es)

items_below_type : (vs : Vals) (t u : Ty) → conforms_to (least_items fixed vs t) u ≡ conforms_to t u && all_items (λ v. conforms_to (least_type v) u) vs
unfolding least all_items
items_below_type no_items t u = sym (and_true (conforms_to t u))
items_below_type (item v vs) t u =
    items_below_type vs (supertype t (least_type v)) u ∙ ap (λ x. x && all_items (λ w. conforms_to (least_type w) u) vs) (le_sup fixed fixed_laws t (least_type v) u)
    ∙ and_assoc (conforms_to t u) (conforms_to (least_type v) u) (all_items (λ w. conforms_to (least_type w) u) vs)

least_type_sentences : LeastTypeSentences
unfolding is_data_by least cmp
least_type_sentences = record {
  data_leaf = λ l. refl;
  data_range = λ i j v w. refl;
  data_list = every_data fixed;
  data_context = every_entry fixed;
  no_definition = λ ps b r. refl;
  no_built_in = λ n. refl;
  no_type = λ t. refl;
  no_irrelevant = refl;
  leaves = λ l. refl;
  contexts = λ es. ap (λ x. built (context x)) (least_each es);
  lists = least_lists fixed;
  lists_conform = λ vs u. items_below_type vs (leaf null) u ∙ ap (λ x. x && all_items (λ v. conforms_to (least_type v) u) vs) (le_null fixed fixed_laws u);
  ranges = λ i j v w. refl;
}

-- ---- the inferred type
type_each : (es : Entries) → entry_types es ≡ each_entry type_of es
unfolding type_of each_entry
type_each no_entries = refl
type_each (entry n v es) = ap (field n (type_of v)) (type_each es)

every_type : (vs : Vals) (t : Ty) → items_below vs (some t) ≡ all_items (λ w. conforms_to (type_of w) t) vs
unfolding type_of all_items
every_type no_items t = refl
every_type (item v vs) t = ap (λ x. conforms_to (type_of v) t && x) (every_type vs t)

never : (a b : Ty) → ((x y : Ty) → a ≡ built (list x) → b ≡ built (list y) → ⊥) → ((fs gs : Fields) → a ≡ built (context fs) → b ≡ built (context gs) → ⊥) → is_instance_of a b ≡ false
unfolding is_instance_of instance_built
never (leaf s) b h k = refl
never (built x) (leaf t) h k = refl
never (built (list a)) (built (list b)) h k = absurd (h a b refl refl)
never (built (list a)) (built (range b)) h k = refl
never (built (list a)) (built (context gs)) h k = refl
never (built (list a)) (built (function qs s)) h k = refl
never (built (range a)) (built y) h k = refl
never (built (context fs)) (built (list b)) h k = refl
never (built (context fs)) (built (range b)) h k = refl
never (built (context fs)) (built (context gs)) h k = absurd (k fs gs refl refl)
never (built (context fs)) (built (function qs s)) h k = refl
never (built (function ps r)) (built y) h k = refl

inferred_sentences : InferredSentences
unfolding type_of is_instance_of instance_built eq_ty
inferred_sentences = record {
  leaves = λ l. refl;
  contexts = λ es. ap (λ x. built (context x)) (type_each es);
  lists = λ v vs. ap (λ q. built (list (cond q (type_of v) (leaf any)))) (every_type (item v vs) (type_of v));
  empty_list = refl;
  ranges = λ i j v w. refl;
  definitions = λ ps b r. refl;
  types = λ t. refl;
  built_ins = λ n. refl;
  irrelevant = refl;
  list_instances = λ a b. refl;
  context_instances = λ fs gs. refl;
  no_instances = never;
}

pub sentences : Sentences
sentences = record {
  type_against_type = type_sentences;
  common_supertype_lem = supertype_sentences;
  common_subtype_lem = subtype_sentences;
  value_against_type = value_sentences;
  least_type_lem = least_type_sentences;
  inferred_type = inferred_sentences;
}
