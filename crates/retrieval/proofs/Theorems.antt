-- What is proved of retrieval on trees: a retrieved value is never longer nor deeper than the value and is well-formed; behind conformance there is always one,
-- and it conforms. Idea: induction on the value; a context's names are taken in ascending order.
-- Index: `Less`, `less_val` (no longer, no deeper, well-formed); `there` (behind conformance); `conformant_value` (the two calls); `asc_look`.
-- Assumes nothing.
use Prim.Native.Nat.{ℕ, suc, ◌+◌, ◌<◌, ◌≤◌}
use native.Mathlib.Omega.{arith}
use mathlib.Core.Path.{◌≡◌, refl, sym, ap, ap₂, ◌∙◌}
use mathlib.Core.Bool.{Bool, true, false, cond, ◌&&◌, ◌||◌, false≢true}
use mathlib.Core.Option.{Option, none, some}
use lib.Dec.{eqb, ltb}
use borrow.Author.Tests.{eqb-true, eqb-false, eq-eqb, ne_eqb, ltb-true, ltb-false}
use Rattle.form.specs.Trees.{Simple, any, boolean, number, string, date, time, date_time, days_and_time, years_and_months, null, code, Tys, Ty, leaf, built, list, range, context, function, Fields}
use Rattle.form.specs.Trees.{no_fields, field, on_date, at_time, at_date_time, for_days_and_time, for_years_and_months, Leaf, l_null, l_boolean, l_number, l_decimal, l_string, l_temporal, Val, v_leaf}
use Rattle.form.specs.Trees.{v_range, v_list, v_context, v_function, v_built_in, v_type, v_irrelevant, Vals, no_items, item, Entries, no_entries, entry, nothing}
use Rattle.form.specs.Form.{level_v, level_vals, level_entries, count_vals, count_entries, WfLeaf, WfV, WfVals, WfEntries}
use Rattle.order.specs.Order.{up, fixed, same, flat}
use Rattle.order.specs.Ascending.{Asc, AscFields}
use Rattle.order.proofs.Conform.{look_below}
use Rattle.order.proofs.Simple.{and_both, same_eq}
use Rattle.order.specs.Size.{size_val, size_vals, size_entries}
use Rattle.order.specs.Types.{lookup, cmp, cmps, all_fields}
use Rattle.order.specs.Values.{temporal_type, leaf_type, types_of, to_range, to_function, is_any, conforms, all_conform, has_value}
use Rattle.order.specs.Inferred.{value_conforms_to}
use Rattle.retrieval.specs.Retrieve.{copied, retrieve_leaf, by_range, by_function, by_any, by_list, by_context, kept, retrieve, retrieve_items, retrieve_entries, get_value_checked}
use Rattle.retrieval.specs.Retrieve.{or_nothing, get_conformant_value}
use Rattle.retrieval.specs.Retrieval.{There}
use Rattle.form.specs.Options.{map, both}
use Rattle.form.proofs.Options.{none_some, some_same, map_is, both_is}
use Rattle.values.proofs.EntriesAt.{wf_lower}
use Rattle.order.proofs.DataDmn.{and_parts}

copied_is : (q : Bool) (v w : Val) → copied q v ≡ some w → w ≡ v
copied_is true v w e = sym (some_same e)
copied_is false v w e = absurd (none_some e)

-- no longer, no deeper, and well-formed where the value is
pub record Less {X : Type 0} (sz lv : X → ℕ) (wf : X → Type 0) (v w : X) : Type 0 where
  pub shorter : sz w ≤ sz v
  pub lower : lv w ≤ lv v
  pub well : wf v → wf w

abbrev LessV : Val → Val → Type 0
LessV v w = Less size_val level_v WfV v w

same_less : (v w : Val) → w ≡ v → LessV v w
same_less v w e = record { shorter = omega (arith, ap size_val e); lower = omega (arith, ap level_v e); well = λ h. rw e h }

pub record LessItems (vs ws : Vals) : Type 0 where
  pub shorter : size_vals ws ≤ size_vals vs
  pub lower : level_vals ws ≤ level_vals vs
  pub counted : count_vals ws ≡ count_vals vs
  pub well : WfVals vs → WfVals ws

pub record LessEntries (es fs : Entries) : Type 0 where
  pub shorter : size_entries fs ≤ size_entries es
  pub lower : level_entries fs ≤ level_entries es
  pub counted : count_entries fs ≤ count_entries es
  pub well : (k : ℕ) → WfEntries es k → WfEntries fs k

less_leaf : (l : Leaf) (t : Ty) (w : Val) → retrieve_leaf l t ≡ some w → LessV (v_leaf l) w
unfolding size_val level_v WfV WfLeaf
less_leaf (l_null x) t w e =
    let p : w ≡ v_leaf (l_null 0) = sym (some_same e) in
    record { shorter = omega (arith, ap size_val p); lower = omega (arith, ap level_v p); well = λ h. rw p (omega arith) }
less_leaf (l_boolean x) (leaf s) w e = same_less (v_leaf (l_boolean x)) w (copied_is (same s any || same s (leaf_type (l_boolean x))) (v_leaf (l_boolean x)) w e)
less_leaf (l_boolean x) (built y) w e = absurd (none_some e)
less_leaf (l_number x) (leaf s) w e = same_less (v_leaf (l_number x)) w (copied_is (same s any || same s (leaf_type (l_number x))) (v_leaf (l_number x)) w e)
less_leaf (l_number x) (built y) w e = absurd (none_some e)
less_leaf (l_decimal x p) (leaf s) w e = same_less (v_leaf (l_decimal x p)) w (copied_is (same s any || same s (leaf_type (l_decimal x p))) (v_leaf (l_decimal x p)) w e)
less_leaf (l_decimal x p) (built y) w e = absurd (none_some e)
less_leaf (l_string x) (leaf s) w e = same_less (v_leaf (l_string x)) w (copied_is (same s any || same s (leaf_type (l_string x))) (v_leaf (l_string x)) w e)
less_leaf (l_string x) (built y) w e = absurd (none_some e)
less_leaf (l_temporal k x) (leaf s) w e = same_less (v_leaf (l_temporal k x)) w (copied_is (same s any || same s (leaf_type (l_temporal k x))) (v_leaf (l_temporal k x)) w e)
less_leaf (l_temporal k x) (built y) w e = absurd (none_some e)

list_less : (vs ws : Vals) → LessItems vs ws → LessV (v_list vs) (v_list ws)
unfolding size_val level_v WfV
list_less vs ws L = record { shorter = omega (arith, L.shorter); lower = omega (arith, L.lower); well = λ h. (omega (arith, h.0, L.counted), L.well h.1) }

context_less : (es fs : Entries) → LessEntries es fs → LessV (v_context es) (v_context fs)
unfolding size_val level_v WfV
context_less es fs L = record { shorter = omega (arith, L.shorter); lower = omega (arith, L.lower); well = λ h. (omega (arith, h.0, L.counted), L.well 0 h.1) }

list_by : (t : Ty) (vs : Vals) (w : Val) → ((u : Ty) (ws : Vals) → retrieve_items vs u ≡ some ws → LessItems vs ws) → by_list t (v_list vs) (λ u. map v_list (retrieve_items vs u)) ≡ some w
    → LessV (v_list vs) w
list_by (leaf s) vs w ih e = same_less (v_list vs) w (copied_is (same s any) (v_list vs) w e)
list_by (built (list u)) vs w ih e = let m = map_is v_list (retrieve_items vs u) w e in rw m.2 (list_less vs m.0 (ih u m.0 m.1))
list_by (built (range u)) vs w ih e = absurd (none_some e)
list_by (built (context fs)) vs w ih e = absurd (none_some e)
list_by (built (function ps r)) vs w ih e = absurd (none_some e)

context_by : (t : Ty) (es : Entries) (w : Val) → ((fs : Fields) (ws : Entries) → retrieve_entries es fs ≡ some ws → LessEntries es ws)
    → by_context t (v_context es) (λ fs. map v_context (retrieve_entries es fs)) ≡ some w → LessV (v_context es) w
context_by (leaf s) es w ih e = same_less (v_context es) w (copied_is (same s any) (v_context es) w e)
context_by (built (list u)) es w ih e = absurd (none_some e)
context_by (built (range u)) es w ih e = absurd (none_some e)
context_by (built (context fs)) es w ih e = let m = map_is v_context (retrieve_entries es fs) w e in rw m.2 (context_less es m.0 (ih fs m.0 m.1))
context_by (built (function ps r)) es w ih e = absurd (none_some e)

item_less : (v w : Val) (vs ws : Vals) → LessV v w → LessItems vs ws → LessItems (item v vs) (item w ws)
unfolding size_val level_v WfV count_vals
item_less v w vs ws L M = record {
  shorter = omega (arith, L.shorter, M.shorter);
  lower = omega (arith, L.lower, M.lower);
  counted = omega (arith, M.counted);
  well = λ h.
      (L.well h.0, M.well h.1);
}

entry_less : (n : ℕ) (v w : Val) (es fs : Entries) → LessV v w → LessEntries es fs → LessEntries (entry n v es) (entry n w fs)
unfolding size_val level_v WfV count_entries
entry_less n v w es fs L M = record {
  shorter = omega (arith, L.shorter, M.shorter);
  lower = omega (arith, L.lower, M.lower);
  counted = omega (arith, M.counted);
  well = λ k h.
      (h.0, (h.1.0, (L.well h.1.1.0, M.well (n + 1) h.1.1.1)));
}

entry_out : (n : ℕ) (v : Val) (es fs : Entries) → LessEntries es fs → LessEntries (entry n v es) fs
unfolding size_val level_v WfV count_entries
entry_out n v es fs M = record {
  shorter = omega (arith, M.shorter);
  lower = omega (arith, M.lower);
  counted = omega (arith, M.counted);
  well = λ k h. wf_lower fs (n + 1) k (omega (arith, h.0))
      (M.well (n + 1) h.1.1.1);
}

kept_less : (o : Option Ty) (n : ℕ) (v : Val) (es fs : Entries) (r : Option Entries) → ((t : Ty) (w : Val) → retrieve v t ≡ some w → LessV v w) → ((ws : Entries) → r ≡ some ws → LessEntries es ws)
    → kept o (λ t. retrieve v t) n r ≡ some fs → LessEntries (entry n v es) fs
kept_less none n v es fs r iv ir e = entry_out n v es fs (ir fs e)
kept_less (some t) n v es fs r iv ir e = let m = both_is (entry n) (retrieve v t) r fs e in rw m.4 (entry_less n v m.0 es m.1 (iv t m.0 m.2) (ir m.1 m.3))

mutual
  unfolding retrieve

  pub less_val : (v : Val) (t : Ty) (w : Val) → retrieve v t ≡ some w → LessV v w
  less_val (v_leaf l) t w e = less_leaf l t w e
  less_val (v_range i j a b) t w e = same_less (v_range i j a b) w (copied_is (by_range t) (v_range i j a b) w e)
  less_val (v_list vs) t w e = list_by t vs w (λ u ws p. less_items vs u ws p) e
  less_val (v_context es) t w e = context_by t es w (λ fs ws p. less_entries es fs ws p) e
  less_val (v_function ps b r) t w e = same_less (v_function ps b r) w (copied_is (by_function t) (v_function ps b r) w e)
  less_val (v_built_in b) t w e = same_less (v_built_in b) w (copied_is (by_any t) (v_built_in b) w e)
  less_val (v_type a) t w e = same_less (v_type a) w (copied_is (by_any t) (v_type a) w e)
  less_val v_irrelevant t w e = same_less v_irrelevant w (copied_is (by_any t) v_irrelevant w e)

  less_items : (vs : Vals) (t : Ty) (ws : Vals) → retrieve_items vs t ≡ some ws → LessItems vs ws
  less_items no_items t ws e = rw (sym (some_same e)) (record { shorter = omega arith; lower = omega arith; counted = refl; well = λ h. h })
  less_items (item v vs) t ws e = let m = both_is item (retrieve v t) (retrieve_items vs t) ws e in rw m.4
      (item_less v m.0 vs m.1 (less_val v t m.0 m.2) (less_items vs t m.1 m.3))

  less_entries : (es : Entries) (fs : Fields) (ws : Entries) → retrieve_entries es fs ≡ some ws → LessEntries es ws
  less_entries no_entries fs ws e = rw (sym (some_same e)) (record { shorter = omega arith; lower = omega arith; counted = omega arith; well = λ k h. h })
  less_entries (entry n v es) fs ws e = kept_less (lookup n fs) n v es ws (retrieve_entries es fs) (λ t w p. less_val v t w p) (λ us p. less_entries es fs us p) e

-- ---- behind conformance: there is a value, and it conforms
-- every field of a context type passes a test exactly when every name does by its type
all_of : (f : ℕ → Ty → Bool) (fs : Fields) (k : ℕ) → AscFields fs k → ((n : ℕ) (u : Ty) → lookup n fs ≡ some u → f n u ≡ true) → all_fields f fs ≡ true
unfolding all_fields lookup Asc
all_of f no_fields k a h = refl
all_of f (field m t fs) k a h =
    and_both (f m t) (all_fields f fs) (h m t (rw (eq-eqb m m refl) refl))
    (all_of f fs (suc m) a.2 (λ n u e. h n u (later n u e)))
  where
    later : (n : ℕ) (u : Ty) → lookup n fs ≡ some u → cond (eqb n m) (some t) (lookup n fs) ≡ some u
    later n u e = rw (ne_eqb n m (λ z. none_some (sym (look_below fixed fs (suc m) n a.2 (omega arith)) ∙ e))) e

of_all : (f : ℕ → Ty → Bool) (fs : Fields) (n : ℕ) (u : Ty) → all_fields f fs ≡ true → lookup n fs ≡ some u → f n u ≡ true
unfolding all_fields lookup
of_all f no_fields n u h e = absurd (none_some e)
of_all f (field m t fs) n u h e = let d = and_parts (f m t) (all_fields f fs) h in go (eqb n m) refl d.0 (λ p. of_all f fs n u d.1 p)
  where
    go : (q : Bool) → eqb n m ≡ q → f m t ≡ true → (lookup n fs ≡ some u → f n u ≡ true) → f n u ≡ true
    go true p a b = ap (λ x. f x u) (eqb-true n m p) ∙ ap (f m) (sym (some_same (sym (ap (λ q. cond q (some t) (lookup n fs)) p) ∙ e))) ∙ a
    go false p a b = b (sym (ap (λ q. cond q (some t) (lookup n fs)) p) ∙ e)

pub record ThereItems (vs : Vals) (t : Ty) : Type 0 where
  pub ws : Vals
  pub is : retrieve_items vs t ≡ some ws
  pub conform_too : all_conform fixed ws t ≡ true

-- the names from k on
abbrev Have : Entries → ℕ → Fields → Type 0
Have es k fs = (n : ℕ) (u : Ty) → k ≤ n → lookup n fs ≡ some u → has_value fixed es n u ≡ true

pub record ThereEntries (es : Entries) (k : ℕ) (fs : Fields) : Type 0 where
  pub ws : Entries
  pub is : retrieve_entries es fs ≡ some ws
  pub have_too : Have ws k fs

-- Any or the own kind
copied_there : (v : Val) (t : Ty) (q : Bool) → retrieve v t ≡ copied q v → q ≡ true → value_conforms_to v t ≡ true → There v t
copied_there v t q e f h = record { w = v; is = e ∙ ap (λ b. copied b v) f; conforms_too = h }

any_code : (s : Simple) → fixed.sle any s ≡ true → same s any ≡ true
any_code any h = refl
any_code boolean h = h
any_code number h = h
any_code string h = h
any_code date h = h
any_code time h = h
any_code date_time h = h
any_code days_and_time h = h
any_code years_and_months h = h
any_code null h = h

by_range_of : (t : Ty) (f : Ty → Bool) → to_range fixed t f ≡ true → by_range t ≡ true
by_range_of (leaf s) f h = any_code s h
by_range_of (built (list u)) f h = h
by_range_of (built (range u)) f h = refl
by_range_of (built (context fs)) f h = h
by_range_of (built (function ps r)) f h = h

by_function_of : (t : Ty) (f : Tys → Ty → Bool) → to_function fixed t f ≡ true → by_function t ≡ true
by_function_of (leaf s) f h = any_code s h
by_function_of (built (list u)) f h = h
by_function_of (built (range u)) f h = h
by_function_of (built (context fs)) f h = h
by_function_of (built (function ps r)) f h = refl

by_any_of : (t : Ty) → is_any fixed t ≡ true → by_any t ≡ true
by_any_of (leaf s) h = any_code s h
by_any_of (built x) h = h

-- ---- leaves
eqb_comm : (a b : ℕ) → eqb a b ≡ eqb b a
eqb_comm a b = go (eqb a b) refl
  where
    go : (q : Bool) → eqb a b ≡ q → q ≡ eqb b a
    go true e = sym (eq-eqb b a (sym (eqb-true a b e)))
    go false e = sym (ne_eqb b a (λ z. false≢true (sym e ∙ eq-eqb a b (sym z))))

not_null : (l : Leaf) → Bool
not_null (l_null x) = false
not_null (l_boolean x) = true
not_null (l_number x) = true
not_null (l_decimal x p) = true
not_null (l_string x) = true
not_null (l_temporal k x) = true

kind_null : (l : Leaf) → not_null l ≡ true → same (leaf_type l) null ≡ false
unfolding not_null
kind_null (l_null x) h = absurd (false≢true h)
kind_null (l_boolean x) h = refl
kind_null (l_number x) h = refl
kind_null (l_decimal x p) h = refl
kind_null (l_string x) h = refl
kind_null (l_temporal on_date x) h = refl
kind_null (l_temporal at_time x) h = refl
kind_null (l_temporal at_date_time x) h = refl
kind_null (l_temporal for_days_and_time x) h = refl
kind_null (l_temporal for_years_and_months x) h = refl

own_kind : (s k : Simple) → same k null ≡ false → flat k s ≡ true → same s any || same s k ≡ true
own_kind s k e h = ap (λ q. same s any || q) (eqb_comm (code s) (code k)) ∙ sym (ap (λ q. q || (same s any || same k s)) e) ∙ h

leaf_there : (l : Leaf) (t : Ty) → value_conforms_to (v_leaf l) t ≡ true → There (v_leaf l) t
unfolding retrieve conforms cmp not_null
leaf_there (l_null x) (leaf s) h = record { w = v_leaf (l_null 0); is = refl; conforms_too = h }
leaf_there (l_null x) (built y) h = record { w = v_leaf (l_null 0); is = refl; conforms_too = h }
leaf_there (l_boolean x) (leaf s) h = copied_there (v_leaf (l_boolean x)) (leaf s) (same s any || same s (leaf_type (l_boolean x))) refl
    (own_kind s (leaf_type (l_boolean x)) (kind_null (l_boolean x) refl) h) h
leaf_there (l_boolean x) (built y) h = absurd (false≢true h)
leaf_there (l_number x) (leaf s) h = copied_there (v_leaf (l_number x)) (leaf s) (same s any || same s (leaf_type (l_number x))) refl
    (own_kind s (leaf_type (l_number x)) (kind_null (l_number x) refl) h) h
leaf_there (l_number x) (built y) h = absurd (false≢true h)
leaf_there (l_decimal x p) (leaf s) h = copied_there (v_leaf (l_decimal x p)) (leaf s) (same s any || same s (leaf_type (l_decimal x p))) refl
    (own_kind s (leaf_type (l_decimal x p)) (kind_null (l_decimal x p) refl) h) h
leaf_there (l_decimal x p) (built y) h = absurd (false≢true h)
leaf_there (l_string x) (leaf s) h = copied_there (v_leaf (l_string x)) (leaf s) (same s any || same s (leaf_type (l_string x))) refl
    (own_kind s (leaf_type (l_string x)) (kind_null (l_string x) refl) h) h
leaf_there (l_string x) (built y) h = absurd (false≢true h)
leaf_there (l_temporal k x) (leaf s) h = copied_there (v_leaf (l_temporal k x)) (leaf s) (same s any || same s (leaf_type (l_temporal k x))) refl
    (own_kind s (leaf_type (l_temporal k x)) (kind_null (l_temporal k x) refl) h) h
leaf_there (l_temporal k x) (built y) h = absurd (false≢true (sym (flat_null (temporal_type k) (kind_null (l_temporal k x) refl)) ∙ h))
  where
    flat_null : (s : Simple) → same s null ≡ false → flat s null ≡ false
    flat_null s e = ap (λ q. q || q) e

-- ---- lists
list_there : (t : Ty) (vs : Vals) → Asc t → ((u : Ty) → Asc u → all_conform fixed vs u ≡ true → ThereItems vs u) → value_conforms_to (v_list vs) t ≡ true → There (v_list vs) t
unfolding retrieve conforms Asc
list_there (leaf s) vs a ih h = copied_there (v_list vs) (leaf s) (same s any) refl (any_code s h) h
list_there (built (list u)) vs a ih h = let T = ih u a h in record { w = v_list T.ws; is = ap (map v_list) T.is; conforms_too = T.conform_too }
list_there (built (range u)) vs a ih h = absurd (false≢true h)
list_there (built (context fs)) vs a ih h = absurd (false≢true h)
list_there (built (function ps r)) vs a ih h = absurd (false≢true h)

-- ---- contexts
pub asc_look : (fs : Fields) (k n : ℕ) (u : Ty) → AscFields fs k → lookup n fs ≡ some u → Asc u
unfolding Asc lookup
asc_look no_fields k n u a e = absurd (none_some e)
asc_look (field m t fs) k n u a e = go (eqb n m) e (λ p. asc_look fs (suc m) n u a.2 p)
  where
    go : (q : Bool) → cond q (some t) (lookup n fs) ≡ some u → (lookup n fs ≡ some u → Asc u) → Asc u
    go true p f = rw (sym (some_same p)) a.1
    go false p f = f p

above : (m n : ℕ) → eqb m n ≡ false → ltb m n ≡ false → n + 1 ≤ m
above m n p s = let d : m ≡ n → ⊥ = eqb-false m n p in omega (arith, ltb-false m n s, d)

-- a name below all is absent
absent : (es : Entries) (j m : ℕ) (u : Ty) → WfEntries es j → m < j → has_value fixed es m u ≡ false
unfolding conforms WfV
absent no_entries j m u w h = refl
absent (entry n v es) j m u w h = rw (ne_eqb m n (λ e. omega (arith, w.0))) (absent es (n + 1) m u w.1.1.1 (omega (arith, w.0)))

module _ (n : ℕ) (v : Val) (es : Entries) (k : ℕ) (fs : Fields) (w : WfEntries (entry n v es) k) (h : Have (entry n v es) k fs) where
  well_rest : WfEntries es (n + 1)
  unfolding WfV
  well_rest = w.1.1.1

  well_first : WfV v
  unfolding WfV
  well_first = w.1.1.0

  low : k ≤ n
  unfolding WfV
  low = w.0

  -- of another name
  other : (m : ℕ) (u : Ty) → (m ≡ n → ⊥) → k ≤ m → lookup m fs ≡ some u → has_value fixed es m u ≡ true
  unfolding conforms
  other m u d l e = rw (ne_eqb m n d) at (h m u l e)

  have_rest : Have es (n + 1) fs
  have_rest m u l e = other m u (λ z. omega arith) (omega (arith, low)) e

  -- a name between k and n is not asked for
  between : (m : ℕ) (u : Ty) → k ≤ m → m < n → lookup m fs ≡ some u → ⊥
  between m u l b e = false≢true (sym (absent es (n + 1) m u well_rest (omega arith)) ∙ other m u (λ z. omega arith) l e)

  first_conforms : (u : Ty) → lookup n fs ≡ some u → value_conforms_to v u ≡ true
  unfolding conforms
  first_conforms u e = rw (eq-eqb n n refl) at (h n u low e)

  out_have : (ws : Entries) → lookup n fs ≡ none → Have ws (n + 1) fs → Have ws k fs
  out_have ws e g m u l f = by (eqb m n) refl (ltb m n) refl
    where
      by : (q : Bool) → eqb m n ≡ q → (r : Bool) → ltb m n ≡ r → has_value fixed ws m u ≡ true
      by true p r s = absurd (none_some (sym e ∙ ap (λ x. lookup x fs) (sym (eqb-true m n p)) ∙ f))
      by false p true s = absurd (between m u l (ltb-true m n s) f)
      by false p false s = g m u (above m n p s) f

  in_have : (ws : Entries) (u₀ : Ty) (x : Val) → lookup n fs ≡ some u₀ → value_conforms_to x u₀ ≡ true → Have ws (n + 1) fs → Have (entry n x ws) k fs
  unfolding conforms
  in_have ws u₀ x e c g m u l f = by (eqb m n) refl (ltb m n) refl
    where
      by : (q : Bool) → eqb m n ≡ q → (r : Bool) → ltb m n ≡ r → cond q (conforms fixed x u) (has_value fixed ws m u) ≡ true
      by true p r s = ap (conforms fixed x) (some_same (sym f ∙ ap (λ z. lookup z fs) (eqb-true m n p) ∙ e)) ∙ c
      by false p true s = absurd (between m u l (ltb-true m n s) f)
      by false p false s = g m u (above m n p s) f

entries_there : (n : ℕ) (v : Val) (es : Entries) (k j : ℕ) (fs : Fields) → AscFields fs j → (w : WfEntries (entry n v es) k) → (h : Have (entry n v es) k fs)
    → ((u : Ty) → Asc u → value_conforms_to v u ≡ true → There v u) → ThereEntries es (n + 1) fs → ThereEntries (entry n v es) k fs
unfolding retrieve
entries_there n v es k j fs a w h iv T = go (lookup n fs) refl
  where
    go : (o : Option Ty) → lookup n fs ≡ o → ThereEntries (entry n v es) k fs
    go none e = record { ws = T.ws; is = ap (λ o. kept o (λ t. retrieve v t) n (retrieve_entries es fs)) e ∙ T.is; have_too = out_have n v es k fs w h T.ws e T.have_too }
    go (some u) e =
        let F = iv u (asc_look fs j n u a e) (first_conforms n v es k fs w h u e) in
        record {
          ws = entry n F.w T.ws;
          is = ap (λ o. kept o (λ t. retrieve v t) n (retrieve_entries es fs)) e ∙ ap₂ (both (entry n)) F.is T.is;
          have_too = in_have n v es k fs w h T.ws u F.w e F.conforms_too T.have_too;
        }

context_there : (t : Ty) (es : Entries) → Asc t → ((fs : Fields) → AscFields fs 0 → Have es 0 fs → ThereEntries es 0 fs) → value_conforms_to (v_context es) t ≡ true → There (v_context es) t
unfolding retrieve conforms Asc
context_there (leaf s) es a ih h = copied_there (v_context es) (leaf s) (same s any) refl (any_code s h) h
context_there (built (list u)) es a ih h = absurd (false≢true h)
context_there (built (range u)) es a ih h = absurd (false≢true h)
context_there (built (context fs)) es a ih h =
    let T = ih fs a (λ n u l e. of_all (λ m x. has_value fixed es m x) fs n u h e) in
    record { w = v_context T.ws; is = ap (map v_context) T.is; conforms_too = all_of (λ m x. has_value fixed T.ws m x) fs 0 a (λ n u e. T.have_too n u (omega arith) e) }
context_there (built (function ps r)) es a ih h = absurd (false≢true h)

mutual
  unfolding retrieve conforms WfV

  pub there : (v : Val) (t : Ty) → WfV v → Asc t → value_conforms_to v t ≡ true → There v t
  there (v_leaf l) t w a h = leaf_there l t h
  there (v_range i j x y) t w a h = copied_there (v_range i j x y) t (by_range t) refl (by_range_of t (λ u. conforms fixed x u && conforms fixed y u) h) h
  there (v_list vs) t w a h = list_there t vs a (λ u b g. there_items vs u w.1 b g) h
  there (v_context es) t w a h = context_there t es a (λ fs b g. there_entries es 0 fs w.1 b g) h
  there (v_function ps b r) t w a h = copied_there (v_function ps b r) t (by_function t) refl (by_function_of t (λ qs s. cmps fixed up (types_of ps) qs && cmp fixed up r s) h) h
  there (v_built_in b) t w a h = copied_there (v_built_in b) t (by_any t) refl (by_any_of t h) h
  there (v_type x) t w a h = copied_there (v_type x) t (by_any t) refl (by_any_of t h) h
  there v_irrelevant t w a h = copied_there v_irrelevant t (by_any t) refl (by_any_of t h) h

  there_items : (vs : Vals) (t : Ty) → WfVals vs → Asc t → all_conform fixed vs t ≡ true → ThereItems vs t
  there_items no_items t w a h = record { ws = no_items; is = refl; conform_too = refl }
  there_items (item v vs) t w a h =
      let d = and_parts (conforms fixed v t) (all_conform fixed vs t) h in
      let F = there v t w.0 a d.0 in
      let T = there_items vs t w.1 a d.1 in
      record { ws = item F.w T.ws; is = ap₂ (both item) F.is T.is; conform_too = and_both (conforms fixed F.w t) (all_conform fixed T.ws t) F.conforms_too T.conform_too }

  there_entries : (es : Entries) (k : ℕ) (fs : Fields) → WfEntries es k → AscFields fs 0 → Have es k fs → ThereEntries es k fs
  there_entries no_entries k fs w a h = record { ws = no_entries; is = refl; have_too = h }
  there_entries (entry n v es) k fs w a h =
      entries_there n v es k 0 fs a w h (λ u b c. there v u (well_first n v es k fs w h) b c)
      (there_entries es (n + 1) fs (well_rest n v es k fs w h) a (have_rest n v es k fs w h))

-- ---- a value that conforms is retrieved: to Null only Null conforms
null_there : (v : Val) → value_conforms_to v (leaf null) ≡ true → retrieve v (leaf null) ≡ some (nothing 0)
unfolding retrieve conforms cmp
null_there (v_leaf (l_null x)) h = refl
null_there (v_leaf (l_boolean x)) h = absurd (false≢true h)
null_there (v_leaf (l_number x)) h = absurd (false≢true h)
null_there (v_leaf (l_decimal x p)) h = absurd (false≢true h)
null_there (v_leaf (l_string x)) h = absurd (false≢true h)
null_there (v_leaf (l_temporal on_date x)) h = absurd (false≢true h)
null_there (v_leaf (l_temporal at_time x)) h = absurd (false≢true h)
null_there (v_leaf (l_temporal at_date_time x)) h = absurd (false≢true h)
null_there (v_leaf (l_temporal for_days_and_time x)) h = absurd (false≢true h)
null_there (v_leaf (l_temporal for_years_and_months x)) h = absurd (false≢true h)
null_there (v_range i j x y) h = absurd (false≢true h)
null_there (v_list vs) h = absurd (false≢true h)
null_there (v_context es) h = absurd (false≢true h)
null_there (v_function ps b r) h = absurd (false≢true h)
null_there (v_built_in b) h = absurd (false≢true h)
null_there (v_type a) h = absurd (false≢true h)
null_there v_irrelevant h = absurd (false≢true h)

pub conformant_value : (v : Val) (t : Ty) → value_conforms_to v t ≡ true → get_conformant_value t v ≡ or_nothing (get_value_checked t v)
conformant_value v (built x) h = ap (λ q. cond q (or_nothing (retrieve v (built x))) (nothing 2)) h
conformant_value v (leaf s) h = go (same s null) refl
  where
    go : (q : Bool) → same s null ≡ q → cond q (nothing 0) (cond (value_conforms_to v (leaf s)) (or_nothing (retrieve v (leaf s))) (nothing 2)) ≡ or_nothing (retrieve v (leaf s))
    go false e = ap (λ q. cond q (or_nothing (retrieve v (leaf s))) (nothing 2)) h
    go true e =
        let n = same_eq s null e in
        sym (ap or_nothing (ap (λ x. retrieve v (leaf x)) n ∙ null_there v (sym (ap (λ x. value_conforms_to v (leaf x)) n) ∙ h)))
