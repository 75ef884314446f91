-- `instance_of` and `type_of` beside conformance: an instance conforms to the other type, also by DMN, and a data value conforms to the type that the
-- Rust infers for it. Idea: equal types conform to each other, and what conforms to a type conforms to every type above it.
-- Index: `instance_conforms` (instances), `type_of_conforms` (the inferred type).
-- Assumes nothing.
use Prim.Native.Nat.{ℕ, suc, ◌+◌, ◌<◌}
use native.Mathlib.Omega.{arith}
use native.Mathlib.Numerals.{add-one}
use mathlib.Core.Path.{◌≡◌, refl, sym, ◌∙◌, ap, ap₂, subst}
use mathlib.Core.Bool.{Bool, true, false, cond, ◌&&◌, false≢true}
use mathlib.Core.Option.{Option, none, some}
use lib.Dec.{eqb}
use borrow.Author.Tests.{ne_eqb, eq-eqb}
use Rattle.form.specs.Trees.{any, null, Ty, leaf, built, Built, list, range, context, function, Fields, no_fields, field, Val, v_leaf, v_range, v_list, v_context, v_function, v_built_in, v_type}
use Rattle.form.specs.Trees.{v_irrelevant, Vals, no_items, item, Entries, no_entries, entry}
use Rattle.form.specs.Form.{Wf, WfV, WfVals, WfEntries}
use Rattle.order.specs.Order.{fixed, strict_order}
use Rattle.order.specs.Types.{lookup, found, all_fields, cmp}
use Rattle.order.specs.Ascending.{Asc, AscBuilt, AscFields}
use Rattle.order.specs.Document.{conforms_to, eq_ty, eq_fields, null_or_same, instance_built, is_instance_of}
use Rattle.order.specs.Dmn.{dmn_conforms_to}
use Rattle.order.specs.Values.{leaf_type, to_list, conforms, all_conform, has_value, is_data_by, are_data, hold_data}
use Rattle.order.specs.Inferred.{value_conforms_to, is_data, least_type, list_type, type_of, first_type, items_below, entry_types}
use Rattle.order.proofs.Simple.{fixed_laws, flat_laws, and_left, and_right, and_both}
use Rattle.order.proofs.Bools.{or_cases}
use Rattle.order.proofs.Conform.{all_imply}
use Rattle.order.proofs.Answers.{AscOption, asc_look}
use Rattle.order.proofs.Laws.{le_refl, le_trans}
use Rattle.order.proofs.Sentences.{le_contexts}
use Rattle.order.proofs.Equal.{eq_ty_same, eq_fields_same}
use Rattle.order.proofs.WellFormed.{asc_of}
use Rattle.order.proofs.Least.{le_null, le_any, conforms_least}
use Rattle.order.proofs.TypeOf.{asc_entry_types}

-- ---- instances
equal_conforms : (a b : Ty) → Asc a → eq_ty a b ≡ true → dmn_conforms_to a b ≡ true
equal_conforms a b w h = subst (λ x. dmn_conforms_to a x ≡ true) (eq_ty_same a b h) (le_refl strict_order (flat_laws true) a w)

entry_conforms : (o : Option Ty) (t : Ty) → AscOption o → found o (λ a. null_or_same a t) ≡ true → found o (λ a. dmn_conforms_to a t) ≡ true
unfolding AscOption
entry_conforms none t w h = h
entry_conforms (some a) t w h =
    or_cases (eq_ty a (leaf null)) (eq_ty a t) h
    (λ e. subst (λ x. dmn_conforms_to x t ≡ true) (sym (eq_ty_same a (leaf null) e)) (le_null strict_order (flat_laws true) t))
    (equal_conforms a t w)

built_instance : (x y : Built) → AscBuilt x → instance_built x y ≡ true → dmn_conforms_to (built x) (built y) ≡ true
unfolding instance_built cmp Asc
built_instance (list a) (list b) w h =
    or_cases (eq_ty a b) (eq_ty b (leaf any)) h (equal_conforms a b w)
    (λ e. subst (λ x. dmn_conforms_to a x ≡ true) (sym (eq_ty_same b (leaf any) e)) (le_any strict_order (flat_laws true) a))
built_instance (list a) (range b) w h = absurd (false≢true h)
built_instance (list a) (context gs) w h = absurd (false≢true h)
built_instance (list a) (function qs s) w h = absurd (false≢true h)
built_instance (range a) y w h = absurd (false≢true h)
built_instance (context fs) (list b) w h = absurd (false≢true h)
built_instance (context fs) (range b) w h = absurd (false≢true h)
built_instance (context fs) (context gs) w h =
    or_cases (eq_fields fs gs) (all_fields (λ n t. found (lookup n fs) (λ a. null_or_same a t)) gs) h
    (λ e. subst (λ x. dmn_conforms_to (built (context fs)) (built (context x)) ≡ true) (eq_fields_same fs gs e) (le_refl strict_order (flat_laws true) (built (context fs)) w))
    (λ e.
    le_contexts strict_order fs gs
    ∙ all_imply strict_order (flat_laws true) (λ n t. found (lookup n fs) (λ a. null_or_same a t)) (λ n t. found (lookup n fs) (λ a. dmn_conforms_to a t)) gs
    (λ n t. entry_conforms (lookup n fs) t (asc_look n fs 0 w)) e)
built_instance (context fs) (function qs s) w h = absurd (false≢true h)
built_instance (function ps r) y w h = absurd (false≢true h)

pub instance_conforms : (a b : Ty) → Wf a → is_instance_of a b ≡ true → dmn_conforms_to a b ≡ true
unfolding is_instance_of Asc
instance_conforms (leaf s) b w h = absurd (false≢true h)
instance_conforms (built x) (leaf t) w h = absurd (false≢true h)
instance_conforms (built x) (built y) w h = built_instance x y (asc_of (built x) w) h

-- ---- the inferred type
conforms_up : (v : Val) (t u : Ty) → is_data v ≡ true → value_conforms_to v t ≡ true → conforms_to t u ≡ true → value_conforms_to v u ≡ true
conforms_up v t u d p q =
    conforms_least fixed fixed_laws v u d ∙ le_trans fixed fixed_laws (least_type v) t u (sym (conforms_least fixed fixed_laws v t d) ∙ p) q

any_conforms : (v : Val) → is_data v ≡ true → value_conforms_to v (leaf any) ≡ true
any_conforms v d = conforms_least fixed fixed_laws v (leaf any) d ∙ le_any fixed fixed_laws (least_type v)

any_items : (vs : Vals) → are_data fixed vs ≡ true → all_conform fixed vs (leaf any) ≡ true
unfolding conforms is_data_by
any_items no_items d = refl
any_items (item v vs) d =
    and_both (value_conforms_to v (leaf any)) (all_conform fixed vs (leaf any)) (any_conforms v (and_left (is_data v) (are_data fixed vs) d))
    (any_items vs (and_right (is_data v) (are_data fixed vs) d))

both_ends : (v w : Val) (q : Bool) → eq_ty (type_of v) (type_of w) ≡ q → is_data v ≡ true → is_data w ≡ true
    → value_conforms_to v (type_of v) ≡ true → value_conforms_to w (type_of w) ≡ true
    → value_conforms_to v (cond q (type_of v) (leaf any)) && value_conforms_to w (cond q (type_of v) (leaf any)) ≡ true
both_ends v w true e dv dw p q =
    and_both (value_conforms_to v (type_of v)) (value_conforms_to w (type_of v)) p (subst (λ t. value_conforms_to w t ≡ true) (sym (eq_ty_same (type_of v) (type_of w) e)) q)
both_ends v w false e dv dw p q = and_both (value_conforms_to v (leaf any)) (value_conforms_to w (leaf any)) (any_conforms v dv) (any_conforms w dw)

items_or_any : (vs : Vals) (t : Ty) (q : Bool) → are_data fixed vs ≡ true → (q ≡ true → all_conform fixed vs t ≡ true)
    → all_conform fixed vs (cond q t (leaf any)) ≡ true
items_or_any vs t true d h = h refl
items_or_any vs t false d h = any_items vs d

-- the type of a list, where items whose types conform to a type conform to it themselves
list_conforms : (vs : Vals) → are_data fixed vs ≡ true → ((t : Ty) → items_below vs (some t) ≡ true → all_conform fixed vs t ≡ true)
    → to_list fixed (list_type (first_type vs) (items_below vs (first_type vs))) (λ u. all_conform fixed vs u) ≡ true
unfolding conforms type_of
list_conforms no_items d h = refl
list_conforms (item v vs) d h = items_or_any (item v vs) (type_of v) (items_below (item v vs) (some (type_of v))) d (h (type_of v))

-- a name smaller than all that are asked for does not matter
value_skip : (gs : Fields) (k n : ℕ) (v : Val) (es : Entries) → AscFields gs k → n < k
    → all_fields (λ m t. has_value fixed (entry n v es) m t) gs ≡ all_fields (λ m t. has_value fixed es m t) gs
unfolding conforms all_fields Asc
value_skip no_fields k n v es w h = refl
value_skip (field m t gs) k n v es w h =
    let ne : eqb m n ≡ false = ne_eqb m n (λ e. omega (arith, w.0)) in
    ap₂ ◌&&◌ (ap (λ q. cond q (conforms fixed v t) (has_value fixed es m t)) ne) (value_skip gs (suc m) n v es w.2 (omega (arith, w.0)))

mutual
  unfolding conforms is_data_by type_of WfV cmp all_fields

  pub type_of_conforms : (v : Val) → WfV v → is_data v ≡ true → value_conforms_to v (type_of v) ≡ true
  type_of_conforms (v_leaf l) h d = fixed_laws.reflexive (leaf_type l)
  type_of_conforms (v_range i j v w) h d =
      let dv = and_left (is_data v) (is_data w) d in
      let dw = and_right (is_data v) (is_data w) d in
      both_ends v w (eq_ty (type_of v) (type_of w)) refl dv dw (type_of_conforms v h.1.1.0 dv) (type_of_conforms w h.1.1.1 dw)
  type_of_conforms (v_list vs) h d = list_conforms vs d (λ t e. items_conform vs t h.1 d e)
  type_of_conforms (v_context es) h d = entries_conform_lem es 0 h.1 d
  type_of_conforms (v_function ps b r) h d = absurd (false≢true d)
  type_of_conforms (v_built_in b) h d = absurd (false≢true d)
  type_of_conforms (v_type t) h d = absurd (false≢true d)
  type_of_conforms v_irrelevant h d = absurd (false≢true d)

  -- items whose types conform to t
  items_conform : (vs : Vals) (t : Ty) → WfVals vs → are_data fixed vs ≡ true → items_below vs (some t) ≡ true → all_conform fixed vs t ≡ true
  items_conform no_items t h d e = refl
  items_conform (item v vs) t h d e =
      let dv = and_left (is_data v) (are_data fixed vs) d in
      and_both (value_conforms_to v t) (all_conform fixed vs t)
      (conforms_up v (type_of v) t dv (type_of_conforms v h.0 dv) (and_left (conforms_to (type_of v) t) (items_below vs (some t)) e))
      (items_conform vs t h.1 (and_right (is_data v) (are_data fixed vs) d) (and_right (conforms_to (type_of v) t) (items_below vs (some t)) e))

  entries_conform_lem : (es : Entries) (k : ℕ) → WfEntries es k → hold_data fixed es ≡ true → all_fields (λ n t. has_value fixed es n t) (entry_types es) ≡ true
  entries_conform_lem no_entries k h d = refl
  entries_conform_lem (entry n v es) k h d =
      and_both (has_value fixed (entry n v es) n (type_of v)) (all_fields (λ m t. has_value fixed (entry n v es) m t) (entry_types es))
      (ap (λ q. cond q (value_conforms_to v (type_of v)) (has_value fixed es n (type_of v))) (eq-eqb n n refl)
      ∙ type_of_conforms v h.1.1.0 (and_left (is_data v) (hold_data fixed es) d))
      (value_skip (entry_types es) (suc n) n v es (rw add-one at (asc_entry_types es (n + 1) h.1.1.1)) (omega arith)
      ∙ entries_conform_lem es (n + 1) h.1.1.1 (and_right (is_data v) (hold_data fixed es) d))
