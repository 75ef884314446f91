-- A data value conforms to a type exactly when its least type does; least types are equal exactly when no type tells the values apart.
-- Idea: induction on the value; a list's least type is a common supertype, whose equation says that all items conform.
-- Index: `conforms_least`, `conforms_to_least` (conformance); `least_equal`, `least_by_each_other` (equal least types); `least_reduced`, `asc_least`, `asc_items` (shape);
-- `le_null`, `le_any` (the ends of the order).
-- Assumes nothing.
use Prim.Native.Nat.{ℕ, ◌+◌}
use native.Mathlib.Numerals.{add-one}
use mathlib.Core.Path.{◌≡◌, refl, sym, ◌∙◌, ap, ap₂}
use mathlib.Core.Bool.{Bool, true, false, cond, ◌&&◌, false≢true}
use mathlib.Core.Logic.{◌↔◌}
use lib.Dec.{eqb}
use Rattle.form.specs.Trees.{any, null, Ty, leaf, built, list, range, context, function, Fields, no_fields, field, Params, no_parameters, parameter, Val, v_leaf, v_range, v_list, v_context}
use Rattle.form.specs.Trees.{v_function, v_built_in, v_type, v_irrelevant, Vals, no_items, item, Entries, no_entries, entry}
use Rattle.form.specs.Form.{WfParams, WfV, WfVals, WfEntries}
use Rattle.order.specs.Order.{up, Order, Laws}
use Rattle.order.specs.Types.{all_fields, cmp, has, le, reduce, reduce_fields, bound, sup}
use Rattle.order.specs.Ascending.{Asc, AscTys, AscFields}
use Rattle.order.specs.Values.{types_of, to_range, to_list, to_context, conforms, all_conform, has_value, is_data_by, are_data, hold_data, least, least_items, least_entries}
use Rattle.order.proofs.Simple.{and_left, and_right}
use Rattle.order.proofs.Bools.{and_assoc, and_true}
use Rattle.order.proofs.Conform.{all_ext, reduce_reduce}
use Rattle.order.proofs.Answers.{asc_reduce, asc_sup}
use Rattle.order.proofs.WellFormed.{asc_of}
use Rattle.order.proofs.Laws.{le_sup, le_reduce_left, le_refl, mutual_reduce}

-- the names of a parameter's type ascend
pub asc_params : (ps : Params) → WfParams ps → AscTys (types_of ps)
unfolding WfParams types_of Asc
asc_params no_parameters h = tt
asc_params (parameter m t ps) h = (asc_of t h.1.0, asc_params ps h.1.1)

module _ (O : Order) where
  -- a built type against a type, as a built value
  le_range : (a t : Ty) → le O (built (range a)) t ≡ to_range O t (λ u. le O a u)
  unfolding cmp
  le_range a (leaf s) = refl
  le_range a (built (list u)) = refl
  le_range a (built (range u)) = refl
  le_range a (built (context fs)) = refl
  le_range a (built (function qs s)) = refl

  le_list : (a t : Ty) → le O (built (list a)) t ≡ to_list O t (λ u. le O a u)
  unfolding cmp
  le_list a (leaf s) = refl
  le_list a (built (list u)) = refl
  le_list a (built (range u)) = refl
  le_list a (built (context fs)) = refl
  le_list a (built (function qs s)) = refl

  le_context : (fs : Fields) (t : Ty) → le O (built (context fs)) t ≡ to_context O t (λ gs. all_fields (λ n u. has O fs n u) gs)
  unfolding cmp
  le_context fs (leaf s) = refl
  le_context fs (built (list u)) = refl
  le_context fs (built (range u)) = refl
  le_context fs (built (context gs)) = refl
  le_context fs (built (function qs s)) = refl

  has_none : (n : ℕ) (u : Ty) → false ≡ has O no_fields n u
  unfolding cmp
  has_none n u = refl

  has_some : (n m : ℕ) (a : Ty) (fs : Fields) (u : Ty) → cond (eqb n m) (le O a u) (has O fs n u) ≡ has O (field m a fs) n u
  unfolding cmp
  has_some n m a fs u = refl

  pub to_range_ext : (t : Ty) (f g : Ty → Bool) → ((u : Ty) → f u ≡ g u) → to_range O t f ≡ to_range O t g
  to_range_ext (leaf s) f g h = refl
  to_range_ext (built (list u)) f g h = refl
  to_range_ext (built (range u)) f g h = h u
  to_range_ext (built (context fs)) f g h = refl
  to_range_ext (built (function qs s)) f g h = refl

  pub to_list_ext : (t : Ty) (f g : Ty → Bool) → ((u : Ty) → f u ≡ g u) → to_list O t f ≡ to_list O t g
  to_list_ext (leaf s) f g h = refl
  to_list_ext (built (list u)) f g h = h u
  to_list_ext (built (range u)) f g h = refl
  to_list_ext (built (context fs)) f g h = refl
  to_list_ext (built (function qs s)) f g h = refl

  pub to_context_ext : (t : Ty) (f g : Fields → Bool) → ((fs : Fields) → f fs ≡ g fs) → to_context O t f ≡ to_context O t g
  to_context_ext (leaf s) f g h = refl
  to_context_ext (built (list u)) f g h = refl
  to_context_ext (built (range u)) f g h = refl
  to_context_ext (built (context fs)) f g h = h fs
  to_context_ext (built (function qs s)) f g h = refl

  -- a least type is reduced
  items_reduced : (vs : Vals) (t : Ty) → reduce O t ≡ t → reduce O (least_items O vs t) ≡ least_items O vs t
  unfolding least
  items_reduced no_items t h = h
  items_reduced (item v vs) t h = items_reduced vs (sup O t (least O v)) (reduce_reduce O (bound O up t (least O v)))

  mutual
    unfolding least reduce

    pub least_reduced : (v : Val) → reduce O (least O v) ≡ least O v
    least_reduced (v_leaf l) = refl
    least_reduced (v_range i j v w) = ap (λ x. built (range x)) (reduce_reduce O (bound O up (least O v) (least O w)))
    least_reduced (v_list vs) = ap (λ x. built (list x)) (items_reduced vs (leaf null) refl)
    least_reduced (v_context es) = ap (λ x. built (context x)) (entries_reduced es)
    least_reduced (v_function ps b r) = reduce_reduce O (built (function (types_of ps) r))
    least_reduced (v_built_in b) = refl
    least_reduced (v_type a) = refl
    least_reduced v_irrelevant = refl

    entries_reduced : (es : Entries) → reduce_fields O (least_entries O es) ≡ least_entries O es
    entries_reduced no_entries = refl
    entries_reduced (entry n v es) = ap₂ (field n) (least_reduced v) (entries_reduced es)

  -- the names of a least type ascend
  pub asc_null : Asc (leaf null)
  unfolding Asc
  asc_null = tt

  mutual
    unfolding least Asc WfV

    pub asc_least : (v : Val) → WfV v → Asc (least O v)
    asc_least (v_leaf l) h = tt
    asc_least (v_range i j v w) h = asc_sup O (least O v) (least O w) (asc_least v h.1.1.0) (asc_least w h.1.1.1)
    asc_least (v_list vs) h = asc_items vs (leaf null) h.1 tt
    asc_least (v_context es) h = asc_entries es 0 h.1
    asc_least (v_function ps b r) h = asc_reduce O (built (function (types_of ps) r)) (asc_params ps h.1.1.1, asc_of r h.1.1.0)
    asc_least (v_built_in b) h = tt
    asc_least (v_type a) h = tt
    asc_least v_irrelevant h = tt

    pub asc_items : (vs : Vals) (t : Ty) → WfVals vs → Asc t → Asc (least_items O vs t)
    asc_items no_items t h w = w
    asc_items (item v vs) t h w = asc_items vs (sup O t (least O v)) h.1 (asc_sup O t (least O v) w (asc_least v h.0))

    asc_entries : (es : Entries) (k : ℕ) → WfEntries es k → AscFields (least_entries O es) k
    asc_entries no_entries k h = tt
    asc_entries (entry n v es) k h = (h.0, asc_least v h.1.1.0, rw add-one at (asc_entries es (n + 1) h.1.1.1))

module _ (O : Order) (L : Laws O) where
  -- Null conforms to everything
  pub le_null : (t : Ty) → le O (leaf null) t ≡ true
  unfolding cmp
  le_null (leaf s) = L.null_least_lem s
  le_null (built y) = L.null_least_lem null

  -- everything conforms to Any
  pub le_any : (t : Ty) → le O t (leaf any) ≡ true
  unfolding cmp
  le_any (leaf s) = L.any_greatest_lem s
  le_any (built x) = L.any_greatest_lem any

  definition_strict : (b : Bool) (x y : Bool) → b ≡ true → cond b x y ≡ x
  definition_strict b x y e = ap (λ q. cond q x y) e

  -- a data value conforms to a type exactly when its least type does
  mutual
    unfolding conforms is_data_by least

    pub conforms_least : (v : Val) (t : Ty) → is_data_by O v ≡ true → conforms O v t ≡ le O (least O v) t
    conforms_least (v_leaf l) t h = refl
    conforms_least (v_range i j v w) t h =
        to_range_ext O t (λ u. conforms O v u && conforms O w u) (λ u. le O (sup O (least O v) (least O w)) u)
        (λ u.
        ap₂ ◌&&◌ (conforms_least v u (and_left (is_data_by O v) (is_data_by O w) h)) (conforms_least w u (and_right (is_data_by O v) (is_data_by O w) h))
        ∙ sym (le_sup O L (least O v) (least O w) u))
        ∙ sym (le_range O (sup O (least O v) (least O w)) t)
    conforms_least (v_list vs) t h =
        to_list_ext O t (λ u. all_conform O vs u) (λ u. le O (least_items O vs (leaf null)) u)
        (λ u. ap (λ x. x && all_conform O vs u) (sym (le_null u)) ∙ sym (conforms_items vs u (leaf null) h))
        ∙ sym (le_list O (least_items O vs (leaf null)) t)
    conforms_least (v_context es) t h =
        to_context_ext O t (λ fs. all_fields (λ n u. has_value O es n u) fs) (λ fs. all_fields (λ n u. has O (least_entries O es) n u) fs)
        (λ fs. all_ext (λ n u. has_value O es n u) (λ n u. has O (least_entries O es) n u) fs (λ n u. conforms_entry es n u h))
        ∙ sym (le_context O (least_entries O es) t)
    conforms_least (v_function ps b r) t h =
        definition_strict O.strict (cmp O up (built (function (types_of ps) r)) t) _ h
        ∙ sym (le_reduce_left O L (built (function (types_of ps) r)) t)
    conforms_least (v_built_in b) t h = absurd (false≢true h)
    conforms_least (v_type a) t h = absurd (false≢true h)
    conforms_least v_irrelevant t h = absurd (false≢true h)

    conforms_items : (vs : Vals) (u a : Ty) → are_data O vs ≡ true → le O (least_items O vs a) u ≡ le O a u && all_conform O vs u
    conforms_items no_items u a h = sym (and_true (le O a u))
    conforms_items (item v vs) u a h =
        conforms_items vs u (sup O a (least O v)) (and_right (is_data_by O v) (are_data O vs) h)
        ∙ ap (λ x. x && all_conform O vs u)
        (le_sup O L a (least O v) u ∙ ap (λ x. le O a u && x) (sym (conforms_least v u (and_left (is_data_by O v) (are_data O vs) h))))
        ∙ and_assoc (le O a u) (conforms O v u) (all_conform O vs u)

    conforms_entry : (es : Entries) (n : ℕ) (u : Ty) → hold_data O es ≡ true → has_value O es n u ≡ has O (least_entries O es) n u
    conforms_entry no_entries n u h = has_none O n u
    conforms_entry (entry m v es) n u h =
        ap₂ (cond (eqb n m)) (conforms_least v u (and_left (is_data_by O v) (hold_data O es) h))
        (conforms_entry es n u (and_right (is_data_by O v) (hold_data O es) h))
        ∙ has_some O n m (least O v) (least_entries O es) u

  -- ---- equal least types
  -- the two least types themselves tell the values apart if anything does
  pub least_by_each_other : (v w : Val) → WfV v → WfV w → is_data_by O v ≡ true → is_data_by O w ≡ true
      → conforms O v (least O w) ≡ true → conforms O w (least O v) ≡ true → least O v ≡ least O w
  least_by_each_other v w hv hw dv dw p q =
      sym (least_reduced O v)
      ∙ (mutual_reduce O L (least O v) (least O w) (asc_least O v hv) (asc_least O w hw)).0
      (sym (conforms_least v (least O w) dv) ∙ p, sym (conforms_least w (least O v) dw) ∙ q)
      ∙ least_reduced O w

  pub conforms_to_least : (v : Val) → WfV v → is_data_by O v ≡ true → conforms O v (least O v) ≡ true
  conforms_to_least v h d = conforms_least v (least O v) d ∙ le_refl O L (least O v) (asc_least O v h)

  -- equal exactly when every type of a kind P treats the two values alike, if both least types are of that kind
  pub least_equal : (P : Ty → Type 0) (v w : Val) → WfV v → WfV w → is_data_by O v ≡ true → is_data_by O w ≡ true → P (least O v) → P (least O w)
      → (least O v ≡ least O w) ↔ ((t : Ty) → P t → conforms O v t ≡ conforms O w t)
  least_equal P v w hv hw dv dw pv pw = (
    λ e t _. conforms_least v t dv ∙ ap (λ a. le O a t) e ∙ sym (conforms_least w t dw),
    λ h.
        least_by_each_other v w hv hw dv dw
        (h (least O w) pw ∙ conforms_to_least w hw dw)
        (sym (h (least O v) pv) ∙ conforms_to_least v hv dv),
  )
