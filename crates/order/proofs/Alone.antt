-- Document 01's sentences that hold by computing alone, over every order among the simple types. The file rests on the definitions only and is checked first: a
-- definition that breaks one of these sentences is refused here.
-- Index: `le_simple_built`, `le_built_simple`, `le_lists`, `le_ranges`, `le_functions_down` (conformance); `sup_simple`, `sup_simple_built`, `sup_lists`, `sup_contexts`,
-- `sup_functions` and their `sub-` partners (supertype and subtype); `least_lists` (least type).
-- Assumes nothing.
use mathlib.Core.Path.{◌≡◌, refl, sym, ◌∙◌, ap}
use mathlib.Core.Bool.{Bool, true, false, not, cond, ◌&&◌, ◌||◌}
use Rattle.form.specs.Trees.{Simple, any, null, Ty, leaf, built, Built, list, range, context, function, Fields, no_fields, Tys, no_params, param, v_list, Vals, no_items, item}
use Rattle.order.specs.Order.{up, down, Order}
use Rattle.order.specs.Types.{same_count, ignores, empty, cmp, cmps, le, reduce, reduce_fields, bound, bounds, sup, sub, sup_fields, sub_fields, sup_tys, sub_tys}
use Rattle.order.specs.Values.{least, least_items}
use Rattle.order.specs.Sentences.{from_left}

module _ (O : Order) where
  -- CONFORMANCE
  pub le_simple_built : (s : Simple) (y : Built) → le O (leaf s) (built y) ≡ O.sle s null
  unfolding cmp
  le_simple_built s y = refl

  pub le_built_simple : (x : Built) (t : Simple) → le O (built x) (leaf t) ≡ O.sle any t
  unfolding cmp
  le_built_simple x t = refl

  pub le_lists : (a b : Ty) → le O (built (list a)) (built (list b)) ≡ le O a b
  unfolding cmp
  le_lists a b = refl

  pub le_ranges : (a b : Ty) → le O (built (range a)) (built (range b)) ≡ le O a b
  unfolding cmp
  le_ranges a b = refl

  -- the parameters read the other way round (`cmps down`: each of the second ≤ that of the first)
  pub le_functions_down : (ps qs : Tys) (r s : Ty) → le O (built (function ps r)) (built (function qs s)) ≡ cmps O down ps qs && (ignores O ps || le O r s)
  unfolding cmp
  le_functions_down ps qs r s = refl

  -- SUPERTYPE AND SUBTYPE
  pub sup_simple : (s t : Simple) → sup O (leaf s) (leaf t) ≡ leaf (O.sjoin s t)
  unfolding bound reduce
  sup_simple s t = refl

  pub sub_simple : (s t : Simple) → sub O (leaf s) (leaf t) ≡ leaf (O.smeet s t)
  unfolding bound reduce
  sub_simple s t = refl

  -- Null with T gives T, any other simple type with a built one Any
  pub sup_simple_built : (s : Simple) (y : Built) → sup O (leaf s) (built y) ≡ cond (O.sle s null) (reduce O (built y)) (leaf any)
  unfolding bound reduce
  sup_simple_built s y = step (O.sle s null)
    where
      step : (q : Bool) → reduce O (cond q (built y) (leaf any)) ≡ cond q (reduce O (built y)) (leaf any)
      step true = refl
      step false = refl

  pub sup_built_simple : (x : Built) (t : Simple) → sup O (built x) (leaf t) ≡ cond (O.sle t null) (reduce O (built x)) (leaf any)
  unfolding bound reduce
  sup_built_simple x t = step (O.sle t null)
    where
      step : (q : Bool) → reduce O (cond q (built x) (leaf any)) ≡ cond q (reduce O (built x)) (leaf any)
      step true = refl
      step false = refl

  -- Any with T gives T, any other simple type with a built one Null
  pub sub_simple_built : (s : Simple) (y : Built) → sub O (leaf s) (built y) ≡ cond (O.sle any s) (reduce O (built y)) (leaf null)
  unfolding bound reduce
  sub_simple_built s y = step (O.sle any s)
    where
      step : (q : Bool) → reduce O (cond q (built y) (leaf null)) ≡ cond q (reduce O (built y)) (leaf null)
      step true = refl
      step false = refl

  pub sub_built_simple : (x : Built) (t : Simple) → sub O (built x) (leaf t) ≡ cond (O.sle any t) (reduce O (built x)) (leaf null)
  unfolding bound reduce
  sub_built_simple x t = step (O.sle any t)
    where
      step : (q : Bool) → reduce O (cond q (built x) (leaf null)) ≡ cond q (reduce O (built x)) (leaf null)
      step true = refl
      step false = refl

  pub sup_lists : (a b : Ty) → sup O (built (list a)) (built (list b)) ≡ built (list (sup O a b))
  unfolding bound reduce
  sup_lists a b = refl

  pub sub_lists : (a b : Ty) → sub O (built (list a)) (built (list b)) ≡ built (list (sub O a b))
  unfolding bound reduce
  sub_lists a b = refl

  pub sup_ranges : (a b : Ty) → sup O (built (range a)) (built (range b)) ≡ built (range (sup O a b))
  unfolding bound reduce
  sup_ranges a b = refl

  pub sub_ranges : (a b : Ty) → sub O (built (range a)) (built (range b)) ≡ built (range (sub O a b))
  unfolding bound reduce
  sub_ranges a b = refl

  pub sup_contexts : (fs gs : Fields) → sup O (built (context fs)) (built (context gs)) ≡ built (context (sup_fields O fs gs))
  unfolding bound reduce
  sup_contexts fs gs = refl

  pub sub_contexts : (fs gs : Fields) → sub O (built (context fs)) (built (context gs)) ≡ built (context (sub_fields O fs gs))
  unfolding bound reduce
  sub_contexts fs gs = refl

  empty_up : (ps qs : Tys) → same_count ps qs ≡ true → empty (bounds O up ps qs) ≡ empty ps
  unfolding bound same_count
  empty_up no_params no_params h = refl
  empty_up no_params (param b qs) h = refl
  empty_up (param a ps) no_params h = sym h
  empty_up (param a ps) (param b qs) h = refl

  empty_down : (ps qs : Tys) → same_count ps qs ≡ true → empty (bounds O down ps qs) ≡ empty ps
  unfolding bound same_count
  empty_down no_params no_params h = refl
  empty_down no_params (param b qs) h = refl
  empty_down (param a ps) no_params h = sym h
  empty_down (param a ps) (param b qs) h = refl

  -- functions of equal count: subtypes of parameters, supertype of results; of count 0, to Any
  pub sup_functions : (ps qs : Tys) (r s : Ty) → same_count ps qs ≡ true
      → sup O (built (function ps r)) (built (function qs s)) ≡ built (function (sub_tys O ps qs) (cond (ignores O ps) (leaf any) (sup O r s)))
  unfolding bound reduce
  sup_functions ps qs r s h =
      ap (λ q. reduce O (cond q (built (function (bounds O down ps qs) (bound O up r s))) (leaf any))) h
      ∙ ap (λ e. built (function (sub_tys O ps qs) (cond (not O.strict && e) (leaf any) (sup O r s)))) (empty_down ps qs h)

  pub sub_functions : (ps qs : Tys) (r s : Ty) → same_count ps qs ≡ true
      → sub O (built (function ps r)) (built (function qs s)) ≡ built (function (sup_tys O ps qs) (cond (ignores O ps) (leaf any) (sub O r s)))
  unfolding bound reduce
  sub_functions ps qs r s h =
      ap (λ q. reduce O (cond q (built (function (bounds O up ps qs) (bound O down r s))) (leaf null))) h
      ∙ ap (λ e. built (function (sup_tys O ps qs) (cond (not O.strict && e) (leaf any) (sub O r s)))) (empty_up ps qs h)

  pub sup_functions_other : (ps qs : Tys) (r s : Ty) → same_count ps qs ≡ false → sup O (built (function ps r)) (built (function qs s)) ≡ leaf any
  unfolding bound reduce
  sup_functions_other ps qs r s h = ap (λ q. reduce O (cond q (built (function (bounds O down ps qs) (bound O up r s))) (leaf any))) h

  pub sub_functions_other : (ps qs : Tys) (r s : Ty) → same_count ps qs ≡ false → sub O (built (function ps r)) (built (function qs s)) ≡ leaf null
  unfolding bound reduce
  sub_functions_other ps qs r s h = ap (λ q. reduce O (cond q (built (function (bounds O up ps qs) (bound O down r s))) (leaf null))) h

  -- a first context without names: no common name, and all names are the second's
  pub sup_fields_none : (gs : Fields) → sup_fields O no_fields gs ≡ no_fields
  unfolding bound reduce
  sup_fields_none gs = refl

  pub sub_fields_none : (gs : Fields) → sub_fields O no_fields gs ≡ reduce_fields O gs
  unfolding bound
  sub_fields_none gs = refl

  -- LEAST TYPE
  -- List: List of the supertype of all items' least types, starting from Null
  items_from_left : (vs : Vals) (t : Ty) → least_items O vs t ≡ from_left (λ u v. sup O u (least O v)) t vs
  unfolding least from_left
  items_from_left no_items t = refl
  items_from_left (item v vs) t = items_from_left vs (sup O t (least O v))

  pub least_lists : (vs : Vals) → least O (v_list vs) ≡ built (list (from_left (λ t v. sup O t (least O v)) (leaf null) vs))
  unfolding least
  least_lists vs = ap (λ t. built (list t)) (items_from_left vs (leaf null))
