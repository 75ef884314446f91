-- What is stated of coercion: when it fails, that coercing again changes nothing, and that on data values it is DMN's implicit conversion.
-- Assumes nothing.
use Rattle.std.specs.Prelude.{◌≡◌, Bool, true, false, ◌||◌, ◌↔◌}
use Rattle.form.specs.Trees.{Ty, Leaf, l_null, l_boolean, l_number, l_decimal, l_string, l_temporal, Val, v_leaf, v_range, v_list, v_context, v_function, v_built_in, v_type, v_irrelevant, Vals}
use Rattle.form.specs.Trees.{no_items, item}
use Rattle.order.specs.Inferred.{is_data}
use Rattle.coercion.specs.Coerce.{failed, unchanged, sole_item_conforms, inner_conforms, coerced}
use Rattle.coercion.specs.Dmn.{dmn_coerced}

-- a rule of the last two applies
abbrev pub converts : Val → Ty → Bool
converts (v_leaf l) t = inner_conforms (v_leaf l) t
converts (v_range i j v w) t = inner_conforms (v_range i j v w) t
converts (v_list vs) t = sole_item_conforms vs t
converts (v_context es) t = inner_conforms (v_context es) t
converts (v_function ps b r) t = inner_conforms (v_function ps b r) t
converts (v_built_in b) t = inner_conforms (v_built_in b) t
converts (v_type a) t = inner_conforms (v_type a) t
converts v_irrelevant t = inner_conforms v_irrelevant t

-- one of the rules applies
abbrev pub applies : Val → Ty → Bool
applies v t = unchanged v t || converts v t

-- Null, and a one-item list of Null
abbrev pub is_nil_leaf : Leaf → Bool
is_nil_leaf (l_null x) = true
is_nil_leaf (l_boolean x) = false
is_nil_leaf (l_number x) = false
is_nil_leaf (l_decimal x p) = false
is_nil_leaf (l_string x) = false
is_nil_leaf (l_temporal k x) = false

abbrev pub is_nil : Val → Bool
is_nil (v_leaf l) = is_nil_leaf l
is_nil (v_range i j v w) = false
is_nil (v_list vs) = false
is_nil (v_context es) = false
is_nil (v_function ps b r) = false
is_nil (v_built_in b) = false
is_nil (v_type a) = false
is_nil v_irrelevant = false

abbrev pub one_nil : Vals → Bool
one_nil no_items = false
one_nil (item v no_items) = is_nil v
one_nil (item v (item w vs)) = false

abbrev pub is_one_nil : Val → Bool
is_one_nil (v_leaf l) = false
is_one_nil (v_range i j v w) = false
is_one_nil (v_list vs) = one_nil vs
is_one_nil (v_context es) = false
is_one_nil (v_function ps b r) = false
is_one_nil (v_built_in b) = false
is_one_nil (v_type a) = false
is_one_nil v_irrelevant = false

pub record Coercion : Type 0 where
  -- but for Null and a one-item list of Null: null with trace 1 exactly when none of the rules applies
  pub fails_exactly : (v : Val) (t : Ty) → is_nil v ≡ false → is_one_nil v ≡ false → (coerced v t ≡ failed) ↔ (applies v t ≡ false)
  -- for those two a rule always applies
  pub nil_applies : (v : Val) (t : Ty) → is_nil v ≡ true → applies v t ≡ true
  pub one_nil_applies : (v : Val) (t : Ty) → is_one_nil v ≡ true → applies v t ≡ true
  -- coercing a coerced value changes nothing
  pub coerced_again : (v : Val) (t : Ty) → coerced (coerced v t) t ≡ coerced v t
  -- on data values it is DMN's implicit conversion, by types
  pub data_is_dmn_coercion : (v : Val) (t : Ty) → is_data v ≡ true → coerced v t ≡ dmn_coerced v t
