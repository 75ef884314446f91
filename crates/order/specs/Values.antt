-- Values against types, data values and the least type, over an order among the simple types. (The type that the Rust infers: specs/Inferred.antt.)
-- Assumes nothing.
use Rattle.std.specs.Prelude.{ℕ, Bool, true, false, cond, ◌&&◌, eqb}
use Rattle.form.specs.Trees.{Simple, any, boolean, number, string, date, time, date_time, days_and_time, years_and_months, null, Ty, leaf, built, list, range, context, function, Fields, no_fields}
use Rattle.form.specs.Trees.{field, Tys, no_params, param, Temporal, on_date, at_time, at_date_time, for_days_and_time, for_years_and_months, Leaf, l_null, l_boolean, l_number, l_decimal}
use Rattle.form.specs.Trees.{l_string, l_temporal, Params, no_parameters, parameter, Val, v_leaf, v_range, v_list, v_context, v_function, v_built_in, v_type, v_irrelevant, Vals, no_items, item}
use Rattle.form.specs.Trees.{Entries, no_entries, entry}
use Rattle.order.specs.Order.{up, Order}
use Rattle.order.specs.Types.{all_fields, cmp, cmps, reduce, sup}

abbrev pub temporal_type : Temporal → Simple
temporal_type on_date = date
temporal_type at_time = time
temporal_type at_date_time = date_time
temporal_type for_days_and_time = days_and_time
temporal_type for_years_and_months = years_and_months

-- a leaf's own type
abbrev pub leaf_type : Leaf → Simple
leaf_type (l_null t) = null
leaf_type (l_boolean b) = boolean
leaf_type (l_number z) = number
leaf_type (l_decimal z p) = number
leaf_type (l_string n) = string
leaf_type (l_temporal k z) = temporal_type k

-- the parameter types of a function definition
unfoldable pub types_of : Params → Tys
types_of no_parameters = no_params
types_of (parameter n t ps) = param t (types_of ps)

module _ (O : Order) where
  -- A value against a type by its kind: Any yes, its own kind by the inner types, all else no.
  abbrev pub to_range : Ty → (Ty → Bool) → Bool
  to_range (leaf s) f = O.sle any s
  to_range (built (list u)) f = false
  to_range (built (range u)) f = f u
  to_range (built (context fs)) f = false
  to_range (built (function qs s)) f = false

  abbrev pub to_list : Ty → (Ty → Bool) → Bool
  to_list (leaf s) f = O.sle any s
  to_list (built (list u)) f = f u
  to_list (built (range u)) f = false
  to_list (built (context fs)) f = false
  to_list (built (function qs s)) f = false

  abbrev pub to_context : Ty → (Fields → Bool) → Bool
  to_context (leaf s) f = O.sle any s
  to_context (built (list u)) f = false
  to_context (built (range u)) f = false
  to_context (built (context fs)) f = f fs
  to_context (built (function qs s)) f = false

  abbrev pub to_function : Ty → (Tys → Ty → Bool) → Bool
  to_function (leaf s) f = O.sle any s
  to_function (built (list u)) f = false
  to_function (built (range u)) f = false
  to_function (built (context fs)) f = false
  to_function (built (function qs s)) f = f qs s

  abbrev pub is_any : Ty → Bool
  is_any (leaf s) = O.sle any s
  is_any (built y) = false

  -- A function definition: equal counts, each own parameter ≤ the target's, result ≤ result. Strict: as its function type.
  abbrev pub conforms_definition : Tys → Ty → Ty → Bool
  conforms_definition ps r t =
      cond O.strict (cmp O up (built (function ps r)) t) (to_function t (λ qs s. cmps O up ps qs && cmp O up r s))

  unfoldable mutual
    pub conforms : Val → Ty → Bool
    conforms (v_leaf l) t = cmp O up (leaf (leaf_type l)) t
    conforms (v_range i j v w) t = to_range t (λ u. conforms v u && conforms w u)
    conforms (v_list vs) t = to_list t (λ u. all_conform vs u)
    conforms (v_context es) t = to_context t (λ fs. all_fields (λ n u. has_value es n u) fs)
    conforms (v_function ps b r) t = conforms_definition (types_of ps) r t
    conforms (v_built_in b) t = is_any t
    conforms (v_type a) t = is_any t
    conforms v_irrelevant t = is_any t

    pub all_conform : Vals → Ty → Bool
    all_conform no_items u = true
    all_conform (item v vs) u = conforms v u && all_conform vs u

    -- the name is present, and its value conforms
    pub has_value : Entries → ℕ → Ty → Bool
    has_value no_entries n u = false
    has_value (entry m v es) n u = cond (eqb n m) (conforms v u) (has_value es n u)

  -- Data: 00 to 0B and 10 throughout; with the strict reading also function definitions.
  unfoldable mutual
    pub is_data_by : Val → Bool
    is_data_by (v_leaf l) = true
    is_data_by (v_range i j v w) = is_data_by v && is_data_by w
    is_data_by (v_list vs) = are_data vs
    is_data_by (v_context es) = hold_data es
    is_data_by (v_function ps b r) = O.strict
    is_data_by (v_built_in b) = false
    is_data_by (v_type a) = false
    is_data_by v_irrelevant = false

    pub are_data : Vals → Bool
    are_data no_items = true
    are_data (item v vs) = is_data_by v && are_data vs

    pub hold_data : Entries → Bool
    hold_data no_entries = true
    hold_data (entry n v es) = is_data_by v && hold_data es

  -- The least type, of a data value. (Of a value that is no data it says nothing: a function definition has its reduced function type here, any other Any.)
  unfoldable mutual
    pub least : Val → Ty
    least (v_leaf l) = leaf (leaf_type l)
    least (v_range i j v w) = built (range (sup O (least v) (least w)))
    least (v_list vs) = built (list (least_items vs (leaf null)))
    least (v_context es) = built (context (least_entries es))
    least (v_function ps b r) = reduce O (built (function (types_of ps) r))
    least (v_built_in b) = leaf any
    least (v_type a) = leaf any
    least v_irrelevant = leaf any

    -- the supertype of t and of the least types of all items, from the left
    pub least_items : Vals → Ty → Ty
    least_items no_items t = t
    least_items (item v vs) t = least_items vs (sup O t (least v))

    pub least_entries : Entries → Fields
    least_entries no_entries = no_fields
    least_entries (entry n v es) = field n (least v) (least_entries es)
