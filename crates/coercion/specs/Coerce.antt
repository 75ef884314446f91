-- Coercion on trees: `Value::coerced`, rule by rule.
-- Assumes nothing.
use Rattle.std.specs.Prelude.{Bool, true, false, cond}
use Rattle.form.specs.Trees.{Ty, leaf, built, list, range, context, function, Val, v_leaf, v_range, v_list, v_context, v_function, v_built_in, v_type, v_irrelevant, Vals, no_items, item}
use Rattle.order.specs.Document.{conforms_to}
use Rattle.order.specs.Inferred.{value_conforms_to}
use Rattle.ranges.specs.Ranges.{bif_type}
use Rattle.form.specs.Trees.{nothing}

-- null with trace 1: none of the rules applies
abbrev pub failed : Val
failed = nothing 1

-- a one-item list of the value
abbrev pub single : Val → Val
single v = v_list (item v no_items)

-- 0C unchanged; 0D whose `feel_type` ≤ target unchanged; conformant unchanged
abbrev pub unchanged : Val → Ty → Bool
unchanged (v_leaf l) t = value_conforms_to (v_leaf l) t
unchanged (v_range i j v w) t = value_conforms_to (v_range i j v w) t
unchanged (v_list vs) t = value_conforms_to (v_list vs) t
unchanged (v_context es) t = value_conforms_to (v_context es) t
unchanged (v_function ps b r) t = true
unchanged (v_built_in b) t = cond (conforms_to (bif_type b) t) true (value_conforms_to (v_built_in b) t)
unchanged (v_type a) t = value_conforms_to (v_type a) t
unchanged v_irrelevant t = value_conforms_to v_irrelevant t

-- one-item list whose item conforms: the item
abbrev pub sole_item_conforms : Vals → Ty → Bool
sole_item_conforms no_items t = false
sole_item_conforms (item v no_items) t = value_conforms_to v t
sole_item_conforms (item v (item w vs)) t = false

abbrev pub item_conforms : Val → Ty → Bool
item_conforms (v_leaf l) t = false
item_conforms (v_range i j v w) t = false
item_conforms (v_list vs) t = sole_item_conforms vs t
item_conforms (v_context es) t = false
item_conforms (v_function ps b r) t = false
item_conforms (v_built_in b) t = false
item_conforms (v_type a) t = false
item_conforms v_irrelevant t = false

abbrev pub first_item : Vals → Val
first_item no_items = failed
first_item (item v vs) = v

abbrev pub from_single : Vals → Ty → Val
from_single vs t = cond (sole_item_conforms vs t) (first_item vs) failed

-- non-list and target List whose inner type it meets: a one-item list
abbrev pub inner_conforms : Val → Ty → Bool
inner_conforms v (leaf s) = false
inner_conforms v (built (list u)) = value_conforms_to v u
inner_conforms v (built (range u)) = false
inner_conforms v (built (context fs)) = false
inner_conforms v (built (function ps r)) = false

abbrev pub to_single : Val → Ty → Val
to_single v t = cond (inner_conforms v t) (single v) failed

abbrev pub converted : Val → Ty → Val
converted (v_leaf l) t = to_single (v_leaf l) t
converted (v_range i j v w) t = to_single (v_range i j v w) t
converted (v_list vs) t = from_single vs t
converted (v_context es) t = to_single (v_context es) t
converted (v_function ps b r) t = to_single (v_function ps b r) t
converted (v_built_in b) t = to_single (v_built_in b) t
converted (v_type a) t = to_single (v_type a) t
converted v_irrelevant t = to_single v_irrelevant t

-- `Value::coerced`
abbrev pub coerced : Val → Ty → Val
coerced v t = cond (unchanged v t) v (converted v t)
