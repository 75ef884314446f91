-- DMN's implicit conversions of a data value, by types: conforms to, from singleton list, to singleton list; otherwise null.
-- Assumes nothing.
use Rattle.std.specs.Prelude.{cond}
use Rattle.form.specs.Trees.{Ty, leaf, built, list, range, context, function, Val, v_leaf, v_range, v_list, v_context, v_function, v_built_in, v_type, v_irrelevant, Vals, no_items, item}
use Rattle.order.specs.Dmn.{dmn_conforms_to}
use Rattle.order.specs.Inferred.{least_type}
use Rattle.coercion.specs.Coerce.{failed, single}

-- from singleton list: the value is a list of one item, whose type conforms to the target
abbrev pub dmn_from : Vals → Ty → Val
dmn_from no_items t = failed
dmn_from (item v no_items) t = cond (dmn_conforms_to (least_type v) t) v failed
dmn_from (item v (item w vs)) t = failed

-- to singleton list: the value is no list, and its type conforms to the inner type of the target
abbrev pub dmn_to : Val → Ty → Val
dmn_to v (leaf s) = failed
dmn_to v (built (list u)) = cond (dmn_conforms_to (least_type v) u) (single v) failed
dmn_to v (built (range u)) = failed
dmn_to v (built (context fs)) = failed
dmn_to v (built (function ps r)) = failed

abbrev pub dmn_converted : Val → Ty → Val
dmn_converted (v_leaf l) t = dmn_to (v_leaf l) t
dmn_converted (v_range i j v w) t = dmn_to (v_range i j v w) t
dmn_converted (v_list vs) t = dmn_from vs t
dmn_converted (v_context es) t = dmn_to (v_context es) t
dmn_converted (v_function ps b r) t = dmn_to (v_function ps b r) t
dmn_converted (v_built_in b) t = dmn_to (v_built_in b) t
dmn_converted (v_type a) t = dmn_to (v_type a) t
dmn_converted v_irrelevant t = dmn_to v_irrelevant t

abbrev pub dmn_coerced : Val → Ty → Val
dmn_coerced v t = cond (dmn_conforms_to (least_type v) t) v (dmn_converted v t)
