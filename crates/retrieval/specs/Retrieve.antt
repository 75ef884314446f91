-- Retrieval by a type, on trees: `get_value_checked` and `get_conformant_value`.
-- Assumes nothing.
use Rattle.std.specs.Prelude.{ℕ, Bool, true, false, cond, ◌||◌}
use Rattle.std.proofs.Math.Option.{Option, none, some}
use Rattle.form.specs.Trees.{any, null, Ty, leaf, built, list, range, context, function, Fields, Leaf, l_null, l_boolean, l_number, l_decimal, l_string, l_temporal, Val, v_leaf, v_range}
use Rattle.form.specs.Trees.{v_list, v_context, v_function, v_built_in, v_type, v_irrelevant, Vals, no_items, item, Entries, no_entries, entry}
use Rattle.order.specs.Order.{same}
use Rattle.order.specs.Types.{lookup}
use Rattle.order.specs.Values.{leaf_type}
use Rattle.order.specs.Inferred.{value_conforms_to}
use Rattle.form.specs.Options.{map, both}
use Rattle.form.specs.Trees.{nothing}

-- a value copied where the outer kind is right; otherwise Err
abbrev pub copied : Bool → Val → Option Val
copied true v = some v
copied false v = none

-- Null gives Null with trace 0; other leaves are copied by Any and by their own type
abbrev pub retrieve_leaf : Leaf → Ty → Option Val
retrieve_leaf (l_null x) t = some (v_leaf (l_null 0))
retrieve_leaf (l_boolean x) (leaf s) = copied (same s any || same s (leaf_type (l_boolean x))) (v_leaf (l_boolean x))
retrieve_leaf (l_boolean x) (built y) = none
retrieve_leaf (l_number x) (leaf s) = copied (same s any || same s (leaf_type (l_number x))) (v_leaf (l_number x))
retrieve_leaf (l_number x) (built y) = none
retrieve_leaf (l_decimal x p) (leaf s) = copied (same s any || same s (leaf_type (l_decimal x p))) (v_leaf (l_decimal x p))
retrieve_leaf (l_decimal x p) (built y) = none
retrieve_leaf (l_string x) (leaf s) = copied (same s any || same s (leaf_type (l_string x))) (v_leaf (l_string x))
retrieve_leaf (l_string x) (built y) = none
retrieve_leaf (l_temporal k x) (leaf s) = copied (same s any || same s (leaf_type (l_temporal k x))) (v_leaf (l_temporal k x))
retrieve_leaf (l_temporal k x) (built y) = none

-- a range, and a function definition: Any and the outer kind copy
abbrev pub by_range : Ty → Bool
by_range (leaf s) = same s any
by_range (built (list u)) = false
by_range (built (range u)) = true
by_range (built (context fs)) = false
by_range (built (function ps r)) = false

abbrev pub by_function : Ty → Bool
by_function (leaf s) = same s any
by_function (built (list u)) = false
by_function (built (range u)) = false
by_function (built (context fs)) = false
by_function (built (function ps r)) = true

abbrev pub by_any : Ty → Bool
by_any (leaf s) = same s any
by_any (built x) = false

-- a list, and a context: Any copies, the own kind retrieves what is inside
abbrev pub by_list : Ty → Val → (Ty → Option Val) → Option Val
by_list (leaf s) v f = copied (same s any) v
by_list (built (list u)) v f = f u
by_list (built (range u)) v f = none
by_list (built (context fs)) v f = none
by_list (built (function ps r)) v f = none

abbrev pub by_context : Ty → Val → (Fields → Option Val) → Option Val
by_context (leaf s) v f = copied (same s any) v
by_context (built (list u)) v f = none
by_context (built (range u)) v f = none
by_context (built (context fs)) v f = f fs
by_context (built (function ps r)) v f = none

-- an entry whose name the type has is retrieved by its type; another is left out
abbrev pub kept : Option Ty → (Ty → Option Val) → ℕ → Option Entries → Option Entries
kept none f n es = es
kept (some t) f n es = both (entry n) (f t) es

unfoldable mutual
  pub retrieve : Val → Ty → Option Val
  retrieve (v_leaf l) t = retrieve_leaf l t
  retrieve (v_range i j v w) t = copied (by_range t) (v_range i j v w)
  retrieve (v_list vs) t = by_list t (v_list vs) (λ u. map v_list (retrieve_items vs u))
  retrieve (v_context es) t = by_context t (v_context es) (λ fs. map v_context (retrieve_entries es fs))
  retrieve (v_function ps b r) t = copied (by_function t) (v_function ps b r)
  retrieve (v_built_in b) t = copied (by_any t) (v_built_in b)
  retrieve (v_type a) t = copied (by_any t) (v_type a)
  retrieve v_irrelevant t = copied (by_any t) v_irrelevant

  pub retrieve_items : Vals → Ty → Option Vals
  retrieve_items no_items t = some no_items
  retrieve_items (item v vs) t = both item (retrieve v t) (retrieve_items vs t)

  -- the type's names that are present, each retrieved; missing ones are skipped
  pub retrieve_entries : Entries → Fields → Option Entries
  retrieve_entries no_entries fs = some no_entries
  retrieve_entries (entry n v es) fs = kept (lookup n fs) (λ t. retrieve v t) n (retrieve_entries es fs)

-- `FeelType::get_value_checked`: none is Err
abbrev pub get_value_checked : Ty → Val → Option Val
get_value_checked t v = retrieve v t

abbrev pub is_null_type : Ty → Bool
is_null_type (leaf s) = same s null
is_null_type (built x) = false

-- what was retrieved. (Behind conformance there always is something.)
abbrev pub or_nothing : Option Val → Val
or_nothing none = nothing 2
or_nothing (some v) = v

-- `FeelType::get_conformant_value`: target Null gives Null with trace 0; not conformant, Null with trace 2; otherwise retrieval
abbrev pub get_conformant_value : Ty → Val → Val
get_conformant_value t v = cond (is_null_type t) (nothing 0) (cond (value_conforms_to v t) (or_nothing (get_value_checked t v)) (nothing 2))
