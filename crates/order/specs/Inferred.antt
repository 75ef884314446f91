-- Values under document 01's own relation, with short names; and the type as the Rust infers it.
-- Assumes nothing.
use Rattle.std.specs.Prelude.{Bool, true, cond, ◌&&◌}
use Rattle.std.proofs.Math.Option.{Option, none, some}
use Rattle.form.specs.Trees.{any, null, Ty, leaf, built, list, range, context, function, Fields, no_fields, field, Val, v_leaf, v_range, v_list, v_context, v_function, v_built_in, v_type}
use Rattle.form.specs.Trees.{v_irrelevant, Vals, no_items, item, Entries, no_entries, entry}
use Rattle.order.specs.Order.{fixed}
use Rattle.order.specs.Types.{found}
use Rattle.order.specs.Document.{conforms_to, eq_ty}
use Rattle.order.specs.Values.{leaf_type, types_of, conforms, is_data_by, least}

-- `Value::is_conformant`
abbrev pub value_conforms_to : Val → Ty → Bool
value_conforms_to v t = conforms fixed v t

-- Data values: 00 to 0B and 10 throughout
abbrev pub is_data : Val → Bool
is_data v = is_data_by fixed v

-- Least type, of a data value
abbrev pub least_type : Val → Ty
least_type v = least fixed v

-- ---- `Value::type_of`
-- a list by its first item's type and whether every item's type conforms to that: empty gives List<Null>, and where one does not conform List<Any>
abbrev pub list_type : Option Ty → Bool → Ty
list_type none q = built (list (leaf null))
list_type (some t) q = built (list (cond q t (leaf any)))

unfoldable mutual
  pub type_of : Val → Ty
  type_of (v_leaf l) = leaf (leaf_type l)
  type_of (v_range i j v w) = built (range (cond (eq_ty (type_of v) (type_of w)) (type_of v) (leaf any)))
  type_of (v_list vs) = list_type (first_type vs) (items_below vs (first_type vs))
  type_of (v_context es) = built (context (entry_types es))
  type_of (v_function ps b r) = built (function (types_of ps) r)
  type_of (v_built_in b) = leaf any
  type_of (v_type t) = t
  type_of v_irrelevant = leaf any

  pub first_type : Vals → Option Ty
  first_type no_items = none
  first_type (item v vs) = some (type_of v)

  pub items_below : Vals → Option Ty → Bool
  items_below no_items o = true
  items_below (item v vs) o = found o (λ t. conforms_to (type_of v) t) && items_below vs o

  pub entry_types : Entries → Fields
  entry_types no_entries = no_fields
  entry_types (entry n v es) = field n (type_of v) (entry_types es)
