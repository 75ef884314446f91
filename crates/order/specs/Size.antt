-- The number of bytes of a type and of a value, counted on the tree.
-- Assumes nothing.
use Rattle.std.specs.Prelude.{ℕ, ◌+◌}
use Rattle.form.specs.Trees.{Ty, leaf, built, Built, list, range, context, function, Fields, no_fields, field, Tys, no_params, param, Leaf, l_null, l_boolean, l_number, l_decimal}
use Rattle.form.specs.Trees.{l_string, l_temporal}
use Rattle.form.specs.Trees.{Params, no_parameters, parameter, Val, v_leaf, v_range, v_list, v_context, v_function, v_built_in, v_type, v_irrelevant, Vals, no_items, item, Entries, no_entries}
use Rattle.form.specs.Trees.{entry}
use Rattle.form.specs.Limits.{name_width}

unfoldable mutual
  pub size : Ty → ℕ
  size (leaf s) = 1
  size (built x) = size_built x

  pub size_built : Built → ℕ
  size_built (list t) = 1 + size t
  size_built (range t) = 1 + size t
  size_built (context fs) = 3 + size_fields fs
  size_built (function ps r) = 2 + size_tys ps + size r

  pub size_fields : Fields → ℕ
  size_fields no_fields = 0
  size_fields (field n t fs) = name_width + size t + size_fields fs

  pub size_tys : Tys → ℕ
  size_tys no_params = 0
  size_tys (param t ps) = size t + size_tys ps

abbrev pub size_leaf : Leaf → ℕ
size_leaf (l_null t) = 2
size_leaf (l_boolean b) = 2
size_leaf (l_number k) = 9
size_leaf (l_decimal k p) = 10
size_leaf (l_string n) = 1 + name_width
size_leaf (l_temporal t k) = 9

unfoldable pub size_params : Params → ℕ
size_params no_parameters = 0
size_params (parameter m t ps) = name_width + size t + size_params ps

unfoldable mutual
  pub size_val : Val → ℕ
  size_val (v_leaf l) = size_leaf l
  size_val (v_range i j v w) = 3 + size_val v + size_val w
  size_val (v_list vs) = 3 + size_vals vs
  size_val (v_context es) = 3 + size_entries es
  size_val (v_function ps b r) = 4 + size r + size_params ps
  size_val (v_built_in n) = 2
  size_val (v_type t) = 1 + size t
  size_val v_irrelevant = 1

  pub size_vals : Vals → ℕ
  size_vals no_items = 0
  size_vals (item v vs) = size_val v + size_vals vs

  pub size_entries : Entries → ℕ
  size_entries no_entries = 0
  size_entries (entry n v es) = name_width + size_val v + size_entries es
