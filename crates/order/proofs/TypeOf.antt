-- The type that the Rust infers is never longer than its value, at most one level deeper, and well-formed where the value has fewer than 65,536 bytes.
-- Idea: induction on the value.
-- Index: `size_type_of`, `level_type_of`, `wf_type_of`; `asc_type_of`, `asc_entry_types` (names ascend).
-- Assumes nothing.
use Prim.Native.Nat.{ℕ, ◌+◌, ◌<◌, ◌≤◌}
use native.Mathlib.Omega.{arith}
use native.Mathlib.Numerals.{add-one}
use mathlib.Core.Bool.{Bool, true, false, cond}
use Rattle.form.specs.Limits.{name_end}
use Rattle.form.specs.Trees.{any, Ty, leaf, Val, v_leaf, v_range, v_list, v_context, v_function, v_built_in, v_type, v_irrelevant, Vals, no_items, item, Entries, no_entries, entry}
use Rattle.form.specs.Form.{level, level_fields, level_v, level_vals, level_entries, Wf, WfV, WfVals, WfEntries}
use Rattle.order.specs.Ascending.{Asc, AscFields}
use Rattle.order.specs.Size.{size, size_fields, size_val, size_vals, size_entries}
use Rattle.order.specs.Document.{eq_ty}
use Rattle.order.specs.Inferred.{list_type, type_of, first_type, items_below, entry_types}
use Rattle.order.proofs.Holds.{Holds, HoldsFields}
use Rattle.order.proofs.Size.{size_positive, level_positive}
use Rattle.order.proofs.WellFormed.{Fits, asc_of, fits_of, wf_of}
use Rattle.order.proofs.Least.{asc_params}
use Rattle.order.proofs.LeastSize.{size_types_of, size_one, level_types_of, count_types_of, fits_params}

-- a type or Any
asc_or_any : (q : Bool) (t : Ty) → Asc t → Asc (cond q t (leaf any))
unfolding Asc
asc_or_any true t h = h
asc_or_any false t h = tt

fits_or_any : (q : Bool) (t : Ty) → Fits t → Fits (cond q t (leaf any))
unfolding Holds
fits_or_any true t h = h
fits_or_any false t h = tt

size_or_any : (q : Bool) (t : Ty) → size (cond q t (leaf any)) ≤ size t
unfolding size
size_or_any true t = omega arith
size_or_any false t = size_positive t

level_or_any : (q : Bool) (t : Ty) → level (cond q t (leaf any)) ≤ level t
unfolding level
level_or_any true t = omega arith
level_or_any false t = level_positive t

mutual
  unfolding type_of Asc WfV

  pub asc_type_of : (v : Val) → WfV v → Asc (type_of v)
  asc_type_of (v_leaf l) h = tt
  asc_type_of (v_range i j v w) h = asc_or_any (eq_ty (type_of v) (type_of w)) (type_of v) (asc_type_of v h.1.1.0)
  asc_type_of (v_list vs) h = asc_list vs (items_below vs (first_type vs)) h.1
  asc_type_of (v_context es) h = asc_entry_types es 0 h.1
  asc_type_of (v_function ps b r) h = (asc_params ps h.1.1.1, asc_of r h.1.1.0)
  asc_type_of (v_built_in b) h = tt
  asc_type_of (v_type t) h = asc_of t h
  asc_type_of v_irrelevant h = tt

  asc_list : (vs : Vals) (q : Bool) → WfVals vs → Asc (list_type (first_type vs) q)
  asc_list no_items q h = tt
  asc_list (item v vs) q h = asc_or_any q (type_of v) (asc_type_of v h.0)

  pub asc_entry_types : (es : Entries) (k : ℕ) → WfEntries es k → AscFields (entry_types es) k
  asc_entry_types no_entries k h = tt
  asc_entry_types (entry n v es) k h = (h.0, asc_type_of v h.1.1.0, rw add-one at (asc_entry_types es (n + 1) h.1.1.1))

mutual
  unfolding type_of Holds WfV

  fits_type_of : (v : Val) → WfV v → Fits (type_of v)
  fits_type_of (v_leaf l) h = tt
  fits_type_of (v_range i j v w) h = fits_or_any (eq_ty (type_of v) (type_of w)) (type_of v) (fits_type_of v h.1.1.0)
  fits_type_of (v_list vs) h = fits_list vs (items_below vs (first_type vs)) h.1
  fits_type_of (v_context es) h = fits_entry_types es 0 h.1
  fits_type_of (v_function ps b r) h = (omega (arith, h.0, count_types_of ps), fits_params ps h.1.1.1, fits_of r h.1.1.0)
  fits_type_of (v_built_in b) h = tt
  fits_type_of (v_type t) h = fits_of t h
  fits_type_of v_irrelevant h = tt

  fits_list : (vs : Vals) (q : Bool) → WfVals vs → Fits (list_type (first_type vs) q)
  fits_list no_items q h = tt
  fits_list (item v vs) q h = fits_or_any q (type_of v) (fits_type_of v h.0)

  fits_entry_types : (es : Entries) (k : ℕ) → WfEntries es k → HoldsFields (λ n. n < name_end) (λ c. c < 256) (entry_types es)
  fits_entry_types no_entries k h = tt
  fits_entry_types (entry n v es) k h = (h.1.0, fits_type_of v h.1.1.0, fits_entry_types es (n + 1) h.1.1.1)

mutual
  unfolding type_of size size_val

  pub size_type_of : (v : Val) → size (type_of v) ≤ size_val v
  size_type_of (v_leaf l) = size_one l
  size_type_of (v_range i j v w) = omega (arith, size_or_any (eq_ty (type_of v) (type_of w)) (type_of v), size_type_of v)
  size_type_of (v_list vs) = omega (arith, size_list vs (items_below vs (first_type vs)))
  size_type_of (v_context es) = omega (arith, size_entry_types es)
  size_type_of (v_function ps b r) = omega (arith, size_types_of ps)
  size_type_of (v_built_in b) = omega arith
  size_type_of (v_type t) = omega arith
  size_type_of v_irrelevant = omega arith

  size_list : (vs : Vals) (q : Bool) → size (list_type (first_type vs) q) ≤ 2 + size_vals vs
  size_list no_items q = omega arith
  size_list (item v vs) q = omega (arith, size_or_any q (type_of v), size_type_of v)

  size_entry_types : (es : Entries) → size_fields (entry_types es) ≤ size_entries es
  size_entry_types no_entries = omega arith
  size_entry_types (entry n v es) = omega (arith, size_type_of v, size_entry_types es)

mutual
  unfolding type_of level level_v

  -- an empty list has level 1, and List<Null> level 2
  pub level_type_of : (v : Val) → level (type_of v) ≤ level_v v + 1
  level_type_of (v_leaf l) = omega arith
  level_type_of (v_range i j v w) = omega (arith, level_or_any (eq_ty (type_of v) (type_of w)) (type_of v), level_type_of v)
  level_type_of (v_list vs) = omega (arith, level_list vs (items_below vs (first_type vs)))
  level_type_of (v_context es) = omega (arith, level_entry_types es)
  level_type_of (v_function ps b r) = omega (arith, level_types_of ps)
  level_type_of (v_built_in b) = omega arith
  level_type_of (v_type t) = omega arith
  level_type_of v_irrelevant = omega arith

  level_list : (vs : Vals) (q : Bool) → level (list_type (first_type vs) q) ≤ level_vals vs + 2
  level_list no_items q = omega arith
  level_list (item v vs) q = omega (arith, level_or_any q (type_of v), level_type_of v)

  level_entry_types : (es : Entries) → level_fields (entry_types es) ≤ level_entries es + 1
  level_entry_types no_entries = omega arith
  level_entry_types (entry n v es) = omega (arith, level_type_of v, level_entry_types es)

pub wf_type_of : (v : Val) → WfV v → size_val v < 65536 → Wf (type_of v)
wf_type_of v h s = wf_of (type_of v) (asc_type_of v h) (fits_type_of v h) (omega (arith, size_type_of v))
