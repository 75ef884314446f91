-- A least type is never longer than its value, at most one level deeper, and well-formed where the value has fewer than 65,536 bytes.
-- Idea: lengths and levels of supertypes (Size), summed over the value.
-- Index: `size_least`, `size_items`, `level_least`, `level_items`, `wf_least` (least types); `length_enc_v`, `size_one` (values); `size_types_of`, `level_types_of`, `count_types_of`,
-- `fits_params` (the parameters of a definition).
-- Assumes nothing.
use Prim.Native.Nat.{ℕ, ◌+◌, ◌<◌, ◌≤◌, max}
use native.Mathlib.Omega.{arith}
use mathlib.Core.Path.{◌≡◌, refl}
use mathlib.Core.List.{[], ◌∷◌, ◌++◌}
use lib.ListN.{length, length-append}
use Rattle.form.specs.Limits.{name_width, name_end}
use Rattle.form.specs.Trees.{null, Ty, leaf, built, function, Leaf, l_null, l_boolean, l_number, l_decimal, l_string, l_temporal, Params, no_parameters, parameter, Val, v_leaf}
use Rattle.form.specs.Trees.{v_range, v_list, v_context, v_function, v_built_in, v_type, v_irrelevant, Vals, no_items, item, Entries, no_entries, entry}
use Rattle.form.specs.Form.{enc, enc_leaf, enc_params, enc_v, enc_vals, enc_entries, count_params, count_vals, count_entries, count_tys, level, level_fields, level_tys, level_params}
use Rattle.form.specs.Form.{level_v, level_vals}
use Rattle.form.specs.Form.{level_entries, Wf, WfParams, WfV, WfVals, WfEntries}
use Rattle.form.proofs.First.{length_front}
use Rattle.form.proofs.Numbers.{length_bytes}
use Rattle.order.specs.Order.{Order}
use Rattle.order.specs.Types.{sup}
use Rattle.order.specs.Ascending.{Asc}
use Rattle.order.specs.Size.{size, size_fields, size_tys, size_leaf, size_params, size_val, size_vals, size_entries}
use Rattle.order.specs.Values.{types_of, least, least_items, least_entries}
use Rattle.order.proofs.Answers.{asc_sup}
use Rattle.order.proofs.Holds.{Holds, HoldsFields, HoldsTys, holds_sup, holds_reduce}
use Rattle.order.proofs.Size.{length_enc, size_sup, size_reduce, level_sup, level_reduce}
use Rattle.order.proofs.WellFormed.{Fits, fits_of, wf_of}
use Rattle.order.proofs.Least.{asc_least, asc_null}

-- ---- the size is the length of the encoding
length_leaf : (l : Leaf) → length (enc_leaf l) ≡ size_leaf l
unfolding enc_leaf
length_leaf (l_null t) = refl
length_leaf (l_boolean b) = refl
length_leaf (l_number k) = omega (arith, length_bytes 8 k)
length_leaf (l_decimal k p) = omega (arith, length_front 8 k (p ∷ []))
length_leaf (l_string n) = omega (arith, length_bytes name_width n)
length_leaf (l_temporal t k) = omega (arith, length_bytes 8 k)

length_params : (ps : Params) → length (enc_params ps) ≡ size_params ps
unfolding enc_params size_params
length_params no_parameters = refl
length_params (parameter m t ps) =
    omega (arith, length_enc t, length_params ps, length-append (enc t) (enc_params ps), length_front name_width m (enc t ++ enc_params ps))

mutual
  unfolding enc_v size_val

  pub length_enc_v : (v : Val) → length (enc_v v) ≡ size_val v
  length_enc_v (v_leaf l) = length_leaf l
  length_enc_v (v_range i j v w) = omega (arith, length_enc_v v, length_enc_v w, length-append (enc_v v) (enc_v w))
  length_enc_v (v_list vs) = omega (arith, length_vals vs, length_front 2 (count_vals vs) (enc_vals vs))
  length_enc_v (v_context es) = omega (arith, length_entries es, length_front 2 (count_entries es) (enc_entries es))
  length_enc_v (v_function ps b r) =
      omega (arith, length_enc r, length_params ps, length-append (enc r) (enc_params ps), length_front 2 b (enc r ++ enc_params ps))
  length_enc_v (v_built_in n) = refl
  length_enc_v (v_type t) = omega (arith, length_enc t)
  length_enc_v v_irrelevant = refl

  length_vals : (vs : Vals) → length (enc_vals vs) ≡ size_vals vs
  length_vals no_items = refl
  length_vals (item v vs) = omega (arith, length_enc_v v, length_vals vs, length-append (enc_v v) (enc_vals vs))

  pub length_entries : (es : Entries) → length (enc_entries es) ≡ size_entries es
  length_entries no_entries = refl
  length_entries (entry m v es) =
      omega (arith, length_enc_v v, length_entries es, length-append (enc_v v) (enc_entries es), length_front name_width m (enc_v v ++ enc_entries es))

-- ---- lengths
pub size_types_of : (ps : Params) → size_tys (types_of ps) ≤ size_params ps
unfolding size types_of size_params
size_types_of no_parameters = omega arith
size_types_of (parameter n t ps) = omega (arith, size_types_of ps)

pub size_one : (l : Leaf) → 1 ≤ size_leaf l
size_one (l_null t) = omega arith
size_one (l_boolean b) = omega arith
size_one (l_number z) = omega arith
size_one (l_decimal z p) = omega arith
size_one (l_string n) = omega arith
size_one (l_temporal k z) = omega arith

pub level_types_of : (ps : Params) → level_tys (types_of ps) ≤ level_params ps
unfolding level types_of level_params
level_types_of no_parameters = omega arith
level_types_of (parameter n t ps) = omega (arith, level_types_of ps)

pub count_types_of : (ps : Params) → count_tys (types_of ps) ≡ count_params ps
unfolding count_tys types_of count_params
count_types_of no_parameters = refl
count_types_of (parameter n t ps) = omega (arith, count_types_of ps)

pub fits_params : (ps : Params) → WfParams ps → HoldsTys (λ n. n < name_end) (λ c. c < 256) (types_of ps)
unfolding WfParams types_of Holds
fits_params no_parameters h = tt
fits_params (parameter m t ps) h = (fits_of t h.1.0, fits_params ps h.1.1)

module _ (O : Order) where
  mutual
    unfolding size size_val least WfV

    pub size_least : (v : Val) → WfV v → size (least O v) ≤ size_val v
    size_least (v_leaf l) h = size_one l
    size_least (v_range i j v w) h =
        let x = size_sup O (least O v) (least O w) (asc_least O v h.1.1.0) in
        omega (arith, size_least v h.1.1.0, size_least w h.1.1.1)
    size_least (v_list vs) h = omega (arith, size_items vs (leaf null) h.1 (asc_null O))
    size_least (v_context es) h = omega (arith, size_least_entries es 0 h.1)
    size_least (v_function ps b r) h =
        let x = size_reduce O (built (function (types_of ps) r)) in
        omega (arith, size_types_of ps)
    size_least (v_built_in b) h = omega arith
    size_least (v_type t) h = omega arith
    size_least v_irrelevant h = omega arith

    pub size_items : (vs : Vals) (t : Ty) → WfVals vs → Asc t → size (least_items O vs t) ≤ size t + size_vals vs
    size_items no_items t h g = omega arith
    size_items (item v vs) t h g =
        let x = size_sup O t (least O v) g in
        let y = size_items vs (sup O t (least O v)) h.1 (asc_sup O t (least O v) g (asc_least O v h.0)) in
        omega (arith, size_least v h.0)

    size_least_entries : (es : Entries) (k : ℕ) → WfEntries es k → size_fields (least_entries O es) ≤ size_entries es
    size_least_entries no_entries k h = omega arith
    size_least_entries (entry n v es) k h = omega (arith, size_least v h.1.1.0, size_least_entries es (n + 1) h.1.1.1)

  mutual
    unfolding level level_v least

    -- an empty list has level 1, and List<Null> level 2
    pub level_least : (v : Val) → level (least O v) ≤ level_v v + 1
    level_least (v_leaf l) = omega arith
    level_least (v_range i j v w) = omega (arith, level_sup O (least O v) (least O w), level_least v, level_least w)
    level_least (v_list vs) = omega (arith, level_items vs (leaf null))
    level_least (v_context es) = omega (arith, level_least_entries es)
    level_least (v_function ps b r) = omega (arith, level_reduce O (built (function (types_of ps) r)), level_types_of ps)
    level_least (v_built_in b) = omega arith
    level_least (v_type t) = omega arith
    level_least v_irrelevant = omega arith

    pub level_items : (vs : Vals) (t : Ty) → level (least_items O vs t) ≤ max (level t) (level_vals vs + 1)
    level_items no_items t = omega arith
    level_items (item v vs) t = omega (arith, level_items vs (sup O t (least O v)), level_sup O t (least O v), level_least v)

    level_least_entries : (es : Entries) → level_fields (least_entries O es) ≤ level_entries es + 1
    level_least_entries no_entries = omega arith
    level_least_entries (entry n v es) = omega (arith, level_least v, level_least_entries es)

  -- ---- numbers fit their places
  mutual
    unfolding least Holds WfV

    fits_least : (v : Val) → WfV v → Fits (least O v)
    fits_least (v_leaf l) h = tt
    fits_least (v_range i j v w) h =
        holds_sup (λ n. n < name_end) (λ c. c < 256) O (least O v) (least O w) (fits_least v h.1.1.0) (fits_least w h.1.1.1)
    fits_least (v_list vs) h = fits_items vs (leaf null) h.1 tt
    fits_least (v_context es) h = fits_entries es 0 h.1
    fits_least (v_function ps b r) h =
        holds_reduce (λ n. n < name_end) (λ c. c < 256) O (built (function (types_of ps) r))
        (omega (arith, h.0, count_types_of ps), fits_params ps h.1.1.1, fits_of r h.1.1.0)
    fits_least (v_built_in b) h = tt
    fits_least (v_type t) h = tt
    fits_least v_irrelevant h = tt

    fits_items : (vs : Vals) (t : Ty) → WfVals vs → Fits t → Fits (least_items O vs t)
    fits_items no_items t h g = g
    fits_items (item v vs) t h g =
        fits_items vs (sup O t (least O v)) h.1 (holds_sup (λ n. n < name_end) (λ c. c < 256) O t (least O v) g (fits_least v h.0))

    fits_entries : (es : Entries) (k : ℕ) → WfEntries es k → HoldsFields (λ n. n < name_end) (λ c. c < 256) (least_entries O es)
    fits_entries no_entries k h = tt
    fits_entries (entry n v es) k h = (h.1.0, fits_least v h.1.1.0, fits_entries es (n + 1) h.1.1.1)

  pub wf_least : (v : Val) → WfV v → size_val v < 65536 → Wf (least O v)
  wf_least v h s = wf_of (least O v) (asc_least O v h) (fits_least v h) (omega (arith, size_least v h))
