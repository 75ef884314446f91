-- The encoding of a well-formed tree is made of bytes, by induction on the tree.
-- Index: `bytes_enc` (types), `bytes_enc_v` (values), `bytes_append`.
-- Assumes nothing.
use Prim.Native.Nat.{ℕ, zero, suc, ◌+◌, ◌/◌, ◌%◌, ◌<◌}
use mathlib.Core.List.{List, [], ◌∷◌, ◌++◌}
use native.Mathlib.Omega.{arith}
use Rattle.form.specs.Trees.{Ty, leaf, built, Built, list, range, context, function, Fields, no_fields, field, Tys, no_params, param, Leaf, l_null, l_boolean, l_number, l_decimal}
use Rattle.form.specs.Trees.{l_string, l_temporal, Params, no_parameters, parameter, Val, v_leaf, v_range, v_list, v_context, v_function, v_built_in, v_type, v_irrelevant}
use Rattle.form.specs.Trees.{Vals, no_items, item, Entries, no_entries, entry, code, code_temporal}
use Rattle.form.specs.Limits.{name_width}
use Rattle.form.specs.Form.{bytes, bit, Bytes, enc, enc_built, enc_fields, enc_tys, enc_params, enc_leaf, enc_v, enc_vals, enc_entries, Wf, WfBuilt, WfFields, WfTys, WfParams}
use Rattle.form.specs.Form.{WfLeaf, WfV, WfVals, WfEntries, count_fields, count_tys, count_params, count_vals, count_entries}
use Rattle.form.proofs.ExactTypes.{code_small}
use Rattle.form.proofs.ExactValues.{code_small_temporal, bit_small}

pub bytes_append : (a b : List ℕ) → Bytes a → Bytes b → Bytes (a ++ b)
unfolding Bytes
bytes_append [] b p q = q
bytes_append (x ∷ a) b p q = (p.0, bytes_append a b p.1 q)

bytes_cons : (b : ℕ) (s : List ℕ) → b < 256 → Bytes s → Bytes (b ∷ s)
unfolding Bytes
bytes_cons b s h p = (h, p)

bytes_none : Bytes []
unfolding Bytes
bytes_none = tt

bytes_key : (k n : ℕ) → Bytes (bytes k n)
unfolding bytes
bytes_key zero n = bytes_none
bytes_key (suc k) n = bytes_cons (n % 256) (bytes k (n / 256)) (omega arith) (bytes_key k (n / 256))

bytes_number : (k n : ℕ) (s : List ℕ) → Bytes s → Bytes (bytes k n ++ s)
bytes_number k n s h = bytes_append (bytes k n) s (bytes_key k n) h

mutual
  unfolding enc enc_fields enc_tys Wf

  pub bytes_enc : (t : Ty) → Wf t → Bytes (enc t)
  bytes_enc (leaf s) g = let h = code_small s in bytes_cons (32 + code s) [] (omega arith) bytes_none
  bytes_enc (built x) g = bytes_built x g

  bytes_built : (x : Built) → WfBuilt x → Bytes (enc_built x)
  bytes_built (list t) g = bytes_cons 42 (enc t) (omega arith) (bytes_enc t g)
  bytes_built (range t) g = bytes_cons 43 (enc t) (omega arith) (bytes_enc t g)
  bytes_built (context fs) g = bytes_cons 44 (bytes 2 (count_fields fs) ++ enc_fields fs) (omega arith) (bytes_number 2 (count_fields fs) (enc_fields fs) (bytes_fields fs 0 g.1))
  bytes_built (function ts t) g =
      bytes_cons 45 (count_tys ts ∷ (enc_tys ts ++ enc t)) (omega arith)
      (bytes_cons (count_tys ts) (enc_tys ts ++ enc t) g.0 (bytes_append (enc_tys ts) (enc t) (bytes_tys ts g.1.0) (bytes_enc t g.1.1)))

  bytes_fields : (fs : Fields) (k : ℕ) → WfFields fs k → Bytes (enc_fields fs)
  bytes_fields no_fields k g = bytes_none
  bytes_fields (field m t fs) k g = bytes_number name_width m (enc t ++ enc_fields fs) (bytes_append (enc t) (enc_fields fs) (bytes_enc t g.1.1.0) (bytes_fields fs (m + 1) g.1.1.1))

  bytes_tys : (ts : Tys) → WfTys ts → Bytes (enc_tys ts)
  bytes_tys no_params g = bytes_none
  bytes_tys (param t ts) g = bytes_append (enc t) (enc_tys ts) (bytes_enc t g.0) (bytes_tys ts g.1)

bytes_params : (ps : Params) → WfParams ps → Bytes (enc_params ps)
unfolding enc_params WfParams
bytes_params no_parameters g = bytes_none
bytes_params (parameter m t ps) g = bytes_number name_width m (enc t ++ enc_params ps) (bytes_append (enc t) (enc_params ps) (bytes_enc t g.1.0) (bytes_params ps g.1.1))

bytes_leaf : (x : Leaf) → WfLeaf x → Bytes (enc_leaf x)
unfolding enc_leaf WfLeaf
bytes_leaf (l_null t) g = bytes_cons 0 (t ∷ []) (omega arith) (bytes_cons t [] (omega arith) bytes_none)
bytes_leaf (l_boolean b) g = let h = bit_small b in bytes_cons 1 (bit b ∷ []) (omega arith) (bytes_cons (bit b) [] (omega arith) bytes_none)
bytes_leaf (l_number k) g = bytes_cons 2 (bytes 8 k) (omega arith) (bytes_key 8 k)
bytes_leaf (l_decimal k p) g = let h = g.1 in bytes_cons 16 (bytes 8 k ++ (p ∷ [])) (omega arith) (bytes_number 8 k (p ∷ []) (bytes_cons p [] (omega arith) bytes_none))
bytes_leaf (l_string n) g = bytes_cons 3 (bytes name_width n) (omega arith) (bytes_key name_width n)
bytes_leaf (l_temporal t k) g = let h = code_small_temporal t in bytes_cons (4 + code_temporal t) (bytes 8 k) (omega arith) (bytes_key 8 k)

mutual
  unfolding enc_v enc_vals enc_entries WfV

  pub bytes_enc_v : (v : Val) → WfV v → Bytes (enc_v v)
  bytes_enc_v (v_leaf x) g = bytes_leaf x g
  bytes_enc_v (v_range i j v w) g =
      let p = g.0 in
      let q = g.1.0 in
      bytes_cons 9 (i ∷ j ∷ (enc_v v ++ enc_v w)) (omega arith)
      (bytes_cons i (j ∷ (enc_v v ++ enc_v w)) (omega arith)
      (bytes_cons j (enc_v v ++ enc_v w) (omega arith) (bytes_append (enc_v v) (enc_v w) (bytes_enc_v v g.1.1.0) (bytes_enc_v w g.1.1.1))))
  bytes_enc_v (v_list vs) g = bytes_cons 10 (bytes 2 (count_vals vs) ++ enc_vals vs) (omega arith) (bytes_number 2 (count_vals vs) (enc_vals vs) (bytes_vals vs g.1))
  bytes_enc_v (v_context es) g = bytes_cons 11 (bytes 2 (count_entries es) ++ enc_entries es) (omega arith) (bytes_number 2 (count_entries es) (enc_entries es) (bytes_entries es 0 g.1))
  bytes_enc_v (v_function ps b t) g =
      bytes_cons 12 (count_params ps ∷ (bytes 2 b ++ (enc t ++ enc_params ps))) (omega arith)
      (bytes_cons (count_params ps) (bytes 2 b ++ (enc t ++ enc_params ps)) g.0
      (bytes_number 2 b (enc t ++ enc_params ps) (bytes_append (enc t) (enc_params ps) (bytes_enc t g.1.1.0) (bytes_params ps g.1.1.1))))
  bytes_enc_v (v_built_in n) g = bytes_cons 13 (n ∷ []) (omega arith) (bytes_cons n [] (omega arith) bytes_none)
  bytes_enc_v (v_type t) g = bytes_cons 14 (enc t) (omega arith) (bytes_enc t g)
  bytes_enc_v v_irrelevant g = bytes_cons 15 [] (omega arith) bytes_none

  bytes_vals : (vs : Vals) → WfVals vs → Bytes (enc_vals vs)
  bytes_vals no_items g = bytes_none
  bytes_vals (item v vs) g = bytes_append (enc_v v) (enc_vals vs) (bytes_enc_v v g.0) (bytes_vals vs g.1)

  bytes_entries : (es : Entries) (k : ℕ) → WfEntries es k → Bytes (enc_entries es)
  bytes_entries no_entries k g = bytes_none
  bytes_entries (entry m v es) k g = bytes_number name_width m (enc_v v ++ enc_entries es) (bytes_append (enc_v v) (enc_entries es) (bytes_enc_v v g.1.1.0) (bytes_entries es (m + 1) g.1.1.1))
