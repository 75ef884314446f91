-- `read_t` accepts exactly the encodings of the well-formed types of the level that is left.
-- Idea: induction on the tree in one direction, on the level in the other; each command is one law of Exact.
-- Index: `read_enc` (an encoding is read back), `enc_read` (what is read is an encoding); `decode_code`, `code_decode`, `code_small` (simple types as bytes).
-- Assumes nothing.
use Prim.Native.Nat.{ℕ, zero, suc, ◌+◌, ◌-◌, ◌<◌, ◌≤◌}
use mathlib.Core.Path.{◌≡◌, refl, sym, ap, ap₂, ◌∙◌}
use mathlib.Core.List.{List, [], ◌∷◌, ◌++◌}
use native.Mathlib.Omega.{arith}
use lib.ListN.{length, drop}
use Rattle.form.specs.Trees.{Simple, any, boolean, number, string, date, time, date_time, days_and_time, years_and_months, null, Ty, leaf, built, Built, list, range, context}
use Rattle.form.specs.Trees.{function, Fields, no_fields, field, Tys, no_params, param, code, decode}
use Rattle.form.specs.Form.{Bytes, enc, enc_built, enc_fields, enc_tys, level, level_built, level_fields, level_tys, Wf, WfBuilt, WfFields, WfTys, count_fields, count_tys}
use Rattle.form.specs.Layout.{TypeKind, Kind, kind_of}
use Rattle.form.specs.Read.{Got, got, front, read_run, read_named, read_fields, read_tys, ascending, read_function, step_type, step_t, read_t}
use Rattle.form.proofs.CommandKinds.{ViewT, is_simple_t, is_list_t, is_range_t, is_context_t, is_function_t, View, is_value, is_type, is_gap, is_beyond, view, kind_simple}
use Rattle.form.proofs.Exact.{got_is, bad_got, bytes_head, bytes_drop, front_read, then_read, item_read, named_read, counted_read, Found, Sound, found_as, got_parts}
use Rattle.form.proofs.Exact.{front_parts, then_parts, front_found, then_found, RunLaws, run_sound, NamedLaws, named_sound, counted_sound}

pub decode_code : (s : Simple) → decode (code s) ≡ s
decode_code any = refl
decode_code boolean = refl
decode_code number = refl
decode_code string = refl
decode_code date = refl
decode_code time = refl
decode_code date_time = refl
decode_code days_and_time = refl
decode_code years_and_months = refl
decode_code null = refl

pub code_decode : (n : ℕ) → n < 10 → code (decode n) ≡ n
code_decode zero h = refl
code_decode (suc zero) h = refl
code_decode (suc (suc zero)) h = refl
code_decode (suc (suc (suc zero))) h = refl
code_decode (suc (suc (suc (suc zero)))) h = refl
code_decode (suc (suc (suc (suc (suc zero))))) h = refl
code_decode (suc (suc (suc (suc (suc (suc zero)))))) h = refl
code_decode (suc (suc (suc (suc (suc (suc (suc zero))))))) h = refl
code_decode (suc (suc (suc (suc (suc (suc (suc (suc zero)))))))) h = refl
code_decode (suc (suc (suc (suc (suc (suc (suc (suc (suc n))))))))) h = omega arith

pub code_small : (s : Simple) → code s < 10
code_small any = omega arith
code_small boolean = omega arith
code_small number = omega arith
code_small string = omega arith
code_small date = omega arith
code_small time = omega arith
code_small date_time = omega arith
code_small days_and_time = omega arith
code_small years_and_months = omega arith
code_small null = omega arith

-- ---- THE ENCODING IS READ BACK
simple_read : (s : Simple) (l : ℕ) (r : List ℕ) → read_t (suc l) ((32 + code s) ∷ r) ≡ got (leaf s) 1
unfolding read_t step_t step_type
simple_read s l r =
    let h = code_small s in
    let e : 32 + code s - 32 ≡ code s = omega arith in
    rw (kind_simple (32 + code s) (omega arith) (omega arith), e, decode_code s)

mutual
  unfolding read_t step_t step_type enc enc_fields enc_tys level kind_of read_run read_named read_function count_fields count_tys Wf

  pub read_enc : (t : Ty) (l : ℕ) (rest : List ℕ) → Wf t → level t ≤ l → read_t l (enc t ++ rest) ≡ got t (length (enc t))
  read_enc (leaf s) zero rest g h = absurd (omega arith)
  read_enc (leaf s) (suc l) rest g h = simple_read s l rest
  read_enc (built x) zero rest g h = absurd (omega arith)
  read_enc (built x) (suc l) rest g h = built_enc x l rest g (omega arith)

  built_enc : (x : Built) (l : ℕ) (rest : List ℕ) → WfBuilt x → level_built x ≤ l → read_t (suc l) (enc_built x ++ rest) ≡ got (built x) (length (enc_built x))
  built_enc (list t) l rest g h = front_read (λ t. built (list t)) 1 (enc t) t (read_t l (enc t ++ rest)) (read_enc t l rest g h) ∙ got_is (omega arith)
  built_enc (range t) l rest g h = front_read (λ t. built (range t)) 1 (enc t) t (read_t l (enc t ++ rest)) (read_enc t l rest g h) ∙ got_is (omega arith)
  built_enc (context fs) l rest g h = counted_read (λ fs. built (context fs)) (λ c r. read_fields (read_t l) c 0 r) (count_fields fs) (enc_fields fs) rest fs g.0 (fields_enc fs l 0 rest g.1 h)
  built_enc (function ts t) l rest g h =
      then_read (λ ts t. built (function ts t)) 2 (read_tys (read_t l) (count_tys ts)) (read_t l) (enc_tys ts) (enc t) rest ts t
      (tys_enc ts l (enc t ++ rest) g.1.0 (omega arith)) (read_enc t l rest g.1.1 (omega arith)) ∙ got_is (omega arith)

  fields_enc : (fs : Fields) (l least : ℕ) (rest : List ℕ) → WfFields fs least → level_fields fs ≤ l
      → read_fields (read_t l) (count_fields fs) least (enc_fields fs ++ rest) ≡ got fs (length (enc_fields fs))
  fields_enc no_fields l least rest g h = refl
  fields_enc (field m t fs) l least rest g h =
      named_read no_fields field ascending (read_t l) m least (enc t) (enc_fields fs) rest t fs (count_fields fs) g.0 g.1.0
      (read_enc t l (enc_fields fs ++ rest) g.1.1.0 (omega arith)) (fields_enc fs l (m + 1) rest g.1.1.1 (omega arith))

  tys_enc : (ts : Tys) (l : ℕ) (rest : List ℕ) → WfTys ts → level_tys ts ≤ l → read_tys (read_t l) (count_tys ts) (enc_tys ts ++ rest) ≡ got ts (length (enc_tys ts))
  tys_enc no_params l rest g h = refl
  tys_enc (param t ts) l rest g h =
      item_read no_params param (read_t l) (enc t) (enc_tys ts) rest t ts (count_tys ts) (read_enc t l (enc_tys ts ++ rest) g.0 (omega arith))
      (tys_enc ts l rest g.1 (omega arith))

-- ---- WHAT IS READ IS AN ENCODING
fields_laws : NamedLaws enc Wf level enc_fields WfFields level_fields count_fields no_fields field ascending
unfolding enc_fields level_fields count_fields WfFields
fields_laws = record { e_nil = refl; e_cons = λ m x r. refl; g_nil = λ k. tt; g_cons = λ k m x r a b c d. (a, (b, (c, d))); l_nil = refl; l_cons = λ m x r. refl; c_nil = refl; c_cons = λ m x r. refl }

tys_laws : RunLaws enc Wf level enc_tys WfTys level_tys count_tys no_params param
unfolding enc_tys level_tys count_tys WfTys
tys_laws = record { e_nil = refl; e_cons = λ x r. refl; g_nil = tt; g_cons = λ x r a b. (a, b); l_nil = refl; l_cons = λ x r. refl; c_nil = refl; c_cons = λ x r. refl }

module _ (child : List ℕ → Got Ty) (l : ℕ) (snd : Sound enc Wf level l child) where
  simple_sound : (b : ℕ) (s : List ℕ) → 32 ≤ b → b < 42 → (t : Ty) (n : ℕ) → got (leaf (decode (b - 32))) 1 ≡ got t n → Found enc Wf level (suc l) (b ∷ s) t n
  unfolding enc level Wf
  simple_sound b s p q t n e =
      let c : code (decode (b - 32)) ≡ b - 32 = code_decode (b - 32) (omega arith) in
      let d : b ≡ 32 + code (decode (b - 32)) = omega arith in
      got_parts (leaf (decode (b - 32))) t 1 n e (λ x y. found_as x y (record { rest = s; bytes = ap (λ (a : ℕ). a ∷ s) d; took = refl; well = tt; low = omega arith }))

  one_sound : (mk : Ty → Built) (cmd : ℕ) → ((t : Ty) → enc (built (mk t)) ≡ cmd ∷ enc t) → ((t : Ty) → Wf t → Wf (built (mk t)))
      → ((t : Ty) → level (built (mk t)) ≡ suc (level t)) → (b : ℕ) (s : List ℕ) → b ≡ cmd → Bytes s → (t : Ty) (n : ℕ) → front (λ t. built (mk t)) 1 (child s) ≡ got t n
      → Found enc Wf level (suc l) (b ∷ s) t n
  one_sound mk cmd e g v b s be bs t n eq =
      front_parts (λ t. built (mk t)) 1 (child s) t n eq (λ x m px pz pn.
      let F = snd s bs x m px in
      found_as pz refl (front_found (b ∷ []) F (e x ∙ ap (λ (a : ℕ). a ∷ enc x) (sym be)) (g x F.well) (let i = v x in let f = F.low in omega arith) refl pn))

  function_sound : (b : ℕ) (s : List ℕ) → b ≡ 45 → Bytes s → (t : Ty) (n : ℕ) → read_function child s ≡ got t n → Found enc Wf level (suc l) (b ∷ s) t n
  unfolding read_function enc level Wf
  function_sound b [] be bs t n eq = absurd (bad_got eq)
  function_sound b (c ∷ s) be bs t n eq =
      let b₀ = bytes_head c s bs in
      then_parts (λ ts t. built (function ts t)) 2 s child (read_tys child c s) t n eq (λ ts m px y j py pz pn.
      let F = run_sound tys_laws child l snd c s b₀.1 ts m px in
      let G = snd (drop m s) (bytes_drop m s b₀.1) y j py in
      found_as pz refl (then_found (b ∷ c ∷ []) F G
      (ap₂ (λ (a k : ℕ). a ∷ k ∷ (enc_tys ts ++ enc y)) (sym be) F.well.0)
      (let i = F.well.0 in let k = b₀.0 in omega arith, (F.well.1, G.well))
      (let f = F.low in let g = G.low in omega arith) refl pn))

  type_sound : (b : ℕ) (s : List ℕ) → Bytes s → (k : TypeKind) → ViewT b k → (t : Ty) (n : ℕ) → step_type child k b s ≡ got t n → Found enc Wf level (suc l) (b ∷ s) t n
  unfolding step_type enc level Wf
  type_sound b s bs k (is_simple_t p q) t n e = simple_sound b s p q t n e
  type_sound b s bs k (is_list_t p) t n e = one_sound list 0x2A (λ x. refl) (λ x g. g) (λ x. refl) b s p bs t n e
  type_sound b s bs k (is_range_t p) t n e = one_sound range 0x2B (λ x. refl) (λ x g. g) (λ x. refl) b s p bs t n e
  type_sound b s bs k (is_context_t p) t n e =
      counted_sound {good_r = λ fs. WfFields fs 0} {count = count_fields} l (λ fs. built (context fs)) (λ c r. read_fields child c 0 r) 0x2C (λ x. refl) (λ x c g. (c, g))
      (λ x. refl) (λ c. named_sound fields_laws child l snd c 0) b p s bs t n e
  type_sound b s bs k (is_function_t p) t n e = function_sound b s p bs t n e

  step_sound : (b : ℕ) (s : List ℕ) → Bytes s → (k : Kind) → View b k → (t : Ty) (n : ℕ) → step_t child k b s ≡ got t n → Found enc Wf level (suc l) (b ∷ s) t n
  unfolding step_t
  step_sound b s bs k (is_value j v) t n e = absurd (bad_got e)
  step_sound b s bs k (is_type j v) t n e = type_sound b s bs j v t n e
  step_sound b s bs k (is_gap p q) t n e = absurd (bad_got e)
  step_sound b s bs k (is_beyond p) t n e = absurd (bad_got e)

pub enc_read : (l : ℕ) → Sound enc Wf level l (read_t l)
unfolding read_t
enc_read zero [] bs t n e = absurd (bad_got e)
enc_read zero (b ∷ s) bs t n e = absurd (bad_got e)
enc_read (suc l) [] bs t n e = absurd (bad_got e)
enc_read (suc l) (b ∷ s) bs t n e = step_sound (read_t l) l (enc_read l) b s (bytes_head b s bs).1 (kind_of b) (view b) t n e
