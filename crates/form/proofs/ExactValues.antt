-- `read_v` accepts exactly the encodings of the well-formed values of the level that is left.
-- Idea: induction on the tree in one direction, on the level in the other; each command is one law of Exact.
-- Index: `read_enc_v` (an encoding is read back), `enc_read_v` (what is read is an encoding); `decode_code`, `code_decode`, `code_small_temporal` (temporal kinds as bytes).
-- Assumes nothing.
use Prim.Native.Nat.{ℕ, zero, suc, ◌+◌, ◌-◌, ◌<◌, ◌≤◌, ◌^◌}
use mathlib.Core.Path.{◌≡◌, refl, sym, ap, ap₂, ◌∙◌}
use mathlib.Core.Bool.{Bool, true, false}
use mathlib.Core.List.{List, [], ◌∷◌, ◌++◌, append-nil, append_assoc}
use native.Mathlib.Omega.{arith}
use lib.ListN.{length, take, drop, take-append-drop}
use lib.Dec.{leb, eqb}
use borrow.Author.Tests.{le-leb, leb-true}
use Rattle.form.specs.Trees.{Ty, Temporal, on_date, at_time, at_date_time, for_days_and_time, for_years_and_months, Leaf, l_null, l_boolean, l_number, l_decimal, l_string, l_temporal, Params}
use Rattle.form.specs.Trees.{parameter, Val, v_leaf, v_range, v_list, v_context, v_function, v_built_in, v_type, v_irrelevant, Vals, no_items, item, Entries, no_entries, entry, code_temporal}
use Rattle.form.specs.Trees.{no_parameters, decode_temporal}
use Rattle.form.specs.Limits.{name_width, most_exponent}
use Rattle.form.specs.Form.{bytes, num, bit, Bytes, enc, enc_params, enc_leaf, enc_v, enc_vals, enc_entries, level, level_params, level_v, level_vals, level_entries, Wf, WfParams, WfLeaf, WfV, WfVals}
use Rattle.form.specs.Form.{WfEntries, count_params, count_vals, count_entries}
use Rattle.form.specs.Layout.{ValueKind, Kind, kind_of}
use Rattle.form.specs.Read.{Got, got, front, and_then, or_else, read_run, read_named, read_vals, read_entries, read_params, ascending, any_order, read_flag, read_key, read_range, signature}
use Rattle.form.specs.Read.{read_definition}
use Rattle.form.specs.Read.{read_t, read_decimal, step_value, step_v, read_v}
use Rattle.form.specs.Faults.{Shape}
use Rattle.form.proofs.CommandKinds.{ViewV, is_null, is_boolean, is_number, is_string, is_temporal, is_range, is_list, is_context, is_definition, is_built_in, is_feel_type, is_irrelevant, is_decimal}
use Rattle.form.proofs.CommandKinds.{View, is_value, is_type}
use Rattle.form.proofs.CommandKinds.{is_gap, is_beyond, view, kind_temporal}
use Rattle.form.proofs.First.{length_front}
use Rattle.form.proofs.Exact.{got_is, bad_got, bytes_head, bytes_drop, operand_read, front_read, then_read, item_read, named_read, counted_read, Found, Sound, found_as}
use Rattle.form.proofs.Exact.{or_else_parts, got_parts, operand_parts, operand_below, operand_bytes_lem, flag_parts, front_parts, then_parts, front_found, then_found, found_behind, RunLaws}
use Rattle.form.proofs.Exact.{run_sound, NamedLaws, named_sound, counted_sound}
use Rattle.form.proofs.ExactTypes.{read_enc, enc_read}
use Rattle.form.proofs.Numbers.{length_bytes, take_length}

pub decode_code : (t : Temporal) → decode_temporal (code_temporal t) ≡ t
decode_code on_date = refl
decode_code at_time = refl
decode_code at_date_time = refl
decode_code for_days_and_time = refl
decode_code for_years_and_months = refl

pub code_decode : (n : ℕ) → n < 5 → code_temporal (decode_temporal n) ≡ n
code_decode zero h = refl
code_decode (suc zero) h = refl
code_decode (suc (suc zero)) h = refl
code_decode (suc (suc (suc zero))) h = refl
code_decode (suc (suc (suc (suc n)))) h = omega arith

pub code_small_temporal : (t : Temporal) → code_temporal t < 5
code_small_temporal on_date = omega arith
code_small_temporal at_time = omega arith
code_small_temporal at_date_time = omega arith
code_small_temporal for_days_and_time = omega arith
code_small_temporal for_years_and_months = omega arith

pub bit_small : (b : Bool) → bit b ≤ 1
bit_small true = omega arith
bit_small false = omega arith

bit_back : (b : Bool) → eqb (bit b) 1 ≡ b
bit_back true = refl
bit_back false = refl

back_bit : (x : ℕ) → x ≤ 1 → bit (eqb x 1) ≡ x
back_bit zero h = refl
back_bit (suc zero) h = refl
back_bit (suc (suc x)) h = absurd (omega arith)

-- ---- THE ENCODING IS READ BACK
flag_read : (m : ℕ) (mk : ℕ → Val) (x : ℕ) (r : List ℕ) → x ≤ m → read_flag m mk (x ∷ r) ≡ got (mk x) 2
unfolding read_flag or_else
flag_read m mk x r h = rw (le-leb x m h)

key_read : (k : ℕ) (mk : ℕ → Val) (x : ℕ) (r : List ℕ) → x < 256 ^ k → read_key k mk (bytes k x ++ r) ≡ got (mk x) (1 + k)
unfolding read_key
key_read k mk x r h = rw (append-nil (bytes k x)) at (operand_read k (λ y q. got (mk y) (1 + k)) x [] r h)

temporal_enc : (t : Temporal) (k l : ℕ) (rest : List ℕ) → k < 256 ^ 8 → read_v (suc l) ((4 + code_temporal t) ∷ (bytes 8 k ++ rest)) ≡ got (v_leaf (l_temporal t k)) (suc (length (bytes 8 k)))
unfolding read_v step_v step_value
temporal_enc t k l rest g =
    let h = code_small_temporal t in
    let e : 4 + code_temporal t - 4 ≡ code_temporal t = omega arith in
    let z = length_bytes 8 k in
    rw (kind_temporal (4 + code_temporal t) (omega arith) (omega arith), e, decode_code t) (key_read 8 (λ x. v_leaf (l_temporal t x)) k rest g ∙ got_is (omega arith))

decimal_enc : (k p : ℕ) (rest : List ℕ) → k < 256 ^ 8 → p ≤ most_exponent → read_decimal ((bytes 8 k ++ (p ∷ [])) ++ rest) ≡ got (v_leaf (l_decimal k p)) (suc (length (bytes 8 k ++ (p ∷ []))))
unfolding read_decimal front
decimal_enc k p rest g h =
    let z = length_front 8 k (p ∷ []) in
    operand_read 8 (λ c r. front (λ v. v) 8 (read_flag most_exponent (λ q. v_leaf (l_decimal c q)) r)) k (p ∷ []) rest g
    ∙ rw (flag_read most_exponent (λ q. v_leaf (l_decimal k q)) p rest h) (got_is (omega arith))

leaf_enc : (x : Leaf) (l : ℕ) (rest : List ℕ) → WfLeaf x → read_v (suc l) (enc_leaf x ++ rest) ≡ got (v_leaf x) (length (enc_leaf x))
unfolding read_v step_v step_value kind_of enc_leaf WfLeaf
leaf_enc (l_null t) l rest g = flag_read 3 (λ x. v_leaf (l_null x)) t rest g
leaf_enc (l_boolean b) l rest g = flag_read 1 (λ x. v_leaf (l_boolean (eqb x 1))) (bit b) rest (bit_small b) ∙ ap (λ (y : Bool). got (v_leaf (l_boolean y)) 2) (bit_back b)
leaf_enc (l_number k) l rest g = key_read 8 (λ x. v_leaf (l_number x)) k rest g ∙ got_is (let e = length_bytes 8 k in omega arith)
leaf_enc (l_decimal k p) l rest g = decimal_enc k p rest g.0 g.1
leaf_enc (l_string n) l rest g = key_read name_width (λ x. v_leaf (l_string x)) n rest g ∙ got_is (let e = length_bytes name_width n in omega arith)
leaf_enc (l_temporal t k) l rest g =
    temporal_enc t k l rest g

params_enc : (ps : Params) (l least : ℕ) (rest : List ℕ) → WfParams ps → level_params ps ≤ l → least ≡ 0
    → read_params (read_t l) (count_params ps) least (enc_params ps ++ rest) ≡ got ps (length (enc_params ps))
unfolding read_named enc_params level_params count_params WfParams
params_enc no_parameters l least rest g h z = refl
params_enc (parameter m t ps) l least rest g h z = named_read no_parameters parameter any_order (read_t l) m least (enc t) (enc_params ps) rest t ps (count_params ps) (omega arith) g.0
    (read_enc t l (enc_params ps ++ rest) g.1.0 (omega arith)) (params_enc ps l 0 rest g.1.1 (omega arith) refl)

range_enc : (child : List ℕ → Got Val) (i j : ℕ) (v w : Val) (rest : List ℕ) → i ≤ 3 → j ≤ 3 → child (enc_v v ++ (enc_v w ++ rest)) ≡ got v (length (enc_v v))
    → child (enc_v w ++ rest) ≡ got w (length (enc_v w)) → read_range child (i ∷ j ∷ ((enc_v v ++ enc_v w) ++ rest)) ≡ got (v_range i j v w) (3 + length (enc_v v ++ enc_v w))
unfolding read_range or_else
range_enc child i j v w rest p q hv hw = rw (le-leb i 3 p, le-leb j 3 q) (then_read (v_range i j) 3 child child (enc_v v) (enc_v w) rest v w hv hw)

definition_enc : (type : List ℕ → Got Ty) (ps : Params) (b : ℕ) (t : Ty) (rest : List ℕ) → b < 65536 → type (enc t ++ (enc_params ps ++ rest)) ≡ got t (length (enc t))
    → read_params type (count_params ps) 0 (enc_params ps ++ rest) ≡ got ps (length (enc_params ps))
    → read_definition type (count_params ps ∷ ((bytes 2 b ++ (enc t ++ enc_params ps)) ++ rest)) ≡ got (v_function ps b t) (4 + length (enc t ++ enc_params ps))
unfolding read_definition signature
definition_enc type ps b t rest h ht hp =
    operand_read 2 (signature type (count_params ps)) b (enc t ++ enc_params ps) rest h
    ∙ then_read (λ t ps. v_function ps b t) 4 type (read_params type (count_params ps) 0) (enc t) (enc_params ps) rest t ps ht hp

mutual
  unfolding read_v step_v step_value kind_of enc_v enc_vals enc_entries level_v read_run read_named count_vals count_entries WfV

  pub read_enc_v : (v : Val) (l : ℕ) (rest : List ℕ) → WfV v → level_v v ≤ l → read_v l (enc_v v ++ rest) ≡ got v (length (enc_v v))
  read_enc_v (v_leaf x) zero rest g h = absurd (omega arith)
  read_enc_v (v_leaf x) (suc l) rest g h = leaf_enc x l rest g
  read_enc_v (v_range i j v w) zero rest g h = absurd (omega arith)
  read_enc_v (v_range i j v w) (suc l) rest g h = range_enc (read_v l) i j v w rest g.0 g.1.0 (read_enc_v v l (enc_v w ++ rest) g.1.1.0 (omega arith))
      (read_enc_v w l rest g.1.1.1 (omega arith)) ∙ got_is (omega arith)
  read_enc_v (v_list vs) zero rest g h = absurd (omega arith)
  read_enc_v (v_list vs) (suc l) rest g h = counted_read v_list (λ c r. read_vals (read_v l) c r) (count_vals vs) (enc_vals vs) rest vs g.0 (vals_enc vs l rest g.1 (omega arith))
  read_enc_v (v_context es) zero rest g h = absurd (omega arith)
  read_enc_v (v_context es) (suc l) rest g h = counted_read v_context (λ c r. read_entries (read_v l) c 0 r) (count_entries es) (enc_entries es) rest es g.0
      (entries_enc es l 0 rest g.1 (omega arith))
  read_enc_v (v_function ps b t) zero rest g h = absurd (omega arith)
  read_enc_v (v_function ps b t) (suc l) rest g h = definition_enc (read_t l) ps b t rest g.1.0 (read_enc t l (enc_params ps ++ rest) g.1.1.0 (omega arith))
      (params_enc ps l 0 rest g.1.1.1 (omega arith) refl) ∙ got_is (let k = length_front 2 b (enc t ++ enc_params ps) in omega arith)
  read_enc_v (v_built_in n) zero rest g h = absurd (omega arith)
  read_enc_v (v_built_in n) (suc l) rest g h = flag_read 85 v_built_in n rest g
  read_enc_v (v_type t) zero rest g h = absurd (omega arith)
  read_enc_v (v_type t) (suc l) rest g h = front_read v_type 1 (enc t) t (read_t l (enc t ++ rest)) (read_enc t l rest g (omega arith)) ∙ got_is (omega arith)
  read_enc_v v_irrelevant zero rest g h = absurd (omega arith)
  read_enc_v v_irrelevant (suc l) rest g h = refl

  vals_enc : (vs : Vals) (l : ℕ) (rest : List ℕ) → WfVals vs → level_vals vs ≤ l → read_vals (read_v l) (count_vals vs) (enc_vals vs ++ rest) ≡ got vs (length (enc_vals vs))
  vals_enc no_items l rest g h = refl
  vals_enc (item v vs) l rest g h = item_read no_items item (read_v l) (enc_v v) (enc_vals vs) rest v vs (count_vals vs) (read_enc_v v l (enc_vals vs ++ rest) g.0 (omega arith))
      (vals_enc vs l rest g.1 (omega arith))

  entries_enc : (es : Entries) (l least : ℕ) (rest : List ℕ) → WfEntries es least → level_entries es ≤ l
      → read_entries (read_v l) (count_entries es) least (enc_entries es ++ rest) ≡ got es (length (enc_entries es))
  entries_enc no_entries l least rest g h = refl
  entries_enc (entry m v es) l least rest g h = named_read no_entries entry ascending (read_v l) m least (enc_v v) (enc_entries es) rest v es (count_entries es) g.0 g.1.0
      (read_enc_v v l (enc_entries es ++ rest) g.1.1.0 (omega arith)) (entries_enc es l (m + 1) rest g.1.1.1 (omega arith))

-- ---- WHAT IS READ IS AN ENCODING
params_laws : NamedLaws enc Wf level enc_params (λ ps k. WfParams ps) level_params count_params no_parameters parameter any_order
unfolding enc_params level_params count_params WfParams
params_laws = record { e_nil = refl; e_cons = λ m x r. refl; g_nil = λ k. tt; g_cons = λ k m x r a b c d. (b, (c, d)); l_nil = refl; l_cons = λ m x r. refl; c_nil = refl; c_cons = λ m x r. refl }

vals_laws : RunLaws enc_v WfV level_v enc_vals WfVals level_vals count_vals no_items item
unfolding enc_vals level_vals count_vals WfVals
vals_laws = record { e_nil = refl; e_cons = λ x r. refl; g_nil = tt; g_cons = λ x r a b. (a, b); l_nil = refl; l_cons = λ x r. refl; c_nil = refl; c_cons = λ x r. refl }

entries_laws : NamedLaws enc_v WfV level_v enc_entries WfEntries level_entries count_entries no_entries entry ascending
unfolding enc_entries level_entries count_entries WfEntries
entries_laws = record {
  e_nil = refl;
  e_cons = λ m x r. refl;
  g_nil = λ k. tt;
  g_cons = λ k m x r a b c d.
      (a, (b, (c, d)));
  l_nil = refl;
  l_cons = λ m x r. refl;
  c_nil = refl;
  c_cons = λ m x r. refl;
}

flag_sound : (l m : ℕ) (mk : ℕ → Val) (cmd : ℕ) → ((x : ℕ) → x ≤ m → enc_v (mk x) ≡ cmd ∷ x ∷ []) → ((x : ℕ) → x ≤ m → WfV (mk x)) → ((x : ℕ) → level_v (mk x) ≡ 1) → (b : ℕ) → b ≡ cmd
    → (s : List ℕ) (v : Val) (n : ℕ) → read_flag m mk s ≡ got v n → Found enc_v WfV level_v (suc l) (b ∷ s) v n
unfolding read_flag
flag_sound l m mk cmd e g lv b be [] v n eq = absurd (bad_got eq)
flag_sound l m mk cmd e g lv b be (x ∷ s) v n eq =
    or_else_parts Shape (leb x m) (got (mk x) 2) v n eq (λ t eq₁.
    let h = leb-true x m t in
    got_parts (mk x) v 2 n eq₁ (λ p q. found_as p q (record {
      rest = s;
      bytes = ap (λ (a : ℕ). a ∷ (x ∷ s)) be ∙ ap (λ (r : List ℕ). r ++ s) (sym (e x h));
      took = ap length (sym (e x h));
      well = g x h;
      low = let i = lv x in omega arith;
    })))

key_sound : (l k : ℕ) (mk : ℕ → Val) (cmd : ℕ) → ((x : ℕ) → enc_v (mk x) ≡ cmd ∷ bytes k x) → ((x : ℕ) → x < 256 ^ k → WfV (mk x)) → ((x : ℕ) → level_v (mk x) ≡ 1) → (b : ℕ) → b ≡ cmd → (s : List ℕ)
    → Bytes s → (v : Val) (n : ℕ) → read_key k mk s ≡ got v n → Found enc_v WfV level_v (suc l) (b ∷ s) v n
unfolding read_key
key_sound l k mk cmd e g lv b be s bs v n eq =
    operand_parts k (λ x r. got (mk x) (1 + k)) s v n eq (λ h eq₁.
    let z = take_length k s h in
    let x : enc_v (mk (num (take k s))) ≡ b ∷ take k s = e (num (take k s)) ∙ ap₂ (λ (a : ℕ) (r : List ℕ). a ∷ r) (sym be) (operand_bytes_lem k s bs h) in
    got_parts (mk (num (take k s))) v (1 + k) n eq₁ (λ p q. found_as p q (record {
      rest = drop k s;
      bytes = ap (λ (r : List ℕ). b ∷ r) (sym (take-append-drop k s)) ∙ ap (λ (r : List ℕ). r ++ drop k s) (sym x);
      took = rw x (omega arith);
      well = g (num (take k s)) (operand_below k s bs h);
      low = let i = lv (num (take k s)) in omega arith;
    })))

module _ (child : List ℕ → Got Val) (type : List ℕ → Got Ty) (l : ℕ) (snd : Sound enc_v WfV level_v l child) (snt : Sound enc Wf level l type) where
  range_sound : (b : ℕ) (s : List ℕ) → b ≡ 9 → Bytes s → (v : Val) (n : ℕ) → read_range child s ≡ got v n → Found enc_v WfV level_v (suc l) (b ∷ s) v n
  unfolding read_range enc_v level_v WfV
  range_sound b [] be bs v n eq = absurd (bad_got eq)
  range_sound b (i ∷ []) be bs v n eq = absurd (bad_got eq)
  range_sound b (i ∷ j ∷ s) be bs v n eq =
      let b₀ = bytes_head i (j ∷ s) bs in
      let b₁ = bytes_head j s b₀.1 in
      or_else_parts Shape (leb i 3) (or_else Shape (leb j 3) (and_then (v_range i j) 3 s child (child s))) v n eq (λ ti eq₁.
      or_else_parts Shape (leb j 3) (and_then (v_range i j) 3 s child (child s)) v n eq₁ (λ tj eq₂.
      then_parts (v_range i j) 3 s child (child s) v n eq₂ (λ x m px y k py pz pn.
      let F = snd s b₁.1 x m px in
      let G = snd (drop m s) (bytes_drop m s b₁.1) y k py in
      found_as pz refl (then_found (b ∷ i ∷ j ∷ []) F G
      (ap (λ (a : ℕ). a ∷ i ∷ j ∷ (enc_v x ++ enc_v y)) (sym be))
      (leb-true i 3 ti, (leb-true j 3 tj, (F.well, G.well)))
      (let f = F.low in let g = G.low in omega arith) refl pn))))

  definition_sound : (b : ℕ) (s : List ℕ) → b ≡ 12 → Bytes s → (v : Val) (n : ℕ) → read_definition type s ≡ got v n → Found enc_v WfV level_v (suc l) (b ∷ s) v n
  unfolding read_definition signature enc_v level_v WfV
  definition_sound b [] be bs v n eq = absurd (bad_got eq)
  definition_sound b (c ∷ s) be bs v n eq =
      let b₀ = bytes_head c s bs in
      operand_parts 2 (signature type c) s v n eq (λ h eq₁.
      then_parts (λ t ps. v_function ps (num (take 2 s)) t) 4 (drop 2 s) (read_params type c 0) (type (drop 2 s)) v n eq₁ (λ t m px ps k py pz pn.
      let F = snt (drop 2 s) (bytes_drop 2 s b₀.1) t m px in
      let G = named_sound params_laws type l snt c 0 (drop m (drop 2 s)) (bytes_drop m (drop 2 s) (bytes_drop 2 s b₀.1)) ps k py in
      let z = take_length 2 s h in
      found_as pz refl (found_behind (b ∷ c ∷ []) 2 s (then_found (b ∷ c ∷ take 2 s) F G
      (λ i. sym be i ∷ G.well.0 i ∷ (operand_bytes_lem 2 s b₀.1 h i ++ (enc t ++ enc_params ps)))
      (let q = G.well.0 in let p = b₀.0 in omega arith, (operand_below 2 s b₀.1 h, (F.well, G.well.1)))
      (let f = F.low in let g = G.low in omega arith) (omega arith) pn))))

  type_sound : (b : ℕ) (s : List ℕ) → b ≡ 14 → Bytes s → (v : Val) (n : ℕ) → front v_type 1 (type s) ≡ got v n → Found enc_v WfV level_v (suc l) (b ∷ s) v n
  unfolding enc_v level_v WfV
  type_sound b s be bs v n eq =
      front_parts v_type 1 (type s) v n eq (λ x m px pz pn.
      let F = snt s bs x m px in
      found_as pz refl (front_found (b ∷ []) F (ap (λ (a : ℕ). a ∷ enc x) (sym be)) F.well (let f = F.low in omega arith) refl pn))

  irrelevant_sound : (b : ℕ) (s : List ℕ) → b ≡ 15 → (v : Val) (n : ℕ) → got v_irrelevant 1 ≡ got v n → Found enc_v WfV level_v (suc l) (b ∷ s) v n
  unfolding enc_v level_v WfV
  irrelevant_sound b s be v n eq = got_parts v_irrelevant v 1 n eq (λ p q. found_as p q (record { rest = s; bytes = ap (λ (a : ℕ). a ∷ s) be; took = refl; well = tt; low = omega arith }))

  temporal_sound : (b : ℕ) (s : List ℕ) → 4 ≤ b → b < 9 → Bytes s → (v : Val) (n : ℕ) → read_key 8 (λ x. v_leaf (l_temporal (decode_temporal (b - 4)) x)) s ≡ got v n
      → Found enc_v WfV level_v (suc l) (b ∷ s) v n
  unfolding enc_v enc_leaf level_v WfV WfLeaf
  temporal_sound b s p q bs v n eq =
      let c : code_temporal (decode_temporal (b - 4)) ≡ b - 4 = code_decode (b - 4) (omega arith) in
      let d : b ≡ 4 + code_temporal (decode_temporal (b - 4)) = omega arith in
      key_sound l 8 (λ x. v_leaf (l_temporal (decode_temporal (b - 4)) x)) (4 + code_temporal (decode_temporal (b - 4))) (λ x. refl) (λ x g. g) (λ x. refl) b d s bs v n eq

  decimal_sound : (b : ℕ) (s : List ℕ) → b ≡ 16 → Bytes s → (v : Val) (n : ℕ) → read_decimal s ≡ got v n → Found enc_v WfV level_v (suc l) (b ∷ s) v n
  unfolding read_decimal enc_v enc_leaf level_v WfV WfLeaf
  decimal_sound b s be bs v n eq =
      let k = num (take 8 s) in
      operand_parts 8 (λ c r. front (λ w. w) 8 (read_flag most_exponent (λ q. v_leaf (l_decimal c q)) r)) s v n eq (λ h eq₁.
      front_parts (λ w. w) 8 (read_flag most_exponent (λ q. v_leaf (l_decimal k q)) (drop 8 s)) v n eq₁ (λ x m px pz pn.
      flag_parts most_exponent (λ q. v_leaf (l_decimal k q)) (drop 8 s) x m px (λ p r d q xe me.
      let z = length_front 8 k (p ∷ []) in
      let f : s ≡ (bytes 8 k ++ (p ∷ [])) ++ r =
      sym (take-append-drop 8 s) ∙ ap₂ (λ (a c : List ℕ). a ++ c) (sym (operand_bytes_lem 8 s bs h)) d ∙ sym (append_assoc (bytes 8 k) (p ∷ []) r) in
      found_as (xe ∙ pz) refl (record {
        rest = r;
        bytes = ap₂ (λ (a : ℕ) (c : List ℕ). a ∷ c) be f;
        took = omega (arith, me, pn);
        well = (operand_below 8 s bs h, q);
        low = omega arith;
      }))))

  value_sound : (b : ℕ) (s : List ℕ) → Bytes s → (k : ValueKind) → ViewV b k → (v : Val) (n : ℕ) → step_value child type k b s ≡ got v n → Found enc_v WfV level_v (suc l) (b ∷ s) v n
  unfolding step_value enc_v enc_leaf level_v WfV WfLeaf
  value_sound b s bs k (is_null p) v n e = flag_sound l 3 (λ x. v_leaf (l_null x)) 0x00 (λ x h. refl) (λ x h. h) (λ x. refl) b p s v n e
  value_sound b s bs k (is_boolean p) v n e = flag_sound l 1 (λ x. v_leaf (l_boolean (eqb x 1))) 0x01 (λ x h. ap (λ (a : ℕ). 0x01 ∷ a ∷ []) (back_bit x h)) (λ x h. tt) (λ x. refl) b p s v n e
  value_sound b s bs k (is_number p) v n e = key_sound l 8 (λ x. v_leaf (l_number x)) 0x02 (λ x. refl) (λ x h. h) (λ x. refl) b p s bs v n e
  value_sound b s bs k (is_string p) v n e = key_sound l name_width (λ x. v_leaf (l_string x)) 0x03 (λ x. refl) (λ x h. h) (λ x. refl) b p s bs v n e
  value_sound b s bs k (is_temporal p q) v n e = temporal_sound b s p q bs v n e
  value_sound b s bs k (is_range p) v n e = range_sound b s p bs v n e
  value_sound b s bs k (is_list p) v n e = counted_sound {good_r = WfVals} {count = count_vals} l v_list (λ c r. read_vals child c r) 0x0A (λ x. refl) (λ x c g. (c, g)) (λ x. refl)
      (λ c. run_sound vals_laws child l snd c) b p s bs v n e
  value_sound b s bs k (is_context p) v n e = counted_sound {good_r = λ es. WfEntries es 0} {count = count_entries} l v_context (λ c r. read_entries child c 0 r) 0x0B (λ x. refl) (λ x c g. (c, g))
      (λ x. refl) (λ c. named_sound entries_laws child l snd c 0) b p s bs v n e
  value_sound b s bs k (is_definition p) v n e = definition_sound b s p bs v n e
  value_sound b s bs k (is_built_in p) v n e = flag_sound l 85 v_built_in 0x0D (λ x h. refl) (λ x h. h) (λ x. refl) b p s v n e
  value_sound b s bs k (is_feel_type p) v n e = type_sound b s p bs v n e
  value_sound b s bs k (is_irrelevant p) v n e = irrelevant_sound b s p v n e
  value_sound b s bs k (is_decimal p) v n e = decimal_sound b s p bs v n e

  step_sound : (b : ℕ) (s : List ℕ) → Bytes s → (k : Kind) → View b k → (v : Val) (n : ℕ) → step_v child type k b s ≡ got v n → Found enc_v WfV level_v (suc l) (b ∷ s) v n
  unfolding step_v
  step_sound b s bs k (is_value j w) v n e = value_sound b s bs j w v n e
  step_sound b s bs k (is_type j w) v n e = absurd (bad_got e)
  step_sound b s bs k (is_gap p q) v n e = absurd (bad_got e)
  step_sound b s bs k (is_beyond p) v n e = absurd (bad_got e)

pub enc_read_v : (l : ℕ) → Sound enc_v WfV level_v l (read_v l)
unfolding read_v
enc_read_v zero [] bs t n e = absurd (bad_got e)
enc_read_v zero (b ∷ s) bs t n e = absurd (bad_got e)
enc_read_v (suc l) [] bs t n e = absurd (bad_got e)
enc_read_v (suc l) (b ∷ s) bs t n e = step_sound (read_v l) (read_t l) l (enc_read_v l) (enc_read l) b s (bytes_head b s bs).1 (kind_of b) (view b) t n e
