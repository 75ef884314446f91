-- For the walks that come after the reader: what was read, node by node, in the terms of the code (an element, a part from an index).
-- Idea: the reader's step is taken apart once for each command; a walk then matches on the node.
-- Index: `TypeRead`, `NodeT`, `type_read` (a type); `ValueRead`, `NodeV`, `value_read`, `node_of` (a value); `item_parts`, `named_parts` (the first child of a run).
-- Assumes nothing.
use Prim.Native.Nat.{ℕ, zero, suc, ◌+◌, ◌-◌, ◌<◌, ◌≤◌}
use mathlib.Core.Path.{◌≡◌, refl, sym, ap, subst, ◌∙◌}
use mathlib.Core.List.{List, [], ◌∷◌}
use native.Mathlib.Omega.{arith}
use lib.ListN.{length, get_or, take, drop, length-drop}
use lib.Seq.{get_or-drop}
use lib.Dec.{leb, eqb}
use borrow.Author.Tests.{leb-true}
use Rattle.form.specs.Trees.{Ty, leaf, built, list, range, context, function, Fields, Tys, l_null, l_boolean, l_number, l_decimal, l_string, l_temporal, Params, Val, v_leaf, v_range, v_list}
use Rattle.form.specs.Trees.{v_context, v_function, v_built_in, v_type, v_irrelevant, Vals, Entries, decode, decode_temporal}
use Rattle.form.specs.Limits.{name_width, most_exponent}
use Rattle.form.specs.Form.{num, num_at}
use Rattle.form.specs.Layout.{ValueKind, k_null, k_boolean, k_number, k_string, k_temporal, k_range, k_list, k_context, k_definition, k_built_in, k_type, k_irrelevant, k_decimal, TypeKind, Kind}
use Rattle.form.specs.Layout.{of_value, kind_of}
use Rattle.form.specs.Read.{Got, got, front, and_then, or_else, named, read_run, read_named, read_fields, read_tys, read_vals, read_entries, read_params, read_flag, read_key, counted, read_function}
use Rattle.form.specs.Read.{read_range, signature, read_definition, read_decimal, step_type, step_t, read_t, step_value, step_v, read_v}
use Rattle.form.specs.Faults.{Shape, Names}
use Rattle.form.proofs.CommandKinds.{ViewV, is_null, is_boolean, is_number, is_string, is_temporal, is_range, is_list, is_context, is_definition, is_built_in, is_feel_type, is_irrelevant}
use Rattle.form.proofs.CommandKinds.{is_decimal, ViewT}
use Rattle.form.proofs.CommandKinds.{is_simple_t, is_list_t, is_range_t, is_context_t, is_function_t, View, is_value, is_type, is_gap, is_beyond, view}
use Rattle.form.proofs.Exact.{bad_got, or_else_parts, got_parts, operand_parts, flag_parts, front_parts, then_parts}

-- ---- runs
pub item_parts : {X R : Type 0} {P : Type 0} (nil : R) (cons : X → R → R) (child : List ℕ → Got X) (c : ℕ) (s : List ℕ) (r : R) (n : ℕ) → read_run nil cons child (suc c) s ≡ got r n
    → ((x : X) (m : ℕ) → child s ≡ got x m → (y : R) (j : ℕ) → read_run nil cons child c (drop m s) ≡ got y j → cons x y ≡ r → 0 + m + j ≡ n → P) → P
unfolding read_run
item_parts nil cons child c s r n e k = then_parts cons 0 s (read_run nil cons child c) (child s) r n e k

pub named_parts : {X R : Type 0} {P : Type 0} (nil : R) (cons : ℕ → X → R → R) (next : ℕ → ℕ) (child : List ℕ → Got X) (c least : ℕ) (s : List ℕ) (r : R) (n : ℕ)
    → read_named nil cons next child (suc c) least s ≡ got r n → (name_width ≤ length s → least ≤ num (take name_width s) → (x : X) (m : ℕ) → child (drop name_width s) ≡ got x m → (y : R) (j : ℕ)
    → read_named nil cons next child c (next (num (take name_width s))) (drop m (drop name_width s)) ≡ got y j → cons (num (take name_width s)) x y ≡ r → name_width + m + j ≡ n → P) → P
unfolding read_named named
named_parts nil cons next child c least s r n e k =
    operand_parts name_width (named cons (λ j. read_named nil cons next child c (next j)) child least) s r n e (λ h e₀.
    or_else_parts Names (leb least (num (take name_width s))) (and_then (cons (num (take name_width s))) name_width (drop name_width s) (read_named nil cons next child c (next (num
    (take name_width s))))
    (child (drop name_width s))) r n e₀ (λ t e₁.
    then_parts (cons (num (take name_width s))) name_width (drop name_width s) (read_named nil cons next child c (next (num (take name_width s)))) (child (drop name_width s)) r n e₁
    (k h (leb-true least (num (take name_width s)) t))))

-- ---- a type
-- `NodeT left s t n`: t was read from s, took n bytes, and its children were read with `left` levels
pub data NodeT (left : ℕ) (s : List ℕ) : Ty → ℕ → Type 0 where
  n_simple : 32 ≤ get_or s 0 0 → get_or s 0 0 < 42 → NodeT left s (leaf (decode (get_or s 0 0 - 32))) 1
  n_list : get_or s 0 0 ≡ 42 → (t : Ty) (n : ℕ) → read_t left (drop 1 s) ≡ got t n → NodeT left s (built (list t)) (1 + n)
  n_range : get_or s 0 0 ≡ 43 → (t : Ty) (n : ℕ) → read_t left (drop 1 s) ≡ got t n → NodeT left s (built (range t)) (1 + n)
  n_context : get_or s 0 0 ≡ 44 → 3 ≤ length s → (fs : Fields) (n : ℕ) → read_fields (read_t left) (num_at 2 1 s) 0 (drop 3 s) ≡ got fs n → NodeT left s (built (context fs)) (3 + n)
  n_function : get_or s 0 0 ≡ 45 → 2 ≤ length s → (ts : Tys) (m : ℕ) → read_tys (read_t left) (get_or s 1 0) (drop 2 s) ≡ got ts m → (t : Ty) (n : ℕ) → read_t left (drop m (drop 2 s)) ≡ got t n
      → NodeT left s (built (function ts t)) (2 + m + n)

pub record TypeRead (l : ℕ) (s : List ℕ) (t : Ty) (n : ℕ) : Type 0 where
  pub some_level : 0 < l
  pub some_byte : 0 < length s
  pub node : NodeT (l - 1) s t n

as_node : {left : ℕ} {s : List ℕ} {t u : Ty} {n m : ℕ} → t ≡ u → n ≡ m → NodeT left s t n → NodeT left s u m
as_node p q f = rw (← p, ← q) f

context_node : (l b : ℕ) (s : List ℕ) → b ≡ 44 → (t : Ty) (n : ℕ) → counted (λ fs. built (context fs)) (λ c r. read_fields (read_t l) c 0 r) s ≡ got t n → NodeT l (b ∷ s) t n
unfolding counted
context_node l b s be t n e =
    operand_parts 2 (λ c r. front (λ fs. built (context fs)) 3 (read_fields (read_t l) c 0 r)) s t n e (λ h e₀.
    front_parts (λ fs. built (context fs)) 3 (read_fields (read_t l) (num (take 2 s)) 0 (drop 2 s)) t n e₀ (λ fs m px pz pn. as_node pz pn (n_context be (omega arith) fs m px)))

function_node : (l b : ℕ) (s : List ℕ) → b ≡ 45 → (t : Ty) (n : ℕ) → read_function (read_t l) s ≡ got t n → NodeT l (b ∷ s) t n
unfolding read_function
function_node l b [] be t n e = absurd (bad_got e)
function_node l b (c ∷ s) be t n e = then_parts (λ ts t. built (function ts t)) 2 s (read_t l) (read_tys (read_t l) c s) t n e
    (λ ts m px u j py pz pn. as_node pz pn (n_function be (omega arith) ts m px u j py))

type_node : (l b : ℕ) (s : List ℕ) (k : TypeKind) → ViewT b k → (t : Ty) (n : ℕ) → step_type (read_t l) k b s ≡ got t n → NodeT l (b ∷ s) t n
unfolding step_type
type_node l b s k (is_simple_t p q) t n e = got_parts (leaf (decode (b - 0x20))) t 1 n e (λ x y. as_node x y (n_simple p q))
type_node l b s k (is_list_t p) t n e = front_parts (λ t. built (list t)) 1 (read_t l s) t n e (λ u m px pz pn. as_node pz pn (n_list p u m px))
type_node l b s k (is_range_t p) t n e = front_parts (λ t. built (range t)) 1 (read_t l s) t n e (λ u m px pz pn. as_node pz pn (n_range p u m px))
type_node l b s k (is_context_t p) t n e = context_node l b s p t n e
type_node l b s k (is_function_t p) t n e = function_node l b s p t n e

step_node : (l b : ℕ) (s : List ℕ) (k : Kind) → View b k → (t : Ty) (n : ℕ) → step_t (read_t l) k b s ≡ got t n → NodeT l (b ∷ s) t n
unfolding step_t
step_node l b s k (is_value j v) t n e = absurd (bad_got e)
step_node l b s k (is_type j v) t n e = type_node l b s j v t n e
step_node l b s k (is_gap p q) t n e = absurd (bad_got e)
step_node l b s k (is_beyond p) t n e = absurd (bad_got e)

pub type_read : (l : ℕ) (s : List ℕ) (t : Ty) (n : ℕ) → read_t l s ≡ got t n → TypeRead l s t n
unfolding read_t
type_read zero [] t n e = absurd (bad_got e)
type_read zero (b ∷ s) t n e = absurd (bad_got e)
type_read (suc l) [] t n e = absurd (bad_got e)
type_read (suc l) (b ∷ s) t n e =
    let z : suc l - 1 ≡ l = omega arith in
    record { some_level = omega arith; some_byte = omega arith; node = subst (λ (k : ℕ). NodeT k (b ∷ s) t n) (sym z) (step_node l b s (kind_of b) (view b) t n e) }

-- ---- a value, by the kind of its command
pub data NodeV (left : ℕ) (s : List ℕ) : ValueKind → Val → ℕ → Type 0 where
  n_null : get_or s 0 0 ≡ 0 → 2 ≤ length s → get_or s 1 0 ≤ 3 → NodeV left s k_null (v_leaf (l_null (get_or s 1 0))) 2
  n_boolean : get_or s 0 0 ≡ 1 → 2 ≤ length s → get_or s 1 0 ≤ 1 → NodeV left s k_boolean (v_leaf (l_boolean (eqb (get_or s 1 0) 1))) 2
  n_number : get_or s 0 0 ≡ 2 → 9 ≤ length s → NodeV left s k_number (v_leaf (l_number (num_at 8 1 s))) 9
  n_string : get_or s 0 0 ≡ 3 → 1 + name_width ≤ length s → NodeV left s k_string (v_leaf (l_string (num_at name_width 1 s))) (1 + name_width)
  n_temporal : 4 ≤ get_or s 0 0 → get_or s 0 0 < 9 → 9 ≤ length s → NodeV left s k_temporal (v_leaf (l_temporal (decode_temporal (get_or s 0 0 - 4)) (num_at 8 1 s))) 9
  n_range_v : get_or s 0 0 ≡ 9 → 3 ≤ length s → get_or s 1 0 ≤ 3 → get_or s 2 0 ≤ 3 → (v : Val) (m : ℕ) → read_v left (drop 3 s) ≡ got v m → (w : Val) (n : ℕ)
      → read_v left (drop m (drop 3 s)) ≡ got w n
      → NodeV left s k_range (v_range (get_or s 1 0) (get_or s 2 0) v w) (3 + m + n)
  n_list_v : get_or s 0 0 ≡ 10 → 3 ≤ length s → (vs : Vals) (n : ℕ) → read_vals (read_v left) (num_at 2 1 s) (drop 3 s) ≡ got vs n → NodeV left s k_list (v_list vs) (3 + n)
  n_context_v : get_or s 0 0 ≡ 11 → 3 ≤ length s → (es : Entries) (n : ℕ) → read_entries (read_v left) (num_at 2 1 s) 0 (drop 3 s) ≡ got es n → NodeV left s k_context (v_context es) (3 + n)
  n_definition : get_or s 0 0 ≡ 12 → 4 ≤ length s → (t : Ty) (m : ℕ) → read_t left (drop 4 s) ≡ got t m → (ps : Params) (n : ℕ)
      → read_params (read_t left) (get_or s 1 0) 0 (drop m (drop 4 s)) ≡ got ps n
      → NodeV left s k_definition (v_function ps (num_at 2 2 s) t) (4 + m + n)
  n_built_in : get_or s 0 0 ≡ 13 → 2 ≤ length s → get_or s 1 0 ≤ 85 → NodeV left s k_built_in (v_built_in (get_or s 1 0)) 2
  n_type : get_or s 0 0 ≡ 14 → (t : Ty) (n : ℕ) → read_t left (drop 1 s) ≡ got t n → NodeV left s k_type (v_type t) (1 + n)
  n_irrelevant : get_or s 0 0 ≡ 15 → NodeV left s k_irrelevant v_irrelevant 1
  n_decimal : get_or s 0 0 ≡ 16 → 10 ≤ length s → get_or s 9 0 ≤ most_exponent → NodeV left s k_decimal (v_leaf (l_decimal (num_at 8 1 s) (get_or s 9 0))) 10

pub record ValueRead (l : ℕ) (s : List ℕ) (v : Val) (n : ℕ) : Type 0 where
  pub some_level : 0 < l
  pub some_byte : 0 < length s
  pub kind : ValueKind
  pub told : kind_of (get_or s 0 0) ≡ of_value kind
  pub node : NodeV (l - 1) s kind v n

as_node_v : {left : ℕ} {s : List ℕ} {j : ValueKind} {v w : Val} {n m : ℕ} → v ≡ w → n ≡ m → NodeV left s j v n → NodeV left s j w m
as_node_v p q f = rw (← p, ← q) f

flag_node : {j : ValueKind} (l b m : ℕ) (mk : ℕ → Val) (s : List ℕ) (v : Val) (n : ℕ) → read_flag m mk s ≡ got v n
    → (2 ≤ length (b ∷ s) → get_or (b ∷ s) 1 0 ≤ m → NodeV l (b ∷ s) j (mk (get_or (b ∷ s) 1 0)) 2) → NodeV l (b ∷ s) j v n
flag_node l b m mk s v n e k =
    flag_parts m mk s v n e (λ x r d h p q.
    let y : get_or (b ∷ s) 1 0 ≡ x = ap (λ (z : List ℕ). get_or z 0 0) d in
    let z : length s ≡ suc (length r) = ap length d in
    as_node_v (ap mk y ∙ p) q (k (omega arith) (omega (arith, y))))

key_node : {j : ValueKind} (l b c : ℕ) (mk : ℕ → Val) (s : List ℕ) (v : Val) (n : ℕ) → read_key c mk s ≡ got v n → (1 + c ≤ length (b ∷ s) → NodeV l (b ∷ s) j (mk (num (take c s))) (1 + c))
    → NodeV l (b ∷ s) j v n
unfolding read_key
key_node l b c mk s v n e k = operand_parts c (λ x r. got (mk x) (1 + c)) s v n e (λ h e₁. got_parts (mk (num (take c s))) v (1 + c) n e₁ (λ p q. as_node_v p q (k (omega arith))))

decimal_node : (l b : ℕ) (s : List ℕ) → b ≡ 16 → (v : Val) (n : ℕ) → read_decimal s ≡ got v n → NodeV l (b ∷ s) k_decimal v n
unfolding read_decimal
decimal_node l b s be v n e =
    let k = num (take 8 s) in
    operand_parts 8 (λ c r. front (λ w. w) 8 (read_flag most_exponent (λ q. v_leaf (l_decimal c q)) r)) s v n e (λ h e₁.
    front_parts (λ w. w) 8 (read_flag most_exponent (λ q. v_leaf (l_decimal k q)) (drop 8 s)) v n e₁ (λ x m px pz pn.
    flag_parts most_exponent (λ q. v_leaf (l_decimal k q)) (drop 8 s) x m px (λ p r d q xe me.
    let y : get_or (b ∷ s) 9 0 ≡ p = sym (get_or-drop 8 s 0 0) ∙ ap (λ (z : List ℕ). get_or z 0 0) d in
    let z : length s - 8 ≡ suc (length r) = sym (length-drop 8 s) ∙ ap length d in
    as_node_v (ap (λ (a : ℕ). v_leaf (l_decimal k a)) y ∙ xe ∙ pz) (omega (arith, me, pn)) (n_decimal be (omega arith) (omega (arith, y))))))

range_node : (l b : ℕ) (s : List ℕ) → b ≡ 9 → (v : Val) (n : ℕ) → read_range (read_v l) s ≡ got v n → NodeV l (b ∷ s) k_range v n
unfolding read_range
range_node l b [] be v n e = absurd (bad_got e)
range_node l b (i ∷ []) be v n e = absurd (bad_got e)
range_node l b (i ∷ j ∷ s) be v n e =
    or_else_parts Shape (leb i 3) (or_else Shape (leb j 3) (and_then (v_range i j) 3 s (read_v l) (read_v l s))) v n e (λ ti e₁.
    or_else_parts Shape (leb j 3) (and_then (v_range i j) 3 s (read_v l) (read_v l s)) v n e₁ (λ tj e₂.
    then_parts (v_range i j) 3 s (read_v l) (read_v l s) v n e₂ (λ x m px y k py pz pn. as_node_v pz pn (n_range_v be (omega arith) (leb-true i 3 ti) (leb-true j 3 tj) x m px y k py))))

list_node : (l b : ℕ) (s : List ℕ) → b ≡ 10 → (v : Val) (n : ℕ) → counted v_list (λ c r. read_vals (read_v l) c r) s ≡ got v n → NodeV l (b ∷ s) k_list v n
unfolding counted
list_node l b s be v n e =
    operand_parts 2 (λ c r. front v_list 3 (read_vals (read_v l) c r)) s v n e (λ h e₀.
    front_parts v_list 3 (read_vals (read_v l) (num (take 2 s)) (drop 2 s)) v n e₀ (λ vs m px pz pn. as_node_v pz pn (n_list_v be (omega arith) vs m px)))

entries_node : (l b : ℕ) (s : List ℕ) → b ≡ 11 → (v : Val) (n : ℕ) → counted v_context (λ c r. read_entries (read_v l) c 0 r) s ≡ got v n → NodeV l (b ∷ s) k_context v n
unfolding counted
entries_node l b s be v n e =
    operand_parts 2 (λ c r. front v_context 3 (read_entries (read_v l) c 0 r)) s v n e (λ h e₀.
    front_parts v_context 3 (read_entries (read_v l) (num (take 2 s)) 0 (drop 2 s)) v n e₀ (λ es m px pz pn. as_node_v pz pn (n_context_v be (omega arith) es m px)))

definition_node : (l b : ℕ) (s : List ℕ) → b ≡ 12 → (v : Val) (n : ℕ) → read_definition (read_t l) s ≡ got v n → NodeV l (b ∷ s) k_definition v n
unfolding read_definition signature
definition_node l b [] be v n e = absurd (bad_got e)
definition_node l b (c ∷ s) be v n e =
    operand_parts 2 (signature (read_t l) c) s v n e (λ h e₀.
    then_parts (λ t ps. v_function ps (num (take 2 s)) t) 4 (drop 2 s) (read_params (read_t l) c 0) (read_t l (drop 2 s)) v n e₀
    (λ t m px ps k py pz pn. as_node_v pz pn (n_definition be (omega arith) t m px ps k py)))

value_node : (l b : ℕ) (s : List ℕ) (k : ValueKind) → ViewV b k → (v : Val) (n : ℕ) → step_value (read_v l) (read_t l) k b s ≡ got v n → NodeV l (b ∷ s) k v n
unfolding step_value
value_node l b s k (is_null p) v n e = flag_node l b 3 (λ x. v_leaf (l_null x)) s v n e (n_null p)
value_node l b s k (is_boolean p) v n e = flag_node l b 1 (λ x. v_leaf (l_boolean (eqb x 1))) s v n e (n_boolean p)
value_node l b s k (is_number p) v n e = key_node l b 8 (λ x. v_leaf (l_number x)) s v n e (n_number p)
value_node l b s k (is_string p) v n e = key_node l b name_width (λ x. v_leaf (l_string x)) s v n e (n_string p)
value_node l b s k (is_temporal p q) v n e = key_node l b 8 (λ x. v_leaf (l_temporal (decode_temporal (b - 0x04)) x)) s v n e (n_temporal p q)
value_node l b s k (is_range p) v n e = range_node l b s p v n e
value_node l b s k (is_list p) v n e = list_node l b s p v n e
value_node l b s k (is_context p) v n e = entries_node l b s p v n e
value_node l b s k (is_definition p) v n e = definition_node l b s p v n e
value_node l b s k (is_built_in p) v n e = flag_node l b 85 v_built_in s v n e (n_built_in p)
value_node l b s k (is_feel_type p) v n e = front_parts v_type 1 (read_t l s) v n e (λ u m px pz pn. as_node_v pz pn (n_type p u m px))
value_node l b s k (is_irrelevant p) v n e = got_parts v_irrelevant v 1 n e (λ x y. as_node_v x y (n_irrelevant p))
value_node l b s k (is_decimal p) v n e = decimal_node l b s p v n e

step_node_v : (l b : ℕ) (s : List ℕ) (k : Kind) → View b k → (v : Val) (n : ℕ) → step_v (read_v l) (read_t l) k b s ≡ got v n → (j : ValueKind) × (k ≡ of_value j) × NodeV l (b ∷ s) j v n
unfolding step_v
step_node_v l b s k (is_value j w) v n e = (j, refl, value_node l b s j w v n e)
step_node_v l b s k (is_type j w) v n e = absurd (bad_got e)
step_node_v l b s k (is_gap p q) v n e = absurd (bad_got e)
step_node_v l b s k (is_beyond p) v n e = absurd (bad_got e)

pub value_read : (l : ℕ) (s : List ℕ) (v : Val) (n : ℕ) → read_v l s ≡ got v n → ValueRead l s v n
unfolding read_v
value_read zero [] v n e = absurd (bad_got e)
value_read zero (b ∷ s) v n e = absurd (bad_got e)
value_read (suc l) [] v n e = absurd (bad_got e)
value_read (suc l) (b ∷ s) v n e =
    let z : suc l - 1 ≡ l = omega arith in
    let N = step_node_v l b s (kind_of b) (view b) v n e in
    record { some_level = omega arith; some_byte = omega arith; kind = N.0; told = N.1; node = subst (λ (k : ℕ). NodeV k (b ∷ s) N.0 v n) (sym z) N.2 }

same_kind : {j k : ValueKind} → of_value j ≡ of_value k → j ≡ k
same_kind e = cc

-- where the kind of the command is known, there is one case
pub node_of : (k : ValueKind) (l : ℕ) (s : List ℕ) (v : Val) (n : ℕ) → kind_of (get_or s 0 0) ≡ of_value k → read_v l s ≡ got v n → NodeV (l - 1) s k v n
node_of k l s v n c e = let R = value_read l s v n e in subst (λ j. NodeV (l - 1) s j v n) (same_kind (sym R.told ∙ c)) R.node
