-- The reader of values in the terms of the code: what its walk says by the length, the level that is left and the command.
-- Idea: one step of `read_v`, and the laws of Runs at the kind of the command.
-- Index: `v_none`, `v_level`, `v_step`, `step_short`, `v_short`, `v_other` (the start); `v_leaf_is`, `leaf_is`, `v_built_in_is`, `v_irrelevant_is` (leaves);
-- `v_range_is`, `v_list_is`, `v_context_is`, `v_definition`, `v_type_is` (parents); `vals_law`, `entries_law`, `params_law`, `value_level`, `leaf_level` (levels).
-- Assumes nothing.
use Prim.Native.Nat.{ℕ, zero, suc, ◌+◌, ◌-◌, ◌<◌, ◌≤◌, max}
use mathlib.Core.Path.{◌≡◌, refl, sym, ap, ◌∙◌}
use mathlib.Core.Bool.{Bool, true, false, false≢true}
use mathlib.Core.List.{List, [], ◌∷◌}
use native.Mathlib.Omega.{arith}
use lib.ListN.{length, get_or, take, drop, length-drop}
use lib.Seq.{get_or-drop, drop-drop}
use lib.Dec.{leb, eqb}
use borrow.Author.Tests.{leb-true, le-leb, lt-leb, ne_eqb}
use Rattle.form.specs.Trees.{Ty, Params, no_parameters, parameter, l_null, l_boolean, l_number, l_decimal, l_string, l_temporal, Val, v_leaf, v_range, v_list, v_context, v_function, v_built_in}
use Rattle.form.specs.Trees.{v_type, v_irrelevant, Vals, no_items, item, Entries, no_entries, entry, is_short_leaf, decode_temporal}
use Rattle.form.specs.Form.{num, num_at, level, level_params, level_tys, level_v, level_vals, level_entries}
use Rattle.form.specs.Layout.{ValueKind, k_null, k_boolean, k_number, k_string, k_temporal, k_range, k_list, k_context, k_definition, k_built_in, k_type, k_irrelevant, k_decimal, Kind}
use Rattle.form.specs.Layout.{of_value, of_type}
use Rattle.form.specs.Layout.{no_command, kind_of, operands, operands_v, slot, width_of, is_leaf_command}
use Rattle.form.specs.Limits.{name_width, most_exponent}
use Rattle.form.specs.Outcome.{pick}
use Rattle.form.specs.Read.{Got, got, bad, front, and_then, or_else, operand, read_run, read_vals, read_entries, read_params, read_tys, read_flag, read_key, read_range, signature, read_definition}
use Rattle.form.specs.Read.{read_t, read_decimal, step_value, step_v, read_v}
use Rattle.form.specs.Walks.{walk_of, walk_by, pair_walk, up, operand_end, flag_walk}
use Rattle.form.specs.Faults.{Shape, Level}
use Rattle.form.specs.Walks as walk
use Rattle.form.proofs.CommandKinds.{ViewV, is_null, is_boolean, is_number, is_string, is_temporal, is_range, is_list, is_context, is_definition, is_built_in, is_feel_type, is_irrelevant, is_decimal}
use Rattle.form.proofs.CommandKinds.{View, is_value, is_type}
use Rattle.form.proofs.CommandKinds.{is_gap, is_beyond, view, type_within, there, width_is, leaf_high}
use Rattle.form.proofs.TypeLaws.{one_is}
use Rattle.form.proofs.Runs.{end_is, end_stop, front_up, then_up, operand_short, operand_at, counted_is, counted_short}

pub params_law : (m : ℕ) (t : Ty) (ps : Params) → level_params (parameter m t ps) ≡ max (level t) (level_params ps)
unfolding level_params
params_law m t ps = refl

pub params_flat : level_params no_parameters ≡ 0
unfolding level_params
params_flat = refl

pub vals_law : (v : Val) (vs : Vals) → level_vals (item v vs) ≡ max (level_v v) (level_vals vs)
unfolding level_vals
vals_law v vs = refl

pub vals_flat : level_vals no_items ≡ 0
unfolding level_vals
vals_flat = refl

pub value_level : (v : Val) → 1 ≤ level_v v
unfolding level_v
value_level (v_leaf l) = omega arith
value_level (v_range i j v w) = omega arith
value_level (v_list vs) = omega arith
value_level (v_context es) = omega arith
value_level (v_function ps b r) = omega arith
value_level (v_built_in n) = omega arith
value_level (v_type t) = omega arith
value_level v_irrelevant = omega arith

pub entries_law : (m : ℕ) (v : Val) (es : Entries) → level_entries (entry m v es) ≡ max (level_v v) (level_entries es)
unfolding level_entries
entries_law m v es = refl

pub entries_flat : level_entries no_entries ≡ 0
unfolding level_entries
entries_flat = refl

-- a leaf of data but a decimal has level 1
pub leaf_level : (v : Val) → is_short_leaf v ≡ true → level_v v ≡ 1
unfolding level_v
leaf_level (v_leaf l) e = refl
leaf_level (v_range i j v w) e = cc
leaf_level (v_list vs) e = cc
leaf_level (v_context es) e = cc
leaf_level (v_function ps b r) e = cc
leaf_level (v_built_in n) e = refl
leaf_level (v_type t) e = cc
leaf_level v_irrelevant e = refl

-- ---- where a value must start
pub v_none : (l : ℕ) (s : List ℕ) → length s ≡ 0 → walk_of level_v (read_v l s) ≡ walk.Stop Shape
unfolding read_v walk_of
v_none zero [] h = refl
v_none (suc l) [] h = refl
v_none zero (b ∷ s) h = absurd (omega arith)
v_none (suc l) (b ∷ s) h = absurd (omega arith)

pub v_level : (l : ℕ) (s : List ℕ) → 0 < length s → l ≡ 0 → walk_of level_v (read_v l s) ≡ walk.Stop Level
unfolding read_v walk_of
v_level l [] h e = absurd (omega arith)
v_level zero (b ∷ s) h e = refl
v_level (suc l) (b ∷ s) h e = absurd (omega arith)

pub v_step : (l : ℕ) (s : List ℕ) → 0 < length s → 0 < l → read_v l s ≡ step_v (read_v (l - 1)) (read_t (l - 1)) (kind_of (get_or s 0 0)) (get_or s 0 0) (drop 1 s)
unfolding read_v
v_step zero s h k = absurd (omega arith)
v_step (suc l) [] h k = absurd (omega arith)
v_step (suc l) (b ∷ s) h k = let e : suc l - 1 ≡ l = omega arith in rw e

-- ---- leaves, their operands being there
flag_is : (m : ℕ) (mk : ℕ → Val) → ((x : ℕ) → level_v (mk x) ≡ 1) → (s : List ℕ) → 1 ≤ length s → walk_of level_v (read_flag m mk s) ≡ flag_walk (get_or s 0 0) m 2
unfolding walk_of read_flag or_else
flag_is m mk one [] h = absurd (omega arith)
flag_is m mk one (x ∷ s) h = go (leb x m)
  where
    go : (t : Bool) → walk_of level_v (or_else Shape t (got (mk x) 2)) ≡ pick t (walk.End 2 1) (walk.Stop Shape)
    go true = end_is refl (one x)
    go false = refl

flag_short : (m : ℕ) (mk : ℕ → Val) (s : List ℕ) → length s < 1 → read_flag m mk s ≡ bad Shape
unfolding read_flag
flag_short m mk [] h = refl
flag_short m mk (x ∷ s) h = absurd (omega arith)

key_is : (k : ℕ) (mk : ℕ → Val) → ((x : ℕ) → level_v (mk x) ≡ 1) → (s : List ℕ) → k ≤ length s - 1 → (w : ℕ) → w ≡ k → walk_of level_v (read_key k mk (drop 1 s)) ≡ walk.End (w + 1) 1
unfolding walk_of read_key
key_is k mk one s h w e = rw (operand_at k (λ x r. got (mk x) (1 + k)) s 1 (num_at k 1 s) refl h) (end_is (omega arith) (one (num_at k 1 s)))

key_short : (k : ℕ) (mk : ℕ → Val) (s : List ℕ) → length s < k → read_key k mk s ≡ bad Shape
unfolding read_key
key_short k mk s h = operand_short k (λ x r. got (mk x) (1 + k)) s h

-- k bytes in front of a leaf with one operand byte
flag_behind : (k m x : ℕ) (g : Got Val) → walk_of level_v g ≡ flag_walk x m 2 → walk_of level_v (front (λ v. v) k g) ≡ flag_walk x m (k + 2)
unfolding walk_of front
flag_behind k m x (got v n) e = go (leb x m) e
  where
    go : (t : Bool) → walk.End n (level_v v) ≡ pick t (walk.End 2 1) (walk.Stop Shape) → walk.End (k + n) (level_v v) ≡ pick t (walk.End (k + 2) 1) (walk.Stop Shape)
    go true h = let a : n ≡ 2 = cc in let b : level_v v ≡ 1 = cc in end_is (ap (λ (z : ℕ). k + z) a) b
    go false h = absurd (end_stop h)
flag_behind k m x (bad f) e = go (leb x m) e
  where
    go : (t : Bool) → walk.Stop f ≡ pick t (walk.End 2 1) (walk.Stop Shape) → walk.Stop f ≡ pick t (walk.End (k + 2) 1) (walk.Stop Shape)
    go true h = absurd (end_stop (sym h))
    go false h = h

decimal_is : (s : List ℕ) → 9 ≤ length s - 1 → walk_of level_v (read_decimal (drop 1 s)) ≡ flag_walk (get_or s 9 0) most_exponent 10
unfolding read_decimal level_v
decimal_is s h =
    rw (operand_at 8 (λ k r. front (λ v. v) 8 (read_flag most_exponent (λ p. v_leaf (l_decimal k p)) r)) s 1 (num_at 8 1 s) refl (omega arith), ← get_or-drop 9 s 0 0)
    (flag_behind 8 most_exponent (get_or (drop 9 s) 0 0) _ (flag_is most_exponent (λ p. v_leaf (l_decimal (num_at 8 1 s) p)) (λ p. refl) (drop 9 s) (simp length-drop (omega arith))))

decimal_short : (s : List ℕ) → length s < 9 → read_decimal s ≡ bad Shape
unfolding read_decimal operand or_else front
decimal_short s h = go (leb 8 (length s)) refl
  where
    go : (t : Bool) → leb 8 (length s) ≡ t → read_decimal s ≡ bad Shape
    go true e = rw (e, flag_short most_exponent (λ p. v_leaf (l_decimal (num (take 8 s)) p)) (drop 8 s) (simp length-drop (let k = leb-true 8 (length s) e in omega arith)))
    go false e = rw e

-- ---- parents
range_law : (a b : ℕ) (v w : Val) → level_v (v_range a b v w) ≡ suc (max (level_v v) (level_v w))
unfolding level_v
range_law a b v w = refl

range_is : (child : List ℕ → Got Val) (s : List ℕ) → 2 ≤ length s → get_or s 0 0 ≤ 3 → get_or s 1 0 ≤ 3
    → walk_of level_v (read_range child s) ≡ up 3 (pair_walk level_v level_v (drop 2 s) child (child (drop 2 s)))
unfolding read_range or_else
range_is child [] h p q = absurd (omega arith)
range_is child (a ∷ []) h p q = absurd (omega arith)
range_is child (a ∷ b ∷ s) h p q = rw (le-leb a 3 p, le-leb b 3 q) (then_up level_v level_v level_v (v_range a b) 3 s child (range_law a b) (child s))

range_first : (child : List ℕ → Got Val) (s : List ℕ) → 2 ≤ length s → 3 < get_or s 0 0 → walk_of level_v (read_range child s) ≡ walk.Stop Shape
unfolding read_range or_else walk_of
range_first child [] h p = absurd (omega arith)
range_first child (a ∷ []) h p = absurd (omega arith)
range_first child (a ∷ b ∷ s) h p = rw (lt-leb a 3 p)

range_second : (child : List ℕ → Got Val) (s : List ℕ) → 2 ≤ length s → get_or s 0 0 ≤ 3 → 3 < get_or s 1 0 → walk_of level_v (read_range child s) ≡ walk.Stop Shape
unfolding read_range or_else walk_of
range_second child [] h p q = absurd (omega arith)
range_second child (a ∷ []) h p q = absurd (omega arith)
range_second child (a ∷ b ∷ s) h p q = rw (le-leb a 3 p, lt-leb b 3 q)

definition_law : (b : ℕ) (t : Ty) (ps : Params) → level_v (v_function ps b t) ≡ suc (max (level t) (level_params ps))
unfolding level_v
definition_law b t ps = refl

definition_at_lem : (type : List ℕ → Got Ty) (s : List ℕ) (c : ℕ) → 3 ≤ length s - 1 → walk_of level_v (operand 2 (signature type c) (drop 2 s)) ≡ up 4
    (pair_walk level level_params (drop 4 s) (read_params type c 0) (type (drop 4 s)))
unfolding signature
definition_at_lem type s c h = rw (operand_at 2 (signature type c) s 2 (num_at 2 2 s) refl (omega arith))
    (then_up level level_params level_v (λ t ps. v_function ps (num_at 2 2 s) t) 4 (drop 4 s) (read_params type c 0) (definition_law (num_at 2 2 s)) (type (drop 4 s)))

definition_is : (type : List ℕ → Got Ty) (s : List ℕ) → 3 ≤ length s - 1 → walk_of level_v (read_definition type (drop 1 s)) ≡ up 4
    (pair_walk level level_params (drop 4 s) (read_params type (get_or s 1 0) 0) (type (drop 4 s)))
unfolding read_definition
definition_is type [] h = absurd (omega arith)
definition_is type (a ∷ []) h = absurd (omega arith)
definition_is type (a ∷ c ∷ s) h = definition_at_lem type (a ∷ c ∷ s) c h

-- two children in a row are a run of two
two_are : (child : List ℕ → Got Val) (s : List ℕ) → walk_by level_vals 0 0 (read_vals child 2 s) ≡ pair_walk level_v level_v s child (child s)
unfolding read_run level_vals pair_walk walk_by and_then front
two_are child s = go (child s)
  where
    go₂ : (v : Val) (n : ℕ) (y : Got Val) → walk_by level_vals 0 0 (front (item v) (0 + n) (and_then item 0 (drop n s) (read_vals child 0) y)) ≡ walk_by level_v n (level_v v) y
    go₂ v n (got w m) = end_is (omega arith) (omega arith)
    go₂ v n (bad f) = refl

    go : (x : Got Val) → walk_by level_vals 0 0 (and_then item 0 s (read_vals child 1) x) ≡ pair_walk level_v level_v s child x
    go (got v n) = go₂ v n (child (drop n s))
    go (bad f) = refl

-- ---- the command
value_short : (child : List ℕ → Got Val) (type : List ℕ → Got Ty) (k : ValueKind) (b : ℕ) (s : List ℕ) → length s < operands_v k → step_value child type k b s ≡ bad Shape
unfolding step_value operands_v read_range read_definition
value_short child type k_null b s h = flag_short 3 (λ x. v_leaf (l_null x)) s h
value_short child type k_boolean b s h = flag_short 1 (λ x. v_leaf (l_boolean (eqb x 1))) s h
value_short child type k_number b s h = key_short 8 (λ x. v_leaf (l_number x)) s h
value_short child type k_string b s h = key_short name_width (λ x. v_leaf (l_string x)) s h
value_short child type k_temporal b s h = key_short 8 (λ x. v_leaf (l_temporal (decode_temporal (b - 0x04)) x)) s h
value_short child type k_range b [] h = refl
value_short child type k_range b (x ∷ []) h = refl
value_short child type k_range b (x ∷ y ∷ s) h = absurd (omega arith)
value_short child type k_list b s h = counted_short v_list (λ c r. read_vals child c r) s h
value_short child type k_context b s h = counted_short v_context (λ c r. read_entries child c 0 r) s h
value_short child type k_definition b [] h = refl
value_short child type k_definition b (c ∷ s) h = operand_short 2 (signature type c) s (omega arith)
value_short child type k_built_in b s h = flag_short 85 v_built_in s h
value_short child type k_type b s h = absurd (omega arith)
value_short child type k_irrelevant b s h = absurd (omega arith)
value_short child type k_decimal b s h = decimal_short s h

pub step_short : (child : List ℕ → Got Val) (type : List ℕ → Got Ty) (k : Kind) (b : ℕ) (s : List ℕ) → length s < slot (operands k) → step_v child type k b s ≡ bad Shape
unfolding step_v operands
step_short child type (of_value k) b s h = value_short child type k b s h
step_short child type (of_type k) b s h = refl
step_short child type no_command b s h = refl

value_other : (b : ℕ) (k : ValueKind) → ViewV b k → 9 ≤ b → (b ≡ 9 → ⊥) → (b ≡ 10 → ⊥) → (b ≡ 11 → ⊥) → (b ≡ 12 → ⊥) → (b ≡ 13 → ⊥) → (b ≡ 14 → ⊥) → (b ≡ 15 → ⊥)
    → (b ≡ 16 → ⊥) → ⊥
value_other b k (is_null e) h h9 h10 h11 h12 h13 h14 h15 h16 = omega arith
value_other b k (is_boolean e) h h9 h10 h11 h12 h13 h14 h15 h16 = omega arith
value_other b k (is_number e) h h9 h10 h11 h12 h13 h14 h15 h16 = omega arith
value_other b k (is_string e) h h9 h10 h11 h12 h13 h14 h15 h16 = omega arith
value_other b k (is_temporal p q) h h9 h10 h11 h12 h13 h14 h15 h16 = omega arith
value_other b k (is_range e) h h9 h10 h11 h12 h13 h14 h15 h16 = h9 e
value_other b k (is_list e) h h9 h10 h11 h12 h13 h14 h15 h16 = h10 e
value_other b k (is_context e) h h9 h10 h11 h12 h13 h14 h15 h16 = h11 e
value_other b k (is_definition e) h h9 h10 h11 h12 h13 h14 h15 h16 = h12 e
value_other b k (is_built_in e) h h9 h10 h11 h12 h13 h14 h15 h16 = h13 e
value_other b k (is_feel_type e) h h9 h10 h11 h12 h13 h14 h15 h16 = h14 e
value_other b k (is_irrelevant e) h h9 h10 h11 h12 h13 h14 h15 h16 = h15 e
value_other b k (is_decimal e) h h9 h10 h11 h12 h13 h14 h15 h16 = h16 e

step_other : (child : List ℕ → Got Val) (type : List ℕ → Got Ty) (b : ℕ) (s : List ℕ) (k : Kind) → View b k → 9 ≤ b → (b ≡ 9 → ⊥) → (b ≡ 10 → ⊥) → (b ≡ 11 → ⊥) → (b ≡ 12 → ⊥) → (b ≡ 13 → ⊥)
    → (b ≡ 14 → ⊥) → (b ≡ 15 → ⊥) → (b ≡ 16 → ⊥) → step_v child type k b s ≡ bad Shape
unfolding step_v
step_other child type b s k (is_value j v) h h9 h10 h11 h12 h13 h14 h15 h16 = absurd (value_other b j v h h9 h10 h11 h12 h13 h14 h15 h16)
step_other child type b s k (is_type j v) h h9 h10 h11 h12 h13 h14 h15 h16 = refl
step_other child type b s k (is_gap p q) h h9 h10 h11 h12 h13 h14 h15 h16 = refl
step_other child type b s k (is_beyond p) h h9 h10 h11 h12 h13 h14 h15 h16 = refl

-- no leaf of data
no_leaf : {b c : ℕ} → b ≡ c → is_leaf_command b ≡ true → is_leaf_command c ≡ true
no_leaf e i = sym (ap is_leaf_command e) ∙ i

beyond_leaf : (b : ℕ) → 17 ≤ b → is_leaf_command b ≡ true → ⊥
beyond_leaf b h i = false≢true (sym (leaf_high b (omega arith) (λ e. omega arith)) ∙ i)

module _ (l : ℕ) (s : List ℕ) (h : 0 < length s) (p : 0 < l) where
  v_kind : (k : ValueKind) → kind_of (get_or s 0 0) ≡ of_value k → walk_of level_v (read_v l s) ≡ walk_of level_v (step_value (read_v (l - 1)) (read_t (l - 1)) k (get_or s 0 0) (drop 1 s))
  unfolding step_v
  v_kind k e = rw (v_step l s h p, e)

  pub v_short : length s - 1 < width_of (get_or s 0 0) → walk_of level_v (read_v l s) ≡ walk.Stop Shape
  unfolding walk_of width_of
  v_short n = rw (v_step l s h p, step_short (read_v (l - 1)) (read_t (l - 1)) (kind_of (get_or s 0 0)) (get_or s 0 0) (drop 1 s) (simp length-drop n))

  pub v_other : 9 ≤ get_or s 0 0 → (get_or s 0 0 ≡ 9 → ⊥) → (get_or s 0 0 ≡ 10 → ⊥) → (get_or s 0 0 ≡ 11 → ⊥) → (get_or s 0 0 ≡ 12 → ⊥) → (get_or s 0 0 ≡ 13 → ⊥) → (get_or s 0 0 ≡ 14
      → ⊥) → (get_or s 0 0 ≡ 15 → ⊥)
      → (get_or s 0 0 ≡ 16 → ⊥) → walk_of level_v (read_v l s) ≡ walk.Stop Shape
  unfolding walk_of
  v_other o h9 h10 h11 h12 h13 h14 h15 h16 =
      rw (v_step l s h p, step_other (read_v (l - 1)) (read_t (l - 1)) (get_or s 0 0) (drop 1 s) (kind_of (get_or s 0 0)) (view (get_or s 0 0)) o h9 h10 h11 h12 h13 h14 h15 h16)

  pub v_irrelevant_is : kind_of (get_or s 0 0) ≡ of_value k_irrelevant → walk_of level_v (read_v l s) ≡ walk.End 1 1
  unfolding walk_of step_value level_v
  v_irrelevant_is e = v_kind k_irrelevant e

  pub v_type_is : kind_of (get_or s 0 0) ≡ of_value k_type → walk_of level_v (read_v l s) ≡ up 1 (walk_by level_tys 0 0 (read_tys (read_t (l - 1)) 1 (drop 1 s)))
  unfolding step_value level_v
  v_type_is e = v_kind k_type e ∙ front_up level level_v v_type 1 (λ x. refl) (read_t (l - 1) (drop 1 s)) ∙ ap (up 1) (sym (one_is (read_t (l - 1)) (drop 1 s)))

  module _ (o : width_of (get_or s 0 0) ≤ length s - 1) where
    off : (k : ValueKind) → kind_of (get_or s 0 0) ≡ of_value k → operands_v k ≤ length s - 1
    unfolding operands
    off k e = there (get_or s 0 0) (length s - 1) (of_value k) e o

    off_drop : (k : ValueKind) → kind_of (get_or s 0 0) ≡ of_value k → operands_v k ≤ length (drop 1 s)
    off_drop k e = simp length-drop (off k e)

    wide_as : (k : ValueKind) → kind_of (get_or s 0 0) ≡ of_value k → width_of (get_or s 0 0) ≡ operands_v k
    unfolding operands
    wide_as k e = width_is (get_or s 0 0) (of_value k) e

    pub v_built_in_is : kind_of (get_or s 0 0) ≡ of_value k_built_in → walk_of level_v (read_v l s) ≡ flag_walk (get_or s 1 0) 85 2
    unfolding step_value operands_v level_v
    v_built_in_is e = v_kind k_built_in e ∙ rw (← get_or-drop 1 s 0 0) (flag_is 85 v_built_in (λ x. refl) (drop 1 s) (off_drop k_built_in e))

    -- a leaf of data: its last operand byte is within its bound. That of a number, a text or a temporal is any byte
    flag_here : (m n : ℕ) → walk_of level_v (read_v l s) ≡ flag_walk (get_or s n 0) m (n + 1) → width_of (get_or s 0 0) ≡ n → operand_end (get_or s 0 0) ≡ m
        → walk_of level_v (read_v l s) ≡ flag_walk (get_or s (width_of (get_or s 0 0)) 0) (operand_end (get_or s 0 0)) (width_of (get_or s 0 0) + 1)
    flag_here m n e w o = rw (w, o) e

    module _ (y : get_or s (width_of (get_or s 0 0)) 0 ≤ 255) where
      any_byte : operand_end (get_or s 0 0) ≡ 255 → walk_of level_v (read_v l s) ≡ walk.End (width_of (get_or s 0 0) + 1) 1
          → walk_of level_v (read_v l s) ≡ flag_walk (get_or s (width_of (get_or s 0 0)) 0) (operand_end (get_or s 0 0)) (width_of (get_or s 0 0) + 1)
      any_byte o e = rw (o, le-leb (get_or s (width_of (get_or s 0 0)) 0) 255 y) e

      leaf_kind : (k : ValueKind) → ViewV (get_or s 0 0) k → kind_of (get_or s 0 0) ≡ of_value k → is_leaf_command (get_or s 0 0) ≡ true
          → walk_of level_v (read_v l s) ≡ flag_walk (get_or s (width_of (get_or s 0 0)) 0) (operand_end (get_or s 0 0)) (width_of (get_or s 0 0) + 1)
      unfolding step_value operands_v level_v operand_end
      leaf_kind k (is_null e) f i =
          flag_here 3 1 (v_kind k_null f ∙ rw (← get_or-drop 1 s 0 0) (flag_is 3 (λ x. v_leaf (l_null x)) (λ x. refl) (drop 1 s) (off_drop k_null f))) (wide_as k_null f) (ap operand_end e)
      leaf_kind k (is_boolean e) f i =
          flag_here 1 1 (v_kind k_boolean f ∙ rw (← get_or-drop 1 s 0 0) (flag_is 1 (λ x. v_leaf (l_boolean (eqb x 1))) (λ x. refl) (drop 1 s) (off_drop k_boolean f))) (wide_as k_boolean f)
          (ap operand_end e)
      leaf_kind k (is_number e) f i = any_byte (ap operand_end e) (v_kind k_number f ∙ key_is 8 (λ x. v_leaf (l_number x)) (λ x. refl) s (off k_number f) _ (wide_as k_number f))
      leaf_kind k (is_string e) f i = any_byte (ap operand_end e) (v_kind k_string f ∙ key_is name_width (λ x. v_leaf (l_string x)) (λ x. refl) s (off k_string f) _ (wide_as k_string f))
      leaf_kind k (is_temporal a b) f i =
          any_byte (rw (ne_eqb (get_or s 0 0) 0 (λ e. omega arith), ne_eqb (get_or s 0 0) 1 (λ e. omega arith), ne_eqb (get_or s 0 0) 16 (λ e. omega arith)))
          (v_kind k_temporal f ∙ key_is 8 (λ x. v_leaf (l_temporal (decode_temporal (get_or s 0 0 - 0x04)) x)) (λ x. refl) s (off k_temporal f) _ (wide_as k_temporal f))
      leaf_kind k (is_range e) f i = absurd (false≢true (no_leaf e i))
      leaf_kind k (is_list e) f i = absurd (false≢true (no_leaf e i))
      leaf_kind k (is_context e) f i = absurd (false≢true (no_leaf e i))
      leaf_kind k (is_definition e) f i = absurd (false≢true (no_leaf e i))
      leaf_kind k (is_built_in e) f i = absurd (false≢true (no_leaf e i))
      leaf_kind k (is_feel_type e) f i = absurd (false≢true (no_leaf e i))
      leaf_kind k (is_irrelevant e) f i = absurd (false≢true (no_leaf e i))
      leaf_kind k (is_decimal e) f i = flag_here most_exponent 9 (v_kind k_decimal f ∙ decimal_is s (off k_decimal f)) (wide_as k_decimal f) (ap operand_end e)

      leaf_view : (j : Kind) → View (get_or s 0 0) j → kind_of (get_or s 0 0) ≡ j → is_leaf_command (get_or s 0 0) ≡ true
          → walk_of level_v (read_v l s) ≡ flag_walk (get_or s (width_of (get_or s 0 0)) 0) (operand_end (get_or s 0 0)) (width_of (get_or s 0 0) + 1)
      leaf_view j (is_value k v) f i = leaf_kind k v f i
      leaf_view j (is_type k v) f i = let t = type_within (get_or s 0 0) k v in absurd (beyond_leaf (get_or s 0 0) (omega arith) i)
      leaf_view j (is_gap a b) f i = absurd (beyond_leaf (get_or s 0 0) a i)
      leaf_view j (is_beyond a) f i = absurd (beyond_leaf (get_or s 0 0) (omega arith) i)

      pub v_leaf_is : is_leaf_command (get_or s 0 0) ≡ true → walk_of level_v (read_v l s) ≡ flag_walk (get_or s (width_of (get_or s 0 0)) 0) (operand_end (get_or s 0 0)) (width_of (get_or s 0 0) + 1)
      v_leaf_is i = leaf_view (kind_of (get_or s 0 0)) (view (get_or s 0 0)) refl i

    pub v_range_is : kind_of (get_or s 0 0) ≡ of_value k_range → get_or s 1 0 ≤ 3 → get_or s 2 0 ≤ 3 → walk_of level_v (read_v l s) ≡ up 3 (walk_by level_vals 0 0 (read_vals (read_v
        (l - 1)) 2 (drop 3 s)))
    unfolding step_value operands_v
    v_range_is e x y =
        v_kind k_range e ∙
        rw (two_are (read_v (l - 1)) (drop 3 s), ← drop-drop 2 1 s)
        (range_is (read_v (l - 1)) (drop 1 s) (off_drop k_range e) (rw get_or-drop x) (rw get_or-drop y))

    pub v_range_first : kind_of (get_or s 0 0) ≡ of_value k_range → 3 < get_or s 1 0 → walk_of level_v (read_v l s) ≡ walk.Stop Shape
    unfolding step_value operands_v
    v_range_first e x = v_kind k_range e ∙ range_first (read_v (l - 1)) (drop 1 s) (off_drop k_range e) (rw get_or-drop x)

    pub v_range_second : kind_of (get_or s 0 0) ≡ of_value k_range → get_or s 1 0 ≤ 3 → 3 < get_or s 2 0 → walk_of level_v (read_v l s) ≡ walk.Stop Shape
    unfolding step_value operands_v
    v_range_second e x y = v_kind k_range e ∙ range_second (read_v (l - 1)) (drop 1 s) (off_drop k_range e) (rw get_or-drop x) (rw get_or-drop y)

    pub v_list_is : (m : ℕ) → m ≡ num_at 2 1 s → kind_of (get_or s 0 0) ≡ of_value k_list → walk_of level_v (read_v l s) ≡ up 3 (walk_by level_vals 0 0 (read_vals (read_v (l - 1)) m (drop 3 s)))
    unfolding step_value operands_v level_v
    v_list_is m me e = v_kind k_list e ∙ counted_is level_vals level_v v_list (λ x. refl) (λ c r. read_vals (read_v (l - 1)) c r) s m me (off k_list e)

    pub v_context_is : (m : ℕ) → m ≡ num_at 2 1 s → kind_of (get_or s 0 0) ≡ of_value k_context → walk_of level_v (read_v l s) ≡ up 3 (walk_by level_entries 0 0 (read_entries (read_v
        (l - 1)) m 0 (drop 3 s)))
    unfolding step_value operands_v level_v
    v_context_is m me e = v_kind k_context e ∙ counted_is level_entries level_v v_context (λ x. refl) (λ c r. read_entries (read_v (l - 1)) c 0 r) s m me (off k_context e)

    pub v_definition : (c : ℕ) → c ≡ get_or s 1 0 → kind_of (get_or s 0 0) ≡ of_value k_definition
        → walk_of level_v (read_v l s) ≡ up 4 (pair_walk level level_params (drop 4 s) (read_params (read_t (l - 1)) c 0) (read_t (l - 1) (drop 4 s)))
    unfolding step_value operands_v
    v_definition c ce e = v_kind k_definition e ∙ rw ce (definition_is (read_t (l - 1)) s (off k_definition e))

-- ---- the short way past a leaf of data
end_small : (b : ℕ) → operand_end b ≤ 255
unfolding operand_end
end_small b = go (eqb b 0) (eqb b 1) (eqb b 16)
  where
    go : (x y z : Bool) → pick x 3 (pick y 1 (pick z most_exponent 255)) ≤ 255
    go true y z = omega arith
    go false true z = omega arith
    go false false true = omega arith
    go false false false = omega arith

pub leaf_is : (l : ℕ) (s : List ℕ) → 0 < length s → 0 < l → width_of (get_or s 0 0) ≤ length s - 1 → get_or s (width_of (get_or s 0 0)) 0 ≤ operand_end (get_or s 0 0)
    → is_leaf_command (get_or s 0 0) ≡ true
    → walk_of level_v (read_v l s) ≡ walk.End (width_of (get_or s 0 0) + 1) 1
leaf_is l s h p o q i =
    let y : get_or s (width_of (get_or s 0 0)) 0 ≤ 255 = omega (arith, end_small (get_or s 0 0)) in
    v_leaf_is l s h p o y i ∙ rw (le-leb (get_or s (width_of (get_or s 0 0)) 0) (operand_end (get_or s 0 0)) q)
