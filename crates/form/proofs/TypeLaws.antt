-- The reader of types in the terms of the code: what its walk says by the length, the level that is left and the command.
-- Idea: one step of `read_t`, and the laws of Runs at the kind of the command.
-- Index: `t_none`, `t_level`, `t_step`, `step_short` (the start); `t_simple_lem`, `t_one_run`, `t_context_lem`, `t_function_lem`, `t_short`, `t_other` (by the command); `one_is` (one type
-- as a run of one);
-- `fields_law`, `tys_law`, `simple_level` (levels).
-- Assumes nothing.
use Prim.Native.Nat.{ℕ, zero, suc, ◌-◌, ◌<◌, ◌≤◌, max}
use mathlib.Core.Path.{◌≡◌, refl, sym, ap, ◌∙◌}
use mathlib.Core.Bool.{true}
use mathlib.Core.List.{List, [], ◌∷◌}
use native.Mathlib.Omega.{arith}
use lib.ListN.{length, get_or, drop, length-drop}
use lib.Seq.{get_or-drop, drop-drop}
use Rattle.form.specs.Trees.{Ty, leaf, built, list, range, context, function, Fields, no_fields, field, Tys, no_params, param, simple}
use Rattle.form.specs.Form.{num_at, level, level_fields, level_tys}
use Rattle.form.specs.Layout.{TypeKind, t_simple, t_list, t_range, t_context, t_function, Kind, of_value, of_type, no_command, kind_of, operands, operands_t, slot, width_of}
use Rattle.form.specs.Read.{Got, got, bad, front, and_then, read_run, read_fields, read_tys, read_function, step_type, step_t, read_t}
use Rattle.form.specs.Walks.{walk_of, walk_by, up}
use Rattle.form.specs.Faults.{Shape, Level}
use Rattle.form.specs.Walks as walk
use Rattle.form.proofs.CommandKinds.{ViewT, is_simple_t, is_list_t, is_range_t, is_context_t, is_function_t, View, is_value, is_type, is_gap, is_beyond, view, there, value_below}
use Rattle.form.proofs.Runs.{end_is, front_up, then_up, counted_is, counted_short, run_snoc}

pub fields_law : (m : ℕ) (t : Ty) (fs : Fields) → level_fields (field m t fs) ≡ max (level t) (level_fields fs)
unfolding level_fields
fields_law m t fs = refl

pub fields_flat : level_fields no_fields ≡ 0
unfolding level_fields
fields_flat = refl

pub tys_law : (t : Ty) (ts : Tys) → level_tys (param t ts) ≡ max (level t) (level_tys ts)
unfolding level_tys
tys_law t ts = refl

pub tys_flat : level_tys no_params ≡ 0
unfolding level_tys
tys_flat = refl

-- a simple type has level 1
pub simple_level : (t : Ty) → simple t ≡ true → level t ≡ 1
unfolding level
simple_level (leaf s) e = refl
simple_level (built x) e = cc

-- ---- where a type must start
pub t_none : (l : ℕ) (s : List ℕ) → length s ≡ 0 → walk_of level (read_t l s) ≡ walk.Stop Shape
unfolding read_t walk_of
t_none zero [] h = refl
t_none (suc l) [] h = refl
t_none zero (b ∷ s) h = absurd (omega arith)
t_none (suc l) (b ∷ s) h = absurd (omega arith)

pub t_level : (l : ℕ) (s : List ℕ) → 0 < length s → l ≡ 0 → walk_of level (read_t l s) ≡ walk.Stop Level
unfolding read_t walk_of
t_level l [] h e = absurd (omega arith)
t_level zero (b ∷ s) h e = refl
t_level (suc l) (b ∷ s) h e = absurd (omega arith)

pub t_step : (l : ℕ) (s : List ℕ) → 0 < length s → 0 < l → read_t l s ≡ step_t (read_t (l - 1)) (kind_of (get_or s 0 0)) (get_or s 0 0) (drop 1 s)
unfolding read_t
t_step zero s h k = absurd (omega arith)
t_step (suc l) [] h k = absurd (omega arith)
t_step (suc l) (b ∷ s) h k = let e : suc l - 1 ≡ l = omega arith in rw e

-- ---- the command
type_short : (child : List ℕ → Got Ty) (k : TypeKind) (b : ℕ) (s : List ℕ) → length s < operands_t k → step_type child k b s ≡ bad Shape
unfolding step_type operands_t read_function
type_short child t_simple b s h = absurd (omega arith)
type_short child t_list b s h = absurd (omega arith)
type_short child t_range b s h = absurd (omega arith)
type_short child t_context b s h = counted_short (λ fs. built (context fs)) (λ c r. read_fields child c 0 r) s h
type_short child t_function b [] h = refl
type_short child t_function b (x ∷ s) h = absurd (omega arith)

pub step_short : (child : List ℕ → Got Ty) (k : Kind) (b : ℕ) (s : List ℕ) → length s < slot (operands k) → step_t child k b s ≡ bad Shape
unfolding step_t operands
step_short child (of_value k) b s h = refl
step_short child (of_type k) b s h = type_short child k b s h
step_short child no_command b s h = refl

type_other : (b : ℕ) (k : TypeKind) → ViewT b k → (0x20 ≤ b → b < 0x2A → ⊥) → (0x2A ≤ b → b < 0x2C → ⊥) → (b ≡ 0x2C → ⊥) → (b ≡ 0x2D → ⊥) → ⊥
type_other b k (is_simple_t p q) h₁ h₂ h₃ h₄ = h₁ p q
type_other b k (is_list_t e) h₁ h₂ h₃ h₄ = h₂ (omega arith) (omega arith)
type_other b k (is_range_t e) h₁ h₂ h₃ h₄ = h₂ (omega arith) (omega arith)
type_other b k (is_context_t e) h₁ h₂ h₃ h₄ = h₃ e
type_other b k (is_function_t e) h₁ h₂ h₃ h₄ = h₄ e

step_other : (child : List ℕ → Got Ty) (b : ℕ) (s : List ℕ) (k : Kind) → View b k → (0x20 ≤ b → b < 0x2A → ⊥) → (0x2A ≤ b → b < 0x2C → ⊥) → (b ≡ 0x2C → ⊥) → (b ≡ 0x2D → ⊥)
    → step_t child k b s ≡ bad Shape
unfolding step_t
step_other child b s k (is_value j v) h₁ h₂ h₃ h₄ = refl
step_other child b s k (is_type j v) h₁ h₂ h₃ h₄ = absurd (type_other b j v h₁ h₂ h₃ h₄)
step_other child b s k (is_gap p q) h₁ h₂ h₃ h₄ = refl
step_other child b s k (is_beyond p) h₁ h₂ h₃ h₄ = refl

type_one : (child : List ℕ → Got Ty) (b : ℕ) (s : List ℕ) (k : TypeKind) → ViewT b k → 0x2A ≤ b → b < 0x2C → walk_of level (step_type child k b s) ≡ up 1 (walk_of level (child s))
unfolding step_type level
type_one child b s k (is_simple_t x y) p q = absurd (omega arith)
type_one child b s k (is_list_t e) p q = front_up level level (λ t. built (list t)) 1 (λ x. refl) (child s)
type_one child b s k (is_range_t e) p q = front_up level level (λ t. built (range t)) 1 (λ x. refl) (child s)
type_one child b s k (is_context_t e) p q = absurd (omega arith)
type_one child b s k (is_function_t e) p q = absurd (omega arith)

step_one : (child : List ℕ → Got Ty) (b : ℕ) (s : List ℕ) (k : Kind) → View b k → 0x2A ≤ b → b < 0x2C → walk_of level (step_t child k b s) ≡ up 1 (walk_of level (child s))
unfolding step_t
step_one child b s k (is_value j v) p q = absurd (omega (arith, value_below b j v))
step_one child b s k (is_type j v) p q = type_one child b s j v p q
step_one child b s k (is_gap x y) p q = absurd (omega arith)
step_one child b s k (is_beyond x) p q = absurd (omega arith)

-- parameters and a result are a run of one more
function_is : (child : List ℕ → Got Ty) (s : List ℕ) → 1 ≤ length s → walk_of level (read_function child s) ≡ up 2 (walk_by level_tys 0 0 (read_tys child (suc (get_or s 0 0)) (drop 1 s)))
unfolding read_function level
function_is child [] h = absurd (omega arith)
function_is child (c ∷ s) h =
    then_up level_tys level level (λ ts t. built (function ts t)) 2 s child (λ x y. refl) (read_tys child c s)
    ∙ ap (up 2) (sym (run_snoc level level_tys no_params param tys_law child tys_flat c s))

-- one type is a run of one
pub one_is : (child : List ℕ → Got Ty) (s : List ℕ) → walk_by level_tys 0 0 (read_tys child 1 s) ≡ walk_of level (child s)
unfolding read_run level_tys walk_by walk_of and_then front
one_is child s = go (child s)
  where
    go : (x : Got Ty) → walk_by level_tys 0 0 (and_then param 0 s (read_tys child 0) x) ≡ walk_of level x
    go (got t n) = end_is (omega arith) (omega arith)
    go (bad f) = refl

module _ (l : ℕ) (s : List ℕ) (h : 0 < length s) (p : 0 < l) where
  t_kind : (k : TypeKind) → kind_of (get_or s 0 0) ≡ of_type k → walk_of level (read_t l s) ≡ walk_of level (step_type (read_t (l - 1)) k (get_or s 0 0) (drop 1 s))
  unfolding step_t
  t_kind k e = rw (t_step l s h p, e)

  pub t_short : length s - 1 < width_of (get_or s 0 0) → walk_of level (read_t l s) ≡ walk.Stop Shape
  unfolding walk_of width_of
  t_short n = rw (t_step l s h p, step_short (read_t (l - 1)) (kind_of (get_or s 0 0)) (get_or s 0 0) (drop 1 s) (simp length-drop n))

  pub t_other : (0x20 ≤ get_or s 0 0 → get_or s 0 0 < 0x2A → ⊥) → (0x2A ≤ get_or s 0 0 → get_or s 0 0 < 0x2C → ⊥) → (get_or s 0 0 ≡ 0x2C → ⊥) → (get_or s 0 0 ≡ 0x2D → ⊥)
      → walk_of level (read_t l s) ≡ walk.Stop Shape
  unfolding walk_of
  t_other h₁ h₂ h₃ h₄ = rw (t_step l s h p, step_other (read_t (l - 1)) (get_or s 0 0) (drop 1 s) (kind_of (get_or s 0 0)) (view (get_or s 0 0)) h₁ h₂ h₃ h₄)

  pub t_simple_lem : kind_of (get_or s 0 0) ≡ of_type t_simple → walk_of level (read_t l s) ≡ walk.End 1 1
  unfolding walk_of step_type level
  t_simple_lem e = t_kind t_simple e

  t_one : 0x2A ≤ get_or s 0 0 → get_or s 0 0 < 0x2C → walk_of level (read_t l s) ≡ up 1 (walk_of level (read_t (l - 1) (drop 1 s)))
  t_one q r = rw (t_step l s h p) (step_one (read_t (l - 1)) (get_or s 0 0) (drop 1 s) (kind_of (get_or s 0 0)) (view (get_or s 0 0)) q r)

  pub t_one_run : 0x2A ≤ get_or s 0 0 → get_or s 0 0 < 0x2C → walk_of level (read_t l s) ≡ up 1 (walk_by level_tys 0 0 (read_tys (read_t (l - 1)) 1 (drop 1 s)))
  t_one_run q r = t_one q r ∙ ap (up 1) (sym (one_is (read_t (l - 1)) (drop 1 s)))

  module _ (o : width_of (get_or s 0 0) ≤ length s - 1) where
    off : (k : TypeKind) → kind_of (get_or s 0 0) ≡ of_type k → operands_t k ≤ length s - 1
    unfolding operands
    off k e = there (get_or s 0 0) (length s - 1) (of_type k) e o

    pub t_context_lem : (m : ℕ) → m ≡ num_at 2 1 s → kind_of (get_or s 0 0) ≡ of_type t_context → walk_of level (read_t l s) ≡ up 3 (walk_by level_fields 0 0 (read_fields (read_t
        (l - 1)) m 0 (drop 3 s)))
    unfolding step_type operands_t level
    t_context_lem m me e = t_kind t_context e ∙ counted_is level_fields level (λ fs. built (context fs)) (λ x. refl) (λ c r. read_fields (read_t (l - 1)) c 0 r) s m me (off t_context e)

    pub t_function_lem : (m : ℕ) → m ≡ suc (get_or s 1 0) → kind_of (get_or s 0 0) ≡ of_type t_function
        → walk_of level (read_t l s) ≡ up 2 (walk_by level_tys 0 0 (read_tys (read_t (l - 1)) m (drop 2 s)))
    unfolding step_type operands_t
    t_function_lem m me e = t_kind t_function e ∙ rw (me, ← get_or-drop 1 s 0 0, ← drop-drop 1 1 s) (function_is (read_t (l - 1)) (drop 1 s) (simp length-drop (off t_function e)))
