-- The reader forward: what stands at the front is made of what stands behind it, whether that is read or not.
-- Idea: a node is a function of its parts, also of parts that are missing.
-- Index: `read_simple`, `node_list`, `node_range`, `node_context`, `node_function` (by the command); `param_on`, `result_read` (parameters and result); `then_seen`.
-- Assumes nothing.
use Prim.Native.Nat.{ℕ, suc, ◌+◌, ◌-◌, ◌<◌, ◌≤◌}
use mathlib.Core.Path.{◌≡◌, refl, ap, ◌∙◌}
use mathlib.Core.Option.{some}
use mathlib.Core.List.{List, [], ◌∷◌}
use native.Mathlib.Omega.{arith}
use lib.ListN.{length, get_or, drop, length-drop}
use lib.Seq.{get_or-drop, drop-drop}
use borrow.Author.Tests.{le-leb}
use Rattle.form.specs.Trees.{Ty, leaf, built, list, range, context, function, Tys, no_params, param, decode}
use Rattle.form.specs.Form.{num_at}
use Rattle.form.specs.Layout.{kind_of}
use Rattle.form.specs.Read.{Got, got, bad, front, and_then, or_else, operand, read_run, counted, read_function, step_type, step_t, read_t, read_tys, read_fields}
use Rattle.form.proofs.CommandKinds.{kind_simple}
use Rattle.form.proofs.Runs.{step}
use Rattle.form.proofs.TypeLaws.{t_step}
use Rattle.order.specs.Size.{size}
use Rattle.types.specs.At.{seen, type_at, fields_at, sig, cons, fun_of, sig_at}
use Rattle.types.proofs.Reading.{seen_got, got_seen, type_told}
use Rattle.types.proofs.Pairs.{map_o, seen_front}

-- ---- nodes
pub then_seen : {X Y Z W : Type 0} (f : X → Y → Z) (g : X → Y → W) (h : Z → W) → ((x : X) (y : Y) → g x y ≡ h (f x y)) → (k i : ℕ) (s : List ℕ) (more : List ℕ → Got Y) (r : Got X)
    → seen (and_then g k s more r) ≡ map_o h (seen (and_then f i s more r))
unfolding and_then seen map_o front
then_seen {Y = Y} f g h e k i s more (got x n) = go (more (drop n s))
  where
    go : (y : Got Y) → seen (front (g x) (k + n) y) ≡ map_o h (seen (front (f x) (i + n) y))
    go (got y m) = ap some (e x y)
    go (bad b) = refl
then_seen f g h e k i s more (bad b) = refl

fun_seen : (child : List ℕ → Got Ty) (r : List ℕ) → 1 ≤ length r → seen (read_function child r) ≡ map_o fun_of (seen (and_then sig 0 (drop 1 r) child (read_tys child (get_or r 0 0) (drop 1 r))))
unfolding read_function
fun_seen child [] o = absurd (omega arith)
fun_seen child (b ∷ r) o = then_seen sig (λ ts t. built (function ts t)) fun_of (λ x y. refl) 2 0 r child (read_tys child b r)

module _ (l : ℕ) (s : List ℕ) (p : 0 < l) (h : 0 < length s) where
  pub read_simple : 32 ≤ get_or s 0 0 → get_or s 0 0 ≤ 41 → type_at l s ≡ some (leaf (decode (get_or s 0 0 - 32)))
  unfolding type_at step_t step_type
  read_simple i j = got_seen (read_t l s) (leaf (decode (get_or s 0 0 - 32))) 1 (rw (t_step l s h p, kind_simple (get_or s 0 0) i (omega arith)))

  pub node_list : get_or s 0 0 ≡ 42 → type_at l s ≡ map_o (λ t. built (list t)) (type_at (l - 1) (drop 1 s))
  unfolding type_at kind_of step_t step_type
  node_list c = rw (t_step l s h p, c) (seen_front (λ t. built (list t)) 1 (read_t (l - 1) (drop 1 s)))

  pub node_range : get_or s 0 0 ≡ 43 → type_at l s ≡ map_o (λ t. built (range t)) (type_at (l - 1) (drop 1 s))
  unfolding type_at kind_of step_t step_type
  node_range c = rw (t_step l s h p, c) (seen_front (λ t. built (range t)) 1 (read_t (l - 1) (drop 1 s)))

  pub node_context : get_or s 0 0 ≡ 44 → 3 ≤ length s → type_at l s ≡ map_o (λ fs. built (context fs)) (fields_at (l - 1) (num_at 2 1 s) 0 (drop 3 s))
  unfolding type_at fields_at kind_of step_t step_type counted operand or_else
  node_context c k = rw (t_step l s h p, c, le-leb 2 (length (drop 1 s)) (simp length-drop (omega arith)), drop-drop 2 1 s)
      (seen_front (λ fs. built (context fs)) 3 (read_fields (read_t (l - 1)) (num_at 2 1 s) 0 (drop 3 s)))

  pub node_function : get_or s 0 0 ≡ 45 → 2 ≤ length s → type_at l s ≡ map_o fun_of (sig_at (l - 1) (get_or s 1 0) (drop 2 s))
  unfolding type_at sig_at kind_of step_t step_type
  node_function c k = rw (t_step l s h p, c) (rw (get_or-drop 1 s 0 0, drop-drop 1 1 s) at (fun_seen (read_t (l - 1)) (drop 1 s) (simp length-drop (omega arith))))

-- ---- parameters
param_last : (t : Ty) (ts : Tys) (k i : ℕ) (z : Got Ty) → seen (front (sig (param t ts)) k z) ≡ map_o (cons t) (seen (front (sig ts) i z))
unfolding front seen map_o
param_last t ts k i (got u j) = refl
param_last t ts k i (bad f) = refl

param_next : (child : List ℕ → Got Ty) (s : List ℕ) (t : Ty) (m : ℕ) (y : Got Tys) → seen (and_then sig 0 s child (front (param t) (0 + m) y)) ≡ map_o (cons t) (seen (and_then sig 0
    (drop m s) child y))
unfolding and_then front seen map_o
param_next child s t m (got ts i) =
    let o : m + i ≡ 0 + m + i = omega arith in
    let d : drop i (drop m s) ≡ drop (0 + m + i) s = drop-drop i m s ∙ ap (λ (z : ℕ). drop z s) o in
    rw d (param_last t ts (0 + (0 + m + i)) (0 + i) (child (drop (0 + m + i) s)))
param_next child s t m (bad f) = refl

param_opened : (child : List ℕ → Got Ty) (s : List ℕ) (t : Ty) (m : ℕ) (more : List ℕ → Got Tys)
    → seen (and_then sig 0 s child (and_then param 0 s more (got t m))) ≡ map_o (cons t) (seen (and_then sig 0 (drop m s) child (more (drop m s))))
unfolding and_then
param_opened child s t m more = param_next child s t m (more (drop m s))

param_read : (l n : ℕ) (s : List ℕ) (t : Ty) → type_at l s ≡ some t → sig_at l (suc n) s ≡ map_o (cons t) (sig_at l n (drop (size t) s))
unfolding type_at sig_at read_run
param_read l n s t e =
    seen_got (read_t l s) t e (λ m r.
    let F = type_told l s t m r in
    ap (λ y. seen (and_then sig 0 s (read_t l) (and_then param 0 s (read_tys (read_t l) n) y))) r
    ∙ first m
    ∙ ap (λ (z : ℕ). map_o (cons t) (seen (and_then sig 0 (drop z s) (read_t l) (read_tys (read_t l) n (drop z s))))) F.sized)
  where
    first : (m : ℕ) → seen (and_then sig 0 s (read_t l) (and_then param 0 s (read_tys (read_t l) n) (got t m))) ≡ map_o (cons t) (seen (and_then sig 0 (drop m s) (read_t l) (read_tys
        (read_t l) n (drop m s))))
    first m = param_opened (read_t l) s t m (read_tys (read_t l) n)

pub param_on : (l i count at : ℕ) (a : List ℕ) (t : Ty) → i < count → type_at l (drop at a) ≡ some t → sig_at l (count - i) (drop at a) ≡ map_o (cons t) (sig_at l (count - (i + 1))
    (drop (at + size t) a))
param_on l i count at a t h e =
    ap (λ k. sig_at l k (drop at a)) (step i count h)
    ∙ param_read l (count - (i + 1)) (drop at a) t e
    ∙ ap (λ r. map_o (cons t) (sig_at l (count - (i + 1)) r)) (drop-drop (size t) at a)

pub result_read : (l : ℕ) (s : List ℕ) → sig_at l 0 s ≡ map_o (sig no_params) (type_at l s)
unfolding type_at sig_at read_run and_then
result_read l s = seen_front (sig no_params) (0 + 0) (read_t l s)
