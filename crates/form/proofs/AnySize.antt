-- A type of any size: the reader without limits refuses for no level and no length, and an accepted type is one within the limits.
-- Idea: as many levels as bytes are enough, since every level takes a byte (`read_fair`).
-- Index: `Fair`, `read_fair` (no fault of the level); `any_numbers` (the refusals that are left); `any_some`; `accepted_any` (the reader with and without limits).
-- Assumes nothing.
use Prim.Native.Nat.{ℕ, zero, suc, ◌+◌, ◌<◌, ◌≤◌}
use mathlib.Core.Path.{◌≡◌, sym}
use mathlib.Core.Logic.{◌↔◌, ◌⊎◌, inl, inr}
use mathlib.Core.Bool.{Bool, true, false}
use mathlib.Core.List.{List, [], ◌∷◌}
use native.Mathlib.Omega.{arith}
use lib.ListN.{length, take, drop, length-drop}
use lib.Dec.{leb, eqb}
use Rattle.form.specs.Trees.{Ty, built, list, range, context, function, no_fields, field, no_params, param}
use Rattle.form.specs.Layout.{TypeKind, t_simple, t_list, t_range, t_context, t_function, Kind, of_value, of_type, no_command, kind_of}
use Rattle.form.specs.Limits.{name_width, most_bytes, type_levels, type_refusals}
use Rattle.form.specs.Outcome.{done, refused, pick}
use Rattle.form.specs.Form.{Bytes, num, level}
use Rattle.form.specs.Read.{Got, got, bad, front, and_then, or_else, operand, named, read_run, read_named, read_fields, read_tys, ascending, counted, read_function, step_type, step_t}
use Rattle.form.specs.Read.{read_t, number_of}
use Rattle.form.specs.Read.{all, read_type, read_any_type}
use Rattle.form.specs.Faults.{Fault, Shape, Names, Level}
use Rattle.form.proofs.Accepted.{refused_done}
use Rattle.form.proofs.Refused.{refused_same}
use Rattle.form.proofs.Types.{type_accepted, type_accepts, any_exact, any_same}

-- a fault that is not of the level
abbrev pub Mild : Fault → Type 0
Mild Shape = Unit {0}
Mild Names = Unit {0}
Mild Level = ⊥

abbrev pub Fair : {X : Type 0} → Got X → Type 0
Fair (got x n) = Unit {0}
Fair (bad f) = Mild f

front_fair : {X Z : Type 0} (g : X → Z) (k : ℕ) (r : Got X) → Fair r → Fair (front g k r)
unfolding front
front_fair g k (got x n) h = tt
front_fair g k (bad f) h = h

then_fair : {X Y Z : Type 0} (g : X → Y → Z) (k : ℕ) (s : List ℕ) (more : List ℕ → Got Y) (r : Got X) → Fair r → ((n : ℕ) → Fair (more (drop n s))) → Fair (and_then g k s more r)
unfolding and_then
then_fair g k s more (got x n) h q = front_fair (g x) (k + n) (more (drop n s)) (q n)
then_fair g k s more (bad f) h q = h

or_fair : {X : Type 0} (f : Fault) (b : Bool) (r : Got X) → Mild f → Fair r → Fair (or_else f b r)
unfolding or_else
or_fair f true r h q = q
or_fair f false r h q = h

operand_fair : {X : Type 0} (k : ℕ) (more : ℕ → List ℕ → Got X) (s : List ℕ) → Fair (more (num (take k s)) (drop k s)) → Fair (operand k more s)
unfolding operand
operand_fair k more s q = or_fair Shape (leb k (length s)) (more (num (take k s)) (drop k s)) tt q

-- a reader of children that is fair on at most l bytes
abbrev FairUp : {X : Type 0} → (List ℕ → Got X) → ℕ → Type 0
FairUp child l = (s : List ℕ) → length s ≤ l → Fair (child s)

shorter : (n l : ℕ) (s : List ℕ) → length s ≤ l → length (drop n s) ≤ l
shorter n l s h = rw (length-drop n s) (omega arith)

module _ {X R : Type 0} (nil : R) (child : List ℕ → Got X) (l : ℕ) (ok : FairUp child l) where
  run_fair : (cons : X → R → R) (c : ℕ) (s : List ℕ) → length s ≤ l → Fair (read_run nil cons child c s)
  unfolding read_run
  run_fair cons zero s h = tt
  run_fair cons (suc c) s h = then_fair cons 0 s (read_run nil cons child c) (child s) (ok s h) (λ (n : ℕ). run_fair cons c (drop n s) (shorter n l s h))

  named_fair : (cons : ℕ → X → R → R) (next : ℕ → ℕ) (c least : ℕ) (s : List ℕ) → length s ≤ l → Fair (read_named nil cons next child c least s)
  unfolding read_named named
  named_fair cons next zero least s h = tt
  named_fair cons next (suc c) least s h =
      let q = shorter name_width l s h in
      operand_fair name_width (named cons (λ j. read_named nil cons next child c (next j)) child least) s
      (or_fair Names (leb least (num (take name_width s))) (and_then (cons (num (take name_width s))) name_width (drop name_width s) (read_named nil cons next child c (next (num (take name_width s))))
      (child (drop name_width s))) tt
      (then_fair (cons (num (take name_width s))) name_width (drop name_width s) (read_named nil cons next child c (next (num (take name_width s)))) (child (drop name_width s)) (ok
      (drop name_width s) q)
      (λ (n : ℕ). named_fair cons next c (next (num (take name_width s))) (drop n (drop name_width s)) (shorter n l (drop name_width s) q))))

module _ (child : List ℕ → Got Ty) (l : ℕ) (ok : FairUp child l) where
  type_fair : (k : TypeKind) (b : ℕ) (s : List ℕ) → length s ≤ l → Fair (step_type child k b s)
  unfolding step_type counted read_function
  type_fair t_simple b s h = tt
  type_fair t_list b s h = front_fair (λ t. built (list t)) 1 (child s) (ok s h)
  type_fair t_range b s h = front_fair (λ t. built (range t)) 1 (child s) (ok s h)
  type_fair t_context b s h = operand_fair 2 (λ c r. front (λ fs. built (context fs)) 3 (read_fields child c 0 r)) s
      (front_fair (λ fs. built (context fs)) 3 (read_fields child (num (take 2 s)) 0 (drop 2 s)) (named_fair no_fields child l ok field ascending (num (take 2 s)) 0 (drop 2 s) (shorter 2 l s h)))
  type_fair t_function b [] h = tt
  type_fair t_function b (c ∷ s) h = then_fair (λ ts t. built (function ts t)) 2 s child (read_tys child c s) (run_fair no_params child l ok param c s (omega arith))
      (λ (n : ℕ). ok (drop n s) (shorter n l s (omega arith)))

  step_fair : (k : Kind) (b : ℕ) (s : List ℕ) → length s ≤ l → Fair (step_t child k b s)
  unfolding step_t
  step_fair (of_type k) b s h = type_fair k b s h
  step_fair (of_value k) b s h = tt
  step_fair no_command b s h = tt

-- as many levels as bytes are enough: no fault of the level
pub read_fair : (l : ℕ) (s : List ℕ) → length s ≤ l → Fair (read_t l s)
unfolding read_t
read_fair zero [] h = tt
read_fair zero (b ∷ s) h = absurd (omega arith)
read_fair (suc l) [] h = tt
read_fair (suc l) (b ∷ s) h = step_fair (read_t l) l (read_fair l) (kind_of b) b s (omega arith)

all_fair : {X : Type 0} (n m : ℕ) (r : Got X) → Fair r → all type_refusals n r ≡ refused m → (m ≡ 7) ⊎ ((m ≡ 8) ⊎ (m ≡ 10))
unfolding all number_of
all_fair n m (got x k) h e = go (eqb k n) e
  where
    go : (b : Bool) → pick b (done x) (refused 10) ≡ refused m → (m ≡ 7) ⊎ ((m ≡ 8) ⊎ (m ≡ 10))
    go true q = absurd (refused_done (sym q))
    go false q = inr (inr (sym (refused_same q)))
all_fair n m (bad Shape) h e = inl (sym (refused_same e))
all_fair n m (bad Names) h e = inr (inl (sym (refused_same e)))
all_fair n m (bad Level) h e = absurd h

-- a type of any size is refused for 7, 8 or 10 only
pub any_numbers : (s : List ℕ) (n : ℕ) → read_any_type s ≡ refused n → (n ≡ 7) ⊎ ((n ≡ 8) ⊎ (n ≡ 10))
unfolding read_any_type
any_numbers s n e = all_fair (length s) n (read_t (length s) s) (read_fair (length s) s (omega arith)) e

-- no bytes are no type
pub any_some : (s : List ℕ) (t : Ty) → read_any_type s ≡ done t → 0 < length s
unfolding read_any_type read_t all
any_some [] t e = absurd (refused_done e)
any_some (b ∷ s) t e = omega arith

-- an accepted type is exactly a type of any size within the limits
pub accepted_any : (s : List ℕ) → Bytes s → (t : Ty) → (read_type s ≡ done t) ↔ ((read_any_type s ≡ done t) × ((level t ≤ type_levels) × (length s ≤ most_bytes)))
accepted_any s bs t = (
  λ e. let A = type_accepted s bs t e in (any_same s bs t e, (A.low, A.short)),
  λ h. let a = (any_exact s bs t).0 h.0 in type_accepts s t (record { bytes = a.0; well = a.1; low = h.1.0; short = h.1.1 }),
)
