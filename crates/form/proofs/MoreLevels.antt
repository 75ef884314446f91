-- The limit on levels only ever adds refusals for the level: where no level is refused, any two limits read the same.
-- Idea: each combinator keeps this, so the reader does, by induction on the level.
-- Index: `stays` (with more levels left), `enough` (as many levels as bytes).
-- Assumes nothing.
use Prim.Native.Nat.{ℕ, zero, suc, ◌+◌, ◌≤◌}
use mathlib.Core.Path.{◌≡◌, refl, ap}
use mathlib.Core.Bool.{Bool, true, false}
use mathlib.Core.List.{List, [], ◌∷◌}
use native.Mathlib.Omega.{arith}
use lib.ListN.{length, take, drop}
use lib.Dec.{leb}
use Rattle.form.specs.Trees.{Ty, built, list, range, context, function, field, no_fields, no_params, param}
use Rattle.form.specs.Layout.{TypeKind, t_simple, t_list, t_range, t_context, t_function, Kind, of_value, of_type, no_command, kind_of}
use Rattle.form.specs.Limits.{name_width}
use Rattle.form.specs.Form.{num}
use Rattle.form.specs.Read.{Got, got, bad, front, and_then, or_else, operand, named, read_run, read_named, read_fields, read_tys, ascending, counted, read_function, step_type, step_t, read_t}
use Rattle.form.specs.Faults.{Fault, Shape, Names}
use Rattle.form.proofs.AnySize.{Fair, read_fair}

front_fair_of : {X Z : Type 0} (g : X → Z) (k : ℕ) (r : Got X) → Fair (front g k r) → Fair r
unfolding front
front_fair_of g k (got x n) h = tt
front_fair_of g k (bad f) h = h

then_stays : {X Y Z : Type 0} (g : X → Y → Z) (k : ℕ) (s : List ℕ) (more more' : List ℕ → Got Y) (r r' : Got X) → Fair (and_then g k s more r) → (Fair r → r' ≡ r)
    → ((n : ℕ) → Fair (more (drop n s)) → more' (drop n s) ≡ more (drop n s)) → and_then g k s more' r' ≡ and_then g k s more r
unfolding and_then
then_stays g k s more more' (got x n) r' h p q = rw (p tt) (ap (front (g x) (k + n)) (q n (front_fair_of (g x) (k + n) (more (drop n s)) h)))
then_stays g k s more more' (bad f) r' h p q = rw (p h)

or_stays : {X : Type 0} (f : Fault) (b : Bool) (r r' : Got X) → Fair (or_else f b r) → (Fair r → r' ≡ r) → or_else f b r' ≡ or_else f b r
unfolding or_else
or_stays f true r r' h p = p h
or_stays f false r r' h p = refl

operand_stays : {X : Type 0} (k : ℕ) (more more' : ℕ → List ℕ → Got X) (s : List ℕ) → Fair (operand k more s)
    → (Fair (more (num (take k s)) (drop k s)) → more' (num (take k s)) (drop k s) ≡ more (num (take k s)) (drop k s)) → operand k more' s ≡ operand k more s
unfolding operand
operand_stays k more more' s h p = or_stays Shape (leb k (length s)) (more (num (take k s)) (drop k s)) (more' (num (take k s)) (drop k s)) h p

module _ {X R : Type 0} (nil : R) (child child' : List ℕ → Got X) (ok : (s : List ℕ) → Fair (child s) → child' s ≡ child s) where
  run_stays : (cons : X → R → R) (c : ℕ) (s : List ℕ) → Fair (read_run nil cons child c s) → read_run nil cons child' c s ≡ read_run nil cons child c s
  unfolding read_run
  run_stays cons zero s h = refl
  run_stays cons (suc c) s h = then_stays cons 0 s (read_run nil cons child c) (read_run nil cons child' c) (child s) (child' s) h (ok s) (λ (n : ℕ). run_stays cons c (drop n s))

  named_stays : (cons : ℕ → X → R → R) (next : ℕ → ℕ) (c least : ℕ) (s : List ℕ) → Fair (read_named nil cons next child c least s)
      → read_named nil cons next child' c least s ≡ read_named nil cons next child c least s
  unfolding read_named named
  named_stays cons next zero least s h = refl
  named_stays cons next (suc c) least s h =
      operand_stays name_width (named cons (λ j. read_named nil cons next child c (next j)) child least) (named cons (λ j. read_named nil cons next child' c (next j)) child' least) s h
      (λ q. or_stays Names (leb least (num (take name_width s)))
      (and_then (cons (num (take name_width s))) name_width (drop name_width s) (read_named nil cons next child c (next (num (take name_width s)))) (child (drop name_width s)))
      (and_then (cons (num (take name_width s))) name_width (drop name_width s) (read_named nil cons next child' c (next (num (take name_width s)))) (child' (drop name_width s))) q
      (λ p. then_stays (cons (num (take name_width s))) name_width (drop name_width s) (read_named nil cons next child c (next (num (take name_width s))))
      (read_named nil cons next child' c (next (num (take name_width s)))) (child (drop name_width s)) (child' (drop name_width s)) p (ok (drop name_width s))
      (λ (n : ℕ). named_stays cons next c (next (num (take name_width s))) (drop n (drop name_width s)))))

module _ (child child' : List ℕ → Got Ty) (ok : (s : List ℕ) → Fair (child s) → child' s ≡ child s) where
  type_stays : (k : TypeKind) (b : ℕ) (s : List ℕ) → Fair (step_type child k b s) → step_type child' k b s ≡ step_type child k b s
  unfolding step_type counted read_function
  type_stays t_simple b s h = refl
  type_stays t_list b s h = ap (front (λ t. built (list t)) 1) (ok s (front_fair_of (λ t. built (list t)) 1 (child s) h))
  type_stays t_range b s h = ap (front (λ t. built (range t)) 1) (ok s (front_fair_of (λ t. built (range t)) 1 (child s) h))
  type_stays t_context b s h =
      operand_stays 2 (λ c r. front (λ fs. built (context fs)) 3 (read_fields child c 0 r)) (λ c r. front (λ fs. built (context fs)) 3 (read_fields child' c 0 r)) s h
      (λ q. ap (front (λ fs. built (context fs)) 3) (named_stays no_fields child child' ok field ascending (num (take 2 s)) 0 (drop 2 s)
      (front_fair_of (λ fs. built (context fs)) 3 (read_fields child (num (take 2 s)) 0 (drop 2 s)) q)))
  type_stays t_function b [] h = refl
  type_stays t_function b (c ∷ s) h = then_stays (λ ts t. built (function ts t)) 2 s child child' (read_tys child c s) (read_tys child' c s) h (run_stays no_params child child' ok param c s)
      (λ (n : ℕ). ok (drop n s))

  step_stays : (k : Kind) (b : ℕ) (s : List ℕ) → Fair (step_t child k b s) → step_t child' k b s ≡ step_t child k b s
  unfolding step_t
  step_stays (of_type k) b s h = type_stays k b s h
  step_stays (of_value k) b s h = refl
  step_stays no_command b s h = refl

-- with more levels left, what was no refusal for the level stays
pub stays : (l k : ℕ) (s : List ℕ) → l ≤ k → Fair (read_t l s) → read_t k s ≡ read_t l s
unfolding read_t
stays zero zero s p h = refl
stays zero (suc k) [] p h = refl
stays zero (suc k) (b ∷ s) p h = absurd h
stays (suc l) zero s p h = absurd (omega arith)
stays (suc l) (suc k) [] p h = refl
stays (suc l) (suc k) (b ∷ s) p h = step_stays (read_t l) (read_t k) (λ (r : List ℕ) q. stays l k r (omega arith) q) (kind_of b) b s h

-- as many levels as bytes are as good as any larger number
pub enough : (k : ℕ) (s : List ℕ) → length s ≤ k → read_t k s ≡ read_t (length s) s
enough k s h = stays (length s) k s h (read_fair (length s) s (omega arith))
