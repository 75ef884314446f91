-- DMN's conformance of types is document 01's together with that of the results where two functions without parameters meet. Idea: one walk over
-- both relations, in both directions at once; everything else follows from its equation.
-- Index: `dmn_is` (the equation); `dmn_here` (one direction); `agree_exactly`, `agrees_either` (where both agree); `reduced_is_dmn` (reduced forms).
-- Assumes nothing.
use Prim.Native.Nat.{ℕ}
use mathlib.Core.Path.{◌≡◌, refl, sym, ◌∙◌, ap, ap₂}
use mathlib.Core.Bool.{Bool, true, false, cond, ◌&&◌, ◌||◌, false≢true}
use mathlib.Core.Option.{Option, none, some}
use mathlib.Core.Logic.{◌↔◌, ◌⊎◌, inl, inr}
use lib.Dec.{eqb}
use Rattle.form.specs.Trees.{any, Ty, leaf, built, Built, list, range, context, function, Fields, no_fields, field, Tys, no_params, param}
use Rattle.order.specs.Order.{Dir, up, down, flip, pick, fixed, strict_order}
use Rattle.order.specs.Types.{lookup, found, all_fields, empty, ignores, cmp, cmp_built, has, within, cmps, reduce, reduce_built, reduce_fields, reduce_tys}
use Rattle.order.specs.Document.{conforms_to, reduced_form}
use Rattle.order.specs.Dmn.{dmn_conforms_to, if_found, results, results_built, results_has, results_within, results_tys, results_conform, Some, Parameters, ParametersBuilt}
use Rattle.order.specs.Dmn.{ParametersFields, ParametersTys}
use Rattle.order.proofs.Simple.{fixed_laws, and_left, and_both}
use Rattle.order.proofs.Bools.{and_true, and_mix}
use Rattle.order.proofs.Conform.{cmp_flip}
use Rattle.order.proofs.Bound.{all_and}
use Rattle.order.proofs.Laws.{le_reduce_left, le_reduce_right}

-- ---- one equation
same_test : (x : Bool) → x ≡ x && true
same_test x = sym (and_true x)

-- what is found conforms by DMN when it conforms here and the results within do
found_if : (o : Option Ty) (f g h : Ty → Bool) → ((b : Ty) → f b ≡ g b && h b) → found o f ≡ found o g && if_found o h
found_if none f g h e = refl
found_if (some b) f g h e = e b

context_splits : (d : Dir) (fs gs : Fields) → ((n : ℕ) (t : Ty) → has strict_order fs n t ≡ has fixed fs n t && results_has fs n t)
    → within strict_order fs gs ≡ within fixed fs gs && results_within fs gs
    → pick d (all_fields (λ n t. has strict_order fs n t) gs) (within strict_order fs gs)
    ≡ pick d (all_fields (λ n t. has fixed fs n t) gs) (within fixed fs gs) && pick d (all_fields (λ n t. results_has fs n t) gs) (results_within fs gs)
context_splits up fs gs h k = all_and (λ n t. has strict_order fs n t) (λ n t. has fixed fs n t) (λ n t. results_has fs n t) gs h
context_splits down fs gs h k = k

entry_splits : (q x y z u v w : Bool) → x ≡ y && z → u ≡ v && w → cond q x u ≡ cond q y v && cond q z w
entry_splits true x y z u v w h k = h
entry_splits false x y z u v w h k = k

-- two function types: whether their parameters conform (p by DMN, a here, b inside), and the same of their results
function_splits : (d : Dir) (ps qs : Tys) (b x y z : Bool) → cmps strict_order d ps qs ≡ cmps fixed d ps qs && b → x ≡ y && z
    → cmps strict_order d ps qs && x ≡ (cmps fixed d ps qs && (empty ps || y)) && (b && cond (empty ps && empty qs) x z)
unfolding cmp
function_splits d no_params no_params b x y z h k = ap (λ e. e && x) h
function_splits d no_params (param u qs) b x y z h k = refl
function_splits d (param t ps) no_params b x y z h k = refl
function_splits d (param t ps) (param u qs) b x y z h k = ap₂ ◌&&◌ h k ∙ and_mix (cmps fixed d (param t ps) (param u qs)) b y z

mutual
  unfolding cmp results

  cmp_splits : (d : Dir) (a b : Ty) → cmp strict_order d a b ≡ cmp fixed d a b && results d a b
  cmp_splits up (leaf s) (leaf t) = same_test (cmp fixed up (leaf s) (leaf t))
  cmp_splits down (leaf s) (leaf t) = same_test (cmp fixed down (leaf s) (leaf t))
  cmp_splits up (leaf s) (built y) = same_test (cmp fixed up (leaf s) (built y))
  cmp_splits down (leaf s) (built y) = same_test (cmp fixed down (leaf s) (built y))
  cmp_splits up (built x) (leaf t) = same_test (cmp fixed up (built x) (leaf t))
  cmp_splits down (built x) (leaf t) = same_test (cmp fixed down (built x) (leaf t))
  cmp_splits d (built x) (built y) = built_splits d x y

  built_splits : (d : Dir) (x y : Built) → cmp_built strict_order d x y ≡ cmp_built fixed d x y && results_built d x y
  built_splits d (list a) (list b) = cmp_splits d a b
  built_splits d (list a) (range b) = refl
  built_splits d (list a) (context gs) = refl
  built_splits d (list a) (function qs s) = refl
  built_splits d (range a) (list b) = refl
  built_splits d (range a) (range b) = cmp_splits d a b
  built_splits d (range a) (context gs) = refl
  built_splits d (range a) (function qs s) = refl
  built_splits d (context fs) (list b) = refl
  built_splits d (context fs) (range b) = refl
  built_splits d (context fs) (context gs) = context_splits d fs gs (λ n t. has_splits fs n t) (within_splits fs gs)
  built_splits d (context fs) (function qs s) = refl
  built_splits d (function ps r) (list b) = refl
  built_splits d (function ps r) (range b) = refl
  built_splits d (function ps r) (context gs) = refl
  built_splits d (function ps r) (function qs s) =
      function_splits (flip d) ps qs (results_tys (flip d) ps qs) (cmp strict_order d r s) (cmp fixed d r s) (results d r s) (cmps_splits (flip d) ps qs) (cmp_splits d r s)

  has_splits : (fs : Fields) (n : ℕ) (t : Ty) → has strict_order fs n t ≡ has fixed fs n t && results_has fs n t
  has_splits no_fields n t = refl
  has_splits (field m a fs) n t = entry_splits (eqb n m) _ _ _ _ _ _ (cmp_splits up a t) (has_splits fs n t)

  within_splits : (fs gs : Fields) → within strict_order fs gs ≡ within fixed fs gs && results_within fs gs
  within_splits no_fields gs = refl
  within_splits (field n a fs) gs =
      ap₂ ◌&&◌ (found_if (lookup n gs) (λ b. cmp strict_order down a b) (λ b. cmp fixed down a b) (λ b. results down a b) (λ b. cmp_splits down a b)) (within_splits fs gs)
      ∙ and_mix (found (lookup n gs) (λ b. cmp fixed down a b)) (if_found (lookup n gs) (λ b. results down a b)) (within fixed fs gs) (results_within fs gs)

  cmps_splits : (d : Dir) (ps qs : Tys) → cmps strict_order d ps qs ≡ cmps fixed d ps qs && results_tys d ps qs
  cmps_splits d no_params no_params = refl
  cmps_splits d no_params (param b qs) = refl
  cmps_splits d (param a ps) no_params = refl
  cmps_splits d (param a ps) (param b qs) =
      ap₂ ◌&&◌ (cmp_splits d a b) (cmps_splits d ps qs) ∙ and_mix (cmp fixed d a b) (results d a b) (cmps fixed d ps qs) (results_tys d ps qs)

pub dmn_is : (a b : Ty) → dmn_conforms_to a b ≡ conforms_to a b && results_conform a b
dmn_is a b = cmp_splits up a b

-- what conforms by DMN conforms here
pub dmn_here : (a b : Ty) → dmn_conforms_to a b ≡ true → conforms_to a b ≡ true
dmn_here a b h = and_left (conforms_to a b) (results_conform a b) (sym (dmn_is a b) ∙ h)

-- the two agree exactly where the results conform, if the types conform at all
pub agree_exactly : (a b : Ty) → (conforms_to a b ≡ dmn_conforms_to a b) ↔ (conforms_to a b ≡ true → results_conform a b ≡ true)
agree_exactly a b = let e = implied (conforms_to a b) (results_conform a b) in (λ h. e.0 (h ∙ dmn_is a b), λ h. e.1 h ∙ sym (dmn_is a b))
  where
    implied : (c r : Bool) → (c ≡ c && r) ↔ (c ≡ true → r ≡ true)
    implied true r = (λ h g. sym h, λ h. sym (h refl))
    implied false r = (λ h g. absurd (false≢true g), λ h. refl)

-- ---- where one of the two types has no function without parameters
all_true : (f : ℕ → Ty → Bool) (gs : Fields) → ((n : ℕ) (t : Ty) → f n t ≡ true) → all_fields f gs ≡ true
unfolding all_fields
all_true f no_fields h = refl
all_true f (field n t gs) h = and_both (f n t) (all_fields f gs) (h n t) (all_true f gs h)

results_context : (d : Dir) (fs gs : Fields) → ((n : ℕ) (t : Ty) → results_has fs n t ≡ true) → results_within fs gs ≡ true
    → pick d (all_fields (λ n t. results_has fs n t) gs) (results_within fs gs) ≡ true
results_context up fs gs h k = all_true (λ n t. results_has fs n t) gs h
results_context down fs gs h k = k

if_found_true : (o : Option Ty) (f : Ty → Bool) → ((b : Ty) → f b ≡ true) → if_found o f ≡ true
if_found_true none f h = refl
if_found_true (some b) f h = h b

cond_true : (q x y : Bool) → x ≡ true → y ≡ true → cond q x y ≡ true
cond_true true x y h k = h
cond_true false x y h k = k

results_looked : (ps qs : Tys) (x y : Bool) → Some ps → y ≡ true → cond (empty ps && empty qs) x y ≡ true
results_looked no_params qs x y p h = absurd p
results_looked (param t ps) qs x y p h = h

mutual
  unfolding results Parameters

  results_parameters : (d : Dir) (a b : Ty) → Parameters a → results d a b ≡ true
  results_parameters d (leaf s) b p = refl
  results_parameters d (built x) (leaf t) p = refl
  results_parameters d (built x) (built y) p = built_parameters d x y p

  built_parameters : (d : Dir) (x y : Built) → ParametersBuilt x → results_built d x y ≡ true
  built_parameters d (list a) (list b) p = results_parameters d a b p
  built_parameters d (list a) (range b) p = refl
  built_parameters d (list a) (context gs) p = refl
  built_parameters d (list a) (function qs s) p = refl
  built_parameters d (range a) (list b) p = refl
  built_parameters d (range a) (range b) p = results_parameters d a b p
  built_parameters d (range a) (context gs) p = refl
  built_parameters d (range a) (function qs s) p = refl
  built_parameters d (context fs) (list b) p = refl
  built_parameters d (context fs) (range b) p = refl
  built_parameters d (context fs) (context gs) p = results_context d fs gs (λ n t. has_parameters fs n t p) (within_parameters fs gs p)
  built_parameters d (context fs) (function qs s) p = refl
  built_parameters d (function ps r) (list b) p = refl
  built_parameters d (function ps r) (range b) p = refl
  built_parameters d (function ps r) (context gs) p = refl
  built_parameters d (function ps r) (function qs s) p =
      and_both (results_tys (flip d) ps qs) (cond (empty ps && empty qs) (cmp strict_order d r s) (results d r s)) (tys_parameters (flip d) ps qs p.1.0)
      (results_looked ps qs (cmp strict_order d r s) (results d r s) p.0 (results_parameters d r s p.1.1))

  has_parameters : (fs : Fields) (n : ℕ) (t : Ty) → ParametersFields fs → results_has fs n t ≡ true
  has_parameters no_fields n t p = refl
  has_parameters (field m a fs) n t p = cond_true (eqb n m) (results up a t) (results_has fs n t) (results_parameters up a t p.0) (has_parameters fs n t p.1)

  within_parameters : (fs gs : Fields) → ParametersFields fs → results_within fs gs ≡ true
  within_parameters no_fields gs p = refl
  within_parameters (field n a fs) gs p =
      and_both (if_found (lookup n gs) (λ b. results down a b)) (results_within fs gs)
      (if_found_true (lookup n gs) (λ b. results down a b) (λ b. results_parameters down a b p.0)) (within_parameters fs gs p.1)

  tys_parameters : (d : Dir) (ps qs : Tys) → ParametersTys ps → results_tys d ps qs ≡ true
  tys_parameters d no_params qs p = refl
  tys_parameters d (param a ps) no_params p = refl
  tys_parameters d (param a ps) (param b qs) p =
      and_both (results d a b) (results_tys d ps qs) (results_parameters d a b p.0) (tys_parameters d ps qs p.1)

cmp_agrees : (d : Dir) (a b : Ty) → Parameters a → cmp fixed d a b ≡ cmp strict_order d a b
cmp_agrees d a b p = sym (cmp_splits d a b ∙ ap (λ q. cmp fixed d a b && q) (results_parameters d a b p) ∙ and_true (cmp fixed d a b))

-- read from the other side for the second type
pub agrees_either : (a b : Ty) → Parameters a ⊎ Parameters b → conforms_to a b ≡ dmn_conforms_to a b
agrees_either a b (inl p) = cmp_agrees up a b p
agrees_either a b (inr p) = cmp_flip fixed down a b ∙ cmp_agrees down b a p ∙ sym (cmp_flip strict_order down a b)

-- ---- reduced forms
-- the results of functions without parameters are Any there
all_reduced : (f : ℕ → Ty → Bool) (gs : Fields) → ((n : ℕ) (t : Ty) → f n (reduce fixed t) ≡ true) → all_fields f (reduce_fields fixed gs) ≡ true
unfolding all_fields reduce
all_reduced f no_fields h = refl
all_reduced f (field n t gs) h = and_both (f n (reduce fixed t)) (all_fields f (reduce_fields fixed gs)) (h n t) (all_reduced f gs h)

look_reduced : (n : ℕ) (gs : Fields) (f : Ty → Bool) → ((t : Ty) → f (reduce fixed t) ≡ true) → if_found (lookup n (reduce_fields fixed gs)) f ≡ true
unfolding lookup reduce
look_reduced n no_fields f h = refl
look_reduced n (field m t gs) f h = step (eqb n m) (look_reduced n gs f h)
  where
    step : (q : Bool) → if_found (lookup n (reduce_fields fixed gs)) f ≡ true → if_found (cond q (some (reduce fixed t)) (lookup n (reduce_fields fixed gs))) f ≡ true
    step true k = h t
    step false k = k

context_reduced : (d : Dir) (fs gs : Fields) → ((n : ℕ) (t : Ty) → results_has fs n (reduce fixed t) ≡ true) → results_within fs (reduce_fields fixed gs) ≡ true
    → pick d (all_fields (λ n t. results_has fs n t) (reduce_fields fixed gs)) (results_within fs (reduce_fields fixed gs)) ≡ true
context_reduced up fs gs h k = all_reduced (λ n t. results_has fs n t) gs h
context_reduced down fs gs h k = k

results_leaf : (d : Dir) (a : Ty) → results d a (leaf any) ≡ true
unfolding results
results_leaf d (leaf s) = refl
results_leaf d (built x) = refl

any_any : (d : Dir) → cmp strict_order d (leaf any) (leaf any) ≡ true
unfolding cmp
any_any up = refl
any_any down = refl

result_reduced : (d : Dir) (ps qs : Tys) (r s : Ty) → results d (reduce fixed r) (reduce fixed s) ≡ true
    → cond (empty (reduce_tys fixed ps) && empty (reduce_tys fixed qs))
    (cmp strict_order d (cond (ignores fixed ps) (leaf any) (reduce fixed r)) (cond (ignores fixed qs) (leaf any) (reduce fixed s)))
    (results d (cond (ignores fixed ps) (leaf any) (reduce fixed r)) (cond (ignores fixed qs) (leaf any) (reduce fixed s))) ≡ true
unfolding results reduce
result_reduced d no_params no_params r s h = any_any d
result_reduced d no_params (param b qs) r s h = refl
result_reduced d (param a ps) no_params r s h = results_leaf d (reduce fixed r)
result_reduced d (param a ps) (param b qs) r s h = h

mutual
  unfolding results reduce

  results_reduced : (d : Dir) (a b : Ty) → results d (reduce fixed a) (reduce fixed b) ≡ true
  results_reduced d (leaf s) b = refl
  results_reduced d (built x) (leaf t) = refl
  results_reduced d (built x) (built y) = built_reduced d x y

  built_reduced : (d : Dir) (x y : Built) → results_built d (reduce_built fixed x) (reduce_built fixed y) ≡ true
  built_reduced d (list a) (list b) = results_reduced d a b
  built_reduced d (list a) (range b) = refl
  built_reduced d (list a) (context gs) = refl
  built_reduced d (list a) (function qs s) = refl
  built_reduced d (range a) (list b) = refl
  built_reduced d (range a) (range b) = results_reduced d a b
  built_reduced d (range a) (context gs) = refl
  built_reduced d (range a) (function qs s) = refl
  built_reduced d (context fs) (list b) = refl
  built_reduced d (context fs) (range b) = refl
  built_reduced d (context fs) (context gs) = context_reduced d (reduce_fields fixed fs) gs (λ n t. has_reduced fs n t) (within_reduced fs gs)
  built_reduced d (context fs) (function qs s) = refl
  built_reduced d (function ps r) (list b) = refl
  built_reduced d (function ps r) (range b) = refl
  built_reduced d (function ps r) (context gs) = refl
  built_reduced d (function ps r) (function qs s) =
      and_both (results_tys (flip d) (reduce_tys fixed ps) (reduce_tys fixed qs)) _ (tys_reduced (flip d) ps qs)
      (result_reduced d ps qs r s (results_reduced d r s))

  has_reduced : (fs : Fields) (n : ℕ) (t : Ty) → results_has (reduce_fields fixed fs) n (reduce fixed t) ≡ true
  has_reduced no_fields n t = refl
  has_reduced (field m a fs) n t =
      cond_true (eqb n m) (results up (reduce fixed a) (reduce fixed t)) (results_has (reduce_fields fixed fs) n (reduce fixed t)) (results_reduced up a t) (has_reduced fs n t)

  within_reduced : (fs gs : Fields) → results_within (reduce_fields fixed fs) (reduce_fields fixed gs) ≡ true
  within_reduced no_fields gs = refl
  within_reduced (field n a fs) gs =
      and_both (if_found (lookup n (reduce_fields fixed gs)) (λ b. results down (reduce fixed a) b)) (results_within (reduce_fields fixed fs) (reduce_fields fixed gs))
      (look_reduced n gs (λ b. results down (reduce fixed a) b) (λ t. results_reduced down a t)) (within_reduced fs gs)

  tys_reduced : (d : Dir) (ps qs : Tys) → results_tys d (reduce_tys fixed ps) (reduce_tys fixed qs) ≡ true
  tys_reduced d no_params qs = refl
  tys_reduced d (param a ps) no_params = refl
  tys_reduced d (param a ps) (param b qs) =
      and_both (results d (reduce fixed a) (reduce fixed b)) (results_tys d (reduce_tys fixed ps) (reduce_tys fixed qs)) (results_reduced d a b) (tys_reduced d ps qs)

-- here types are compared as DMN compares their reduced forms
pub reduced_is_dmn : (a b : Ty) → conforms_to a b ≡ dmn_conforms_to (reduced_form a) (reduced_form b)
reduced_is_dmn a b =
    sym (le_reduce_left fixed fixed_laws a b) ∙ sym (le_reduce_right fixed fixed_laws (reduced_form a) b)
    ∙ sym (dmn_is (reduced_form a) (reduced_form b) ∙ ap (λ q. conforms_to (reduced_form a) (reduced_form b) && q) (results_reduced up a b)
    ∙ and_true (conforms_to (reduced_form a) (reduced_form b)))
