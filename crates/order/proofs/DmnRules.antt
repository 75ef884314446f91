-- DMN's rules have one solution, the strict reading (`dmn_reading`). Idea: two relations that meet the rules agree, by recursion on the first type in both directions at
-- once, since a function's parameters turn the direction; and the strict reading meets them, mostly by computing.
-- Assumes nothing.
use Prim.Native.Nat.{ℕ}
use native.Mathlib.Omega.{arith}
use mathlib.Core.Path.{◌≡◌, refl, sym, ◌∙◌, ap, ap₂}
use mathlib.Core.Bool.{Bool, true, false, cond, ◌&&◌}
use mathlib.Core.Option.{some}
use mathlib.Core.Logic.{◌↔◌}
use lib.Dec.{eqb}
use borrow.Author.Tests.{ne_eqb, eqb-false}
use Rattle.form.specs.Trees.{Simple, any, null, code, Ty, leaf, built, Built, list, range, context, function, Fields, no_fields, field, Tys, no_params, param}
use Rattle.order.specs.Order.{Dir, up, down, pick, same, strict_order}
use Rattle.order.specs.Types.{lookup, found, all_fields, kind, cmp, les}
use Rattle.order.specs.Dmn.{dmn_conforms_to, all_pairs, DmnRules, DmnReading}
use Rattle.order.proofs.Simple.{flat_laws, same_eq}
use Rattle.order.proofs.Alone.{le_lists, le_ranges}
use Rattle.order.proofs.Bools.{found_ext}
use Rattle.order.proofs.Bound.{cmp_other}
use Rattle.order.proofs.Least.{le_null, le_any}
use Rattle.order.proofs.Conform.{all_ext}
use Rattle.order.proofs.Sentences.{le_contexts, le_functions, type_sentences}

-- two tests that say yes in the same case are equal
alike : {P : Type 0} (x y : Bool) → (x ≡ true) ↔ P → (y ≡ true) ↔ P → x ≡ y
alike true y f g = sym (g.1 (f.0 refl))
alike false true f g = f.1 (g.0 refl)
alike false false f g = refl

module _ (c e : Ty → Ty → Bool) (R : DmnRules c) (S : DmnRules e) where
  leaves : (s t : Simple) → c (leaf s) (leaf t) ≡ e (leaf s) (leaf t)
  leaves s t = go (same s null) refl (same t any) refl
    where
      go : (p : Bool) → same s null ≡ p → (q : Bool) → same t any ≡ q → c (leaf s) (leaf t) ≡ e (leaf s) (leaf t)
      go true f q g = let h = same_eq s null f in ap (λ x. c (leaf x) (leaf t)) h ∙ R.null_below (leaf t) ∙ sym (ap (λ x. e (leaf x) (leaf t)) h ∙ S.null_below (leaf t))
      go false f true g = let h = same_eq t any g in ap (λ x. c (leaf s) (leaf x)) h ∙ R.below_any (leaf s) ∙ sym (ap (λ x. e (leaf s) (leaf x)) h ∙ S.below_any (leaf s))
      go false f false g =
          let n : s ≡ null → ⊥ = λ z. eqb-false (code s) (code null) f (ap code z) in
          let o : t ≡ any → ⊥ = λ z. eqb-false (code t) (code any) g (ap code z) in
          alike (c (leaf s) (leaf t)) (e (leaf s) (leaf t)) (R.simple_types s t n o) (S.simple_types s t n o)

  leaf_built : (s : Simple) (y : Built) → c (leaf s) (built y) ≡ e (leaf s) (built y)
  leaf_built s y = go (same s null) refl
    where
      go : (p : Bool) → same s null ≡ p → c (leaf s) (built y) ≡ e (leaf s) (built y)
      go true f = let h = same_eq s null f in ap (λ x. c (leaf x) (built y)) h ∙ R.null_below (built y) ∙ sym (ap (λ x. e (leaf x) (built y)) h ∙ S.null_below (built y))
      go false f = let n : s ≡ null → ⊥ = λ z. eqb-false (code s) (code null) f (ap code z) in R.simple_built s y n ∙ sym (S.simple_built s y n)

  built_leaf : (x : Built) (t : Simple) → c (built x) (leaf t) ≡ e (built x) (leaf t)
  built_leaf x t = go (same t any) refl
    where
      go : (p : Bool) → same t any ≡ p → c (built x) (leaf t) ≡ e (built x) (leaf t)
      go true f = let h = same_eq t any f in ap (λ y. c (built x) (leaf y)) h ∙ R.below_any (built x) ∙ sym (ap (λ y. e (built x) (leaf y)) h ∙ S.below_any (built x))
      go false f = let n : t ≡ any → ⊥ = λ z. eqb-false (code t) (code any) f (ap code z) in R.built_simple x t n ∙ sym (S.built_simple x t n)

  unlike : (d : Dir) (x y : Built) → (kind x ≡ kind y → ⊥) → pick d (c (built x) (built y)) (c (built y) (built x)) ≡ pick d (e (built x) (built y)) (e (built y) (built x))
  unlike up x y h = R.unlike_kinds x y h ∙ sym (S.unlike_kinds x y h)
  unlike down x y h = let k : kind y ≡ kind x → ⊥ = λ z. h (sym z) in R.unlike_kinds y x k ∙ sym (S.unlike_kinds y x k)

  mutual
    unfolding lookup all_fields all_pairs

    agree : (a b : Ty) (d : Dir) → pick d (c a b) (c b a) ≡ pick d (e a b) (e b a)
    agree (leaf s) (leaf t) up = leaves s t
    agree (leaf s) (leaf t) down = leaves t s
    agree (leaf s) (built y) up = leaf_built s y
    agree (leaf s) (built y) down = built_leaf y s
    agree (built x) (leaf t) up = built_leaf x t
    agree (built x) (leaf t) down = leaf_built t x
    agree (built x) (built y) d = agree_built x y d

    agree_built : (x y : Built) (d : Dir) → pick d (c (built x) (built y)) (c (built y) (built x)) ≡ pick d (e (built x) (built y)) (e (built y) (built x))
    agree_built (list a) (list b) up = R.lists a b ∙ agree a b up ∙ sym (S.lists a b)
    agree_built (list a) (list b) down = R.lists b a ∙ agree a b down ∙ sym (S.lists b a)
    agree_built (range a) (range b) up = R.ranges a b ∙ agree a b up ∙ sym (S.ranges a b)
    agree_built (range a) (range b) down = R.ranges b a ∙ agree a b down ∙ sym (S.ranges b a)
    agree_built (context fs) (context gs) up =
        R.contexts fs gs
        ∙ all_ext (λ n t. found (lookup n fs) (λ a. c a t)) (λ n t. found (lookup n fs) (λ a. e a t)) gs (λ n t. agree_found fs n t)
        ∙ sym (S.contexts fs gs)
    agree_built (context fs) (context gs) down = R.contexts gs fs ∙ agree_within fs gs ∙ sym (S.contexts gs fs)
    agree_built (function ps r) (function qs s) up = R.functions ps qs r s ∙ ap₂ ◌&&◌ (agree_pairs ps qs down) (agree r s up) ∙ sym (S.functions ps qs r s)
    agree_built (function ps r) (function qs s) down = R.functions qs ps s r ∙ ap₂ ◌&&◌ (agree_pairs ps qs up) (agree r s down) ∙ sym (S.functions qs ps s r)
    agree_built (list a) (range b) d = unlike d (list a) (range b) (λ z. omega arith)
    agree_built (list a) (context gs) d = unlike d (list a) (context gs) (λ z. omega arith)
    agree_built (list a) (function qs s) d = unlike d (list a) (function qs s) (λ z. omega arith)
    agree_built (range a) (list b) d = unlike d (range a) (list b) (λ z. omega arith)
    agree_built (range a) (context gs) d = unlike d (range a) (context gs) (λ z. omega arith)
    agree_built (range a) (function qs s) d = unlike d (range a) (function qs s) (λ z. omega arith)
    agree_built (context fs) (list b) d = unlike d (context fs) (list b) (λ z. omega arith)
    agree_built (context fs) (range b) d = unlike d (context fs) (range b) (λ z. omega arith)
    agree_built (context fs) (function qs s) d = unlike d (context fs) (function qs s) (λ z. omega arith)
    agree_built (function ps r) (list b) d = unlike d (function ps r) (list b) (λ z. omega arith)
    agree_built (function ps r) (range b) d = unlike d (function ps r) (range b) (λ z. omega arith)
    agree_built (function ps r) (context gs) d = unlike d (function ps r) (context gs) (λ z. omega arith)

    agree_found : (fs : Fields) (n : ℕ) (t : Ty) → found (lookup n fs) (λ a. c a t) ≡ found (lookup n fs) (λ a. e a t)
    agree_found no_fields n t = refl
    agree_found (field m a fs) n t = step (eqb n m) (agree a t up) (agree_found fs n t)
      where
        step : (q : Bool) → c a t ≡ e a t → found (lookup n fs) (λ x. c x t) ≡ found (lookup n fs) (λ x. e x t)
            → found (cond q (some a) (lookup n fs)) (λ x. c x t) ≡ found (cond q (some a) (lookup n fs)) (λ x. e x t)
        step true h k = h
        step false h k = k

    agree_within : (fs gs : Fields) → all_fields (λ n t. found (lookup n gs) (λ b. c b t)) fs ≡ all_fields (λ n t. found (lookup n gs) (λ b. e b t)) fs
    agree_within no_fields gs = refl
    agree_within (field n a fs) gs = ap₂ ◌&&◌ (found_ext (lookup n gs) (λ b. c b a) (λ b. e b a) (λ b. agree a b down)) (agree_within fs gs)

    -- of two parameter lists, the first compared in the direction
    agree_pairs : (ps qs : Tys) (d : Dir) → pick d (all_pairs c ps qs) (all_pairs c qs ps) ≡ pick d (all_pairs e ps qs) (all_pairs e qs ps)
    agree_pairs no_params no_params up = refl
    agree_pairs no_params no_params down = refl
    agree_pairs no_params (param b qs) up = refl
    agree_pairs no_params (param b qs) down = refl
    agree_pairs (param a ps) no_params up = refl
    agree_pairs (param a ps) no_params down = refl
    agree_pairs (param a ps) (param b qs) up = ap₂ ◌&&◌ (agree a b up) (agree_pairs ps qs up)
    agree_pairs (param a ps) (param b qs) down = ap₂ ◌&&◌ (agree a b down) (agree_pairs ps qs down)

-- ---- the strict reading
pairs_are : (ps qs : Tys) → les strict_order ps qs ≡ all_pairs dmn_conforms_to ps qs
unfolding cmp all_pairs
pairs_are no_params no_params = refl
pairs_are no_params (param b qs) = refl
pairs_are (param a ps) no_params = refl
pairs_are (param a ps) (param b qs) = ap (λ x. dmn_conforms_to a b && x) (pairs_are ps qs)

strict_rules : DmnRules dmn_conforms_to
unfolding cmp
strict_rules = record {
  null_below = le_null strict_order (flat_laws true);
  below_any = le_any strict_order (flat_laws true);
  simple_types = type_sentences.simple_types;
  simple_built = type_sentences.simple_built;
  built_simple = type_sentences.built_simple;
  lists = le_lists strict_order;
  ranges = le_ranges strict_order;
  contexts = le_contexts strict_order;
  functions = λ ps qs r s. le_functions strict_order ps qs r s ∙ ap (λ x. x && dmn_conforms_to r s) (pairs_are qs ps);
  unlike_kinds = λ x y h. cmp_other strict_order up x y (ne_eqb (kind x) (kind y) h);
}

pub dmn_reading : DmnReading
dmn_reading = record { rules = strict_rules; only = λ c R a b. agree c dmn_conforms_to R strict_rules a b up }
