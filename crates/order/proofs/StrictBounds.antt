-- A strict supertype or subtype, reduced, is document 01's (`reduced_bound`). Idea: before an answer is reduced, both readings have the same one, since only conformance and
-- the reduced form ask the reading.
-- Assumes nothing.
use mathlib.Core.Path.{◌≡◌, refl, ◌∙◌, ap, ap₂}
use mathlib.Core.Bool.{cond}
use mathlib.Core.Option.{Option, none, some}
use Prim.Native.Nat.{ℕ}
use lib.Dec.{eqb, ltb}
use Rattle.form.specs.Trees.{Ty, leaf, built, Built, list, range, context, function, Fields, no_fields, field, Tys, no_params, param}
use Rattle.order.specs.Order.{Dir, up, down, flip, top, fixed, strict_order}
use Rattle.order.specs.Types.{lookup, keep, insert_with, same_count, reduce, bound, bound_built, intersect_with, merge, bounds}
use Rattle.order.proofs.Conform.{reduce_strict}

keep_same : (n : ℕ) (o : Option Ty) (f g : Ty → Ty) (fs gs : Fields) → ((b : Ty) → f b ≡ g b) → fs ≡ gs → keep n o f fs ≡ keep n o g gs
keep_same n none f g fs gs h e = e
keep_same n (some b) f g fs gs h e = ap₂ (field n) (h b) e

insert_same : (n : ℕ) (a : Ty) (f g : Ty → Ty) (fs : Fields) → ((b : Ty) → f b ≡ g b) → insert_with n a f fs ≡ insert_with n a g fs
unfolding insert_with
insert_same n a f g no_fields h = refl
insert_same n a f g (field m b fs) h =
    ap₂ (λ x y. cond (eqb n m) (field m x fs) (cond (ltb n m) (field n a (field m b fs)) (field m b y))) (h b) (insert_same n a f g fs h)

mutual
  unfolding bound

  bound_same : (a b : Ty) (d : Dir) → bound strict_order d a b ≡ bound fixed d a b
  bound_same (leaf s) (leaf t) up = refl
  bound_same (leaf s) (leaf t) down = refl
  bound_same (leaf s) (built y) up = refl
  bound_same (leaf s) (built y) down = refl
  bound_same (built x) (leaf t) up = refl
  bound_same (built x) (leaf t) down = refl
  bound_same (built x) (built y) d = built_same x y d

  built_same : (x y : Built) (d : Dir) → bound_built strict_order d x y ≡ bound_built fixed d x y
  built_same (list a) (list b) d = ap (λ t. built (list t)) (bound_same a b d)
  built_same (list a) (range b) d = refl
  built_same (list a) (context gs) d = refl
  built_same (list a) (function qs s) d = refl
  built_same (range a) (list b) d = refl
  built_same (range a) (range b) d = ap (λ t. built (range t)) (bound_same a b d)
  built_same (range a) (context gs) d = refl
  built_same (range a) (function qs s) d = refl
  built_same (context fs) (list b) d = refl
  built_same (context fs) (range b) d = refl
  built_same (context fs) (context gs) up = ap (λ x. built (context x)) (common_same fs gs)
  built_same (context fs) (context gs) down = ap (λ x. built (context x)) (merge_same fs gs)
  built_same (context fs) (function qs s) d = refl
  built_same (function ps r) (list b) d = refl
  built_same (function ps r) (range b) d = refl
  built_same (function ps r) (context gs) d = refl
  built_same (function ps r) (function qs s) d =
      ap₂ (λ x y. cond (same_count ps qs) (built (function x y)) (leaf (top d))) (pairs_same ps qs (flip d)) (bound_same r s d)

  common_same : (fs gs : Fields) → intersect_with strict_order fs gs ≡ intersect_with fixed fs gs
  common_same no_fields gs = refl
  common_same (field n a fs) gs =
      keep_same n (lookup n gs) (λ b. bound strict_order up a b) (λ b. bound fixed up a b) (intersect_with strict_order fs gs) (intersect_with fixed fs gs)
      (λ b. bound_same a b up) (common_same fs gs)

  merge_same : (fs gs : Fields) → merge strict_order fs gs ≡ merge fixed fs gs
  merge_same no_fields gs = refl
  merge_same (field n a fs) gs =
      ap (insert_with n a (λ b. bound strict_order down a b)) (merge_same fs gs)
      ∙ insert_same n a (λ b. bound strict_order down a b) (λ b. bound fixed down a b) (merge fixed fs gs) (λ b. bound_same a b down)

  pairs_same : (ps qs : Tys) (d : Dir) → bounds strict_order d ps qs ≡ bounds fixed d ps qs
  pairs_same no_params no_params d = refl
  pairs_same no_params (param b qs) d = refl
  pairs_same (param a ps) no_params d = refl
  pairs_same (param a ps) (param b qs) d = ap₂ param (bound_same a b d) (pairs_same ps qs d)

pub reduced_bound : (d : Dir) (a b : Ty) → reduce fixed (reduce strict_order (bound strict_order d a b)) ≡ reduce fixed (bound fixed d a b)
reduced_bound d a b = ap (reduce fixed) (reduce_strict strict_order (bound strict_order d a b) refl ∙ bound_same a b d)
