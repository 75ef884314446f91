-- The names in an answer stay strictly ascending, by induction on both types. And the all-names context read as a merge of two ascending lists.
-- Index: `asc_sup`, `asc_sub`, `asc_bound`, `asc_merge`, `asc_reduce` (answers); `asc_look`, `asc_weaken` (contexts); `merge_first`, `merge_second`, `merge_both` (the merge in step).
-- Assumes nothing.
use Prim.Native.Nat.{ℕ, suc, ◌≤◌, ◌<◌}
use native.Mathlib.Omega.{arith}
use mathlib.Core.Path.{◌≡◌, refl, ◌∙◌, ap}
use mathlib.Core.Bool.{Bool, true, false, cond}
use mathlib.Core.Option.{Option, none, some}
use lib.Dec.{eqb, ltb}
use borrow.Author.Tests.{eqb-false, ne_eqb, eq-eqb, ltb-true, ltb-false, lt-ltb, le-ltb}
use Rattle.form.specs.Trees.{any}
use Rattle.order.specs.Order.{Dir, up, down, flip, pick, Order, top, bottom, scmp}
use Rattle.form.specs.Trees.{Ty, leaf, built, Built, list, range, context, function, Fields, no_fields, field, Tys, no_params, param}
use Rattle.order.specs.Types.{lookup, same_count, ignores, reduce, reduce_built, reduce_fields, reduce_tys, keep, insert_with, bound, bound_built, intersect_with, merge, bounds, sup, sub}
use Rattle.order.specs.Ascending.{Asc, AscBuilt, AscFields, AscTys}

pub asc_weaken : (fs : Fields) (j k : ℕ) → j ≤ k → AscFields fs k → AscFields fs j
unfolding Asc
asc_weaken no_fields j k h w = tt
asc_weaken (field n t fs) j k h w = (omega (arith, w.0), w.1, w.2)

-- what is found in a well-formed context is well formed
unfoldable pub AscOption : Option Ty → Type 0
AscOption none = Unit {0}
AscOption (some t) = Asc t

pub asc_look : (n : ℕ) (fs : Fields) (k : ℕ) → AscFields fs k → AscOption (lookup n fs)
unfolding Asc lookup AscOption
asc_look n no_fields k w = tt
asc_look n (field m t fs) k w = step (eqb n m) w.1 (asc_look n fs (suc m) w.2)
  where
    step : (q : Bool) → Asc t → AscOption (lookup n fs) → AscOption (cond q (some t) (lookup n fs))
    step true v x = v
    step false v x = x

asc_cond : (q : Bool) (a b : Ty) → Asc a → Asc b → Asc (cond q a b)
asc_cond true a b v w = v
asc_cond false a b v w = w

asc_keep : (n k : ℕ) (o : Option Ty) (f : Ty → Ty) (fs : Fields) → k ≤ n → AscOption o → ((b : Ty) → Asc b → Asc (f b)) → AscFields fs (suc n) → AscFields (keep n o f fs) k
unfolding Asc AscOption
asc_keep n k none f fs h v g w = asc_weaken fs k (suc n) (omega arith) w
asc_keep n k (some b) f fs h v g w = (h, g b v, w)

asc_place : (n k : ℕ) (a : Ty) (f : Ty → Ty) (gs : Fields) → k ≤ n → Asc a → ((b : Ty) → Asc b → Asc (f b)) → AscFields gs k → AscFields (insert_with n a f gs) k
unfolding Asc insert_with
asc_place n k a f no_fields h v g w = (h, v, tt)
asc_place n k a f (field m b gs) h v g w =
    step (eqb n m) refl (ltb n m) refl (λ x. asc_place n (suc m) a f gs x v g w.2)
  where
    step : (q : Bool) → eqb n m ≡ q → (l : Bool) → ltb n m ≡ l → (m < n → AscFields (insert_with n a f gs) (suc m))
        → AscFields (cond q (field m (f b) gs) (cond l (field n a (field m b gs)) (field m b (insert_with n a f gs)))) k
    step true e l i ih = (w.0, g b w.1, w.2)
    step false e true i ih = (h, v, (ltb-true n m i, w.1, w.2))
    step false e false i ih =
        let x : m ≤ n = ltb-false n m i in
        let y : n ≡ m → ⊥ = eqb-false n m e in
        (w.0, w.1, ih (omega arith))

module _ (O : Order) where
  asc_pick : (d : Dir) (fs gs : Fields) → AscFields fs 0 → AscFields gs 0 → AscFields (pick d fs gs) 0
  asc_pick up fs gs v w = v
  asc_pick down fs gs v w = w

  mutual
    unfolding Asc bound

    pub asc_bound : (d : Dir) (a b : Ty) → Asc a → Asc b → Asc (bound O d a b)
    asc_bound d (leaf s) (leaf t) v w = tt
    asc_bound d (leaf s) (built y) v w = asc_cond (scmp O d s (bottom d)) (built y) (leaf (top d)) w tt
    asc_bound d (built x) (leaf t) v w = asc_cond (scmp O d t (bottom d)) (built x) (leaf (top d)) v tt
    asc_bound d (built x) (built y) v w = asc_bound_built d x y v w

    asc_bound_built : (d : Dir) (x y : Built) → AscBuilt x → AscBuilt y → Asc (bound_built O d x y)
    asc_bound_built d (list a) (list b) v w = asc_bound d a b v w
    asc_bound_built d (list a) (range b) v w = tt
    asc_bound_built d (list a) (context gs) v w = tt
    asc_bound_built d (list a) (function qs s) v w = tt
    asc_bound_built d (range a) (list b) v w = tt
    asc_bound_built d (range a) (range b) v w = asc_bound d a b v w
    asc_bound_built d (range a) (context gs) v w = tt
    asc_bound_built d (range a) (function qs s) v w = tt
    asc_bound_built d (context fs) (list b) v w = tt
    asc_bound_built d (context fs) (range b) v w = tt
    asc_bound_built d (context fs) (context gs) v w =
        asc_pick d (intersect_with O fs gs) (merge O fs gs) (asc_common fs gs 0 v w) (asc_merge fs gs 0 v w)
    asc_bound_built d (context fs) (function qs s) v w = tt
    asc_bound_built d (function ps r) (list b) v w = tt
    asc_bound_built d (function ps r) (range b) v w = tt
    asc_bound_built d (function ps r) (context gs) v w = tt
    asc_bound_built d (function ps r) (function qs s) v w =
        asc_cond (same_count ps qs) (built (function (bounds O (flip d) ps qs) (bound O d r s))) (leaf (top d))
        (asc_bounds (flip d) ps qs v.0 w.0, asc_bound d r s v.1 w.1) tt

    asc_common : (fs gs : Fields) (k : ℕ) → AscFields fs k → AscFields gs 0 → AscFields (intersect_with O fs gs) k
    asc_common no_fields gs k v w = tt
    asc_common (field n a fs) gs k v w =
        asc_keep n k (lookup n gs) (λ b. bound O up a b) (intersect_with O fs gs) v.0 (asc_look n gs 0 w) (λ b x. asc_bound up a b v.1 x)
        (asc_common fs gs (suc n) v.2 w)

    pub asc_merge : (fs gs : Fields) (k : ℕ) → AscFields fs k → AscFields gs k → AscFields (merge O fs gs) k
    asc_merge no_fields gs k v w = w
    asc_merge (field n a fs) gs k v w =
        asc_place n k a (λ b. bound O down a b) (merge O fs gs) v.0 v.1 (λ b x. asc_bound down a b v.1 x)
        (asc_merge fs gs k (asc_weaken fs k (suc n) (omega (arith, v.0)) v.2) w)

    asc_bounds : (d : Dir) (ps qs : Tys) → AscTys ps → AscTys qs → AscTys (bounds O d ps qs)
    asc_bounds d no_params no_params v w = tt
    asc_bounds d no_params (param b qs) v w = tt
    asc_bounds d (param a ps) no_params v w = tt
    asc_bounds d (param a ps) (param b qs) v w = (asc_bound d a b v.0 w.0, asc_bounds d ps qs v.1 w.1)

  mutual
    unfolding Asc reduce

    pub asc_reduce : (a : Ty) → Asc a → Asc (reduce O a)
    asc_reduce (leaf s) v = tt
    asc_reduce (built x) v = asc_reduce_built x v

    asc_reduce_built : (x : Built) → AscBuilt x → AscBuilt (reduce_built O x)
    asc_reduce_built (list a) v = asc_reduce a v
    asc_reduce_built (range a) v = asc_reduce a v
    asc_reduce_built (context fs) v = asc_reduce_fields fs 0 v
    asc_reduce_built (function ps r) v =
        (asc_reduce_tys ps v.0, asc_cond (ignores O ps) (leaf any) (reduce O r) tt (asc_reduce r v.1))

    asc_reduce_fields : (fs : Fields) (k : ℕ) → AscFields fs k → AscFields (reduce_fields O fs) k
    asc_reduce_fields no_fields k v = tt
    asc_reduce_fields (field n a fs) k v = (v.0, asc_reduce a v.1, asc_reduce_fields fs (suc n) v.2)

    asc_reduce_tys : (ps : Tys) → AscTys ps → AscTys (reduce_tys O ps)
    asc_reduce_tys no_params v = tt
    asc_reduce_tys (param a ps) v = (asc_reduce a v.0, asc_reduce_tys ps v.1)

  pub asc_sup : (a b : Ty) → Asc a → Asc b → Asc (sup O a b)
  asc_sup a b v w = asc_reduce (bound O up a b) (asc_bound up a b v w)

  pub asc_sub : (a b : Ty) → Asc a → Asc b → Asc (sub O a b)
  asc_sub a b v w = asc_reduce (bound O down a b) (asc_bound down a b v w)

  -- MERGING TWO ASCENDING LISTS, as a walk over both does it
  place_first : (n : ℕ) (a : Ty) (f : Ty → Ty) (gs : Fields) → AscFields gs (suc n) → insert_with n a f gs ≡ field n a gs
  unfolding insert_with Asc
  place_first n a f no_fields w = refl
  place_first n a f (field m b gs) w =
      ap (λ q. cond q (field m (f b) gs) (cond (ltb n m) (field n a (field m b gs)) (field m b (insert_with n a f gs)))) (ne_eqb n m (λ e. omega (arith, w.0)))
      ∙ ap (λ q. cond q (field n a (field m b gs)) (field m b (insert_with n a f gs))) (lt-ltb n m w.0)

  -- the second's first name is the smallest
  pub merge_second : (fs : Fields) (m k : ℕ) (b : Ty) (gs : Fields) → AscFields fs k → m < k → merge O fs (field m b gs) ≡ field m b (merge O fs gs)
  unfolding bound insert_with Asc
  merge_second no_fields m k b gs w h = refl
  merge_second (field n a fs) m k b gs w h =
      let x : m < n = omega (arith, w.0) in
      ap (insert_with n a (λ c. bound O down a c)) (merge_second fs m (suc n) b gs w.2 (omega arith))
      ∙ ap (λ q. cond q (field m (bound O down a b) (merge O fs gs)) (cond (ltb n m) (field n a (field m b (merge O fs gs))) (field m b (insert_with n a (λ c. bound O down a c) (merge O fs gs)))))
      (ne_eqb n m (λ e. omega arith))
      ∙ ap (λ q. cond q (field n a (field m b (merge O fs gs))) (field m b (insert_with n a (λ c. bound O down a c) (merge O fs gs)))) (le-ltb n m (omega arith))

  -- the first's first name is the smallest
  pub merge_first : (n : ℕ) (a : Ty) (fs gs : Fields) → AscFields fs (suc n) → AscFields gs (suc n) → merge O (field n a fs) gs ≡ field n a (merge O fs gs)
  unfolding bound
  merge_first n a fs gs v w = place_first n a (λ b. bound O down a b) (merge O fs gs) (asc_merge fs gs (suc n) v w)

  -- a common name
  pub merge_both : (n : ℕ) (a b : Ty) (fs gs : Fields) → AscFields fs (suc n) → merge O (field n a fs) (field n b gs) ≡ field n (bound O down a b) (merge O fs gs)
  unfolding bound insert_with
  merge_both n a b fs gs v =
      ap (insert_with n a (λ c. bound O down a c)) (merge_second fs n (suc n) b gs v (omega arith))
      ∙ ap (λ q. cond q (field n (bound O down a b) (merge O fs gs)) (cond (ltb n n) (field n a (field n b (merge O fs gs))) (field n b (insert_with n a (λ c. bound O down a c) (merge O fs gs)))))
      (eq-eqb n n refl)
