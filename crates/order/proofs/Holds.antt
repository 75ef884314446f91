-- What holds of every name and of every parameter count in two types holds in their answers: so an answer's numbers fit their operands.
-- Idea: an answer has no name and no count of its own, by induction on both types.
-- Index: `Holds`, `HoldsFields`, `HoldsTys` (the predicate); `holds_sup`, `holds_sub`, `holds_bound`, `holds_reduce` (answers); `count_bounds`, `count_reduce_tys` (parameter counts).
-- Assumes nothing.
use Prim.Native.Nat.{ℕ, suc}
use mathlib.Core.Path.{◌≡◌, refl, sym, ap, subst}
use mathlib.Core.Bool.{Bool, true, false, cond, false≢true}
use mathlib.Core.Option.{Option, none, some}
use lib.Dec.{eqb, ltb}
use Rattle.form.specs.Trees.{any, Ty, leaf, built, Built, list, range, context, function, Fields, no_fields, field, Tys, no_params, param}
use Rattle.form.specs.Form.{count_tys}
use Rattle.order.specs.Order.{Dir, up, down, flip, pick, Order, top, bottom, scmp}
use Rattle.order.specs.Types.{lookup, same_count, ignores, reduce, reduce_built, reduce_fields, reduce_tys, keep, insert_with, bound, bound_built, intersect_with, merge, bounds, sup, sub}

pub count_bounds : (O : Order) (d : Dir) (ps qs : Tys) → same_count ps qs ≡ true → count_tys (bounds O d ps qs) ≡ count_tys ps
unfolding bound same_count count_tys
count_bounds O d no_params no_params h = refl
count_bounds O d no_params (param b qs) h = refl
count_bounds O d (param a ps) no_params h = absurd (false≢true h)
count_bounds O d (param a ps) (param b qs) h = ap suc (count_bounds O d ps qs h)

pub count_reduce_tys : (O : Order) (ps : Tys) → count_tys (reduce_tys O ps) ≡ count_tys ps
unfolding reduce count_tys
count_reduce_tys O no_params = refl
count_reduce_tys O (param a ps) = ap suc (count_reduce_tys O ps)

-- P of each name, Q of each parameter count
module _ (P Q : ℕ → Type 0) where
  unfoldable mutual
    pub Holds : Ty → Type 0
    Holds (leaf s) = Unit {0}
    Holds (built x) = HoldsBuilt x

    pub HoldsBuilt : Built → Type 0
    HoldsBuilt (list t) = Holds t
    HoldsBuilt (range t) = Holds t
    HoldsBuilt (context fs) = HoldsFields fs
    HoldsBuilt (function ps r) = Q (count_tys ps) × HoldsTys ps × Holds r

    pub HoldsFields : Fields → Type 0
    HoldsFields no_fields = Unit {0}
    HoldsFields (field n t fs) = P n × Holds t × HoldsFields fs

    pub HoldsTys : Tys → Type 0
    HoldsTys no_params = Unit {0}
    HoldsTys (param t ps) = Holds t × HoldsTys ps

  HoldsOption : Option Ty → Type 0
  HoldsOption none = Unit {0}
  HoldsOption (some t) = Holds t

  holds_look : (n : ℕ) (fs : Fields) → HoldsFields fs → HoldsOption (lookup n fs)
  unfolding Holds lookup HoldsOption
  holds_look n no_fields w = tt
  holds_look n (field m t fs) w = step (eqb n m) w.1 (holds_look n fs w.2)
    where
      step : (q : Bool) → Holds t → HoldsOption (lookup n fs) → HoldsOption (cond q (some t) (lookup n fs))
      step true v x = v
      step false v x = x

  holds_cond : (q : Bool) (a b : Ty) → Holds a → Holds b → Holds (cond q a b)
  holds_cond true a b v w = v
  holds_cond false a b v w = w

  holds_keep : (n : ℕ) (o : Option Ty) (f : Ty → Ty) (fs : Fields) → P n → HoldsOption o → ((b : Ty) → Holds b → Holds (f b)) → HoldsFields fs → HoldsFields (keep n o f fs)
  unfolding Holds HoldsOption
  holds_keep n none f fs p v g w = w
  holds_keep n (some b) f fs p v g w = (p, g b v, w)

  holds_place : (n : ℕ) (a : Ty) (f : Ty → Ty) (gs : Fields) → P n → Holds a → ((b : Ty) → Holds b → Holds (f b)) → HoldsFields gs → HoldsFields (insert_with n a f gs)
  unfolding Holds insert_with
  holds_place n a f no_fields p v g w = (p, v, tt)
  holds_place n a f (field m b gs) p v g w = step (eqb n m) (ltb n m) (holds_place n a f gs p v g w.2)
    where
      step : (q l : Bool) → HoldsFields (insert_with n a f gs)
          → HoldsFields (cond q (field m (f b) gs) (cond l (field n a (field m b gs)) (field m b (insert_with n a f gs))))
      step true l ih = (w.0, g b w.1, w.2)
      step false true ih = (p, v, w)
      step false false ih = (w.0, w.1, ih)

  holds_pick : (d : Dir) (fs gs : Fields) → HoldsFields fs → HoldsFields gs → HoldsFields (pick d fs gs)
  holds_pick up fs gs v w = v
  holds_pick down fs gs v w = w

  module _ (O : Order) where
    holds_function : (d : Dir) (ps qs : Tys) (r s : Ty) (q : Bool) → same_count ps qs ≡ q → Q (count_tys ps) → HoldsTys (bounds O (flip d) ps qs) → Holds (bound O d r s)
        → Holds (cond q (built (function (bounds O (flip d) ps qs) (bound O d r s))) (leaf (top d)))
    unfolding Holds
    holds_function d ps qs r s true e c v w = (subst Q (sym (count_bounds O (flip d) ps qs e)) c, v, w)
    holds_function d ps qs r s false e c v w = tt

    mutual
      unfolding Holds bound

      pub holds_bound : (d : Dir) (a b : Ty) → Holds a → Holds b → Holds (bound O d a b)
      holds_bound d (leaf s) (leaf t) v w = tt
      holds_bound d (leaf s) (built y) v w = holds_cond (scmp O d s (bottom d)) (built y) (leaf (top d)) w tt
      holds_bound d (built x) (leaf t) v w = holds_cond (scmp O d t (bottom d)) (built x) (leaf (top d)) v tt
      holds_bound d (built x) (built y) v w = holds_bound_built d x y v w

      holds_bound_built : (d : Dir) (x y : Built) → HoldsBuilt x → HoldsBuilt y → Holds (bound_built O d x y)
      holds_bound_built d (list a) (list b) v w = holds_bound d a b v w
      holds_bound_built d (list a) (range b) v w = tt
      holds_bound_built d (list a) (context gs) v w = tt
      holds_bound_built d (list a) (function qs s) v w = tt
      holds_bound_built d (range a) (list b) v w = tt
      holds_bound_built d (range a) (range b) v w = holds_bound d a b v w
      holds_bound_built d (range a) (context gs) v w = tt
      holds_bound_built d (range a) (function qs s) v w = tt
      holds_bound_built d (context fs) (list b) v w = tt
      holds_bound_built d (context fs) (range b) v w = tt
      holds_bound_built d (context fs) (context gs) v w = holds_pick d (intersect_with O fs gs) (merge O fs gs) (holds_common fs gs v w) (holds_merge fs gs v w)
      holds_bound_built d (context fs) (function qs s) v w = tt
      holds_bound_built d (function ps r) (list b) v w = tt
      holds_bound_built d (function ps r) (range b) v w = tt
      holds_bound_built d (function ps r) (context gs) v w = tt
      holds_bound_built d (function ps r) (function qs s) v w =
          holds_function d ps qs r s (same_count ps qs) refl v.0 (holds_bounds (flip d) ps qs v.1 w.1) (holds_bound d r s v.2 w.2)

      holds_common : (fs gs : Fields) → HoldsFields fs → HoldsFields gs → HoldsFields (intersect_with O fs gs)
      holds_common no_fields gs v w = tt
      holds_common (field n a fs) gs v w =
          holds_keep n (lookup n gs) (λ b. bound O up a b) (intersect_with O fs gs) v.0 (holds_look n gs w) (λ b x. holds_bound up a b v.1 x)
          (holds_common fs gs v.2 w)

      holds_merge : (fs gs : Fields) → HoldsFields fs → HoldsFields gs → HoldsFields (merge O fs gs)
      holds_merge no_fields gs v w = w
      holds_merge (field n a fs) gs v w =
          holds_place n a (λ b. bound O down a b) (merge O fs gs) v.0 v.1 (λ b x. holds_bound down a b v.1 x) (holds_merge fs gs v.2 w)

      holds_bounds : (d : Dir) (ps qs : Tys) → HoldsTys ps → HoldsTys qs → HoldsTys (bounds O d ps qs)
      holds_bounds d no_params no_params v w = tt
      holds_bounds d no_params (param b qs) v w = tt
      holds_bounds d (param a ps) no_params v w = tt
      holds_bounds d (param a ps) (param b qs) v w = (holds_bound d a b v.0 w.0, holds_bounds d ps qs v.1 w.1)

    mutual
      unfolding Holds reduce

      pub holds_reduce : (a : Ty) → Holds a → Holds (reduce O a)
      holds_reduce (leaf s) v = tt
      holds_reduce (built x) v = holds_reduce_built x v

      holds_reduce_built : (x : Built) → HoldsBuilt x → HoldsBuilt (reduce_built O x)
      holds_reduce_built (list a) v = holds_reduce a v
      holds_reduce_built (range a) v = holds_reduce a v
      holds_reduce_built (context fs) v = holds_reduce_fields fs v
      holds_reduce_built (function ps r) v =
          (subst Q (sym (count_reduce_tys O ps)) v.0, holds_reduce_tys ps v.1, holds_cond (ignores O ps) (leaf any) (reduce O r) tt (holds_reduce r v.2))

      holds_reduce_fields : (fs : Fields) → HoldsFields fs → HoldsFields (reduce_fields O fs)
      holds_reduce_fields no_fields v = tt
      holds_reduce_fields (field n a fs) v = (v.0, holds_reduce a v.1, holds_reduce_fields fs v.2)

      holds_reduce_tys : (ps : Tys) → HoldsTys ps → HoldsTys (reduce_tys O ps)
      holds_reduce_tys no_params v = tt
      holds_reduce_tys (param a ps) v = (holds_reduce a v.0, holds_reduce_tys ps v.1)

    pub holds_sup : (a b : Ty) → Holds a → Holds b → Holds (sup O a b)
    holds_sup a b v w = holds_reduce (bound O up a b) (holds_bound up a b v w)

    pub holds_sub : (a b : Ty) → Holds a → Holds b → Holds (sub O a b)
    holds_sub a b v w = holds_reduce (bound O down a b) (holds_bound down a b v w)
