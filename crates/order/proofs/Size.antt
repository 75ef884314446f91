-- Lengths and levels: an answer is never longer than the two inputs together, nor deeper than the deeper one.
-- Idea: induction on both types; a context's names are taken in ascending order, each counted once.
-- Index: `length_enc`, `length_fields`, `length_tys` (a size is a length); `size_sup`, `size_sub`, `size_bound`, `size_reduce` (lengths); `level_sup`, `level_sub`, `level_bound`,
-- `level_reduce` (levels); `size_positive`, `size_val_positive`, `level_positive`.
-- Assumes nothing.
use Prim.Native.Nat.{ℕ, suc, ◌+◌, ◌≤◌, max}
use native.Mathlib.Omega.{arith}
use mathlib.Core.Path.{◌≡◌, refl, ◌∙◌, ap}
use mathlib.Core.Bool.{Bool, true, false, cond}
use mathlib.Core.Option.{Option, none, some}
use mathlib.Core.List.{◌++◌}
use lib.ListN.{length, length-append}
use lib.Dec.{eqb, ltb, leb}
use borrow.Author.Tests.{eqb-true, leb-true, leb-false, le-leb}
use Rattle.form.specs.Trees.{any, Ty, leaf, built, Built, list, range, context, function, Fields, no_fields, field, Tys, no_params, param, l_null, l_boolean, l_number, l_decimal, l_string, l_temporal}
use Rattle.form.specs.Trees.{Val, v_leaf, v_range, v_list, v_context, v_function, v_built_in, v_type, v_irrelevant}
use Rattle.form.specs.Limits.{name_width}
use Rattle.form.specs.Form.{enc, enc_built, enc_fields, enc_tys, count_fields, level, level_built, level_fields, level_tys}
use Rattle.form.proofs.First.{length_front}
use Rattle.order.specs.Order.{Dir, up, down, flip, pick, Order, top, bottom, scmp}
use Rattle.order.specs.Types.{lookup, same_count, ignores, reduce, reduce_built, reduce_fields, reduce_tys, keep, insert_with, bound, bound_built, intersect_with, merge, bounds, sup, sub}
use Rattle.order.specs.Ascending.{Asc, AscBuilt, AscFields, AscTys}
use Rattle.order.specs.Size.{size, size_built, size_fields, size_tys, size_val}

-- the size is the length of the encoding
mutual
  unfolding size enc

  pub length_enc : (t : Ty) → length (enc t) ≡ size t
  length_enc (leaf s) = refl
  length_enc (built x) = length_built x

  length_built : (x : Built) → length (enc_built x) ≡ size_built x
  length_built (list t) = omega (arith, length_enc t)
  length_built (range t) = omega (arith, length_enc t)
  length_built (context fs) = omega (arith, length_fields fs, length_front 2 (count_fields fs) (enc_fields fs))
  length_built (function ts t) = omega (arith, length_tys ts, length_enc t, length-append (enc_tys ts) (enc t))

  pub length_fields : (fs : Fields) → length (enc_fields fs) ≡ size_fields fs
  length_fields no_fields = refl
  length_fields (field m t fs) = omega (arith, length_enc t, length_fields fs, length-append (enc t) (enc_fields fs), length_front name_width m (enc t ++ enc_fields fs))

  pub length_tys : (ts : Tys) → length (enc_tys ts) ≡ size_tys ts
  length_tys no_params = refl
  length_tys (param t ts) = omega (arith, length_enc t, length_tys ts, length-append (enc t) (enc_tys ts))

-- ---- lengths
size_cond : (q : Bool) (a b : Ty) (k : ℕ) → size a ≤ k → size b ≤ k → size (cond q a b) ≤ k
size_cond true a b k x y = x
size_cond false a b k x y = y

pub size_positive : (a : Ty) → 1 ≤ size a
unfolding size
size_positive (leaf s) = omega arith
size_positive (built (list t)) = omega arith
size_positive (built (range t)) = omega arith
size_positive (built (context fs)) = omega arith
size_positive (built (function ps r)) = omega arith

size_option : Option Ty → ℕ
size_option none = 0
size_option (some t) = name_width + size t

-- the length of the entries whose names are at least k
size_from : ℕ → Fields → ℕ
size_from k no_fields = 0
size_from k (field m t fs) = cond (leb k m) (name_width + size t) 0 + size_from k fs

size_from_zero : (fs : Fields) → size_from 0 fs ≡ size_fields fs
unfolding size_from size
size_from_zero no_fields = refl
size_from_zero (field m t fs) =
    ap (λ q. cond q (name_width + size t) 0 + size_from 0 fs) (le-leb 0 m (omega arith)) ∙ ap (λ x. (name_width + size t) + x) (size_from_zero fs)

-- one name taken, and the names after it
size_from_look : (n k : ℕ) (gs : Fields) → k ≤ n → size_option (lookup n gs) + size_from (suc n) gs ≤ size_from k gs
unfolding size_option size_from lookup
size_from_look n k no_fields h = omega arith
size_from_look n k (field m t gs) h =
    step (eqb n m) refl (leb (suc n) m) refl (leb k m) refl (size_from_look n k gs h)
  where
    step : (q : Bool) → eqb n m ≡ q → (x : Bool) → leb (suc n) m ≡ x → (y : Bool) → leb k m ≡ y
        → size_option (lookup n gs) + size_from (suc n) gs ≤ size_from k gs
        → size_option (cond q (some t) (lookup n gs)) + (cond x (name_width + size t) 0 + size_from (suc n) gs) ≤ cond y (name_width + size t) 0 + size_from k gs
    step true e true d y f ih = absurd (let g = eqb-true n m e in let l = leb-true (suc n) m d in omega arith)
    step true e false d true f ih = omega arith
    step true e false d false f ih = absurd (let g = eqb-true n m e in let l = leb-false k m f in omega arith)
    step false e true d true f ih = omega arith
    step false e true d false f ih = absurd (let g = leb-true (suc n) m d in let l = leb-false k m f in omega arith)
    step false e false d true f ih = omega arith
    step false e false d false f ih = omega arith

size_keep : (n : ℕ) (a : Ty) (o : Option Ty) (f : Ty → Ty) (fs : Fields) → ((b : Ty) → size (f b) ≤ size a + size b)
    → size_fields (keep n o f fs) ≤ name_width + size a + size_option o + size_fields fs
unfolding size_option size
size_keep n a none f fs h = omega arith
size_keep n a (some b) f fs h = omega (arith, h b)

size_place : (n : ℕ) (a : Ty) (f : Ty → Ty) (gs : Fields) → ((b : Ty) → size (f b) ≤ size a + size b)
    → size_fields (insert_with n a f gs) ≤ name_width + size a + size_fields gs
unfolding insert_with size
size_place n a f no_fields h = omega arith
size_place n a f (field m b gs) h = step (eqb n m) (ltb n m) (size_place n a f gs h)
  where
    step : (q l : Bool) → size_fields (insert_with n a f gs) ≤ name_width + size a + size_fields gs
        → size_fields (cond q (field m (f b) gs) (cond l (field n a (field m b gs)) (field m b (insert_with n a f gs)))) ≤ name_width + size a + (name_width + size b + size_fields gs)
    step true l ih = omega (arith, h b)
    step false true ih = omega arith
    step false false ih = omega arith

module _ (O : Order) where
  size_pick : (d : Dir) (fs gs : Fields) (k : ℕ) → size_fields fs ≤ k → size_fields gs ≤ k → size_fields (pick d fs gs) ≤ k
  size_pick up fs gs k x y = x
  size_pick down fs gs k x y = y

  mutual
    unfolding size bound Asc

    pub size_bound : (d : Dir) (a b : Ty) → Asc a → size (bound O d a b) ≤ size a + size b
    size_bound d (leaf s) (leaf t) v = omega arith
    size_bound d (leaf s) (built y) v =
        size_cond (scmp O d s (bottom d)) (built y) (leaf (top d)) (1 + size_built y) (omega arith) (omega arith)
    size_bound d (built x) (leaf t) v =
        size_cond (scmp O d t (bottom d)) (built x) (leaf (top d)) (size_built x + 1) (omega arith) (omega arith)
    size_bound d (built x) (built y) v = size_bound_built d x y v

    size_bound_built : (d : Dir) (x y : Built) → AscBuilt x → size (bound_built O d x y) ≤ size_built x + size_built y
    size_bound_built d (list a) (list b) v = omega (arith, size_bound d a b v)
    size_bound_built d (list a) (range b) v = omega arith
    size_bound_built d (list a) (context gs) v = omega arith
    size_bound_built d (list a) (function qs s) v = omega arith
    size_bound_built d (range a) (list b) v = omega arith
    size_bound_built d (range a) (range b) v = omega (arith, size_bound d a b v)
    size_bound_built d (range a) (context gs) v = omega arith
    size_bound_built d (range a) (function qs s) v = omega arith
    size_bound_built d (context fs) (list b) v = omega arith
    size_bound_built d (context fs) (range b) v = omega arith
    size_bound_built d (context fs) (context gs) v =
        let x = size_pick d (intersect_with O fs gs) (merge O fs gs) (size_fields fs + size_fields gs)
        (omega (arith, size_common fs gs 0 v, size_from_zero gs)) (size_merge fs gs 0 v) in
        omega arith
    size_bound_built d (context fs) (function qs s) v = omega arith
    size_bound_built d (function ps r) (list b) v = omega arith
    size_bound_built d (function ps r) (range b) v = omega arith
    size_bound_built d (function ps r) (context gs) v = omega arith
    size_bound_built d (function ps r) (function qs s) v =
        size_cond (same_count ps qs) (built (function (bounds O (flip d) ps qs) (bound O d r s))) (leaf (top d))
        (2 + size_tys ps + size r + (2 + size_tys qs + size s))
        (omega (arith, size_bounds (flip d) ps qs v.0, size_bound d r s v.1)) (omega arith)

    size_common : (fs gs : Fields) (k : ℕ) → AscFields fs k → size_fields (intersect_with O fs gs) ≤ size_fields fs + size_from k gs
    size_common no_fields gs k v = omega arith
    size_common (field n a fs) gs k v =
        let x = size_common fs gs (suc n) v.2 in
        let y = size_keep n a (lookup n gs) (λ b. bound O up a b) (intersect_with O fs gs) (λ b. size_bound up a b v.1) in
        let z = size_from_look n k gs v.0 in
        omega arith

    size_merge : (fs gs : Fields) (k : ℕ) → AscFields fs k → size_fields (merge O fs gs) ≤ size_fields fs + size_fields gs
    size_merge no_fields gs k v = omega arith
    size_merge (field n a fs) gs k v =
        let x = size_merge fs gs (suc n) v.2 in
        let y = size_place n a (λ b. bound O down a b) (merge O fs gs) (λ b. size_bound down a b v.1) in
        omega arith

    size_bounds : (d : Dir) (ps qs : Tys) → AscTys ps → size_tys (bounds O d ps qs) ≤ size_tys ps + size_tys qs
    size_bounds d no_params no_params v = omega arith
    size_bounds d no_params (param b qs) v = omega arith
    size_bounds d (param a ps) no_params v = omega arith
    size_bounds d (param a ps) (param b qs) v = omega (arith, size_bound d a b v.0, size_bounds d ps qs v.1)

  mutual
    unfolding size reduce

    pub size_reduce : (a : Ty) → size (reduce O a) ≤ size a
    size_reduce (leaf s) = omega arith
    size_reduce (built x) = size_reduce_built x

    size_reduce_built : (x : Built) → size_built (reduce_built O x) ≤ size_built x
    size_reduce_built (list a) = omega (arith, size_reduce a)
    size_reduce_built (range a) = omega (arith, size_reduce a)
    size_reduce_built (context fs) = omega (arith, size_reduce_fields fs)
    size_reduce_built (function ps r) =
        let x = size_cond (ignores O ps) (leaf any) (reduce O r) (size r) (size_positive r) (size_reduce r) in
        omega (arith, size_reduce_tys ps)

    size_reduce_fields : (fs : Fields) → size_fields (reduce_fields O fs) ≤ size_fields fs
    size_reduce_fields no_fields = omega arith
    size_reduce_fields (field n a fs) = omega (arith, size_reduce a, size_reduce_fields fs)

    size_reduce_tys : (ps : Tys) → size_tys (reduce_tys O ps) ≤ size_tys ps
    size_reduce_tys no_params = omega arith
    size_reduce_tys (param a ps) = omega (arith, size_reduce a, size_reduce_tys ps)

  -- an answer is never longer than the two inputs together
  pub size_sup : (a b : Ty) → Asc a → size (sup O a b) ≤ size a + size b
  size_sup a b v = omega (arith, size_reduce (bound O up a b), size_bound up a b v)

  pub size_sub : (a b : Ty) → Asc a → size (sub O a b) ≤ size a + size b
  size_sub a b v = omega (arith, size_reduce (bound O down a b), size_bound down a b v)

-- ---- levels
level_cond : (q : Bool) (a b : Ty) (k : ℕ) → level a ≤ k → level b ≤ k → level (cond q a b) ≤ k
level_cond true a b k x y = x
level_cond false a b k x y = y

pub size_val_positive : (v : Val) → 1 ≤ size_val v
unfolding size_val
size_val_positive (v_leaf (l_null x)) = omega arith
size_val_positive (v_leaf (l_boolean x)) = omega arith
size_val_positive (v_leaf (l_number x)) = omega arith
size_val_positive (v_leaf (l_decimal x p)) = omega arith
size_val_positive (v_leaf (l_string x)) = omega arith
size_val_positive (v_leaf (l_temporal k x)) = omega arith
size_val_positive (v_range i j v w) = omega arith
size_val_positive (v_list vs) = omega arith
size_val_positive (v_context es) = omega arith
size_val_positive (v_function ps b r) = omega arith
size_val_positive (v_built_in x) = omega arith
size_val_positive (v_type t) = omega arith
size_val_positive v_irrelevant = omega arith

pub level_positive : (a : Ty) → 1 ≤ level a
unfolding level
level_positive (leaf s) = omega arith
level_positive (built (list t)) = omega arith
level_positive (built (range t)) = omega arith
level_positive (built (context fs)) = omega arith
level_positive (built (function ps r)) = omega arith

level_option : Option Ty → ℕ
level_option none = 0
level_option (some t) = level t

level_look : (n : ℕ) (gs : Fields) → level_option (lookup n gs) ≤ level_fields gs
unfolding level_option level lookup
level_look n no_fields = omega arith
level_look n (field m t gs) = step (eqb n m) (level_look n gs)
  where
    step : (q : Bool) → level_option (lookup n gs) ≤ level_fields gs → level_option (cond q (some t) (lookup n gs)) ≤ max (level t) (level_fields gs)
    step true h = omega arith
    step false h = omega arith

level_keep : (n : ℕ) (a : Ty) (o : Option Ty) (f : Ty → Ty) (fs : Fields) → ((b : Ty) → level (f b) ≤ max (level a) (level b))
    → level_fields (keep n o f fs) ≤ max (max (level a) (level_option o)) (level_fields fs)
unfolding level_option level
level_keep n a none f fs h = omega arith
level_keep n a (some b) f fs h = omega (arith, h b)

level_place : (n : ℕ) (a : Ty) (f : Ty → Ty) (gs : Fields) → ((b : Ty) → level (f b) ≤ max (level a) (level b))
    → level_fields (insert_with n a f gs) ≤ max (level a) (level_fields gs)
unfolding insert_with level
level_place n a f no_fields h = omega arith
level_place n a f (field m b gs) h = step (eqb n m) (ltb n m) (level_place n a f gs h)
  where
    step : (q l : Bool) → level_fields (insert_with n a f gs) ≤ max (level a) (level_fields gs)
        → level_fields (cond q (field m (f b) gs) (cond l (field n a (field m b gs)) (field m b (insert_with n a f gs)))) ≤ max (level a) (max (level b) (level_fields gs))
    step true l ih = omega (arith, h b)
    step false true ih = omega arith
    step false false ih = omega arith

level_pick : (d : Dir) (fs gs : Fields) (k : ℕ) → level_fields fs ≤ k → level_fields gs ≤ k → level_fields (pick d fs gs) ≤ k
level_pick up fs gs k x y = x
level_pick down fs gs k x y = y

module _ (O : Order) where
  mutual
    unfolding level bound

    pub level_bound : (d : Dir) (a b : Ty) → level (bound O d a b) ≤ max (level a) (level b)
    level_bound d (leaf s) (leaf t) = omega arith
    level_bound d (leaf s) (built y) =
        level_cond (scmp O d s (bottom d)) (built y) (leaf (top d)) (max 1 (suc (level_built y))) (omega arith) (omega arith)
    level_bound d (built x) (leaf t) =
        level_cond (scmp O d t (bottom d)) (built x) (leaf (top d)) (max (suc (level_built x)) 1) (omega arith) (omega arith)
    level_bound d (built x) (built y) = level_bound_built d x y

    level_bound_built : (d : Dir) (x y : Built) → level (bound_built O d x y) ≤ max (suc (level_built x)) (suc (level_built y))
    level_bound_built d (list a) (list b) = omega (arith, level_bound d a b)
    level_bound_built d (list a) (range b) = omega arith
    level_bound_built d (list a) (context gs) = omega arith
    level_bound_built d (list a) (function qs s) = omega arith
    level_bound_built d (range a) (list b) = omega arith
    level_bound_built d (range a) (range b) = omega (arith, level_bound d a b)
    level_bound_built d (range a) (context gs) = omega arith
    level_bound_built d (range a) (function qs s) = omega arith
    level_bound_built d (context fs) (list b) = omega arith
    level_bound_built d (context fs) (range b) = omega arith
    level_bound_built d (context fs) (context gs) =
        let x = level_pick d (intersect_with O fs gs) (merge O fs gs) (max (level_fields fs) (level_fields gs)) (level_common fs gs) (level_merge fs gs) in
        omega arith
    level_bound_built d (context fs) (function qs s) = omega arith
    level_bound_built d (function ps r) (list b) = omega arith
    level_bound_built d (function ps r) (range b) = omega arith
    level_bound_built d (function ps r) (context gs) = omega arith
    level_bound_built d (function ps r) (function qs s) =
        level_cond (same_count ps qs) (built (function (bounds O (flip d) ps qs) (bound O d r s))) (leaf (top d))
        (max (suc (max (level_tys ps) (level r))) (suc (max (level_tys qs) (level s))))
        (omega (arith, level_bounds (flip d) ps qs, level_bound d r s)) (omega arith)

    level_common : (fs gs : Fields) → level_fields (intersect_with O fs gs) ≤ max (level_fields fs) (level_fields gs)
    level_common no_fields gs = omega arith
    level_common (field n a fs) gs =
        let x = level_common fs gs in
        let y = level_keep n a (lookup n gs) (λ b. bound O up a b) (intersect_with O fs gs) (λ b. level_bound up a b) in
        let z = level_look n gs in
        omega arith

    level_merge : (fs gs : Fields) → level_fields (merge O fs gs) ≤ max (level_fields fs) (level_fields gs)
    level_merge no_fields gs = omega arith
    level_merge (field n a fs) gs =
        let x = level_merge fs gs in
        let y = level_place n a (λ b. bound O down a b) (merge O fs gs) (λ b. level_bound down a b) in
        omega arith

    level_bounds : (d : Dir) (ps qs : Tys) → level_tys (bounds O d ps qs) ≤ max (level_tys ps) (level_tys qs)
    level_bounds d no_params no_params = omega arith
    level_bounds d no_params (param b qs) = omega arith
    level_bounds d (param a ps) no_params = omega arith
    level_bounds d (param a ps) (param b qs) = omega (arith, level_bound d a b, level_bounds d ps qs)

  mutual
    unfolding level reduce

    pub level_reduce : (a : Ty) → level (reduce O a) ≤ level a
    level_reduce (leaf s) = omega arith
    level_reduce (built x) = omega (arith, level_reduce_built x)

    level_reduce_built : (x : Built) → level_built (reduce_built O x) ≤ level_built x
    level_reduce_built (list a) = omega (arith, level_reduce a)
    level_reduce_built (range a) = omega (arith, level_reduce a)
    level_reduce_built (context fs) = omega (arith, level_reduce_fields fs)
    level_reduce_built (function ps r) =
        let x = level_cond (ignores O ps) (leaf any) (reduce O r) (level r) (level_positive r) (level_reduce r) in
        omega (arith, level_reduce_tys ps)

    level_reduce_fields : (fs : Fields) → level_fields (reduce_fields O fs) ≤ level_fields fs
    level_reduce_fields no_fields = omega arith
    level_reduce_fields (field n a fs) = omega (arith, level_reduce a, level_reduce_fields fs)

    level_reduce_tys : (ps : Tys) → level_tys (reduce_tys O ps) ≤ level_tys ps
    level_reduce_tys no_params = omega arith
    level_reduce_tys (param a ps) = omega (arith, level_reduce a, level_reduce_tys ps)

  -- nor deeper than the deeper one
  pub level_sup : (a b : Ty) → level (sup O a b) ≤ max (level a) (level b)
  level_sup a b = omega (arith, level_reduce (bound O up a b), level_bound up a b)

  pub level_sub : (a b : Ty) → level (sub O a b) ≤ max (level a) (level b)
  level_sub a b = omega (arith, level_reduce (bound O down a b), level_bound down a b)
