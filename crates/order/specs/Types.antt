-- Conformance, reduced form, common supertype and subtype, over an order among the simple types.
-- Assumes nothing.
use Rattle.std.specs.Prelude.{ℕ, Bool, true, false, not, cond, ◌&&◌, ◌||◌, eqb, ltb}
use Rattle.std.proofs.Math.Option.{Option, none, some}
use Rattle.form.specs.Trees.{any, Ty, leaf, built, Built, list, range, context, function, Fields, no_fields, field, Tys, no_params, param}
use Rattle.order.specs.Order.{Dir, up, down, flip, pick, Order, top, bottom, scmp, sbound}

-- the type of a name in a context type
unfoldable pub lookup : ℕ → Fields → Option Ty
lookup n no_fields = none
lookup n (field m t fs) = cond (eqb n m) (some t) (lookup n fs)

abbrev pub found {ℓ} : {A : Type ℓ} → Option A → (A → Bool) → Bool
found none f = false
found (some a) f = f a

unfoldable pub all_fields : (ℕ → Ty → Bool) → Fields → Bool
all_fields f no_fields = true
all_fields f (field n t fs) = f n t && all_fields f fs

abbrev pub empty : Tys → Bool
empty no_params = true
empty (param t ps) = false

unfoldable pub same_count : Tys → Tys → Bool
same_count no_params no_params = true
same_count no_params (param b qs) = false
same_count (param a ps) no_params = false
same_count (param a ps) (param b qs) = same_count ps qs

-- which of the four built kinds
abbrev pub kind : Built → ℕ
kind (list a) = 0
kind (range a) = 1
kind (context fs) = 2
kind (function ps r) = 3

module _ (O : Order) where
  -- whether the result of a function type with these parameters is ignored
  abbrev pub ignores : Tys → Bool
  ignores ps = not O.strict && empty ps

  -- Conformance: `cmp up a b` is a ≤ b, and `cmp down a b` is b ≤ a, by recursion on the first type.
  unfoldable mutual
    pub cmp : Dir → Ty → Ty → Bool
    cmp d (leaf s) (leaf t) = scmp O d s t
    cmp d (leaf s) (built y) = scmp O d s (bottom d)
    cmp d (built x) (leaf t) = scmp O d (top d) t
    cmp d (built x) (built y) = cmp_built d x y

    pub cmp_built : Dir → Built → Built → Bool
    cmp_built d (list a) (list b) = cmp d a b
    cmp_built d (list a) (range b) = false
    cmp_built d (list a) (context gs) = false
    cmp_built d (list a) (function qs s) = false
    cmp_built d (range a) (list b) = false
    cmp_built d (range a) (range b) = cmp d a b
    cmp_built d (range a) (context gs) = false
    cmp_built d (range a) (function qs s) = false
    cmp_built d (context fs) (list b) = false
    cmp_built d (context fs) (range b) = false
    cmp_built d (context fs) (context gs) = pick d (all_fields (λ n t. has fs n t) gs) (within fs gs)
    cmp_built d (context fs) (function qs s) = false
    cmp_built d (function ps r) (list b) = false
    cmp_built d (function ps r) (range b) = false
    cmp_built d (function ps r) (context gs) = false
    cmp_built d (function ps r) (function qs s) = cmps (flip d) ps qs && (ignores ps || cmp d r s)

    -- the context has the name, with a type that conforms to t
    pub has : Fields → ℕ → Ty → Bool
    has no_fields n t = false
    has (field m a fs) n t = cond (eqb n m) (cmp up a t) (has fs n t)

    -- each name of the first is in the second, with a type that conforms to the first's
    pub within : Fields → Fields → Bool
    within no_fields gs = true
    within (field n a fs) gs = found (lookup n gs) (λ b. cmp down a b) && within fs gs

    -- equal counts, and each pair compared
    pub cmps : Dir → Tys → Tys → Bool
    cmps d no_params no_params = true
    cmps d no_params (param b qs) = false
    cmps d (param a ps) no_params = false
    cmps d (param a ps) (param b qs) = cmp d a b && cmps d ps qs

  -- A ≤ B
  abbrev pub le : Ty → Ty → Bool
  le a b = cmp up a b

  -- equal counts, and each parameter of the first ≤ that of the second
  abbrev pub les : Tys → Tys → Bool
  les ps qs = cmps up ps qs

  -- Reduced form: the result of every function type without parameters becomes Any (strict: nothing changes).
  unfoldable mutual
    pub reduce : Ty → Ty
    reduce (leaf s) = leaf s
    reduce (built x) = built (reduce_built x)

    pub reduce_built : Built → Built
    reduce_built (list a) = list (reduce a)
    reduce_built (range a) = range (reduce a)
    reduce_built (context fs) = context (reduce_fields fs)
    reduce_built (function ps r) = function (reduce_tys ps) (cond (ignores ps) (leaf any) (reduce r))

    pub reduce_fields : Fields → Fields
    reduce_fields no_fields = no_fields
    reduce_fields (field n a fs) = field n (reduce a) (reduce_fields fs)

    pub reduce_tys : Tys → Tys
    reduce_tys no_params = no_params
    reduce_tys (param a ps) = param (reduce a) (reduce_tys ps)

-- keep a common name
abbrev pub keep : ℕ → Option Ty → (Ty → Ty) → Fields → Fields
keep n none f fs = fs
keep n (some b) f fs = field n (f b) fs

-- put the name n with the type a at its place; where it is there already with a type b, it gets the type f b
unfoldable pub insert_with : ℕ → Ty → (Ty → Ty) → Fields → Fields
insert_with n a f no_fields = field n a no_fields
insert_with n a f (field m b gs) = cond (eqb n m) (field m (f b) gs) (cond (ltb n m) (field n a (field m b gs)) (field m b (insert_with n a f gs)))

module _ (O : Order) where
  -- Common supertype (`up`) and subtype (`down`), before the answer is reduced.
  unfoldable mutual
    pub bound : Dir → Ty → Ty → Ty
    bound d (leaf s) (leaf t) = leaf (sbound O d s t)
    bound d (leaf s) (built y) = cond (scmp O d s (bottom d)) (built y) (leaf (top d))
    bound d (built x) (leaf t) = cond (scmp O d t (bottom d)) (built x) (leaf (top d))
    bound d (built x) (built y) = bound_built d x y

    pub bound_built : Dir → Built → Built → Ty
    bound_built d (list a) (list b) = built (list (bound d a b))
    bound_built d (list a) (range b) = leaf (top d)
    bound_built d (list a) (context gs) = leaf (top d)
    bound_built d (list a) (function qs s) = leaf (top d)
    bound_built d (range a) (list b) = leaf (top d)
    bound_built d (range a) (range b) = built (range (bound d a b))
    bound_built d (range a) (context gs) = leaf (top d)
    bound_built d (range a) (function qs s) = leaf (top d)
    bound_built d (context fs) (list b) = leaf (top d)
    bound_built d (context fs) (range b) = leaf (top d)
    bound_built d (context fs) (context gs) = built (context (pick d (intersect_with fs gs) (merge fs gs)))
    bound_built d (context fs) (function qs s) = leaf (top d)
    bound_built d (function ps r) (list b) = leaf (top d)
    bound_built d (function ps r) (range b) = leaf (top d)
    bound_built d (function ps r) (context gs) = leaf (top d)
    bound_built d (function ps r) (function qs s) =
        cond (same_count ps qs) (built (function (bounds (flip d) ps qs) (bound d r s))) (leaf (top d))

    -- the common names, each at its supertype
    pub intersect_with : Fields → Fields → Fields
    intersect_with no_fields gs = no_fields
    intersect_with (field n a fs) gs = keep n (lookup n gs) (λ b. bound up a b) (intersect_with fs gs)

    -- all names, common ones at their subtype
    pub merge : Fields → Fields → Fields
    merge no_fields gs = gs
    merge (field n a fs) gs = insert_with n a (λ b. bound down a b) (merge fs gs)

    pub bounds : Dir → Tys → Tys → Tys
    bounds d no_params no_params = no_params
    bounds d no_params (param b qs) = no_params
    bounds d (param a ps) no_params = no_params
    bounds d (param a ps) (param b qs) = param (bound d a b) (bounds d ps qs)

  abbrev pub sup : Ty → Ty → Ty
  sup a b = reduce O (bound up a b)

  abbrev pub sub : Ty → Ty → Ty
  sub a b = reduce O (bound down a b)

  -- reduced: the entries of the supertype and of the subtype of two contexts, the supertypes and the subtypes of two parameter lists
  abbrev pub sup_fields : Fields → Fields → Fields
  sup_fields fs gs = reduce_fields O (intersect_with fs gs)

  abbrev pub sub_fields : Fields → Fields → Fields
  sub_fields fs gs = reduce_fields O (merge fs gs)

  abbrev pub sup_tys : Tys → Tys → Tys
  sup_tys ps qs = reduce_tys O (bounds up ps qs)

  abbrev pub sub_tys : Tys → Tys → Tys
  sub_tys ps qs = reduce_tys O (bounds down ps qs)
