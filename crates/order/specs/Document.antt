-- Document 01's own relation, under short names; type equality and `instance_of`.
-- Assumes nothing.
use Rattle.std.specs.Prelude.{Bool, true, false, ◌&&◌, ◌||◌, eqb}
use Rattle.form.specs.Trees.{any, null, code, Ty, leaf, built, Built, list, range, context, function, Fields, no_fields, field, Tys, no_params, param}
use Rattle.order.specs.Order.{fixed}
use Rattle.order.specs.Types.{lookup, found, all_fields, le, reduce, sup, sub}

-- A ≤ B: `FeelType::is_conformant`
abbrev pub conforms_to : Ty → Ty → Bool
conforms_to a b = le fixed a b

-- Reduced form
abbrev pub reduced_form : Ty → Ty
reduced_form t = reduce fixed t

-- Common supertype
abbrev pub supertype : Ty → Ty → Ty
supertype a b = sup fixed a b

-- Common subtype
abbrev pub subtype : Ty → Ty → Ty
subtype a b = sub fixed a b

-- ---- Type equality, as a test
unfoldable mutual
  pub eq_ty : Ty → Ty → Bool
  eq_ty (leaf s) (leaf t) = eqb (code s) (code t)
  eq_ty (leaf s) (built y) = false
  eq_ty (built x) (leaf t) = false
  eq_ty (built x) (built y) = eq_built x y

  pub eq_built : Built → Built → Bool
  eq_built (list a) (list b) = eq_ty a b
  eq_built (list a) (range b) = false
  eq_built (list a) (context gs) = false
  eq_built (list a) (function qs s) = false
  eq_built (range a) (list b) = false
  eq_built (range a) (range b) = eq_ty a b
  eq_built (range a) (context gs) = false
  eq_built (range a) (function qs s) = false
  eq_built (context fs) (list b) = false
  eq_built (context fs) (range b) = false
  eq_built (context fs) (context gs) = eq_fields fs gs
  eq_built (context fs) (function qs s) = false
  eq_built (function ps r) (list b) = false
  eq_built (function ps r) (range b) = false
  eq_built (function ps r) (context gs) = false
  eq_built (function ps r) (function qs s) = eq_tys ps qs && eq_ty r s

  pub eq_fields : Fields → Fields → Bool
  eq_fields no_fields no_fields = true
  eq_fields no_fields (field m b gs) = false
  eq_fields (field n a fs) no_fields = false
  eq_fields (field n a fs) (field m b gs) = eqb n m && (eq_ty a b && eq_fields fs gs)

  pub eq_tys : Tys → Tys → Bool
  eq_tys no_params no_params = true
  eq_tys no_params (param b qs) = false
  eq_tys (param a ps) no_params = false
  eq_tys (param a ps) (param b qs) = eq_ty a b && eq_tys ps qs

-- ---- `instance_of`: lists with equal inner types or other inner Any; contexts when equal, or each name of the other is in self with Null or
-- the equal type; otherwise no
abbrev pub null_or_same : Ty → Ty → Bool
null_or_same a t = eq_ty a (leaf null) || eq_ty a t

unfoldable pub instance_built : Built → Built → Bool
instance_built (list a) (list b) = eq_ty a b || eq_ty b (leaf any)
instance_built (list a) (range b) = false
instance_built (list a) (context gs) = false
instance_built (list a) (function qs s) = false
instance_built (range a) y = false
instance_built (context fs) (list b) = false
instance_built (context fs) (range b) = false
instance_built (context fs) (context gs) = eq_fields fs gs || all_fields (λ n t. found (lookup n fs) (λ a. null_or_same a t)) gs
instance_built (context fs) (function qs s) = false
instance_built (function ps r) y = false

unfoldable pub is_instance_of : Ty → Ty → Bool
is_instance_of (leaf s) t = false
is_instance_of (built x) (leaf t) = false
is_instance_of (built x) (built y) = instance_built x y
