-- FEEL's own definition of conformance (DMN): the result of a function counts, also where there are no parameters. It is the strict reading; DMN's rules, one by one,
-- admit no other relation. And where that differs from document 01's relation: at the results of two functions without parameters.
-- Assumes nothing.
use Rattle.std.specs.Prelude.{ℕ, ◌≡◌, Bool, true, false, cond, ◌&&◌, ◌↔◌, eqb}
use Rattle.std.proofs.Math.Option.{Option, none, some}
use Rattle.form.specs.Trees.{Simple, any, null, Ty, leaf, built, Built, list, range, context, function, Fields, no_fields, field, Tys, no_params, param, Params}
use Rattle.order.specs.Order.{Dir, up, down, flip, pick, strict_order}
use Rattle.order.specs.Types.{lookup, found, all_fields, empty, kind, cmp, le}
use Rattle.order.specs.Values.{types_of}

-- A ≤ B by DMN
abbrev pub dmn_conforms_to : Ty → Ty → Bool
dmn_conforms_to a b = le strict_order a b

-- equal counts, and each pair passes the test
unfoldable pub all_pairs : (Ty → Ty → Bool) → Tys → Tys → Bool
all_pairs c no_params no_params = true
all_pairs c no_params (param b qs) = false
all_pairs c (param a ps) no_params = false
all_pairs c (param a ps) (param b qs) = c a b && all_pairs c ps qs

-- DMN's rules, of a relation `c` between types of any size
pub record DmnRules (c : Ty → Ty → Bool) : Type 0 where
  -- Null conforms to every type, and every type to Any
  pub null_below : (t : Ty) → c (leaf null) t ≡ true
  pub below_any : (t : Ty) → c t (leaf any) ≡ true
  -- a simple type conforms otherwise to itself alone, and no list, range, context or function to a simple type
  pub simple_types : (s t : Simple) → (s ≡ null → ⊥) → (t ≡ any → ⊥) → (c (leaf s) (leaf t) ≡ true) ↔ (s ≡ t)
  pub simple_built : (s : Simple) (y : Built) → (s ≡ null → ⊥) → c (leaf s) (built y) ≡ false
  pub built_simple : (x : Built) (t : Simple) → (t ≡ any → ⊥) → c (built x) (leaf t) ≡ false
  -- list<T> conforms to list<S> exactly when T conforms to S; range likewise
  pub lists : (a b : Ty) → c (built (list a)) (built (list b)) ≡ c a b
  pub ranges : (a b : Ty) → c (built (range a)) (built (range b)) ≡ c a b
  -- a context conforms to another exactly when it has each name of the other, with a type that conforms to the other's
  pub contexts : (fs gs : Fields) → c (built (context fs)) (built (context gs)) ≡ all_fields (λ n t. found (lookup n fs) (λ a. c a t)) gs
  -- a function conforms to another exactly when they have equally many parameters, each of the other's conforms to its own, and its result conforms to the other's
  pub functions : (ps qs : Tys) (r s : Ty) → c (built (function ps r)) (built (function qs s)) ≡ all_pairs c qs ps && c r s
  -- nothing else conforms
  pub unlike_kinds : (x y : Built) → (kind x ≡ kind y → ⊥) → c (built x) (built y) ≡ false

-- the strict reading meets DMN's rules, and every relation that meets them is the strict reading
pub record DmnReading : Type 0 where
  pub rules : DmnRules dmn_conforms_to
  pub only : (c : Ty → Ty → Bool) → DmnRules c → (a b : Ty) → c a b ≡ dmn_conforms_to a b

-- the test, where there is something to test
abbrev pub if_found {ℓ} : {A : Type ℓ} → Option A → (A → Bool) → Bool
if_found none f = true
if_found (some a) f = f a

-- In a comparison of two types, where two functions without parameters meet: DMN's conformance of their results. Every other place only looks
-- further inside, and says true where nothing is inside. (`results up a b` is for a ≤ b, and `results down a b` for b ≤ a.)
unfoldable mutual
  pub results : Dir → Ty → Ty → Bool
  results d (leaf s) b = true
  results d (built x) (leaf t) = true
  results d (built x) (built y) = results_built d x y

  pub results_built : Dir → Built → Built → Bool
  results_built d (list a) (list b) = results d a b
  results_built d (list a) (range b) = true
  results_built d (list a) (context gs) = true
  results_built d (list a) (function qs s) = true
  results_built d (range a) (list b) = true
  results_built d (range a) (range b) = results d a b
  results_built d (range a) (context gs) = true
  results_built d (range a) (function qs s) = true
  results_built d (context fs) (list b) = true
  results_built d (context fs) (range b) = true
  results_built d (context fs) (context gs) = pick d (all_fields (λ n t. results_has fs n t) gs) (results_within fs gs)
  results_built d (context fs) (function qs s) = true
  results_built d (function ps r) (list b) = true
  results_built d (function ps r) (range b) = true
  results_built d (function ps r) (context gs) = true
  results_built d (function ps r) (function qs s) = results_tys (flip d) ps qs && cond (empty ps && empty qs) (cmp strict_order d r s) (results d r s)

  -- a name of the second context, where the first has it
  pub results_has : Fields → ℕ → Ty → Bool
  results_has no_fields n t = true
  results_has (field m a fs) n t = cond (eqb n m) (results up a t) (results_has fs n t)

  -- each name of the first context, where the second has it
  pub results_within : Fields → Fields → Bool
  results_within no_fields gs = true
  results_within (field n a fs) gs = if_found (lookup n gs) (λ b. results down a b) && results_within fs gs

  pub results_tys : Dir → Tys → Tys → Bool
  results_tys d no_params qs = true
  results_tys d (param a ps) no_params = true
  results_tys d (param a ps) (param b qs) = results d a b && results_tys d ps qs

-- wherever two functions without parameters meet in the comparison A ≤ B, the result of the one conforms to that of the other by DMN, in the direction compared there
abbrev pub results_conform : Ty → Ty → Bool
results_conform a b = results up a b

-- a function definition by DMN: as its function type
abbrev pub definition_type : Params → Ty → Ty
definition_type ps r = built (function (types_of ps) r)

-- at least one parameter
abbrev pub Some : Tys → Type 0
Some no_params = ⊥
Some (param t ps) = Unit {0}

-- every function, at every depth, has a parameter
unfoldable mutual
  pub Parameters : Ty → Type 0
  Parameters (leaf s) = Unit {0}
  Parameters (built x) = ParametersBuilt x

  pub ParametersBuilt : Built → Type 0
  ParametersBuilt (list t) = Parameters t
  ParametersBuilt (range t) = Parameters t
  ParametersBuilt (context fs) = ParametersFields fs
  ParametersBuilt (function ps r) = Some ps × (ParametersTys ps × Parameters r)

  pub ParametersFields : Fields → Type 0
  ParametersFields no_fields = Unit {0}
  ParametersFields (field n t fs) = Parameters t × ParametersFields fs

  pub ParametersTys : Tys → Type 0
  ParametersTys no_params = Unit {0}
  ParametersTys (param t ps) = Parameters t × ParametersTys ps
