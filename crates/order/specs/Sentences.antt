-- Document 01's sentences from "Type against type" to "Type as the Rust infers it", one by one and in its order, at its own relation. What it says there of reduced
-- answers, of their length and of demand 3 is in specs/Theorems.antt and specs/ValueTheorems.antt; scratch and refusals are in the calls, examples in crate vote.
-- Assumes nothing.
use Rattle.std.specs.Prelude.{ℕ, ◌≡◌, Bool, true, false, cond, ◌&&◌, ◌||◌, ◌↔◌, eqb}
use Rattle.std.proofs.Math.Option.{Option, none, some}
use Rattle.form.specs.Trees.{Simple, any, null, Ty, leaf, built, Built, list, range, context, function, Fields, no_fields, field, Tys, no_params, param, Leaf, l_null, Params, Val, v_leaf}
use Rattle.form.specs.Trees.{v_range, v_list, v_context, v_function, v_built_in, v_type, v_irrelevant, Vals, no_items, item, Entries, no_entries, entry}
use Rattle.form.specs.Form.{enc, Wf}
use Rattle.order.specs.Order.{fixed}
use Rattle.order.specs.Types.{lookup, found, all_fields, empty, same_count, kind, les, sup_fields, sub_fields}
use Rattle.order.specs.Ascending.{AscFields}
use Rattle.order.specs.Document.{conforms_to, reduced_form, supertype, subtype, eq_ty, is_instance_of}
use Rattle.order.specs.Values.{leaf_type, types_of, has_value}
use Rattle.order.specs.Inferred.{value_conforms_to, is_data, least_type, type_of}

-- ---- words of the sentences
-- each type of a context type, of a parameter list, of two parameter lists of one count
unfoldable pub each_field : (Ty → Ty) → Fields → Fields
each_field f no_fields = no_fields
each_field f (field n t fs) = field n (f t) (each_field f fs)

unfoldable pub each_parameter : (Ty → Ty) → Tys → Tys
each_parameter f no_params = no_params
each_parameter f (param t ps) = param (f t) (each_parameter f ps)

unfoldable pub each_pair : (Ty → Ty → Ty) → Tys → Tys → Tys
each_pair f no_params qs = no_params
each_pair f (param a ps) no_params = no_params
each_pair f (param a ps) (param b qs) = param (f a b) (each_pair f ps qs)

-- a name that two contexts have, by its two types
abbrev pub in_both : (Ty → Ty → Ty) → Option Ty → Option Ty → Option Ty
in_both f none o = none
in_both f (some a) none = none
in_both f (some a) (some b) = some (f a b)

-- a name that one of two contexts has: by both types, or by the only one
abbrev pub in_either : (Ty → Ty → Ty) → (Ty → Ty) → Option Ty → Option Ty → Option Ty
in_either f g none none = none
in_either f g none (some b) = some (g b)
in_either f g (some a) none = some (g a)
in_either f g (some a) (some b) = some (f a b)

-- every item, every entry of a context, the types of a context's values, the items taken together from the left
unfoldable pub all_items : (Val → Bool) → Vals → Bool
all_items f no_items = true
all_items f (item v vs) = f v && all_items f vs

unfoldable pub all_entries : (Val → Bool) → Entries → Bool
all_entries f no_entries = true
all_entries f (entry n v es) = f v && all_entries f es

unfoldable pub each_entry : (Val → Ty) → Entries → Fields
each_entry f no_entries = no_fields
each_entry f (entry n v es) = field n (f v) (each_entry f es)

unfoldable pub from_left : (Ty → Val → Ty) → Ty → Vals → Ty
from_left f t no_items = t
from_left f t (item v vs) = from_left f (f t v) vs

-- ---- Type against type
pub record TypeSentences : Type 0 where
  -- Null ≤ everything
  pub null_below : (t : Ty) → conforms_to (leaf null) t ≡ true
  -- everything ≤ Any
  pub below_any : (t : Ty) → conforms_to t (leaf any) ≡ true
  -- simple types only to themselves
  pub simple_types : (s t : Simple) → (s ≡ null → ⊥) → (t ≡ any → ⊥) → (conforms_to (leaf s) (leaf t) ≡ true) ↔ (s ≡ t)
  pub simple_built : (s : Simple) (y : Built) → (s ≡ null → ⊥) → conforms_to (leaf s) (built y) ≡ false
  pub built_simple : (x : Built) (t : Simple) → (t ≡ any → ⊥) → conforms_to (built x) (leaf t) ≡ false
  -- List and Range by their inner type
  pub lists : (a b : Ty) → conforms_to (built (list a)) (built (list b)) ≡ conforms_to a b
  pub ranges : (a b : Ty) → conforms_to (built (range a)) (built (range b)) ≡ conforms_to a b
  -- Context: each name of B is in A with A's type ≤ B's
  pub contexts : (fs gs : Fields) → conforms_to (built (context fs)) (built (context gs)) ≡ all_fields (λ n t. found (lookup n fs) (λ a. conforms_to a t)) gs
  -- Function: equal parameter counts, each parameter of B ≤ that of A, result of A ≤ that of B
  pub functions : (ps qs : Tys) (r s : Ty) → empty ps ≡ false
      → conforms_to (built (function ps r)) (built (function qs s)) ≡ les fixed qs ps && conforms_to r s
  -- (les: the counts are equal, and each of the first ≤ that of the second)
  pub counts : (ps qs : Tys) → same_count ps qs ≡ false → les fixed ps qs ≡ false
  pub no_parameters : les fixed no_params no_params ≡ true
  pub parameters : (a b : Ty) (ps qs : Tys) → les fixed (param a ps) (param b qs) ≡ conforms_to a b && les fixed ps qs
  -- with no parameters the Rust never looks at the result
  pub plain_functions : (qs : Tys) (r s : Ty) → conforms_to (built (function no_params r)) (built (function qs s)) ≡ empty qs
  -- (unlike kinds: no)
  pub unlike_kinds : (x y : Built) → (kind x ≡ kind y → ⊥) → conforms_to (built x) (built y) ≡ false
  -- Reduced form: the result of every parameterless function, at every depth, becomes Any
  pub reduced_plain : (r : Ty) → reduced_form (built (function no_params r)) ≡ built (function no_params (leaf any))
  pub reduced_function : (ps : Tys) (r : Ty) → empty ps ≡ false → reduced_form (built (function ps r)) ≡ built (function (each_parameter reduced_form ps) (reduced_form r))
  pub reduced_simple : (s : Simple) → reduced_form (leaf s) ≡ leaf s
  pub reduced_list : (t : Ty) → reduced_form (built (list t)) ≡ built (list (reduced_form t))
  pub reduced_range : (t : Ty) → reduced_form (built (range t)) ≡ built (range (reduced_form t))
  pub reduced_context : (fs : Fields) → reduced_form (built (context fs)) ≡ built (context (each_field reduced_form fs))
  -- type equality is byte equality
  pub equal_bytes : (t u : Ty) → Wf t → Wf u → (eq_ty t u ≡ true) ↔ (enc t ≡ enc u)

-- ---- Common supertype and subtype
pub record SupertypeSentences : Type 0 where
  -- Null with T gives T (answers are reduced)
  pub null_with_lem : (t : Ty) → supertype (leaf null) t ≡ reduced_form t
  pub with_null : (t : Ty) → supertype t (leaf null) ≡ reduced_form t
  -- equal simple types give that type
  pub equal_simple : (s : Simple) → supertype (leaf s) (leaf s) ≡ leaf s
  -- List, Range by inner type
  pub lists : (a b : Ty) → supertype (built (list a)) (built (list b)) ≡ built (list (supertype a b))
  pub ranges : (a b : Ty) → supertype (built (range a)) (built (range b)) ≡ built (range (supertype a b))
  -- contexts keep common names, each at its supertype
  pub contexts : (fs gs : Fields) → supertype (built (context fs)) (built (context gs)) ≡ built (context (sup_fields fixed fs gs))
  pub common_names : (n : ℕ) (fs gs : Fields) → lookup n (sup_fields fixed fs gs) ≡ in_both supertype (lookup n fs) (lookup n gs)
  -- functions of equal count above 0 take subtypes of parameters and supertype of results
  pub functions : (ps qs : Tys) (r s : Ty) → same_count ps qs ≡ true → empty ps ≡ false
      → supertype (built (function ps r)) (built (function qs s)) ≡ built (function (each_pair subtype ps qs) (supertype r s))
  -- of count 0, function to Any
  pub plain_functions : (r s : Ty) → supertype (built (function no_params r)) (built (function no_params s)) ≡ built (function no_params (leaf any))
  -- all else Any
  pub other_simple : (s t : Simple) → (s ≡ null → ⊥) → (t ≡ null → ⊥) → (s ≡ t → ⊥) → supertype (leaf s) (leaf t) ≡ leaf any
  pub simple_built : (s : Simple) (y : Built) → (s ≡ null → ⊥) → supertype (leaf s) (built y) ≡ leaf any
  pub built_simple : (x : Built) (t : Simple) → (t ≡ null → ⊥) → supertype (built x) (leaf t) ≡ leaf any
  pub unlike_kinds : (x y : Built) → (kind x ≡ kind y → ⊥) → supertype (built x) (built y) ≡ leaf any
  pub unlike_counts : (ps qs : Tys) (r s : Ty) → same_count ps qs ≡ false → supertype (built (function ps r)) (built (function qs s)) ≡ leaf any

pub record SubtypeSentences : Type 0 where
  -- Any with T gives T
  pub any_with : (t : Ty) → subtype (leaf any) t ≡ reduced_form t
  pub with_any : (t : Ty) → subtype t (leaf any) ≡ reduced_form t
  -- equal simple types the same
  pub equal_simple : (s : Simple) → subtype (leaf s) (leaf s) ≡ leaf s
  -- List, Range inward
  pub lists : (a b : Ty) → subtype (built (list a)) (built (list b)) ≡ built (list (subtype a b))
  pub ranges : (a b : Ty) → subtype (built (range a)) (built (range b)) ≡ built (range (subtype a b))
  -- contexts take all names, common ones at their subtype
  pub contexts : (fs gs : Fields) → subtype (built (context fs)) (built (context gs)) ≡ built (context (sub_fields fixed fs gs))
  pub all_names : (n : ℕ) (fs gs : Fields) → AscFields fs 0 → AscFields gs 0 → lookup n (sub_fields fixed fs gs) ≡ in_either subtype reduced_form (lookup n fs) (lookup n gs)
  -- functions of equal count take supertypes of parameters and subtype of results
  pub functions : (ps qs : Tys) (r s : Ty) → same_count ps qs ≡ true → empty ps ≡ false
      → subtype (built (function ps r)) (built (function qs s)) ≡ built (function (each_pair supertype ps qs) (subtype r s))
  -- of count 0 as above
  pub plain_functions : (r s : Ty) → subtype (built (function no_params r)) (built (function no_params s)) ≡ built (function no_params (leaf any))
  -- all else Null
  pub other_simple : (s t : Simple) → (s ≡ any → ⊥) → (t ≡ any → ⊥) → (s ≡ t → ⊥) → subtype (leaf s) (leaf t) ≡ leaf null
  pub simple_built : (s : Simple) (y : Built) → (s ≡ any → ⊥) → subtype (leaf s) (built y) ≡ leaf null
  pub built_simple : (x : Built) (t : Simple) → (t ≡ any → ⊥) → subtype (built x) (leaf t) ≡ leaf null
  pub unlike_kinds : (x y : Built) → (kind x ≡ kind y → ⊥) → subtype (built x) (built y) ≡ leaf null
  pub unlike_counts : (ps qs : Tys) (r s : Ty) → same_count ps qs ≡ false → subtype (built (function ps r)) (built (function qs s)) ≡ leaf null

-- ---- Value against type
pub record ValueSentences : Type 0 where
  -- target Any yes
  pub any_target : (v : Val) → value_conforms_to v (leaf any) ≡ true
  -- Null value yes
  pub null_value : (n : ℕ) (t : Ty) → value_conforms_to (v_leaf (l_null n)) t ≡ true
  -- simple kinds to their own type
  pub simple_kinds : (l : Leaf) (t : Ty) → (leaf_type l ≡ null → ⊥) → (t ≡ leaf any → ⊥) → (value_conforms_to (v_leaf l) t ≡ true) ↔ (t ≡ leaf (leaf_type l))
  -- Range both ends, against the inner type
  pub ranges : (i j : ℕ) (v w : Val) (u : Ty) → value_conforms_to (v_range i j v w) (built (range u)) ≡ value_conforms_to v u && value_conforms_to w u
  -- List every item
  pub lists : (vs : Vals) (u : Ty) → value_conforms_to (v_list vs) (built (list u)) ≡ all_items (λ v. value_conforms_to v u) vs
  -- Context every name of the type present and conformant
  pub contexts : (es : Entries) (fs : Fields) → value_conforms_to (v_context es) (built (context fs)) ≡ all_fields (λ n u. has_value fixed es n u) fs
  pub absent : (n : ℕ) (u : Ty) → has_value fixed no_entries n u ≡ false
  pub present : (n m : ℕ) (v : Val) (es : Entries) (u : Ty) → has_value fixed (entry m v es) n u ≡ cond (eqb n m) (value_conforms_to v u) (has_value fixed es n u)
  -- FunctionDefinition: equal count, result ≤ result, each own parameter ≤ the target's
  pub definitions : (ps : Params) (b : ℕ) (r : Ty) (qs : Tys) (s : Ty)
      → value_conforms_to (v_function ps b r) (built (function qs s)) ≡ les fixed (types_of ps) qs && conforms_to r s
  -- Others no
  pub other_range : (i j : ℕ) (v w : Val) (t : Ty) → (t ≡ leaf any → ⊥) → ((u : Ty) → t ≡ built (range u) → ⊥) → value_conforms_to (v_range i j v w) t ≡ false
  pub other_list : (vs : Vals) (t : Ty) → (t ≡ leaf any → ⊥) → ((u : Ty) → t ≡ built (list u) → ⊥) → value_conforms_to (v_list vs) t ≡ false
  pub other_context : (es : Entries) (t : Ty) → (t ≡ leaf any → ⊥) → ((fs : Fields) → t ≡ built (context fs) → ⊥) → value_conforms_to (v_context es) t ≡ false
  pub other_definition : (ps : Params) (b : ℕ) (r t : Ty) → (t ≡ leaf any → ⊥) → ((qs : Tys) (s : Ty) → t ≡ built (function qs s) → ⊥)
      → value_conforms_to (v_function ps b r) t ≡ false
  pub other_built_in : (n : ℕ) (t : Ty) → (t ≡ leaf any → ⊥) → value_conforms_to (v_built_in n) t ≡ false
  pub other_type : (a t : Ty) → (t ≡ leaf any → ⊥) → value_conforms_to (v_type a) t ≡ false
  pub other_irrelevant : (t : Ty) → (t ≡ leaf any → ⊥) → value_conforms_to v_irrelevant t ≡ false

-- ---- Least type
pub record LeastTypeSentences : Type 0 where
  -- data values (00 to 0B and 10 throughout)
  pub data_leaf : (l : Leaf) → is_data (v_leaf l) ≡ true
  pub data_range : (i j : ℕ) (v w : Val) → is_data (v_range i j v w) ≡ is_data v && is_data w
  pub data_list : (vs : Vals) → is_data (v_list vs) ≡ all_items is_data vs
  pub data_context : (es : Entries) → is_data (v_context es) ≡ all_entries is_data es
  pub no_definition : (ps : Params) (b : ℕ) (r : Ty) → is_data (v_function ps b r) ≡ false
  pub no_built_in : (n : ℕ) → is_data (v_built_in n) ≡ false
  pub no_type : (t : Ty) → is_data (v_type t) ≡ false
  pub no_irrelevant : is_data v_irrelevant ≡ false
  -- Leaves: their type
  pub leaves : (l : Leaf) → least_type (v_leaf l) ≡ leaf (leaf_type l)
  -- Context: each name with its value's least type
  pub contexts : (es : Entries) → least_type (v_context es) ≡ built (context (each_entry least_type es))
  -- List: List of the supertype of all items' least types, starting from Null
  pub lists : (vs : Vals) → least_type (v_list vs) ≡ built (list (from_left (λ t v. supertype t (least_type v)) (leaf null) vs))
  -- (it conforms to a type exactly when the least types of all items do)
  pub lists_conform : (vs : Vals) (u : Ty) → conforms_to (least_type (v_list vs)) (built (list u)) ≡ all_items (λ v. conforms_to (least_type v) u) vs
  -- Range: Range of the supertype of both ends'
  pub ranges : (i j : ℕ) (v w : Val) → least_type (v_range i j v w) ≡ built (range (supertype (least_type v) (least_type w)))

-- ---- Type as the Rust infers it
pub record InferredSentences : Type 0 where
  -- `type_of`: as above
  pub leaves : (l : Leaf) → type_of (v_leaf l) ≡ leaf (leaf_type l)
  pub contexts : (es : Entries) → type_of (v_context es) ≡ built (context (each_entry type_of es))
  -- except List is List<Any> unless every item's type ≤ the first's
  pub lists : (v : Val) (vs : Vals) → type_of (v_list (item v vs)) ≡ built (list (cond (all_items (λ w. conforms_to (type_of w) (type_of v)) (item v vs)) (type_of v) (leaf any)))
  -- empty gives List<Null>
  pub empty_list : type_of (v_list no_items) ≡ built (list (leaf null))
  -- Range of unequal end types is Range<Any>
  pub ranges : (i j : ℕ) (v w : Val) → type_of (v_range i j v w) ≡ built (range (cond (eq_ty (type_of v) (type_of w)) (type_of v) (leaf any)))
  -- 0C its Function type
  pub definitions : (ps : Params) (b : ℕ) (r : Ty) → type_of (v_function ps b r) ≡ built (function (types_of ps) r)
  -- 0E its type
  pub types : (t : Ty) → type_of (v_type t) ≡ t
  -- 0D and 0F Any
  pub built_ins : (n : ℕ) → type_of (v_built_in n) ≡ leaf any
  pub irrelevant : type_of v_irrelevant ≡ leaf any
  -- `instance_of`: yes for lists with equal inner types or other inner Any
  pub list_instances : (a b : Ty) → is_instance_of (built (list a)) (built (list b)) ≡ eq_ty a b || eq_ty b (leaf any)
  -- for contexts when equal, or each name of the other is in self with Null or the equal type
  pub context_instances : (fs gs : Fields)
      → is_instance_of (built (context fs)) (built (context gs))
      ≡ eq_ty (built (context fs)) (built (context gs)) || all_fields (λ n t. found (lookup n fs) (λ a. eq_ty a (leaf null) || eq_ty a t)) gs
  -- otherwise no, even number against number
  pub no_instances : (a b : Ty) → ((x y : Ty) → a ≡ built (list x) → b ≡ built (list y) → ⊥)
      → ((fs gs : Fields) → a ≡ built (context fs) → b ≡ built (context gs) → ⊥) → is_instance_of a b ≡ false

pub record Sentences : Type 0 where
  pub type_against_type : TypeSentences
  pub common_supertype_lem : SupertypeSentences
  pub common_subtype_lem : SubtypeSentences
  pub value_against_type : ValueSentences
  pub least_type_lem : LeastTypeSentences
  pub inferred_type : InferredSentences
