-- Document 02, K8, sentence by sentence: conformance as DMN has it, under the strict reading. (That it is DMN's: `DmnReading` of specs/Dmn.antt. That two types which each
-- conform to the other are byte-equal, and what least types tell apart: over bytes, in crate vote.)
-- Assumes nothing.
use Rattle.std.specs.Prelude.{ℕ, ◌≡◌, true, false, ◌&&◌}
use Rattle.form.specs.Trees.{any, null, Ty, leaf, built, function, Tys, no_params, Leaf, Params, Val, v_leaf, v_range, v_list, v_context, v_function, v_built_in}
use Rattle.form.specs.Trees.{v_type, v_irrelevant, Vals, Entries}
use Rattle.order.specs.Order.{strict_order}
use Rattle.order.specs.Types.{empty, same_count, reduce, sup, sub}
use Rattle.order.specs.Document.{reduced_form, supertype, subtype}
use Rattle.order.specs.Values.{conforms, is_data_by, least}
use Rattle.order.specs.Sentences.{each_pair, all_items, all_entries}
use Rattle.order.specs.Dmn.{dmn_conforms_to, definition_type}

pub record StrictSentences : Type 0 where
  -- a parameterless function conforms only if its result does
  pub plain_functions : (qs : Tys) (r s : Ty) → dmn_conforms_to (built (function no_params r)) (built (function qs s)) ≡ empty qs && dmn_conforms_to r s
  -- a FunctionDefinition conforms exactly when its function type conforms
  pub definitions : (ps : Params) (b : ℕ) (r t : Ty) → conforms strict_order (v_function ps b r) t ≡ dmn_conforms_to (definition_type ps r) t
  -- common supertype and subtype work on the results of parameterless functions also
  pub plain_supertype : (r s : Ty) → sup strict_order (built (function no_params r)) (built (function no_params s)) ≡ built (function no_params (sup strict_order r s))
  pub plain_subtype : (r s : Ty) → sub strict_order (built (function no_params r)) (built (function no_params s)) ≡ built (function no_params (sub strict_order r s))
  -- as on those of all others
  pub supertype_functions : (ps qs : Tys) (r s : Ty) → same_count ps qs ≡ true
      → sup strict_order (built (function ps r)) (built (function qs s)) ≡ built (function (each_pair (sub strict_order) ps qs) (sup strict_order r s))
  pub subtype_functions : (ps qs : Tys) (r s : Ty) → same_count ps qs ≡ true
      → sub strict_order (built (function ps r)) (built (function qs s)) ≡ built (function (each_pair (sup strict_order) ps qs) (sub strict_order r s))
  -- and reduce nothing: every type is its own reduced form, so Null with T gives T, and Any with T
  pub nothing_reduced : (t : Ty) → reduce strict_order t ≡ t
  pub null_with_lem : (t : Ty) → sup strict_order (leaf null) t ≡ t
  pub any_with : (t : Ty) → sub strict_order (leaf any) t ≡ t
  -- so reduced, a strict supertype or subtype is document 01's
  pub supertype_reduced : (a b : Ty) → reduced_form (sup strict_order a b) ≡ supertype a b
  pub subtype_reduced : (a b : Ty) → reduced_form (sub strict_order a b) ≡ subtype a b
  -- 13 is given for 0D, 0E and 0F only: data is 00 to 0C and 10 throughout
  pub data_leaf : (l : Leaf) → is_data_by strict_order (v_leaf l) ≡ true
  pub data_range : (i j : ℕ) (v w : Val) → is_data_by strict_order (v_range i j v w) ≡ is_data_by strict_order v && is_data_by strict_order w
  pub data_list : (vs : Vals) → is_data_by strict_order (v_list vs) ≡ all_items (is_data_by strict_order) vs
  pub data_context : (es : Entries) → is_data_by strict_order (v_context es) ≡ all_entries (is_data_by strict_order) es
  pub definition_is_data : (ps : Params) (b : ℕ) (r : Ty) → is_data_by strict_order (v_function ps b r) ≡ true
  pub no_built_in : (n : ℕ) → is_data_by strict_order (v_built_in n) ≡ false
  pub no_type : (t : Ty) → is_data_by strict_order (v_type t) ≡ false
  pub no_irrelevant : is_data_by strict_order v_irrelevant ≡ false
  -- the least type of a FunctionDefinition is its function type
  pub least_definition : (ps : Params) (b : ℕ) (r : Ty) → least strict_order (v_function ps b r) ≡ definition_type ps r
  -- 0D, 0E and 0F conform to Any alone, as in the ported call
  pub other_built_in : (n : ℕ) (t : Ty) → (t ≡ leaf any → ⊥) → conforms strict_order (v_built_in n) t ≡ false
  pub other_type : (a t : Ty) → (t ≡ leaf any → ⊥) → conforms strict_order (v_type a) t ≡ false
  pub other_irrelevant : (t : Ty) → (t ≡ leaf any → ⊥) → conforms strict_order v_irrelevant t ≡ false
  pub any_target : (v : Val) → conforms strict_order v (leaf any) ≡ true
