-- Agreement with FEEL (the second demand): where document 01's definitions are DMN 1.3's own, over bytes and calls, and exactly where they are not.
--
-- DMN defines conformance between types. Of a value it asks whether the value's type conforms, and gives a value no other type than what its parts say; the least type is
-- that one type: it conforms to every type that the value conforms to and to no other (the vote, 2), so no other choice could agree. That is our reading; DECISIONS (Readings, 24) has it.
-- Left out: DMN's third implicit conversion, date to date and time. The Rust and document 01 have none (docs/DIFFERENCES.md).
-- Assumes nothing.
use Rattle.std.specs.Prelude.{ℕ, ◌≡◌, true, ◌&&◌, ◌↔◌, ◌⊎◌, List}
use Rattle.form.specs.Outcome.{done}
use Rattle.form.specs.Trees.{Ty, built, function, Tys, Params, no_parameters, v_function}
use Rattle.form.specs.Form.{WfParams}
use Rattle.order.specs.Order.{fixed, strict_order}
use Rattle.order.specs.Types.{les}
use Rattle.order.specs.Document.{conforms_to, reduced_form, is_instance_of}
use Rattle.order.specs.Values.{types_of}
use Rattle.order.specs.Inferred.{value_conforms_to, least_type, type_of}
use Rattle.order.specs.Dmn.{dmn_conforms_to, results_conform, Parameters, definition_type}
use Rattle.types.specs.Calls as types
use Rattle.values.specs.Calls as values
use Rattle.infer.specs.Calls.{type_of_call}
use Rattle.coercion.specs.Dmn.{dmn_coerced}
use Rattle.coercion.specs.Calls.{coerced_call}
use Rattle.vote.specs.Vote.{DataValue, AcceptedType, AnyType}
use Rattle.output.specs.Result.{checked_result}

-- what `type_of` answered, with some scratch and some room
pub record TypeOfAnswered (v answer : List ℕ) : Type 0 where
  pub scratch : ℕ
  pub room : ℕ
  pub answered : type_of_call v scratch room ≡ done answer

pub record Agreement : Type 0 where
  -- TYPES, of any size
  -- What conforms by DMN conforms here: every difference is a yes here where DMN says no.
  pub dmn_here : (a b : AnyType) → dmn_conforms_to a.type b.type ≡ true → conforms_to a.type b.type ≡ true
  -- It lies in functions without parameters alone: DMN asks what is asked here and, wherever two of them meet, that their results conform too.
  pub dmn_is : (a b : AnyType) → dmn_conforms_to a.type b.type ≡ conforms_to a.type b.type && results_conform a.type b.type
  -- So the two agree exactly when the answer here is no, or these results conform: no weaker condition is enough.
  pub agree_exactly : (a b : AnyType)
      → (conforms_to a.type b.type ≡ dmn_conforms_to a.type b.type) ↔ (conforms_to a.type b.type ≡ true → results_conform a.type b.type ≡ true)
  -- They agree wherever one of the two types has no function without parameters.
  pub agree_either : (a b : AnyType) → Parameters a.type ⊎ Parameters b.type → conforms_to a.type b.type ≡ dmn_conforms_to a.type b.type
  -- And what is answered here is DMN's answer of the reduced forms.
  pub reduced_agree : (a b : AnyType) → conforms_to a.type b.type ≡ dmn_conforms_to (reduced_form a.type) (reduced_form b.type)
  -- `instance_of`: yes only where the type conforms by DMN.
  pub instance_conforms : (a b : AnyType) → is_instance_of a.type b.type ≡ true → dmn_conforms_to a.type b.type ≡ true
  pub instance_answers : (a b : AcceptedType) → types.instance_of a.bytes b.bytes ≡ done true → dmn_conforms_to a.type b.type ≡ true
  -- DATA VALUES, by their own type
  -- A data value conforms to a type, of any size, exactly when its least type does by DMN; no condition. So the call answers.
  pub values_agree : (v : DataValue) (t : AnyType) → value_conforms_to v.value t.type ≡ dmn_conforms_to (least_type v.value) t.type
  pub value_answers : (v : DataValue) (t : AcceptedType) → values.is_conformant v.bytes t.bytes ≡ done (dmn_conforms_to (least_type v.value) t.type)
  -- It conforms to its own `type_of`, and the calls say so.
  pub own_type : (v : DataValue) → value_conforms_to v.value (type_of v.value) ≡ true
  pub own_answer : (v : DataValue) (a : List ℕ) → TypeOfAnswered v.bytes a → values.is_conformant v.bytes a ≡ done true
  -- Implicit conversion: what `coerced` answers of a data value is DMN's, by types, with the refusals 17 and 18 of the checked_result.
  pub conversion : (v : DataValue) (t : AcceptedType) (room : ℕ) → coerced_call v.bytes t.bytes room ≡ checked_result room (dmn_coerced v.value t.type)
  -- FUNCTION DEFINITIONS, by their function type
  -- To a type, of any size, that is no function type: the two agree.
  pub definition_other : (ps : Params) (b : ℕ) (r : Ty) (t : AnyType) → ((qs : Tys) (s : Ty) → t.type ≡ built (function qs s) → ⊥)
      → value_conforms_to (v_function ps b r) t.type ≡ dmn_conforms_to (definition_type ps r) t.type
  -- To a function type: here each own parameter conforms to the target's, by DMN the target's to the own; the results alike, without parameters too.
  pub definition_here : (ps : Params) (b : ℕ) (r : Ty) (qs : Tys) (s : Ty)
      → value_conforms_to (v_function ps b r) (built (function qs s)) ≡ les fixed (types_of ps) qs && conforms_to r s
  pub definition_dmn : (ps : Params) (r : Ty) (qs : Tys) (s : Ty)
      → dmn_conforms_to (definition_type ps r) (built (function qs s)) ≡ les strict_order qs (types_of ps) && dmn_conforms_to r s
  -- So they agree where the parameters conform alike both ways round and the results agree: with equal parameter types, and without parameters.
  pub definition_agrees : (ps : Params) (b : ℕ) (r : Ty) (qs : Tys) (s : Ty)
      → les fixed (types_of ps) qs ≡ les strict_order qs (types_of ps) → conforms_to r s ≡ dmn_conforms_to r s
      → value_conforms_to (v_function ps b r) (built (function qs s)) ≡ dmn_conforms_to (definition_type ps r) (built (function qs s))
  pub definition_same : (ps : Params) (b : ℕ) (r : Ty) (qs : Tys) (s : Ty) → WfParams ps → types_of ps ≡ qs → conforms_to r s ≡ dmn_conforms_to r s
      → value_conforms_to (v_function ps b r) (built (function qs s)) ≡ dmn_conforms_to (definition_type ps r) (built (function qs s))
  pub definition_plain : (b : ℕ) (r : Ty) (qs : Tys) (s : Ty) → conforms_to r s ≡ dmn_conforms_to r s
      → value_conforms_to (v_function no_parameters b r) (built (function qs s)) ≡ dmn_conforms_to (definition_type no_parameters r) (built (function qs s))
