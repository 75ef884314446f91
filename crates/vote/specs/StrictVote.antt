-- Document 02's K8 over bytes and calls: the statements of the vote under the strict reading, what holds under it alone, and that it is DMN's.
-- Of a value DMN asks whether its type conforms; specs/Agreement.antt says which type that is.
-- Assumes nothing.
use Rattle.std.specs.Prelude.{ℕ, ◌≡◌, Bool, true, ◌↔◌, List}
use Rattle.form.specs.Outcome.{done}
use Rattle.form.specs.Trees.{Ty, Params, v_function}
use Rattle.form.specs.Read.{read_type}
use Rattle.order.specs.Order.{strict_order}
use Rattle.order.specs.Values.{conforms, least}
use Rattle.order.specs.Inferred.{value_conforms_to, least_type}
use Rattle.order.specs.Dmn.{dmn_conforms_to, definition_type, DmnRules, DmnReading}
use Rattle.order.specs.Strict.{StrictSentences}
use Rattle.types.specs.Calls as types
use Rattle.values.specs.Calls as values
use Rattle.vote.specs.Vote.{AcceptedValue, DataValueBy, DataValue, AcceptedType, AnyType, Statements}
use Rattle.vote.specs.Agreement.{TypeOfAnswered}

pub record StrictVote : Type 0 where
  -- Document 02's sentences, on trees.
  pub sentences : StrictSentences
  -- The four statements, and what the strict calls answer. Data takes in FunctionDefinition: 13 is given for 0D, 0E and 0F only (`sentences`).
  pub statements : Statements strict_order
  -- Two types, of any size, each conform to the other exactly when they are byte-equal. So the call says of two accepted types.
  pub each_other_equal : (a b : AnyType)
      → ((dmn_conforms_to a.type b.type ≡ true) × (dmn_conforms_to b.type a.type ≡ true)) ↔ (a.bytes ≡ b.bytes)
  pub each_other_answers : (a b : AcceptedType)
      → ((types.strict_is_conformant a.bytes b.bytes ≡ done true) × (types.strict_is_conformant b.bytes a.bytes ≡ done true)) ↔ (a.bytes ≡ b.bytes)
  -- A FunctionDefinition conforms to a type, of any size, exactly when its function type does.
  pub definition : (ps : Params) (b : ℕ) (r : Ty) (t : AnyType) → conforms strict_order (v_function ps b r) t.type ≡ dmn_conforms_to (definition_type ps r) t.type
  -- Its function type is what `type_of` answers of it; the two calls, one asked of the value and the other of that answer, answer the same.
  pub definition_type_lem : (v : AcceptedValue) (ps : Params) (b : ℕ) (r : Ty) → v.value ≡ v_function ps b r → (a : List ℕ) → TypeOfAnswered v.bytes a
      → read_type a ≡ done (definition_type ps r)
  pub definition_answers : (v : AcceptedValue) (ps : Params) (b : ℕ) (r : Ty) → v.value ≡ v_function ps b r → (a : List ℕ) → TypeOfAnswered v.bytes a → (t : AcceptedType)
      → values.strict_is_conformant v.bytes t.bytes ≡ types.strict_is_conformant a t.bytes
  -- The strict reading is DMN's: it meets DMN's rules, and no other relation does. So the calls answer as every relation that meets them: of all accepted types, and of all
  -- accepted values of 00 to 0C and 10 by their least type.
  pub dmn_reading : DmnReading
  pub types_dmn : (c : Ty → Ty → Bool) → DmnRules c → (a b : AcceptedType) → types.strict_is_conformant a.bytes b.bytes ≡ done (c a.type b.type)
  pub values_dmn : (c : Ty → Ty → Bool) → DmnRules c → (v : DataValueBy strict_order) (t : AcceptedType)
      → values.strict_is_conformant v.bytes t.bytes ≡ done (c (least strict_order v.value) t.type)
  -- The two readings give a data value of document 01 the same verdict against every type, of any size, and the same least type: they differ for values that hold a
  -- FunctionDefinition, and for types as specs/Agreement.antt says.
  pub data_verdict : (v : DataValue) (t : AnyType) → conforms strict_order v.value t.type ≡ value_conforms_to v.value t.type
  pub data_least : (v : DataValue) → least strict_order v.value ≡ least_type v.value
