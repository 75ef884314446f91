-- The vote: the third demand's statements over bytes, in its own order. A value or type is accepted where its reader has an answer; a type of any size is
-- what `read_any_type` answers: the same rules with no limit on length or level (statement 0). Beside each statement stands what the calls answer.
--
-- The calls are definitions here, each an answer or the number of a refusal, under an order: `types.is_conformant_by`, `values.is_conformant_by`, `least_type_by`, `combined` with
-- the supertype or the subtype, and `reduced_call`. The contracts of `types::is_conformant`, `values::is_conformant`, `infer::least_type`, `bounds::common_supertype`,
-- `bounds::common_subtype` and `bounds::reduced`, of their strict partners, and of the C functions over them in `feel`, equate what the code answers and writes with these
-- definitions, for all inputs: at `fixed` those of the ported calls, at `strict_order` those of K8, at the order of a members' table that loads those of K9 (specs/TableVote.antt).
-- Assumes nothing.
use Rattle.std.specs.Prelude.{ℕ, ◌+◌, ◌*◌, ◌<◌, ◌≤◌, ◌≡◌, Bool, true, ◌↔◌, ◌⊎◌, List, length}
use Rattle.form.specs.Limits.{most_bytes, type_levels}
use Rattle.form.specs.Outcome.{done, refused}
use Rattle.form.specs.Trees.{Ty, Val}
use Rattle.form.specs.Form.{Bytes, enc, level}
use Rattle.form.specs.ByteForm.{ByteForm}
use Rattle.form.specs.Read.{read_type, read_value, read_any_type}
use Rattle.order.specs.Order.{Order, fixed}
use Rattle.order.specs.Types.{le, reduce, sup, sub}
use Rattle.order.specs.Document.{reduced_form, eq_ty}
use Rattle.order.specs.Values.{conforms, is_data_by, least}
use Rattle.types.specs.Calls as types
use Rattle.bounds.specs.Calls.{combined, reduced_call}
use Rattle.values.specs.Calls as values
use Rattle.infer.specs.Calls.{least_type_by}

-- an accepted value, and what its bytes say
pub record AcceptedValue : Type 0 where
  pub bytes : List ℕ
  pub are_bytes : Bytes bytes
  pub value : Val
  pub accepted : read_value bytes ≡ done value

-- an accepted value that is data under an order; under document 01's
pub record DataValueBy (O : Order) : Type 0 where
  pub bytes : List ℕ
  pub are_bytes : Bytes bytes
  pub value : Val
  pub accepted : read_value bytes ≡ done value
  pub data_only : is_data_by O value ≡ true

abbrev pub DataValue : Type 0
DataValue = DataValueBy fixed

-- an accepted type
pub record AcceptedType : Type 0 where
  pub bytes : List ℕ
  pub are_bytes : Bytes bytes
  pub type : Ty
  pub accepted : read_type bytes ≡ done type

-- a type of any size
pub record AnyType : Type 0 where
  pub bytes : List ℕ
  pub are_bytes : Bytes bytes
  pub type : Ty
  pub written : read_any_type bytes ≡ done type

-- ---- what a call answered under an order, with some scratch and some room for the output
pub record LeastAnswered (O : Order) (v answer : List ℕ) : Type 0 where
  pub scratch : ℕ
  pub room : ℕ
  pub answered : least_type_by O v scratch room ≡ done answer

pub record SupertypeAnswered (O : Order) (a b answer : List ℕ) : Type 0 where
  pub scratch : ℕ
  pub room : ℕ
  pub answered : combined (sup O) a b scratch room ≡ done answer

pub record SubtypeAnswered (O : Order) (a b answer : List ℕ) : Type 0 where
  pub scratch : ℕ
  pub room : ℕ
  pub answered : combined (sub O) a b scratch room ≡ done answer

pub record ReducedAnswered (t answer : List ℕ) : Type 0 where
  pub room : ℕ
  pub answered : reduced_call t room ≡ done answer

-- ---- when an answer is due, and which: the arguments are accepted, the scratch is as long as document 01 wants it, the output has room
pub record TypesCompared (O : Order) (a b : List ℕ) (verdict : Bool) : Type 0 where
  pub first : Ty
  pub second : Ty
  pub first_read : read_type a ≡ done first
  pub second_read : read_type b ≡ done second
  pub is : verdict ≡ le O first second

pub record ValueCompared (O : Order) (v t : List ℕ) (verdict : Bool) : Type 0 where
  pub value : Val
  pub type : Ty
  pub value_read : read_value v ≡ done value
  pub type_read : read_type t ≡ done type
  pub is : verdict ≡ conforms O value type

pub record LeastDue (O : Order) (v : List ℕ) (scratch room : ℕ) (answer : List ℕ) : Type 0 where
  pub value : Val
  pub read : read_value v ≡ done value
  pub data_only : is_data_by O value ≡ true
  pub scratch_suffices : 4 * length v ≤ scratch
  pub room_suffices : length (enc (least O value)) ≤ room
  pub is : answer ≡ enc (least O value)

-- of two types: `of` is the supertype or the subtype
pub record BoundDue (of : Ty → Ty → Ty) (a b : List ℕ) (scratch room : ℕ) (answer : List ℕ) : Type 0 where
  pub first : Ty
  pub second : Ty
  pub first_read : read_type a ≡ done first
  pub second_read : read_type b ≡ done second
  pub scratch_suffices : length a + length b ≤ scratch
  pub room_suffices : length (enc (of first second)) ≤ room
  pub is : answer ≡ enc (of first second)

pub record ReducedDue (t : List ℕ) (room : ℕ) (answer : List ℕ) : Type 0 where
  pub type : Ty
  pub read : read_type t ≡ done type
  pub room_suffices : length (enc (reduced_form type)) ≤ room
  pub is : answer ≡ enc (reduced_form type)

-- ---- bounds among types of any size
-- a type of any size to which both conform, and which conforms to every type, of any size, to which both conform; it is its own reduced form
pub record LeastUpperBound (O : Order) (a b : AcceptedType) (s : List ℕ) : Type 0 where
  pub bound : AnyType
  pub is : bound.bytes ≡ s
  pub first : le O a.type bound.type ≡ true
  pub second : le O b.type bound.type ≡ true
  pub least : (t : AnyType) → le O a.type t.type ≡ true → le O b.type t.type ≡ true → le O bound.type t.type ≡ true
  pub reduced : reduce O bound.type ≡ bound.type

-- a type of any size that conforms to both, and to which every type, of any size, conforms that conforms to both; it is its own reduced form
pub record GreatestLowerBound (O : Order) (a b : AcceptedType) (s : List ℕ) : Type 0 where
  pub bound : AnyType
  pub is : bound.bytes ≡ s
  pub first : le O bound.type a.type ≡ true
  pub second : le O bound.type b.type ≡ true
  pub greatest : (t : AnyType) → le O t.type a.type ≡ true → le O t.type b.type ≡ true → le O t.type bound.type ≡ true
  pub reduced : reduce O bound.type ≡ bound.type

-- ---- the four statements, and the calls that answer them, under an order: `fixed` in document 01's vote below, `strict_order` in document 02's K8 (specs/StrictVote.antt), the order of
-- every table that loads in K9 (specs/TableVote.antt)
pub record Statements (O : Order) : Type 0 where
  -- 1. The least types of two accepted data values are equal exactly when no type, of any size, has one of the two conforming to it and the other not.
  pub equal_least_types : (v w : DataValueBy O)
      → (enc (least O v.value) ≡ enc (least O w.value)) ↔ ((t : AnyType) → conforms O v.value t.type ≡ conforms O w.value t.type)
  -- So it is for what the call for the least type answers of the two.
  pub equal_answers : (v w : DataValueBy O) (a b : List ℕ) → LeastAnswered O v.bytes a → LeastAnswered O w.bytes b
      → (a ≡ b) ↔ ((t : AnyType) → conforms O v.value t.type ≡ conforms O w.value t.type)
  -- 2. A data value conforms to a type, of any size, exactly when its least type does.
  pub by_least_type : (v : DataValueBy O) (t : AnyType) → conforms O v.value t.type ≡ le O (least O v.value) t.type
  -- What the call for the least type answers is an accepted type, the least type, and reduced; and of an accepted type the two calls for conformance,
  -- one asked of the value and the other of that answer, answer the same.
  pub answer_accepted : (v : DataValueBy O) (a : List ℕ) → LeastAnswered O v.bytes a → read_type a ≡ done (least O v.value)
  pub least_reduced : (v : DataValueBy O) → reduce O (least O v.value) ≡ least O v.value
  pub by_answer : (v : DataValueBy O) (a : List ℕ) → LeastAnswered O v.bytes a → (t : AcceptedType)
      → values.is_conformant_by O v.bytes t.bytes ≡ types.is_conformant_by O a t.bytes
  -- 3. The common supertype of two accepted types is one to which both conform, and it conforms to every type, of any size, to which both conform.
  pub supertype_bound : (a b : AcceptedType) → LeastUpperBound O a b (enc (sup O a.type b.type))
  -- So it is for what the call for the common supertype answers.
  pub answer_bound : (a b : AcceptedType) (s : List ℕ) → SupertypeAnswered O a.bytes b.bytes s → LeastUpperBound O a b s
  -- The common subtype conforms to both, and every type, of any size, that conforms to both conforms to it.
  pub subtype_bound : (a b : AcceptedType) → GreatestLowerBound O a b (enc (sub O a.type b.type))
  pub answer_below : (a b : AcceptedType) (s : List ℕ) → SubtypeAnswered O a.bytes b.bytes s → GreatestLowerBound O a b s
  -- 4. Two types, of any size, each conform to the other exactly when their reduced forms are equal.
  pub each_other : (a b : AnyType)
      → ((le O a.type b.type ≡ true) × (le O b.type a.type ≡ true)) ↔ (enc (reduce O a.type) ≡ enc (reduce O b.type))
  -- 5. The calls answer exactly these, exactly where no refusal is due: the arguments are accepted (and the value is data), the scratch is as long as
  -- document 01 wants it, and the output has room for the answer. All bytes, scratch and room are meant.
  pub value_conformance : (v t : List ℕ) (verdict : Bool) → (values.is_conformant_by O v t ≡ done verdict) ↔ ValueCompared O v t verdict
  pub type_conformance : (a b : List ℕ) (verdict : Bool) → (types.is_conformant_by O a b ≡ done verdict) ↔ TypesCompared O a b verdict
  pub least_type_lem : (v : List ℕ) (scratch room : ℕ) (answer : List ℕ) → (least_type_by O v scratch room ≡ done answer) ↔ LeastDue O v scratch room answer
  pub common_supertype_lem : (a b : List ℕ) (scratch room : ℕ) (answer : List ℕ)
      → (combined (sup O) a b scratch room ≡ done answer) ↔ BoundDue (sup O) a b scratch room answer
  pub common_subtype_lem : (a b : List ℕ) (scratch room : ℕ) (answer : List ℕ)
      → (combined (sub O) a b scratch room ≡ done answer) ↔ BoundDue (sub O) a b scratch room answer
  -- Room that always suffices.
  pub least_room : (v : DataValueBy O) → length (enc (least O v.value)) ≤ length v.bytes
  pub supertype_room : (a b : AcceptedType) → length (enc (sup O a.type b.type)) ≤ length a.bytes + length b.bytes
  pub subtype_room : (a b : AcceptedType) → length (enc (sub O a.type b.type)) ≤ length a.bytes + length b.bytes

-- ---- document 01's vote
pub record Vote : Type 0 where
  -- 0. The byte form, whole: what the readers accept, and what each refusal means. 1 and 6 exactly by the length; 5 and 10 exactly when a well-formed record within the
  -- limits stands at the front and bytes are left over; the others exactly by the first fault from the left.
  pub byte_form : ByteForm
  -- An accepted type is exactly a type of any size within the limits on level and length; no bytes are no type of any size. The reader of any size
  -- refuses for 7, 8 or 10 only: never for length or level.
  pub accepted_any : (s : List ℕ) → Bytes s → (t : Ty) → (read_type s ≡ done t) ↔ ((read_any_type s ≡ done t) × ((level t ≤ type_levels) × (length s ≤ most_bytes)))
  pub any_some : (s : List ℕ) (t : Ty) → read_any_type s ≡ done t → 0 < length s
  pub any_numbers : (s : List ℕ) (n : ℕ) → read_any_type s ≡ refused n → (n ≡ 7) ⊎ ((n ≡ 8) ⊎ (n ≡ 10))
  -- Type equality is byte equality.
  pub type_equality : (a b : AnyType) → (eq_ty a.type b.type ≡ true) ↔ (a.bytes ≡ b.bytes)
  -- 1 to 5. The statements under document 01's relation, and what the ported calls answer.
  pub statements : Statements fixed
  -- For 4, with the call for the reduced form, of accepted types: the call for conformance says yes both ways exactly when the call for the reduced form answers the same of both.
  pub each_other_answers : (a b : AcceptedType) (x y : List ℕ) → ReducedAnswered a.bytes x → ReducedAnswered b.bytes y
      → ((types.is_conformant a.bytes b.bytes ≡ done true) × (types.is_conformant b.bytes a.bytes ≡ done true)) ↔ (x ≡ y)
  -- For 5: the call for the reduced form, and its room.
  pub reduced_form_lem : (t : List ℕ) (room : ℕ) (answer : List ℕ) → (reduced_call t room ≡ done answer) ↔ ReducedDue t room answer
  pub reduced_room : (t : AcceptedType) → length (enc (reduced_form t.type)) ≤ length t.bytes
