-- Document 02's K8 holds over bytes and calls (`strict_vote`). Idea: the statements are those of the vote at the strict reading's order; there a type is its own reduced form,
-- so equal reduced forms are equal bytes; and DMN's rules leave the calls no other answer.
-- Assumes nothing.
use Prim.Native.Nat.{ℕ}
use mathlib.Core.Path.{◌≡◌, sym, ap, ◌∙◌}
use mathlib.Core.Bool.{true}
use mathlib.Core.Logic.{◌↔◌}
use mathlib.Core.List.{List}
use Rattle.form.specs.Outcome.{done}
use Rattle.form.specs.Trees.{Ty, Params, v_function}
use Rattle.form.specs.Form.{enc}
use Rattle.form.specs.Read.{read_type}
use Rattle.form.proofs.Answered.{done_same}
use Rattle.form.proofs.Types.{any_exact}
use Rattle.order.specs.Order.{Laws, strict_order}
use Rattle.order.specs.Types.{reduce}
use Rattle.order.specs.Values.{conforms}
use Rattle.order.specs.Inferred.{type_of}
use Rattle.order.specs.Dmn.{dmn_conforms_to, definition_type}
use Rattle.order.proofs.Simple.{flat_laws}
use Rattle.order.proofs.DmnRules.{dmn_reading}
use Rattle.order.proofs.Strict.{strict_sentences}
use Rattle.order.proofs.DataReadings.{data_verdict, data_least}
use Rattle.types.specs.Calls as types
use Rattle.values.specs.Calls as values
use Rattle.vote.specs.Vote.{AcceptedValue, AcceptedType, AnyType}
use Rattle.vote.specs.Agreement.{TypeOfAnswered}
use Rattle.vote.specs.StrictVote.{StrictVote}
use Rattle.vote.proofs.Vote.{as_value, accepted_value, as_any, each, conform_call, held_call, statements}
use Rattle.vote.proofs.Agreement.{type_of_is, inferred}

laws : Laws strict_order
laws = flat_laws true

-- the bytes of a type of any size are those of its reduced form
own_bytes : (a : AnyType) → enc (reduce strict_order a.type) ≡ a.bytes
own_bytes a = ap enc (strict_sentences.nothing_reduced a.type) ∙ sym ((any_exact a.bytes a.are_bytes a.type).0 a.written).0

equal : (a b : AnyType) → ((dmn_conforms_to a.type b.type ≡ true) × (dmn_conforms_to b.type a.type ≡ true)) ↔ (a.bytes ≡ b.bytes)
equal a b =
    let e = each strict_order laws a b in
    (λ h. sym (own_bytes a) ∙ e.0 h ∙ own_bytes b, λ p. e.1 (own_bytes a ∙ p ∙ sym (own_bytes b)))

equal_answers : (a b : AcceptedType)
    → ((types.strict_is_conformant a.bytes b.bytes ≡ done true) × (types.strict_is_conformant b.bytes a.bytes ≡ done true)) ↔ (a.bytes ≡ b.bytes)
equal_answers a b =
    let ab = conform_call strict_order laws a b in
    let ba = conform_call strict_order laws b a in
    let e = equal (as_any a) (as_any b) in (
      λ h. e.0 (done_same (sym ab ∙ h.0), done_same (sym ba ∙ h.1)),
      λ p. let h = e.1 p in (ab ∙ ap done h.0, ba ∙ ap done h.1),
    )

-- ---- a function definition and its function type
module _ (v : AcceptedValue) (ps : Params) (b : ℕ) (r : Ty) (is : v.value ≡ v_function ps b r) where
  function_type : type_of v.value ≡ definition_type ps r
  unfolding type_of
  function_type = ap type_of is

  module _ (a : List ℕ) (A : TypeOfAnswered v.bytes a) where
    definition_type_lem : read_type a ≡ done (definition_type ps r)
    definition_type_lem = ap read_type (type_of_is v a A) ∙ (inferred v).accepted ∙ ap done function_type

    definition_answers : (t : AcceptedType) → values.strict_is_conformant v.bytes t.bytes ≡ types.strict_is_conformant a t.bytes
    definition_answers t =
        held_call strict_order laws v t
        ∙ ap done (ap (λ x. conforms strict_order x t.type) is ∙ strict_sentences.definitions ps b r t.type ∙ ap (λ x. dmn_conforms_to x t.type) (sym function_type))
        ∙ sym (conform_call strict_order laws (inferred v) t)
        ∙ ap (λ x. types.strict_is_conformant x t.bytes) (sym (type_of_is v a A))

pub strict_vote : StrictVote
strict_vote =
    record {
      sentences = strict_sentences;
      statements = statements strict_order laws;
      each_other_equal = equal;
      each_other_answers = equal_answers;
      definition = λ ps b r t. strict_sentences.definitions ps b r t.type;
      definition_type_lem = definition_type_lem;
      definition_answers = definition_answers;
      dmn_reading = dmn_reading;
      types_dmn = λ c R a b. conform_call strict_order laws a b ∙ ap done (sym (dmn_reading.only c R a.type b.type));
      values_dmn = λ c R v t.
          held_call strict_order laws (as_value v) t
          ∙ ap done ((statements strict_order laws).by_least_type v (as_any t) ∙ sym (dmn_reading.only c R _ t.type));
      data_verdict = λ v t. data_verdict v.value t.type v.data_only;
      data_least = λ v. data_least v.value (accepted_value (as_value v)).well v.data_only;
    }
