-- Agreement with DMN holds (`agreement`): the laws on trees of crate `order` and of coercion, asked of what was accepted.
-- Assumes nothing.
use Prim.Native.Nat.{ℕ}
use mathlib.Core.Path.{◌≡◌, refl, sym, ap, ◌∙◌}
use mathlib.Core.Bool.{true}
use mathlib.Core.List.{List}
use lib.Dec.{leb}
use native.Mathlib.Omega.{arith}
use Rattle.form.specs.Outcome.{done, ◌>>=◌}
use Rattle.form.specs.Form.{enc}
use Rattle.form.specs.Read.{read_value}
use Rattle.form.proofs.Answered.{done_same, bind_done, check_done, fits_done}
use Rattle.form.proofs.Encoded.{bytes_enc}
use Rattle.form.proofs.Types.{type_exact}
use Rattle.order.specs.Document.{is_instance_of}
use Rattle.order.specs.Inferred.{value_conforms_to, type_of}
use Rattle.order.specs.Order.{fixed}
use Rattle.order.proofs.Simple.{fixed_laws}
use Rattle.order.proofs.ValueTheorems.{inferred_type}
use Rattle.order.proofs.Dmn.{dmn_is, dmn_here, agree_exactly, agrees_either, reduced_is_dmn}
use Rattle.order.proofs.DataDmn.{data_is_dmn}
use Rattle.order.proofs.Inferred.{instance_conforms, type_of_conforms}
use Rattle.order.proofs.Definitions.{definition_here, definition_dmn, definition_other, definition_agrees, definition_same, definition_plain}
use Rattle.types.specs.Calls as types
use Rattle.values.specs.Calls as values
use Rattle.infer.specs.Calls.{wanted, type_of_call}
use Rattle.coercion.specs.Dmn.{dmn_coerced}
use Rattle.coercion.specs.Calls.{coerced_call}
use Rattle.coercion.proofs.Theorems.{coercion}
use Rattle.vote.specs.Vote.{AcceptedValue, DataValue, AcceptedType}
use Rattle.vote.specs.Agreement.{TypeOfAnswered, Agreement}
use Rattle.vote.proofs.Vote.{accepted_value, short, wf_any, wf_accepted, long_value, as_value, held_call}
use Rattle.output.specs.Result.{checked_result}

-- what `instance_of` answered
instance_answered : (a b : AcceptedType) → types.instance_of a.bytes b.bytes ≡ done true → is_instance_of a.type b.type ≡ true
unfolding types.instance_of ◌>>=◌
instance_answered a b e = done_same (rw (a.accepted, b.accepted) at e)

-- what `type_of` answered, as an accepted type
pub type_of_is : (v : AcceptedValue) (a : List ℕ) → TypeOfAnswered v.bytes a → a ≡ enc (type_of v.value)
unfolding type_of_call
type_of_is v a A =
    bind_done (read_value v.bytes) _ a A.answered (λ w p f.
    check_done 14 (leb (wanted v.bytes) A.scratch) _ a f (λ c g.
    fits_done A.room (enc (type_of w)) a g (λ r i.
    i ∙ ap (λ x. enc (type_of x)) (done_same (sym p ∙ v.accepted)))))

abbrev pub inferred : AcceptedValue → AcceptedType
inferred v =
    let w = inferred_type.inferred_well_formed v.value (accepted_value v).well (short v) in
    record {
      bytes = enc (type_of v.value);
      are_bytes = bytes_enc (type_of v.value) w;
      type = type_of v.value;
      accepted =
          (type_exact (enc (type_of v.value)) (bytes_enc (type_of v.value) w) (type_of v.value)).1 (record {
            bytes = refl;
            well = w;
            low = omega (arith, inferred_type.inferred_level v.value, (accepted_value v).low);
            short = omega (arith, inferred_type.inferred_length v.value, (long_value v).0, (long_value v).1);
          });
    }

own : (v : DataValue) → value_conforms_to v.value (type_of v.value) ≡ true
own v = type_of_conforms v.value (accepted_value (as_value v)).well v.data_only

converts : (v : DataValue) (t : AcceptedType) (room : ℕ) → coerced_call v.bytes t.bytes room ≡ checked_result room (dmn_coerced v.value t.type)
unfolding coerced_call ◌>>=◌
converts v t room = rw (v.accepted, t.accepted) (ap (checked_result room) (coercion.data_is_dmn_coercion v.value t.type v.data_only))

pub agreement : Agreement
agreement =
    record {
      dmn_here = λ a b. dmn_here a.type b.type;
      dmn_is = λ a b. dmn_is a.type b.type;
      agree_exactly = λ a b. agree_exactly a.type b.type;
      agree_either = λ a b. agrees_either a.type b.type;
      reduced_agree = λ a b. reduced_is_dmn a.type b.type;
      instance_conforms = λ a b. instance_conforms a.type b.type (wf_any a);
      instance_answers = λ a b e. instance_conforms a.type b.type (wf_accepted a) (instance_answered a b e);
      values_agree = λ v t. data_is_dmn v.value t.type v.data_only;
      value_answers = λ v t. held_call fixed fixed_laws (as_value v) t ∙ ap done (data_is_dmn v.value t.type v.data_only);
      own_type = own;
      own_answer = λ v a A. ap (values.is_conformant v.bytes) (type_of_is (as_value v) a A) ∙ held_call fixed fixed_laws (as_value v) (inferred (as_value v)) ∙ ap done (own v);
      conversion = converts;
      definition_other = λ ps b r t. definition_other ps b r t.type;
      definition_here = definition_here;
      definition_dmn = λ ps r. definition_dmn ps 0 r;
      definition_agrees = definition_agrees;
      definition_same = definition_same;
      definition_plain = definition_plain;
    }
