-- The statements of the vote hold (`vote`).
-- Idea: what was accepted is the encoding of a well-formed tree (`byte_form`), so each statement is a theorem on trees; and a call that answered has passed every line
-- of its definition, one law for each kind of line (`bind_done`, `check_done`, `fits_done`).
-- Index: `accepted_value`, `long_value`, `short` (values); `wf_accepted`, `wf_any`, `as_any`, `any_of` (types); `conform_call`, `held_call` (conformance as calls); `statements` (the statements over
-- every order); `vote` (document 01's).
-- Assumes nothing.
use Prim.Native.Nat.{ℕ, ◌+◌, ◌<◌, ◌≤◌}
use native.Mathlib.Omega.{arith}
use mathlib.Core.Path.{◌≡◌, refl, sym, ap, ap₂, subst, ◌∙◌}
use mathlib.Core.Bool.{Bool, true}
use mathlib.Core.Logic.{◌↔◌}
use mathlib.Core.List.{List}
use lib.ListN.{length}
use lib.Dec.{leb}
use borrow.Author.Tests.{le-leb, leb-true}
use Rattle.form.specs.Outcome.{done, ◌>>=◌, ◌>>◌, check, fits}
use Rattle.form.specs.Limits.{value_levels, type_levels, most_bytes}
use Rattle.form.specs.Trees.{Ty}
use Rattle.form.specs.Form.{enc, enc_v, level, level_v, Wf, WfV}
use Rattle.form.specs.Read.{read_type, read_value}
use Rattle.form.specs.ByteForm.{Accepted}
use Rattle.form.proofs.Answered.{done_same, bind_done, check_done, fits_done}
use Rattle.form.proofs.ByteForm.{byte_form}
use Rattle.form.proofs.Encoded.{bytes_enc}
use Rattle.form.proofs.Types.{enc_same, type_exact, any_exact, any_same}
use Rattle.form.proofs.Values.{value_exact}
use Rattle.order.specs.Order.{Order, Laws, fixed}
use Rattle.order.specs.Types.{le, reduce, sup, sub}
use Rattle.order.specs.Document.{reduced_form, eq_ty}
use Rattle.order.specs.Values.{conforms, is_data_by, least}
use Rattle.order.specs.Theorems.{Theorems}
use Rattle.order.specs.ValueTheorems.{ValueTheorems}
use Rattle.order.proofs.Simple.{fixed_laws}
use Rattle.order.proofs.Equal.{eq_bytes}
use Rattle.order.proofs.Size.{length_enc, size_reduce}
use Rattle.order.proofs.Theorems.{theorems}
use Rattle.order.proofs.ValueTheorems.{value_theorems}
use Rattle.types.specs.Calls as types
use Rattle.bounds.specs.Calls.{combined, reduced_call}
use Rattle.values.specs.Calls as values
use Rattle.infer.specs.Calls.{wanted, least_type_by}
use Rattle.vote.specs.Vote.{AcceptedValue, DataValueBy, AcceptedType, AnyType, LeastAnswered, ReducedAnswered, TypesCompared, ValueCompared, LeastDue, BoundDue, ReducedDue}
use Rattle.vote.specs.Vote.{LeastUpperBound, GreatestLowerBound, Statements, Vote}

-- ---- what was accepted
abbrev pub as_value : {O : Order} → DataValueBy O → AcceptedValue
as_value v = record { bytes = v.bytes; are_bytes = v.are_bytes; value = v.value; accepted = v.accepted }

pub accepted_value : (v : AcceptedValue) → Accepted enc_v WfV level_v value_levels v.bytes v.value
accepted_value v = (value_exact v.bytes v.are_bytes v.value).0 v.accepted

pub long_value : (v : AcceptedValue) → (length v.bytes ≡ length (enc_v v.value)) × (length v.bytes ≤ most_bytes)
long_value v = let a = accepted_value v in (ap length a.bytes, a.short)

pub short : (v : AcceptedValue) → length (enc_v v.value) < 65536
short v = let l = long_value v in omega (arith, l.0, l.1)

accepted_type : (t : AcceptedType) → Accepted enc Wf level type_levels t.bytes t.type
accepted_type t = (type_exact t.bytes t.are_bytes t.type).0 t.accepted

long_type : (t : AcceptedType) → (length t.bytes ≡ length (enc t.type)) × (length t.bytes ≤ most_bytes)
long_type t = let a = accepted_type t in (ap length a.bytes, a.short)

pub wf_accepted : (t : AcceptedType) → Wf t.type
wf_accepted t = (accepted_type t).well

pub wf_any : (t : AnyType) → Wf t.type
wf_any t = ((any_exact t.bytes t.are_bytes t.type).0 t.written).1

-- an accepted type is one of any size
abbrev pub as_any : AcceptedType → AnyType
as_any a = record { bytes = a.bytes; are_bytes = a.are_bytes; type = a.type; written = any_same a.bytes a.are_bytes a.type a.accepted }

-- a well-formed tree as a type of any size
abbrev any_of : (t : Ty) → Wf t → AnyType
any_of t w = record { bytes = enc t; are_bytes = bytes_enc t w; type = t; written = (any_exact (enc t) (bytes_enc t w) t).1 (refl, w) }

-- equal trees of any size are equal bytes
same_bytes : (a b : AnyType) → (eq_ty a.type b.type ≡ true) ↔ (a.bytes ≡ b.bytes)
same_bytes a b =
    let p = (any_exact a.bytes a.are_bytes a.type).0 a.written in
    let q = (any_exact b.bytes b.are_bytes b.type).0 b.written in
    let e = eq_bytes a.type b.type p.1 q.1 in
    (λ h. p.0 ∙ e.0 h ∙ sym q.0, λ h. e.1 (sym p.0 ∙ h ∙ q.0))

-- ---- the calls: an answer is due exactly where every line of the definition is passed
-- a check that is passed and an answer that fits
passed : (n m scratch room : ℕ) (x y : List ℕ) → n ≤ scratch → length x ≤ room → y ≡ x → ◌>>◌ (check m (leb n scratch)) (fits room x) ≡ done y
unfolding ◌>>◌
passed n m scratch room x y h k e = rw (le-leb n scratch h, le-leb (length x) room k) (ap done (sym e))

bound_due : (of : Ty → Ty → Ty) (a b : List ℕ) (scratch room : ℕ) (s : List ℕ) → (combined of a b scratch room ≡ done s) ↔ BoundDue of a b scratch room s
unfolding ◌>>=◌
bound_due of a b scratch room s = (
  λ e.
      bind_done (read_type a) _ s e (λ t p f.
      bind_done (read_type b) _ s f (λ u q g.
      check_done 14 (leb (length a + length b) scratch) _ s g (λ c h.
      fits_done room (enc (of t u)) s h (λ r i.
      record { first = t; second = u; first_read = p; second_read = q; scratch_suffices = leb-true (length a + length b) scratch c; room_suffices = r; is = i })))),
  back,
)
  where
    back : BoundDue of a b scratch room s → combined of a b scratch room ≡ done s
    back D = rw (D.first_read, D.second_read)
        (passed (length a + length b) 14 scratch room (enc (of D.first D.second)) s D.scratch_suffices D.room_suffices D.is)

reduced_due : (t : List ℕ) (room : ℕ) (a : List ℕ) → (reduced_call t room ≡ done a) ↔ ReducedDue t room a
unfolding ◌>>=◌
reduced_due t room a = (
  λ e.
      bind_done (read_type t) _ a e (λ u p f.
      fits_done room (enc (reduced_form u)) a f (λ r i.
      record { type = u; read = p; room_suffices = r; is = i })),
  back,
)
  where
    back : ReducedDue t room a → reduced_call t room ≡ done a
    back D = rw (D.read, le-leb (length (enc (reduced_form D.type))) room D.room_suffices) (ap done (sym D.is))

bound_is : (of : Ty → Ty → Ty) (a b : AcceptedType) (scratch room : ℕ) (s : List ℕ) → combined of a.bytes b.bytes scratch room ≡ done s → s ≡ enc (of a.type b.type)
bound_is of a b scratch room s e =
    let D = (bound_due of a.bytes b.bytes scratch room s).0 e in
    D.is ∙ ap₂ (λ t u. enc (of t u)) (done_same (sym D.first_read ∙ a.accepted)) (done_same (sym D.second_read ∙ b.accepted))

reduced_is : (t : AcceptedType) (x : List ℕ) → ReducedAnswered t.bytes x → x ≡ enc (reduced_form t.type)
reduced_is t x A =
    let D = (reduced_due t.bytes A.room x).0 A.answered in
    D.is ∙ ap (λ u. enc (reduced_form u)) (done_same (sym D.read ∙ t.accepted))

-- ---- the statements, over every order
module _ (O : Order) (L : Laws O) where
  types_hold : Theorems O
  types_hold = theorems O L

  values_hold : ValueTheorems O
  values_hold = value_theorems O L

  pub wf_least : (v : DataValueBy O) → Wf (least O v.value)
  wf_least v = values_hold.least_well_formed v.value (accepted_value (as_value v)).well (short (as_value v))

  least_long : (v : DataValueBy O) → length (enc (least O v.value)) ≤ length v.bytes
  least_long v = omega (arith, values_hold.least_length v.value (accepted_value (as_value v)).well, (long_value (as_value v)).0)

  equal_least : (v w : DataValueBy O)
      → (enc (least O v.value) ≡ enc (least O w.value)) ↔ ((t : AnyType) → conforms O v.value t.type ≡ conforms O w.value t.type)
  equal_least v w =
      let e = values_hold.equal_least_types v.value w.value (accepted_value (as_value v)).well (accepted_value (as_value w)).well (short (as_value v)) (short (as_value w))
      v.data_only w.data_only in (
        λ p t. e.0 (enc_same (least O v.value) (least O w.value) (wf_least v) (wf_least w) p) t.type (wf_any t),
        λ h. ap enc (e.1 (λ t f. h (any_of t f))),
      )

  -- the least type is an accepted type
  least_read : (v : DataValueBy O) → read_type (enc (least O v.value)) ≡ done (least O v.value)
  least_read v =
      (type_exact (enc (least O v.value)) (bytes_enc (least O v.value) (wf_least v)) (least O v.value)).1
      (record {
        bytes = refl;
        well = wf_least v;
        low = omega (arith, values_hold.least_level v.value, (accepted_value (as_value v)).low);
        short = omega (arith, least_long v, (long_value (as_value v)).1);
      })

  wf_super : (a b : AcceptedType) → Wf (sup O a.type b.type)
  wf_super a b =
      let l = long_type a in
      let m = long_type b in
      types_hold.supertype_well_formed a.type b.type (accepted_type a).well (accepted_type b).well (omega (arith, l.0, l.1, m.0, m.1))

  bound_of : (a b : AcceptedType) → LeastUpperBound O a b (enc (sup O a.type b.type))
  bound_of a b =
      let above = types_hold.supertype_above a.type b.type (accepted_type a).well (accepted_type b).well in
      record {
        bound = any_of (sup O a.type b.type) (wf_super a b);
        is = refl;
        first = above.0;
        second = above.1;
        least = λ t. types_hold.supertype_least a.type b.type t.type;
        reduced = types_hold.supertype_reduced a.type b.type;
      }

  wf_sub : (a b : AcceptedType) → Wf (sub O a.type b.type)
  wf_sub a b =
      let l = long_type a in
      let m = long_type b in
      types_hold.subtype_well_formed a.type b.type (accepted_type a).well (accepted_type b).well (omega (arith, l.0, l.1, m.0, m.1))

  below_of : (a b : AcceptedType) → GreatestLowerBound O a b (enc (sub O a.type b.type))
  below_of a b =
      let below = types_hold.subtype_below a.type b.type (accepted_type a).well (accepted_type b).well in
      record {
        bound = any_of (sub O a.type b.type) (wf_sub a b);
        is = refl;
        first = below.0;
        second = below.1;
        greatest = λ t. types_hold.subtype_greatest a.type b.type t.type;
        reduced = types_hold.subtype_reduced a.type b.type;
      }

  pub each : (a b : AnyType)
      → ((le O a.type b.type ≡ true) × (le O b.type a.type ≡ true)) ↔ (enc (reduce O a.type) ≡ enc (reduce O b.type))
  each a b =
      let e = types_hold.each_other a.type b.type (wf_any a) (wf_any b) in (
        λ h. ap enc (e.0 h),
        λ p. e.1 (enc_same (reduce O a.type) (reduce O b.type) (types_hold.reduced_well_formed a.type (wf_any a)) (types_hold.reduced_well_formed b.type (wf_any b)) p),
      )

  pub types_compared : (a b : List ℕ) (verdict : Bool) → (types.is_conformant_by O a b ≡ done verdict) ↔ TypesCompared O a b verdict
  unfolding types.is_conformant_by ◌>>=◌
  types_compared a b verdict = (
    λ e.
        bind_done (read_type a) _ verdict e (λ s p f.
        bind_done (read_type b) _ verdict f (λ t q g.
        record { first = s; second = t; first_read = p; second_read = q; is = sym (done_same g) })),
    back,
  )
    where
      back : TypesCompared O a b verdict → types.is_conformant_by O a b ≡ done verdict
      back C = rw (C.first_read, C.second_read) (ap done (sym C.is))

  value_compared : (v t : List ℕ) (verdict : Bool) → (values.is_conformant_by O v t ≡ done verdict) ↔ ValueCompared O v t verdict
  unfolding values.is_conformant_by ◌>>=◌
  value_compared v t verdict = (
    λ e.
        bind_done (read_value v) _ verdict e (λ w p f.
        bind_done (read_type t) _ verdict f (λ u q g.
        record { value = w; type = u; value_read = p; type_read = q; is = sym (done_same g) })),
    back,
  )
    where
      back : ValueCompared O v t verdict → values.is_conformant_by O v t ≡ done verdict
      back C = rw (C.value_read, C.type_read) (ap done (sym C.is))

  least_due : (v : List ℕ) (scratch room : ℕ) (a : List ℕ) → (least_type_by O v scratch room ≡ done a) ↔ LeastDue O v scratch room a
  unfolding least_type_by ◌>>=◌ ◌>>◌
  least_due v scratch room a = (
    λ e.
        bind_done (read_value v) _ a e (λ w p f.
        check_done 13 (is_data_by O w) _ a f (λ d g.
        check_done 14 (leb (wanted v) scratch) _ a g (λ c h.
        fits_done room (enc (least O w)) a h (λ r i.
        record { value = w; read = p; data_only = d; scratch_suffices = leb-true (wanted v) scratch c; room_suffices = r; is = i })))),
    back,
  )
    where
      back : LeastDue O v scratch room a → least_type_by O v scratch room ≡ done a
      back D = rw (D.read, D.data_only) (passed (wanted v) 14 scratch room (enc (least O D.value)) a D.scratch_suffices D.room_suffices D.is)

  pub conform_call : (a b : AcceptedType) → types.is_conformant_by O a.bytes b.bytes ≡ done (le O a.type b.type)
  conform_call a b =
      (types_compared a.bytes b.bytes (le O a.type b.type)).1
      (record { first = a.type; second = b.type; first_read = a.accepted; second_read = b.accepted; is = refl })

  pub held_call : (v : AcceptedValue) (t : AcceptedType) → values.is_conformant_by O v.bytes t.bytes ≡ done (conforms O v.value t.type)
  held_call v t =
      (value_compared v.bytes t.bytes (conforms O v.value t.type)).1
      (record { value = v.value; type = t.type; value_read = v.accepted; type_read = t.accepted; is = refl })

  least_is : (v : DataValueBy O) (a : List ℕ) → LeastAnswered O v.bytes a → a ≡ enc (least O v.value)
  least_is v a A =
      let D = (least_due v.bytes A.scratch A.room a).0 A.answered in
      D.is ∙ ap (λ w. enc (least O w)) (done_same (sym D.read ∙ v.accepted))

  -- the least type that was answered, as an accepted type
  abbrev least_accepted : DataValueBy O → AcceptedType
  least_accepted v = record { bytes = enc (least O v.value); are_bytes = bytes_enc (least O v.value) (wf_least v); type = least O v.value; accepted = least_read v }

  pub statements : Statements O
  statements = record {
    equal_least_types = equal_least;
    equal_answers = λ v w a b A B.
        let p = least_is v a A in
        let q = least_is w b B in
        (λ e. (equal_least v w).0 (sym p ∙ e ∙ q), λ h. p ∙ (equal_least v w).1 h ∙ sym q);
    by_least_type = λ v t. values_hold.by_least_type v.value t.type v.data_only;
    answer_accepted = λ v a A. ap read_type (least_is v a A) ∙ least_read v;
    least_reduced = λ v. values_hold.least_reduced v.value;
    by_answer = λ v a A t.
        held_call (as_value v) t
        ∙ ap done (values_hold.by_least_type v.value t.type v.data_only)
        ∙ sym (conform_call (least_accepted v) t)
        ∙ ap (λ x. types.is_conformant_by O x t.bytes) (sym (least_is v a A));
    supertype_bound = bound_of;
    answer_bound = λ a b s A. subst (LeastUpperBound O a b) (sym (bound_is (sup O) a b A.scratch A.room s A.answered)) (bound_of a b);
    subtype_bound = below_of;
    answer_below = λ a b s A. subst (GreatestLowerBound O a b) (sym (bound_is (sub O) a b A.scratch A.room s A.answered)) (below_of a b);
    each_other = each;
    value_conformance = value_compared;
    type_conformance = types_compared;
    least_type_lem = least_due;
    common_supertype_lem = bound_due (sup O);
    common_subtype_lem = bound_due (sub O);
    least_room = least_long;
    supertype_room = λ a b. omega (arith, types_hold.supertype_length a.type b.type (accepted_type a).well, (long_type a).0, (long_type b).0);
    subtype_room = λ a b. omega (arith, types_hold.subtype_length a.type b.type (accepted_type a).well, (long_type a).0, (long_type b).0);
  }

-- ---- document 01's
pub vote : Vote
vote =
    record {
      byte_form = byte_form;
      accepted_any = byte_form.accepted_any;
      any_some = byte_form.any_some;
      any_numbers = byte_form.any_numbers;
      type_equality = same_bytes;
      statements = statements fixed fixed_laws;
      each_other_answers = λ a b x y A B.
          let p = reduced_is a x A in
          let q = reduced_is b y B in
          let ab = conform_call fixed fixed_laws a b in
          let ba = conform_call fixed fixed_laws b a in
          let e = each fixed fixed_laws (as_any a) (as_any b) in (
            λ h. p ∙ e.0 (done_same (sym ab ∙ h.0), done_same (sym ba ∙ h.1)) ∙ sym q,
            λ z. let h = e.1 (sym p ∙ z ∙ q) in (ab ∙ ap done h.0, ba ∙ ap done h.1),
          );
      reduced_form_lem = reduced_due;
      reduced_room = λ t. omega (arith, size_reduce fixed t.type, length_enc t.type, length_enc (reduced_form t.type), (long_type t).0);
    }
