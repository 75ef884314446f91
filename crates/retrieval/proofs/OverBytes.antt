-- What `OverBytes` states of the calls holds (`over_bytes`): what was accepted is well-formed, so the laws on trees apply, and what is retrieved is read back from its bytes.
-- Assumes nothing.
use Prim.Native.Nat.{ℕ, ◌≤◌}
use native.Mathlib.Omega.{arith}
use mathlib.Core.Path.{◌≡◌, refl, sym, ap, ◌∙◌}
use mathlib.Core.Bool.{Bool, true, false, cond}
use mathlib.Core.Option.{Option, none, some}
use mathlib.Core.List.{List, [], ◌∷◌}
use lib.ListN.{length, get_or}
use lib.Dec.{leb}
use borrow.Author.Tests.{le-leb}
use Rattle.form.specs.Trees.{null, Ty, leaf, built, Val, nothing}
use Rattle.form.specs.Form.{enc, enc_v, WfV}
use Rattle.form.specs.Outcome.{Outcome, done, refused, ◌>>=◌, pick, fits}
use Rattle.form.specs.Read.{read_value}
use Rattle.form.proofs.Encoded.{bytes_enc_v}
use Rattle.form.proofs.Types.{type_accepted}
use Rattle.form.proofs.Values.{value_accepted, value_accepts}
use Rattle.order.specs.Ascending.{Asc}
use Rattle.order.specs.Inferred.{value_conforms_to}
use Rattle.order.proofs.Simple.{same_eq}
use Rattle.order.proofs.WellFormed.{asc_of}
use Rattle.types.specs.Calls.{is_yes}
use Rattle.values.specs.Calls.{is_conformant_by, is_conformant, Accepted}
use Rattle.retrieval.specs.Retrieve.{retrieve, is_null_type, or_nothing}
use Rattle.retrieval.specs.Retrieval.{There}
use Rattle.retrieval.specs.ByNames.{retrieve_by_names}
use Rattle.retrieval.specs.Calls.{get_value_checked_call, get_conformant_value_call}
use Rattle.retrieval.specs.OverBytes.{Conformant, RetrievedBytes, result_of, OverBytes}
use Rattle.retrieval.proofs.Theorems.{less_val, there}
use Rattle.retrieval.proofs.ByNames.{by_names}
use Rattle.output.specs.Result.{checked_result}
use Rattle.retrieval.proofs.CallContracts.{well, checked_is, checked_err, retrieved_within, value_short, conformant_is, nothing_is, null_type_lem, null_target, not_conformant, is_conformant_lem}

-- an answer or 18
fits_refused : (room : ℕ) (bs : List ℕ) (n : ℕ) → fits room bs ≡ refused n → n ≡ 18
fits_refused room bs n e = go (leb (length bs) room) e
  where
    go : (q : Bool) → pick {X = Outcome (List ℕ)} q (done bs) (refused 18) ≡ refused n → n ≡ 18
    go true p = absurd (let z : ◌≡◌ {A = ℕ} 0 1 = cc in omega arith)
    go false p = cc

module _ (t v : List ℕ) (A : Accepted t v) where
  -- what the call for conformance says
  said : (q : Bool) → is_conformant v t ≡ done q → value_conforms_to A.value A.type ≡ q
  unfolding is_conformant_by ◌>>=◌
  said q h = let z : done (value_conforms_to A.value A.type) ≡ done q = rw (A.read_v_lem, A.read_t_lem) at h in cc

  ascends : Asc A.type
  ascends = asc_of A.type (type_accepted t A.bytes_t A.type A.read_t_lem).well

  found : value_conforms_to A.value A.type ≡ true → There A.value A.type
  found h = there A.value A.type (well t v A) ascends h

  -- over the type's names
  named : (room : ℕ) → get_value_checked_call t v room ≡ result_of room (retrieve_by_names A.value A.type)
  unfolding get_value_checked_call ◌>>=◌
  named room = rw (A.read_t_lem, A.read_v_lem, by_names A.value A.type (well t v A) ascends)

  -- what was retrieved is read back
  module _ (w : Val) (e : retrieve A.value A.type ≡ some w) where
    well_too : WfV w
    well_too = (less_val A.value A.type w e).well (well t v A)

    read_back : read_value (enc_v w) ≡ done w
    read_back =
        let C = value_accepted v A.bytes_v A.value A.read_v_lem in
        value_accepts (enc_v w) w (record {
          bytes = refl;
          well = well_too;
          low = omega (arith, (less_val A.value A.type w e).lower, C.low);
          short = omega (arith, retrieved_within t v A w e, value_short t v A);
        })

    conforms_back : value_conforms_to w A.type ≡ true → is_conformant (enc_v w) t ≡ done true
    unfolding is_conformant_by ◌>>=◌
    conforms_back h = rw (read_back, A.read_t_lem, h)

  retrieved : is_conformant v t ≡ done true → RetrievedBytes t v
  retrieved h =
      let T = found (said true h) in
      record {
        answer = enc_v T.w;
        are_bytes = bytes_enc_v T.w (well_too T.w T.is);
        answered = λ room. checked_is t v A room T.w T.is;
        no_longer = retrieved_within t v A T.w T.is;
        conforms_too = conforms_back T.w T.is T.conforms_too;
      }

  within_limits : (room : ℕ) → get_value_checked_call t v room ≡ refused 17 → ⊥
  within_limits room e = go (retrieve A.value A.type) refl
    where
      go : (o : Option Val) → retrieve A.value A.type ≡ o → ⊥
      go (some w) p = let z = fits_refused room (enc_v w) 17 (sym (checked_is t v A room w p) ∙ e) in omega arith
      go none p = let z : refused 15 ≡ refused 17 = sym (checked_err t v A room p) ∙ e in let y : ◌≡◌ {A = ℕ} 15 17 = cc in omega arith

  -- the type Null is the byte 29
  null_byte : get_or t 0 0 ≡ 0x29 → t ≡ 0x29 ∷ []
  unfolding enc
  null_byte e = (type_accepted t A.bytes_t A.type A.read_t_lem).bytes ∙ go A.type (null_type_lem t v A e)
    where
      go : (u : Ty) → is_null_type u ≡ true → enc u ≡ 0x29 ∷ []
      go (leaf s) h = rw (same_eq s null h)
      go (built x) h = absurd (let z : ◌≡◌ {A = ℕ} 0 1 = cc in omega arith)

  by_tests : (room : ℕ) (p q : Bool) → is_null_type A.type ≡ p → value_conforms_to A.value A.type ≡ q
      → get_conformant_value_call t v room ≡ checked_result room (cond p (nothing 0) (cond q (or_nothing (retrieve A.value A.type)) (nothing 2)))
  by_tests room p q f g = conformant_is t v A room ∙ rw (f, g)

  refuses : (room n : ℕ) → get_conformant_value_call t v room ≡ refused n → n ≡ 18
  refuses room n e = go (is_null_type A.type) (value_conforms_to A.value A.type) refl refl
    where
      of_nothing : (k : ℕ) → get_conformant_value_call t v room ≡ checked_result room (nothing k) → n ≡ 18
      of_nothing k g = fits_refused room (0 ∷ k ∷ []) n (sym (nothing_is t v A room k) ∙ sym g ∙ e)

      go : (p q : Bool) → is_null_type A.type ≡ p → value_conforms_to A.value A.type ≡ q → n ≡ 18
      go true q f g = of_nothing 0 (by_tests room true q f g)
      go false false f g = of_nothing 2 (by_tests room false false f g)
      go false true f g =
          let T = found g in
          fits_refused room (enc_v T.w) n (sym (checked_is t v A room T.w T.is) ∙ is_conformant_lem t v A g room ∙ e)

pub over_bytes : OverBytes
over_bytes =
    record {
      by_names = named;
      behind_conformance = λ t v c. retrieved t v c.both c.yes;
      never_15 = λ t v c room e.
          let R = retrieved t v c.both c.yes in
          let z = fits_refused room R.answer 15 (sym (R.answered room) ∙ e) in
          omega arith;
      has_room = λ t v c room h. roomy t v c room h;
      never_17 = within_limits;
      null_target = λ t v A e room. sym (null_target t v A (ap (λ s. get_or s 0 0) e) room);
      not_conformant = λ t v A d h room. sym (not_conformant t v A (λ e. d (null_byte t v A e)) (sym (ap is_yes h)) room);
      conformant = λ t v c room. sym (is_conformant_lem t v c.both (said t v c.both true c.yes) room);
      only_18 = refuses;
    }
  where
    roomy : (t v : List ℕ) (c : Conformant t v) (room : ℕ) → length v ≤ room → get_value_checked_call t v room ≡ done (retrieved t v c.both c.yes).answer
    roomy t v c room h =
        let R = retrieved t v c.both c.yes in
        R.answered room ∙ ap (λ q. pick {X = Outcome (List ℕ)} q (done R.answer) (refused 18)) (le-leb (length R.answer) room (omega (arith, R.no_longer)))
