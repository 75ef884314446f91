-- The calls: refusals in their order, and the answer.
-- Idea: a retrieved value is no longer than the value, so it stands whole in the spare place, and 17 is never met.
-- Index: `accepted`, `type_ok`, `value_ok` (arguments); `retrieved_within`, `retrieved_small`, `checked_is`, `checked_err`, `found`, `call_err`, `call_room`, `call_done` (`get_value_checked`);
-- `conformant_is`, `null_target`, `not_conformant`, `is_conformant_lem` (`get_conformant_value`); `checked_refused_t`, `checked_refused_v`, `conformant_refused_t`, `conformant_refused_v`.
-- Assumes nothing.
use Prim.Native.Nat.{ℕ, ◌<◌, ◌≤◌}
use native.Mathlib.Omega.{arith}
use mathlib.Core.Path.{◌≡◌, refl, sym, ap, ap₂, ◌∙◌}
use mathlib.Core.Bool.{true, false, cond, ◌&&◌}
use mathlib.Core.Option.{Option, none, some}
use mathlib.Core.List.{List, [], ◌∷◌}
use lib.ListN.{length, get_or, take, length-take}
use borrow.Author.Tests.{le-leb, eq-eqb, ne_eqb}
use Rattle.form.specs.Limits.{type_levels, value_levels, most_bytes, value_refusals}
use Rattle.form.specs.Trees.{code, Ty, leaf, built, list, range, context, function, Val, nothing}
use Rattle.form.specs.Form.{Bytes, enc_v, enc_leaf, level_v, WfV}
use Rattle.form.specs.Outcome.{done, refused, ◌>>=◌, ◌>>◌, fits}
use Rattle.form.specs.Read.{read_v, read_type, read_value, check_type, check_value}
use Rattle.form.specs.Answers.{Built}
use Rattle.form.proofs.Accepted.{whole_got}
use Rattle.form.proofs.Types.{type_accepted, type_told}
use Rattle.form.proofs.Values.{value_accepted, value_told, read_up_v}
use Rattle.order.specs.Size.{size, size_val}
use Rattle.order.specs.Inferred.{value_conforms_to}
use Rattle.order.proofs.LeastSize.{length_enc_v}
use Rattle.order.proofs.WellFormed.{asc_of}
use Rattle.types.specs.At.{type_at, Ok}
use Rattle.types.proofs.Reading.{got_seen, is_ok, some_byte, cmd, cmd_is}
use Rattle.types.specs.Calls.{is_yes}
use Rattle.types.proofs.CallContracts.{whole_type}
use Rattle.values.specs.At.{value_at}
use Rattle.values.specs.Calls.{is_conformant, Accepted}
use Rattle.output.proofs.OntoLaws.{length_onto}
use Rattle.output.proofs.Outcomes.{built_refused}
use Rattle.retrieval.specs.Retrieve.{retrieve, is_null_type, or_nothing, get_conformant_value}
use Rattle.retrieval.specs.Filling.{answered, Gave, Retrieves}
use Rattle.retrieval.specs.Calls.{get_value_checked_call, get_conformant_value_call}
use Rattle.retrieval.specs.declared.builder.Retrieved.{Retrieved}
use Rattle.std.specs.declared.result.Result.{Result}
use Rattle.std.specs.declared.result.Result.TheVariants.{Err}
use Rattle.form.specs.declared.refusals.Refusal.{Refusal}
use Rattle.form.specs.declared.refusals.Refusal.TheVariants.{NotRetrieved}
use Rattle.std.specs.declared.option.Option.{Option as Maybe}
use Rattle.std.specs.declared.option.Option.TheVariants.{None}
use Rattle.retrieval.proofs.BuilderContract.{worth, yes_none}
use Rattle.retrieval.specs.Filling.{yes}
use Rattle.output.proofs.FillLaws.{handed}
use Rattle.retrieval.proofs.Theorems.{less_val, there, conformant_value}
use Rattle.form.specs.Options.{map}
use Rattle.output.specs.Output.{fill, Filled}
use Rattle.output.specs.Result.{small, checked_result}
use Rattle.values.proofs.CallContracts.{not_held}

small_result : (room : ℕ) (w : Val) → small w ≡ true → fits room (enc_v w) ≡ checked_result room w
unfolding ◌>>◌
small_result room w h = rw h

-- ---- the two that were accepted
module _ (t v : List ℕ) (A : Accepted t v) where
  type_there : type_at type_levels t ≡ some A.type
  type_there = whole_type.stands t A.type A.read_t_lem

  value_there : value_at type_levels v ≡ some A.value
  unfolding value_at
  value_there = got_seen (read_v type_levels v) A.value (length v) (read_up_v value_levels type_levels v A.bytes_v A.value (length v) (omega arith)
      (whole_got value_refusals (read_v value_levels) v A.value A.read_v_lem))

  pub type_ok : Ok (type_at type_levels t)
  type_ok = is_ok (type_at type_levels t) A.type type_there

  pub value_ok : Ok (value_at type_levels v)
  value_ok = is_ok (value_at type_levels v) A.value value_there

  pub well : WfV A.value
  well = (value_accepted v A.bytes_v A.value A.read_v_lem).well

  -- a value that was retrieved is not longer
  pub retrieved_within : (w : Val) → retrieve A.value A.type ≡ some w → length (enc_v w) ≤ length v
  retrieved_within w e =
      omega (arith, length_enc_v w, length_enc_v A.value, (less_val A.value A.type w e).shorter, ap length (value_accepted v A.bytes_v A.value A.read_v_lem).bytes)

  pub value_short : length v ≤ most_bytes
  value_short = (value_accepted v A.bytes_v A.value A.read_v_lem).short

  -- a value that was retrieved is small: 17 is never met
  pub retrieved_small : (w : Val) → retrieve A.value A.type ≡ some w → small w ≡ true
  retrieved_small w e =
      let C = value_accepted v A.bytes_v A.value A.read_v_lem in
      let L = less_val A.value A.type w e in
      let n : length (enc_v w) ≤ most_bytes = omega (arith, retrieved_within w e, value_short) in
      let m : level_v w ≤ value_levels = omega (arith, L.lower, C.low) in
      ap₂ ◌&&◌ (le-leb (length (enc_v w)) most_bytes n) (le-leb (level_v w) value_levels m)

  pub checked_is : (room : ℕ) (w : Val) → retrieve A.value A.type ≡ some w → get_value_checked_call t v room ≡ fits room (enc_v w)
  unfolding get_value_checked_call ◌>>=◌ ◌>>◌
  checked_is room w e = rw (A.read_t_lem, A.read_v_lem, e, retrieved_small w e)

  pub checked_err : (room : ℕ) → retrieve A.value A.type ≡ none → get_value_checked_call t v room ≡ refused 15
  unfolding get_value_checked_call ◌>>=◌
  checked_err room e = rw (A.read_t_lem, A.read_v_lem, e)

  -- ---- what the builder says
  module _ (old new : List ℕ) (r : Maybe Retrieved) (g : Retrieves (type_at type_levels t) (value_at type_levels v) old new r) where
    gave : Gave A.type A.value old new r
    unfolding Retrieves
    gave = rw (type_there, value_there) at g

    pub err_is : r ≡ None → retrieve A.value A.type ≡ none
    unfolding answered
    err_is p = go (retrieve A.value A.type) (sym gave.says ∙ p)
      where
        go : (o : Option Val) → answered (size A.type) (size_val A.value) (map enc_v o) ≡ None → o ≡ none
        go none e = refl
        go (some w) e = absurd (yes_none e)

    pub record Found (n : ℕ) : Type 0 where
      pub w : Val
      pub is : retrieve A.value A.type ≡ some w
      pub long : n ≡ length (enc_v w)
      pub out : new ≡ fill (enc_v w) old

    pub found : (a b n : ℕ) → r ≡ yes a b n → Found n
    unfolding answered Filled worth
    found a b n p = go (retrieve A.value A.type) refl (sym gave.says ∙ p) gave.out
      where
        go : (o : Option Val) → retrieve A.value A.type ≡ o → answered (size A.type) (size_val A.value) (map enc_v o) ≡ yes a b n → Filled (map enc_v o) old new → Found n
        go none q e f = absurd (yes_none (sym e))
        go (some w) q e f = record { w = w; is = q; long = sym (ap (worth 0 (λ r. r.wrote)) e); out = f }

    -- the output keeps its length
    pub gave_kept : length new ≡ length old
    unfolding Filled fill
    gave_kept = go (retrieve A.value A.type) gave.out
      where
        go : (o : Option Val) → Filled (map enc_v o) old new → length new ≡ length old
        go none f = f
        go (some w) f = ap length f ∙ length_onto (take (length old) (enc_v w)) old (omega (arith, length-take (length old) (enc_v w)))

  -- ---- in a spare place as long as the value
  module _ (old was spare : List ℕ) (r : Maybe Retrieved) (g : Retrieves (type_at type_levels t) (value_at type_levels v) was spare r) where
    pub call_err : r ≡ None → Built (get_value_checked_call t v (length old)) old old (Err NotRetrieved)
    call_err p = built_refused (get_value_checked_call t v (length old)) NotRetrieved old (checked_err (length old) (err_is was spare r g p))

    module _ (a b n : ℕ) (p : r ≡ yes a b n) (h : length v ≤ length was) where
      F : Found was spare r g n
      F = found was spare r g a b n p

      within : n ≤ length was
      within = omega (arith, F.long, retrieved_within F.w F.is)

      pub call_room : n ≤ length spare
      call_room = omega (arith, within, gave_kept was spare r g)

      pub call_done : (new : List ℕ) (q : Result ℕ Refusal) → Built (fits (length old) (take n spare)) old new q → Built (get_value_checked_call t v (length old)) old new q
      call_done new q d = handed (get_value_checked_call t v (length old)) (enc_v F.w) spare was old new n q (checked_is (length old) F.w F.is) F.out F.long within d

  -- ---- `get_conformant_value`
  pub conformant_is : (room : ℕ) → get_conformant_value_call t v room ≡ checked_result room (get_conformant_value A.type A.value)
  unfolding get_conformant_value_call ◌>>=◌ ◌>>◌
  conformant_is room = rw (A.read_t_lem, A.read_v_lem)

  pub some_type : 0 < length t
  some_type = some_byte type_levels t A.type type_there

  pub null_type_lem : get_or t 0 0 ≡ 0x29 → is_null_type A.type ≡ true
  null_type_lem e = go A.type (cmd_is type_levels t A.type type_there ∙ e)
    where
      go : (u : Ty) → cmd u ≡ 0x29 → is_null_type u ≡ true
      go (leaf s) h = eq-eqb (code s) 9 (omega arith)
      go (built (list u)) h = absurd (omega arith)
      go (built (range u)) h = absurd (omega arith)
      go (built (context fs)) h = absurd (omega arith)
      go (built (function ps r)) h = absurd (omega arith)

  pub other_type : (get_or t 0 0 ≡ 0x29 → ⊥) → is_null_type A.type ≡ false
  other_type e = go A.type (λ z. e (sym (cmd_is type_levels t A.type type_there) ∙ z))
    where
      go : (u : Ty) → (cmd u ≡ 0x29 → ⊥) → is_null_type u ≡ false
      go (leaf s) h = ne_eqb (code s) 9 (λ z. h (omega arith))
      go (built (list u)) h = refl
      go (built (range u)) h = refl
      go (built (context fs)) h = refl
      go (built (function ps r)) h = refl

  -- null with a trace is small
  pub nothing_is : (room n : ℕ) → checked_result room (nothing n) ≡ fits room (0 ∷ n ∷ [])
  unfolding ◌>>◌ enc_v enc_leaf level_v
  nothing_is room n = refl

  pub null_target : get_or t 0 0 ≡ 0x29 → (room : ℕ) → fits room (0 ∷ 0 ∷ []) ≡ get_conformant_value_call t v room
  null_target e room = sym (conformant_is room ∙ ap (λ q. checked_result room (cond q (nothing 0) (cond (value_conforms_to A.value A.type) (or_nothing (retrieve A.value A.type)) (nothing 2))))
      (null_type_lem e) ∙ nothing_is room 0)

  pub not_conformant : (get_or t 0 0 ≡ 0x29 → ⊥) → false ≡ is_yes (is_conformant v t) → (room : ℕ) → fits room (0 ∷ 2 ∷ []) ≡ get_conformant_value_call t v room
  not_conformant d e room =
      sym (conformant_is room
      ∙ ap (λ q. checked_result room (cond q (nothing 0) (cond (value_conforms_to A.value A.type) (or_nothing (retrieve A.value A.type)) (nothing 2)))) (other_type d)
      ∙ ap (λ q. checked_result room (cond q (or_nothing (retrieve A.value A.type)) (nothing 2))) (not_held t v A e) ∙ nothing_is room 2)

  pub is_conformant_lem : value_conforms_to A.value A.type ≡ true → (room : ℕ) → get_value_checked_call t v room ≡ get_conformant_value_call t v room
  is_conformant_lem h room =
      let T = there A.value A.type well (asc_of A.type (type_accepted t A.bytes_t A.type A.read_t_lem).well) h in
      checked_is room T.w T.is
      ∙ small_result room T.w (retrieved_small T.w T.is)
      ∙ sym (conformant_is room ∙ ap (checked_result room) (conformant_value A.value A.type h ∙ ap or_nothing T.is))

-- ---- arguments that are refused
pub checked_refused_t : (t v : List ℕ) (n k : ℕ) → read_type t ≡ refused n → get_value_checked_call t v k ≡ refused n
unfolding get_value_checked_call ◌>>=◌
checked_refused_t t v n k e = rw e

pub checked_refused_v : (t v : List ℕ) (u : Ty) (n k : ℕ) → read_type t ≡ done u → read_value v ≡ refused n → get_value_checked_call t v k ≡ refused n
unfolding get_value_checked_call ◌>>=◌
checked_refused_v t v u n k e f = rw (e, f)

pub conformant_refused_t : (t v : List ℕ) (n k : ℕ) → read_type t ≡ refused n → get_conformant_value_call t v k ≡ refused n
unfolding get_conformant_value_call ◌>>=◌
conformant_refused_t t v n k e = rw e

pub conformant_refused_v : (t v : List ℕ) (u : Ty) (n k : ℕ) → read_type t ≡ done u → read_value v ≡ refused n → get_conformant_value_call t v k ≡ refused n
unfolding get_conformant_value_call ◌>>=◌
conformant_refused_v t v u n k e f = rw (e, f)

-- what the readers of a call said
pub accepted : (t v : List ℕ) (n m : ℕ) → Bytes t → Bytes v → check_type t ≡ done n → check_value v ≡ done m → Accepted t v
accepted t v n m bt bv e f =
    let T = type_told t bt n e in
    let W = value_told v bv m f in
    record { bytes_t = bt; bytes_v = bv; type = T.tree; value = W.tree; read_t_lem = T.reads; read_v_lem = W.reads }
