-- The calls behind the reader: refusals in their order, and the answer from the scratch.
-- Idea: a value's type is no longer than the value, so a scratch of four times its length is enough.
-- Index: `Fine`, `fine`, `fine_ok` (an accepted value); `ask`, `build_long`, `build_scratch`, `build_ask`, `build_inside`, `build_given` (`build_with`);
-- `type_refused`, `type_done`, `least_refused`, `is_data_lem`, `least_other`, `least_done` (the calls).
-- Assumes nothing.
use Prim.Native.Nat.{ℕ, ◌*◌, ◌<◌, ◌≤◌}
use mathlib.Core.Path.{◌≡◌, refl, sym, ap, subst, ◌∙◌}
use mathlib.Core.Bool.{Bool, true, false}
use mathlib.Core.Option.{Option, some}
use mathlib.Core.List.{List, [], append-nil}
use native.Mathlib.Omega.{arith}
use lib.ListN.{length, take, drop, length-append}
use borrow.Author.Tests.{le-leb, lt-leb}
use Rattle.form.specs.Limits.{value_levels, most_bytes}
use Rattle.form.specs.Trees.{Val}
use Rattle.form.specs.Form.{Bytes, enc, enc_v, level_v, WfV}
use Rattle.form.specs.Outcome.{Outcome, done, refused, ◌>>=◌, ◌>>◌, fits}
use Rattle.form.specs.Read.{read_v, read_value, check_value}
use Rattle.form.specs.Answers.{number, onto, Built}
use Rattle.std.specs.declared.option.Option.{Option as Maybe}
use Rattle.std.specs.Option.{is_some}
use Rattle.std.specs.declared.result.Result.{Result}
use Rattle.std.specs.declared.result.Result.TheVariants.{Err}
use Rattle.form.specs.declared.refusals.Refusal.{Refusal}
use Rattle.form.specs.declared.refusals.Refusal.TheVariants.{Scratch, NotData}
use Rattle.form.specs.ByteForm.{Accepted}
use Rattle.form.proofs.ExactValues.{read_enc_v}
use Rattle.form.proofs.Values.{value_told, value_accepted}
use Rattle.order.specs.Size.{size_val}
use Rattle.order.specs.Order.{Order, fixed}
use Rattle.order.specs.Values.{is_data_by}
use Rattle.order.proofs.LeastSize.{length_enc_v}
use Rattle.types.specs.At.{Ok}
use Rattle.types.proofs.Reading.{got_seen, is_ok}
use Rattle.values.specs.At.{value_at}
use Rattle.values.proofs.CallContracts.{value_refused}
use Rattle.output.proofs.Outcomes.{built_refused}
use Rattle.output.proofs.OntoLaws.{onto_front}
use Rattle.infer.specs.Typing.{data_by, type_by, Fits, Fitting, FitVal, Starts, Wrote, Typed, type_text}
use Rattle.infer.specs.Calls.{wanted, least_type_by, type_of_call, ReadyFor, Ready, type_call}
use Rattle.infer.proofs.OnlyData.{told, some_told, by_got}

-- a value that was accepted
pub record Fine (s : List ℕ) : Type 0 where
  pub v : Val
  pub reads : read_value s ≡ done v
  pub there : value_at value_levels s ≡ some v
  pub sized : size_val v ≡ length s
  pub well : WfV v
  pub short : length s ≤ most_bytes

there_is : (s : List ℕ) (v : Val) → Accepted enc_v WfV level_v value_levels s v → value_at value_levels s ≡ some v
unfolding value_at
there_is s v A = got_seen (read_v value_levels s) v (length (enc_v v)) (ap (read_v value_levels) (A.bytes ∙ sym (append-nil (enc_v v))) ∙ read_enc_v v value_levels [] A.well A.low)

abbrev fine_of : (s : List ℕ) → Bytes s → (v : Val) → read_value s ≡ done v → Fine s
fine_of s bs v e =
    let A = value_accepted s bs v e in
    record { v = v; reads = e; there = there_is s v A; sized = sym (length_enc_v v) ∙ ap length (sym A.bytes); well = A.well; short = A.short }

pub fine : (s : List ℕ) (n : ℕ) → Bytes s → done n ≡ check_value s → Fine s
fine s n bs e = let T = value_told s bs n (sym e) in fine_of s bs T.tree T.reads

pub fine_ok : {s : List ℕ} (F : Fine s) → Ok (value_at value_levels s)
fine_ok {s} F = is_ok (value_at value_levels s) F.v F.there

-- ---- the calls
pub type_refused : (s : List ℕ) (r : Refusal) (k : ℕ) (old : List ℕ) → refused (number r) ≡ check_value s → Built (type_of_call s k (length old)) old old (Err r)
unfolding type_of_call ◌>>=◌
type_refused s r k old e = built_refused (type_of_call s k (length old)) r old is
  where
    is : type_of_call s k (length old) ≡ refused (number r)
    is = rw (value_refused s (number r) e)

pub type_done : (s : List ℕ) (k : ℕ) (old new : List ℕ) (r : Result ℕ Refusal) → Built (type_call fixed false s k (length old)) old new r → Built (type_of_call s k (length old)) old new r
unfolding type_call type_of_call
type_done s k old new r b = b

module _ (O : Order) where
  -- ---- what `build` asks
  pub ask : (least : Bool) (s : List ℕ) (F : Fine s) → Bytes s → (least ≡ true → is_data_by O F.v ≡ true) → Ready O least s
  unfolding ReadyFor
  ask least s F bs h = (bs, rw F.reads h)

  abbrev ready_fine : (least : Bool) (s : List ℕ) → Ready O least s → (F : Fine s) × (least ≡ true → is_data_by O F.v ≡ true)
  unfolding ReadyFor
  ready_fine least s h = go (read_value s) refl h.1
    where
      go : (o : Outcome Val) → read_value s ≡ o → ReadyFor O least o → (F : Fine s) × (least ≡ true → is_data_by O F.v ≡ true)
      go (done v) e k = (fine_of s h.0 v e, k)
      go (refused n) e k = absurd k

  fit_of : (least : Bool) (x : Option Val) (v : Val) (room spare : ℕ) → x ≡ some v → Fits WfV (is_data_by O) size_val least v room spare → FitVal O least x room spare
  unfolding Fitting
  fit_of least x v room spare e h = rw e h

  typed_is : (least : Bool) (x : Option Val) (v : Val) (old new : List ℕ) (n w : ℕ) → x ≡ some v → Typed size_val (type_text O least) x old new n w → Wrote size_val (type_text O least) v old new n w
  unfolding Typed
  typed_is least x v old new n w e h = rw e at h

  module _ (least : Bool) (s : List ℕ) (k : ℕ) (old : List ℕ) (h : Ready O least s) where
    abbrev F : Fine s
    F = (ready_fine least s h).0

    pub build_long : length s ≤ most_bytes
    build_long = F.short

    pub build_scratch : k < 4 * length s → Built (type_call O least s k (length old)) old old (Err Scratch)
    unfolding type_call ◌>>=◌ ◌>>◌
    build_scratch l = built_refused (type_call O least s k (length old)) Scratch old is
      where
        is : type_call O least s k (length old) ≡ refused 14
        is = rw (F.reads, lt-leb (wanted s) k l)

    module _ (l : 4 * length s ≤ k) where
      call_is : type_call O least s k (length old) ≡ fits (length old) (enc (type_by O least F.v))
      unfolding type_call ◌>>=◌ ◌>>◌
      call_is = rw (F.reads, le-leb (wanted s) k l)

      pub build_ask : (spare : ℕ) → length s ≤ spare → FitVal O least (value_at value_levels s) k spare
      build_ask spare g =
          fit_of least (value_at value_levels s) F.v k spare F.there
          (record { well = F.well; apt = (ready_fine least s h).1; roomy = omega (arith, F.sized); spared = omega (arith, F.sized); small = omega (arith, F.sized, F.short) })

      module _ (sc sc2 : List ℕ) (n w : ℕ) (c : Typed size_val (type_text O least) (value_at value_levels s) sc sc2 n w) where
        W : Wrote size_val (type_text O least) F.v sc sc2 n w
        W = typed_is least (value_at value_levels s) F.v sc sc2 n w F.there c

        part : take w sc2 ≡ enc (type_by O least F.v)
        unfolding Starts
        part = ap (take w) W.out ∙ onto_front (enc (type_by O least F.v)) sc2 w W.long

        pub build_inside : w ≤ length sc2
        unfolding Starts onto
        build_inside = omega (arith, W.long, ap length W.out, length-append (enc (type_by O least F.v)) (drop (length (enc (type_by O least F.v))) sc2))

        -- what stands in the scratch is handed on
        pub build_given : (new : List ℕ) (r : Result ℕ Refusal) → Built (fits (length old) (take w sc2)) old new r → Built (type_call O least s k (length old)) old new r
        build_given new r h = subst (λ o. Built o old new r) (ap (fits (length old)) part ∙ sym call_is) h

  pub least_refused : (s : List ℕ) (r : Refusal) (k : ℕ) (old : List ℕ) → refused (number r) ≡ check_value s → Built (least_type_by O s k (length old)) old old (Err r)
  unfolding least_type_by ◌>>=◌
  least_refused s r k old e = built_refused (least_type_by O s k (length old)) r old is
    where
      is : least_type_by O s k (length old) ≡ refused (number r)
      is = rw (value_refused s (number r) e)

  module _ (s : List ℕ) (F : Fine s) (d : Maybe ℕ) (e : d ≡ data_by (is_data_by O) size_val (value_at value_levels s)) where
    is_told : d ≡ told (is_data_by O F.v) (size_val F.v)
    is_told = e ∙ by_got (is_data_by O) size_val (value_at value_levels s) F.v F.there

    some_is_data : is_some d ≡ is_data_by O F.v
    some_is_data = ap is_some is_told ∙ some_told (is_data_by O F.v) (size_val F.v)

    pub is_data_lem : is_some d ≡ true → is_data_by O F.v ≡ true
    is_data_lem p = sym some_is_data ∙ p

    pub least_other : is_some d ≡ false → (k : ℕ) (old : List ℕ) → Built (least_type_by O s k (length old)) old old (Err NotData)
    unfolding least_type_by ◌>>=◌ ◌>>◌
    least_other p k old = built_refused (least_type_by O s k (length old)) NotData old is
      where
        is : least_type_by O s k (length old) ≡ refused 13
        is = rw (F.reads, sym some_is_data ∙ p)

  pub least_done : (s : List ℕ) (F : Fine s) → is_data_by O F.v ≡ true → (k : ℕ) (old new : List ℕ) (r : Result ℕ Refusal) → Built (type_call O true s k (length old)) old new r
      → Built (least_type_by O s k (length old)) old new r
  unfolding type_call least_type_by ◌>>=◌ ◌>>◌
  least_done s F h k old new r b = subst (λ o. Built o old new r) is b
    where
      is : type_call O true s k (length old) ≡ least_type_by O s k (length old)
      is = rw (F.reads, h)
