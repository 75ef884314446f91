-- The text of an accepted type over texts, and over a table: refusals in their order, and the answer.
-- Idea: the call is computed from what the readers and the writer of the text said.
-- Index: `type_short`, `type_ok`, `call_err`, `call_handed`, `call_short`, `call_again`, `call_done` (over texts); `display_refused`, `unread`, `over_table`, `accepted`
-- (over a table).
-- Assumes nothing.
use Prim.Native.Nat.{ℕ, ◌<◌, ◌≤◌}
use native.Mathlib.Omega.{arith}
use mathlib.Core.Path.{◌≡◌, refl, sym, ap, ◌∙◌}
use mathlib.Core.Option.{none, some}
use mathlib.Core.List.{List, []}
use lib.ListN.{length, take}
use lib.Seq.{take_all}
use Rattle.std.specs.Prelude.{Option as Answer, None, Some, Result, Ok, Err}
use Rattle.form.specs.Limits.{most_bytes, type_levels, type_refusals}
use Rattle.form.specs.Form.{Bytes}
use Rattle.form.specs.Outcome.{refused, ◌>>=◌, fits}
use Rattle.form.specs.Read.{read_t, check_type}
use Rattle.form.specs.Answers.{onto, number, outcome, Built}
use Rattle.form.specs.declared.refusals.Refusal.{Refusal}
use Rattle.form.specs.declared.refusals.Refusal.TheVariants as refusal_is
use Rattle.form.proofs.Accepted.{whole_got}
use Rattle.form.proofs.Options.{none_some}
use Rattle.form.proofs.Types.{type_accepted}
use Rattle.types.specs.At.{type_at}
use Rattle.types.specs.At as at
use Rattle.types.proofs.Reading.{got_seen, is_ok}
use Rattle.types.proofs.CallContracts.{was_refused, was_accepted}
use Rattle.output.specs.Output.{fill, puts}
use Rattle.output.proofs.Outcomes.{built_refused, built_short, built_wrote}
use Rattle.output.proofs.FillLaws.{handed, put_then}
use Rattle.names.proofs.Pieces.{fill_none}
use Rattle.display.specs.declared.Shown.{Shown}
use Rattle.display.specs.Texts.{text}
use Rattle.display.specs.Tables.{read_table}
use Rattle.display.specs.Writing.{Accepted, Shows, of_types}
use Rattle.display.specs.Calls.{display_call, text_call}
use Rattle.display.proofs.ShowContract.{shown_none, Got, shown_some}

put_front : (bs old : List ℕ) → puts 0 bs old ≡ fill bs old
put_front bs old = put_then [] bs old old (puts 0 bs old) 0 (fill_none old) refl refl

module _ (ts : List (List ℕ)) (t : List ℕ) (A : Accepted t) where
  type_there : type_at type_levels t ≡ some A.type
  unfolding type_at
  type_there = got_seen (read_t type_levels t) A.type (length t) (whole_got type_refusals (read_t type_levels) t A.type A.read_t_lem)

  pub type_short : length t ≤ most_bytes
  type_short = (type_accepted t A.bytes A.type A.read_t_lem).short

  pub type_ok : at.Ok (type_at type_levels t)
  type_ok = is_ok (type_at type_levels t) A.type type_there

  text_is : (room : ℕ) (bs : List ℕ) → text ts A.type ≡ some bs → text_call ts t room ≡ fits room bs
  unfolding text_call ◌>>=◌
  text_is room bs e = rw (A.read_t_lem, e)

  text_err : (room : ℕ) → text ts A.type ≡ none → text_call ts t room ≡ refused 20
  unfolding text_call ◌>>=◌
  text_err room e = rw (A.read_t_lem, e)

  -- ---- over a spare place first
  module _ (old was spare : List ℕ) (r : Answer Shown) (g : Shows of_types ts (type_at type_levels t) 0 was spare r) where
    pub call_err : r ≡ None → Built (text_call ts t (length old)) old old (Err refusal_is.NoSuchName)
    call_err p = built_refused (text_call ts t (length old)) refusal_is.NoSuchName old (text_err (length old) (shown_none of_types ts (type_at type_levels t) A.type type_there 0 was spare r g p))

    module _ (s : Shown) (p : r ≡ Some s) where
      F : Got of_types ts A.type 0 was spare s
      F = shown_some of_types ts (type_at type_levels t) A.type type_there 0 was spare r g s p

      -- it stands there whole, and is handed on
      pub call_handed : s.to ≤ length was → (new : List ℕ) (w : Result ℕ Refusal) → Built (fits (length old) (take s.to spare)) old new w → Built (text_call ts t (length old)) old new w
      call_handed l new w b =
          handed (text_call ts t (length old)) F.bs spare was old new s.to w (text_is (length old) F.bs F.is) (F.out ∙ put_front F.bs was) (omega (arith, F.ends)) l b

      pub call_short : length old < s.to → Built (text_call ts t (length old)) old old (Err refusal_is.Output)
      call_short l = built_short (text_call ts t (length old)) F.bs old (text_is (length old) F.bs F.is) (omega (arith, F.ends))

      module _ (l : s.to ≤ length old) (new : List ℕ) (q : Answer Shown) (h : Shows of_types ts (type_at type_levels t) 0 old new q) where
        -- the second run answers the same
        pub call_again : q ≡ None → Built (text_call ts t (length old)) old new (Err refusal_is.NoSuchName)
        call_again z = absurd (none_some (sym (shown_none of_types ts (type_at type_levels t) A.type type_there 0 old new q h z) ∙ F.is))

        pub call_done : (u : Shown) → q ≡ Some u → Built (text_call ts t (length old)) old new (Ok u.to)
        unfolding fill
        call_done u z =
            let G = shown_some of_types ts (type_at type_levels t) A.type type_there 0 old new q h u z in
            let same : F.bs ≡ G.bs = let y : some F.bs ≡ some G.bs = sym F.is ∙ G.is in cc in
            let fit : length G.bs ≤ length old = omega (arith, ap length same, F.ends) in
            built_wrote (text_call ts t (length old)) G.bs old new u.to (text_is (length old) G.bs G.is) (omega (arith, G.ends)) fit
            (G.out ∙ put_front G.bs old ∙ ap (λ x. onto x old) (take_all (length old) G.bs fit))

-- ---- over a table
module _ (t table old : List ℕ) where
  pub display_refused : (n : Refusal) → outcome {X = ℕ} (Err n) ≡ check_type t → Built (display_call t table (length old)) old old (Err n)
  unfolding display_call ◌>>=◌
  display_refused n e = built_refused (display_call t table (length old)) n old (rw (was_refused t (number n) e) refl)

  module _ (A : Accepted t) where
    pub unread : read_table table ≡ none → Built (display_call t table (length old)) old old (Err refusal_is.Texts)
    unfolding display_call ◌>>=◌
    unread e = built_refused (display_call t table (length old)) refusal_is.Texts old (rw (A.read_t_lem, e) refl)

    pub over_table : (ts : List (List ℕ)) → read_table table ≡ some ts → (new : List ℕ) (r : Result ℕ Refusal) → Built (text_call ts t (length old)) old new r
        → Built (display_call t table (length old)) old new r
    unfolding display_call text_call ◌>>=◌
    over_table ts e new r b = rw (A.read_t_lem, e) (rw A.read_t_lem at b)

pub accepted : (t : List ℕ) (n : ℕ) → Bytes t → outcome (Ok n) ≡ check_type t → Accepted t
accepted t n b e = let A = was_accepted t n e in record { bytes = b; type = A.t; read_t_lem = A.whole }
