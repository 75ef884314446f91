-- The calls: their arguments are read, the answer is built and copied.
-- Idea: an accepted argument stands at the front and takes all bytes (`Fine`), and an answer is never longer than both, so it fits the scratch.
-- Index: `Fine`, `fine`, `not_read` (arguments); `first_refused`, `second_refused`, `scratch_short`, `call_ready`, `call_size`, `call_given` (`combine`);
-- `reduced_refused`, `reduced_there`, `reduced_short`, `reduced_ready`, `reduced_done` (the reduced form).
-- Assumes nothing.
use Prim.Native.Nat.{ℕ, ◌+◌, ◌≤◌, ◌<◌}
use mathlib.Core.Path.{◌≡◌, refl, sym, ap, subst, ◌∙◌}
use mathlib.Core.Bool.{Bool, true, false}
use mathlib.Core.Option.{some}
use mathlib.Core.List.{List, [], append-nil}
use native.Mathlib.Omega.{arith}
use lib.ListN.{length, take}
use lib.Dec.{leb}
use borrow.Author.Tests.{le-leb, lt-leb, leb-true, leb-false}
use Rattle.form.specs.Trees.{Ty}
use Rattle.form.specs.Limits.{most_bytes, type_levels}
use Rattle.form.specs.Outcome.{Outcome, done, refused, ◌>>=◌, ◌>>◌, fits}
use Rattle.form.specs.Form.{Bytes, enc, level, Wf}
use Rattle.form.specs.Read.{read_t, read_type, check_type}
use Rattle.form.specs.Answers.{number, onto, Built}
use Rattle.std.specs.declared.result.Result.{Result}
use Rattle.std.specs.declared.result.Result.TheVariants as result_is
use Rattle.std.specs.declared.result.Result.TheVariants.{Err}
use Rattle.form.specs.declared.refusals.Refusal.{Refusal}
use Rattle.form.specs.declared.refusals.Refusal.TheVariants.{Scratch, Output}
use Rattle.form.proofs.ExactTypes.{read_enc}
use Rattle.form.proofs.Types.{TypeTold, type_told}
use Rattle.order.specs.Order.{Dir, up, Order, fixed}
use Rattle.order.specs.Types.{reduce, bound}
use Rattle.order.specs.Ascending.{Asc}
use Rattle.order.specs.Size.{size}
use Rattle.order.proofs.Ends.{reading_ends}
use Rattle.order.proofs.Size.{length_enc, size_bound, size_reduce}
use Rattle.types.specs.At.{type_at, Ok}
use Rattle.types.proofs.Reading.{got_seen, is_ok, t_good}
use Rattle.lattice.specs.Writing.{answer, of_types, most_answer, Ready, Wrote, Combined}
use Rattle.bounds.specs.Calls.{combined, reduced_call}
use Rattle.output.proofs.OntoLaws.{onto_front}
use Rattle.lattice.proofs.BoundTrees.{self}
use Rattle.lattice.proofs.Branches.{ready, combined_is}
use Rattle.output.proofs.Outcomes.{built_refused, built_short, built_wrote}
use Rattle.bounds.specs.Measured.{Roomy}

-- ---- an argument that was accepted
pub record Fine (s : List ℕ) : Type 0 where
  pub t : Ty
  pub reads : read_type s ≡ done t
  pub there : type_at type_levels s ≡ some t
  pub sized : size t ≡ length s
  pub asc : Asc t
  pub short : length s ≤ most_bytes

there_is : (l : ℕ) (s : List ℕ) (t : Ty) → s ≡ enc t → Wf t → level t ≤ l → type_at l s ≡ some t
unfolding type_at
there_is l s t e w h = got_seen (read_t l s) t (length (enc t)) (ap (read_t l) (e ∙ sym (append-nil (enc t))) ∙ read_enc t l [] w h)

pub fine : (s : List ℕ) (n : ℕ) → Bytes s → done n ≡ check_type s → Fine s
fine s n bs e = go (type_told s bs n (sym e))
  where
    go : TypeTold s n → Fine s
    go T =
        let A = T.accepted in
        let at = there_is type_levels s T.tree A.bytes A.well A.low in
        record {
          t = T.tree;
          reads = T.reads;
          there = at;
          sized = sym (length_enc T.tree) ∙ ap length (sym A.bytes);
          asc = (t_good type_levels s T.tree at).0;
          short = A.short;
        }

-- an argument that was refused
pub not_read : (s : List ℕ) (n : ℕ) → check_type s ≡ refused n → read_type s ≡ refused n
unfolding check_type ◌>>=◌
not_read s n e = go (read_type s) refl e
  where
    go : (o : Outcome Ty) → read_type s ≡ o → (do t ← o; done (level t)) ≡ refused n → read_type s ≡ refused n
    go (done t) p q = absurd (let z : ◌≡◌ {A = ℕ} 0 1 = cc in omega arith)
    go (refused m) p q = let r : m ≡ n = cc in p ∙ ap refused r

module _ (O : Order) (d : Dir) (a b : List ℕ) (k : ℕ) (old : List ℕ) where
  pub first_refused : (r : Refusal) → refused (number r) ≡ check_type a → Built (combined (answer O d) a b k (length old)) old old (Err r)
  unfolding ◌>>=◌
  first_refused r e = built_refused (combined (answer O d) a b k (length old)) r old (rw (not_read a (number r) (sym e)))

  pub second_refused : Fine a → (r : Refusal) → refused (number r) ≡ check_type b → Built (combined (answer O d) a b k (length old)) old old (Err r)
  unfolding ◌>>=◌
  second_refused A r e = built_refused (combined (answer O d) a b k (length old)) r old (rw (A.reads, not_read b (number r) (sym e)))

  pub scratch_short : Fine a → Fine b → k < length a + length b → Built (combined (answer O d) a b k (length old)) old old (Err Scratch)
  unfolding ◌>>=◌ ◌>>◌
  scratch_short A B h = built_refused (combined (answer O d) a b k (length old)) Scratch old (rw (A.reads, B.reads, lt-leb (length a + length b) k h))

  module _ (A : Fine a) (B : Fine b) (h : length a + length b ≤ k) where
    call_is : combined (answer O d) a b k (length old) ≡ fits (length old) (enc (answer O d A.t B.t))
    unfolding ◌>>=◌ ◌>>◌
    call_is = rw (A.reads, B.reads, le-leb (length a + length b) k h)

    call_room : (size (answer O d A.t B.t) ≤ k) × (size (answer O d A.t B.t) ≤ most_answer)
    call_room =
        let r = size_reduce O (bound O d A.t B.t) in
        let g = size_bound O d A.t B.t A.asc in
        (omega (arith, r, g, A.sized, B.sized), omega (arith, r, g, A.sized, B.sized, A.short, B.short))

    pub call_ready : Ready (of_types O d) (type_at type_levels a) (type_at type_levels b) k
    call_ready = ready (of_types O d) (type_at type_levels a) (type_at type_levels b) A.t B.t k A.there B.there call_room.0 call_room.1

    module _ (sc sc2 : List ℕ) (i j w : ℕ) (c : Combined (of_types O d) (type_at type_levels a) (type_at type_levels b) sc sc2 i j w) where
      call_wrote : Wrote (of_types O d) A.t B.t sc sc2 i j w
      call_wrote = combined_is (of_types O d) (type_at type_levels a) (type_at type_levels b) A.t B.t sc sc2 i j w A.there B.there c

      pub call_size : w ≤ k
      call_size = omega (arith, call_wrote.long, call_room.0)

      call_length : w ≡ length (enc (answer O d A.t B.t))
      call_length = call_wrote.long ∙ sym (length_enc (answer O d A.t B.t))

      -- what stands in the scratch is handed on
      pub call_given : (new : List ℕ) (r : Result ℕ Refusal) → Built (fits (length old) (take w sc2)) old new r → Built (combined (answer O d) a b k (length old)) old new r
      call_given new r h =
          let part : take w sc2 ≡ enc (answer O d A.t B.t) = ap (take w) call_wrote.out ∙ onto_front (enc (answer O d A.t B.t)) sc w call_length in
          subst (λ o. Built o old new r) (ap (fits (length old)) part ∙ sym call_is) h

-- ---- the reduced form
module _ (s old : List ℕ) where
  pub reduced_refused : (r : Refusal) → refused (number r) ≡ check_type s → Built (reduced_call s (length old)) old old (Err r)
  unfolding ◌>>=◌
  reduced_refused r e = built_refused (reduced_call s (length old)) r old (rw (not_read s (number r) (sym e)))

  module _ (A : Fine s) where
    reduced_is : reduced_call s (length old) ≡ fits (length old) (enc (reduce fixed A.t))
    unfolding ◌>>=◌
    reduced_is = rw A.reads

    pub reduced_there : Ok (type_at type_levels s)
    reduced_there = is_ok (type_at type_levels s) A.t A.there

    module _ (r : Bool) (m : Roomy (type_at type_levels s) (length old) r) where
      roomy : r ≡ leb (size (reduce fixed A.t)) (length old)
      unfolding Roomy
      roomy = rw A.there at m

      pub reduced_short : r ≡ false → Built (reduced_call s (length old)) old old (Err Output)
      reduced_short e =
          built_short (reduced_call s (length old)) (enc (reduce fixed A.t)) old reduced_is
          (omega (arith, leb-false (size (reduce fixed A.t)) (length old) (sym roomy ∙ e), length_enc (reduce fixed A.t)))

      module _ (e : r ≡ true) where
        room : size (reduce fixed A.t) ≤ length old
        room = leb-true (size (reduce fixed A.t)) (length old) (sym roomy ∙ e)

        pub reduced_ready : Ready (of_types fixed up) (type_at type_levels s) (type_at type_levels s) (length old)
        reduced_ready =
            let e = ap size (self (reading_ends 0) up A.t A.asc) in
            let k = size_reduce fixed A.t in
            ready (of_types fixed up) (type_at type_levels s) (type_at type_levels s) A.t A.t (length old) A.there A.there (omega (arith, room, e)) (omega (arith, e, k, A.sized, A.short))

        pub reduced_done : (new : List ℕ) (i j n : ℕ) → Combined (of_types fixed up) (type_at type_levels s) (type_at type_levels s) old new i j n
            → Built (reduced_call s (length old)) old new (result_is.Ok n)
        reduced_done new i j n c =
            let g = combined_is (of_types fixed up) (type_at type_levels s) (type_at type_levels s) A.t A.t old new i j n A.there A.there c in
            let e = self (reading_ends 0) up A.t A.asc in
            let le = length_enc (reduce fixed A.t) in
            built_wrote (reduced_call s (length old)) (enc (reduce fixed A.t)) old new n reduced_is (g.long ∙ ap size e ∙ sym le) (omega (arith, le, room))
            (g.out ∙ ap (λ (z : Ty). onto (enc z) old) e)
