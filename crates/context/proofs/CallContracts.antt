-- The calls: refusals in their order, and the answer.
-- Idea: the walk along the path says what an update changes and leaves; so the size and the level of the answer are known before it is written (`Placed`), and 17 and 18 with them.
-- Index: `result_small`, `result_over`, `is_small`, `not_small` (a result as a value); `refused_on` (a refusal handed on); `within_over`, `within_done` (`give_within`);
-- `few_room`, `all_room` (spare places); `Placed`, `place_copy`, `place_cuts`, `place_rest`, `place_text`, `place_err`, `placed`, `placed_over`, `placed_short`, `placed_done`, `along`,
-- `place_asks` (`place`); `call_refused`; `update_first`, `update_names`, `update_second`, `update_other`, `update_small`, `update_value`, `update_level`, `update_context`,
-- `update_done` (`update`); `set_is`, `null_is`, `set_built`, `null_built` (set); `Joins`, `join_first`, `join_second`, `join_other`, `join_others`, `joined`, `join_asks`, `join_done`,
-- `merge_holds`, `merge_room` (zip, overwrite); `finds`, `found`, `Takes`, `taken_none`, `taken_some` (`find`); `without_short`, `without_done`, `short`, `remove_copy`,
-- `remove_done` (remove); `move_copy`, `move_done`, `move_asks`, `cut_inside_lem`, `cut_is`, `cut_ok`, `cut_small` (move); `some_entry`.
-- Assumes nothing.
use Prim.Native.Nat.{ℕ, ◌+◌, ◌-◌, ◌<◌, ◌≤◌, max, min}
use native.Mathlib.Omega.{arith}
use mathlib.Core.Path.{◌≡◌, refl, sym, ap, ap₂, subst, ◌∙◌}
use mathlib.Core.Bool.{Bool, true, false, false≢true, ◌&&◌, cond}
use mathlib.Core.Option.{Option, none, some}
use mathlib.Core.Logic.{◌⊎◌, inl, inr}
use mathlib.Core.List.{List, [], ◌∷◌, ◌++◌, append_assoc, append-nil}
use lib.ListN.{length, get_or, take, drop, length-append, length-take, length-drop}
use lib.Seq.{take_all, take_at}
use lib.Dec.{leb, ltb}
use borrow.Author.Tests.{leb-true, le-leb, lt-leb}
use Rattle.form.specs.Limits.{name_width, most_bytes, value_levels, most_names}
use Rattle.form.specs.Trees.{Val, v_context, Entries, nothing}
use Rattle.form.specs.Form.{Bytes, bytes, num_at, count_entries, enc_leaf, enc_v, level_v, WfLeaf, WfV}
use Rattle.form.specs.Outcome.{Outcome, done, refused, ◌>>=◌, ◌>>◌, check, or_refuse, fits}
use Rattle.form.specs.Read.{got, read_value}
use Rattle.form.specs.Answers.{number, onto, Built}
use Rattle.form.specs.declared.refusals.Refusal.{Refusal}
use Rattle.form.specs.declared.refusals.Refusal.TheVariants.{Output}
use Rattle.std.specs.declared.result.Result.{Result}
use Rattle.std.specs.declared.result.Result.TheVariants as result
use Rattle.std.specs.Result.{IsErrAnd}
use Rattle.form.proofs.ExactValues.{enc_read_v, read_enc_v}
use Rattle.form.proofs.Exact.{bytes_drop}
use Rattle.form.proofs.Numbers.{bytes_take}
use Rattle.form.proofs.Values.{read_up_v, value_accepts, ValueTold}
use Rattle.order.specs.Size.{size_val}
use Rattle.order.proofs.LeastSize.{length_enc_v}
use Rattle.types.specs.At.{Ok}
use Rattle.types.proofs.Reading.{is_ok, ok_got}
use Rattle.output.proofs.Outcomes.{built_refused, built_short, built_wrote}
use Rattle.output.proofs.FillLaws.{length_fill}
use Rattle.paths.specs.Paths.{value_of, entries_of, entry_place}
use Rattle.paths.specs.Places.{whole_at, context_at}
use Rattle.paths.specs.Way.{stays, cut_here, within, cut_at, cut_of, Surveyed}
use Rattle.paths.specs.declared.way.Cut.{Cut}
use Rattle.paths.specs.Calls.{context_of}
use Rattle.paths.proofs.Whole.{whole_is, whole_text, is_whole, of_context, given_is, context_read, read_context, Ctx, ctx_of}
use Rattle.paths.proofs.PathSearch.{WholeContext, whole_context, whole_other, Hit, hit_whole, hit_inside, hit_start, Miss}
use Rattle.paths.proofs.CallContracts.{opened_short, Opened, context_done, read_whole_lem, handed_on}
use Rattle.paths.proofs.Along.{stays_level, surveyed_is}
use Rattle.paths.proofs.SplitContext.{Around, well_context, well_entries, text_context, count_context, around_some}
use Rattle.updates.specs.Update.{create, apply, zip, overwrite, remove, moved, move_entry, set_entry, set_null, remove_entry}
use Rattle.updates.specs.Writing.{updated, blocked, Small, Cuts, spliced, begun, closed, merged, Joined, Merges}
use Rattle.context.specs.Calls.{Given, given_of, Two, two_of, update_call, create_entries_call, set_entry_call, set_null_call, joined_call, remove_entry_call, move_entry_call}
use Rattle.context.specs.Answering.{Holds, Finds, answered, value_in}
use Rattle.updates.proofs.Formed.{well_removed, level_removed}
use Rattle.updates.proofs.InsertedEntries.{remove_absent}
use Rattle.updates.proofs.Levels.{created_level, size_merged}
use Rattle.updates.proofs.Splices.{spliced_is, cuts_is, blocked_is}
use Rattle.updates.proofs.ContextFront.{length_begun}
use Rattle.updates.proofs.PathSteps.{count_less, text_remove}
use Rattle.output.specs.Output.{fill}
use Rattle.output.specs.Result.{small, checked_result}
use Rattle.values.proofs.EntriesAt.{size_context}
use Rattle.form.proofs.Options.{some_same}

-- ---- 17 and 18
pub result_small : (room : ℕ) (w : Val) → small w ≡ true → fits room (enc_v w) ≡ checked_result room w
unfolding ◌>>◌
result_small room w e = rw e

pub result_over : (room : ℕ) (w : Val) → small w ≡ false → checked_result room w ≡ refused 17
unfolding ◌>>◌
result_over room w e = rw e

-- within both limits
pub is_small : (w : Val) → length (enc_v w) ≤ most_bytes → level_v w ≤ value_levels → small w ≡ true
is_small w k l = ap₂ ◌&&◌ (le-leb (length (enc_v w)) most_bytes k) (le-leb (level_v w) value_levels l)

-- over one of them
pub not_small : (w : Val) → (value_levels < level_v w) ⊎ (most_bytes < length (enc_v w)) → small w ≡ false
not_small w (inl h) = go (leb (length (enc_v w)) most_bytes)
  where
    go : (b : Bool) → (b && leb (level_v w) value_levels) ≡ false
    go true = lt-leb (level_v w) value_levels h
    go false = refl
not_small w (inr h) = ap (λ q. q && leb (level_v w) value_levels) (lt-leb (length (enc_v w)) most_bytes h)

small_told : (w : Val) {n d : ℕ} → n ≡ length (enc_v w) → d ≡ level_v w → small w ≡ (leb n most_bytes && leb d value_levels)
small_told w en ed = ap₂ (λ (i j : ℕ). leb i most_bytes && leb j value_levels) (sym en) (sym ed)

small_size : (n d : ℕ) → (leb n most_bytes && leb d value_levels) ≡ true → n ≤ most_bytes
small_size n d e = leb-true n most_bytes (go (leb n most_bytes) e)
  where
    go : (b : Bool) → (b && leb d value_levels) ≡ true → b ≡ true
    go true h = refl
    go false h = h

-- a call that hands a refusal on
pub refused_on : (o : Outcome (List ℕ)) (old : List ℕ) (r : Result ℕ Refusal) (refusal : Refusal) → IsErrAnd r (λ e. e ≡ refusal) → o ≡ refused (number refusal) → Built o old old r
refused_on o old r refusal h e = subst (λ z. Built o old old z) (sym (handed_on r refusal h)) (built_refused o refusal old e)

-- ---- `give_within`
module _ (spare : List ℕ) (n d : ℕ) (w : Val) (H : Holds spare n d w) (old : List ℕ) where
  pub within_over : (leb n most_bytes && leb d value_levels) ≡ false → checked_result (length old) w ≡ refused 17
  within_over f = result_over (length old) w (small_told w H.long H.deep ∙ f)

  pub within_done : (leb n most_bytes && leb d value_levels) ≡ true → (new : List ℕ) (a : Result ℕ Refusal) → Built (fits (length old) (take n spare)) old new a
      → Built (checked_result (length old) w) old new a
  within_done t new a B =
      subst (λ o. Built o old new a)
      (ap (fits (length old)) (H.text (small_size n d t)) ∙ result_small (length old) w (small_told w H.long H.deep ∙ t)) B

-- ---- what was built, and what was read
fill_front : (bs old : List ℕ) (n : ℕ) → n ≡ length bs → n ≤ length old → take n (fill bs old) ≡ bs
unfolding fill onto
fill_front bs old n e k =
    ap (λ (z : List ℕ). take n (z ++ drop (length z) old)) (take_all (length old) bs (omega arith)) ∙ take_at bs (drop (length bs) old) n (sym e)

-- what was accepted has a level of at most 31
context_low : (c : List ℕ) (es : Entries) → context_at value_levels c ≡ some es → Bytes c → level_v (v_context es) ≤ value_levels
context_low c es ec bc = (enc_read_v value_levels c bc (v_context es) (length c) (context_read value_levels c es ec)).low

-- a spare place of 512 bytes for what has at most so many, or one for everything
pub few_room : (g n : ℕ) → g ≤ 512 → 512 ≡ n → min g most_bytes ≤ n
few_room g n h e = omega arith

pub all_room : (g n : ℕ) → most_bytes ≡ n → min g most_bytes ≤ n
all_room g n e = omega arith

-- a copy of an accepted context
pub copied_is : (c : List ℕ) (es : Entries) (room : ℕ) → context_at value_levels c ≡ some es → Bytes c → length c ≤ most_bytes → fits room c ≡ checked_result room (v_context es)
copied_is c es room ec bc kc =
    let text = text_context value_levels c es bc (ctx_of value_levels c es ec) in
    ap (fits room) text ∙ result_small room (v_context es) (is_small (v_context es) (omega (arith, ap length text)) (context_low c es ec bc))

-- ---- `place`
-- what was built is a context with that size and level
pub record Placed (o : Option Entries) (bs : List ℕ) (m l : ℕ) : Type 0 where
  pub es : Entries
  pub is : o ≡ some es
  pub text : bs ≡ enc_v (v_context es)
  pub size : m ≡ length (enc_v (v_context es))
  pub level : l ≡ level_v (v_context es)

module _ (strict : Bool) (c p v old : List ℕ) (es : Entries) (x : Val) (ec : context_at value_levels c ≡ some es) (ex : whole_at value_levels v ≡ some x) (bc : Bytes c)
    (bv : Bytes v) (kc : length c ≤ most_bytes) where
  abbrev C : Ctx value_levels c es
  C = ctx_of value_levels c es ec

  pub place_copy : (new : List ℕ) (a : Result ℕ Refusal) → length p ≡ 0 → Built (fits (length old) c) old new a → Built (answered (length old) (updated strict p x es)) old new a
  unfolding ◌>>=◌ create apply
  place_copy new a e B = go strict p e
    where
      go : (t : Bool) (q : List ℕ) → length q ≡ 0 → Built (answered (length old) (updated t q x es)) old new a
      go true [] z = subst (λ o. Built o old new a) (copied_is c es (length old) ec bc kc) B
      go false [] z = subst (λ o. Built o old new a) (copied_is c es (length old) ec bc kc) B
      go t (n ∷ q) z = absurd (omega arith)

  -- along the path
  module _ (some_name : length p ≡ 0 → ⊥) (rest : ℕ) (k : Cut) (er : rest ≡ stays p (v_context es)) (ek : k ≡ cut_of p (v_context es)) where
    named : p ≡ [] → ⊥
    named e = some_name (ap length e)

    whole : WfV (v_context es)
    whole = well_context value_levels c es bc C

    text_c : c ≡ enc_v (v_context es)
    text_c = text_context value_levels c es bc C

    pub place_cuts : Cuts c p k
    place_cuts =
        subst (λ (s : List ℕ). Cuts s p k) (sym text_c)
        (subst (λ j. Cuts (enc_v (v_context es)) p j) (sym ek) (cuts_is p es whole (omega (arith, ap length text_c)) named))

    pub place_rest : rest ≤ most_bytes
    place_rest = omega (arith, er, stays_level p (v_context es), context_low c es ec bc)

    pub place_text : spliced c k p v ≡ enc_v (v_context (create p x es))
    place_text =
        ap (λ (s : List ℕ). spliced s k p v) text_c
        ∙ ap (λ j. spliced (enc_v (v_context es)) j p v) ek
        ∙ ap (λ (s : List ℕ). spliced (enc_v (v_context es)) (cut_of p (v_context es)) p s) (whole_text value_levels v x bv ex)
        ∙ spliced_is p x es whole named

    apply_cut : apply p x es ≡ cond (ltb k.names (length p) && ltb 0 k.gone) none (some (create p x es))
    apply_cut = blocked_is p x es named ∙ ap (λ j. cond (blocked p j) none (some (create p x es))) (sym ek)

    pub place_err : (strict && (ltb k.names (length p) && ltb 0 k.gone)) ≡ true → answered (length old) (updated strict p x es) ≡ refused 16
    unfolding ◌>>=◌
    place_err t = ap (answered (length old)) (go strict t)
      where
        go : (s : Bool) → (s && (ltb k.names (length p) && ltb 0 k.gone)) ≡ true → updated s p x es ≡ none
        go true q = apply_cut ∙ ap (λ j. cond j none (some (create p x es))) q
        go false q = absurd (false≢true q)

    updated_is : (strict && (ltb k.names (length p) && ltb 0 k.gone)) ≡ false → updated strict p x es ≡ some (create p x es)
    updated_is f = go strict f
      where
        go : (s : Bool) → (s && (ltb k.names (length p) && ltb 0 k.gone)) ≡ false → updated s p x es ≡ some (create p x es)
        go true q = apply_cut ∙ ap (λ j. cond j none (some (create p x es))) q
        go false q = refl

    -- the size and the level that are told are those of the value that is built
    pub placed : (strict && (ltb k.names (length p) && ltb 0 k.gone)) ≡ false → (d : ℕ) → d ≡ level_v x → (m l : ℕ) → m ≡ length (spliced c k p v) → l ≡ max rest (length p + d)
        → Placed (updated strict p x es) (spliced c k p v) m l
    placed f d ed m l em el =
        record {
          es = create p x es;
          is = updated_is f;
          text = place_text;
          size = em ∙ ap length place_text;
          level = el ∙ ap₂ max er (ap (λ (z : ℕ). length p + z) ed) ∙ sym (created_level p x es whole named);
        }

-- the answer over the limits, without room, and written
module _ {o : Option Entries} {bs : List ℕ} {m l : ℕ} (P : Placed o bs m l) (old : List ℕ) where
  abbrev w : Val
  w = v_context P.es

  result_is : answered (length old) o ≡ checked_result (length old) w
  unfolding ◌>>=◌
  result_is = ap (answered (length old)) P.is

  pub placed_over : (leb m most_bytes && leb l value_levels) ≡ false → answered (length old) o ≡ refused 17
  placed_over f = result_is ∙ result_over (length old) w (small_told w P.size P.level ∙ f)

  module _ (t : (leb m most_bytes && leb l value_levels) ≡ true) where
    fits_is : answered (length old) o ≡ fits (length old) (enc_v w)
    fits_is = result_is ∙ sym (result_small (length old) w (small_told w P.size P.level ∙ t))

    pub placed_short : length old < m → Built (answered (length old) o) old old (result.Err Output)
    placed_short h = built_short (answered (length old) o) (enc_v w) old fits_is (omega (arith, P.size))

    pub placed_done : m ≤ length old → (n : ℕ) (new : List ℕ) → n ≡ length bs → new ≡ fill bs old → Built (answered (length old) o) old new (result.Ok n)
    unfolding fill
    placed_done h n new en eo =
        let z : length (enc_v w) ≤ length old = omega (arith, P.size) in
        built_wrote (answered (length old) o) (enc_v w) old new n fits_is (en ∙ ap length P.text) z
        (eo ∙ ap (λ (s : List ℕ). fill s old) P.text ∙ ap (λ (s : List ℕ). onto s old) (take_all (length old) (enc_v w) z))

-- what the walk told of the context
pub along : (c p : List ℕ) (rest : ℕ) (k : Cut) (es : Entries) → context_at value_levels c ≡ some es → Surveyed p (whole_at value_levels c) rest k
    → (rest ≡ stays p (v_context es)) × (k ≡ cut_of p (v_context es))
unfolding context_at
along c p rest k es e S = go (given_is (whole_at value_levels c) entries_of es e)
  where
    go : (v : Val) × (whole_at value_levels c ≡ some v) × (entries_of v ≡ some es) → (rest ≡ stays p (v_context es)) × (k ≡ cut_of p (v_context es))
    go (v, q, f) = surveyed_is p (whole_at value_levels c) rest k (v_context es) (q ∙ ap some (of_context v es f)) S

-- what `measure` and `splice` ask
pub place_asks : (c p v : List ℕ) (rest d : ℕ) (k : Cut) → Ok (context_at value_levels c) → Ok (whole_at value_levels v) → Small c p v → Surveyed p (whole_at value_levels c) rest k
    → ((x : Val) → whole_at value_levels v ≡ some x → d ≡ level_v x) → Bytes c → Bytes v → (length p ≡ 0 → ⊥) → Cuts c p k × ((rest ≤ most_bytes) × (d ≤ most_bytes))
place_asks c p v rest d k oc ov S T f bc bv z =
    let A = ok_got (context_at value_levels c) oc in
    let B = ok_got (whole_at value_levels v) ov in
    let W = along c p rest k A.0 A.1 T in
    let low = (enc_read_v value_levels v bv B.0 (length v) (whole_is value_levels v B.0 B.1)).low in (
      place_cuts false c p v [] A.0 B.0 A.1 B.1 bc bv S.bytes_c z rest k W.0 W.1,
      (place_rest false c p v [] A.0 B.0 A.1 B.1 bc bv S.bytes_c z rest k W.0 W.1, omega (arith, f B.0 B.1, low)),
    )

-- a call whose arguments are refused
pub call_refused : {X : Type 0} (o : Outcome X) (f : X → Outcome (List ℕ)) (n : ℕ) → o ≡ refused n → (do x ← o; f x) ≡ refused n
unfolding ◌>>=◌
call_refused o f n e = rw e

-- ---- `update`: the arguments of create_entries and apply_entries
given_done : (c v : List ℕ) (k : ℕ) (self x : Val) (es : Entries) → read_value c ≡ done self → leb k most_names ≡ true → read_value v ≡ done x → entries_of self ≡ some es
    → given_of c k v ≡ done (record { entries = es; value = x })
unfolding given_of ◌>>=◌ ◌>>◌
given_done c v k self x es e l f q = rw (e, l, f, q)

module _ (strict : Bool) (c p v old : List ℕ) where
  update_refused : (n : ℕ) → given_of c (length p) v ≡ refused n → update_call strict c p v (length old) ≡ refused n
  update_refused n e = go strict
    where
      go : (t : Bool) → update_call t c p v (length old) ≡ refused n
      go true = call_refused (given_of c (length p) v) (λ g. do new ← or_refuse 16 (apply p g.value g.entries); checked_result (length old) (v_context new)) n e
      go false = call_refused (given_of c (length p) v) (λ g. checked_result (length old) (v_context (create p g.value g.entries))) n e

  pub update_first : (n : ℕ) → read_value c ≡ refused n → update_call strict c p v (length old) ≡ refused n
  unfolding given_of ◌>>=◌
  update_first n e = update_refused n (rw e)

  module _ {e : ℕ} (A : ValueTold c e) where
    pub update_names : most_names < length p → update_call strict c p v (length old) ≡ refused 11
    unfolding given_of ◌>>=◌ ◌>>◌
    update_names h = update_refused 11 (rw (A.reads, lt-leb (length p) most_names h))

    module _ (h : length p ≤ most_names) where
      pub update_second : (n : ℕ) → read_value v ≡ refused n → update_call strict c p v (length old) ≡ refused n
      unfolding given_of ◌>>=◌ ◌>>◌
      update_second n q = update_refused n (rw (A.reads, le-leb (length p) most_names h, q))

      module _ {d : ℕ} (B : ValueTold v d) where
        pub update_other : (get_or c 0 0 ≡ 11 → ⊥) → update_call strict c p v (length old) ≡ refused 12
        unfolding given_of ◌>>=◌ ◌>>◌
        update_other f =
            update_refused 12 (rw (A.reads, le-leb (length p) most_names h, B.reads, whole_other value_levels c A.tree (read_whole_lem c A.tree A.reads) f))

        pub update_small : Small c p v
        update_small = record { bytes_c = A.accepted.short; names = h; bytes_v = B.accepted.short }

        pub update_value : Ok (whole_at value_levels v)
        update_value = is_ok (whole_at value_levels v) B.tree (read_whole_lem v B.tree B.reads)

        pub update_level : (x : Val) → whole_at value_levels v ≡ some x → d ≡ level_v x
        update_level x q = sym B.deep ∙ ap level_v (some_same (sym (read_whole_lem v B.tree B.reads) ∙ q))

        module _ (f : get_or c 0 0 ≡ 11) where
          abbrev G : WholeContext value_levels c A.tree
          G = whole_context value_levels c A.tree (read_whole_lem c A.tree A.reads) f

          pub update_context : Ok (context_at value_levels c)
          update_context = is_ok (context_at value_levels c) G.es G.read

          both_given : given_of c (length p) v ≡ done (record { entries = G.es; value = B.tree })
          both_given = given_done c v (length p) A.tree B.tree G.es A.reads (le-leb (length p) most_names h) B.reads (ap entries_of G.is)

          pub update_done : (new : List ℕ) (a : Result ℕ Refusal)
              → ((es : Entries) (x : Val) → context_at value_levels c ≡ some es → whole_at value_levels v ≡ some x → Built (answered (length old) (updated strict p x es)) old new a)
              → Built (update_call strict c p v (length old)) old new a
          unfolding ◌>>=◌
          update_done new a F = subst (λ o. Built o old new a) (go strict) (F G.es B.tree G.read (read_whole_lem v B.tree B.reads))
            where
              go : (t : Bool) → answered (length old) (updated t p B.tree G.es) ≡ update_call t c p v (length old)
              go true = rw both_given
              go false = rw both_given

-- ---- set_entry is create_entries with one name, set_null inserts a null
pub set_is : (c : List ℕ) (n : ℕ) (v : List ℕ) (room : ℕ) → create_entries_call c (n ∷ []) v room ≡ set_entry_call c n v room
unfolding create given_of ◌>>=◌ ◌>>◌
set_is c n v room = refl

null_read : read_value (0 ∷ 0 ∷ []) ≡ done (nothing 0)
unfolding enc_v enc_leaf WfV WfLeaf level_v
null_read = value_accepts (0 ∷ 0 ∷ []) (nothing 0) (record { bytes = refl; well = omega arith; low = omega arith; short = omega arith })

abbrev pair : Val → Outcome Entries → Outcome Given
pair x o = do
  es ← o
  done (record { entries = es; value = x })

null_two : (o : Outcome Entries) (n room : ℕ) → (do g ← pair (nothing 0) o; checked_result room (v_context (set_entry n g.value g.entries)))
    ≡ (do es ← o; checked_result room (v_context (set_null n es)))
unfolding ◌>>=◌
null_two (done es) n room = refl
null_two (refused m) n room = refl

null_given : (c : List ℕ) → given_of c 0 (0 ∷ 0 ∷ []) ≡ pair (nothing 0) (context_of c 0)
unfolding given_of context_of ◌>>=◌ ◌>>◌
null_given c = go (read_value c)
  where
    go : (o : Outcome Val)
        → (do self ← o; check 11 (leb 0 most_names); x ← read_value (0 ∷ 0 ∷ []); pair x (or_refuse 12 (entries_of self)))
        ≡ pair (nothing 0) (do self ← o; check 11 (leb 0 most_names); or_refuse 12 (entries_of self))
    go (refused m) = refl
    go (done self) = rw null_read

pub null_is : (c : List ℕ) (n : ℕ) (room : ℕ) → set_entry_call c n (0 ∷ 0 ∷ []) room ≡ set_null_call c n room
null_is c n room = ap (λ o. do g ← o; checked_result room (v_context (set_entry n g.value g.entries))) (null_given c) ∙ null_two (context_of c 0) n room

module _ (c old new : List ℕ) (n : ℕ) (a : Result ℕ Refusal) where
  pub set_built : (v : List ℕ) → Built (create_entries_call c (n ∷ []) v (length old)) old new a → Built (set_entry_call c n v (length old)) old new a
  set_built v B = subst (λ o. Built o old new a) (set_is c n v (length old)) B

  pub null_built : Built (set_entry_call c n (0 ∷ 0 ∷ []) (length old)) old new a → Built (set_null_call c n (length old)) old new a
  null_built B = subst (λ o. Built o old new a) (null_is c n (length old)) B

-- ---- zip and overwrite
joined_is : (all : Bool) (c o : List ℕ) (room : ℕ) (t : Two) → two_of c o ≡ done t → checked_result room (v_context (merged all t.entries t.others)) ≡ joined_call all c o room
unfolding ◌>>=◌
joined_is true c o room t e = rw e
joined_is false c o room t e = rw e

joined_refused : (all : Bool) (c o : List ℕ) (n room : ℕ) → two_of c o ≡ refused n → joined_call all c o room ≡ refused n
joined_refused true c o n room e = call_refused (two_of c o) (λ t. checked_result room (v_context (zip t.entries t.others))) n e
joined_refused false c o n room e = call_refused (two_of c o) (λ t. checked_result room (v_context (overwrite t.entries t.others))) n e

first_refused : (c o : List ℕ) (n : ℕ) → read_value c ≡ refused n → two_of c o ≡ refused n
unfolding two_of ◌>>=◌
first_refused c o n e = rw e

second_refused : (c o : List ℕ) (v : Val) (n : ℕ) → read_value c ≡ done v → read_value o ≡ refused n → two_of c o ≡ refused n
unfolding two_of ◌>>=◌
second_refused c o v n e f = rw (e, f)

first_other : (c o : List ℕ) (v w : Val) → read_value c ≡ done v → read_value o ≡ done w → entries_of v ≡ none → two_of c o ≡ refused 12
unfolding two_of ◌>>=◌
first_other c o v w e f g = rw (e, f, g)

second_other : (c o : List ℕ) (v w : Val) (es : Entries) → read_value c ≡ done v → read_value o ≡ done w → entries_of v ≡ some es → entries_of w ≡ none → two_of c o ≡ refused 12
unfolding two_of ◌>>=◌
second_other c o v w es e f g h = rw (e, f, g, h)

two_done : (c o : List ℕ) (v w : Val) (es gs : Entries) → read_value c ≡ done v → read_value o ≡ done w → entries_of v ≡ some es → entries_of w ≡ some gs
    → two_of c o ≡ done (record { entries = es; others = gs })
unfolding two_of ◌>>=◌
two_done c o v w es gs e f g h = rw (e, f, g, h)

merges_is : (all : Bool) (x y : Option Entries) (es gs : Entries) (old new : List ℕ) (n d : ℕ) → x ≡ some es → y ≡ some gs → Merges all x y old new n d
    → Joined (merged all es gs) old new n d
unfolding Merges
merges_is all x y es gs old new n d e f M = rw (e, f) at M

-- both contexts were accepted
pub record Joins (all : Bool) (c o : List ℕ) (room : ℕ) : Type 0 where
  pub es : Entries
  pub others : Entries
  pub read : context_at value_levels c ≡ some es
  pub read_others : context_at value_levels o ≡ some others
  pub short : (length c ≤ most_bytes) × (length o ≤ most_bytes)
  pub is : checked_result room (v_context (merged all es others)) ≡ joined_call all c o room

module _ (all : Bool) (c o : List ℕ) (room : ℕ) where
  pub join_first : (n : ℕ) → read_value c ≡ refused n → joined_call all c o room ≡ refused n
  join_first n e = joined_refused all c o n room (first_refused c o n e)

  module _ {d : ℕ} (A : ValueTold c d) where
    pub join_second : (n : ℕ) → read_value o ≡ refused n → joined_call all c o room ≡ refused n
    join_second n e = joined_refused all c o n room (second_refused c o A.tree n A.reads e)

    module _ {e : ℕ} (B : ValueTold o e) where
      pub join_other : (get_or c 0 0 ≡ 11 → ⊥) → joined_call all c o room ≡ refused 12
      join_other f = joined_refused all c o 12 room (first_other c o A.tree B.tree A.reads B.reads (whole_other value_levels c A.tree (read_whole_lem c A.tree A.reads) f))

      module _ (f : get_or c 0 0 ≡ 11) where
        abbrev K : WholeContext value_levels c A.tree
        K = whole_context value_levels c A.tree (read_whole_lem c A.tree A.reads) f

        pub join_others : (get_or o 0 0 ≡ 11 → ⊥) → joined_call all c o room ≡ refused 12
        join_others g =
            joined_refused all c o 12 room (second_other c o A.tree B.tree K.es A.reads B.reads (ap entries_of K.is) (whole_other value_levels o B.tree (read_whole_lem o B.tree B.reads) g))

        pub joined : get_or o 0 0 ≡ 11 → Joins all c o room
        joined g =
            let L = whole_context value_levels o B.tree (read_whole_lem o B.tree B.reads) g in
            record {
              es = K.es;
              others = L.es;
              read = K.read;
              read_others = L.read;
              short = (A.accepted.short, B.accepted.short);
              is = joined_is all c o room (record { entries = K.es; others = L.es }) (two_done c o A.tree B.tree K.es L.es A.reads B.reads (ap entries_of K.is) (ap entries_of L.is));
            }

module _ {all : Bool} {c o : List ℕ} {room : ℕ} (J : Joins all c o room) where
  pub join_asks : (n : ℕ) → min (length c + length o) most_bytes ≤ n → record {
    ok : Ok (context_at value_levels c);
    ok_2 : Ok (context_at value_levels o);
    c_len_bound : (length c ≤ most_bytes) × (length o ≤ most_bytes);
    most_bytes_in_bounds : min (length c + length o) most_bytes ≤ n;
  }
  join_asks n h =
      record { ok = is_ok (context_at value_levels c) J.es J.read; ok_2 = is_ok (context_at value_levels o) J.others J.read_others; c_len_bound = J.short; most_bytes_in_bounds = h }

  pub join_done : (old new : List ℕ) (a : Result ℕ Refusal)
      → ((es gs : Entries) → context_at value_levels c ≡ some es → context_at value_levels o ≡ some gs → Built (checked_result room (v_context (merged all es gs))) old new a)
      → Built (joined_call all c o room) old new a
  join_done old new a F = subst (λ q. Built q old new a) J.is (F J.es J.others J.read J.read_others)

-- `join_in`
module _ (all : Bool) (c o : List ℕ) (es gs : Entries) (ec : context_at value_levels c ≡ some es) (eo : context_at value_levels o ≡ some gs) (spare mid : List ℕ) (n d : ℕ)
    (M : Merges all (context_at value_levels c) (context_at value_levels o) spare mid n d) (k : min (length c + length o) most_bytes ≤ length spare) where
  abbrev both : Val
  both = v_context (merged all es gs)

  J : Joined (merged all es gs) spare mid n d
  J = merges_is all (context_at value_levels c) (context_at value_levels o) es gs spare mid n d ec eo M

  merge_short : n ≤ length c + length o
  merge_short = omega (arith, J.long, length_enc_v both, size_context (merged all es gs), size_merged all es gs, (ctx_of value_levels c es ec).all, (ctx_of value_levels o gs eo).all)

  merge_inside : n ≤ most_bytes → n ≤ length mid
  merge_inside l = omega (arith, merge_short, k, ap length J.out, length_fill (enc_v both) spare)

  pub merge_holds : Holds mid n d both
  merge_holds =
      record {
        long = J.long;
        text = λ l. ap (take n) J.out ∙ fill_front (enc_v both) spare n J.long (omega (arith, merge_short, k));
        deep = J.deep;
      }

pub merge_room : (all : Bool) (c o spare mid : List ℕ) (n d : ℕ) → Ok (context_at value_levels c) → Ok (context_at value_levels o)
    → Merges all (context_at value_levels c) (context_at value_levels o) spare mid n d → min (length c + length o) most_bytes ≤ length spare → n ≤ most_bytes → n ≤ length mid
merge_room all c o spare mid n d oc oo M k =
    let A = ok_got (context_at value_levels c) oc in
    let B = ok_got (context_at value_levels o) oo in
    merge_inside all c o A.0 B.0 A.1 B.1 spare mid n d M k

-- ---- remove_entry and move_entry
-- `find`: the entry of the name
pub finds : (c : List ℕ) (n rest : ℕ) (k : Cut) → Opened c 0 → Surveyed (n ∷ []) (whole_at value_levels c) rest k → Finds n c (result.Ok k)
finds c n rest k O S = (O.es, O.is, (along c (n ∷ []) rest k O.es O.ctx.read S).1)

cut_none : (n : ℕ) (es : Entries) → value_of n es ≡ none → cut_of (n ∷ []) (v_context es) ≡ cut_here (entry_place n es) 0 0
unfolding cut_of
cut_none n es e = ap (cut_at (entry_place n es) (cut_of [])) e

cut_some : (n : ℕ) (x : Val) (es : Entries) → value_of n es ≡ some x → cut_of (n ∷ []) (v_context es) ≡ cut_here (entry_place n es) (name_width + size_val x) (level_v x)
unfolding cut_of within
cut_some n x es e = ap (cut_at (entry_place n es) (cut_of [])) e

-- a name that is there, and the level of its value
pub record Takes (c : List ℕ) (n : ℕ) (k : Cut) : Type 0 where
  pub hit : Hit value_levels c n k.at (k.at + k.gone)
  pub old : k.old ≡ level_v hit.x

module _ (c : List ℕ) (n : ℕ) (k : Cut) (F : Finds n c (result.Ok k)) where
  abbrev pub found : Opened c 0
  found = record { es = F.0; is = F.1; ctx = context_done c 0 F.0 F.1 }

  pub taken_none : k.gone ≡ 0 → Miss value_levels c n k.at
  taken_none z = go (value_of n F.0) refl
    where
      go : (o : Option Val) → value_of n F.0 ≡ o → Miss value_levels c n k.at
      go none e = record { es = F.0; ctx = found.ctx; value = e; start = ap (λ j. j.at) (F.2 ∙ cut_none n F.0 e) }
      go (some x) e = absurd (omega (arith, z, ap (λ j. j.gone) (F.2 ∙ cut_some n x F.0 e)))

  pub taken_some : (k.gone ≡ 0 → ⊥) → Takes c n k
  taken_some z = go (value_of n F.0) refl
    where
      go : (o : Option Val) → value_of n F.0 ≡ o → Takes c n k
      go none e = absurd (z (ap (λ j. j.gone) (F.2 ∙ cut_none n F.0 e)))
      go (some x) e =
          let q = F.2 ∙ cut_some n x F.0 e in
          record {
            hit = record { es = F.0; ctx = found.ctx; x = x; value = e; start = ap (λ j. j.at) q; end = omega (arith, ap (λ j. j.gone) q) };
            old = ap (λ j. j.old) q;
          }

closed_remove : (l n : ℕ) (c : List ℕ) (es : Entries) (at to count : ℕ) → Bytes c → Ctx l c es → Around n c es at to → count ≡ count_entries (remove n es)
    → closed count c at to ≡ enc_v (v_context (remove n es))
unfolding closed begun
closed_remove l n c es at to count b C A e =
    append_assoc (0x0B ∷ bytes 2 count) (take (at - 3) (drop 3 c)) (drop to c)
    ∙ ap (λ (z : ℕ). (0x0B ∷ bytes 2 z) ++ (take (at - 3) (drop 3 c) ++ drop to c)) e
    ∙ ap₂ (λ (f g : List ℕ). (0x0B ∷ bytes 2 (count_entries (remove n es))) ++ (f ++ g)) A.front A.back
    ∙ sym (text_remove n 0 es (well_entries l c es b C))

length_closed : (count : ℕ) (c : List ℕ) (at to : ℕ) → 3 ≤ at → at ≤ to → to ≤ length c → length (closed count c at to) + to ≡ length c + at
unfolding closed
length_closed count c at to l h k = omega (arith, length-append (begun count c at) (drop to c), length_begun count c at l (omega arith), length-drop to c)

-- `give_without`
module _ (count : ℕ) (c : List ℕ) (at to : ℕ) (old : List ℕ) (l : 3 ≤ at) (h : at ≤ to) (k : to ≤ length c) where
  pub without_short : length old < length c - (to - at) → Built (fits (length old) (closed count c at to)) old old (result.Err Output)
  without_short s = built_short (fits (length old) (closed count c at to)) (closed count c at to) old refl (omega (arith, length_closed count c at to l h k))

  pub without_done : length c - (to - at) ≤ length old → (new : List ℕ) (n : ℕ) → n ≡ length (closed count c at to) → new ≡ fill (closed count c at to) old
      → Built (fits (length old) (closed count c at to)) old new (result.Ok n)
  unfolding fill
  without_done s new n e f =
      let z : length (closed count c at to) ≤ length old = omega (arith, length_closed count c at to l h k) in
      built_wrote (fits (length old) (closed count c at to)) (closed count c at to) old new n refl e z (f ∙ ap (λ (b : List ℕ). onto b old) (take_all (length old) (closed count c at to) z))

changed : (c : List ℕ) (f : Entries → Entries) (room : ℕ) (es : Entries) → context_of c 0 ≡ done es
    → (do x ← context_of c 0; checked_result room (v_context (f x))) ≡ checked_result room (v_context (f es))
unfolding ◌>>=◌
changed c f room es e = rw e

ctx_same : (l : ℕ) (c : List ℕ) (es fs : Entries) → Ctx l c es → Ctx l c fs → es ≡ fs
ctx_same l c es fs C D = some_same (sym C.read ∙ D.read)

module _ (c old : List ℕ) (n : ℕ) (O : Opened c 0) (bc : Bytes c) where
  pub short : length c ≤ most_bytes
  short = opened_short c 0 O.es O.is bc

  pub move_small : (p : List ℕ) → length p ≡ 2 → Small c p c
  move_small p e = record { bytes_c = short; names = omega (arith, e); bytes_v = short }

  pub remove_copy : (at : ℕ) → Miss value_levels c n at → (new : List ℕ) (a : Result ℕ Refusal) → Built (fits (length old) c) old new a → Built (remove_entry_call c n (length old)) old new a
  unfolding ◌>>=◌
  remove_copy at M new a B =
      let z : remove n O.es ≡ O.es = remove_absent n O.es (ap (value_of n) (ctx_same value_levels c O.es M.es O.ctx M.ctx) ∙ M.value) in
      subst (λ o. Built o old new a)
      (copied_is c O.es (length old) O.ctx.read bc short ∙ ap (λ x. checked_result (length old) (v_context x)) (sym z) ∙ sym (changed c (remove_entry n) (length old) O.es O.is)) B

  pub move_copy : (parent at : ℕ) → Miss value_levels c n at → (new : List ℕ) (a : Result ℕ Refusal) → Built (fits (length old) c) old new a → Built (move_entry_call c n parent (length old)) old new a
  move_copy parent at M new a B =
      let v : value_of n O.es ≡ none = ap (value_of n) (ctx_same value_levels c O.es M.es O.ctx M.ctx) ∙ M.value in
      subst (λ o. Built o old new a)
      (copied_is c O.es (length old) O.ctx.read bc short ∙ ap (λ x. checked_result (length old) (v_context (moved n parent O.es x))) (sym v)
      ∙ sym (changed c (move_entry n parent) (length old) O.es O.is))
      B

  module _ (at to : ℕ) (H : Hit value_levels c n at to) (count : ℕ) (ec : count + 1 ≡ num_at 2 1 c) where
    abbrev left : Entries
    left = remove n H.es

    well : WfV (v_context H.es)
    well = well_context value_levels c H.es bc H.ctx

    text : closed count c at to ≡ enc_v (v_context left)
    text =
        closed_remove value_levels n c H.es at to count bc H.ctx
        (subst (λ (z : ℕ). Around n c H.es at z) (sym H.end)
        (subst (λ (z : ℕ). Around n c H.es z (z + name_width + size_val H.x)) (sym H.start) (around_some value_levels n c H.es H.x bc H.ctx H.value)))
        (omega (arith, ec, count_context value_levels c H.es bc H.ctx, count_less n 0 H.es (well_entries value_levels c H.es bc H.ctx) H.x H.value))

    closed_short : length (closed count c at to) ≤ length c
    closed_short = omega (arith, length_closed count c at to (omega (arith, H.start)) (omega (arith, hit_start H bc)) (hit_inside H bc), hit_start H bc)

    rest_level : level_v (v_context left) ≤ value_levels
    rest_level = omega (arith, level_removed n H.es, context_low c H.es H.ctx.read bc)

    same_es : O.es ≡ H.es
    same_es = ctx_same value_levels c O.es H.es O.ctx H.ctx

    pub remove_done : (new : List ℕ) (a : Result ℕ Refusal) → Built (fits (length old) (closed count c at to)) old new a → Built (remove_entry_call c n (length old)) old new a
    remove_done new a B =
        subst (λ o. Built o old new a)
        (ap (fits (length old)) text
        ∙ result_small (length old) (v_context left) (is_small (v_context left) (omega (arith, closed_short, short, ap length text)) rest_level)
        ∙ ap (λ x. checked_result (length old) (v_context (remove n x))) (sym same_es)
        ∙ sym (changed c (remove_entry n) (length old) O.es O.is)) B

    -- ---- the rest of the context, and the value
    rest_read : context_at value_levels (closed count c at to) ≡ some left
    rest_read =
        ap (context_at value_levels) (text ∙ sym (append-nil (enc_v (v_context left))))
        ∙ read_context value_levels (enc_v (v_context left) ++ []) left
        (read_enc_v (v_context left) value_levels [] (well_removed n H.es well) rest_level ∙ ap (λ (z : ℕ). got (v_context left) z) (ap length (sym (append-nil (enc_v (v_context left))))))

    part_read : whole_at value_levels (value_in c at to) ≡ some H.x
    part_read =
        is_whole value_levels (value_in c at to) H.x
        (read_up_v (value_levels - 1) value_levels (value_in c at to) (bytes_take (to - (at + name_width)) (drop (at + name_width) c) (bytes_drop (at + name_width) c bc))
        H.x (length (value_in c at to)) (omega arith) (whole_is (value_levels - 1) (value_in c at to) H.x (hit_whole H bc)))

    pub rest_ok : Ok (context_at value_levels (closed count c at to))
    rest_ok = is_ok (context_at value_levels (closed count c at to)) left rest_read

    pub part_ok : Ok (whole_at value_levels (value_in c at to))
    part_ok = is_ok (whole_at value_levels (value_in c at to)) H.x part_read

    pub part_level : (d : ℕ) → d ≡ level_v H.x → (x : Val) → whole_at value_levels (value_in c at to) ≡ some x → d ≡ level_v x
    part_level d e x ex = e ∙ ap level_v (some_same (sym part_read ∙ ex))

    pub move_done : (parent : ℕ) (new : List ℕ) (a : Result ℕ Refusal)
        → ((es : Entries) (x : Val) → context_at value_levels (closed count c at to) ≡ some es → whole_at value_levels (value_in c at to) ≡ some x
        → Built (answered (length old) (updated false (parent ∷ n ∷ []) x es)) old new a)
        → Built (move_entry_call c n parent (length old)) old new a
    unfolding ◌>>=◌
    move_done parent new a F =
        subst (λ o. Built o old new a)
        (sym (ap (λ x. checked_result (length old) (v_context (moved n parent H.es x))) H.value)
        ∙ ap (λ x. checked_result (length old) (v_context (move_entry n parent x))) (sym same_es)
        ∙ sym (changed c (move_entry n parent) (length old) O.es O.is)) (F left H.x rest_read part_read)

  -- what `move_in` asks
  pub move_asks : (k : Cut) (T : Takes c n k) (count : ℕ) → count + 1 ≡ num_at 2 1 c → count < 65536 → (p : List ℕ) → length p ≡ 2 → (spare : ℕ) → length c ≤ spare → record {
    le_at : (3 ≤ k.at) × (name_width ≤ k.gone) × (k.at + k.gone ≤ length c) × (count < 65536);
    ok : Ok (context_at value_levels (closed count c k.at (k.at + k.gone)));
    ok_2 : Ok (whole_at value_levels (value_in c k.at (k.at + k.gone)));
    small : Small c p c;
    cut_value : (x : Val) → whole_at value_levels (value_in c k.at (k.at + k.gone)) ≡ some x → k.old ≡ level_v x;
    c_in_bounds : length c ≤ spare;
  }
  move_asks k T count ec low p e spare h =
      let H = T.hit in
      record {
        le_at = (omega (arith, H.start), omega (arith, hit_start H bc), hit_inside H bc, low);
        ok = rest_ok k.at (k.at + k.gone) H count ec;
        ok_2 = part_ok k.at (k.at + k.gone) H count ec;
        small = move_small p e;
        cut_value = part_level k.at (k.at + k.gone) H count ec k.old T.old;
        c_in_bounds = h;
      }

-- `move_in`: the rest of the context in a spare place
module _ (count : ℕ) (c : List ℕ) (at to : ℕ) (l : 3 ≤ at) (h : at + name_width ≤ to) (k : to ≤ length c) (spare mid : List ℕ) (n : ℕ)
    (en : n ≡ length (closed count c at to)) (em : mid ≡ fill (closed count c at to) spare) (room : length c ≤ length spare) where
  cut_short : n ≤ length c
  cut_short = omega (arith, en, length_closed count c at to l (omega arith) k)

  pub cut_inside_lem : n ≤ length mid
  cut_inside_lem = omega (arith, cut_short, ap length em, length_fill (closed count c at to) spare)

  pub cut_is : take n mid ≡ closed count c at to
  cut_is = ap (take n) em ∙ fill_front (closed count c at to) spare n en (omega (arith, cut_short))

  pub cut_ok : Ok (context_at value_levels (closed count c at to)) → Ok (context_at value_levels (take n mid))
  cut_ok o = rw cut_is o

  pub cut_small : (p : List ℕ) → Small c p c → Small (take n mid) p (value_in c at to)
  cut_small p S =
      record {
        bytes_c = omega (arith, S.bytes_c, cut_short, length-take n mid);
        names = S.names;
        bytes_v = omega (arith, S.bytes_c, length-take (to - (at + name_width)) (drop (at + name_width) c), length-drop (at + name_width) c);
      }

-- a name that is there is one of the entries
pub some_entry : {l : ℕ} {c : List ℕ} {n at to : ℕ} (H : Hit l c n at to) → Bytes c → 1 ≤ num_at 2 1 c
some_entry {l} {c} {n} H b = omega (arith, count_context l c H.es b H.ctx, count_less n 0 H.es (well_entries l c H.es b H.ctx) H.x H.value)
