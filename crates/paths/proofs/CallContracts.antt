-- The calls: refusals in their order, then the answer.
-- Index: `read_whole_lem`, `context_done`, `opened_short`, `Opened`, `value_refused`, `first_refused`, `names_refused`, `other_refused`, `opened`, `held_byte` (the context of a call);
-- `handed_on`, `call_refused`, `part_refused` (refused calls); `Searched`, `searched`, `searched_part`, `searched_name`, `searched_none`, `searched_room` (what the walk along a path finds);
-- `entry_call`, `Counted`, `counted`, `count_refused`, `first_none`, `first_inside`, `first_done` (calls that find a part);
-- `extent_some`, `extent_none`, `extent_refused` (from the place back to the value);
-- `AllStand`, `stand_deep`, `stand_entry`, `stand_first`, `lend_within`, `lend_inside`, `lent`, `lent_refused` (a part that is lent);
-- `asked`, `deep_asked`, `entry_asked`, `context_asked`, `empty_asked`, `asked_refused`, `asked_done`, `has_part`, `len_done`, `Entered`, `entered`, `entered_inside`, `context_none`,
-- `context_is` (questions).
-- Assumes nothing.
use Prim.Native.Nat.{ℕ, zero, suc, ◌+◌, ◌-◌, ◌<◌, ◌≤◌, ◌^◌}
use native.Mathlib.Omega.{arith}
use native.Mathlib.Nat.{add-zero}
use mathlib.Core.Path.{◌≡◌, refl, sym, ap, ap₂, subst, ◌∙◌}
use mathlib.Core.Bool.{Bool, true, false, cond}
use mathlib.Core.Option.{Option, none, some}
use mathlib.Core.Logic.{◌⊎◌, inl, inr}
use mathlib.Core.List.{List, [], ◌∷◌}
use lib.ListN.{length, get_or, take, drop}
use lib.Seq.{get_or-drop}
use lib.Dec.{ltb, leb, eqb}
use denote.Ref.{Bor}
use borrow.Author.Tests.{eqb-true, eqb-false, le-leb, lt-leb, eq-eqb, ne_eqb, lt-ltb, le-ltb}
use Rattle.form.specs.Limits.{name_width, most_bytes, value_levels, value_refusals, most_names}
use Rattle.form.specs.Trees.{Val, v_context, Entries, no_entries, entry}
use Rattle.form.specs.Form.{num_at, Bytes, enc_v, level_v, count_entries}
use Rattle.form.specs.Outcome.{Outcome, done, refused, ◌>>=◌, ◌>>◌, check, or_refuse}
use Rattle.form.specs.Read.{read_v, read_value, check_value}
use Rattle.form.proofs.Accepted.{refused_done, whole_got, level_refused}
use Rattle.form.proofs.Values.{value_accepted, ValueTold, enc_v_some}
use Rattle.order.specs.Size.{size_val, size_entries}
use Rattle.order.proofs.LeastSize.{length_enc_v}
use Rattle.values.specs.At.{value_at, entries_at, size_at_v}
use Rattle.values.proofs.Reading.{some_byte, no_entry}
use Rattle.paths.specs.Paths.{value_of, entries_of, is_some, is_context, is_empty, get_first, bind, search, contains_deep, entry_place, place}
use Rattle.paths.specs.Places.{whole_at, Spot, spot, Piece, piece, extent, found, extent_of, spot_in, Within, Lends, Lent}
use Rattle.paths.specs.Way.{cut_of, part_of, Surveyed}
use Rattle.paths.specs.Laws.{holds_context}
use Rattle.paths.specs.declared.way.Cut.{Cut}
use Rattle.paths.specs.Calls.{context_of, search_deep_call, get_entry_call, get_first_call, contains_deep_call, contains_entry_call, is_context_call, is_empty_call, len_call}
use Rattle.paths.specs.declared.Part.{Part}
use Rattle.form.specs.declared.refusals.Refusal.{Refusal}
use Rattle.form.specs.Answers.{number}
use Rattle.std.specs.declared.option.Option as answer
use Rattle.std.specs.Option as option
use Rattle.std.specs.Prelude.{Some, None, Ok, Err, Result, IfSome}
use Rattle.std.specs.Result.{IsErrAnd}
use Rattle.std.proofs.lemmas.Result.{err_from_is_err_and}
use Rattle.paths.proofs.Whole.{is_whole, context_read, of_context, Ctx, ctx_of, size_behind}
use Rattle.paths.proofs.OneName.{value_first, below_none}
use Rattle.paths.proofs.SplitContext.{count_context, child_whole}
use Rattle.paths.proofs.PathSearch.{whole_value, at_context, whole_context, whole_other, contains_deep_lem, Stands, stands_one, stands_at}
use Rattle.paths.proofs.Steps.{search_cut, cut_entry}
use Rattle.paths.proofs.Along.{surveyed_is, cut_small}
use Rattle.form.specs.Options.{map}
use Rattle.form.proofs.Runs.{behind}
use Rattle.values.proofs.EntriesAt.{This, this, size_none, size_context}

-- ---- the context of a call
pub read_whole_lem : (c : List ℕ) (v : Val) → read_value c ≡ done v → whole_at value_levels c ≡ some v
read_whole_lem c v e = is_whole value_levels c v (whole_got value_refusals (read_v value_levels) c v e)

pub context_done : (c : List ℕ) (k : ℕ) (es : Entries) → context_of c k ≡ done es → Ctx value_levels c es
unfolding context_of ◌>>=◌ ◌>>◌
context_done c k es e = go (read_value c) refl e
  where
    named : (v : Val) → read_value c ≡ done v → (b : Bool) (o : Option Entries) → entries_of v ≡ o → (do check 11 b; or_refuse 12 o) ≡ done es → Ctx value_levels c es
    named v r false o q h = absurd (refused_done h)
    named v r true none q h = absurd (refused_done h)
    named v r true (some fs) q h =
        let z : fs ≡ es = cc in
        ctx_of value_levels c es (at_context value_levels c v es (read_whole_lem c v r) (of_context v es (q ∙ ap some z)))

    go : (o : Outcome Val) → read_value c ≡ o → (do self ← o; check 11 (leb k most_names); or_refuse 12 (entries_of self)) ≡ done es → Ctx value_levels c es
    go (refused m) r h = absurd (refused_done h)
    go (done v) r h = named v r (leb k most_names) (entries_of v) refl h

-- it was accepted, so it is short
pub opened_short : (c : List ℕ) (k : ℕ) (es : Entries) → context_of c k ≡ done es → Bytes c → length c ≤ most_bytes
unfolding context_of ◌>>=◌
opened_short c k es e b = go (read_value c) refl e
  where
    go : (o : Outcome Val) → read_value c ≡ o → (do self ← o; check 11 (leb k most_names); or_refuse 12 (entries_of self)) ≡ done es → length c ≤ most_bytes
    go (refused m) r h = absurd (refused_done h)
    go (done v) r h = (value_accepted c b v r).short

pub record Opened (c : List ℕ) (k : ℕ) : Type 0 where
  pub es : Entries
  pub is : context_of c k ≡ done es
  pub ctx : Ctx value_levels c es

-- ---- its refusals, in their order
pub value_refused : (c : List ℕ) (n : ℕ) → refused n ≡ check_value c → read_value c ≡ refused n
unfolding check_value
value_refused c n e = level_refused level_v (read_value c) n (sym e)

pub first_refused : (c : List ℕ) (k n : ℕ) → read_value c ≡ refused n → context_of c k ≡ refused n
unfolding context_of ◌>>=◌
first_refused c k n e = rw e

module _ (c : List ℕ) (k : ℕ) {v : Val} (reads : read_value c ≡ done v) where
  pub names_refused : most_names < k → context_of c k ≡ refused 11
  unfolding context_of ◌>>=◌ ◌>>◌
  names_refused h = rw (reads, lt-leb k most_names h)

  -- it has a byte
  pub held_byte : 0 < length c
  held_byte = some_byte value_levels c v (whole_value value_levels c v (read_whole_lem c v reads))

  module _ (h : k ≤ most_names) where
    pub other_refused : (get_or c 0 0 ≡ 11 → ⊥) → context_of c k ≡ refused 12
    unfolding context_of ◌>>=◌ ◌>>◌
    other_refused d = rw (reads, le-leb k most_names h, whole_other value_levels c v (read_whole_lem c v reads) d)

    context_done_is : (es : Entries) → entries_of v ≡ some es → context_of c k ≡ done es
    unfolding context_of ◌>>=◌ ◌>>◌
    context_done_is es e = rw (reads, le-leb k most_names h, e)

    pub opened : get_or c 0 0 ≡ 11 → Opened c k
    opened e =
        let K = whole_context value_levels c v (read_whole_lem c v reads) e in
        record { es = K.es; is = context_done_is K.es (ap entries_of K.is); ctx = ctx_of value_levels c K.es K.read }

-- ---- refused calls
-- `?` hands a refusal on
pub handed_on : {X : Type 0} (r : Result X Refusal) (refusal : Refusal) → IsErrAnd r (λ e. e ≡ refusal) → r ≡ Err refusal
handed_on r refusal h = let p = err_from_is_err_and r h in p.1 ∙ ap Err p.2

pub part_refused : (o : Outcome Entries) (n : ℕ) (f : Entries → Outcome (Option Spot)) → o ≡ refused n → refused n ≡ extent_of (do es ← o; f es)
unfolding extent_of ◌>>=◌
part_refused o n f e = rw e

pub call_refused : {Y : Type 0} (o : Outcome Entries) (n : ℕ) (f : Entries → Outcome Y) → o ≡ refused n → refused n ≡ (do es ← o; f es)
unfolding ◌>>=◌
call_refused o n f e = rw e

-- ---- calls that find a part
part_done : (o : Outcome Entries) (es : Entries) (f : Entries → Option Spot) → o ≡ done es → done (map extent (f es)) ≡ extent_of (do z ← o; done (f z))
unfolding extent_of ◌>>=◌
part_done o es f e = rw e

-- the cut along the path in an accepted context
pub record Searched (c p : List ℕ) (k : Cut) : Type 0 where
  pub opened : Opened c (length p)
  pub short : length c ≤ most_bytes
  pub cut : k ≡ cut_of p (v_context opened.es)

pub searched : (c p : List ℕ) {d : ℕ} (rest : ℕ) (k : Cut) → ValueTold c d → length p ≤ most_names → get_or c 0 0 ≡ 11
    → Surveyed p (whole_at value_levels c) rest k → Searched c p k
searched c p rest k A h e f =
    let O = opened c (length p) A.reads h e in
    let w = is_whole value_levels c (v_context O.es) (context_read value_levels c O.es O.ctx.read) in
    let short = A.accepted.short in
    record { opened = O; short = short; cut = (surveyed_is p (whole_at value_levels c) rest k (v_context O.es) w f).1 }

module _ {c p : List ℕ} {k : Cut} (S : Searched c p k) where
  -- what the cut finds is the answer
  cut_found : done (part_of (length p) k) ≡ extent_of (search_deep_call c p)
  cut_found =
      let es = S.opened.es in
      ap (λ j. done (part_of (length p) j)) S.cut ∙ ap done (sym (search_cut p es)) ∙ part_done (context_of c (length p)) es (spot_in p) S.opened.is

  abbrev part : Option Piece
  part = some (piece (k.at + name_width) (k.gone - name_width))

  module _ (d : k.gone ≡ 0 → ⊥) where
    there : (b : Bool) → ltb k.names (length p) ≡ b → done (cond b none part) ≡ extent_of (search_deep_call c p)
    there b e = ap₂ (λ x y. done (cond x none (cond y none part))) (sym (ne_eqb k.gone 0 d)) (sym e) ∙ cut_found

    pub searched_part : length p ≤ k.names → done part ≡ extent_of (search_deep_call c p)
    searched_part h = there false (le-ltb k.names (length p) h)

    -- an entry goes, so its name does
    pub searched_name : name_width ≤ k.gone
    searched_name = let e = ap (λ j. j.gone) S.cut in omega (arith, e, cut_entry p S.opened.es (λ z. d (e ∙ z)))

  -- no entry goes, or a name is left
  pub searched_none : (k.gone ≡ 0) ⊎ ((k.gone ≡ 0 → ⊥) × (k.names < length p)) → done none ≡ extent_of (search_deep_call c p)
  searched_none (inl e) = ap (λ b. done (cond b none (cond (ltb k.names (length p)) none part))) (sym (eq-eqb k.gone 0 e)) ∙ cut_found
  searched_none (inr (d, h)) = there d true (lt-ltb k.names (length p) h)

  pub searched_room : k.at + name_width < 2 ^ 64
  searched_room =
      let es = S.opened.es in
      omega (arith, ap (λ j. j.at) S.cut, (cut_small p (v_context es)).1, size_context es, S.opened.ctx.all, S.short)

-- one name is a path
pub entry_call : (c : List ℕ) (n : ℕ) → search_deep_call c (n ∷ []) ≡ get_entry_call c n
unfolding context_of search place
entry_call c n = refl

abbrev first_spot : Entries → Option Spot
first_spot es = map (spot (3 + name_width)) (get_first es)

-- the number of the entries, as it stands in the bytes
pub record Counted (c : List ℕ) (n : ℕ) : Type 0 where
  pub opened : Opened c 0
  pub is : n ≡ num_at 2 1 c

pub counted : (c : List ℕ) (n : ℕ) → Bytes c → done n ≡ len_call c → Counted c n
unfolding ◌>>=◌
counted c n bs e = go (context_of c 0) refl e
  where
    go : (o : Outcome Entries) → context_of c 0 ≡ o → done n ≡ (do es ← o; done (count_entries es)) → Counted c n
    go (done es) h q =
        let C = context_done c 0 es h in
        let z : n ≡ count_entries es = cc in
        record { opened = record { es = es; is = h; ctx = C }; is = z ∙ sym (count_context value_levels c es bs C) }
    go (refused m) h q = absurd (refused_done (sym q))

pub count_refused : (c : List ℕ) (n : ℕ) → refused n ≡ len_call c → context_of c 0 ≡ refused n
unfolding ◌>>=◌
count_refused c n e = go (context_of c 0) refl e
  where
    go : (o : Outcome Entries) → context_of c 0 ≡ o → refused n ≡ (do es ← o; done (count_entries es)) → context_of c 0 ≡ refused n
    go (done es) h q = absurd (refused_done q)
    go (refused m) h q = let z : m ≡ n = cc in h ∙ ap refused z

module _ (c : List ℕ) {n : ℕ} (N : Counted c n) where
  abbrev O : Opened c 0
  O = N.opened

  pub first_none : n ≡ 0 → done none ≡ extent_of (get_first_call c)
  first_none e =
      let z : O.es ≡ no_entries = no_entry 30 0 (drop 3 c) O.es (ap (λ (k : ℕ). entries_at 30 k 0 (drop 3 c)) (sym e ∙ N.is) ∙ O.ctx.entries) in
      sym (ap (λ x. done (map extent (first_spot x))) z) ∙ part_done (context_of c 0) O.es first_spot O.is

  module _ (d : n ≡ 0 → ⊥) where
    first_entry : This 30 (num_at 2 1 c - (0 + 1)) 3 0 c O.es
    first_entry =
        let z : num_at 2 1 c - 0 ≡ num_at 2 1 c = omega arith in
        this 30 0 (num_at 2 1 c) 3 0 c O.es (omega (arith, d, N.is)) (ap (λ (k : ℕ). entries_at 30 k 0 (drop 3 c)) z ∙ O.ctx.entries)

    pub first_inside : 5 ≤ length c
    first_inside = omega (arith, first_entry.two)

    pub first_done : (k : ℕ) → k ≡ size_at_v (value_at 30 (behind 5 c)) → done (some (piece 5 k)) ≡ extent_of (get_first_call c)
    first_done k e =
        let A = first_entry in
        let z : k ≡ length (enc_v A.x) = e ∙ size_behind 30 5 c A.x A.first ∙ sym (length_enc_v A.x) in
        ap (λ (j : ℕ). done (some (piece 5 j))) z ∙ sym (ap (λ x. done (map extent (first_spot x))) A.is) ∙ part_done (context_of c 0) O.es first_spot O.is

-- ---- from the place that was found back to the value
pub extent_some : (o : Outcome (Option Spot)) (p n : ℕ) → done (some (piece p n)) ≡ extent_of o → (v : Val) × (o ≡ done (some (spot p v))) × (n ≡ length (enc_v v))
unfolding extent_of ◌>>=◌
extent_some (done (some (spot q v))) p n e =
    let a : q ≡ p = cc in
    let b : n ≡ length (enc_v v) = cc in
    (v, ap (λ (j : ℕ). done (some (spot j v))) a, b)
extent_some (done none) p n e = absurd (let z : ◌≡◌ {A = ℕ} 0 1 = cc in omega arith)
extent_some (refused m) p n e = absurd (refused_done (sym e))

pub extent_none : (o : Outcome (Option Spot)) → done none ≡ extent_of o → o ≡ done none
unfolding extent_of ◌>>=◌
extent_none (done (some (spot q v))) e = absurd (let z : ◌≡◌ {A = ℕ} 0 1 = cc in omega arith)
extent_none (done none) e = refl
extent_none (refused m) e = absurd (refused_done (sym e))

pub extent_refused : (o : Outcome (Option Spot)) (n : ℕ) → refused n ≡ extent_of o → o ≡ refused n
unfolding extent_of ◌>>=◌
extent_refused (done s) n e = absurd (refused_done e)
extent_refused (refused m) n e = let z : m ≡ n = cc in ap refused z

-- ---- a part that is lent
abbrev pub Standing : List ℕ → Option Spot → Type 0
Standing c none = Unit {0}
Standing c (some (spot q v)) = Stands c q v

abbrev pub AllStand : List ℕ → Outcome (Option Spot) → Type 0
AllStand c (done o) = Standing c o
AllStand c (refused n) = Unit {0}

standing : (c : List ℕ) (q : ℕ) (o : Option Val) → ((x : Val) → o ≡ some x → Stands c q x) → Standing c (map (spot q) o)
standing c q none h = tt
standing c q (some x) h = h x refl

all_stand : (c : List ℕ) (k : ℕ) (f : Entries → Option Spot) → ((es : Entries) → Ctx value_levels c es → Standing c (f es)) → AllStand c (do es ← context_of c k; done (f es))
unfolding ◌>>=◌
all_stand c k f h = go (context_of c k) refl
  where
    go : (o : Outcome Entries) → context_of c k ≡ o → AllStand c (do es ← o; done (f es))
    go (done es) e = h es (context_done c k es e)
    go (refused n) e = tt

pub stand_deep : (c p : List ℕ) → Bytes c → AllStand c (search_deep_call c p)
stand_deep c p bs = all_stand c (length p) (spot_in p) (λ es C. standing c (place p es) (search p es) (λ x. stands_at p value_levels c es x bs C))

pub stand_entry : (c : List ℕ) (n : ℕ) → Bytes c → AllStand c (get_entry_call c n)
stand_entry c n bs = subst (AllStand c) (entry_call c n) (stand_deep c (n ∷ []) bs)

pub stand_first : (c : List ℕ) → Bytes c → AllStand c (get_first_call c)
stand_first c bs = all_stand c 0 first_spot first
  where
    first : (es : Entries) → Ctx value_levels c es → Standing c (first_spot es)
    first no_entries C = tt
    first (entry n v es) C =
        let z : entry_place n (entry n v es) ≡ 3 = omega (arith, ap size_entries (below_none n n v es (omega arith)), size_none) in
        subst (λ (q : ℕ). Stands c (q + name_width) v) z (stands_one value_levels n c (entry n v es) v bs C (value_first n v es))

stand_within : (c : List ℕ) (o : Outcome (Option Spot)) → AllStand c o → Within (extent_of o) c
unfolding extent_of ◌>>=◌
stand_within c (done none) h = tt
stand_within c (done (some (spot q v))) h = omega (arith, h.within, length_enc_v v)
stand_within c (refused n) h = tt

pub lend_within : (c : List ℕ) (o : Outcome (Option Spot)) (x : Outcome (Option Piece)) → AllStand c o → x ≡ extent_of o → Within x c
lend_within c o x h e = subst (λ z. Within z c) (sym e) (stand_within c o h)

pub lend_inside : (c : List ℕ) (o : Outcome (Option Spot)) (r : answer.Option Part) → AllStand c o → found (Ok r) ≡ extent_of o → IfSome r (λ p. p.place + p.size ≤ length c)
lend_inside c o (Some p) h e = lend_within c o (done (some (piece p.place p.size))) h e
lend_inside c o None h e = tt

pub lent : (c : Bor (List ℕ)) (o : Outcome (Option Spot)) (r : answer.Option Part) (part : answer.Option (Bor (List ℕ))) → AllStand c.now o → found (Ok r) ≡ extent_of o → Lends r c part
    → Lent o c (Ok part)
lent c o (Some p) (Some r) h e L =
    let (v, is, size) = extent_some o p.place p.size e in
    let S : Stands c.now p.place v = subst (AllStand c.now) is h in
    record { place = p.place; value = v; is = is; bytes = L.bytes ∙ ap (λ (k : ℕ). take k (drop p.place c.now)) (size ∙ length_enc_v v) ∙ S.text; lies = L.lies }
lent c o None None h e L = extent_none o e
lent c o (Some p) None h e L = absurd L
lent c o None (Some r) h e L = absurd L

pub lent_refused : (c : Bor (List ℕ)) (o : Outcome (Option Spot)) (r : Result (answer.Option (Bor (List ℕ))) Refusal) (refusal : Refusal) → IsErrAnd r (λ e. e ≡ refusal)
    → refused (number refusal) ≡ extent_of o → Lent o c r
lent_refused c o r refusal h q = subst (Lent o c) (sym (handed_on r refusal h)) (extent_refused o (number refusal) q)

-- ---- questions
-- a question f, asked of the entries or of what g gives of them
pub asked : {X Y : Type 0} (o : Outcome Entries) (g : Entries → X) (f : X → Y) (b : Entries → Y) → ((es : Entries) → b es ≡ f (g es))
    → (do es ← o; done (b es)) ≡ (do x ← (do es ← o; done (g es)); done (f x))
unfolding ◌>>=◌
asked (done es) g f b h = ap done (h es)
asked (refused n) g f b h = refl

-- the value of a name and its place
abbrev pub entry_spot : ℕ → Entries → Option Spot
entry_spot n es = map (spot (entry_place n es + name_width)) (value_of n es)

found_is : (q : ℕ) (o : Option Val) → is_some o ≡ is_some (map (spot q) o)
found_is q none = refl
found_is q (some v) = refl

holds_is : (q : ℕ) (o : Option Val) → is_some (bind o entries_of) ≡ holds_context (map (spot q) o)
holds_is q none = refl
holds_is q (some v) = refl

pub deep_asked : (c p : List ℕ) → contains_deep_call c p ≡ (do o ← search_deep_call c p; done (is_some o))
deep_asked c p = asked (context_of c (length p)) (spot_in p) is_some (contains_deep p) (λ es. contains_deep_lem p es ∙ found_is (place p es) (search p es))

pub entry_asked : (c : List ℕ) (n : ℕ) → contains_entry_call c n ≡ (do o ← get_entry_call c n; done (is_some o))
entry_asked c n = asked (context_of c 0) (entry_spot n) is_some (λ es. is_some (value_of n es)) (λ es. found_is (entry_place n es + name_width) (value_of n es))

pub context_asked : (c : List ℕ) (n : ℕ) → is_context_call c n ≡ (do o ← get_entry_call c n; done (holds_context o))
context_asked c n = asked (context_of c 0) (entry_spot n) holds_context (is_context n) (λ es. holds_is (entry_place n es + name_width) (value_of n es))

pub empty_tree : (es : Entries) → is_empty es ≡ eqb (count_entries es) 0
unfolding count_entries
empty_tree no_entries = refl
empty_tree (entry n v es) = sym (ne_eqb (suc (count_entries es)) 0 (λ e. omega arith))

pub empty_asked : (c : List ℕ) → is_empty_call c ≡ (do n ← len_call c; done (eqb n 0))
empty_asked c = asked (context_of c 0) count_entries (λ n. eqb n 0) is_empty empty_tree

-- the answer to a question about what a call answers
module _ {X Y : Type 0} (o : Outcome X) (f : X → Y) (b : Outcome Y) (q : b ≡ (do x ← o; done (f x))) where
  pub asked_refused : (n : ℕ) → refused n ≡ o → refused n ≡ b
  unfolding ◌>>=◌
  asked_refused n e = sym (ap (λ z. do x ← z; done (f x)) (sym e)) ∙ sym q

  pub asked_done : (x : X) → done x ≡ o → done (f x) ≡ b
  unfolding ◌>>=◌
  asked_done x e = sym (ap (λ z. do x ← z; done (f x)) (sym e)) ∙ sym q

-- whether a part was found
pub has_part : (o : Outcome (Option Spot)) (b : Outcome Bool) → b ≡ (do x ← o; done (is_some x)) → (r : answer.Option Part) → found (Ok r) ≡ extent_of o → done (option.is_some r) ≡ b
has_part o b q (Some p) e = let (v, is, size) = extent_some o p.place p.size e in asked_done o is_some b q (some (spot p.place v)) (sym is)
has_part o b q None e = asked_done o is_some b q none (sym (extent_none o e))

-- how many entries there are
question : {Y : Type 0} (o : Outcome Entries) (es : Entries) (f : Entries → Y) (y : Y) → o ≡ done es → f es ≡ y → done y ≡ (do z ← o; done (f z))
unfolding ◌>>=◌
question o es f y e h = rw (e, h)

pub len_done : (c : List ℕ) (O : Opened c 0) → Bytes c → (n : ℕ) → n ≡ num_at 2 1 c → done n ≡ len_call c
len_done c O bs n e = question (context_of c 0) O.es count_entries n O.is (sym (e ∙ count_context value_levels c O.es bs O.ctx))

-- ---- `is_context`
pub record Entered (c : List ℕ) (n at : ℕ) : Type 0 where
  pub es : Entries
  pub is : context_of c 0 ≡ done es
  pub x : Val
  pub value : value_of n es ≡ some x
  pub start : at ≡ entry_place n es + name_width

pub entered : (c : List ℕ) (n p k : ℕ) → done (some (piece p k)) ≡ extent_of (get_entry_call c n) → Entered c n p
unfolding ◌>>=◌
entered c n p k e = let (v, is, size) = extent_some (get_entry_call c n) p k e in go v (context_of c 0) refl is
  where
    there : (v : Val) (es : Entries) → context_of c 0 ≡ done es → (o : Option Val) → value_of n es ≡ o → done (map (spot (entry_place n es + name_width)) o) ≡ done (some (spot p v))
        → Entered c n p
    there v es i none w q = absurd (let z : ◌≡◌ {A = ℕ} 0 1 = cc in omega arith)
    there v es i (some x) w q =
        let z : p ≡ entry_place n es + name_width = cc in
        record { es = es; is = i; x = x; value = w; start = z }

    go : (v : Val) (o : Outcome Entries) → context_of c 0 ≡ o → (do es ← o; done (entry_spot n es)) ≡ done (some (spot p v)) → Entered c n p
    go v (done es) i q = there v es i (value_of n es) refl q
    go v (refused m) i q = absurd (refused_done q)

pub context_none : (c : List ℕ) (n : ℕ) → done none ≡ extent_of (get_entry_call c n) → done false ≡ is_context_call c n
context_none c n e = asked_done (get_entry_call c n) holds_context (is_context_call c n) (context_asked c n) none (sym (extent_none (get_entry_call c n) e))

-- the first byte of a part
front_byte : (m : ℕ) (s : List ℕ) → 0 < m → get_or (take m s) 0 0 ≡ get_or s 0 0
front_byte zero s h = absurd (omega arith)
front_byte (suc m) [] h = refl
front_byte (suc m) (b ∷ s) h = refl

module _ {c : List ℕ} {n at : ℕ} (E : Entered c n at) (bs : Bytes c) where
  abbrev own : List ℕ
  own = take (size_val E.x) (drop at c)

  ctx : Ctx value_levels c E.es
  ctx = context_done c 0 E.es E.is

  whole : whole_at 30 own ≡ some E.x
  whole = ap (λ (i : ℕ). whole_at 30 (take (size_val E.x) (drop i c))) E.start ∙ child_whole value_levels n c E.es E.x bs ctx E.value

  pub entered_inside : at < length c
  entered_inside = omega (arith, E.start, (stands_one value_levels n c E.es E.x bs ctx E.value).within, enc_v_some E.x, length_enc_v E.x)

  first_byte : get_or own 0 0 ≡ get_or c at 0
  first_byte = front_byte (size_val E.x) (drop at c) (omega (arith, enc_v_some E.x, length_enc_v E.x)) ∙ get_or-drop at c 0 0 ∙ ap (λ (i : ℕ). get_or c i 0) (add-zero at)

  pub context_is : done (eqb (get_or c at 0) 11) ≡ is_context_call c n
  context_is = question (context_of c 0) E.es (is_context n) (eqb (get_or c at 0) 11) E.is (ap (λ o. is_some (bind o entries_of)) E.value ∙ go (eqb (get_or c at 0) 11) refl)
    where
      go : (b : Bool) → eqb (get_or c at 0) 11 ≡ b → is_some (entries_of E.x) ≡ b
      go true e = ap (λ v. is_some (entries_of v)) (whole_context 30 own E.x whole (first_byte ∙ eqb-true (get_or c at 0) 11 e)).is
      go false e = ap is_some (whole_other 30 own E.x whole (λ h. eqb-false (get_or c at 0) 11 e (sym first_byte ∙ h)))
