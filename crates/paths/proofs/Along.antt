-- The walk along a path, over the bytes: what `way::survey`, its loop over the entries and `way::read` owe.
-- Idea: the answer of the whole is the answer from here (`RunInv`); and where all entries were read, what stays and what is cut are those of the entries that are left, behind what was passed.
-- Index: `Fitting`, `within_new`, `within_old`, `cut_small`, `stays_level` (on trees); `path_parts` (a path); `surveyed`, `surveyed_is`, `Answer`, `fault_answer`, `flat_answer` (answers);
-- `Child`, `child`, `child_is`, `child_cut`, `child_rest` (an entry's value); `Cutting`, `Left`, `Along`, `along_start`, `along_none`, `along_fall`, `along_fault`, `along_cut`,
-- `along_this`, `along_before`, `along_behind`, `along_end` (the loop); `whole_surveyed`, `read_ended`, `read_left`, `read_fault` (the whole).
-- Assumes nothing.
use Prim.Native.Nat.{ℕ, suc, ◌+◌, ◌-◌, ◌<◌, ◌≤◌, max}
use native.Mathlib.Omega.{arith}
use native.Mathlib.Numerals.{add-one}
use mathlib.Core.Path.{◌≡◌, refl, sym, ap, ap₂, subst, ◌∙◌}
use mathlib.Core.Bool.{Bool, true, false, cond}
use mathlib.Core.Option.{Option, none, some}
use mathlib.Core.List.{List, [], ◌∷◌}
use lib.ListN.{length, get_or, drop}
use lib.Dec.{eqb, ltb}
use borrow.Author.Tests.{eq-eqb, ne_eqb}
use Rattle.form.specs.Limits.{name_width, most_bytes, value_levels, value_refusals}
use Rattle.form.specs.Trees.{Val, v_context, Entries, no_entries, entry}
use Rattle.form.specs.Form.{num_at, level_v, level_entries}
use Rattle.form.specs.Layout.{k_context, of_value, kind_of, operands, operands_v}
use Rattle.form.specs.Outcome.{done, refused}
use Rattle.form.specs.Read.{Got, got, bad, read_v, read_named, read_entries, ascending, read_value, check_value}
use Rattle.form.specs.Walks.{Walk, End, Stop, walk_of, walk_by, walk_told, up, Told, Passed}
use Rattle.std.specs.Prelude.{Ok}
use Rattle.form.proofs.Whole.{levelled, told_passed, whole_ended, whole_left, whole_fault}
use Rattle.form.proofs.Options.{none_some, some_same}
use Rattle.form.proofs.Runs.{RunInv, run_start, run_done, named_none, end_is, behind}
use Rattle.form.proofs.Runs as runs
use Rattle.form.proofs.WalkAnswers.{told_part, told_ended, ample}
use Rattle.form.proofs.Loops.{ToldAt, names_none, names_fall, names_fault, names_walk}
use Rattle.form.proofs.ValueLaws.{v_context_is, entries_law, entries_flat}
use Rattle.order.specs.Size.{size_val, size_entries}
use Rattle.types.proofs.Reading.{got_seen}
use Rattle.types.specs.At.{seen}
use Rattle.values.specs.At.{value_at, entries_at}
use Rattle.values.proofs.Reading.{From, value_told, as_context}
use Rattle.values.proofs.EntriesAt.{This, this, none_left, context_val, size_context, size_next, size_none}
use Rattle.paths.specs.Paths.{value_of, entries_of, below, entry_place}
use Rattle.paths.specs.Places.{whole_at}
use Rattle.paths.proofs.Whole.{of_context, front_of}
use Rattle.paths.proofs.PathSearch.{whole_value, entry_inside}
use Rattle.paths.proofs.OneName.{value_first, value_later, value_absent, below_more, below_none, value_empty}
use Rattle.paths.specs.Way.{stays_in, stays_of, stays, no_cut, cut_here, cut_inside, within, cut_at, cut_in, cut_of, Surveyed}
use Rattle.paths.specs.declared.way.Cut.{Cut}

-- ---- on trees
-- the cut lies within m bytes
abbrev pub Fitting : ℕ → Cut → Type 0
Fitting m k = (k.base ≤ m) × (k.at ≤ m) × (k.names ≤ m)

pub within_new : (at size level : ℕ) (k : Cut) → k.names ≡ 0 → cut_here at (name_width + size) level ≡ within at size level k
unfolding within
within_new at size level k e = ap (λ q. cond q (cut_here at (name_width + size) level) (cut_inside at k)) (sym (eq-eqb k.names 0 e))

pub within_old : (at size level : ℕ) (k : Cut) → (k.names ≡ 0 → ⊥) → cut_inside at k ≡ within at size level k
unfolding within
within_old at size level k d = ap (λ q. cond q (cut_here at (name_width + size) level) (cut_inside at k)) (sym (ne_eqb k.names 0 d))

within_small : (at size level m : ℕ) (k : Cut) → Fitting size k → at + name_width + size ≤ m → Fitting m (within at size level k)
unfolding within
within_small at size level m k f h = go (eqb k.names 0)
  where
    go : (q : Bool) → Fitting m (cond q (cut_here at (name_width + size) level) (cut_inside at k))
    go true = (omega arith, omega arith, omega arith)
    go false = (omega (arith, f.0), omega (arith, f.1), omega (arith, f.2))

below_size : (n : ℕ) (es : Entries) → size_entries (below n es) ≤ size_entries es
unfolding below
below_size n no_entries = omega arith
below_size n (entry m v es) = go (below_size n es) (ltb m n)
  where
    go : size_entries (below n es) ≤ size_entries es → (q : Bool) → size_entries (cond q (entry m v (below n es)) no_entries) ≤ size_entries (entry m v es)
    go ih true = omega (arith, size_next m v es, size_next m v (below n es))
    go ih false = omega (arith, size_none)

-- the cut lies within the value
pub cut_small : (p : List ℕ) (v : Val) → Fitting (size_val v) (cut_of p v)
unfolding cut_of
cut_small [] v = (omega arith, omega arith, omega arith)
cut_small (n ∷ p) v = go (λ x. cut_small p x) (entries_of v) refl
  where
    go : ((x : Val) → Fitting (size_val x) (cut_of p x)) → (o : Option Entries) → entries_of v ≡ o → Fitting (size_val v) (cut_in n (cut_of p) o)
    go ih none e = (omega arith, omega arith, omega arith)
    go ih (some es) e = there (value_of n es) refl
      where
        whole : size_val v ≡ 3 + size_entries es
        whole = ap size_val (of_context v es e) ∙ size_context es

        there : (o : Option Val) → value_of n es ≡ o → Fitting (size_val v) (cut_at (entry_place n es) (cut_of p) o)
        there none q = (omega arith, omega (arith, whole, below_size n es), omega (arith, whole))
        there (some x) q = within_small (entry_place n es) (size_val x) (level_v x) (size_val v) (cut_of p x) (ih x) (omega (arith, whole, entry_inside n es x q))

-- what stays of the entries
stays_none : (n : ℕ) (left : Val → ℕ) → stays_in n left no_entries ≡ 0
unfolding stays_in
stays_none n left = refl

stays_this : (n m : ℕ) (left : Val → ℕ) (v : Val) (es : Entries) → n ≡ m → stays_in n left (entry m v es) ≡ max (left v) (stays_in n left es)
unfolding stays_in
stays_this n m left v es e = ap (λ q. max (cond q (left v) (level_v v)) (stays_in n left es)) (eq-eqb n m e)

stays_other : (n m : ℕ) (left : Val → ℕ) (v : Val) (es : Entries) → (n ≡ m → ⊥) → stays_in n left (entry m v es) ≡ max (level_v v) (stays_in n left es)
unfolding stays_in
stays_other n m left v es d = ap (λ q. max (cond q (left v) (level_v v)) (stays_in n left es)) (ne_eqb n m d)

-- it is no deeper
no_deeper : (n : ℕ) (f : Val → ℕ) → ((v : Val) → f v ≤ level_v v) → (es : Entries) → stays_in n f es ≤ level_entries es
unfolding stays_in level_entries
no_deeper n f h no_entries = omega arith
no_deeper n f h (entry m v es) = by (no_deeper n f h es) (eqb n m)
  where
    by : stays_in n f es ≤ level_entries es → (q : Bool) → max (cond q (f v) (level_v v)) (stays_in n f es) ≤ max (level_v v) (level_entries es)
    by ih true = omega (arith, h v)
    by ih false = omega arith

pub stays_level : (p : List ℕ) (v : Val) → stays p v ≤ level_v v
unfolding stays level_v
stays_level [] v = omega arith
stays_level (n ∷ p) v = by (λ w. stays_level p w) (entries_of v) refl
  where
    by : ((w : Val) → stays p w ≤ level_v w) → (o : Option Entries) → entries_of v ≡ o → stays_of n (stays p) o ≤ level_v v
    by ih none e = omega arith
    by ih (some es) e = omega (arith, ap level_v (of_context v es e), no_deeper n (stays p) ih es)

-- the first name of a path, and the part behind it
pub path_parts : (p : List ℕ) (name : ℕ) → 0 < length p → name ≡ get_or p 0 0 → p ≡ name ∷ behind 1 p
path_parts [] name h e = absurd (omega arith)
path_parts (n ∷ p) name h e = ap₂ ◌∷◌ (sym e) (sym (runs.rest (n ∷ p) 1))

-- ---- what is told of the value that was read
pub surveyed : (p : List ℕ) (o : Option Val) (rest : ℕ) (k : Cut) → ((v : Val) → o ≡ some v → (rest ≡ stays p v) × (k ≡ cut_of p v)) → Surveyed p o rest k
unfolding Surveyed
surveyed p none rest k f = tt
surveyed p (some v) rest k f = f v refl

pub surveyed_is : (p : List ℕ) (o : Option Val) (rest : ℕ) (k : Cut) (v : Val) → o ≡ some v → Surveyed p o rest k → (rest ≡ stays p v) × (k ≡ cut_of p v)
unfolding Surveyed
surveyed_is p o rest k v e h = rw e at h

abbrev pub Answer : ℕ → List ℕ → List ℕ → ℕ → ℕ → ℕ → Cut → Type 0
Answer l s p r t rest k = Told (walk_of level_v (read_v l s)) (length s) r t × Surveyed p (value_at l s) rest k

-- a fault: nothing was read
fault_none : (l : ℕ) (s : List ℕ) (n r t : ℕ) → Told (walk_of level_v (read_v l s)) n r t → r ≡ 0 → (v : Val) → value_at l s ≡ some v → ⊥
unfolding value_at walk_of seen
fault_none l s n r t h z v e = go (read_v l s) refl h
  where
    go : (g : Got Val) → read_v l s ≡ g → Told (walk_of level_v g) n r t → ⊥
    go (got x m) q w = omega (arith, w.size, w.inside)
    go (bad f) q w = none_some (sym (ap seen q) ∙ e)

pub fault_answer : (l : ℕ) (s p : List ℕ) (r t rest : ℕ) (k : Cut) → Told (walk_of level_v (read_v l s)) (length s) r t → r ≡ 0 → Answer l s p r t rest k
fault_answer l s p r t rest k h z = (h, surveyed p (value_at l s) rest k (λ v e. absurd (fault_none l s (length s) r t h z v e)))

-- a value that is not gone into: there is no name, or no context
flat_is : (p : List ℕ) (v : Val) → ((length p ≡ 0 → ⊥) → entries_of v ≡ none) → (0 ≡ stays p v) × (no_cut ≡ cut_of p v)
unfolding stays cut_of
flat_is [] v h = (refl, refl)
flat_is (n ∷ p) v h = let e = h (λ z. omega arith) in (ap (stays_of n (stays p)) (sym e), ap (cut_in n (cut_of p)) (sym e))

pub flat_answer : (l : ℕ) (s p : List ℕ) (r t rest : ℕ) (k : Cut) → Told (walk_of level_v (read_v l s)) (length s) r t → (rest ≡ 0) × (k ≡ no_cut)
    → ((length p ≡ 0 → ⊥) → 3 ≤ length s → 0 < l → get_or s 0 0 ≡ 11 → ⊥) → Answer l s p r t rest k
flat_answer l s p r t rest k h z d = (h, surveyed p (value_at l s) rest k (λ v e. let f = flat_is p v (λ some_name. other v e some_name) in (z.0 ∙ f.0, z.1 ∙ f.1)))
  where
    other : (v : Val) → value_at l s ≡ some v → (length p ≡ 0 → ⊥) → entries_of v ≡ none
    other v e some_name = go (entries_of v) refl
      where
        go : (o : Option Entries) → entries_of v ≡ o → entries_of v ≡ none
        go none q = q
        go (some es) q = let F = front_of l s v es e q in absurd (d some_name F.three F.level F.command)

-- ---- the value of an entry, as its walk told
pub record Child (l : ℕ) (s : List ℕ) (a r t : ℕ) : Type 0 where
  pub x : Val
  pub read : value_at l (drop a s) ≡ some x
  pub size : r ≡ size_val x
  pub level : t ≡ level_v x
  pub fits : r ≤ length s - a
  pub low : t ≤ r

pub child : (l : ℕ) (s : List ℕ) (a r t : ℕ) → ToldAt level_v (read_v l) s a r t → (r ≡ 0 → ⊥) → Child l s a r t
unfolding value_at walk_of
child l s a r t h z = go (read_v l (drop a s)) refl (told_part (λ (x : List ℕ). walk_of level_v (read_v l x)) s a r t h)
  where
    go : (g : Got Val) → read_v l (drop a s) ≡ g → Told (walk_of level_v g) (length s - a) r t → Child l s a r t
    go (got x n) e w =
        record {
          x = x;
          read = got_seen (read_v l (drop a s)) x n e;
          size = w.size ∙ (value_told l (drop a s) x n e).sized;
          level = w.told;
          fits = omega (arith, w.size, w.inside);
          low = omega (arith, w.size, w.told, w.inside);
        }
    go (bad f) e w = absurd (z w.size)

module _ {l : ℕ} {s : List ℕ} {a r t : ℕ} (C : Child l s a r t) (p : List ℕ) (rest : ℕ) (k : Cut) (h : Surveyed p (value_at l (behind a s)) rest k) where
  pub child_is : (rest ≡ stays p C.x) × (k ≡ cut_of p C.x)
  child_is = surveyed_is p (value_at l (behind a s)) rest k C.x (ap (value_at l) (runs.rest s a) ∙ C.read) h

  pub child_cut : Fitting r k
  child_cut = let f = cut_small p C.x in subst (λ z. Fitting z k) (sym C.size) (subst (Fitting (size_val C.x)) (sym child_is.1) f)

  pub child_rest : rest ≤ r
  child_rest = omega (arith, child_is.0, stays_level p C.x, C.level, C.low)

-- ---- the loop over the entries
-- the name's entry is still ahead, if it is there; or it was passed, and the cut is known
pub data Cutting (name : ℕ) (under : Val → Cut) (es more : Entries) (at least : ℕ) (cut : Cut) : Type 0 where
  ahead : least ≤ name → cut ≡ cut_here at 0 0 → value_of name es ≡ value_of name more → entry_place name es ≡ at + size_entries (below name more) → Cutting name under es more at least cut
  passed : name < least → cut ≡ cut_at (entry_place name es) under (value_of name es) → Cutting name under es more at least cut

-- none of the entries is below the name
none_below : (name m : ℕ) (x : Val) (after more : Entries) → more ≡ entry m x after → name ≤ m → size_entries (below name more) ≡ 0
none_below name m x after more is b = ap (λ z. size_entries (below name z)) is ∙ ap size_entries (below_none name m x after b) ∙ size_none

-- a turn past the entry of m
module _ {name : ℕ} {under : Val → Cut} {es more : Entries} {at least : ℕ} {cut : Cut} (m : ℕ) (x : Val) (after : Entries) (is : more ≡ entry m x after) (above : least ≤ m) where
  cut_this : Cutting name under es more at least cut → name ≡ m → (to : ℕ) (k : Cut) → k ≡ within at (size_val x) (level_v x) (under x) → Cutting name under es after to (m + 1) k
  cut_this (ahead b c v p) e to k z =
      let j : entry_place name es ≡ at = omega (arith, p, none_below name m x after more is (omega arith)) in
      let w : value_of name es ≡ some x = v ∙ ap (value_of name) (is ∙ ap (λ j. entry j x after) (sym e)) ∙ value_first name x after in
      passed (omega arith) (z ∙ ap₂ (λ (j : ℕ) o. cut_at j under o) (sym j) (sym w))
  cut_this (passed b c) e to k z = absurd (omega arith)

  cut_before : Cutting name under es more at least cut → m < name → (to : ℕ) (k : Cut) → to ≡ at + name_width + size_val x → k ≡ cut_here to 0 0 → Cutting name under es after to (m + 1) k
  cut_before (ahead b c v p) h to k e z =
      ahead (omega arith) z (v ∙ ap (value_of name) is ∙ value_later name m x after (λ j. omega arith))
      (omega (arith, e, p, ap (λ y. size_entries (below name y)) is ∙ ap size_entries (below_more name m x after h) ∙ size_next m x (below name after)))
  cut_before (passed b c) h to k e z = absurd (omega arith)

  cut_behind : Cutting name under es more at least cut → name < m → From (suc m) after → (to : ℕ) → Cutting name under es after to (m + 1) cut
  cut_behind (ahead b c v p) h f to =
      let j : entry_place name es ≡ at = omega (arith, p, none_below name m x after more is (omega arith)) in
      let w : value_of name es ≡ none = v ∙ ap (value_of name) is ∙ value_later name m x after (λ j. omega arith) ∙ value_absent name (suc m) after f (omega arith) in
      passed (omega arith) (c ∙ ap₂ (λ (j : ℕ) o. cut_at j under o) (sym j) (sym w))
  cut_behind (passed b c) h f to = passed (omega arith) c

-- no entry is left
cut_end : {name : ℕ} {under : Val → Cut} {es more : Entries} {at least : ℕ} {cut : Cut} → more ≡ no_entries → Cutting name under es more at least cut
    → cut ≡ cut_at (entry_place name es) under (value_of name es)
unfolding below
cut_end {name} {under} {es} {at = at} is (ahead b c v p) =
    let w = v ∙ ap (value_of name) is ∙ value_empty name in
    let q : entry_place name es ≡ at = omega (arith, p, ap (λ y. size_entries (below name y)) is, size_none) in
    c ∙ ap₂ (λ (j : ℕ) o. cut_at j under o) (sym q) (sym w)
cut_end is (passed b c) = c

-- what is left of the entries, where all were read
pub record Left (l : ℕ) (s : List ℕ) (n name : ℕ) (p : List ℕ) (es : Entries) (at rest least i : ℕ) (cut : Cut) : Type 0 where
  pub more : Entries
  pub read : entries_at (l - 1) (n - i) least (drop at s) ≡ some more
  pub stay : max rest (stays_in name (stays p) more) ≡ stays_in name (stays p) es
  pub cuts : Cutting name (cut_of p) es more at least cut

pub record Along (l : ℕ) (s : List ℕ) (n name : ℕ) (p : List ℕ) (at deep rest least i : ℕ) (cut : Cut) : Type 0 where
  pub is : walk_of level_v (read_v l s) ≡ up 0 (walk_by level_entries 3 0 (read_entries (read_v (l - 1)) n 0 (drop 3 s)))
  pub context : (v : Val) → value_at l s ≡ some v → (es : Entries) × (v ≡ v_context es) × (entries_at (l - 1) n 0 (drop 3 s) ≡ some es)
  pub run : RunInv level_entries (walk_by level_entries 3 0 (read_entries (read_v (l - 1)) n 0 (drop 3 s))) (λ (j : ℕ). read_named no_entries entry ascending (read_v (l - 1)) j least) s n at deep i
  pub shallow : deep + 3 ≤ at
  pub low : rest + 3 ≤ at
  pub left : (es : Entries) → entries_at (l - 1) n 0 (drop 3 s) ≡ some es → Left l s n name p es at rest least i cut

-- three bytes in front of a run
up_three : (g : Got Entries) → up 3 (walk_by level_entries 0 0 g) ≡ up 0 (walk_by level_entries 3 0 g)
unfolding walk_by
up_three (got es n) = end_is (omega arith) refl
up_three (bad f) = refl

pub along_start : (l : ℕ) (s : List ℕ) (n name : ℕ) (p : List ℕ) (cut : Cut) → 3 ≤ length s → 0 < l → get_or s 0 0 ≡ 11 → n ≡ num_at 2 1 s → cut ≡ cut_here 3 0 0 → Along l s n name p 3 0 0 0 0 cut
unfolding kind_of operands operands_v
along_start l s n name p cut h k c e z =
    let w = ample s 11 2 (of_value k_context) c refl refl (omega arith) in
    let entries = read_entries (read_v (l - 1)) n 0 (drop 3 s) in
    let zero : n - 0 ≡ n = omega arith in
    record {
      is = v_context_is l s (omega arith) k w.1 n e w.0 ∙ up_three entries;
      context = λ v q. let K = context_val (as_context l s v q c) in (K.es, K.is, ap (λ (j : ℕ). entries_at (l - 1) j 0 (drop 3 s)) e ∙ K.entries);
      run = run_start level_entries (λ (j : ℕ). read_named no_entries entry ascending (read_v (l - 1)) j 0) s n 3 0 h (omega arith);
      shallow = omega arith;
      low = omega arith;
      left = λ es q. record {
        more = es;
        read = ap (λ (j : ℕ). entries_at (l - 1) j 0 (drop 3 s)) zero ∙ q;
        stay = omega arith;
        cuts = ahead (omega arith) z refl refl;
      };
    }

module _ {l : ℕ} {s : List ℕ} {n name : ℕ} {p : List ℕ} {at deep rest least i : ℕ} {cut : Cut} (W : Along l s n name p at deep rest least i cut) where
  stopped : (path : List ℕ) (r t rest' : ℕ) (k : Cut) → Told (up 0 (walk_by level_entries 3 0 (read_entries (read_v (l - 1)) n 0 (drop 3 s)))) (length s) r t → r ≡ 0 → Answer l s path r t rest' k
  stopped path r t rest' k h z = fault_answer l s path r t rest' k (subst (λ w. Told w (length s) r t) (sym W.is) h) z

  -- no name is there
  pub along_none : (path : List ℕ) (r t rest' : ℕ) (k : Cut) → i < n → length s - at < name_width → (r ≡ 0) × (t ≡ 1) → Answer l s path r t rest' k
  along_none path r t rest' k q h e =
      stopped path r t rest' k (names_none level_v level_entries no_entries entry ascending entries_law entries_flat (read_v (l - 1)) least W.run 0 (length s) r t q h e.0 e.1) e.0

  -- all entries were read
  pub along_end : (path : List ℕ) (r t rest' : ℕ) → path ≡ name ∷ p → n ≤ i → r ≡ at → t ≡ deep + 1 → rest' ≡ rest + 1 → Answer l s path r t rest' cut
  unfolding stays cut_of
  along_end path r t rest' e q er et ez =
      let done = run_done W.run no_entries entries_flat (named_none level_v level_entries no_entries entry ascending entries_law (read_v (l - 1)) least) q in
      let R = W.run in (
        told_ended (W.is ∙ sym (ap (up 0) done)) (omega (arith, W.shallow)) (omega (arith, R.inside)) (omega (arith, W.shallow)) (omega (arith, er)) et,
        surveyed path (value_at l s) rest' cut (λ v z. there v (W.context v z)),
      )
    where
      there : (v : Val) → (es : Entries) × (v ≡ v_context es) × (entries_at (l - 1) n 0 (drop 3 s) ≡ some es) → (rest' ≡ stays path v) × (cut ≡ cut_of path v)
      there v (es, c, z) =
          let L = W.left es z in
          let none_is = none_left (l - 1) i n at least s L.more q L.read in
          let r : rest ≡ stays_in name (stays p) es = omega (arith, L.stay, ap (stays_in name (stays p)) none_is ∙ stays_none name (stays p)) in (
            omega (arith, ez, r, ap₂ stays e c),
            cut_end none_is L.cuts ∙ sym (ap₂ cut_of e c),
          )

  module _ (q : i < n) (two : name_width ≤ length s - at) {x : ℕ} (ex : x ≡ num_at name_width at s) where
    -- the names fall
    pub along_fall : (path : List ℕ) (r t rest' : ℕ) (k : Cut) → x < least → (r ≡ 0) × (t ≡ 2) → Answer l s path r t rest' k
    along_fall path r t rest' k h e =
        stopped path r t rest' k
        (names_fall level_v level_entries no_entries entry ascending entries_law entries_flat (read_v (l - 1)) least W.run x ex two q 0 (length s) r t h e.0 e.1) e.0

    module _ (above : least ≤ x) {r t : ℕ} (told : ToldAt level_v (read_v (l - 1)) s (at + name_width) r t) where
      -- the entry's value is at fault
      pub along_fault : (path : List ℕ) (r' t' rest' : ℕ) (k : Cut) → r ≡ 0 → (r' ≡ 0) × (t' ≡ t) → Answer l s path r' t' rest' k
      along_fault path r' t' rest' k z e =
          stopped path r' t' rest' k
          (rw (e.0, e.1) (names_fault level_v level_entries no_entries entry ascending entries_law entries_flat (read_v (l - 1)) least W.run x ex two q above r t 0 (length s) told z)) e.0

      module _ (some_bytes : r ≡ 0 → ⊥) where
        abbrev C : Child (l - 1) s (at + name_width) r t
        C = child (l - 1) s (at + name_width) r t told some_bytes

        -- its cut lies within it
        pub along_cut : (w : ℕ) (k : Cut) → Surveyed p (value_at (l - 1) (behind (at + name_width) s)) w k → Fitting r k
        along_cut w k h = child_cut C p w k h

        on : (d rest' : ℕ) (k : Cut) → d ≡ max deep t → rest' + 3 ≤ at + name_width + r
            → ((es : Entries) → entries_at (l - 1) n 0 (drop 3 s) ≡ some es → Left l s n name p es (at + name_width + r) rest' (x + 1) (i + 1) k)
            → Along l s n name p (at + name_width + r) d rest' (x + 1) (i + 1) k
        on d rest' k e h f =
            record {
              is = W.is;
              context = W.context;
              run = names_walk level_v level_entries no_entries entry ascending entries_law entries_flat (read_v (l - 1)) least W.run x ex two q above r t d told some_bytes e;
              shallow = omega (arith, e, W.shallow, C.low);
              low = h;
              left = f;
            }

        -- the entry in what is left
        module _ (es : Entries) (L : Left l s n name p es at rest least i cut) where
          abbrev A : This (l - 1) (n - (i + 1)) at least s L.more
          A = this (l - 1) i n at least s L.more q L.read

          same : A.x ≡ C.x
          same = some_same (sym A.first ∙ C.read)

          named : A.name ≡ x
          named = A.named ∙ sym ex

          first : L.more ≡ entry x C.x A.more
          first = A.is ∙ ap₂ (λ (j : ℕ) v. entry j v A.more) named same

          after : entries_at (l - 1) (n - (i + 1)) (x + 1) (drop (at + name_width + r) s) ≡ some A.more
          after =
              ap₂ (λ (j k : ℕ). entries_at (l - 1) (n - (i + 1)) j (drop (at + name_width + k) s)) (ap (λ (z : ℕ). z + 1) (sym named) ∙ add-one A.name) (C.size ∙ ap size_val (sym same)) ∙ A.second

          others : From (suc x) A.more
          others = subst (λ (z : ℕ). From (suc z) A.more) named A.asc

          stay-other : (name ≡ x → ⊥) → (rest' : ℕ) → rest' ≡ max rest t → max rest' (stays_in name (stays p) A.more) ≡ stays_in name (stays p) es
          stay-other d rest' e = omega (arith, e, L.stay, ap (stays_in name (stays p)) first ∙ stays_other name x (stays p) C.x A.more d, C.level)

          stay-this : name ≡ x → (w rest' : ℕ) → w ≡ stays p C.x → rest' ≡ max rest w → max rest' (stays_in name (stays p) A.more) ≡ stays_in name (stays p) es
          stay-this d w rest' z e = omega (arith, e, z, L.stay, ap (stays_in name (stays p)) first ∙ stays_this name x (stays p) C.x A.more d)

        -- past the entry of the path's name
        pub along_this : x ≡ name → (w : ℕ) (k : Cut) → Surveyed p (value_at (l - 1) (behind (at + name_width) s)) w k → {d rest' : ℕ} {k' : Cut} → d ≡ max deep t → rest' ≡ max rest w
            → k' ≡ within at r t k → Along l s n name p (at + name_width + r) d rest' (x + 1) (i + 1) k'
        along_this b w k h {d} {rest'} {k'} ed er ek =
            let I = child_is C p w k h in
            on d rest' k' ed (omega (arith, er, W.low, child_rest C p w k h)) (λ es e.
            let L = W.left es e in
            record {
              more = (A es L).more;
              read = after es L;
              stay = stay-this es L (sym b) w rest' I.0 er;
              cuts =
                  cut_this x C.x (A es L).more (first es L) above L.cuts (sym b) (at + name_width + r) k'
                  (ek ∙ ap (within at r t) I.1 ∙ ap₂ (λ (j h : ℕ). within at j h (cut_of p C.x)) C.size C.level);
            })

        -- past the entry of a smaller name
        pub along_before : x < name → {d rest' : ℕ} {k : Cut} → d ≡ max deep t → rest' ≡ max rest t → k ≡ cut_here (at + name_width + r) 0 0
            → Along l s n name p (at + name_width + r) d rest' (x + 1) (i + 1) k
        along_before b {d} {rest'} {k} ed er ek =
            on d rest' k ed (omega (arith, er, W.low, C.low)) (λ es e.
            let L = W.left es e in
            record {
              more = (A es L).more;
              read = after es L;
              stay = stay-other es L (λ z. omega arith) rest' er;
              cuts = cut_before x C.x (A es L).more (first es L) above L.cuts b (at + name_width + r) k (ap (λ (z : ℕ). at + name_width + z) C.size) ek;
            })

        -- past the entry of a larger name
        pub along_behind : name < x → {d rest' : ℕ} {k : Cut} → d ≡ max deep t → rest' ≡ max rest t → k ≡ cut → Along l s n name p (at + name_width + r) d rest' (x + 1) (i + 1) k
        along_behind b {d} {rest'} {k} ed er ek =
            on d rest' k ed (omega (arith, er, W.low, C.low)) (λ es e.
            let L = W.left es e in
            record {
              more = (A es L).more;
              read = after es L;
              stay = stay-other es L (λ z. omega arith) rest' er;
              cuts =
                  subst (Cutting name (cut_of p) es (A es L).more (at + name_width + r) (x + 1)) (sym ek)
                  (cut_behind x C.x (A es L).more (first es L) above L.cuts b (others es L) (at + name_width + r));
            })

-- ---- the whole
-- a value of which all bytes were read is the one at the front
pub whole_surveyed : (l : ℕ) (s p : List ℕ) (rest : ℕ) (k : Cut) → Surveyed p (value_at l s) rest k → Surveyed p (whole_at l s) rest k
whole_surveyed l s p rest k h = surveyed p (whole_at l s) rest k (λ v e. surveyed_is p (value_at l s) rest k v (whole_value l s v e) h)

-- the answer for a whole, by what its walk told
module _ (s : List ℕ) (some : length s ≡ 0 → ⊥) (short : length s ≤ most_bytes) {r t : ℕ} (told : Told (walk_of level_v (read_v value_levels s)) (length s) r t) where
  ended : (r ≡ 0 → ⊥) → Passed (walk_of level_v (read_v value_levels s)) (length s) (Ok (record { size = r; level = t }))
  unfolding walk_told
  ended z = told_passed (walk_of level_v (read_v value_levels s)) (length s) r t (Ok (record { size = r; level = t })) told (rw (ne_eqb r 0 z))

  pub read_ended : r ≡ length s → done t ≡ check_value s
  unfolding check_value
  read_ended e = whole_ended level_v value_refusals (read_v value_levels) s some short (record { size = r; level = t }) (ended (λ z. some (sym e ∙ z))) e

  pub read_left : (r ≡ 0 → ⊥) → (r ≡ length s → ⊥) → refused 5 ≡ check_value s
  unfolding check_value
  read_left z d = whole_left level_v value_refusals (read_v value_levels) s some short (record { size = r; level = t }) (ended z) d

  pub read_fault : r ≡ 0 → refused (1 + t) ≡ check_value s
  unfolding check_value
  read_fault z = go (walk_of level_v (read_v value_levels s)) refl told
    where
      go : (w : Walk) → walk_of level_v (read_v value_levels s) ≡ w → Told w (length s) r t → refused (1 + t) ≡ levelled level_v (read_value s)
      go (End n l) e h = absurd (omega (arith, h.size, h.inside))
      go (Stop f) e h =
          ap (λ (k : ℕ). refused (1 + k)) h.told
          ∙ whole_fault level_v value_refusals (read_v value_levels) s some short f (record { answer = sym e; inside = rw e tt })
