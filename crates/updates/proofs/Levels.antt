-- The level of an updated context, from that of what stays and that of the value; and of a merged one, with its length: neither is more than its parts give.
-- Index: `created_level`, `updated_level_is`, `updated_deep` (create and apply); `level_updated` (a name of the path adds at most one level);
-- `level_merged`, `size_merged` (zip and overwrite).
-- Assumes nothing.
use Prim.Native.Nat.{ℕ, suc, ◌+◌, ◌<◌, ◌≤◌, max}
use native.Mathlib.Omega.{arith}
use mathlib.Core.Path.{◌≡◌, refl, sym, ap, subst, ◌∙◌}
use mathlib.Core.Bool.{Bool, true, false, cond}
use mathlib.Core.Option.{Option, none, some}
use mathlib.Core.List.{List, [], ◌∷◌}
use lib.ListN.{length}
use lib.Dec.{eqb, ltb}
use borrow.Author.Tests.{eqb-true, ltb-true}
use Rattle.form.specs.Limits.{value_levels}
use Rattle.form.specs.Trees.{Val, v_context, Entries, no_entries, entry}
use Rattle.form.specs.Form.{count_entries, level_v, level_entries, WfV, WfEntries}
use Rattle.order.specs.Size.{size_entries}
use Rattle.paths.specs.Paths.{value_of, entries_of, bind, or_empty, context_under, contains_entry}
use Rattle.paths.specs.Way.{stays_in, stays_of, stays}
use Rattle.paths.proofs.SplitContext.{value_level, value_well}
use Rattle.paths.proofs.Whole.{of_context, given_is}
use Rattle.paths.proofs.Along.{stays_level}
use Rattle.updates.specs.Update.{insert, create}
use Rattle.updates.specs.Writing.{updated, merged}
use Rattle.updates.proofs.InsertedEntries.{absent}
use Rattle.updates.proofs.MergedContexts.{merged_one, merged_next, merged_none}
use Rattle.updates.proofs.Theorems.{apply_create}
use Rattle.values.proofs.EntriesAt.{size_next}
use Rattle.form.proofs.Options.{none_some, some_same}

-- ---- one entry
level_insert : (n : ℕ) (x : Val) (es : Entries) → level_entries (insert n x es) ≤ max (level_v x) (level_entries es)
unfolding level_entries insert
level_insert n x no_entries = omega arith
level_insert n x (entry m v es) = by (level_insert n x es) (eqb n m) (ltb n m)
  where
    by : level_entries (insert n x es) ≤ max (level_v x) (level_entries es) → (q r : Bool)
        → level_entries (cond q (entry n x es) (cond r (entry n x (entry m v es)) (entry m v (insert n x es)))) ≤ max (level_v x) (max (level_v v) (level_entries es))
    by ih true r = omega arith
    by ih false true = omega arith
    by ih false false = omega arith

size_insert : (n : ℕ) (x : Val) (es : Entries) → size_entries (insert n x es) ≤ size_entries (entry n x es)
unfolding insert
size_insert n x no_entries = omega arith
size_insert n x (entry m v es) = by (size_insert n x es) (eqb n m) (ltb n m)
  where
    by : size_entries (insert n x es) ≤ size_entries (entry n x es) → (q r : Bool)
        → size_entries (cond q (entry n x es) (cond r (entry n x (entry m v es)) (entry m v (insert n x es)))) ≤ size_entries (entry n x (entry m v es))
    by ih true r = omega (arith, size_next n x es, size_next n x (entry m v es), size_next m v es)
    by ih false true = omega arith
    by ih false false = omega (arith, size_next n x es, size_next n x (entry m v es), size_next m v es, size_next m v (insert n x es))

-- ---- create_entries and apply_entries: every name of the path adds at most one level to the value's
level_child : (n : ℕ) (es : Entries) → suc (level_entries (or_empty (context_under n es))) ≤ max 1 (level_entries es)
unfolding level_v level_entries
level_child n es = go (context_under n es) refl
  where
    go : (o : Option Entries) → context_under n es ≡ o → suc (level_entries (or_empty o)) ≤ max 1 (level_entries es)
    go none e = omega arith
    go (some fs) e =
        let G = given_is (value_of n es) entries_of fs e in
        let c : G.0 ≡ v_context fs = of_context G.0 fs G.2 in
        omega (arith, ap level_v c, value_level n G.0 es G.1)

level_created : (p : List ℕ) (x : Val) (es : Entries) → suc (level_entries (create p x es)) ≤ max (suc (level_entries es)) (length p + level_v x)
unfolding level_v create
level_created [] x es = omega arith
level_created (n ∷ []) x es = omega (arith, level_insert n x es)
level_created (n ∷ m ∷ ns) x es =
    let fs = or_empty (context_under n es) in
    omega (arith, level_insert n (v_context (create (m ∷ ns) x fs)) es, level_created (m ∷ ns) x fs, level_child n es)

pub level_updated : (strict : Bool) (p : List ℕ) (x : Val) (es fs : Entries) → updated strict p x es ≡ some fs → level_v (v_context fs) ≤ max (level_v (v_context es)) (length p + level_v x)
unfolding level_v
level_updated true p x es fs e = omega (arith, ap level_entries (apply_create p x es fs e), level_created p x es)
level_updated false p x es fs e = omega (arith, ap level_entries (some_same e), level_created p x es)

-- ---- what stays beside a name
-- all of the entries where the name is absent
stays_absent : (n : ℕ) (f : Val → ℕ) (es : Entries) → value_of n es ≡ none → stays_in n f es ≡ level_entries es
unfolding value_of stays_in level_entries
stays_absent n f no_entries e = refl
stays_absent n f (entry m v es) e = by (stays_absent n f es) (eqb n m) e
  where
    by : (value_of n es ≡ none → stays_in n f es ≡ level_entries es) → (q : Bool) → cond q (some v) (value_of n es) ≡ none
        → max (cond q (f v) (level_v v)) (stays_in n f es) ≡ max (level_v v) (level_entries es)
    by ih true h = absurd (none_some (sym h))
    by ih false h = omega (arith, ih h)

-- the other entries, and what stays of its value
stays_found : (n k : ℕ) (f : Val → ℕ) (w : Val) (es : Entries) → WfEntries es k → value_of n es ≡ some w → stays_in n f es ≡ max (f w) (stays_in n (λ _. 0) es)
unfolding WfEntries value_of stays_in
stays_found n k f w no_entries h e = absurd (none_some e)
stays_found n k f w (entry m v es) h e = by (stays_found n (m + 1) f w es h.1.1.1) (eqb n m) refl e
  where
    by : (value_of n es ≡ some w → stays_in n f es ≡ max (f w) (stays_in n (λ _. 0) es)) → (q : Bool) → eqb n m ≡ q → cond q (some v) (value_of n es) ≡ some w
        → max (cond q (f v) (level_v v)) (stays_in n f es) ≡ max (f w) (max (cond q 0 (level_v v)) (stays_in n (λ _. 0) es))
    by ih true p z =
        let a = absent n (m + 1) es h.1.1.1 (omega (arith, eqb-true n m p)) in
        omega (arith, ap f (some_same z), stays_absent n f es a, stays_absent n (λ _. 0) es a)
    by ih false p z = omega (arith, ih z)

-- an entry inserted: its value, and what stays beside its name
inserted_level : (n k : ℕ) (x : Val) (es : Entries) → WfEntries es k → level_entries (insert n x es) ≡ max (level_v x) (stays_in n (λ _. 0) es)
unfolding WfEntries level_entries insert stays_in
inserted_level n k x no_entries w = omega arith
inserted_level n k x (entry m v es) w = by (inserted_level n (m + 1) x es w.1.1.1) (eqb n m) refl (ltb n m) refl
  where
    all : n < m + 1 → stays_in n (λ _. 0) es ≡ level_entries es
    all h = stays_absent n (λ _. 0) es (absent n (m + 1) es w.1.1.1 h)

    by : level_entries (insert n x es) ≡ max (level_v x) (stays_in n (λ _. 0) es) → (q : Bool) → eqb n m ≡ q → (r : Bool) → ltb n m ≡ r
        → level_entries (cond q (entry n x es) (cond r (entry n x (entry m v es)) (entry m v (insert n x es)))) ≡ max (level_v x) (max (cond q 0 (level_v v)) (stays_in n (λ _. 0) es))
    by ih true e r f = omega (arith, all (omega (arith, eqb-true n m e)))
    by ih false e true f = omega (arith, all (omega (arith, ltb-true n m f)))
    by ih false e false f = omega (arith, ih)

-- ---- create_entries and apply_entries: the value below the names of the path, or what stays
-- in every context
abbrev LevelAt : List ℕ → Val → Type 0
LevelAt p x = (es : Entries) → WfV (v_context es) → level_v (v_context (create p x es)) ≡ max (stays p (v_context es)) (length p + level_v x)

level_fresh : (m : ℕ) (ns : List ℕ) (x : Val) → LevelAt (m ∷ ns) x → level_v (v_context (create (m ∷ ns) x no_entries)) ≡ max 1 (length (m ∷ ns) + level_v x)
unfolding WfV count_entries stays stays_in
level_fresh m ns x h = h no_entries (omega arith, tt)

pub created_level : (p : List ℕ) (x : Val) (es : Entries) → WfV (v_context es) → (p ≡ [] → ⊥) → level_v (v_context (create p x es)) ≡ max (stays p (v_context es)) (length p + level_v x)
unfolding level_v create stays WfV
created_level [] x es w d = absurd (d refl)
created_level (n ∷ []) x es w d = let z : stays_in n (stays []) es ≡ stays_in n (λ _. 0) es = refl in omega (arith, z, inserted_level n 0 x es w.1)
created_level (n ∷ m ∷ ns) x es w d = by (value_of n es) refl (λ fs h. created_level (m ∷ ns) x fs h some_name)
  where
    some_name : m ∷ ns ≡ [] → ⊥
    some_name e = let z : ◌≡◌ {A = ℕ} 0 1 = cc in omega arith

    on : (v : Val) → value_of n es ≡ some v → (o : Option Entries) → entries_of v ≡ o → LevelAt (m ∷ ns) x
        → level_v (v_context (insert n (v_context (create (m ∷ ns) x (or_empty o))) es)) ≡ max (stays (n ∷ m ∷ ns) (v_context es)) (suc (suc (length ns)) + level_v x)
    on v e none r ih =
        let s : stays (m ∷ ns) v ≡ 0 = ap (stays_of m (stays ns)) r in
        omega (arith, s, level_fresh m ns x ih, stays_found n 0 (stays (m ∷ ns)) v es w.1 e, inserted_level n 0 (v_context (create (m ∷ ns) x no_entries)) es w.1)
    on v e (some fs) r ih =
        let s : stays (m ∷ ns) v ≡ stays (m ∷ ns) (v_context fs) = ap (stays_of m (stays ns)) r in
        let h : WfV (v_context fs) = subst WfV (of_context v fs r) (value_well n 0 v es w.1 e) in
        omega (arith, s, ih fs h, stays_found n 0 (stays (m ∷ ns)) v es w.1 e, inserted_level n 0 (v_context (create (m ∷ ns) x fs)) es w.1)

    by : (o : Option Val) → value_of n es ≡ o → LevelAt (m ∷ ns) x
        → level_v (v_context (insert n (v_context (create (m ∷ ns) x (or_empty (bind o entries_of)))) es)) ≡ max (stays (n ∷ m ∷ ns) (v_context es)) (suc (suc (length ns)) + level_v x)
    by none e ih =
        omega (
          arith,
          level_fresh m ns x ih,
          stays_absent n (stays (m ∷ ns)) es e,
          stays_absent n (λ _. 0) es e,
          inserted_level n 0 (v_context (create (m ∷ ns) x no_entries)) es w.1,
        )
    by (some v) e ih = on v e (entries_of v) refl ih

pub updated_level_is : (strict : Bool) (p : List ℕ) (x : Val) (es fs : Entries) → WfV (v_context es) → (p ≡ [] → ⊥) → updated strict p x es ≡ some fs
    → level_v (v_context fs) ≡ max (stays p (v_context es)) (length p + level_v x)
updated_level_is true p x es fs w d e = ap (λ z. level_v (v_context z)) (apply_create p x es fs e) ∙ created_level p x es w d
updated_level_is false p x es fs w d e = ap (λ z. level_v (v_context z)) (sym (some_same e)) ∙ created_level p x es w d

-- what stays of a context within level 31 is within it too
pub updated_deep : (strict : Bool) (p : List ℕ) (x : Val) (es fs : Entries) → WfV (v_context es) → level_v (v_context es) ≤ value_levels → (p ≡ [] → ⊥) → updated strict p x es ≡ some fs
    → (value_levels < level_v (v_context fs) → value_levels < length p + level_v x) × (value_levels < length p + level_v x → value_levels < level_v (v_context fs))
updated_deep strict p x es fs w h d e =
    let l = updated_level_is strict p x es fs w d e in
    let s = stays_level p (v_context es) in
    (λ k. omega arith, λ k. omega arith)

-- ---- zip and overwrite
level_one : (all : Bool) (n : ℕ) (x : Val) (es : Entries) → level_entries (merged_one all n x es) ≤ max (level_v x) (level_entries es)
level_one true n x es = level_insert n x es
level_one false n x es = by (contains_entry n es)
  where
    by : (q : Bool) → level_entries (cond q (insert n x es) es) ≤ max (level_v x) (level_entries es)
    by true = level_insert n x es
    by false = omega arith

size_one : (all : Bool) (n : ℕ) (x : Val) (es : Entries) → size_entries (merged_one all n x es) ≤ size_entries (entry n x es)
size_one true n x es = size_insert n x es
size_one false n x es = by (contains_entry n es)
  where
    by : (q : Bool) → size_entries (cond q (insert n x es) es) ≤ size_entries (entry n x es)
    by true = size_insert n x es
    by false = omega (arith, size_next n x es)

entries_merged : (all : Bool) (es gs : Entries) → level_entries (merged all es gs) ≤ max (level_entries es) (level_entries gs)
unfolding level_entries
entries_merged all es no_entries = omega (arith, ap level_entries (merged_none all es))
entries_merged all es (entry m x gs) = omega (arith, ap level_entries (merged_next all m x es gs), entries_merged all (merged_one all m x es) gs, level_one all m x es)

pub level_merged : (all : Bool) (es gs : Entries) → level_v (v_context (merged all es gs)) ≤ max (level_v (v_context es)) (level_v (v_context gs))
unfolding level_v
level_merged all es gs = omega (arith, entries_merged all es gs)

pub size_merged : (all : Bool) (es gs : Entries) → size_entries (merged all es gs) ≤ size_entries es + size_entries gs
size_merged all es no_entries = omega (arith, ap size_entries (merged_none all es))
size_merged all es (entry m x gs) = omega (arith, ap size_entries (merged_next all m x es gs), size_merged all (merged_one all m x es) gs, size_one all m x es, size_next m x es, size_next m x gs)
