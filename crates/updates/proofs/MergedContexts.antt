-- Two contexts merged, on trees: entry by entry as the names ascend, the value of every name, and names strictly ascending.
-- Index: `merged_none`, `merged_own`, `merged_both`, `merged_new`, `merged_passed`, `merged_next` (in step); `zip_name`, `overwrite_name` (the value of a name);
-- `well_merged`, `count_merged`.
-- Assumes nothing.
use Prim.Native.Nat.{ℕ, suc, ◌+◌, ◌<◌, ◌≤◌}
use native.Mathlib.Omega.{arith}
use mathlib.Core.Path.{◌≡◌, refl, sym, ap, ap₂, ◌∙◌}
use mathlib.Core.Bool.{Bool, true, false, cond}
use mathlib.Core.Option.{Option, none, some}
use lib.Dec.{eqb, ltb}
use borrow.Author.Tests.{eq-eqb, ne_eqb, lt-ltb, le-ltb, eqb-true, eqb-false}
use Rattle.form.specs.Limits.{name_end}
use Rattle.form.specs.Trees.{Val, Entries, no_entries, entry}
use Rattle.form.specs.Form.{count_entries, WfV, WfEntries}
use Rattle.paths.specs.Paths.{value_of, is_some, contains_entry}
use Rattle.paths.proofs.OneName.{value_first, value_later, value_absent}
use Rattle.paths.proofs.SplitContext.{from_well}
use Rattle.updates.specs.Update.{insert, zip, overwrite}
use Rattle.updates.specs.Writing.{merged}
use Rattle.updates.specs.Laws.{other_or_own, other_if_own}
use Rattle.updates.proofs.InsertedEntries.{value_insert, value_insert_other, well_insert, count_insert}
use Rattle.values.proofs.Reading.{From}
use Rattle.values.proofs.EntriesAt.{wf_lower}

-- ---- the value of a name, by the other's and one's own
abbrev chosen : Bool → Option Val → Option Val → Option Val
chosen true x y = other_or_own x y
chosen false x y = other_if_own x y

chosen_own : (all : Bool) (y : Option Val) → chosen all none y ≡ y
chosen_own true y = refl
chosen_own false y = refl

-- ---- insertion by the place of the name
insert_later : (n m : ℕ) (x v : Val) (es : Entries) → m < n → insert n x (entry m v es) ≡ entry m v (insert n x es)
unfolding insert
insert_later n m x v es h = ap₂ (λ q r. cond q (entry n x es) (cond r (entry n x (entry m v es)) (entry m v (insert n x es)))) (ne_eqb n m (λ e. omega arith)) (le-ltb n m (omega arith))

insert_same : (n : ℕ) (x v : Val) (es : Entries) → insert n x (entry n v es) ≡ entry n x es
unfolding insert
insert_same n x v es = ap (λ q. cond q (entry n x es) (cond (ltb n n) (entry n x (entry n v es)) (entry n v (insert n x es)))) (eq-eqb n n refl)

insert_first : (n : ℕ) (x : Val) (es : Entries) → From (suc n) es → insert n x es ≡ entry n x es
unfolding insert From
insert_first n x no_entries f = refl
insert_first n x (entry m v es) f =
    ap₂ (λ q r. cond q (entry n x es) (cond r (entry n x (entry m v es)) (entry m v (insert n x es)))) (ne_eqb n m (λ e. omega (arith, f.0))) (lt-ltb n m (omega (arith, f.0)))

-- ---- one entry of the other
abbrev pub merged_one : Bool → ℕ → Val → Entries → Entries
merged_one true n x es = insert n x es
merged_one false n x es = cond (contains_entry n es) (insert n x es) es

pub merged_next : (all : Bool) (n : ℕ) (x : Val) (es gs : Entries) → merged all es (entry n x gs) ≡ merged all (merged_one all n x es) gs
unfolding zip overwrite
merged_next true n x es gs = refl
merged_next false n x es gs = refl

one_later : (all : Bool) (n m : ℕ) (x v : Val) (es : Entries) → m < n → merged_one all n x (entry m v es) ≡ entry m v (merged_one all n x es)
one_later true n m x v es h = insert_later n m x v es h
one_later false n m x v es h = ap (λ o. cond (is_some o) (insert n x (entry m v es)) (entry m v es)) (value_later n m v es (λ e. omega arith)) ∙ by (value_of n es)
  where
    by : (o : Option Val) → cond (is_some o) (insert n x (entry m v es)) (entry m v es) ≡ entry m v (cond (is_some o) (insert n x es) es)
    by none = refl
    by (some y) = insert_later n m x v es h

one_same : (all : Bool) (n : ℕ) (x v : Val) (es : Entries) → merged_one all n x (entry n v es) ≡ entry n x es
one_same true n x v es = insert_same n x v es
one_same false n x v es = ap (λ o. cond (is_some o) (insert n x (entry n v es)) (entry n v es)) (value_first n v es) ∙ insert_same n x v es

one_name : (all : Bool) (n : ℕ) (x : Val) (es : Entries) → value_of n (merged_one all n x es) ≡ chosen all (some x) (value_of n es)
one_name true n x es = value_insert n x es
one_name false n x es = by (value_of n es) refl
  where
    by : (o : Option Val) → value_of n es ≡ o → value_of n (cond (is_some o) (insert n x es) es) ≡ other_if_own (some x) o
    by none e = e
    by (some y) e = value_insert n x es

one_other : (all : Bool) (n m : ℕ) (x : Val) (es : Entries) → (n ≡ m → ⊥) → value_of n (merged_one all m x es) ≡ value_of n es
one_other true n m x es d = value_insert_other n m x es d
one_other false n m x es d = by (contains_entry m es)
  where
    by : (q : Bool) → value_of n (cond q (insert m x es) es) ≡ value_of n es
    by true = value_insert_other n m x es d
    by false = refl

one_well : (all : Bool) (n : ℕ) (x : Val) (es : Entries) (k : ℕ) → k ≤ n → n < name_end → WfV x → WfEntries es k → WfEntries (merged_one all n x es) k
one_well true n x es k l b w h = well_insert n x es k l b w h
one_well false n x es k l b w h = by (contains_entry n es)
  where
    by : (q : Bool) → WfEntries (cond q (insert n x es) es) k
    by true = well_insert n x es k l b w h
    by false = h

one_count : (all : Bool) (n : ℕ) (x : Val) (es : Entries) → count_entries (merged_one all n x es) ≤ count_entries es + 1
one_count true n x es = count_insert n x es
one_count false n x es = by (contains_entry n es)
  where
    by : (q : Bool) → count_entries (cond q (insert n x es) es) ≤ count_entries es + 1
    by true = count_insert n x es
    by false = omega arith

-- ---- entry by entry
pub merged_none : (all : Bool) (es : Entries) → merged all es no_entries ≡ es
unfolding zip overwrite
merged_none true es = refl
merged_none false es = refl

-- a name below those of the other
pub merged_own : (all : Bool) (n : ℕ) (v : Val) (es gs : Entries) → From (suc n) gs → merged all (entry n v es) gs ≡ entry n v (merged all es gs)
unfolding From
merged_own all n v es no_entries f = merged_none all (entry n v es) ∙ ap (entry n v) (sym (merged_none all es))
merged_own all n v es (entry m x gs) f =
    merged_next all m x (entry n v es) gs
    ∙ ap (λ z. merged all z gs) (one_later all m n x v es (omega (arith, f.0)))
    ∙ merged_own all n v (merged_one all m x es) gs f.1
    ∙ ap (entry n v) (sym (merged_next all m x es gs))

-- a common name
pub merged_both : (all : Bool) (n : ℕ) (v x : Val) (es gs : Entries) → From (suc n) gs → merged all (entry n v es) (entry n x gs) ≡ entry n x (merged all es gs)
merged_both all n v x es gs f = merged_next all n x (entry n v es) gs ∙ ap (λ z. merged all z gs) (one_same all n x v es) ∙ merged_own all n x es gs f

-- a name of the other below all
pub merged_new : (all : Bool) (n : ℕ) (x : Val) (es gs : Entries) → all ≡ true → From (suc n) es → From (suc n) gs → merged all es (entry n x gs) ≡ entry n x (merged all es gs)
merged_new true n x es gs e f g = merged_next true n x es gs ∙ ap (λ z. merged true z gs) (insert_first n x es f) ∙ merged_own true n x es gs g
merged_new false n x es gs e f g = absurd (let z : ◌≡◌ {A = ℕ} 0 1 = ap (λ q. cond q 1 0) e in omega arith)

pub merged_passed : (all : Bool) (n : ℕ) (x : Val) (es gs : Entries) → all ≡ false → From (suc n) es → merged all es (entry n x gs) ≡ merged all es gs
merged_passed true n x es gs e f = absurd (let z : ◌≡◌ {A = ℕ} 1 0 = ap (λ q. cond q 1 0) e in omega arith)
merged_passed false n x es gs e f = merged_next false n x es gs ∙ ap (λ o. merged false (cond (is_some o) (insert n x es) es) gs) (value_absent n (suc n) es f (omega arith))

-- ---- the value of a name
merged_name : (all : Bool) (n : ℕ) (es gs : Entries) (k : ℕ) → WfEntries gs k → value_of n (merged all es gs) ≡ chosen all (value_of n gs) (value_of n es)
unfolding WfEntries value_of
merged_name all n es no_entries k w = ap (value_of n) (merged_none all es) ∙ sym (chosen_own all (value_of n es))
merged_name all n es (entry m x gs) k w =
    ap (value_of n) (merged_next all m x es gs) ∙ merged_name all n (merged_one all m x es) gs (m + 1) w.1.1.1 ∙ by (eqb n m) refl
  where
    by : (q : Bool) → eqb n m ≡ q → chosen all (value_of n gs) (value_of n (merged_one all m x es)) ≡ chosen all (cond q (some x) (value_of n gs)) (value_of n es)
    by true e =
        let z = eqb-true n m e in
        ap (λ o. chosen all o (value_of n (merged_one all m x es))) (value_absent n (m + 1) gs (from_well gs (m + 1) w.1.1.1) (omega arith))
        ∙ chosen_own all (value_of n (merged_one all m x es))
        ∙ ap (λ (i : ℕ). value_of n (merged_one all i x es)) (sym z)
        ∙ one_name all n x es
    by false e = ap (chosen all (value_of n gs)) (one_other all n m x es (eqb-false n m e))

pub zip_name : (n : ℕ) (es gs : Entries) (k : ℕ) → WfEntries gs k → value_of n (zip es gs) ≡ other_or_own (value_of n gs) (value_of n es)
zip_name n es gs k w = merged_name true n es gs k w

pub overwrite_name : (n : ℕ) (es gs : Entries) (k : ℕ) → WfEntries gs k → value_of n (overwrite es gs) ≡ other_if_own (value_of n gs) (value_of n es)
overwrite_name n es gs k w = merged_name false n es gs k w

-- ---- names strictly ascending, and how many
pub well_merged : (all : Bool) (es gs : Entries) (k : ℕ) → WfEntries es k → WfEntries gs k → WfEntries (merged all es gs) k
unfolding WfEntries
well_merged all es no_entries k v w = rw (merged_none all es) v
well_merged all es (entry m x gs) k v w =
    rw (merged_next all m x es gs)
    (well_merged all (merged_one all m x es) gs k (one_well all m x es k w.0 w.1.0 w.1.1.0 v) (wf_lower gs (m + 1) k (omega (arith, w.0)) w.1.1.1))

pub count_merged : (all : Bool) (es gs : Entries) → count_entries (merged all es gs) ≤ count_entries es + count_entries gs
unfolding count_entries
count_merged all es no_entries = omega (arith, ap count_entries (merged_none all es))
count_merged all es (entry m x gs) = omega (arith, ap count_entries (merged_next all m x es gs), count_merged all (merged_one all m x es) gs, one_count all m x es)
