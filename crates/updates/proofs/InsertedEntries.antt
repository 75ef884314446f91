-- An entry inserted and an entry removed: the value of every name, and names strictly ascending.
-- Index: `value_insert`, `value_insert_other`, `well_insert`, `count_insert` (inserted); `value_remove`, `value_remove_other`, `remove_absent`, `well_remove` (removed); `absent`.
-- Assumes nothing.
use Prim.Native.Nat.{ℕ, suc, ◌+◌, ◌<◌, ◌≤◌}
use native.Mathlib.Omega.{arith}
use mathlib.Core.Path.{◌≡◌, refl, sym, ap, ◌∙◌}
use mathlib.Core.Bool.{Bool, true, false, cond}
use mathlib.Core.Option.{none, some}
use lib.Dec.{eqb, ltb}
use borrow.Author.Tests.{eq-eqb, ne_eqb, eqb-true, eqb-false, ltb-true, ltb-false}
use Rattle.form.specs.Limits.{name_end}
use Rattle.form.specs.Trees.{Val, Entries, no_entries, entry}
use Rattle.form.specs.Form.{count_entries, WfV, WfEntries}
use Rattle.paths.specs.Paths.{value_of}
use Rattle.paths.proofs.OneName.{value_absent}
use Rattle.paths.proofs.SplitContext.{from_well}
use Rattle.updates.specs.Update.{insert, remove}
use Rattle.values.proofs.EntriesAt.{wf_lower}

-- ---- the value of a name
pub value_insert : (n : ℕ) (x : Val) (es : Entries) → value_of n (insert n x es) ≡ some x
unfolding value_of insert
value_insert n x no_entries = ap (λ q. cond q (some x) none) (eq-eqb n n refl)
value_insert n x (entry m v es) = by (value_insert n x es) (eqb n m) refl (ltb n m)
  where
    by : value_of n (insert n x es) ≡ some x → (q : Bool) → eqb n m ≡ q → (r : Bool) → value_of n (cond q (entry n x es) (cond r (entry n x (entry m v es)) (entry m v (insert n x es)))) ≡ some x
    by ih true e r = ap (λ q. cond q (some x) (value_of n es)) (eq-eqb n n refl)
    by ih false e true = ap (λ q. cond q (some x) (value_of n (entry m v es))) (eq-eqb n n refl)
    by ih false e false = ap (λ q. cond q (some v) (value_of n (insert n x es))) e ∙ ih

pub value_insert_other : (n m : ℕ) (x : Val) (es : Entries) → (n ≡ m → ⊥) → value_of n (insert m x es) ≡ value_of n es
unfolding value_of insert
value_insert_other n m x no_entries d = ap (λ q. cond q (some x) none) (ne_eqb n m d)
value_insert_other n m x (entry k v es) d = by (value_insert_other n m x es d) (eqb m k) refl (ltb m k)
  where
    by : value_of n (insert m x es) ≡ value_of n es → (q : Bool) → eqb m k ≡ q → (r : Bool)
        → value_of n (cond q (entry m x es) (cond r (entry m x (entry k v es)) (entry k v (insert m x es)))) ≡ cond (eqb n k) (some v) (value_of n es)
    by ih true e r =
        let o : n ≡ k → ⊥ = λ z. d (z ∙ sym (eqb-true m k e)) in
        ap (λ q. cond q (some x) (value_of n es)) (ne_eqb n m d) ∙ sym (ap (λ q. cond q (some v) (value_of n es)) (ne_eqb n k o))
    by ih false e true = ap (λ q. cond q (some x) (value_of n (entry k v es))) (ne_eqb n m d)
    by ih false e false = ap (cond (eqb n k) (some v)) ih

-- a name below all
pub absent : (n k : ℕ) (es : Entries) → WfEntries es k → n < k → value_of n es ≡ none
absent n k es w h = value_absent n k es (from_well es k w) h

pub value_remove : (n k : ℕ) (es : Entries) → WfEntries es k → value_of n (remove n es) ≡ none
unfolding WfEntries value_of remove
value_remove n k no_entries w = refl
value_remove n k (entry m v es) w = by (value_remove n (m + 1) es w.1.1.1) (eqb n m) refl
  where
    by : value_of n (remove n es) ≡ none → (q : Bool) → eqb n m ≡ q → value_of n (cond q es (entry m v (remove n es))) ≡ none
    by ih true e = let z = eqb-true n m e in absent n (m + 1) es w.1.1.1 (omega arith)
    by ih false e = ap (λ q. cond q (some v) (value_of n (remove n es))) e ∙ ih

pub value_remove_other : (n m : ℕ) (es : Entries) → (n ≡ m → ⊥) → value_of n (remove m es) ≡ value_of n es
unfolding value_of remove
value_remove_other n m no_entries d = refl
value_remove_other n m (entry k v es) d = by (value_remove_other n m es d) (eqb m k) refl
  where
    by : value_of n (remove m es) ≡ value_of n es → (q : Bool) → eqb m k ≡ q → value_of n (cond q es (entry k v (remove m es))) ≡ cond (eqb n k) (some v) (value_of n es)
    by ih true e = let o : n ≡ k → ⊥ = λ z. d (z ∙ sym (eqb-true m k e)) in sym (ap (λ q. cond q (some v) (value_of n es)) (ne_eqb n k o))
    by ih false e = ap (cond (eqb n k) (some v)) ih

-- a name that is absent
pub remove_absent : (n : ℕ) (es : Entries) → value_of n es ≡ none → remove n es ≡ es
unfolding value_of remove
remove_absent n no_entries e = refl
remove_absent n (entry m v es) e = by (remove_absent n es) (eqb n m) refl
  where
    by : (value_of n es ≡ none → remove n es ≡ es) → (q : Bool) → eqb n m ≡ q → cond q es (entry m v (remove n es)) ≡ entry m v es
    by ih true p = absurd (let z : some v ≡ none = sym (ap (λ q. cond q (some v) (value_of n es)) p) ∙ e in let y : ◌≡◌ {A = ℕ} 0 1 = cc in omega arith)
    by ih false p = ap (entry m v) (ih (sym (ap (λ q. cond q (some v) (value_of n es)) p) ∙ e))

-- ---- names strictly ascending
pub well_insert : (n : ℕ) (x : Val) (es : Entries) (k : ℕ) → k ≤ n → n < name_end → WfV x → WfEntries es k → WfEntries (insert n x es) k
unfolding WfEntries insert
well_insert n x no_entries k l b w h = (l, (b, (w, tt)))
well_insert n x (entry m v es) k l b w h = by (λ z. well_insert n x es (m + 1) z b w h.1.1.1) (eqb n m) refl (ltb n m) refl
  where
    by : (m + 1 ≤ n → WfEntries (insert n x es) (m + 1)) → (q : Bool) → eqb n m ≡ q → (r : Bool) → ltb n m ≡ r
        → WfEntries (cond q (entry n x es) (cond r (entry n x (entry m v es)) (entry m v (insert n x es)))) k
    by ih true e r f = (l, (b, (w, rw (eqb-true n m e) h.1.1.1)))
    by ih false e true f = let z = ltb-true n m f in (l, (b, (w, (omega arith, h.1))))
    by ih false e false f = let z = ltb-false n m f in let y = eqb-false n m e in (h.0, (h.1.0, (h.1.1.0, ih (omega arith))))

pub well_remove : (n : ℕ) (es : Entries) (k : ℕ) → WfEntries es k → WfEntries (remove n es) k
unfolding WfEntries remove
well_remove n no_entries k h = tt
well_remove n (entry m v es) k h = by (well_remove n es (m + 1) h.1.1.1) (eqb n m)
  where
    by : WfEntries (remove n es) (m + 1) → (q : Bool) → WfEntries (cond q es (entry m v (remove n es))) k
    by ih true = wf_lower es (m + 1) k (omega (arith, h.0)) h.1.1.1
    by ih false = (h.0, (h.1.0, (h.1.1.0, ih)))

-- ---- how many
pub count_insert : (n : ℕ) (x : Val) (es : Entries) → count_entries (insert n x es) ≤ count_entries es + 1
unfolding count_entries insert
count_insert n x no_entries = omega arith
count_insert n x (entry m v es) = by (count_insert n x es) (eqb n m) (ltb n m)
  where
    by : count_entries (insert n x es) ≤ count_entries es + 1 → (q r : Bool)
        → count_entries (cond q (entry n x es) (cond r (entry n x (entry m v es)) (entry m v (insert n x es)))) ≤ suc (count_entries es) + 1
    by ih true r = omega arith
    by ih false true = omega arith
    by ih false false = omega arith
