-- An entry inserted and an entry removed, between those below and those above it.
-- Index: `insert_split`, `remove_split`, `text_insert`, `text_remove` (between the entries below and above); `count_new`, `count_same`, `count_less` (how many).
-- Assumes nothing.
use Prim.Native.Nat.{ℕ, ◌+◌, ◌<◌}
use native.Mathlib.Omega.{arith}
use mathlib.Core.Path.{◌≡◌, refl, sym, ap, ap₂, ◌∙◌}
use mathlib.Core.Bool.{Bool, true, false, cond}
use mathlib.Core.Option.{none, some}
use mathlib.Core.List.{List, ◌∷◌, ◌++◌}
use lib.Dec.{eqb, ltb}
use borrow.Author.Tests.{lt-ltb, le-ltb, eqb-true, eqb-false, ltb-true, ltb-false}
use Rattle.form.specs.Limits.{name_width}
use Rattle.form.specs.Trees.{Val, v_context, Entries, no_entries, entry}
use Rattle.form.specs.Form.{bytes, count_entries, enc_v, enc_entries, WfEntries}
use Rattle.paths.specs.Paths.{value_of, below, above}
use Rattle.paths.proofs.SplitContext.{joined, enc_joined, count_joined, split_some, split_none}
use Rattle.updates.specs.Update.{insert, remove}

-- ---- an entry inserted, between those below and those above
all_above : (n k : ℕ) (es : Entries) → WfEntries es k → n < k → (below n es ≡ no_entries) × (above n es ≡ es)
unfolding WfEntries below above
all_above n k no_entries w h = (refl, refl)
all_above n k (entry m v es) w h =
    (ap (λ q. cond q (entry m v (below n es)) no_entries) (le-ltb m n (omega (arith, w.0))), ap (λ q. cond q (entry m v es) (above n es)) (lt-ltb n m (omega (arith, w.0))))

pub insert_split : (n : ℕ) (x : Val) (es : Entries) (k : ℕ) → WfEntries es k → insert n x es ≡ joined (below n es) (entry n x (above n es))
unfolding WfEntries insert below above joined
insert_split n x no_entries k w = refl
insert_split n x (entry m v es) k w = by (insert_split n x es (m + 1) w.1.1.1) (eqb n m) refl (ltb n m) refl (ltb m n) refl
  where
    by : insert n x es ≡ joined (below n es) (entry n x (above n es)) → (q : Bool) → eqb n m ≡ q → (r : Bool) → ltb n m ≡ r → (t : Bool) → ltb m n ≡ t
        → cond q (entry n x es) (cond r (entry n x (entry m v es)) (entry m v (insert n x es))) ≡ joined (cond t (entry m v (below n es)) no_entries) (entry n x (cond r (entry m v es) (above n es)))
    by ih true e r f true g = absurd (let a = eqb-true n m e in let b = ltb-true m n g in omega arith)
    by ih true e true f false g = absurd (let a = eqb-true n m e in let b = ltb-true n m f in omega arith)
    by ih true e false f false g = let a = eqb-true n m e in ap (entry n x) (sym (all_above n (m + 1) es w.1.1.1 (omega arith)).1)
    by ih false e true f true g = absurd (let a = ltb-true n m f in let b = ltb-true m n g in omega arith)
    by ih false e true f false g = refl
    by ih false e false f true g = ap (entry m v) ih
    by ih false e false f false g = absurd (let a = eqb-false n m e in let b = ltb-false n m f in let c = ltb-false m n g in let z : n ≡ m = omega arith in a z)

pub remove_split : (n : ℕ) (es : Entries) (k : ℕ) → WfEntries es k → remove n es ≡ joined (below n es) (above n es)
unfolding WfEntries remove below above joined
remove_split n no_entries k w = refl
remove_split n (entry m v es) k w = by (remove_split n es (m + 1) w.1.1.1) (eqb n m) refl (ltb n m) refl (ltb m n) refl
  where
    by : remove n es ≡ joined (below n es) (above n es) → (q : Bool) → eqb n m ≡ q → (r : Bool) → ltb n m ≡ r → (t : Bool) → ltb m n ≡ t
        → cond q es (entry m v (remove n es)) ≡ joined (cond t (entry m v (below n es)) no_entries) (cond r (entry m v es) (above n es))
    by ih true e r f true g = absurd (let a = eqb-true n m e in let b = ltb-true m n g in omega arith)
    by ih true e true f false g = absurd (let a = eqb-true n m e in let b = ltb-true n m f in omega arith)
    by ih true e false f false g = let a = eqb-true n m e in sym (all_above n (m + 1) es w.1.1.1 (omega arith)).1
    by ih false e true f true g = absurd (let a = ltb-true n m f in let b = ltb-true m n g in omega arith)
    by ih false e true f false g =
        ap (entry m v) (ih ∙ ap₂ joined (all_above n (m + 1) es w.1.1.1 (let a = ltb-true n m f in omega arith)).0
        (all_above n (m + 1) es w.1.1.1 (let a = ltb-true n m f in omega arith)).1)
    by ih false e false f true g = ap (entry m v) ih
    by ih false e false f false g = absurd (let a = eqb-false n m e in let b = ltb-false n m f in let c = ltb-false m n g in let z : n ≡ m = omega arith in a z)

-- ---- how many
module _ (n k : ℕ) (es : Entries) (w : WfEntries es k) where
  pub count_new : (x : Val) → value_of n es ≡ none → count_entries (insert n x es) ≡ count_entries es + 1
  unfolding count_entries
  count_new x e =
      let a = ap count_entries (insert_split n x es k w) ∙ count_joined (below n es) (entry n x (above n es)) in
      let b = ap count_entries (split_none n k es w e) ∙ count_joined (below n es) (above n es) in
      omega (arith, a, b)

  pub count_same : (x v : Val) → value_of n es ≡ some v → count_entries (insert n x es) ≡ count_entries es
  unfolding count_entries
  count_same x v e =
      let a = ap count_entries (insert_split n x es k w) ∙ count_joined (below n es) (entry n x (above n es)) in
      let b = ap count_entries (split_some n k v es w e) ∙ count_joined (below n es) (entry n v (above n es)) in
      omega (arith, a, b)

  pub count_less : (v : Val) → value_of n es ≡ some v → count_entries (remove n es) + 1 ≡ count_entries es
  unfolding count_entries
  count_less v e =
      let a = ap count_entries (remove_split n es k w) ∙ count_joined (below n es) (above n es) in
      let b = ap count_entries (split_some n k v es w e) ∙ count_joined (below n es) (entry n v (above n es)) in
      omega (arith, a, b)

  -- ---- their bytes
  pub text_insert : (x : Val) → enc_v (v_context (insert n x es)) ≡ (0x0B ∷ bytes 2 (count_entries (insert n x es))) ++
      (enc_entries (below n es) ++ (bytes name_width n ++ (enc_v x ++ enc_entries (above n es))))
  unfolding enc_v
  text_insert x =
      ap (λ (z : List ℕ). (0x0B ∷ bytes 2 (count_entries (insert n x es))) ++ z)
      (ap enc_entries (insert_split n x es k w) ∙ enc_joined (below n es) (entry n x (above n es)))

  pub text_remove : enc_v (v_context (remove n es)) ≡ (0x0B ∷ bytes 2 (count_entries (remove n es))) ++ (enc_entries (below n es) ++ enc_entries (above n es))
  unfolding enc_v
  text_remove =
      ap (λ (z : List ℕ). (0x0B ∷ bytes 2 (count_entries (remove n es))) ++ z)
      (ap enc_entries (remove_split n es k w) ∙ enc_joined (below n es) (above n es))
