-- The value at a path: where it stands in the bytes; and a whole value, by its first byte.
-- Idea: the value of the first name stands behind its name; the rest of the path is counted on from there.
-- Index: `whole_value`, `whole_context`, `whole_other`, `at_context` (a whole value); `contains_deep_lem`, `entry_inside` (on trees); `Stands`, `stands_one`, `stands_at` (where it stands);
-- `Hit`, `hit_inside`, `hit_start`, `hit_whole`, `Miss` (a name's entry in a context).
-- Assumes nothing.
use Prim.Native.Nat.{ℕ, zero, suc, ◌+◌, ◌-◌, ◌<◌, ◌≤◌}
use native.Mathlib.Omega.{arith}
use mathlib.Core.Path.{◌≡◌, refl, sym, ap, ap₂, subst, ◌∙◌}
use mathlib.Core.Bool.{Bool, true, false, cond}
use mathlib.Core.Option.{Option, none, some}
use mathlib.Core.List.{List, [], ◌∷◌}
use lib.ListN.{length, get_or, take, drop}
use lib.Seq.{take-take, drop-drop}
use lib.Dec.{ltb, eqb}
use borrow.Author.Tests.{eqb-true, ltb-true}
use Rattle.form.specs.Limits.{name_width}
use Rattle.form.specs.Trees.{Val, v_context, Entries, no_entries, entry}
use Rattle.form.specs.Form.{Bytes, enc_v}
use Rattle.form.specs.Read.{read_v}
use Rattle.form.proofs.Exact.{bytes_drop}
use Rattle.form.proofs.Numbers.{bytes_take}
use Rattle.form.proofs.Values.{enc_v_some}
use Rattle.order.specs.Size.{size_val, size_entries}
use Rattle.order.proofs.LeastSize.{length_enc_v}
use Rattle.types.proofs.Reading.{got_seen}
use Rattle.values.specs.At.{value_at}
use Rattle.values.proofs.Reading.{as_context}
use Rattle.paths.specs.Paths.{value_of, below, entries_of, bind, is_some, or_empty, context_under, search, among, contains_deep, entry_place, place}
use Rattle.paths.specs.Places.{whole_at, context_at}
use Rattle.paths.proofs.Whole.{whole_is, of_context, given_is, front_of, Ctx, ctx_of}
use Rattle.paths.proofs.SplitContext.{around_some, part_some, child_whole}
use Rattle.values.proofs.EntriesAt.{context_val, size_next, size_none}
use Rattle.form.proofs.Options.{none_some, some_same}

-- ---- a whole value and its first byte
pub whole_value : (l : ℕ) (s : List ℕ) (v : Val) → whole_at l s ≡ some v → value_at l s ≡ some v
unfolding value_at
whole_value l s v e = got_seen (read_v l s) v (length s) (whole_is l s v e)

pub at_context : (l : ℕ) (s : List ℕ) (v : Val) (es : Entries) → whole_at l s ≡ some v → v ≡ v_context es → context_at l s ≡ some es
unfolding context_at
at_context l s v es e p = ap (λ o. bind o entries_of) (e ∙ ap some p)

pub record WholeContext (l : ℕ) (s : List ℕ) (v : Val) : Type 0 where
  pub es : Entries
  pub is : v ≡ v_context es
  pub read : context_at l s ≡ some es

pub whole_context : (l : ℕ) (s : List ℕ) (v : Val) → whole_at l s ≡ some v → get_or s 0 0 ≡ 11 → WholeContext l s v
whole_context l s v e h =
    let K = context_val (as_context l s v (whole_value l s v e) h) in
    record { es = K.es; is = K.is; read = at_context l s v K.es e K.is }

pub whole_other : (l : ℕ) (s : List ℕ) (v : Val) → whole_at l s ≡ some v → (get_or s 0 0 ≡ 11 → ⊥) → entries_of v ≡ none
whole_other l s v e h = go (entries_of v) refl
  where
    go : (o : Option Entries) → entries_of v ≡ o → entries_of v ≡ none
    go none q = q
    go (some es) q = absurd (h (front_of l s v es (whole_value l s v e) q).command)

-- ---- on trees
pub contains_deep_lem : (p : List ℕ) (es : Entries) → contains_deep p es ≡ is_some (search p es)
unfolding contains_deep search
contains_deep_lem [] es = refl
contains_deep_lem (n ∷ []) es = refl
contains_deep_lem (n ∷ m ∷ ns) es = go (λ fs. contains_deep_lem (m ∷ ns) fs) (context_under n es)
  where
    go : ((fs : Entries) → contains_deep (m ∷ ns) fs ≡ is_some (search (m ∷ ns) fs)) → (o : Option Entries) → among o (λ fs. contains_deep (m ∷ ns) fs) ≡ is_some (bind o (λ fs. search (m ∷ ns) fs))
    go ih none = refl
    go ih (some fs) = ih fs

-- a value ends where its context does, or before
pub entry_inside : (n : ℕ) (es : Entries) (x : Val) → value_of n es ≡ some x → size_entries (below n es) + name_width + size_val x ≤ size_entries es
unfolding value_of below
entry_inside n no_entries x e = absurd (none_some e)
entry_inside n (entry m v es) x e = go (entry_inside n es x) (eqb n m) (ltb m n) refl refl e
  where
    go : (value_of n es ≡ some x → size_entries (below n es) + name_width + size_val x ≤ size_entries es) → (a b : Bool) → eqb n m ≡ a → ltb m n ≡ b → cond a (some v) (value_of n es) ≡ some x
        → size_entries (cond b (entry m v (below n es)) no_entries) + name_width + size_val x ≤ size_entries (entry m v es)
    go ih true true p q h = absurd (omega (arith, eqb-true n m p, ltb-true m n q))
    go ih true false p q h = omega (arith, size_next m v es, size_none, ap size_val (some_same h))
    go ih false true p q h = omega (arith, ih h, size_next m v es, size_next m v (below n es))
    go ih false false p q h = omega (arith, ih h, size_next m v es, size_none)

-- ---- in the bytes
part_in_part : (q m j : ℕ) (t : List ℕ) → q + m ≤ j → take m (drop q (take j t)) ≡ take m (drop q t)
part_in_part zero m j t h = take-take m j t (omega arith)
part_in_part (suc q) m zero t h = absurd (omega arith)
part_in_part (suc q) m (suc j) [] h = refl
part_in_part (suc q) m (suc j) (b ∷ t) h = part_in_part q m j t (omega arith)

-- the bytes of x stand at q
pub record Stands (s : List ℕ) (q : ℕ) (x : Val) : Type 0 where
  pub within : q + size_val x ≤ length s
  pub text : take (size_val x) (drop q s) ≡ enc_v x

stands_in : (s : List ℕ) (k : ℕ) (y : Val) (q : ℕ) (x : Val) → Stands s k y → Stands (take (size_val y) (drop k s)) q x → Stands s (k + q) x
stands_in s k y q x O I =
    let n : q + size_val x ≤ size_val y = omega (arith, I.within, ap length O.text, length_enc_v y) in
    record {
      within = omega (arith, n, O.within);
      text = ap (take (size_val x)) (sym (drop-drop q k s)) ∙ sym (part_in_part q (size_val x) (size_val y) (drop k s) n) ∙ I.text;
    }

pub stands_one : (l n : ℕ) (s : List ℕ) (es : Entries) (x : Val) → Bytes s → Ctx l s es → value_of n es ≡ some x → Stands s (entry_place n es + name_width) x
stands_one l n s es x bs C e = record { within = (around_some l n s es x bs C e).inside; text = part_some l n s es x bs C e }

pub stands_at : (p : List ℕ) (l : ℕ) (s : List ℕ) (es : Entries) (x : Val) → Bytes s → Ctx l s es → search p es ≡ some x → Stands s (place p es) x
unfolding search place
stands_at [] l s es x bs C e = absurd (none_some e)
stands_at (n ∷ []) l s es x bs C e = stands_one l n s es x bs C e
stands_at (n ∷ m ∷ ns) l s es x bs C e = go (λ part fs. stands_at (m ∷ ns) (l - 1) part fs x) (given_is (context_under n es) (λ fs. search (m ∷ ns) fs) x e)
  where
    go : ((part : List ℕ) (fs : Entries) → Bytes part → Ctx (l - 1) part fs → search (m ∷ ns) fs ≡ some x → Stands part (place (m ∷ ns) fs) x)
        → (fs : Entries) × (context_under n es ≡ some fs) × (search (m ∷ ns) fs ≡ some x) → Stands s (entry_place n es + name_width + place (m ∷ ns) (or_empty (context_under n es))) x
    go ih (fs, p, q) = under (given_is (value_of n es) entries_of fs p)
      where
        under : (y : Val) × (value_of n es ≡ some y) × (entries_of y ≡ some fs) → Stands s (entry_place n es + name_width + place (m ∷ ns) (or_empty (context_under n es))) x
        under (y, a, b) =
            let k = entry_place n es + name_width in
            let part = take (size_val y) (drop k s) in
            let C' = ctx_of (l - 1) part fs (at_context (l - 1) part y fs (child_whole l n s es y bs C a) (of_context y fs b)) in
            let I = ih part fs (bytes_take (size_val y) (drop k s) (bytes_drop k s bs)) C' q in
            subst (λ (o : Option Entries). Stands s (k + place (m ∷ ns) (or_empty o)) x) (sym p) (stands_in s k y (place (m ∷ ns) fs) x (stands_one l n s es y bs C a) I)

-- ---- a name that is there, its entry from its place to its end
pub record Hit (l : ℕ) (s : List ℕ) (n from to : ℕ) : Type 0 where
  pub es : Entries
  pub ctx : Ctx l s es
  pub x : Val
  pub value : value_of n es ≡ some x
  pub start : from ≡ entry_place n es
  pub end : to ≡ from + name_width + size_val x

-- a name that is absent, and where it would stand
pub record Miss (l : ℕ) (s : List ℕ) (n at : ℕ) : Type 0 where
  pub es : Entries
  pub ctx : Ctx l s es
  pub value : value_of n es ≡ none
  pub start : at ≡ entry_place n es

module _ {l : ℕ} {s : List ℕ} {n from to : ℕ} (H : Hit l s n from to) (bs : Bytes s) where
  pub hit_inside : to ≤ length s
  hit_inside = omega (arith, H.start, H.end, (stands_one l n s H.es H.x bs H.ctx H.value).within)

  pub hit_start : from + name_width < to
  hit_start = omega (arith, H.end, enc_v_some H.x, length_enc_v H.x)

  -- its bytes
  abbrev part : List ℕ
  part = take (to - (from + name_width)) (drop (from + name_width) s)

  hit_size : to - (from + name_width) ≡ size_val H.x
  hit_size = omega (arith, H.end)

  pub hit_whole : whole_at (l - 1) part ≡ some H.x
  hit_whole = ap₂ (λ (i j : ℕ). whole_at (l - 1) (take i (drop (j + name_width) s))) hit_size H.start ∙ child_whole l n s H.es H.x bs H.ctx H.value
