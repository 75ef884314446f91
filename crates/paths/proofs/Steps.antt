-- A path and its first name, on trees: what is cut there, and the value that the cut finds.
-- Idea: induction on the path, by the four cases of its first name.
-- Index: `Step`, `step` (the cases); `cut_new`, `cut_ends`, `cut_stuck`, `cut_inside_lem`, `some_names` (what is cut in each); `longer`, `one_further` (lengths);
-- `search_cut` (the value at the path is the one that the cut finds), `cut_entry` (what goes is an entry).
-- Assumes nothing.
use Prim.Native.Nat.{ℕ, suc, ◌+◌, ◌-◌, ◌<◌, ◌≤◌}
use native.Mathlib.Omega.{arith}
use mathlib.Core.Path.{◌≡◌, refl, sym, ap, ap₂, ◌∙◌}
use mathlib.Core.Bool.{Bool, true, false, cond}
use mathlib.Core.Option.{Option, none, some}
use mathlib.Core.List.{List, [], ◌∷◌}
use lib.ListN.{length}
use lib.Dec.{eqb, ltb}
use borrow.Author.Tests.{ne_eqb, lt-ltb, le-ltb, ltb-true, ltb-false}
use Rattle.form.specs.Limits.{name_width}
use Rattle.form.specs.Trees.{Val, v_context, Entries}
use Rattle.form.specs.Form.{enc_v, level_v}
use Rattle.form.specs.Options.{map}
use Rattle.order.specs.Size.{size_val}
use Rattle.order.proofs.LeastSize.{length_enc_v}
use Rattle.paths.specs.Paths.{value_of, entries_of, bind, or_empty, context_under, search, entry_place, place}
use Rattle.paths.specs.Places.{spot, Piece, piece, extent, spot_in}
use Rattle.paths.specs.Way.{no_cut, cut_here, cut_inside, within, cut_at, cut_in, cut_of, part_of}
use Rattle.paths.specs.declared.way.Cut.{Cut}
use Rattle.paths.proofs.Whole.{of_context}

-- ---- the first name of a path: it is new; the path ends with it; its value is no context, which goes; or the path goes on in its value
pub data Step (n : ℕ) (q : List ℕ) (es : Entries) : Type 0 where
  fresh : value_of n es ≡ none → Step n q es
  ends : (v : Val) → value_of n es ≡ some v → q ≡ [] → Step n q es
  stuck : (v : Val) → value_of n es ≡ some v → (q ≡ [] → ⊥) → entries_of v ≡ none → Step n q es
  inside : (fs : Entries) → value_of n es ≡ some (v_context fs) → (q ≡ [] → ⊥) → Step n q es

pub step : (n : ℕ) (q : List ℕ) (es : Entries) → Step n q es
step n q es = by (value_of n es) refl
  where
    on : (v : Val) → value_of n es ≡ some v → (q ≡ [] → ⊥) → (o : Option Entries) → entries_of v ≡ o → Step n q es
    on v e d none f = stuck v e d f
    on v e d (some fs) f = inside fs (e ∙ ap some (of_context v fs f)) d

    there : (v : Val) → value_of n es ≡ some v → (p : List ℕ) → q ≡ p → Step n q es
    there v e [] f = ends v e f
    there v e (m ∷ p) f = on v e (λ g. let z : ◌≡◌ {A = ℕ} 0 1 = cc in omega arith) (entries_of v) refl

    by : (o : Option Val) → value_of n es ≡ o → Step n q es
    by none e = fresh e
    by (some v) e = there v e q refl

-- what is cut
no_cut_lem : (q : List ℕ) (v : Val) → entries_of v ≡ none → cut_of q v ≡ no_cut
unfolding cut_of
no_cut_lem [] v e = refl
no_cut_lem (n ∷ q) v e = ap (cut_in n (cut_of q)) e

module _ (n : ℕ) (q : List ℕ) (es : Entries) where
  pub cut_new : value_of n es ≡ none → cut_of (n ∷ q) (v_context es) ≡ cut_here (entry_place n es) 0 0
  unfolding cut_of
  cut_new e = ap (cut_at (entry_place n es) (cut_of q)) e

  cut_there : (v : Val) → value_of n es ≡ some v → cut_of q v ≡ no_cut → cut_of (n ∷ q) (v_context es) ≡ cut_here (entry_place n es) (name_width + size_val v) (level_v v)
  unfolding cut_of within
  cut_there v e h = ap (cut_at (entry_place n es) (cut_of q)) e ∙ ap (within (entry_place n es) (size_val v) (level_v v)) h

  pub cut_ends : (v : Val) → value_of n es ≡ some v → q ≡ [] → cut_of (n ∷ q) (v_context es) ≡ cut_here (entry_place n es) (name_width + size_val v) (level_v v)
  unfolding cut_of
  cut_ends v e h = cut_there v e (ap (λ (z : List ℕ). cut_of z v) h)

  pub cut_stuck : (v : Val) → value_of n es ≡ some v → entries_of v ≡ none → cut_of (n ∷ q) (v_context es) ≡ cut_here (entry_place n es) (name_width + size_val v) (level_v v)
  cut_stuck v e h = cut_there v e (no_cut_lem q v h)

  pub cut_inside_lem : (v : Val) → value_of n es ≡ some v → 1 ≤ (cut_of q v).names → cut_of (n ∷ q) (v_context es) ≡ cut_inside (entry_place n es) (cut_of q v)
  unfolding cut_of within
  cut_inside_lem v e h =
      let d : (cut_of q v).names ≡ 0 → ⊥ = λ z. omega arith in
      ap (cut_at (entry_place n es) (cut_of q)) e
      ∙ ap (λ b. cond b (cut_here (entry_place n es) (name_width + size_val v) (level_v v)) (cut_inside (entry_place n es) (cut_of q v))) (ne_eqb (cut_of q v).names 0 d)

-- a context is gone into
pub some_names : (q : List ℕ) (es : Entries) → (q ≡ [] → ⊥) → 1 ≤ (cut_of q (v_context es)).names
unfolding cut_of within
some_names [] es d = absurd (d refl)
some_names (n ∷ q) es d = by (value_of n es)
  where
    on : (v : Val) (b : Bool) → 1 ≤ (cond b (cut_here (entry_place n es) (name_width + size_val v) (level_v v)) (cut_inside (entry_place n es) (cut_of q v))).names
    on v true = omega arith
    on v false = omega arith

    by : (o : Option Val) → 1 ≤ (cut_at (entry_place n es) (cut_of q) o).names
    by none = omega arith
    by (some v) = on v (eqb (cut_of q v).names 0)

-- ---- lengths
pub longer : (q : List ℕ) → (q ≡ [] → ⊥) → 1 < suc (length q)
longer [] d = absurd (d refl)
longer (n ∷ q) d = omega arith

pub one_further : (a b : ℕ) → ltb (a + 1) (suc b) ≡ ltb a b
one_further a b = by (ltb a b) refl
  where
    by : (q : Bool) → ltb a b ≡ q → ltb (a + 1) (suc b) ≡ q
    by true e = lt-ltb (a + 1) (suc b) (omega (arith, ltb-true a b e))
    by false e = le-ltb (a + 1) (suc b) (omega (arith, ltb-false a b e))

-- ---- the value at the path
search_absent : (n : ℕ) (ns : List ℕ) (es : Entries) → value_of n es ≡ none → search (n ∷ ns) es ≡ none
unfolding search
search_absent n [] es e = e
search_absent n (m ∷ ms) es e = ap (λ o. bind (bind o entries_of) (search (m ∷ ms))) e

search_more : (n : ℕ) (ns : List ℕ) (es : Entries) → (ns ≡ [] → ⊥) → search (n ∷ ns) es ≡ bind (context_under n es) (search ns)
unfolding search
search_more n [] es h = absurd (h refl)
search_more n (m ∷ ms) es h = refl

place_more : (n : ℕ) (ns : List ℕ) (es : Entries) → (ns ≡ [] → ⊥) → place (n ∷ ns) es ≡ entry_place n es + name_width + place ns (or_empty (context_under n es))
unfolding place
place_more n [] es h = absurd (h refl)
place_more n (m ∷ ms) es h = refl

-- a part that stands j bytes further on
abbrev ahead : ℕ → Piece → Piece
ahead j (piece p n) = piece (j + p) n

abbrev pieces : ℕ → Option Val → Option Piece
pieces q o = map extent (map (spot q) o)

ahead_pieces : (j q : ℕ) (o : Option Val) → pieces (j + q) o ≡ map (ahead j) (pieces q o)
ahead_pieces j q none = refl
ahead_pieces j q (some x) = refl

ahead_part : (names at : ℕ) (k : Cut) → part_of (suc names) (cut_inside at k) ≡ map (ahead (at + name_width)) (part_of names k)
ahead_part names at k = ap (λ b. cond (eqb k.gone 0) none (cond b none (some (piece (at + name_width + k.at + name_width) (k.gone - name_width))))) (one_further k.names names)
    ∙ go (eqb k.gone 0) (ltb k.names names)
  where
    same : at + name_width + k.at + name_width ≡ at + name_width + (k.at + name_width)
    same = omega arith

    go : (a b : Bool) → cond a none (cond b none (some (piece (at + name_width + k.at + name_width) (k.gone - name_width))))
        ≡ map (ahead (at + name_width)) (cond a none (cond b none (some (piece (k.at + name_width) (k.gone - name_width)))))
    go true b = refl
    go false true = refl
    go false false = ap (λ (i : ℕ). some (piece i (k.gone - name_width))) same

-- an entry is there: its value is found where the path ends with it
there_part : (names at size level : ℕ) → part_of names (cut_here at (name_width + size) level) ≡ cond (ltb 1 names) none (some (piece (at + name_width) (name_width + size - name_width)))
there_part names at size level =
    ap (λ b. cond b none (cond (ltb 1 names) none (some (piece (at + name_width) (name_width + size - name_width))))) (ne_eqb (name_width + size) 0 (λ z. omega arith))

pub search_cut : (p : List ℕ) (es : Entries) → map extent (spot_in p es) ≡ part_of (length p) (cut_of p (v_context es))
unfolding search place cut_of
search_cut [] es = refl
search_cut (n ∷ q) es = by (λ fs. search_cut q fs) (step n q es)
  where
    by : ((fs : Entries) → map extent (spot_in q fs) ≡ part_of (length q) (cut_of q (v_context fs))) → Step n q es
        → map extent (spot_in (n ∷ q) es) ≡ part_of (length (n ∷ q)) (cut_of (n ∷ q) (v_context es))
    by ih (fresh e) = ap (pieces (place (n ∷ q) es)) (search_absent n q es e) ∙ sym (ap (part_of (length (n ∷ q))) (cut_new n q es e))
    by ih (ends v e f) =
        let l : length (n ∷ q) ≤ 1 = omega (arith, ap length f) in
        let z : length (enc_v v) ≡ name_width + size_val v - name_width = omega (arith, length_enc_v v) in
        ap (λ (r : List ℕ). map extent (spot_in (n ∷ r) es)) f
        ∙ ap (pieces (entry_place n es + name_width)) e
        ∙ ap (λ (i : ℕ). some (piece (entry_place n es + name_width) i)) z
        ∙ sym
        (ap (part_of (length (n ∷ q))) (cut_ends n q es v e f) ∙ there_part (length (n ∷ q)) (entry_place n es) (size_val v) (level_v v)
        ∙ ap (λ b. cond b none (some (piece (entry_place n es + name_width) (name_width + size_val v - name_width)))) (le-ltb 1 (length (n ∷ q)) l))
    by ih (stuck v e d g) =
        ap (pieces (place (n ∷ q) es)) (search_more n q es d ∙ ap (λ o. bind (bind o entries_of) (search q)) e ∙ ap (λ o. bind o (search q)) g)
        ∙ sym
        (ap (part_of (length (n ∷ q))) (cut_stuck n q es v e g) ∙ there_part (length (n ∷ q)) (entry_place n es) (size_val v) (level_v v)
        ∙ ap (λ b. cond b none (some (piece (entry_place n es + name_width) (name_width + size_val v - name_width)))) (lt-ltb 1 (length (n ∷ q)) (longer q d)))
    by ih (inside fs e d) =
        let c : context_under n es ≡ some fs = ap (λ o. bind o entries_of) e in
        ap₂ pieces (place_more n q es d ∙ ap (λ (o : Option Entries). entry_place n es + name_width + place q (or_empty o)) c) (search_more n q es d ∙ ap (λ o. bind o (search q)) c)
        ∙ ahead_pieces (entry_place n es + name_width) (place q fs) (search q fs)
        ∙ ap (map (ahead (entry_place n es + name_width))) (ih fs)
        ∙ sym (ahead_part (length q) (entry_place n es) (cut_of q (v_context fs)))
        ∙ sym (ap (part_of (length (n ∷ q))) (cut_inside_lem n q es (v_context fs) e (some_names q fs d)))

-- what goes has a name
pub cut_entry : (p : List ℕ) (es : Entries) → ((cut_of p (v_context es)).gone ≡ 0 → ⊥) → name_width ≤ (cut_of p (v_context es)).gone
unfolding cut_of
cut_entry [] es d = absurd (d refl)
cut_entry (n ∷ q) es d = by (λ fs. cut_entry q fs) (step n q es)
  where
    is : (k : Cut) → cut_of (n ∷ q) (v_context es) ≡ k → (cut_of (n ∷ q) (v_context es)).gone ≡ k.gone
    is k e = ap (λ j. j.gone) e

    by : ((fs : Entries) → ((cut_of q (v_context fs)).gone ≡ 0 → ⊥) → name_width ≤ (cut_of q (v_context fs)).gone) → Step n q es → name_width ≤ (cut_of (n ∷ q) (v_context es)).gone
    by ih (fresh e) = absurd (d (is (cut_here (entry_place n es) 0 0) (cut_new n q es e)))
    by ih (ends v e f) = omega (arith, is (cut_here (entry_place n es) (name_width + size_val v) (level_v v)) (cut_ends n q es v e f))
    by ih (stuck v e f g) = omega (arith, is (cut_here (entry_place n es) (name_width + size_val v) (level_v v)) (cut_stuck n q es v e g))
    by ih (inside fs e f) =
        let g = is (cut_inside (entry_place n es) (cut_of q (v_context fs))) (cut_inside_lem n q es (v_context fs) e (some_names q fs f)) in
        omega (arith, g, ih fs (λ z. d (g ∙ z)))
