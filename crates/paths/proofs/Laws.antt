-- The questions on a context beside each other (`lookups`). Each call is one function of the entries that were read, so a law on trees is one on calls.
-- Assumes nothing.
use Prim.Native.Nat.{ℕ, ◌+◌}
use native.Mathlib.Omega.{arith}
use mathlib.Core.Path.{◌≡◌, refl, sym, ap, subst, ◌∙◌}
use mathlib.Core.Bool.{true, false, false≢true}
use mathlib.Core.Option.{Option, none, some}
use mathlib.Core.List.{List, [], ◌∷◌}
use lib.ListN.{take, drop}
use Rattle.form.specs.Limits.{name_width}
use Rattle.form.specs.Trees.{l_boolean, Val, v_leaf, v_context, Entries, no_entries, entry}
use Rattle.form.specs.Form.{num}
use Rattle.form.specs.Outcome.{Outcome, done, ◌>>=◌, ◌>>◌}
use Rattle.form.specs.Layout.{kind_of}
use Rattle.form.specs.Read.{front, and_then, or_else, operand, named, read_named, read_flag, counted, step_value, step_v, read_v, all, read_whole}
use Rattle.order.specs.Size.{size_val, size_entries}
use Rattle.order.proofs.LeastSize.{length_enc_v}
use Rattle.paths.specs.Paths.{value_of, below, entries_of, bind, is_some, is_context, get_first, search, contains_deep, entry_place, place}
use Rattle.paths.specs.Places.{Spot, spot, spot_in}
use Rattle.paths.specs.Calls.{context_of, search_deep_call, get_entry_call, get_first_call, contains_deep_call}
use Rattle.paths.specs.Laws.{twice, StandsAt, Lookups}
use Rattle.paths.proofs.Whole.{of_context}
use Rattle.paths.proofs.OneName.{value_first, below_none}
use Rattle.paths.proofs.PathSearch.{contains_deep_lem, Stands}
use Rattle.paths.proofs.Steps.{search_cut}
use Rattle.paths.proofs.CallContracts.{AllStand, entry_call, stand_deep, stand_entry, stand_first, entry_spot, empty_tree, deep_asked, entry_asked, context_asked, empty_asked}
use Rattle.form.specs.Options.{map}
use Rattle.values.proofs.EntriesAt.{size_none}

-- ---- a call after a call
given_done : {Y : Type 0} (o : Outcome Entries) (es : Entries) (f : Entries → Outcome Y) → o ≡ done es → (do x ← o; f x) ≡ f es
unfolding ◌>>=◌
given_done o es f e = rw e

-- ---- found
context_found : (n : ℕ) (es : Entries) → is_context n es ≡ true → (fs : Entries) × (value_of n es ≡ some (v_context fs))
context_found n es e = go (value_of n es) refl e
  where
    inner : (v : Val) (o : Option Entries) → entries_of v ≡ o → is_some o ≡ true → (fs : Entries) × (v ≡ v_context fs)
    inner v none p h = absurd (false≢true h)
    inner v (some fs) p h = (fs, of_context v fs p)

    go : (o : Option Val) → value_of n es ≡ o → is_some (bind o entries_of) ≡ true → (fs : Entries) × (value_of n es ≡ some (v_context fs))
    go none p h = absurd (false≢true h)
    go (some v) p h = let I = inner v (entries_of v) refl h in (I.0, p ∙ ap some I.1)

found_context : (n : ℕ) (es fs : Entries) → value_of n es ≡ some (v_context fs) → is_context n es ≡ true
found_context n es fs e = ap (λ o. is_some (bind o entries_of)) e

entry_tree : (n : ℕ) (es : Entries) → value_of n es ≡ search (n ∷ []) es
unfolding search
entry_tree n es = refl

-- ---- the first entry
first_tree : (n : ℕ) (v : Val) (es : Entries) → get_first (entry n v es) ≡ value_of n (entry n v es)
first_tree n v es = sym (value_first n v es)

first_place : (n : ℕ) (v : Val) (es : Entries) → 3 + name_width ≡ entry_place n (entry n v es) + name_width
first_place n v es = omega (arith, ap size_entries (below_none n n v es (omega arith)), size_none)

first_call : (c : List ℕ) (n : ℕ) (v : Val) (es : Entries) → context_of c 0 ≡ done (entry n v es) → get_first_call c ≡ get_entry_call c n
first_call c n v es e =
    given_done (context_of c 0) (entry n v es) (λ fs. done (map (spot (3 + name_width)) (get_first fs))) e
    ∙ ap (λ (q : ℕ). done (some (spot q v))) (first_place n v es)
    ∙ ap (λ o. done (map (spot (entry_place n (entry n v es) + name_width)) o)) (first_tree n v es)
    ∙ sym (given_done (context_of c 0) (entry n v es) (λ fs. done (entry_spot n fs)) e)

-- ---- the empty path
nowhere_tree : (es : Entries) → (search [] es ≡ none) × (contains_deep [] es ≡ false)
unfolding search contains_deep
nowhere_tree es = (refl, refl)

nowhere_call : (c : List ℕ) (es : Entries) → context_of c 0 ≡ done es → (search_deep_call c [] ≡ done none) × (contains_deep_call c [] ≡ done false)
nowhere_call c es e = (
  given_done (context_of c 0) es (λ fs. done (spot_in [] fs)) e ∙ ap (λ o. done (map (spot (place [] es)) o)) (nowhere_tree es).0,
  given_done (context_of c 0) es (λ fs. done (contains_deep [] fs)) e ∙ ap done (nowhere_tree es).1,
)

-- ---- where it stands
stands : (c : List ℕ) (o : Outcome (Option Spot)) (q : ℕ) (v : Val) → AllStand c o → o ≡ done (some (spot q v)) → StandsAt c q v
stands c o q v h e =
    let S : Stands c q v = subst (AllStand c) e h in
    record { inside = omega (arith, S.within, length_enc_v v); bytes = ap (λ (k : ℕ). take k (drop q c)) (length_enc_v v) ∙ S.text }

second : search_deep_call twice (2 ∷ []) ≡ done (some (spot 9 (v_leaf (l_boolean true))))
unfolding num kind_of front and_then or_else operand named read_named read_flag counted step_value step_v read_v all read_whole context_of value_of search below place size_val size_entries ◌>>=◌ ◌>>◌
second = refl

pub lookups : Lookups
lookups = record {
  entry_tree = entry_tree;
  entry_call = λ c n. sym (entry_call c n);
  deep_tree = contains_deep_lem;
  deep_call = deep_asked;
  has_tree = λ n es. refl;
  has_call = entry_asked;
  context_found = context_found;
  found_context = found_context;
  context_call = context_asked;
  empty_tree = empty_tree;
  empty_call = empty_asked;
  first_tree = first_tree;
  first_call = first_call;
  first_none = λ c e. given_done (context_of c 0) no_entries (λ fs. done (map (spot (3 + name_width)) (get_first fs))) e;
  nowhere_tree = nowhere_tree;
  nowhere_call = nowhere_call;
  search_cut = search_cut;
  deep_stands = λ c p q v bs e. stands c (search_deep_call c p) q v (stand_deep c p bs) e;
  entry_stands = λ c n q v bs e. stands c (get_entry_call c n) q v (stand_entry c n bs) e;
  first_stands = λ c q v bs e. stands c (get_first_call c) q v (stand_first c bs) e;
  second = second;
}
