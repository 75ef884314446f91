-- Retrieval over the type's names gives what retrieval over the value's entries gives. Both ascend: the first entry of a context is taken or left out before all
-- others whichever of the two is walked (`entry_first`), and the rest is induction on the value.
-- Index: `by_names` (values), `entries_by` (entries).
-- Assumes nothing.
use Prim.Native.Nat.{ℕ, suc, ◌+◌, ◌<◌}
use native.Mathlib.Omega.{arith}
use mathlib.Core.Path.{◌≡◌, refl, sym, ap, ap₂, ◌∙◌}
use mathlib.Core.Bool.{Bool, true, false}
use mathlib.Core.Option.{Option, none, some}
use lib.Dec.{eqb, ltb}
use borrow.Author.Tests.{eqb-true, eqb-false, eq-eqb, ne_eqb, ltb-true, ltb-false}
use Rattle.form.specs.Trees.{Ty, leaf, built, list, range, context, function, Fields, no_fields, field, Val, v_leaf, v_range, v_list, v_context, v_function, v_built_in, v_type, v_irrelevant}
use Rattle.form.specs.Trees.{Vals, no_items, item, Entries, no_entries, entry}
use Rattle.form.specs.Form.{WfV, WfVals, WfEntries}
use Rattle.order.specs.Order.{fixed}
use Rattle.order.specs.Ascending.{Asc, AscFields}
use Rattle.order.specs.Types.{lookup}
use Rattle.order.proofs.Conform.{look_below}
use Rattle.retrieval.specs.Retrieve.{by_list, by_context, kept, retrieve, retrieve_items, retrieve_entries}
use Rattle.retrieval.specs.ByNames.{over_names, retrieve_by_names, items_by_names, of_name, entries_by_names}
use Rattle.retrieval.proofs.Theorems.{asc_look}
use Rattle.form.specs.Options.{map, both}
use Rattle.form.proofs.Options.{none_some}

-- a name below all of a value is skipped
name_absent : (es : Entries) (j m : ℕ) (t : Ty) (later : Option Entries) → WfEntries es j → m < j → of_name es m t later ≡ later
unfolding retrieve_by_names WfV
name_absent no_entries j m t later w h = refl
name_absent (entry n v es) j m t later w h = rw (ne_eqb m n (λ e. omega (arith, w.0))) (name_absent es (n + 1) m t later w.1.1.1 (omega (arith, w.0)))

-- of a value without entries all names are skipped
no_names : (fs : Fields) → entries_by_names no_entries fs ≡ some no_entries
unfolding over_names retrieve_by_names
no_names no_fields = refl
no_names (field n t fs) = no_names fs

-- the first entry comes first, retrieved by its name's type, where the type has its name; otherwise it is left out
abbrev First : ℕ → Val → Entries → Fields → Type 0
First n v es fs = entries_by_names (entry n v es) fs ≡ kept (lookup n fs) (λ t. retrieve_by_names v t) n (entries_by_names es fs)

module _ (n : ℕ) (v : Val) (es : Entries) (w : WfEntries es (n + 1)) (m : ℕ) (t : Ty) (fs : Fields) (a : AscFields fs (suc m)) (ih : First n v es fs) where
  later : Option Entries
  later = entries_by_names (entry n v es) fs

  rest : Option Entries
  rest = entries_by_names es fs

  -- another name of the type
  passed : (o : Option Ty) → lookup n fs ≡ o → of_name es m t later ≡ kept o (λ u. retrieve_by_names v u) n (of_name es m t rest)
  unfolding later rest
  passed none e = ap (of_name es m t) (ih ∙ ap (λ p. kept p (λ u. retrieve_by_names v u) n rest) e)
  passed (some u) e = by (ltb n m) refl
    where
      by : (q : Bool) → ltb n m ≡ q → of_name es m t later ≡ both (entry n) (retrieve_by_names v u) (of_name es m t rest)
      by true p = absurd (none_some (sym (look_below fixed fs (suc m) n a (omega (arith, ltb-true n m p))) ∙ e))
      by false p =
          let l = ltb-false n m p in
          name_absent es (n + 1) m t later w (omega arith) ∙ ih
          ∙ ap₂ (λ p r. kept p (λ u. retrieve_by_names v u) n r) e (sym (name_absent es (n + 1) m t rest w (omega arith)))

  -- this name: no later one is n
  here : m ≡ n → both (entry m) (retrieve_by_names v t) later ≡ both (entry n) (retrieve_by_names v t) (of_name es m t rest)
  unfolding later rest
  here p =
      let gone = look_below fixed fs (suc m) n a (omega arith) in
      ap₂ (λ k r. both (entry k) (retrieve_by_names v t) r) p
      (ih ∙ ap (λ o. kept o (λ u. retrieve_by_names v u) n rest) gone ∙ sym (name_absent es (n + 1) m t rest w (omega arith)))

  first_by : (q : Bool) → eqb m n ≡ q → First n v es (field m t fs)
  unfolding over_names retrieve_by_names lookup later rest
  first_by true e = let p = eqb-true m n e in rw (e, eq-eqb n m (sym p)) (here p)
  first_by false e = rw (e, ne_eqb n m (λ z. eqb-false m n e (sym z))) (passed (lookup n fs) refl)

entry_first : (n : ℕ) (v : Val) (es : Entries) → WfEntries es (n + 1) → (fs : Fields) (j : ℕ) → AscFields fs j → First n v es fs
unfolding over_names lookup Asc
entry_first n v es w no_fields j a = refl
entry_first n v es w (field m t fs) j a = first_by n v es w m t fs a.2 (entry_first n v es w fs (suc m) a.2) (eqb m n) refl

list_same : (t : Ty) (vs : Vals) → Asc t → ((u : Ty) → Asc u → items_by_names vs u ≡ retrieve_items vs u)
    → by_list t (v_list vs) (λ u. map v_list (items_by_names vs u)) ≡ by_list t (v_list vs) (λ u. map v_list (retrieve_items vs u))
unfolding Asc
list_same (leaf s) vs a ih = refl
list_same (built (list u)) vs a ih = ap (map v_list) (ih u a)
list_same (built (range u)) vs a ih = refl
list_same (built (context fs)) vs a ih = refl
list_same (built (function ps r)) vs a ih = refl

context_same : (t : Ty) (es : Entries) → Asc t → ((fs : Fields) → AscFields fs 0 → entries_by_names es fs ≡ retrieve_entries es fs)
    → by_context t (v_context es) (λ fs. map v_context (entries_by_names es fs)) ≡ by_context t (v_context es) (λ fs. map v_context (retrieve_entries es fs))
unfolding Asc
context_same (leaf s) es a ih = refl
context_same (built (list u)) es a ih = refl
context_same (built (range u)) es a ih = refl
context_same (built (context fs)) es a ih = ap (map v_context) (ih fs a)
context_same (built (function ps r)) es a ih = refl

kept_same : (n : ℕ) (v : Val) (fs : Fields) (e f : Option Entries) → AscFields fs 0 → ((u : Ty) → Asc u → retrieve_by_names v u ≡ retrieve v u) → e ≡ f
    → (o : Option Ty) → lookup n fs ≡ o → kept o (λ u. retrieve_by_names v u) n e ≡ kept o (λ u. retrieve v u) n f
kept_same n v fs e f a ih p none q = p
kept_same n v fs e f a ih p (some u) q = ap₂ (both (entry n)) (ih u (asc_look fs 0 n u a q)) p

mutual
  unfolding retrieve retrieve_by_names WfV

  pub by_names : (v : Val) (t : Ty) → WfV v → Asc t → retrieve_by_names v t ≡ retrieve v t
  by_names (v_leaf l) t w a = refl
  by_names (v_range i j x y) t w a = refl
  by_names (v_list vs) t w a = list_same t vs a (λ u b. items_by vs u w.1 b)
  by_names (v_context es) t w a = context_same t es a (λ fs b. entries_by es 0 fs w.1 b)
  by_names (v_function ps b r) t w a = refl
  by_names (v_built_in b) t w a = refl
  by_names (v_type x) t w a = refl
  by_names v_irrelevant t w a = refl

  items_by : (vs : Vals) (t : Ty) → WfVals vs → Asc t → items_by_names vs t ≡ retrieve_items vs t
  items_by no_items t w a = refl
  items_by (item v vs) t w a = ap₂ (both item) (by_names v t w.0 a) (items_by vs t w.1 a)

  pub entries_by : (es : Entries) (k : ℕ) (fs : Fields) → WfEntries es k → AscFields fs 0 → entries_by_names es fs ≡ retrieve_entries es fs
  entries_by no_entries k fs w a = no_names fs
  entries_by (entry n v es) k fs w a =
      entry_first n v es w.1.1.1 fs 0 a
      ∙ kept_same n v fs (entries_by_names es fs) (retrieve_entries es fs) a (λ u b. by_names v u w.1.1.0 b) (entries_by es (n + 1) fs w.1.1.1 a) (lookup n fs) refl
