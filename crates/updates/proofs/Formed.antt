-- The answers are well-formed: names strictly ascending at every level, and every count fits its field.
-- Index: `well_updated` (create and apply), `well_joined` (zip and overwrite), `well_removed`, `level_removed` (remove); `value_size`, `count_size`.
-- Assumes nothing.
use Prim.Native.Nat.{ℕ, suc, ◌<◌, ◌≤◌, max}
use native.Mathlib.Omega.{arith}
use mathlib.Core.Path.{◌≡◌, refl, sym, ap, subst}
use mathlib.Core.Bool.{Bool, true, false, cond}
use mathlib.Core.Option.{Option, none, some}
use mathlib.Core.List.{List, [], ◌∷◌}
use lib.Dec.{eqb}
use Rattle.form.specs.Limits.{name_end, most_bytes}
use Rattle.form.specs.Trees.{Val, v_context, Entries, no_entries, entry}
use Rattle.form.specs.Form.{count_entries, level_v, level_entries, WfV, WfEntries}
use Rattle.order.specs.Size.{size_val, size_entries}
use Rattle.paths.specs.Paths.{value_of, entries_of, or_empty, context_under}
use Rattle.paths.proofs.SplitContext.{value_well}
use Rattle.paths.proofs.Whole.{of_context, given_is}
use Rattle.updates.specs.Update.{insert, remove, create}
use Rattle.updates.specs.Writing.{updated, merged}
use Rattle.updates.specs.Laws.{Names}
use Rattle.updates.proofs.InsertedEntries.{well_insert, well_remove, count_insert}
use Rattle.updates.proofs.MergedContexts.{well_merged, count_merged}
use Rattle.updates.proofs.Theorems.{apply_create}
use Rattle.values.proofs.EntriesAt.{size_context, size_next, size_none}
use Rattle.form.proofs.Options.{none_some, some_same}

-- no entry has no bytes
pub count_size : (es : Entries) → count_entries es ≤ size_entries es
unfolding count_entries
count_size no_entries = omega arith
count_size (entry n v es) = omega (arith, size_next n v es, count_size es)

-- ---- the value of a name
pub value_size : (n : ℕ) (v : Val) (es : Entries) → value_of n es ≡ some v → size_val v ≤ size_entries es
unfolding value_of
value_size n v no_entries e = absurd (none_some e)
value_size n v (entry m x es) e = by (value_size n v es) (eqb n m) e
  where
    by : (value_of n es ≡ some v → size_val v ≤ size_entries es) → (q : Bool) → cond q (some x) (value_of n es) ≡ some v → size_val v ≤ size_entries (entry m x es)
    by ih true h = omega (arith, ap size_val (some_same h), size_next m x es)
    by ih false h = omega (arith, ih h, size_next m x es)

-- ---- the entries of the context under a name
record Child (es : Entries) : Type 0 where
  well : WfEntries es 0
  short : size_entries es ≤ most_bytes

no_entries_well : WfEntries no_entries 0
unfolding WfEntries
no_entries_well = tt

child_at : (n : ℕ) (es : Entries) → Child es → Child (or_empty (context_under n es))
unfolding WfV
child_at n es C = go (context_under n es) refl
  where
    go : (o : Option Entries) → context_under n es ≡ o → Child (or_empty o)
    go none e = record { well = no_entries_well; short = omega (arith, size_none) }
    go (some fs) e =
        let G = given_is (value_of n es) entries_of fs e in
        let c : G.0 ≡ v_context fs = of_context G.0 fs G.2 in
        let w : WfV (v_context fs) = subst WfV c (value_well n 0 G.0 es C.well G.1) in
        let z = value_size n G.0 es G.1 in
        record { well = w.1; short = omega (arith, ap size_val c, size_context fs, C.short) }

well_one : (n : ℕ) (x : Val) (es : Entries) → n < name_end → WfV x → Child es → WfV (v_context (insert n x es))
unfolding WfV
well_one n x es b w C = (omega (arith, count_insert n x es, count_size es, C.short), well_insert n x es 0 (omega arith) b w C.well)

well_made : (p : List ℕ) (x : Val) (es : Entries) → Names p → WfV x → Child es → WfV (v_context (create p x es))
unfolding Names create WfV
well_made [] x es ns w C = (omega (arith, count_size es, C.short), C.well)
well_made (n ∷ []) x es ns w C = well_one n x es ns.0 w C
well_made (n ∷ m ∷ p) x es ns w C = well_one n (v_context (create (m ∷ p) x (or_empty (context_under n es)))) es ns.0 (well_made (m ∷ p) x (or_empty (context_under n es)) ns.1 w (child_at n es C)) C

-- ---- create_entries and apply_entries
pub well_updated : (strict : Bool) (p : List ℕ) (x : Val) (es fs : Entries) → Names p → WfV x → WfEntries es 0 → size_entries es ≤ most_bytes → updated strict p x es ≡ some fs → WfV (v_context fs)
well_updated true p x es fs ns w h k e = subst (λ z. WfV (v_context z)) (sym (apply_create p x es fs e)) (well_made p x es ns w (record { well = h; short = k }))
well_updated false p x es fs ns w h k e = subst (λ z. WfV (v_context z)) (some_same e) (well_made p x es ns w (record { well = h; short = k }))

-- ---- zip and overwrite
pub well_joined : (all : Bool) (es gs : Entries) → WfEntries es 0 → WfEntries gs 0 → size_entries es ≤ most_bytes → size_entries gs ≤ most_bytes → WfV (v_context (merged all es gs))
unfolding WfV
well_joined all es gs w x k l = (omega (arith, count_merged all es gs, count_size es, count_size gs), well_merged all es gs 0 w x)

-- ---- remove_entry
count_remove : (n : ℕ) (es : Entries) → count_entries (remove n es) ≤ count_entries es
unfolding count_entries remove
count_remove n no_entries = omega arith
count_remove n (entry m v es) = by (count_remove n es) (eqb n m)
  where
    by : count_entries (remove n es) ≤ count_entries es → (q : Bool) → count_entries (cond q es (entry m v (remove n es))) ≤ suc (count_entries es)
    by ih true = omega arith
    by ih false = omega arith

pub well_removed : (n : ℕ) (es : Entries) → WfV (v_context es) → WfV (v_context (remove n es))
unfolding WfV
well_removed n es w = (omega (arith, count_remove n es, w.0), well_remove n es 0 w.1)

level_entries_lem : (n : ℕ) (es : Entries) → level_entries (remove n es) ≤ level_entries es
unfolding level_entries remove
level_entries_lem n no_entries = omega arith
level_entries_lem n (entry m v es) = by (level_entries_lem n es) (eqb n m)
  where
    by : level_entries (remove n es) ≤ level_entries es → (q : Bool) → level_entries (cond q es (entry m v (remove n es))) ≤ max (level_v v) (level_entries es)
    by ih true = omega arith
    by ih false = omega arith

pub level_removed : (n : ℕ) (es : Entries) → level_v (v_context (remove n es)) ≤ level_v (v_context es)
unfolding level_v
level_removed n es = omega (arith, level_entries_lem n es)
