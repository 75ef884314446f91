-- The entries of a context that are left at a place: the next one, or none; and their names, all of them at least k (`From`).
-- Index: `ContextVal`, `context_val` (a context); `This`, `first_entry`, `this`, `none_left`, `above` (the entry at a place); `wf_lower` (names); `size_context`, `size_next`, `size_none`.
-- Assumes nothing.
use Prim.Native.Nat.{ℕ, ◌≤◌, suc, ◌+◌, ◌-◌, ◌<◌}
use native.Mathlib.Omega.{arith}
use Rattle.form.specs.Trees.{Val, Entries, no_entries, entry, v_context}
use mathlib.Core.Path.{◌≡◌, refl, sym, ap, subst, ◌∙◌}
use mathlib.Core.Bool.{Bool, true, false, cond}
use mathlib.Core.Option.{some}
use mathlib.Core.List.{List}
use lib.ListN.{length, drop}
use lib.Dec.{ltb}
use borrow.Author.Tests.{ltb-true, ltb-false}
use Rattle.form.specs.Limits.{name_width, name_end}
use Rattle.form.specs.Form.{num_at, WfV, WfEntries}
use Rattle.form.specs.Read.{read_named, read_v}
use Rattle.form.proofs.Runs.{step}
use Rattle.order.specs.Size.{size_val, size_entries}
use Rattle.types.specs.At.{seen}
use Rattle.types.proofs.ChildAt.{EntryAt, entry_at, none_at}
use Rattle.values.proofs.Reading.{From, Above, from_none, from_entry, from_less, entries_sizes, value_told}
use Rattle.values.specs.At.{value_at, entries_at}
use Rattle.values.proofs.Reading.{IsVal, is_context_lem}
use Rattle.form.specs.Layout.{k_context}

pub record ContextVal (l : ℕ) (s : List ℕ) (v : Val) : Type 0 where
  pub es : Entries
  pub three : 3 ≤ length s
  pub entries : entries_at (l - 1) (num_at 2 1 s) 0 (drop 3 s) ≡ some es
  pub is : v ≡ v_context es

pub context_val : {l : ℕ} {s : List ℕ} {v : Val} → IsVal l s k_context v → ContextVal l s v
context_val (is_context_lem es c k p) = record { es = es; three = k; entries = p; is = refl }

pub size_context : (es : Entries) → size_val (v_context es) ≡ 3 + size_entries es
unfolding size_val
size_context es = refl

pub size_next : (n : ℕ) (v : Val) (es : Entries) → size_entries (entry n v es) ≡ name_width + size_val v + size_entries es
unfolding size_val
size_next n v es = refl

pub size_none : size_entries no_entries ≡ 0
unfolding size_val
size_none = refl

-- the entry that stands at `at`, of which n follow
abbrev pub This : (l n at least : ℕ) → List ℕ → Entries → Type 0
This l n at least s es = EntryAt size_val size_entries Above (value_at l) (entries_at l) entry suc n at least s es

pub first_entry : (l n at least : ℕ) (s : List ℕ) (es : Entries) → entries_at l (suc n) least (drop at s) ≡ some es → This l n at least s es
unfolding entries_at value_at
first_entry l n at least s es e = entry_at entries_sizes (read_v l) (value_told l) n at least s es e

pub this : (l i n at least : ℕ) (s : List ℕ) (es : Entries) → i < n → entries_at l (n - i) least (drop at s) ≡ some es → This l (n - (i + 1)) at least s es
this l i n at least s es h e = first_entry l (n - (i + 1)) at least s es (ap (λ z. entries_at l z least (drop at s)) (sym (step i n h)) ∙ e)

pub none_left : (l i n at least : ℕ) (s : List ℕ) (es : Entries) → n ≤ i → entries_at l (n - i) least (drop at s) ≡ some es → es ≡ no_entries
unfolding entries_at seen read_named
none_left l i n at least s es h e = none_at no_entries es (λ k. entries_at l k least (drop at s)) i n refl h e

-- all names of the value are above y, since the next one is, or there is none
pub above : (l i n at least : ℕ) (s : List ℕ) (es : Entries) → entries_at l (n - i) least (drop at s) ≡ some es → (x y : ℕ) → x ≡ cond (ltb i n) (num_at name_width at s) name_end → y < x
    → From (suc y) es
above l i n at least s es e x y p h = go (ltb i n) refl
  where
    go : (q : Bool) → ltb i n ≡ q → From (suc y) es
    go true d =
        let A = this l i n at least s es (ltb-true i n d) e in
        let r : x ≡ num_at name_width at s = p ∙ ap (λ z. cond z (num_at name_width at s) name_end) d in
        let m : y < A.name = omega (arith, A.named) in
        subst (From (suc y)) (sym A.is) (from_entry (suc y) A.name A.x A.more m (from_less (suc A.name) (suc y) A.more (omega arith) A.asc))
    go false d = subst (From (suc y)) (sym (none_left l i n at least s es (ltb-false i n d) e)) (from_none (suc y))

-- names that are at least j are at least k
pub wf_lower : (es : Entries) (j k : ℕ) → k ≤ j → WfEntries es j → WfEntries es k
unfolding WfV
wf_lower no_entries j k h w = tt
wf_lower (entry n v es) j k h w = (omega (arith, w.0), w.1)
