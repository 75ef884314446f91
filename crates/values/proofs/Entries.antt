-- The entries of a context, as they are read, and their test against those of a type, name by name: what the laws of two ascending lists in step ask for.
-- Index: `entries_run`, `entries_tests` (for SortedNames of crate `types`); `entries_none`, `entries_left`, `entries_low` (no entries, no level).
-- Assumes nothing.
use Prim.Native.Nat.{ℕ, suc, ◌<◌, ◌≤◌}
use mathlib.Core.Path.{◌≡◌, refl, ap, ap₂, ◌∙◌}
use mathlib.Core.Bool.{false, cond, ◌&&◌}
use mathlib.Core.List.{List}
use native.Mathlib.Omega.{arith}
use lib.ListN.{drop}
use borrow.Author.Tests.{eq-eqb, ne_eqb}
use Rattle.form.specs.Trees.{Ty, Fields, no_fields, field, Val, Entries, no_entries, entry}
use Rattle.form.specs.Limits.{name_width}
use Rattle.form.specs.Read.{read_named, read_v}
use Rattle.order.specs.Order.{Order}
use Rattle.order.specs.Types.{all_fields}
use Rattle.order.specs.Ascending.{Asc, AscFields}
use Rattle.order.specs.Size.{size_fields, size_val, size_entries}
use Rattle.order.specs.Values.{conforms, has_value}
use Rattle.types.specs.At.{seen, fields_at}
use Rattle.types.specs.Conform.{add_sizes, Met}
use Rattle.types.proofs.Pairs.{no_when, met_no}
use Rattle.types.proofs.SortedNames.{Run, Tests, named_on, NamesGo, names_start, names_left, names_done}
use Rattle.values.specs.At.{value_at, entries_at}
use Rattle.values.specs.Held.{entries_conform, held_entries}
use Rattle.values.proofs.Reading.{From, Above, value_told, some_level}
use Rattle.values.proofs.EntriesAt.{this}
use Rattle.values.proofs.ValueConformance.{readable_value}

has_other : (O : Order) (n : ℕ) (x : Val) (es : Entries) (m : ℕ) (u : Ty) → (m ≡ n → ⊥) → has_value O (entry n x es) m u ≡ has_value O es m u
unfolding conforms
has_other O n x es m u d = ap (λ q. cond q (conforms O x u) (has_value O es m u)) (ne_eqb m n d)

absent : (O : Order) (es : Entries) (k m : ℕ) (u : Ty) → From k es → m < k → has_value O es m u ≡ false
unfolding conforms From
absent O no_entries k m u f h = refl
absent O (entry n x es) k m u f h = has_other O n x es m u (λ e. omega (arith, f.0)) ∙ absent O es k m u f.1 h

pub entries_run : (l : ℕ) → Run size_val size_entries (value_at l) (entries_at l) no_entries entry Above
unfolding size_val value_at entries_at seen read_named
entries_run l = record {
  readable = readable_value l;
  size_nil = refl;
  size_cons = λ n x es. refl;
  none = λ least s. refl;
  on = λ n least s x w h e. named_on size_val no_entries entry (read_v l) (λ r y m f. (value_told l r y m f).sized) n least s x w h e;
  back = this l;
}

-- a name smaller than all that are asked for does not matter
skipped : (O : Order) (n : ℕ) (x : Val) (es : Entries) (fs : Fields) (k : ℕ) → AscFields fs k → n < k → entries_conform O (entry n x es) fs ≡ entries_conform O es fs
unfolding all_fields Asc
skipped O n x es no_fields k w h = refl
skipped O n x es (field m u fs) k w h = ap₂ ◌&&◌ (has_other O n x es m u (λ e. omega (arith, w.0))) (skipped O n x es fs (suc m) w.2 (omega (arith, w.0)))

pub entries_tests : (O : Order) → Tests no_entries entry Above (conforms O) (entries_conform O)
unfolding all_fields conforms
entries_tests O = record {
  done = refl;
  left = λ m u fs. refl;
  first = λ n x es fs w. skipped O n x es fs (suc n) w (omega arith);
  missing = λ n x es m u fs w h. ap (λ z. z && entries_conform O (entry n x es) fs) (has_other O n x es m u (λ e. omega arith) ∙ absent O es (suc n) m u w (omega arith));
  common = λ n x u es fs w. ap₂ (λ q z. cond q (conforms O x u) (has_value O es n u) && z) (eq-eqb n n refl) (skipped O n x es fs (suc n) w (omega arith));
}

-- ---- no entries, and no level left for them
module _ (O : Order) (l m : ℕ) (v : List ℕ) (n : ℕ) (t : List ℕ) (k : ℕ) where
  go : NamesGo size_val size_entries (value_at l) (entries_at l) no_entries entry Above (conforms O) (entries_conform O) m (held_entries O (entries_at l n 0 v) (fields_at m k 0 t)) v n t k 0 0 0 0 0
  go = names_start (entries_run l) (entries_tests O) m v n t k

  pub entries_left : 0 ≡ n → 0 < k → (u : ℕ) → Met (add_sizes 3 3 (held_entries O (entries_at l n 0 v) (fields_at m k 0 t))) 0 u
  entries_left z h u = names_left go 3 u (omega (arith, z)) h

  pub entries_none : 0 ≡ n → k ≤ 0 → (r u : ℕ) → r ≡ 3 → u ≡ 3 → Met (add_sizes 3 3 (held_entries O (entries_at l n 0 v) (fields_at m k 0 t))) r u
  entries_none z h r u p q = names_done go 3 u (omega (arith, z)) h r (omega (arith, p)) (omega (arith, q))

  pub entries_low : (0 ≡ n → ⊥) → l ≡ 0 → (u : ℕ) → Met (add_sizes 3 3 (held_entries O (entries_at l n 0 v) (fields_at m k 0 t))) 0 u
  entries_low z e u = met_no 0 u (ap (add_sizes 3 3) (no_when size_entries size_fields (entries_conform O) (entries_at l n 0 v) (fields_at m k 0 t) (λ es fs f g.
      let E = this l 0 n 0 0 v es (omega (arith, z)) (ap (λ j. entries_at l j 0 v) (omega arith) ∙ f) in
      absurd (omega (arith, some_level l (drop name_width v) E.x E.first))))) refl
