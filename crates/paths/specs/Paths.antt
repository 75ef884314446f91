-- Paths into a context, on trees: the reading half of context.rs.
-- Assumes nothing.
use Rattle.std.specs.Prelude.{ℕ, ◌+◌, Bool, true, false, cond, List, [], ◌∷◌, eqb, ltb}
use Rattle.std.proofs.Math.Option.{Option, none, some}
use Rattle.form.specs.Limits.{name_width}
use Rattle.form.specs.Trees.{Val, v_leaf, v_range, v_list, v_context, v_function, v_built_in, v_type, v_irrelevant, Entries, no_entries, entry}
use Rattle.form.specs.Form.{count_entries}
use Rattle.order.specs.Size.{size_entries}

-- ---- one name
-- FeelContext::get_entry: the value of a name
unfoldable pub value_of : ℕ → Entries → Option Val
value_of n no_entries = none
value_of n (entry m v es) = cond (eqb n m) (some v) (value_of n es)

-- the entries of a context; none of any other value
abbrev pub entries_of : Val → Option Entries
entries_of (v_leaf l) = none
entries_of (v_range i j v w) = none
entries_of (v_list vs) = none
entries_of (v_context es) = some es
entries_of (v_function ps b r) = none
entries_of (v_built_in n) = none
entries_of (v_type t) = none
entries_of v_irrelevant = none

abbrev pub bind : {X Y : Type 0} → Option X → (X → Option Y) → Option Y
bind none f = none
bind (some x) f = f x

abbrev pub is_some : {X : Type 0} → Option X → Bool
is_some none = false
is_some (some x) = true

abbrev pub or_empty : Option Entries → Entries
or_empty none = no_entries
or_empty (some es) = es

-- the context under a name
abbrev pub context_under : ℕ → Entries → Option Entries
context_under n es = bind (value_of n es) entries_of

-- FeelContext::contains_entry, is_context
abbrev pub contains_entry : ℕ → Entries → Bool
contains_entry n es = is_some (value_of n es)

abbrev pub is_context : ℕ → Entries → Bool
is_context n es = is_some (context_under n es)

-- FeelContext::len, is_empty, get_first
abbrev pub len : Entries → ℕ
len es = count_entries es

abbrev pub is_empty : Entries → Bool
is_empty no_entries = true
is_empty (entry n v es) = false

abbrev pub get_first : Entries → Option Val
get_first no_entries = none
get_first (entry n v es) = some v

-- ---- a path
-- FeelContext::search_deep: empty path none; one name, its value; otherwise the rest of the path in the context under the first name
unfoldable pub search : List ℕ → Entries → Option Val
search [] es = none
search (n ∷ []) es = value_of n es
search (n ∷ m ∷ ns) es = bind (context_under n es) (λ fs. search (m ∷ ns) fs)

-- FeelContext::contains_deep
abbrev pub among : Option Entries → (Entries → Bool) → Bool
among none f = false
among (some es) f = f es

unfoldable pub contains_deep : List ℕ → Entries → Bool
contains_deep [] es = false
contains_deep (n ∷ []) es = contains_entry n es
contains_deep (n ∷ m ∷ ns) es = among (context_under n es) (λ fs. contains_deep (m ∷ ns) fs)

-- ---- where the value of a name stands in the bytes of its context
-- the entries whose names are below n, and those above it
unfoldable pub below : ℕ → Entries → Entries
below n no_entries = no_entries
below n (entry m v es) = cond (ltb m n) (entry m v (below n es)) no_entries

unfoldable pub above : ℕ → Entries → Entries
above n no_entries = no_entries
above n (entry m v es) = cond (ltb n m) (entry m v es) (above n es)

-- the place of the entry of n: behind the command, the count and the entries below it
abbrev pub entry_place : ℕ → Entries → ℕ
entry_place n es = 3 + size_entries (below n es)

-- the place of the value at a path
unfoldable pub place : List ℕ → Entries → ℕ
place [] es = 0
place (n ∷ []) es = entry_place n es + name_width
place (n ∷ m ∷ ns) es = entry_place n es + name_width + place (m ∷ ns) (or_empty (context_under n es))
