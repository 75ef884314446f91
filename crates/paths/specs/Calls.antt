-- The definitions of the calls: refusals in document 01's order, then the answer.
-- Assumes nothing.
use Rattle.std.specs.Prelude.{ℕ, ◌+◌, Bool, List, length, leb}
use Rattle.std.proofs.Math.Option.{Option}
use Rattle.form.specs.Limits.{name_width, most_names}
use Rattle.form.specs.Trees.{Entries}
use Rattle.form.specs.Outcome.{Outcome, done, ◌>>=◌, ◌>>◌, check, or_refuse}
use Rattle.form.specs.Read.{read_value}
use Rattle.paths.specs.Paths.{value_of, entries_of, contains_entry, is_context, len, is_empty, get_first, contains_deep, entry_place}
use Rattle.paths.specs.Places.{Spot, spot, spot_in}
use Rattle.form.specs.Options.{map}

-- the context c and a path of so many names: 1 to 5, 11, 12
unfoldable pub context_of : List ℕ → ℕ → Outcome Entries
context_of c names = do
  self ← read_value c
  check 11 (leb names most_names)
  or_refuse 12 (entries_of self)

-- FeelContext::search_deep: the value at the path and its place
abbrev pub search_deep_call : List ℕ → List ℕ → Outcome (Option Spot)
search_deep_call c p = do
  es ← context_of c (length p)
  done (spot_in p es)

-- FeelContext::get_entry: the value of the name, behind it
abbrev pub get_entry_call : List ℕ → ℕ → Outcome (Option Spot)
get_entry_call c n = do
  es ← context_of c 0
  done (map (spot (entry_place n es + name_width)) (value_of n es))

-- FeelContext::get_first: the first value, behind command, count and its name
abbrev pub get_first_call : List ℕ → Outcome (Option Spot)
get_first_call c = do
  es ← context_of c 0
  done (map (spot (3 + name_width)) (get_first es))

-- FeelContext::contains_deep
abbrev pub contains_deep_call : List ℕ → List ℕ → Outcome Bool
contains_deep_call c p = do
  es ← context_of c (length p)
  done (contains_deep p es)

-- FeelContext::contains_entry, is_context, is_empty, len
abbrev pub contains_entry_call : List ℕ → ℕ → Outcome Bool
contains_entry_call c n = do
  es ← context_of c 0
  done (contains_entry n es)

abbrev pub is_context_call : List ℕ → ℕ → Outcome Bool
is_context_call c n = do
  es ← context_of c 0
  done (is_context n es)

abbrev pub is_empty_call : List ℕ → Outcome Bool
is_empty_call c = do
  es ← context_of c 0
  done (is_empty es)

abbrev pub len_call : List ℕ → Outcome ℕ
len_call c = do
  es ← context_of c 0
  done (len es)
