-- The definitions of the calls: refusals in document 01's order, then the answer.
-- Assumes nothing.
use Rattle.std.specs.Prelude.{ℕ, Bool, true, false, List, length, leb}
use Rattle.form.specs.Limits.{most_names}
use Rattle.form.specs.Trees.{Val, v_context, Entries}
use Rattle.form.specs.Outcome.{Outcome, done, ◌>>=◌, ◌>>◌, check, or_refuse}
use Rattle.form.specs.Read.{read_value}
use Rattle.paths.specs.Paths.{entries_of}
use Rattle.paths.specs.Calls.{context_of}
use Rattle.updates.specs.Update.{create, apply, zip, overwrite, move_entry, set_entry, set_null, remove_entry}
use Rattle.output.specs.Result.{checked_result}

-- ---- the arguments
pub record Given : Type 0 where
  pub entries : Entries
  pub value : Val

-- a context, a path of so many names, a value: 1 to 5, 11, 1 to 5, 12
unfoldable pub given_of : List ℕ → ℕ → List ℕ → Outcome Given
given_of c names v = do
  self ← read_value c
  check 11 (leb names most_names)
  x ← read_value v
  es ← or_refuse 12 (entries_of self)
  done (record { entries = es; value = x })

pub record Two : Type 0 where
  pub entries : Entries
  pub others : Entries

-- two contexts: 1 to 5, 1 to 5, 12
unfoldable pub two_of : List ℕ → List ℕ → Outcome Two
two_of c o = do
  self ← read_value c
  other ← read_value o
  es ← or_refuse 12 (entries_of self)
  gs ← or_refuse 12 (entries_of other)
  done (record { entries = es; others = gs })

-- ---- the calls
-- FeelContext::create_entries
abbrev pub create_entries_call : List ℕ → List ℕ → List ℕ → ℕ → Outcome (List ℕ)
create_entries_call c p v room = do
  g ← given_of c (length p) v
  checked_result room (v_context (create p g.value g.entries))

-- FeelContext::apply_entries; 16: Err
abbrev pub apply_entries_call : List ℕ → List ℕ → List ℕ → ℕ → Outcome (List ℕ)
apply_entries_call c p v room = do
  g ← given_of c (length p) v
  new ← or_refuse 16 (apply p g.value g.entries)
  checked_result room (v_context new)

-- one of the two, told apart by whether a value on the way that is no context is Err
abbrev pub update_call : Bool → List ℕ → List ℕ → List ℕ → ℕ → Outcome (List ℕ)
update_call true c p v room = apply_entries_call c p v room
update_call false c p v room = create_entries_call c p v room

-- FeelContext::set_entry
abbrev pub set_entry_call : List ℕ → ℕ → List ℕ → ℕ → Outcome (List ℕ)
set_entry_call c n v room = do
  g ← given_of c 0 v
  checked_result room (v_context (set_entry n g.value g.entries))

-- FeelContext::zip, overwrite: self, then the other
abbrev pub zip_call : List ℕ → List ℕ → ℕ → Outcome (List ℕ)
zip_call c o room = do
  two ← two_of c o
  checked_result room (v_context (zip two.entries two.others))

abbrev pub overwrite_call : List ℕ → List ℕ → ℕ → Outcome (List ℕ)
overwrite_call c o room = do
  two ← two_of c o
  checked_result room (v_context (overwrite two.entries two.others))

-- one of the two
abbrev pub joined_call : Bool → List ℕ → List ℕ → ℕ → Outcome (List ℕ)
joined_call true c o room = zip_call c o room
joined_call false c o room = overwrite_call c o room

-- FeelContext::move_entry, remove_entry, set_null: the context, 1 to 5 and 12
abbrev pub move_entry_call : List ℕ → ℕ → ℕ → ℕ → Outcome (List ℕ)
move_entry_call c n parent room = do
  es ← context_of c 0
  checked_result room (v_context (move_entry n parent es))

abbrev pub remove_entry_call : List ℕ → ℕ → ℕ → Outcome (List ℕ)
remove_entry_call c n room = do
  es ← context_of c 0
  checked_result room (v_context (remove_entry n es))

abbrev pub set_null_call : List ℕ → ℕ → ℕ → Outcome (List ℕ)
set_null_call c n room = do
  es ← context_of c 0
  checked_result room (v_context (set_null n es))
