-- Updates of a context, on trees: the writing half of context.rs.
-- Assumes nothing.
use Rattle.std.specs.Prelude.{ℕ, cond, List, [], ◌∷◌, eqb, ltb}
use Rattle.std.proofs.Math.Option.{Option, none, some}
use Rattle.form.specs.Trees.{Val, v_context, Entries, no_entries, entry, nothing}
use Rattle.paths.specs.Paths.{value_of, entries_of, bind, or_empty, context_under, contains_entry}
use Rattle.form.specs.Options.{map}

-- BTreeMap::insert: at its place among the ascending names, or in place of the old value
unfoldable pub insert : ℕ → Val → Entries → Entries
insert n x no_entries = entry n x no_entries
insert n x (entry m v es) = cond (eqb n m) (entry n x es) (cond (ltb n m) (entry n x (entry m v es)) (entry m v (insert n x es)))

-- BTreeMap::remove
unfoldable pub remove : ℕ → Entries → Entries
remove n no_entries = no_entries
remove n (entry m v es) = cond (eqb n m) es (entry m v (remove n es))

-- FeelContext::create_entries: empty path, nothing; one name, the value is inserted; otherwise the rest of the path is created in the context
-- under the first name, or in a new one where there is none
unfoldable pub create : List ℕ → Val → Entries → Entries
create [] x es = es
create (n ∷ []) x es = insert n x es
create (n ∷ m ∷ ns) x es = insert n (v_context (create (m ∷ ns) x (or_empty (context_under n es)))) es

-- the context on the way: a new one where the name is absent, Err where its value is none
abbrev pub on_the_way : Option Val → Option Entries
on_the_way none = some no_entries
on_the_way (some v) = entries_of v

-- FeelContext::apply_entries: the same, but none (Err) where a value on the way is no context
unfoldable pub apply : List ℕ → Val → Entries → Option Entries
apply [] x es = some es
apply (n ∷ []) x es = some (insert n x es)
apply (n ∷ m ∷ ns) x es = bind (on_the_way (value_of n es)) (λ fs. map (λ gs. insert n (v_context gs) es) (apply (m ∷ ns) x fs))

-- FeelContext::zip: every entry of the other is inserted
unfoldable pub zip : Entries → Entries → Entries
zip es no_entries = es
zip es (entry n x gs) = zip (insert n x es) gs

-- FeelContext::overwrite: those whose names are present
unfoldable pub overwrite : Entries → Entries → Entries
overwrite es no_entries = es
overwrite es (entry n x gs) = overwrite (cond (contains_entry n es) (insert n x es) es) gs

-- FeelContext::move_entry: an absent name copies; otherwise it is removed, and [parent, name] is created
abbrev pub moved : ℕ → ℕ → Entries → Option Val → Entries
moved n parent es none = es
moved n parent es (some x) = create (parent ∷ n ∷ []) x (remove n es)

abbrev pub move_entry : ℕ → ℕ → Entries → Entries
move_entry n parent es = moved n parent es (value_of n es)

-- FeelContext::set_entry, set_null, remove_entry
abbrev pub set_entry : ℕ → Val → Entries → Entries
set_entry n x es = insert n x es

abbrev pub set_null : ℕ → Entries → Entries
set_null n es = insert n (nothing 0) es

abbrev pub remove_entry : ℕ → Entries → Entries
remove_entry n es = remove n es
