-- Retrieval as document 01 says it of a context: over the type's names, in their order, at every depth. `Retrieve` goes over the value's entries instead, as the
-- walk does; `Retrieval` states that both give the same.
-- Assumes nothing.
use Rattle.std.specs.Prelude.{ℕ, cond, eqb}
use Rattle.std.proofs.Math.Option.{Option, some}
use Rattle.form.specs.Trees.{Ty, Fields, no_fields, field, Val, v_leaf, v_range, v_list, v_context, v_function, v_built_in, v_type, v_irrelevant, Vals, no_items, item, Entries, no_entries, entry}
use Rattle.retrieval.specs.Retrieve.{copied, retrieve_leaf, by_range, by_function, by_any, by_list, by_context}
use Rattle.form.specs.Options.{map, both}

-- the type's names in their order: of each what `one` says, given what comes of the later names
unfoldable pub over_names : (ℕ → Ty → Option Entries → Option Entries) → Fields → Option Entries
over_names one no_fields = some no_entries
over_names one (field n t fs) = one n t (over_names one fs)

unfoldable mutual
  -- Err is none
  pub retrieve_by_names : Val → Ty → Option Val
  retrieve_by_names (v_leaf l) t = retrieve_leaf l t
  retrieve_by_names (v_range i j v w) t = copied (by_range t) (v_range i j v w)
  retrieve_by_names (v_list vs) t = by_list t (v_list vs) (λ u. map v_list (items_by_names vs u))
  -- "keeps the type's names that are present, each retrieved, missing ones skipped"
  retrieve_by_names (v_context es) t = by_context t (v_context es) (λ fs. map v_context (over_names (λ n u later. of_name es n u later) fs))
  retrieve_by_names (v_function ps b r) t = copied (by_function t) (v_function ps b r)
  retrieve_by_names (v_built_in b) t = copied (by_any t) (v_built_in b)
  retrieve_by_names (v_type a) t = copied (by_any t) (v_type a)
  retrieve_by_names v_irrelevant t = copied (by_any t) v_irrelevant

  pub items_by_names : Vals → Ty → Option Vals
  items_by_names no_items t = some no_items
  items_by_names (item v vs) t = both item (retrieve_by_names v t) (items_by_names vs t)

  -- one name of the type, before the later ones: present in the value, retrieved by its type; absent, skipped
  pub of_name : Entries → ℕ → Ty → Option Entries → Option Entries
  of_name no_entries n t later = later
  of_name (entry m v es) n t later = cond (eqb n m) (both (entry n) (retrieve_by_names v t) later) (of_name es n t later)

-- the entries of a context, by the names of a context type
abbrev pub entries_by_names : Entries → Fields → Option Entries
entries_by_names es fs = over_names (λ n u later. of_name es n u later) fs
