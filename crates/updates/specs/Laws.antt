-- What is stated of updates, over all contexts and paths on trees: what stands at every path behind an update, when apply refuses, that results are well-formed,
-- and their levels.
-- Assumes nothing.
use Rattle.std.specs.Prelude.{ℕ, ◌+◌, ◌<◌, ◌≤◌, max, ◌≡◌, Bool, cond, List, [], ◌∷◌, ◌++◌, length}
use Rattle.std.proofs.Math.Option.{Option, none, some}
use Rattle.form.specs.Limits.{name_end, most_bytes, value_levels}
use Rattle.form.specs.Trees.{Val, v_context, Entries, no_entries, entry, nothing}
use Rattle.form.specs.Form.{enc_v, level_v, WfV, WfEntries}
use Rattle.order.specs.Size.{size_entries}
use Rattle.paths.specs.Paths.{value_of, entries_of, bind, or_empty, context_under, search}
use Rattle.paths.specs.Way.{stays, cut_of}
use Rattle.updates.specs.Update.{insert, create, apply, zip, overwrite, move_entry, set_entry, set_null, remove_entry}
use Rattle.updates.specs.Writing.{updated, merged, blocked, spliced}

-- two paths that part at some name
pub data Apart : List ℕ → List ℕ → Type 0 where
  here : (n m : ℕ) (p q : List ℕ) → (n ≡ m → ⊥) → Apart (n ∷ p) (m ∷ q)
  later : (n : ℕ) (p q : List ℕ) → Apart p q → Apart (n ∷ p) (n ∷ q)

-- a value on the way is no context
pub record Blocked (p : List ℕ) (es : Entries) : Type 0 where
  pub before : List ℕ
  pub after : List ℕ
  pub parts : p ≡ before ++ after
  pub goes_on : after ≡ [] → ⊥
  pub v : Val
  pub is_there : search before es ≡ some v
  pub no_context : entries_of v ≡ none

-- a path whose names fit their bytes
unfoldable pub Names : List ℕ → Type 0
Names [] = Unit {0}
Names (n ∷ p) = (n < name_end) × Names p

-- the value of a name in a merge, by the other's and one's own. zip: the other's, or else one's own
abbrev pub other_or_own : {X : Type 0} → Option X → Option X → Option X
other_or_own none y = y
other_or_own (some x) y = some x

-- overwrite: the other's where there is one's own, which stays where the other has none
abbrev pub other_if_own : {X : Type 0} → Option X → Option X → Option X
other_if_own none y = y
other_if_own (some x) none = none
other_if_own (some x) (some y) = some x

pub record ContextUpdates : Type 0 where
  -- create_entries: the value is found at the path
  pub created_found : (p : List ℕ) (x : Val) (es : Entries) → (p ≡ [] → ⊥) → search p (create p x es) ≡ some x
  -- every place that is not on the path is as before
  pub created_other : (q p : List ℕ) (x : Val) (es : Entries) → Apart q p → search q (create p x es) ≡ search q es
  -- below the path: what stands in the value
  pub created_inside : (p r : List ℕ) (x : Val) (es : Entries) → (p ≡ [] → ⊥) → (r ≡ [] → ⊥)
      → search (p ++ r) (create p x es) ≡ bind (entries_of x) (λ fs. search r fs)
  -- on the way: a context; the old one's entries, or none where a non-context is replaced, with the rest of the path created in it
  pub created_way : (q r : List ℕ) (x : Val) (es : Entries) → (q ≡ [] → ⊥) → (r ≡ [] → ⊥)
      → search q (create (q ++ r) x es) ≡ some (v_context (create r x (or_empty (bind (search q es) entries_of))))
  -- apply_entries: where it does not refuse, the same
  pub apply_create : (p : List ℕ) (x : Val) (es fs : Entries) → apply p x es ≡ some fs → fs ≡ create p x es
  -- 16 only where a value on the way is no context
  pub apply_refuses : (p : List ℕ) (x : Val) (es : Entries) → apply p x es ≡ none → Blocked p es
  -- and there always
  pub refuses_apply : (p : List ℕ) (x : Val) (es : Entries) → Blocked p es → apply p x es ≡ none
  -- set_entry inserts: a path of one name
  pub set_create : (n : ℕ) (x : Val) (es : Entries) → set_entry n x es ≡ create (n ∷ []) x es
  -- set_null: the same with Null of trace 0
  pub null_create : (n : ℕ) (es : Entries) → set_null n es ≡ create (n ∷ []) (nothing 0) es
  -- move_entry: an absent name copies
  pub move_absent : (n parent : ℕ) (es : Entries) → value_of n es ≡ none → move_entry n parent es ≡ es
  -- equal names nest
  pub move_nests : (n k : ℕ) (x : Val) (es : Entries) → WfEntries es k → value_of n es ≡ some x
      → move_entry n n es ≡ insert n (v_context (entry n x no_entries)) es
  -- a name that is present: its value is found at [parent, name]
  pub move_found : (n parent : ℕ) (x : Val) (es : Entries) → value_of n es ≡ some x → search (parent ∷ n ∷ []) (move_entry n parent es) ≡ some x
  -- a name other than the parent is gone
  pub move_gone : (n parent k : ℕ) (es : Entries) → WfEntries es k → (n ≡ parent → ⊥) → value_of n (move_entry n parent es) ≡ none
  -- every name but these two is as before
  pub move_other : (m n parent : ℕ) (es : Entries) → (m ≡ n → ⊥) → (m ≡ parent → ⊥) → value_of m (move_entry n parent es) ≡ value_of m es
  -- the parent is the context that it was with the value inserted; where it was none or absent, one with only this name
  pub move_parent : (n parent : ℕ) (x : Val) (es : Entries) → (n ≡ parent → ⊥) → value_of n es ≡ some x
      → value_of parent (move_entry n parent es) ≡ some (v_context (insert n x (or_empty (context_under parent es))))
  pub move_replaced : (n parent : ℕ) (x : Val) (es : Entries) → (n ≡ parent → ⊥) → value_of n es ≡ some x → context_under parent es ≡ none
      → value_of parent (move_entry n parent es) ≡ some (v_context (entry n x no_entries))
  -- inside the parent every other name is as before, at every depth
  pub move_inside : (n parent q : ℕ) (rest : List ℕ) (es : Entries) → (n ≡ parent → ⊥) → (q ≡ n → ⊥)
      → search (parent ∷ q ∷ rest) (move_entry n parent es) ≡ search (parent ∷ q ∷ rest) es
  -- below [parent, name]: what stands in the value
  pub move_below : (n parent : ℕ) (r : List ℕ) (x : Val) (es : Entries) → (r ≡ [] → ⊥) → value_of n es ≡ some x
      → search (parent ∷ n ∷ r) (move_entry n parent es) ≡ bind (entries_of x) (λ fs. search r fs)
  -- remove_entry: the name is gone
  pub removed_gone : (n k : ℕ) (es : Entries) → WfEntries es k → value_of n (remove_entry n es) ≡ none
  -- every other name is as before
  pub removed_other : (m n : ℕ) (es : Entries) → (m ≡ n → ⊥) → value_of m (remove_entry n es) ≡ value_of m es
  -- zip: the other's value, where it has one, otherwise one's own
  pub zip_name : (n : ℕ) (es gs : Entries) (k : ℕ) → WfEntries gs k → value_of n (zip es gs) ≡ other_or_own (value_of n gs) (value_of n es)
  -- overwrite: the other's value where both have one; one's own where the other has none
  pub overwrite_name : (n : ℕ) (es gs : Entries) (k : ℕ) → WfEntries gs k → value_of n (overwrite es gs) ≡ other_if_own (value_of n gs) (value_of n es)
  -- the results are well-formed, names strictly ascending at every level, for contexts of at most 16,384 bytes, names of 16 bits and a well-formed value
  pub created_well : (strict : Bool) (p : List ℕ) (x : Val) (es fs : Entries) → Names p → WfV x → WfEntries es 0 → size_entries es ≤ most_bytes
      → updated strict p x es ≡ some fs → WfV (v_context fs)
  pub merged_well : (all : Bool) (es gs : Entries) → WfEntries es 0 → WfEntries gs 0 → size_entries es ≤ most_bytes → size_entries gs ≤ most_bytes
      → WfV (v_context (merged all es gs))
  pub removed_well : (n : ℕ) (es : Entries) → WfV (v_context es) → WfV (v_context (remove_entry n es))
  -- levels: every name of the path adds at most one to the value's; a merge and a removal add none
  pub updated_level : (strict : Bool) (p : List ℕ) (x : Val) (es fs : Entries) → updated strict p x es ≡ some fs
      → level_v (v_context fs) ≤ max (level_v (v_context es)) (length p + level_v x)
  -- exactly: the larger of what stays and of the names and the value. It is what the walk and the builders tell, and 17 takes it from there
  pub updated_level_is : (strict : Bool) (p : List ℕ) (x : Val) (es fs : Entries) → WfV (v_context es) → (p ≡ [] → ⊥) → updated strict p x es ≡ some fs
      → level_v (v_context fs) ≡ max (stays p (v_context es)) (length p + level_v x)
  -- so in a context within level 31 an update goes over it exactly where the names of the path and the value do together
  pub updated_deep : (strict : Bool) (p : List ℕ) (x : Val) (es fs : Entries) → WfV (v_context es) → level_v (v_context es) ≤ value_levels → (p ≡ [] → ⊥) → updated strict p x es ≡ some fs
      → (value_levels < level_v (v_context fs) → value_levels < length p + level_v x) × (value_levels < length p + level_v x → value_levels < level_v (v_context fs))
  pub merged_level : (all : Bool) (es gs : Entries) → level_v (v_context (merged all es gs)) ≤ max (level_v (v_context es)) (level_v (v_context gs))
  pub removed_level : (n : ℕ) (es : Entries) → level_v (v_context (remove_entry n es)) ≤ level_v (v_context es)
  -- an update changes the bytes of one entry, all others stay: what the cut says, in the bytes of the context, makes those of the updated one
  pub created_bytes : (p : List ℕ) (x : Val) (es : Entries) → WfV (v_context es) → (p ≡ [] → ⊥)
      → spliced (enc_v (v_context es)) (cut_of p (v_context es)) p (enc_v x) ≡ enc_v (v_context (create p x es))
  -- apply_entries is Err exactly where the cut says so, and otherwise creates
  pub apply_blocked : (p : List ℕ) (x : Val) (es : Entries) → (p ≡ [] → ⊥) → apply p x es ≡ cond (blocked p (cut_of p (v_context es))) none (some (create p x es))
  -- a merge is not longer than both together
  pub merged_short : (all : Bool) (es gs : Entries) → size_entries (merged all es gs) ≤ size_entries es + size_entries gs
