-- What the builders of an updated context ask and leave: as much of the answer as has room, and how long it is.
-- Assumes nothing.
use Rattle.std.specs.Prelude.{ℕ, ◌+◌, ◌-◌, ◌<◌, ◌≤◌, ◌≡◌, Bool, true, false, ◌&&◌, cond, List, [], ◌∷◌, ◌++◌, length, get_or, take, drop, eqb, ltb}
use Rattle.std.proofs.Math.Option.{Option, some}
use Rattle.form.specs.Limits.{name_width, most_bytes, most_names}
use Rattle.form.specs.Trees.{Val, v_context, Entries}
use Rattle.form.specs.Form.{bytes, num_at, enc_v, level_v}
use Rattle.paths.specs.declared.way.Cut.{Cut}
use Rattle.updates.specs.Update.{create, apply, zip, overwrite}
use Rattle.form.specs.Options.{WhereBoth}
use Rattle.output.specs.Output.{fill}

-- ---- create_entries and apply_entries, told apart by whether a value on the way that is no context is Err
abbrev pub updated : Bool → List ℕ → Val → Entries → Option Entries
updated true p x es = apply p x es
updated false p x es = some (create p x es)

-- ---- the builders
-- the arguments of a builder are small
pub record Small (c path v : List ℕ) : Type 0 where
  pub bytes_c : length c ≤ most_bytes
  pub names : length path ≤ most_names
  pub bytes_v : length v ≤ most_bytes

-- ---- a context's bytes with so many entries and those before `at`; and a name
unfoldable pub begun : ℕ → List ℕ → ℕ → List ℕ
begun count c at = (0x0B ∷ bytes 2 count) ++ take (at - 3) (drop 3 c)

unfoldable pub opened : ℕ → List ℕ → ℕ → ℕ → List ℕ
opened count c at name = begun count c at ++ bytes name_width name

-- without the entry from `at` to `to`
unfoldable pub closed : ℕ → List ℕ → ℕ → ℕ → List ℕ
closed count c at to = begun count c at ++ drop to c

-- ---- an update: what the cut says is changed, all else stays
-- the value under names that are all new
unfoldable pub nested : List ℕ → List ℕ → List ℕ
nested [] v = v
nested (n ∷ p) v = (0x0B ∷ bytes 2 1) ++ (bytes name_width n ++ nested p v)

-- the entries of the context at the cut, one more where the name is new
abbrev pub count_after : List ℕ → Cut → ℕ
count_after c k = num_at 2 (k.base + 1) c + cond (eqb k.gone 0) 1 0

-- the context to the name at the cut, what stands under it, and the rest
unfoldable pub spliced : List ℕ → Cut → List ℕ → List ℕ → List ℕ
spliced c k p v = take k.base c ++ (opened (count_after c k) (drop k.base c) (k.at - k.base) (get_or p (k.names - 1) 0)
    ++ (nested (drop k.names p) v ++ drop (k.at + k.gone) c))

-- Err of apply_entries: a name is left, and the entry that goes holds no context
abbrev pub blocked : List ℕ → Cut → Bool
blocked p k = ltb k.names (length p) && ltb 0 k.gone

-- the cut lies within the context's bytes and names of the path
pub record Cuts (c p : List ℕ) (k : Cut) : Type 0 where
  pub front : k.base + 3 ≤ k.at
  pub end : k.at + k.gone ≤ length c
  pub some : 1 ≤ k.names
  pub names : k.names ≤ length p
  pub count : count_after c k < 65536

-- ---- zip, and overwrite
abbrev pub merged : Bool → Entries → Entries → Entries
merged true es gs = zip es gs
merged false es gs = overwrite es gs

-- the answer's length, its bytes and its level
pub record Joined (es : Entries) (old new : List ℕ) (n level : ℕ) : Type 0 where
  pub long : n ≡ length (enc_v (v_context es))
  pub out : new ≡ fill (enc_v (v_context es)) old
  pub deep : level ≡ level_v (v_context es)

unfoldable pub Merges : Bool → Option Entries → Option Entries → List ℕ → List ℕ → ℕ → ℕ → Type 0
Merges all c o old new n level = WhereBoth (Unit {0}) (λ es gs. Joined (merged all es gs) old new n level) c o
