-- Document 01's example 12 over the calls, for every accepted v and every room: "{1: true}, path 1 2: create gives {1: {2: v}}; apply refuses 16".
-- Assumes nothing.
use Rattle.std.specs.Prelude.{ℕ, ◌+◌, ◌<◌, ◌≤◌, ◌≡◌, ◌⊎◌, List, [], ◌∷◌, ◌++◌, length}
use Rattle.form.specs.Limits.{most_bytes, value_levels}
use Rattle.form.specs.Trees.{Val}
use Rattle.form.specs.Form.{Bytes, level_v}
use Rattle.form.specs.Outcome.{done, refused}
use Rattle.form.specs.Read.{read_value}
use Rattle.context.specs.Calls.{create_entries_call, apply_entries_call}

-- {1: true}
abbrev pub self : List ℕ
self = 0x0B ∷ 0x01 ∷ 0x00 ∷ 0x01 ∷ 0x00 ∷ 0x01 ∷ 0x01 ∷ []

-- the path 1 2
abbrev pub path : List ℕ
path = 1 ∷ 2 ∷ []

-- {1: {2: v}}
abbrev pub created : List ℕ → List ℕ
created v = (0x0B ∷ 0x01 ∷ 0x00 ∷ 0x01 ∷ 0x00 ∷ 0x0B ∷ 0x01 ∷ 0x00 ∷ 0x02 ∷ 0x00 ∷ []) ++ v

-- an accepted value
pub record Accepted (v : List ℕ) : Type 0 where
  pub are_bytes : Bytes v
  pub value : Val
  pub read : read_value v ≡ done value

-- {1: {2: v}} is a value within the limits: two levels more than v
pub record Within (v : List ℕ) (a : Accepted v) : Type 0 where
  pub level : level_v a.value + 2 ≤ value_levels
  pub bytes : length (created v) ≤ most_bytes

pub record Example12 : Type 0 where
  -- create_entries: {1: {2: v}} where it is within the limits and has room
  pub create : (v : List ℕ) (a : Accepted v) (room : ℕ) → Within v a → length (created v) ≤ room → create_entries_call self path v room ≡ done (created v)
  -- 17 where its level or its length is over the limit, whatever the room
  pub over : (v : List ℕ) (a : Accepted v) (room : ℕ) → (value_levels < level_v a.value + 2) ⊎ (most_bytes < length (created v))
      → create_entries_call self path v room ≡ refused 17
  -- 18 where only the room lacks
  pub no_room : (v : List ℕ) (a : Accepted v) (room : ℕ) → Within v a → room < length (created v) → create_entries_call self path v room ≡ refused 18
  -- apply_entries: 16, true is no context
  pub apply : (v : List ℕ) (a : Accepted v) (room : ℕ) → apply_entries_call self path v room ≡ refused 16
