-- What the questions on a context have to do with each other, on trees and as calls, and where a found value stands.
-- Assumes nothing.
use Rattle.std.specs.Prelude.{ℕ, ◌+◌, ◌≤◌, ◌≡◌, Bool, true, false, List, [], ◌∷◌, length, take, drop, eqb}
use Rattle.std.proofs.Math.Option.{Option, none, some}
use Rattle.form.specs.Trees.{l_boolean, Val, v_leaf, v_context, Entries, no_entries, entry}
use Rattle.form.specs.Form.{Bytes, enc_v}
use Rattle.form.specs.Options.{map}
use Rattle.form.specs.Outcome.{done, ◌>>=◌}
use Rattle.paths.specs.Paths.{value_of, entries_of, is_some, contains_entry, is_context, len, is_empty, get_first, search, contains_deep}
use Rattle.paths.specs.Places.{Spot, spot, extent, spot_in}
use Rattle.paths.specs.Way.{cut_of, part_of}
use Rattle.paths.specs.Calls.{context_of, search_deep_call, get_entry_call, get_first_call, contains_deep_call, contains_entry_call, is_context_call, is_empty_call, len_call}

-- the context {1: true, 2: true}: both values have the same bytes
abbrev pub twice : List ℕ
twice = 0x0B ∷ 0x02 ∷ 0x00 ∷ 0x01 ∷ 0x00 ∷ 0x01 ∷ 0x01 ∷ 0x02 ∷ 0x00 ∷ 0x01 ∷ 0x01 ∷ []

-- whether what was found is a context
abbrev pub holds_context : Option Spot → Bool
holds_context none = false
holds_context (some (spot q v)) = is_some (entries_of v)

-- the bytes of c from the place q on are v's encoding
pub record StandsAt (c : List ℕ) (q : ℕ) (v : Val) : Type 0 where
  pub inside : q + length (enc_v v) ≤ length c
  pub bytes : take (length (enc_v v)) (drop q c) ≡ enc_v v

pub record Lookups : Type 0 where
  -- get_entry is the one-name search
  pub entry_tree : (n : ℕ) (es : Entries) → value_of n es ≡ search (n ∷ []) es
  pub entry_call : (c : List ℕ) (n : ℕ) → get_entry_call c n ≡ search_deep_call c (n ∷ [])
  -- contains_deep: yes exactly where search_deep finds a value
  pub deep_tree : (p : List ℕ) (es : Entries) → contains_deep p es ≡ is_some (search p es)
  pub deep_call : (c p : List ℕ) → contains_deep_call c p ≡ (do o ← search_deep_call c p; done (is_some o))
  -- contains_entry: yes exactly where get_entry finds a value
  pub has_tree : (n : ℕ) (es : Entries) → contains_entry n es ≡ is_some (value_of n es)
  pub has_call : (c : List ℕ) (n : ℕ) → contains_entry_call c n ≡ (do o ← get_entry_call c n; done (is_some o))
  -- is_context: yes exactly where get_entry finds a context
  pub context_found : (n : ℕ) (es : Entries) → is_context n es ≡ true → (fs : Entries) × (value_of n es ≡ some (v_context fs))
  pub found_context : (n : ℕ) (es fs : Entries) → value_of n es ≡ some (v_context fs) → is_context n es ≡ true
  pub context_call : (c : List ℕ) (n : ℕ) → is_context_call c n ≡ (do o ← get_entry_call c n; done (holds_context o))
  -- is_empty: yes exactly where len is 0
  pub empty_tree : (es : Entries) → is_empty es ≡ eqb (len es) 0
  pub empty_call : (c : List ℕ) → is_empty_call c ≡ (do n ← len_call c; done (eqb n 0))
  -- get_first: the value of the first entry, and where it stands; none where there is no entry
  pub first_tree : (n : ℕ) (v : Val) (es : Entries) → get_first (entry n v es) ≡ value_of n (entry n v es)
  pub first_call : (c : List ℕ) (n : ℕ) (v : Val) (es : Entries) → context_of c 0 ≡ done (entry n v es) → get_first_call c ≡ get_entry_call c n
  pub first_none : (c : List ℕ) → context_of c 0 ≡ done no_entries → get_first_call c ≡ done none
  -- the empty path: none, and no
  pub nowhere_tree : (es : Entries) → (search [] es ≡ none) × (contains_deep [] es ≡ false)
  pub nowhere_call : (c : List ℕ) (es : Entries) → context_of c 0 ≡ done es → (search_deep_call c [] ≡ done none) × (contains_deep_call c [] ≡ done false)
  -- the walk along a path, which tells what an update there changes, finds what the search finds
  pub search_cut : (p : List ℕ) (es : Entries) → map extent (spot_in p es) ≡ part_of (length p) (cut_of p (v_context es))
  -- a found value stands at its place, the whole of it
  pub deep_stands : (c p : List ℕ) (q : ℕ) (v : Val) → Bytes c → search_deep_call c p ≡ done (some (spot q v)) → StandsAt c q v
  pub entry_stands : (c : List ℕ) (n q : ℕ) (v : Val) → Bytes c → get_entry_call c n ≡ done (some (spot q v)) → StandsAt c q v
  pub first_stands : (c : List ℕ) (q : ℕ) (v : Val) → Bytes c → get_first_call c ≡ done (some (spot q v)) → StandsAt c q v
  -- so of two equal values the one that was asked for
  pub second : search_deep_call twice (2 ∷ []) ≡ done (some (spot 9 (v_leaf (l_boolean true))))
