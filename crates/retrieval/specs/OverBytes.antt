-- What is stated of the calls for retrieval, over bytes: t and v are accepted, and every room of the output.
-- Assumes nothing.
use Rattle.std.specs.Prelude.{ℕ, ◌≤◌, ◌≡◌, true, false, List, [], ◌∷◌, length}
use Rattle.std.proofs.Math.Option.{Option}
use Rattle.form.specs.Form.{Bytes}
use Rattle.form.specs.Trees.{Val}
use Rattle.form.specs.Outcome.{Outcome, done, refused, ◌>>=◌, or_refuse, fits}
use Rattle.values.specs.Calls as values
use Rattle.retrieval.specs.ByNames.{retrieve_by_names}
use Rattle.retrieval.specs.Calls.{get_value_checked_call, get_conformant_value_call}
use Rattle.output.specs.Result.{checked_result}
use Rattle.values.specs.Calls.{Accepted}

-- an accepted type, an accepted value, and the call for conformance says yes
pub record Conformant (t v : List ℕ) : Type 0 where
  pub both : Accepted t v
  pub yes : values.is_conformant v t ≡ done true

-- what the call for retrieval answers: these bytes, or 18 where they have no room. The bytes are an accepted value that conforms, no longer than the value asked of.
pub record RetrievedBytes (t v : List ℕ) : Type 0 where
  pub answer : List ℕ
  pub are_bytes : Bytes answer
  pub answered : (room : ℕ) → get_value_checked_call t v room ≡ fits room answer
  pub no_longer : length answer ≤ length v
  pub conforms_too : values.is_conformant answer t ≡ done true

-- 15: Err; 17, 18
abbrev pub result_of : ℕ → Option Val → Outcome (List ℕ)
result_of room o = do
  x ← or_refuse 15 o
  checked_result room x

pub record OverBytes : Type 0 where
  -- `get_value_checked` is retrieval over the type's names, as document 01 says it: 15 is its Err
  pub by_names : (t v : List ℕ) (a : Accepted t v) (room : ℕ) → get_value_checked_call t v room ≡ result_of room (retrieve_by_names a.value a.type)
  -- behind conformance: "which then never meets 15"
  pub behind_conformance : (t v : List ℕ) → Conformant t v → RetrievedBytes t v
  pub never_15 : (t v : List ℕ) → Conformant t v → (room : ℕ) → get_value_checked_call t v room ≡ refused 15 → ⊥
  -- room for the value is room for what is retrieved of it
  pub has_room : (t v : List ℕ) (c : Conformant t v) (room : ℕ) → length v ≤ room → get_value_checked_call t v room ≡ done (behind_conformance t v c).answer
  -- 17 is never met, conformant or not
  pub never_17 : (t v : List ℕ) → Accepted t v → (room : ℕ) → get_value_checked_call t v room ≡ refused 17 → ⊥
  -- `get_conformant_value`: target Null, 00 00; otherwise not conformant, 00 02; otherwise retrieval
  pub null_target : (t v : List ℕ) → Accepted t v → t ≡ 0x29 ∷ [] → (room : ℕ) → get_conformant_value_call t v room ≡ fits room (0x00 ∷ 0 ∷ [])
  pub not_conformant : (t v : List ℕ) → Accepted t v → (t ≡ 0x29 ∷ [] → ⊥) → values.is_conformant v t ≡ done false → (room : ℕ)
      → get_conformant_value_call t v room ≡ fits room (0x00 ∷ 2 ∷ [])
  pub conformant : (t v : List ℕ) → Conformant t v → (room : ℕ) → get_conformant_value_call t v room ≡ get_value_checked_call t v room
  -- it refuses nothing that is accepted but for lack of room
  pub only_18 : (t v : List ℕ) → Accepted t v → (room n : ℕ) → get_conformant_value_call t v room ≡ refused n → n ≡ 18
