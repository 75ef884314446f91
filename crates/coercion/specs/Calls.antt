-- The definitions of the calls: refusals in document 01's order, then the answer.
-- Assumes nothing.
use Rattle.std.specs.Prelude.{◌≡◌, Bool, false, ◌&&◌, List, ◌∷◌, ℕ, ◌+◌, length, leb}
use Rattle.std.proofs.Math.Option.{Option, some}
use Rattle.form.specs.Limits.{most_bytes, type_levels, value_levels}
use Rattle.form.specs.Outcome.{Outcome, ◌>>=◌, ◌>>◌, check, fits}
use Rattle.form.specs.Trees.{Ty, Val}
use Rattle.form.specs.Form.{level_v}
use Rattle.form.specs.Read.{read_type, read_value}
use Rattle.form.specs.Options.{WhereBoth}
use Rattle.order.specs.Document.{conforms_to}
use Rattle.types.specs.At.{type_at}
use Rattle.values.specs.At.{value_at}
use Rattle.ranges.specs.Ranges.{bif_type}
use Rattle.coercion.specs.Coerce.{coerced}
use Rattle.output.specs.Result.{checked_result}
use Rattle.values.specs.Calls.{Accepted}

-- Value::coerced: self, then the target; 17 and 18 of the result
unfoldable pub coerced_call : List ℕ → List ℕ → ℕ → Outcome (List ℕ)
coerced_call v t room = do
  w ← read_value v
  u ← read_type t
  checked_result room (coerced w u)

-- ---- for the helpers behind the readers
-- both arguments were accepted, and the value has this level
pub record Ready (v t : List ℕ) (lv : ℕ) : Type 0 where
  pub both : Accepted t v
  pub level : lv ≡ level_v both.value

-- a one-item list around the bytes of a value of level `lv`
abbrev pub wrapped : List ℕ → ℕ → ℕ → Outcome (List ℕ)
wrapped v lv room = do
  check 17 (leb (length v + 3) most_bytes && leb (lv + 1) value_levels)
  fits room (0x0A ∷ 1 ∷ 0 ∷ v)

-- what a helper answers: yes exactly where both were read and the first passes the test against the second
unfoldable pub Says : {X Y : Type 0} → (X → Y → Bool) → Option X → Option Y → Bool → Type 0
Says test p q r = WhereBoth (r ≡ false) (λ x y. r ≡ test x y) p q

-- of the value and the type at the fronts
abbrev pub SaysAt : (Val → Ty → Bool) → List ℕ → List ℕ → Bool → Type 0
SaysAt test v t r = Says test (value_at value_levels v) (type_at type_levels t) r

-- of the type of the built-in function at position b, and the type at the front
abbrev pub BifSays : ℕ → List ℕ → Bool → Type 0
BifSays b t r = Says conforms_to (some (bif_type b)) (type_at type_levels t) r
