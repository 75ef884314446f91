-- Document 01's proved examples over bytes, and the limits: one table, one result (`examples`, in proofs). Each row is a call's definition and what it gives; example 12 is
-- for every value that fits.
-- Assumes nothing.
use Rattle.std.specs.Prelude.{ℕ, zero, suc, ◌+◌, ◌≤◌, ◌≡◌, Bool, true, false, List, [], ◌∷◌, ◌++◌, length, replicate}
use Rattle.form.specs.Limits.{most_bytes, value_levels}
use Rattle.form.specs.Outcome.{Outcome, done, refused}
use Rattle.form.specs.Form.{level_v}
use Rattle.form.specs.Read.{check_value, check_type}
use Rattle.types.specs.Calls as types
use Rattle.bounds.specs.Calls.{common_supertype, common_subtype, reduced_call}
use Rattle.values.specs.Calls as values
use Rattle.infer.specs.Calls.{least_type_call, type_of_call}
use Rattle.retrieval.specs.Calls.{get_value_checked_call}
use Rattle.coercion.specs.Calls.{coerced_call}
use Rattle.context.specs.Calls.{create_entries_call, apply_entries_call}
use Rattle.vote.specs.Vote.{AcceptedValue}

-- {1: {2: v}} is within the limits: two levels and ten bytes more than v
pub record Fitting (v : AcceptedValue) : Type 0 where
  pub low : level_v v.value + 2 ≤ value_levels
  pub short : 10 + length v.bytes ≤ most_bytes

-- a row: bytes, a verdict or a level that a call gives, or its refusal
pub data Row : Type 0 where
  bytes_are : Outcome (List ℕ) → List ℕ → Row
  verdict_is : Outcome Bool → Bool → Row
  level_is : Outcome ℕ → ℕ → Row
  refused_by : Outcome ℕ → ℕ → Row
  build_refused_by : Outcome (List ℕ) → ℕ → Row
  -- for every accepted value, and for every one that example 12's answer has room for
  for_every : ((v : AcceptedValue) → Row) → Row
  for_fitting : ((v : AcceptedValue) → Fitting v → Row) → Row

unfoldable pub Holds : Row → Type 0
Holds (bytes_are o bs) = o ≡ done bs
Holds (verdict_is o b) = o ≡ done b
Holds (level_is o n) = o ≡ done n
Holds (refused_by o n) = o ≡ refused n
Holds (build_refused_by o n) = o ≡ refused n
Holds (for_every row) = (v : AcceptedValue) → Holds (row v)
Holds (for_fitting row) = (v : AcceptedValue) (f : Fitting v) → Holds (row v f)

unfoldable pub All : List Row → Type 0
All [] = Unit {0}
All (r ∷ rs) = Holds r × All rs

-- ---- the values
-- the number 1
unfoldable pub one : List ℕ
one = 0x02 ∷ 1 ∷ 0 ∷ 0 ∷ 0 ∷ 0 ∷ 0 ∷ 0 ∷ 0 ∷ []

unfoldable pub null : List ℕ
null = 0x00 ∷ 0 ∷ []

unfoldable pub yes : List ℕ
yes = 0x01 ∷ 1 ∷ []

-- a list of two items
unfoldable pub pair : List ℕ → List ℕ → List ℕ
pair v w = 0x0A ∷ 2 ∷ 0 ∷ v ++ w

-- {5: 1, 7: true}
unfoldable pub full : List ℕ
full = 0x0B ∷ 2 ∷ 0 ∷ 5 ∷ 0 ∷ one ++ (7 ∷ 0 ∷ yes)

-- {5: null}
unfoldable pub part : List ℕ
part = 0x0B ∷ 1 ∷ 0 ∷ 5 ∷ 0 ∷ null

-- `type_of` and the least type, with buffers that suffice
unfoldable pub inferred : List ℕ → Outcome (List ℕ)
inferred v = type_of_call v 256 64

unfoldable pub least_of : List ℕ → Outcome (List ℕ)
least_of v = least_type_call v 256 64

-- so many lists of one item, one in the other, around an empty list
unfoldable pub nested : ℕ → List ℕ
nested zero = 0x0A ∷ 0 ∷ 0 ∷ []
nested (suc n) = 0x0A ∷ 1 ∷ 0 ∷ nested n

-- s so many times
unfoldable pub times : ℕ → List ℕ → List ℕ
times zero s = []
times (suc n) s = s ++ times n s

-- 1,824 items: 1,819 numbers and five nulls, 16,384 bytes
unfoldable pub longest : List ℕ
longest = 0x0A ∷ 0x20 ∷ 0x07 ∷ times 1819 one ++ times 5 null

-- so many list types, one in the other, around number
unfoldable pub lists : ℕ → List ℕ
lists n = replicate n 0x2A ++ (0x22 ∷ [])

-- a function type of 190 parameters: 63 are function types of 255 parameters, all other types number; 16,384 bytes
unfoldable pub longest_type : List ℕ
longest_type = 0x2D ∷ 0xBE ∷ times 63 (0x2D ∷ 0xFF ∷ replicate 256 0x22) ++ replicate 128 0x22

unfoldable pub table : List Row
table =
    -- 1. []
    bytes_are (inferred (0x0A ∷ 0 ∷ 0 ∷ [])) (0x2A ∷ 0x29 ∷ [])
    ∷ bytes_are (least_of (0x0A ∷ 0 ∷ 0 ∷ [])) (0x2A ∷ 0x29 ∷ [])
    -- 2. [1, null]
    ∷ bytes_are (inferred (pair one null)) (0x2A ∷ 0x22 ∷ [])
    ∷ bytes_are (least_of (pair one null)) (0x2A ∷ 0x22 ∷ [])
    -- 3. [null, 1]
    ∷ bytes_are (inferred (pair null one)) (0x2A ∷ 0x20 ∷ [])
    ∷ bytes_are (least_of (pair null one)) (0x2A ∷ 0x22 ∷ [])
    -- 4. [1, true]
    ∷ bytes_are (inferred (pair one yes)) (0x2A ∷ 0x20 ∷ [])
    ∷ bytes_are (least_of (pair one yes)) (0x2A ∷ 0x20 ∷ [])
    -- 5. [{5: 1, 7: true}, {5: null}]
    ∷ bytes_are (inferred (pair full part)) (0x2A ∷ 0x20 ∷ [])
    ∷ bytes_are (least_of (pair full part)) (0x2A ∷ 0x2C ∷ 1 ∷ 0 ∷ 5 ∷ 0 ∷ 0x22 ∷ [])
    -- 6. 2D 00 22 and 2D 00 23
    ∷ verdict_is (types.is_conformant (0x2D ∷ 0 ∷ 0x22 ∷ []) (0x2D ∷ 0 ∷ 0x23 ∷ [])) true
    ∷ verdict_is (types.is_conformant (0x2D ∷ 0 ∷ 0x23 ∷ []) (0x2D ∷ 0 ∷ 0x22 ∷ [])) true
    ∷ bytes_are (reduced_call (0x2D ∷ 0 ∷ 0x22 ∷ []) 3) (0x2D ∷ 0 ∷ 0x20 ∷ [])
    ∷ bytes_are (reduced_call (0x2D ∷ 0 ∷ 0x23 ∷ []) 3) (0x2D ∷ 0 ∷ 0x20 ∷ [])
    -- 7. 2D 01 22 20 and 2D 01 29 20
    ∷ verdict_is (types.is_conformant (0x2D ∷ 1 ∷ 0x22 ∷ 0x20 ∷ []) (0x2D ∷ 1 ∷ 0x29 ∷ 0x20 ∷ [])) true
    ∷ verdict_is (types.is_conformant (0x2D ∷ 1 ∷ 0x29 ∷ 0x20 ∷ []) (0x2D ∷ 1 ∷ 0x22 ∷ 0x20 ∷ [])) false
    -- 8. supertype of 2D 01 22 22 and 2D 01 23 23
    ∷ bytes_are (common_supertype (0x2D ∷ 1 ∷ 0x22 ∷ 0x22 ∷ []) (0x2D ∷ 1 ∷ 0x23 ∷ 0x23 ∷ []) 8 4) (0x2D ∷ 1 ∷ 0x29 ∷ 0x20 ∷ [])
    -- 9. subtype of 2C 01 00 01 00 22 and 2C 01 00 02 00 23
    ∷ bytes_are (common_subtype (0x2C ∷ 1 ∷ 0 ∷ 1 ∷ 0 ∷ 0x22 ∷ []) (0x2C ∷ 1 ∷ 0 ∷ 2 ∷ 0 ∷ 0x23 ∷ []) 12 9) (0x2C ∷ 2 ∷ 0 ∷ 1 ∷ 0 ∷ 0x22 ∷ 2 ∷ 0 ∷ 0x23 ∷ [])
    -- 10. [1] coerced to list<list<number>>
    ∷ bytes_are (coerced_call (0x0A ∷ 1 ∷ 0 ∷ one) (0x2A ∷ 0x2A ∷ 0x22 ∷ []) 16) (0 ∷ 1 ∷ [])
    -- 11. {} against context<1: number>, and retrieved by it
    ∷ verdict_is (values.is_conformant (0x0B ∷ 0 ∷ 0 ∷ []) (0x2C ∷ 1 ∷ 0 ∷ 1 ∷ 0 ∷ 0x22 ∷ [])) false
    ∷ bytes_are (get_value_checked_call (0x2C ∷ 1 ∷ 0 ∷ 1 ∷ 0 ∷ 0x22 ∷ []) (0x0B ∷ 0 ∷ 0 ∷ []) 16) (0x0B ∷ 0 ∷ 0 ∷ [])
    -- 12. {1: true}, path 1 2
    ∷ for_fitting (λ v f. bytes_are (create_entries_call (0x0B ∷ 1 ∷ 0 ∷ 1 ∷ 0 ∷ yes) (1 ∷ 2 ∷ []) v.bytes most_bytes) (0x0B ∷ 1 ∷ 0 ∷ 1 ∷ 0 ∷ 0x0B ∷ 1 ∷ 0 ∷ 2 ∷ 0 ∷ v.bytes))
    ∷ for_every (λ v. build_refused_by (apply_entries_call (0x0B ∷ 1 ∷ 0 ∷ 1 ∷ 0 ∷ yes) (1 ∷ 2 ∷ []) v.bytes most_bytes) 16)
    -- a list at level 31 is read, at 32 refused 4
    ∷ level_is (check_value (nested 30)) 31
    ∷ refused_by (check_value (nested 31)) 4
    -- 16,384 bytes are read, 16,385 refused
    ∷ level_is (check_value longest) 2
    ∷ refused_by (check_value (longest ++ (0 ∷ []))) 1
    -- a type at level 32 is read, at 33 refused 9
    ∷ level_is (check_type (lists 31)) 32
    ∷ refused_by (check_type (lists 32)) 9
    -- a type of 16,384 bytes is read, of 16,385 refused
    ∷ level_is (check_type longest_type) 3
    ∷ refused_by (check_type (longest_type ++ (0x22 ∷ []))) 6
    ∷ []
