-- What stands in a lent output: bytes over its front or from a place on, and as much of them as has room.
-- Assumes nothing.
use Rattle.std.specs.Prelude.{List, ◌++◌, ℕ, min, take, drop, length, ◌≡◌}
use Rattle.form.specs.Answers.{onto}
use Rattle.std.proofs.Math.Option.{Option, none, some}

-- `bs` over `old` from n on
unfoldable pub over : ℕ → List ℕ → List ℕ → List ℕ
over n bs old = take n old ++ onto bs (drop n old)

-- as much of `bs` as has room, over the front of `old`
unfoldable pub fill : List ℕ → List ℕ → List ℕ
fill bs old = onto (take (length old) bs) old

-- `src` from `at` on, as much as has room
unfoldable pub puts : ℕ → List ℕ → List ℕ → List ℕ
puts at src old = take (min at (length old)) old ++ fill src (drop (min at (length old)) old)

-- the output; behind an Err it is free, and as long as it was
unfoldable pub Filled : Option (List ℕ) → List ℕ → List ℕ → Type 0
Filled (some bs) old new = new ≡ fill bs old
Filled none old new = length new ≡ length old
