-- The answers of the calls: what `Ok` and each refusal means, document 01's number and values.
-- Assumes nothing.
use Rattle.std.specs.Prelude.{ℕ, ◌+◌, ◌≡◌, List, ◌++◌, length, drop}
use Rattle.std.specs.declared.result.Result.{Result}
use Rattle.std.specs.declared.result.Result.TheVariants.{Ok, Err}
use Rattle.form.specs.Limits.{value_refusals, type_refusals}
use Rattle.form.specs.Outcome.{Outcome, done, refused, ◌>>=◌}
use Rattle.form.specs.declared.refusals.Refusal.{Refusal}
use Rattle.form.specs.declared.refusals.Refusal.TheVariants as refusal_is

-- document 01's number of a refusal
abbrev pub number : Refusal → ℕ
number refusal_is.ValueLength = value_refusals
number refusal_is.ValueShape = value_refusals + 1
number refusal_is.ValueNames = value_refusals + 2
number refusal_is.ValueLevel = value_refusals + 3
number refusal_is.ValueLeftOver = value_refusals + 4
number refusal_is.TypeLength = type_refusals
number refusal_is.TypeShape = type_refusals + 1
number refusal_is.TypeNames = type_refusals + 2
number refusal_is.TypeLevel = type_refusals + 3
number refusal_is.TypeLeftOver = type_refusals + 4
number refusal_is.PathLength = 11
number refusal_is.NotContext = 12
number refusal_is.NotData = 13
number refusal_is.Scratch = 14
number refusal_is.NotRetrieved = 15
number refusal_is.NotApplied = 16
number refusal_is.ResultSize = 17
number refusal_is.Output = 18
number refusal_is.Texts = 19
number refusal_is.NoSuchName = 20
number refusal_is.Table = 26
number refusal_is.NotOrdered = 27
number refusal_is.NoJoin = 28

-- what a call answers: the level, yes or no, or the length of what it wrote; or the number of the refusal
abbrev pub outcome : {X : Type 0} → Result X Refusal → Outcome X
outcome (Ok x) = done x
outcome (Err refusal) = refused (number refusal)

-- ---- the output of a call that builds
-- `bs` over the front of `old`
unfoldable pub onto : List ℕ → List ℕ → List ℕ
onto bs old = bs ++ drop (length bs) old

-- the answer at the front and nothing after it; a refusal leaves the output untouched
unfoldable pub leaves : Outcome (List ℕ) → List ℕ → List ℕ
leaves (done bs) old = onto bs old
leaves (refused n) old = old

-- the length of what was built
unfoldable pub length_of : Outcome (List ℕ) → Outcome ℕ
length_of o = do
  bs ← o
  done (length bs)

-- what a call that builds owes, `o` being its definition, `old` and `new` the output before and after
pub record Built (o : Outcome (List ℕ)) (old new : List ℕ) (r : Result ℕ Refusal) : Type 0 where
  pub answer : outcome r ≡ length_of o
  pub output : new ≡ leaves o old
