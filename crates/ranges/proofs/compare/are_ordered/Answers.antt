-- `ranges::compare::are_ordered` meets its contract: each arm is one of the definition; two keys are in order where the whole numbers are that they mean.
-- Assumes nothing.
use Rattle.std.proofs.Common.{arith, ◌∙◌}
use Rattle.std.proofs.lemmas.Bool.Decides.{nat_tests}
use Rattle.ranges.specs.Calls.{point_at}
use Rattle.ranges.proofs.Signed.{keys_test}
use Rattle.ranges.proofs.compare.are_ordered.Goals as goal

pub returns-then-k-h : goal.returns-then-k-h
unfolding point_at
returns-then-k-h c =
    keys_test _ _ c.key.result c.key-then-k-h.result c.key.ensures.eight_bytes c.key-then-k-h.ensures.eight_bytes c.key.ensures.value c.key-then-k-h.ensures.value
    ∙ grind (arith, nat_tests)
