-- `form::walk::pass_value` meets its contract: the walk's two numbers are its answer.
-- Assumes nothing.
use Rattle.form.proofs.Whole.{place_is, told_passed}
use Rattle.form.proofs.walk.pass_value.Goals as goal

pub passed-requires : goal.passed-requires
passed-requires c = λ e. place_is _ _ _ _ c.walk_value-size.ensures e

pub returns : goal.returns
returns c = told_passed _ _ _ _ _ c.walk_value-size.ensures c.passed.ensures
