-- The first fault from the left: ends inside, unknown command or operand; names not ascending; too deep.
-- Assumes nothing.
use Rattle.std.specs.Prelude.{ℕ}
pub use Rattle.form.specs.declared.walk.Fault.{Fault}
pub use Rattle.form.specs.declared.walk.Fault.TheVariants.{Shape, Names, Level}

-- its place among the refusals
abbrev pub place : Fault → ℕ
place Shape = 1
place Names = 2
place Level = 3
