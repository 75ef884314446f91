-- What stands in a line.
use Rattle.std.specs.Prelude.{◌≡◌, None}
use Rattle.lines.specs.declared.line.Line.{Line}
use Rattle.lines.specs.declared.line.Part.TheVariants.{Word}

-- no word, so nothing is asked
pub record HasNoWord (line : Line) : Type 0 where
  pub part : line.part ≡ Word
  pub question : line.question ≡ None
  pub word : line.word.len ≡ 0
