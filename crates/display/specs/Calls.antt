-- The definition of the call: refusals in document 01's order, then the answer.
-- Assumes nothing.
use Rattle.std.specs.Prelude.{ℕ, List}
use Rattle.form.specs.Outcome.{Outcome, ◌>>=◌, or_refuse, fits}
use Rattle.form.specs.Read.{read_type}
use Rattle.display.specs.Texts.{text}
use Rattle.display.specs.Tables.{read_table}

-- the text of a type over texts; 20: name number not in the table
unfoldable pub text_call : List (List ℕ) → List ℕ → ℕ → Outcome (List ℕ)
text_call texts t room = do
  u ← read_type t
  s ← or_refuse 20 (text texts u)
  fits room s

-- Display of FeelType: self, then the table; 20: name number not in the table
unfoldable pub display_call : List ℕ → List ℕ → ℕ → Outcome (List ℕ)
display_call t table room = do
  u ← read_type t
  texts ← or_refuse 19 (read_table table)
  s ← or_refuse 20 (text texts u)
  fits room s
