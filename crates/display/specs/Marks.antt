-- Where the texts of a table stand: a mark is the place of a text's length byte.
-- Assumes nothing.
use Rattle.std.specs.Prelude.{ℕ, ◌+◌, ◌<◌, ◌≤◌, ◌≡◌, List, length, take, drop, get_or, map}
use Rattle.std.specs.Prelude.{Option as Answer, None, Some}
use Rattle.std.proofs.Math.Option.{Option, none, some}
use Rattle.form.specs.Limits.{most_bytes}

-- the text whose length byte stands at m
abbrev pub text_from : List ℕ → ℕ → List ℕ
text_from a m = take (get_or a m 0) (drop (m + 1) a)

abbrev pub texts_of : List ℕ → List ℕ → List (List ℕ)
texts_of a marks = map (text_from a) marks

-- each mark is the place of a length byte, and its text is there
pub record Marks (a marks : List ℕ) : Type 0 where
  pub short : length a ≤ most_bytes
  pub inside : (k : ℕ) → k < length marks → get_or marks k 0 + 1 + get_or a (get_or marks k 0) 0 ≤ length a

-- what the reader of a table leaves: how many texts it has, and a mark for each; nothing is said of the marks where it is no table
unfoldable pub Reads : Option (List (List ℕ)) → List ℕ → List ℕ → Answer ℕ → Type 0
Reads none a marks r = r ≡ None
Reads (some ts) a marks r = (r ≡ Some (length ts)) × (length ts ≤ length marks) × (texts_of a (take (length ts) marks) ≡ ts) × Marks a (take (length ts) marks)
