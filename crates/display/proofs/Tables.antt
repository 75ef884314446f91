-- The rules of a text of the table: the order of texts is that of slices.
-- Assumes nothing.
use Rattle.std.proofs.Common.{◌≡◌, ℕ, List, [], ◌∷◌, refl, arith}
use Rattle.std.specs.Ordering.{nat_cmp, is_lt}
use Rattle.std.specs.Cmp.Lexicographic.{slice_cmp}
use Rattle.std.proofs.lemmas.Bool.Decides.{nat_tests}
use Rattle.display.specs.Tables.{less_text}

pub less_is : (s t : List ℕ) → less_text s t ≡ is_lt (slice_cmp nat_cmp s t)
unfolding less_text
less_is [] [] = refl
less_is [] (b ∷ t) = refl
less_is (a ∷ s) [] = refl
less_is (a ∷ s) (b ∷ t) = let h = less_is s t in grind (arith, nat_tests)
