-- The types of the built-in functions, as the call writes them.
-- Index: `bif_refused` (no position); `of_number`, `of_others` (the bytes by the position).
-- Assumes nothing.
use Prim.Native.Nat.{ℕ, ◌<◌, ◌≤◌}
use mathlib.Core.Path.{◌≡◌}
use mathlib.Core.Logic.{◌⊎◌, inl, inr}
use mathlib.Core.List.{List, [], ◌∷◌}
use native.Mathlib.Omega.{arith}
use lib.ListN.{length}
use Rattle.std.specs.declared.result.Result.{Result}
use Rattle.std.specs.declared.result.Result.TheVariants.{Err}
use Rattle.std.proofs.lemmas.Bool.Decides.{nat_tests}
use borrow.Author.Tests.{le-leb, lt-leb, ne_eqb}
use Rattle.form.specs.Outcome.{◌>>◌, fits}
use Rattle.form.specs.Form.{enc, count_tys}
use Rattle.form.specs.Answers.{Built}
use Rattle.form.specs.declared.refusals.Refusal.{Refusal}
use Rattle.form.specs.declared.refusals.Refusal.TheVariants as refusal_is
use Rattle.output.proofs.Outcomes.{built_refused}
use Rattle.ranges.specs.Ranges.{bif_type}
use Rattle.ranges.specs.Calls.{bif_type_call}

pub bif_refused : (b : ℕ) (old : List ℕ) → 85 < b → Built (bif_type_call b (length old)) old old (Err refusal_is.ValueShape)
unfolding ◌>>◌
bif_refused b old h = built_refused (bif_type_call b (length old)) refusal_is.ValueShape old (rw (lt-leb b 85 h))

bif_done : (b : ℕ) (bs old new : List ℕ) (r : Result ℕ Refusal) → b ≤ 85 → enc (bif_type b) ≡ bs → Built (fits (length old) bs) old new r → Built (bif_type_call b (length old)) old new r
unfolding ◌>>◌
bif_done b bs old new r h e w = rw (le-leb b 85 h, e) w

module _ (b : ℕ) (old new : List ℕ) (r : Result ℕ Refusal) where
  pub of_number : (b ≡ 0) ⊎ (b ≡ 67) → Built (fits (length old) (0x2D ∷ 0x01 ∷ 0x22 ∷ 0x22 ∷ [])) old new r → Built (bif_type_call b (length old)) old new r
  unfolding enc count_tys
  of_number h = bif_done b (0x2D ∷ 0x01 ∷ 0x22 ∷ 0x22 ∷ []) old new r (omega arith) (grind (arith, nat_tests))

  pub of_others : b ≤ 85 → ((b ≡ 0) ⊎ (b ≡ 67) → ⊥) → Built (fits (length old) (0x20 ∷ [])) old new r → Built (bif_type_call b (length old)) old new r
  unfolding enc
  of_others k h = bif_done b (0x20 ∷ []) old new r k (rw (ne_eqb b 0 (λ e. h (inl e)), ne_eqb b 67 (λ e. h (inr e))))
