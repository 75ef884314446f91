-- What a decimal number means: document 02's "coefficient divided by 10 to the power p", compared "by exact value, for all coefficients".
-- Assumes nothing.
use Rattle.std.specs.Prelude.{◌≡◌, true, ◌↔◌, ◌⊎◌, ℕ, ◌-◌, ◌<◌, ◌≤◌, ◌^◌, ℤ, pos, ◌*ℤ◌, ◌≤ℤ◌}
use Rattle.form.specs.Trees.{l_number}
use Rattle.ranges.specs.Ranges.{meaning, signed_le, decimal_le, decimal, leaf_point, in_order}

-- a / 10^p in units of 10^-n, a whole number where p is at most n
abbrev pub units : ℕ → ℕ → ℕ → ℤ
units n a p = meaning a *ℤ pos (10 ^ (n - p))

-- a / 10^p and b / 10^q are the same number
abbrev pub Equals : ℕ → ℕ → ℕ → ℕ → Type 0
Equals a p b q = meaning a *ℤ pos (10 ^ q) ≡ meaning b *ℤ pos (10 ^ p)

-- `decimal_le` is the order of the rationals a / 10^p, for all coefficients and exponents
pub record DecimalOrder : Type 0 where
  -- as the whole numbers a * 10^q and b * 10^p
  pub whole_numbers : (a p b q : ℕ) → (decimal_le a p b q ≡ true) ↔ ((meaning a *ℤ pos (10 ^ q)) ≤ℤ (meaning b *ℤ pos (10 ^ p)))
  -- as whole numbers in units of any power that both are whole in: 10^-18 for all decimals there are
  pub in_units : (n a p b q : ℕ) → p ≤ n → q ≤ n → (decimal_le a p b q ≡ true) ↔ (units n a p ≤ℤ units n b q)
  pub equal_in_units : (n a p b q : ℕ) → p ≤ n → q ≤ n → Equals a p b q ↔ (units n a p ≡ units n b q)
  -- a total order, in which exactly equal numbers are at most each other, however they are written
  pub reflexive : (a p : ℕ) → decimal_le a p a p ≡ true
  pub transitive : (a p b q c r : ℕ) → decimal_le a p b q ≡ true → decimal_le b q c r ≡ true → decimal_le a p c r ≡ true
  pub total : (a p b q : ℕ) → (decimal_le a p b q ≡ true) ⊎ (decimal_le b q a p ≡ true)
  pub equal_exact : (a p b q : ℕ) → ((decimal_le a p b q ≡ true) × (decimal_le b q a p ≡ true)) ↔ Equals a p b q
  -- under one exponent the coefficients decide; so on 02 alone, exponent 0, it is the order of keys
  pub one_exponent : (a b p : ℕ) → a < 2 ^ 64 → b < 2 ^ 64 → decimal_le a p b p ≡ signed_le a b
  -- so a range of two numbers is in order exactly where the end's is not smaller, and one of whole numbers as their keys are
  pub not_smaller : (i j a p b q : ℕ) → (in_order i j (decimal a p) (decimal b q) ≡ true) ↔ ((meaning a *ℤ pos (10 ^ q)) ≤ℤ (meaning b *ℤ pos (10 ^ p)))
  pub whole_as_keys : (i j a b : ℕ) → a < 2 ^ 64 → b < 2 ^ 64 → in_order i j (leaf_point (l_number a)) (leaf_point (l_number b)) ≡ signed_le a b
