-- What a key means: document 01's "signed 64-bit", "ordered as whole numbers".
-- Assumes nothing.
use Rattle.std.specs.Prelude.{◌≡◌, true, ◌↔◌, ◌⊎◌, ℕ, ◌<◌, ◌^◌, ℤ, ◌≤ℤ◌}
use Rattle.std.specs.Int.Signed.{mag}
use Rattle.ranges.specs.Ranges.{meaning, signed_le, key, in_order}

-- a whole number from -2^63 to 2^63 - 1. (`mag` is n both of n and of -(n + 1).)
abbrev pub Holds64 : ℤ → Type 0
Holds64 z = mag z < 2 ^ 63

-- the key that means this whole number
pub record KeyOf (z : ℤ) : Type 0 where
  pub of : ℕ
  pub eight_bytes : of < 2 ^ 64
  pub means : meaning of ≡ z

-- `signed_le` is the order of the whole numbers that keys mean
pub record KeyOrder : Type 0 where
  pub whole_numbers : (a b : ℕ) → a < 2 ^ 64 → b < 2 ^ 64 → (signed_le a b ≡ true) ↔ (meaning a ≤ℤ meaning b)
  -- so a range of two keys of one kind is in order exactly where the end's whole number is not smaller
  pub not_smaller : (i j k a b : ℕ) → a < 2 ^ 64 → b < 2 ^ 64 → (in_order i j (key k a) (key k b) ≡ true) ↔ (meaning a ≤ℤ meaning b)
  -- keys and the whole numbers of 64 bits correspond
  pub in_range : (a : ℕ) → a < 2 ^ 64 → Holds64 (meaning a)
  pub every_number : (z : ℤ) → Holds64 z → KeyOf z
  pub one_key : (a b : ℕ) → a < 2 ^ 64 → b < 2 ^ 64 → meaning a ≡ meaning b → a ≡ b
  -- a total order, of numbers of any size
  pub reflexive : (a : ℕ) → signed_le a a ≡ true
  pub transitive : (a b c : ℕ) → signed_le a b ≡ true → signed_le b c ≡ true → signed_le a c ≡ true
  pub total : (a b : ℕ) → (signed_le a b ≡ true) ⊎ (signed_le b a ≡ true)
  pub antisymmetric : (a b : ℕ) → signed_le a b ≡ true → signed_le b a ≡ true → a ≡ b
