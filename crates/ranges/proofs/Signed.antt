-- The order of keys is that of the whole numbers they mean (`key_order`).
-- Idea: what a key means is what std's `cast_signed` gives (`cast_is`); both sides of each law are comparisons of naturals once the signs are known.
-- Index: `key_order`; `cast_is`, `keys_test` (as the code has it); `test_yes`, `order_test` (for decimals).
-- Assumes nothing.
use mathlib.Core.Path.{◌≡◌, refl, sym, ap, subst, ◌∙◌}
use mathlib.Core.Bool.{Bool, true, false}
use mathlib.Core.Logic.{◌↔◌, ◌⊎◌, inl, inr}
use Prim.Native.Nat.{ℕ, ◌<◌, ◌^◌}
use native.Mathlib.Omega.{arith}
use lib.Dec.{T}
use lib.IntN.{ℤ}
use lib.Signed.{le_z, ◌≤ℤ◌}
use mir.Val.{SFits, to_z, of_z}
use Rattle.std.specs.Int.{w64, cast_signed, cast_unsigned}
use Rattle.std.proofs.lemmas.Int.{ints, to_z-of_z, of_z-to_z}
use Rattle.std.proofs.lemmas.Bool.Decides.{nat_tests}
use borrow.Author.Tests.{eq-eqb}
use Rattle.ranges.specs.Ranges.{meaning, signed_le, key, in_order}
use Rattle.ranges.specs.Signed.{Holds64, KeyOf, KeyOrder}

-- a test that passed
pub test_yes : (q : Bool) → T q → q ≡ true
test_yes true t = refl
test_yes false t = absurd t

-- the whole number of a key is what `cast_signed` gives
pub cast_is : (k : ℕ) → k < 2 ^ 64 → cast_signed w64 k ≡ meaning k
unfolding meaning
cast_is k h = grind (arith, nat_tests)

held : (a : ℕ) → a < 2 ^ 64 → Holds64 (meaning a)
held a h = rw (← cast_is a h) (grind (arith, nat_tests))

-- the order of the meanings, as a test
pub order_test : (a b : ℕ) → a < 2 ^ 64 → b < 2 ^ 64 → le_z (meaning a) (meaning b) ≡ signed_le a b
order_test a b h g = rw (← cast_is a h, ← cast_is b g) (grind (arith, nat_tests))

-- the order of two numbers that keys mean, as the code tests it
pub keys_test : (a b : ℕ) (x y : ℤ) → a < 2 ^ 64 → b < 2 ^ 64 → x ≡ meaning a → y ≡ meaning b → le_z (to_z w64 (of_z w64 x)) (to_z w64 (of_z w64 y)) ≡ signed_le a b
keys_test a b x y h g e f =
    let p : to_z w64 (of_z w64 (meaning a)) ≡ meaning a = to_z-of_z w64 (meaning a) (record { sfits = held a h }) in
    let q : to_z w64 (of_z w64 (meaning b)) ≡ meaning b = to_z-of_z w64 (meaning b) (record { sfits = held b g }) in
    rw (e, f, p, q) (order_test a b h g)

whole : (a b : ℕ) → a < 2 ^ 64 → b < 2 ^ 64 → (signed_le a b ≡ true) ↔ (meaning a ≤ℤ meaning b)
whole a b h g =
    let e = order_test a b h g in
    ((λ y. record { le = subst T (sym (e ∙ y)) tt }), (λ l. sym e ∙ test_yes (le_z (meaning a) (meaning b)) l.le))

-- of one kind
not_less : (i j k a b : ℕ) → a < 2 ^ 64 → b < 2 ^ 64 → (in_order i j (key k a) (key k b) ≡ true) ↔ (meaning a ≤ℤ meaning b)
not_less i j k a b h g = rw (eq-eqb k k refl) (whole a b h g)

key_of : (z : ℤ) → Holds64 z → KeyOf z
key_of z h =
    let f : SFits w64 z = record { sfits = h } in
    let l : cast_unsigned w64 z < 2 ^ 64 = omega (arith, ints) in
    record { of = cast_unsigned w64 z; eight_bytes = l; means = sym (cast_is (cast_unsigned w64 z) l) ∙ to_z-of_z w64 z f }

one_key : (a b : ℕ) → a < 2 ^ 64 → b < 2 ^ 64 → meaning a ≡ meaning b → a ≡ b
one_key a b h g e = sym (of_z-to_z w64 a h) ∙ ap (cast_unsigned w64) (cast_is a h ∙ e ∙ sym (cast_is b g)) ∙ of_z-to_z w64 b g

-- ---- a total order of keys
same_key : (a : ℕ) → signed_le a a ≡ true
same_key a = grind (arith, nat_tests)

trans : (a b c : ℕ) → signed_le a b ≡ true → signed_le b c ≡ true → signed_le a c ≡ true
trans a b c g h = grind (arith, nat_tests)

antisym : (a b : ℕ) → signed_le a b ≡ true → signed_le b a ≡ true → a ≡ b
antisym a b g h = grind (arith, nat_tests)

either : (a b : ℕ) (r : Bool) → signed_le a b ≡ r → (signed_le a b ≡ true) ⊎ (signed_le b a ≡ true)
either a b true e = inl e
either a b false e = inr (grind (arith, nat_tests))

pub key_order : KeyOrder
key_order =
    record {
      whole_numbers = whole;
      not_smaller = not_less;
      in_range = held;
      every_number = key_of;
      one_key = one_key;
      reflexive = same_key;
      transitive = trans;
      total = λ a b. either a b (signed_le a b) refl;
      antisymmetric = antisym;
    }
