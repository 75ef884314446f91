-- The order of decimal numbers is that of the rationals they mean (`decimal_order`).
-- Idea: a positive factor on both sides changes neither the order of whole numbers nor their equality (`scaled_le`), so only the difference of the two exponents counts (`shifted`):
-- two decimals may be brought to any common power. The rest is the order of the whole numbers.
-- Index: `decimal_order`.
-- Assumes nothing.
use mathlib.Core.Path.{◌≡◌, refl, sym, ap, ap₂, subst, ◌∙◌}
use mathlib.Core.Bool.{Bool, true, false}
use mathlib.Core.Logic.{◌↔◌, ◌⊎◌, inl, inr}
use Prim.Native.Nat.{ℕ, zero, suc, ◌+◌, ◌*◌, ◌-◌, ◌<◌, ◌≤◌, ◌^◌}
use native.Mathlib.Omega.{arith}
use native.Mathlib.Nat.{one-le-pow, mul-pos, mul-le-mul_right, mul-lt-mul_of_pos_right, mul_assoc, zero-mul}
use lib.Dec.{T, leb, leb-suc-suc}
use lib.IntN.{ℤ, pos, negsuc, neg_ℤ, ◌*ℤ◌}
use lib.Signed.{le_z, ◌≤ℤ◌}
use lib.Pow.{pow-add}
use borrow.Author.Tests.{leb-true, leb-false, le-leb, lt-leb}
use Rattle.std.proofs.lemmas.Bool.Decides.{nat_tests}
use Rattle.std.proofs.lemmas.Int.{ints}
use Rattle.ranges.specs.Ranges.{meaning, signed_le, decimal_le}
use Rattle.ranges.specs.Decimals.{units, DecimalOrder}
use Rattle.ranges.proofs.Signed.{test_yes, order_test}

-- ---- the order of whole numbers, a negative one as minus a natural
neg_neg : (m n : ℕ) → le_z (neg_ℤ (pos m)) (neg_ℤ (pos n)) ≡ leb n m
neg_neg m n = grind (arith, ints, nat_tests)

neg_pos : (m n : ℕ) → le_z (neg_ℤ (pos m)) (pos n) ≡ true
neg_pos m n = grind (arith, ints, nat_tests)

pos_neg : (m n : ℕ) → 0 < n → le_z (pos m) (neg_ℤ (pos n)) ≡ false
pos_neg m n h = grind (arith, ints, nat_tests)

neg_times : (m k : ℕ) → neg_ℤ (pos m) *ℤ pos k ≡ neg_ℤ (pos (m * k))
neg_times zero k = rw zero-mul
neg_times (suc m) k = refl

le_same : (x y : ℤ) → x ≡ y → le_z x y ≡ true
le_same x y e = grind (arith, ints)

le_trans : (x y z : ℤ) → le_z x y ≡ true → le_z y z ≡ true → le_z x z ≡ true
le_trans x y z g h = grind (arith, ints)

le_antisym : (x y : ℤ) → le_z x y ≡ true → le_z y x ≡ true → x ≡ y
le_antisym x y g h = grind (arith, ints)

le_total : (x y : ℤ) (r : Bool) → le_z x y ≡ r → (le_z x y ≡ true) ⊎ (le_z y x ≡ true)
le_total x y true e = inl e
le_total x y false e = inr (grind (arith, ints))

-- ---- factors
pub ten_pos : (p : ℕ) → 0 < 10 ^ p
ten_pos p = one-le-pow p 10 (omega arith)

pub scaled : (k a b : ℕ) → 0 < k → leb (a * k) (b * k) ≡ leb a b
scaled k a b h = go (leb a b) refl
  where
    go : (r : Bool) → leb a b ≡ r → leb (a * k) (b * k) ≡ r
    go true e = le-leb (a * k) (b * k) (mul-le-mul_right k (leb-true a b e))
    go false e = lt-leb (a * k) (b * k) (mul-lt-mul_of_pos_right (leb-false a b e) h)

scaled_le : (k : ℕ) → 0 < k → (x y : ℤ) → le_z (x *ℤ pos k) (y *ℤ pos k) ≡ le_z x y
scaled_le k h (pos a) (pos b) = scaled k a b h
scaled_le k h (pos a) (negsuc b) = pos_neg (a * k) (suc b * k) (mul-pos (omega arith) h)
scaled_le k h (negsuc a) (pos b) = neg_pos (suc a * k) (b * k)
scaled_le k h (negsuc a) (negsuc b) = neg_neg (suc a * k) (suc b * k) ∙ scaled k (suc b) (suc a) h ∙ leb-suc-suc b a

times_assoc : (x : ℤ) (j k : ℕ) → x *ℤ pos j *ℤ pos k ≡ x *ℤ pos (j * k)
times_assoc (pos a) j k = ap pos (mul_assoc a j k)
times_assoc (negsuc a) j k = neg_times (suc a * j) k ∙ ap (λ n. neg_ℤ (pos n)) (mul_assoc (suc a) j k)

-- ---- powers of ten
raised : (x : ℤ) (i k n : ℕ) → i + k ≡ n → x *ℤ pos (10 ^ i) *ℤ pos (10 ^ k) ≡ x *ℤ pos (10 ^ n)
raised x i k n e = times_assoc x (10 ^ i) (10 ^ k) ∙ ap (λ m. x *ℤ pos m) (sym (pow-add 10 i k) ∙ ap (λ m. 10 ^ m) e)

-- only the difference of the exponents counts
shifted : (x y : ℤ) (i j k l : ℕ) → i + l ≡ k + j → le_z (x *ℤ pos (10 ^ i)) (y *ℤ pos (10 ^ j)) ≡ le_z (x *ℤ pos (10 ^ k)) (y *ℤ pos (10 ^ l))
shifted x y i j k l e =
    sym (scaled_le (10 ^ l) (ten_pos l) (x *ℤ pos (10 ^ i)) (y *ℤ pos (10 ^ j)))
    ∙ ap₂ le_z (raised x i l (i + l) refl ∙ sym (raised x k j (i + l) (sym e))) (raised y j l (j + l) refl ∙ sym (raised y l j (j + l) (omega arith)))
    ∙ scaled_le (10 ^ j) (ten_pos j) (x *ℤ pos (10 ^ k)) (y *ℤ pos (10 ^ l))

shifted_eq : (x y : ℤ) (i j k l : ℕ) → i + l ≡ k + j → x *ℤ pos (10 ^ i) ≡ y *ℤ pos (10 ^ j) → x *ℤ pos (10 ^ k) ≡ y *ℤ pos (10 ^ l)
shifted_eq x y i j k l e h =
    le_antisym (x *ℤ pos (10 ^ k)) (y *ℤ pos (10 ^ l)) (sym (shifted x y i j k l e) ∙ le_same (x *ℤ pos (10 ^ i)) (y *ℤ pos (10 ^ j)) h)
    (sym (shifted y x j i l k (omega arith)) ∙ le_same (y *ℤ pos (10 ^ j)) (x *ℤ pos (10 ^ i)) (sym h))

-- ---- the law
test_order : (b : Bool) (x y : ℤ) → b ≡ le_z x y → (b ≡ true) ↔ (x ≤ℤ y)
test_order b x y e = ((λ h. record { le = subst T (sym h ∙ e) tt }), (λ l. e ∙ test_yes (le_z x y) l.le))

whole_numbers : (a p b q : ℕ) → (decimal_le a p b q ≡ true) ↔ ((meaning a *ℤ pos (10 ^ q)) ≤ℤ (meaning b *ℤ pos (10 ^ p)))
whole_numbers a p b q = test_order (decimal_le a p b q) (meaning a *ℤ pos (10 ^ q)) (meaning b *ℤ pos (10 ^ p)) refl

one_exponent : (a b p : ℕ) → a < 2 ^ 64 → b < 2 ^ 64 → decimal_le a p b p ≡ signed_le a b
one_exponent a b p g h = scaled_le (10 ^ p) (ten_pos p) (meaning a) (meaning b) ∙ order_test a b g h

-- a / 10^p in units of 10^-n
unit_powers : (n p q : ℕ) → p ≤ n → q ≤ n → q + (n - q) ≡ (n - p) + p
unit_powers n p q g h = omega arith

-- all three over the product of the three powers
chained : (x y z : ℤ) (p q r : ℕ) → le_z (x *ℤ pos (10 ^ q)) (y *ℤ pos (10 ^ p)) ≡ true → le_z (y *ℤ pos (10 ^ r)) (z *ℤ pos (10 ^ q)) ≡ true
    → le_z (x *ℤ pos (10 ^ r)) (z *ℤ pos (10 ^ p)) ≡ true
chained x y z p q r g h =
    sym (shifted x z (q + r) (p + q) r p (omega arith))
    ∙ le_trans (x *ℤ pos (10 ^ (q + r))) (y *ℤ pos (10 ^ (p + r))) (z *ℤ pos (10 ^ (p + q))) (sym (shifted x y q p (q + r) (p + r) (omega arith)) ∙ g)
    (sym (shifted y z r q (p + r) (p + q) (omega arith)) ∙ h)

pub decimal_order : DecimalOrder
decimal_order =
    record {
      whole_numbers = whole_numbers;
      in_units = λ n a p b q g h. test_order (decimal_le a p b q) (units n a p) (units n b q) (shifted (meaning a) (meaning b) q p (n - p) (n - q) (unit_powers n p q g h));
      equal_in_units = λ n a p b q g h.
          (shifted_eq (meaning a) (meaning b) q p (n - p) (n - q) (unit_powers n p q g h), shifted_eq (meaning a) (meaning b) (n - p) (n - q) q p (sym (unit_powers n p q g h)));
      reflexive = λ a p. le_same (meaning a *ℤ pos (10 ^ p)) (meaning a *ℤ pos (10 ^ p)) refl;
      transitive = λ a p b q c r. chained (meaning a) (meaning b) (meaning c) p q r;
      total = λ a p b q. le_total (meaning a *ℤ pos (10 ^ q)) (meaning b *ℤ pos (10 ^ p)) (decimal_le a p b q) refl;
      equal_exact = λ a p b q.
          let x = meaning a *ℤ pos (10 ^ q) in
          let y = meaning b *ℤ pos (10 ^ p) in
          ((λ h. le_antisym x y h.0 h.1), (λ e. (le_same x y e, le_same y x (sym e))));
      one_exponent = one_exponent;
      not_smaller = λ i j. whole_numbers;
      whole_as_keys = λ i j a b. one_exponent a b 0;
    }
