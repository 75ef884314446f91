-- The tests of a table's rows are what document 02 asks of the table: `ordered_rows_lem` (27), `joined_rows_lem` (28).
-- Idea: bit j of row i is the byte in row i and column j. A row is contained in another where what the two have in common is the one; two rows have a least common supertype
-- where a row is what they have in common: what conforms to it conforms to both, and it is in its own row. Both sides are read at each type.
-- Index: `row_bit`, `row_lt`, `rows_at` (rows); `ordered_rows_lem`, `joined_rows_lem`.
-- Assumes nothing.
use Prim.Native.Nat.{ℕ, ◌+◌, ◌*◌, ◌/◌, ◌%◌, ◌^◌, ◌<◌, min}
use mathlib.Core.Path.{◌≡◌, refl, sym, ap, ap₂, ◌∙◌, subst}
use mathlib.Core.Bool.{Bool, true, false, not, ◌&&◌, ◌||◌}
use mathlib.Core.List.{List}
use native.Mathlib.Omega.{arith}
use Rattle.std.specs.Int.{bit_at}
use Rattle.std.proofs.lemmas.Nat.Bits.{bit_at_and, same_from_bits_below}
use Rattle.std.proofs.lemmas.Bool.Decides.{nat_tests}
use lib.ListN.{get_or}
use lib.Dec.{eqb, ltb}
use lib.Bits.{bit_and, and_le_l}
use borrow.Author.Tests.{eqb-true, eq-eqb, ltb-true, ltb-false}
use Rattle.form.specs.Trees.{Simple, any, boolean, number, string, date, time, date_time, days_and_time, years_and_months, null, code, decode}
use Rattle.form.proofs.ExactTypes.{code_decode, code_small}
use Rattle.order.specs.Order.{same, bit}
use Rattle.order.specs.Table.{imp, every, exists, reflexive, null_least, any_greatest, antisymmetric, is_ordered, is_join, has_joins, are_flags, in_table}
use Rattle.order.proofs.Simple.{same_eq, and_left, and_right, and_both, imp_use, every_from, exists_from}
use Rattle.order.proofs.Bools.{and_same, and_comm}
use Rattle.order.proofs.Table.{refl_of, null_least_of, any_greatest_of, antisym_of, trans_of, join, join_least_of, passes, bool_iff, imp_from}
use Rattle.order.proofs.Packed.{pack_bit, pack_lt, flag}
use Rattle.tables.specs.Rows.{row_of, rows_of, row, all_from, carries_at, ordered_at, ordered_rows, is_row, joined_at, joined_rows}
use Rattle.tables.proofs.Loops.{all_at, all_from_lem, any_at, any_from_lem}

-- ---- numbers by their bits
min_is : (a b : ℕ) → a < 2 → b < 2 → eqb (min a b) 1 ≡ eqb a 1 && eqb b 1
min_is a b h k = grind (arith, nat_tests)

pub and_bit : (a b j : ℕ) → bit (bit_and a b) j ≡ bit a j && bit b j
and_bit a b j = rw (bit_at_and a b j) (min_is (a / 2 ^ j % 2) (b / 2 ^ j % 2) (omega arith) (omega arith))

same_bit : (a b : ℕ) → a < 2 → b < 2 → eqb a 1 ≡ eqb b 1 → a ≡ b
same_bit a b p q e = grind (arith, nat_tests)

pub same_bits : (k a b : ℕ) → a < 2 ^ k → b < 2 ^ k → ((j : ℕ) → j < k → bit a j ≡ bit b j) → a ≡ b
same_bits k a b p q h = same_from_bits_below k a b p q (λ i l. same_bit (bit_at a i) (bit_at b i) (omega arith) (omega arith) (h i l))

-- ---- the rows of a table
module _ (table : List ℕ) (f : are_flags table ≡ true) where
  flags : (i k : ℕ) → get_or table (10 * i + k) 0 < 2
  flags i k = flag table f (10 * i + k)

  pub row_lt : (i : ℕ) → row_of table i < 2 ^ 10
  row_lt i = pack_lt (λ j. get_or table (10 * i + j) 0) (flags i) 0 10

  -- bit j of row i is the byte in row i and column j
  pub row_bit : (i j : ℕ) → j < 10 → bit (row_of table i) j ≡ eqb (get_or table (10 * i + j) 0) 1
  row_bit i j h =
      let z : 0 + j ≡ j = omega arith in
      ap (λ (x : ℕ). eqb x 1) (pack_bit (λ k. get_or table (10 * i + k) 0) (flags i) 0 10 j h ∙ ap (λ (x : ℕ). get_or table (10 * i + x) 0) z)

  pub rows_at : (s : Simple) → row (rows_of table) (code s) ≡ row_of table (code s)
  rows_at any = refl
  rows_at boolean = refl
  rows_at number = refl
  rows_at string = refl
  rows_at date = refl
  rows_at time = refl
  rows_at date_time = refl
  rows_at days_and_time = refl
  rows_at years_and_months = refl
  rows_at null = refl

  abbrev r : Simple → Simple → Bool
  r = in_table table

  abbrev R : ℕ → ℕ
  R = row (rows_of table)

  -- by the codes of two types
  at : (s t : Simple) → bit (R (code s)) (code t) ≡ r s t
  at s t = ap (λ (x : ℕ). bit x (code t)) (rows_at s) ∙ row_bit (code s) (code t) (code_small t)

  R-lt : (s : Simple) → R (code s) < 2 ^ 10
  R-lt s = subst (λ (x : ℕ). x < 2 ^ 10) (sym (rows_at s)) (row_lt (code s))

  by_code : (P : ℕ → Type 0) → ((s : Simple) → P (code s)) → (i : ℕ) → i < 10 → P i
  by_code P h i l = subst P (code_decode i l) (h (decode i))

  and_lt : (s t : Simple) → bit_and (R (code s)) (R (code t)) < 2 ^ 10
  and_lt s t = let l = and_le_l (R (code s)) (R (code t)) in let m = R-lt s in omega arith

  common : (s t c : Simple) → bit (bit_and (R (code s)) (R (code t))) (code c) ≡ r s c && r t c
  common s t c = and_bit (R (code s)) (R (code t)) (code c) ∙ ap₂ ◌&&◌ (at s c) (at t c)

  -- two numbers of ten bits, by the types
  by_types : (a b : ℕ) → a < 2 ^ 10 → b < 2 ^ 10 → ((c : Simple) → bit a (code c) ≡ bit b (code c)) → a ≡ b
  by_types a b p q h = same_bits 10 a b p q (by_code (λ j. bit a j ≡ bit b j) h)

  -- ---- 27
  module _ (h : ordered_rows (rows_of table) ≡ true) where
    here : (s : Simple) → ordered_at (rows_of table) (code s) ≡ true
    here s = let l = code_small s in all_at (ordered_at (rows_of table)) 0 10 (code s) h (omega arith) (omega arith)

    own : (s : Simple) → r s s ≡ true
    own s = let h = here s in let b = at s s in grind arith

    least : (s : Simple) → r null s ≡ true
    least s = let h = here s in let b = at null s in grind arith

    greatest : (s : Simple) → r s any ≡ true
    greatest s = let h = here s in let b = at s any in grind arith

    carried : (s t : Simple) → carries_at (rows_of table) (code s) (code t) ≡ true
    carried s t =
        let h : all_from (carries_at (rows_of table) (code s)) 0 10 ≡ true = (let a = here s in grind arith) in
        let l = code_small t in
        all_at (carries_at (rows_of table) (code s)) 0 10 (code t) h (omega arith) (omega arith)

    alone : (s t : Simple) → r s t ≡ true → r t s ≡ true → same s t ≡ true
    alone s t p q = let c = carried s t in let a = at s t in let b = at t s in grind arith

    through : (s t u : Simple) → r s t ≡ true → r t u ≡ true → r s u ≡ true
    through s t u p q =
        let e = eqb-true _ _ (and_right (same s t || not (bit (R (code t)) (code s))) _ (imp_use (bit (R (code s)) (code t)) _ (carried s t) (at s t ∙ p))) in
        and_left (r s u) (r t u) (sym (common s t u) ∙ ap (λ (x : ℕ). bit x (code u)) e ∙ at t u ∙ q)

    is_order : is_ordered r ≡ true
    unfolding is_ordered
    is_order =
        and_both (reflexive r) _ (every_from (λ s. r s s) own)
        (and_both (null_least r) _ (every_from (λ s. r null s) least)
        (and_both (any_greatest r) _ (every_from (λ s. r s any) greatest)
        (and_both (antisymmetric r) _
        (every_from (λ s. every (λ t. imp (r s t && r t s) (same s t)))
        (λ s. every_from (λ t. imp (r s t && r t s) (same s t)) (λ t. imp_from (r s t && r t s) (same s t) (λ e. alone s t (and_left (r s t) (r t s) e) (and_right (r s t) (r t s) e)))))
        (every_from (λ s. every (λ t. every (λ u. imp (r s t && r t u) (r s u))))
        (λ s. every_from (λ t. every (λ u. imp (r s t && r t u) (r s u)))
        (λ t. every_from (λ u. imp (r s t && r t u) (r s u))
        (λ u. imp_from (r s t && r t u) (r s u) (λ e. through s t u (and_left (r s t) (r t u) e) (and_right (r s t) (r t u) e)))))))))

  module _ (o : is_ordered r ≡ true) where
    within : (s t : Simple) → r s t ≡ true → bit_and (R (code s)) (R (code t)) ≡ R (code t)
    within s t p = by_types _ _ (and_lt s t) (R-lt t) (λ c. common s t c ∙ (let k = trans_of r o s t c p in grind arith) ∙ sym (at t c))

    carry : (s t : Simple) → carries_at (rows_of table) (code s) (code t) ≡ true
    carry s t =
        imp_from (bit (R (code s)) (code t)) _ (λ e.
        let p = sym (at s t) ∙ e in
        let w = eq-eqb _ _ (within s t p) in
        let n : (r t s ≡ true → same s t ≡ true) = λ q. eq-eqb (code s) (code t) (ap code (antisym_of r o s t p q)) in
        let b = at t s in
        grind arith)

    are_ordered : ordered_rows (rows_of table) ≡ true
    are_ordered =
        all_from_lem (ordered_at (rows_of table)) 0 10 (λ i lo hi. by_code (λ k. ordered_at (rows_of table) k ≡ true) (λ s.
        let a = at s s ∙ refl_of r o s in
        let b = at null s ∙ null_least_of r o s in
        let c = at s any ∙ any_greatest_of r o s in
        let d = all_from_lem (carries_at (rows_of table) (code s)) 0 10 (λ j l h. by_code (λ k. carries_at (rows_of table) (code s) k ≡ true) (carry s) j (omega (arith, h))) in
        grind arith) i (omega (arith, hi)))

  pub ordered_rows_lem : ordered_rows (rows_of table) ≡ is_ordered r
  ordered_rows_lem = bool_iff (ordered_rows (rows_of table)) (is_ordered r) is_order are_ordered

  -- ---- 28
  module _ (o : is_ordered r ≡ true) where
    -- a row that is what two have in common
    join_of : (s t u : Simple) → ((c : Simple) → r u c ≡ r s c && r t c) → is_join r s t u ≡ true
    join_of s t u h =
        let e = sym (h u) ∙ refl_of r o u in
        passes r s t u (and_left (r s u) (r t u) e) (and_right (r s u) (r t u) e) (λ c p. h c ∙ p)

    row_of_lem : (s t u : Simple) → R (code u) ≡ bit_and (R (code s)) (R (code t)) → (c : Simple) → r u c ≡ r s c && r t c
    row_of_lem s t u e c = sym (at u c) ∙ ap (λ (x : ℕ). bit x (code c)) e ∙ common s t c

    module _ (h : joined_rows (rows_of table) ≡ true) where
      lower : (s t : Simple) → code t < code s → (u : Simple) × (R (code u) ≡ bit_and (R (code s)) (R (code t)))
      lower s t l =
          let k = code_small s in
          let p = all_at (joined_at (rows_of table)) 0 10 (code s) h (omega arith) (omega arith) in
          let q = all_at (λ j. is_row (rows_of table) (bit_and (R (code s)) (R j))) 0 (code s) (code t) p (omega arith) (omega arith) in
          let g = any_at (λ u. eqb (R u) (bit_and (R (code s)) (R (code t)))) 0 10 q in
          let c = code_decode g.0 (omega (arith, g.2)) in
          (decode g.0, ap R c ∙ eqb-true _ _ g.3)

      joined : (s t : Simple) → exists (λ u. is_join r s t u) ≡ true
      joined s t = go (ltb (code t) (code s)) (ltb (code s) (code t)) refl refl
        where
          go : (x y : Bool) → ltb (code t) (code s) ≡ x → ltb (code s) (code t) ≡ y → exists (λ u. is_join r s t u) ≡ true
          go true y p q =
              let g = lower s t (ltb-true (code t) (code s) p) in
              exists_from (λ u. is_join r s t u) g.0 (join_of s t g.0 (row_of_lem s t g.0 g.1))
          go false true p q =
              let g = lower t s (ltb-true (code s) (code t) q) in
              exists_from (λ u. is_join r s t u) g.0 (join_of s t g.0 (λ c. row_of_lem t s g.0 g.1 c ∙ and_comm (r t c) (r s c)))
          go false false p q =
              let lo = ltb-false (code t) (code s) p in
              let hi = ltb-false (code s) (code t) q in
              let e = same_eq s t (eq-eqb (code s) (code t) (omega (arith, lo, hi))) in
              exists_from (λ u. is_join r s t u) s (join_of s t s (λ c. sym (and_same (r s c)) ∙ ap (λ x. r s c && r x c) e))

      have_joins : has_joins r ≡ true
      unfolding has_joins
      have_joins = every_from (λ s. every (λ t. exists (λ u. is_join r s t u))) (λ s. every_from (λ t. exists (λ u. is_join r s t u)) (joined s))

    module _ (j : has_joins r ≡ true) where
      is_row_lem : (s t : Simple) → is_row (rows_of table) (bit_and (R (code s)) (R (code t))) ≡ true
      is_row_lem s t =
          let u = join r s t in
          let l = code_small u in
          any_from_lem (λ k. eqb (R k) (bit_and (R (code s)) (R (code t)))) 0 10 (code u) (omega arith) (omega arith)
          (eq-eqb _ _ (by_types _ _ (R-lt u) (and_lt s t) (λ c. at u c ∙ join_least_of r o j s t c ∙ sym (common s t c))))

      are_joined : joined_rows (rows_of table) ≡ true
      are_joined =
          all_from_lem (joined_at (rows_of table)) 0 10 (λ i lo hi. by_code (λ k. joined_at (rows_of table) k ≡ true) (λ s.
          let l = code_small s in
          all_from_lem (λ k. is_row (rows_of table) (bit_and (R (code s)) (R k))) 0 (code s)
          (λ k a b. by_code (λ m. is_row (rows_of table) (bit_and (R (code s)) (R m)) ≡ true) (is_row_lem s) k (omega (arith, b, l)))) i (omega (arith, hi)))

    pub joined_rows_lem : joined_rows (rows_of table) ≡ has_joins r
    joined_rows_lem = bool_iff (joined_rows (rows_of table)) (has_joins r) have_joins are_joined
