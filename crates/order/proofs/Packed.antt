-- The number of a table (`packed`) is the table's relation: the order of that reading is the table's order.
-- Idea: bit j of a packed number is the j-th byte packed (`pack_bit`), so both relations agree between Null and Any, and at the ends and on the diagonal the laws decide.
-- The common bound of two types is found by a fold over the codes 1 to 8: with m the least common bound, m stays below the best so far, is taken when the fold comes to it,
-- and is kept from then on (`narrowed_keeps`, `narrowed_takes`).
-- Index: `pack_bit`, `pack_lt`, `flag`, `place_lt`, `packed_bit`, `packed_even` (the bits of a packed number); `inner_or_end` (the eight types between Null and Any);
-- `below_table`, `cmp_table` (the relation, and in a direction); `narrowed_keeps`, `narrowed_takes`, `bound_table` (common bounds); `packed_order`, `fixed_packed`, `fixed_order`.
-- Assumes nothing.
use mathlib.Core.Path.{◌≡◌, refl, sym, ◌∙◌, ap, subst}
use mathlib.Core.Bool.{Bool, true, false, not, cond, ◌&&◌, ◌||◌, true≢false, false≢true}
use mathlib.Core.List.{List, [], ◌∷◌}
use Prim.Native.Nat.{ℕ, zero, suc, ◌+◌, ◌-◌, ◌*◌, ◌/◌, ◌%◌, ◌^◌, ◌<◌, ◌≤◌}
use native.Mathlib.Nat.{not-suc-le-zero, div-div-eq-div-mul, pow-succ', zero-div}
use native.Mathlib.Omega.{arith}
use lib.ListN.{length, get_or}
use lib.Dec.{eqb, ltb, leb}
use borrow.Author.Tests.{ltb-true, ltb-false, leb-true, eqb-false, eq-eqb, ne_eqb}
use Rattle.form.specs.Trees.{Simple, any, boolean, number, string, date, time, date_time, days_and_time, years_and_months, null, code, decode}
use Rattle.form.proofs.ExactTypes.{decode_code, code_decode}
use Rattle.order.specs.Order.{same, Dir, up, down, Order, Laws, top, bottom, scmp, sbound, fixed, bit, is_inner, below, below_in, narrowed, closer, nearest, order_of}
use Rattle.order.specs.Table.{are_flags, in_table, Loads, table_order, place, pack, packed, fixed_table, imp, every}
use Rattle.order.proofs.Simple.{same_eq, and_left, and_right, and_both, every₃_at, imp_use, scmp_refl, scmp_top, scmp_bottom, scmp_bound}
use Rattle.order.proofs.Ends.{Ends, laws_ends, reading_ends, antisym}
use Rattle.order.proofs.Table.{table_laws, fixed_loads, bound_first, bound_second, bound_only}

-- ---- the bits of a packed number
pub pack_bit : (f : ℕ → ℕ) → ((k : ℕ) → f k < 2) → (i k j : ℕ) → j < k → pack f i k / 2 ^ j % 2 ≡ f (i + j)
unfolding pack
pack_bit f h i zero j l = absurd (not-suc-le-zero l)
pack_bit f h i (suc k) zero l = low (f i) (pack f (suc i) k) (h i) ∙ ap f (same_place i)
  where
    same_place : (a : ℕ) → a ≡ a + 0
    same_place a = omega arith

    low : (a b : ℕ) → a < 2 → (a + 2 * b) / 1 % 2 ≡ a
    low a b e = omega arith
pack_bit f h i (suc k) (suc j) l =
    ap (λ n. (f i + 2 * pack f (suc i) k) / n % 2) (pow-succ' 2 j) ∙ ap (λ n. n % 2) (sym (div-div-eq-div-mul (f i + 2 * pack f (suc i) k) 2 (2 ^ j)))
    ∙ ap (λ n. n / 2 ^ j % 2) (high (f i) (pack f (suc i) k) (h i)) ∙ pack_bit f h (suc i) k j (less j k l) ∙ ap f (shift i j)
  where
    high : (a b : ℕ) → a < 2 → (a + 2 * b) / 2 ≡ b
    high a b e = omega arith

    less : (a b : ℕ) → suc a < suc b → a < b
    less a b e = omega arith

    shift : (a b : ℕ) → suc a + b ≡ a + suc b
    shift a b = omega arith

pub pack_lt : (f : ℕ → ℕ) → ((k : ℕ) → f k < 2) → (i k : ℕ) → pack f i k < 2 ^ k
unfolding pack
pack_lt f h i zero = omega arith
pack_lt f h i (suc k) = subst (λ n. f i + 2 * pack f (suc i) k < n) (sym (pow-succ' 2 k)) (more (f i) (pack f (suc i) k) (2 ^ k) (h i) (pack_lt f h (suc i) k))
  where
    more : (a b c : ℕ) → a < 2 → b < c → a + 2 * b < 2 * c
    more a b c p q = omega arith

pub flag : (table : List ℕ) → are_flags table ≡ true → (k : ℕ) → get_or table k 0 < 2
unfolding are_flags
flag [] e k = omega arith
flag (b ∷ bs) e zero = ltb-true b 2 (and_left (ltb b 2) (are_flags bs) e)
flag (b ∷ bs) e (suc k) = flag bs (and_right (ltb b 2) (are_flags bs) e) k

module _ (table : List ℕ) (e : are_flags table ≡ true) where
  pub place_lt : (k : ℕ) → place table k < 2
  place_lt k = step (eqb (k % 9) 0) (get_or table (10 * (k / 8) + k % 8 + 11) 0) (flag table e (10 * (k / 8) + k % 8 + 11))
    where
      step : (q : Bool) (n : ℕ) → n < 2 → cond q 0 n < 2
      step true n h = omega arith
      step false n h = h

  pub packed_bit : (k : ℕ) → k < 64 → packed table / 2 ^ k % 2 ≡ place table k
  packed_bit k h = pack_bit (place table) place_lt 0 64 k h ∙ ap (λ n. place table n) (none k)
    where
      none : (a : ℕ) → 0 + a ≡ a
      none a = omega arith

  -- place 0 is on the diagonal
  pub packed_even : packed table % 2 ≡ 0
  packed_even = whole (packed table) (packed_bit 0 (omega arith))
    where
      whole : (n : ℕ) → n / 1 % 2 ≡ 0 → n % 2 ≡ 0
      whole n h = omega arith

-- ---- Null, Any, or one of the eight between
pub inner_or_end : (P : Simple → Type 0) → P any → P null → ((s : Simple) → is_inner (code s) ≡ true → P s) → (s : Simple) → P s
inner_or_end P a n h any = a
inner_or_end P a n h boolean = h boolean refl
inner_or_end P a n h number = h number refl
inner_or_end P a n h string = h string refl
inner_or_end P a n h date = h date refl
inner_or_end P a n h time = h time refl
inner_or_end P a n h date_time = h date_time refl
inner_or_end P a n h days_and_time = h days_and_time refl
inner_or_end P a n h years_and_months = h years_and_months refl
inner_or_end P a n h null = n

-- one at an end that is not the least type in a direction is the greatest
end_top : (d : Dir) (s : Simple) → is_inner (code s) ≡ false → same s (bottom d) ≡ false → s ≡ top d
end_top up =
    inner_or_end (λ x. is_inner (code x) ≡ false → same x null ≡ false → x ≡ any) (λ p q. refl) (λ p q. absurd (true≢false q))
    (λ s h p q. absurd (true≢false (sym h ∙ p)))
end_top down =
    inner_or_end (λ x. is_inner (code x) ≡ false → same x any ≡ false → x ≡ null) (λ p q. absurd (true≢false q)) (λ p q. refl)
    (λ s h p q. absurd (true≢false (sym h ∙ p)))

-- what holds of every code holds of every number below 9
at_code : (P : ℕ → Type 0) → ((s : Simple) → P (code s)) → (u : ℕ) → u < 9 → P u
at_code P h u l = subst P (code_decode u (omega arith)) (h (decode u))

-- ---- the relation
-- a place that is a multiple of nine is on the diagonal
diagonal : (a b q : ℕ) → a < 8 → b < 8 → 8 * a + b ≡ 9 * q → a ≡ b
diagonal a b q p p' e = step (ltb q a) (ltb a q) refl refl
  where
    step : (x y : Bool) → ltb q a ≡ x → ltb a q ≡ y → a ≡ b
    step true y h k = apart (ltb-true q a h)
      where
        apart : q < a → a ≡ b
        apart r = omega arith
    step false true h k = apart (ltb-true a q k)
      where
        apart : a < q → a ≡ b
        apart r = omega arith
    step false false h k = meeting (ltb-false q a h) (ltb-false a q k)
      where
        meeting : a ≤ q → q ≤ a → a ≡ b
        meeting r r' = omega arith

-- `below` between two of the eight that differ: z says that the reading has no table, b is the bit
one_bit :
    (z p q w x y b : Bool) → p ≡ true → q ≡ true → w ≡ false → x ≡ false → y ≡ false → (z ≡ true → b ≡ false)
    → cond z false (p && (q && b)) || (w || (x || y)) ≡ b
one_bit z false q w x y b hp hq hw hx hy h = absurd (false≢true hp)
one_bit z true false w x y b hp hq hw hx hy h = absurd (false≢true hq)
one_bit z true true true x y b hp hq hw hx hy h = absurd (true≢false hw)
one_bit z true true false true y b hp hq hw hx hy h = absurd (true≢false hx)
one_bit z true true false false true b hp hq hw hx hy h = absurd (true≢false hy)
one_bit true true true false false false b hp hq hw hx hy h = sym (h refl)
one_bit false true true false false false true hp hq hw hx hy h = refl
one_bit false true true false false false false hp hq hw hx hy h = refl

module _ (table : List ℕ) (l : Loads table) where
  flags : are_flags table ≡ true
  flags = and_right (eqb (length table) 100) (are_flags table) l.is_table_lem

  -- a reading without a table is 0 here
  packed_zero : ltb (packed table) 2 ≡ true → packed table ≡ 0
  packed_zero h = even (packed table) (ltb-true (packed table) 2 h) (packed_even table flags)
    where
      even : (n : ℕ) → n < 2 → n % 2 ≡ 0 → n ≡ 0
      even n p q = omega arith

  no_bit : (k : ℕ) → ltb (packed table) 2 ≡ true → bit (packed table) k ≡ false
  no_bit k h = ap (λ n. bit n k) (packed_zero h) ∙ ap (λ n. eqb (n % 2) 1) (zero-div (2 ^ k))

  table_bit : (i j : ℕ) → 1 ≤ i → i ≤ 8 → 1 ≤ j → j ≤ 8 → (i ≡ j → ⊥) → bit (packed table) (8 * (i - 1) + (j - 1)) ≡ eqb (get_or table (10 * i + j) 0) 1
  table_bit i j p p' q q' ne =
      ap (λ n. eqb n 1)
      (packed_bit table flags (8 * (i - 1) + (j - 1)) (omega arith)
      ∙ ap (λ c. cond c 0 (get_or table (10 * ((8 * (i - 1) + (j - 1)) / 8) + (8 * (i - 1) + (j - 1)) % 8 + 11) 0))
      (ne_eqb ((8 * (i - 1) + (j - 1)) % 9) 0 (λ e. ne (on_diagonal e)))
      ∙ ap (λ n. get_or table n 0) row)
    where
      on_diagonal : (8 * (i - 1) + (j - 1)) % 9 ≡ 0 → i ≡ j
      on_diagonal e = back (diagonal (i - 1) (j - 1) ((8 * (i - 1) + (j - 1)) / 9) (omega arith) (omega arith) (omega arith))
        where
          back : i - 1 ≡ j - 1 → i ≡ j
          back h = omega arith

      row : 10 * ((8 * (i - 1) + (j - 1)) / 8) + (8 * (i - 1) + (j - 1)) % 8 + 11 ≡ 10 * i + j
      row = omega arith

  below_inner : (i j : ℕ) → is_inner i ≡ true → is_inner j ≡ true → eqb i j ≡ false → below (packed table) i j ≡ eqb (get_or table (10 * i + j) 0) 1
  below_inner i j p q e =
      one_bit (ltb (packed table) 2) (is_inner i) (is_inner j) (eqb i 9) (eqb j 0) (eqb i j) (bit (packed table) (8 * (i - 1) + (j - 1))) p q
      (ne_eqb i 9 (λ h. above (leb-true i 8 (and_right (leb 1 i) (leb i 8) p)) h)) (ne_eqb j 0 (λ h. positive (leb-true 1 j (and_left (leb 1 j) (leb j 8) q)) h)) e
      (no_bit (8 * (i - 1) + (j - 1)))
      ∙ table_bit i j (leb-true 1 i (and_left (leb 1 i) (leb i 8) p)) (leb-true i 8 (and_right (leb 1 i) (leb i 8) p)) (leb-true 1 j (and_left (leb 1 j) (leb j 8) q))
      (leb-true j 8 (and_right (leb 1 j) (leb j 8) q)) (eqb-false i j e)
    where
      above : i ≤ 8 → i ≡ 9 → ⊥
      above a h = omega arith

      positive : 1 ≤ j → j ≡ 0 → ⊥
      positive a h = omega arith

  pub below_table : (s t : Simple) → below (packed table) (code s) (code t) ≡ in_table table s t
  unfolding table_order
  below_table s t =
      inner_or_end (λ x. below (packed table) (code x) (code t) ≡ in_table table x t) (F.from_any t ∙ sym (E.from_any t)) (F.null_least_lem t ∙ sym (E.null_least_lem t))
      (λ x p.
      inner_or_end (λ y. below (packed table) (code x) (code y) ≡ in_table table x y) (F.any_greatest_lem x ∙ sym (E.any_greatest_lem x)) (F.to_null x ∙ sym (E.to_null x))
      (λ y q. inner x y p q (same x y) refl) t) s
    where
      E : Ends (table_order table)
      E = laws_ends (table_order table) (table_laws table l)

      F : Ends (order_of (packed table))
      F = reading_ends (packed table)

      inner : (x y : Simple) → is_inner (code x) ≡ true → is_inner (code y) ≡ true → (c : Bool) → same x y ≡ c → below (packed table) (code x) (code y) ≡ in_table table x y
      inner x y p q true e =
          subst (λ z. below (packed table) (code x) (code z) ≡ in_table table x z) (same_eq x y e) (F.reflexive x ∙ sym (E.reflexive x))
      inner x y p q false e = below_inner (code x) (code y) p q e

-- ---- a common bound by the fold
-- m is below every common bound of i and j among the numbers below 9
module _ (R : ℕ → ℕ → Bool) (i j m : ℕ) (least : (u : ℕ) → u < 9 → R i u ≡ true → R j u ≡ true → R m u ≡ true) where
  abbrev better : ℕ → ℕ → Bool
  better u best = R i u && (R j u && R u best)

  better_first : (u best : ℕ) → better u best ≡ true → R i u ≡ true
  better_first u best h = and_left (R i u) (R j u && R u best) h

  better_second : (u best : ℕ) → better u best ≡ true → R j u ≡ true
  better_second u best h = and_left (R j u) (R u best) (and_right (R i u) (R j u && R u best) h)

  better_below : (u best : ℕ) → better u best ≡ true → R u best ≡ true
  better_below u best h = and_right (R j u) (R u best) (and_right (R i u) (R j u && R u best) h)

  module _ (only : (u : ℕ) → u < 9 → R m u ≡ true → R u m ≡ true → u ≡ m) where
    pub narrowed_keeps : (u k : ℕ) → u + k ≤ 9 → narrowed better m u k ≡ m
    unfolding narrowed
    narrowed_keeps u zero h = refl
    narrowed_keeps u (suc k) h = step (better u m) refl (narrowed_keeps (suc u) k (omega arith))
      where
        small : u < 9
        small = omega arith

        step : (q : Bool) → better u m ≡ q → narrowed better m (suc u) k ≡ m → narrowed better (cond q u m) (suc u) k ≡ m
        step true e ih =
            ap (λ n. narrowed better n (suc u) k) (only u small (least u small (better_first u m e) (better_second u m e)) (better_below u m e)) ∙ ih
        step false e ih = ih

    pub narrowed_takes : R i m ≡ true → R j m ≡ true → (best u k : ℕ) → u ≤ m → m < u + k → u + k ≤ 9 → R m best ≡ true → narrowed better best u k ≡ m
    unfolding narrowed
    narrowed_takes p q best u zero a b h r = omega arith
    narrowed_takes p q best u (suc k) a b h r =
        step (ltb u m) refl (narrowed_keeps (suc u) k (omega arith)) (λ c. narrowed_takes p q (cond (better u best) u best) (suc u) k c (omega arith) (omega arith))
      where
        small : u < 9
        small = omega arith

        below_next : (x : Bool) → better u best ≡ x → R m (cond x u best) ≡ true
        below_next true e = least u small (better_first u best e) (better_second u best e)
        below_next false e = r

        arrived : u ≡ m → cond (better u best) u best ≡ m
        arrived e =
            ap (λ x. cond x u best)
            (and_both (R i u) (R j u && R u best) (ap (λ n. R i n) e ∙ p)
            (and_both (R j u) (R u best) (ap (λ n. R j n) e ∙ q) (ap (λ n. R n best) e ∙ r)))
            ∙ e

        step :
            (x : Bool) → ltb u m ≡ x → narrowed better m (suc u) k ≡ m
            → (suc u ≤ m → R m (cond (better u best) u best) ≡ true → narrowed better (cond (better u best) u best) (suc u) k ≡ m)
            → narrowed better (cond (better u best) u best) (suc u) k ≡ m
        step true e kept ih = ih (ltb-true u m e) (below_next (better u best) refl)
        step false e kept ih = ap (λ n. narrowed better n (suc u) k) (arrived (meeting (ltb-false u m e))) ∙ kept
          where
            meeting : m ≤ u → u ≡ m
            meeting z = omega arith

-- ---- document 01's relation: two types that differ, neither the least in a direction, have no common bound but the greatest
alone_test : Dir → Simple → Simple → Simple → Bool
alone_test d s t u = imp (scmp fixed d s u && (scmp fixed d t u && (not (same s (bottom d)) && (not (same t (bottom d)) && not (same s t))))) (same u (top d))

alone_all : (d : Dir) → every (λ s. every (λ t. every (λ u. alone_test d s t u))) ≡ true
unfolding alone_test
alone_all up = refl
alone_all down = refl

alone :
    (d : Dir) (s t u : Simple) → same s (bottom d) ≡ false → same t (bottom d) ≡ false → same s t ≡ false → scmp fixed d s u ≡ true → scmp fixed d t u ≡ true
    → u ≡ top d
unfolding alone_test
alone d s t u p q e a b =
    same_eq u (top d)
    (imp_use (scmp fixed d s u && (scmp fixed d t u && (not (same s (bottom d)) && (not (same t (bottom d)) && not (same s t))))) (same u (top d))
    (every₃_at (alone_test d) (alone_all d) s t u)
    (and_both (scmp fixed d s u) (scmp fixed d t u && (not (same s (bottom d)) && (not (same t (bottom d)) && not (same s t)))) a
    (and_both (scmp fixed d t u) (not (same s (bottom d)) && (not (same t (bottom d)) && not (same s t))) b
    (and_both (not (same s (bottom d))) (not (same t (bottom d)) && not (same s t)) (ap not p)
    (and_both (not (same t (bottom d))) (not (same s t)) (ap not q) (ap not e))))))

in_fixed : (d : Dir) (s t : Simple) → scmp fixed d s t ≡ below_in 0 d (code s) (code t)
in_fixed up s t = refl
in_fixed down s t = refl

-- ---- common bounds
bound_formula :
    (reading : ℕ) (d : Dir) (s t : Simple)
    → sbound (order_of reading) d s t
    ≡ cond (same s (bottom d)) t (cond (same t (bottom d)) s (cond (same s t) s (decode (nearest reading d (code s) (code t)))))
bound_formula reading up s t = refl
bound_formula reading down s t = refl

module _ (table : List ℕ) (l : Loads table) (d : Dir) where
  abbrev ordered : Order
  ordered = table_order table

  laws : Laws ordered
  laws = table_laws table l

  pub cmp_table : (s t : Simple) → below_in (packed table) d (code s) (code t) ≡ scmp (table_order table) d s t
  cmp_table = by_dir d
    where
      by_dir : (e : Dir) (s t : Simple) → below_in (packed table) e (code s) (code t) ≡ scmp (table_order table) e s t
      by_dir up s t = unfold table_order in below_table table l s t
      by_dir down s t = unfold table_order in below_table table l t s

  module _ (s t : Simple) where
    abbrev found : Simple
    found = sbound ordered d s t

    first_below : below_in (packed table) d (code s) (code found) ≡ true
    first_below = cmp_table s found ∙ bound_first ordered laws d s t

    second_below : below_in (packed table) d (code t) (code found) ≡ true
    second_below = cmp_table t found ∙ bound_second ordered laws d s t

    least_found :
        (u : ℕ) → u < 9 → below_in (packed table) d (code s) u ≡ true → below_in (packed table) d (code t) u ≡ true → below_in (packed table) d (code found) u ≡ true
    least_found =
        at_code (λ u. below_in (packed table) d (code s) u ≡ true → below_in (packed table) d (code t) u ≡ true → below_in (packed table) d (code found) u ≡ true)
        (λ x p q.
        cmp_table found x ∙ scmp_bound ordered laws d s t x ∙ and_both (scmp ordered d s x) (scmp ordered d t x) (sym (cmp_table s x) ∙ p) (sym (cmp_table t x) ∙ q))

    only_found : (u : ℕ) → u < 9 → below_in (packed table) d (code found) u ≡ true → below_in (packed table) d u (code found) ≡ true → u ≡ code found
    only_found =
        at_code (λ u. below_in (packed table) d (code found) u ≡ true → below_in (packed table) d u (code found) ≡ true → u ≡ code found)
        (λ x p q. ap code (antisym ordered laws d x found (sym (cmp_table x found) ∙ q) (sym (cmp_table found x) ∙ p)))

    -- at the greatest type in the direction
    topmost : found ≡ top d → decode (code (top d)) ≡ found
    topmost h = decode_code (top d) ∙ sym h

    above_top : scmp ordered d (top d) found ≡ true → found ≡ top d
    above_top h = antisym ordered laws d found (top d) (scmp_top ordered laws d found) h

    module _ (p : same s (bottom d) ≡ false) (q : same t (bottom d) ≡ false) (e : same s t ≡ false) where
      -- without a table
      found_alone : ltb (packed table) 2 ≡ true → found ≡ top d
      found_alone h =
          alone d s t found p q e (in_fixed d s found ∙ sym (ap (λ n. below_in n d (code s) (code found)) (packed_zero table l h)) ∙ first_below)
          (in_fixed d t found ∙ sym (ap (λ n. below_in n d (code t) (code found)) (packed_zero table l h)) ∙ second_below)

      -- one of the two is at an end
      found_end : is_inner (code s) && is_inner (code t) ≡ false → found ≡ top d
      found_end h = above_top (step (is_inner (code s)) refl h)
        where
          step : (x : Bool) → is_inner (code s) ≡ x → x && is_inner (code t) ≡ false → scmp ordered d (top d) found ≡ true
          step true a b = subst (λ x. scmp ordered d x found ≡ true) (end_top d t b q) (bound_second ordered laws d s t)
          step false a b = subst (λ x. scmp ordered d x found ≡ true) (end_top d s a p) (bound_first ordered laws d s t)

      -- the bound of a type that is not the least is not the least
      not_bottom : (x : Bool) → same found (bottom d) ≡ x → x ≡ false
      not_bottom true h = absurd (true≢false (sym (eq-eqb (code s) (code (bottom d)) (ap code least-one)) ∙ p))
        where
          least-one : s ≡ bottom d
          least-one =
              antisym ordered laws d s (bottom d) (subst (λ x. scmp ordered d s x ≡ true) (same_eq found (bottom d) h) (bound_first ordered laws d s t))
              (scmp_bottom ordered laws d s)
      not_bottom false h = refl

      -- by the fold
      found_inner : narrowed (closer (packed table) d (code s) (code t)) (code (top d)) 1 8 ≡ code found
      found_inner = step (is_inner (code found)) refl
        where
          step : (x : Bool) → is_inner (code found) ≡ x → narrowed (closer (packed table) d (code s) (code t)) (code (top d)) 1 8 ≡ code found
          step true h =
              narrowed_takes (below_in (packed table) d) (code s) (code t) (code found) least_found only_found first_below second_below (code (top d)) 1 8
              (leb-true 1 (code found) (and_left (leb 1 (code found)) (leb (code found) 8) h))
              (low (code found) (leb-true (code found) 8 (and_right (leb 1 (code found)) (leb (code found) 8) h))) (omega arith)
              (cmp_table found (top d) ∙ scmp_top ordered laws d found)
            where
              low : (n : ℕ) → n ≤ 8 → n < 9
              low n a = omega arith
          step false h =
              ap (λ n. narrowed (closer (packed table) d (code s) (code t)) n 1 8)
              (ap code (sym (end_top d found h (not_bottom (same found (bottom d)) refl))))
              ∙ narrowed_keeps (below_in (packed table) d) (code s) (code t) (code found) least_found only_found 1 8 (omega arith)

      nearest_found : decode (nearest (packed table) d (code s) (code t)) ≡ found
      nearest_found = step (ltb (packed table) 2) (is_inner (code s) && is_inner (code t)) refl refl
        where
          step :
              (x y : Bool) → ltb (packed table) 2 ≡ x → is_inner (code s) && is_inner (code t) ≡ y
              → decode (cond x (code (top d)) (cond y (narrowed (closer (packed table) d (code s) (code t)) (code (top d)) 1 8) (code (top d)))) ≡ found
          step true y a b = topmost (found_alone a)
          step false true a b = ap decode found_inner ∙ decode_code found
          step false false a b = topmost (found_end b)

    pub bound_table : sbound (order_of (packed table)) d s t ≡ sbound (table_order table) d s t
    bound_table = bound_formula (packed table) d s t ∙ step (same s (bottom d)) (same t (bottom d)) (same s t) refl refl refl
      where
        step :
            (x y z : Bool) → same s (bottom d) ≡ x → same t (bottom d) ≡ y → same s t ≡ z
            → cond x t (cond y s (cond z s (decode (nearest (packed table) d (code s) (code t))))) ≡ found
        step true y z p q e =
            bound_only ordered laws d s t t (subst (λ x. scmp ordered d x t ≡ true) (sym (same_eq s (bottom d) p)) (scmp_bottom ordered laws d t))
            (scmp_refl ordered laws d t) (bound_second ordered laws d s t)
        step false true z p q e =
            bound_only ordered laws d s t s (scmp_refl ordered laws d s)
            (subst (λ x. scmp ordered d x s ≡ true) (sym (same_eq t (bottom d) q)) (scmp_bottom ordered laws d s)) (bound_first ordered laws d s t)
        step false false true p q e =
            bound_only ordered laws d s t s (scmp_refl ordered laws d s) (subst (λ x. scmp ordered d x s ≡ true) (same_eq s t e) (scmp_refl ordered laws d s))
            (bound_first ordered laws d s t)
        step false false false p q e = nearest_found p q e

-- ---- the order
pub packed_order : (table : List ℕ) → Loads table → order_of (packed table) ≡ table_order table
unfolding table_order
packed_order table l =
    λ i.
    record {
      strict = ap (λ n. eqb n 1) (packed_even table (flags table l)) i;
      sle = λ s t. below_table table l s t i;
      sjoin = λ s t. bound_table table l up s t i;
      smeet = λ s t. bound_table table l down s t i;
    }

-- ---- document 01's relation as a table
pub fixed_packed : packed fixed_table ≡ 0
unfolding pack
fixed_packed = refl

pub fixed_order : table_order fixed_table ≡ fixed
fixed_order = sym (packed_order fixed_table fixed_loads) ∙ ap order_of fixed_packed
