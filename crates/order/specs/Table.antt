-- K9: the members' own table of the ten simple types. A hundred bytes, 0 or 1: the byte in row s and column t, both in the order 20 to 29, says whether s conforms to t.
-- Here stand what loading asks of a table, the order that a table gives, its number, by which the walks and builders have it, and document 01's relation as a table.
-- Assumes nothing.
use Rattle.std.specs.Prelude.{ℕ, zero, suc, ◌+◌, ◌*◌, ◌/◌, ◌%◌, ◌≡◌, Bool, true, false, not, cond, ◌&&◌, ◌||◌, List, [], ◌∷◌, length, get_or, eqb, ltb}
use Rattle.form.specs.Trees.{Simple, any, boolean, number, string, date, time, date_time, days_and_time, years_and_months, null, code}
use Rattle.order.specs.Order.{same, Order}

-- ---- tests over the ten simple types
abbrev pub simples : List Simple
simples = any ∷ boolean ∷ number ∷ string ∷ date ∷ time ∷ date_time ∷ days_and_time ∷ years_and_months ∷ null ∷ []

abbrev pub all_of : (Simple → Bool) → List Simple → Bool
all_of f [] = true
all_of f (s ∷ xs) = f s && all_of f xs

abbrev pub any_of : (Simple → Bool) → List Simple → Bool
any_of f [] = false
any_of f (s ∷ xs) = f s || any_of f xs

-- the first that passes; Any where none does
abbrev pub first : (Simple → Bool) → List Simple → Simple
first f [] = any
first f (s ∷ xs) = cond (f s) s (first f xs)

abbrev pub every : (Simple → Bool) → Bool
every f = all_of f simples

abbrev pub exists : (Simple → Bool) → Bool
exists f = any_of f simples

abbrev pub imp : Bool → Bool → Bool
imp a b = not a || b

-- ---- what loading asks of a relation, r s t meaning that s conforms to t
module _ (r : Simple → Simple → Bool) where
  -- each type conforms to itself, Null to all, and all to Any
  abbrev pub reflexive : Bool
  reflexive = every (λ s. r s s)

  abbrev pub null_least : Bool
  null_least = every (λ s. r null s)

  abbrev pub any_greatest : Bool
  any_greatest = every (λ s. r s any)

  -- no two types conform mutually
  abbrev pub antisymmetric : Bool
  antisymmetric = every (λ s. every (λ t. imp (r s t && r t s) (same s t)))

  -- conformance carries through a third
  abbrev pub transitive : Bool
  transitive = every (λ s. every (λ t. every (λ u. imp (r s t && r t u) (r s u))))

  -- 27: one of these fails
  unfoldable pub is_ordered : Bool
  is_ordered = reflexive && (null_least && (any_greatest && (antisymmetric && transitive)))

  -- u is the least common supertype of s and t: both conform to it, and it conforms to every type to which both conform
  abbrev pub is_join : Simple → Simple → Simple → Bool
  is_join s t u = r s u && (r t u && every (λ c. imp (r s c && r t c) (r u c)))

  -- u is their greatest common subtype: it conforms to both, and every type that conforms to both conforms to it
  abbrev pub is_meet : Simple → Simple → Simple → Bool
  is_meet s t u = r u s && (r u t && every (λ c. imp (r c s && r c t) (r c u)))

  -- 28: two types lack a least common supertype
  unfoldable pub has_joins : Bool
  has_joins = every (λ s. every (λ t. exists (λ u. is_join s t u)))

-- ---- a table
-- 26: another length, or a byte that is neither 0 nor 1
unfoldable pub are_flags : List ℕ → Bool
are_flags [] = true
are_flags (b ∷ bs) = ltb b 2 && are_flags bs

abbrev pub is_table : List ℕ → Bool
is_table table = eqb (length table) 100 && are_flags table

-- row s conforms to column t
abbrev pub in_table : List ℕ → Simple → Simple → Bool
in_table table s t = eqb (get_or table (10 * code s + code t) 0) 1

-- a table that loads
pub record Loads (table : List ℕ) : Type 0 where
  pub is_table_lem : is_table table ≡ true
  pub is_ordered_lem : is_ordered (in_table table) ≡ true
  pub has_joins_lem : has_joins (in_table table) ≡ true

-- its order: functions as in document 01, and the simple types by the table
unfoldable pub table_order : List ℕ → Order
table_order table =
    record {
      strict = false;
      sle = in_table table;
      sjoin = λ s t. first (is_join (in_table table) s t) simples;
      smeet = λ s t. first (is_meet (in_table table) s t) simples;
    }

-- ---- the number of a table: the bytes among 21 to 28, without the diagonal, bit 8 row + column
-- the k-th of these bytes; the diagonal has every ninth place
abbrev pub place : List ℕ → ℕ → ℕ
place table k = cond (eqb (k % 9) 0) 0 (get_or table (10 * (k / 8) + k % 8 + 11) 0)

-- the number whose bits are k bytes, from the i-th on
unfoldable pub pack : (ℕ → ℕ) → ℕ → ℕ → ℕ
pack f i zero = 0
pack f i (suc k) = f i + 2 * pack f (suc i) k

abbrev pub packed : List ℕ → ℕ
packed table = pack (place table) 0 64

-- ---- document 01's relation as a table
abbrev pub fixed_table : List ℕ
fixed_table =
    1 ∷ 0 ∷ 0 ∷ 0 ∷ 0 ∷ 0 ∷ 0 ∷ 0 ∷ 0 ∷ 0
    ∷ 1 ∷ 1 ∷ 0 ∷ 0 ∷ 0 ∷ 0 ∷ 0 ∷ 0 ∷ 0 ∷ 0
    ∷ 1 ∷ 0 ∷ 1 ∷ 0 ∷ 0 ∷ 0 ∷ 0 ∷ 0 ∷ 0 ∷ 0
    ∷ 1 ∷ 0 ∷ 0 ∷ 1 ∷ 0 ∷ 0 ∷ 0 ∷ 0 ∷ 0 ∷ 0
    ∷ 1 ∷ 0 ∷ 0 ∷ 0 ∷ 1 ∷ 0 ∷ 0 ∷ 0 ∷ 0 ∷ 0
    ∷ 1 ∷ 0 ∷ 0 ∷ 0 ∷ 0 ∷ 1 ∷ 0 ∷ 0 ∷ 0 ∷ 0
    ∷ 1 ∷ 0 ∷ 0 ∷ 0 ∷ 0 ∷ 0 ∷ 1 ∷ 0 ∷ 0 ∷ 0
    ∷ 1 ∷ 0 ∷ 0 ∷ 0 ∷ 0 ∷ 0 ∷ 0 ∷ 1 ∷ 0 ∷ 0
    ∷ 1 ∷ 0 ∷ 0 ∷ 0 ∷ 0 ∷ 0 ∷ 0 ∷ 0 ∷ 1 ∷ 0
    ∷ 1 ∷ 1 ∷ 1 ∷ 1 ∷ 1 ∷ 1 ∷ 1 ∷ 1 ∷ 1 ∷ 1 ∷ []
