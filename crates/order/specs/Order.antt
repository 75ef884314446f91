-- An order among the ten simple types, and what it must obey.
-- Everything about types is stated over an `Order`. Two stand here: `fixed`, document 01's relation, and `strict_order`, which has the same simple types and
-- judges every function by its result, as DMN does (document 02, K8). A members' table gives others (K9, Table.antt). The code has each as a number, its reading
-- (`order_of`).
-- Assumes nothing.
use Rattle.std.specs.Prelude.{◌≡◌, Bool, true, false, cond, ◌&&◌, ◌||◌, eqb, ltb, leb, ℕ, zero, suc, ◌+◌, ◌-◌, ◌*◌, ◌/◌, ◌%◌, ◌^◌}
use Rattle.form.specs.Trees.{Simple, any, null, code, decode}

-- equal simple types, as a test
abbrev pub same : Simple → Simple → Bool
same s t = eqb (code s) (code t)

-- the two directions of a comparison: `up` reads a ≤ b, `down` reads b ≤ a
pub data Dir : Type 0 where
  up down : Dir

abbrev pub flip : Dir → Dir
flip up = down
flip down = up

abbrev pub pick {ℓ} : {A : Type ℓ} → Dir → A → A → A
pick up x y = x
pick down x y = y

-- the direction of a call: the supertype, or the subtype
abbrev pub toward : Bool → Dir
toward true = up
toward false = down

-- conformance of simple types, their common supertype and their common subtype
pub record Order : Type 0 where
  -- whether a function type without parameters is judged by its result
  pub strict : Bool
  pub sle : Simple → Simple → Bool
  pub sjoin : Simple → Simple → Simple
  pub smeet : Simple → Simple → Simple

-- the greatest simple type in a direction: Any upwards, Null downwards
abbrev pub top : Dir → Simple
top up = any
top down = null

abbrev pub bottom : Dir → Simple
bottom d = top (flip d)

abbrev pub scmp : Order → Dir → Simple → Simple → Bool
scmp O up s t = O.sle s t
scmp O down s t = O.sle t s

abbrev pub sbound : Order → Dir → Simple → Simple → Simple
sbound O up s t = O.sjoin s t
sbound O down s t = O.smeet s t

-- what an order must obey: Null least, Any greatest, joins least upper bounds and meets greatest lower bounds
pub record Laws (O : Order) : Type 0 where
  pub reflexive : (s : Simple) → O.sle s s ≡ true
  pub transitive : (s t u : Simple) → O.sle s t ≡ true → O.sle t u ≡ true → O.sle s u ≡ true
  pub antisymmetric : (s t : Simple) → O.sle s t ≡ true → O.sle t s ≡ true → s ≡ t
  pub null_least_lem : (s : Simple) → O.sle null s ≡ true
  pub any_greatest_lem : (s : Simple) → O.sle s any ≡ true
  pub join_least : (s t u : Simple) → O.sle (O.sjoin s t) u ≡ O.sle s u && O.sle t u
  pub meet_greatest : (s t u : Simple) → O.sle u (O.smeet s t) ≡ O.sle u s && O.sle u t

-- Document 01: Null ≤ everything, everything ≤ Any, simple types only to themselves.
abbrev pub flat : Simple → Simple → Bool
flat s t = same s null || (same t any || same s t)

-- Null with T gives T; equal simple types give that type; all else Any
abbrev pub flat_join : Simple → Simple → Simple
flat_join s t = cond (same s null) t (cond (same t null) s (cond (same s t) s any))

-- Any with T gives T; equal simple types the same; all else Null
abbrev pub flat_meet : Simple → Simple → Simple
flat_meet s t = cond (same s any) t (cond (same t any) s (cond (same s t) s null))

-- the simple types of document 01; true: every function is judged by its result
abbrev pub flat_order : Bool → Order
flat_order b = record { strict = b; sle = flat; sjoin = flat_join; smeet = flat_meet }

-- document 01's relation
abbrev pub fixed : Order
fixed = flat_order false

-- the strict reading (K8): a function without parameters conforms only if its result does
abbrev pub strict_order : Order
strict_order = flat_order true

-- ---- A reading is the number that the walks and builders are handed. Bit 0 says whether it is strict: 0 is document 01's reading, 1 the strict one. A table (K9) has
-- a bit for each two of the eight types between Null and Any, 21 to 28; all else is the same for every table that loads. Simple types go by their codes, 0 to 9.

-- bit k of a number
abbrev pub bit : ℕ → ℕ → Bool
bit n k = eqb (n / 2 ^ k % 2) 1

-- one of the eight types between Null and Any
abbrev pub is_inner : ℕ → Bool
is_inner i = leb 1 i && leb i 8

-- a table has i below j: row i, column j, both counted from 21, at bit 8 row + column
abbrev pub related : ℕ → ℕ → ℕ → Bool
related reading i j = cond (ltb reading 2) false (is_inner i && (is_inner j && bit reading (8 * (i - 1) + (j - 1))))

-- i conforms to j: by the table, or i is Null, or j is Any, or they are equal
abbrev pub below : ℕ → ℕ → ℕ → Bool
below reading i j = related reading i j || (eqb i 9 || (eqb j 0 || eqb i j))

abbrev pub below_in : ℕ → Dir → ℕ → ℕ → Bool
below_in reading d i j = pick d (below reading i j) (below reading j i)

-- of the k numbers from u on, each that is better than the best before it takes its place
unfoldable pub narrowed : (ℕ → ℕ → Bool) → ℕ → ℕ → ℕ → ℕ
narrowed better best u zero = best
narrowed better best u (suc k) = narrowed better (cond (better u best) u best) (suc u) k

-- u is a common bound of i and j, and below the best so far
abbrev pub closer : ℕ → Dir → ℕ → ℕ → ℕ → ℕ → Bool
closer reading d i j u best = below_in reading d i u && (below_in reading d j u && below_in reading d u best)

-- the common bound of two of the eight types that a table gives; without a table, and of all others, the greatest type in the direction
abbrev pub nearest : ℕ → Dir → ℕ → ℕ → ℕ
nearest reading d i j = cond (ltb reading 2) (code (top d)) (cond (is_inner i && is_inner j) (narrowed (closer reading d i j) (code (top d)) 1 8) (code (top d)))

-- the order of a reading; `order_of 0` is `fixed`, `order_of 1` is `strict_order`, and that of a table that loads is the table's (Table.antt)
abbrev pub order_of : ℕ → Order
order_of reading =
    record {
      strict = eqb (reading % 2) 1;
      sle = λ s t. below reading (code s) (code t);
      sjoin = λ s t. cond (same s null) t (cond (same t null) s (cond (same s t) s (decode (nearest reading up (code s) (code t)))));
      smeet = λ s t. cond (same s any) t (cond (same t any) s (cond (same s t) s (decode (nearest reading down (code s) (code t)))));
    }
