-- Two things read at once and held against each other: yes with both sizes, or no.
-- Assumes nothing.
use Rattle.std.specs.Prelude.{ℕ, ◌+◌, ◌≡◌, Bool, true, false, not, ◌&&◌, ◌||◌, eqb}
use Rattle.std.proofs.Math.Option.{Option, none, some}
use Rattle.form.specs.Trees.{Ty, Fields, simple}
use Rattle.order.specs.Order.{up, Order}
use Rattle.order.specs.Types.{lookup, found, all_fields, le, cmps}
use Rattle.order.specs.Size.{size}
use Rattle.order.specs.Document.{eq_ty}
use Rattle.types.specs.At.{Sig, sig}

pub data Conform : Type 0 where
  Yes : ℕ → ℕ → Conform
  No : Conform

abbrev pub judge : Bool → ℕ → ℕ → Conform
judge true x y = Yes x y
judge false x y = No

-- yes where both were read and the first passes the test against the second
unfoldable pub conform_by : {X Y : Type 0} → (X → ℕ) → (Y → ℕ) → (X → Y → Bool) → Option X → Option Y → Conform
conform_by sx sy test (some x) (some y) = judge (test x y) (sx x) (sy y)
conform_by sx sy test (some x) none = No
conform_by sx sy test none y = No

-- a type against a type, by some test
abbrev pub types_by : (Ty → Ty → Bool) → Option Ty → Option Ty → Conform
types_by test x y = conform_by size size test x y

-- conformance under an order
abbrev pub conform_of : Order → Option Ty → Option Ty → Conform
conform_of O x y = types_by (le O) x y

-- each name of the second is in the first, with a type that passes the test
abbrev pub entries : (Ty → Ty → Bool) → Fields → Fields → Bool
entries test fs gs = all_fields (λ n t. found (lookup n fs) (λ a. test a t)) gs

-- whether the results of two functions with so many parameters are ignored
abbrev pub ignores_at : Order → ℕ → Bool
ignores_at O n = not O.strict && eqb n 0

-- parameters the other way round; whether the results are looked at is told from outside
abbrev pub le_sig : Order → Bool → Sig → Sig → Bool
le_sig O ignored (sig ps r) (sig qs s) = cmps O up qs ps && (ignored || le O r s)

-- nothing is asked but that both were read
abbrev pub any_two : Ty → Ty → Bool
any_two x y = true

-- both are simple types, and equal
abbrev pub same_simple : Ty → Ty → Bool
same_simple x y = simple x && eq_ty x y

-- i and j bytes in front
abbrev pub add_sizes : ℕ → ℕ → Conform → Conform
add_sizes i j (Yes x y) = Yes (x + i) (y + j)
add_sizes i j No = No

-- the code's answer r, with t left behind: the two sizes, or 0
abbrev pub Met : Conform → ℕ → ℕ → Type 0
Met (Yes x y) r t = (r ≡ x) × (t ≡ y)
Met No r t = r ≡ 0
