-- What the walks of the code answer: the reader's answer without the tree.
-- Assumes nothing.
use Rattle.std.specs.Prelude.{ℕ, ◌+◌, ◌≤◌, max, ◌≡◌, Bool, ◌&&◌, List, drop, leb, eqb, IfSome}
use Rattle.std.specs.declared.option.Option.{Option}
use Rattle.std.specs.declared.option.Option.TheVariants.{None, Some}
use Rattle.std.specs.declared.result.Result.{Result}
use Rattle.std.specs.declared.result.Result.TheVariants.{Ok, Err}
use Rattle.form.specs.Limits.{most_exponent}
use Rattle.form.specs.Outcome.{pick}
use Rattle.form.specs.Faults.{Fault, Shape, Names, Level, place}
use Rattle.form.specs.declared.walk.Walked.{Walked}
use Rattle.form.specs.Read.{Got, got, bad}

-- where it ended, and the level of what it passed
pub data Walk : Type 0 where
  End : ℕ → ℕ → Walk
  Stop : Fault → Walk

-- the bytes that were taken and the level
unfoldable pub walk_of : {X : Type 0} → (X → ℕ) → Got X → Walk
walk_of lv (got x n) = End n (lv x)
walk_of lv (bad f) = Stop f

-- the bytes that were taken and the level, with `at` bytes of level `deep` in front
unfoldable pub walk_by : {X : Type 0} → (X → ℕ) → ℕ → ℕ → Got X → Walk
walk_by lv at deep (got x n) = End (at + n) (max deep (lv x))
walk_by lv at deep (bad f) = Stop f

-- two parts, the second behind the first
unfoldable pub pair_walk : {X Y : Type 0} → (X → ℕ) → (Y → ℕ) → List ℕ → (List ℕ → Got Y) → Got X → Walk
pair_walk lx ly s rest (got x n) = walk_by ly n (lx x) (rest (drop n s))
pair_walk lx ly s rest (bad f) = Stop f

-- k bytes in front and one level on top
abbrev pub up : ℕ → Walk → Walk
up k (End n l) = End (n + k) (l + 1)
up k (Stop f) = Stop f

-- the answer of the walks inside `form`, in two numbers: the bytes taken, 0 for a fault
abbrev pub size_in : Walk → ℕ
size_in (End n l) = n
size_in (Stop f) = 0

-- and what it leaves behind: the level, or the fault's number
abbrev pub told_in : Walk → ℕ
told_in (End n l) = l
told_in (Stop f) = place f

-- the fault with a number, and the walk of two such numbers
abbrev pub fault_told : ℕ → Fault
fault_told told = pick (eqb told 1) Shape (pick (eqb told 2) Names Level)

unfoldable pub walk_told : ℕ → ℕ → Walk
walk_told size told = pick (eqb size 0) (Stop (fault_told told)) (End size told)

-- the walk of an answer
abbrev pub walked : Result Walked Fault → Walk
walked (Ok w) = End w.size w.level
walked (Err f) = Stop f

-- a walk that ended took some bytes, at most n, and its level is small
abbrev pub Inside : Walk → ℕ → Type 0
Inside (End size lv) n = (1 ≤ size) × ((size ≤ n) × (lv ≤ size))
Inside (Stop f) n = Unit {0}

-- the code's answer r, with t left behind, is that of the walk w, which stays within n bytes
pub record Told (w : Walk) (n r t : ℕ) : Type 0 where
  pub size : r ≡ size_in w
  pub told : t ≡ told_in w
  pub inside : Inside w n

-- the answer r is that of the walk w, which stays within n bytes
pub record Passed (w : Walk) (n : ℕ) (r : Result Walked Fault) : Type 0 where
  pub answer : walked r ≡ w
  pub inside : Inside w n

-- the bytes of what was read where it is a leaf
unfoldable pub leaf_in : {X : Type 0} → (X → Bool) → Got X → Option ℕ
leaf_in isLeaf (got x n) = pick (isLeaf x) (Some n) None
leaf_in isLeaf (bad f) = None

-- a short way past a leaf: r has its bytes where there is one, some, and there is room for them
pub record Short {X : Type 0} (isLeaf : X → Bool) (g : Got X) (r : Option ℕ) (len : ℕ) : Type 0 where
  pub size : r ≡ leaf_in isLeaf g
  pub room : IfSome r (λ n. (1 ≤ n) × (n ≤ len))

-- n where len bytes are enough for them
abbrev pub size_within : ℕ → ℕ → Option ℕ
size_within n len = pick (leb n len) (Some n) None

-- and the last of them, x, is at most m
abbrev pub size_bounded : ℕ → ℕ → ℕ → ℕ → Option ℕ
size_bounded n len x m = pick (leb n len && leb x m) (Some n) None

-- the largest that the last operand byte of a leaf of data may be: a null's trace, a boolean's byte, a decimal's exponent; a key or a text ends in any
unfoldable pub operand_end : ℕ → ℕ
operand_end b = pick (eqb b 0x00) 3 (pick (eqb b 0x01) 1 (pick (eqb b 0x10) most_exponent 255))

-- a leaf of n bytes whose last one is at most m
abbrev pub flag_walk : ℕ → ℕ → ℕ → Walk
flag_walk x m n = pick (leb x m) (End n 1) (Stop Shape)
