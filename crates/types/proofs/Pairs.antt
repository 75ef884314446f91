-- Two things read at once, of any two kinds: laws of the verdict with both sizes, and of the code's answer to it.
-- Two laws carry every walk over a pair: `mapped` (parents of two things) and `no_when` (no, since where both are read the test fails).
-- Index: `both`, `taken`, `no_when`, `mapped`, `same_test` (a verdict on two); `met_yes`, `met_no`, `met_as`, `yes_of`, `no_of`, `told_yes`, `told_no` (the code's answer);
-- `Readable`, `Sized`, `Pair`, `MetAt`, `pair`, `pair_yes`, `pair_no`, `pair_in` (two at two places); `judge_is`, `grown_judge`, `grown_on` (sizes).
-- Assumes nothing.
use Prim.Native.Nat.{ℕ, ◌+◌, ◌-◌, ◌<◌, ◌≤◌}
use mathlib.Core.Path.{◌≡◌, refl, sym, ap, ap₂, ◌∙◌}
use mathlib.Core.Bool.{Bool, true, false}
use mathlib.Core.Option.{Option, none, some}
use mathlib.Core.List.{List}
use native.Mathlib.Omega.{arith}
use lib.ListN.{length, take, drop, length-drop}
use Rattle.form.specs.Read.{Got, got, bad, front}
use Rattle.form.proofs.Runs.{rest}
use Rattle.types.specs.At.{seen}
use Rattle.types.specs.Conform.{Conform, Yes, No, judge, conform_by, add_sizes, Met}

-- ---- verdicts
no_yes : {X : Type 0} {x y : ℕ} → No ≡ Yes x y → X
no_yes e = absurd (let z : ◌≡◌ {A = ℕ} 0 1 = cc in omega arith)

pub judge_is : (q : Bool) {x y m n : ℕ} → x ≡ m → y ≡ n → judge q x y ≡ judge q m n
judge_is q p r = ap₂ (judge q) p r

pub grown_judge : (q : Bool) (i j x y : ℕ) → add_sizes i j (judge q x y) ≡ judge q (x + i) (y + j)
grown_judge true i j x y = refl
grown_judge false i j x y = refl

pub judge_yes : (q : Bool) (x y m n : ℕ) → judge q x y ≡ Yes m n → (q ≡ true) × (m ≡ x) × (n ≡ y)
judge_yes true x y m n e = (refl, (cc), (cc))
judge_yes false x y m n e = no_yes e

pub judge_no : (q : Bool) (x y : ℕ) → judge q x y ≡ No → q ≡ false
judge_no true x y e = no_yes (sym e)
judge_no false x y e = refl

pub grown_on : (i j p q : ℕ) (w : Conform) → add_sizes i j (add_sizes p q w) ≡ add_sizes (i + p) (j + q) w
grown_on i j p q (Yes x y) = ap₂ Yes (omega arith) (omega arith)
grown_on i j p q No = refl

pub grown_none : (w : Conform) → w ≡ add_sizes 0 0 w
grown_none (Yes x y) = ap₂ Yes (omega arith) (omega arith)
grown_none No = refl

-- ---- what was read
unfoldable pub map_o : {X Y : Type 0} → (X → Y) → Option X → Option Y
map_o f (some x) = some (f x)
map_o f none = none

pub map_o_same : {X : Type 0} (r : Option X) → map_o (λ x. x) r ≡ r
unfolding map_o
map_o_same (some x) = refl
map_o_same none = refl

pub seen_front : {X Z : Type 0} (g : X → Z) (k : ℕ) (r : Got X) → seen (front g k r) ≡ map_o g (seen r)
unfolding seen front map_o
seen_front g k (got x n) = refl
seen_front g k (bad f) = refl

-- what a yes is of
pub record Both {X Y : Type 0} (sx : X → ℕ) (sy : Y → ℕ) (test : X → Y → Bool) (r : Option X) (s : Option Y) (p q : ℕ) : Type 0 where
  pub x : X
  pub y : Y
  pub read_a : r ≡ some x
  pub read_b : s ≡ some y
  pub holds : test x y ≡ true
  pub size_a : p ≡ sx x
  pub size_b : q ≡ sy y

module _ {X Y : Type 0} (sx : X → ℕ) (sy : Y → ℕ) (test : X → Y → Bool) where
  pub both : (r : Option X) (s : Option Y) (x : X) (y : Y) → r ≡ some x → s ≡ some y → conform_by sx sy test r s ≡ judge (test x y) (sx x) (sy y)
  unfolding conform_by
  both r s x y p q = ap₂ (conform_by sx sy test) p q

  pub taken : (r : Option X) (s : Option Y) (p q : ℕ) → conform_by sx sy test r s ≡ Yes p q → Both sx sy test r s p q
  unfolding conform_by
  taken (some x) (some y) p q e =
      let d = judge_yes (test x y) (sx x) (sy y) p q e in
      record { x = x; y = y; read_a = refl; read_b = refl; holds = d.0; size_a = d.1; size_b = d.2 }
  taken (some x) none p q e = no_yes e
  taken none y p q e = no_yes e

  -- no, since where both are read the test fails
  pub no_when : (r : Option X) (s : Option Y) → ((x : X) (y : Y) → r ≡ some x → s ≡ some y → test x y ≡ false) → conform_by sx sy test r s ≡ No
  unfolding conform_by
  no_when (some x) (some y) f = ap (λ z. judge z (sx x) (sy y)) (f x y refl refl)
  no_when (some x) none f = refl
  no_when none y f = refl

  -- parents of what stands inside, both or neither read
  pub mapped : {A B : Type 0} (sv : A → ℕ) (sw : B → ℕ) (parents : A → B → Bool) (f : X → A) (g : Y → B) (p q : ℕ) (r : Option X) (s : Option Y)
      → ((x : X) (y : Y) → r ≡ some x → s ≡ some y → parents (f x) (g y) ≡ test x y) → ((x : X) → r ≡ some x → sv (f x) ≡ sx x + p) → ((y : Y) → sw (g y) ≡ sy y + q)
      → conform_by sv sw parents (map_o f r) (map_o g s) ≡ add_sizes p q (conform_by sx sy test r s)
  unfolding conform_by map_o
  mapped sv sw parents f g p q (some x) (some y) e a b = ap (λ z. judge z (sv (f x)) (sw (g y))) (e x y refl refl) ∙ judge_is (test x y) (a x refl) (b y)
      ∙ sym (grown_judge (test x y) p q (sx x) (sy y))
  mapped sv sw parents f g p q (some x) none e a b = refl
  mapped sv sw parents f g p q none y e a b = refl

-- two tests that agree on what was read
pub same_test : {X Y : Type 0} (sx : X → ℕ) (sy : Y → ℕ) (test other : X → Y → Bool) (r : Option X) (s : Option Y)
    → ((x : X) (y : Y) → r ≡ some x → s ≡ some y → test x y ≡ other x y) → conform_by sx sy test r s ≡ conform_by sx sy other r s
unfolding conform_by
same_test sx sy test other (some x) (some y) e = ap (λ z. judge z (sx x) (sy y)) (e x y refl refl)
same_test sx sy test other (some x) none e = refl
same_test sx sy test other none y e = refl

-- ---- an answer
pub met_yes : {w : Conform} {r t x y : ℕ} → w ≡ Yes x y → r ≡ x → t ≡ y → Met w r t
met_yes e p q = rw e (p, q)

pub met_no : {w : Conform} (r t : ℕ) → w ≡ No → r ≡ 0 → Met w r t
met_no r t e p = rw e p

pub met_as : (v : Conform) (r t : ℕ) {w : Conform} → w ≡ v → Met v r t → Met w r t
met_as v r t e m = rw e m

-- ---- and taken apart
pub yes_of : (w : Conform) (r t : ℕ) → Met w r t → (r ≡ 0 → ⊥) → w ≡ Yes r t
yes_of (Yes x y) r t m z = ap₂ Yes (sym m.0) (sym m.1)
yes_of No r t m z = absurd (z m)

pub no_of : (w : Conform) (r t : ℕ) → Met w r t → r ≡ 0 → ((x y : ℕ) → w ≡ Yes x y → 0 < x) → w ≡ No
no_of (Yes x y) r t m z h = absurd (let g = h x y refl in omega (arith, m.0))
no_of No r t m z h = refl

-- 0 is no, where the first of the two has a size
pub none_of : {X Y : Type 0} (sx : X → ℕ) (sy : Y → ℕ) (test : X → Y → Bool) → ((x : X) → 0 < sx x) → (p : Option X) (q : Option Y) (r t : ℕ) → Met (conform_by sx sy test p q) r t
    → r ≡ 0 → conform_by sx sy test p q ≡ No
none_of sx sy test positive p q r t m z = no_of (conform_by sx sy test p q) r t m z (λ i j h. let B = taken sx sy test p q i j h in omega (arith, B.size_a, positive B.x))

-- the answer to a caller that has read both
module _ {X Y : Type 0} (sx : X → ℕ) (sy : Y → ℕ) (test : X → Y → Bool) (positive : (x : X) → 0 < sx x) {p : Option X} {q : Option Y} (r t : ℕ) (m : Met (conform_by sx sy test p q) r t)
    (x : X) (y : Y)
    (e : p ≡ some x) (f : q ≡ some y) where
  pub told_no : r ≡ 0 → test x y ≡ false
  told_no z = judge_no (test x y) (sx x) (sy y) (sym (both sx sy test p q x y e f) ∙ none_of sx sy test positive p q r t m z)

  pub told_yes : (r ≡ 0 → ⊥) → (test x y ≡ true) × (r ≡ sx x) × (t ≡ sy y)
  told_yes z = judge_yes (test x y) (sx x) (sy y) r t (sym (both sx sy test p q x y e f) ∙ yes_of (conform_by sx sy test p q) r t m z)

-- ---- what a reader finds has some bytes, and they are there
pub record Readable {X : Type 0} (sz : X → ℕ) (one : List ℕ → Option X) : Type 0 where
  pub positive : (x : X) → 0 < sz x
  pub inside : (s : List ℕ) (x : X) → one s ≡ some x → sz x ≤ length s

-- it was found, and n is its size
pub record Sized {X : Type 0} (sz : X → ℕ) (one : List ℕ → Option X) (s : List ℕ) (n : ℕ) : Type 0 where
  pub x : X
  pub read : one s ≡ some x
  pub is : n ≡ sz x

pub sized_in : {X : Type 0} {sz : X → ℕ} {one : List ℕ → Option X} (R : Readable sz one) (s : List ℕ) (k n : ℕ) → k ≤ length s → Sized sz one (drop k s) n → k + n ≤ length s
sized_in R s k n h S = omega (arith, S.is, simp length-drop at (R.inside (drop k s) S.x S.read))

-- ---- two of them at two places, compared
module _ {X Y : Type 0} {sx : X → ℕ} {sy : Y → ℕ} {one : List ℕ → Option X} {two : List ℕ → Option Y} (R : Readable sx one) (S : Readable sy two) (test : X → Y → Bool) (a : List ℕ) (i : ℕ)
    (b : List ℕ) (j r t : ℕ) where
  abbrev pub Pair : Type 0
  Pair = Both sx sy test (one (drop i a)) (two (drop j b)) r t

  -- the answer of a callee to which the parts from i and from j on were lent
  abbrev pub MetAt : Type 0
  MetAt = Met (conform_by sx sy test (one (take (length a - i) (drop i a))) (two (take (length b - j) (drop j b)))) r t

  pub met_here : MetAt → Met (conform_by sx sy test (one (drop i a)) (two (drop j b))) r t
  met_here m = rw (rest a i, rest b j) at m

  pub pair_yes : MetAt → (r ≡ 0 → ⊥) → conform_by sx sy test (one (drop i a)) (two (drop j b)) ≡ Yes r t
  pair_yes m z = yes_of (conform_by sx sy test (one (drop i a)) (two (drop j b))) r t (met_here m) z

  pub pair_none : MetAt → r ≡ 0 → conform_by sx sy test (one (drop i a)) (two (drop j b)) ≡ No
  pair_none m z = none_of sx sy test R.positive (one (drop i a)) (two (drop j b)) r t (met_here m) z

  pub pair : MetAt → (r ≡ 0 → ⊥) → Pair
  pair m z = taken sx sy test (one (drop i a)) (two (drop j b)) r t (pair_yes m z)

  pub pair_no : MetAt → r ≡ 0 → (x : X) (y : Y) → one (drop i a) ≡ some x → two (drop j b) ≡ some y → test x y ≡ false
  pair_no m z x y e f = told_no sx sy test R.positive r t (met_here m) x y e f z

  pub pair_in : i ≤ length a → j ≤ length b → Pair → (i + r ≤ length a) × (j + t ≤ length b)
  pair_in h k P = (omega (arith, P.size_a, simp length-drop at (R.inside (drop i a) P.x P.read_a)), omega (arith, P.size_b, simp length-drop at (S.inside (drop j b) P.y P.read_b)))
