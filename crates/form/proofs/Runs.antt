-- The reader's equations in the terms of the code. One law for each combinator and each kind of run, whatever is read.
-- Idea: a loop over children keeps that the answer of the whole is the answer from here (`RunInv`).
-- Index: `front_up`, `front_run`, `then_end`, `then_fault`, `then_up`, `pair_end`, `pair_fault` (combinators); `RunInv`, `run_start`, `run_turn`, `run_fault`, `run_done` (a loop);
-- `item_turn`, `item_fault`, `run_snoc` (a run); `named_turn`, `named_ends`, `named_names`, `named_fault` (a named run); `operand_at`, `operand_short`, `counted_is`, `counted_short`.
-- Assumes nothing.
use Prim.Native.Nat.{ℕ, zero, suc, ◌+◌, ◌-◌, ◌<◌, ◌≤◌, max}
use mathlib.Core.Path.{◌≡◌, refl, sym, ap, ap₂, ◌∙◌}
use mathlib.Core.List.{List}
use native.Mathlib.Omega.{arith}
use native.Mathlib.Nat.{add-zero}
use lib.ListN.{length, get_or, take, drop, length-drop}
use lib.Seq.{take_all, drop-drop, get_or-drop}
use lib.Dec.{leb}
use borrow.Author.Tests.{le-leb, lt-leb}
use Rattle.form.specs.Limits.{name_width}
use Rattle.form.specs.Form.{num, num_at}
use Rattle.form.specs.Read.{Got, got, bad, front, and_then, or_else, operand, named, read_run, read_named, counted}
use Rattle.form.specs.Walks.{walk_of, walk_by, pair_walk, up, Walk}
use Rattle.form.specs.Faults.{Fault, Shape, Names}
use Rattle.form.specs.Walks as walk

-- a part that runs to the end is what is left after its start
pub rest {ℓ} : {A : Type ℓ} (s : List A) (a : ℕ) → take (length s - a) (drop a s) ≡ drop a s
rest s a = take_all (length s - a) (drop a s) (simp length-drop (omega arith))

pub length_rest : (s : List ℕ) (a : ℕ) → length (take (length s - a) (drop a s)) ≡ length s - a
length_rest s a = ap length (rest s a) ∙ length-drop a s

pub end_is : {n m l k : ℕ} → n ≡ m → l ≡ k → walk.End n l ≡ walk.End m k
end_is p q = ap₂ walk.End p q

pub end_stop : {n l : ℕ} {f : Fault} → walk.End n l ≡ walk.Stop f → ⊥
end_stop e = let z : ◌≡◌ {A = ℕ} 0 1 = cc in omega arith

fault_in : Fault → Walk → Fault
fault_in f (walk.End n l) = f
fault_in f (walk.Stop g) = g

pub stop_is : {f g : Fault} → walk.Stop f ≡ walk.Stop g → f ≡ g
unfolding fault_in
stop_is {f} e = ap (fault_in f) e

-- the first byte behind `at`
pub first_at : (s : List ℕ) (at : ℕ) → get_or (drop at s) 0 0 ≡ get_or s at 0
first_at s at = get_or-drop at s 0 0 ∙ ap (λ (n : ℕ). get_or s n 0) (omega arith)

by_bad : {X : Type 0} (lv : X → ℕ) (f : Fault) → walk_by lv 0 0 (bad f) ≡ walk.Stop f
unfolding walk_by
by_bad lv f = refl

-- ---- the combinators
module _ {X Z : Type 0} (lx : X → ℕ) (lz : Z → ℕ) (g : X → Z) (k : ℕ) (law : (x : X) → lz (g x) ≡ suc (lx x)) where
  pub front_up : (r : Got X) → walk_of lz (front g k r) ≡ up k (walk_of lx r)
  unfolding walk_of front
  front_up (got x n) = end_is (omega arith) (omega (arith, law x))
  front_up (bad f) = refl

  pub front_run : (r : Got X) → walk_of lz (front g k r) ≡ up k (walk_by lx 0 0 r)
  unfolding walk_of walk_by front
  front_run (got x n) = end_is (omega arith) (omega (arith, law x))
  front_run (bad f) = refl

module _ {X Y Z : Type 0} (lx : X → ℕ) (ly : Y → ℕ) (lz : Z → ℕ) (f : X → Y → Z) (k : ℕ) (s : List ℕ) (more : List ℕ → Got Y) where
  module _ (law : (x : X) (y : Y) → lz (f x y) ≡ max (lx x) (ly y)) where
    pub then_end : (at deep size lv : ℕ) (r : Got X) → walk_of lx r ≡ walk.End size lv → walk_by lz at deep (and_then f k s more r) ≡ walk_by ly (at + k + size) (max deep lv) (more (drop size s))
    unfolding walk_of walk_by and_then front
    then_end at deep size lv (got x n) e =
        let p : n ≡ size = cc in
        let q : lx x ≡ lv = cc in
        rw (← p, ← q) (go (more (drop n s)))
      where
        go : (y : Got Y) → walk_by lz at deep (front (f x) (k + n) y) ≡ walk_by ly (at + k + n) (max deep (lx x)) y
        go (got y m) = end_is (omega arith) (omega (arith, law x y))
        go (bad e) = refl
    then_end at deep size lv (bad e') e = absurd (end_stop (sym e))

  pub then_fault : (at deep : ℕ) (e : Fault) (r : Got X) → walk_of lx r ≡ walk.Stop e → walk_by lz at deep (and_then f k s more r) ≡ walk.Stop e
  unfolding walk_of walk_by and_then
  then_fault at deep e (got x n) h = absurd (end_stop h)
  then_fault at deep e (bad e') h = h

  pub then_up : ((x : X) (y : Y) → lz (f x y) ≡ suc (max (lx x) (ly y))) → (r : Got X) → walk_of lz (and_then f k s more r) ≡ up k (pair_walk lx ly s more r)
  unfolding walk_of walk_by and_then front pair_walk
  then_up law (got x n) = go (more (drop n s))
    where
      go : (y : Got Y) → walk_of lz (front (f x) (k + n) y) ≡ up k (walk_by ly n (lx x) y)
      go (got y m) = end_is (omega arith) (omega (arith, law x y))
      go (bad e) = refl
  then_up law (bad e) = refl

-- ---- a loop over a run of children: the answer of the whole is the answer from here. `now` reads what is left, by how many are left
pub record RunInv {X : Type 0} (lv : X → ℕ) (whole : Walk) (now : ℕ → List ℕ → Got X) (s : List ℕ) (count at deep i : ℕ) : Type 0 where
  pub below : i ≤ count
  pub inside : at ≤ length s
  pub shallow : deep ≤ at
  pub goes : whole ≡ walk_by lv at deep (now (count - i) (drop at s))

pub step : (i n : ℕ) → i < n → n - i ≡ suc (n - (i + 1))
step i n h = omega arith

pub run_start : {X : Type 0} (lv : X → ℕ) (now : ℕ → List ℕ → Got X) (s : List ℕ) (count at deep : ℕ) → at ≤ length s → deep ≤ at
    → RunInv lv (walk_by lv at deep (now count (drop at s))) now s count at deep 0
run_start lv now s count at deep h k = let e : count - 0 ≡ count = omega arith in record { below = omega arith; inside = h; shallow = k; goes = rw e }

module _ {X : Type 0} {lv : X → ℕ} {whole : Walk} {now : ℕ → List ℕ → Got X} {s : List ℕ} {count at deep i : ℕ} (v : RunInv lv whole now s count at deep i) where
  pub run_done : (z : X) → lv z ≡ 0 → ((r : List ℕ) → now 0 r ≡ got z 0) → count ≤ i → walk.End at deep ≡ whole
  unfolding walk_by
  run_done z lz h q =
      let e : count - i ≡ 0 = omega arith in
      sym (v.goes ∙ rw (e, h (drop at s)) (end_is (omega arith) (omega arith)))

  pub run_fault : (f : Fault) → i < count → ((n : ℕ) → walk_by lv at deep (now (suc n) (drop at s)) ≡ walk.Stop f) → walk.Stop f ≡ whole
  run_fault f q h = sym (v.goes ∙ rw (step i count q) (h (count - (i + 1))))

  pub run_turn : (next : ℕ → List ℕ → Got X) (to d size l : ℕ) → i < count → d ≡ max deep l → (size ≤ length s - to) × (l ≤ size) → at ≤ to → to ≤ length s
      → ((n : ℕ) → walk_by lv at deep (now (suc n) (drop at s)) ≡ walk_by lv (to + size) (max deep l) (next n (drop (to + size) s))) → RunInv lv whole next s count (to + size) d (i + 1)
  run_turn next to d size l q de z p p' h = record {
    below = omega arith;
    inside = omega arith;
    shallow = omega arith;
    goes = rw de (v.goes ∙ rw (step i count q) (h (count - (i + 1))));
  }

-- ---- a run, one turn
module _ {X R : Type 0} (lx : X → ℕ) (lr : R → ℕ) (nil : R) (cons : X → R → R) (law : (x : X) (r : R) → lr (cons x r) ≡ max (lx x) (lr r)) (child : List ℕ → Got X) where
  pub run_none : (r : List ℕ) → read_run nil cons child 0 r ≡ got nil 0
  unfolding read_run
  run_none r = refl

  module _ (s : List ℕ) (at deep : ℕ) where
    pub item_fault : (f : Fault) → walk_of lx (child (drop at s)) ≡ walk.Stop f → (n : ℕ) → walk_by lr at deep (read_run nil cons child (suc n) (drop at s)) ≡ walk.Stop f
    unfolding read_run
    item_fault f w n = then_fault lx lr lr cons 0 (drop at s) (read_run nil cons child n) at deep f (child (drop at s)) w

    pub item_turn : (size lv : ℕ) → walk_of lx (child (drop at s)) ≡ walk.End size lv → (n : ℕ)
        → walk_by lr at deep (read_run nil cons child (suc n) (drop at s)) ≡ walk_by lr (at + size) (max deep lv) (read_run nil cons child n (drop (at + size) s))
    unfolding read_run
    item_turn size lv w n = rw (← drop-drop size at s) (rw add-zero at (then_end lx lr lr cons 0 (drop at s) (read_run nil cons child n) law at deep size lv (child (drop at s)) w))

  -- one more behind a run is a longer run
  module _ (flat : lr nil ≡ 0) where
    on : ℕ → ℕ → Walk → Walk
    on k d (walk.End n l) = walk.End (k + n) (max d l)
    on k d (walk.Stop f) = walk.Stop f

    on_front : (x : X) (k : ℕ) (y : Got R) → walk_by lr 0 0 (front (cons x) (0 + k) y) ≡ on k (lx x) (walk_by lr 0 0 y)
    unfolding walk_by front on
    on_front x k (got r n) = end_is (omega arith) (omega (arith, law x r))
    on_front x k (bad f) = refl

    on_by : (k d j l : ℕ) (y : Got X) → on k d (walk_by lx j l y) ≡ walk_by lx (0 + k + j) (max d l) y
    unfolding walk_by on
    on_by k d j l (got x n) = end_is (omega arith) (omega arith)
    on_by k d j l (bad f) = refl

    snoc_first : (s : List ℕ) (y : Got X) → walk_by lr 0 0 (and_then cons 0 s (read_run nil cons child 0) y) ≡ walk_by lx 0 (lr nil) y
    unfolding walk_by and_then front read_run
    snoc_first s (got x k) = end_is (omega arith) (omega (arith, law x nil, flat))
    snoc_first s (bad f) = refl

    snoc_rest : (s : List ℕ) (x : X) (k : ℕ) (w : Walk) (y : Got R) → w ≡ pair_walk lr lx (drop k s) child y → on k (lx x) w ≡ pair_walk lr lx s child (front (cons x) (0 + k) y)
    unfolding pair_walk front on
    snoc_rest s x k w (got r j) e =
        let z : 0 + k + j ≡ k + j = omega arith in
        rw (e, law x r, z, ← drop-drop j k s) (rw z at (on_by k (lx x) j (lr r) (child (drop j (drop k s)))))
    snoc_rest s x k w (bad f) e = rw e

    pub run_snoc : (n : ℕ) (s : List ℕ) → walk_by lr 0 0 (read_run nil cons child (suc n) s) ≡ pair_walk lr lx s child (read_run nil cons child n s)
    unfolding read_run pair_walk and_then
    run_snoc zero s = snoc_first s (child s)
    run_snoc (suc n) s = go (child s) (λ (k : ℕ). run_snoc n (drop k s))
      where
        go : (y : Got X) → ((k : ℕ) → walk_by lr 0 0 (read_run nil cons child (suc n) (drop k s)) ≡ pair_walk lr lx (drop k s) child (read_run nil cons child n (drop k s)))
            → walk_by lr 0 0 (and_then cons 0 s (read_run nil cons child (suc n)) y) ≡ pair_walk lr lx s child (and_then cons 0 s (read_run nil cons child n) y)
        go (got x k) ih = on_front x k (read_run nil cons child (suc n) (drop k s)) ∙ snoc_rest s x k (walk_by lr 0 0 (read_run nil cons child (suc n) (drop k s)))
            (read_run nil cons child n (drop k s))
            (ih k)
        go (bad f) ih = by_bad lr f

-- ---- an operand
module _ {X : Type 0} (k : ℕ) (more : ℕ → List ℕ → Got X) where
  pub operand_short : (s : List ℕ) → length s < k → operand k more s ≡ bad Shape
  unfolding operand or_else
  operand_short s h = rw (lt-leb k (length s) h)

  operand_long : (s : List ℕ) → k ≤ length s → operand k more s ≡ more (num (take k s)) (drop k s)
  unfolding operand or_else
  operand_long s h = rw (le-leb k (length s) h)

  pub operand_at : (s : List ℕ) (at m : ℕ) → m ≡ num_at k at s → k ≤ length s - at → operand k more (drop at s) ≡ more m (drop (at + k) s)
  operand_at s at m e h = operand_long (drop at s) (simp length-drop h) ∙ rw (e, drop-drop k at s)

-- ---- a named run, one turn
module _ {X R : Type 0} (lx : X → ℕ) (lr : R → ℕ) (nil : R) (cons : ℕ → X → R → R) (next : ℕ → ℕ) (law : (m : ℕ) (x : X) (r : R) → lr (cons m x r) ≡ max (lx x) (lr r)) (child : List ℕ → Got X) where
  pub named_none : (least : ℕ) (r : List ℕ) → read_named nil cons next child 0 least r ≡ got nil 0
  unfolding read_named
  named_none least r = refl

  module _ (s : List ℕ) (at deep least : ℕ) where
    pub named_ends : length s - at < name_width → (n : ℕ) → walk_by lr at deep (read_named nil cons next child (suc n) least (drop at s)) ≡ walk.Stop Shape
    unfolding walk_by read_named
    named_ends h n = rw (operand_short name_width (named cons (λ m. read_named nil cons next child n (next m)) child least) (drop at s) (simp length-drop h))

    module _ (m : ℕ) (e : m ≡ num_at name_width at s) (h : name_width ≤ length s - at) where
      opened : (n : ℕ) → read_named nil cons next child (suc n) least (drop at s) ≡ or_else Names (leb least m)
          (and_then (cons m) name_width (drop (at + name_width) s) (read_named nil cons next child n (next m)) (child (drop (at + name_width) s)))
      unfolding read_named named
      opened n = operand_at name_width (named cons (λ j. read_named nil cons next child n (next j)) child least) s at m e h

      pub named_names : m < least → (n : ℕ) → walk_by lr at deep (read_named nil cons next child (suc n) least (drop at s)) ≡ walk.Stop Names
      unfolding walk_by or_else
      named_names k n = rw (opened n, lt-leb least m k)

      pub named_fault : (f : Fault) → least ≤ m → walk_of lx (child (drop (at + name_width) s)) ≡ walk.Stop f → (n : ℕ)
          → walk_by lr at deep (read_named nil cons next child (suc n) least (drop at s)) ≡ walk.Stop f
      unfolding or_else
      named_fault f k w n = rw (opened n, le-leb least m k) (then_fault lx lr lr (cons m) name_width (drop (at + name_width) s) (read_named nil cons next child n (next m)) at deep f
          (child (drop (at + name_width) s)) w)

      pub named_turn : (size lv : ℕ) → least ≤ m → walk_of lx (child (drop (at + name_width) s)) ≡ walk.End size lv → (n : ℕ)
          → walk_by lr at deep (read_named nil cons next child (suc n) least (drop at s)) ≡ walk_by lr (at + name_width + size) (max deep lv)
          (read_named nil cons next child n (next m) (drop (at + name_width + size) s))
      unfolding or_else
      named_turn size lv k w n = rw (opened n, le-leb least m k, ← drop-drop size (at + name_width) s)
          (then_end lx lr lr (cons m) name_width (drop (at + name_width) s) (read_named nil cons next child n (next m)) (law m) at deep size lv (child (drop (at + name_width) s)) w)

-- ---- a counted run, behind its command
pub counted_is : {R Z : Type 0} (lr : R → ℕ) (lz : Z → ℕ) (g : R → Z) (law : (x : R) → lz (g x) ≡ suc (lr x)) (run : ℕ → List ℕ → Got R) (s : List ℕ) (m : ℕ) → m ≡ num_at 2 1 s → 2 ≤ length s - 1
    → walk_of lz (counted g run (drop 1 s)) ≡ up 3 (walk_by lr 0 0 (run m (drop 3 s)))
unfolding counted
counted_is lr lz g law run s m e h = rw (operand_at 2 (λ c r. front g 3 (run c r)) s 1 m e h) (front_run lr lz g 3 law (run m (drop 3 s)))

pub counted_short : {R Z : Type 0} (g : R → Z) (run : ℕ → List ℕ → Got R) (s : List ℕ) → length s < 2 → counted g run s ≡ bad Shape
unfolding counted
counted_short g run s h = operand_short 2 (λ c r. front g 3 (run c r)) s h

-- ---- two parts, the second behind the first
module _ {X Y : Type 0} (lx : X → ℕ) (ly : Y → ℕ) (s : List ℕ) (more : List ℕ → Got Y) where
  pub pair_end : (size lv : ℕ) (r : Got X) → walk_of lx r ≡ walk.End size lv → pair_walk lx ly s more r ≡ walk_by ly size lv (more (drop size s))
  unfolding pair_walk walk_of
  pair_end size lv (got x n) e =
      let p : n ≡ size = cc in
      let q : lx x ≡ lv = cc in
      rw (p, q)
  pair_end size lv (bad f) e = absurd (end_stop (sym e))

  pub pair_fault : (f : Fault) (r : Got X) → walk_of lx r ≡ walk.Stop f → pair_walk lx ly s more r ≡ walk.Stop f
  unfolding pair_walk walk_of
  pair_fault f (got x n) e = absurd (end_stop e)
  pair_fault f (bad g) e = e

-- what `&s[n..]` is
abbrev pub behind : ℕ → List ℕ → List ℕ
behind n s = take (length s - n) (drop n s)
