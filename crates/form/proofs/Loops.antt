-- The loops over children, whatever is read: what a turn, a fault and the end owe, from what the child's walk told.
-- Idea: the answer of the whole is the answer from here (`RunInv` of Runs); each exit of a loop is one law, for runs with and without names.
-- Index: `items_short`, `items_walk`, `items_fault`, `items_end` (children one behind the other); `names_short`, `names_walk`, `names_none`, `names_fall`, `names_fault`,
-- `names_end` (each behind its name); `DeepInv`, `deep_start`, `deep_turn`, `deep_is` (loops whose `deep` starts at 1); `none_told` (no children); `fits`, `level_some`.
-- Assumes nothing.
use Prim.Native.Nat.{ℕ, ◌+◌, ◌-◌, ◌<◌, ◌≤◌, max}
use mathlib.Core.Path.{◌≡◌, refl, sym, ap}
use mathlib.Core.Bool.{Bool, true}
use mathlib.Core.List.{List}
use native.Mathlib.Omega.{arith}
use lib.ListN.{length, take, drop}
use Rattle.form.specs.Limits.{name_width}
use Rattle.std.specs.declared.option.Option.TheVariants.{Some}
use Rattle.form.specs.Faults.{Fault, Shape, Names}
use Rattle.form.specs.Form.{num_at}
use Rattle.form.specs.Read.{Got, got, bad, read_run, read_named}
use Rattle.form.specs.Walks.{Walk, walk_of, walk_by, up, Told, Short}
use Rattle.form.specs.Walks as walk
use Rattle.form.proofs.Runs.{RunInv, run_start, run_done, run_fault, run_turn, run_none, item_fault, item_turn, named_none, named_ends, named_names, named_fault, named_turn}
use Rattle.form.proofs.WalkAnswers.{told_end, short_end, told_part, told_stop, told_fault, told_run}

-- what a child's walk told on the part from a
abbrev pub ToldAt : {X : Type 0} → (X → ℕ) → (List ℕ → Got X) → List ℕ → ℕ → ℕ → ℕ → Type 0
ToldAt lx child s a r t = Told (walk_of lx (child (take (length s - a) (drop a s)))) (length (take (length s - a) (drop a s))) r t

-- on what is left from a
abbrev pub Here : {X : Type 0} → (X → ℕ) → (List ℕ → Got X) → List ℕ → ℕ → ℕ → ℕ → Type 0
Here lx child s a r t = Told (walk_of lx (child (drop a s))) (length s - a) r t

here : {X : Type 0} (lx : X → ℕ) (child : List ℕ → Got X) (s : List ℕ) (a r t : ℕ) → ToldAt lx child s a r t → Here lx child s a r t
here lx child s a r t h = told_part (λ (x : List ℕ). walk_of lx (child x)) s a r t h

-- the child stays within what is left
pub fits : {X : Type 0} (lx : X → ℕ) (child : List ℕ → Got X) (s : List ℕ) (a r t : ℕ) → ToldAt lx child s a r t → (r ≡ 0 → ⊥) → r ≤ length s - a
fits lx child s a r t h z = let e = told_end (walk_of lx (child (drop a s))) (length s - a) r t (here lx child s a r t h) (omega arith) in e.1.0

-- a child at fault: so is the whole
faulted : {X : Type 0} (lx : X → ℕ) (child : List ℕ → Got X) (s : List ℕ) (a r t k m : ℕ) (whole : Walk) → ToldAt lx child s a r t → r ≡ 0
    → ((f : Fault) → walk_of lx (child (drop a s)) ≡ walk.Stop f → walk.Stop f ≡ whole) → Told (up k whole) m 0 t
faulted lx child s a r t k m whole h z g = told_fault (walk_of lx (child (drop a s))) (up k whole) (length s - a) m r t (here lx child s a r t h) z (λ f e. ap (up k) (g f e))

-- a fault of the run's own
stopped : (f : Fault) (whole : Walk) (k m r t : ℕ) → walk.Stop f ≡ whole → r ≡ 0 → t ≡ walk.told_in (walk.Stop f) → Told (up k whole) m r t
stopped f whole k m r t e p q = told_stop f (sym (ap (up k) e)) p q

-- ---- one behind the other
module _ {X R : Type 0} (lx : X → ℕ) (lr : R → ℕ) (nil : R) (cons : X → R → R) (law : (x : X) (r : R) → lr (cons x r) ≡ max (lx x) (lr r)) (flat : lr nil ≡ 0) (child : List ℕ → Got X) {whole : Walk}
    {s : List ℕ} {count at deep i : ℕ} (v : RunInv lr whole (read_run nil cons child) s count at deep i) where
  turn : (n l d : ℕ) → i < count → walk_of lx (child (drop at s)) ≡ walk.End n l → (n ≤ length s - at) × (l ≤ n) → d ≡ max deep l → RunInv lr whole (read_run nil cons child) s count (at + n) d (i + 1)
  turn n l d q w z e = run_turn v (read_run nil cons child) at d n l q e z (omega arith) v.inside (item_turn lx lr nil cons law child s at deep n l w)

  pub items_short : (isLeaf : X → Bool) → ((x : X) → isLeaf x ≡ true → lx x ≡ 1) → (n d : ℕ) → i < count
      → Short isLeaf (child (drop at s)) (Some n) (length s - at) → d ≡ max deep 1 → RunInv lr whole (read_run nil cons child) s count (at + n) d (i + 1)
  items_short isLeaf one n d q h e = turn n 1 d q (short_end lx isLeaf one (child (drop at s)) n (length s - at) h) (h.room.1, h.room.0) e

  pub items_walk : (r t d : ℕ) → i < count → ToldAt lx child s at r t → (r ≡ 0 → ⊥) → d ≡ max deep t → RunInv lr whole (read_run nil cons child) s count (at + r) d (i + 1)
  items_walk r t d q h z e = let a = told_end (walk_of lx (child (drop at s))) (length s - at) r t (here lx child s at r t h) (omega arith) in turn r t d q a.0 a.1 e

  pub items_fault : (r t k m : ℕ) → i < count → ToldAt lx child s at r t → r ≡ 0 → Told (up k whole) m 0 t
  items_fault r t k m q h z = faulted lx child s at r t k m whole h z (λ f e. run_fault v f q (item_fault lx lr nil cons law child s at deep f e))

  pub items_end : (k r t : ℕ) → count ≤ i → 1 ≤ k → r ≡ at + k → t ≡ deep + 1 → Told (up k whole) (length s + k) r t
  items_end k r t q o p e = told_run whole (length s) at deep k (run_done v nil flat (run_none lx lr nil cons law child) q) v.inside v.shallow o p e

-- ---- each behind its name
module _ {X R : Type 0} (lx : X → ℕ) (lr : R → ℕ) (nil : R) (cons : ℕ → X → R → R) (next : ℕ → ℕ) (law : (m : ℕ) (x : X) (r : R) → lr (cons m x r) ≡ max (lx x) (lr r)) (flat : lr nil ≡ 0)
    (child : List ℕ → Got X) {whole : Walk} (least : ℕ) {s : List ℕ} {count at deep i : ℕ} (v : RunInv lr whole (λ (n : ℕ). read_named nil cons next child n least) s count at deep i) where
  pub names_end : (k r t : ℕ) → count ≤ i → 1 ≤ k → r ≡ at + k → t ≡ deep + 1 → Told (up k whole) (length s + k) r t
  names_end k r t q o p e = told_run whole (length s) at deep k (run_done v nil flat (named_none lx lr nil cons next law child least) q) v.inside v.shallow o p e

  pub names_none : (k m r t : ℕ) → i < count → length s - at < name_width → r ≡ 0 → t ≡ 1 → Told (up k whole) m r t
  names_none k m r t q h p e = stopped Shape whole k m r t (run_fault v Shape q (named_ends lx lr nil cons next law child s at deep least h)) p e

  module _ (name : ℕ) (named : name ≡ num_at name_width at s) (two : name_width ≤ length s - at) (q : i < count) where
    pub names_fall : (k m r t : ℕ) → name < least → r ≡ 0 → t ≡ 2 → Told (up k whole) m r t
    names_fall k m r t h p e = stopped Names whole k m r t (run_fault v Names q (named_names lx lr nil cons next law child s at deep least name named two h)) p e

    module _ (above : least ≤ name) where
      named_on : (n l d : ℕ) → walk_of lx (child (drop (at + name_width) s)) ≡ walk.End n l → (n ≤ length s - (at + name_width)) × (l ≤ n) → d ≡ max deep l
          → RunInv lr whole (λ (j : ℕ). read_named nil cons next child j (next name)) s count (at + name_width + n) d (i + 1)
      named_on n l d w z e = let a = v.inside in run_turn v (λ (j : ℕ). read_named nil cons next child j (next name)) (at + name_width) d n l q e z (omega arith) (omega arith)
          (named_turn lx lr nil cons next law child s at deep least name named two n l above w)

      pub names_short : (isLeaf : X → Bool) → ((x : X) → isLeaf x ≡ true → lx x ≡ 1) → (n d : ℕ)
          → Short isLeaf (child (drop (at + name_width) s)) (Some n) (length s - (at + name_width)) → d ≡ max deep 1
          → RunInv lr whole (λ (j : ℕ). read_named nil cons next child j (next name)) s count (at + name_width + n) d (i + 1)
      names_short isLeaf one n d h e =
          named_on n 1 d (short_end lx isLeaf one (child (drop (at + name_width) s)) n (length s - (at + name_width)) h) (h.room.1, h.room.0) e

      pub names_walk : (r t d : ℕ) → ToldAt lx child s (at + name_width) r t → (r ≡ 0 → ⊥) → d ≡ max deep t
          → RunInv lr whole (λ (j : ℕ). read_named nil cons next child j (next name)) s count (at + name_width + r) d (i + 1)
      names_walk r t d h z e = let a = told_end (walk_of lx (child (drop (at + name_width) s))) (length s - (at + name_width)) r t (here lx child s (at + name_width) r t h)
          (omega arith) in named_on r t d
          a.0 a.1 e

      pub names_fault : (r t k m : ℕ) → ToldAt lx child s (at + name_width) r t → r ≡ 0 → Told (up k whole) m 0 t
      names_fault r t k m h z = faulted lx child s (at + name_width) r t k m whole h z (λ f e. run_fault v f q (named_fault lx lr nil cons next law child s at deep least name named two f above e))

-- ---- a run of one child or more, whose `deep` starts at 1: every child has level 1 at least, so leaves need not touch it
pub record DeepInv {X : Type 0} (lv : X → ℕ) (whole : Walk) (now : ℕ → List ℕ → Got X) (s : List ℕ) (count at deep i : ℕ) : Type 0 where
  pub d : ℕ
  pub run : RunInv lv whole now s count at d i
  pub deeper : deep ≡ max 1 d
  pub some : 0 < i → 1 ≤ d

pub deep_start : {X : Type 0} (lv : X → ℕ) (now : ℕ → List ℕ → Got X) (s : List ℕ) (count : ℕ) → DeepInv lv (walk_by lv 0 0 (now count s)) now s count 0 1 0
deep_start lv now s count = record { d = 0; run = run_start lv now s count 0 0 (omega arith) (omega arith); deeper = omega arith; some = λ z. absurd (omega arith) }

module _ {X : Type 0} {lv : X → ℕ} {whole : Walk} {now : ℕ → List ℕ → Got X} {s : List ℕ} {count at deep i : ℕ} (v : DeepInv lv whole now s count at deep i) where
  -- a turn past a child of level l
  pub deep_turn : (next : ℕ → List ℕ → Got X) (to d l : ℕ) → RunInv lv whole next s count to (max v.d l) (i + 1) → 1 ≤ l → d ≡ max deep l → DeepInv lv whole next s count to d (i + 1)
  deep_turn next to d l r h e = let w = v.deeper in record { d = max v.d l; run = r; deeper = omega arith; some = λ z. omega arith }

  -- behind the last child
  pub deep_is : 0 < count → count ≤ i → deep ≡ v.d
  deep_is p h = omega (arith, v.deeper, v.some (omega arith))

-- no children
pub run_empty : {X R : Type 0} (nil : R) (cons : X → R → R) (child : List ℕ → Got X) (r : List ℕ) → read_run nil cons child 0 r ≡ got nil 0
unfolding read_run
run_empty nil cons child r = refl

pub named_empty : {X R : Type 0} (nil : R) (cons : ℕ → X → R → R) (next : ℕ → ℕ) (child : List ℕ → Got X) (least : ℕ) (r : List ℕ) → read_named nil cons next child 0 least r ≡ got nil 0
unfolding read_named
named_empty nil cons next child least r = refl

pub none_told : {X : Type 0} (lv : X → ℕ) (now : ℕ → List ℕ → Got X) (nil : X) → lv nil ≡ 0 → ((r : List ℕ) → now 0 r ≡ got nil 0) → (s : List ℕ) (count k n r t : ℕ) → 0 ≡ count
    → 1 ≤ k → r ≡ k → t ≡ 1 → Told (up k (walk_by lv 0 0 (now count s))) (n + k) r t
none_told lv now nil flat none s count k n r t z o p q = told_run (walk_by lv 0 0 (now count s)) n 0 0 k
    (run_done (run_start lv now s count 0 0 (omega arith) (omega arith)) nil flat none (omega (arith, z))) (omega arith) (omega arith) o (omega (arith, p)) (omega (arith, q))

-- a level that was told is that of something
pub level_some : {X : Type 0} (lx : X → ℕ) → ((x : X) → 1 ≤ lx x) → (child : List ℕ → Got X) (s : List ℕ) (a r t : ℕ) → ToldAt lx child s a r t → (r ≡ 0 → ⊥) → 1 ≤ t
unfolding walk_of
level_some {X} lx pos child s a r t h z = go (child (drop a s)) (here lx child s a r t h)
  where
    go : (g : Got X) → Told (walk_of lx g) (length s - a) r t → 1 ≤ t
    go (got x n) w = omega (arith, w.told, pos x)
    go (bad f) w = absurd (z w.size)
