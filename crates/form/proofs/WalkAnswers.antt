-- The laws of what a walk tells (`Told`): from a callee's answer to its walk, and from a walk to the answer.
-- Index: `told_end`, `told_part`, `told_whole`, `short_end` (a callee's answer); `told_stop`, `told_ended`, `told_fault`, `told_parent`, `told_run`, `told_within` (an answer);
-- `ample`, `scant`, `part_room`, `no_parent` (operands that are there or are missing).
-- Assumes nothing.
use Prim.Native.Nat.{ℕ, ◌+◌, ◌-◌, ◌<◌, ◌≤◌}
use mathlib.Core.Path.{◌≡◌, refl, sym, ap, subst, ◌∙◌}
use mathlib.Core.Bool.{Bool, true, false}
use mathlib.Core.List.{List}
use native.Mathlib.Omega.{arith}
use lib.ListN.{length, get_or, take, drop, length-drop}
use lib.Seq.{take_all}
use Rattle.std.specs.declared.option.Option.{Option}
use Rattle.std.specs.declared.option.Option.TheVariants.{None, Some}
use Rattle.form.specs.Faults.{Fault, place}
use Rattle.form.specs.Layout.{Kind, kind_of, operands, slot, width_of}
use Rattle.form.specs.Read.{Got, got, bad}
use Rattle.form.specs.Walks.{Walk, walk_of, Told, Inside, up, leaf_in, Short}
use Rattle.form.specs.Walks as walk
use Rattle.form.proofs.Some.{some_is, some_none}
use Rattle.form.proofs.CommandKinds.{width_is}
use Rattle.form.proofs.Runs.{rest, length_rest, end_is}

-- ---- a callee's answer
-- a walk that took bytes ended so
pub told_end : (w : Walk) (n r t : ℕ) → Told w n r t → 0 < r → (w ≡ walk.End r t) × ((r ≤ n) × (t ≤ r))
told_end (walk.End size lv) n r t a q =
    let i = a.inside in
    (end_is (sym a.size) (sym a.told), (omega (arith, a.size, a.told), omega (arith, a.size, a.told)))
told_end (walk.Stop f) n r t a q = absurd (omega (arith, a.size))

-- with room for one over the part from a of s
pub told_part : (f : List ℕ → Walk) (s : List ℕ) (a r t : ℕ) → Told (f (take (length s - a) (drop a s))) (length (take (length s - a) (drop a s))) r t → Told (f (drop a s)) (length s - a) r t
told_part f s a r t h = rw (rest s a, length-drop a s) at h

-- the part from 0 is the whole
all_of : (s : List ℕ) → take (length s - 0) s ≡ s
all_of s = take_all (length s - 0) s (omega arith)

pub on_whole : (P : List ℕ → Type 0) (s : List ℕ) → P s → P (take (length s - 0) s)
on_whole P s p = subst P (sym (all_of s)) p

pub told_whole : (f : List ℕ → Walk) (s : List ℕ) (r t : ℕ) → Told (f (take (length s - 0) s)) (length (take (length s - 0) s)) r t → Told (f s) (length s) r t
told_whole f s r t h = subst (λ (x : List ℕ). Told (f x) (length x) r t) (all_of s) h

-- a short way that took bytes: the walk of a leaf, which has level 1
pub short_end : {X : Type 0} (lx : X → ℕ) (isLeaf : X → Bool) → ((x : X) → isLeaf x ≡ true → lx x ≡ 1)
    → (g : Got X) (n room : ℕ) → Short isLeaf g (Some n) room → walk_of lx g ≡ walk.End n 1
unfolding walk_of leaf_in
short_end lx isLeaf one (got x m) n room h = go (isLeaf x) refl
  where
    go : (t : Bool) → isLeaf x ≡ t → walk.End m (lx x) ≡ walk.End n 1
    go true e = let p : ◌≡◌ {A = Option ℕ} (Some n) (Some m) = rw e at h.size in end_is (sym (some_is p)) (one x e)
    go false e = absurd (some_none (rw e at h.size))
short_end lx isLeaf one (bad f) n room h = absurd (some_none h.size)

-- ---- an answer
pub told_stop : (f : Fault) {w : Walk} {n r t : ℕ} → w ≡ walk.Stop f → r ≡ 0 → t ≡ place f → Told w n r t
told_stop f {w} {n} {r} {t} e p q = rw (e, p, q) (record { size = refl; told = refl; inside = tt })

pub told_ended : {w : Walk} {n r t size lv : ℕ} → w ≡ walk.End size lv → 1 ≤ size → size ≤ n → lv ≤ size → r ≡ size → t ≡ lv → Told w n r t
told_ended e a b c p q = rw (e, p, q) (record { size = refl; told = refl; inside = (a, (b, c)) })

-- the whole answers as its part does where the part is at fault
pub told_fault : (w whole : Walk) (n m r t : ℕ) → Told w n r t → r ≡ 0 → ((f : Fault) → w ≡ walk.Stop f → walk.Stop f ≡ whole) → Told whole m 0 t
told_fault (walk.End size lv) whole n m r t a q h = absurd (omega (arith, a.size, a.inside))
told_fault (walk.Stop f) whole n m r t a q h = told_stop f (sym (h f refl)) refl a.told

-- a parent of what stands from k on
pub told_parent : (f : List ℕ → Walk) (s : List ℕ) (k r t : ℕ) {whole : Walk} → whole ≡ up k (f (drop k s)) → k ≤ length s
    → Told (up k (f (take (length s - k) (drop k s)))) (length (take (length s - k) (drop k s)) + k) r t → Told whole (length s) r t
told_parent f s k r t e h a =
    let z : length s - k + k ≡ length s = omega arith in
    rw e (rw z at (rw (rest s k, length-drop k s) at a))

-- a run that ended, behind k bytes of its parent
pub told_run : (whole : Walk) (n at deep k : ℕ) {r t : ℕ} → walk.End at deep ≡ whole → at ≤ n → deep ≤ at → 1 ≤ k → r ≡ at + k → t ≡ deep + 1 → Told (up k whole) (n + k) r t
told_run whole n at deep k e h d o p q = told_ended (sym (ap (up k) e)) (omega arith) (omega arith) (omega arith) p q

-- a leaf within what is there
inside_within : (w : Walk) (n m : ℕ) → Inside w n → n ≤ m → Inside w m
inside_within (walk.End size lv) n m i h = (i.0, (omega arith, i.1.1))
inside_within (walk.Stop f) n m i h = tt

pub told_within : (v : Walk) (n m r t : ℕ) {w : Walk} → Told v n r t → w ≡ v → n ≤ m → Told w m r t
told_within v n m r t a e h = rw e (record { size = a.size; told = a.told; inside = inside_within v n m a.inside h })

-- ---- a command c of kind k with n operand bytes at the front
-- they are there
pub ample : (s : List ℕ) (c n : ℕ) (k : Kind) → get_or s 0 0 ≡ c → kind_of c ≡ k → slot (operands k) ≡ n → n < length s → (kind_of (get_or s 0 0) ≡ k) × (width_of (get_or s 0 0) ≤ length s - 1)
ample s c n k e f h i =
    let g : kind_of (get_or s 0 0) ≡ k = ap kind_of e ∙ f in
    let w = width_is (get_or s 0 0) k g in
    (g, omega (arith, w, h, i))

-- they are not
pub scant : (s : List ℕ) (c n : ℕ) (k : Kind) → get_or s 0 0 ≡ c → kind_of c ≡ k → slot (operands k) ≡ n → 0 < length s → length s ≤ n → length s - 1 < width_of (get_or s 0 0)
scant s c n k e f h z i = let w = width_is (get_or s 0 0) k (ap kind_of e ∙ f) in omega (arith, w, h)

-- behind k bytes there is room for them again
pub part_room : (s : List ℕ) (k : ℕ) → k ≤ length s → length s < 18446744073709551616 → length (take (length s - k) (drop k s)) + k < 18446744073709551616
part_room s k h i = let n = length_rest s k in omega arith

-- a parent whose operands are there was ruled out
pub no_parent : (s : List ℕ) (c : ℕ) (k : Kind) → kind_of c ≡ k → slot (operands k) ≡ 2 → 9 ≤ c → c ≤ 11 → 0 < length s → width_of (get_or s 0 0) ≤ length s - 1
    → (3 ≤ length s → 9 ≤ get_or s 0 0 → 11 < get_or s 0 0) → get_or s 0 0 ≡ c → ⊥
no_parent s c k f h a b z o g e = let w = width_is (get_or s 0 0) k (ap kind_of e ∙ f) in omega (arith, h, g (omega (arith, w, h)) (omega arith))
