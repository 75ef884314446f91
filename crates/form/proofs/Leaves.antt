-- The short ways past leaves are exact. A leaf that was read has its command and its operands at the front (from the reader's nodes), so there is
-- none where one of them is missing; where all are there it is read (from the walk's laws), and its node says that it is a leaf.
-- Index: `simple_none`, `simple_some` (a simple type); `LeafHere`, `leaf_none`, `leaf_some`, `leaf_bounded`, `leaf_within`, `leaf_away`,
-- `temporal_bound` (a leaf of data).
-- Assumes nothing.
use Prim.Native.Nat.{ℕ, ◌+◌, ◌-◌, ◌<◌, ◌≤◌}
use mathlib.Core.Path.{◌≡◌, refl, sym, ap, subst, ◌∙◌}
use mathlib.Core.Bool.{Bool, true, false, ◌&&◌}
use mathlib.Core.List.{List}
use native.Mathlib.Omega.{arith}
use lib.ListN.{length, get_or, drop, length-drop}
use lib.Seq.{get_or-drop}
use lib.Dec.{leb}
use borrow.Author.Tests.{leb-true, leb-false, le-leb, ne_eqb}
use Rattle.std.specs.declared.option.Option.{Option}
use Rattle.std.specs.declared.option.Option.TheVariants.{None, Some}
use Rattle.form.specs.Trees.{Ty, Val, simple, is_short_leaf}
use Rattle.form.specs.Form.{level_v}
use Rattle.form.specs.Layout.{ValueKind, t_simple, of_type, kind_of, operands, operands_v, width_of}
use Rattle.form.specs.Read.{Got, got, bad, read_t, step_type, step_t, read_v}
use Rattle.form.specs.Walks.{walk_of, leaf_in, Short, size_within, size_bounded, operand_end}
use Rattle.form.specs.Walks as walk
use Rattle.form.proofs.CommandKinds.{kind_simple, key_width, leaf_low}
use Rattle.form.proofs.Runs.{end_stop, first_at}
use Rattle.form.proofs.Nodes.{NodeT, n_simple, n_list, n_range, n_context, n_function, type_read, value_read}
use Rattle.form.proofs.Nodes.{NodeV, n_null, n_boolean, n_number, n_string, n_temporal, n_range_v, n_list_v, n_context_v, n_definition, n_built_in, n_type, n_irrelevant, n_decimal}
use Rattle.form.proofs.TypeLaws.{t_step}
use Rattle.form.proofs.ValueLaws.{leaf_is}

differ : false ≡ true → ⊥
differ e = let z : ◌≡◌ {A = ℕ} 0 1 = cc in omega arith

-- ---- whatever is read: none where it is no leaf, its size where it is one
none_in : {X : Type 0} (isLeaf : X → Bool) (g : Got X) → ((x : X) (n : ℕ) → g ≡ got x n → isLeaf x ≡ true → ⊥) → None ≡ leaf_in isLeaf g
unfolding leaf_in
none_in isLeaf (got x n) h = go (isLeaf x) refl
  where
    go : (t : Bool) → isLeaf x ≡ t → None ≡ leaf_in isLeaf (got x n)
    go true e = absurd (h x n refl e)
    go false e = rw e
none_in isLeaf (bad f) h = refl

size_in_lem : {X : Type 0} (lx : X → ℕ) (isLeaf : X → Bool) (g : Got X) (n l : ℕ) → walk_of lx g ≡ walk.End n l
    → ((x : X) (m : ℕ) → g ≡ got x m → isLeaf x ≡ true) → ◌≡◌ {A = Option ℕ} (Some n) (leaf_in isLeaf g)
unfolding walk_of leaf_in
size_in_lem lx isLeaf (got x m) n l e h = let p : n ≡ m = cc in rw (h x m refl) (ap (λ (k : ℕ). Some k) p)
size_in_lem lx isLeaf (bad f) n l e h = absurd (end_stop (sym e))

-- ---- a simple type
simple_node : (left : ℕ) (s : List ℕ) (t : Ty) (n : ℕ) → NodeT left s t n → simple t ≡ true → (32 ≤ get_or s 0 0) × (get_or s 0 0 < 42)
simple_node left s t n (n_simple p q) e = (p, q)
simple_node left s t n (n_list c u m p) e = absurd (differ e)
simple_node left s t n (n_range c u m p) e = absurd (differ e)
simple_node left s t n (n_context c k fs m p) e = absurd (differ e)
simple_node left s t n (n_function c k ts m p u j q) e = absurd (differ e)

module _ (l : ℕ) (s : List ℕ) (at : ℕ) where
  pub simple_none : (0 < l → at < length s → 32 ≤ get_or s at 0 → get_or s at 0 < 42 → ⊥) → Short simple (read_t l (drop at s)) None (length s - at)
  simple_none away = record { size = none_in simple (read_t l (drop at s)) clash; room = tt }
    where
      clash : (t : Ty) (n : ℕ) → read_t l (drop at s) ≡ got t n → simple t ≡ true → ⊥
      clash t n e z =
          let R = type_read l (drop at s) t n e in
          let b = simple_node (l - 1) (drop at s) t n R.node z in
          let k = simp length-drop at R.some_byte in
          let f = first_at s at in
          away R.some_level (omega arith) (omega arith) (omega arith)

  pub simple_some : 0 < l → at < length s → 32 ≤ get_or s at 0 → get_or s at 0 < 42 → Short simple (read_t l (drop at s)) (Some 1) (length s - at)
  unfolding leaf_in step_t step_type
  simple_some p h x y =
      let f = first_at s at in
      let k : kind_of (get_or (drop at s) 0 0) ≡ of_type t_simple = kind_simple (get_or (drop at s) 0 0) (omega arith) (omega arith) in
      record { size = rw (t_step l (drop at s) (simp length-drop (omega arith)) p, k) refl; room = (omega arith, omega arith) }

-- ---- a leaf of data but a decimal, of n bytes: its command b, its last operand byte x, in len bytes
pub record LeafHere (b x len n : ℕ) : Type 0 where
  pub command : b < 9
  pub wide : n ≡ width_of b + 1
  pub two : 2 ≤ n
  pub room : n ≤ len
  pub operand : x ≤ 255 → x ≤ operand_end b

-- what was read is such a leaf, or its command is another
data Judged (s : List ℕ) (v : Val) (n : ℕ) : Type 0 where
  a_leaf : is_short_leaf v ≡ true → LeafHere (get_or s 0 0) (get_or s (n - 1) 0) (length s) n → Judged s v n
  no_leaf : is_short_leaf v ≡ false → 9 ≤ get_or s 0 0 → Judged s v n

-- by the command
here : (b c x len n : ℕ) → b ≡ c → LeafHere c x len n → LeafHere b x len n
here b c x len n e h = rw e h

-- the bound of a temporal's last byte
pub temporal_bound : (b : ℕ) → 4 ≤ b → b < 9 → operand_end b ≡ 255
unfolding operand_end
temporal_bound b h i = rw (ne_eqb b 0 (λ e. omega arith), ne_eqb b 1 (λ e. omega arith), ne_eqb b 16 (λ e. omega arith))

judged : {j : ValueKind} (left : ℕ) (s : List ℕ) (v : Val) (n : ℕ) → NodeV left s j v n → Judged s v n
unfolding width_of kind_of operands operands_v operand_end
judged left s v n (n_null c k x) = a_leaf refl (here _ 0 _ _ _ c (record { command = omega arith; wide = refl; two = omega arith; room = k; operand = λ _. x }))
judged left s v n (n_boolean c k x) = a_leaf refl (here _ 1 _ _ _ c (record { command = omega arith; wide = refl; two = omega arith; room = k; operand = λ _. x }))
judged left s v n (n_number c k) = a_leaf refl (here _ 2 _ _ _ c (record { command = omega arith; wide = refl; two = omega arith; room = k; operand = λ x. x }))
judged left s v n (n_string c k) = a_leaf refl (here _ 3 _ _ _ c (record { command = omega arith; wide = refl; two = omega arith; room = k; operand = λ x. x }))
judged left s v n (n_temporal c d k) = a_leaf refl (record {
  command = d;
  wide = omega (arith, key_width (get_or s 0 0) c d);
  two = omega arith;
  room = k;
  operand = λ x. omega (arith, temporal_bound (get_or s 0 0) c d);
})
judged left s v n (n_range_v c k x y a m p b j q) = no_leaf refl (omega arith)
judged left s v n (n_list_v c k vs m p) = no_leaf refl (omega arith)
judged left s v n (n_context_v c k es m p) = no_leaf refl (omega arith)
judged left s v n (n_definition c k t m p ps j q) = no_leaf refl (omega arith)
judged left s v n (n_built_in c k x) = no_leaf refl (omega arith)
judged left s v n (n_type c t m p) = no_leaf refl (omega arith)
judged left s v n (n_irrelevant c) = no_leaf refl (omega arith)
judged left s v n (n_decimal c k x) = no_leaf refl (omega arith)

module _ (l : ℕ) (s : List ℕ) (at : ℕ) where
  pub leaf_none : (0 < l → at < length s → (n : ℕ) → LeafHere (get_or s at 0) (get_or s (at + n - 1) 0) (length s - at) n → ⊥) → Short is_short_leaf (read_v l (drop at s)) None (length s - at)
  leaf_none away = record { size = none_in is_short_leaf (read_v l (drop at s)) clash; room = tt }
    where
      clash : (v : Val) (n : ℕ) → read_v l (drop at s) ≡ got v n → is_short_leaf v ≡ true → ⊥
      clash v n e z =
          let R = value_read l (drop at s) v n e in
          let k = simp length-drop at R.some_byte in
          go R.some_level (omega arith) (judged (l - 1) (drop at s) v n R.node)
        where
          go : 0 < l → at < length s → Judged (drop at s) v n → ⊥
          go p h (a_leaf t f) =
              let k : at + (n - 1) ≡ at + n - 1 = omega (arith, f.two) in
              away p h n (rw (first_at s at, get_or-drop at s (n - 1) 0, length-drop at s, k) at f)
          go p h (no_leaf t f) = differ (sym t ∙ z)

  pub leaf_some : (n : ℕ) → 0 < l → at < length s → get_or s at 0 < 9 → n ≡ width_of (get_or s at 0) + 1 → n ≤ length s - at
      → get_or s (at + n - 1) 0 ≤ operand_end (get_or s at 0) → Short is_short_leaf (read_v l (drop at s)) (Some n) (length s - at)
  leaf_some n p h c w r q =
      let d : length (drop at s) ≡ length s - at = length-drop at s in
      let a : get_or (drop at s) 0 0 ≡ get_or s at 0 = first_at s at in
      let k : at + width_of (get_or s at 0) ≡ at + n - 1 = omega (arith, w) in
      let b : get_or (drop at s) (width_of (get_or (drop at s) 0 0)) 0 ≡ get_or s (at + n - 1) 0 = rw a (get_or-drop at s (width_of (get_or s at 0)) 0 ∙ ap (λ (j : ℕ). get_or s j 0) k) in
      let o : width_of (get_or (drop at s) 0 0) ≤ length (drop at s) - 1 = rw (a, d) (omega (arith, w)) in
      let e = leaf_is l (drop at s) (rw d (omega arith)) p o (rw (b, a) q) (leaf_low (get_or (drop at s) 0 0) (omega arith)) in
      record {
        size = ap (λ (k : ℕ). Some k) (w ∙ ap (λ (z : ℕ). width_of z + 1) (sym a)) ∙ size_in_lem level_v is_short_leaf (read_v l (drop at s)) _ 1 e leafy;
        room = (omega (arith, w), r);
      }
    where
      leafy : (v : Val) (m : ℕ) → read_v l (drop at s) ≡ got v m → is_short_leaf v ≡ true
      leafy v m e = go (judged (l - 1) (drop at s) v m (value_read l (drop at s) v m e).node)
        where
          go : Judged (drop at s) v m → is_short_leaf v ≡ true
          go (a_leaf t f) = t
          go (no_leaf t f) = absurd (let a = first_at s at in omega arith)

and_true : (b : Bool) → b && true ≡ b
and_true true = refl
and_true false = refl

-- ---- from the tests of the code: a leaf of n bytes by its command
module _ (l : ℕ) (s : List ℕ) (at n : ℕ) (p : 0 < l) (h : at < length s) (c : get_or s at 0 < 9) (w : n ≡ width_of (get_or s at 0) + 1) (y : get_or s (at + n - 1) 0 ≤ 255) where
  pub leaf_bounded : (r : Option ℕ) (m : ℕ) → r ≡ size_bounded n (length s - at) (get_or s (at + n - 1) 0) m → m ≡ operand_end (get_or s at 0)
      → Short is_short_leaf (read_v l (drop at s)) r (length s - at)
  leaf_bounded r m e k = go (leb n (length s - at)) refl (leb (get_or s (at + n - 1) 0) m) refl
    where
      known : (z : Option ℕ) → r ≡ z → Short is_short_leaf (read_v l (drop at s)) z (length s - at) → Short is_short_leaf (read_v l (drop at s)) r (length s - at)
      known z q f = subst (λ (j : Option ℕ). Short is_short_leaf (read_v l (drop at s)) j (length s - at)) (sym q) f

      go : (a : Bool) → leb n (length s - at) ≡ a → (b : Bool) → leb (get_or s (at + n - 1) 0) m ≡ b → Short is_short_leaf (read_v l (drop at s)) r (length s - at)
      go true a true b = known (Some n) (rw (a, b) at e) (leaf_some l s at n p h c w (leb-true n (length s - at) a) (omega (arith, leb-true (get_or s (at + n - 1) 0) m b)))
      go true a false b = known None (rw (a, b) at e) (leaf_none l s at (λ _ _ j f.
          let z : j ≡ n = omega (arith, f.wide, w) in
          let x : get_or s (at + j - 1) 0 ≡ get_or s (at + n - 1) 0 = ap (λ (i : ℕ). get_or s (at + i - 1) 0) z in
          omega (arith, x, f.operand (omega (arith, x)), leb-false (get_or s (at + n - 1) 0) m b)))
      go false a b _ = known None (rw a at e) (leaf_none l s at (λ _ _ j f. omega (arith, f.wide, w, f.room, leb-false n (length s - at) a)))

  -- its last byte is any
  pub leaf_within : (r : Option ℕ) → r ≡ size_within n (length s - at) → operand_end (get_or s at 0) ≡ 255 → Short is_short_leaf (read_v l (drop at s)) r (length s - at)
  leaf_within r e k = leaf_bounded r 255 (e ∙ rw (le-leb (get_or s (at + n - 1) 0) 255 y, and_true (leb n (length s - at)))) (sym k)

-- no leaf's command
pub leaf_away : (l : ℕ) (s : List ℕ) (at : ℕ) → 9 ≤ get_or s at 0 → Short is_short_leaf (read_v l (drop at s)) None (length s - at)
leaf_away l s at c = leaf_none l s at (λ p h n f. omega (arith, f.command))
