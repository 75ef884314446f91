-- The reader of values forward: what stands at the front is made of what stands behind it, whether that is read or not.
-- Index: `node_range`, `no_range`, `node_list`, `node_context` (by the command); `item_on`, `items_gone` (items).
-- Assumes nothing.
use Prim.Native.Nat.{ℕ, suc, ◌+◌, ◌-◌, ◌<◌, ◌≤◌}
use mathlib.Core.Path.{◌≡◌, refl, ap, ◌∙◌}
use mathlib.Core.Bool.{Bool, true, false}
use mathlib.Core.Option.{none, some}
use mathlib.Core.List.{List, [], ◌∷◌}
use native.Mathlib.Omega.{arith}
use lib.ListN.{length, get_or, drop, length-drop}
use lib.Seq.{get_or-drop, drop-drop}
use lib.Dec.{leb}
use borrow.Author.Tests.{le-leb, leb-true}
use Rattle.form.specs.Trees.{Val, v_range, v_list, v_context, v_irrelevant, Vals, no_items, item}
use Rattle.form.specs.Form.{num_at}
use Rattle.form.specs.Layout.{kind_of}
use Rattle.form.specs.declared.walk.Fault.TheVariants.{Shape}
use Rattle.form.specs.Read.{Got, got, bad, front, and_then, or_else, operand, read_run, counted, read_range, step_value, step_v, read_v, read_vals, read_entries}
use Rattle.form.proofs.Runs.{step}
use Rattle.form.proofs.ValueLaws.{v_step}
use Rattle.types.specs.At.{seen}
use Rattle.types.proofs.Reading.{seen_got}
use Rattle.types.proofs.Pairs.{map_o, seen_front}
use Rattle.order.specs.Size.{size_val}
use Rattle.values.specs.At.{value_at, items_at, entries_at}
use Rattle.values.proofs.Reading.{value_told}

-- ---- runs
run_on : {X R : Type 0} (sx : X → ℕ) (nil : R) (cons : X → R → R) (child : List ℕ → Got X) → ((s : List ℕ) (x : X) (m : ℕ) → child s ≡ got x m → m ≡ sx x)
    → (n : ℕ) (s : List ℕ) (x : X) → seen (child s) ≡ some x → seen (read_run nil cons child (suc n) s) ≡ map_o (cons x) (seen (read_run nil cons child n (drop (sx x) s)))
unfolding read_run and_then
run_on sx nil cons child told n s x e =
    seen_got (child s) x e (λ m r.
    rw (r, ← told s x m r) (seen_front (cons x) (0 + m) (read_run nil cons child n (drop m s))))

-- an item that stands at `at`
pub item_on : (l i n at : ℕ) (v : List ℕ) (x : Val) → i < n → value_at l (drop at v) ≡ some x → items_at l (n - i) (drop at v) ≡ map_o (item x) (items_at l (n - (i + 1)) (drop (at + size_val x) v))
unfolding value_at items_at
item_on l i n at v x h e =
    ap (λ k. seen (read_vals (read_v l) k (drop at v))) (step i n h)
    ∙ run_on size_val no_items item (read_v l) (λ s y m r. (value_told l s y m r).sized) (n - (i + 1)) (drop at v) x e
    ∙ ap (λ r. map_o (item x) (seen (read_vals (read_v l) (n - (i + 1)) r))) (drop-drop (size_val x) at v)

pub items_gone : (l i n at : ℕ) (v : List ℕ) → n ≤ i → items_at l (n - i) (drop at v) ≡ some no_items
unfolding items_at seen read_run
items_gone l i n at v h = let z : n - i ≡ 0 = omega arith in rw z

-- ---- nodes
-- two values, one behind the other, as a range of them
unfoldable pub range_of : ℕ → ℕ → Vals → Val
range_of i j no_items = v_irrelevant
range_of i j (item a no_items) = v_irrelevant
range_of i j (item a (item b vs)) = v_range i j a b

two_seen : (i j : ℕ) (child : List ℕ → Got Val) (s : List ℕ) → seen (and_then (v_range i j) 3 s child (child s)) ≡ map_o (range_of i j) (seen (read_vals child 2 s))
unfolding read_run and_then seen map_o front range_of
two_seen i j child s = go (child s)
  where
    last : (x : Val) (n : ℕ) (y : Got Val) → seen (front (v_range i j x) (3 + n) y) ≡ map_o (range_of i j) (seen (front (item x) (0 + n) (and_then item 0 (drop n s) (λ r. got no_items 0) y)))
    last x n (got y m) = refl
    last x n (bad f) = refl

    go : (x : Got Val) → seen (and_then (v_range i j) 3 s child x) ≡ map_o (range_of i j) (seen (and_then item 0 s (read_vals child 1) x))
    go (got x n) = last x n (child (drop n s))
    go (bad f) = refl

range_seen : (child : List ℕ → Got Val) (r : List ℕ) → 2 ≤ length r → get_or r 0 0 ≤ 3 → get_or r 1 0 ≤ 3
    → seen (read_range child r) ≡ map_o (range_of (get_or r 0 0) (get_or r 1 0)) (seen (read_vals child 2 (drop 2 r)))
unfolding read_range or_else
range_seen child [] o p q = absurd (omega arith)
range_seen child (a ∷ []) o p q = absurd (omega arith)
range_seen child (a ∷ b ∷ s) o p q = rw (le-leb a 3 p, le-leb b 3 q) (two_seen a b child s)

-- an interval byte over 3
range_unseen : (child : List ℕ → Got Val) (r : List ℕ) → (get_or r 0 0 ≤ 3 → get_or r 1 0 ≤ 3 → ⊥) → seen (read_range child r) ≡ none
unfolding read_range or_else seen
range_unseen child [] h = refl
range_unseen child (a ∷ []) h = refl
range_unseen child (a ∷ b ∷ s) h = go (leb a 3) (leb b 3) refl refl
  where
    go : (p q : Bool) → leb a 3 ≡ p → leb b 3 ≡ q → seen (or_else Shape (leb a 3) (or_else Shape (leb b 3) (and_then (v_range a b) 3 s child (child s)))) ≡ none
    go true true e f = absurd (h (leb-true a 3 e) (leb-true b 3 f))
    go true false e f = rw (e, f)
    go false q e f = rw e

module _ (l : ℕ) (s : List ℕ) (p : 0 < l) (h : 3 ≤ length s) where
  some_byte : 0 < length s
  some_byte = omega arith

  two_bytes : 2 ≤ length (drop 1 s)
  two_bytes = simp length-drop (omega arith)

  pub node_range : get_or s 0 0 ≡ 9 → get_or s 1 0 ≤ 3 → get_or s 2 0 ≤ 3 → value_at l s ≡ map_o (range_of (get_or s 1 0) (get_or s 2 0)) (items_at (l - 1) 2 (drop 3 s))
  unfolding value_at items_at kind_of step_v step_value
  node_range c i j = rw (v_step l s some_byte p, c) (rw (get_or-drop 1 s 0 0, get_or-drop 1 s 1 0, drop-drop 2 1 s) at
      (range_seen (read_v (l - 1)) (drop 1 s) two_bytes (rw (get_or-drop 1 s 0 0) i) (rw (get_or-drop 1 s 1 0) j)))

  pub no_range : get_or s 0 0 ≡ 9 → (get_or s 1 0 ≤ 3 → get_or s 2 0 ≤ 3 → ⊥) → value_at l s ≡ none
  unfolding value_at kind_of step_v step_value
  no_range c w = rw (v_step l s some_byte p, c) (range_unseen (read_v (l - 1)) (drop 1 s) (λ i j. w (rw (get_or-drop 1 s 0 0) at i) (rw (get_or-drop 1 s 1 0) at j)))

  pub node_list : get_or s 0 0 ≡ 10 → value_at l s ≡ map_o v_list (items_at (l - 1) (num_at 2 1 s) (drop 3 s))
  unfolding value_at items_at kind_of step_v step_value counted operand or_else
  node_list c = rw (v_step l s some_byte p, c, le-leb 2 (length (drop 1 s)) two_bytes, drop-drop 2 1 s) (seen_front v_list 3 (read_vals (read_v (l - 1)) (num_at 2 1 s) (drop 3 s)))

  pub node_context : get_or s 0 0 ≡ 11 → value_at l s ≡ map_o v_context (entries_at (l - 1) (num_at 2 1 s) 0 (drop 3 s))
  unfolding value_at entries_at kind_of step_v step_value counted operand or_else
  node_context c = rw (v_step l s some_byte p, c, le-leb 2 (length (drop 1 s)) two_bytes, drop-drop 2 1 s) (seen_front v_context 3 (read_entries (read_v (l - 1)) (num_at 2 1 s) 0 (drop 3 s)))
