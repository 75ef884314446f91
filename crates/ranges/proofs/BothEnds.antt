-- A range that was read, by its two ends.
-- Idea: the reader took the start behind three bytes and the end right behind it; a start that is a leaf has the size that its command says (`widths`).
-- Index: `ends`, what the call needs: `range_bytes`, `start_at`, `end_inside`, `end_at` (what is there); `start_three`, `end_three`, `start_other`, `ends_done` (the answers).
-- Assumes nothing.
use Prim.Native.Nat.{ℕ, ◌+◌, ◌-◌, ◌<◌}
use mathlib.Core.Path.{◌≡◌, refl, sym, ap, ap₂, ◌∙◌}
use mathlib.Core.Bool.{Bool, true, false, false≢true}
use mathlib.Core.Option.{some}
use mathlib.Core.List.{List}
use native.Mathlib.Omega.{arith}
use lib.ListN.{length, get_or, take, drop, length-drop}
use lib.Seq.{get_or-drop, drop-drop}
use Rattle.std.proofs.lemmas.List.{take_rest}
use Rattle.std.proofs.lemmas.Bool.Decides.{nat_tests}
use borrow.Author.Tests.{eq-eqb, ne_eqb}
use Rattle.form.specs.Trees.{Val, v_leaf, v_range, v_list, v_context, v_function, v_built_in, v_type, v_irrelevant}
use Rattle.form.specs.Limits.{value_levels}
use Rattle.std.specs.declared.option.Option.TheVariants.{Some, None}
use Rattle.form.specs.Layout.{k_range, kind_of, width_of, is_leaf_command}
use Rattle.form.specs.Outcome.{pick}
use Rattle.form.specs.Read.{got, read_v}
use Rattle.form.specs.Widths.{command, read_children}
use Rattle.form.proofs.Exact.{got_parts}
use Rattle.form.proofs.Nodes.{NodeV, n_range_v, value_read, node_of}
use Rattle.form.proofs.Widths.{widths}
use Rattle.types.proofs.Reading.{seen_got}
use Rattle.values.specs.At.{value_at}
use Rattle.ranges.specs.Ranges.{point, elsewhere, in_order, is_valid_range}
use Rattle.ranges.specs.Calls.{Ranged, RangeOf, RangeIs, EndAt, point_at}
use Rattle.ranges.proofs.Ends.{end_point, end_there}

-- both ends as the reader read them, one level below the range
abbrev left : ℕ
left = value_levels - 1

record Parts (s : List ℕ) : Type 0 where
  a : Val
  b : Val
  m : ℕ
  n : ℕ
  first : read_v left (drop 3 s) ≡ got a m
  second : read_v left (drop (3 + m) s) ≡ got b n
  is : (r : Bool) → r ≡ is_valid_range (v_range (get_or s 1 0) (get_or s 2 0) a b) → RangeIs s r

parts_of : (s : List ℕ) (v : Val) (n : ℕ) → value_at value_levels s ≡ some v → NodeV left s k_range v n → Parts s
unfolding RangeOf
parts_of s v n r (n_range_v c k x y a m p b j q) =
    record { a = a; b = b; m = m; n = j; first = p; second = ap (read_v left) (sym (drop-drop m 3 s)) ∙ q; is = λ t e. rw r e }

parts : (s : List ℕ) → Ranged s → Parts s
unfolding value_at kind_of
parts s R = seen_got (read_v value_levels s) R.value R.read (λ n e. parts_of s R.value n R.read (node_of k_range value_levels s R.value n (ap kind_of R.is) e))

-- a leaf has the size that its command says
leaf_command : (v : Val) → is_leaf_command (command v) ≡ true → (children : ℕ) (s : List ℕ) (n : ℕ) → read_children children v s ≡ got v n → n ≡ 0
unfolding read_children
leaf_command (v_leaf l) h k s n e = got_parts (v_leaf l) (v_leaf l) 0 n e (λ p q. sym q)
leaf_command (v_range i j v w) h k s n e = absurd (false≢true (sym (widths.leaves_exact (v_range i j v w)) ∙ h))
leaf_command (v_list vs) h k s n e = absurd (false≢true (sym (widths.leaves_exact (v_list vs)) ∙ h))
leaf_command (v_context es) h k s n e = absurd (false≢true (sym (widths.leaves_exact (v_context es)) ∙ h))
leaf_command (v_function ps b r) h k s n e = absurd (false≢true (sym (widths.leaves_exact (v_function ps b r)) ∙ h))
leaf_command (v_built_in b) h k s n e = absurd (false≢true (sym (widths.leaves_exact (v_built_in b)) ∙ h))
leaf_command (v_type t) h k s n e = absurd (false≢true (sym (widths.leaves_exact (v_type t)) ∙ h))
leaf_command v_irrelevant h k s n e = absurd (false≢true (sym (widths.leaves_exact v_irrelevant) ∙ h))

no_point : (v : Val) → is_leaf_command (command v) ≡ false → point v ≡ elsewhere
no_point (v_leaf l) h = absurd (false≢true (sym h ∙ widths.leaves_exact (v_leaf l)))
no_point (v_range i j v w) h = refl
no_point (v_list vs) h = refl
no_point (v_context es) h = refl
no_point (v_function ps b r) h = refl
no_point (v_built_in b) h = refl
no_point (v_type t) h = refl
no_point v_irrelevant h = refl

module _ (s : List ℕ) (R : Ranged s) where
  P : Parts s
  P = parts s R

  pub range_bytes : 3 < length s
  range_bytes = omega (arith, (value_read left (drop 3 s) P.a P.m P.first).some_byte, length-drop 3 s)

  pub start_at : EndAt (take (length s - 3) (drop 3 s))
  start_at = rw take_rest (end_there left (drop 3 s) P.a P.m P.first)

  first_byte : get_or (drop 3 s) 0 0 ≡ get_or s 3 0
  first_byte = get_or-drop 3 s 0 0

  first_command : command P.a ≡ get_or s 3 0
  first_command = sym (widths.value_read left (drop 3 s) P.a P.m P.first).first ∙ first_byte

  -- a start that is no leaf
  pub start_other : pick (is_leaf_command (get_or s 3 0)) (Some (width_of (get_or s 3 0) + 1)) None ≡ None → RangeIs s false
  start_other e = P.is false (rw (no_point P.a (ap is_leaf_command first_command ∙ go (is_leaf_command (get_or s 3 0)) refl)) (grind (arith, nat_tests)))
    where
      go : (q : Bool) → is_leaf_command (get_or s 3 0) ≡ q → is_leaf_command (get_or s 3 0) ≡ false
      go true h = let z : Some (width_of (get_or s 3 0) + 1) ≡ None = ap (λ q. pick q (Some (width_of (get_or s 3 0) + 1)) None) (sym h) ∙ e in cc
      go false h = h

  -- behind a start of so many bytes
  module _ (size : ℕ) (e : pick (is_leaf_command (get_or s 3 0)) (Some (width_of (get_or s 3 0) + 1)) None ≡ Some size) where
    start_size : size ≡ P.m
    start_size = go (is_leaf_command (get_or s 3 0)) refl
      where
        go : (q : Bool) → is_leaf_command (get_or s 3 0) ≡ q → size ≡ P.m
        go true h =
            let B = widths.value_read left (drop 3 s) P.a P.m P.first in
            let r = leaf_command P.a (ap is_leaf_command first_command ∙ h) (left - 1) (drop (1 + width_of (get_or (drop 3 s) 0 0)) (drop 3 s)) B.rest B.read in
            let w : width_of (get_or (drop 3 s) 0 0) ≡ width_of (get_or s 3 0) = ap width_of first_byte in
            let y : Some (width_of (get_or s 3 0) + 1) ≡ Some size = ap (λ q. pick q (Some (width_of (get_or s 3 0) + 1)) None) (sym h) ∙ e in
            let z : width_of (get_or s 3 0) + 1 ≡ size = cc in
            omega (arith, B.took)
        go false h = let y : None ≡ Some size = ap (λ q. pick q (Some (width_of (get_or s 3 0) + 1)) None) (sym h) ∙ e in cc

    pub end_inside : 3 + size < length s
    end_inside = omega (arith, start_size, (value_read left (drop (3 + P.m) s) P.b P.n P.second).some_byte, length-drop (3 + P.m) s)

    pub end_at : EndAt (take (length s - (3 + size)) (drop (3 + size) s))
    end_at = rw (take_rest, start_size) (end_there left (drop (3 + P.m) s) P.b P.n P.second)

    pub ends_done : (get_or s 1 0 ≡ 3 → ⊥) → (get_or s 2 0 ≡ 3 → ⊥) → (r : Bool)
        → r ≡ in_order (get_or s 1 0) (get_or s 2 0) (point_at (take (length s - 3) (drop 3 s))) (point_at (take (length s - (3 + size)) (drop (3 + size) s))) → RangeIs s r
    ends_done y z r h = P.is r (rw (ne_eqb (get_or s 1 0) 3 y, ne_eqb (get_or s 2 0) 3 z) (h ∙ sym (ap₂ (in_order (get_or s 1 0) (get_or s 2 0)) first second)))
      where
        first : point P.a ≡ point_at (take (length s - 3) (drop 3 s))
        first = end_point left (drop 3 s) P.a P.m P.first ∙ ap point_at (sym (take_rest s 3))

        second : point P.b ≡ point_at (take (length s - (3 + size)) (drop (3 + size) s))
        second = end_point left (drop (3 + P.m) s) P.b P.n P.second ∙ ap (λ k. point_at (drop (3 + k) s)) (sym start_size) ∙ ap point_at (sym (take_rest s (3 + size)))

  -- an end byte of 3
  pub start_three : get_or s 1 0 ≡ 3 → RangeIs s false
  start_three h = P.is false (rw (eq-eqb (get_or s 1 0) 3 h))

  pub end_three : get_or s 2 0 ≡ 3 → RangeIs s false
  end_three h = P.is false (grind (arith, nat_tests))

pub ruleset ends = (range_bytes, start_at, end_inside, end_at, start_three, end_three, start_other, ends_done, nat_tests)
