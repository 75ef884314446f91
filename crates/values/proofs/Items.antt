-- The loop over the items of a list, or the two ends of a range, each held to the one type. The verdict on the whole is that on what is left, behind what was
-- passed, whether it is read or not; each item that conforms tells the size of the type.
-- Index: `ItemsGo`, `items_start`, `items_turn`, `items_fit`, `items_apart`, `items_done` (the loop); `items_none`, `items_unread` (no items).
-- Assumes nothing.
use Prim.Native.Nat.{ℕ, ◌+◌, ◌-◌, ◌<◌, ◌≤◌}
use mathlib.Core.Path.{◌≡◌, refl, sym, ap, ap₂, ◌∙◌}
use mathlib.Core.Bool.{◌&&◌}
use mathlib.Core.Option.{some}
use mathlib.Core.List.{List}
use native.Mathlib.Omega.{arith}
use lib.ListN.{length, take, drop}
use Rattle.form.specs.Trees.{no_items, item}
use Rattle.order.specs.Order.{Order}
use Rattle.order.specs.Size.{size, size_val, size_vals}
use Rattle.order.specs.Values.{conforms, all_conform}
use Rattle.types.specs.At.{type_at, size_at}
use Rattle.types.specs.Conform.{Conform, conform_by, add_sizes, Met}
use Rattle.types.proofs.SortedNames.{readable_type}
use Rattle.form.proofs.Options.{some_same}
use Rattle.types.proofs.TypeConformance.{sized_part, unsized_part}
use Rattle.types.proofs.Pairs.{map_o, map_o_same, both, no_when, mapped, grown_on, grown_none, met_yes, met_no, Sized, Pair, MetAt, pair_no, pair_in}
use Rattle.values.specs.At.{items_at}
use Rattle.values.specs.Held.{held_items}
use Rattle.values.proofs.Reading.{nth}
use Rattle.values.proofs.Forward.{item_on, items_gone}
use Rattle.values.proofs.ValueConformance.{readable_value}

pub record ItemsGo (O : Order) (l m : ℕ) (whole : Conform) (v : List ℕ) (n : ℕ) (t : List ℕ) (at bt i : ℕ) : Type 0 where
  pub below : i ≤ n
  pub in_v : at ≤ length v
  pub known : 0 < i → Sized size (type_at m) t bt
  pub goes : whole ≡ add_sizes at 0 (held_items O (items_at l (n - i) (drop at v)) (type_at m t))

pub items_start : (O : Order) (l m : ℕ) (v : List ℕ) (n : ℕ) (t : List ℕ) → ItemsGo O l m (held_items O (items_at l n v) (type_at m t)) v n t 0 0 0
items_start O l m v n t =
    let e : n ≡ n - 0 = omega arith in
    record {
      below = omega arith;
      in_v = omega arith;
      known = λ z. absurd (omega arith);
      goes = ap (λ k. held_items O (items_at l k v) (type_at m t)) e
          ∙ grown_none (held_items O (items_at l (n - 0) v) (type_at m t));
    }

module _ {O : Order} {l m : ℕ} {whole : Conform} {v : List ℕ} {n : ℕ} {t : List ℕ} {at bt i : ℕ} (I : ItemsGo O l m whole v n t at bt i) where
  module _ (h : i < n) (r s : ℕ) where
    -- an item that does not conform, or is none
    pub items_apart : MetAt (readable_value l) (readable_type m) (conforms O) v at t 0 r s → r ≡ 0 → (u : ℕ) → Met (add_sizes 3 1 whole) 0 u
    unfolding conforms
    items_apart w z u = met_no 0 u (ap (add_sizes 3 1) (I.goes ∙ ap (add_sizes at 0) (no_when size_vals size (all_conform O) (items_at l (n - i) (drop at v)) (type_at m t) (λ vs y e f.
        let A = nth l i n at v vs h I.in_v e in
        ap (λ x. all_conform O x y) A.is
        ∙ ap (λ q. q && all_conform O A.more y) (pair_no (readable_value l) (readable_type m) (conforms O) v at t 0 r s w z A.x y A.first f))))) refl

    module _ (P : Pair (readable_value l) (readable_type m) (conforms O) v at t 0 r s) where
      pub items_fit : at + r ≤ length v
      items_fit = (pair_in (readable_value l) (readable_type m) (conforms O) v at t 0 r s I.in_v (omega arith) P).0

      pub items_turn : ItemsGo O l m whole v n t (at + r) s (i + 1)
      unfolding conforms size_val
      items_turn =
          let A = items_at l (n - (i + 1)) (drop (at + r) v) in
          let e : items_at l (n - i) (drop at v) ≡ map_o (item P.x) A = item_on l i n at v P.x h P.read_a
          ∙ ap (λ k. map_o (item P.x) (items_at l (n - (i + 1)) (drop (at + k) v))) (sym P.size_a) in
          let z = P.size_a in
          record {
            below = omega arith;
            in_v = items_fit;
            known = λ o. record { x = P.y; read = P.read_b; is = P.size_b };
            goes = I.goes ∙ ap (add_sizes at 0) (ap₂ (conform_by size_vals size (all_conform O)) e (sym (map_o_same (type_at m t)))
                ∙ mapped size_vals size (all_conform O) size_vals size (all_conform O) (item P.x) (λ y. y) r 0 A (type_at m t)
                (λ vs y p q. ap (λ b. b && all_conform O vs y) (ap (conforms O P.x) (some_same (sym q ∙ P.read_b)) ∙ P.holds)) (λ vs p. omega arith) (λ y. omega arith))
                ∙ grown_on at 0 r 0 (held_items O A (type_at m t));
          }

  -- behind the last item
  pub items_done : n ≤ i → 0 < i → (r u : ℕ) → r ≡ at + 3 → u ≡ bt + 1 → Met (add_sizes 3 1 whole) r u
  unfolding conforms size_val
  items_done h p r u e f =
      let T = I.known p in
      met_yes (ap (add_sizes 3 1) (I.goes ∙ ap (add_sizes at 0)
      (both size_vals size (all_conform O) (items_at l (n - i) (drop at v)) (type_at m t) no_items T.x (items_gone l i n at v h) T.read)))
      (omega (arith, e)) (omega (arith, f, T.is))

-- ---- no items
module _ (O : Order) (l m : ℕ) (v : List ℕ) (n : ℕ) (t : List ℕ) (z : 0 ≡ n) (k : ℕ) (e : k ≡ size_at (type_at m (take (length t - 0) (drop 0 t)))) where
  none_there : items_at l n v ≡ some no_items
  none_there = ap (λ j. items_at l j v) (omega (arith, z)) ∙ items_gone l 0 n 0 v (omega (arith, z))

  pub items_unread : k ≡ 0 → (u : ℕ) → Met (add_sizes 3 1 (held_items O (items_at l n v) (type_at m t))) 0 u
  items_unread o u = met_no 0 u (ap (add_sizes 3 1) (no_when size_vals size (all_conform O) (items_at l n v) (type_at m t) (λ vs y p q. absurd (unsized_part m t 0 k e o y q)))) refl

  pub items_none : (k ≡ 0 → ⊥) → (r u : ℕ) → r ≡ 3 → u ≡ k + 1 → Met (add_sizes 3 1 (held_items O (items_at l n v) (type_at m t))) r u
  unfolding conforms size_val
  items_none o r u p q =
      let T = sized_part m t 0 k e o in
      met_yes (ap (add_sizes 3 1) (both size_vals size (all_conform O) (items_at l n v) (type_at m t) no_items T.x none_there T.read)) p (omega (arith, q, T.is))
