-- Whether a value is data, item by item and entry by entry.
-- Idea: the answer to all items or entries is the answer to those that are left, behind what was passed.
-- Index: `ItemsInv`, `items_start`, `items_again`, `items_no`, `items_done`, `items_leaf` (items); `EntriesInv`, `entries_start`, `entries_again`, `entries_no`, `entries_done`, `entries_leaf`
-- (entries); `leaf_done`, `definition_done`, `definition_no`, `other_done`, `ranges`, `lists`, `contexts`, `run_ok`, `run_done`, `run_no` (a value by its command); `plain`, `same_key` (`leaf`);
-- `told`, `some_told`, `by_got`.
-- Assumes nothing.
use Prim.Native.Nat.{ℕ, suc, ◌+◌, ◌-◌, ◌<◌, ◌≤◌}
use mathlib.Core.Path.{◌≡◌, refl, sym, ap, subst, ◌∙◌}
use mathlib.Core.Bool.{Bool, true, false, cond, ◌&&◌}
use mathlib.Core.Option.{Option, some}
use mathlib.Core.List.{List}
use Rattle.std.specs.declared.option.Option.{Option as Maybe}
use Rattle.std.specs.declared.option.Option.TheVariants.{None, Some}
use Rattle.std.specs.Prelude.{MatchOption}
use Rattle.std.specs.Option.{is_some}
use native.Mathlib.Omega.{arith}
use lib.ListN.{length, get_or, take, drop}
use Rattle.form.specs.Trees.{Val, Vals, no_items, item, Entries}
use Rattle.form.specs.Limits.{name_width}
use Rattle.form.specs.Outcome.{pick}
use Rattle.form.specs.Form.{num_at}
use Rattle.form.specs.Layout.{ValueKind, k_range, k_list, k_context, k_definition, width_of, is_leaf_command}
use Rattle.form.proofs.CommandKinds.{key_width, leaf_wide, leaf_low}
use Rattle.form.proofs.Runs.{rest}
use Rattle.form.proofs.Some.{some_is, some_none}
use Rattle.order.specs.Order.{Order}
use Rattle.order.specs.Size.{size_val, size_vals, size_entries}
use Rattle.order.specs.Values.{is_data_by, are_data, hold_data}
use Rattle.types.specs.At.{Ok}
use Rattle.types.proofs.Reading.{is_ok, ok_got}
use Rattle.types.proofs.ChildAt.{entry_ok}
use Rattle.values.specs.At.{value_at, items_at, entries_at, size_at_v}
use Rattle.values.proofs.Reading.{IsVal, is_null_lem, is_boolean_lem, is_number, is_string_lem, is_temporal_lem, is_range_lem, is_list_lem}
use Rattle.values.proofs.Reading.{is_context_lem, is_definition_lem, is_built_in_lem, is_type_lem, is_irrelevant_lem, is_decimal_lem}
use Rattle.values.proofs.Reading.{is_val, as_leaf, as_range, as_list, as_context, as_definition, some_byte, some_level, v_inside, items_inside, entries_inside, Nth, nth, no_nth}
use Rattle.values.proofs.EntriesAt.{This, this, none_left}
use Rattle.infer.specs.Typing.{data_by, Plain}

abbrev pub told : Bool → ℕ → Maybe ℕ
told q n = cond q (Some n) None

pub some_told : (q : Bool) (n : ℕ) → is_some (told q n) ≡ q
some_told true n = refl
some_told false n = refl

told_yes : (q : Bool) (n x : ℕ) → told q n ≡ Some x → (q ≡ true) × (n ≡ x)
told_yes true n x e = (refl, some_is e)
told_yes false n x e = absurd (some_none (sym e))

told_no : (q : Bool) (n : ℕ) → told q n ≡ None → q ≡ false
told_no true n e = absurd (some_none e)
told_no false n e = refl

pub by_got : {X : Type 0} (test : X → Bool) (sz : X → ℕ) (r : Option X) (x : X) → r ≡ some x → data_by test sz r ≡ told (test x) (sz x)
unfolding data_by
by_got test sz r x e = ap (data_by test sz) e

-- a child that is data, or is not, and the others
and_data : (q s : Bool) (n x at m : ℕ) → told q n ≡ Some x → told (q && s) (at + (n + m)) ≡ told s (at + x + m)
and_data q s n x at m e = let d = told_yes q n x e in ap (λ b. told (b && s) (at + (n + m))) d.0 ∙ ap (told s) (omega (arith, d.1))

and_no : (q s : Bool) (n k : ℕ) → told q n ≡ None → told (q && s) k ≡ None
and_no q s n k e = ap (λ b. told (b && s) k) (told_no q n e)

-- a leaf c, and no null: the size of the command k, which has the width of c
pub plain : (c k : ℕ) (r : Maybe ℕ) → r ≡ pick (is_leaf_command k) (Some (width_of k + 1)) None → width_of c ≡ width_of k → k < 9 → 0 < c → c < 9 → MatchOption r (0 < c → 9 ≤ c) (Plain c)
plain c k (Some n) e w l z h = record { some = z; low = h; size = omega (arith, leaf_wide k n e (leaf_low k l), w) }
plain c k None e w l z h = absurd (some_none (sym (e ∙ ap (λ q. pick q (Some (width_of k + 1)) None) (leaf_low k l))))

pub same_key : (c k : ℕ) → 4 ≤ c → c < 9 → 4 ≤ k → k < 9 → width_of c ≡ width_of k
same_key c k p q r t = key_width c p q ∙ sym (key_width k r t)

-- a run of children behind three bytes, which says all of a parent
pub record Run {X : Type 0} (test : X → Bool) (sz : X → ℕ) (at : List ℕ → Option X) (s : List ℕ) (W : Maybe ℕ) : Type 0 where
  pub x : X
  pub three : 3 ≤ length s
  pub read : at (drop 3 s) ≡ some x
  pub fits : sz x + 3 ≤ length s
  pub whole : W ≡ told (test x) (sz x + 3)

and_true : (a b : Bool) → a && (b && true) ≡ a && b
and_true true true = refl
and_true true false = refl
and_true false b = refl

-- what a callee on the run asks and answers
module _ {X : Type 0} {test : X → Bool} {sz : X → ℕ} {at : List ℕ → Option X} {s : List ℕ} {W : Maybe ℕ} (R : Run test sz at s W) where
  pub run_ok : Ok (at (take (length s - 3) (drop 3 s)))
  run_ok = rw (rest s 3) (is_ok (at (drop 3 s)) R.x R.read)

  run_told : (d : Maybe ℕ) → d ≡ data_by test sz (at (take (length s - 3) (drop 3 s))) → d ≡ told (test R.x) (sz R.x)
  run_told d e = e ∙ ap (λ r. data_by test sz (at r)) (rest s 3) ∙ by_got test sz (at (drop 3 s)) R.x R.read

  module _ (y : ℕ) (e : Some y ≡ data_by test sz (at (take (length s - 3) (drop 3 s)))) where
    run_yes : (test R.x ≡ true) × (sz R.x ≡ y)
    run_yes = told_yes (test R.x) (sz R.x) y (sym (run_told (Some y) e))

    pub run_fits : y + 3 ≤ length s
    run_fits = omega (arith, R.fits, run_yes.1)

    pub run_done : Some (y + 3) ≡ W
    run_done = sym (R.whole ∙ ap (λ b. told b (sz R.x + 3)) run_yes.0 ∙ ap (λ (n : ℕ). Some (n + 3)) run_yes.1)

  pub run_no : None ≡ data_by test sz (at (take (length s - 3) (drop 3 s))) → None ≡ W
  run_no e = sym (R.whole ∙ ap (λ b. told b (sz R.x + 3)) (told_no (test R.x) (sz R.x) (sym (run_told None e))))

-- what remains of n items from `at` on, i of them being passed
pub record ItemsInv (O : Order) (l : ℕ) (v : List ℕ) (n at i : ℕ) : Type 0 where
  pub more : Vals
  pub read : items_at l (n - i) (drop at v) ≡ some more
  pub here : i ≤ n
  pub inside : at + size_vals more ≤ length v
  pub whole : data_by (are_data O) size_vals (items_at l n v) ≡ told (are_data O more) (at + size_vals more)

-- and of n entries, the next name being at least k
pub record EntriesInv (O : Order) (l : ℕ) (v : List ℕ) (n at i : ℕ) : Type 0 where
  pub k : ℕ
  pub more : Entries
  pub read : entries_at l (n - i) k (drop at v) ≡ some more
  pub here : i ≤ n
  pub inside : at + size_entries more ≤ length v
  pub whole : data_by (hold_data O) size_entries (entries_at l n 0 v) ≡ told (hold_data O more) (at + size_entries more)

-- ---- items
pub items_start : (O : Order) (l : ℕ) (v : List ℕ) (n : ℕ) → Ok (items_at l n v) → ItemsInv O l v n 0 0
items_start O l v n h =
    let g = ok_got (items_at l n v) h in
    let z : n - 0 ≡ n = omega arith in
    record {
      more = g.0;
      read = ap (λ k. items_at l k v) z ∙ g.1;
      here = omega arith;
      inside = omega (arith, items_inside l n v g.0 g.1);
      whole = by_got (are_data O) size_vals
          (items_at l n v) g.0 g.1 ∙ ap (told (are_data O g.0)) (omega arith);
    }

module _ {O : Order} {l : ℕ} {v : List ℕ} {n at i : ℕ} (I : ItemsInv O l v n at i) where
  pub items_end : at ≤ length v
  items_end = omega (arith, I.inside)

  pub items_done : n ≤ i → Some at ≡ data_by (are_data O) size_vals (items_at l n v)
  unfolding are_data size_val
  items_done h =
      let e = no_nth l i n at v I.more h I.read in
      let p : told (are_data O I.more) (at + size_vals I.more) ≡ Some at = ap (λ vs. told (are_data O vs) (at + size_vals vs)) e ∙ ap Some (omega arith) in
      sym (I.whole ∙ p)

  module _ (h : i < n) where
    next : Nth l (n - (i + 1)) at v I.more
    next = nth l i n at v I.more h items_end I.read

    pub items_ok : Ok (value_at l (take (length v - at) (drop at v)))
    items_ok = rw (rest v at) (is_ok (value_at l (drop at v)) next.x next.first)

    -- the child's answer
    item_told : (r : Maybe ℕ) → r ≡ data_by (is_data_by O) size_val (value_at l (take (length v - at) (drop at v))) → r ≡ told (is_data_by O next.x) (size_val next.x)
    item_told r e = e ∙ ap (λ s. data_by (is_data_by O) size_val (value_at l s)) (rest v at) ∙ by_got (is_data_by O) size_val (value_at l (drop at v)) next.x next.first

    item_whole : (data_by (are_data O) size_vals (items_at l n v) ≡ told (is_data_by O next.x && are_data O next.more) (at + (size_val next.x + size_vals next.more))) ×
        (at + (size_val next.x + size_vals next.more) ≤ length v)
    unfolding are_data size_val
    item_whole = (I.whole ∙ ap (λ vs. told (are_data O vs) (at + size_vals vs)) next.is, subst (λ vs. at + size_vals vs ≤ length v) next.is I.inside)

    pub items_no : None ≡ data_by (is_data_by O) size_val (value_at l (take (length v - at) (drop at v))) → None ≡ data_by (are_data O) size_vals (items_at l n v)
    items_no e = sym (item_whole.0 ∙ and_no (is_data_by O next.x) (are_data O next.more) (size_val next.x) (at + (size_val next.x + size_vals next.more)) (sym (item_told None e)))

    pub items_fit : (x : ℕ) → Some x ≡ data_by (is_data_by O) size_val (value_at l (take (length v - at) (drop at v))) → at + x ≤ length v
    items_fit x e = omega (arith, (told_yes (is_data_by O next.x) (size_val next.x) x (sym (item_told (Some x) e))).1, item_whole.1)

    pub items_again : (x : ℕ) → Some x ≡ data_by (is_data_by O) size_val (value_at l (take (length v - at) (drop at v))) → ItemsInv O l v n (at + x) (i + 1)
    items_again x e =
        let d = told_yes (is_data_by O next.x) (size_val next.x) x (sym (item_told (Some x) e)) in
        let w = item_whole in
        record {
          more = next.more;
          read = ap (λ k. items_at l (n - (i + 1)) (drop (at + k) v)) (sym d.1) ∙ next.second;
          here = omega arith;
          inside = omega (arith, d.1, w.1);
          whole = w.0 ∙ and_data (is_data_by O next.x) (are_data O next.more) (size_val next.x) x at (size_vals next.more) (sym (item_told (Some x) e));
        }

-- ---- entries
pub entries_start : (O : Order) (l : ℕ) (v : List ℕ) (n : ℕ) → Ok (entries_at l n 0 v) → EntriesInv O l v n 0 0
entries_start O l v n h =
    let g = ok_got (entries_at l n 0 v) h in
    let z : n - 0 ≡ n = omega arith in
    record {
      k = 0;
      more = g.0;
      read = ap (λ k. entries_at l k 0 v) z ∙ g.1;
      here = omega arith;
      inside = omega (arith, entries_inside l n 0 v g.0 g.1);
      whole = by_got
          (hold_data O) size_entries (entries_at l n 0 v) g.0 g.1 ∙ ap (told (hold_data O g.0)) (omega arith);
    }

module _ {O : Order} {l : ℕ} {v : List ℕ} {n at i : ℕ} (I : EntriesInv O l v n at i) where
  pub entries_done : n ≤ i → Some at ≡ data_by (hold_data O) size_entries (entries_at l n 0 v)
  unfolding are_data size_val
  entries_done h =
      let e = none_left l i n at I.k v I.more h I.read in
      let p : told (hold_data O I.more) (at + size_entries I.more) ≡ Some at = ap (λ es. told (hold_data O es) (at + size_entries es)) e ∙ ap Some (omega arith) in
      sym (I.whole ∙ p)

  module _ (h : i < n) where
    next_one : This l (n - (i + 1)) at I.k v I.more
    next_one = this l i n at I.k v I.more h I.read

    pub entries_two : at + name_width ≤ length v
    entries_two = next_one.two

    pub entries_ok : Ok (value_at l (take (length v - (at + name_width)) (drop (at + name_width) v)))
    entries_ok = entry_ok next_one

    entry_told : (r : Maybe ℕ) → r ≡ data_by (is_data_by O) size_val (value_at l (take (length v - (at + name_width)) (drop (at + name_width) v)))
        → r ≡ told (is_data_by O next_one.x) (size_val next_one.x)
    entry_told r e = e ∙ ap (λ s. data_by (is_data_by O) size_val (value_at l s)) (rest v (at + name_width)) ∙ by_got (is_data_by O) size_val (value_at l (drop (at + name_width) v)) next_one.x
        next_one.first

    entry_whole : (data_by (hold_data O) size_entries (entries_at l n 0 v) ≡ told (is_data_by O next_one.x && hold_data O next_one.more)
        (at + (name_width + size_val next_one.x + size_entries next_one.more))) × (at + (name_width + size_val next_one.x + size_entries next_one.more) ≤ length v)
    unfolding are_data size_val
    entry_whole = (I.whole ∙ ap (λ es. told (hold_data O es) (at + size_entries es)) next_one.is, subst (λ es. at + size_entries es ≤ length v) next_one.is I.inside)

    pub entries_no : None ≡ data_by (is_data_by O) size_val (value_at l (take (length v - (at + name_width)) (drop (at + name_width) v)))
        → None ≡ data_by (hold_data O) size_entries (entries_at l n 0 v)
    entries_no e = sym (entry_whole.0 ∙ and_no (is_data_by O next_one.x) (hold_data O next_one.more) (size_val next_one.x)
        (at + (name_width + size_val next_one.x + size_entries next_one.more)) (sym (entry_told None e)))

    pub entries_fit : (x : ℕ) → Some x ≡ data_by (is_data_by O) size_val (value_at l (take (length v - (at + name_width)) (drop (at + name_width) v)))
        → at + name_width + x ≤ length v
    entries_fit x e = omega (arith, (told_yes (is_data_by O next_one.x) (size_val next_one.x) x (sym (entry_told (Some x) e))).1, entry_whole.1)

    pub entries_again : (x : ℕ) → Some x ≡ data_by (is_data_by O) size_val (value_at l (take (length v - (at + name_width)) (drop (at + name_width) v)))
        → EntriesInv O l v n (at + name_width + x) (i + 1)
    entries_again x e =
        let d = told_yes (is_data_by O next_one.x) (size_val next_one.x) x (sym (entry_told (Some x) e)) in
        let w = entry_whole in
        record {
          k = suc next_one.name;
          more = next_one.more;
          read = ap (λ k. entries_at l (n - (i + 1)) (suc next_one.name) (drop (at + name_width + k) v)) (sym d.1) ∙ next_one.second;
          here = omega arith;
          inside = omega (arith, d.1, w.1);
          whole = w.0 ∙ ap (told (is_data_by O next_one.x && hold_data O next_one.more)) (omega arith)
              ∙ and_data (is_data_by O next_one.x) (hold_data O next_one.more) (size_val next_one.x) x (at + name_width) (size_entries next_one.more) (sym (entry_told (Some x) e));
        }

-- ---- a value by its command
-- leaves are data, and their size is the width of the command and one
data_leaf : (O : Order) (l : ℕ) (s : List ℕ) (v : Val) → value_at l s ≡ some v → is_leaf_command (get_or s 0 0) ≡ true → (is_data_by O v ≡ true) × (width_of (get_or s 0 0) + 1 ≡ size_val v)
unfolding is_data_by
data_leaf O l s v e h = let L = as_leaf l s v e h in (ap (is_data_by O) L.is, L.size ∙ ap size_val (sym L.is))

is_definition_data : (O : Order) {l : ℕ} {s : List ℕ} {v : Val} → IsVal l s k_definition v → is_data_by O v ≡ O.strict
unfolding is_data_by
is_definition_data O (is_definition_lem r ps b c k p) = refl

not_data : (O : Order) {j : ValueKind} (l : ℕ) (s : List ℕ) (v : Val) → IsVal l s j v → 13 ≤ get_or s 0 0 → (get_or s 0 0 ≡ 16 → ⊥) → is_data_by O v ≡ false
unfolding is_data_by
not_data O l s v (is_null_lem x c) h n = absurd (omega arith)
not_data O l s v (is_boolean_lem x c) h n = absurd (omega arith)
not_data O l s v (is_number x c) h n = absurd (omega arith)
not_data O l s v (is_string_lem x c) h n = absurd (omega arith)
not_data O l s v (is_temporal_lem x c d) h n = absurd (omega arith)
not_data O l s v (is_range_lem i j a b c k p) h n = absurd (omega arith)
not_data O l s v (is_list_lem vs c k p) h n = absurd (omega arith)
not_data O l s v (is_context_lem es c k p) h n = absurd (omega arith)
not_data O l s v (is_definition_lem r ps b c k p) h n = absurd (omega arith)
not_data O l s v (is_built_in_lem c k) h n = refl
not_data O l s v (is_type_lem t c p) h n = refl
not_data O l s v (is_irrelevant_lem c) h n = refl
not_data O l s v (is_decimal_lem x p c) h n = absurd (n c)

module _ (O : Order) (l : ℕ) (s : List ℕ) where
  abbrev W : Maybe ℕ
  W = data_by (is_data_by O) size_val (value_at l s)

  run_range : {v : Val} → IsVal l s k_range v → size_val v ≤ length s → W ≡ told (is_data_by O v) (size_val v) → Run (are_data O) size_vals (items_at (l - 1) 2) s W
  unfolding is_data_by size_val
  run_range (is_range_lem a b p q c k r) i w =
      record {
        x = item p (item q no_items);
        three = k;
        read = r;
        fits = omega arith;
        whole = w ∙ ap (λ b. told b (3 + size_val p + size_val q)) (sym (and_true (is_data_by O p) (is_data_by O q)))
            ∙ ap (told (is_data_by O p && (is_data_by O q && true))) (omega arith);
      }

  run_list : {v : Val} → IsVal l s k_list v → size_val v ≤ length s → W ≡ told (is_data_by O v) (size_val v) → (n : ℕ) → n ≡ num_at 2 1 s → Run (are_data O) size_vals (items_at (l - 1) n) s W
  unfolding is_data_by size_val
  run_list (is_list_lem vs c k p) i w n e = record {
    x = vs;
    three = k;
    read = ap (λ m. items_at (l - 1) m (drop 3 s)) e ∙ p;
    fits = omega arith;
    whole = w
        ∙ ap (told (are_data O vs)) (omega arith);
  }

  run_context : {v : Val} → IsVal l s k_context v → size_val v ≤ length s → W ≡ told (is_data_by O v) (size_val v) → (n : ℕ) → n ≡ num_at 2 1 s
      → Run (hold_data O) size_entries (entries_at (l - 1) n 0) s W
  unfolding is_data_by size_val
  run_context (is_context_lem es c k p) i w n e = record {
    x = es;
    three = k;
    read = ap (λ m. entries_at (l - 1) m 0 (drop 3 s)) e ∙ p;
    fits = omega arith;
    whole = w
        ∙ ap (told (hold_data O es)) (omega arith);
  }

-- ---- the returns of `is_data`
module _ (l : ℕ) (s : List ℕ) (p : Ok (value_at l s)) where
  tree : {P : Type 0} → ((v : Val) → value_at l s ≡ some v → P) → P
  tree k = let g = ok_got (value_at l s) p in k g.0 g.1

  pub has_byte : 0 < length s
  has_byte = tree (λ v e. some_byte l s v e)

  pub has_level : 0 < l
  has_level = tree (λ v e. some_level l s v e)

module _ (O : Order) (l : ℕ) (s : List ℕ) (p : Ok (value_at l s)) where
  whole_is : (v : Val) → value_at l s ≡ some v → data_by (is_data_by O) size_val (value_at l s) ≡ told (is_data_by O v) (size_val v)
  whole_is v e = by_got (is_data_by O) size_val (value_at l s) v e

  pub leaf_done : (w : ℕ) → w ≡ width_of (get_or s 0 0) → is_leaf_command (get_or s 0 0) ≡ true → Some (w + 1) ≡ data_by (is_data_by O) size_val (value_at l s)
  leaf_done w q h = tree l s p (λ v e.
      let d = data_leaf O l s v e h in
      sym (whole_is v e ∙ ap (λ b. told b (size_val v)) d.0 ∙ ap Some (omega (arith, d.1))))

  leaf_known : (n : ℕ) → Plain (get_or s 0 0) n → Some n ≡ data_by (is_data_by O) size_val (value_at l s)
  leaf_known n P = ap Some P.size ∙ leaf_done (width_of (get_or s 0 0)) refl (leaf_low (get_or s 0 0) P.low)

  pub leaf_fits : (w : ℕ) → w ≡ width_of (get_or s 0 0) → is_leaf_command (get_or s 0 0) ≡ true → w + 1 ≤ length s
  leaf_fits w q h = tree l s p (λ v e. omega (arith, (data_leaf O l s v e h).1, v_inside l s v e))

  pub other_done : 13 ≤ get_or s 0 0 → (get_or s 0 0 ≡ 16 → ⊥) → None ≡ data_by (is_data_by O) size_val (value_at l s)
  other_done h n = tree l s p (λ v e. sym (whole_is v e ∙ ap (λ b. told b (size_val v)) (not_data O l s v (is_val l s v e).1 h n)))

  -- a function definition is data exactly under the strict reading
  pub definition_done : get_or s 0 0 ≡ 12 → O.strict ≡ true → (n : ℕ) → n ≡ size_at_v (value_at l s) → Some n ≡ data_by (is_data_by O) size_val (value_at l s)
  unfolding size_at_v
  definition_done h e n q = tree l s p (λ v f.
      sym (whole_is v f ∙ ap (λ b. told b (size_val v)) (is_definition_data O (as_definition l s v f h) ∙ e) ∙ ap Some (sym (q ∙ ap size_at_v f))))

  pub definition_no : get_or s 0 0 ≡ 12 → O.strict ≡ false → None ≡ data_by (is_data_by O) size_val (value_at l s)
  definition_no h e = tree l s p (λ v f. sym (whole_is v f ∙ ap (λ b. told b (size_val v)) (is_definition_data O (as_definition l s v f h) ∙ e)))

  pub ranges : get_or s 0 0 ≡ 9 → Run (are_data O) size_vals (items_at (l - 1) 2) s (data_by (is_data_by O) size_val (value_at l s))
  ranges h = tree l s p (λ v e. run_range O l s (as_range l s v e h) (v_inside l s v e) (whole_is v e))

  pub lists : (n : ℕ) → n ≡ num_at 2 1 s → get_or s 0 0 ≡ 10 → Run (are_data O) size_vals (items_at (l - 1) n) s (data_by (is_data_by O) size_val (value_at l s))
  lists n q h = tree l s p (λ v e. run_list O l s (as_list l s v e h) (v_inside l s v e) (whole_is v e) n q)

  pub contexts : (n : ℕ) → n ≡ num_at 2 1 s → get_or s 0 0 ≡ 11 → Run (hold_data O) size_entries (entries_at (l - 1) n 0) s (data_by (is_data_by O) size_val (value_at l s))
  contexts n q h = tree l s p (λ v e. run_context O l s (as_context l s v e h) (v_inside l s v e) (whole_is v e) n q)

-- ---- the short way past a leaf
module _ {O : Order} {l : ℕ} {v : List ℕ} {n at i : ℕ} (I : ItemsInv O l v n at i) (h : i < n) where
  pub items_some : 0 < length (take (length v - at) (drop at v))
  items_some = has_byte l (take (length v - at) (drop at v)) (items_ok I h)

  module _ (k : ℕ) (P : Plain (get_or (take (length v - at) (drop at v)) 0 0) k) where
    item_leaf : Some k ≡ data_by (is_data_by O) size_val (value_at l (take (length v - at) (drop at v)))
    item_leaf = leaf_known O l (take (length v - at) (drop at v)) (items_ok I h) k P

    pub items_leaf_fit : at + k ≤ length v
    items_leaf_fit = items_fit I h k item_leaf

    pub items_leaf : ItemsInv O l v n (at + k) (i + 1)
    items_leaf = items_again I h k item_leaf

module _ {O : Order} {l : ℕ} {v : List ℕ} {n at i : ℕ} (I : EntriesInv O l v n at i) (h : i < n) where
  pub entries_some : 0 < length (take (length v - (at + name_width)) (drop (at + name_width) v))
  entries_some = has_byte l (take (length v - (at + name_width)) (drop (at + name_width) v)) (entries_ok I h)

  module _ (k : ℕ) (P : Plain (get_or (take (length v - (at + name_width)) (drop (at + name_width) v)) 0 0) k) where
    entry_leaf : Some k ≡ data_by (is_data_by O) size_val (value_at l (take (length v - (at + name_width)) (drop (at + name_width) v)))
    entry_leaf = leaf_known O l (take (length v - (at + name_width)) (drop (at + name_width) v)) (entries_ok I h) k P

    pub entries_leaf_fit : at + name_width + k ≤ length v
    entries_leaf_fit = entries_fit I h k entry_leaf

    pub entries_leaf : EntriesInv O l v n (at + name_width + k) (i + 1)
    entries_leaf = entries_again I h k entry_leaf
