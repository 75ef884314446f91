-- A value and a type read and held to each other at once: what each return of the walks owes. What is left of both decides, whether it is read or not.
-- Index: `readable_value`, `sized_value`, `unsized_value` (a value at a place); `fails`, `never`, `no_level`, `no_value`, `no_type` (no, by any test); `leaf_none`, `leaf-is-null`, `leaf_to_any`,
-- `leaf_to_own`, `leaf_to_none`, `leaf_pair` (`leaf`); `met_any`, `met_null`, `met_plain`, `met_table`, `range_apart`, `list_apart`, `context_apart`, `function_apart`, `plain_apart`, `rest_apart`
-- (`conform_other`); `met_range`, `met_list`, `met_context`, `told_other`, `no_interval` (`conforms`).
-- Assumes nothing.
use Prim.Native.Nat.{ℕ, ◌+◌, ◌-◌, ◌<◌, ◌≤◌}
use mathlib.Core.Path.{◌≡◌, refl, sym, ap, ap₂, ◌∙◌}
use mathlib.Core.Bool.{Bool, true, false, ◌&&◌, true≢false}
use mathlib.Core.Option.{Option, none, some}
use mathlib.Core.List.{List}
use native.Mathlib.Omega.{arith}
use lib.ListN.{length, get_or, take, drop, length-drop}
use lib.Dec.{leb}
use borrow.Author.Tests.{leb-true, leb-false}
use Rattle.form.specs.Trees.{Ty, leaf, decode, built, list, range, context, simple, Val, v_list, v_context, Vals, no_items, item, is_data_leaf, is_short_leaf}
use Rattle.form.specs.Form.{num_at}
use Rattle.form.specs.Read.{read_v}
use Rattle.form.specs.Layout.{is_leaf_command, leaf_type_command}
use Rattle.std.specs.declared.option.Option.TheVariants.{None, Some}
use Rattle.form.specs.Walks.{Short}
use Rattle.form.proofs.Options.{none_some}
use Rattle.form.proofs.CommandKinds.{leaf_low, leaf_type_in, plain_type_in, no_leaf_high}
use Rattle.form.proofs.Runs.{rest, first_at}
use Rattle.order.specs.Order.{Order, fixed, is_inner, related, order_of}
use Rattle.order.specs.Size.{size, size_fields, size_val, size_vals, size_entries}
use Rattle.order.specs.Values.{conforms, all_conform}
use Rattle.order.proofs.Ends.{Ends, reading_ends, end_related}
use Rattle.order.proofs.Size.{size_val_positive}
use Rattle.order.proofs.Bools.{and_true, and_false}
use Rattle.tables.proofs.Related.{related_inner}
use Rattle.types.specs.At.{type_at, fields_at}
use Rattle.types.specs.Conform.{judge, add_sizes, Met, No}
use Rattle.types.proofs.Reading as types
use Rattle.types.proofs.Reading.{cmd, cmd_is, is_ctx, is_fun}
use Rattle.types.proofs.TypeConformance.{cmd_in}
use Rattle.types.proofs.Forward as forward
use Rattle.types.proofs.SortedNames.{readable_type}
use Rattle.types.proofs.Short.{Passed, passed, not_passed}
use Rattle.types.proofs.Pairs.{map_o, both, taken, yes_of, no_when, mapped, met_yes, met_no, met_as, Readable, Sized, Pair}
use Rattle.values.specs.At.{value_at, items_at, entries_at, size_at_v}
use Rattle.values.specs.Held.{held_by, held, leaf_conforms, held_items, entries_conform, held_entries}
use Rattle.values.proofs.Reading.{value_told, as_leaf, some_byte, some_level, v_inside, size_got, nth, no_nth}
use Rattle.values.proofs.Forward.{range_of, node_range, no_range, node_list, node_context}
use Rattle.values.proofs.ByKind.{kind, kind_at, kind_leaf, kind_other, kind_is, leaf_is, long_is, small_is, kinds_differ, to_any, short_data, leaf_null, leaf_same, simple_is}
use Rattle.values.proofs.ByKind.{leaf_alike, simple_cmd}

pub readable_value : (l : ℕ) → Readable size_val (value_at l)
readable_value l = record { positive = size_val_positive; inside = λ s x e. v_inside l s x e }

-- ---- a value at a place, from its size
sized_at : (r : Option Val) (n : ℕ) → n ≡ size_at_v r → (n ≡ 0 → ⊥) → (x : Val) × (r ≡ some x) × (n ≡ size_val x)
unfolding size_at_v
sized_at (some x) n e z = (x, refl, e)
sized_at none n e z = absurd (z e)

pub sized_value : (l : ℕ) (s : List ℕ) (k n : ℕ) → n ≡ size_at_v (value_at l (take (length s - k) (drop k s))) → (n ≡ 0 → ⊥) → Sized size_val (value_at l) (drop k s) n
sized_value l s k n e z = let g = sized_at (value_at l (drop k s)) n (e ∙ ap (λ r. size_at_v (value_at l r)) (rest s k)) z in record { x = g.0; read = g.1; is = g.2 }

pub unsized_value : (l : ℕ) (s : List ℕ) (k n : ℕ) → n ≡ size_at_v (value_at l (take (length s - k) (drop k s))) → n ≡ 0 → (x : Val) → value_at l (drop k s) ≡ some x → ⊥
unsized_value l s k n e z x r = omega (arith, size_got (value_at l (drop k s)) x r, e ∙ ap (λ y. size_at_v (value_at l y)) (rest s k), size_val_positive x)

-- ---- no, whatever the test is; a value has l levels, a type m
module _ (test : Val → Ty → Bool) (l m : ℕ) (v t : List ℕ) (u : ℕ) where
  pub fails : ((x : Val) (y : Ty) → value_at l v ≡ some x → type_at m t ≡ some y → test x y ≡ false) → Met (held_by test (value_at l v) (type_at m t)) 0 u
  fails f = met_no 0 u (no_when size_val size test (value_at l v) (type_at m t) f) refl

  pub never : ((x : Val) (y : Ty) → value_at l v ≡ some x → type_at m t ≡ some y → ⊥) → Met (held_by test (value_at l v) (type_at m t)) 0 u
  never f = fails (λ x y e g. absurd (f x y e g))

  pub no_level : l ≡ 0 → Met (held_by test (value_at l v) (type_at m t)) 0 u
  no_level z = never (λ x y e f. omega (arith, some_level l v x e))

  pub no_value : length v ≡ 0 → Met (held_by test (value_at l v) (type_at m t)) 0 u
  no_value z = never (λ x y e f. omega (arith, some_byte l v x e))

  pub no_type : length t ≡ 0 → Met (held_by test (value_at l v) (type_at m t)) 0 u
  no_type z = never (λ x y e f. omega (arith, types.some_byte m t y f))

-- ---- the returns of `leaf`
module _ (l : ℕ) (s : List ℕ) (room : ℕ) where
  passed_leaf : (n : ℕ) → Short is_short_leaf (read_v l s) (Some n) room → Passed size_val is_short_leaf (value_at l s) n
  unfolding value_at
  passed_leaf n h = passed size_val is_short_leaf (read_v l s) (λ x m r. (value_told l s x m r).sized) room n h

  no_leaf : Short is_short_leaf (read_v l s) None room → (x : Val) → value_at l s ≡ some x → is_short_leaf x ≡ false
  unfolding value_at
  no_leaf h x e = not_passed size_val is_short_leaf (read_v l s) (λ y m r. (value_told l s y m r).sized) room h x e

-- a test that is three
three : (a b c : Bool) → a ≡ true → b ≡ true → c ≡ true → a && (b && c) ≡ true
three a b c p q r = rw (p, q, r)

module _ (l m : ℕ) (v : List ℕ) (at : ℕ) (t : List ℕ) (bt : ℕ) where
  no_pair : ((x : Val) (y : Ty) → value_at l (drop at v) ≡ some x → type_at m (drop bt t) ≡ some y → leaf_conforms x y ≡ false)
      → held_by leaf_conforms (value_at l (drop at v)) (type_at m (drop bt t)) ≡ No
  no_pair f = no_when size_val size leaf_conforms (value_at l (drop at v)) (type_at m (drop bt t)) f

  pub leaf_no_type : length t ≡ bt → held_by leaf_conforms (value_at l (drop at v)) (type_at m (drop bt t)) ≡ No
  leaf_no_type e = no_pair (λ x y p f. absurd (omega (arith, types.some_byte m (drop bt t) y f, length-drop bt t)))

  cmd_there : (y : Ty) → type_at m (drop bt t) ≡ some y → cmd y ≡ get_or t bt 0
  cmd_there y f = cmd_is m (drop bt t) y f ∙ first_at t bt

  pub leaf_below : get_or t bt 0 < 32 → held_by leaf_conforms (value_at l (drop at v)) (type_at m (drop bt t)) ≡ No
  leaf_below h = no_pair (λ x y e f. absurd (let c = cmd_in y in omega (arith, cmd_there y f)))

  pub leaf_above : 41 < get_or t bt 0 → held_by leaf_conforms (value_at l (drop at v)) (type_at m (drop bt t)) ≡ No
  leaf_above h = no_pair (λ x y e f. go (simple y) x y refl (cmd_there y f))
    where
      go : (q : Bool) (x : Val) (y : Ty) → simple y ≡ q → cmd y ≡ get_or t bt 0 → leaf_conforms x y ≡ false
      go true x y s c = absurd (let k = simple_cmd y s in omega arith)
      go false x y s c = rw s (and_false (is_short_leaf x))

  module _ (room : ℕ) where
    pub leaf_none : Short is_short_leaf (read_v l (drop at v)) None room → held_by leaf_conforms (value_at l (drop at v)) (type_at m (drop bt t)) ≡ No
    leaf_none h = no_pair (λ x y e f. ap (λ q. q && (simple y && conforms fixed x y)) (no_leaf l (drop at v) room h x e))

    module _ (n : ℕ) (h : Short is_short_leaf (read_v l (drop at v)) (Some n) room) where
      P : Passed size_val is_short_leaf (value_at l (drop at v)) n
      P = passed_leaf l (drop at v) room n h

      leaf_kind : kind P.x ≡ kind_at (get_or v at 0)
      leaf_kind = kind_is l (drop at v) P.x P.read ∙ ap kind_at (first_at v at)

      -- its command is a leaf's
      leafy : is_leaf_command (get_or v at 0) ≡ true
      leafy = leaf_low (get_or v at 0) (let f = first_at v at in omega (arith, small_is l (drop at v) P.x P.read P.leafy))

      -- neither null nor of this type
      pub leaf_to_none : (get_or v at 0 ≡ 0 → ⊥) → (get_or t bt 0 ≡ 32 → ⊥) → (get_or t bt 0 ≡ leaf_type_command (get_or v at 0) → ⊥)
          → held_by leaf_conforms (value_at l (drop at v)) (type_at m (drop bt t)) ≡ No
      leaf_to_none c a d = no_pair (λ x y e f.
          let k : kind x ≡ leaf_type_command (get_or v at 0) = kind_is l (drop at v) x e ∙ ap kind_at (first_at v at) ∙ kind_leaf (get_or v at 0) leafy in
          let g = cmd_there y f in
          ap (λ q. is_short_leaf x && (simple y && q)) (kinds_differ 0 x y (λ w. omega (arith, plain_type_in (get_or v at 0) leafy c)) (λ w. a (sym g ∙ w)) (λ w. d (sym g ∙ sym w ∙ k)))
          ∙ ap (λ q. is_short_leaf x && q) (and_false (simple y)) ∙ and_false (is_short_leaf x))

      module _ (ml : 0 < m) (there : bt < length t) where
        -- the type
        module _ (lo : 32 ≤ get_or t bt 0) (hi : get_or t bt 0 ≤ 41) where
          T : Sized size (type_at m) (drop bt t) 1
          unfolding size
          T =
              let f = first_at t bt in
              let g = forward.read_simple m (drop bt t) ml (simp length-drop (omega arith)) (omega arith) (omega arith) in
              record { x = _; read = g; is = refl }

          tests : conforms fixed P.x T.x ≡ true → Met (held_by leaf_conforms (value_at l (drop at v)) (type_at m (drop bt t))) n 1 × (0 < n)
          tests k = (
            met_yes (both size_val size leaf_conforms (value_at l (drop at v)) (type_at m (drop bt t)) P.x T.x P.read T.read
                ∙ ap (λ q. judge q (size_val P.x) (size T.x)) (three (is_short_leaf P.x) (simple T.x) (conforms fixed P.x T.x) P.leafy
                (simple_is T.x (omega (arith, cmd_there T.x T.read))) k)) P.is T.is,
            omega (arith, h.room),
          )

          pub leaf-is-null : get_or v at 0 ≡ 0 → Met (held_by leaf_conforms (value_at l (drop at v)) (type_at m (drop bt t))) n 1 × (0 < n)
          unfolding kind_at leaf_type_command
          leaf-is-null c = tests (leaf_null (reading_ends 0) P.x T.x (short_data P.x P.leafy) (leaf_kind ∙ ap kind_at c))

        pub leaf_to_any : get_or t bt 0 ≡ 32 → Met (held_by leaf_conforms (value_at l (drop at v)) (type_at m (drop bt t))) n 1 × (0 < n)
        leaf_to_any d =
            let lo : 32 ≤ get_or t bt 0 = omega arith in
            let hi : get_or t bt 0 ≤ 41 = omega arith in
            let S = T lo hi in
            tests lo hi (to_any (reading_ends 0) P.x S.x (cmd_there S.x S.read ∙ d))

        pub leaf_to_own : get_or t bt 0 ≡ leaf_type_command (get_or v at 0) → Met (held_by leaf_conforms (value_at l (drop at v)) (type_at m (drop bt t))) n 1 × (0 < n)
        leaf_to_own d =
            let b = leaf_type_in (get_or v at 0) leafy in
            let lo : 32 ≤ get_or t bt 0 = omega arith in
            let hi : get_or t bt 0 ≤ 41 = omega arith in
            let S = T lo hi in
            tests lo hi (leaf_same (reading_ends 0) P.x S.x (short_data P.x P.leafy) (simple_is S.x (omega (arith, cmd_there S.x S.read)))
            (leaf_kind ∙ kind_leaf (get_or v at 0) leafy ∙ sym d ∙ sym (cmd_there S.x S.read)))

-- a leaf that conforms conforms as a value, under every order with the ends
pub leaf_pair : {O : Order} → Ends O → (l m : ℕ) (v : List ℕ) (at : ℕ) (t : List ℕ) (bt n : ℕ) → Met (held_by leaf_conforms (value_at l (drop at v)) (type_at m (drop bt t))) n 1 → (n ≡ 0 → ⊥)
    → Pair (readable_value l) (readable_type m) (conforms O) v at t bt n 1
leaf_pair {O} L l m v at t bt n w z =
    let B = taken size_val size leaf_conforms (value_at l (drop at v)) (type_at m (drop bt t)) n 1 (yes_of (held_by leaf_conforms (value_at l (drop at v)) (type_at m (drop bt t))) n 1 w z) in
    record {
      x = B.x;
      y = B.y;
      read_a = B.read_a;
      read_b = B.read_b;
      holds = all (is_short_leaf B.x) (simple B.y) (conforms fixed B.x B.y) B.holds (λ p q r. leaf_alike L B.x B.y (short_data B.x p) q r);
      size_a = B.size_a;
      size_b = B.size_b;
    }
  where
    all : {X : Type 0} (a b c : Bool) → a && (b && c) ≡ true → (a ≡ true → b ≡ true → c ≡ true → X) → X
    all true true c e k = k refl refl e
    all true false c e k = absurd (true≢false (sym e))
    all false b c e k = absurd (true≢false (sym e))

-- ---- the returns of `conforms` and `conform_other`
-- to a simple type that every value there conforms to
module _ (O : Order) (l m : ℕ) (v t : List ℕ) (n : ℕ) (e : n ≡ size_at_v (value_at l (take (length v - 0) (drop 0 v)))) where
  abbrev simple_there : Ty
  simple_there = leaf (decode (get_or t 0 0 - 32))

  met_simple : type_at m t ≡ some simple_there → ((x : Val) → value_at l v ≡ some x → conforms O x simple_there ≡ true) → Met (held O (value_at l v) (type_at m t)) n 1
  unfolding size size_at_v
  met_simple T f = go (value_at l v) refl
    where
      size_is : n ≡ size_at_v (value_at l v)
      size_is = e ∙ ap (λ r. size_at_v (value_at l r)) (rest v 0)

      go : (r : Option Val) → value_at l v ≡ r → Met (held O (value_at l v) (type_at m t)) n 1
      go (some x) r = met_yes (both size_val size (conforms O) (value_at l v) (type_at m t) x simple_there r T ∙ ap (λ q. judge q (size_val x) 1) (f x r)) (size_is ∙ ap size_at_v r) refl
      go none r = met_no n 1 (no_when size_val size (conforms O) (value_at l v) (type_at m t) (λ x y g k. absurd (none_some (sym r ∙ g)))) (size_is ∙ ap size_at_v r)

pub met_any : {O : Order} → Ends O → (l m : ℕ) (v t : List ℕ) → 0 < m → 0 < length t → get_or t 0 0 ≡ 32 → (n : ℕ) → n ≡ size_at_v (value_at l (take (length v - 0) (drop 0 v)))
    → Met (held O (value_at l v) (type_at m t)) n 1
met_any {O} L l m v t p h d n e =
    let y = leaf (decode (get_or t 0 0 - 32)) in
    let T = forward.read_simple m t p h (omega arith) (omega arith) in
    met_simple O l m v t n e T (λ x r. to_any L x y (cmd_is m t y T ∙ d))

-- another leaf of data, and its own type
pub met_plain : {O : Order} → Ends O → (l m : ℕ) (v t : List ℕ) → 0 < m → 0 < length t → is_leaf_command (get_or v 0 0) ≡ true → get_or t 0 0 ≡ leaf_type_command (get_or v 0 0) → (n : ℕ)
    → n ≡ size_at_v (value_at l (take (length v - 0) (drop 0 v))) → Met (held O (value_at l v) (type_at m t)) n 1
met_plain {O} L l m v t p h k d n e =
    let b = leaf_type_in (get_or v 0 0) k in
    let y = leaf (decode (get_or t 0 0 - 32)) in
    let T = forward.read_simple m t p h (omega (arith, d, b)) (omega (arith, d, b)) in
    met_simple O l m v t n e T (λ x r.
    leaf_same L x y (ap is_data_leaf (as_leaf l v x r k).is) refl (kind_is l v x r ∙ kind_leaf (get_or v 0 0) k ∙ sym d ∙ sym (cmd_is m t y T)))

-- what `conform_other` is asked, and told
pub other_short : (v : List ℕ) → length v < 3 → 3 ≤ length (take (length v - 0) (drop 0 v)) → 9 ≤ get_or (take (length v - 0) (drop 0 v)) 0 0 → 11 < get_or (take (length v - 0) (drop 0 v)) 0 0
other_short v h a b = absurd (let k = rw (rest v 0) at a in omega arith)

pub other_rest : (v : List ℕ) → (get_or v 0 0 ≡ 9 → ⊥) → (get_or v 0 0 ≡ 10 → ⊥) → (get_or v 0 0 ≡ 11 → ⊥) → 3 ≤ length (take (length v - 0) (drop 0 v))
    → 9 ≤ get_or (take (length v - 0) (drop 0 v)) 0 0 → 11 < get_or (take (length v - 0) (drop 0 v)) 0 0
other_rest v p q r a b = rw (rest v 0) (let h = rw (rest v 0) at b in omega arith)

pub told_other : (O : Order) (l m : ℕ) (v t : List ℕ) (r u : ℕ) → Met (held O (value_at l (take (length v - 0) (drop 0 v))) (type_at m (take (length t - 0) (drop 0 t)))) r u
    → Met (held O (value_at l v) (type_at m t)) r u
told_other O l m v t r u w = rw (rest v 0, rest t 0) at w

module _ (reading l m : ℕ) (v t : List ℕ) where
  -- of another kind: what the table says
  by_table : (k : ℕ) → kind_at (get_or v 0 0) ≡ k → (k ≡ 41 → ⊥) → (get_or t 0 0 ≡ 32 → ⊥) → (get_or t 0 0 ≡ k → ⊥) → (x : Val) (y : Ty) → value_at l v ≡ some x → type_at m t ≡ some y
      → conforms (order_of reading) x y ≡ related reading (k - 32) (get_or t 0 0 - 32)
  by_table k e n a d x y f g =
      let c = kind_is l v x f ∙ e in
      let b = cmd_is m t y g in
      kinds_differ reading x y (λ w. n (sym c ∙ w)) (λ w. a (sym b ∙ w)) (λ w. d (sym b ∙ sym w ∙ c)) ∙ ap₂ (λ (i j : ℕ). related reading (i - 32) (j - 32)) c b

  -- a leaf of data that a table has below the type: that is simple
  pub met_table : 0 < m → 0 < length t → is_leaf_command (get_or v 0 0) ≡ true → (get_or t 0 0 ≡ 32 → ⊥) → (k : ℕ) → k ≡ leaf_type_command (get_or v 0 0)
      → (get_or t 0 0 ≡ k → ⊥) → (q : Bool) → q ≡ related reading (k - 32) (get_or t 0 0 - 32) → q ≡ true → (n : ℕ)
      → n ≡ size_at_v (value_at l (take (length v - 0) (drop 0 v))) → Met (held (order_of reading) (value_at l v) (type_at m t)) n 1
  met_table p h i a k e d q r w n s =
      let c = related_inner reading k (get_or t 0 0) (sym r ∙ w) in
      let y = leaf (decode (get_or t 0 0 - 32)) in
      let T = forward.read_simple m t p h (omega (arith, c.1.0)) (omega (arith, c.1.1)) in
      met_simple (order_of reading) l m v t n s T (λ x f.
      by_table k (kind_leaf (get_or v 0 0) i ∙ sym e) (λ j. omega (arith, c.0.1)) a d x y f T ∙ sym r ∙ w)

  module _ (u : ℕ) where
    -- none of the eight, so the table has no bit
    other_kind : (k : ℕ) → kind_at (get_or v 0 0) ≡ k → is_inner (k - 32) ≡ false → (k ≡ 41 → ⊥) → (get_or t 0 0 ≡ 32 → ⊥) → (get_or t 0 0 ≡ k → ⊥)
        → Met (held (order_of reading) (value_at l v) (type_at m t)) 0 u
    other_kind k e i n a d = fails (conforms (order_of reading)) l m v t u (λ x y f g. by_table k e n a d x y f g ∙ end_related reading (k - 32) (get_or t 0 0 - 32) i)

    pub range_apart : get_or v 0 0 ≡ 9 → (get_or t 0 0 ≡ 32 → ⊥) → (get_or t 0 0 ≡ 43 → ⊥) → Met (held (order_of reading) (value_at l v) (type_at m t)) 0 u
    unfolding kind_at
    range_apart c a d = other_kind 43 (ap kind_at c) refl (λ z. omega arith) a d

    pub list_apart : get_or v 0 0 ≡ 10 → (get_or t 0 0 ≡ 32 → ⊥) → (get_or t 0 0 ≡ 42 → ⊥) → Met (held (order_of reading) (value_at l v) (type_at m t)) 0 u
    unfolding kind_at
    list_apart c a d = other_kind 42 (ap kind_at c) refl (λ z. omega arith) a d

    pub context_apart : get_or v 0 0 ≡ 11 → (get_or t 0 0 ≡ 32 → ⊥) → (get_or t 0 0 ≡ 44 → ⊥) → Met (held (order_of reading) (value_at l v) (type_at m t)) 0 u
    unfolding kind_at
    context_apart c a d = other_kind 44 (ap kind_at c) refl (λ z. omega arith) a d

    pub function_apart : get_or v 0 0 ≡ 12 → (get_or t 0 0 ≡ 32 → ⊥) → (get_or t 0 0 ≡ 45 → ⊥) → Met (held (order_of reading) (value_at l v) (type_at m t)) 0 u
    unfolding kind_at
    function_apart c a d = other_kind 45 (ap kind_at c) refl (λ z. omega arith) a d

    pub plain_apart : is_leaf_command (get_or v 0 0) ≡ true → (get_or v 0 0 ≡ 0 → ⊥) → (get_or t 0 0 ≡ 32 → ⊥) → (k : ℕ) → k ≡ leaf_type_command (get_or v 0 0) → (get_or t 0 0 ≡ k → ⊥)
        → (q : Bool) → q ≡ related reading (k - 32) (get_or t 0 0 - 32) → q ≡ false → Met (held (order_of reading) (value_at l v) (type_at m t)) 0 u
    plain_apart i z a k e d q r w = fails (conforms (order_of reading)) l m v t u (λ x y f g.
        by_table k (kind_leaf (get_or v 0 0) i ∙ sym e) (λ j. omega (arith, plain_type_in (get_or v 0 0) i z)) a d x y f g ∙ sym r ∙ w)

    -- no range, list or context that is there whole, no leaf, no definition
    pub rest_apart : (3 ≤ length v → 9 ≤ get_or v 0 0 → 11 < get_or v 0 0) → (get_or t 0 0 ≡ 32 → ⊥) → is_leaf_command (get_or v 0 0) ≡ false → (get_or v 0 0 ≡ 12 → ⊥)
        → Met (held (order_of reading) (value_at l v) (type_at m t)) 0 u
    rest_apart w a h n = fails (conforms (order_of reading)) l m v t u (λ x y f g. go x y f g (leb (get_or v 0 0) 11) refl)
      where
        go : (x : Val) (y : Ty) → value_at l v ≡ some x → type_at m t ≡ some y → (q : Bool) → leb (get_or v 0 0) 11 ≡ q → conforms (order_of reading) x y ≡ false
        go x y f g true e = absurd (let k = leb-true (get_or v 0 0) 11 e in let j = no_leaf_high (get_or v 0 0) h in omega (arith, w (long_is l v x f j k) j))
        go x y f g false e =
            let i = leb-false (get_or v 0 0) 11 e in
            by_table 32 (kind_other (get_or v 0 0) (omega arith) h) (λ z. omega arith) a a x y f g ∙ end_related reading 0 (get_or t 0 0 - 32) refl

-- no, whatever the test is: one of the two is cut short or none
module _ (test : Val → Ty → Bool) (l m : ℕ) (v t : List ℕ) (u : ℕ) where
  -- a range's interval bytes
  pub no_interval : 0 < l → 3 ≤ length v → get_or v 0 0 ≡ 9 → (get_or v 1 0 ≤ 3 → get_or v 2 0 ≤ 3 → ⊥) → Met (held_by test (value_at l v) (type_at m t)) 0 u
  no_interval p h c w = never test l m v t u (λ x y f g. none_some (sym (no_range l v p h c w) ∙ f))

  -- a type that is cut short
  pub no_fields_there : get_or t 0 0 ≡ 44 → (3 ≤ length t → ⊥) → Met (held_by test (value_at l v) (type_at m t)) 0 u
  no_fields_there d w = never test l m v t u (λ x y f g. w (is_ctx m t y g d).three)

  pub no_signature_there : get_or t 0 0 ≡ 45 → (2 ≤ length t → ⊥) → Met (held_by test (value_at l v) (type_at m t)) 0 u
  no_signature_there d w = never test l m v t u (λ x y f g. w (is_fun m t y g d).two)

  -- a null
  pub no_null : (room : ℕ) → Short is_short_leaf (read_v l v) None room → get_or v 0 0 ≡ 0 → Met (held_by test (value_at l v) (type_at m t)) 0 u
  no_null room h c = never test l m v t u (λ x y f g. true≢false (sym (leaf_is l v x f (omega arith)) ∙ no_leaf l v room h x f))

pub met_null : {O : Order} → Ends O → (l m : ℕ) (v t : List ℕ) (n room : ℕ) → Short is_short_leaf (read_v l v) (Some n) room → get_or v 0 0 ≡ 0 → (k : ℕ) → Sized size (type_at m) t k
    → Met (held O (value_at l v) (type_at m t)) n k
unfolding kind_at leaf_type_command
met_null {O} L l m v t n room h c k T =
    let P = passed_leaf l v room n h in
    met_yes (both size_val size (conforms O) (value_at l v) (type_at m t) P.x T.x P.read T.read
    ∙ ap (λ q. judge q (size_val P.x) (size T.x)) (leaf_null L P.x T.x (short_data P.x P.leafy) (kind_is l v P.x P.read ∙ ap kind_at c))) P.is T.is

-- ---- ranges, lists, contexts
two_of_lem : (l : ℕ) (s : List ℕ) (vs : Vals) → items_at l 2 s ≡ some vs → (a : Val) × (b : Val) × (vs ≡ item a (item b no_items))
two_of_lem l s vs e =
    let A = nth l 0 2 0 s vs (omega arith) (omega arith) e in
    let B = nth l 1 2 (0 + size_val A.x) s A.more (omega arith) A.fits A.second in
    let C = no_nth l 2 2 (0 + size_val A.x + size_val B.x) s B.more (omega arith) B.second in
    (A.x, B.x, cc)

module _ (O : Order) (l m : ℕ) (v t : List ℕ) (lp : 0 < l) (mp : 0 < m) (three : 3 ≤ length v) (some-t : 0 < length t) (r u : ℕ) where
  pub met_range : get_or v 0 0 ≡ 9 → get_or t 0 0 ≡ 43 → get_or v 1 0 ≤ 3 → get_or v 2 0 ≤ 3
      → Met (add_sizes 3 1 (held_items O (items_at (l - 1) 2 (take (length v - 3) (drop 3 v))) (type_at (m - 1) (take (length t - 1) (drop 1 t))))) r u
      → Met (held O (value_at l v) (type_at m t)) r u
  unfolding conforms range_of size_val size
  met_range c d i j w = met_as (add_sizes 3 1 (held_items O (items_at (l - 1) 2 (drop 3 v)) (type_at (m - 1) (drop 1 t)))) r u
      (ap₂ (held O) (node_range l v lp three c i j) (forward.node_range m t mp some-t d)
      ∙ mapped size_vals size (all_conform O) size_val size (conforms O) (range_of (get_or v 1 0) (get_or v 2 0)) (λ y. built (range y)) 3 1 (items_at (l - 1) 2 (drop 3 v))
      (type_at (m - 1) (drop 1 t)) tested sizes wrapped) (rw (rest v 3, rest t 1) at w)
    where
      tested : (vs : Vals) (y : Ty) → items_at (l - 1) 2 (drop 3 v) ≡ some vs → type_at (m - 1) (drop 1 t) ≡ some y
          → conforms O (range_of (get_or v 1 0) (get_or v 2 0) vs) (built (range y)) ≡ all_conform O vs y
      tested vs y e f =
          let g = two_of_lem (l - 1) (drop 3 v) vs e in
          ap (λ z. conforms O (range_of (get_or v 1 0) (get_or v 2 0) z) (built (range y))) g.2
          ∙ ap (λ q. conforms O g.0 y && q) (sym (and_true (conforms O g.1 y))) ∙ sym (ap (λ z. all_conform O z y) g.2)

      sizes : (vs : Vals) → items_at (l - 1) 2 (drop 3 v) ≡ some vs → size_val (range_of (get_or v 1 0) (get_or v 2 0) vs) ≡ size_vals vs + 3
      sizes vs e =
          let g = two_of_lem (l - 1) (drop 3 v) vs e in
          ap (λ z. size_val (range_of (get_or v 1 0) (get_or v 2 0) z)) g.2 ∙ omega arith ∙ sym (ap (λ z. size_vals z + 3) g.2)

      wrapped : (y : Ty) → size (built (range y)) ≡ size y + 1
      wrapped y = omega arith

  pub met_list : get_or v 0 0 ≡ 10 → get_or t 0 0 ≡ 42 → (n : ℕ) → n ≡ num_at 2 1 v
      → Met (add_sizes 3 1 (held_items O (items_at (l - 1) n (take (length v - 3) (drop 3 v))) (type_at (m - 1) (take (length t - 1) (drop 1 t))))) r u
      → Met (held O (value_at l v) (type_at m t)) r u
  unfolding conforms size_val size
  met_list c d n ne w = met_as (add_sizes 3 1 (held_items O (items_at (l - 1) n (drop 3 v)) (type_at (m - 1) (drop 1 t)))) r u
      (ap₂ (held O) (node_list l v lp three c ∙ ap (λ k. map_o v_list (items_at (l - 1) k (drop 3 v))) (sym ne)) (forward.node_list m t mp some-t d)
      ∙ mapped size_vals size (all_conform O) size_val size (conforms O) v_list (λ y. built (list y)) 3 1 (items_at (l - 1) n (drop 3 v)) (type_at (m - 1) (drop 1 t)) (λ x y e f. refl)
      (λ x e. omega arith) (λ y. omega arith)) (rw (rest v 3, rest t 1) at w)

  pub met_context : get_or v 0 0 ≡ 11 → get_or t 0 0 ≡ 44 → 3 ≤ length t → (n k : ℕ) → n ≡ num_at 2 1 v → k ≡ num_at 2 1 t
      → Met (add_sizes 3 3 (held_entries O (entries_at (l - 1) n 0 (take (length v - 3) (drop 3 v))) (fields_at (m - 1) k 0 (take (length t - 3) (drop 3 t))))) r u
      → Met (held O (value_at l v) (type_at m t)) r u
  unfolding conforms size_val size
  met_context c d i n k ne ke w = met_as (add_sizes 3 3 (held_entries O (entries_at (l - 1) n 0 (drop 3 v)) (fields_at (m - 1) k 0 (drop 3 t)))) r u
      (ap₂ (held O) (node_context l v lp three c ∙ ap (λ z. map_o v_context (entries_at (l - 1) z 0 (drop 3 v))) (sym ne))
      (forward.node_context m t mp some-t d i ∙ ap (λ z. map_o (λ fs. built (context fs)) (fields_at (m - 1) z 0 (drop 3 t))) (sym ke))
      ∙ mapped size_entries size_fields (entries_conform O) size_val size (conforms O) v_context (λ fs. built (context fs)) 3 3 (entries_at (l - 1) n 0 (drop 3 v)) (fields_at (m - 1) k 0 (drop 3 t))
      (λ x y e f. refl) (λ x e. omega arith) (λ y. omega arith)) (rw (rest v 3, rest t 3) at w)
