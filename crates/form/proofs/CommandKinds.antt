-- A command byte, told by its kind: which bytes are of a kind, and how many operand bytes a command has.
-- Idea: one view of every byte (`view`); all else is read off it.
-- Index: `View`, `ViewV`, `ViewT`, `view` (the view); `kind_simple`, `kind_temporal` (ranges of commands); `width_is`, `there`, `arm` (operands of an arm);
-- `range_width`, `width_other`, `width_none` (widths by the byte); `leaf_low`, `leaf_decimal`, `leaf_high`, `leaf_either` (the commands of leaves of data); `key_width`, `flag_width`, `decimal_width`,
-- `low_width`, `high_width`, `low_is` (their widths); `sized_none`, `sized_leaf`, `leaf_wide` (their sizes); `null_type_lem`, `low_type`, `decimal_type`, `no_type`,
-- `leaf_type_in`, `plain_type_in` (their types).
-- Assumes nothing.
use Prim.Native.Nat.{ℕ, ◌+◌, ◌<◌, ◌≤◌}
use mathlib.Core.Path.{◌≡◌, refl, sym, ap, ◌∙◌}
use mathlib.Core.Bool.{Bool, true, false, false≢true}
use mathlib.Core.Logic.{◌⊎◌, inl, inr}
use native.Mathlib.Omega.{arith}
use lib.Dec.{T, ltb, eqb, eqb→eq, ltb→lt}
use borrow.Author.Tests.{ltb-false, ltb-true, eqb-true, eqb-false, lt-ltb, le-ltb, ne_eqb}
use Rattle.std.specs.declared.option.Option.{Option}
use Rattle.std.specs.declared.option.Option.TheVariants.{None, Some}
use Rattle.form.specs.Outcome.{pick}
use Rattle.form.proofs.Some.{some_is}
use Rattle.form.proofs.Table.{every, steps, between}
use Rattle.form.specs.Layout.{ValueKind, k_null, k_boolean, k_number, k_string, k_temporal, k_range, k_list, k_context, k_definition, k_built_in, k_type, k_irrelevant, k_decimal, TypeKind}
use Rattle.form.specs.Layout.{t_simple, t_list}
use Rattle.form.specs.Layout.{t_range, t_context, t_function, Kind, of_value, of_type, no_command, kind_of, operands, operands_v, operands_t, slot, no_width, width_of}
use Rattle.form.specs.Layout.{is_leaf_command, leaf_type_command}

pub data ViewV (b : ℕ) : ValueKind → Type 0 where
  is_null : b ≡ 0x00 → ViewV b k_null
  is_boolean : b ≡ 0x01 → ViewV b k_boolean
  is_number : b ≡ 0x02 → ViewV b k_number
  is_string : b ≡ 0x03 → ViewV b k_string
  is_temporal : 0x04 ≤ b → b < 0x09 → ViewV b k_temporal
  is_range : b ≡ 0x09 → ViewV b k_range
  is_list : b ≡ 0x0A → ViewV b k_list
  is_context : b ≡ 0x0B → ViewV b k_context
  is_definition : b ≡ 0x0C → ViewV b k_definition
  is_built_in : b ≡ 0x0D → ViewV b k_built_in
  is_feel_type : b ≡ 0x0E → ViewV b k_type
  is_irrelevant : b ≡ 0x0F → ViewV b k_irrelevant
  is_decimal : b ≡ 0x10 → ViewV b k_decimal

pub data ViewT (b : ℕ) : TypeKind → Type 0 where
  is_simple_t : 0x20 ≤ b → b < 0x2A → ViewT b t_simple
  is_list_t : b ≡ 0x2A → ViewT b t_list
  is_range_t : b ≡ 0x2B → ViewT b t_range
  is_context_t : b ≡ 0x2C → ViewT b t_context
  is_function_t : b ≡ 0x2D → ViewT b t_function

pub data View (b : ℕ) : Kind → Type 0 where
  is_value : (k : ValueKind) → ViewV b k → View b (of_value k)
  is_type : (k : TypeKind) → ViewT b k → View b (of_type k)
  is_gap : 0x11 ≤ b → b < 0x20 → View b no_command
  is_beyond : 0x2E ≤ b → View b no_command

pick_view : (b : ℕ) (x : Bool) (j k : Kind) → (x ≡ true → View b j) → (x ≡ false → View b k) → View b (pick x j k)
pick_view b true j k f g = f refl
pick_view b false j k f g = g refl

past : (b k : ℕ) → k ≤ b → eqb b k ≡ false → k + 1 ≤ b
past b k h e = let n = eqb-false b k e in omega arith

pub view : (b : ℕ) → View b (kind_of b)
unfolding kind_of
view b =
    pick_view b (eqb b 0) _ _ (λ e. is_value k_null (is_null (eqb-true b 0 e))) (λ n. let p1 : 1 ≤ b = past b 0 (omega arith) n in
    pick_view b (eqb b 1) _ _ (λ e. is_value k_boolean (is_boolean (eqb-true b 1 e))) (λ n. let p2 : 2 ≤ b = past b 1 p1 n in
    pick_view b (eqb b 2) _ _ (λ e. is_value k_number (is_number (eqb-true b 2 e))) (λ n. let p3 : 3 ≤ b = past b 2 p2 n in
    pick_view b (eqb b 3) _ _ (λ e. is_value k_string (is_string (eqb-true b 3 e))) (λ n. let p4 : 4 ≤ b = past b 3 p3 n in
    pick_view b (ltb b 9) _ _ (λ e. is_value k_temporal (is_temporal p4 (ltb-true b 9 e))) (λ n. let p9 : 9 ≤ b = ltb-false b 9 n in
    pick_view b (eqb b 9) _ _ (λ e. is_value k_range (is_range (eqb-true b 9 e))) (λ n. let p10 : 10 ≤ b = past b 9 p9 n in
    pick_view b (eqb b 10) _ _ (λ e. is_value k_list (is_list (eqb-true b 10 e))) (λ n. let p11 : 11 ≤ b = past b 10 p10 n in
    pick_view b (eqb b 11) _ _ (λ e. is_value k_context (is_context (eqb-true b 11 e))) (λ n. let p12 : 12 ≤ b = past b 11 p11 n in
    pick_view b (eqb b 12) _ _ (λ e. is_value k_definition (is_definition (eqb-true b 12 e))) (λ n. let p13 : 13 ≤ b = past b 12 p12 n in
    pick_view b (eqb b 13) _ _ (λ e. is_value k_built_in (is_built_in (eqb-true b 13 e))) (λ n. let p14 : 14 ≤ b = past b 13 p13 n in
    pick_view b (eqb b 14) _ _ (λ e. is_value k_type (is_feel_type (eqb-true b 14 e))) (λ n. let p15 : 15 ≤ b = past b 14 p14 n in
    pick_view b (eqb b 15) _ _ (λ e. is_value k_irrelevant (is_irrelevant (eqb-true b 15 e))) (λ n. let p16 : 16 ≤ b = past b 15 p15 n in
    pick_view b (eqb b 16) _ _ (λ e. is_value k_decimal (is_decimal (eqb-true b 16 e))) (λ n. let p17 : 17 ≤ b = past b 16 p16 n in
    pick_view b (ltb b 32) _ _ (λ e. is_gap p17 (ltb-true b 32 e)) (λ n. let p32 : 32 ≤ b = ltb-false b 32 n in
    pick_view b (ltb b 42) _ _ (λ e. is_type t_simple (is_simple_t p32 (ltb-true b 42 e))) (λ n. let p42 : 42 ≤ b = ltb-false b 42 n in
    pick_view b (eqb b 42) _ _ (λ e. is_type t_list (is_list_t (eqb-true b 42 e))) (λ n. let p43 : 43 ≤ b = past b 42 p42 n in
    pick_view b (eqb b 43) _ _ (λ e. is_type t_range (is_range_t (eqb-true b 43 e))) (λ n. let p44 : 44 ≤ b = past b 43 p43 n in
    pick_view b (eqb b 44) _ _ (λ e. is_type t_context (is_context_t (eqb-true b 44 e))) (λ n. let p45 : 45 ≤ b = past b 44 p44 n in
    pick_view b (eqb b 45) _ _ (λ e. is_type t_function (is_function_t (eqb-true b 45 e))) (λ n. let p46 : 46 ≤ b = past b 45 p45 n in
    is_beyond p46)))))))))))))))))))

-- the bounds of the two halves
pub value_below : (b : ℕ) (k : ValueKind) → ViewV b k → b < 0x11
value_below b k (is_null e) = omega arith
value_below b k (is_boolean e) = omega arith
value_below b k (is_number e) = omega arith
value_below b k (is_string e) = omega arith
value_below b k (is_temporal p q) = omega arith
value_below b k (is_range e) = omega arith
value_below b k (is_list e) = omega arith
value_below b k (is_context e) = omega arith
value_below b k (is_definition e) = omega arith
value_below b k (is_built_in e) = omega arith
value_below b k (is_feel_type e) = omega arith
value_below b k (is_irrelevant e) = omega arith
value_below b k (is_decimal e) = omega arith

pub type_within : (b : ℕ) (k : TypeKind) → ViewT b k → (0x20 ≤ b) × (b < 0x2E)
type_within b k (is_simple_t p q) = (omega arith, omega arith)
type_within b k (is_list_t e) = (omega arith, omega arith)
type_within b k (is_range_t e) = (omega arith, omega arith)
type_within b k (is_context_t e) = (omega arith, omega arith)
type_within b k (is_function_t e) = (omega arith, omega arith)

-- by the byte: the ranges of commands
simple_of : (b : ℕ) (k : TypeKind) → ViewT b k → b < 0x2A → of_type k ≡ of_type t_simple
simple_of b k (is_simple_t p q) h = refl
simple_of b k (is_list_t e) h = absurd (omega arith)
simple_of b k (is_range_t e) h = absurd (omega arith)
simple_of b k (is_context_t e) h = absurd (omega arith)
simple_of b k (is_function_t e) h = absurd (omega arith)

temporal_of : (b : ℕ) (k : ValueKind) → ViewV b k → 0x04 ≤ b → b < 0x09 → of_value k ≡ of_value k_temporal
temporal_of b k (is_null e) h i = absurd (omega arith)
temporal_of b k (is_boolean e) h i = absurd (omega arith)
temporal_of b k (is_number e) h i = absurd (omega arith)
temporal_of b k (is_string e) h i = absurd (omega arith)
temporal_of b k (is_temporal p q) h i = refl
temporal_of b k (is_range e) h i = absurd (omega arith)
temporal_of b k (is_list e) h i = absurd (omega arith)
temporal_of b k (is_context e) h i = absurd (omega arith)
temporal_of b k (is_definition e) h i = absurd (omega arith)
temporal_of b k (is_built_in e) h i = absurd (omega arith)
temporal_of b k (is_feel_type e) h i = absurd (omega arith)
temporal_of b k (is_irrelevant e) h i = absurd (omega arith)
temporal_of b k (is_decimal e) h i = absurd (omega arith)

simple_view : (b : ℕ) (j : Kind) → View b j → 0x20 ≤ b → b < 0x2A → j ≡ of_type t_simple
simple_view b j (is_value k v) h i = absurd (omega (arith, value_below b k v))
simple_view b j (is_type k v) h i = simple_of b k v i
simple_view b j (is_gap p q) h i = absurd (omega arith)
simple_view b j (is_beyond p) h i = absurd (omega arith)

pub kind_simple : (b : ℕ) → 0x20 ≤ b → b < 0x2A → kind_of b ≡ of_type t_simple
kind_simple b h i = simple_view b (kind_of b) (view b) h i

temporal_view : (b : ℕ) (j : Kind) → View b j → 0x04 ≤ b → b < 0x09 → j ≡ of_value k_temporal
temporal_view b j (is_value k v) h i = temporal_of b k v h i
temporal_view b j (is_type k v) h i = absurd (omega (arith, type_within b k v))
temporal_view b j (is_gap p q) h i = absurd (omega arith)
temporal_view b j (is_beyond p) h i = absurd (omega arith)

pub kind_temporal : (b : ℕ) → 0x04 ≤ b → b < 0x09 → kind_of b ≡ of_value k_temporal
kind_temporal b h i = temporal_view b (kind_of b) (view b) h i

beyond_view : (b : ℕ) (j : Kind) → View b j → 0x2E ≤ b → j ≡ no_command
beyond_view b j (is_value k v) h = absurd (omega (arith, value_below b k v))
beyond_view b j (is_type k v) h = absurd (omega (arith, type_within b k v))
beyond_view b j (is_gap p q) h = refl
beyond_view b j (is_beyond p) h = refl

pub width_beyond : (b : ℕ) → 0x2E ≤ b → width_of b ≡ no_width
unfolding width_of operands
width_beyond b h = rw (beyond_view b (kind_of b) (view b) h)

-- the operands that the width says are there
pub there : (b n : ℕ) (k : Kind) → kind_of b ≡ k → width_of b ≤ n → slot (operands k) ≤ n
unfolding width_of
there b n k e h = rw e at h

pub width_is : (b : ℕ) (k : Kind) → kind_of b ≡ k → width_of b ≡ slot (operands k)
unfolding width_of
width_is b k e = rw e

-- the n bytes from a on have the width w: the test at each is computed
pub range_width : (a n w : ℕ) → T (every (λ k x. eqb (width_of k) w) a (steps n)) → (b : ℕ) → a ≤ b → b < a + n → width_of b ≡ w
range_width a n w t b h i = eqb→eq (width_of b) w (between (λ k. eqb (width_of k) w) a n t b h i)

-- between the values and the types, and beyond the types, no byte is a command
pub width_other : (b : ℕ) → 0x11 ≤ b → (0x20 ≤ b → 0x2E ≤ b) → width_of b ≡ no_width
unfolding width_of kind_of operands
width_other b h i = go (ltb b 0x20) refl
  where
    go : (q : Bool) → ltb b 0x20 ≡ q → width_of b ≡ no_width
    go true e = range_width 0x11 15 255 tt b h (ltb-true b 0x20 e)
    go false e = width_beyond b (i (ltb-false b 0x20 e))

-- a command has at most 9, so it is not taken for none
few_v : (k : ValueKind) → operands_v k ≤ 9
unfolding operands_v
few_v k_null = omega arith
few_v k_boolean = omega arith
few_v k_number = omega arith
few_v k_string = omega arith
few_v k_temporal = omega arith
few_v k_range = omega arith
few_v k_list = omega arith
few_v k_context = omega arith
few_v k_definition = omega arith
few_v k_built_in = omega arith
few_v k_type = omega arith
few_v k_irrelevant = omega arith
few_v k_decimal = omega arith

few_t : (k : TypeKind) → operands_t k ≤ 8
unfolding operands_t
few_t t_simple = omega arith
few_t t_list = omega arith
few_t t_range = omega arith
few_t t_context = omega arith
few_t t_function = omega arith

none_of : (k : Kind) → slot (operands k) ≡ no_width → k ≡ no_command
unfolding operands
none_of (of_value k) e = absurd (omega (arith, few_v k))
none_of (of_type k) e = absurd (omega (arith, few_t k))
none_of no_command e = refl

pub width_none : (b : ℕ) → width_of b ≡ no_width → kind_of b ≡ no_command
unfolding width_of
width_none b e = none_of (kind_of b) e

-- an arm of a match over the command
pub arm : (b c n : ℕ) (k : Kind) → b ≡ c → kind_of c ≡ k → width_of b ≤ n → (kind_of b ≡ k) × (slot (operands k) ≤ n)
arm b c n k e f h = (ap kind_of e ∙ f, there b n k (ap kind_of e ∙ f) h)

-- ---- the commands of leaves of data: below 09, and 10
pub leaf_low : (c : ℕ) → c < 9 → is_leaf_command c ≡ true
leaf_low c h = rw (lt-ltb c 9 h)

pub leaf_decimal : (c : ℕ) → c ≡ 16 → is_leaf_command c ≡ true
leaf_decimal c e = rw e

pub leaf_high : (c : ℕ) → 9 ≤ c → (c ≡ 16 → ⊥) → is_leaf_command c ≡ false
leaf_high c h d = rw (le-ltb c 9 h, ne_eqb c 16 d)

pub leaf_either : (c : ℕ) → is_leaf_command c ≡ true → (c < 9) ⊎ (c ≡ 16)
leaf_either c h = go (ltb c 9) refl
  where
    go : (t : Bool) → ltb c 9 ≡ t → (c < 9) ⊎ (c ≡ 16)
    go true e = inl (ltb-true c 9 e)
    go false e = inr (eqb-true c 16 (rw e at h))

-- ---- the width and the size of a leaf of data by its command
pub key_width : (c : ℕ) → 4 ≤ c → c < 9 → width_of c ≡ 8
unfolding operands operands_v
key_width c h i = width_is c (of_value k_temporal) (kind_temporal c h i)

-- behind a number and a text come the temporals
pub past_text : (c : ℕ) → 2 ≤ c → (c ≡ 2 → ⊥) → (c ≡ 3 → ⊥) → 4 ≤ c
past_text c h n t = omega arith

pub flag_width : (c : ℕ) → c < 2 → width_of c ≡ 1
unfolding width_of kind_of operands operands_v
flag_width c h = range_width 0x00 2 1 tt c (omega arith) h

pub decimal_width : (c : ℕ) → c ≡ 16 → width_of c ≡ 9
unfolding kind_of operands operands_v
decimal_width c e = width_is c (of_value k_decimal) (ap kind_of e)

leaf_few : (c : ℕ) → is_leaf_command c ≡ true → width_of c < 10
unfolding width_of kind_of operands operands_v
leaf_few c h = go (leaf_either c h)
  where
    go : (c < 9) ⊎ (c ≡ 16) → width_of c < 10
    go (inl b) = ltb→lt (width_of c) 10 (between (λ k. ltb (width_of k) 10) 0 9 tt c (omega arith) (omega arith))
    go (inr e) = omega (arith, decimal_width c e)

pub low_width : (c n : ℕ) → is_leaf_command c ≡ true → width_of c ≡ n → n ≡ pick (is_leaf_command c) (width_of c) no_width
low_width c n h e = rw h (sym e)

pub high_width : (c : ℕ) → is_leaf_command c ≡ false → no_width ≡ pick (is_leaf_command c) (width_of c) no_width
high_width c h = rw h

pub low_is : (c n : ℕ) → n ≡ pick (is_leaf_command c) (width_of c) no_width → is_leaf_command c ≡ true → n ≡ width_of c
low_is c n e h = rw h at e

-- with its command, by its width w
pub sized_none : (c w : ℕ) → w ≡ pick (is_leaf_command c) (width_of c) no_width → w ≡ no_width → ◌≡◌ {A = Option ℕ} None (pick (is_leaf_command c) (Some (width_of c + 1)) None)
sized_none c w e z = go (is_leaf_command c) refl
  where
    go : (t : Bool) → is_leaf_command c ≡ t → ◌≡◌ {A = Option ℕ} None (pick (is_leaf_command c) (Some (width_of c + 1)) None)
    go true q = absurd (let f = rw q at e in omega (arith, leaf_few c q))
    go false q = rw q

pub sized_leaf : (c w : ℕ) → w ≡ pick (is_leaf_command c) (width_of c) no_width → (w ≡ no_width → ⊥)
    → (w < 10) × (◌≡◌ {A = Option ℕ} (Some (w + 1)) (pick (is_leaf_command c) (Some (width_of c + 1)) None))
sized_leaf c w e n = go (is_leaf_command c) refl
  where
    go : (t : Bool) → is_leaf_command c ≡ t → (w < 10) × (◌≡◌ {A = Option ℕ} (Some (w + 1)) (pick (is_leaf_command c) (Some (width_of c + 1)) None))
    go true q = let f : w ≡ width_of c = rw q at e in (omega (arith, leaf_few c q), rw q (ap (λ (k : ℕ). Some (k + 1)) f))
    go false q = absurd (n (rw q at e))

pub leaf_wide : (c n : ℕ) → ◌≡◌ {A = Option ℕ} (Some n) (pick (is_leaf_command c) (Some (width_of c + 1)) None) → is_leaf_command c ≡ true → n ≡ width_of c + 1
leaf_wide c n e h = let f : ◌≡◌ {A = Option ℕ} (Some n) (Some (width_of c + 1)) = rw h at e in some_is f

-- ---- the type of a leaf by its command
pub null_type_lem : (c : ℕ) → c ≡ 0 → 0x29 ≡ leaf_type_command c
unfolding leaf_type_command
null_type_lem c e = rw e

pub low_type : (c : ℕ) → 0 < c → c < 9 → c + 0x20 ≡ leaf_type_command c
unfolding leaf_type_command
low_type c h k = rw (ne_eqb c 0 (λ e. omega arith), lt-ltb c 9 k)

pub decimal_type : (c : ℕ) → c ≡ 16 → 0x22 ≡ leaf_type_command c
unfolding leaf_type_command
decimal_type c e = rw e

pub no_type : (c : ℕ) → is_leaf_command c ≡ false → 0 ≡ leaf_type_command c
unfolding leaf_type_command
no_type c h = go (ltb c 9) refl
  where
    go : (t : Bool) → ltb c 9 ≡ t → 0 ≡ leaf_type_command c
    go true e = absurd (false≢true (sym h ∙ leaf_low c (ltb-true c 9 e)))
    go false e = rw (ne_eqb c 0 (λ z. absurd (let k = ltb-false c 9 e in omega arith)), e, ne_eqb c 16 (λ z. false≢true (sym h ∙ leaf_decimal c z)))

-- a leaf is of one of the simple types but Any, and only null of Null
pub leaf_type_in : (c : ℕ) → is_leaf_command c ≡ true → (0x21 ≤ leaf_type_command c) × (leaf_type_command c ≤ 0x29)
leaf_type_in c h = go (leaf_either c h) (eqb c 0) refl
  where
    go : (c < 9) ⊎ (c ≡ 16) → (t : Bool) → eqb c 0 ≡ t → (0x21 ≤ leaf_type_command c) × (leaf_type_command c ≤ 0x29)
    go (inl k) true e = let z = null_type_lem c (eqb-true c 0 e) in (omega (arith, z), omega (arith, z))
    go (inl k) false e = let n = eqb-false c 0 e in let z = low_type c (omega arith) k in (omega (arith, z), omega (arith, z))
    go (inr d) t e = let z = decimal_type c d in (omega (arith, z), omega (arith, z))

pub plain_type_in : (c : ℕ) → is_leaf_command c ≡ true → (c ≡ 0 → ⊥) → (0x21 ≤ leaf_type_command c) × (leaf_type_command c ≤ 0x28)
plain_type_in c h n = go (leaf_either c h)
  where
    go : (c < 9) ⊎ (c ≡ 16) → (0x21 ≤ leaf_type_command c) × (leaf_type_command c ≤ 0x28)
    go (inl k) = let z = low_type c (omega arith) k in (omega (arith, z), omega (arith, z))
    go (inr d) = let z = decimal_type c d in (omega (arith, z), omega (arith, z))

-- what is no leaf's is from 09 on
pub no_leaf_high : (c : ℕ) → is_leaf_command c ≡ false → 9 ≤ c
no_leaf_high c h = go (ltb c 9) refl
  where
    go : (t : Bool) → ltb c 9 ≡ t → 9 ≤ c
    go true e = absurd (false≢true (sym h ∙ leaf_low c (ltb-true c 9 e)))
    go false e = ltb-false c 9 e
