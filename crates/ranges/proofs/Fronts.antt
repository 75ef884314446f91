-- What a value that was read is, by its command: a leaf with its operands, or anything else.
-- Index: `Front`, `front_read` (the view); `Other` (no leaf); `command_is` (the command byte is the tree's).
-- Assumes nothing.
use Prim.Native.Nat.{ℕ, ◌+◌, ◌-◌, ◌≤◌}
use mathlib.Core.Path.{◌≡◌, refl, sym, ap, ◌∙◌}
use mathlib.Core.Bool.{Bool, false}
use mathlib.Core.List.{List}
use native.Mathlib.Omega.{arith}
use lib.ListN.{length, get_or}
use lib.Dec.{eqb}
use Rattle.form.specs.Trees.{Temporal, Leaf, l_null, l_boolean, l_number, l_decimal, l_string, l_temporal, Val, v_leaf, code_temporal, decode_temporal}
use Rattle.form.specs.Limits.{name_width, most_exponent}
use Rattle.form.specs.Form.{num_at}
use Rattle.form.specs.Read.{got, read_v}
use Rattle.form.specs.Widths.{command}
use Rattle.form.proofs.ExactValues.{code_decode}
use Rattle.form.proofs.Nodes.{NodeV, n_null, n_boolean, n_number, n_decimal, n_string, n_temporal, n_range_v, n_list_v, n_context_v, n_definition, n_built_in, n_type, n_irrelevant, value_read}
use Rattle.form.specs.Layout.{ValueKind, is_leaf_command}
use Rattle.ranges.specs.Ranges.{elsewhere, point, of_leaf}

-- no leaf: its command, no point, and no test of leaves is met
pub record Other (s : List ℕ) (v : Val) : Type 0 where
  pub no_leaf : is_leaf_command (get_or s 0 0) ≡ false
  pub told : command v ≡ get_or s 0 0
  pub off : point v ≡ elsewhere
  pub no : (f : Leaf → Bool) → of_leaf f v ≡ false

-- a value and the bytes that it took
pub data Front (s : List ℕ) : Val → ℕ → Type 0 where
  f_null : get_or s 0 0 ≡ 0 → 2 ≤ length s → Front s (v_leaf (l_null (get_or s 1 0))) 2
  f_boolean : get_or s 0 0 ≡ 1 → 2 ≤ length s → get_or s 1 0 ≤ 1 → Front s (v_leaf (l_boolean (eqb (get_or s 1 0) 1))) 2
  f_number : get_or s 0 0 ≡ 2 → 9 ≤ length s → Front s (v_leaf (l_number (num_at 8 1 s))) 9
  f_decimal : get_or s 0 0 ≡ 16 → 10 ≤ length s → get_or s 9 0 ≤ most_exponent → Front s (v_leaf (l_decimal (num_at 8 1 s) (get_or s 9 0))) 10
  f_string : get_or s 0 0 ≡ 3 → 1 + name_width ≤ length s → Front s (v_leaf (l_string (num_at name_width 1 s))) (1 + name_width)
  f_temporal : (k : Temporal) → 4 + code_temporal k ≡ get_or s 0 0 → 9 ≤ length s → Front s (v_leaf (l_temporal k (num_at 8 1 s))) 9
  f_other : (v : Val) (n : ℕ) → Other s v → Front s v n

other : {s : List ℕ} (v : Val) (n : ℕ) {b : ℕ} → get_or s 0 0 ≡ b → is_leaf_command b ≡ false → command v ≡ b → point v ≡ elsewhere → ((f : Leaf → Bool) → of_leaf f v ≡ false) → Front s v n
other v n c h t p f = f_other v n (record { no_leaf = ap is_leaf_command c ∙ h; told = t ∙ sym c; off = p; no = f })

front_of : {j : ValueKind} (l : ℕ) (s : List ℕ) (v : Val) (n : ℕ) → NodeV l s j v n → Front s v n
front_of l s v n (n_null c k x) = f_null c k
front_of l s v n (n_boolean c k x) = f_boolean c k x
front_of l s v n (n_number c k) = f_number c k
front_of l s v n (n_decimal c k x) = f_decimal c k x
front_of l s v n (n_string c k) = f_string c k
front_of l s v n (n_temporal c d k) = f_temporal (decode_temporal (get_or s 0 0 - 4)) (omega (arith, code_decode (get_or s 0 0 - 4) (omega arith))) k
front_of l s v n (n_range_v c k x y a m p b j q) = other v n c refl refl refl (λ f. refl)
front_of l s v n (n_list_v c k vs m p) = other v n c refl refl refl (λ f. refl)
front_of l s v n (n_context_v c k es m p) = other v n c refl refl refl (λ f. refl)
front_of l s v n (n_definition c k t m p ps j q) = other v n c refl refl refl (λ f. refl)
front_of l s v n (n_built_in c k x) = other v n c refl refl refl (λ f. refl)
front_of l s v n (n_type c t m p) = other v n c refl refl refl (λ f. refl)
front_of l s v n (n_irrelevant c) = other v n c refl refl refl (λ f. refl)

pub front_read : (l : ℕ) (s : List ℕ) (v : Val) (n : ℕ) → read_v l s ≡ got v n → Front s v n
front_read l s v n e = front_of (l - 1) s v n (value_read l s v n e).node

-- the command byte is the tree's
pub command_is : (s : List ℕ) (v : Val) (n : ℕ) → Front s v n → command v ≡ get_or s 0 0
command_is s v n (f_null c k) = sym c
command_is s v n (f_boolean c k x) = sym c
command_is s v n (f_number c k) = sym c
command_is s v n (f_decimal c k x) = sym c
command_is s v n (f_string c k) = sym c
command_is s v n (f_temporal t c k) = c
command_is s v n (f_other w k o) = o.told
