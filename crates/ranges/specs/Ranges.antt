-- Ranges, built-in functions and the small questions of a value, on trees.
-- Assumes nothing.
use Rattle.std.specs.Prelude.{ℕ, ◌+◌, ◌^◌, Bool, true, false, cond, ◌&&◌, ◌||◌, leb, ltb, eqb, ℤ, pos, ◌-ℤ◌, ◌*ℤ◌}
use Rattle.std.specs.Int.Signed.{le_z}
use Rattle.form.specs.Trees.{any, number, Ty, leaf, built, function, no_params, param, code_temporal, Leaf, l_null, l_boolean, l_number, l_decimal, l_string, l_temporal, Val, v_leaf}
use Rattle.form.specs.Trees.{v_range, v_list, v_context, v_function, v_built_in, v_type, v_irrelevant}

-- ---- interval types: 0 Opened, 1 OpenedUndef, 2 Closed, 3 ClosedUndef
-- `IntervalType::opened`
abbrev pub opened : ℕ → Bool
opened i = ltb i 2

-- `IntervalType::closed`
abbrev pub closed : ℕ → Bool
closed i = leb 2 i

-- `IntervalType::undefined`
abbrev pub undefined : ℕ → Bool
undefined i = eqb i 1 || eqb i 3

-- ---- keys compare as signed whole numbers over all 64 bits: a key is the number of its eight bytes, and negative from 2^63 on
abbrev pub negative : ℕ → Bool
negative k = leb (2 ^ 63) k

abbrev pub signed_le : ℕ → ℕ → Bool
signed_le a b = cond (negative a) (cond (negative b) (leb a b) true) (cond (negative b) false (leb a b))

-- the whole number of a key, in two's complement: from 2^63 on the key less 2^64
unfoldable pub meaning : ℕ → ℤ
meaning k = cond (negative k) (pos k -ℤ pos (2 ^ 64)) (pos k)

-- ---- a decimal number is a signed coefficient divided by 10 to the power of its exponent: a / 10^p is at most b / 10^q where a * 10^q is at most b * 10^p, as whole numbers
abbrev pub decimal_le : ℕ → ℕ → ℕ → ℕ → Bool
decimal_le a p b q = le_z (meaning a *ℤ pos (10 ^ q)) (meaning b *ℤ pos (10 ^ p))

-- ---- `Value::is_valid_range`
-- what an end of a range is: Null, a text, a number with its coefficient and exponent, a key of the temporal kind with that command, anything else
pub data Point : Type 0 where
  nowhere : Point
  text : ℕ → Point
  decimal : ℕ → ℕ → Point
  key : ℕ → ℕ → Point
  elsewhere : Point

abbrev pub leaf_point : Leaf → Point
leaf_point (l_null x) = nowhere
leaf_point (l_boolean x) = elsewhere
leaf_point (l_number n) = decimal n 0
leaf_point (l_decimal n p) = decimal n p
leaf_point (l_string n) = text n
leaf_point (l_temporal k n) = key (0x04 + code_temporal k) n

abbrev pub point : Val → Point
point (v_leaf l) = leaf_point l
point (v_range i j v w) = elsewhere
point (v_list vs) = elsewhere
point (v_context es) = elsewhere
point (v_function ps b r) = elsewhere
point (v_built_in b) = elsewhere
point (v_type t) = elsewhere
point v_irrelevant = elsewhere

-- Start a text, number or temporal kind: the end is of that kind and not smaller, or Null with end byte 0 or 1. Numbers are one kind, whole or decimal.
-- Start Null: end not Null and start byte 0 or 1. Else no.
abbrev pub in_order : ℕ → ℕ → Point → Point → Bool
in_order i j nowhere nowhere = false
in_order i j nowhere (text m) = opened i
in_order i j nowhere (decimal m q) = opened i
in_order i j nowhere (key h m) = opened i
in_order i j nowhere elsewhere = opened i
in_order i j (text n) nowhere = opened j
in_order i j (text n) (text m) = leb n m
in_order i j (text n) (decimal m q) = false
in_order i j (text n) (key h m) = false
in_order i j (text n) elsewhere = false
in_order i j (decimal n p) nowhere = opened j
in_order i j (decimal n p) (text m) = false
in_order i j (decimal n p) (decimal m q) = decimal_le n p m q
in_order i j (decimal n p) (key h m) = false
in_order i j (decimal n p) elsewhere = false
in_order i j (key k n) nowhere = opened j
in_order i j (key k n) (text m) = false
in_order i j (key k n) (decimal m q) = false
in_order i j (key k n) (key h m) = eqb k h && signed_le n m
in_order i j (key k n) elsewhere = false
in_order i j elsewhere p = false

-- 3 at either end: no
abbrev pub is_valid_range : Val → Bool
is_valid_range (v_leaf l) = false
is_valid_range (v_range i j v w) = cond (eqb i 3 || eqb j 3) false (in_order i j (point v) (point w))
is_valid_range (v_list vs) = false
is_valid_range (v_context es) = false
is_valid_range (v_function ps b r) = false
is_valid_range (v_built_in b) = false
is_valid_range (v_type t) = false
is_valid_range v_irrelevant = false

-- ---- the small questions: the byte behind the command of a null (its trace) and of a Boolean
-- a null with this trace
abbrev pub null_with : ℕ → Leaf → Bool
null_with n (l_null x) = eqb x n
null_with n (l_boolean x) = false
null_with n (l_number x) = false
null_with n (l_decimal x p) = false
null_with n (l_string x) = false
null_with n (l_temporal k x) = false

-- this Boolean
abbrev pub the_boolean : Bool → Leaf → Bool
the_boolean b (l_null x) = false
the_boolean true (l_boolean x) = x
the_boolean false (l_boolean x) = cond x false true
the_boolean b (l_number x) = false
the_boolean b (l_decimal x p) = false
the_boolean b (l_string x) = false
the_boolean b (l_temporal k x) = false

-- a number, whole or decimal
abbrev pub a_number : Leaf → Bool
a_number (l_null x) = false
a_number (l_boolean x) = false
a_number (l_number x) = true
a_number (l_decimal x p) = true
a_number (l_string x) = false
a_number (l_temporal k x) = false

abbrev pub of_leaf : (Leaf → Bool) → Val → Bool
of_leaf f (v_leaf l) = f l
of_leaf f (v_range i j v w) = false
of_leaf f (v_list vs) = false
of_leaf f (v_context es) = false
of_leaf f (v_function ps b r) = false
of_leaf f (v_built_in b) = false
of_leaf f (v_type t) = false
of_leaf f v_irrelevant = false

-- ---- `Bif::feel_type`: Abs and Sqrt are function<number> to number, all others Any
abbrev pub bif_type : ℕ → Ty
bif_type b = cond (eqb b 0 || eqb b 67) (built (function (param (leaf number) no_params) (leaf number))) (leaf any)
