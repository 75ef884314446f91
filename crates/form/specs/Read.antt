-- The readers of types and values: recursion on the level that is left, open in the reader of children.
-- Assumes nothing.
use Rattle.std.specs.Prelude.{ℕ, zero, suc, ◌+◌, ◌-◌, Bool, true, false, List, [], ◌∷◌, length, take, drop, ltb, leb, eqb}
use Rattle.form.specs.Trees.{Ty, leaf, built, list, range, context, function, Fields, no_fields, field, Tys, no_params, param, l_null, l_boolean, l_number, l_decimal, l_string}
use Rattle.form.specs.Trees.{l_temporal, Params, no_parameters, parameter, Val, v_leaf, v_range, v_list, v_context, v_function, v_built_in, v_type, v_irrelevant, Vals}
use Rattle.form.specs.Trees.{no_items, item, Entries, no_entries, entry, decode, decode_temporal}
use Rattle.form.specs.Limits.{name_width, most_exponent, most_bytes, value_levels, type_levels, value_refusals, type_refusals}
use Rattle.form.specs.Form.{num, level, level_v}
use Rattle.form.specs.Layout.{ValueKind, k_null, k_boolean, k_number, k_string, k_temporal, k_range, k_list, k_context, k_definition, k_built_in, k_type, k_irrelevant, k_decimal, TypeKind, t_simple}
use Rattle.form.specs.Layout.{t_list, t_range, t_context, t_function, Kind, of_value, of_type, no_command, kind_of}
use Rattle.form.specs.Outcome.{Outcome, done, refused, ◌>>=◌, ◌>>◌, pick, check}
use Rattle.form.specs.Faults.{Fault, Shape, Names, Level, place}

-- ---- what a reader finds: a tree and how many bytes it took, or the first fault from the left
pub data Got (X : Type 0) : Type 0 where
  got : X → ℕ → Got X
  bad : Fault → Got X

-- a parent of one thing, with k bytes in front
unfoldable pub front : {X Z : Type 0} → (X → Z) → ℕ → Got X → Got Z
front g k (got x n) = got (g x) (k + n)
front g k (bad f) = bad f

-- a first part, read at s behind k bytes, and then the rest, read behind the first
unfoldable pub and_then : {X Y Z : Type 0} → (X → Y → Z) → ℕ → List ℕ → (List ℕ → Got Y) → Got X → Got Z
and_then f k s rest (got x n) = front (f x) (k + n) (rest (drop n s))
and_then f k s rest (bad e) = bad e

-- the fault where the test fails
unfoldable pub or_else : {X : Type 0} → Fault → Bool → Got X → Got X
or_else f true r = r
or_else f false r = bad f

-- a number of k bytes, and what is read behind it
unfoldable pub operand : {X : Type 0} → ℕ → (ℕ → List ℕ → Got X) → List ℕ → Got X
operand k rest s = or_else Shape (leb k (length s)) (rest (num (take k s)) (drop k s))

-- ---- runs of children
-- so many, one behind the other
unfoldable pub read_run : {X R : Type 0} → R → (X → R → R) → (List ℕ → Got X) → ℕ → List ℕ → Got R
read_run nil cons child zero s = got nil 0
read_run nil cons child (suc count) s = and_then cons 0 s (read_run nil cons child count) (child s)

-- a name, judged before its child: it is at least `least`. Behind the name m come a child and the others.
unfoldable pub named : {X R : Type 0} → (ℕ → X → R → R) → (ℕ → List ℕ → Got R) → (List ℕ → Got X) → ℕ → ℕ → List ℕ → Got R
named cons others child least m s = or_else Names (leb least m) (and_then (cons m) name_width s (others m) (child s))

-- so many, each behind its name; behind the name m the next is at least `next m`
unfoldable pub read_named : {X R : Type 0} → R → (ℕ → X → R → R) → (ℕ → ℕ) → (List ℕ → Got X) → ℕ → ℕ → List ℕ → Got R
read_named nil cons next child zero least s = got nil 0
read_named nil cons next child (suc count) least s = operand name_width (named cons (λ m. read_named nil cons next child count (next m)) child least) s

-- strictly ascending, and any order
abbrev pub ascending : ℕ → ℕ
ascending m = m + 1

abbrev pub any_order : ℕ → ℕ
any_order m = 0

abbrev pub read_tys : (List ℕ → Got Ty) → ℕ → List ℕ → Got Tys
read_tys child count s = read_run no_params param child count s

abbrev pub read_fields : (List ℕ → Got Ty) → ℕ → ℕ → List ℕ → Got Fields
read_fields child count least s = read_named no_fields field ascending child count least s

abbrev pub read_vals : (List ℕ → Got Val) → ℕ → List ℕ → Got Vals
read_vals child count s = read_run no_items item child count s

abbrev pub read_entries : (List ℕ → Got Val) → ℕ → ℕ → List ℕ → Got Entries
read_entries child count least s = read_named no_entries entry ascending child count least s

abbrev pub read_params : (List ℕ → Got Ty) → ℕ → ℕ → List ℕ → Got Params
read_params child count least s = read_named no_parameters parameter any_order child count least s

-- ---- leaves of values
-- one operand byte, at most m
unfoldable pub read_flag : ℕ → (ℕ → Val) → List ℕ → Got Val
read_flag m mk [] = bad Shape
read_flag m mk (x ∷ s) = or_else Shape (leb x m) (got (mk x) 2)

-- a number of k bytes
unfoldable pub read_key : ℕ → (ℕ → Val) → List ℕ → Got Val
read_key k mk s = operand k (λ x r. got (mk x) (1 + k)) s

-- a coefficient of eight bytes, then an exponent
unfoldable pub read_decimal : List ℕ → Got Val
read_decimal s = operand 8 (λ k r. front (λ v. v) 8 (read_flag most_exponent (λ p. v_leaf (l_decimal k p)) r)) s

-- ---- parents
-- a 16-bit count, then a run
unfoldable pub counted : {R Z : Type 0} → (R → Z) → (ℕ → List ℕ → Got R) → List ℕ → Got Z
counted g run s = operand 2 (λ c r. front g 3 (run c r)) s

-- an 8-bit count, parameter types, result type
unfoldable pub read_function : (List ℕ → Got Ty) → List ℕ → Got Ty
read_function child [] = bad Shape
read_function child (c ∷ s) = and_then (λ ts t. built (function ts t)) 2 s child (read_tys child c s)

-- two interval bytes, both values
unfoldable pub read_range : (List ℕ → Got Val) → List ℕ → Got Val
read_range child [] = bad Shape
read_range child (a ∷ []) = bad Shape
read_range child (a ∷ b ∷ s) = or_else Shape (leb a 3) (or_else Shape (leb b 3) (and_then (v_range a b) 3 s child (child s)))

-- the result type, then names and types in any order: behind an 8-bit count and a 16-bit body number
unfoldable pub signature : (List ℕ → Got Ty) → ℕ → ℕ → List ℕ → Got Val
signature type c b s = and_then (λ t ps. v_function ps b t) 4 s (read_params type c 0) (type s)

unfoldable pub read_definition : (List ℕ → Got Ty) → List ℕ → Got Val
read_definition type [] = bad Shape
read_definition type (c ∷ s) = operand 2 (signature type c) s

-- ---- a type, its command byte b of kind k read and s behind it
unfoldable pub step_type : (List ℕ → Got Ty) → TypeKind → ℕ → List ℕ → Got Ty
step_type child t_simple b s = got (leaf (decode (b - 0x20))) 1
step_type child t_list b s = front (λ t. built (list t)) 1 (child s)
step_type child t_range b s = front (λ t. built (range t)) 1 (child s)
step_type child t_context b s = counted (λ fs. built (context fs)) (λ c r. read_fields child c 0 r) s
step_type child t_function b s = read_function child s

unfoldable pub step_t : (List ℕ → Got Ty) → Kind → ℕ → List ℕ → Got Ty
step_t child (of_type k) b s = step_type child k b s
step_t child (of_value k) b s = bad Shape
step_t child no_command b s = bad Shape

-- where a type must start: no byte, then the level, then the command
unfoldable pub read_t : ℕ → List ℕ → Got Ty
read_t zero [] = bad Shape
read_t zero (b ∷ s) = bad Level
read_t (suc l) [] = bad Shape
read_t (suc l) (b ∷ s) = step_t (read_t l) (kind_of b) b s

-- ---- a value, its command byte b of kind k read and s behind it
unfoldable pub step_value : (List ℕ → Got Val) → (List ℕ → Got Ty) → ValueKind → ℕ → List ℕ → Got Val
step_value child type k_null b s = read_flag 3 (λ x. v_leaf (l_null x)) s
step_value child type k_boolean b s = read_flag 1 (λ x. v_leaf (l_boolean (eqb x 1))) s
step_value child type k_number b s = read_key 8 (λ x. v_leaf (l_number x)) s
step_value child type k_string b s = read_key name_width (λ x. v_leaf (l_string x)) s
step_value child type k_temporal b s = read_key 8 (λ x. v_leaf (l_temporal (decode_temporal (b - 0x04)) x)) s
step_value child type k_range b s = read_range child s
step_value child type k_list b s = counted v_list (λ c r. read_vals child c r) s
step_value child type k_context b s = counted v_context (λ c r. read_entries child c 0 r) s
step_value child type k_definition b s = read_definition type s
step_value child type k_built_in b s = read_flag 85 v_built_in s
step_value child type k_type b s = front v_type 1 (type s)
step_value child type k_irrelevant b s = got v_irrelevant 1
step_value child type k_decimal b s = read_decimal s

unfoldable pub step_v : (List ℕ → Got Val) → (List ℕ → Got Ty) → Kind → ℕ → List ℕ → Got Val
step_v child type (of_value k) b s = step_value child type k b s
step_v child type (of_type k) b s = bad Shape
step_v child type no_command b s = bad Shape

-- where a value must start: the same. A type inside a value counts to the value's level
unfoldable pub read_v : ℕ → List ℕ → Got Val
read_v zero [] = bad Shape
read_v zero (b ∷ s) = bad Level
read_v (suc l) [] = bad Shape
read_v (suc l) (b ∷ s) = step_v (read_v l) (read_t l) (kind_of b) b s

-- ---- the whole: length first, leftovers last. Refusals are counted from `base`.
unfoldable pub number_of : ℕ → Fault → ℕ
number_of base f = base + place f

-- all n bytes were taken, or there are bytes left over
unfoldable pub all : {X : Type 0} → ℕ → ℕ → Got X → Outcome X
all base n (got x m) = pick (eqb m n) (done x) (refused (base + 4))
all base n (bad f) = refused (number_of base f)

unfoldable pub read_whole : {X : Type 0} → ℕ → (List ℕ → Got X) → List ℕ → Outcome X
read_whole base read s = do
  check base (ltb 0 (length s))
  check base (leb (length s) most_bytes)
  all base (length s) (read s)

-- value read: 1 to 5
abbrev pub read_value : List ℕ → Outcome Val
read_value s = read_whole value_refusals (read_v value_levels) s

-- type read: 6 to 10
abbrev pub read_type : List ℕ → Outcome Ty
read_type s = read_whole type_refusals (read_t type_levels) s

-- a type of any size: the same reader without the limits. No type has more levels than bytes.
unfoldable pub read_any_type : List ℕ → Outcome Ty
read_any_type s = all type_refusals (length s) (read_t (length s) s)

-- ---- the calls of this crate: accepted, with the level
unfoldable pub check_value : List ℕ → Outcome ℕ
check_value s = do
  v ← read_value s
  done (level_v v)

unfoldable pub check_type : List ℕ → Outcome ℕ
check_type s = do
  t ← read_type s
  done (level t)
