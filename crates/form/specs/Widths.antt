-- The bytes of a value or a type in three parts: a command, its operands, its children. What is said of them: the operands are as many as the command's
-- width, in the encodings and in what is read, and the widths are those of the table that once had them.
-- Assumes nothing.
use Rattle.std.specs.Prelude.{ℕ, suc, ◌+◌, ◌-◌, ◌<◌, ◌≤◌, ◌≡◌, ◌↔◌, List, [], ◌∷◌, ◌++◌, length, get_or, drop}
use Rattle.form.specs.Limits.{name_width}
use Rattle.form.specs.Trees.{Ty, leaf, built, list, range, context, function, code, Leaf, l_null, l_boolean, l_number, l_decimal, l_string, l_temporal, code_temporal}
use Rattle.form.specs.Trees.{Val, v_leaf, v_range, v_list, v_context, v_function, v_built_in, v_type, v_irrelevant, is_data_leaf}
use Rattle.form.specs.Form.{bytes, bit, Bytes, enc, enc_fields, enc_tys, enc_params, enc_v, enc_vals, enc_entries, count_fields, count_tys, count_params, count_vals, count_entries}
use Rattle.form.specs.Layout.{no_command, kind_of, no_width, width_of, is_leaf_command}
use Rattle.form.specs.Faults.{Shape}
use Rattle.form.specs.Read.{Got, got, bad, front, and_then, read_fields, read_tys, read_params, read_vals, read_entries, read_t, read_v}

-- ---- the table that had the widths before they were worked out from ranges, and the width of 10: the bytes 00 to 2D, 255 for none
unfoldable pub old_widths : List ℕ
old_widths =
    1 ∷ 1 ∷ 8 ∷ name_width ∷ 8 ∷ 8 ∷ 8 ∷ 8 ∷ 8 ∷ 2 ∷ 2 ∷ 2 ∷ 3 ∷ 1 ∷ 0 ∷ 0
    ∷ 9 ∷ 255 ∷ 255 ∷ 255 ∷ 255 ∷ 255 ∷ 255 ∷ 255 ∷ 255 ∷ 255 ∷ 255 ∷ 255 ∷ 255 ∷ 255 ∷ 255 ∷ 255
    ∷ 0 ∷ 0 ∷ 0 ∷ 0 ∷ 0 ∷ 0 ∷ 0 ∷ 0 ∷ 0 ∷ 0 ∷ 0 ∷ 0 ∷ 2 ∷ 1 ∷ []

-- its answer: 255 beyond its end
unfoldable pub table_width : ℕ → ℕ
table_width b = get_or old_widths b 255

-- ---- a value in three parts
abbrev pub leaf_command : Leaf → ℕ
leaf_command (l_null t) = 0x00
leaf_command (l_boolean b) = 0x01
leaf_command (l_number k) = 0x02
leaf_command (l_decimal k p) = 0x10
leaf_command (l_string n) = 0x03
leaf_command (l_temporal t k) = 0x04 + code_temporal t

abbrev pub command : Val → ℕ
command (v_leaf l) = leaf_command l
command (v_range i j v w) = 0x09
command (v_list vs) = 0x0A
command (v_context es) = 0x0B
command (v_function ps b r) = 0x0C
command (v_built_in n) = 0x0D
command (v_type t) = 0x0E
command v_irrelevant = 0x0F

unfoldable pub leaf_operands : Leaf → List ℕ
leaf_operands (l_null t) = t ∷ []
leaf_operands (l_boolean b) = bit b ∷ []
leaf_operands (l_number k) = bytes 8 k
leaf_operands (l_decimal k p) = bytes 8 k ++ (p ∷ [])
leaf_operands (l_string n) = bytes name_width n
leaf_operands (l_temporal t k) = bytes 8 k

unfoldable pub operand_bytes : Val → List ℕ
operand_bytes (v_leaf l) = leaf_operands l
operand_bytes (v_range i j v w) = i ∷ j ∷ []
operand_bytes (v_list vs) = bytes 2 (count_vals vs)
operand_bytes (v_context es) = bytes 2 (count_entries es)
operand_bytes (v_function ps b r) = count_params ps ∷ bytes 2 b
operand_bytes (v_built_in n) = n ∷ []
operand_bytes (v_type t) = []
operand_bytes v_irrelevant = []

unfoldable pub child_bytes : Val → List ℕ
child_bytes (v_leaf l) = []
child_bytes (v_range i j v w) = enc_v v ++ enc_v w
child_bytes (v_list vs) = enc_vals vs
child_bytes (v_context es) = enc_entries es
child_bytes (v_function ps b r) = enc r ++ enc_params ps
child_bytes (v_built_in n) = []
child_bytes (v_type t) = enc t
child_bytes v_irrelevant = []

-- the reader of the third part, with l levels: so many children as the operands say
unfoldable pub read_children : ℕ → Val → List ℕ → Got Val
read_children l (v_leaf x) s = got (v_leaf x) 0
read_children l (v_range i j v w) s = and_then (v_range i j) 0 s (read_v l) (read_v l s)
read_children l (v_list vs) s = front v_list 0 (read_vals (read_v l) (count_vals vs) s)
read_children l (v_context es) s = front v_context 0 (read_entries (read_v l) (count_entries es) 0 s)
read_children l (v_function ps b r) s = and_then (λ t qs. v_function qs b t) 0 s (read_params (read_t l) (count_params ps) 0) (read_t l s)
read_children l (v_built_in n) s = got (v_built_in n) 0
read_children l (v_type t) s = front v_type 0 (read_t l s)
read_children l v_irrelevant s = got v_irrelevant 0

-- ---- a type in three parts
abbrev pub command_t : Ty → ℕ
command_t (leaf s) = 0x20 + code s
command_t (built (list t)) = 0x2A
command_t (built (range t)) = 0x2B
command_t (built (context fs)) = 0x2C
command_t (built (function ts t)) = 0x2D

unfoldable pub operand_bytes_t : Ty → List ℕ
operand_bytes_t (leaf s) = []
operand_bytes_t (built (list t)) = []
operand_bytes_t (built (range t)) = []
operand_bytes_t (built (context fs)) = bytes 2 (count_fields fs)
operand_bytes_t (built (function ts t)) = count_tys ts ∷ []

unfoldable pub child_bytes_t : Ty → List ℕ
child_bytes_t (leaf s) = []
child_bytes_t (built (list t)) = enc t
child_bytes_t (built (range t)) = enc t
child_bytes_t (built (context fs)) = enc_fields fs
child_bytes_t (built (function ts t)) = enc_tys ts ++ enc t

unfoldable pub read_children_t : ℕ → Ty → List ℕ → Got Ty
read_children_t l (leaf x) s = got (leaf x) 0
read_children_t l (built (list t)) s = front (λ u. built (list u)) 0 (read_t l s)
read_children_t l (built (range t)) s = front (λ u. built (range u)) 0 (read_t l s)
read_children_t l (built (context fs)) s = front (λ gs. built (context gs)) 0 (read_fields (read_t l) (count_fields fs) 0 s)
read_children_t l (built (function ts t)) s = and_then (λ us u. built (function us u)) 0 s (read_t l) (read_tys (read_t l) (count_tys ts) s)

-- ---- what is read
-- x was read from s and took n bytes: its command c is first, all operands that c has are there, and its children were read right behind them, to the end of the n bytes
pub record Behind {X : Type 0} (c : ℕ) (children : List ℕ → Got X) (s : List ℕ) (x : X) (n : ℕ) : Type 0 where
  pub first : get_or s 0 0 ≡ c
  pub there : 1 + width_of (get_or s 0 0) ≤ length s
  pub rest : ℕ
  pub read : children (drop (1 + width_of (get_or s 0 0)) s) ≡ got x rest
  pub took : n ≡ 1 + width_of (get_or s 0 0) + rest

-- ---- THE STATEMENTS
pub record Widths : Type 0 where
  -- every byte, command or not, has the width that the table gave
  pub as_table : (b : ℕ) → width_of b ≡ table_width b
  -- there is no width exactly for a byte that is no command
  pub none_exact : (b : ℕ) → (width_of b ≡ no_width) ↔ (kind_of b ≡ no_command)
  -- the commands of leaves of data are those of no other value
  pub leaves_exact : (v : Val) → is_leaf_command (command v) ≡ is_data_leaf v
  -- ENCODED: the operands are as many as the command's width, and all behind them is children
  pub value_parts : (v : Val) → enc_v v ≡ command v ∷ (operand_bytes v ++ child_bytes v)
  pub value_width : (v : Val) → length (operand_bytes v) ≡ width_of (command v)
  pub value_behind : (v : Val) → drop (1 + width_of (get_or (enc_v v) 0 0)) (enc_v v) ≡ child_bytes v
  pub type_parts : (t : Ty) → enc t ≡ command_t t ∷ (operand_bytes_t t ++ child_bytes_t t)
  pub type_width : (t : Ty) → length (operand_bytes_t t) ≡ width_of (command_t t)
  pub type_behind : (t : Ty) → drop (1 + width_of (get_or (enc t) 0 0)) (enc t) ≡ child_bytes_t t
  -- READ: the operands are as many as the width of the first byte, and the children are read behind them
  pub value_read : (l : ℕ) (s : List ℕ) (v : Val) (n : ℕ) → read_v l s ≡ got v n → Behind (command v) (read_children (l - 1) v) s v n
  pub type_read : (l : ℕ) (s : List ℕ) (t : Ty) (n : ℕ) → read_t l s ≡ got t n → Behind (command_t t) (read_children_t (l - 1) t) s t n
  -- and the bytes are those of the three parts
  pub value_taken : (l : ℕ) (s : List ℕ) → Bytes s → (v : Val) (n : ℕ) → read_v l s ≡ got v n → s ≡ command v ∷ (operand_bytes v ++ (child_bytes v ++ drop n s))
  pub type_taken : (l : ℕ) (s : List ℕ) → Bytes s → (t : Ty) (n : ℕ) → read_t l s ≡ got t n → s ≡ command_t t ∷ (operand_bytes_t t ++ (child_bytes_t t ++ drop n s))
  -- REFUSED: where fewer stand behind the first byte it is a fault of shape, and so is a byte without a width
  pub value_short : (l b : ℕ) (s : List ℕ) → length s < width_of b → read_v (suc l) (b ∷ s) ≡ bad Shape
  pub type_short : (l b : ℕ) (s : List ℕ) → length s < width_of b → read_t (suc l) (b ∷ s) ≡ bad Shape
  pub value_none : (l b : ℕ) (s : List ℕ) → width_of b ≡ no_width → read_v (suc l) (b ∷ s) ≡ bad Shape
  pub type_none : (l b : ℕ) (s : List ℕ) → width_of b ≡ no_width → read_t (suc l) (b ∷ s) ≡ bad Shape
