-- The command bytes, and how many operand bytes each has.
-- Assumes nothing.
use Rattle.std.specs.Prelude.{ℕ, ◌+◌, Bool, ◌||◌, ltb, eqb}
use Rattle.std.proofs.Math.Option.{Option, none, some}
use Rattle.form.specs.Limits.{name_width}
use Rattle.form.specs.Outcome.{pick}

-- the commands 00 to 10; 04 to 08 are one kind
pub data ValueKind : Type 0 where
  k_null k_boolean k_number k_string k_temporal k_range k_list k_context k_definition k_built_in k_type k_irrelevant k_decimal : ValueKind

-- the commands 20 to 2D; 20 to 29 are one kind
pub data TypeKind : Type 0 where
  t_simple t_list t_range t_context t_function : TypeKind

-- what a byte is as a command
pub data Kind : Type 0 where
  of_value : ValueKind → Kind
  of_type : TypeKind → Kind
  no_command : Kind

unfoldable pub kind_of : ℕ → Kind
kind_of b =
    pick (eqb b 0x00) (of_value k_null)
    (pick (eqb b 0x01) (of_value k_boolean)
    (pick (eqb b 0x02) (of_value k_number)
    (pick (eqb b 0x03) (of_value k_string)
    (pick (ltb b 0x09) (of_value k_temporal)
    (pick (eqb b 0x09) (of_value k_range)
    (pick (eqb b 0x0A) (of_value k_list)
    (pick (eqb b 0x0B) (of_value k_context)
    (pick (eqb b 0x0C) (of_value k_definition)
    (pick (eqb b 0x0D) (of_value k_built_in)
    (pick (eqb b 0x0E) (of_value k_type)
    (pick (eqb b 0x0F) (of_value k_irrelevant)
    (pick (eqb b 0x10) (of_value k_decimal)
    (pick (ltb b 0x20) no_command
    (pick (ltb b 0x2A) (of_type t_simple)
    (pick (eqb b 0x2A) (of_type t_list)
    (pick (eqb b 0x2B) (of_type t_range)
    (pick (eqb b 0x2C) (of_type t_context)
    (pick (eqb b 0x2D) (of_type t_function) no_command))))))))))))))))))

-- the operand bytes of a command
unfoldable pub operands_v : ValueKind → ℕ
operands_v k_null = 1
operands_v k_boolean = 1
operands_v k_number = 8
operands_v k_string = name_width
operands_v k_temporal = 8
operands_v k_range = 2
operands_v k_list = 2
operands_v k_context = 2
operands_v k_definition = 3
operands_v k_built_in = 1
operands_v k_type = 0
operands_v k_irrelevant = 0
operands_v k_decimal = 9

unfoldable pub operands_t : TypeKind → ℕ
operands_t t_simple = 0
operands_t t_list = 0
operands_t t_range = 0
operands_t t_context = 2
operands_t t_function = 1

-- a byte that is no command has no width
unfoldable pub operands : Kind → Option ℕ
operands (of_value k) = some (operands_v k)
operands (of_type k) = some (operands_t k)
operands no_command = none

-- stands for no width: no command has so many
abbrev pub no_width : ℕ
no_width = 255

abbrev pub slot : Option ℕ → ℕ
slot none = no_width
slot (some n) = n

unfoldable pub width_of : ℕ → ℕ
width_of b = slot (operands (kind_of b))

-- ---- leaves of data: 00 to 08 and 10
abbrev pub is_leaf_command : ℕ → Bool
is_leaf_command b = ltb b 0x09 || eqb b 0x10

-- the command of a leaf's type; 0 for every other byte
unfoldable pub leaf_type_command : ℕ → ℕ
leaf_type_command b = pick (eqb b 0x00) 0x29 (pick (ltb b 0x09) (b + 0x20) (pick (eqb b 0x10) 0x22 0x00))
