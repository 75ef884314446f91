-- The numbers of document 01 that a later request may change: every definition and law has them from here. The code has them as constants of its own
-- (`NAME_WIDTH`, `MOST_BYTES`, `VALUE_LEVELS`, `TYPE_LEVELS`, `MOST_EXPONENT` of `form`, `MOST_NAMES` of `paths`), which its proofs hold to these.
-- Assumes nothing.
use Rattle.std.specs.Prelude.{ℕ, ◌^◌}

-- the bytes of a name or a text number
abbrev pub name_width : ℕ
name_width = 2

-- names and text numbers are below this
abbrev pub name_end : ℕ
name_end = 256 ^ name_width

-- the most bytes of a value or a type
abbrev pub most_bytes : ℕ
most_bytes = 16384

-- the levels that a value reaches, counting types inside it
abbrev pub value_levels : ℕ
value_levels = 31

-- the levels that a type reaches
abbrev pub type_levels : ℕ
type_levels = 32

-- the largest exponent of a decimal number
abbrev pub most_exponent : ℕ
most_exponent = 18

-- the most names of a path
abbrev pub most_names : ℕ
most_names = 31

-- the refusals of a value read are counted from 1, those of a type read from 6
abbrev pub value_refusals : ℕ
value_refusals = 1

abbrev pub type_refusals : ℕ
type_refusals = 6
