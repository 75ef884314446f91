-- The names of the built-in types: the ten names of types.rs, `FeelType::from_str` and `is_built_in_type_name`.
-- A name is a list of bytes. Assumes nothing.
use Rattle.std.specs.Prelude.{ℕ, ◌+◌, Bool, false, cond, ◌||◌, List, [], ◌∷◌}
use Rattle.std.specs.Str.{bytes_eq}
use Rattle.std.proofs.Math.Option.{Option, none, some}
use Rattle.form.specs.Trees.{Simple, any, boolean, number, string, date, time, date_time, days_and_time, years_and_months, null, code}

-- ---- the ten names: FEEL_TYPE_NAME_ANY and the others
abbrev pub name_of : Simple → List ℕ
-- "Any"
name_of any = 0x41 ∷ 0x6E ∷ 0x79 ∷ []
-- "boolean"
name_of boolean = 0x62 ∷ 0x6F ∷ 0x6F ∷ 0x6C ∷ 0x65 ∷ 0x61 ∷ 0x6E ∷ []
-- "number"
name_of number = 0x6E ∷ 0x75 ∷ 0x6D ∷ 0x62 ∷ 0x65 ∷ 0x72 ∷ []
-- "string"
name_of string = 0x73 ∷ 0x74 ∷ 0x72 ∷ 0x69 ∷ 0x6E ∷ 0x67 ∷ []
-- "date"
name_of date = 0x64 ∷ 0x61 ∷ 0x74 ∷ 0x65 ∷ []
-- "time"
name_of time = 0x74 ∷ 0x69 ∷ 0x6D ∷ 0x65 ∷ []
-- "date and time"
name_of date_time = 0x64 ∷ 0x61 ∷ 0x74 ∷ 0x65 ∷ 0x20 ∷ 0x61 ∷ 0x6E ∷ 0x64 ∷ 0x20 ∷ 0x74 ∷ 0x69 ∷ 0x6D ∷ 0x65 ∷ []
-- "days and time duration"
name_of days_and_time = 0x64 ∷ 0x61 ∷ 0x79 ∷ 0x73 ∷ 0x20 ∷ 0x61 ∷ 0x6E ∷ 0x64 ∷ 0x20 ∷ 0x74 ∷ 0x69 ∷ 0x6D ∷ 0x65 ∷ 0x20 ∷ 0x64 ∷ 0x75 ∷ 0x72 ∷ 0x61 ∷ 0x74 ∷ 0x69 ∷ 0x6F ∷ 0x6E ∷ []
-- "years and months duration"
name_of years_and_months =
    0x79 ∷ 0x65 ∷ 0x61 ∷ 0x72 ∷ 0x73 ∷ 0x20 ∷ 0x61 ∷ 0x6E ∷ 0x64 ∷ 0x20 ∷ 0x6D ∷ 0x6F ∷ 0x6E ∷ 0x74 ∷ 0x68 ∷ 0x73 ∷ 0x20 ∷ 0x64 ∷ 0x75 ∷ 0x72 ∷ 0x61 ∷ 0x74 ∷ 0x69 ∷ 0x6F ∷ 0x6E ∷ []
-- "Null"
name_of null = 0x4E ∷ 0x75 ∷ 0x6C ∷ 0x6C ∷ []

-- the ten, in the order of their commands 20 to 29
abbrev pub simples : List Simple
simples = any ∷ boolean ∷ number ∷ string ∷ date ∷ time ∷ date_time ∷ days_and_time ∷ years_and_months ∷ null ∷ []

-- the command of a simple type
abbrev pub command : Simple → ℕ
command x = 0x20 + code x

-- the one among them whose name it is
unfoldable pub one_named : List ℕ → List Simple → Option Simple
one_named s [] = none
one_named s (x ∷ xs) = cond (bytes_eq s (name_of x)) (some x) (one_named s xs)

-- `FeelType::from_str`: none is Err. No two of the names are equal, so the order in which they are tried does not matter.
abbrev pub from_str : List ℕ → Option Simple
from_str s = one_named s simples

-- it is the name of one among them
unfoldable pub is_named : List ℕ → List Simple → Bool
is_named s [] = false
is_named s (x ∷ xs) = bytes_eq s (name_of x) || is_named s xs

-- `is_built_in_type_name`
abbrev pub is_built_in_type_name : List ℕ → Bool
is_built_in_type_name s = is_named s simples
