-- K9 by example: tables that load and are not document 01's, and for each condition a table that fails it alone, with its number.
-- Assumes nothing.
use Rattle.std.specs.Prelude.{ℕ, ◌≡◌, Bool, true, false, not, cond, ◌&&◌, ◌||◌, List, [], ◌∷◌, ◌++◌, drop}
use Rattle.form.specs.Outcome.{done, refused}
use Rattle.form.specs.Trees.{Simple, any, boolean, number, string, date, date_time, null}
use Rattle.order.specs.Order.{same, flat}
use Rattle.order.specs.Table.{simples, reflexive, null_least, any_greatest, antisymmetric, transitive, has_joins, is_table, in_table, fixed_table}
use Rattle.tables.specs.Calls.{check_table}
use Rattle.types.specs.Calls as types
use Rattle.bounds.specs.Calls.{table_common_supertype, table_common_subtype}
use Rattle.values.specs.Calls as values
use Rattle.infer.specs.Calls.{table_least_type_call}

-- ---- the hundred bytes of a relation
abbrev pub row_bytes : (Simple → Bool) → List Simple → List ℕ
row_bytes f [] = []
row_bytes f (t ∷ ts) = cond (f t) 1 0 ∷ row_bytes f ts

abbrev pub rows_from : (Simple → Simple → Bool) → List Simple → List ℕ
rows_from r [] = []
rows_from r (s ∷ ss) = row_bytes (r s) simples ++ rows_from r ss

abbrev pub table_of : (Simple → Simple → Bool) → List ℕ
table_of r = rows_from r simples

abbrev pub pair : Simple → Simple → Simple → Simple → Bool
pair a b s t = same s a && same t b

-- ---- tables that load
-- a date is accepted wherever a date and time is expected
abbrev pub date_table : List ℕ
date_table = table_of (λ s t. flat s t || pair date date_time s t)

-- a diamond: boolean below number and string, both below date
abbrev pub diamond : List ℕ
diamond = table_of (λ s t. flat s t || ((same s boolean && (same t number || (same t string || same t date))) || ((same s number || same s string) && same t date)))

-- ---- tables that fail one condition alone
-- a byte too many; a byte 2
abbrev pub long_table : List ℕ
long_table = fixed_table ++ (0 ∷ [])

abbrev pub byte_two : List ℕ
byte_two = 1 ∷ 2 ∷ drop 2 fixed_table

-- boolean does not conform to itself
abbrev pub not_reflexive : List ℕ
not_reflexive = table_of (λ s t. flat s t && not (pair boolean boolean s t))

-- Null does not conform to boolean
abbrev pub null_not_least : List ℕ
null_not_least = table_of (λ s t. flat s t && not (pair null boolean s t))

-- string is the greatest type, and boolean does not conform to Any
abbrev pub any_not_greatest : List ℕ
any_not_greatest = table_of (λ s t. same s null || (same s t || (same t string || (same t any && not (same s boolean || same s string)))))

-- boolean and number conform mutually
abbrev pub mutual_types : List ℕ
mutual_types = table_of (λ s t. flat s t || (pair boolean number s t || pair number boolean s t))

-- boolean conforms to number, number to string, and boolean not to string
abbrev pub not_transitive : List ℕ
not_transitive = table_of (λ s t. flat s t || (pair boolean number s t || pair number string s t))

-- boolean and number conform both to string and to date: two minimal common supertypes
abbrev pub two_minimal : List ℕ
two_minimal = table_of (λ s t. flat s t || ((same s boolean || same s number) && (same t string || same t date)))

-- a table; each type to itself; Null to all; all to Any; none mutual; carried through a third; least common supertypes
abbrev pub conditions : List ℕ → List Bool
conditions t =
    is_table t ∷ reflexive (in_table t) ∷ null_least (in_table t) ∷ any_greatest (in_table t) ∷ antisymmetric (in_table t) ∷ transitive (in_table t) ∷ has_joins (in_table t) ∷ []

pub record TableExamples : Type 0 where
  pub fixed_bytes : table_of flat ≡ fixed_table
  pub date_loads : check_table date_table ≡ done true
  pub date_conforms : types.table_is_conformant date_table (0x24 ∷ []) (0x26 ∷ []) ≡ done true
  pub date_not_back : types.table_is_conformant date_table (0x26 ∷ []) (0x24 ∷ []) ≡ done false
  pub date_not_time : types.table_is_conformant date_table (0x24 ∷ []) (0x25 ∷ []) ≡ done false
  pub date_supertype : table_common_supertype date_table (0x24 ∷ []) (0x26 ∷ []) 2 1 ≡ done (0x26 ∷ [])
  pub date_subtype : table_common_subtype date_table (0x24 ∷ []) (0x26 ∷ []) 2 1 ≡ done (0x24 ∷ [])
  pub date_value : values.table_is_conformant date_table (4 ∷ 1 ∷ 0 ∷ 0 ∷ 0 ∷ 0 ∷ 0 ∷ 0 ∷ 0 ∷ []) (0x26 ∷ []) ≡ done true
  -- the least type of a list with a date and a date and time
  pub date_least : table_least_type_call date_table (10 ∷ 2 ∷ 0 ∷ 4 ∷ 1 ∷ 0 ∷ 0 ∷ 0 ∷ 0 ∷ 0 ∷ 0 ∷ 0 ∷ 6 ∷ 1 ∷ 0 ∷ 0 ∷ 0 ∷ 0 ∷ 0 ∷ 0 ∷ 0 ∷ []) 84 2 ≡ done (0x2A ∷ 0x26 ∷ [])
  pub diamond_loads : check_table diamond ≡ done true
  pub diamond_supertype : table_common_supertype diamond (0x22 ∷ []) (0x23 ∷ []) 2 1 ≡ done (0x24 ∷ [])
  pub diamond_subtype : table_common_subtype diamond (0x22 ∷ []) (0x23 ∷ []) 2 1 ≡ done (0x21 ∷ [])
  -- one condition fails, and the number is that of the condition
  pub long_fails : conditions long_table ≡ false ∷ true ∷ true ∷ true ∷ true ∷ true ∷ true ∷ []
  pub long_number : check_table long_table ≡ refused 26
  pub byte_fails : conditions byte_two ≡ false ∷ true ∷ true ∷ true ∷ true ∷ true ∷ true ∷ []
  pub byte_number : check_table byte_two ≡ refused 26
  pub reflexive_fails : conditions not_reflexive ≡ true ∷ false ∷ true ∷ true ∷ true ∷ true ∷ true ∷ []
  pub reflexive_number : check_table not_reflexive ≡ refused 27
  pub null_fails : conditions null_not_least ≡ true ∷ true ∷ false ∷ true ∷ true ∷ true ∷ true ∷ []
  pub null_number : check_table null_not_least ≡ refused 27
  pub any_fails : conditions any_not_greatest ≡ true ∷ true ∷ true ∷ false ∷ true ∷ true ∷ true ∷ []
  pub any_number : check_table any_not_greatest ≡ refused 27
  pub mutual_fails : conditions mutual_types ≡ true ∷ true ∷ true ∷ true ∷ false ∷ true ∷ true ∷ []
  pub mutual_number : check_table mutual_types ≡ refused 27
  pub transitive_fails : conditions not_transitive ≡ true ∷ true ∷ true ∷ true ∷ true ∷ false ∷ true ∷ []
  pub transitive_number : check_table not_transitive ≡ refused 27
  pub join_fails : conditions two_minimal ≡ true ∷ true ∷ true ∷ true ∷ true ∷ true ∷ false ∷ []
  pub join_number : check_table two_minimal ≡ refused 28
  -- the first that fails decides: a byte 2 in a table that is no order; no order and no joins
  pub byte_first : check_table (1 ∷ 2 ∷ drop 2 not_reflexive) ≡ refused 26
  pub order_first : check_table (table_of (λ s t. in_table two_minimal s t && not (pair date date s t))) ≡ refused 27
  -- the table comes before all other arguments, here no bytes at all
  pub table_first : types.table_is_conformant two_minimal [] [] ≡ refused 28
