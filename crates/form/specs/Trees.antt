-- Types and values as trees: what the bytes mean. Nothing here speaks of bytes.
-- Assumes nothing.
use Rattle.std.specs.Prelude.{ℕ, zero, suc, Bool, true, false}

-- the types 20 to 29, in this order
pub data Simple : Type 0 where
  any boolean number string date time date_time days_and_time years_and_months null : Simple

mutual
  pub data Ty : Type 0 where
    leaf : Simple → Ty
    built : Built → Ty

  pub data Built : Type 0 where
    list : Ty → Built
    range : Ty → Built
    context : Fields → Built
    function : Tys → Ty → Built

  -- the entries of a context type, in the order in which they are written
  pub data Fields : Type 0 where
    no_fields : Fields
    field : ℕ → Ty → Fields → Fields

  -- the parameter types of a function type
  pub data Tys : Type 0 where
    no_params : Tys
    param : Ty → Tys → Tys

-- the values 04 to 08, in this order
pub data Temporal : Type 0 where
  on_date at_time at_date_time for_days_and_time for_years_and_months : Temporal

-- the values 00 to 08 and 10: a null with its trace; a number or temporal value with the number that its eight key bytes are; a decimal number, coefficient
-- divided by 10 to the power of the exponent, with the number of the coefficient's eight bytes and the exponent
pub data Leaf : Type 0 where
  l_null : ℕ → Leaf
  l_boolean : Bool → Leaf
  l_number : ℕ → Leaf
  l_decimal : ℕ → ℕ → Leaf
  l_string : ℕ → Leaf
  l_temporal : Temporal → ℕ → Leaf

-- the parameters of a function definition: each a name and a type
pub data Params : Type 0 where
  no_parameters : Params
  parameter : ℕ → Ty → Params → Params

mutual
  -- a range has the interval bytes of its start and end; a function definition its parameters, body number and result type
  pub data Val : Type 0 where
    v_leaf : Leaf → Val
    v_range : ℕ → ℕ → Val → Val → Val
    v_list : Vals → Val
    v_context : Entries → Val
    v_function : Params → ℕ → Ty → Val
    v_built_in : ℕ → Val
    v_type : Ty → Val
    v_irrelevant : Val

  pub data Vals : Type 0 where
    no_items : Vals
    item : Val → Vals → Vals

  pub data Entries : Type 0 where
    no_entries : Entries
    entry : ℕ → Val → Entries → Entries

-- one of the ten simple types
abbrev pub simple : Ty → Bool
simple (leaf s) = true
simple (built x) = false

-- a leaf of data: a null, boolean, number, decimal, string or temporal
abbrev pub is_data_leaf : Val → Bool
is_data_leaf (v_leaf l) = true
is_data_leaf (v_range i j v w) = false
is_data_leaf (v_list vs) = false
is_data_leaf (v_context es) = false
is_data_leaf (v_function ps b r) = false
is_data_leaf (v_built_in n) = false
is_data_leaf (v_type t) = false
is_data_leaf v_irrelevant = false

-- a leaf of data that is no decimal: past these the walks have a short way
abbrev pub is_short : Leaf → Bool
is_short (l_null x) = true
is_short (l_boolean x) = true
is_short (l_number x) = true
is_short (l_decimal x p) = false
is_short (l_string x) = true
is_short (l_temporal k x) = true

abbrev pub is_short_leaf : Val → Bool
is_short_leaf (v_leaf l) = is_short l
is_short_leaf (v_range i j v w) = false
is_short_leaf (v_list vs) = false
is_short_leaf (v_context es) = false
is_short_leaf (v_function ps b r) = false
is_short_leaf (v_built_in n) = false
is_short_leaf (v_type t) = false
is_short_leaf v_irrelevant = false

-- the place of a simple type among the bytes 20 to 29
abbrev pub code : Simple → ℕ
code any = 0
code boolean = 1
code number = 2
code string = 3
code date = 4
code time = 5
code date_time = 6
code days_and_time = 7
code years_and_months = 8
code null = 9

abbrev pub decode : ℕ → Simple
decode zero = any
decode (suc zero) = boolean
decode (suc (suc zero)) = number
decode (suc (suc (suc zero))) = string
decode (suc (suc (suc (suc zero)))) = date
decode (suc (suc (suc (suc (suc zero))))) = time
decode (suc (suc (suc (suc (suc (suc zero)))))) = date_time
decode (suc (suc (suc (suc (suc (suc (suc zero))))))) = days_and_time
decode (suc (suc (suc (suc (suc (suc (suc (suc zero)))))))) = years_and_months
decode (suc (suc (suc (suc (suc (suc (suc (suc (suc n))))))))) = null

-- the place of a temporal kind among the bytes 04 to 08
abbrev pub code_temporal : Temporal → ℕ
code_temporal on_date = 0
code_temporal at_time = 1
code_temporal at_date_time = 2
code_temporal for_days_and_time = 3
code_temporal for_years_and_months = 4

abbrev pub decode_temporal : ℕ → Temporal
decode_temporal zero = on_date
decode_temporal (suc zero) = at_time
decode_temporal (suc (suc zero)) = at_date_time
decode_temporal (suc (suc (suc zero))) = for_days_and_time
decode_temporal (suc (suc (suc (suc n)))) = for_years_and_months

-- null with a trace
abbrev pub nothing : ℕ → Val
nothing trace = v_leaf (l_null trace)
