-- Document 02's K9 over bytes and calls: which tables load, the statements of the vote for every table that loads, as one result over tables, and document 01's relation as
-- one of them.
-- Assumes nothing.
use Rattle.std.specs.Prelude.{ℕ, ◌≡◌, true, false, cond, ◌↔◌, List}
use Rattle.form.specs.Outcome.{done, refused}
use Rattle.form.specs.Trees.{Simple, any, null, Ty, leaf, Built, built, Val}
use Rattle.order.specs.Order.{Order, same, fixed}
use Rattle.order.specs.Table.{is_table, is_ordered, is_join, is_meet, has_joins, in_table, table_order, fixed_table}
use Rattle.order.specs.Types.{le, reduce, sup, sub}
use Rattle.order.specs.Document.{reduced_form}
use Rattle.order.specs.Values.{is_data_by}
use Rattle.tables.specs.Calls.{check_table}
use Rattle.types.specs.Calls as types
use Rattle.bounds.specs.Calls.{combined, common_supertype, common_subtype, table_common_supertype, table_common_subtype}
use Rattle.values.specs.Calls as values
use Rattle.infer.specs.Calls.{least_type_by, least_type_call, table_least_type_call}
use Rattle.vote.specs.Vote.{Statements}

-- a table that loads
pub record LoadedTable : Type 0 where
  pub bytes : List ℕ
  pub loads : check_table bytes ≡ done true

abbrev pub order_in : LoadedTable → Order
order_in t = table_order t.bytes

-- the calls over a table, whatever their other arguments are, refuse with n
pub record RefusedFirst (table : List ℕ) (n : ℕ) : Type 0 where
  pub types_refused : (a b : List ℕ) → types.table_is_conformant table a b ≡ refused n
  pub values_refused : (v t : List ℕ) → values.table_is_conformant table v t ≡ refused n
  pub supertype_refused : (a b : List ℕ) (scratch room : ℕ) → table_common_supertype table a b scratch room ≡ refused n
  pub subtype_refused : (a b : List ℕ) (scratch room : ℕ) → table_common_subtype table a b scratch room ≡ refused n
  pub least_refused : (v : List ℕ) (scratch room : ℕ) → table_least_type_call table v scratch room ≡ refused n

-- the calls over a table that loads are those of its order, of which the statements speak
pub record AnswersBy (t : LoadedTable) : Type 0 where
  pub types_answer : (a b : List ℕ) → types.table_is_conformant t.bytes a b ≡ types.is_conformant_by (order_in t) a b
  pub values_answer : (v u : List ℕ) → values.table_is_conformant t.bytes v u ≡ values.is_conformant_by (order_in t) v u
  pub supertype_answer : (a b : List ℕ) (scratch room : ℕ) → table_common_supertype t.bytes a b scratch room ≡ combined (sup (order_in t)) a b scratch room
  pub subtype_answer : (a b : List ℕ) (scratch room : ℕ) → table_common_subtype t.bytes a b scratch room ≡ combined (sub (order_in t)) a b scratch room
  pub least_answer : (v : List ℕ) (scratch room : ℕ) → table_least_type_call t.bytes v scratch room ≡ least_type_by (order_in t) v scratch room

-- what a table that loads says of simple types, and of simple types with others
pub record SimpleTypes (t : LoadedTable) : Type 0 where
  -- row conforms to column
  pub conforms_by : (s u : Simple) → le (order_in t) (leaf s) (leaf u) ≡ in_table t.bytes s u
  -- the supertype of two is their least common one, the subtype their greatest common one
  pub least_common : (s u : Simple) → (j : Simple) × (sup (order_in t) (leaf s) (leaf u) ≡ leaf j) × (is_join (in_table t.bytes) s u j ≡ true)
  pub greatest_common : (s u : Simple) → (m : Simple) × (sub (order_in t) (leaf s) (leaf u) ≡ leaf m) × (is_meet (in_table t.bytes) s u m ≡ true)
  -- List, Range, Context and Function meet a simple type only at Any, and Null only from below
  pub built_below : (x : Built) (s : Simple) → le (order_in t) (built x) (leaf s) ≡ same s any
  pub built_above : (s : Simple) (x : Built) → le (order_in t) (leaf s) (built x) ≡ same s null
  pub with_built : (s : Simple) (x : Built) → sup (order_in t) (leaf s) (built x) ≡ cond (same s null) (reduced_form (built x)) (leaf any)
  pub built_with : (s : Simple) (x : Built) → sub (order_in t) (leaf s) (built x) ≡ cond (same s any) (reduced_form (built x)) (leaf null)
  -- reduced forms, and what is data, are document 01's
  pub reduced_forms : (a : Ty) → reduce (order_in t) a ≡ reduced_form a
  pub data_values : (v : Val) → is_data_by (order_in t) v ≡ is_data_by fixed v

pub record TableVote : Type 0 where
  -- Which tables load, and what each refusal means: the first condition that fails.
  pub loads_exactly : (table : List ℕ)
      → (check_table table ≡ done true) ↔ ((is_table table ≡ true) × (is_ordered (in_table table) ≡ true) × (has_joins (in_table table) ≡ true))
  pub not_a_table : (table : List ℕ) → (check_table table ≡ refused 26) ↔ (is_table table ≡ false)
  pub not_ordered : (table : List ℕ) → (check_table table ≡ refused 27) ↔ ((is_table table ≡ true) × (is_ordered (in_table table) ≡ false))
  pub no_join : (table : List ℕ)
      → (check_table table ≡ refused 28) ↔ ((is_table table ≡ true) × (is_ordered (in_table table) ≡ true) × (has_joins (in_table table) ≡ false))
  -- A table that does not load is refused before the other arguments are looked at.
  pub refused_first : (table : List ℕ) (n : ℕ) → check_table table ≡ refused n → RefusedFirst table n
  -- What was voted holds for every table that loads, and the calls over it answer exactly this.
  pub statements : (t : LoadedTable) → Statements (order_in t)
  pub answers : (t : LoadedTable) → AnswersBy t
  pub simple_types : (t : LoadedTable) → SimpleTypes t
  -- Document 01's relation is one of them: it loads, it is the relation of the ported calls, and the calls over it answer exactly as they do.
  pub fixed_loads : check_table fixed_table ≡ done true
  pub fixed_relation : table_order fixed_table ≡ fixed
  pub fixed_types : (a b : List ℕ) → types.table_is_conformant fixed_table a b ≡ types.is_conformant a b
  pub fixed_values : (v t : List ℕ) → values.table_is_conformant fixed_table v t ≡ values.is_conformant v t
  pub fixed_supertype : (a b : List ℕ) (scratch room : ℕ) → table_common_supertype fixed_table a b scratch room ≡ common_supertype a b scratch room
  pub fixed_subtype : (a b : List ℕ) (scratch room : ℕ) → table_common_subtype fixed_table a b scratch room ≡ common_subtype a b scratch room
  pub fixed_least : (v : List ℕ) (scratch room : ℕ) → table_least_type_call fixed_table v scratch room ≡ least_type_call v scratch room
