-- The definitions of the calls: refusals in document 01's order, then the answer.
-- Assumes nothing.
use Rattle.std.specs.Prelude.{◌≡◌, Bool, true, false, List, ℕ, ◌&&◌, ◌+◌, ◌<◌, ◌≤◌, length, get_or, leb, ltb, eqb}
use Rattle.std.proofs.Math.Option.{Option, some}
use Rattle.form.specs.Limits.{name_width, value_levels, most_exponent}
use Rattle.values.specs.At.{value_at}
use Rattle.form.specs.Outcome.{Outcome, done, ◌>>=◌, ◌>>◌, check, fits, pick}
use Rattle.form.specs.Trees.{Val}
use Rattle.form.specs.Form.{num_at, enc}
use Rattle.form.specs.Read.{read_value}
use Rattle.form.specs.Options.{WhereRead}
use Rattle.form.specs.Widths.{command}
use Rattle.ranges.specs.Ranges.{Point, nowhere, text, decimal, key, elsewhere, opened, closed, undefined, is_valid_range, null_with, the_boolean, a_number, of_leaf, bif_type}

-- a question that every value answers; 1 to 5
abbrev pub asked : (Val → Bool) → List ℕ → Outcome Bool
asked test v = do
  w ← read_value v
  done (test w)

-- a value of the kind with this command
abbrev pub of_kind : ℕ → List ℕ → Outcome Bool
of_kind c v = asked (λ w. eqb (command w) c) v

-- Value::is_null, is_number, is_string, is_list, is_range
abbrev pub is_null_call : List ℕ → Outcome Bool
is_null_call v = of_kind 0x00 v

abbrev pub is_number_call : List ℕ → Outcome Bool
is_number_call v = asked (of_leaf a_number) v

abbrev pub is_string_call : List ℕ → Outcome Bool
is_string_call v = of_kind 0x03 v

abbrev pub is_list_call : List ℕ → Outcome Bool
is_list_call v = of_kind 0x0A v

abbrev pub is_range_call : List ℕ → Outcome Bool
is_range_call v = of_kind 0x09 v

-- Value::is_true, is_false
abbrev pub is_true_call : List ℕ → Outcome Bool
is_true_call v = asked (of_leaf (the_boolean true)) v

abbrev pub is_false_call : List ℕ → Outcome Bool
is_false_call v = asked (of_leaf (the_boolean false)) v

-- Value::is_invalid_coercion: trace 1
abbrev pub is_invalid_coercion_call : List ℕ → Outcome Bool
is_invalid_coercion_call v = asked (of_leaf (null_with 1)) v

-- Value::is_valid_range
abbrev pub is_valid_range_call : List ℕ → Outcome Bool
is_valid_range_call v = asked is_valid_range v

-- 2: a byte over 3 is no interval type
abbrev pub interval_type : ℕ → Outcome ℕ
interval_type i = do
  check 2 (leb i 3)
  done i

-- IntervalType::opened, closed, undefined
abbrev pub interval : (ℕ → Bool) → ℕ → Outcome Bool
interval test i = do
  check 2 (leb i 3)
  done (test i)

abbrev pub opened_call : ℕ → Outcome Bool
opened_call i = interval opened i

abbrev pub closed_call : ℕ → Outcome Bool
closed_call i = interval closed i

abbrev pub undefined_call : ℕ → Outcome Bool
undefined_call i = interval undefined i

-- Bif::feel_type; 2: a position over 85 is no built-in function
abbrev pub bif_type_call : ℕ → ℕ → Outcome (List ℕ)
bif_type_call b room = do
  check 2 (leb b 85)
  fits room (enc (bif_type b))

-- ---- a range that was read, for the walk behind the reader
pub record Ranged (v : List ℕ) : Type 0 where
  pub value : Val
  pub read : value_at value_levels v ≡ some value
  pub is : get_or v 0 0 ≡ 0x09

-- the answer of the walk
unfoldable pub RangeOf : Option Val → Bool → Type 0
RangeOf v r = WhereRead (Unit {0}) (λ w. r ≡ is_valid_range w) v

abbrev pub RangeIs : List ℕ → Bool → Type 0
RangeIs v r = RangeOf (value_at value_levels v) r

-- what an end of a range is, by its command and what stands behind it
unfoldable pub point_at : List ℕ → Point
point_at s =
    let c = get_or s 0 0 in
    let k = num_at 8 1 s in
    pick (eqb c 0x00) nowhere (pick (eqb c 0x02) (decimal k 0) (pick (eqb c 0x03) (text (num_at name_width 1 s)) (pick (leb 0x04 c && ltb c 0x09) (key c k)
    (pick (eqb c 0x10) (decimal k (get_or s 9 0)) elsewhere))))

-- an end was read: so many bytes are there, by its command, and an exponent is in its bounds
pub record EndAt (s : List ℕ) : Type 0 where
  pub some : 0 < length s
  pub number : get_or s 0 0 ≡ 0x02 → 9 ≤ length s
  pub text : get_or s 0 0 ≡ 0x03 → 1 + name_width ≤ length s
  pub temporal : 0x04 ≤ get_or s 0 0 → get_or s 0 0 < 0x09 → 9 ≤ length s
  pub decimal : get_or s 0 0 ≡ 0x10 → (10 ≤ length s) × (get_or s 9 0 ≤ most_exponent)
