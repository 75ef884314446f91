-- No answer reads as a refusal, or as none: every number that a call answers is below 2^32. Yes and no are 1 and 0.
-- Assumes nothing.
use Rattle.std.specs.Prelude.{ℕ, ◌<◌, ◌≡◌, List}
use Rattle.std.proofs.Math.Option.{Option, some}
use Rattle.form.specs.Form.{Bytes}
use Rattle.form.specs.Outcome.{Outcome, done}
use Rattle.form.specs.Answers.{length_of}
use Rattle.form.specs.Read.{check_value, check_type}
use Rattle.bounds.specs.Calls.{common_supertype, common_subtype, strict_common_supertype, strict_common_subtype, table_common_supertype, table_common_subtype, reduced_call}
use Rattle.infer.specs.Calls.{least_type_call, strict_least_type_call, table_least_type_call, type_of_call}
use Rattle.retrieval.specs.Calls.{get_value_checked_call, get_conformant_value_call}
use Rattle.coercion.specs.Calls.{coerced_call}
use Rattle.ranges.specs.Calls.{bif_type_call}
use Rattle.paths.specs.Places.{extent_of, Piece}
use Rattle.paths.specs.Calls.{search_deep_call, get_entry_call, get_first_call, len_call}
use Rattle.context.specs.Calls.{create_entries_call, apply_entries_call, zip_call, overwrite_call, move_entry_call, set_entry_call, remove_entry_call, set_null_call}
use Rattle.names.specs.Calls.{name_new_call, trim_call, from_str_call}
use Rattle.display.specs.Calls.{display_call}
use Rattle.feel.specs.Numbers.{high, parted}

-- the answer, where there is one, is below 2^32
abbrev pub Low : Outcome ℕ → Type 0
Low o = (n : ℕ) → o ≡ done n → n < high 1

-- likewise the length of what is written, and the number of a part
abbrev pub Short : Outcome (List ℕ) → Type 0
Short o = Low (length_of o)

abbrev pub Near : Outcome (Option Piece) → Type 0
Near o = (q : Piece) → o ≡ done (some q) → parted o < high 1

pub record LowWord : Type 0 where
  pub check_value_lem : (v : List ℕ) → Bytes v → Low (check_value v)
  pub check_type_lem : (t : List ℕ) → Bytes t → Low (check_type t)
  pub len : (c : List ℕ) → Bytes c → Low (len_call c)
  pub from_str_lem : (s : List ℕ) (c : ℕ) → from_str_call s ≡ some c → c < high 1
  pub search_deep : (c p : List ℕ) → Bytes c → Near (extent_of (search_deep_call c p))
  pub get_entry : (c : List ℕ) (n : ℕ) → Bytes c → Near (extent_of (get_entry_call c n))
  pub get_first_lem : (c : List ℕ) → Bytes c → Near (extent_of (get_first_call c))
  pub common_supertype_lem : (a b : List ℕ) (scratch room : ℕ) → Bytes a → Bytes b → Short (common_supertype a b scratch room)
  pub common_subtype_lem : (a b : List ℕ) (scratch room : ℕ) → Bytes a → Bytes b → Short (common_subtype a b scratch room)
  pub strict_common_supertype_lem : (a b : List ℕ) (scratch room : ℕ) → Bytes a → Bytes b → Short (strict_common_supertype a b scratch room)
  pub strict_common_subtype_lem : (a b : List ℕ) (scratch room : ℕ) → Bytes a → Bytes b → Short (strict_common_subtype a b scratch room)
  pub table_common_supertype_lem : (table a b : List ℕ) (scratch room : ℕ) → Bytes a → Bytes b → Short (table_common_supertype table a b scratch room)
  pub table_common_subtype_lem : (table a b : List ℕ) (scratch room : ℕ) → Bytes a → Bytes b → Short (table_common_subtype table a b scratch room)
  pub reduced : (t : List ℕ) (room : ℕ) → Bytes t → Short (reduced_call t room)
  pub least_type_lem : (v : List ℕ) (scratch room : ℕ) → Bytes v → Short (least_type_call v scratch room)
  pub strict_least_type : (v : List ℕ) (scratch room : ℕ) → Bytes v → Short (strict_least_type_call v scratch room)
  pub table_least_type : (table v : List ℕ) (scratch room : ℕ) → Bytes v → Short (table_least_type_call table v scratch room)
  pub type_of_lem : (v : List ℕ) (scratch room : ℕ) → Bytes v → Short (type_of_call v scratch room)
  pub get_value_checked_lem : (t v : List ℕ) (room : ℕ) → Short (get_value_checked_call t v room)
  pub get_conformant_value_lem : (t v : List ℕ) (room : ℕ) → Short (get_conformant_value_call t v room)
  pub coerced : (v t : List ℕ) (room : ℕ) → Short (coerced_call v t room)
  pub bif_feel_type : (b room : ℕ) → Short (bif_type_call b room)
  pub create_entries : (c p v : List ℕ) (room : ℕ) → Short (create_entries_call c p v room)
  pub apply_entries : (c p v : List ℕ) (room : ℕ) → Short (apply_entries_call c p v room)
  pub zip : (c o : List ℕ) (room : ℕ) → Short (zip_call c o room)
  pub overwrite : (c o : List ℕ) (room : ℕ) → Short (overwrite_call c o room)
  pub move_entry_lem : (c : List ℕ) (n parent room : ℕ) → Short (move_entry_call c n parent room)
  pub set_entry_lem : (c : List ℕ) (n : ℕ) (v : List ℕ) (room : ℕ) → Short (set_entry_call c n v room)
  pub remove_entry_lem : (c : List ℕ) (n room : ℕ) → Short (remove_entry_call c n room)
  pub set_null_lem : (c : List ℕ) (n room : ℕ) → Short (set_null_call c n room)
  pub display : (t table : List ℕ) (room : ℕ) → Bytes t → Short (display_call t table room)
  pub name_new_lem : (parts : List ℕ) (room : ℕ) → Short (name_new_call parts room)
  pub trim : (s : List ℕ) (room : ℕ) → Short (trim_call s room)
