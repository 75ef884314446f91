-- What the writers of a text leave: as much of it as has room, and where it ends.
-- Assumes nothing.
use Rattle.std.specs.Prelude.{ℕ, zero, suc, ◌+◌, ◌≡◌, List, [], ◌++◌, length}
use Rattle.std.specs.Prelude.{Option as Answer, None, Some}
use Rattle.std.proofs.Math.Option.{Option, none, some}
use Rattle.form.specs.Trees.{Ty, Fields}
use Rattle.form.specs.Form.{Bytes}
use Rattle.form.specs.Options.{map, WhereRead}
use Rattle.form.specs.Outcome.{done}
use Rattle.form.specs.Read.{read_type}
use Rattle.order.specs.Size.{size, size_fields}
use Rattle.types.specs.At.{Sig, size_sig}
use Rattle.output.specs.Output.{puts}
use Rattle.display.specs.Texts.{comma, colon, within, text, text_fields, text_sig}
use Rattle.display.specs.declared.Shown.{Shown}

-- what stands in front of entry i: a comma and a space, but not in front of the first
abbrev pub gap : ℕ → List ℕ
gap zero = []
gap (suc i) = comma

-- the name of entry i of a context type with what stands around it
abbrev pub label : ℕ → List ℕ → List ℕ
label i n = gap i ++ (n ++ colon)

-- ---- the text of what was read
-- a way to show a thing: its size, and its text over a table
pub record Showing (X : Type 0) : Type 0 where
  pub sized : X → ℕ
  pub said : List (List ℕ) → X → Option (List ℕ)

abbrev pub of_types : Showing Ty
of_types = record { sized = size; said = text }

-- a list or a range, by its inner type
abbrev pub of_inner : List ℕ → Showing Ty
of_inner front = record { sized = λ t. 1 + size t; said = λ ts t. map (within front) (text ts t) }

abbrev pub of_fields : Showing Fields
of_fields = record { sized = size_fields; said = text_fields }

abbrev pub of_sigs : Showing Sig
of_sigs = record { sized = size_sig; said = text_sig }

-- what a writer leaves, of a thing of so many bytes with this text: where the text ends, and as much of it as has room; nothing is said of the output where a name was missing
unfoldable pub Said : ℕ → Option (List ℕ) → ℕ → List ℕ → List ℕ → Answer Shown → Type 0
Said n none at old new r = r ≡ None
Said n (some bs) at old new r = (r ≡ Some (record { read = n; to = at + length bs })) × (new ≡ puts at bs old)

-- of what stands there, over the texts of a table
unfoldable pub Shows : {X : Type 0} → Showing X → List (List ℕ) → Option X → ℕ → List ℕ → List ℕ → Answer Shown → Type 0
Shows S texts what at old new r = WhereRead (Unit {0}) (λ x. Said (S.sized x) (S.said texts x) at old new r) what

-- the type of the call was accepted
pub record Accepted (t : List ℕ) : Type 0 where
  pub bytes : Bytes t
  pub type : Ty
  pub read_t_lem : read_type t ≡ done type
