-- The type of a value in either way, least or as the Rust infers it, and what the builders ask and leave.
-- Assumes nothing.
use Rattle.std.specs.Prelude.{◌≡◌, Bool, true, false, cond, List, ◌++◌, ℕ, ◌+◌, ◌<◌, ◌≤◌, length}
use Rattle.std.proofs.Math.Option.{Option, none, some}
use Rattle.std.specs.declared.option.Option.{Option as Maybe}
use Rattle.std.specs.declared.option.Option.TheVariants.{None, Some}
use Rattle.form.specs.Limits.{most_bytes}
use Rattle.form.specs.Trees.{any, null, Ty, leaf, Fields, Val, Vals, no_items, item, Entries}
use Rattle.form.specs.Form.{enc, enc_fields, enc_tys, Wf, WfV, WfVals, WfEntries}
use Rattle.form.specs.Layout.{width_of}
use Rattle.form.specs.Answers.{onto}
use Rattle.form.specs.Options.{WhereRead, WhereBoth}
use Rattle.order.specs.Order.{Order}
use Rattle.order.specs.Types.{reduce, sup}
use Rattle.order.specs.Size.{size, size_val, size_vals, size_entries}
use Rattle.order.specs.Document.{conforms_to, eq_ty}
use Rattle.order.specs.Values.{types_of, is_data_by, are_data, hold_data, least_entries}
use Rattle.order.specs.Values as values
use Rattle.order.specs.Inferred.{type_of, entry_types}
use Rattle.values.specs.At.{Definition, definition, size_definition}

-- ---- data values: the size, or none
unfoldable pub data_by : {X : Type 0} → (X → Bool) → (X → ℕ) → Option X → Maybe ℕ
data_by test sz (some x) = cond (test x) (Some (sz x)) None
data_by test sz none = None

-- n bytes of a boolean, a whole number, a string or a temporal with the command c
pub record Plain (c n : ℕ) : Type 0 where
  pub some : 0 < c
  pub low : c < 9
  pub size : n ≡ width_of c + 1

-- ---- the least type under an order (true) or the inferred one
abbrev pub type_by : Order → Bool → Val → Ty
type_by O true v = values.least O v
type_by O false v = type_of v

abbrev pub fields_by : Order → Bool → Entries → Fields
fields_by O true es = least_entries O es
fields_by O false es = entry_types es

-- of two inferred types: they are equal, or the second conforms to the first
abbrev pub keeps_first : Bool → Ty → Ty → Bool
keeps_first true t u = eq_ty t u
keeps_first false t u = conforms_to u t

-- Two types into one. Least: their supertype. Inferred: the first where it is kept, otherwise Any.
abbrev pub joined : Order → Bool → Bool → Ty → Ty → Ty
joined O true equal t u = sup O t u
joined O false equal t u = cond (keeps_first equal t u) t (leaf any)

-- the type t with those of all items taken in, from the left
unfoldable pub taken : Order → Bool → Bool → Ty → Vals → Ty
taken O least equal t no_items = t
taken O least equal t (item v vs) = taken O least equal (joined O least equal t (type_by O least v)) vs

-- one type of all items: Null where there is none, otherwise the first's with the others taken in
unfoldable pub inner : Order → Bool → Bool → Vals → Ty
inner O least equal no_items = leaf null
inner O least equal (item v vs) = taken O least equal (type_by O least v) vs

-- ---- what the builders ask: it was read and is well-formed, is data where the least type is asked, and fits the output and the spare place
pub record Fits {X : Type 0} (wf : X → Type 0) (test : X → Bool) (want : X → ℕ) (least : Bool) (x : X) (room spare : ℕ) : Type 0 where
  pub well : wf x
  pub apt : least ≡ true → test x ≡ true
  pub roomy : want x ≤ room
  pub spared : want x ≤ spare
  pub small : want x ≤ most_bytes

unfoldable pub Fitting : {X : Type 0} → (X → Type 0) → (X → Bool) → (X → ℕ) → Bool → Option X → ℕ → ℕ → Type 0
Fitting wf test want least r room spare = WhereRead ⊥ (λ x. Fits wf test want least x room spare) r

-- of a value, of the entries of a context, of items, of a definition
abbrev pub FitVal : Order → Bool → Option Val → ℕ → ℕ → Type 0
FitVal O least v room spare = Fitting WfV (is_data_by O) size_val least v room spare

abbrev pub FitEntries : Order → Bool → Option Entries → ℕ → ℕ → Type 0
FitEntries O least es room spare = Fitting (λ es. WfEntries es 0) (hold_data O) size_entries least es room spare

-- items want one byte more than they have: Null stands for none
abbrev pub FitItems : Order → Bool → Option Vals → ℕ → ℕ → Type 0
FitItems O least vs room spare = Fitting WfVals (are_data O) (λ vs. size_vals vs + 1) least vs room spare

-- a function type behind its count is never longer than the definition
unfoldable pub FitDefinition : Option Definition → ℕ → Type 0
FitDefinition r room = WhereRead ⊥ (λ d. size_definition d ≤ room) r

-- ---- what they leave
-- `bs` stand at the front
unfoldable pub Starts : List ℕ → List ℕ → Type 0
Starts bs s = s ≡ onto bs s

-- `read` bytes were read, and `wrote` bytes stand at the front of the output; what stands behind them is free
pub record Wrote {X : Type 0} (sz : X → ℕ) (text : X → List ℕ) (x : X) (old new : List ℕ) (read wrote : ℕ) : Type 0 where
  pub all : read ≡ sz x
  pub long : wrote ≡ length (text x)
  pub out : Starts (text x) new
  pub kept : length new ≡ length old

unfoldable pub Typed : {X : Type 0} → (X → ℕ) → (X → List ℕ) → Option X → List ℕ → List ℕ → ℕ → ℕ → Type 0
Typed sz text r old new read wrote = WhereRead (Unit {0}) (λ x. Wrote sz text x old new read wrote) r

-- the bytes of a value's type, of a context's entries, of the one type of all items, of a definition's function type behind its count
abbrev pub type_text : Order → Bool → Val → List ℕ
type_text O least v = enc (type_by O least v)

abbrev pub fields_text : Order → Bool → Entries → List ℕ
fields_text O least es = enc_fields (fields_by O least es)

abbrev pub inner_text : Order → Bool → Bool → Vals → List ℕ
inner_text O least equal vs = enc (inner O least equal vs)

abbrev pub signature_text : Definition → List ℕ
signature_text (definition r ps) = enc_tys (types_of ps) ++ enc r

-- ---- two types, n bytes and m bytes behind them, joined at the front of the output
pub record Side (t u : Ty) (s : List ℕ) (n m spare : ℕ) : Type 0 where
  pub first : n ≡ size t
  pub second : m ≡ size u
  pub inside : n + m ≤ length s
  pub spared : n + m ≤ spare
  pub small : n + m ≤ most_bytes
  pub wf_first : Wf t
  pub wf_second : Wf u

unfoldable pub Sides : Option Ty → Option Ty → List ℕ → ℕ → ℕ → ℕ → Type 0
Sides x y s n m spare = WhereBoth ⊥ (λ t u. Side t u s n m spare) x y

-- where the least type is asked, the first is reduced
unfoldable pub Reduced : Order → Bool → Option Ty → Type 0
Reduced O least x = WhereRead ⊥ (λ t. least ≡ true → reduce O t ≡ t) x

unfoldable pub Kept : Bool → Option Ty → Option Ty → Bool → Type 0
Kept equal x y r = WhereBoth (Unit {0}) (λ t u. r ≡ keeps_first equal t u) x y

pub record Stands (t : Ty) (old new : List ℕ) (n : ℕ) : Type 0 where
  pub long : n ≡ length (enc t)
  pub out : Starts (enc t) new
  pub kept : length new ≡ length old

unfoldable pub Joined : Order → Bool → Bool → Option Ty → Option Ty → List ℕ → List ℕ → ℕ → Type 0
Joined O least equal x y old new r = WhereBoth (Unit {0}) (λ t u. Stands (joined O least equal t u) old new r) x y
