-- Display of FeelType: the text of a type over the texts of its names.
-- A text is a list of bytes. Assumes nothing.
use Rattle.std.specs.Prelude.{ℕ, zero, suc, List, [], ◌∷◌, ◌++◌}
use Rattle.std.proofs.Math.Option.{Option, none, some}
use Rattle.form.specs.Trees.{Ty, leaf, built, Built, list, range, context, function, Fields, no_fields, field, Tys, no_params, param}
use Rattle.types.specs.At.{Sig, sig}
use Rattle.names.specs.BuiltInNames.{name_of}
use Rattle.form.specs.Options.{map, both}

-- ---- the pieces
-- "list<"
abbrev pub list_open : List ℕ
list_open = 0x6C ∷ 0x69 ∷ 0x73 ∷ 0x74 ∷ 0x3C ∷ []

-- "range<"
abbrev pub range_open : List ℕ
range_open = 0x72 ∷ 0x61 ∷ 0x6E ∷ 0x67 ∷ 0x65 ∷ 0x3C ∷ []

-- "context<"
abbrev pub context_open : List ℕ
context_open = 0x63 ∷ 0x6F ∷ 0x6E ∷ 0x74 ∷ 0x65 ∷ 0x78 ∷ 0x74 ∷ 0x3C ∷ []

-- "function<"
abbrev pub function_open : List ℕ
function_open = 0x66 ∷ 0x75 ∷ 0x6E ∷ 0x63 ∷ 0x74 ∷ 0x69 ∷ 0x6F ∷ 0x6E ∷ 0x3C ∷ []

-- ">"
abbrev pub close : List ℕ
close = 0x3E ∷ []

-- ">->"
abbrev pub arrow : List ℕ
arrow = 0x3E ∷ 0x2D ∷ 0x3E ∷ []

-- ", "
abbrev pub comma : List ℕ
comma = 0x2C ∷ 0x20 ∷ []

-- ": "
abbrev pub colon : List ℕ
colon = 0x3A ∷ 0x20 ∷ []

-- the text with this number, counted from 0
unfoldable pub nth : List (List ℕ) → ℕ → Option (List ℕ)
nth [] n = none
nth (t ∷ ts) zero = some t
nth (t ∷ ts) (suc n) = nth ts n

-- `.join(", ")`
unfoldable pub join : List (List ℕ) → List ℕ
join [] = []
join (x ∷ []) = x
join (x ∷ y ∷ xs) = x ++ (comma ++ join (y ∷ xs))

-- "{front}{s}>"
abbrev pub within : List ℕ → List ℕ → List ℕ
within front s = front ++ (s ++ close)

-- "{entry_name}: {entry_type}"
abbrev pub entry_text : List ℕ → List ℕ → List ℕ
entry_text n t = n ++ (colon ++ t)

-- "{entries_str}", and "{parameter_types_str}>->{result_type_str}"
abbrev pub entries_text : List (List ℕ) → List ℕ
entries_text es = join es

abbrev pub signature_text : List (List ℕ) → List ℕ → List ℕ
signature_text ps r = join ps ++ (arrow ++ r)

-- the text of a type over a table of texts; none where the table does not have the number of a name
unfoldable mutual
  pub text : List (List ℕ) → Ty → Option (List ℕ)
  text ts (leaf x) = some (name_of x)
  text ts (built x) = text_built ts x

  -- "list<{item_type}>", "range<{range_type}>", "context<{entries_str}>", "function<{parameter_types_str}>->{result_type_str}"
  pub text_built : List (List ℕ) → Built → Option (List ℕ)
  text_built ts (list t) = map (within list_open) (text ts t)
  text_built ts (range t) = map (within range_open) (text ts t)
  text_built ts (context fs) = map (λ es. within context_open (entries_text es)) (texts_of_fields ts fs)
  text_built ts (function ps r) = map (λ s. function_open ++ s) (both signature_text (texts_of_tys ts ps) (text ts r))

  -- `.map(..).collect::<Vec<String>>()`
  pub texts_of_fields : List (List ℕ) → Fields → Option (List (List ℕ))
  texts_of_fields ts no_fields = some []
  texts_of_fields ts (field n t fs) = both ◌∷◌ (both entry_text (nth ts n) (text ts t)) (texts_of_fields ts fs)

  pub texts_of_tys : List (List ℕ) → Tys → Option (List (List ℕ))
  texts_of_tys ts no_params = some []
  texts_of_tys ts (param t ps) = both ◌∷◌ (text ts t) (texts_of_tys ts ps)

-- of the entries of a context type, and of the parameters and the result of a function type
unfoldable pub text_fields : List (List ℕ) → Fields → Option (List ℕ)
text_fields ts fs = map entries_text (texts_of_fields ts fs)

unfoldable pub text_sig : List (List ℕ) → Sig → Option (List ℕ)
text_sig ts (sig ps r) = both signature_text (texts_of_tys ts ps) (text ts r)
