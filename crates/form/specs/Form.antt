-- The bytes of a type and of a value, their levels, and which trees are well-formed.
-- Assumes nothing.
use Rattle.std.specs.Prelude.{ℕ, zero, suc, ◌+◌, ◌*◌, ◌/◌, ◌%◌, ◌<◌, ◌≤◌, ◌^◌, max, Bool, true, false, List, [], ◌∷◌, ◌++◌, take, drop}
use Rattle.form.specs.Limits.{name_width, name_end, most_exponent}
use Rattle.form.specs.Trees.{Ty, leaf, built, Built, list, range, context, function, Fields, no_fields, field, Tys, no_params, param, Leaf, l_null, l_boolean, l_number, l_decimal}
use Rattle.form.specs.Trees.{l_string, l_temporal, Params, no_parameters, parameter, Val, v_leaf, v_range, v_list, v_context, v_function, v_built_in, v_type, v_irrelevant}
use Rattle.form.specs.Trees.{Vals, no_items, item, Entries, no_entries, entry, code, code_temporal}

-- ---- a number in k bytes, little endian, and back
unfoldable pub bytes : ℕ → ℕ → List ℕ
bytes zero n = []
bytes (suc k) n = n % 256 ∷ bytes k (n / 256)

unfoldable pub num : List ℕ → ℕ
num [] = 0
num (b ∷ s) = b + num s * 256

-- the number of the k bytes that stand at `at`
abbrev pub num_at : ℕ → ℕ → List ℕ → ℕ
num_at k at s = num (take k (drop at s))

-- ---- counts
unfoldable pub count_fields : Fields → ℕ
count_fields no_fields = 0
count_fields (field m t fs) = suc (count_fields fs)

unfoldable pub count_tys : Tys → ℕ
count_tys no_params = 0
count_tys (param t ts) = suc (count_tys ts)

unfoldable pub count_params : Params → ℕ
count_params no_parameters = 0
count_params (parameter m t ps) = suc (count_params ps)

unfoldable pub count_vals : Vals → ℕ
count_vals no_items = 0
count_vals (item v vs) = suc (count_vals vs)

unfoldable pub count_entries : Entries → ℕ
count_entries no_entries = 0
count_entries (entry m v es) = suc (count_entries es)

-- ---- the bytes of a type
unfoldable mutual
  pub enc : Ty → List ℕ
  enc (leaf s) = (0x20 + code s) ∷ []
  enc (built x) = enc_built x

  pub enc_built : Built → List ℕ
  enc_built (list t) = 0x2A ∷ enc t
  enc_built (range t) = 0x2B ∷ enc t
  enc_built (context fs) = 0x2C ∷ (bytes 2 (count_fields fs) ++ enc_fields fs)
  enc_built (function ts t) = 0x2D ∷ count_tys ts ∷ (enc_tys ts ++ enc t)

  pub enc_fields : Fields → List ℕ
  enc_fields no_fields = []
  enc_fields (field m t fs) = bytes name_width m ++ (enc t ++ enc_fields fs)

  pub enc_tys : Tys → List ℕ
  enc_tys no_params = []
  enc_tys (param t ts) = enc t ++ enc_tys ts

unfoldable pub enc_params : Params → List ℕ
enc_params no_parameters = []
enc_params (parameter m t ps) = bytes name_width m ++ (enc t ++ enc_params ps)

-- ---- the bytes of a value
abbrev pub bit : Bool → ℕ
bit true = 1
bit false = 0

unfoldable pub enc_leaf : Leaf → List ℕ
enc_leaf (l_null t) = 0x00 ∷ t ∷ []
enc_leaf (l_boolean b) = 0x01 ∷ bit b ∷ []
enc_leaf (l_number k) = 0x02 ∷ bytes 8 k
enc_leaf (l_decimal k p) = 0x10 ∷ (bytes 8 k ++ (p ∷ []))
enc_leaf (l_string n) = 0x03 ∷ bytes name_width n
enc_leaf (l_temporal t k) = (0x04 + code_temporal t) ∷ bytes 8 k

unfoldable mutual
  pub enc_v : Val → List ℕ
  enc_v (v_leaf l) = enc_leaf l
  enc_v (v_range i j v w) = 0x09 ∷ i ∷ j ∷ (enc_v v ++ enc_v w)
  enc_v (v_list vs) = 0x0A ∷ (bytes 2 (count_vals vs) ++ enc_vals vs)
  enc_v (v_context es) = 0x0B ∷ (bytes 2 (count_entries es) ++ enc_entries es)
  enc_v (v_function ps b r) = 0x0C ∷ count_params ps ∷ (bytes 2 b ++ (enc r ++ enc_params ps))
  enc_v (v_built_in n) = 0x0D ∷ n ∷ []
  enc_v (v_type t) = 0x0E ∷ enc t
  enc_v v_irrelevant = 0x0F ∷ []

  pub enc_vals : Vals → List ℕ
  enc_vals no_items = []
  enc_vals (item v vs) = enc_v v ++ enc_vals vs

  pub enc_entries : Entries → List ℕ
  enc_entries no_entries = []
  enc_entries (entry m v es) = bytes name_width m ++ (enc_v v ++ enc_entries es)

-- ---- the level: a leaf has level 1, a parent one more than its deepest child, an empty list or context 1
unfoldable mutual
  pub level : Ty → ℕ
  level (leaf s) = 1
  level (built x) = suc (level_built x)

  -- of the children
  pub level_built : Built → ℕ
  level_built (list t) = level t
  level_built (range t) = level t
  level_built (context fs) = level_fields fs
  level_built (function ts t) = max (level_tys ts) (level t)

  pub level_fields : Fields → ℕ
  level_fields no_fields = 0
  level_fields (field m t fs) = max (level t) (level_fields fs)

  pub level_tys : Tys → ℕ
  level_tys no_params = 0
  level_tys (param t ts) = max (level t) (level_tys ts)

unfoldable pub level_params : Params → ℕ
level_params no_parameters = 0
level_params (parameter m t ps) = max (level t) (level_params ps)

unfoldable mutual
  pub level_v : Val → ℕ
  level_v (v_leaf l) = 1
  level_v (v_range i j v w) = suc (max (level_v v) (level_v w))
  level_v (v_list vs) = suc (level_vals vs)
  level_v (v_context es) = suc (level_entries es)
  level_v (v_function ps b r) = suc (max (level r) (level_params ps))
  level_v (v_built_in n) = 1
  level_v (v_type t) = suc (level t)
  level_v v_irrelevant = 1

  pub level_vals : Vals → ℕ
  level_vals no_items = 0
  level_vals (item v vs) = max (level_v v) (level_vals vs)

  pub level_entries : Entries → ℕ
  level_entries no_entries = 0
  level_entries (entry m v es) = max (level_v v) (level_entries es)

-- ---- Well-formed: names strictly ascending, and every number in the bounds of its place. There is no bound on level or length:
-- a type of any size is a well-formed tree.
-- `WfFields fs k`: every name is at least k, and each next one is larger.
unfoldable mutual
  pub Wf : Ty → Type 0
  Wf (leaf s) = Unit {0}
  Wf (built x) = WfBuilt x

  pub WfBuilt : Built → Type 0
  WfBuilt (list t) = Wf t
  WfBuilt (range t) = Wf t
  WfBuilt (context fs) = (count_fields fs < 65536) × WfFields fs 0
  WfBuilt (function ts t) = (count_tys ts < 256) × (WfTys ts × Wf t)

  pub WfFields : Fields → ℕ → Type 0
  WfFields no_fields k = Unit {0}
  WfFields (field m t fs) k = (k ≤ m) × ((m < name_end) × (Wf t × WfFields fs (m + 1)))

  pub WfTys : Tys → Type 0
  WfTys no_params = Unit {0}
  WfTys (param t ts) = Wf t × WfTys ts

-- names in any order
unfoldable pub WfParams : Params → Type 0
WfParams no_parameters = Unit {0}
WfParams (parameter m t ps) = (m < name_end) × (Wf t × WfParams ps)

unfoldable pub WfLeaf : Leaf → Type 0
WfLeaf (l_null t) = t ≤ 3
WfLeaf (l_boolean b) = Unit {0}
WfLeaf (l_number k) = k < 2 ^ 64
WfLeaf (l_decimal k p) = (k < 2 ^ 64) × (p ≤ most_exponent)
WfLeaf (l_string n) = n < name_end
WfLeaf (l_temporal t k) = k < 2 ^ 64

unfoldable mutual
  pub WfV : Val → Type 0
  WfV (v_leaf l) = WfLeaf l
  WfV (v_range i j v w) = (i ≤ 3) × ((j ≤ 3) × (WfV v × WfV w))
  WfV (v_list vs) = (count_vals vs < 65536) × WfVals vs
  WfV (v_context es) = (count_entries es < 65536) × WfEntries es 0
  WfV (v_function ps b r) = (count_params ps < 256) × ((b < 65536) × (Wf r × WfParams ps))
  WfV (v_built_in n) = n ≤ 85
  WfV (v_type t) = Wf t
  WfV v_irrelevant = Unit {0}

  pub WfVals : Vals → Type 0
  WfVals no_items = Unit {0}
  WfVals (item v vs) = WfV v × WfVals vs

  pub WfEntries : Entries → ℕ → Type 0
  WfEntries no_entries k = Unit {0}
  WfEntries (entry m v es) k = (k ≤ m) × ((m < name_end) × (WfV v × WfEntries es (m + 1)))

-- every element is a byte
unfoldable pub Bytes : List ℕ → Type 0
Bytes [] = Unit {0}
Bytes (b ∷ s) = (b < 256) × Bytes s
