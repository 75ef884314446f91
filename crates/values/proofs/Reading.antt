-- What stands at the front of the bytes of a value says of its parts, that the names of a context ascend, and that it ends within the bytes.
-- Idea: one induction on the reader (`value_told`); the parts by the command (`IsVal`).
-- Index: `From`, `Above`, `from_none`, `from_entry`, `from_less` (names); `value_told`, `v_inside`, `items_inside`, `entries_inside`, `definition_inside` (size and end);
-- `IsVal`, `is_val`, `as_leaf`, `as_null`, `as_range`, `as_list`, `as_context`, `as_definition`, `as_built_in`, `as_type` (by the command); `Nth`, `first_item_lem`, `nth`, `no_nth`,
-- `no_item`, `no_entry`, `definition_parts`, `ParameterAt`, `first_parameter`, `parameter_at`, `no_parameter` (runs); `skip_is`, `pass_short`, `size_got` (what `skip` and `pass` answer);
-- `encoded`, `front_text` (the bytes).
-- Assumes nothing.
use Prim.Native.Nat.{ℕ, zero, suc, ◌+◌, ◌-◌, ◌<◌, ◌≤◌}
use mathlib.Core.Path.{◌≡◌, refl, sym, ap, subst, ◌∙◌}
use mathlib.Core.Bool.{Bool, true, false≢true}
use mathlib.Core.Option.{Option, some}
use mathlib.Core.List.{List}
use native.Mathlib.Omega.{arith}
use native.Mathlib.Numerals.{add-one}
use lib.ListN.{length, get_or, take, drop, length-drop}
use lib.Dec.{eqb}
use Rattle.form.specs.Trees.{Ty, Params, no_parameters, parameter, l_null, l_boolean, l_number, l_decimal, l_string, l_temporal, Val, v_leaf, v_range, v_list, v_context, v_function, v_built_in}
use Rattle.form.specs.Trees.{v_type, v_irrelevant, Vals, no_items, item, Entries, no_entries, entry, is_short_leaf, decode_temporal, Leaf, code}
use Rattle.form.specs.Limits.{name_width}
use Rattle.form.specs.Form.{num_at, level_v, Bytes, enc_v, WfV}
use Rattle.form.specs.Layout.{ValueKind, k_null, k_boolean, k_number, k_string, k_temporal, k_range, k_list, k_context, k_definition, k_built_in, k_type, k_irrelevant, k_decimal, of_value, kind_of}
use Rattle.form.specs.Layout.{operands, operands_v, width_of, is_leaf_command, leaf_type_command}
use Rattle.std.specs.declared.option.Option.TheVariants.{Some}
use Rattle.form.specs.Walks.{walk_of, size_in, Short}
use Rattle.form.specs.Walks as walks
use Rattle.form.specs.Read.{got, and_then, read_run, read_named, read_t, read_v, read_vals, read_entries, read_params, ascending, any_order}
use Rattle.form.proofs.Runs.{step}
use Rattle.form.proofs.WalkAnswers.{short_end, told_ended}
use Rattle.form.proofs.CommandKinds.{kind_temporal, width_is, low_type}
use Rattle.form.proofs.ValueLaws.{leaf_level}
use Rattle.form.proofs.Exact.{then_parts, Found}
use Rattle.form.proofs.Nodes.{NodeV, n_null, n_boolean, n_number, n_string, n_temporal, n_range_v, n_list_v, n_context_v, n_definition, n_built_in, n_type, n_irrelevant, n_decimal}
use Rattle.form.proofs.Nodes.{value_read, node_of}
use Rattle.order.specs.Ascending.{Asc}
use Rattle.order.specs.Size.{size, size_params, size_val, size_vals, size_entries}
use Rattle.order.specs.Values.{leaf_type}
use Rattle.order.proofs.Simple.{temporal_code}
use Rattle.types.specs.At.{seen, type_at}
use Rattle.types.proofs.Reading.{seen_got, got_seen, Told, Tells, RunSizes, run_told, NamedSizes, named_told, type_told, then_got, walk_size}
use Rattle.types.proofs.ChildAt.{ItemAt, item_at, EntryAt, entry_at, none_at}
use Rattle.values.specs.At.{value_at, items_at, entries_at, Definition, definition, size_definition, definition_at, size_at_v}
use lib.Seq.{take_at}
use Rattle.form.proofs.ExactValues.{enc_read_v, code_decode}
use Rattle.order.proofs.LeastSize.{length_enc_v}

-- ---- names of entries, at least k
unfoldable pub From : ℕ → Entries → Type 0
From k no_entries = Unit {0}
From k (entry n v es) = (k ≤ n) × From k es

abbrev pub Above : Entries → ℕ → Type 0
Above es k = From k es

pub from_none : (k : ℕ) → From k no_entries
unfolding From
from_none k = tt

pub from_entry : (k n : ℕ) (v : Val) (es : Entries) → k ≤ n → From k es → From k (entry n v es)
unfolding From
from_entry k n v es h f = (h, f)

pub from_less : (k j : ℕ) (es : Entries) → j ≤ k → From k es → From j es
unfolding From
from_less k j no_entries h f = tt
from_less k j (entry n v es) h f = (omega (arith, f.0), from_less k j es h f.1)

-- ---- the sizes that the reader gives are those of the trees, names ascend, and all ends within the bytes
-- nothing is asked of a child's own names
abbrev Free : {X : Type 0} → X → Type 0
Free x = Unit {0}

params_sizes : NamedSizes size Asc no_parameters parameter any_order any_order size_params (λ ps k. Free ps)
unfolding size_params
params_sizes = record { size_nil = refl; size_cons = λ m t ps. refl; goes_on = λ m. refl; asc_nil = λ k. tt; asc_cons = λ k m t ps h p q. tt }

pub items_sizes : RunSizes size_val Free no_items item size_vals Free
unfolding size_val
items_sizes = record { size_nil = refl; size_cons = λ v vs. refl; asc_nil = tt; asc_cons = λ v vs p q. tt }

pub entries_sizes : NamedSizes size_val Free no_entries entry ascending suc size_entries Above
unfolding size_val
entries_sizes = record {
  size_nil = refl;
  size_cons = λ m v es. refl;
  goes_on = add-one;
  asc_nil = from_none;
  asc_cons = λ k m v es h p q. from_entry k m v es h (from_less (suc m) k es (omega arith) q);
}

value_step : {j : ValueKind} (left : ℕ) (s : List ℕ) → Tells size_val Free (read_v left) → 0 < length s → (v : Val) (n : ℕ) → NodeV left s j v n → Told size_val Free s v n
unfolding size_val
value_step left s ih h v n (n_null c k x) = record { sized = refl; ascend = tt; inside = k }
value_step left s ih h v n (n_boolean c k x) = record { sized = refl; ascend = tt; inside = k }
value_step left s ih h v n (n_number c k) = record { sized = refl; ascend = tt; inside = k }
value_step left s ih h v n (n_string c k) = record { sized = refl; ascend = tt; inside = k }
value_step left s ih h v n (n_temporal c d k) = record { sized = refl; ascend = tt; inside = k }
value_step left s ih h v n (n_range_v c k x y a m p b j q) =
    let F = ih (drop 3 s) a m p in
    let G = ih (drop m (drop 3 s)) b j q in
    record { sized = omega (arith, F.sized, G.sized); ascend = tt; inside = omega (arith, simp length-drop at F.inside, simp (length-drop, length-drop) at G.inside) }
value_step left s ih h v n (n_list_v c k vs m p) = let F = run_told items_sizes (read_v left) ih (num_at 2 1 s) (drop 3 s) vs m p in record
    { sized = omega (arith, F.sized); ascend = tt; inside = omega (arith, simp length-drop at F.inside) }
value_step left s ih h v n (n_context_v c k es m p) = let F = named_told entries_sizes (read_v left) ih (num_at 2 1 s) 0 (drop 3 s) es m p in record
    { sized = omega (arith, F.sized); ascend = tt; inside = omega (arith, simp length-drop at F.inside) }
value_step left s ih h v n (n_definition c k t m p ps j q) =
    let F = type_told left (drop 4 s) t m p in
    let G = named_told params_sizes (read_t left) (type_told left) (get_or s 1 0) 0 (drop m (drop 4 s)) ps j q in
    record { sized = omega (arith, F.sized, G.sized); ascend = tt; inside = omega (arith, simp length-drop at F.inside, simp (length-drop, length-drop) at G.inside) }
value_step left s ih h v n (n_built_in c k x) = record { sized = refl; ascend = tt; inside = k }
value_step left s ih h v n (n_type c t m p) = let F = type_told left (drop 1 s) t m p in record { sized = omega (arith, F.sized); ascend = tt; inside = omega (arith, simp length-drop at F.inside) }
value_step left s ih h v n (n_irrelevant c) = record { sized = refl; ascend = tt; inside = omega arith }
value_step left s ih h v n (n_decimal c k x) = record { sized = refl; ascend = tt; inside = k }

pub value_told : (l : ℕ) → Tells size_val Free (read_v l)
value_told zero s v n e = absurd (let h = (value_read zero s v n e).some_level in omega arith)
value_told (suc l) s v n e =
    let R = value_read (suc l) s v n e in
    let z : suc l - 1 ≡ l = omega arith in
    value_step l s (value_told l) R.some_byte v n (subst (λ (k : ℕ). NodeV k s R.kind v n) z R.node)

-- ---- a value that was read, by the kind of its command: what its parts are. Where the kind is known, there is one case
pub data IsVal (l : ℕ) (s : List ℕ) : ValueKind → Val → Type 0 where
  is_null_lem : (x : ℕ) → get_or s 0 0 ≡ 0 → IsVal l s k_null (v_leaf (l_null x))
  is_boolean_lem : (x : Bool) → get_or s 0 0 ≡ 1 → IsVal l s k_boolean (v_leaf (l_boolean x))
  is_number : (x : ℕ) → get_or s 0 0 ≡ 2 → IsVal l s k_number (v_leaf (l_number x))
  is_string_lem : (x : ℕ) → get_or s 0 0 ≡ 3 → IsVal l s k_string (v_leaf (l_string x))
  is_temporal_lem : (x : ℕ) → 4 ≤ get_or s 0 0 → get_or s 0 0 < 9 → IsVal l s k_temporal (v_leaf (l_temporal (decode_temporal (get_or s 0 0 - 4)) x))
  is_range_lem : (i j : ℕ) (a b : Val) → get_or s 0 0 ≡ 9 → 3 ≤ length s → items_at (l - 1) 2 (drop 3 s) ≡ some (item a (item b no_items)) → IsVal l s k_range (v_range i j a b)
  is_list_lem : (vs : Vals) → get_or s 0 0 ≡ 10 → 3 ≤ length s → items_at (l - 1) (num_at 2 1 s) (drop 3 s) ≡ some vs → IsVal l s k_list (v_list vs)
  is_context_lem : (es : Entries) → get_or s 0 0 ≡ 11 → 3 ≤ length s → entries_at (l - 1) (num_at 2 1 s) 0 (drop 3 s) ≡ some es → IsVal l s k_context (v_context es)
  is_definition_lem : (r : Ty) (ps : Params) (b : ℕ) → get_or s 0 0 ≡ 12 → 4 ≤ length s → definition_at (l - 1) (get_or s 1 0) (drop 4 s) ≡ some (definition r ps)
      → IsVal l s k_definition (v_function ps b r)
  is_built_in_lem : get_or s 0 0 ≡ 13 → 2 ≤ length s → IsVal l s k_built_in (v_built_in (get_or s 1 0))
  is_type_lem : (t : Ty) → get_or s 0 0 ≡ 14 → type_at (l - 1) (drop 1 s) ≡ some t → IsVal l s k_type (v_type t)
  is_irrelevant_lem : get_or s 0 0 ≡ 15 → IsVal l s k_irrelevant v_irrelevant
  is_decimal_lem : (x p : ℕ) → get_or s 0 0 ≡ 16 → IsVal l s k_decimal (v_leaf (l_decimal x p))

-- two values, one behind the other, are a run of two
two_items : (l : ℕ) (s : List ℕ) (a b : Val) (m n : ℕ) → read_v l s ≡ got a m → read_v l (drop m s) ≡ got b n → items_at l 2 s ≡ some (item a (item b no_items))
unfolding items_at read_run
two_items l s a b m n p q =
    got_seen (read_vals (read_v l) 2 s) (item a (item b no_items)) (0 + m + (0 + n + 0))
    (then_got item s (read_vals (read_v l) 1) (read_v l s) a m (item b no_items) (0 + n + 0) p
    (then_got item (drop m s) (read_vals (read_v l) 0) (read_v l (drop m s)) b n no_items 0 q refl))

node_val : {j : ValueKind} (l : ℕ) (s : List ℕ) (v : Val) (n : ℕ) → NodeV (l - 1) s j v n → IsVal l s j v
unfolding items_at entries_at definition_at type_at
node_val l s v n (n_null c k x) = is_null_lem (get_or s 1 0) c
node_val l s v n (n_boolean c k x) = is_boolean_lem (eqb (get_or s 1 0) 1) c
node_val l s v n (n_number c k) = is_number (num_at 8 1 s) c
node_val l s v n (n_string c k) = is_string_lem (num_at name_width 1 s) c
node_val l s v n (n_temporal c d k) = is_temporal_lem (num_at 8 1 s) c d
node_val l s v n (n_range_v c k x y a m p b j q) = is_range_lem (get_or s 1 0) (get_or s 2 0) a b c k (two_items (l - 1) (drop 3 s) a b m j p q)
node_val l s v n (n_list_v c k vs m p) = is_list_lem vs c k (got_seen (read_vals (read_v (l - 1)) (num_at 2 1 s) (drop 3 s)) vs m p)
node_val l s v n (n_context_v c k es m p) = is_context_lem es c k (got_seen (read_entries (read_v (l - 1)) (num_at 2 1 s) 0 (drop 3 s)) es m p)
node_val l s v n (n_definition c k t m p ps j q) =
    is_definition_lem t ps (num_at 2 2 s) c k
    (got_seen (and_then definition 0 (drop 4 s) (read_params (read_t (l - 1)) (get_or s 1 0) 0) (read_t (l - 1) (drop 4 s))) (definition t ps) (0 + m + j)
    (then_got definition (drop 4 s) (read_params (read_t (l - 1)) (get_or s 1 0) 0) (read_t (l - 1) (drop 4 s)) t m ps j p q))
node_val l s v n (n_built_in c k x) = is_built_in_lem c k
node_val l s v n (n_type c t m p) = is_type_lem t c (got_seen (read_t (l - 1) (drop 1 s)) t m p)
node_val l s v n (n_irrelevant c) = is_irrelevant_lem c
node_val l s v n (n_decimal c k x) = is_decimal_lem (num_at 8 1 s) (get_or s 9 0) c

-- a leaf: its size is that of its command's operands and one more, and its type is the command's
pub record LeafVal (s : List ℕ) (v : Val) : Type 0 where
  pub x : Leaf
  pub is : v ≡ v_leaf x
  pub size : width_of (get_or s 0 0) + 1 ≡ size_val (v_leaf x)
  pub type : 0x20 + code (leaf_type x) ≡ leaf_type_command (get_or s 0 0)

leaf_val : {j : ValueKind} {l : ℕ} {s : List ℕ} {v : Val} → IsVal l s j v → is_leaf_command (get_or s 0 0) ≡ true → LeafVal s v
unfolding size_val kind_of operands operands_v width_of leaf_type_command
leaf_val (is_null_lem x c) h = record { x = l_null x; is = refl; size = ap (λ (z : ℕ). width_of z + 1) c; type = ap leaf_type_command (sym c) }
leaf_val (is_boolean_lem x c) h = record { x = l_boolean x; is = refl; size = ap (λ (z : ℕ). width_of z + 1) c; type = ap leaf_type_command (sym c) }
leaf_val (is_number x c) h = record { x = l_number x; is = refl; size = ap (λ (z : ℕ). width_of z + 1) c; type = ap leaf_type_command (sym c) }
leaf_val (is_string_lem x c) h = record { x = l_string x; is = refl; size = ap (λ (z : ℕ). width_of z + 1) c; type = ap leaf_type_command (sym c) }
leaf_val {s = s} (is_temporal_lem x c d) h =
    record {
      x = l_temporal (decode_temporal (get_or s 0 0 - 4)) x;
      is = refl;
      size = ap (λ (z : ℕ). z + 1) (width_is (get_or s 0 0) (of_value k_temporal) (kind_temporal (get_or s 0 0) c d));
      type = omega (arith, temporal_code (decode_temporal (get_or s 0 0 - 4)), code_decode (get_or s 0 0 - 4) (omega arith), low_type (get_or s 0 0) (omega arith) d);
    }
leaf_val (is_range_lem i j a b c k e) h = absurd (false≢true (sym (ap is_leaf_command c) ∙ h))
leaf_val (is_list_lem vs c k e) h = absurd (false≢true (sym (ap is_leaf_command c) ∙ h))
leaf_val (is_context_lem es c k e) h = absurd (false≢true (sym (ap is_leaf_command c) ∙ h))
leaf_val (is_definition_lem r ps b c k e) h = absurd (false≢true (sym (ap is_leaf_command c) ∙ h))
leaf_val (is_built_in_lem c k) h = absurd (false≢true (sym (ap is_leaf_command c) ∙ h))
leaf_val (is_type_lem t c e) h = absurd (false≢true (sym (ap is_leaf_command c) ∙ h))
leaf_val (is_irrelevant_lem c) h = absurd (false≢true (sym (ap is_leaf_command c) ∙ h))
leaf_val (is_decimal_lem x p c) h = record { x = l_decimal x p; is = refl; size = ap (λ (z : ℕ). width_of z + 1) c; type = ap leaf_type_command (sym c) }

module _ (l : ℕ) (s : List ℕ) (v : Val) (q : value_at l s ≡ some v) where
  opened : {P : Type 0} → ((n : ℕ) → read_v l s ≡ got v n → P) → P
  unfolding value_at
  opened k = seen_got (read_v l s) v q k

  pub some_byte : 0 < length s
  some_byte = opened (λ n e. (value_read l s v n e).some_byte)

  pub some_level : 0 < l
  some_level = opened (λ n e. (value_read l s v n e).some_level)

  pub v_inside : size_val v ≤ length s
  v_inside = opened (λ n e. let F = value_told l s v n e in omega (arith, F.sized, F.inside))

  pub is_val : (k : ValueKind) × IsVal l s k v
  is_val = opened (λ n e. let R = value_read l s v n e in (R.kind, node_val l s v n R.node))

  of_kind_lem : (k : ValueKind) → kind_of (get_or s 0 0) ≡ of_value k → IsVal l s k v
  of_kind_lem k c = opened (λ n e. node_val l s v n (node_of k l s v n c e))

  pub as_leaf : is_leaf_command (get_or s 0 0) ≡ true → LeafVal s v
  as_leaf h = leaf_val is_val.1 h

  pub as_null : get_or s 0 0 ≡ 0 → IsVal l s k_null v
  unfolding kind_of
  as_null c = of_kind_lem k_null (ap kind_of c)

  pub as_range : get_or s 0 0 ≡ 9 → IsVal l s k_range v
  unfolding kind_of
  as_range c = of_kind_lem k_range (ap kind_of c)

  pub as_list : get_or s 0 0 ≡ 10 → IsVal l s k_list v
  unfolding kind_of
  as_list c = of_kind_lem k_list (ap kind_of c)

  pub as_context : get_or s 0 0 ≡ 11 → IsVal l s k_context v
  unfolding kind_of
  as_context c = of_kind_lem k_context (ap kind_of c)

  pub as_definition : get_or s 0 0 ≡ 12 → IsVal l s k_definition v
  unfolding kind_of
  as_definition c = of_kind_lem k_definition (ap kind_of c)

  pub as_built_in : get_or s 0 0 ≡ 13 → IsVal l s k_built_in v
  unfolding kind_of
  as_built_in c = of_kind_lem k_built_in (ap kind_of c)

  pub as_type : get_or s 0 0 ≡ 14 → IsVal l s k_type v
  unfolding kind_of
  as_type c = of_kind_lem k_type (ap kind_of c)

-- ---- items
-- the item that stands at `at`, of which n follow
abbrev pub Nth : (l n at : ℕ) → List ℕ → Vals → Type 0
Nth l n at s vs = ItemAt size_val size_vals (value_at l) (items_at l) item n at s vs

pub first_item_lem : (l n at : ℕ) (s : List ℕ) (vs : Vals) → at ≤ length s → items_at l (suc n) (drop at s) ≡ some vs → Nth l n at s vs
unfolding items_at value_at
first_item_lem l n at s vs h e = item_at items_sizes (read_v l) (value_told l) n at s vs h e

pub nth : (l i n at : ℕ) (s : List ℕ) (vs : Vals) → i < n → at ≤ length s → items_at l (n - i) (drop at s) ≡ some vs → Nth l (n - (i + 1)) at s vs
nth l i n at s vs h k e = first_item_lem l (n - (i + 1)) at s vs k (ap (λ z. items_at l z (drop at s)) (sym (step i n h)) ∙ e)

pub no_nth : (l i n at : ℕ) (s : List ℕ) (vs : Vals) → n ≤ i → items_at l (n - i) (drop at s) ≡ some vs → vs ≡ no_items
unfolding items_at seen read_run
no_nth l i n at s vs h e = none_at no_items vs (λ k. items_at l k (drop at s)) i n refl h e

pub no_item : (l : ℕ) (s : List ℕ) (vs : Vals) → items_at l 0 s ≡ some vs → vs ≡ no_items
unfolding items_at seen read_run
no_item l s vs e = cc

pub items_inside : (l n : ℕ) (s : List ℕ) (vs : Vals) → items_at l n s ≡ some vs → size_vals vs ≤ length s
unfolding items_at
items_inside l n s vs e = seen_got (read_vals (read_v l) n s) vs e (λ m r. let F = run_told items_sizes (read_v l) (value_told l) n s vs m r in omega (arith, F.sized, F.inside))

-- ---- entries
pub no_entry : (l least : ℕ) (s : List ℕ) (es : Entries) → entries_at l 0 least s ≡ some es → es ≡ no_entries
unfolding entries_at seen read_named
no_entry l least s es e = cc

pub entries_inside : (l n least : ℕ) (s : List ℕ) (es : Entries) → entries_at l n least s ≡ some es → size_entries es ≤ length s
unfolding entries_at
entries_inside l n least s es e =
    seen_got (read_entries (read_v l) n least s) es e (λ m r. let F = named_told entries_sizes (read_v l) (value_told l) n least s es m r in omega (arith, F.sized, F.inside))

-- ---- a definition: the result type, and the parameters behind it
-- n parameters, in any order
unfoldable pub params_at : ℕ → ℕ → List ℕ → Option Params
params_at l n s = seen (read_params (read_t l) n 0 s)

pub record Parts (l n : ℕ) (s : List ℕ) (d : Definition) : Type 0 where
  pub r : Ty
  pub ps : Params
  pub first : type_at l s ≡ some r
  pub second : params_at l n (drop (size r) s) ≡ some ps
  pub is : d ≡ definition r ps

pub definition_parts : (l n : ℕ) (s : List ℕ) (d : Definition) → definition_at l n s ≡ some d → Parts l n s d
unfolding definition_at type_at params_at
definition_parts l n s d e =
    seen_got (and_then definition 0 s (read_params (read_t l) n 0) (read_t l s)) d e (λ m r.
    then_parts definition 0 s (read_params (read_t l) n 0) (read_t l s) d m r (λ t k pt ps j pp pz pn.
    let F = type_told l s t k pt in
    record {
      r = t;
      ps = ps;
      first = got_seen (read_t l s) t k pt;
      second = subst (λ (i : ℕ). seen (read_params (read_t l) n 0 (drop i s)) ≡ some ps) F.sized (got_seen (read_params (read_t l) n 0 (drop k s)) ps j pp);
      is = sym pz;
    }))

-- the parameter that stands at `at`, of which n follow
abbrev pub ParameterAt : (l n at : ℕ) → List ℕ → Params → Type 0
ParameterAt l n at s ps = EntryAt size size_params (λ ps k. Free ps) (type_at l) (λ n k r. seen (read_params (read_t l) n k r)) parameter any_order n at 0 s ps

pub first_parameter : (l n at : ℕ) (s : List ℕ) (ps : Params) → params_at l (suc n) (drop at s) ≡ some ps → ParameterAt l n at s ps
unfolding params_at type_at
first_parameter l n at s ps e = entry_at params_sizes (read_t l) (type_told l) n at 0 s ps e

pub parameter_at : (l i n at : ℕ) (s : List ℕ) (ps : Params) → i < n → params_at l (n - i) (drop at s) ≡ some ps → ParameterAt l (n - (i + 1)) at s ps
parameter_at l i n at s ps h e = first_parameter l (n - (i + 1)) at s ps (ap (λ z. params_at l z (drop at s)) (sym (step i n h)) ∙ e)

pub no_parameter : (l : ℕ) (s : List ℕ) (ps : Params) → params_at l 0 s ≡ some ps → ps ≡ no_parameters
unfolding params_at seen read_named
no_parameter l s ps e = cc

pub definition_inside : (l n : ℕ) (s : List ℕ) (d : Definition) → definition_at l n s ≡ some d → size_definition d ≤ length s
unfolding definition_at
definition_inside l n s d e =
    seen_got (and_then definition 0 s (read_params (read_t l) n 0) (read_t l s)) d e (λ m r.
    then_parts definition 0 s (read_params (read_t l) n 0) (read_t l s) d m r (λ t k pt ps j pp pz pn.
    let F = type_told l s t k pt in
    let G = named_told params_sizes (read_t l) (type_told l) n 0 (drop k s) ps j pp in
    subst (λ d. size_definition d ≤ length s) pz (omega (arith, F.sized, F.inside, G.sized, simp length-drop at G.inside))))

-- ---- what `skip` answers
pub skip_is : (l : ℕ) (s : List ℕ) → size_in (walk_of level_v (read_v l s)) ≡ size_at_v (value_at l s)
unfolding value_at size_at_v
skip_is l s = walk_size level_v size_at_v (λ v. refl) refl (read_v l) (value_told l) s (read_v l s) refl

-- the short way past a leaf of data
pub pass_short : (l : ℕ) (s : List ℕ) (n : ℕ) → Short is_short_leaf (read_v l s) (Some n) (length s - 0) → walks.Told (walk_of level_v (read_v l s)) (length s) n 1
pass_short l s n h = told_ended (short_end level_v is_short_leaf leaf_level (read_v l s) n (length s - 0) h) h.room.0 (omega (arith, h.room)) h.room.0 refl refl

pub size_got : (r : Option Val) (v : Val) → r ≡ some v → size_at_v r ≡ size_val v
unfolding size_at_v
size_got r v e = ap size_at_v e

-- ---- a value that was read from bytes
pub encoded : (l : ℕ) (s : List ℕ) (v : Val) → Bytes s → value_at l s ≡ some v → Found enc_v WfV level_v l s v (size_val v)
unfolding value_at
encoded l s v bs e =
    seen_got (read_v l s) v e (λ n r.
    subst (λ (k : ℕ). Found enc_v WfV level_v l s v k) (value_told l s v n r).sized (enc_read_v l s bs v n r))

pub front_text : (l : ℕ) (s : List ℕ) (v : Val) → Bytes s → value_at l s ≡ some v → take (size_val v) s ≡ enc_v v
front_text l s v bs e = let F = encoded l s v bs e in ap (take (size_val v)) F.bytes ∙ take_at (enc_v v) F.rest (size_val v) (length_enc_v v)
