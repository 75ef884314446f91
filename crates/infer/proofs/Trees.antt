-- The type of a value in either way, by the value's kind, and that it is well-formed, no longer than the value and at most one level deeper.
-- Idea: both ways are one definition with a flag (`type_by`); its sizes are laws of crate `order`, taken by the flag.
-- Index: `Fine`, `fine`, `Sound`, `sound` (sizes); `type_reduced`, `joined_reduced` (least types are reduced); `list_is`, `range_is`, `context_is`, `leaf_is`, `function_is`, `type_is`,
-- `built_in_is`, `irrelevant_is` (by the kind); `count_is`, `fields_none`, `fields_entry`, `data_item`, `data_entry` (entries and items).
-- Assumes nothing.
use Prim.Native.Nat.{ℕ, suc, ◌+◌, ◌<◌, ◌≤◌, max}
use native.Mathlib.Omega.{arith}
use mathlib.Core.Path.{◌≡◌, refl, sym, ◌∙◌, ap}
use mathlib.Core.Option.{some}
use mathlib.Core.Bool.{Bool, true, false, cond, ◌&&◌, false≢true}
use Rattle.form.specs.Trees.{any, null, Ty, leaf, built, list, range, context, function, no_fields, field, Leaf, Params, Val, v_leaf, v_range, v_list, v_context, v_function}
use Rattle.form.specs.Trees.{v_built_in, v_type, v_irrelevant, Vals, no_items, item, Entries, no_entries, entry}
use Rattle.form.specs.Form.{level, level_v, Wf, WfV, WfVals, count_fields, count_entries}
use Rattle.order.specs.Order.{up, Order, fixed}
use Rattle.order.specs.Types.{reduce, bound, sup}
use Rattle.order.specs.Size.{size, size_val}
use Rattle.order.specs.Values.{leaf_type, types_of, is_data_by, are_data, hold_data, least, least_items}
use Rattle.order.specs.Document.{conforms_to}
use Rattle.order.specs.Inferred.{list_type, type_of, first_type, items_below}
use Rattle.order.proofs.Simple.{fixed_laws, and_left, and_right}
use Rattle.order.proofs.Ends.{Ends}
use Rattle.order.proofs.Conform.{reduce_reduce, reduce_strict}
use Rattle.order.proofs.Laws.{le_refl}
use Rattle.order.proofs.Size.{size_positive, level_positive, size_sup, level_sup}
use Rattle.order.proofs.WellFormed.{asc_of, wf_sup}
use Rattle.order.proofs.Least.{least_reduced}
use Rattle.order.proofs.LeastSize.{size_least, level_least, wf_least}
use Rattle.order.proofs.TypeOf.{asc_type_of, size_type_of, level_type_of, wf_type_of}
use Rattle.lattice.proofs.BoundTrees as bounds
use Rattle.infer.specs.Typing.{type_by, fields_by, keeps_first, joined, taken, inner}

-- ---- a value's type is well-formed, no longer than the value, at most one level deeper
pub record Fine (O : Order) (m : Bool) (v : Val) : Type 0 where
  pub wf : Wf (type_by O m v)
  pub short : size (type_by O m v) ≤ size_val v
  pub low : level (type_by O m v) ≤ level_v v + 1

pub fine : (O : Order) (m : Bool) (v : Val) → WfV v → size_val v < 65536 → Fine O m v
fine O true v w h = record { wf = wf_least O v w h; short = size_least O v w; low = level_least O v }
fine O false v w h = record { wf = wf_type_of v w h; short = size_type_of v; low = level_type_of v }

-- ---- two types joined
pub record Sound (t u j : Ty) : Type 0 where
  pub wf : Wf j
  pub short : size j ≤ size t + size u
  pub low : level j ≤ max (level t) (level u)

kept : (q : Bool) (t u : Ty) → Wf t → Sound t u (cond q t (leaf any))
unfolding Wf size level
kept true t u w = record { wf = w; short = omega arith; low = omega arith }
kept false t u w = record { wf = tt; short = omega (arith, size_positive t); low = omega (arith, level_positive t) }

pub sound : (O : Order) (m equal : Bool) (t u : Ty) → Wf t → Wf u → size t + size u < 65536 → Sound t u (joined O m equal t u)
sound O true equal t u v w h = record { wf = wf_sup O t u v w h; short = size_sup O t u (asc_of t v); low = level_sup O t u }
sound O false equal t u v w h = kept (keeps_first equal t u) t u v

-- ---- least types are reduced
pub type_reduced : (O : Order) (m : Bool) (v : Val) → m ≡ true → reduce O (type_by O m v) ≡ type_by O m v
type_reduced O true v e = least_reduced O v
type_reduced O false v e = absurd (false≢true e)

pub joined_reduced : (O : Order) (m equal : Bool) (t u : Ty) → m ≡ true → reduce O (joined O m equal t u) ≡ joined O m equal t u
joined_reduced O true equal t u e = reduce_reduce O (bound O up t u)
joined_reduced O false equal t u e = absurd (false≢true e)

-- ---- a list
null_first : {O : Order} → Ends O → (t : Ty) → reduce O t ≡ t → sup O (leaf null) t ≡ t
null_first {O} L t h = (bounds.least L up (leaf null) t refl).1 ∙ h

taken_least : (O : Order) (equal : Bool) (t : Ty) (vs : Vals) → least_items O vs t ≡ taken O true equal t vs
unfolding least taken
taken_least O equal t no_items = refl
taken_least O equal t (item v vs) = taken_least O equal (sup O t (least O v)) vs

-- the fold may start at the first item
least_list : {O : Order} → Ends O → (vs : Vals) → least_items O vs (leaf null) ≡ inner O true false vs
unfolding least inner
least_list {O} L no_items = refl
least_list {O} L (item v vs) = ap (least_items O vs) (null_first L (least O v) (least_reduced O v)) ∙ taken_least O false (least O v) vs

same_both : (q : Bool) (t : Ty) → cond q t t ≡ t
same_both true t = refl
same_both false t = refl

-- Any stays
taken_any : (O : Order) (vs : Vals) → taken O false false (leaf any) vs ≡ leaf any
unfolding taken
taken_any O no_items = refl
taken_any O (item v vs) = ap (λ t. taken O false false t vs) (same_both (conforms_to (type_of v) (leaf any)) (leaf any)) ∙ taken_any O vs

taken_below : (O : Order) (t : Ty) (vs : Vals) → cond (items_below vs (some t)) t (leaf any) ≡ taken O false false t vs
unfolding taken type_of
taken_below O t no_items = refl
taken_below O t (item v vs) = go (conforms_to (type_of v) t) (taken_below O t vs)
  where
    go : (q : Bool) → cond (items_below vs (some t)) t (leaf any) ≡ taken O false false t vs → cond (q && items_below vs (some t)) t (leaf any) ≡ taken O false false (cond q t (leaf any)) vs
    go true h = h
    go false h = sym (taken_any O vs)

inferred_list : (O : Order) (vs : Vals) → WfVals vs → list_type (first_type vs) (items_below vs (first_type vs)) ≡ built (list (inner O false false vs))
unfolding type_of inner WfV
inferred_list O no_items w = refl
inferred_list O (item v vs) w =
    let t = type_of v in
    ap (λ q. built (list (cond (q && items_below vs (some t)) t (leaf any)))) (le_refl fixed fixed_laws t (asc_type_of v w.0))
    ∙ ap (λ x. built (list x)) (taken_below O t vs)

pub list_is : {O : Order} → Ends O → (m : Bool) (vs : Vals) → WfVals vs → type_by O m (v_list vs) ≡ built (list (inner O m false vs))
unfolding least type_of
list_is {O} L true vs w = ap (λ x. built (list x)) (least_list L vs)
list_is {O} L false vs w = inferred_list O vs w

-- ---- a range, a context, the others
pub range_is : (O : Order) (m : Bool) (i j : ℕ) (v w : Val) → type_by O m (v_range i j v w) ≡ built (range (inner O m true (item v (item w no_items))))
unfolding least type_of inner taken
range_is O true i j v w = refl
range_is O false i j v w = refl

pub context_is : (O : Order) (m : Bool) (es : Entries) → type_by O m (v_context es) ≡ built (context (fields_by O m es))
unfolding least type_of
context_is O true es = refl
context_is O false es = refl

pub leaf_is : (O : Order) (m : Bool) (x : Leaf) → type_by O m (v_leaf x) ≡ leaf (leaf_type x)
unfolding least type_of
leaf_is O true x = refl
leaf_is O false x = refl

pub built_in_is : (O : Order) (m : Bool) (x : ℕ) → type_by O m (v_built_in x) ≡ leaf any
unfolding least type_of
built_in_is O true x = refl
built_in_is O false x = refl

pub irrelevant_is : (O : Order) (m : Bool) → type_by O m v_irrelevant ≡ leaf any
unfolding least type_of
irrelevant_is O true = refl
irrelevant_is O false = refl

-- no data but under the strict reading, where nothing is reduced; otherwise only the inferred type is asked
pub function_is : (O : Order) (m : Bool) (ps : Params) (b : ℕ) (r : Ty) → (m ≡ true → is_data_by O (v_function ps b r) ≡ true) → type_by O m (v_function ps b r) ≡ built (function (types_of ps) r)
unfolding least type_of is_data_by
function_is O true ps b r d = reduce_strict O (built (function (types_of ps) r)) (d refl)
function_is O false ps b r d = refl

pub type_is : (O : Order) (m : Bool) (t : Ty) → (m ≡ true → is_data_by O (v_type t) ≡ true) → type_by O m (v_type t) ≡ t
unfolding type_of is_data_by
type_is O true t d = absurd (false≢true (d refl))
type_is O false t d = refl

-- ---- entries
pub count_is : (O : Order) (m : Bool) (es : Entries) → count_fields (fields_by O m es) ≡ count_entries es
unfolding least type_of count_fields count_entries
count_is O true no_entries = refl
count_is O false no_entries = refl
count_is O true (entry n v es) = ap suc (count_is O true es)
count_is O false (entry n v es) = ap suc (count_is O false es)

pub fields_none : (O : Order) (m : Bool) → fields_by O m no_entries ≡ no_fields
unfolding least type_of
fields_none O true = refl
fields_none O false = refl

pub fields_entry : (O : Order) (m : Bool) (n : ℕ) (v : Val) (es : Entries) → fields_by O m (entry n v es) ≡ field n (type_by O m v) (fields_by O m es)
unfolding least type_of
fields_entry O true n v es = refl
fields_entry O false n v es = refl

-- ---- data, part by part
pub data_item : (O : Order) (m : Bool) (v : Val) (vs : Vals) → (m ≡ true → are_data O (item v vs) ≡ true) → (m ≡ true → is_data_by O v ≡ true) × (m ≡ true → are_data O vs ≡ true)
unfolding is_data_by
data_item O m v vs d = (λ e. and_left (is_data_by O v) (are_data O vs) (d e), λ e. and_right (is_data_by O v) (are_data O vs) (d e))

pub data_entry : (O : Order) (m : Bool) (n : ℕ) (v : Val) (es : Entries) → (m ≡ true → hold_data O (entry n v es) ≡ true) → (m ≡ true → is_data_by O v ≡ true) × (m ≡ true → hold_data O es ≡ true)
unfolding is_data_by
data_entry O m n v es d = (λ e. and_left (is_data_by O v) (hold_data O es) (d e), λ e. and_right (is_data_by O v) (hold_data O es) (d e))
