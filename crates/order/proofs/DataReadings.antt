-- A data value of document 01 has the same verdict against every type under both readings (`data_verdict`), and the same least type (`data_least`).
-- Idea: conformance of a value differs only at function definitions; and two types to which the same types are above are equal under the strict reading.
-- Assumes nothing.
use Prim.Native.Nat.{ℕ}
use lib.Dec.{eqb}
use mathlib.Core.Path.{◌≡◌, refl, sym, ◌∙◌, ap₂}
use mathlib.Core.Bool.{Bool, true, false, cond, ◌&&◌, false≢true}
use Rattle.form.specs.Trees.{Simple, Ty, leaf, built, Val, v_leaf, v_range, v_list, v_context, v_function, v_built_in, v_type, v_irrelevant, Vals, no_items, item, Entries, no_entries, entry}
use Rattle.form.specs.Form.{WfV}
use Rattle.order.specs.Order.{up, fixed, strict_order}
use Rattle.order.specs.Types.{cmp, all_fields}
use Rattle.order.specs.Values.{leaf_type, conforms, all_conform, has_value, is_data_by, are_data, hold_data, least}
use Rattle.order.specs.Inferred.{value_conforms_to, is_data, least_type}
use Rattle.order.proofs.Simple.{flat_laws, and_both}
use Rattle.order.proofs.Conform.{all_ext, reduce_strict}
use Rattle.order.proofs.Laws.{by_conformance}
use Rattle.order.proofs.Least.{to_range_ext, to_list_ext, to_context_ext, conforms_least, asc_least}
use Rattle.order.proofs.DataDmn.{and_parts, data_is_dmn}

leaf_verdict : (s : Simple) (t : Ty) → cmp strict_order up (leaf s) t ≡ cmp fixed up (leaf s) t
unfolding cmp
leaf_verdict s (leaf t) = refl
leaf_verdict s (built y) = refl

either : (q : Bool) (x y z w : Bool) → x ≡ y → z ≡ w → cond q x z ≡ cond q y w
either true x y z w h k = h
either false x y z w h k = k

mutual
  unfolding conforms is_data_by

  pub data_verdict : (v : Val) (t : Ty) → is_data v ≡ true → conforms strict_order v t ≡ value_conforms_to v t
  data_verdict (v_leaf l) t h = leaf_verdict (leaf_type l) t
  data_verdict (v_range i j v w) t h =
      let d = and_parts (is_data v) (is_data w) h in
      to_range_ext fixed t (λ u. conforms strict_order v u && conforms strict_order w u) (λ u. value_conforms_to v u && value_conforms_to w u)
      (λ u. ap₂ ◌&&◌ (data_verdict v u d.0) (data_verdict w u d.1))
  data_verdict (v_list vs) t h = to_list_ext fixed t (λ u. all_conform strict_order vs u) (λ u. all_conform fixed vs u) (λ u. items_verdict vs u h)
  data_verdict (v_context es) t h =
      to_context_ext fixed t (λ fs. all_fields (λ n u. has_value strict_order es n u) fs) (λ fs. all_fields (λ n u. has_value fixed es n u) fs)
      (λ fs. all_ext (λ n u. has_value strict_order es n u) (λ n u. has_value fixed es n u) fs (λ n u. entry_verdict es n u h))
  data_verdict (v_function ps b r) t h = absurd (false≢true h)
  data_verdict (v_built_in b) t h = absurd (false≢true h)
  data_verdict (v_type a) t h = absurd (false≢true h)
  data_verdict v_irrelevant t h = absurd (false≢true h)

  items_verdict : (vs : Vals) (u : Ty) → are_data fixed vs ≡ true → all_conform strict_order vs u ≡ all_conform fixed vs u
  items_verdict no_items u h = refl
  items_verdict (item v vs) u h = let d = and_parts (is_data v) (are_data fixed vs) h in ap₂ ◌&&◌ (data_verdict v u d.0) (items_verdict vs u d.1)

  entry_verdict : (es : Entries) (n : ℕ) (u : Ty) → hold_data fixed es ≡ true → has_value strict_order es n u ≡ has_value fixed es n u
  entry_verdict no_entries n u h = refl
  entry_verdict (entry m v es) n u h =
      let d = and_parts (is_data v) (hold_data fixed es) h in
      either (eqb n m) (conforms strict_order v u) (value_conforms_to v u) (has_value strict_order es n u) (has_value fixed es n u) (data_verdict v u d.0) (entry_verdict es n u d.1)

-- what is data for document 01 is data for the strict reading
mutual
  unfolding is_data_by

  data_strict : (v : Val) → is_data v ≡ true → is_data_by strict_order v ≡ true
  data_strict (v_leaf l) h = refl
  data_strict (v_range i j v w) h = let d = and_parts (is_data v) (is_data w) h in and_both (is_data_by strict_order v) (is_data_by strict_order w) (data_strict v d.0) (data_strict w d.1)
  data_strict (v_list vs) h = items_strict vs h
  data_strict (v_context es) h = entries_strict es h
  data_strict (v_function ps b r) h = refl
  data_strict (v_built_in b) h = h
  data_strict (v_type a) h = h
  data_strict v_irrelevant h = h

  items_strict : (vs : Vals) → are_data fixed vs ≡ true → are_data strict_order vs ≡ true
  items_strict no_items h = refl
  items_strict (item v vs) h =
      let d = and_parts (is_data v) (are_data fixed vs) h in and_both (is_data_by strict_order v) (are_data strict_order vs) (data_strict v d.0) (items_strict vs d.1)

  entries_strict : (es : Entries) → hold_data fixed es ≡ true → hold_data strict_order es ≡ true
  entries_strict no_entries h = refl
  entries_strict (entry n v es) h =
      let d = and_parts (is_data v) (hold_data fixed es) h in and_both (is_data_by strict_order v) (hold_data strict_order es) (data_strict v d.0) (entries_strict es d.1)

pub data_least : (v : Val) → WfV v → is_data v ≡ true → least strict_order v ≡ least_type v
data_least v w h =
    by_conformance strict_order (flat_laws true) (least strict_order v) (least_type v) (asc_least strict_order v w) (asc_least fixed v w)
    (reduce_strict strict_order (least strict_order v) refl) (reduce_strict strict_order (least_type v) refl)
    (λ t. sym (conforms_least strict_order (flat_laws true) v t (data_strict v h)) ∙ data_verdict v t h ∙ data_is_dmn v t h)
