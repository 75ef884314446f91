-- What is stated of coercion holds (`coercion`). Idea: the last two rules end in one of three ways (`End`, `ends`), and each statement is read off the way.
-- Assumes nothing.
use mathlib.Core.Path.{◌≡◌, refl, sym, ap, ◌∙◌}
use mathlib.Core.Bool.{Bool, true, false, cond, ◌&&◌, ◌||◌, false≢true}
use mathlib.Core.Logic.{◌↔◌}
use Rattle.form.specs.Trees.{Ty, leaf, built, list, range, context, function, Leaf, l_null, l_boolean, l_number, l_decimal, l_string, l_temporal, Val, v_leaf, v_range, v_list, v_context, v_function}
use Rattle.form.specs.Trees.{v_built_in, v_type, v_irrelevant, Vals, no_items, item}
use Rattle.order.specs.Order.{fixed}
use Rattle.order.specs.Types.{cmp}
use Rattle.order.specs.Values.{conforms, is_data_by, are_data}
use Rattle.order.specs.Dmn.{dmn_conforms_to}
use Rattle.order.specs.Inferred.{value_conforms_to, is_data, least_type}
use Rattle.order.proofs.Bools.{or_right}
use Rattle.order.proofs.DataDmn.{data_is_dmn}
use Rattle.order.proofs.Simple.{and_left}
use Rattle.ranges.specs.Ranges.{bif_type}
use Rattle.order.specs.Document.{conforms_to}
use Rattle.coercion.specs.Coerce.{failed, single, unchanged, sole_item_conforms, first_item, inner_conforms, converted, coerced}
use Rattle.coercion.specs.Dmn.{dmn_from, dmn_to, dmn_converted}
use Rattle.coercion.specs.Coercion.{converts, is_nil_leaf, is_nil, one_nil, is_one_nil, Coercion}

-- a value that is not Null is not the null of a failed coercion
not_failed : (v : Val) → is_nil v ≡ false → v ≡ failed → ⊥
not_failed v h e = false≢true (sym h ∙ ap is_nil e)

single_not : (v : Val) → single v ≡ failed → ⊥
single_not v e = not_failed (single v) refl e

-- Null conforms to every type
nil_leaf : (l : Leaf) (t : Ty) → is_nil_leaf l ≡ true → value_conforms_to (v_leaf l) t ≡ true
unfolding conforms cmp
nil_leaf (l_null x) (leaf s) h = refl
nil_leaf (l_null x) (built y) h = refl
nil_leaf (l_boolean x) t h = absurd (false≢true h)
nil_leaf (l_number x) t h = absurd (false≢true h)
nil_leaf (l_decimal x p) t h = absurd (false≢true h)
nil_leaf (l_string x) t h = absurd (false≢true h)
nil_leaf (l_temporal k x) t h = absurd (false≢true h)

nil_conforms : (v : Val) (t : Ty) → is_nil v ≡ true → value_conforms_to v t ≡ true
nil_conforms (v_leaf l) t h = nil_leaf l t h
nil_conforms (v_range i j v w) t h = absurd (false≢true h)
nil_conforms (v_list vs) t h = absurd (false≢true h)
nil_conforms (v_context es) t h = absurd (false≢true h)
nil_conforms (v_function ps b r) t h = absurd (false≢true h)
nil_conforms (v_built_in b) t h = absurd (false≢true h)
nil_conforms (v_type a) t h = absurd (false≢true h)
nil_conforms v_irrelevant t h = absurd (false≢true h)

-- what conforms is left as it is
pub same_if : (v : Val) (t : Ty) → value_conforms_to v t ≡ true → unchanged v t ≡ true
same_if (v_leaf l) t h = h
same_if (v_range i j v w) t h = h
same_if (v_list vs) t h = h
same_if (v_context es) t h = h
same_if (v_function ps b r) t h = refl
same_if (v_built_in b) t h = go (conforms_to (bif_type b) t)
  where
    go : (q : Bool) → cond q true (value_conforms_to (v_built_in b) t) ≡ true
    go true = refl
    go false = h
same_if (v_type a) t h = h
same_if v_irrelevant t h = h

-- ---- conversions: to a single, and from one
-- how the last two rules end
pub data End (v : Val) (t : Ty) : Val → Bool → Type 0 where
  fails : End v t failed false
  item_of : (x : Val) → v ≡ single x → value_conforms_to x t ≡ true → End v t x true
  list_of : (u : Ty) → t ≡ built (list u) → value_conforms_to v u ≡ true → End v t (single v) true

to_end : (v : Val) (t : Ty) → End v t (cond (inner_conforms v t) (single v) failed) (inner_conforms v t)
to_end v (leaf s) = fails
to_end v (built (list u)) = go (value_conforms_to v u) refl
  where
    go : (q : Bool) → value_conforms_to v u ≡ q → End v (built (list u)) (cond q (single v) failed) q
    go true e = list_of u refl e
    go false e = fails
to_end v (built (range u)) = fails
to_end v (built (context fs)) = fails
to_end v (built (function ps r)) = fails

from_end : (vs : Vals) (t : Ty) → End (v_list vs) t (cond (sole_item_conforms vs t) (first_item vs) failed) (sole_item_conforms vs t)
from_end no_items t = fails
from_end (item v no_items) t = go (value_conforms_to v t) refl
  where
    go : (q : Bool) → value_conforms_to v t ≡ q → End (single v) t (cond q v failed) q
    go true e = item_of v refl e
    go false e = fails
from_end (item v (item w vs)) t = fails

pub ends : (v : Val) (t : Ty) → End v t (converted v t) (converts v t)
ends (v_leaf l) t = to_end (v_leaf l) t
ends (v_range i j v w) t = to_end (v_range i j v w) t
ends (v_list vs) t = from_end vs t
ends (v_context es) t = to_end (v_context es) t
ends (v_function ps b r) t = to_end (v_function ps b r) t
ends (v_built_in b) t = to_end (v_built_in b) t
ends (v_type a) t = to_end (v_type a) t
ends v_irrelevant t = to_end v_irrelevant t

-- ---- it fails exactly when no rule applies
end_fails : (v : Val) (t : Ty) (w : Val) (q : Bool) → End v t w q → is_one_nil v ≡ false → (w ≡ failed) ↔ (q ≡ false)
end_fails v t w q fails h = (λ e. refl, λ e. refl)
end_fails v t w q (item_of x p c) h = (λ e. absurd (not_failed x (sym (ap is_one_nil p) ∙ h) e), λ e. absurd (false≢true (sym e)))
end_fails v t w q (list_of u p c) h = (λ e. absurd (single_not v e), λ e. absurd (false≢true (sym e)))

fails_by : (v w : Val) (q r : Bool) → is_nil v ≡ false → (w ≡ failed) ↔ (r ≡ false) → (cond q v w ≡ failed) ↔ (q || r ≡ false)
fails_by v w true r h f = (λ e. absurd (not_failed v h e), λ e. absurd (false≢true (sym e)))
fails_by v w false r h f = f

-- ---- coercing again
again : (v : Val) (t : Ty) → unchanged v t ≡ true → coerced v t ≡ v
again v t e = ap (λ q. cond q v (converted v t)) e

single_conforms : (v : Val) (u : Ty) → value_conforms_to v u ≡ true → value_conforms_to (single v) (built (list u)) ≡ true
unfolding conforms
single_conforms v u h = ap (λ q. q && true) h

end_again : (v : Val) (t : Ty) (w : Val) (q : Bool) → End v t w q → coerced w t ≡ w
end_again v t w q fails = again failed t (same_if failed t (nil_leaf (l_null 1) t refl))
end_again v t w q (item_of x p c) = again x t (same_if x t c)
end_again v t w q (list_of u p c) = again (single v) t (ap (value_conforms_to (single v)) p ∙ single_conforms v u c)

again_by : (v w : Val) (t : Ty) (q : Bool) → unchanged v t ≡ q → coerced w t ≡ w → coerced (cond q v w) t ≡ cond q v w
again_by v w t true e h = again v t e
again_by v w t false e h = h

or_left : (a b : Bool) → a ≡ true → a || b ≡ true
or_left a b h = ap (λ q. q || b) h

one_nil_items : (vs : Vals) (t : Ty) → one_nil vs ≡ true → sole_item_conforms vs t ≡ true
one_nil_items no_items t h = absurd (false≢true h)
one_nil_items (item v no_items) t h = nil_conforms v t h
one_nil_items (item v (item w vs)) t h = absurd (false≢true h)

one_nil_converts : (v : Val) (t : Ty) → is_one_nil v ≡ true → converts v t ≡ true
one_nil_converts (v_leaf l) t h = absurd (false≢true h)
one_nil_converts (v_range i j v w) t h = absurd (false≢true h)
one_nil_converts (v_list vs) t h = one_nil_items vs t h
one_nil_converts (v_context es) t h = absurd (false≢true h)
one_nil_converts (v_function ps b r) t h = absurd (false≢true h)
one_nil_converts (v_built_in b) t h = absurd (false≢true h)
one_nil_converts (v_type a) t h = absurd (false≢true h)
one_nil_converts v_irrelevant t h = absurd (false≢true h)

dmn_to_is : (v : Val) (t : Ty) → is_data v ≡ true → cond (inner_conforms v t) (single v) failed ≡ dmn_to v t
dmn_to_is v (leaf s) h = refl
dmn_to_is v (built (list u)) h = ap (λ q. cond q (single v) failed) (data_is_dmn v u h)
dmn_to_is v (built (range u)) h = refl
dmn_to_is v (built (context fs)) h = refl
dmn_to_is v (built (function ps r)) h = refl

dmn_from_is : (vs : Vals) (t : Ty) → are_data fixed vs ≡ true → cond (sole_item_conforms vs t) (first_item vs) failed ≡ dmn_from vs t
unfolding is_data_by
dmn_from_is no_items t h = refl
dmn_from_is (item v no_items) t h = ap (λ q. cond q v failed) (data_is_dmn v t (and_left (is_data v) true h))
dmn_from_is (item v (item w vs)) t h = refl

dmn_is : (v : Val) (t : Ty) → is_data v ≡ true → converted v t ≡ dmn_converted v t
unfolding is_data_by
dmn_is (v_leaf l) t h = dmn_to_is (v_leaf l) t h
dmn_is (v_range i j v w) t h = dmn_to_is (v_range i j v w) t h
dmn_is (v_list vs) t h = dmn_from_is vs t h
dmn_is (v_context es) t h = dmn_to_is (v_context es) t h
dmn_is (v_function ps b r) t h = absurd (false≢true h)
dmn_is (v_built_in b) t h = absurd (false≢true h)
dmn_is (v_type a) t h = absurd (false≢true h)
dmn_is v_irrelevant t h = absurd (false≢true h)

data_unchanged : (v : Val) (t : Ty) → is_data v ≡ true → unchanged v t ≡ dmn_conforms_to (least_type v) t
unfolding is_data_by
data_unchanged v t h = go v h ∙ data_is_dmn v t h
  where
    go : (w : Val) → is_data w ≡ true → unchanged w t ≡ value_conforms_to w t
    go (v_leaf l) e = refl
    go (v_range i j x y) e = refl
    go (v_list vs) e = refl
    go (v_context es) e = refl
    go (v_function ps b r) e = absurd (false≢true e)
    go (v_built_in b) e = absurd (false≢true e)
    go (v_type a) e = absurd (false≢true e)
    go v_irrelevant e = absurd (false≢true e)

pub coercion : Coercion
coercion =
    record {
      fails_exactly = λ v t h k. fails_by v (converted v t) (unchanged v t) (converts v t) h (end_fails v t (converted v t) (converts v t) (ends v t) k);
      nil_applies = λ v t h. or_left (unchanged v t) (converts v t) (same_if v t (nil_conforms v t h));
      one_nil_applies = λ v t h. or_right (unchanged v t) (converts v t) (one_nil_converts v t h);
      coerced_again = λ v t. again_by v (converted v t) t (unchanged v t) refl (end_again v t (converted v t) (converts v t) (ends v t));
      data_is_dmn_coercion = λ v t h. ap (λ q. cond q v (converted v t)) (data_unchanged v t h) ∙ ap (λ w. cond (dmn_conforms_to (least_type v) t) v w) (dmn_is v t h);
    }
