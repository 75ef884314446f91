-- The common supertype and subtype: what conforms to what, in one equation for each direction.
-- Idea: both are one definition over a direction, and both equations are one (`key`), by induction on the three types.
-- Index: `key` (a bound compares with a type as both do); `cmp_kind`, `cmp_other`, `bound_other` (different kinds); `all_and`.
-- Assumes nothing.
use Prim.Native.Nat.{ℕ}
use mathlib.Core.Path.{◌≡◌, refl, sym, ◌∙◌, ap, ap₂}
use mathlib.Core.Bool.{Bool, true, false, not, cond, ◌&&◌, ◌||◌, false≢true, true≢false}
use mathlib.Core.Option.{Option, none, some}
use lib.Dec.{eqb, ltb}
use borrow.Author.Tests.{eqb-true, eqb-false}
use Rattle.form.specs.Trees.{Simple}
use Rattle.order.specs.Order.{Dir, up, down, flip, pick, Order, Laws, top, bottom, scmp}
use Rattle.order.proofs.Simple.{and_left, and_right, scmp_trans, scmp_bottom, scmp_top, scmp_bound, top_bottom}
use Rattle.form.specs.Trees.{Ty, leaf, built, Built, list, range, context, function, Fields, no_fields, field, Tys, no_params, param}
use Rattle.order.specs.Types.{lookup, found, all_fields, empty, same_count, kind, ignores, cmp, cmp_built, has, within, cmps, keep, insert_with, bound, bound_built, intersect_with, merge, bounds}
use Rattle.order.proofs.Bools.{and_false, and_same, and_assoc, and_swap, and_comm, and_mix, and_implied, not_both, function_tests, found_and, found_none, found_some}
use Rattle.order.proofs.Conform.{has_look}

pub all_and : (f g h : ℕ → Ty → Bool) (hs : Fields) → ((n : ℕ) (t : Ty) → f n t ≡ g n t && h n t) → all_fields f hs ≡ all_fields g hs && all_fields h hs
unfolding all_fields
all_and f g h no_fields e = refl
all_and f g h (field n t hs) e =
    ap₂ ◌&&◌ (e n t) (all_and f g h hs e)
    ∙ and_mix (g n t) (h n t) (all_fields g hs) (all_fields h hs)

module _ (O : Order) where
  pub cmp_kind : (d : Dir) (x z : Built) → cmp_built O d x z ≡ true → kind x ≡ kind z
  unfolding cmp
  cmp_kind d (list a) (list c) e = refl
  cmp_kind d (list a) (range c) e = absurd (false≢true e)
  cmp_kind d (list a) (context hs) e = absurd (false≢true e)
  cmp_kind d (list a) (function cs u) e = absurd (false≢true e)
  cmp_kind d (range a) (list c) e = absurd (false≢true e)
  cmp_kind d (range a) (range c) e = refl
  cmp_kind d (range a) (context hs) e = absurd (false≢true e)
  cmp_kind d (range a) (function cs u) e = absurd (false≢true e)
  cmp_kind d (context fs) (list c) e = absurd (false≢true e)
  cmp_kind d (context fs) (range c) e = absurd (false≢true e)
  cmp_kind d (context fs) (context hs) e = refl
  cmp_kind d (context fs) (function cs u) e = absurd (false≢true e)
  cmp_kind d (function ps r) (list c) e = absurd (false≢true e)
  cmp_kind d (function ps r) (range c) e = absurd (false≢true e)
  cmp_kind d (function ps r) (context hs) e = absurd (false≢true e)
  cmp_kind d (function ps r) (function cs u) e = refl

  -- two built types of different kinds: no conformance, and the top as their bound
  pub cmp_other : (d : Dir) (x z : Built) → eqb (kind x) (kind z) ≡ false → cmp_built O d x z ≡ false
  cmp_other d x z h = step (cmp_built O d x z) refl
    where
      step : (q : Bool) → cmp_built O d x z ≡ q → q ≡ false
      step true e = absurd (eqb-false (kind x) (kind z) h (cmp_kind d x z e))
      step false e = refl

  pub bound_other : (d : Dir) (x y : Built) → eqb (kind x) (kind y) ≡ false → bound_built O d x y ≡ leaf (top d)
  unfolding bound
  bound_other d (list a) (list b) h = absurd (true≢false h)
  bound_other d (list a) (range b) h = refl
  bound_other d (list a) (context gs) h = refl
  bound_other d (list a) (function qs s) h = refl
  bound_other d (range a) (list b) h = refl
  bound_other d (range a) (range b) h = absurd (true≢false h)
  bound_other d (range a) (context gs) h = refl
  bound_other d (range a) (function qs s) h = refl
  bound_other d (context fs) (list b) h = refl
  bound_other d (context fs) (range b) h = refl
  bound_other d (context fs) (context gs) h = absurd (true≢false h)
  bound_other d (context fs) (function qs s) h = refl
  bound_other d (function ps r) (list b) h = refl
  bound_other d (function ps r) (range b) h = refl
  bound_other d (function ps r) (context gs) h = refl
  bound_other d (function ps r) (function qs s) h = absurd (true≢false h)

  -- counts
  cmps_count : (d : Dir) (ps qs : Tys) → cmps O d ps qs ≡ true → same_count ps qs ≡ true
  unfolding cmp same_count
  cmps_count d no_params no_params e = refl
  cmps_count d no_params (param b qs) e = e
  cmps_count d (param a ps) no_params e = e
  cmps_count d (param a ps) (param b qs) e = cmps_count d ps qs (and_right (cmp O d a b) (cmps O d ps qs) e)

  count_trans : (ps qs cs : Tys) → same_count ps cs ≡ true → same_count qs cs ≡ true → same_count ps qs ≡ true
  unfolding same_count
  count_trans no_params no_params cs p q = refl
  count_trans no_params (param b qs) no_params p q = q
  count_trans no_params (param b qs) (param c cs) p q = p
  count_trans (param a ps) no_params no_params p q = p
  count_trans (param a ps) no_params (param c cs) p q = q
  count_trans (param a ps) (param b qs) no_params p q = absurd (false≢true p)
  count_trans (param a ps) (param b qs) (param c cs) p q = count_trans ps qs cs p q

  empty_bounds : (e : Dir) (ps qs : Tys) → same_count ps qs ≡ true → empty (bounds O e ps qs) ≡ empty ps
  unfolding same_count bound
  empty_bounds e no_params no_params h = refl
  empty_bounds e no_params (param b qs) h = refl
  empty_bounds e (param a ps) no_params h = absurd (false≢true h)
  empty_bounds e (param a ps) (param b qs) h = refl

  empty_same : (ps qs : Tys) → same_count ps qs ≡ true → empty ps ≡ empty qs
  unfolding same_count
  empty_same no_params no_params h = refl
  empty_same no_params (param b qs) h = absurd (false≢true h)
  empty_same (param a ps) no_params h = absurd (false≢true h)
  empty_same (param a ps) (param b qs) h = refl

  -- contexts, upwards: what the common names have
  has_keep : (m n : ℕ) (a t : Ty) (gs fs fs' : Fields) (o : Option Ty) → lookup m gs ≡ o → (q : Bool) → eqb n m ≡ q
      → has O fs' n t ≡ has O fs n t && has O gs n t
      → ((b : Ty) → cmp O up (bound O up a b) t ≡ cmp O up a t && cmp O up b t)
      → has O (keep m o (λ b. bound O up a b) fs') n t ≡ cond q (cmp O up a t) (has O fs n t) && has O gs n t
  unfolding cmp
  has_keep m n a t gs fs fs' none e true i h k =
      let g : has O gs n t ≡ false =
      has_look O gs n t ∙ found_none (lookup n gs) (λ x. cmp O up x t) (ap (λ j. lookup j gs) (eqb-true n m i) ∙ e) in
      h ∙ ap (λ x. has O fs n t && x) g ∙ and_false (has O fs n t) ∙ sym (ap (λ x. cmp O up a t && x) g ∙ and_false (cmp O up a t))
  has_keep m n a t gs fs fs' none e false i h k = h
  has_keep m n a t gs fs fs' (some b) e true i h k =
      let g : has O gs n t ≡ cmp O up b t =
      has_look O gs n t ∙ found_some (lookup n gs) (λ x. cmp O up x t) b (ap (λ j. lookup j gs) (eqb-true n m i) ∙ e) in
      ap (λ x. cond x (cmp O up (bound O up a b) t) (has O fs' n t)) i ∙ k b ∙ sym (ap (λ x. cmp O up a t && x) g)
  has_keep m n a t gs fs fs' (some b) e false i h k =
      ap (λ x. cond x (cmp O up (bound O up a b) t) (has O fs' n t)) i ∙ h

  -- contexts, downwards: what lies within all names
  within_place : (n : ℕ) (a : Ty) (f : Ty → Ty) (hs : Fields) → ((b c : Ty) → cmp O down (f b) c ≡ cmp O down a c && cmp O down b c)
      → (gs : Fields) → within O (insert_with n a f gs) hs ≡ found (lookup n hs) (λ c. cmp O down a c) && within O gs hs
  unfolding cmp insert_with
  within_place n a f hs h no_fields = refl
  within_place n a f hs h (field m b gs) = step (eqb n m) refl (ltb n m) (within_place n a f hs h gs)
    where
      A : ℕ → Bool
      A i = found (lookup i hs) (λ c. cmp O down a c)

      B : Bool
      B = found (lookup m hs) (λ c. cmp O down b c)

      step : (q : Bool) → eqb n m ≡ q → (l : Bool) → within O (insert_with n a f gs) hs ≡ A n && within O gs hs
          → within O (cond q (field m (f b) gs) (cond l (field n a (field m b gs)) (field m b (insert_with n a f gs)))) hs ≡ A n && (B && within O gs hs)
      step true e l ih =
          ap (λ x. x && within O gs hs) (found_and (lookup m hs) (λ c. cmp O down (f b) c) (λ c. cmp O down a c) (λ c. cmp O down b c) (h b))
          ∙ and_assoc (A m) B (within O gs hs) ∙ ap (λ i. A i && (B && within O gs hs)) (sym (eqb-true n m e))
      step false e true ih = refl
      step false e false ih = ap (λ x. B && x) ih ∙ and_swap B (A n) (within O gs hs)

module _ (O : Order) (L : Laws O) where
  -- two built types of different kinds have no common bound but the top
  clash : (d : Dir) (x y z : Built) → eqb (kind x) (kind y) ≡ false → scmp O d (top d) (bottom d) ≡ cmp_built O d x z && cmp_built O d y z
  clash d x y z e =
      top_bottom O L d
      ∙ sym (not_both (cmp_built O d x z) (cmp_built O d y z)
      (λ p q. eqb-false (kind x) (kind y) e (cmp_kind O d x z p ∙ sym (cmp_kind O d y z q))))

  -- a simple type with a built one
  key_mixed : (d : Dir) (s : Simple) (y : Built) (c : Ty)
      → cmp O d (cond (scmp O d s (bottom d)) (built y) (leaf (top d))) c ≡ cmp O d (leaf s) c && cmp O d (built y) c
  unfolding cmp
  key_mixed d s y c = step (scmp O d s (bottom d)) refl c
    where
      step : (q : Bool) → scmp O d s (bottom d) ≡ q → (c : Ty) → cmp O d (cond q (built y) (leaf (top d))) c ≡ cmp O d (leaf s) c && cmp O d (built y) c
      step true e (leaf u) =
          and_implied (scmp O d s u) (scmp O d (top d) u) (λ h. scmp_trans O L d s (bottom d) u e (scmp_bottom O L d u))
      step true e (built z) = and_implied (scmp O d s (bottom d)) (cmp_built O d y z) (λ h. e)
      step false e (leaf u) =
          and_implied (scmp O d s u) (scmp O d (top d) u) (λ h. scmp_trans O L d s (top d) u (scmp_top O L d s) h)
      step false e (built z) = top_bottom O L d ∙ sym (ap (λ q. q && cmp_built O d y z) e)

  -- against a simple type a built bound is as the top
  bound_leaf : (d : Dir) (x y : Built) (u : Simple) → cmp O d (bound_built O d x y) (leaf u) ≡ scmp O d (top d) u
  unfolding cmp bound
  bound_leaf d (list a) (list b) u = refl
  bound_leaf d (list a) (range b) u = refl
  bound_leaf d (list a) (context gs) u = refl
  bound_leaf d (list a) (function qs s) u = refl
  bound_leaf d (range a) (list b) u = refl
  bound_leaf d (range a) (range b) u = refl
  bound_leaf d (range a) (context gs) u = refl
  bound_leaf d (range a) (function qs s) u = refl
  bound_leaf d (context fs) (list b) u = refl
  bound_leaf d (context fs) (range b) u = refl
  bound_leaf d (context fs) (context gs) u = refl
  bound_leaf d (context fs) (function qs s) u = refl
  bound_leaf d (function ps r) (list b) u = refl
  bound_leaf d (function ps r) (range b) u = refl
  bound_leaf d (function ps r) (context gs) u = refl
  bound_leaf d (function ps r) (function qs s) u = step (same_count ps qs)
    where
      step : (q : Bool) → cmp O d (cond q (built (function (bounds O (flip d) ps qs) (bound O d r s))) (leaf (top d))) (leaf u) ≡ scmp O d (top d) u
      step true = refl
      step false = refl

  -- functions against another kind, and against a function
  function_off : (d : Dir) (q : Bool) (x z : Built) → cmp_built O d x z ≡ false → cmp O d (cond q (built x) (leaf (top d))) (built z) ≡ false
  unfolding cmp
  function_off d true x z e = e
  function_off d false x z e = top_bottom O L d

  key_function : (d : Dir) (ps qs cs : Tys) (r s u : Ty)
      → (same_count ps qs ≡ true → cmps O (flip d) (bounds O (flip d) ps qs) cs ≡ cmps O (flip d) ps cs && cmps O (flip d) qs cs)
      → cmp O d (bound O d r s) u ≡ cmp O d r u && cmp O d s u
      → cmp O d (cond (same_count ps qs) (built (function (bounds O (flip d) ps qs) (bound O d r s))) (leaf (top d))) (built (function cs u))
      ≡ (cmps O (flip d) ps cs && (ignores O ps || cmp O d r u)) && (cmps O (flip d) qs cs && (ignores O qs || cmp O d s u))
  unfolding cmp
  key_function d ps qs cs r s u h k = step (same_count ps qs) refl
    where
      A : Bool
      A = cmps O (flip d) ps cs

      B : Bool
      B = cmps O (flip d) qs cs

      ig : Bool → Bool
      ig e = not O.strict && e

      step : (q : Bool) → same_count ps qs ≡ q
          → cmp O d (cond q (built (function (bounds O (flip d) ps qs) (bound O d r s))) (leaf (top d))) (built (function cs u))
          ≡ (A && (ignores O ps || cmp O d r u)) && (B && (ignores O qs || cmp O d s u))
      step true e =
          ap₂ ◌&&◌ (h e) (ap₂ ◌||◌ (ap ig (empty_bounds O (flip d) ps qs e)) k)
          ∙ function_tests A B (ignores O ps) (cmp O d r u) (cmp O d s u)
          ∙ ap (λ x. (A && (ignores O ps || cmp O d r u)) && (B && (ig x || cmp O d s u))) (empty_same O ps qs e)
      step false e =
          top_bottom O L d
          ∙ sym (not_both (A && (ignores O ps || cmp O d r u)) (B && (ignores O qs || cmp O d s u))
          (λ p q. true≢false (sym (count_trans O ps qs cs (cmps_count O (flip d) ps cs (and_left A (ignores O ps || cmp O d r u) p))
          (cmps_count O (flip d) qs cs (and_left B (ignores O qs || cmp O d s u) q))) ∙ e)))

  key_context : (d : Dir) (fs gs hs : Fields)
      → ((n : ℕ) (t : Ty) → has O (intersect_with O fs gs) n t ≡ has O fs n t && has O gs n t)
      → within O (merge O fs gs) hs ≡ within O fs hs && within O gs hs
      → cmp_built O d (context (pick d (intersect_with O fs gs) (merge O fs gs))) (context hs)
      ≡ cmp_built O d (context fs) (context hs) && cmp_built O d (context gs) (context hs)
  unfolding cmp
  key_context up fs gs hs h k = all_and (λ n t. has O (intersect_with O fs gs) n t) (λ n t. has O fs n t) (λ n t. has O gs n t) hs h
  key_context down fs gs hs h k = k

  -- THE KEY: a bound compares with a type as both do. Upwards: sup a b ≤ c when a ≤ c and b ≤ c. Downwards: c ≤ sub a b when c ≤ a and c ≤ b.
  mutual
    unfolding cmp bound lookup same_count

    pub key : (d : Dir) (a b c : Ty) → cmp O d (bound O d a b) c ≡ cmp O d a c && cmp O d b c
    key d (leaf s) (leaf t) (leaf u) = scmp_bound O L d s t u
    key d (leaf s) (leaf t) (built z) = scmp_bound O L d s t (bottom d)
    key d (leaf s) (built y) c = key_mixed d s y c
    key d (built x) (leaf t) c = key_mixed d t x c ∙ and_comm (cmp O d (leaf t) c) (cmp O d (built x) c)
    key d (built x) (built y) (leaf u) = bound_leaf d x y u ∙ sym (and_same (scmp O d (top d) u))
    key d (built x) (built y) (built z) = key_built d x y z

    key_built : (d : Dir) (x y z : Built) → cmp O d (bound_built O d x y) (built z) ≡ cmp_built O d x z && cmp_built O d y z
    key_built d (list a) (list b) (list c) = key d a b c
    key_built d (list a) (list b) (range c) = refl
    key_built d (list a) (list b) (context hs) = refl
    key_built d (list a) (list b) (function cs u) = refl
    key_built d (list a) (range b) z = clash d (list a) (range b) z refl
    key_built d (list a) (context gs) z = clash d (list a) (context gs) z refl
    key_built d (list a) (function qs s) z = clash d (list a) (function qs s) z refl
    key_built d (range a) (list b) z = clash d (range a) (list b) z refl
    key_built d (range a) (range b) (list c) = refl
    key_built d (range a) (range b) (range c) = key d a b c
    key_built d (range a) (range b) (context hs) = refl
    key_built d (range a) (range b) (function cs u) = refl
    key_built d (range a) (context gs) z = clash d (range a) (context gs) z refl
    key_built d (range a) (function qs s) z = clash d (range a) (function qs s) z refl
    key_built d (context fs) (list b) z = clash d (context fs) (list b) z refl
    key_built d (context fs) (range b) z = clash d (context fs) (range b) z refl
    key_built d (context fs) (context gs) (list c) = refl
    key_built d (context fs) (context gs) (range c) = refl
    key_built d (context fs) (context gs) (context hs) = key_context d fs gs hs (λ n t. key_has fs gs n t) (key_within fs gs hs)
    key_built d (context fs) (context gs) (function cs u) = refl
    key_built d (context fs) (function qs s) z = clash d (context fs) (function qs s) z refl
    key_built d (function ps r) (list b) z = clash d (function ps r) (list b) z refl
    key_built d (function ps r) (range b) z = clash d (function ps r) (range b) z refl
    key_built d (function ps r) (context gs) z = clash d (function ps r) (context gs) z refl
    key_built d (function ps r) (function qs s) (list c) =
        function_off d (same_count ps qs) (function (bounds O (flip d) ps qs) (bound O d r s)) (list c) refl
    key_built d (function ps r) (function qs s) (range c) =
        function_off d (same_count ps qs) (function (bounds O (flip d) ps qs) (bound O d r s)) (range c) refl
    key_built d (function ps r) (function qs s) (context hs) =
        function_off d (same_count ps qs) (function (bounds O (flip d) ps qs) (bound O d r s)) (context hs) refl
    key_built d (function ps r) (function qs s) (function cs u) =
        key_function d ps qs cs r s u (λ h. key_tys (flip d) ps qs cs h) (key d r s u)

    key_has : (fs gs : Fields) (n : ℕ) (t : Ty) → has O (intersect_with O fs gs) n t ≡ has O fs n t && has O gs n t
    key_has no_fields gs n t = refl
    key_has (field m a fs) gs n t =
        has_keep O m n a t gs fs (intersect_with O fs gs) (lookup m gs) refl (eqb n m) refl (key_has fs gs n t) (λ b. key up a b t)

    key_within : (fs gs hs : Fields) → within O (merge O fs gs) hs ≡ within O fs hs && within O gs hs
    key_within no_fields gs hs = refl
    key_within (field n a fs) gs hs =
        within_place O n a (λ b. bound O down a b) hs (λ b c. key down a b c) (merge O fs gs)
        ∙ ap (λ x. found (lookup n hs) (λ c. cmp O down a c) && x) (key_within fs gs hs)
        ∙ sym (and_assoc (found (lookup n hs) (λ c. cmp O down a c)) (within O fs hs) (within O gs hs))

    key_tys : (d : Dir) (ps qs cs : Tys) → same_count ps qs ≡ true → cmps O d (bounds O d ps qs) cs ≡ cmps O d ps cs && cmps O d qs cs
    key_tys d no_params no_params cs h = sym (and_same (cmps O d no_params cs))
    key_tys d no_params (param b qs) cs h = absurd (false≢true h)
    key_tys d (param a ps) no_params cs h = absurd (false≢true h)
    key_tys d (param a ps) (param b qs) no_params h = refl
    key_tys d (param a ps) (param b qs) (param c cs) h =
        ap₂ ◌&&◌ (key d a b c) (key_tys d ps qs cs h) ∙ and_mix (cmp O d a c) (cmp O d b c) (cmps O d ps cs) (cmps O d qs cs)
