-- Conformance is reflexive and transitive, reads the same from both sides, and does not see what the reduced form changes.
-- Idea: inductions on the types, over a direction; the parameters of functions compare in the other direction.
-- Index: `cmp_refl`, `cmps_refl`, `cmp_trans`, `antisym` (an order up to the reduced form); `cmp_flip`, `flip_tys` (both sides); `cmp_reduce`, `reduce_reduce`, `reduce_strict`
-- (the reduced form); `look_below`, `has_skip`, `within_skip`, `has_look` (names); `all_ext`, `all_imply`.
-- Assumes nothing.
use Prim.Native.Nat.{ℕ, suc, ◌≤◌, ◌<◌}
use native.Mathlib.Omega.{arith}
use mathlib.Core.Path.{◌≡◌, refl, sym, ◌∙◌, ap, ap₂, subst}
use mathlib.Core.Bool.{Bool, true, false, not, cond, ◌&&◌, ◌||◌, false≢true, true≢false}
use mathlib.Core.Option.{none, some}
use lib.Dec.{eqb, ltb}
use borrow.Author.Tests.{eqb-true, eqb-false, ne_eqb, eq-eqb, ltb-true, ltb-false}
use Rattle.form.specs.Trees.{Simple, any, null}
use Rattle.order.specs.Order.{Dir, up, down, flip, pick, Order, Laws, top, bottom, scmp}
use Rattle.order.proofs.Simple.{and_left, and_right, and_both, scmp_refl, top_bottom}
use Rattle.form.specs.Trees.{Ty, leaf, built, Built, list, range, context, function, Fields, no_fields, field, Tys, no_params, param}
use Rattle.order.specs.Types.{lookup, found, all_fields, empty, ignores, cmp, cmp_built, has, within, cmps, reduce, reduce_built, reduce_fields, reduce_tys}
use Rattle.order.specs.Ascending.{Asc, AscBuilt, AscFields, AscTys}
use Rattle.order.proofs.Bools.{or_right, or_trans, found_cond, found_ext, cond_up}

pub all_ext : (f g : ℕ → Ty → Bool) (gs : Fields) → ((n : ℕ) (t : Ty) → f n t ≡ g n t) → all_fields f gs ≡ all_fields g gs
unfolding all_fields
all_ext f g no_fields h = refl
all_ext f g (field n t gs) h = ap₂ ◌&&◌ (h n t) (all_ext f g gs h)

lt_of : (n m : ℕ) → m ≤ n → (n ≡ m → ⊥) → m < n
lt_of n m h k = omega arith

module _ (O : Order) where
  pub has_look : (fs : Fields) (n : ℕ) (t : Ty) → has O fs n t ≡ found (lookup n fs) (λ a. cmp O up a t)
  unfolding cmp lookup
  has_look no_fields n t = refl
  has_look (field m a fs) n t =
      ap (cond (eqb n m) (cmp O up a t)) (has_look fs n t) ∙ sym (found_cond (eqb n m) a (lookup n fs) (λ x. cmp O up x t))

  -- READ FROM BOTH SIDES
  scmp_flip : (d : Dir) (s t : Simple) → scmp O (flip d) s t ≡ scmp O d t s
  scmp_flip up s t = refl
  scmp_flip down s t = refl

  scmp_flip_bottom : (d : Dir) (s : Simple) → scmp O (flip d) s (bottom (flip d)) ≡ scmp O d (top d) s
  scmp_flip_bottom up s = refl
  scmp_flip_bottom down s = refl

  scmp_flip_top : (d : Dir) (s : Simple) → scmp O (flip d) (top (flip d)) s ≡ scmp O d s (bottom d)
  scmp_flip_top up s = refl
  scmp_flip_top down s = refl

  flip_function : (e e' : Dir) (ps qs : Tys) (x y : Bool) → cmps O e ps qs ≡ cmps O e' qs ps → x ≡ y
      → cmps O e ps qs && (ignores O ps || x) ≡ cmps O e' qs ps && (ignores O qs || y)
  unfolding cmp
  flip_function e e' no_params no_params x y h k = ap (λ z. ignores O no_params || z) k
  flip_function e e' no_params (param b qs) x y h k = refl
  flip_function e e' (param a ps) no_params x y h k = refl
  flip_function e e' (param a ps) (param b qs) x y h k = ap₂ (λ u z. u && (ignores O (param a ps) || z)) h k

  flip_context : (d : Dir) (fs gs : Fields) → within O fs gs ≡ all_fields (λ n t. has O gs n t) fs
      → all_fields (λ n t. has O fs n t) gs ≡ within O gs fs
      → pick (flip d) (all_fields (λ n t. has O fs n t) gs) (within O fs gs)
      ≡ pick d (all_fields (λ n t. has O gs n t) fs) (within O gs fs)
  flip_context up fs gs h k = h
  flip_context down fs gs h k = k

  all_within : (fs gs : Fields) → ((n : ℕ) (t : Ty) → has O fs n t ≡ found (lookup n fs) (λ a. cmp O down t a))
      → all_fields (λ n t. has O fs n t) gs ≡ within O gs fs
  unfolding all_fields cmp
  all_within fs no_fields h = refl
  all_within fs (field n t gs) h = ap₂ ◌&&◌ (h n t) (all_within fs gs h)

  mutual
    unfolding cmp all_fields lookup

    pub cmp_flip : (d : Dir) (a b : Ty) → cmp O (flip d) a b ≡ cmp O d b a
    cmp_flip d (leaf s) (leaf t) = scmp_flip d s t
    cmp_flip d (leaf s) (built y) = scmp_flip_bottom d s
    cmp_flip d (built x) (leaf t) = scmp_flip_top d t
    cmp_flip d (built x) (built y) = flip_built d x y

    flip_built : (d : Dir) (x y : Built) → cmp_built O (flip d) x y ≡ cmp_built O d y x
    flip_built d (list a) (list b) = cmp_flip d a b
    flip_built d (list a) (range b) = refl
    flip_built d (list a) (context gs) = refl
    flip_built d (list a) (function qs s) = refl
    flip_built d (range a) (list b) = refl
    flip_built d (range a) (range b) = cmp_flip d a b
    flip_built d (range a) (context gs) = refl
    flip_built d (range a) (function qs s) = refl
    flip_built d (context fs) (list b) = refl
    flip_built d (context fs) (range b) = refl
    flip_built d (context fs) (context gs) =
        flip_context d fs gs (flip_within fs gs) (all_within fs gs (λ n t. flip_has fs n t))
    flip_built d (context fs) (function qs s) = refl
    flip_built d (function ps r) (list b) = refl
    flip_built d (function ps r) (range b) = refl
    flip_built d (function ps r) (context gs) = refl
    flip_built d (function ps r) (function qs s) =
        flip_function (flip (flip d)) (flip d) ps qs (cmp O (flip d) r s) (cmp O d s r) (flip_tys (flip d) ps qs) (cmp_flip d r s)

    flip_within : (fs gs : Fields) → within O fs gs ≡ all_fields (λ n t. has O gs n t) fs
    flip_within no_fields gs = refl
    flip_within (field n a fs) gs =
        ap₂ ◌&&◌
        (found_ext (lookup n gs) (λ b. cmp O down a b) (λ b. cmp O up b a) (λ b. cmp_flip up a b) ∙ sym (has_look gs n a))
        (flip_within fs gs)

    flip_has : (fs : Fields) (n : ℕ) (t : Ty) → has O fs n t ≡ found (lookup n fs) (λ a. cmp O down t a)
    flip_has no_fields n t = refl
    flip_has (field m a fs) n t =
        ap₂ (cond (eqb n m)) (cmp_flip down a t) (flip_has fs n t)
        ∙ sym (found_cond (eqb n m) a (lookup n fs) (λ x. cmp O down t x))

    pub flip_tys : (d : Dir) (ps qs : Tys) → cmps O (flip d) ps qs ≡ cmps O d qs ps
    flip_tys d no_params no_params = refl
    flip_tys d no_params (param b qs) = refl
    flip_tys d (param a ps) no_params = refl
    flip_tys d (param a ps) (param b qs) = ap₂ ◌&&◌ (cmp_flip d a b) (flip_tys d ps qs)

  -- THE REDUCED FORM IS NOT SEEN
  ignores_reduce : (ps : Tys) → ignores O (reduce_tys O ps) ≡ ignores O ps
  unfolding reduce
  ignores_reduce no_params = refl
  ignores_reduce (param a ps) = refl

  result_reduce : (d : Dir) (q : Bool) (r r' s : Ty) → cmp O d r' s ≡ cmp O d r s → q || cmp O d (cond q (leaf any) r') s ≡ q || cmp O d r s
  result_reduce d true r r' s h = refl
  result_reduce d false r r' s h = h

  reduce_context : (d : Dir) (fs fs' gs : Fields) → ((n : ℕ) (t : Ty) → has O fs' n t ≡ has O fs n t) → within O fs' gs ≡ within O fs gs
      → pick d (all_fields (λ n t. has O fs' n t) gs) (within O fs' gs) ≡ pick d (all_fields (λ n t. has O fs n t) gs) (within O fs gs)
  reduce_context up fs fs' gs h k = all_ext (λ n t. has O fs' n t) (λ n t. has O fs n t) gs h
  reduce_context down fs fs' gs h k = k

  mutual
    unfolding cmp reduce

    pub cmp_reduce : (d : Dir) (a c : Ty) → cmp O d (reduce O a) c ≡ cmp O d a c
    cmp_reduce d (leaf s) c = refl
    cmp_reduce d (built x) (leaf t) = refl
    cmp_reduce d (built x) (built z) = cmp_reduce_built d x z

    cmp_reduce_built : (d : Dir) (x z : Built) → cmp_built O d (reduce_built O x) z ≡ cmp_built O d x z
    cmp_reduce_built d (list a) (list c) = cmp_reduce d a c
    cmp_reduce_built d (list a) (range c) = refl
    cmp_reduce_built d (list a) (context hs) = refl
    cmp_reduce_built d (list a) (function cs u) = refl
    cmp_reduce_built d (range a) (list c) = refl
    cmp_reduce_built d (range a) (range c) = cmp_reduce d a c
    cmp_reduce_built d (range a) (context hs) = refl
    cmp_reduce_built d (range a) (function cs u) = refl
    cmp_reduce_built d (context fs) (list c) = refl
    cmp_reduce_built d (context fs) (range c) = refl
    cmp_reduce_built d (context fs) (context hs) =
        reduce_context d fs (reduce_fields O fs) hs (λ n t. has_reduce fs n t) (within_reduce fs hs)
    cmp_reduce_built d (context fs) (function cs u) = refl
    cmp_reduce_built d (function ps r) (list c) = refl
    cmp_reduce_built d (function ps r) (range c) = refl
    cmp_reduce_built d (function ps r) (context hs) = refl
    cmp_reduce_built d (function ps r) (function cs u) =
        ap₂ ◌&&◌ (cmps_reduce (flip d) ps cs)
        (ap (λ i. i || cmp O d (cond (ignores O ps) (leaf any) (reduce O r)) u) (ignores_reduce ps)
        ∙ result_reduce d (ignores O ps) r (reduce O r) u (cmp_reduce d r u))

    has_reduce : (fs : Fields) (n : ℕ) (t : Ty) → has O (reduce_fields O fs) n t ≡ has O fs n t
    has_reduce no_fields n t = refl
    has_reduce (field m a fs) n t = ap₂ (cond (eqb n m)) (cmp_reduce up a t) (has_reduce fs n t)

    within_reduce : (fs gs : Fields) → within O (reduce_fields O fs) gs ≡ within O fs gs
    within_reduce no_fields gs = refl
    within_reduce (field n a fs) gs =
        ap₂ ◌&&◌ (found_ext (lookup n gs) (λ b. cmp O down (reduce O a) b) (λ b. cmp O down a b) (λ b. cmp_reduce down a b)) (within_reduce fs gs)

    cmps_reduce : (d : Dir) (ps qs : Tys) → cmps O d (reduce_tys O ps) qs ≡ cmps O d ps qs
    cmps_reduce d no_params qs = refl
    cmps_reduce d (param a ps) no_params = refl
    cmps_reduce d (param a ps) (param b qs) = ap₂ ◌&&◌ (cmp_reduce d a b) (cmps_reduce d ps qs)

  -- a reduced form is reduced
  reduce_result : (q q' : Bool) (r : Ty) → q' ≡ q → reduce O (reduce O r) ≡ reduce O r
      → cond q' (leaf any) (reduce O (cond q (leaf any) (reduce O r))) ≡ cond q (leaf any) (reduce O r)
  unfolding reduce
  reduce_result true q' r e h = ap (λ x. cond x (leaf any) (leaf any)) e
  reduce_result false q' r e h = ap (λ x. cond x (leaf any) (reduce O (reduce O r))) e ∙ h

  mutual
    unfolding reduce

    pub reduce_reduce : (a : Ty) → reduce O (reduce O a) ≡ reduce O a
    reduce_reduce (leaf s) = refl
    reduce_reduce (built x) = ap built (reduce_reduce_built x)

    reduce_reduce_built : (x : Built) → reduce_built O (reduce_built O x) ≡ reduce_built O x
    reduce_reduce_built (list a) = ap list (reduce_reduce a)
    reduce_reduce_built (range a) = ap range (reduce_reduce a)
    reduce_reduce_built (context fs) = ap context (reduce_reduce_fields fs)
    reduce_reduce_built (function ps r) =
        ap₂ function (reduce_reduce_tys ps) (reduce_result (ignores O ps) (ignores O (reduce_tys O ps)) r (ignores_reduce ps) (reduce_reduce r))

    reduce_reduce_fields : (fs : Fields) → reduce_fields O (reduce_fields O fs) ≡ reduce_fields O fs
    reduce_reduce_fields no_fields = refl
    reduce_reduce_fields (field n a fs) = ap₂ (field n) (reduce_reduce a) (reduce_reduce_fields fs)

    reduce_reduce_tys : (ps : Tys) → reduce_tys O (reduce_tys O ps) ≡ reduce_tys O ps
    reduce_reduce_tys no_params = refl
    reduce_reduce_tys (param a ps) = ap₂ param (reduce_reduce a) (reduce_reduce_tys ps)

  -- where functions without parameters are judged by their results, nothing is reduced
  not_ignored : (ps : Tys) → O.strict ≡ true → ignores O ps ≡ false
  not_ignored ps e = ap (λ b. not b && empty ps) e

  mutual
    unfolding reduce

    pub reduce_strict : (a : Ty) → O.strict ≡ true → reduce O a ≡ a
    reduce_strict (leaf s) e = refl
    reduce_strict (built x) e = ap built (reduce_strict_built x e)

    reduce_strict_built : (x : Built) → O.strict ≡ true → reduce_built O x ≡ x
    reduce_strict_built (list a) e = ap list (reduce_strict a e)
    reduce_strict_built (range a) e = ap range (reduce_strict a e)
    reduce_strict_built (context fs) e = ap context (reduce_strict_fields fs e)
    reduce_strict_built (function ps r) e =
        ap₂ function (reduce_strict_tys ps e) (ap (λ i. cond i (leaf any) (reduce O r)) (not_ignored ps e) ∙ reduce_strict r e)

    reduce_strict_fields : (fs : Fields) → O.strict ≡ true → reduce_fields O fs ≡ fs
    reduce_strict_fields no_fields e = refl
    reduce_strict_fields (field n a fs) e = ap₂ (field n) (reduce_strict a e) (reduce_strict_fields fs e)

    reduce_strict_tys : (ps : Tys) → O.strict ≡ true → reduce_tys O ps ≡ ps
    reduce_strict_tys no_params e = refl
    reduce_strict_tys (param a ps) e = ap₂ param (reduce_strict a e) (reduce_strict_tys ps e)

  -- NAMES BELOW A CONTEXT'S FIRST
  pub look_below : (fs : Fields) (k n : ℕ) → AscFields fs k → n < k → lookup n fs ≡ none
  unfolding lookup Asc
  look_below no_fields k n w h = refl
  look_below (field m t fs) k n w h =
      let ne : eqb n m ≡ false = ne_eqb n m (λ e. omega (arith, w.0)) in
      ap (λ q. cond q (some t) (lookup n fs)) ne ∙ look_below fs (suc m) n w.2 (omega (arith, w.0))

  -- a name smaller than all that are asked for does not matter
  pub has_skip : (gs : Fields) (k n : ℕ) (a : Ty) (fs : Fields) → AscFields gs k → n < k
      → all_fields (λ m t. has O (field n a fs) m t) gs ≡ all_fields (λ m t. has O fs m t) gs
  unfolding cmp all_fields Asc
  has_skip no_fields k n a fs w h = refl
  has_skip (field m t gs) k n a fs w h =
      let ne : eqb m n ≡ false = ne_eqb m n (λ e. omega (arith, w.0)) in
      ap₂ ◌&&◌ (ap (λ q. cond q (cmp O up a t) (has O fs m t)) ne) (has_skip gs (suc m) n a fs w.2 (omega (arith, w.0)))

  pub within_skip : (fs : Fields) (k n : ℕ) (b : Ty) (gs : Fields) → AscFields fs k → n < k → within O fs (field n b gs) ≡ within O fs gs
  unfolding cmp lookup Asc
  within_skip no_fields k n b gs w h = refl
  within_skip (field m t fs) k n b gs w h =
      let ne : eqb m n ≡ false = ne_eqb m n (λ e. omega (arith, w.0)) in
      ap₂ ◌&&◌ (ap (λ q. found (cond q (some b) (lookup m gs)) (λ x. cmp O down t x)) ne)
      (within_skip fs (suc m) n b gs w.2 (omega (arith, w.0)))

module _ (O : Order) (L : Laws O) where
  -- REFLEXIVE
  refl_context : (d : Dir) (fs : Fields) → all_fields (λ n t. has O fs n t) fs ≡ true
      → pick d (all_fields (λ n t. has O fs n t) fs) (within O fs fs) ≡ true
  refl_context up fs h = h
  refl_context down fs h = sym (all_within O fs fs (λ n t. flip_has O fs n t)) ∙ h

  mutual
    unfolding cmp all_fields Asc

    pub cmp_refl : (d : Dir) (a : Ty) → Asc a → cmp O d a a ≡ true
    cmp_refl d (leaf s) w = scmp_refl O L d s
    cmp_refl d (built x) w = cmp_refl_built d x w

    cmp_refl_built : (d : Dir) (x : Built) → AscBuilt x → cmp_built O d x x ≡ true
    cmp_refl_built d (list a) w = cmp_refl d a w
    cmp_refl_built d (range a) w = cmp_refl d a w
    cmp_refl_built d (context fs) w = refl_context d fs (has_refl fs 0 w)
    cmp_refl_built d (function ps r) w =
        and_both (cmps O (flip d) ps ps) (ignores O ps || cmp O d r r) (cmps_refl (flip d) ps w.0)
        (or_right (ignores O ps) (cmp O d r r) (cmp_refl d r w.1))

    has_refl : (fs : Fields) (k : ℕ) → AscFields fs k → all_fields (λ n t. has O fs n t) fs ≡ true
    has_refl no_fields k w = refl
    has_refl (field n a fs) k w =
        and_both (has O (field n a fs) n a) (all_fields (λ m t. has O (field n a fs) m t) fs)
        (ap (λ q. cond q (cmp O up a a) (has O fs n a)) (eq-eqb n n refl) ∙ cmp_refl up a w.1)
        (has_skip O fs (suc n) n a fs w.2 (omega arith) ∙ has_refl fs (suc n) w.2)

    pub cmps_refl : (d : Dir) (ps : Tys) → AscTys ps → cmps O d ps ps ≡ true
    cmps_refl d no_params w = refl
    cmps_refl d (param a ps) w = and_both (cmp O d a a) (cmps O d ps ps) (cmp_refl d a w.0) (cmps_refl d ps w.1)

  -- TRANSITIVE, by recursion on the type in the middle
  empty_cmps : (d : Dir) (ps qs : Tys) → cmps O d ps qs ≡ true → empty qs ≡ empty ps
  unfolding cmp
  empty_cmps d no_params no_params e = refl
  empty_cmps d no_params (param b qs) e = absurd (false≢true e)
  empty_cmps d (param a ps) no_params e = absurd (false≢true e)
  empty_cmps d (param a ps) (param b qs) e = refl

  -- what conforms to t conforms to u: so does what a context has
  has_up : (fs : Fields) (n : ℕ) (t u : Ty) → ((a : Ty) → cmp O up a t ≡ true → cmp O up a u ≡ true) → has O fs n t ≡ true → has O fs n u ≡ true
  unfolding cmp
  has_up no_fields n t u h e = e
  has_up (field m a fs) n t u h e =
      cond_up (eqb n m) (cmp O up a t) (cmp O up a u) (has O fs n t) (has O fs n u) (h a) (λ p. has_up fs n t u h p) e

  pub all_imply : (f g : ℕ → Ty → Bool) (hs : Fields) → ((n : ℕ) (t : Ty) → f n t ≡ true → g n t ≡ true) → all_fields f hs ≡ true → all_fields g hs ≡ true
  unfolding all_fields
  all_imply f g no_fields h e = refl
  all_imply f g (field n t hs) h e =
      and_both (g n t) (all_fields g hs) (h n t (and_left (f n t) (all_fields f hs) e))
      (all_imply f g hs h (and_right (f n t) (all_fields f hs) e))

  trans_function : (ps qs cs : Tys) (x y z : Bool) → (cmps O down ps qs ≡ true → cmps O down qs cs ≡ true → cmps O down ps cs ≡ true)
      → (x ≡ true → y ≡ true → z ≡ true)
      → cmps O down ps qs && (ignores O ps || x) ≡ true → cmps O down qs cs && (ignores O qs || y) ≡ true
      → cmps O down ps cs && (ignores O ps || z) ≡ true
  trans_function ps qs cs x y z h k p q =
      let p₁ = and_left (cmps O down ps qs) (ignores O ps || x) p in
      let q₁ = and_left (cmps O down qs cs) (ignores O qs || y) q in
      and_both (cmps O down ps cs) (ignores O ps || z) (h p₁ q₁)
      (or_trans (ignores O ps) x y z (and_right (cmps O down ps qs) (ignores O ps || x) p)
      (subst (λ e. (not O.strict && e) || y ≡ true) (empty_cmps down ps qs p₁) (and_right (cmps O down qs cs) (ignores O qs || y) q)) k)

  -- the entry of a context in the middle
  trans_entry : (fs gs : Fields) (m n : ℕ) (b t : Ty) → ((a : Ty) → cmp O up a b ≡ true → cmp O up b t ≡ true → cmp O up a t ≡ true)
      → has O fs m b ≡ true → (has O gs n t ≡ true → has O fs n t ≡ true)
      → (q : Bool) → eqb n m ≡ q → cond q (cmp O up b t) (has O gs n t) ≡ true → has O fs n t ≡ true
  trans_entry fs gs m n b t h k rest true e p =
      has_up fs n b t (λ a x. h a x p) (subst (λ i. has O fs i b ≡ true) (sym (eqb-true n m e)) k)
  trans_entry fs gs m n b t h k rest false e p = rest p

  mutual
    unfolding cmp all_fields

    pub cmp_trans : (b a c : Ty) → cmp O up a b ≡ true → cmp O up b c ≡ true → cmp O up a c ≡ true
    cmp_trans (leaf t) (leaf s) (leaf u) p q = L.transitive s t u p q
    cmp_trans (leaf t) (leaf s) (built z) p q = L.transitive s t null p q
    cmp_trans (leaf t) (built x) (leaf u) p q = L.transitive any t u p q
    cmp_trans (leaf t) (built x) (built z) p q =
        absurd (true≢false (sym (L.transitive any t null p q) ∙ top_bottom O L up))
    cmp_trans (built y) (leaf s) (leaf u) p q = L.transitive s null u p (L.null_least_lem u)
    cmp_trans (built y) (leaf s) (built z) p q = p
    cmp_trans (built y) (built x) (leaf u) p q = q
    cmp_trans (built y) (built x) (built z) p q = trans_built y x z p q

    trans_built : (y x z : Built) → cmp_built O up x y ≡ true → cmp_built O up y z ≡ true → cmp_built O up x z ≡ true
    trans_built (list b) (list a) (list c) p q = cmp_trans b a c p q
    trans_built (list b) (list a) (range c) p q = absurd (false≢true q)
    trans_built (list b) (list a) (context hs) p q = absurd (false≢true q)
    trans_built (list b) (list a) (function cs u) p q = absurd (false≢true q)
    trans_built (list b) (range a) z p q = absurd (false≢true p)
    trans_built (list b) (context fs) z p q = absurd (false≢true p)
    trans_built (list b) (function ps r) z p q = absurd (false≢true p)
    trans_built (range b) (list a) z p q = absurd (false≢true p)
    trans_built (range b) (range a) (list c) p q = absurd (false≢true q)
    trans_built (range b) (range a) (range c) p q = cmp_trans b a c p q
    trans_built (range b) (range a) (context hs) p q = absurd (false≢true q)
    trans_built (range b) (range a) (function cs u) p q = absurd (false≢true q)
    trans_built (range b) (context fs) z p q = absurd (false≢true p)
    trans_built (range b) (function ps r) z p q = absurd (false≢true p)
    trans_built (context gs) (list a) z p q = absurd (false≢true p)
    trans_built (context gs) (range a) z p q = absurd (false≢true p)
    trans_built (context gs) (context fs) (list c) p q = absurd (false≢true q)
    trans_built (context gs) (context fs) (range c) p q = absurd (false≢true q)
    trans_built (context gs) (context fs) (context hs) p q =
        all_imply (λ n t. has O gs n t) (λ n t. has O fs n t) hs (λ n t h. trans_has gs fs n t p h) q
    trans_built (context gs) (context fs) (function cs u) p q = absurd (false≢true q)
    trans_built (context gs) (function ps r) z p q = absurd (false≢true p)
    trans_built (function qs s) (list a) z p q = absurd (false≢true p)
    trans_built (function qs s) (range a) z p q = absurd (false≢true p)
    trans_built (function qs s) (context fs) z p q = absurd (false≢true p)
    trans_built (function qs s) (function ps r) (list c) p q = absurd (false≢true q)
    trans_built (function qs s) (function ps r) (range c) p q = absurd (false≢true q)
    trans_built (function qs s) (function ps r) (context hs) p q = absurd (false≢true q)
    trans_built (function qs s) (function ps r) (function cs u) p q =
        trans_function ps qs cs (cmp O up r s) (cmp O up s u) (cmp O up r u) (λ h k. trans_tys qs ps cs h k) (λ h k. cmp_trans s r u h k) p q

    trans_has : (gs fs : Fields) (n : ℕ) (t : Ty) → all_fields (λ m b. has O fs m b) gs ≡ true → has O gs n t ≡ true → has O fs n t ≡ true
    trans_has no_fields fs n t p q = absurd (false≢true q)
    trans_has (field m b gs) fs n t p q =
        trans_entry fs gs m n b t (λ a h k. cmp_trans b a t h k) (and_left (has O fs m b) (all_fields (λ i x. has O fs i x) gs) p)
        (λ h. trans_has gs fs n t (and_right (has O fs m b) (all_fields (λ i x. has O fs i x) gs) p) h) (eqb n m) refl q

    trans_tys : (qs ps cs : Tys) → cmps O down ps qs ≡ true → cmps O down qs cs ≡ true → cmps O down ps cs ≡ true
    trans_tys no_params no_params cs p q = q
    trans_tys no_params (param a ps) cs p q = absurd (false≢true p)
    trans_tys (param b qs) no_params cs p q = absurd (false≢true p)
    trans_tys (param b qs) (param a ps) no_params p q = absurd (false≢true q)
    trans_tys (param b qs) (param a ps) (param c cs) p q =
        and_both (cmp O down a c) (cmps O down ps cs)
        (cmp_flip O up a c
        ∙ cmp_trans b c a (sym (cmp_flip O up b c) ∙ and_left (cmp O down b c) (cmps O down qs cs) q)
        (sym (cmp_flip O up a b) ∙ and_left (cmp O down a b) (cmps O down ps qs) p))
        (trans_tys qs ps cs (and_right (cmp O down a b) (cmps O down ps qs) p) (and_right (cmp O down b c) (cmps O down qs cs) q))

  -- TYPES THAT EACH CONFORM TO THE OTHER HAVE ONE REDUCED FORM
  same_result : (q q' : Bool) (r s : Ty) (x y : Bool) → q' ≡ q → q || x ≡ true → q || y ≡ true → (x ≡ true → y ≡ true → reduce O r ≡ reduce O s)
      → cond q (leaf any) (reduce O r) ≡ cond q' (leaf any) (reduce O s)
  same_result true q' r s x y e p q h = sym (ap (λ i. cond i (leaf any) (reduce O s)) e)
  same_result false q' r s x y e p q h = h p q ∙ sym (ap (λ i. cond i (leaf any) (reduce O s)) e)

  -- the first entries of two contexts that have each other's names
  same_entry : (n m : ℕ) (a b : Ty) (fs gs : Fields) → AscFields fs (suc n) → AscFields gs (suc m)
      → has O (field n a fs) m b ≡ true → found (lookup n (field m b gs)) (λ x. cmp O down a x) ≡ true
      → n ≡ m
  unfolding cmp lookup Asc
  same_entry n m a b fs gs v w p q = step (eqb n m) refl
    where
      above : eqb n m ≡ false → m < n → n ≡ m
      above e h =
          absurd (false≢true (sym (has_look O (field n a fs) m b
          ∙ ap (λ o. found (cond (eqb m n) (some a) o) (λ x. cmp O up x b)) (look_below O fs (suc n) m v (omega arith))
          ∙ ap (λ i. found (cond i (some a) none) (λ x. cmp O up x b)) (ne_eqb m n (λ g. omega arith))) ∙ p))

      below : eqb n m ≡ false → n < m → n ≡ m
      below e h =
          absurd (false≢true (sym (ap (λ o. found (cond (eqb n m) (some b) o) (λ x. cmp O down a x)) (look_below O gs (suc m) n w (omega arith))
          ∙ ap (λ i. found (cond i (some b) none) (λ x. cmp O down a x)) e) ∙ q))

      side : (l : Bool) → ltb n m ≡ l → eqb n m ≡ false → n ≡ m
      side true l e = below e (ltb-true n m l)
      side false l e = above e (lt_of n m (ltb-false n m l) (eqb-false n m e))

      step : (i : Bool) → eqb n m ≡ i → n ≡ m
      step true e = eqb-true n m e
      step false e = side (ltb n m) refl e

  same_up : (n m : ℕ) (a b : Ty) (fs : Fields) → n ≡ m → has O (field n a fs) m b ≡ true → cmp O up a b ≡ true
  unfolding cmp
  same_up n m a b fs e p = sym (ap (λ q. cond q (cmp O up a b) (has O fs m b)) (eq-eqb m n (sym e))) ∙ p

  same_down : (n m : ℕ) (a b : Ty) (gs : Fields) → n ≡ m → found (lookup n (field m b gs)) (λ x. cmp O down a x) ≡ true → cmp O down a b ≡ true
  unfolding lookup
  same_down n m a b gs e p = sym (ap (λ q. found (cond q (some b) (lookup n gs)) (λ x. cmp O down a x)) (eq-eqb n m e)) ∙ p

  mutual
    unfolding cmp all_fields lookup reduce Asc

    pub antisym : (a b : Ty) → Asc a → Asc b → cmp O up a b ≡ true → cmp O down a b ≡ true → reduce O a ≡ reduce O b
    antisym (leaf s) (leaf t) v w p q = ap leaf (L.antisymmetric s t p q)
    antisym (leaf s) (built y) v w p q =
        absurd (true≢false (sym (L.transitive any s null q p) ∙ top_bottom O L up))
    antisym (built x) (leaf t) v w p q =
        absurd (true≢false (sym (L.transitive any t null p q) ∙ top_bottom O L up))
    antisym (built x) (built y) v w p q = ap built (antisym_built x y v w p q)

    antisym_built : (x y : Built) → AscBuilt x → AscBuilt y → cmp_built O up x y ≡ true → cmp_built O down x y ≡ true → reduce_built O x ≡ reduce_built O y
    antisym_built (list a) (list b) v w p q = ap list (antisym a b v w p q)
    antisym_built (list a) (range b) v w p q = absurd (false≢true p)
    antisym_built (list a) (context gs) v w p q = absurd (false≢true p)
    antisym_built (list a) (function qs s) v w p q = absurd (false≢true p)
    antisym_built (range a) (list b) v w p q = absurd (false≢true p)
    antisym_built (range a) (range b) v w p q = ap range (antisym a b v w p q)
    antisym_built (range a) (context gs) v w p q = absurd (false≢true p)
    antisym_built (range a) (function qs s) v w p q = absurd (false≢true p)
    antisym_built (context fs) (list b) v w p q = absurd (false≢true p)
    antisym_built (context fs) (range b) v w p q = absurd (false≢true p)
    antisym_built (context fs) (context gs) v w p q = ap context (antisym_fields fs gs 0 0 v w p q)
    antisym_built (context fs) (function qs s) v w p q = absurd (false≢true p)
    antisym_built (function ps r) (list b) v w p q = absurd (false≢true p)
    antisym_built (function ps r) (range b) v w p q = absurd (false≢true p)
    antisym_built (function ps r) (context gs) v w p q = absurd (false≢true p)
    antisym_built (function ps r) (function qs s) v w p q =
        let p₁ = and_left (cmps O down ps qs) (ignores O ps || cmp O up r s) p in
        let q₁ = and_left (cmps O up ps qs) (ignores O ps || cmp O down r s) q in
        ap₂ function (antisym_tys ps qs v.0 w.0 q₁ p₁)
        (same_result (ignores O ps) (ignores O qs) r s (cmp O up r s) (cmp O down r s)
        (ap (λ e. not O.strict && e) (empty_cmps down ps qs p₁)) (and_right (cmps O down ps qs) (ignores O ps || cmp O up r s) p)
        (and_right (cmps O up ps qs) (ignores O ps || cmp O down r s) q) (λ h k. antisym r s v.1 w.1 h k))

    antisym_fields : (fs gs : Fields) (k l : ℕ) → AscFields fs k → AscFields gs l → all_fields (λ n t. has O fs n t) gs ≡ true → within O fs gs ≡ true
        → reduce_fields O fs ≡ reduce_fields O gs
    antisym_fields no_fields no_fields k l v w p q = refl
    antisym_fields no_fields (field m b gs) k l v w p q = absurd (false≢true p)
    antisym_fields (field n a fs) no_fields k l v w p q = absurd (false≢true q)
    antisym_fields (field n a fs) (field m b gs) k l v w p q =
        let p₀ = and_left (has O (field n a fs) m b) (all_fields (λ i t. has O (field n a fs) i t) gs) p in
        let q₀ = and_left (found (lookup n (field m b gs)) (λ x. cmp O down a x)) (within O fs (field m b gs)) q in
        let e : n ≡ m = same_entry n m a b fs gs v.2 w.2 p₀ q₀ in
        λ i. field (e i)
        (antisym a b v.1 w.1 (same_up n m a b fs e p₀) (same_down n m a b gs e q₀) i)
        (antisym_fields fs gs (suc n) (suc m) v.2 w.2
        (sym (has_skip O gs (suc m) n a fs w.2 (omega arith))
        ∙ and_right (has O (field n a fs) m b) (all_fields (λ j t. has O (field n a fs) j t) gs) p)
        (sym (within_skip O fs (suc n) m b gs v.2 (omega arith))
        ∙ and_right (found (lookup n (field m b gs)) (λ x. cmp O down a x)) (within O fs (field m b gs)) q) i)

    antisym_tys : (ps qs : Tys) → AscTys ps → AscTys qs → cmps O up ps qs ≡ true → cmps O down ps qs ≡ true → reduce_tys O ps ≡ reduce_tys O qs
    antisym_tys no_params no_params v w p q = refl
    antisym_tys no_params (param b qs) v w p q = absurd (false≢true p)
    antisym_tys (param a ps) no_params v w p q = absurd (false≢true p)
    antisym_tys (param a ps) (param b qs) v w p q =
        ap₂ param
        (antisym a b v.0 w.0 (and_left (cmp O up a b) (cmps O up ps qs) p) (and_left (cmp O down a b) (cmps O down ps qs) q))
        (antisym_tys ps qs v.1 w.1 (and_right (cmp O up a b) (cmps O up ps qs) p) (and_right (cmp O down a b) (cmps O down ps qs) q))
