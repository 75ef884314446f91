-- What is promised of conformance, reduced forms, common supertypes and subtypes, over every order.
-- Idea: all of it follows from the one equation of a bound (`key` of Bound) and from the order up to reduced forms (Conform).
-- Index: `le_sup`, `le_sub` (the equations); `le_refl`, `le_trans`, `mutual_reduce`, `le_reduce_left`, `le_reduce_right` (conformance); `sup_left`, `sup_right`, `sup_least`, `sub_left`,
-- `sub_right`, `sub_greatest` (bounds); `sup_reduced`, `sub_reduced` (answers are reduced); `by_conformance`, `sup_only`, `sup_comm`, `sup_assoc` (one answer only).
-- Assumes nothing.
use mathlib.Core.Path.{◌≡◌, sym, ◌∙◌, ap, ap₂}
use mathlib.Core.Bool.{true, ◌&&◌}
use mathlib.Core.Logic.{◌↔◌}
use Rattle.order.specs.Order.{up, down, Order, Laws}
use Rattle.order.proofs.Simple.{and_left, and_right, and_both}
use Rattle.form.specs.Trees.{Ty}
use Rattle.order.specs.Types.{le, reduce, bound, sup, sub}
use Rattle.order.specs.Ascending.{Asc}
use Rattle.order.proofs.Conform.{cmp_flip, cmp_reduce, reduce_reduce, cmp_refl, cmp_trans, antisym}
use Rattle.order.proofs.Bound.{key}
use Rattle.order.proofs.Bools.{and_comm, and_assoc}
use Rattle.order.proofs.Answers.{asc_sup}

module _ (O : Order) (L : Laws O) where
  -- a type conforms as its reduced form does, on either side
  pub le_reduce_left : (a c : Ty) → le O (reduce O a) c ≡ le O a c
  le_reduce_left a c = cmp_reduce O up a c

  pub le_reduce_right : (c a : Ty) → le O c (reduce O a) ≡ le O c a
  le_reduce_right c a = sym (cmp_flip O up (reduce O a) c) ∙ cmp_reduce O down a c ∙ cmp_flip O up a c

  -- the common supertype conforms to a type exactly when both do
  pub le_sup : (a b c : Ty) → le O (sup O a b) c ≡ le O a c && le O b c
  le_sup a b c = le_reduce_left (bound O up a b) c ∙ key O L up a b c

  -- a type conforms to the common subtype exactly when it conforms to both
  pub le_sub : (a b c : Ty) → le O c (sub O a b) ≡ le O c a && le O c b
  le_sub a b c =
      le_reduce_right c (bound O down a b) ∙ sym (cmp_flip O up (bound O down a b) c) ∙ key O L down a b c
      ∙ ap₂ ◌&&◌ (cmp_flip O up a c) (cmp_flip O up b c)

  -- reflexive and transitive
  pub le_refl : (a : Ty) → Asc a → le O a a ≡ true
  le_refl a w = cmp_refl O L up a w

  pub le_trans : (a b c : Ty) → le O a b ≡ true → le O b c ≡ true → le O a c ≡ true
  le_trans a b c p q = cmp_trans O L b a c p q

  -- each conforms to the other exactly when the reduced forms are equal
  pub mutual_reduce : (a b : Ty) → Asc a → Asc b → ((le O a b ≡ true) × (le O b a ≡ true)) ↔ (reduce O a ≡ reduce O b)
  mutual_reduce a b v w = (
    λ h. antisym O L a b v w h.0 (cmp_flip O up a b ∙ h.1),
    λ e. (
      sym (le_reduce_left a b) ∙ ap (λ x. le O x b) e ∙ le_reduce_left b b ∙ le_refl b w,
      sym (le_reduce_left b a) ∙ ap (λ x. le O x a) (sym e) ∙ le_reduce_left a a ∙ le_refl a v,
    ),
  )

  -- both conform to the common supertype, and it conforms to whatever both conform to
  pub sup_left : (a b : Ty) → Asc (sup O a b) → le O a (sup O a b) ≡ true
  sup_left a b w = and_left (le O a (sup O a b)) (le O b (sup O a b)) (sym (le_sup a b (sup O a b)) ∙ le_refl (sup O a b) w)

  pub sup_right : (a b : Ty) → Asc (sup O a b) → le O b (sup O a b) ≡ true
  sup_right a b w = and_right (le O a (sup O a b)) (le O b (sup O a b)) (sym (le_sup a b (sup O a b)) ∙ le_refl (sup O a b) w)

  pub sup_least : (a b c : Ty) → le O a c ≡ true → le O b c ≡ true → le O (sup O a b) c ≡ true
  sup_least a b c p q = le_sup a b c ∙ and_both (le O a c) (le O b c) p q

  pub sub_left : (a b : Ty) → Asc (sub O a b) → le O (sub O a b) a ≡ true
  sub_left a b w = and_left (le O (sub O a b) a) (le O (sub O a b) b) (sym (le_sub a b (sub O a b)) ∙ le_refl (sub O a b) w)

  pub sub_right : (a b : Ty) → Asc (sub O a b) → le O (sub O a b) b ≡ true
  sub_right a b w = and_right (le O (sub O a b) a) (le O (sub O a b) b) (sym (le_sub a b (sub O a b)) ∙ le_refl (sub O a b) w)

  pub sub_greatest : (a b c : Ty) → le O c a ≡ true → le O c b ≡ true → le O c (sub O a b) ≡ true
  sub_greatest a b c p q = le_sub a b c ∙ and_both (le O c a) (le O c b) p q

  -- answers are reduced
  pub sup_reduced : (a b : Ty) → reduce O (sup O a b) ≡ sup O a b
  sup_reduced a b = reduce_reduce O (bound O up a b)

  pub sub_reduced : (a b : Ty) → reduce O (sub O a b) ≡ sub O a b
  sub_reduced a b = reduce_reduce O (bound O down a b)

  -- A REDUCED TYPE IS KNOWN BY WHAT IT CONFORMS TO
  pub by_conformance : (a b : Ty) → Asc a → Asc b → reduce O a ≡ a → reduce O b ≡ b → ((c : Ty) → le O a c ≡ le O b c) → a ≡ b
  by_conformance a b v w ra rb h =
      sym ra ∙ (mutual_reduce a b v w).0 (h b ∙ le_refl b w, sym (h a) ∙ le_refl a v) ∙ rb

  -- so whatever meets the supertype's equation is the supertype, and it does not matter in which order types are taken together
  pub sup_only : (a b x : Ty) → Asc a → Asc b → Asc x → reduce O x ≡ x → ((c : Ty) → le O x c ≡ le O a c && le O b c) → x ≡ sup O a b
  sup_only a b x v w u r h =
      by_conformance x (sup O a b) u (asc_sup O a b v w) r (sup_reduced a b) (λ c. h c ∙ sym (le_sup a b c))

  pub sup_comm : (a b : Ty) → Asc a → Asc b → sup O a b ≡ sup O b a
  sup_comm a b v w =
      sup_only b a (sup O a b) w v (asc_sup O a b v w) (sup_reduced a b) (λ c. le_sup a b c ∙ and_comm (le O a c) (le O b c))

  pub sup_assoc : (a b c : Ty) → Asc a → Asc b → Asc c → sup O (sup O a b) c ≡ sup O a (sup O b c)
  sup_assoc a b c u v w =
      sup_only a (sup O b c) (sup O (sup O a b) c) u (asc_sup O b c v w) (asc_sup O (sup O a b) c (asc_sup O a b u v) w) (sup_reduced (sup O a b) c)
      (λ t.
      le_sup (sup O a b) c t ∙ ap (λ x. x && le O c t) (le_sup a b t) ∙ and_assoc (le O a t) (le O b t) (le O c t)
      ∙ ap (λ x. le O a t && x) (sym (le_sup b c t)))
