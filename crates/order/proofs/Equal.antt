-- Type equality as a test: it says that the two trees are equal, and, of well-formed types, that their bytes are.
-- Index: `eq_ty_iff`, `eq_ty_same`, `eq_ty_self`, `eq_fields_same` (trees); `eq_bytes` (bytes).
-- Assumes nothing.
use mathlib.Core.Path.{◌≡◌, refl, sym, ◌∙◌, ap, ap₂}
use mathlib.Core.Bool.{true, ◌&&◌, false≢true}
use mathlib.Core.Logic.{◌↔◌}
use lib.Dec.{eqb}
use borrow.Author.Tests.{eqb-true, eq-eqb}
use Rattle.form.specs.Trees.{code, Ty, leaf, built, Built, list, range, context, function, Fields, no_fields, field, Tys, no_params, param}
use Rattle.form.specs.Form.{enc, Wf}
use Rattle.form.proofs.Types.{enc_same}
use Rattle.order.specs.Document.{eq_ty, eq_built, eq_fields, eq_tys}
use Rattle.order.proofs.Simple.{same_eq, and_left, and_right, and_both}

mutual
  unfolding eq_ty

  pub eq_ty_same : (a b : Ty) → eq_ty a b ≡ true → a ≡ b
  eq_ty_same (leaf s) (leaf t) h = ap leaf (same_eq s t h)
  eq_ty_same (leaf s) (built y) h = absurd (false≢true h)
  eq_ty_same (built x) (leaf t) h = absurd (false≢true h)
  eq_ty_same (built x) (built y) h = ap built (eq_built_same x y h)

  eq_built_same : (x y : Built) → eq_built x y ≡ true → x ≡ y
  eq_built_same (list a) (list b) h = ap list (eq_ty_same a b h)
  eq_built_same (list a) (range b) h = absurd (false≢true h)
  eq_built_same (list a) (context gs) h = absurd (false≢true h)
  eq_built_same (list a) (function qs s) h = absurd (false≢true h)
  eq_built_same (range a) (list b) h = absurd (false≢true h)
  eq_built_same (range a) (range b) h = ap range (eq_ty_same a b h)
  eq_built_same (range a) (context gs) h = absurd (false≢true h)
  eq_built_same (range a) (function qs s) h = absurd (false≢true h)
  eq_built_same (context fs) (list b) h = absurd (false≢true h)
  eq_built_same (context fs) (range b) h = absurd (false≢true h)
  eq_built_same (context fs) (context gs) h = ap context (eq_fields_same fs gs h)
  eq_built_same (context fs) (function qs s) h = absurd (false≢true h)
  eq_built_same (function ps r) (list b) h = absurd (false≢true h)
  eq_built_same (function ps r) (range b) h = absurd (false≢true h)
  eq_built_same (function ps r) (context gs) h = absurd (false≢true h)
  eq_built_same (function ps r) (function qs s) h =
      ap₂ function (eq_tys_same ps qs (and_left (eq_tys ps qs) (eq_ty r s) h)) (eq_ty_same r s (and_right (eq_tys ps qs) (eq_ty r s) h))

  pub eq_fields_same : (fs gs : Fields) → eq_fields fs gs ≡ true → fs ≡ gs
  eq_fields_same no_fields no_fields h = refl
  eq_fields_same no_fields (field m b gs) h = absurd (false≢true h)
  eq_fields_same (field n a fs) no_fields h = absurd (false≢true h)
  eq_fields_same (field n a fs) (field m b gs) h =
      let k = and_right (eqb n m) (eq_ty a b && eq_fields fs gs) h in
      let p = eqb-true n m (and_left (eqb n m) (eq_ty a b && eq_fields fs gs) h) in
      let q = eq_ty_same a b (and_left (eq_ty a b) (eq_fields fs gs) k) in
      let r = eq_fields_same fs gs (and_right (eq_ty a b) (eq_fields fs gs) k) in
      λ i. field (p i) (q i) (r i)

  eq_tys_same : (ps qs : Tys) → eq_tys ps qs ≡ true → ps ≡ qs
  eq_tys_same no_params no_params h = refl
  eq_tys_same no_params (param b qs) h = absurd (false≢true h)
  eq_tys_same (param a ps) no_params h = absurd (false≢true h)
  eq_tys_same (param a ps) (param b qs) h =
      ap₂ param (eq_ty_same a b (and_left (eq_ty a b) (eq_tys ps qs) h)) (eq_tys_same ps qs (and_right (eq_ty a b) (eq_tys ps qs) h))

mutual
  unfolding eq_ty

  pub eq_ty_self : (a : Ty) → eq_ty a a ≡ true
  eq_ty_self (leaf s) = eq-eqb (code s) (code s) refl
  eq_ty_self (built x) = eq_built_self x

  eq_built_self : (x : Built) → eq_built x x ≡ true
  eq_built_self (list a) = eq_ty_self a
  eq_built_self (range a) = eq_ty_self a
  eq_built_self (context fs) = eq_fields_self fs
  eq_built_self (function ps r) = and_both (eq_tys ps ps) (eq_ty r r) (eq_tys_self ps) (eq_ty_self r)

  eq_fields_self : (fs : Fields) → eq_fields fs fs ≡ true
  eq_fields_self no_fields = refl
  eq_fields_self (field n a fs) =
      and_both (eqb n n) (eq_ty a a && eq_fields fs fs) (eq-eqb n n refl) (and_both (eq_ty a a) (eq_fields fs fs) (eq_ty_self a) (eq_fields_self fs))

  eq_tys_self : (ps : Tys) → eq_tys ps ps ≡ true
  eq_tys_self no_params = refl
  eq_tys_self (param a ps) = and_both (eq_ty a a) (eq_tys ps ps) (eq_ty_self a) (eq_tys_self ps)

pub eq_ty_iff : (a b : Ty) → (eq_ty a b ≡ true) ↔ (a ≡ b)
eq_ty_iff a b = (eq_ty_same a b, λ e. ap (λ x. eq_ty a x) (sym e) ∙ eq_ty_self a)

-- type equality is byte equality
pub eq_bytes : (t u : Ty) → Wf t → Wf u → (eq_ty t u ≡ true) ↔ (enc t ≡ enc u)
eq_bytes t u v w = (λ h. ap enc (eq_ty_same t u h), λ h. (eq_ty_iff t u).1 (enc_same t u v w h))
