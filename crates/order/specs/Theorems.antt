-- What is proved of types: for well-formed types of any size, over every order among the simple types. Document 01's relation is the instance `fixed`.
-- Assumes nothing.
use Rattle.std.specs.Prelude.{◌+◌, ◌<◌, ◌≤◌, max, ◌≡◌, true, ◌&&◌, ◌↔◌, length}
use Rattle.form.specs.Trees.{Ty}
use Rattle.form.specs.Form.{enc, level, Wf}
use Rattle.order.specs.Order.{Order}
use Rattle.order.specs.Types.{le, reduce, sup, sub}

pub record Theorems (O : Order) : Type 0 where
  -- conformance is reflexive and transitive
  pub reflexive : (a : Ty) → Wf a → le O a a ≡ true
  pub transitive : (a b c : Ty) → le O a b ≡ true → le O b c ≡ true → le O a c ≡ true
  -- the supertype conforms to a type exactly when both do; a type conforms to the subtype exactly when it conforms to both
  pub supertype_key : (a b c : Ty) → le O (sup O a b) c ≡ le O a c && le O b c
  pub subtype_key : (a b c : Ty) → le O c (sub O a b) ≡ le O c a && le O c b
  -- so the supertype is the least upper bound, and the subtype the greatest lower bound, among types of any size
  pub supertype_above : (a b : Ty) → Wf a → Wf b → (le O a (sup O a b) ≡ true) × (le O b (sup O a b) ≡ true)
  pub supertype_least : (a b c : Ty) → le O a c ≡ true → le O b c ≡ true → le O (sup O a b) c ≡ true
  pub subtype_below : (a b : Ty) → Wf a → Wf b → (le O (sub O a b) a ≡ true) × (le O (sub O a b) b ≡ true)
  pub subtype_greatest : (a b c : Ty) → le O c a ≡ true → le O c b ≡ true → le O c (sub O a b) ≡ true
  -- two types each conform to the other exactly when their reduced forms are equal
  pub each_other : (a b : Ty) → Wf a → Wf b → ((le O a b ≡ true) × (le O b a ≡ true)) ↔ (reduce O a ≡ reduce O b)
  -- a reduced form is well-formed
  pub reduced_well_formed : (a : Ty) → Wf a → Wf (reduce O a)
  -- answers are reduced, and well-formed where both inputs together have fewer than 65,536 bytes
  pub supertype_reduced : (a b : Ty) → reduce O (sup O a b) ≡ sup O a b
  pub subtype_reduced : (a b : Ty) → reduce O (sub O a b) ≡ sub O a b
  pub supertype_well_formed : (a b : Ty) → Wf a → Wf b → length (enc a) + length (enc b) < 65536 → Wf (sup O a b)
  pub subtype_well_formed : (a b : Ty) → Wf a → Wf b → length (enc a) + length (enc b) < 65536 → Wf (sub O a b)
  -- an answer's level is at most the larger of the two
  pub supertype_level : (a b : Ty) → level (sup O a b) ≤ max (level a) (level b)
  pub subtype_level : (a b : Ty) → level (sub O a b) ≤ max (level a) (level b)
  -- an answer is never longer than the two inputs together
  pub supertype_length : (a b : Ty) → Wf a → length (enc (sup O a b)) ≤ length (enc a) + length (enc b)
  pub subtype_length : (a b : Ty) → Wf a → length (enc (sub O a b)) ≤ length (enc a) + length (enc b)
