-- The theorems on types hold over every order (`theorems`), and so for document 01's (`document`). Idea: one equation for each of supertype and subtype (proofs/Bound.antt),
-- from which the rest follows (proofs/Laws.antt); the numbers in an answer fit (proofs/WellFormed.antt).
-- Assumes nothing.
use native.Mathlib.Omega.{arith}
use Rattle.order.specs.Order.{Order, Laws, fixed}
use Rattle.order.specs.Types.{sup, sub}
use Rattle.order.specs.Theorems.{Theorems}
use Rattle.order.proofs.Simple.{fixed_laws}
use Rattle.order.proofs.Answers.{asc_sup, asc_sub}
use Rattle.order.proofs.Laws as laws
use Rattle.order.proofs.Size.{length_enc, size_sup, size_sub, level_sup, level_sub}
use Rattle.order.proofs.WellFormed.{asc_of, wf_sup, wf_sub}
use Rattle.order.proofs.Reduced.{wf_reduce}

pub theorems : (O : Order) → Laws O → Theorems O
theorems O L = record {
  reflexive = λ a v. laws.le_refl O L a (asc_of a v);
  transitive = laws.le_trans O L;
  supertype_key = laws.le_sup O L;
  subtype_key = laws.le_sub O L;
  supertype_above = λ a b v w. let s = asc_sup O a b (asc_of a v) (asc_of b w) in (laws.sup_left O L a b s, laws.sup_right O L a b s);
  supertype_least = laws.sup_least O L;
  subtype_below = λ a b v w. let s = asc_sub O a b (asc_of a v) (asc_of b w) in (laws.sub_left O L a b s, laws.sub_right O L a b s);
  subtype_greatest = laws.sub_greatest O L;
  each_other = λ a b v w. laws.mutual_reduce O L a b (asc_of a v) (asc_of b w);
  reduced_well_formed = wf_reduce O;
  supertype_reduced = laws.sup_reduced O L;
  subtype_reduced = laws.sub_reduced O L;
  supertype_well_formed = λ a b v w h. wf_sup O a b v w (omega (arith, length_enc a, length_enc b));
  subtype_well_formed = λ a b v w h. wf_sub O a b v w (omega (arith, length_enc a, length_enc b));
  supertype_level = level_sup O;
  subtype_level = level_sub O;
  supertype_length = λ a b v. omega (arith, length_enc a, length_enc b, length_enc (sup O a b), size_sup O a b (asc_of a v));
  subtype_length = λ a b v. omega (arith, length_enc a, length_enc b, length_enc (sub O a b), size_sub O a b (asc_of a v));
}

-- document 01's relation
pub document : Theorems fixed
document = theorems fixed fixed_laws
