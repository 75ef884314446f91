-- The theorems on data values hold over every order, and so for document 01's; and those on the inferred type. Idea: a value conforms as its least type
-- does (proofs/Least.antt); sizes and levels are counted on the trees (proofs/LeastSize.antt, proofs/TypeOf.antt).
-- Index: `value_theorems`, `document_values`, `inferred_type`.
-- Assumes nothing.
use native.Mathlib.Omega.{arith}
use mathlib.Core.Path.{◌≡◌, refl}
use Rattle.form.specs.Trees.{Leaf, l_null, l_boolean, l_number, l_decimal, l_string, l_temporal, on_date, at_time, at_date_time, for_days_and_time, for_years_and_months, v_leaf}
use Rattle.form.specs.Form.{Wf}
use Rattle.form.specs.Layout.{leaf_type_command}
use Rattle.form.specs.Widths.{leaf_command, command_t}
use Rattle.order.specs.Order.{Order, Laws, fixed}
use Rattle.order.specs.Values.{least}
use Rattle.order.specs.Inferred.{type_of}
use Rattle.order.specs.ValueTheorems.{ValueTheorems, InferredType}
use Rattle.order.proofs.Simple.{fixed_laws}
use Rattle.order.proofs.Size.{length_enc}
use Rattle.order.proofs.Least as laws
use Rattle.order.proofs.LeastSize.{length_enc_v, size_least, level_least, wf_least}
use Rattle.order.proofs.TypeOf.{size_type_of, level_type_of, wf_type_of}

pub value_theorems : (O : Order) → Laws O → ValueTheorems O
value_theorems O L =
    record {
      by_least_type = laws.conforms_least O L;
      equal_least_types = λ v w hv hw sv sw dv dw.
          laws.least_equal O L Wf v w hv hw dv dw
          (wf_least O v hv (omega (arith, length_enc_v v)))
          (wf_least O w hw (omega (arith, length_enc_v w)));
      least_reduced = laws.least_reduced O;
      least_well_formed = λ v h s. wf_least O v h (omega (arith, length_enc_v v));
      least_length = λ v h. omega (arith, length_enc_v v, length_enc (least O v), size_least O v h);
      least_level = level_least O;
    }

-- document 01's relation
pub document_values : ValueTheorems fixed
document_values = value_theorems fixed fixed_laws

-- a leaf's type by its command
leaf_types : (x : Leaf) → leaf_type_command (leaf_command x) ≡ command_t (type_of (v_leaf x))
unfolding leaf_type_command type_of
leaf_types (l_null t) = refl
leaf_types (l_boolean b) = refl
leaf_types (l_number k) = refl
leaf_types (l_decimal k p) = refl
leaf_types (l_string n) = refl
leaf_types (l_temporal on_date k) = refl
leaf_types (l_temporal at_time k) = refl
leaf_types (l_temporal at_date_time k) = refl
leaf_types (l_temporal for_days_and_time k) = refl
leaf_types (l_temporal for_years_and_months k) = refl

pub inferred_type : InferredType
inferred_type =
    record {
      leaf_types = leaf_types;
      inferred_well_formed = λ v h s. wf_type_of v h (omega (arith, length_enc_v v));
      inferred_length = λ v. omega (arith, length_enc_v v, length_enc (type_of v), size_type_of v);
      inferred_level = level_type_of;
    }
