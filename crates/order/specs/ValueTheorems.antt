-- What is proved of data values, over every order among the simple types; types are of any size. Document 01's relation is the instance `fixed`.
-- And what is proved of the type that the Rust infers.
-- Assumes nothing.
use Rattle.std.specs.Prelude.{◌+◌, ◌<◌, ◌≤◌, ◌≡◌, true, ◌↔◌, length}
use Rattle.form.specs.Trees.{Ty, Leaf, Val, v_leaf}
use Rattle.form.specs.Layout.{leaf_type_command}
use Rattle.form.specs.Widths.{leaf_command, command_t}
use Rattle.form.specs.Form.{enc, enc_v, level, level_v, Wf, WfV}
use Rattle.order.specs.Order.{Order}
use Rattle.order.specs.Types.{le, reduce}
use Rattle.order.specs.Values.{conforms, is_data_by, least}
use Rattle.order.specs.Inferred.{type_of}

pub record ValueTheorems (O : Order) : Type 0 where
  -- a data value conforms to a type exactly when its least type does
  pub by_least_type : (v : Val) (t : Ty) → is_data_by O v ≡ true → conforms O v t ≡ le O (least O v) t
  -- least types are equal exactly when no type has one of the two values conforming to it and the other not
  pub equal_least_types : (v w : Val) → WfV v → WfV w → length (enc_v v) < 65536 → length (enc_v w) < 65536 → is_data_by O v ≡ true → is_data_by O w ≡ true
      → (least O v ≡ least O w) ↔ ((t : Ty) → Wf t → conforms O v t ≡ conforms O w t)
  -- a least type is reduced; well-formed; never longer than its value; at most one level deeper
  pub least_reduced : (v : Val) → reduce O (least O v) ≡ least O v
  pub least_well_formed : (v : Val) → WfV v → length (enc_v v) < 65536 → Wf (least O v)
  pub least_length : (v : Val) → WfV v → length (enc (least O v)) ≤ length (enc_v v)
  pub least_level : (v : Val) → level (least O v) ≤ level_v v + 1

-- the type that the Rust infers: of a leaf the one that the code has by the leaf's command; well-formed, never longer than its value, at most one level deeper
pub record InferredType : Type 0 where
  pub leaf_types : (x : Leaf) → leaf_type_command (leaf_command x) ≡ command_t (type_of (v_leaf x))
  pub inferred_well_formed : (v : Val) → WfV v → length (enc_v v) < 65536 → Wf (type_of v)
  pub inferred_length : (v : Val) → length (enc (type_of v)) ≤ length (enc_v v)
  pub inferred_level : (v : Val) → level (type_of v) ≤ level_v v + 1
