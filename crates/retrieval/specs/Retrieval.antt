-- What is stated of retrieval on trees.
-- Assumes nothing.
use Rattle.std.specs.Prelude.{◌≤◌, ◌≡◌, true}
use Rattle.std.proofs.Math.Option.{some}
use Rattle.form.specs.Trees.{Ty, built, context, Fields, Val, v_context, Entries}
use Rattle.form.specs.Form.{level_v, Wf, WfV}
use Rattle.order.specs.Size.{size_val}
use Rattle.order.specs.Inferred.{value_conforms_to}
use Rattle.retrieval.specs.Retrieve.{retrieve, retrieve_entries}
use Rattle.retrieval.specs.ByNames.{retrieve_by_names, entries_by_names}

-- what is retrieved of a value, and that it conforms
pub record There (v : Val) (t : Ty) : Type 0 where
  pub w : Val
  pub is : retrieve v t ≡ some w
  pub conforms_too : value_conforms_to w t ≡ true

pub record Retrieval : Type 0 where
  -- over the type's names or over the value's entries: the same value, or Err by both
  pub by_names : (v : Val) (t : Ty) → WfV v → Wf t → retrieve_by_names v t ≡ retrieve v t
  -- so of a context: the same entries, or Err by both
  pub same_entries : (es : Entries) (fs : Fields) → WfV (v_context es) → Wf (built (context fs)) → entries_by_names es fs ≡ retrieve_entries es fs
  -- behind conformance there always is a value: 15 is never met; and it conforms
  pub behind_conformance : (v : Val) (t : Ty) → WfV v → Wf t → value_conforms_to v t ≡ true → There v t
  -- never longer nor deeper than the value, and well-formed: 17 is never met
  pub never_longer : (v : Val) (t : Ty) (w : Val) → retrieve v t ≡ some w → size_val w ≤ size_val v
  pub never_deeper : (v : Val) (t : Ty) (w : Val) → retrieve v t ≡ some w → level_v w ≤ level_v v
  pub well_formed : (v : Val) (t : Ty) (w : Val) → retrieve v t ≡ some w → WfV v → WfV w
