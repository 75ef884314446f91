-- On data values conformance is DMN's, by types: a data value conforms to a type exactly when its least type does by DMN's own definition (`data_is_dmn`).
-- Idea: a value conforms as its least type does, and the least type of a data value has no function type without parameters, so both relations agree on it.
-- Assumes nothing.
use Prim.Native.Nat.{ℕ, ◌<◌}
use native.Mathlib.Omega.{arith}
use mathlib.Core.Path.{◌≡◌, refl, ◌∙◌}
use mathlib.Core.Bool.{Bool, true, false, ◌&&◌, false≢true}
use mathlib.Core.Logic.{inl}
use Rattle.form.specs.Trees.{null, Ty, leaf, built, Built, list, range, context, function, Fields, no_fields, field, Tys, no_params, param, Val, v_leaf, v_range, v_list, v_context, v_function}
use Rattle.form.specs.Trees.{v_built_in, v_type, v_irrelevant, Vals, no_items, item, Entries, no_entries, entry}
use Rattle.form.specs.Form.{count_tys}
use Rattle.order.specs.Order.{fixed}
use Rattle.order.specs.Types.{sup}
use Rattle.order.specs.Values.{is_data_by, are_data, hold_data, least, least_items, least_entries}
use Rattle.order.specs.Inferred.{value_conforms_to, is_data, least_type}
use Rattle.order.specs.Dmn.{dmn_conforms_to, Some, Parameters, ParametersBuilt, ParametersFields, ParametersTys}
use Rattle.order.proofs.Simple.{fixed_laws}
use Rattle.order.proofs.Holds.{Holds, HoldsBuilt, HoldsFields, HoldsTys, holds_sup}
use Rattle.order.proofs.Dmn.{agrees_either}
use Rattle.order.proofs.Least.{conforms_least}

-- any name; at least one parameter
abbrev P : ℕ → Type 0
P n = Unit {0}

abbrev Q : ℕ → Type 0
Q c = 0 < c

pub and_parts : (a b : Bool) → a && b ≡ true → (a ≡ true) × (b ≡ true)
and_parts true b h = (refl, h)
and_parts false b h = absurd (false≢true h)

some_of : (ps : Tys) → 0 < count_tys ps → Some ps
unfolding count_tys
some_of no_params h = omega arith
some_of (param t ps) h = tt

mutual
  unfolding Holds Parameters

  parameters : (t : Ty) → Holds P Q t → Parameters t
  parameters (leaf s) h = tt
  parameters (built x) h = parameters_built x h

  parameters_built : (x : Built) → HoldsBuilt P Q x → ParametersBuilt x
  parameters_built (list t) h = parameters t h
  parameters_built (range t) h = parameters t h
  parameters_built (context fs) h = parameters_fields fs h
  parameters_built (function ps r) h = (some_of ps h.0, (parameters_tys ps h.1, parameters r h.2))

  parameters_fields : (fs : Fields) → HoldsFields P Q fs → ParametersFields fs
  parameters_fields no_fields h = tt
  parameters_fields (field n t fs) h = (parameters t h.1, parameters_fields fs h.2)

  parameters_tys : (ps : Tys) → HoldsTys P Q ps → ParametersTys ps
  parameters_tys no_params h = tt
  parameters_tys (param t ps) h = (parameters t h.0, parameters_tys ps h.1)

-- the least type of a data value has no function at all
mutual
  unfolding least is_data_by Holds

  plain : (v : Val) → is_data v ≡ true → Holds P Q (least_type v)
  plain (v_leaf l) h = tt
  plain (v_range i j v w) h = let d = and_parts (is_data v) (is_data w) h in holds_sup P Q fixed (least_type v) (least_type w) (plain v d.0) (plain w d.1)
  plain (v_list vs) h = plain_items vs (leaf null) h tt
  plain (v_context es) h = plain_entries es h
  plain (v_function ps b r) h = absurd (false≢true h)
  plain (v_built_in b) h = absurd (false≢true h)
  plain (v_type t) h = absurd (false≢true h)
  plain v_irrelevant h = absurd (false≢true h)

  plain_items : (vs : Vals) (t : Ty) → are_data fixed vs ≡ true → Holds P Q t → Holds P Q (least_items fixed vs t)
  plain_items no_items t h g = g
  plain_items (item v vs) t h g =
      let d = and_parts (is_data v) (are_data fixed vs) h in
      plain_items vs (sup fixed t (least_type v)) d.1 (holds_sup P Q fixed t (least_type v) g (plain v d.0))

  plain_entries : (es : Entries) → hold_data fixed es ≡ true → HoldsFields P Q (least_entries fixed es)
  plain_entries no_entries h = tt
  plain_entries (entry n v es) h = let d = and_parts (is_data v) (hold_data fixed es) h in (tt, plain v d.0, plain_entries es d.1)

pub data_is_dmn : (v : Val) (t : Ty) → is_data v ≡ true → value_conforms_to v t ≡ dmn_conforms_to (least_type v) t
data_is_dmn v t h = conforms_least fixed fixed_laws v t h ∙ agrees_either (least_type v) t (inl (parameters (least_type v) (plain v h)))
