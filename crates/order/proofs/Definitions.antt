-- A function definition against a type, here and by DMN, which takes it as its function type: here each own parameter conforms to the target's, by DMN
-- the target's to the own. Idea: both are tests of the same shape, so they agree where their parts do.
-- Index: `definition_here`, `definition_dmn`, `definition_other` (the two tests); `definition_agrees`, `definition_same`, `definition_plain` (where they agree).
-- Assumes nothing.
use Prim.Native.Nat.{ℕ}
use mathlib.Core.Path.{◌≡◌, refl, sym, ◌∙◌, ap₂, subst}
use mathlib.Core.Bool.{true, ◌&&◌}
use Rattle.form.specs.Trees.{Ty, leaf, built, list, range, context, function, Tys, no_params, param, Params, no_parameters, v_function}
use Rattle.form.specs.Form.{WfParams}
use Rattle.order.specs.Order.{up, fixed, strict_order}
use Rattle.order.specs.Types.{cmp, les}
use Rattle.order.specs.Document.{conforms_to}
use Rattle.order.specs.Values.{types_of, conforms}
use Rattle.order.specs.Inferred.{value_conforms_to}
use Rattle.order.specs.Dmn.{dmn_conforms_to, definition_type}
use Rattle.order.proofs.Simple.{fixed_laws, flat_laws}
use Rattle.order.proofs.Conform.{cmps_refl}
use Rattle.order.proofs.Sentences.{le_functions}
use Rattle.order.proofs.Least.{asc_params}

module _ (ps : Params) (b : ℕ) (r : Ty) where
  -- each own parameter ≤ the target's
  pub definition_here : (qs : Tys) (s : Ty) → value_conforms_to (v_function ps b r) (built (function qs s)) ≡ les fixed (types_of ps) qs && conforms_to r s
  unfolding conforms
  definition_here qs s = refl

  -- each parameter of the target ≤ the own
  pub definition_dmn : (qs : Tys) (s : Ty) → dmn_conforms_to (definition_type ps r) (built (function qs s)) ≡ les strict_order qs (types_of ps) && dmn_conforms_to r s
  definition_dmn qs s = le_functions strict_order (types_of ps) qs r s

  -- a target that is no function type
  pub definition_other : (t : Ty) → ((qs : Tys) (s : Ty) → t ≡ built (function qs s) → ⊥) → value_conforms_to (v_function ps b r) t ≡ dmn_conforms_to (definition_type ps r) t
  unfolding conforms cmp
  definition_other (leaf s) h = refl
  definition_other (built (list u)) h = refl
  definition_other (built (range u)) h = refl
  definition_other (built (context fs)) h = refl
  definition_other (built (function qs s)) h = absurd (h qs s refl)

  -- where the parameters conform alike both ways round and the results agree, the two agree
  pub definition_agrees : (qs : Tys) (s : Ty) → les fixed (types_of ps) qs ≡ les strict_order qs (types_of ps) → conforms_to r s ≡ dmn_conforms_to r s
      → value_conforms_to (v_function ps b r) (built (function qs s)) ≡ dmn_conforms_to (definition_type ps r) (built (function qs s))
  definition_agrees qs s h k = definition_here qs s ∙ ap₂ ◌&&◌ h k ∙ sym (definition_dmn qs s)

  -- so with parameter types equal to the target's
  pub definition_same : (qs : Tys) (s : Ty) → WfParams ps → types_of ps ≡ qs → conforms_to r s ≡ dmn_conforms_to r s
      → value_conforms_to (v_function ps b r) (built (function qs s)) ≡ dmn_conforms_to (definition_type ps r) (built (function qs s))
  definition_same qs s w e k =
      definition_agrees qs s
      (subst (λ x. les fixed (types_of ps) x ≡ les strict_order x (types_of ps)) e
      (cmps_refl fixed fixed_laws up (types_of ps) (asc_params ps w) ∙ sym (cmps_refl strict_order (flat_laws true) up (types_of ps) (asc_params ps w)))) k

-- and without parameters
pub definition_plain : (b : ℕ) (r : Ty) (qs : Tys) (s : Ty) → conforms_to r s ≡ dmn_conforms_to r s
    → value_conforms_to (v_function no_parameters b r) (built (function qs s)) ≡ dmn_conforms_to (definition_type no_parameters r) (built (function qs s))
unfolding types_of cmp
definition_plain b r qs s k = definition_agrees no_parameters b r qs s (none_alike qs) k
  where
    none_alike : (qs : Tys) → les fixed (types_of no_parameters) qs ≡ les strict_order qs (types_of no_parameters)
    none_alike no_params = refl
    none_alike (param t qs) = refl
