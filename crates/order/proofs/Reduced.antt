-- The reduced form of a well-formed type, of any size, is well-formed (`wf_reduce`): names and counts stay, by induction on the type.
-- Assumes nothing.
use Prim.Native.Nat.{ℕ, suc, ◌+◌, ◌<◌}
use mathlib.Core.Path.{◌≡◌, refl, sym, ap, subst}
use mathlib.Core.Bool.{Bool, true, false, cond}
use Rattle.form.specs.Trees.{any, Ty, leaf, built, Built, list, range, context, function, Fields, no_fields, field, Tys, no_params, param}
use Rattle.form.specs.Form.{count_fields, Wf, WfBuilt, WfFields, WfTys}
use Rattle.order.specs.Order.{Order}
use Rattle.order.specs.Types.{ignores, reduce, reduce_built, reduce_fields, reduce_tys}
use Rattle.order.proofs.Holds.{count_reduce_tys}

module _ (O : Order) where
  count_reduce_fields : (fs : Fields) → count_fields (reduce_fields O fs) ≡ count_fields fs
  unfolding reduce count_fields
  count_reduce_fields no_fields = refl
  count_reduce_fields (field n t fs) = ap suc (count_reduce_fields fs)

  wf_cond : (q : Bool) (t : Ty) → Wf t → Wf (cond q (leaf any) t)
  unfolding Wf
  wf_cond true t w = tt
  wf_cond false t w = w

  mutual
    unfolding Wf reduce

    pub wf_reduce : (t : Ty) → Wf t → Wf (reduce O t)
    wf_reduce (leaf s) w = tt
    wf_reduce (built x) w = wf_reduce_built x w

    wf_reduce_built : (x : Built) → WfBuilt x → WfBuilt (reduce_built O x)
    wf_reduce_built (list t) w = wf_reduce t w
    wf_reduce_built (range t) w = wf_reduce t w
    wf_reduce_built (context fs) w = (subst (λ n. n < 65536) (sym (count_reduce_fields fs)) w.0, wf_reduce_fields fs 0 w.1)
    wf_reduce_built (function ts t) w =
        (subst (λ n. n < 256) (sym (count_reduce_tys O ts)) w.0, (wf_reduce_tys ts w.1.0, wf_cond (ignores O ts) (reduce O t) (wf_reduce t w.1.1)))

    wf_reduce_fields : (fs : Fields) (k : ℕ) → WfFields fs k → WfFields (reduce_fields O fs) k
    wf_reduce_fields no_fields k w = tt
    wf_reduce_fields (field m t fs) k w = (w.0, (w.1.0, (wf_reduce t w.1.1.0, wf_reduce_fields fs (m + 1) w.1.1.1)))

    wf_reduce_tys : (ts : Tys) → WfTys ts → WfTys (reduce_tys O ts)
    wf_reduce_tys no_params w = tt
    wf_reduce_tys (param t ts) w = (wf_reduce t w.0, wf_reduce_tys ts w.1)
