-- The cycle `form::walk::walk_type`, `walk_types`, `walk_fields` meets its contracts; the measure is twice the level that is left, one more for the loops.
use Prim.Native.Nat.{ℕ, ◌+◌, ◌*◌}
use Rattle.form.specs.Trees.{no_fields, field, no_params, param}
use Rattle.form.specs.Form.{level_fields, level_tys}
use Rattle.form.specs.Read.{read_t, read_run, read_named, ascending}
use Rattle.form.specs.Walks.{walk_by}
use Rattle.form.proofs.Runs.{RunInv}
use Rattle.form.proofs.walk.+walk_fields_walk_type_walk_types.Given as goal

abbrev pub decreases-walk_fields : goal.decreases-walk_fields
decreases-walk_fields l = 2 * l.left + 1

abbrev pub decreases-walk_type : goal.decreases-walk_type
decreases-walk_type l = 2 * l.left

abbrev pub decreases-walk_types : goal.decreases-walk_types
decreases-walk_types l = 2 * l.left + 1

abbrev pub invariant-walk_fields-loop : goal.invariant-walk_fields-loop
invariant-walk_fields-loop l = RunInv level_fields
    (walk_by level_fields 0 0 (read_named no_fields field ascending (read_t l.left) l.count 0 l.s))
    (λ (n : ℕ). read_named no_fields field ascending (read_t l.left) n l.least)
    l.s l.count l.at l.deep l.counter

abbrev pub invariant-walk_types-loop : goal.invariant-walk_types-loop
invariant-walk_types-loop l = RunInv level_tys (walk_by level_tys 0 0 (read_run no_params param (read_t l.left) l.count l.s))
    (read_run no_params param (read_t l.left)) l.s l.count l.at l.deep l.counter
