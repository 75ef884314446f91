-- `form::walk::walk_definition` meets its contract: the result type, then one loop over names and types, whose turns are laws of Loops.
use Prim.Native.Nat.{ℕ}
use Rattle.form.specs.Trees.{no_parameters, parameter}
use Rattle.form.specs.Form.{level, level_params}
use Rattle.form.specs.Read.{read_t, read_named, any_order}
use Rattle.form.specs.Walks.{pair_walk}
use Rattle.form.proofs.Runs.{RunInv}
use Rattle.form.proofs.walk.walk_definition.Given as goal

abbrev pub invariant-loop : goal.invariant-loop
invariant-loop l = RunInv level_params
    (pair_walk level level_params l.s (read_named no_parameters parameter any_order (read_t l.left) l.count 0)
    (read_t l.left l.s))
    (λ (n : ℕ). read_named no_parameters parameter any_order (read_t l.left) n 0)
    l.s l.count l.at l.deep l.counter
