-- `types::judge` meets its contract: a yes of the walk is the answer; without it the readers give the refusals, and then the answer is no.
-- Assumes nothing.
use mathlib.Core.Path.{sym, ◌∙◌}
use Rattle.form.specs.Read.{read_type}
use Rattle.order.specs.Order.{order_of}
use Rattle.order.specs.Types.{le}
use Rattle.types.specs.Calls.{is_conformant_by, read_then_no}
use Rattle.types.proofs.TwoArguments.{asked_yes, not_yes}
use Rattle.types.proofs.judge.Goals as goal

pub returns-then-passes : goal.returns-then-passes
returns-then-passes c = asked_yes (is_conformant_by (order_of c.args.reading) c.args.a.now c.args.b.now) (sym c.if-passes.true ∙ c.passes.ensures)

pub returns : goal.returns
unfolding is_conformant_by read_then_no
returns c =
    c.refuse.ensures
    ∙ not_yes (le (order_of c.args.reading)) (read_type c.args.a.now) (read_type c.args.b.now) (sym c.if-passes.false ∙ c.passes.ensures)
