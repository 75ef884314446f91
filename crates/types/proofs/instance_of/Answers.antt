-- `types::instance_of` meets its contract: a yes of the walk is the answer; without it the readers give the refusals, and then the answer is no.
-- Assumes nothing.
use mathlib.Core.Path.{sym, ◌∙◌}
use Rattle.form.specs.Read.{read_type}
use Rattle.order.specs.Document.{is_instance_of}
use Rattle.types.specs.Calls.{instance_of, read_then_no}
use Rattle.types.proofs.TwoArguments.{asked_yes, not_yes}
use Rattle.types.proofs.instance_of.Goals as goal

pub returns-then-is_instance : goal.returns-then-is_instance
returns-then-is_instance c = asked_yes (instance_of c.args.a.now c.args.b.now) (sym c.if-is_instance.true ∙ c.is_instance.ensures)

pub returns : goal.returns
unfolding instance_of read_then_no
returns c =
    c.refuse.ensures ∙ not_yes is_instance_of (read_type c.args.a.now) (read_type c.args.b.now) (sym c.if-is_instance.false ∙ c.is_instance.ensures)
