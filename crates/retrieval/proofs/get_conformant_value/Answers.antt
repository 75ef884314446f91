-- `retrieval::get_conformant_value` meets its contract: of a value that conforms both calls answer alike; otherwise there is a refusal or null.
-- Assumes nothing.
use mathlib.Core.Path.{sym, ◌∙◌, subst}
use lib.ListN.{length}
use Rattle.form.specs.Answers.{Built}
use Rattle.form.proofs.Whole.{bytes_of}
use Rattle.values.proofs.CallContracts.{passed}
use Rattle.retrieval.proofs.CallContracts.{is_conformant_lem}
use Rattle.retrieval.proofs.get_conformant_value.Goals as goal

pub write_retrieved-requires : goal.write_retrieved-requires
write_retrieved-requires c =
    let args = c.args in
    (passed args.t.now args.v.now (bytes_of args.t.now c.shared_slice_known-1.given)
    (bytes_of args.v.now c.shared_slice_known-2-1.given) (sym c.if-passes.true ∙ c.passes.ensures)).both

pub returns-then-passes : goal.returns-then-passes
returns-then-passes c =
    let args = c.args in
    let passed1 = passed args.t.now args.v.now (bytes_of args.t.now c.shared_slice_known-1.given)
    (bytes_of args.v.now c.shared_slice_known-2-1.given) (sym c.if-passes.true ∙ c.passes.ensures) in
    subst
    (λ o. Built o args.out.now c.write_retrieved.new.out c.write_retrieved.result)
    (is_conformant_lem args.t.now args.v.now passed1.both passed1.holds (length args.out.now)) c.write_retrieved.ensures

pub give_nothing-requires : goal.give_nothing-requires
give_nothing-requires c = sym c.if-passes.false ∙ c.passes.ensures
