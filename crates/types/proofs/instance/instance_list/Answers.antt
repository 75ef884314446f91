-- `types::instance::instance_list` meets its contract: a list of Any takes every list type, and two types are equal exactly when their bytes are,
-- since accepted types are their encodings.
-- Assumes nothing.
use mathlib.Core.Bool.{true≢false}
use mathlib.Core.Path.{sym, ◌∙◌}
use borrow.Author.Tests.{eqb-true, eqb-false}
use Rattle.std.proofs.lemmas.Bool.Decides.{Decides-eqb}
use Rattle.std.proofs.lemmas.Slice.Eq.{slice_eq-Decides}
use Rattle.form.proofs.Whole.{bytes_of}
use Rattle.types.specs.Calls.{instance_of}
use Rattle.types.proofs.Instances.{list_short, list_apart, list_over, list_any, list_same, list_differ}
use Rattle.types.proofs.instance.instance_list.Goals.{then-b-lt2-via-then-b-lt2, then-b-lt2-via-else-b-lt2+then-b-a, then-of_any, else-of_any, Else-b-a}
use Rattle.types.proofs.instance.instance_list.Goals as goal

pub returns-then-b-lt2 : goal.returns-then-b-lt2
unfolding instance_of
returns-then-b-lt2 c =
    elim c.then-b-lt2.branch [
      | then-b-lt2-via-then-b-lt2 w ↦ list_short c.args.a.now c.args.b.now c.requires.3 w.if-b-lt2.true
      | then-b-lt2-via-else-b-lt2+then-b-a w ↦ list_apart c.args.a.now c.args.b.now c.requires.3 (λ h. w.if-b-a.true (h ∙ sym c.requires.3))
    ]

pub returns-then-is_instance : goal.returns-then-is_instance
unfolding instance_of
returns-then-is_instance c =
    elim c.if-of_any.branch [
      | then-of_any w ↦
          list_any c.args.a.now c.args.b.now c.requires.3 (c.if-b-a.false ∙ c.requires.3) c.skip.result c.skip.ensures c.requires.1 c.requires.0
          w.if-of_any.true (eqb-true _ _ (sym w.is_instance-is ∙ c.if-is_instance.true))
      | else-of_any w ↦
          list_same c.args.a.now c.args.b.now c.requires.3 (c.if-b-a.false ∙ c.requires.3) c.skip.result c.skip.ensures c.requires.1 c.requires.0
          ((slice_eq-Decides Decides-eqb _ _ _ w.eq-is_instance.ensures).0 (sym w.is_instance-is ∙ c.if-is_instance.true))
    ]

pub returns-else-is_instance : goal.returns-else-is_instance
unfolding instance_of
returns-else-is_instance c =
    let d = (goal.at.returns-else-is_instance c).Else-b-a in
    c.if-is_instance.false
    ∙ elim c.if-of_any.branch [
      | then-of_any w ↦
          list_over c.args.a.now c.args.b.now c.requires.3 (c.if-b-a.false ∙ c.requires.3) w.if-of_any.true
          (eqb-false _ _ (sym w.is_instance-is ∙ c.if-is_instance.false))
      | else-of_any w ↦
          list_differ c.args.a.now c.args.b.now c.requires.3 (c.if-b-a.false ∙ c.requires.3) (bytes_of c.args.a.now d.type_inv.a) (bytes_of c.args.b.now d.type_inv.b)
          w.if-of_any.false
          (λ h. true≢false (sym ((slice_eq-Decides Decides-eqb _ _ _ w.eq-is_instance.ensures).1 h) ∙ sym w.is_instance-is ∙ c.if-is_instance.false))
    ]
