-- `output::put_name` meets its contract: the low byte and the high byte are the name's bytes.
-- Assumes nothing.
use mathlib.Core.Path.{sym, ap, ◌∙◌}
use mathlib.Core.List.{List}
use Prim.Native.Nat.{ℕ}
use Rattle.output.specs.Output.{puts}
use Rattle.output.proofs.FillLaws.{two_bytes}
use Rattle.output.proofs.put_name.Goals as goal

pub returns : goal.returns
returns c =
    let put = c.put in record {
      value = put.ensures.value;
      out_after = put.ensures.out_after ∙ ap
          (λ (z : List ℕ). puts c.args.at z c.args.out.now)
          (sym (two_bytes c.args.name _ _ c.requires.name_lt_name_end c.low.ensures c.high.ensures));
    }
