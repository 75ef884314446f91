-- `output::copy_name` meets its contract: the name is a part of the input, copied into the rest of the output.
-- Assumes nothing.
use native.Mathlib.Omega.{arith}
use mathlib.Core.Path.{◌≡◌, ap, ◌∙◌}
use mathlib.Core.List.{List}
use Prim.Native.Nat.{ℕ, ◌+◌, ◌-◌}
use lib.ListN.{take, drop}
use Rattle.form.specs.Limits.{name_width}
use Rattle.form.proofs.Whole.{bytes_of}
use Rattle.output.specs.Output.{over}
use Rattle.output.proofs.OntoLaws.{lent_over, name_bytes}
use Rattle.output.proofs.copy_name.Goals as goal

pub returns : goal.returns
returns c =
    let at = c.args.at in
    let to = c.args.to in
    let s = c.args.s.now in
    let out = c.args.out.now in
    let w : (at + name_width) - at ≡ name_width = omega arith in
    lent_over to out _ _ (omega (arith, c.requires.name_width_in_bounds_2)) c.copy.ensures ∙ ap
    (λ (z : List ℕ). over to z out)
    (ap (λ (k : ℕ). take k (drop at s)) w ∙ name_bytes name_width at s (bytes_of s c.shared_slice_known-1.given) c.requires.name_width_in_bounds)
