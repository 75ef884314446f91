-- `form::bytes::word_at` meets its contract: the two bytes from `at` on are the number's low and high byte (`word_is`).
-- Assumes nothing.
use mathlib.Core.Path.{sym, ◌∙◌}
use native.Mathlib.Omega.{arith}
use Rattle.form.proofs.Numbers.{word_is}
use Rattle.form.proofs.bytes.word_at.Goals as goal

pub returns : goal.returns
returns c =
    let args = c.args in
    (c.from.ensures ∙ c.from_le_bytes.ensures ∙ sym (word_is args.s.now args.at (omega arith)), omega (arith, c.from.ensures, c.from_le_bytes.type_inv))
