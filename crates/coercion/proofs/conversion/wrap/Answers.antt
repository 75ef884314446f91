-- `coercion::conversion::wrap` meets its contract: a one-item list has three bytes in front of its item and one level more.
-- Assumes nothing.
use Rattle.coercion.proofs.Rules.{wrap_long, wrap_deep, wrap_short, wrap_done}
use Rattle.coercion.proofs.conversion.wrap.Goals as goal
use Rattle.coercion.proofs.conversion.wrap.Goals.{then-is_long-via-then-is_long, then-is_long-via-else-is_long+then-level-gt-VALUE_LEVELS}

pub returns-then-is_long : goal.returns-then-is_long
returns-then-is_long c =
    elim c.then-is_long.branch [
      | then-is_long-via-then-is_long w ↦ wrap_long _ _ _ w.if-is_long.true
      | then-is_long-via-else-is_long+then-level-gt-VALUE_LEVELS w ↦ wrap_deep _ _ _ w.if-is_long.false w.if-level-gt-VALUE_LEVELS.true
    ]

pub returns-then-out-n : goal.returns-then-out-n
returns-then-out-n c = wrap_short _ _ _ c.if-is_long.false c.if-level-gt-VALUE_LEVELS.false c.if-out-n.true

pub returns : goal.returns
returns c = wrap_done _ _ _ c.if-is_long.false c.if-level-gt-VALUE_LEVELS.false c.if-out-n.false _ _ c.copy.ensures c.copy-2.ensures
