-- The result of a call that builds a value: the refusals 17 and 18, in this order.
-- Assumes nothing.
use Rattle.std.specs.Prelude.{Bool, ◌&&◌, List, ℕ, length, leb}
use Rattle.form.specs.Limits.{most_bytes, value_levels}
use Rattle.form.specs.Outcome.{Outcome, ◌>>◌, check, fits}
use Rattle.form.specs.Trees.{Val}
use Rattle.form.specs.Form.{enc_v, level_v}

-- at most 16,384 bytes, and level 31
abbrev pub small : Val → Bool
small v = leb (length (enc_v v)) most_bytes && leb (level_v v) value_levels

-- 17: a value over 16,384 bytes or level 31; 18: no room for the answer
abbrev pub checked_result : ℕ → Val → Outcome (List ℕ)
checked_result room v = do
  check 17 (small v)
  fits room (enc_v v)
