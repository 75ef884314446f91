-- What stands between a builder and the answer of a call.
-- Assumes nothing.
use Rattle.std.specs.Prelude.{ℕ, ◌+◌, ◌-◌, ◌≤◌, ◌≡◌, List, [], ◌∷◌, length, take, drop, Ok, Err, Result}
use Rattle.std.proofs.Math.Option.{Option}
use Rattle.form.specs.declared.refusals.Refusal.{Refusal}
use Rattle.form.specs.Answers.{number}
use Rattle.paths.specs.Calls.{context_of}
use Rattle.form.specs.Limits.{name_width, most_bytes}
use Rattle.form.specs.Trees.{Val, v_context, Entries}
use Rattle.form.specs.Form.{enc_v, level_v}
use Rattle.form.specs.Outcome.{Outcome, done, refused, ◌>>=◌, or_refuse}
use Rattle.paths.specs.Way.{cut_of}
use Rattle.paths.specs.declared.way.Cut.{Cut}
use Rattle.output.specs.Result.{checked_result}

-- A context is built in a spare place and given where it fits:
-- the first n bytes of the spare place are w's, where w is not over 16,384 bytes, and its level is that
pub record Holds (spare : List ℕ) (n level : ℕ) (w : Val) : Type 0 where
  pub long : n ≡ length (enc_v w)
  pub text : n ≤ most_bytes → take n spare ≡ enc_v w
  pub deep : level ≡ level_v w

-- 16 where there is none, 17, 18
abbrev pub answered : ℕ → Option Entries → Outcome (List ℕ)
answered room o = do
  es ← or_refuse 16 o
  checked_result room (v_context es)

-- the cut of the entry of a name in the context c, or the refusal
abbrev pub Finds : ℕ → List ℕ → Result Cut Refusal → Type 0
Finds n c (Ok cut) = (es : Entries) × (context_of c 0 ≡ done es) × (cut ≡ cut_of (n ∷ []) (v_context es))
Finds n c (Err refusal) = context_of c 0 ≡ refused (number refusal)

-- the bytes of the value in the entry from `at` to `to`
abbrev pub value_in : List ℕ → ℕ → ℕ → List ℕ
value_in c at to = take (to - (at + name_width)) (drop (at + name_width) c)
