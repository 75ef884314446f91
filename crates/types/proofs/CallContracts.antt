-- The public calls: refusals first, then the answer of the walk.
-- Index: `was_refused`, `was_accepted`, `Accepts` (what a reader's answer says); `whole_type` (for the laws of TwoArguments); `question_refused`, `byte_there`, `simple_answered`,
-- `null_answered` (the questions on one type).
-- Assumes nothing.
use Prim.Native.Nat.{ℕ, ◌+◌, ◌<◌}
use mathlib.Core.Path.{◌≡◌, refl, sym, ap, ◌∙◌}
use mathlib.Core.Bool.{Bool}
use mathlib.Core.Option.{some}
use mathlib.Core.List.{List}
use native.Mathlib.Omega.{arith}
use lib.ListN.{length, get_or}
use lib.Dec.{eqb, ltb}
use borrow.Author.Tests.{lt-ltb}
use Rattle.std.proofs.lemmas.Bool.Decides.{nat_tests}
use Rattle.form.specs.Trees.{Ty, leaf, built, list, range, context, function, code, simple}
use Rattle.form.specs.Limits.{type_levels, type_refusals}
use Rattle.form.specs.Outcome.{done, refused, ◌>>=◌}
use Rattle.form.specs.Form.{level}
use Rattle.form.specs.Read.{read_t, read_type, check_type}
use Rattle.form.proofs.Accepted.{whole_got, level_told, level_refused}
use Rattle.form.proofs.ExactTypes.{code_small}
use Rattle.form.proofs.Nodes.{type_read}
use Rattle.order.specs.Size.{size}
use Rattle.order.proofs.Size.{size_positive}
use Rattle.types.specs.At.{type_at}
use Rattle.types.specs.Calls.{is_simple_built_in_type, null_type, is_null}
use Rattle.types.proofs.Reading.{got_seen, cmd, cmd_is, some_byte, type_told}
use Rattle.types.proofs.TwoArguments.{Whole, whole_by}

-- ---- what a reader's answer says
pub was_refused : (s : List ℕ) (n : ℕ) → refused n ≡ check_type s → read_type s ≡ refused n
unfolding check_type
was_refused s n e = level_refused level (read_type s) n (sym e)

pub record Accepts (s : List ℕ) : Type 0 where
  pub t : Ty
  pub whole : read_type s ≡ done t
  pub stands : type_at type_levels s ≡ some t

pub was_accepted : (s : List ℕ) (n : ℕ) → done n ≡ check_type s → Accepts s
unfolding check_type type_at
was_accepted s n e =
    level_told level (read_type s) n (sym e) (λ t r d.
    record { t = t; whole = r; stands = got_seen (read_t type_levels s) t (length s) (whole_got type_refusals (read_t type_levels) s t r) })

pub whole_type : Whole size (type_at type_levels) read_type
unfolding type_at
whole_type = whole_by size (read_t type_levels) type_refusals size_positive (λ s t n e. ((type_told type_levels s t n e).sized, (type_read type_levels s t n e).some_byte))

-- ---- the questions on one type: by the command byte
simple_cmd : (t : Ty) → ltb (cmd t) 0x2A ≡ simple t
simple_cmd (leaf s) = let h = code_small s in lt-ltb (0x20 + code s) 0x2A (omega arith)
simple_cmd (built (list t)) = refl
simple_cmd (built (range t)) = refl
simple_cmd (built (context fs)) = refl
simple_cmd (built (function ps r)) = refl

null_cmd : (t : Ty) → eqb (cmd t) 0x29 ≡ null_type t
null_cmd (leaf s) = grind (arith, nat_tests)
null_cmd (built (list t)) = refl
null_cmd (built (range t)) = refl
null_cmd (built (context fs)) = refl
null_cmd (built (function ps r)) = refl

module _ (s : List ℕ) (n : ℕ) where
  pub question_refused : (answer : Ty → Bool) → refused n ≡ check_type s → refused n ≡ (do t ← read_type s; done (answer t))
  unfolding ◌>>=◌
  question_refused answer e = rw (was_refused s n e)

  module _ (e : done n ≡ check_type s) where
    pub byte_there : 0 < length s
    byte_there = let A = was_accepted s n e in some_byte type_levels s A.t A.stands

    answered : (answer : Ty → Bool) (test : ℕ → Bool) → ((t : Ty) → test (cmd t) ≡ answer t) → done (test (get_or s 0 0)) ≡ (do t ← read_type s; done (answer t))
    unfolding ◌>>=◌
    answered answer test h = let A = was_accepted s n e in rw A.whole (ap done (ap test (sym (cmd_is type_levels s A.t A.stands)) ∙ h A.t))

    pub simple_answered : done (ltb (get_or s 0 0) 0x2A) ≡ is_simple_built_in_type s
    unfolding is_simple_built_in_type
    simple_answered = answered simple (λ b. ltb b 0x2A) simple_cmd

    pub null_answered : done (eqb (get_or s 0 0) 0x29) ≡ is_null s
    unfolding is_null
    null_answered = answered null_type (λ b. eqb b 0x29) null_cmd
