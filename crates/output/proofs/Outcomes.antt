-- The ways in which a call that builds ends, for any definition: `built_refused` (refused), `built_handed` (a refusal handed on), `built_short` (no room), `built_wrote` (written).
-- Assumes nothing.
use Prim.Native.Nat.{ℕ, ◌≤◌, ◌<◌}
use mathlib.Core.Path.{◌≡◌, refl, ap, ◌∙◌}
use mathlib.Core.List.{List}
use lib.ListN.{length}
use borrow.Author.Tests.{le-leb, lt-leb}
use Rattle.form.specs.Outcome.{Outcome, done, refused, ◌>>=◌, pick, fits}
use Rattle.std.specs.declared.result.Result.{Result}
use Rattle.std.specs.declared.result.Result.TheVariants.{Ok, Err}
use Rattle.std.specs.Prelude.{IsErrAnd}
use Rattle.std.proofs.lemmas.Result.{err_from_is_err_and}
use Rattle.form.specs.declared.refusals.Refusal.{Refusal}
use Rattle.form.specs.declared.refusals.Refusal.TheVariants.{Output}
use Rattle.form.specs.Answers.{number, onto, leaves, length_of, Built}

-- the definition refuses
pub built_refused : (o : Outcome (List ℕ)) (r : Refusal) (old : List ℕ) → o ≡ refused (number r) → Built o old old (Err r)
unfolding leaves length_of ◌>>=◌
built_refused o r old e = rw e (record { answer = refl; output = refl })

-- the exit by `?`: the refusal is handed on
pub built_handed : (o : Outcome (List ℕ)) (old : List ℕ) (r : Result ℕ Refusal) (e : Refusal) → IsErrAnd r (λ y. y ≡ e) → Built o old old (Err e) → Built o old old r
built_handed o old r e h b = let q = err_from_is_err_and r h in rw (q.1, q.2) b

-- no room for the bytes
pub built_short : (o : Outcome (List ℕ)) (bs old : List ℕ) → o ≡ fits (length old) bs → length old < length bs → Built o old old (Err Output)
built_short o bs old e h = built_refused o Output old (e ∙ ap (λ q. pick q (done bs) (refused 18)) (lt-leb (length bs) (length old) h))

done_wrote : (o : Outcome (List ℕ)) (bs old new : List ℕ) (n : ℕ) → o ≡ done bs → n ≡ length bs → new ≡ onto bs old → Built o old new (Ok n)
unfolding leaves length_of ◌>>=◌
done_wrote o bs old new n e en w = rw e (record { answer = ap done en; output = w })

-- the bytes are written
pub built_wrote : (o : Outcome (List ℕ)) (bs old new : List ℕ) (n : ℕ) → o ≡ fits (length old) bs → n ≡ length bs → length bs ≤ length old → new ≡ onto bs old → Built o old new (Ok n)
built_wrote o bs old new n e en h w = done_wrote o bs old new n (e ∙ ap (λ q. pick q (done bs) (refused 18)) (le-leb (length bs) (length old) h)) en w
