-- The calls with an output: refused by 19, or what the work gives is handed on.
-- Assumes nothing.
use Prim.Native.Nat.{ℕ, ◌<◌, ◌≤◌}
use native.Mathlib.Omega.{arith}
use mathlib.Core.Path.{◌≡◌, refl, sym, ap, ap₂, subst, ◌∙◌}
use mathlib.Core.Option.{Option, none, some}
use mathlib.Core.List.{List}
use lib.ListN.{length, take}
use borrow.Author.Tests.{le-leb, lt-leb}
use Rattle.std.specs.Prelude.{Option as Answer, None, Some, IfSome, Result, Err}
use Rattle.form.specs.Limits.{most_bytes}
use Rattle.std.proofs.lemmas.Option.{none-some, same_Some}
use Rattle.form.specs.Outcome.{◌>>=◌, ◌>>◌, or_refuse, fits}
use Rattle.form.specs.Answers.{Built}
use Rattle.form.specs.Options.{map}
use Rattle.form.specs.declared.refusals.Refusal.{Refusal}
use Rattle.form.specs.declared.refusals.Refusal.TheVariants.{Texts}
use Rattle.output.proofs.Outcomes.{built_refused}
use Rattle.output.proofs.FillLaws.{fill_front}
use Rattle.names.specs.Names.{trim, name_new, Writes}
use Rattle.names.specs.Reader.{provided}
use Rattle.names.specs.Parts.{counted_parts, read_parts}
use Rattle.names.specs.Calls.{name_new_call, trim_call}

-- ---- trim with an output
module _ (s old : List ℕ) where
  pub trim_long : most_bytes < length s → Built (trim_call s (length old)) old old (Err Texts)
  unfolding trim_call ◌>>◌
  trim_long h = built_refused (trim_call s (length old)) Texts old (rw (lt-leb (length s) most_bytes h))

  pub trim_given : length s ≤ most_bytes → (t new : List ℕ) (r : Result ℕ Refusal) → t ≡ trim s → Built (fits (length old) t) old new r → Built (trim_call s (length old)) old new r
  unfolding trim_call ◌>>◌
  trim_given h t new r e b = rw (le-leb (length s) most_bytes h, ← e) b

-- ---- Name::new
-- by the name alone
named_call : (o : Option (List (List ℕ))) (room : ℕ) → ◌>>=◌ (or_refuse 19 o) (λ ps. fits room (name_new ps)) ≡ ◌>>=◌ (or_refuse 19 (map name_new o)) (fits room)
unfolding ◌>>=◌
named_call none room = refl
named_call (some ps) room = refl

module _ (parts old : List ℕ) (o : Option (List ℕ)) (eo : map name_new (read_parts parts) ≡ o) where
  name_call : name_new_call parts (length old) ≡ ◌>>=◌ (or_refuse 19 o) (fits (length old))
  unfolding name_new_call
  name_call = named_call (read_parts parts) (length old) ∙ ap (λ (n : Option (List ℕ)). ◌>>=◌ (or_refuse 19 n) (fits (length old))) eo

pub parts_long : (parts old : List ℕ) → most_bytes < length parts → Built (name_new_call parts (length old)) old old (Err Texts)
unfolding read_parts ◌>>=◌
parts_long parts old h =
    built_refused (name_new_call parts (length old)) Texts old (name_call parts old none (ap (λ q. map name_new (provided q (counted_parts parts))) (lt-leb (length parts) most_bytes h)))

-- what stands in a spare place
module _ (parts old was spare : List ℕ) (r : Answer ℕ) (w : Writes (map name_new (read_parts parts)) was spare r) where
  pub name_refused : r ≡ None → Built (name_new_call parts (length old)) old old (Err Texts)
  unfolding Writes ◌>>=◌
  name_refused e = go (map name_new (read_parts parts)) refl w
    where
      go : (o : Option (List ℕ)) → map name_new (read_parts parts) ≡ o → Writes o was spare r → Built (name_new_call parts (length old)) old old (Err Texts)
      go none eo v = built_refused (name_new_call parts (length old)) Texts old (name_call parts old none eo)
      go (some bs) eo v = absurd (none-some (length bs) (sym e ∙ v.0))

  pub name_handed : (n : ℕ) → r ≡ Some n → IfSome r (λ k. k ≤ length parts) → length parts ≤ length was
      → (new : List ℕ) (q : Result ℕ Refusal) → Built (fits (length old) (take n spare)) old new q → Built (name_new_call parts (length old)) old new q
  unfolding Writes ◌>>=◌
  name_handed n e h l new q b = go (map name_new (read_parts parts)) refl w
    where
      go : (o : Option (List ℕ)) → map name_new (read_parts parts) ≡ o → Writes o was spare r → Built (name_new_call parts (length old)) old new q
      go none eo v = absurd (none-some n (sym v ∙ e))
      go (some bs) eo v =
          let k : n ≡ length bs = same_Some n (length bs) (sym e ∙ v.0) in
          let whole : take n spare ≡ bs = ap₂ take k v.1 ∙ fill_front bs was (omega (arith, subst (λ x. IfSome x (λ k. k ≤ length parts)) e h)) in
          rw (name_call parts old (some bs) eo, ← whole) b
