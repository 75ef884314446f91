-- `Name::new`: what a part adds, and the loop over the parts. Idea: the name so far and the parts that are left make the whole name.
-- Index: `trim_shorter`, `added_length`, `plain_is` (a part); `Naming`, `naming_starts`, `naming_next`, `naming_broken`, `naming_ended`, `nothing_read` (the loop).
-- Assumes nothing.
use Prim.Native.Nat.{ℕ, zero, suc, ◌+◌, ◌-◌, ◌<◌, ◌≤◌}
use native.Mathlib.Omega.{arith}
use native.Mathlib.Numerals.{add-one}
use mathlib.Core.Path.{◌≡◌, refl, sym, ap, ap₂, ◌∙◌}
use mathlib.Core.Bool.{Bool, true, false, cond}
use mathlib.Core.Option.{Option, none, some}
use mathlib.Core.List.{List, [], ◌∷◌, ◌++◌}
use lib.ListN.{length, get_or, length-append}
use lib.Dec.{leb}
use borrow.Author.Tests.{le-leb, lt-leb}
use Rattle.std.specs.Prelude.{Option as Answer, None, Some}
use Rattle.std.specs.Bool.{MatchBool}
use Rattle.std.specs.Str.{IsAscii, IsNotAscii}
use Rattle.std.proofs.lemmas.List.Recursion.{and_from_places, and_fails_at}
use Rattle.form.specs.Limits.{most_bytes}
use Rattle.form.specs.Options.{map}
use Rattle.output.specs.Output.{fill, puts}
use Rattle.output.proofs.FillLaws.{length_fill, put_then}
use Rattle.names.specs.Names.{blank, trim_start, keep, trim_end, trim, is_mark, parted, space, added, pushed, name_new, Writes}
use Rattle.names.specs.Reader.{at_end, provided, split_text, read_texts}
use Rattle.names.specs.Parts.{plain, in_parts, counted_parts, read_parts}
use Rattle.names.proofs.Reader.{read_zero, split_none, split_some, split_length}
use Rattle.names.proofs.Pieces.{fill_none}

-- ---- a part
chosen : (q : Bool) (b : ℕ) (s t : List ℕ) → length s ≤ length t → length (cond q s (b ∷ t)) ≤ suc (length t)
chosen true b s t h = omega arith
chosen false b s t h = omega arith

start_shorter : (s : List ℕ) → length (trim_start s) ≤ length s
unfolding trim_start
start_shorter [] = omega arith
start_shorter (b ∷ s) = chosen (blank b) b (trim_start s) s (start_shorter s)

kept_length : (b : ℕ) (s : List ℕ) → length (keep b s) ≤ suc (length s)
kept_length b [] = chosen (blank b) b [] [] (omega arith)
kept_length b (c ∷ s) = omega arith

end_shorter : (s : List ℕ) → length (trim_end s) ≤ length s
unfolding trim_end
end_shorter [] = omega arith
end_shorter (b ∷ s) = let k = kept_length b (trim_end s) in let h = end_shorter s in omega arith

pub trim_shorter : (s : List ℕ) → length (trim s) ≤ length s
trim_shorter s = omega (arith, end_shorter (trim_start s), start_shorter s)

space_length : (q : Bool) → length (space q) ≤ 1
space_length true = omega arith
space_length false = omega arith

pub added_length : (index : ℕ) (prev : Bool) (part : List ℕ) → length (added index prev part) ≤ length part + 1
added_length index prev part = omega (arith, length-append (space (parted index prev part)) part, space_length (parted index prev part))

beyond : (s : List ℕ) (i : ℕ) → 128 ≤ get_or s i 0 → i < length s
beyond [] i h = absurd (omega arith)
beyond (b ∷ s) zero h = omega arith
beyond (b ∷ s) (suc i) h = omega (arith, beyond s i h)

pub plain_is : (s : List ℕ) (r : Bool) → MatchBool r (IsAscii s) (IsNotAscii s) → r ≡ plain s
unfolding plain
plain_is s true h = sym (and_from_places plain (λ b. leb b 0x7F) refl (λ _ _. refl) s 0 (λ i l. le-leb (get_or s i 0) 0x7F (omega (arith, h i))))
plain_is s false h =
    sym (and_fails_at plain (λ b. leb b 0x7F) refl (λ _ _. refl) s h.0 0 (beyond s h.0 h.1) (lt-leb (get_or s h.0 0) 0x7F (omega (arith, h.1))))

-- ---- the loop
next_pushed : (index : ℕ) (prev : Bool) (said p : List ℕ) (o : Option (List (List ℕ)))
    → map (pushed index prev said) (map (λ ps. p ∷ ps) o) ≡ map (pushed (index + 1) (is_mark (trim p)) (said ++ added index prev (trim p))) o
unfolding pushed
next_pushed index prev said p none = refl
next_pushed index prev said p (some ps) = ap (λ (i : ℕ). some (pushed i (is_mark (trim p)) (said ++ added index prev (trim p)) ps)) (sym (add-one index))

-- what is left when no part is
last_pushed : (index : ℕ) (prev : Bool) (said rest : List ℕ) → length rest ≡ 0 → map (pushed index prev said) (at_end rest) ≡ some said
unfolding pushed
last_pushed index prev said [] e = refl
last_pushed index prev said (b ∷ rest) e = absurd (omega arith)

over_pushed : (index : ℕ) (prev : Bool) (said rest : List ℕ) → (length rest ≡ 0 → ⊥) → map (pushed index prev said) (at_end rest) ≡ none
over_pushed index prev said [] d = absurd (d refl)
over_pushed index prev said (b ∷ rest) d = refl

-- a part does not depend on the one before it
pub parts_any : (before : Option (List ℕ)) (c : ℕ) (s : List ℕ) → read_texts in_parts before c s ≡ read_texts in_parts none c s
unfolding read_texts
parts_any before zero s = refl
parts_any before (suc c) [] = refl
parts_any before (suc c) (n ∷ s) = refl

pub record Naming (parts old out : List ℕ) (prev : Bool) (to : ℕ) (rest : List ℕ) (left index : ℕ) : Type 0 where
  pub said : List ℕ
  pub same : map name_new (read_parts parts) ≡ map (pushed index prev said) (read_texts in_parts none left rest)
  pub long : to ≡ length said
  pub wrote : out ≡ fill said old
  pub small : to + length rest ≤ length parts

pub naming_starts : (parts old : List ℕ) (a : ℕ) (s : List ℕ) → parts ≡ a ∷ s → length parts ≤ most_bytes → Naming parts old old false 0 s (a - 0) 0
unfolding read_parts
naming_starts parts old a s e h =
    let z : a - 0 ≡ a = omega arith in
    record {
      said = [];
      same = ap (λ q. map name_new (provided q (counted_parts parts))) (le-leb (length parts) most_bytes h)
          ∙ ap₂ (λ (x : List ℕ) (k : ℕ). map name_new (counted_parts x)) e z ∙ ap (λ (k : ℕ). map name_new (read_texts in_parts none k s)) (sym z);
      long = refl;
      wrote = fill_none old;
      small = omega (arith, ap length e);
    }

-- what was written is told
no_name : (o : Option (List ℕ)) (old out : List ℕ) (r : Answer ℕ) → o ≡ none → r ≡ None → Writes o old out r
unfolding Writes
no_name o old out r e h = rw e h

a_name : (o : Option (List ℕ)) (bs old out : List ℕ) (r : Answer ℕ) → o ≡ some bs → r ≡ Some (length bs) → out ≡ fill bs old → Writes o old out r
unfolding Writes
a_name o bs old out r e h w = rw e (h, w)

pub nothing_read : (parts old out : List ℕ) (r : Answer ℕ) → length parts ≡ 0 → r ≡ None → Writes (map name_new (read_parts parts)) old out r
unfolding read_parts
nothing_read [] old out r e h = no_name (map name_new (read_parts [])) old out r refl h
nothing_read (b ∷ parts) old out r e h = absurd (omega arith)

module _ {parts old out : List ℕ} {prev : Bool} {to : ℕ} {rest : List ℕ} {left index : ℕ} (Q : Naming parts old out prev to rest left index) where
  -- as much as has room
  pub naming_kept : length out ≡ length old
  naming_kept = ap length Q.wrote ∙ length_fill Q.said old

  abbrev whole : Option (List ℕ)
  whole = map name_new (read_parts parts)

  -- no part stands there
  none_read : read_texts in_parts none left rest ≡ none → (r : Answer ℕ) → r ≡ None → Writes whole old out r
  none_read e r h = no_name whole old out r (Q.same ∙ ap (map (pushed index prev Q.said)) e) h

  ended : left ≡ 0 → whole ≡ map (pushed index prev Q.said) (at_end rest)
  ended z = Q.same ∙ ap (λ (k : ℕ). map (pushed index prev Q.said) (read_texts in_parts none k rest)) z ∙ ap (map (pushed index prev Q.said)) (read_zero in_parts none rest)

  pub naming_ended : left ≡ 0 → length rest ≡ 0 → (r : Answer ℕ) → r ≡ Some to → Writes whole old out r
  naming_ended z e r h = a_name whole Q.said old out r (ended z ∙ last_pushed index prev Q.said rest e) (h ∙ ap Some Q.long) Q.wrote

  pub naming_over : left ≡ 0 → (length rest ≡ 0 → ⊥) → (r : Answer ℕ) → r ≡ None → Writes whole old out r
  naming_over z d r h = no_name whole old out r (ended z ∙ over_pushed index prev Q.said rest d) h

  pub naming_broken : 0 < left → split_text rest ≡ none → (r : Answer ℕ) → r ≡ None → Writes whole old out r
  naming_broken h e =
      let z : left ≡ suc (left - 1) = omega arith in
      none_read (ap (λ (k : ℕ). read_texts in_parts none k rest) z ∙ split_none in_parts none (left - 1) rest e)

  module _ (part behind : List ℕ) (e : split_text rest ≡ some (part, behind)) (q : Bool) (eq : q ≡ plain part) where
    next_read : (c : ℕ) → left ≡ suc c → read_texts in_parts none left rest ≡ provided q (map (λ ps. part ∷ ps) (read_texts in_parts none c behind))
    next_read c z = ap (λ (k : ℕ). read_texts in_parts none k rest) z ∙ split_some in_parts none c rest part behind e
        ∙ ap₂ (λ (b : Bool) (o : Option (List (List ℕ))). provided b (map (λ ps. part ∷ ps) o)) (sym eq) (parts_any (some part) c behind)

    pub naming_high : 0 < left → q ≡ false → (r : Answer ℕ) → r ≡ None → Writes whole old out r
    naming_high h t =
        none_read (next_read (left - 1) (omega arith) ∙ ap (λ b. provided b (map (λ ps. part ∷ ps) (read_texts in_parts none (left - 1) behind))) t)

    pub naming_next : (c : ℕ) → left ≡ suc c → q ≡ true → (n : ℕ) (m : Bool) (new : List ℕ) → n ≡ to + length (added index prev (trim part)) → m ≡ is_mark (trim part)
        → new ≡ puts to (added index prev (trim part)) out → Naming parts old new m n behind c (index + 1)
    naming_next c z t n m new en em ew = record {
      said = Q.said ++ added index prev (trim part);
      same = Q.same ∙ ap (map (pushed index prev Q.said)) (next_read c z ∙ ap (λ b. provided b (map (λ ps. part ∷ ps) (read_texts in_parts none c behind))) t)
          ∙ next_pushed index prev Q.said part (read_texts in_parts none c behind)
          ∙ ap (λ b. map (pushed (index + 1) b (Q.said ++ added index prev (trim part))) (read_texts in_parts none c behind)) (sym em);
      long = en ∙ omega (arith, Q.long, length-append Q.said (added index prev (trim part)));
      wrote = put_then Q.said (added index prev (trim part)) old out new to Q.wrote (sym Q.long) ew;
      small = omega (arith, en, added_length index prev (trim part), trim_shorter part, split_length rest part behind e, Q.small);
    }
