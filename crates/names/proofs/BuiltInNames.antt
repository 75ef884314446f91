-- The names of the built-in types: where a text stands among the ten, and whether it is one of them.
-- Assumes nothing.
use Rattle.std.proofs.Common.{◌≡◌, ℕ, ◌+◌, ◌<◌, get_or, Bool, true, false, cond, not, List, [], ◌∷◌, map, length, refl, sym, ap, ap₂, ◌∙◌, arith, Bor, Some, None, nat_lt}
use Rattle.std.specs.Prelude.{Option as Answer, option_map, position, is_some}
use Rattle.std.specs.List.{position_or_len}
use Rattle.std.specs.Str.{bytes_eq}
use Rattle.std.proofs.lemmas.List.{length-map, get_or-map}
use Rattle.std.proofs.lemmas.List.FromFn.{get_or-map-range_with_len}
use Rattle.std.proofs.lemmas.Bool.Decides.{nat_tests}
use mathlib.Core.Bool.{◌||◌}
use mathlib.Core.Option.{Option, some}
use Rattle.form.specs.Trees.{Simple, decode}
use Rattle.names.specs.BuiltInNames.{name_of, simples, command, one_named, from_str, is_named, is_built_in_type_name}
use Rattle.names.specs.Reader.{is_read}
use Rattle.names.specs.Calls.{from_str_call, known}
use Rattle.names.proofs.Reader.{is_mapped}

-- told by the names themselves
first_of : (f : List ℕ → Bool) (xs : List (Bor (List ℕ))) → position_or_len (λ name. f name.now) xs ≡ position_or_len f (map (λ name. name.now) xs)
first_of f [] = refl
first_of f (x ∷ xs) = ap (λ n. cond (not (f x.now)) (1 + n) 0) (first_of f xs)

-- the name's place among the ten is the code of its type
pub named : (s : List ℕ) (xs : List (Bor (List ℕ))) → map (λ name. name.now) xs ≡ map name_of simples → (r : Answer ℕ) → r ≡ position (λ name. bytes_eq s name.now) xs
    → (q : Answer ℕ) → q ≡ option_map (λ k. 0x20 + k) r → known q ≡ from_str_call s
unfolding one_named
named s xs e r p q h =
    let z : q ≡ option_map (λ k. 0x20 + k) (position (bytes_eq s) (map name_of simples)) =
    h ∙ ap (option_map (λ k. 0x20 + k)) (p ∙ ap₂ (λ (n m : ℕ). cond (nat_lt n m) (Some n) None) (first_of (bytes_eq s) xs ∙ ap (position_or_len (bytes_eq s)) e)
    (sym (length-map xs (λ name. name.now)) ∙ ap length e)) in
    rw z (grind (arith, nat_tests))

-- ---- whether there is one
either_read : (p q : Bool) (x : Simple) (o : Option Simple) → q ≡ is_read o → (p || q) ≡ is_read (cond p (some x) o)
either_read true q x o e = refl
either_read false q x o e = e

pub named_read : (s : List ℕ) (xs : List Simple) → is_named s xs ≡ is_read (one_named s xs)
unfolding is_named one_named
named_read s [] = refl
named_read s (x ∷ xs) = either_read (bytes_eq s (name_of x)) (is_named s xs) x (one_named s xs) (named_read s xs)

pub known_read : (r : Answer ℕ) → is_some r ≡ is_read (known r)
known_read None = refl
known_read (Some c) = refl

pub built_in_read : (s : List ℕ) → is_built_in_type_name s ≡ is_read (from_str_call s)
built_in_read s = named_read s simples ∙ sym (is_mapped command (from_str s))

-- ---- the name with a number
pub simple_at : (names : List (Bor (List ℕ))) → map (λ name. name.now) names ≡ map name_of simples → (k : ℕ) → k < 10 → (d : Bor (List ℕ)) → (get_or names k d).now ≡ name_of (decode k)
simple_at names e k h d =
    sym (get_or-map (λ name. name.now) names k d [] (omega (arith, length-map names (λ name. name.now), ap length e))) ∙ ap (λ xs. get_or xs k []) e
    ∙ get_or-map-range_with_len (λ i. name_of (decode i)) 0 10 k k [] h (omega arith)
