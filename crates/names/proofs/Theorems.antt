-- What holds of the names of the built-in types (`wording`): they go both ways.
-- Idea: of each name by computing, and that no other text is known by going through the names.
-- Assumes nothing.
use mathlib.Core.Path.{◌≡◌, refl, ap, ◌∙◌}
use mathlib.Core.Bool.{Bool, true, false, cond}
use mathlib.Core.Option.{some}
use mathlib.Core.List.{List, [], ◌∷◌}
use Prim.Native.Nat.{ℕ}
use Rattle.form.specs.Trees.{Simple, any, boolean, number, string, date, time, date_time, days_and_time, years_and_months, null}
use Rattle.std.specs.Str.{bytes_eq}
use Rattle.form.proofs.Options.{none_some}
use Rattle.names.specs.BuiltInNames.{name_of, simples, one_named, from_str, is_built_in_type_name}
use Rattle.names.specs.Reader.{is_read}
use Rattle.std.proofs.lemmas.Slice.Eq.{bytes_eq-Decides}
use Rattle.names.proofs.BuiltInNames.{named_read}

known_name : (x : Simple) → from_str (name_of x) ≡ some x
unfolding one_named
known_name any = refl
known_name boolean = refl
known_name number = refl
known_name string = refl
known_name date = refl
known_name time = refl
known_name date_time = refl
known_name days_and_time = refl
known_name years_and_months = refl
known_name null = refl

only_named : (s : List ℕ) (x : Simple) (xs : List Simple) → one_named s xs ≡ some x → s ≡ name_of x
unfolding one_named
only_named s x [] e = absurd (none_some e)
only_named s x (y ∷ xs) e = go (bytes_eq s (name_of y)) refl (only_named s x xs) e
  where
    go : (q : Bool) → bytes_eq s (name_of y) ≡ q → (one_named s xs ≡ some x → s ≡ name_of x) → cond q (some y) (one_named s xs) ≡ some x → s ≡ name_of x
    go true t ih z = let p : y ≡ x = cc in (bytes_eq-Decides s (name_of y)).0 t ∙ ap name_of p
    go false t ih z = ih z

-- ---- in one place
pub record Wording : Type 0 where
  -- from_str of the name of a simple type is the type
  pub back : (x : Simple) → from_str (name_of x) ≡ some x
  -- from_str knows the names alone
  pub only : (s : List ℕ) (x : Simple) → from_str s ≡ some x → s ≡ name_of x
  -- is_built_in_type_name: exactly where from_str knows it
  pub built_in : (s : List ℕ) → is_built_in_type_name s ≡ is_read (from_str s)

pub wording : Wording
wording = record { back = known_name; only = λ s x e. only_named s x simples e; built_in = λ s. named_read s simples }
