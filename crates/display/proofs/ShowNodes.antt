-- What stands at the front of a type's bytes, for the walk that shows it: a simple type, and the parts of the others.
-- Idea: the first byte says which tree was read, and its text is that of its parts between two pieces.
-- Index: `Node`, `node` (what the bytes have); `simple_short`, `simple_done`, `list_ok`, `list_done`, `range_ok`, `range_done` (`show`); `in_inner`, `in_context`, `in_function` (what stands
-- around a part).
-- Assumes nothing.
use Prim.Native.Nat.{ℕ, ◌+◌, ◌-◌, ◌<◌, ◌≤◌}
use mathlib.Core.Path.{◌≡◌, refl, sym, ap, ap₂, ◌∙◌}
use mathlib.Core.Option.{Option, none, some}
use mathlib.Core.List.{List, [], ◌++◌, append-nil, map as list_map}
use native.Mathlib.Omega.{arith}
use lib.ListN.{length, get_or, drop}
use denote.Ref.{Bor}
use Rattle.std.specs.Prelude.{Option as Answer, Some}
use Rattle.form.specs.Limits.{most_bytes}
use Rattle.form.specs.Form.{num_at}
use Rattle.form.specs.Options.{map}
use Rattle.form.specs.Trees.{Simple, Ty, leaf, built, list, range, context, function, decode}
use Rattle.form.proofs.Runs.{rest, behind}
use Rattle.order.specs.Size.{size}
use Rattle.types.specs.At.{type_at, fields_at, sig_at, fun_of, Ok}
use Rattle.types.proofs.Reading.{is_ok, ok_got, cmd, cmd_is, some_byte, some_level, is_leaf, is_list_lem, is_range_lem, is_ctx, is_fun, t_good, size_fun, last_cmd, size_list, size_range, size_ctx}
use Rattle.output.specs.Output.{puts}
use Rattle.names.specs.BuiltInNames.{name_of, simples}
use Rattle.names.proofs.BuiltInNames.{simple_at}
use Rattle.display.specs.declared.Shown.{Shown}
use Rattle.display.specs.Texts.{close, list_open, range_open, context_open, function_open, text_sig}
use Rattle.display.specs.Writing.{Showing, Shows, of_types, of_inner, of_fields, of_sigs}
use Rattle.display.proofs.Texts.{leaf_short, text_leaf, text_list, text_range, text_context, text_function}
use Rattle.display.proofs.ShowContract.{shows_some, Wrap}

size_leaf_lem : (x : Simple) → size (leaf x) ≡ 1
unfolding size
size_leaf_lem x = refl

low_cmd : (t : Ty) → 32 ≤ cmd t
low_cmd (leaf s) = omega arith
low_cmd (built (list t)) = omega arith
low_cmd (built (range t)) = omega arith
low_cmd (built (context fs)) = omega arith
low_cmd (built (function ps r)) = omega arith

-- a text without anything behind it
all_mapped : (front : List ℕ) (o : Option (List ℕ)) → map (λ s. front ++ s) o ≡ map (λ s. front ++ (s ++ [])) o
all_mapped front none = refl
all_mapped front (some s) = ap (λ (z : List ℕ). some (front ++ z)) (sym (append-nil s))

-- a text that two walks show alike
as_whole : {X Y : Type 0} (S : Showing X) (R : Showing Y) (gx : Option X) (gy : Option Y) (x : X) (y : Y) (ts : List (List ℕ)) (at : ℕ) (old new : List ℕ) (r : Answer Shown)
    → gx ≡ some x → gy ≡ some y → S.sized x ≡ R.sized y → S.said ts x ≡ R.said ts y → Shows S ts gx at old new r → Shows R ts gy at old new r
unfolding Shows
as_whole S R gx gy x y ts at old new r ex ey ez es h = let k = rw ex at h in rw (ey, ← ez, ← es) k

-- what the bytes of a type have
pub record Node (l : ℕ) (t : List ℕ) : Type 0 where
  pub some : 0 < length t
  pub low : 32 ≤ get_or t 0 0
  pub level : 0 < l
  pub context : get_or t 0 0 ≡ 44 → 3 ≤ length t
  pub function : get_or t 0 0 ≡ 45 → 2 ≤ length t
  -- the last command that is left
  pub last : 42 ≤ get_or t 0 0 → (get_or t 0 0 ≡ 42 → ⊥) → (get_or t 0 0 ≡ 43 → ⊥) → (get_or t 0 0 ≡ 44 → ⊥) → get_or t 0 0 ≡ 45

pub node : (l : ℕ) (t : List ℕ) → Ok (type_at l t) → Node l t
node l t p =
    let K = ok_got (type_at l t) p in
    let e = cmd_is l t K.0 K.1 in
    record {
      some = some_byte l t K.0 K.1;
      low = omega (arith, e, low_cmd K.0);
      level = some_level l t K.0 K.1;
      context = λ c. (is_ctx l t K.0 K.1 c).three;
      function = λ c. (is_fun l t K.0 K.1 c).two;
      last = λ lo a b c. sym e ∙ last_cmd K.0 (omega (arith, e, beyond (get_or t 0 0) lo a b)) (λ z. c (sym e ∙ z));
    }
  where
    beyond : (n : ℕ) → 42 ≤ n → (n ≡ 42 → ⊥) → (n ≡ 43 → ⊥) → 44 ≤ n
    beyond n h x y = omega (arith, x, y)

pub simple_short : (names : List (Bor (List ℕ))) → list_map (λ name. name.now) names ≡ list_map name_of simples → (k : ℕ) → k < 10 → (d : Bor (List ℕ)) → length (get_or names k d).now ≤ 25
simple_short names e k h d = omega (arith, ap length (simple_at names e k h d), leaf_short (decode k))

module _ (l : ℕ) (t : List ℕ) (ts : List (List ℕ)) (p : Ok (type_at l t)) where
  abbrev K : (x : Ty) × (type_at l t ≡ some x)
  K = ok_got (type_at l t) p

  -- ---- a simple type
  pub simple_done : get_or t 0 0 < 42 → (k : ℕ) → k ≡ get_or t 0 0 - 32 → (names : List (Bor (List ℕ))) → list_map (λ name. name.now) names ≡ list_map name_of simples → (d : Bor (List ℕ))
      → (at n : ℕ) (old new : List ℕ) → n ≡ at + length (get_or names k d).now → new ≡ puts at (get_or names k d).now old
      → Shows of_types ts (type_at l t) at old new (Some (record { read = 1; to = n }))
  simple_done c k ek names en d at n old new el ew =
      let x : K.0 ≡ leaf (decode k) = is_leaf l t K.0 K.1 (node l t p).low (omega arith) ∙ ap (λ (z : ℕ). leaf (decode z)) (sym ek) in
      shows_some of_types ts (type_at l t) (leaf (decode k)) (K.1 ∙ ap some x) at old new (Some (record { read = 1; to = n })) (get_or names k d).now
      (text_leaf ts (decode k) ∙ ap some (sym (simple_at names en k (omega arith) d))) (record { read = 1; to = n }) refl (sym (size_leaf_lem (decode k))) el ew

  -- ---- a list, a range: what the walk of the inner type shows is all
  inner_ok : (u : Ty) → type_at (l - 1) (drop 1 t) ≡ some u → Ok (type_at (l - 1) (behind 1 t))
  inner_ok u e = is_ok (type_at (l - 1) (behind 1 t)) u (ap (type_at (l - 1)) (rest t 1) ∙ e)

  pub list_ok : get_or t 0 0 ≡ 42 → Ok (type_at (l - 1) (behind 1 t))
  list_ok c = let I = is_list_lem l t K.0 K.1 c in inner_ok I.0 I.1

  pub range_ok : get_or t 0 0 ≡ 43 → Ok (type_at (l - 1) (behind 1 t))
  range_ok c = let I = is_range_lem l t K.0 K.1 c in inner_ok I.0 I.1

  module _ (at : ℕ) (old new : List ℕ) (r : Answer Shown) where
    pub list_done : get_or t 0 0 ≡ 42 → Shows (of_inner list_open) ts (type_at (l - 1) (behind 1 t)) at old new r → Shows of_types ts (type_at l t) at old new r
    list_done c h =
        let I = is_list_lem l t K.0 K.1 c in
        as_whole (of_inner list_open) of_types (type_at (l - 1) (behind 1 t)) (type_at l t) I.0 (built (list I.0)) ts at old new r (ap (type_at (l - 1)) (rest t 1) ∙ I.1)
        (K.1 ∙ ap some I.2) (omega (arith, (size_list I.0).0)) (sym (text_list ts I.0)) h

    pub range_done : get_or t 0 0 ≡ 43 → Shows (of_inner range_open) ts (type_at (l - 1) (behind 1 t)) at old new r → Shows of_types ts (type_at l t) at old new r
    range_done c h =
        let I = is_range_lem l t K.0 K.1 c in
        as_whole (of_inner range_open) of_types (type_at (l - 1) (behind 1 t)) (type_at l t) I.0 (built (range I.0)) ts at old new r (ap (type_at (l - 1)) (rest t 1) ∙ I.1)
        (K.1 ∙ ap some I.2) (omega (arith, (size_range I.0).0)) (sym (text_range ts I.0)) h

  -- ---- what stands around a part
  module _ (short : length t ≤ most_bytes) where
    fits : size K.0 ≤ most_bytes
    fits = omega (arith, (t_good l t K.0 K.1).1)

    pub in_inner : (front : List ℕ) → Wrap of_types (of_inner front) front close 1 (type_at l t) (type_at l t) ts
    in_inner front = record { x = K.0; y = K.0; part = K.1; whole = K.1; sized = omega arith; said = refl; room = omega (arith, fits) }

    pub in_context : get_or t 0 0 ≡ 44 → (n : ℕ) → n ≡ num_at 2 1 t → Wrap of_fields of_types context_open close 3 (fields_at (l - 1) n 0 (behind 3 t)) (type_at l t) ts
    in_context c n en =
        let I = is_ctx l t K.0 K.1 c in
        record {
          x = I.fs;
          y = built (context I.fs);
          part = ap₂ (λ (k : ℕ) (z : List ℕ). fields_at (l - 1) k 0 z) en (rest t 3) ∙ I.read;
          whole = K.1 ∙ ap some I.is;
          sized = size_ctx I.fs;
          said = text_context ts I.fs;
          room = omega (arith, fits, ap size I.is, size_ctx I.fs);
        }

    pub in_function : get_or t 0 0 ≡ 45 → (n : ℕ) → n ≡ get_or t 1 0 → Wrap of_sigs of_types function_open [] 2 (sig_at (l - 1) n (behind 2 t)) (type_at l t) ts
    in_function c n en =
        let I = is_fun l t K.0 K.1 c in
        record {
          x = I.f;
          y = fun_of I.f;
          part = ap₂ (λ (k : ℕ) (z : List ℕ). sig_at (l - 1) k z) en (rest t 2) ∙ I.read;
          whole = K.1 ∙ ap some I.is;
          sized = size_fun I.f;
          said = text_function ts I.f ∙ all_mapped function_open (text_sig ts I.f);
          room = omega (arith, fits, ap size I.is, size_fun I.f);
        }
