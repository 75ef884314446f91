-- Example 12 holds for every accepted value: the arguments compute, and the bytes of {1: {2: v}} are ten before those of v.
-- Assumes nothing.
use Prim.Native.Nat.{ℕ, ◌+◌, ◌<◌}
use native.Mathlib.Omega.{arith}
use mathlib.Core.Path.{◌≡◌, refl, sym, ap, ◌∙◌}
use mathlib.Core.Bool.{Bool, true, false}
use mathlib.Core.Logic.{◌⊎◌, inl, inr}
use mathlib.Core.List.{List, append-nil}
use lib.ListN.{length}
use lib.Dec.{leb}
use borrow.Author.Tests.{le-leb, lt-leb}
use Rattle.form.specs.Limits.{most_bytes, value_levels}
use Rattle.form.specs.Trees.{l_boolean, Val, v_leaf, v_context, Entries, no_entries, entry}
use Rattle.form.specs.Form.{bytes, count_entries, enc_leaf, enc_v, level_v, WfLeaf, WfV}
use Rattle.form.specs.Outcome.{Outcome, done, refused, ◌>>=◌, ◌>>◌, fits, pick}
use Rattle.form.specs.Read.{read_value}
use Rattle.form.proofs.Values.{value_accepted, value_accepts}
use Rattle.paths.specs.Paths.{value_of}
use Rattle.updates.specs.Update as update
use Rattle.context.specs.Calls.{given_of, create_entries_call, apply_entries_call}
use Rattle.context.specs.Example12.{self, path, created, Accepted, Within, Example12}
use Rattle.context.proofs.CallContracts.{result_small, result_over, is_small, not_small}
use Rattle.output.specs.Result.{checked_result}

-- {1: true}, as a tree and read
one_true : Entries
one_true = entry 1 (v_leaf (l_boolean true)) no_entries

self_read : read_value self ≡ done (v_context one_true)
unfolding one_true enc_v enc_leaf bytes count_entries level_v WfV WfLeaf
self_read = value_accepts self (v_context one_true) (record { bytes = refl; well = (omega arith, (omega arith, (omega arith, (tt, tt)))); low = omega arith; short = omega arith })

-- {1: {2: x}}
nested : Val → Val
nested x = v_context (entry 1 (v_context (entry 2 x no_entries)) no_entries)

-- its bytes and its level
nested_text : (x : Val) → enc_v (nested x) ≡ created (enc_v x)
unfolding nested enc_v bytes count_entries
nested_text x = rw (append-nil, append-nil)

nested_level : (x : Val) → level_v (nested x) ≡ level_v x + 2
unfolding nested level_v
nested_level x = omega arith

module _ (v : List ℕ) (a : Accepted v) (room : ℕ) where
  text : enc_v (nested a.value) ≡ created v
  text = nested_text a.value ∙ ap created (sym (value_accepted v a.are_bytes a.value a.read).bytes)

  create_is : create_entries_call self path v room ≡ checked_result room (nested a.value)
  unfolding given_of ◌>>=◌ ◌>>◌ one_true nested value_of update.create update.insert
  create_is = rw (self_read, a.read)

  apply_is : apply_entries_call self path v room ≡ refused 16
  unfolding given_of ◌>>=◌ ◌>>◌ one_true value_of update.apply
  apply_is = rw (self_read, a.read)

  fits_is : Within v a → create_entries_call self path v room ≡ fits room (created v)
  fits_is w =
      create_is
      ∙ sym (result_small room (nested a.value) (is_small (nested a.value) (omega (arith, ap length text, w.bytes)) (omega (arith, nested_level a.value, w.level))))
      ∙ ap (fits room) text

  give : Within v a → (q : Bool) → leb (length (created v)) room ≡ q → create_entries_call self path v room ≡ pick q (done (created v)) (refused 18)
  give w q e = fits_is w ∙ ap (λ b. pick {X = Outcome (List ℕ)} b (done (created v)) (refused 18)) e

  over : (value_levels < level_v a.value + 2) ⊎ (most_bytes < length (created v)) → create_entries_call self path v room ≡ refused 17
  over (inl h) = create_is ∙ result_over room (nested a.value) (not_small (nested a.value) (inl (omega (arith, nested_level a.value))))
  over (inr h) = create_is ∙ result_over room (nested a.value) (not_small (nested a.value) (inr (omega (arith, ap length text))))

pub example12 : Example12
example12 =
    record {
      create = λ v a room w h. give v a room w true (le-leb (length (created v)) room h);
      over = over;
      no_room = λ v a room w h. give v a room w false (lt-leb (length (created v)) room h);
      apply = apply_is;
    }
