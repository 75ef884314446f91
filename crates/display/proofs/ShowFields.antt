-- The loop that shows the entries of a context type: what is left of them, and what was written of their text.
-- Idea: what was written and the text of what is left make the whole text.
-- Index: `FieldsInv`, `fields_start`, `fields_done` (the loop); `name_there`, `name_missing`, `label_fits` (a name); `type_there`, `type_missing`, `type_fits`, `field_next` (its type).
-- Assumes nothing.
use Prim.Native.Nat.{ℕ, suc, ◌+◌, ◌-◌, ◌*◌, ◌<◌, ◌≤◌}
use mathlib.Core.Path.{◌≡◌, sym, ap, ◌∙◌}
use mathlib.Core.Option.{none, some}
use mathlib.Core.List.{List, [], ◌++◌}
use native.Mathlib.Omega.{arith}
use lib.ListN.{length, drop, length-append}
use Rattle.std.specs.Prelude.{Option as Answer, None, Some}
use Rattle.form.specs.Limits.{most_bytes, name_width}
use Rattle.form.specs.Form.{num_at}
use Rattle.form.specs.Trees.{Fields}
use Rattle.form.proofs.Runs.{behind}
use Rattle.order.specs.Size.{size_fields}
use Rattle.types.specs.At.{type_at, fields_at, Ok}
use Rattle.types.proofs.Reading.{ok_got}
use Rattle.types.proofs.ChildAt.{entry_behind, entry_ok}
use Rattle.types.proofs.Entries.{Here, here, gone, size_none}
use Rattle.output.specs.Output.{puts}
use Rattle.names.proofs.Pieces.{put_none, put_twice}
use Rattle.display.specs.declared.Shown.{Shown}
use Rattle.display.specs.Texts.{colon, nth, text_fields}
use Rattle.display.specs.Writing.{gap, label, Shows, of_types, of_fields}
use Rattle.display.proofs.ShowPieces.{gap_length}
use Rattle.display.proofs.Texts.{after, fields_from, fields_all, no_name, no_type, one_field, no_more}
use Rattle.display.proofs.ShowContract.{shows_none, shows_some, shown_none, Got, shown_some}

pub record FieldsInv (l : ℕ) (s : List ℕ) (count : ℕ) (ts : List (List ℕ)) (at : ℕ) (old out : List ℕ) (read to i : ℕ) : Type 0 where
  pub all : Fields
  -- what is left
  pub fs : Fields
  pub least : ℕ
  -- what was written
  pub done : List ℕ
  pub whole : fields_at l count 0 s ≡ some all
  pub in_s : read ≤ length s
  pub low : to ≤ at + most_bytes * read
  pub left : fields_at l (count - i) least (drop read s) ≡ some fs
  pub sizes : read + size_fields fs ≡ size_fields all
  pub goes : after done (fields_from i ts fs) ≡ text_fields ts all
  pub ends : to ≡ at + length done
  pub state : out ≡ puts at done old

pub fields_start : (l : ℕ) (s : List ℕ) (count : ℕ) (ts : List (List ℕ)) (at : ℕ) (old : List ℕ) → Ok (fields_at l count 0 s) → FieldsInv l s count ts at old old 0 at 0
fields_start l s count ts at old p =
    let F = ok_got (fields_at l count 0 s) p in
    let en : count - 0 ≡ count = omega arith in
    record {
      all = F.0;
      fs = F.0;
      least = 0;
      done = [];
      whole = F.1;
      in_s = omega arith;
      low = omega arith;
      left = ap (λ (z : ℕ). fields_at l z 0 s) en ∙ F.1;
      sizes = omega arith;
      goes = fields_all ts F.0;
      ends = omega arith;
      state = sym (put_none at old);
    }

module _ {l : ℕ} {s : List ℕ} {count : ℕ} {ts : List (List ℕ)} {at : ℕ} {old out : List ℕ} {read to i : ℕ} (Q : FieldsInv l s count ts at old out read to i) where
  -- a name that is missing
  failed : fields_from i ts Q.fs ≡ none → (new : List ℕ) (r : Answer Shown) → r ≡ None → Shows of_fields ts (fields_at l count 0 s) at old new r
  failed e new r h = shows_none of_fields ts (fields_at l count 0 s) Q.all Q.whole at old new r (sym Q.goes ∙ ap (after Q.done) e) h

  module _ (h : i < count) where
    abbrev A : Here l (count - (i + 1)) read Q.least s Q.fs
    A = here l i count read Q.least s Q.fs h Q.left

    pub name_there : read + name_width ≤ length s
    name_there = A.two

    pub type_there : Ok (type_at l (behind (read + name_width) s))
    type_there = entry_ok A

    module _ (n : ℕ) (en : n ≡ num_at name_width read s) where
      pub name_missing : nth ts n ≡ none → (new : List ℕ) (r : Answer Shown) → r ≡ None → Shows of_fields ts (fields_at l count 0 s) at old new r
      name_missing e = failed (ap (fields_from i ts) A.is ∙ no_name i ts A.name A.x A.more (ap (nth ts) (A.named ∙ sym en) ∙ e))

      module _ (name : List ℕ) (e : nth ts n ≡ some name) (w : length name < 256) (k : ℕ) (one : List ℕ) (ek : k ≡ to + length (label i name)) (eo : one ≡ puts to (label i name) out) where
        name_is : nth ts A.name ≡ some name
        name_is = ap (nth ts) (A.named ∙ sym en) ∙ e

        pub label_fits : k ≤ at + most_bytes * read + 260
        label_fits = omega (arith, Q.low, length-append (gap i) (name ++ colon), length-append name colon, gap_length i)

        labelled : one ≡ puts at (Q.done ++ label i name) old
        labelled = eo ∙ ap (puts to (label i name)) Q.state ∙ put_twice to at Q.done (label i name) old Q.ends

        -- ---- its type
        module _ (ys : List ℕ) (x : Answer Shown) (T : Shows of_types ts (type_at l (behind (read + name_width) s)) k one ys x) where
          pub type_missing : x ≡ None → (new : List ℕ) (r : Answer Shown) → r ≡ None → Shows of_fields ts (fields_at l count 0 s) at old new r
          type_missing ex =
              failed (ap (fields_from i ts) A.is ∙ no_type i ts A.name A.x A.more (shown_none of_types ts (type_at l (behind (read + name_width) s)) A.x (entry_behind A) k one ys x T ex))

          module _ (q : Shown) (ex : x ≡ Some q) where
            G : Got of_types ts A.x k one ys q
            G = shown_some of_types ts (type_at l (behind (read + name_width) s)) A.x (entry_behind A) k one ys x T q ex

            pub type_fits : read + name_width + q.read ≤ length s
            type_fits = omega (arith, G.size, A.fits)

            pub field_next : q.to + 2 ≤ k + most_bytes * q.read → FieldsInv l s count ts at old ys (read + name_width + q.read) q.to (i + 1)
            field_next b =
                let kl : k ≡ at + length (Q.done ++ label i name) = omega (arith, length-append Q.done (label i name), Q.ends) in
                record {
                  all = Q.all;
                  fs = A.more;
                  least = suc A.name;
                  done = (Q.done ++ label i name) ++ G.bs;
                  whole = Q.whole;
                  in_s = type_fits;
                  low = omega (arith, label_fits);
                  left = ap (λ (z : ℕ). fields_at l (count - (i + 1)) (suc A.name) (drop (read + name_width + z) s)) G.size ∙ A.second;
                  sizes = omega (arith, Q.sizes, A.sized, G.size);
                  goes =
                      sym (ap (λ (z : Fields). after Q.done (fields_from i ts z)) A.is ∙ one_field i Q.done ts A.name A.x A.more name G.bs name_is G.is)
                      ∙ Q.goes;
                  ends = omega (arith, length-append (Q.done ++ label i name) G.bs, kl, G.ends);
                  state = G.out ∙ ap (puts k G.bs) labelled ∙ put_twice k at (Q.done ++ label i name) G.bs old kl;
                }

  pub fields_done : count ≤ i → (r : Answer Shown) → r ≡ Some (record { read = read; to = to }) → Shows of_fields ts (fields_at l count 0 s) at old out r
  fields_done h r er =
      let e = gone l i count read Q.least s Q.fs h Q.left in
      shows_some of_fields ts (fields_at l count 0 s) Q.all Q.whole at old out r Q.done
      (sym Q.goes ∙ ap (λ (z : Fields). after Q.done (fields_from i ts z)) e ∙ no_more i Q.done ts) (record { read = read; to = to }) er
      (omega (arith, Q.sizes, ap size_fields e, size_none)) Q.ends Q.state
