-- The loop that shows the parameters of a function type, and then its result: what is left of them, and what was written of their text.
-- Idea: what was written and the text of what is left make the whole text.
-- Index: `SigInv`, `sig_start`; `param_there`, `param_missing`, `gap_fits`, `param_fits`, `param_next` (a parameter); `result_there`, `result_missing`, `result_fits`, `sig_done` (the result).
-- Assumes nothing.
use Prim.Native.Nat.{ℕ, ◌+◌, ◌-◌, ◌*◌, ◌<◌, ◌≤◌}
use mathlib.Core.Path.{◌≡◌, sym, ap, ◌∙◌}
use mathlib.Core.Option.{none, some}
use mathlib.Core.List.{List, [], ◌++◌}
use native.Mathlib.Omega.{arith}
use lib.ListN.{length, drop, length-append}
use Rattle.std.specs.Prelude.{Option as Answer, None, Some}
use Rattle.form.specs.Limits.{most_bytes}
use Rattle.form.proofs.Runs.{behind}
use Rattle.types.specs.At.{type_at, sig_at, Sig, size_sig, Ok}
use Rattle.types.proofs.Reading.{is_ok, ok_got}
use Rattle.types.proofs.ChildAt.{item_behind}
use Rattle.types.proofs.Signatures.{Param, param_at, Last, last}
use Rattle.output.specs.Output.{puts}
use Rattle.names.proofs.Pieces.{put_none, put_twice}
use Rattle.display.specs.declared.Shown.{Shown}
use Rattle.display.specs.Texts.{arrow, text_sig}
use Rattle.display.specs.Writing.{gap, Shows, of_types, of_sigs}
use Rattle.display.proofs.ShowPieces.{gap_length}
use Rattle.display.proofs.Texts.{after, sig_from, sig_all, no_param, one_param, no_result, one_result}
use Rattle.display.proofs.ShowContract.{shows_none, shows_some, shown_none, Got, shown_some}

pub record SigInv (l : ℕ) (s : List ℕ) (count : ℕ) (ts : List (List ℕ)) (at : ℕ) (old out : List ℕ) (read to i : ℕ) : Type 0 where
  pub all : Sig
  -- what is left
  pub f : Sig
  -- what was written
  pub done : List ℕ
  pub whole : sig_at l count s ≡ some all
  pub in_s : read ≤ length s
  pub low : to ≤ at + most_bytes * read
  pub left : sig_at l (count - i) (drop read s) ≡ some f
  pub sizes : read + size_sig f ≡ size_sig all
  pub goes : after done (sig_from i ts f) ≡ text_sig ts all
  pub ends : to ≡ at + length done
  pub state : out ≡ puts at done old

pub sig_start : (l : ℕ) (s : List ℕ) (count : ℕ) (ts : List (List ℕ)) (at : ℕ) (old : List ℕ) → Ok (sig_at l count s) → SigInv l s count ts at old old 0 at 0
sig_start l s count ts at old p =
    let F = ok_got (sig_at l count s) p in
    let en : count - 0 ≡ count = omega arith in
    record {
      all = F.0;
      f = F.0;
      done = [];
      whole = F.1;
      in_s = omega arith;
      low = omega arith;
      left = ap (λ (z : ℕ). sig_at l z s) en ∙ F.1;
      sizes = omega arith;
      goes = sig_all ts F.0;
      ends = omega arith;
      state = sym (put_none at old);
    }

module _ {l : ℕ} {s : List ℕ} {count : ℕ} {ts : List (List ℕ)} {at : ℕ} {old out : List ℕ} {read to i : ℕ} (Q : SigInv l s count ts at old out read to i) where
  -- a name that is missing
  failed : sig_from i ts Q.f ≡ none → (new : List ℕ) (r : Answer Shown) → r ≡ None → Shows of_sigs ts (sig_at l count s) at old new r
  failed e new r h = shows_none of_sigs ts (sig_at l count s) Q.all Q.whole at old new r (sym Q.goes ∙ ap (after Q.done) e) h

  -- ---- a parameter, behind its gap
  module _ (h : i < count) where
    abbrev N : Param l (count - (i + 1)) read s Q.f
    N = param_at l i count read s Q.f h Q.in_s Q.left

    pub param_there : Ok (type_at l (behind read s))
    param_there = is_ok (type_at l (behind read s)) N.x (item_behind N)

    module _ (k : ℕ) (one : List ℕ) (ek : k ≡ to + length (gap i)) (eo : one ≡ puts to (gap i) out) where
      pub gap_fits : k ≤ at + most_bytes * read + 2
      gap_fits = omega (arith, Q.low, gap_length i)

      parted : one ≡ puts at (Q.done ++ gap i) old
      parted = eo ∙ ap (puts to (gap i)) Q.state ∙ put_twice to at Q.done (gap i) old Q.ends

      module _ (ys : List ℕ) (x : Answer Shown) (T : Shows of_types ts (type_at l (behind read s)) k one ys x) where
        pub param_missing : x ≡ None → (new : List ℕ) (r : Answer Shown) → r ≡ None → Shows of_sigs ts (sig_at l count s) at old new r
        param_missing ex = failed (ap (sig_from i ts) N.is ∙ no_param i ts N.x N.more (shown_none of_types ts (type_at l (behind read s)) N.x (item_behind N) k one ys x T ex))

        module _ (q : Shown) (ex : x ≡ Some q) where
          G : Got of_types ts N.x k one ys q
          G = shown_some of_types ts (type_at l (behind read s)) N.x (item_behind N) k one ys x T q ex

          pub param_fits : read + q.read ≤ length s
          param_fits = omega (arith, G.size, N.fits)

          pub param_next : q.to + 2 ≤ k + most_bytes * q.read → SigInv l s count ts at old ys (read + q.read) q.to (i + 1)
          param_next b =
              let kl : k ≡ at + length (Q.done ++ gap i) = omega (arith, length-append Q.done (gap i), Q.ends) in
              record {
                all = Q.all;
                f = N.more;
                done = (Q.done ++ gap i) ++ G.bs;
                whole = Q.whole;
                in_s = param_fits;
                low = omega (arith, gap_fits);
                left = ap (λ (z : ℕ). sig_at l (count - (i + 1)) (drop (read + z) s)) G.size ∙ N.second;
                sizes = omega (arith, Q.sizes, N.sized, G.size);
                goes = sym (ap (λ (z : Sig). after Q.done (sig_from i ts z)) N.is ∙ one_param i Q.done ts N.x N.more G.bs G.is) ∙ Q.goes;
                ends = omega (arith, length-append (Q.done ++ gap i) G.bs, kl, G.ends);
                state = G.out ∙ ap (puts k G.bs) parted ∙ put_twice k at (Q.done ++ gap i) G.bs old kl;
              }

  -- ---- the result, behind the arrow
  module _ (h : count ≤ i) where
    abbrev Z : Last l read s Q.f
    Z = last l i count read s Q.f h Q.in_s Q.left

    pub result_there : Ok (type_at l (behind read s))
    result_there = is_ok (type_at l (behind read s)) Z.t Z.first

    module _ (k : ℕ) (one : List ℕ) (ek : k ≡ to + length arrow) (eo : one ≡ puts to arrow out) where
      pointed : one ≡ puts at (Q.done ++ arrow) old
      pointed = eo ∙ ap (puts to arrow) Q.state ∙ put_twice to at Q.done arrow old Q.ends

      module _ (ys : List ℕ) (x : Answer Shown) (T : Shows of_types ts (type_at l (behind read s)) k one ys x) where
        pub result_missing : x ≡ None → (new : List ℕ) (r : Answer Shown) → r ≡ None → Shows of_sigs ts (sig_at l count s) at old new r
        result_missing ex = failed (ap (sig_from i ts) Z.is ∙ no_result i ts Z.t (shown_none of_types ts (type_at l (behind read s)) Z.t Z.first k one ys x T ex))

        module _ (q : Shown) (ex : x ≡ Some q) where
          H : Got of_types ts Z.t k one ys q
          H = shown_some of_types ts (type_at l (behind read s)) Z.t Z.first k one ys x T q ex

          pub result_fits : read + q.read ≤ length s
          result_fits = omega (arith, H.size, Z.fits)

          pub sig_done : (r : Answer Shown) → r ≡ Some (record { read = read + q.read; to = q.to }) → Shows of_sigs ts (sig_at l count s) at old ys r
          sig_done r er =
              let kl : k ≡ at + length (Q.done ++ arrow) = omega (arith, length-append Q.done arrow, Q.ends) in
              shows_some of_sigs ts (sig_at l count s) Q.all Q.whole at old ys r ((Q.done ++ arrow) ++ H.bs)
              (sym Q.goes ∙ ap (λ (z : Sig). after Q.done (sig_from i ts z)) Z.is ∙ one_result i Q.done ts Z.t H.bs H.is) (record { read = read + q.read; to = q.to }) er
              (omega (arith, Q.sizes, Z.sized, H.size)) (omega (arith, length-append (Q.done ++ arrow) H.bs, kl, H.ends))
              (H.out ∙ ap (puts k H.bs) pointed ∙ put_twice k at (Q.done ++ arrow) H.bs old kl)
