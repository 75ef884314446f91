-- The loop that writes the parameters of two functions, and then their results.
-- Idea: what was written and the bytes of the answer to what is left make the bytes of the whole answer (`SigInv`).
-- Index: `SigInv`, `sig_start`, `to_fits`; `param_ready`, `param_ends`, `param_next` (a parameter); `result_ready`, `result_ends`, `sig_done` (the results).
-- Assumes nothing.
use Prim.Native.Nat.{ℕ, ◌+◌, ◌-◌, ◌<◌, ◌≤◌}
use mathlib.Core.Path.{◌≡◌, refl, sym, ap, ap₂, ◌∙◌}
use mathlib.Core.Option.{some}
use mathlib.Core.List.{List, [], ◌++◌, append_assoc}
use native.Mathlib.Omega.{arith}
use lib.ListN.{length, drop, length-append}
use borrow.Rule.Slice.PartMut.{put_mid}
use Rattle.form.specs.Trees.{Ty, no_params}
use Rattle.form.specs.Form.{enc}
use Rattle.form.specs.Answers.{onto}
use Rattle.form.proofs.Runs.{length_rest, behind}
use Rattle.order.specs.Order.{Dir, flip, Order}
use Rattle.order.specs.Size.{size}
use Rattle.order.proofs.Size.{length_enc}
use Rattle.types.specs.At.{type_at, Sig, sig, cons, size_sig, sig_at}
use Rattle.types.proofs.Reading.{size_cons, size_result}
use Rattle.lattice.specs.Writing.{answer, answer_sig, enc_sig, of_types, of_sigs, most_answer, Ready, Wrote, Combined}
use Rattle.output.proofs.OntoLaws.{onto_nil, back, back_length}
use Rattle.lattice.proofs.BoundTrees.{enc_cons, enc_result, length_sig, answer_cons, answer_result}
use Rattle.lattice.proofs.Branches.{both, Both, ready, is_combined, combined_is}
use Rattle.types.proofs.ChildAt.{item_behind}
use Rattle.types.proofs.Signatures.{Param, param_at, Last, last}

pub record SigInv (O : Order) (d : Dir) (l : ℕ) (a b : List ℕ) (n : ℕ) (old out : List ℕ) (at bt to i : ℕ) : Type 0 where
  -- both, and what is left of them
  pub all_a : Sig
  pub all_b : Sig
  pub f : Sig
  pub g : Sig
  -- what was written
  pub done : List ℕ
  pub whole_a : sig_at l n a ≡ some all_a
  pub whole_b : sig_at l n b ≡ some all_b
  pub below : i ≤ n
  pub cap : size_sig (answer_sig O d all_a all_b) ≤ most_answer
  pub in_a : at ≤ length a
  pub in_b : bt ≤ length b
  pub read_a : sig_at l (n - i) (drop at a) ≡ some f
  pub read_b : sig_at l (n - i) (drop bt b) ≡ some g
  pub size_a : at + size_sig f ≡ size_sig all_a
  pub size_b : bt + size_sig g ≡ size_sig all_b
  pub text : done ++ enc_sig (answer_sig O d f g) ≡ enc_sig (answer_sig O d all_a all_b)
  pub long : length done ≡ to
  pub room : to + size_sig (answer_sig O d f g) ≤ length old
  pub out_len : length out ≡ length old
  pub state : out ≡ onto done old

pub sig_start : (O : Order) (d : Dir) (l : ℕ) (a b : List ℕ) (n : ℕ) (old : List ℕ) → Ready (of_sigs O d) (sig_at l n a) (sig_at l n b) (length old) → SigInv O d l a b n old old 0 0 0 0
sig_start O d l a b n old p = go (both (of_sigs O d) (sig_at l n a) (sig_at l n b) (length old) p)
  where
    go : Both (of_sigs O d) (sig_at l n a) (sig_at l n b) (length old) → SigInv O d l a b n old old 0 0 0 0
    go K =
        let en : n - 0 ≡ n = omega arith in
        record {
          all_a = K.t;
          all_b = K.u;
          f = K.t;
          g = K.u;
          done = [];
          whole_a = K.read_a;
          whole_b = K.read_b;
          below = omega arith;
          cap = K.cap;
          in_a = omega arith;
          in_b = omega arith;
          read_a = ap (λ (z : ℕ). sig_at l z a) en ∙ K.read_a;
          read_b = ap (λ (z : ℕ). sig_at l z b) en ∙ K.read_b;
          size_a = omega arith;
          size_b = omega arith;
          text = refl;
          long = refl;
          room = omega (arith, K.room);
          out_len = refl;
          state = sym (onto_nil old);
        }

module _ {O : Order} {d : Dir} {l : ℕ} {a b : List ℕ} {n : ℕ} {old out : List ℕ} {at bt to i : ℕ} (v : SigInv O d l a b n old out at bt to i) where
  left : size_sig (answer_sig O d v.f v.g) ≤ most_answer
  left = omega (
    arith,
    v.cap,
    ap length v.text,
    length-append v.done (enc_sig (answer_sig O d v.f v.g)),
    length_sig (answer_sig O d v.f v.g),
    length_sig
        (answer_sig O d v.all_a v.all_b),
  )

  -- U was written at `to`
  wrote_at : (U : Ty) (ns : List ℕ) → to + size U ≤ length old → ns ≡ onto (enc U) (behind to out) → put_mid to (length out - to) out ns ≡ onto (v.done ++ enc U) old
  wrote_at U ns h en = back v.done (enc U) old out ns to v.state v.long (omega arith) en

  pub to_fits : to ≤ length out
  to_fits = omega (arith, v.room, v.out_len)

  -- ---- a parameter, in the other direction
  module _ {o : Dir} (turn : o ≡ flip d) (h : i < n) where
    abbrev A : Param l (n - (i + 1)) at a v.f
    A = param_at l i n at a v.f h v.in_a v.read_a

    abbrev B : Param l (n - (i + 1)) bt b v.g
    B = param_at l i n bt b v.g h v.in_b v.read_b

    now : answer_sig O d v.f v.g ≡ cons (answer O o A.x B.x) (answer_sig O d A.more B.more)
    now = ap₂ (answer_sig O d) A.is B.is ∙ answer_cons O d A.x B.x A.more B.more
        ∙ ap (λ (z : Dir). cons (answer O z A.x B.x) (answer_sig O d A.more B.more)) (sym turn)

    now_size : size_sig (answer_sig O d v.f v.g) ≡ size (answer O o A.x B.x) + size_sig (answer_sig O d A.more B.more)
    now_size = ap size_sig now ∙ size_cons (answer O o A.x B.x) (answer_sig O d A.more B.more)

    pub param_ready : Ready (of_types O o) (type_at l (behind at a)) (type_at l (behind bt b)) (length (behind to out))
    param_ready = ready (of_types O o) _ _ A.x B.x _ (item_behind A) (item_behind B) (omega (arith, v.room, v.out_len, now_size, length_rest out to)) (omega (arith, left, now_size))

    module _ (ns : List ℕ) (e f w : ℕ) (c : Combined (of_types O o) (type_at l (behind at a)) (type_at l (behind bt b)) (behind to out) ns e f w) where
      param_wrote : Wrote (of_types O o) A.x B.x (behind to out) ns e f w
      param_wrote = combined_is (of_types O o) _ _ A.x B.x (behind to out) ns e f w (item_behind A) (item_behind B) c

      pub param_ends : (at + e ≤ length a) × (bt + f ≤ length b) × (to + w ≤ length out)
      param_ends = let g = param_wrote in (omega (arith, g.one, A.fits), omega (arith, g.two, B.fits), omega (arith, g.long, v.room, v.out_len, now_size))

      pub param_next : length ns ≡ length (behind to out) → SigInv O d l a b n old (put_mid to (length out - to) out ns) (at + e) (bt + f) (to + w) (i + 1)
      param_next el =
          let g = param_wrote in
          let U = answer O o A.x B.x in
          let R = answer_sig O d A.more B.more in
          let s = now_size in
          record {
            all_a = v.all_a;
            all_b = v.all_b;
            f = A.more;
            g = B.more;
            done = v.done ++ enc U;
            whole_a = v.whole_a;
            whole_b = v.whole_b;
            below = omega arith;
            cap = v.cap;
            in_a = omega (arith, g.one, A.fits);
            in_b = omega (arith, g.two, B.fits);
            read_a = ap (λ (z : ℕ). sig_at l (n - (i + 1)) (drop (at + z) a)) g.one ∙ A.second;
            read_b = ap (λ (z : ℕ). sig_at l (n - (i + 1)) (drop (bt + z) b)) g.two ∙ B.second;
            size_a = omega (arith, v.size_a, A.sized, g.one);
            size_b = omega (arith, v.size_b, B.sized, g.two);
            text = append_assoc v.done (enc U) (enc_sig R) ∙ ap (λ (z : List ℕ). v.done ++ z) (sym (enc_cons U R) ∙ ap enc_sig (sym now)) ∙ v.text;
            long = length-append v.done (enc U) ∙ omega (arith, v.long, length_enc U, g.long);
            room = omega (arith, v.room, s, g.long);
            out_len = back_length to out ns el ∙ v.out_len;
            state = wrote_at U ns (omega (arith, v.room, s)) g.out;
          }

  -- ---- the results
  module _ (h : n ≤ i) where
    abbrev P : Last l at a v.f
    P = last l i n at a v.f h v.in_a v.read_a

    abbrev Q : Last l bt b v.g
    Q = last l i n bt b v.g h v.in_b v.read_b

    ends : answer_sig O d v.f v.g ≡ sig no_params (answer O d P.t Q.t)
    ends = ap₂ (answer_sig O d) P.is Q.is ∙ answer_result O d P.t Q.t

    ends_size : size_sig (answer_sig O d v.f v.g) ≡ size (answer O d P.t Q.t)
    ends_size = ap size_sig ends ∙ size_result (answer O d P.t Q.t)

    pub result_ready : Ready (of_types O d) (type_at l (behind at a)) (type_at l (behind bt b)) (length (behind to out))
    result_ready = ready (of_types O d) _ _ P.t Q.t _ P.first Q.first (omega (arith, v.room, v.out_len, ends_size, length_rest out to)) (omega (arith, left, ends_size))

    module _ (ns : List ℕ) (e f w : ℕ) (c : Combined (of_types O d) (type_at l (behind at a)) (type_at l (behind bt b)) (behind to out) ns e f w) where
      result_wrote : Wrote (of_types O d) P.t Q.t (behind to out) ns e f w
      result_wrote = combined_is (of_types O d) _ _ P.t Q.t (behind to out) ns e f w P.first Q.first c

      pub result_ends : (at + e ≤ length a) × (bt + f ≤ length b) × (to + w ≤ length out)
      result_ends = let g = result_wrote in (omega (arith, g.one, P.fits), omega (arith, g.two, Q.fits), omega (arith, g.long, v.room, v.out_len, ends_size))

      pub sig_done : Combined (of_sigs O d) (sig_at l n a) (sig_at l n b) old (put_mid to (length out - to) out ns) (at + e) (bt + f) (to + w)
      sig_done =
          let g = result_wrote in
          let U = answer O d P.t Q.t in
          let s = ends_size in
          let te : v.done ++ enc U ≡ enc_sig (answer_sig O d v.all_a v.all_b) = ap (λ (z : List ℕ). v.done ++ z) (sym (enc_result U) ∙ ap enc_sig (sym ends)) ∙ v.text in
          is_combined (of_sigs O d) _ _ v.all_a v.all_b old _ (at + e) (bt + f) (to + w) v.whole_a v.whole_b
          (record {
            one = omega (arith, v.size_a, P.sized, g.one);
            two = omega (arith, v.size_b, Q.sized, g.two);
            long = omega (arith, v.long, g.long, length-append v.done (enc U), length_enc U, ap length te, length_sig (answer_sig O d v.all_a v.all_b));
            out = wrote_at U ns (omega (arith, v.room, s)) g.out ∙ ap (λ (z : List ℕ). onto z old) te;
          })
