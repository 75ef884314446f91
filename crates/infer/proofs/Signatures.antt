-- The function type of a definition, parameter by parameter.
-- Idea: what was written, the types of the parameters that are left and the result make the whole text (`SigInv`).
-- Index: `SigInv`, `sig_start`, `sig_name`, `sig_type`, `sig_part`, `sig_again` (a parameter); `sig_result`, `sig_last`, `sig_last_room`, `sig_done` (the result).
-- Assumes nothing.
use Prim.Native.Nat.{ℕ, ◌+◌, ◌-◌, ◌<◌, ◌≤◌}
use mathlib.Core.Path.{◌≡◌, refl, sym, ap, subst, ◌∙◌}
use mathlib.Core.Option.{Option, none, some}
use mathlib.Core.List.{List, [], ◌++◌, append_assoc}
use native.Mathlib.Omega.{arith}
use lib.ListN.{length, take, drop, length-drop, length-append}
use borrow.Rule.Slice.PartMut.{put_mid}
use Rattle.form.specs.Limits.{name_width}
use Rattle.form.specs.Trees.{Ty, Params, no_parameters}
use Rattle.form.specs.Form.{Bytes, enc, enc_tys}
use Rattle.form.specs.Answers.{onto}
use Rattle.form.proofs.Exact.{bytes_drop}
use Rattle.form.proofs.Numbers.{take_length}
use Rattle.form.proofs.Runs.{rest, length_rest}
use Rattle.order.specs.Size.{size, size_params}
use Rattle.order.specs.Values.{types_of}
use Rattle.order.proofs.Size.{length_enc}
use Rattle.types.specs.At.{type_at, size_at}
use Rattle.types.proofs.Reading.{t_good}
use Rattle.types.proofs.Entries.{size_got}
use Rattle.types.proofs.Instances.{front_bytes}
use Rattle.values.specs.At.{Definition, definition, size_definition, definition_at}
use Rattle.values.proofs.Reading.{params_at, definition_parts, ParameterAt, parameter_at, no_parameter, definition_inside}
use Rattle.output.proofs.OntoLaws.{length_onto, back, onto_nil}
use Rattle.infer.specs.Typing.{Starts, Wrote, Typed, signature_text, FitDefinition}
use Rattle.infer.proofs.JoinedTypes.{onto_again}

-- from the `i`th parameter on: what was written, and what is still to come
pub record SigInv (l : ℕ) (v : List ℕ) (count k : ℕ) (old out : List ℕ) (at to i : ℕ) : Type 0 where
  pub d : Definition
  pub r : Ty
  pub more : Params
  pub text : List ℕ
  pub whole : definition_at l count v ≡ some d
  pub read_r : type_at l v ≡ some r
  pub sized_r : k ≡ size r
  pub read : params_at l (count - i) (drop at v) ≡ some more
  pub here : i ≤ count
  pub inside : at + size_params more ≤ length v
  pub room : to + size_params more + k ≤ length old
  pub sizes : at + size_params more ≡ size_definition d
  pub long : length text ≡ to
  pub wrote : out ≡ onto text old
  pub texts : signature_text d ≡ text ++ (enc_tys (types_of more) ++ enc r)

fit_is : (x : Option Definition) (d : Definition) (n : ℕ) → x ≡ some d → FitDefinition x n → size_definition d ≤ n
unfolding FitDefinition
fit_is x d n e h = rw e at h

fit_some : (x : Option Definition) (n : ℕ) → FitDefinition x n → (d : Definition) × (x ≡ some d)
unfolding FitDefinition
fit_some (some d) n h = (d, refl)
fit_some none n h = absurd h

pub sig_start : (l : ℕ) (v : List ℕ) (count : ℕ) (old : List ℕ) (k : ℕ) → FitDefinition (definition_at l count v) (length old) → k ≡ size_at (type_at l v) → SigInv l v count k old old k 0 0
sig_start l v count old k h e =
    let g = fit_some (definition_at l count v) (length old) h in
    let P = definition_parts l count v g.0 g.1 in
    let f = fit_is (definition_at l count v) (definition P.r P.ps) (length old) (g.1 ∙ ap some P.is) h in
    let n = definition_inside l count v (definition P.r P.ps) (g.1 ∙ ap some P.is) in
    let z : k ≡ size P.r = e ∙ size_got (type_at l v) P.r P.first in
    let c : count - 0 ≡ count = omega arith in
    record {
      d = definition P.r P.ps;
      r = P.r;
      more = P.ps;
      text = [];
      whole = g.1 ∙ ap some P.is;
      read_r = P.first;
      sized_r = z;
      read = ap (λ i. params_at l i (drop k v)) c ∙ ap (λ i. params_at l count (drop i v)) z ∙ P.second;
      here = omega arith;
      inside = omega arith;
      room = omega arith;
      sizes = omega arith;
      long = refl;
      wrote = sym (onto_nil old);
      texts = refl;
    }

module _ {l : ℕ} {v : List ℕ} {count k : ℕ} {old out : List ℕ} {at to i : ℕ} (I : SigInv l v count k old out at to i) where
  pub sig_out : length out ≡ length old
  sig_out = ap length I.wrote ∙ length_onto I.text old (omega (arith, I.long, I.room))

  pub sig_to : to ≤ length out
  sig_to = omega (arith, sig_out, I.room)

  pub sig_result : k ≤ length v
  sig_result = omega (arith, I.sized_r, (t_good l v I.r I.read_r).1)

  pub sig_last_room : to + k ≤ length out
  sig_last_room = omega (arith, sig_out, I.room)

  module _ (h : i < count) where
    P : ParameterAt l (count - (i + 1)) at v I.more
    P = parameter_at l i count at v I.more h I.read

    pub sig_name : at + name_width ≤ length v
    sig_name = P.two

    module _ (x : ℕ) (e : x ≡ size_at (type_at l (take (length v - (at + name_width)) (drop (at + name_width) v)))) where
      x_is : x ≡ size P.x
      x_is = e ∙ ap (λ s. size_at (type_at l s)) (rest v (at + name_width)) ∙ size_got (type_at l (drop (at + name_width) v)) P.x P.first

      pub sig_type : at + name_width + x ≤ length v
      sig_type = omega (arith, x_is, I.inside, P.sized)

      pub sig_part : length (take (at + name_width + x - (at + name_width)) (drop (at + name_width) v)) ≤ length (take (length out - to) (drop to out))
      sig_part =
          let z : at + name_width + x - (at + name_width) ≡ x = omega arith in
          let y : x ≤ length (drop (at + name_width) v) = simp length-drop (omega (arith, sig_type)) in
          let w : length (take (at + name_width + x - (at + name_width)) (drop (at + name_width) v)) ≡ x = ap (λ n. length (take n (drop (at + name_width) v))) z
          ∙ take_length x (drop (at + name_width) v) y in
          omega (arith, w, length_rest out to, sig_out, I.room, P.sized, x_is)

      pub sig_wide : to + x ≤ length old
      sig_wide = omega (arith, I.room, P.sized, x_is)

      pub sig_again : Bytes v → (ys : List ℕ) → ys ≡ onto (take (at + name_width + x - (at + name_width)) (drop (at + name_width) v)) (take (length out - to) (drop to out))
          → SigInv l v count k old (put_mid to (length out - to) out ys) (at + name_width + x) (to + x) (i + 1)
      unfolding types_of enc params_at
      sig_again bs ys q =
          let z : at + name_width + x - (at + name_width) ≡ size P.x = omega (arith, x_is) in
          let w : take (at + name_width + x - (at + name_width)) (drop (at + name_width) v) ≡ enc P.x = ap (λ n. take n (drop (at + name_width) v)) z
          ∙ (front_bytes l (drop (at + name_width) v) P.x (bytes_drop (at + name_width) v bs) P.first).1 in
          record {
            d = I.d;
            r = I.r;
            more = P.more;
            text = I.text ++ enc P.x;
            whole = I.whole;
            read_r = I.read_r;
            sized_r = I.sized_r;
            read = ap (λ n. params_at l (count - (i + 1)) (drop (at + name_width + n) v)) x_is ∙ P.second;
            here = omega arith;
            inside = omega (arith, x_is, I.inside, P.sized);
            room = omega (arith, x_is, I.room, P.sized);
            sizes = omega (arith, x_is, I.sizes, P.sized);
            long = length-append I.text (enc P.x) ∙ omega (arith, I.long, length_enc P.x, x_is);
            wrote = back I.text (enc P.x) old out ys to I.wrote I.long (omega (arith, I.room)) (q ∙ ap (λ n. onto n (take (length out - to) (drop to out))) w);
            texts = I.texts ∙ ap (λ ps. I.text ++ (enc_tys (types_of ps) ++ enc I.r)) P.is ∙ ap (λ n. I.text ++ n) (append_assoc (enc P.x) (enc_tys (types_of P.more)) (enc I.r))
                ∙ sym (append_assoc I.text (enc P.x) (enc_tys (types_of P.more) ++ enc I.r));
          }

  pub sig_last : length (take k v) ≤ length (take (length out - to) (drop to out))
  sig_last = omega (arith, take_length k v sig_result, length_rest out to, sig_last_room)

  is_typed : (x : Option Definition) (d : Definition) (new : List ℕ) (n w : ℕ) → x ≡ some d → Wrote size_definition signature_text d old new n w → Typed size_definition signature_text x old new n w
  unfolding Typed
  is_typed x d new n w e h = rw e h

  module _ (h : count ≤ i) (bs : Bytes v) (ys : List ℕ) (q : ys ≡ onto (take k v) (take (length out - to) (drop to out))) where
    none_left : I.more ≡ no_parameters
    none_left =
        let z : count - i ≡ 0 = omega arith in
        no_parameter l (drop at v) I.more (ap (λ n. params_at l n (drop at v)) (sym z) ∙ I.read)

    new_is : put_mid to (length out - to) out ys ≡ onto (signature_text I.d) old
    unfolding types_of enc
    new_is =
        let w : take k v ≡ enc I.r = ap (λ n. take n v) I.sized_r ∙ (front_bytes l v I.r bs I.read_r).1 in
        back I.text (enc I.r) old out ys to I.wrote I.long (omega (arith, I.room)) (q ∙ ap (λ n. onto n (take (length out - to) (drop to out))) w)
        ∙ ap (λ n. onto n old) (sym (I.texts ∙ ap (λ ps. I.text ++ (enc_tys (types_of ps) ++ enc I.r)) none_left))

    text_long : length (signature_text I.d) ≡ to + k
    unfolding types_of enc
    text_long = ap length (I.texts ∙ ap (λ ps. I.text ++ (enc_tys (types_of ps) ++ enc I.r)) none_left) ∙ length-append I.text (enc I.r)
        ∙ omega (arith, I.long, I.sized_r, length_enc I.r)

    pub sig_same : length (put_mid to (length out - to) out ys) ≡ length old
    sig_same = ap length new_is ∙ length_onto (signature_text I.d) old (omega (arith, text_long, I.room))

    pub sig_done : Typed size_definition signature_text (definition_at l count v) old (put_mid to (length out - to) out ys) at (to + k)
    unfolding size_params
    sig_done =
        let z : size_params I.more ≡ 0 = ap size_params none_left in
        is_typed (definition_at l count v) I.d (put_mid to (length out - to) out ys) at (to + k) I.whole
        (record { all = omega (arith, I.sizes, z); long = sym text_long; out = subst (Starts (signature_text I.d)) (sym new_is) (onto_again (signature_text I.d) old); kept = sig_same })
