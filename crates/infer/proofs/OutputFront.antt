-- What stands at the front of the output, and the predicates of the contracts in and out.
-- Index: `starts`, `starts_inside`, `starts_onto`, `starts_read`, `behind_is` (the front); `lent`, `lent_starts`, `lent_front`, `lent_back`, `over_starts` (a lent part behind it);
-- `open_fit`, `fit`, `typed`, `typed_is`, `sides`, `reduced`, `joined_is` (the predicates).
-- Assumes nothing.
use Prim.Native.Nat.{ℕ, ◌-◌, ◌≤◌}
use mathlib.Core.Path.{◌≡◌, refl, sym, ap, ◌∙◌}
use mathlib.Core.Bool.{Bool, true}
use mathlib.Core.Option.{Option, none, some}
use mathlib.Core.List.{List, [], ◌++◌, append_assoc, append-nil}
use native.Mathlib.Omega.{arith}
use lib.ListN.{length, take, drop, length-append, length-drop, drop_of_length-le}
use lib.Seq.{take_at, drop_at}
use borrow.Rule.Slice.PartMut.{put_mid}
use Rattle.form.specs.Trees.{Ty}
use Rattle.form.specs.Form.{enc, level, Wf}
use Rattle.form.specs.Read.{read_t}
use Rattle.form.specs.Answers.{onto}
use Rattle.form.proofs.ExactTypes.{read_enc}
use Rattle.order.specs.Order.{Order}
use Rattle.order.specs.Types.{reduce}
use Rattle.types.specs.At.{type_at}
use Rattle.types.proofs.Reading.{got_seen}
use Rattle.infer.specs.Typing.{joined, Fits, Fitting, Starts, Wrote, Typed, Side, Sides, Reduced, Stands, Joined}
use Rattle.output.specs.Output.{over}

-- ---- what stands at the front
pub starts : (bs r s : List ℕ) → s ≡ bs ++ r → Starts bs s
unfolding Starts onto
starts bs r s e = rw (e, drop_at bs r (length bs) refl)

pub behind_is : (bs s : List ℕ) → Starts bs s → s ≡ bs ++ drop (length bs) s
unfolding Starts onto
behind_is bs s h = h

pub starts_inside : (bs s : List ℕ) → Starts bs s → length bs ≤ length s
starts_inside bs s h = omega (arith, ap length (behind_is bs s h), length-append bs (drop (length bs) s))

-- written over the front
pub starts_onto : (bs old new : List ℕ) → new ≡ onto bs old → Starts bs new
unfolding onto
starts_onto bs old new e = starts bs (drop (length bs) old) new e

-- a type at the front is read there
pub starts_read : (l : ℕ) (t : Ty) (s : List ℕ) → Wf t → level t ≤ l → Starts (enc t) s → type_at l s ≡ some t
unfolding type_at
starts_read l t s w h e = got_seen (read_t l s) t (length (enc t)) (ap (read_t l) (behind_is (enc t) s e) ∙ read_enc t l (drop (length (enc t)) s) w h)

-- the part `&mut xs[n..]` was lent behind p, and came back as ys
pub lent : (p xs ys : List ℕ) (n : ℕ) → Starts p xs → length p ≡ n → put_mid n (length xs - n) xs ys ≡ p ++ ys
lent p xs ys n h e =
    let short : length (drop n xs) ≤ length xs - n = simp length-drop (omega arith) in
    let none : drop (length xs - n) (drop n xs) ≡ [] = drop_of_length-le (drop n xs) short in
    let front : take n xs ≡ p = ap (take n) (behind_is p xs h) ∙ take_at p (drop (length p) xs) n e in
    rw (none, append-nil, front)

pub lent_starts : (p q xs ys : List ℕ) (n : ℕ) → Starts p xs → length p ≡ n → Starts q ys → Starts (p ++ q) (put_mid n (length xs - n) xs ys)
lent_starts p q xs ys n h e k =
    starts (p ++ q) (drop (length q) ys) (put_mid n (length xs - n) xs ys) (lent p xs ys n h e ∙ ap (λ (z : List ℕ). p ++ z) (behind_is q ys k) ∙ sym (append_assoc p q (drop (length q) ys)))

pub lent_front : (p xs ys : List ℕ) (n : ℕ) → Starts p xs → length p ≡ n → Starts p (put_mid n (length xs - n) xs ys)
lent_front p xs ys n h e = starts p ys (put_mid n (length xs - n) xs ys) (lent p xs ys n h e)

pub lent_back : (p xs ys : List ℕ) (n : ℕ) → Starts p xs → length p ≡ n → drop n (put_mid n (length xs - n) xs ys) ≡ ys
lent_back p xs ys n h e = ap (drop n) (lent p xs ys n h e) ∙ drop_at p ys n e

-- more bytes behind those that are there
pub over_starts : (p q xs : List ℕ) (n : ℕ) → Starts p xs → length p ≡ n → Starts (p ++ q) (over n q xs)
unfolding over onto
over_starts p q xs n h e =
    let front : take n xs ≡ p = ap (take n) (behind_is p xs h) ∙ take_at p (drop (length p) xs) n e in
    starts (p ++ q) (drop (length q) (drop n xs)) (over n q xs) (rw front (sym (append_assoc p q (drop (length q) (drop n xs)))))

-- ---- the predicates of the contracts, in and out
pub record Opened {X : Type 0} (wf : X → Type 0) (test : X → Bool) (want : X → ℕ) (least : Bool) (r : Option X) (room spare : ℕ) : Type 0 where
  pub x : X
  pub read : r ≡ some x
  pub fits : Fits wf test want least x room spare

module _ {X : Type 0} {wf : X → Type 0} {test : X → Bool} {want : X → ℕ} {least : Bool} where
  pub open_fit : (r : Option X) (room spare : ℕ) → Fitting wf test want least r room spare → Opened wf test want least r room spare
  unfolding Fitting
  open_fit (some x) room spare h = record { x = x; read = refl; fits = h }
  open_fit none room spare h = absurd h

  pub fit : (r : Option X) (x : X) (room spare : ℕ) → r ≡ some x → Fits wf test want least x room spare → Fitting wf test want least r room spare
  unfolding Fitting
  fit r x room spare e h = rw e h

module _ {X : Type 0} {sz : X → ℕ} {text : X → List ℕ} where
  pub typed : (r : Option X) (x : X) (old new : List ℕ) (i w : ℕ) → r ≡ some x → Wrote sz text x old new i w → Typed sz text r old new i w
  unfolding Typed
  typed r x old new i w e h = rw e h

  pub typed_is : (r : Option X) (x : X) (old new : List ℕ) (i w : ℕ) → r ≡ some x → Typed sz text r old new i w → Wrote sz text x old new i w
  unfolding Typed
  typed_is r x old new i w e h = rw e at h

pub sides : (x y : Option Ty) (t u : Ty) (s : List ℕ) (n m spare : ℕ) → x ≡ some t → y ≡ some u → Side t u s n m spare → Sides x y s n m spare
unfolding Sides
sides x y t u s n m spare e f h = rw (e, f) h

pub reduced : (O : Order) (m : Bool) (x : Option Ty) (t : Ty) → x ≡ some t → (m ≡ true → reduce O t ≡ t) → Reduced O m x
unfolding Reduced
reduced O m x t e h = rw e h

pub joined_is : (O : Order) (m equal : Bool) (x y : Option Ty) (t u : Ty) (old new : List ℕ) (n : ℕ) → x ≡ some t → y ≡ some u → Joined O m equal x y old new n
    → Stands (joined O m equal t u) old new n
unfolding Joined
joined_is O m equal x y t u old new n e f h = rw (e, f) at h

-- what `&s[n..]` is
abbrev pub behind : ℕ → List ℕ → List ℕ
behind n s = take (length s - n) (drop n s)
