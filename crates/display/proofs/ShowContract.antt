-- The contract of a call that shows, in and out; and a text between what stands in front of it and behind it.
-- Idea: one law for list, range, context and function, over the two pieces around the inner text.
-- Index: `shows_none`, `shows_some`, `shown_none`, `Got`, `shown_some` (the contract); `Wrap`, `wrap_ok`, `wrap_none`, `wrap_fits`, `wrap_done`, `wrap_open` (a text between two pieces).
-- Assumes nothing.
use Prim.Native.Nat.{ℕ, ◌+◌, ◌≤◌}
use mathlib.Core.Path.{◌≡◌, refl, sym, ap, ap₂, ◌∙◌}
use mathlib.Core.Option.{Option, none, some}
use mathlib.Core.List.{List, [], ◌++◌, append_assoc, append-nil}
use native.Mathlib.Omega.{arith}
use lib.ListN.{length, length-append}
use Rattle.std.specs.Prelude.{Option as Answer, None, Some}
use Rattle.std.proofs.lemmas.Option.{none-some, same_Some}
use Rattle.form.specs.Limits.{most_bytes}
use Rattle.form.specs.Options.{map}
use Rattle.types.specs.At.{Ok}
use Rattle.types.proofs.Reading.{is_ok}
use Rattle.output.specs.Output.{puts}
use Rattle.names.proofs.Pieces.{put_twice}
use Rattle.display.specs.declared.Shown.{Shown}
use Rattle.display.specs.Writing.{Showing, Said, Shows}

-- what was shown
pub record Got {X : Type 0} (S : Showing X) (ts : List (List ℕ)) (x : X) (at : ℕ) (old new : List ℕ) (s : Shown) : Type 0 where
  pub bs : List ℕ
  pub is : S.said ts x ≡ some bs
  pub size : s.read ≡ S.sized x
  pub ends : s.to ≡ at + length bs
  pub out : new ≡ puts at bs old

module _ {X : Type 0} (S : Showing X) (ts : List (List ℕ)) (o : Option X) (x : X) (eo : o ≡ some x) (at : ℕ) (old new : List ℕ) (r : Answer Shown) where
  pub shows_none : S.said ts x ≡ none → r ≡ None → Shows S ts o at old new r
  unfolding Shows Said
  shows_none e h = rw (eo, e) h

  pub shows_some : (bs : List ℕ) → S.said ts x ≡ some bs → (s : Shown) → r ≡ Some s → s.read ≡ S.sized x → s.to ≡ at + length bs → new ≡ puts at bs old → Shows S ts o at old new r
  unfolding Shows Said
  shows_some bs e s h a b w = rw (eo, e) (h ∙ ap₂ (λ (i j : ℕ). Some (record { read = i; to = j })) a b, w)

  module _ (h : Shows S ts o at old new r) where
    said : Said (S.sized x) (S.said ts x) at old new r
    unfolding Shows
    said = rw eo at h

    pub shown_none : r ≡ None → S.said ts x ≡ none
    unfolding Said
    shown_none e = go (S.said ts x) said
      where
        go : (q : Option (List ℕ)) → Said (S.sized x) q at old new r → q ≡ none
        go none k = refl
        go (some bs) k = absurd (none-some (record { read = S.sized x; to = at + length bs }) (sym e ∙ k.0))

    pub shown_some : (s : Shown) → r ≡ Some s → Got S ts x at old new s
    unfolding Said
    shown_some s e = go (S.said ts x) refl said
      where
        go : (q : Option (List ℕ)) → S.said ts x ≡ q → Said (S.sized x) q at old new r → Got S ts x at old new s
        go none p k = absurd (none-some s (sym k ∙ e))
        go (some bs) p k =
            let z : s ≡ record { read = S.sized x; to = at + length bs } = same_Some s (record { read = S.sized x; to = at + length bs }) (sym e ∙ k.0) in
            record { bs = bs; is = p; size = ap (λ (q : Shown). q.read) z; ends = ap (λ (q : Shown). q.to) z; out = k.1 }

-- ---- x is shown between `front` and `back`, and that shows y, which has k bytes more
pub record Wrap {X Y : Type 0} (S : Showing X) (R : Showing Y) (front back : List ℕ) (k : ℕ) (gx : Option X) (gy : Option Y) (ts : List (List ℕ)) : Type 0 where
  pub x : X
  pub y : Y
  pub part : gx ≡ some x
  pub whole : gy ≡ some y
  pub sized : R.sized y ≡ S.sized x + k
  pub said : R.said ts y ≡ map (λ s. front ++ (s ++ back)) (S.said ts x)
  pub room : S.sized x + k ≤ most_bytes + 1

module _ {X Y : Type 0} {S : Showing X} {R : Showing Y} {front back : List ℕ} {k : ℕ} {gx : Option X} {gy : Option Y} {ts : List (List ℕ)} (W : Wrap S R front back k gx gy ts) where
  pub wrap_ok : Ok gx
  wrap_ok = is_ok gx W.x W.part

  -- the front was put, and what is inside behind it
  module _ (at from : ℕ) (old one mid : List ℕ) (r : Answer Shown) (ef : from ≡ at + length front) (eo : one ≡ puts at front old) (h : Shows S ts gx from one mid r) where
    pub wrap_none : r ≡ None → (new : List ℕ) (q : Answer Shown) → q ≡ None → Shows R ts gy at old new q
    wrap_none e new q z = shows_none R ts gy W.y W.whole at old new q (W.said ∙ ap (map (λ s. front ++ (s ++ back))) (shown_none S ts gx W.x W.part from one mid r h e)) z

    module _ (s : Shown) (e : r ≡ Some s) where
      G : Got S ts W.x from one mid s
      G = shown_some S ts gx W.x W.part from one mid r h s e

      pub wrap_fits : s.read + k ≤ most_bytes + 1
      wrap_fits = omega (arith, G.size, W.room)

      said_is : R.said ts W.y ≡ some (front ++ (G.bs ++ back))
      said_is = W.said ∙ ap (map (λ s. front ++ (s ++ back))) G.is

      inside : mid ≡ puts at (front ++ G.bs) old
      inside = G.out ∙ ap (puts from G.bs) eo ∙ put_twice from at front G.bs old ef

      -- and `back` behind it
      pub wrap_done : (n : ℕ) (new : List ℕ) → n ≡ s.to + length back → new ≡ puts s.to back mid → (q : Answer Shown) → q ≡ Some (record { read = s.read + k; to = n }) → Shows R ts gy at old new q
      wrap_done n new en ew q z =
          shows_some R ts gy W.y W.whole at old new q (front ++ (G.bs ++ back)) said_is (record { read = s.read + k; to = n }) z (omega (arith, G.size, W.sized))
          (omega (arith, G.ends, length-append front (G.bs ++ back), length-append G.bs back))
          (ew ∙ ap (puts s.to back) inside ∙ put_twice s.to at (front ++ G.bs) back old (omega (arith, G.ends, length-append front G.bs))
          ∙ ap (λ (w : List ℕ). puts at w old) (append_assoc front G.bs back))

      -- or nothing
      pub wrap_open : back ≡ [] → (q : Answer Shown) → q ≡ Some (record { read = s.read + k; to = s.to }) → Shows R ts gy at old mid q
      wrap_open n q z =
          let w : front ++ (G.bs ++ back) ≡ front ++ G.bs = ap (λ (b : List ℕ). front ++ (G.bs ++ b)) n ∙ ap (λ (b : List ℕ). front ++ b) (append-nil G.bs) in
          shows_some R ts gy W.y W.whole at old mid q (front ++ G.bs) (said_is ∙ ap some w) (record { read = s.read + k; to = s.to }) z (omega (arith, G.size, W.sized))
          (omega (arith, G.ends, length-append front G.bs)) inside
