-- A call that reads two arguments and holds the first against the second: from one pass over both to the call's outcome.
-- Idea: a yes of the pass with both lengths is the call's yes; every other end of the pass says that the call does not answer yes.
-- Index: `asked`, `first_refused`, `second_refused`, `asked_yes`, `not_yes`, `both_read` (the outcome); `Whole`, `whole_by` (a reader of a whole); `told_whole`, `apart`, `over_first`,
-- `long_first`, `long_second`, `answers_no`, `not_all` (the pass); `Agree`, `agree` (what a yes is of).
-- Assumes nothing.
use Prim.Native.Nat.{ℕ, ◌<◌, ◌≤◌}
use mathlib.Core.Path.{◌≡◌, refl, sym, ap, ◌∙◌}
use mathlib.Core.Bool.{Bool, true, false, false≢true}
use mathlib.Core.Option.{Option, some}
use mathlib.Core.List.{List}
use native.Mathlib.Omega.{arith}
use lib.ListN.{length}
use lib.Dec.{eqb}
use borrow.Author.Tests.{lt-ltb, le-leb, eqb-true, eqb-false, ne_eqb}
use Rattle.form.specs.Limits.{most_bytes}
use Rattle.form.specs.Outcome.{Outcome, done, refused, ◌>>=◌, ◌>>◌}
use Rattle.form.specs.Read.{Got, got, read_whole}
use Rattle.form.proofs.Accepted.{all_got, whole_got, whole_short}
use Rattle.types.specs.At.{seen}
use Rattle.types.specs.Conform.{conform_by, Met}
use Rattle.types.specs.Calls.{is_yes}
use Rattle.types.proofs.Reading.{seen_got, got_seen}
use Rattle.types.proofs.Pairs.{Both, taken, yes_of, told_no}

-- both are read, self first
abbrev pub asked : {X Y : Type 0} → (X → Y → Bool) → Outcome X → Outcome Y → Outcome Bool
asked test p q = do
  s ← p
  t ← q
  done (test s t)

-- ---- the refusals, then the answer
module _ {X Y : Type 0} (test : X → Y → Bool) {p : Outcome X} (q : Outcome Y) where
  pub first_refused : {n : ℕ} → p ≡ refused n → refused n ≡ asked test p q
  unfolding ◌>>=◌
  first_refused e = rw e

  pub second_refused : {x : X} {n : ℕ} → p ≡ done x → q ≡ refused n → refused n ≡ asked test p q
  unfolding ◌>>=◌
  second_refused e f = rw (e, f)

  pub both_read : {x : X} {y : Y} → p ≡ done x → q ≡ done y → asked test p q ≡ done (test x y)
  unfolding ◌>>=◌
  both_read e f = rw (e, f)

  pub fails : {x : X} {y : Y} → p ≡ done x → q ≡ done y → false ≡ is_yes (asked test p q) → test x y ≡ false
  fails e f z = sym (z ∙ ap is_yes (both_read e f))

pub asked_yes : (o : Outcome Bool) → true ≡ is_yes o → done true ≡ o
asked_yes (done q) e = ap done e
asked_yes (refused n) e = absurd (let z : ◌≡◌ {A = ℕ} 0 1 = cc in omega arith)

-- no yes: the refusals, or no
pub not_yes : {X Y : Type 0} (test : X → Y → Bool) (p : Outcome X) (q : Outcome Y) → false ≡ is_yes (asked test p q) → asked (λ x y. false) p q ≡ asked test p q
unfolding ◌>>=◌
not_yes test (done x) (done y) e = ap done e
not_yes test (done x) (refused n) e = refl
not_yes test (refused n) q e = refl

-- what a yes is of
pub record Agree {X Y : Type 0} (test : X → Y → Bool) (p : Outcome X) (q : Outcome Y) : Type 0 where
  pub x : X
  pub y : Y
  pub first : p ≡ done x
  pub second : q ≡ done y
  pub holds : test x y ≡ true

pub agree : {X Y : Type 0} (test : X → Y → Bool) (p : Outcome X) (q : Outcome Y) → true ≡ is_yes (asked test p q) → Agree test p q
unfolding ◌>>=◌
agree test (done x) (done y) e = record { x = x; y = y; first = refl; second = refl; holds = sym e }
agree test (done x) (refused n) e = absurd (false≢true (sym e))
agree test (refused n) q e = absurd (false≢true (sym e))

-- ---- a reader of a whole: what it accepts stands at the front and takes all bytes, 1 to 16,384
pub record Whole {X : Type 0} (sz : X → ℕ) (one : List ℕ → Option X) (read : List ℕ → Outcome X) : Type 0 where
  pub positive : (x : X) → 0 < sz x
  pub accepts : (s : List ℕ) (x : X) → one s ≡ some x → sz x ≡ length s → length s ≤ most_bytes → read s ≡ done x
  pub stands : (s : List ℕ) (x : X) → read s ≡ done x → one s ≡ some x
  pub fills : (s : List ℕ) (x : X) → read s ≡ done x → (sz x ≡ length s) × (length s ≤ most_bytes)

pub whole_by : {X : Type 0} (sz : X → ℕ) (read : List ℕ → Got X) (base : ℕ) → ((x : X) → 0 < sz x) → ((s : List ℕ) (x : X) (n : ℕ) → read s ≡ got x n → (n ≡ sz x) × (0 < length s))
    → Whole sz (λ s. seen (read s)) (read_whole base read)
unfolding read_whole ◌>>◌
whole_by sz read base positive told = record {
  positive = positive;
  accepts = λ s x e z h.
      seen_got (read s) x e (λ n r.
      let F = told s x n r in
      let nz : n ≡ length s = F.0 ∙ z in
      rw (lt-ltb 0 (length s) F.1, le-leb (length s) most_bytes h) (all_got base (length s) (read s) x (r ∙ ap (got x) nz)));
  stands = λ s x e. got_seen (read s) x (length s) (whole_got base read s x e);
  fills = λ s x e. (sym (told s x (length s) (whole_got base read s x e)).0, whole_short base read s x e);
}

-- ---- whether the call answers yes
module _ {X Y : Type 0} {sx : X → ℕ} {sy : Y → ℕ} {one : List ℕ → Option X} {two : List ℕ → Option Y} {first : List ℕ → Outcome X} {second : List ℕ → Outcome Y} (P : Whole sx one first)
    (Q : Whole sy two second) (test : X → Y → Bool) (a b : List ℕ) where
  pub answers_no : ((x : X) (y : Y) → first a ≡ done x → second b ≡ done y → test x y ≡ false) → false ≡ is_yes (asked test (first a) (second b))
  unfolding ◌>>=◌
  answers_no f = go (first a) (second b) refl refl
    where
      go : (p : Outcome X) (q : Outcome Y) → first a ≡ p → second b ≡ q → false ≡ is_yes (asked test (first a) (second b))
      go (done x) (done y) e g = rw (e, g) (sym (f x y e g))
      go (done x) (refused n) e g = rw (e, g)
      go (refused n) q e g = rw e

  pub long_first : most_bytes < length a → false ≡ is_yes (asked test (first a) (second b))
  long_first h = answers_no (λ x y e f. absurd (let z = P.fills a x e in omega arith))

  pub long_second : most_bytes < length b → false ≡ is_yes (asked test (first a) (second b))
  long_second h = answers_no (λ x y e f. absurd (let z = Q.fills b y f in omega arith))

  module _ (r t : ℕ) (m : Met (conform_by sx sy test (one a) (two b)) r t) where
    pub apart : r ≡ 0 → false ≡ is_yes (asked test (first a) (second b))
    apart z = answers_no (λ x y e f. told_no sx sy test P.positive r t m x y (P.stands a x e) (Q.stands b y f) z)

    module _ (z : r ≡ 0 → ⊥) where
      B : Both sx sy test (one a) (two b) r t
      B = taken sx sy test (one a) (two b) r t (yes_of (conform_by sx sy test (one a) (two b)) r t m z)

      sized_a : (x : X) → first a ≡ done x → r ≡ length a
      sized_a x e = let w : B.x ≡ x = some_same (sym B.read_a ∙ P.stands a x e) in B.size_a ∙ ap sx w ∙ (P.fills a x e).0
        where
          some_same : {u v : X} → some u ≡ some v → u ≡ v
          some_same h = cc

      sized_b : (y : Y) → second b ≡ done y → t ≡ length b
      sized_b y e = let w : B.y ≡ y = some_same (sym B.read_b ∙ Q.stands b y e) in B.size_b ∙ ap sy w ∙ (Q.fills b y e).0
        where
          some_same : {u v : Y} → some u ≡ some v → u ≡ v
          some_same h = cc

      -- some bytes are left over
      pub over_first : (r ≡ length a → ⊥) → false ≡ is_yes (asked test (first a) (second b))
      over_first h = answers_no (λ x y e f. absurd (h (sized_a x e)))

      pub told_whole : r ≡ length a → length a ≤ most_bytes → length b ≤ most_bytes → eqb t (length b) ≡ is_yes (asked test (first a) (second b))
      told_whole p ha hb = go (eqb t (length b)) refl
        where
          go : (q : Bool) → eqb t (length b) ≡ q → eqb t (length b) ≡ is_yes (asked test (first a) (second b))
          go true e = e
              ∙ sym (ap is_yes (both_read test (second b) (P.accepts a B.x B.read_a (sym B.size_a ∙ p) ha) (Q.accepts b B.y B.read_b (sym B.size_b ∙ eqb-true t (length b) e) hb))
              ∙ B.holds)
          go false e = e ∙ answers_no (λ x y f g. absurd (eqb-false t (length b) e (sized_b y g)))

    -- not all bytes were taken
    pub not_all : (r ≡ length a → ⊥) → eqb r (length a) ≡ is_yes (asked test (first a) (second b))
    not_all h = ne_eqb r (length a) h ∙ go (eqb r 0) refl
      where
        go : (q : Bool) → eqb r 0 ≡ q → false ≡ is_yes (asked test (first a) (second b))
        go true e = apart (eqb-true r 0 e)
        go false e = over_first (eqb-false r 0 e) h
