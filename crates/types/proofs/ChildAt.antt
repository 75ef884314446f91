-- The child that stands at a place of a run, and what is left behind it, whatever the children are and in whatever order their names stand.
-- Idea: the reader tells each child's size, so that the rest of the run stands as many bytes behind it.
-- Index: `ItemAt`, `item_at`, `item_behind` (without names); `EntryAt`, `entry_at`, `entry_behind`, `entry_ok` (with names); `none_at` (none is left).
-- Assumes nothing.
use Prim.Native.Nat.{ℕ, suc, ◌+◌, ◌-◌, ◌≤◌}
use mathlib.Core.Path.{◌≡◌, refl, sym, ap, ap₂, subst, ◌∙◌}
use mathlib.Core.Option.{Option, some}
use mathlib.Core.List.{List}
use native.Mathlib.Omega.{arith}
use lib.ListN.{length, drop, length-drop}
use lib.Seq.{drop-drop}
use Rattle.form.specs.Limits.{name_width}
use Rattle.form.specs.Form.{num_at}
use Rattle.form.specs.Read.{Got, read_run, read_named}
use Rattle.form.proofs.Nodes.{item_parts, named_parts}
use Rattle.form.proofs.Runs.{rest, behind}
use Rattle.types.specs.At.{seen, Ok}
use Rattle.types.proofs.Reading.{is_ok, seen_got, got_seen, Tells, RunSizes, NamedSizes, named_told}

-- x stands at `at`, and n others follow
pub record ItemAt {X R : Type 0} (sz : X → ℕ) (szs : R → ℕ) (one : List ℕ → Option X) (many : ℕ → List ℕ → Option R) (cons : X → R → R) (n at : ℕ) (s : List ℕ) (xs : R) : Type 0 where
  pub x : X
  pub more : R
  pub first : one (drop at s) ≡ some x
  pub fits : at + sz x ≤ length s
  pub second : many n (drop (at + sz x) s) ≡ some more
  pub is : xs ≡ cons x more
  pub sized : szs xs ≡ sz x + szs more

-- the same behind its name, which is at least `least`; those that follow are at least `after name`
pub record EntryAt {X R : Type 0} (sz : X → ℕ) (szs : R → ℕ) (ascs : R → ℕ → Type 0) (one : List ℕ → Option X) (many : ℕ → ℕ → List ℕ → Option R) (cons : ℕ → X → R → R) (after : ℕ → ℕ)
    (n at least : ℕ) (s : List ℕ) (xs : R) : Type 0 where
  pub name : ℕ
  pub x : X
  pub more : R
  pub two : at + name_width ≤ length s
  pub named : name ≡ num_at name_width at s
  pub above : least ≤ name
  pub first : one (drop (at + name_width) s) ≡ some x
  pub fits : at + name_width + sz x ≤ length s
  pub second : many n (after name) (drop (at + name_width + sz x) s) ≡ some more
  pub is : xs ≡ cons name x more
  pub sized : szs xs ≡ name_width + sz x + szs more
  pub asc : ascs more (after name)

pub item_at : {X R : Type 0} {sz : X → ℕ} {asc : X → Type 0} {nil : R} {cons : X → R → R} {szs : R → ℕ} {ascs : R → Type 0} → RunSizes sz asc nil cons szs ascs → (child : List ℕ → Got X)
    → Tells sz asc child → (c at : ℕ) (s : List ℕ) (xs : R) → at ≤ length s → seen (read_run nil cons child (suc c) (drop at s)) ≡ some xs
    → ItemAt sz szs (λ r. seen (child r)) (λ k r. seen (read_run nil cons child k r)) cons c at s xs
item_at {sz = sz} {nil = nil} {cons = cons} {szs = szs} A child ih c at s xs in_s e =
    seen_got (read_run nil cons child (suc c) (drop at s)) xs e (λ k r.
    item_parts nil cons child c (drop at s) xs k r (λ x m px y j py pz pn.
    let F = ih (drop at s) x m px in
    record {
      x = x;
      more = y;
      first = got_seen (child (drop at s)) x m px;
      fits = omega (arith, F.sized, simp length-drop at F.inside);
      second = got_seen (read_run nil cons child c (drop (at + sz x) s)) y j (ap (read_run nil cons child c) (ap (λ k. drop (at + k) s) (sym F.sized) ∙ sym (drop-drop m at s)) ∙ py);
      is = sym pz;
      sized = ap szs (sym pz) ∙ A.size_cons x y;
    }))

pub entry_at : {X R : Type 0} {sz : X → ℕ} {asc : X → Type 0} {nil : R} {cons : ℕ → X → R → R} {next after : ℕ → ℕ} {szs : R → ℕ} {ascs : R → ℕ → Type 0}
    → NamedSizes sz asc nil cons next after szs ascs → (child : List ℕ → Got X) → Tells sz asc child → (c at least : ℕ) (s : List ℕ) (xs : R)
    → seen (read_named nil cons next child (suc c) least (drop at s)) ≡ some xs
    → EntryAt sz szs ascs (λ r. seen (child r)) (λ k j r. seen (read_named nil cons next child k j r)) cons after c at least s xs
entry_at {sz = sz} {nil = nil} {cons = cons} {next = next} {after = after} {szs = szs} {ascs = ascs} A child ih c at least s xs e =
    let m = num_at name_width at s in
    seen_got (read_named nil cons next child (suc c) least (drop at s)) xs e (λ k r.
    named_parts nil cons next child c least (drop at s) xs k r (λ w l x k px y j py pz pn.
    let to : drop (at + name_width) s ≡ drop name_width (drop at s) = sym (drop-drop name_width at s) in
    let F = ih (drop (at + name_width) s) x k (ap child to ∙ px) in
    let on : drop (at + name_width + sz x) s ≡ drop k (drop name_width (drop at s)) = ap (λ k. drop (at + name_width + k) s) (sym F.sized) ∙ sym (drop-drop k (at + name_width) s) ∙ ap (drop k) to in
    let two : at + name_width ≤ length s = omega (arith, simp length-drop at w) in
    record {
      name = m;
      x = x;
      more = y;
      two = two;
      named = refl;
      above = l;
      first = got_seen (child (drop (at + name_width) s)) x k (ap child to ∙ px);
      fits = omega (arith, F.sized, simp length-drop at F.inside);
      second = got_seen (read_named nil cons next child c (after m) (drop (at + name_width + sz x) s)) y j (ap₂ (read_named nil cons next child c) (sym (A.goes_on m)) on ∙ py);
      is = sym pz;
      sized = ap szs (sym pz) ∙ A.size_cons m x y;
      asc = subst (ascs y) (A.goes_on m) (named_told A child ih c (next m) (drop k (drop name_width (drop at s))) y j py).ascend;
    }))

-- ---- read from the bytes that are lent to a callee
pub item_behind : {X R : Type 0} {sz : X → ℕ} {szs : R → ℕ} {one : List ℕ → Option X} {many : ℕ → List ℕ → Option R} {cons : X → R → R} {n at : ℕ} {s : List ℕ} {xs : R}
    (I : ItemAt sz szs one many cons n at s xs) → one (behind at s) ≡ some I.x
item_behind {one = one} {at = at} {s = s} I = ap one (rest s at) ∙ I.first

module _ {X R : Type 0} {sz : X → ℕ} {szs : R → ℕ} {ascs : R → ℕ → Type 0} {one : List ℕ → Option X} {many : ℕ → ℕ → List ℕ → Option R} {cons : ℕ → X → R → R} {after : ℕ → ℕ} {n at least : ℕ}
    {s : List ℕ} {xs : R} (E : EntryAt sz szs ascs one many cons after n at least s xs) where
  pub entry_behind : one (behind (at + name_width) s) ≡ some E.x
  entry_behind = ap one (rest s (at + name_width)) ∙ E.first

  pub entry_ok : Ok (one (behind (at + name_width) s))
  entry_ok = is_ok (one (behind (at + name_width) s)) E.x entry_behind

-- none is left where none stands
pub none_at : {R : Type 0} (nil xs : R) (many : ℕ → Option R) (i n : ℕ) → many 0 ≡ some nil → n ≤ i → many (n - i) ≡ some xs → xs ≡ nil
none_at nil xs many i n o h e =
    let z : n - i ≡ 0 = omega arith in
    let p : some xs ≡ some nil = sym e ∙ ap many z ∙ o in
    cc
