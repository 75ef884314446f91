-- Two types that stand one behind the other, joined at the front.
-- Idea: equal types stay as they are; for the least type their common supertype is written, for the inferred one the first type is kept or Any written.
-- Index: `kept_equal`, `kept_by` (`keeps`); `join_ask`, `keeps_ask`, `sup_inside`, `joined_super`, `joined_first`, `joined_same`, `joined_any` (`join`);
-- `Two`, `two`, `both_inside`, `first_byte`, `onto_again`, `starts_taken`.
-- Assumes nothing.
use Prim.Native.Nat.{ℕ, ◌+◌, ◌-◌, ◌<◌, ◌≤◌}
use mathlib.Core.Path.{◌≡◌, refl, sym, ap, subst, ◌∙◌}
use mathlib.Core.Bool.{Bool, true, false, cond, not}
use mathlib.Core.Option.{Option, none, some}
use mathlib.Core.List.{List, [], ◌∷◌, ◌++◌}
use native.Mathlib.Omega.{arith}
use lib.Dec.{eqb}
use borrow.Author.Tests.{eqb-true, eqb-false}
use lib.ListN.{length, take, drop, set, length-set, take-append-drop}
use lib.Seq.{drop-append_seam}
use Rattle.form.specs.Limits.{type_levels}
use Rattle.form.specs.Trees.{any, Ty, leaf}
use Rattle.form.specs.Form.{Bytes, enc, Wf}
use Rattle.form.specs.Answers.{onto}
use Rattle.form.proofs.Types.{enc_same}
use Rattle.form.proofs.Runs.{rest}
use Rattle.order.specs.Order.{up, Order, fixed}
use Rattle.order.specs.Types.{reduce, sup}
use Rattle.order.specs.Size.{size}
use Rattle.order.specs.Document.{conforms_to, eq_ty}
use Rattle.order.proofs.Table.{bool_iff}
use Rattle.order.proofs.Simple.{fixed_laws}
use Rattle.order.proofs.Ends.{Ends}
use Rattle.order.proofs.Laws.{le_refl}
use Rattle.order.proofs.Equal.{eq_ty_same, eq_ty_self}
use Rattle.order.proofs.Size.{length_enc, size_positive, size_sup}
use Rattle.order.proofs.WellFormed.{asc_of}
use Rattle.types.specs.At.{type_at}
use Rattle.types.specs.Conform.{conform_of, Met}
use Rattle.types.proofs.Instances.{front_bytes}
use Rattle.types.proofs.Pairs.{told_no, told_yes}
use Rattle.lattice.specs.Writing.{of_types, Ready, Combined, Wrote}
use Rattle.lattice.proofs.Branches.{ready, combined_is}
use Rattle.lattice.proofs.BoundTrees.{self}
use Rattle.output.proofs.OntoLaws.{onto_front, onto_first, length_onto}
use Rattle.infer.specs.Typing.{keeps_first, joined, Starts, Side, Sides, Reduced, Kept, Stands, Joined}
use Rattle.infer.proofs.OutputFront.{sides}

-- ---- what stands at the front
pub onto_again : (bs old : List ℕ) → Starts bs (onto bs old)
unfolding Starts onto
onto_again bs old = ap (λ r. bs ++ r) (sym (drop-append_seam bs (drop (length bs) old)))

pub starts_taken : (bs s : List ℕ) (n : ℕ) → n ≡ length bs → take n s ≡ bs → Starts bs s
unfolding Starts onto
starts_taken bs s n e h = sym (take-append-drop n s) ∙ ap (λ r. r ++ drop n s) h ∙ ap (λ k. bs ++ drop k s) e

-- ---- the two types
pub record Two (x y : Option Ty) (s : List ℕ) (n m spare : ℕ) : Type 0 where
  pub t : Ty
  pub u : Ty
  pub read_t_lem : x ≡ some t
  pub read_u : y ≡ some u
  pub side : Side t u s n m spare

pub two : (x y : Option Ty) (s : List ℕ) (n m spare : ℕ) → Sides x y s n m spare → Two x y s n m spare
unfolding Sides
two (some t) (some u) s n m spare h = record { t = t; u = u; read_t_lem = refl; read_u = refl; side = h }
two (some t) none s n m spare h = absurd h
two none y s n m spare h = absurd h

-- a type with itself: its sup O is its reduced form, and it conforms to itself
joined_twice : {O : Order} → Ends O → (a b : Bool) (t : Ty) → Wf t → (a ≡ true → reduce O t ≡ t) → joined O a b t t ≡ t
joined_twice {O} L true b t w h = self L up t (asc_of t w) ∙ h refl
joined_twice {O} L false true t w h = ap (λ x. cond x t (leaf any)) (eq_ty_self t)
joined_twice {O} L false false t w h = ap (λ x. cond x t (leaf any)) (le_refl fixed fixed_laws t (asc_of t w))

is_kept : (x y : Option Ty) (t u : Ty) (q r : Bool) → x ≡ some t → y ≡ some u → r ≡ keeps_first q t u → Kept q x y r
unfolding Kept
is_kept x y t u q r p p' h = rw (p, p') h

kept_is : (x y : Option Ty) (t u : Ty) (q r : Bool) → x ≡ some t → y ≡ some u → Kept q x y r → r ≡ keeps_first q t u
unfolding Kept
kept_is x y t u q r p p' h = rw (p, p') at h

reduced_is : (O : Order) (x : Option Ty) (t : Ty) (a : Bool) → x ≡ some t → Reduced O a x → a ≡ true → reduce O t ≡ t
unfolding Reduced
reduced_is O x t a p h = rw p at h

is_joined : (O : Order) (x y : Option Ty) (t u : Ty) (a b : Bool) (old new : List ℕ) (r : ℕ) → x ≡ some t → y ≡ some u → Stands (joined O a b t u) old new r → Joined O a b x y old new r
unfolding Joined
is_joined O x y t u a b old new r p q h = rw (p, q) h

module _ (s : List ℕ) (n m spare : ℕ) (h : Sides (type_at type_levels s) (type_at type_levels (drop n s)) s n m spare) where
  T : Two (type_at type_levels s) (type_at type_levels (drop n s)) s n m spare
  T = two (type_at type_levels s) (type_at type_levels (drop n s)) s n m spare h

  pub both_inside : n + m ≤ length s
  both_inside = T.side.inside

  pub first_byte : 0 < length s
  first_byte = omega (arith, T.side.first, T.side.inside, size_positive T.t)

  -- ---- `keeps`
  first_bytes : Bytes s → take n s ≡ enc T.t
  first_bytes bs = ap (λ k. take k s) T.side.first ∙ (front_bytes type_levels s T.t bs T.read_t_lem).1

  second_bytes : Bytes (drop n s) → take m (drop n s) ≡ enc T.u
  second_bytes bs = ap (λ k. take k (drop n s)) T.side.second ∙ (front_bytes type_levels (drop n s) T.u bs T.read_u).1

  pub kept_equal : Bytes s → Bytes (drop n s) → (q r : Bool) → q ≡ true → (r ≡ true → take n s ≡ take (n + m - n) (drop n s)) × (take n s ≡ take (n + m - n) (drop n s) → r ≡ true)
      → Kept q (type_at type_levels s) (type_at type_levels (drop n s)) r
  kept_equal bs cs q r e g =
      let z : n + m - n ≡ m = omega arith in
      let d : take (n + m - n) (drop n s) ≡ enc T.u = ap (λ k. take k (drop n s)) z ∙ second_bytes cs in
      is_kept (type_at type_levels s) (type_at type_levels (drop n s)) T.t T.u q r T.read_t_lem T.read_u
      (bool_iff r (eq_ty T.t T.u)
      (λ p. ap (λ x. eq_ty T.t x) (sym (enc_same T.t T.u T.side.wf_first T.side.wf_second (sym (first_bytes bs) ∙ g.0 p ∙ d))) ∙ eq_ty_self T.t)
      (λ p. g.1 (first_bytes bs ∙ ap enc (eq_ty_same T.t T.u p) ∙ sym d))
      ∙ ap (λ x. keeps_first x T.t T.u) (sym e))

  module _ (q : Bool) (e : q ≡ false) (r t : ℕ) (w : Met (conform_of fixed (type_at type_levels (take (length s - n) (drop n s))) (type_at type_levels s)) r t) where
    told : Met (conform_of fixed (type_at type_levels (drop n s)) (type_at type_levels s)) r t
    told = rw (rest s n) at w

    pub kept_by : Kept q (type_at type_levels s) (type_at type_levels (drop n s)) (not (eqb r 0))
    kept_by = is_kept (type_at type_levels s) (type_at type_levels (drop n s)) T.t T.u q (not (eqb r 0)) T.read_t_lem T.read_u (go (eqb r 0) refl ∙ ap (λ z. keeps_first z T.t T.u) (sym e))
      where
        go : (b : Bool) → eqb r 0 ≡ b → not b ≡ conforms_to T.u T.t
        go true z = sym (told_no size size conforms_to size_positive r t told T.u T.t T.read_u T.read_t_lem (eqb-true r 0 z))
        go false z = sym (told_yes size size conforms_to size_positive r t told T.u T.t T.read_u T.read_t_lem (eqb-false r 0 z)).0

  -- ---- `join`
  pub keeps_ask : Sides (type_at type_levels s) (type_at type_levels (drop n s)) s n m (n + m)
  keeps_ask =
      sides (type_at type_levels s) (type_at type_levels (drop n s)) T.t T.u s n m (n + m) T.read_t_lem T.read_u
      (record {
        first = T.side.first;
        second = T.side.second;
        inside = T.side.inside;
        spared = omega arith;
        small = T.side.small;
        wf_first = T.side.wf_first;
        wf_second = T.side.wf_second;
      })

  module _ (O : Order) where
    sup_size : size (sup O T.t T.u) ≤ n + m
    sup_size = omega (arith, size_sup O T.t T.u (asc_of T.t T.side.wf_first), T.side.first, T.side.second)

    pub join_ask : Ready (of_types O up) (type_at type_levels s) (type_at type_levels (take (length s - n) (drop n s))) spare
    join_ask =
        ready (of_types O up) (type_at type_levels s) (type_at type_levels (take (length s - n) (drop n s))) T.t T.u spare T.read_t_lem (ap (type_at type_levels) (rest s n) ∙ T.read_u)
        (omega (arith, sup_size, T.side.spared)) (omega (arith, sup_size, T.side.small))

    module _ (sc sc2 : List ℕ) (i j w : ℕ) (sp : spare ≡ length sc) (c : Combined (of_types O up) (type_at type_levels s) (type_at type_levels (take (length s - n) (drop n s))) sc sc2 i j w) where
      W : Wrote (of_types O up) T.t T.u sc sc2 i j w
      W = combined_is (of_types O up) (type_at type_levels s) (type_at type_levels (take (length s - n) (drop n s))) T.t T.u sc sc2 i j w T.read_t_lem
          (ap (type_at type_levels) (rest s n) ∙ T.read_u) c

      long : w ≡ length (enc (sup O T.t T.u))
      long = W.long ∙ sym (length_enc (sup O T.t T.u))

      pub sup_spared : w ≤ spare
      sup_spared = omega (arith, W.long, sup_size, T.side.spared)

      pub sup_inside : w ≤ length s
      sup_inside = omega (arith, W.long, sup_size, T.side.inside)

      pub sup_kept : length sc2 ≡ length sc
      sup_kept = ap length W.out ∙ length_onto (enc (sup O T.t T.u)) sc (omega (arith, sup_spared, long, sp))

      pub joined_super : (a b : Bool) → a ≡ true → (new : List ℕ) → new ≡ onto (take w sc2) s → Joined O a b (type_at type_levels s) (type_at type_levels (drop n s)) s new w
      joined_super a b e new o =
          let part : take w sc2 ≡ enc (sup O T.t T.u) = ap (take w) W.out ∙ onto_front (enc (sup O T.t T.u)) sc w long in
          let new_is : new ≡ onto (enc (sup O T.t T.u)) s = o ∙ ap (λ z. onto z s) part in
          is_joined O (type_at type_levels s) (type_at type_levels (drop n s)) T.t T.u a b s new w T.read_t_lem T.read_u
          (subst (λ x. Stands (joined O x b T.t T.u) s new w) (sym e)
          (record {
            long = long;
            out = subst (Starts (enc (sup O T.t T.u))) (sym new_is) (onto_again (enc (sup O T.t T.u)) s);
            kept = ap length new_is
                ∙ length_onto (enc (sup O T.t T.u)) s (omega (arith, long, sup_inside));
          }))

    joined_by : (a b r : Bool) → a ≡ false → Kept b (type_at type_levels s) (type_at type_levels (drop n s)) r → joined O a b T.t T.u ≡ cond r T.t (leaf any)
    joined_by a b r e k =
        ap (λ x. joined O x b T.t T.u) e ∙ ap (λ x. cond x T.t (leaf any)) (sym (kept_is (type_at type_levels s) (type_at type_levels (drop n s)) T.t T.u b r T.read_t_lem T.read_u k))

    -- nothing was written: the first type stands as it is
    stays : Bytes s → (a b : Bool) → joined O a b T.t T.u ≡ T.t → Joined O a b (type_at type_levels s) (type_at type_levels (drop n s)) s s n
    stays bs a b e =
        let z : n ≡ length (enc T.t) = T.side.first ∙ sym (length_enc T.t) in
        is_joined O (type_at type_levels s) (type_at type_levels (drop n s)) T.t T.u a b s s n T.read_t_lem T.read_u
        (subst (λ x. Stands x s s n) (sym e) (record { long = z; out = starts_taken (enc T.t) s n z (first_bytes bs); kept = refl }))

    pub joined_first : Bytes s → (a b r : Bool) → a ≡ false → Kept b (type_at type_levels s) (type_at type_levels (drop n s)) r → r ≡ true
        → Joined O a b (type_at type_levels s) (type_at type_levels (drop n s)) s s n
    joined_first bs a b r e k y = stays bs a b (joined_by a b r e k ∙ ap (λ x. cond x T.t (leaf any)) y)

    -- equal types stay as they are
    pub joined_same : Ends O → Bytes s → (a b r : Bool) → Reduced O a (type_at type_levels s) → Kept true (type_at type_levels s) (type_at type_levels (drop n s)) r → r ≡ true
        → Joined O a b (type_at type_levels s) (type_at type_levels (drop n s)) s s n
    joined_same L bs a b r h k y =
        let same : T.t ≡ T.u = eq_ty_same T.t T.u (sym (kept_is (type_at type_levels s) (type_at type_levels (drop n s)) T.t T.u true r T.read_t_lem T.read_u k) ∙ y) in
        stays bs a b (ap (joined O a b T.t) (sym same) ∙ joined_twice L a b T.t T.side.wf_first (reduced_is O (type_at type_levels s) T.t a T.read_t_lem h))

    pub joined_any : (a b r : Bool) → a ≡ false → Kept b (type_at type_levels s) (type_at type_levels (drop n s)) r → r ≡ false
        → Joined O a b (type_at type_levels s) (type_at type_levels (drop n s)) s (set s 0 32) 1
    unfolding enc
    joined_any a b r e k y =
        is_joined O (type_at type_levels s) (type_at type_levels (drop n s)) T.t T.u a b s (set s 0 32) 1 T.read_t_lem T.read_u
        (subst (λ x. Stands x s (set s 0 32) 1) (sym (joined_by a b r e k ∙ ap (λ x. cond x T.t (leaf any)) y))
        (record { long = refl; out = subst (Starts (32 ∷ [])) (sym (onto_first s 32 first_byte)) (onto_again (32 ∷ []) s); kept = length-set s 0 32 }))
