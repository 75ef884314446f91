-- What a walk or a builder needs of an order: Null and Any at its ends, and a type with itself. Every lawful order has it, and the order of every reading has it
-- too, whatever its bits say: so the walks and builders are exact for every number, and only a table that loads needs the laws.
-- Idea: with the ends, and between equal types, the table's bits are not asked.
-- Index: `Ends`, `laws_ends`, `reading_ends`; `antisym`, `below_bound` (of a lawful order, in a direction); `related_end`, `end_related` (no bit at the ends); `below_self`.
-- Assumes nothing.
use Prim.Native.Nat.{ℕ, ◌-◌, ◌*◌, ◌+◌}
use mathlib.Core.Path.{◌≡◌, refl, sym, ◌∙◌, ap}
use mathlib.Core.Bool.{Bool, true, false, cond, ◌&&◌, ◌||◌, true≢false}
use lib.Dec.{eqb, ltb}
use borrow.Author.Tests.{eqb-true, eq-eqb}
use Rattle.form.specs.Trees.{Simple, any, null, code, decode}
use Rattle.order.specs.Order.{same, Dir, up, down, Order, Laws, scmp, sbound, is_inner, related, below, bit, nearest, order_of}
use Rattle.order.proofs.Bools.{and_false}
use Rattle.order.proofs.Simple.{same_eq, and_left, and_right, and_both, scmp_refl, scmp_bound}

pub record Ends (O : Order) : Type 0 where
  pub reflexive : (s : Simple) → O.sle s s ≡ true
  pub null_least_lem : (s : Simple) → O.sle null s ≡ true
  pub any_greatest_lem : (s : Simple) → O.sle s any ≡ true
  -- only Null conforms to Null, and Any only to Any
  pub to_null : (s : Simple) → O.sle s null ≡ same s null
  pub from_any : (s : Simple) → O.sle any s ≡ same s any
  pub join_same : (s : Simple) → O.sjoin s s ≡ s
  pub null_join : (s : Simple) → O.sjoin null s ≡ s
  pub join_null : (s : Simple) → O.sjoin s null ≡ s
  pub meet_same : (s : Simple) → O.smeet s s ≡ s
  pub any_meet : (s : Simple) → O.smeet any s ≡ s
  pub meet_any : (s : Simple) → O.smeet s any ≡ s

-- ---- of a lawful order
module _ (O : Order) (L : Laws O) where
  pub antisym : (d : Dir) (s t : Simple) → scmp O d s t ≡ true → scmp O d t s ≡ true → s ≡ t
  antisym up s t p q = L.antisymmetric s t p q
  antisym down s t p q = L.antisymmetric s t q p

  pub below_bound : (d : Dir) (s t : Simple) → scmp O d s (sbound O d s t) && scmp O d t (sbound O d s t) ≡ true
  below_bound d s t = sym (scmp_bound O L d s t (sbound O d s t)) ∙ scmp_refl O L d (sbound O d s t)

  -- a bound is the greater of two
  bound_right : (d : Dir) (s t : Simple) → scmp O d s t ≡ true → sbound O d s t ≡ t
  bound_right d s t h =
      antisym d (sbound O d s t) t (scmp_bound O L d s t t ∙ and_both (scmp O d s t) (scmp O d t t) h (scmp_refl O L d t))
      (and_right (scmp O d s (sbound O d s t)) (scmp O d t (sbound O d s t)) (below_bound d s t))

  bound_left : (d : Dir) (s t : Simple) → scmp O d t s ≡ true → sbound O d s t ≡ s
  bound_left d s t h =
      antisym d (sbound O d s t) s (scmp_bound O L d s t s ∙ and_both (scmp O d s s) (scmp O d t s) (scmp_refl O L d s) h)
      (and_left (scmp O d s (sbound O d s t)) (scmp O d t (sbound O d s t)) (below_bound d s t))

  -- two that conform mutually are the same
  only : (x : Bool) (s t : Simple) → O.sle s t ≡ x → O.sle t s ≡ true → x ≡ same s t
  only true s t e h = sym (eq-eqb (code s) (code t) (ap code (L.antisymmetric s t e h)))
  only false s t e h = go (same s t) refl
    where
      go : (q : Bool) → same s t ≡ q → false ≡ q
      go true f = absurd (true≢false (sym (L.reflexive s) ∙ ap (λ x. O.sle s x) (same_eq s t f) ∙ e))
      go false f = refl

  same_comm : (s t : Simple) (q : Bool) → same s t ≡ q → q ≡ same t s
  same_comm s t true e = sym (eq-eqb (code t) (code s) (sym (eqb-true (code s) (code t) e)))
  same_comm s t false e = go (same t s) refl
    where
      go : (q : Bool) → same t s ≡ q → false ≡ q
      go true f = absurd (true≢false (sym (eq-eqb (code s) (code t) (sym (eqb-true (code t) (code s) f))) ∙ e))
      go false f = refl

  pub laws_ends : Ends O
  laws_ends =
      record {
        reflexive = L.reflexive;
        null_least_lem = L.null_least_lem;
        any_greatest_lem = L.any_greatest_lem;
        to_null = λ s. only (O.sle s null) s null refl (L.null_least_lem s);
        from_any = λ s. only (O.sle any s) any s refl (L.any_greatest_lem s) ∙ same_comm any s (same any s) refl;
        join_same = λ s. bound_right up s s (L.reflexive s);
        null_join = λ s. bound_right up null s (L.null_least_lem s);
        join_null = λ s. bound_left up s null (L.null_least_lem s);
        meet_same = λ s. bound_right down s s (L.reflexive s);
        any_meet = λ s. bound_right down any s (L.any_greatest_lem s);
        meet_any = λ s. bound_left down s any (L.any_greatest_lem s);
      }

-- ---- of a reading
cond_false : (q : Bool) → cond q false false ≡ false
cond_false true = refl
cond_false false = refl

-- no bit for Null and Any, as row or as column
pub related_end : (reading i : ℕ) (j : ℕ) → is_inner j ≡ false → related reading i j ≡ false
related_end reading i j e =
    ap (λ q. cond (ltb reading 2) false (is_inner i && (q && bit reading (8 * (i - 1) + (j - 1))))) e
    ∙ ap (λ q. cond (ltb reading 2) false q) (and_false (is_inner i)) ∙ cond_false (ltb reading 2)

pub end_related : (reading i : ℕ) (j : ℕ) → is_inner i ≡ false → related reading i j ≡ false
end_related reading i j e = ap (λ q. cond (ltb reading 2) false (q && (is_inner j && bit reading (8 * (i - 1) + (j - 1))))) e ∙ cond_false (ltb reading 2)

or_true : (q : Bool) → q || true ≡ true
or_true true = refl
or_true false = refl

or_self : (q : Bool) → q || q ≡ q
or_self true = refl
or_self false = refl

eqb_self : (i : ℕ) → eqb i i ≡ true
eqb_self i = eq-eqb i i refl

pub below_self : (reading i : ℕ) → below reading i i ≡ true
below_self reading i =
    ap (λ q. related reading i i || (eqb i 9 || (eqb i 0 || q))) (eqb_self i)
    ∙ ap (λ q. related reading i i || (eqb i 9 || q)) (or_true (eqb i 0)) ∙ ap (λ q. related reading i i || q) (or_true (eqb i 9)) ∙ or_true (related reading i i)

pub reading_ends : (reading : ℕ) → Ends (order_of reading)
reading_ends reading =
    record {
      reflexive = λ s. below_self reading (code s);
      null_least_lem = λ s. or_true (related reading 9 (code s));
      any_greatest_lem = λ s. ap (λ q. related reading (code s) 0 || q) (or_true (eqb (code s) 9)) ∙ or_true (related reading (code s) 0);
      to_null = λ s. ap (λ q. q || (eqb (code s) 9 || eqb (code s) 9)) (related_end reading (code s) 9 refl) ∙ or_self (eqb (code s) 9);
      from_any = λ s. ap (λ q. q || (eqb (code s) 0 || eqb 0 (code s))) (end_related reading 0 (code s) refl) ∙ zero_either (code s);
      join_same = λ s. ap (λ q. cond (same s null) s (cond (same s null) s (cond q s (far up s)))) (eqb_self (code s)) ∙ one_way (same s null) s;
      null_join = λ s. refl;
      join_null = λ s. either (same s null) s null (λ e. sym (same_eq s null e));
      meet_same = λ s. ap (λ q. cond (same s any) s (cond (same s any) s (cond q s (far down s)))) (eqb_self (code s)) ∙ one_way (same s any) s;
      any_meet = λ s. refl;
      meet_any = λ s. either (same s any) s any (λ e. sym (same_eq s any e));
    }
  where
    far : Dir → Simple → Simple
    far d s = decode (nearest reading d (code s) (code s))

    zero_either : (i : ℕ) → eqb i 0 || eqb 0 i ≡ eqb i 0
    zero_either i = go (eqb i 0) refl
      where
        go : (q : Bool) → eqb i 0 ≡ q → q || eqb 0 i ≡ q
        go true e = refl
        go false e = other (eqb 0 i) refl
          where
            other : (q : Bool) → eqb 0 i ≡ q → q ≡ false
            other true f = absurd (true≢false (sym (eq-eqb i 0 (sym (eqb-true 0 i f))) ∙ e))
            other false f = refl

    one_way : (q : Bool) (s : Simple) → cond q s (cond q s s) ≡ s
    one_way true s = refl
    one_way false s = refl

    either : (q : Bool) (s t : Simple) → (q ≡ true → t ≡ s) → cond q t s ≡ s
    either true s t h = h refl
    either false s t h = refl
