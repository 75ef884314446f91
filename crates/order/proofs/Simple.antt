-- The laws of an order among the ten simple types, from tests that are computed over them.
-- Idea: a law over one, two or three simple types is a test at all of them (`every_at`, `every₂_at`, `every₃_at`).
-- Index: `Tested`, `laws_of`, `flat_laws`, `fixed_laws` (the laws of an order); `scmp_refl`, `scmp_trans`, `scmp_bottom`, `scmp_top`, `scmp_bound`, `top_bottom` (in a direction);
-- `same_eq`; `temporal_code`; `and_left`, `and_right`, `and_both`, `imp_use`, `beq_use` (tests).
-- Assumes nothing.
use Prim.Native.Nat.{◌+◌}
use mathlib.Core.Path.{◌≡◌, refl, sym, ◌∙◌, ap}
use mathlib.Core.Bool.{Bool, true, false, cond, ◌&&◌, ◌||◌, beq, false≢true, true≢false}
use mathlib.Core.List.{List, [], ◌∷◌}
use lib.Dec.{eqb}
use borrow.Author.Tests.{eqb-true}
use Rattle.form.specs.Trees.{Simple, any, boolean, number, string, date, time, date_time, days_and_time, years_and_months, null, code, decode, Temporal, on_date, at_time, at_date_time}
use Rattle.form.specs.Trees.{for_days_and_time}
use Rattle.form.specs.Trees.{for_years_and_months, code_temporal}
use Rattle.form.proofs.ExactTypes.{decode_code}
use Rattle.order.specs.Order.{same, Dir, up, down, Order, top, bottom, scmp, sbound, Laws, flat_order, fixed}
use Rattle.order.specs.Table.{simples, all_of, any_of, first, every, exists, imp}
use Rattle.order.specs.Values.{temporal_type}

pub same_eq : (s t : Simple) → same s t ≡ true → s ≡ t
same_eq s t e = sym (decode_code s) ∙ ap decode (eqb-true (code s) (code t) e) ∙ decode_code t

pub data In (s : Simple) : List Simple → Type 0 where
  here : {xs : List Simple} → In s (s ∷ xs)
  there : {x : Simple} {xs : List Simple} → In s xs → In s (x ∷ xs)

pub in_simples : (s : Simple) → In s simples
in_simples any = here
in_simples boolean = there here
in_simples number = there (there here)
in_simples string = there (there (there here))
in_simples date = there (there (there (there here)))
in_simples time = there (there (there (there (there here))))
in_simples date_time = there (there (there (there (there (there here)))))
in_simples days_and_time = there (there (there (there (there (there (there here))))))
in_simples years_and_months = there (there (there (there (there (there (there (there here)))))))
in_simples null = there (there (there (there (there (there (there (there (there here))))))))

pub and_left : (a b : Bool) → a && b ≡ true → a ≡ true
and_left true b e = refl
and_left false b e = e

pub and_right : (a b : Bool) → a && b ≡ true → b ≡ true
and_right true b e = e
and_right false b e = absurd (false≢true e)

pub and_both : (a b : Bool) → a ≡ true → b ≡ true → a && b ≡ true
and_both true b p q = q
and_both false b p q = p

all_at : (f : Simple → Bool) (s : Simple) (xs : List Simple) → In s xs → all_of f xs ≡ true → f s ≡ true
all_at f s [] x'' e = elim x'' [ ]
all_at f s (x ∷ xs) here e = and_left (f s) (all_of f xs) e
all_at f s (x ∷ xs) (there i) e = all_at f s xs i (and_right (f x) (all_of f xs) e)

all_from_lem : (f : Simple → Bool) → ((s : Simple) → f s ≡ true) → (xs : List Simple) → all_of f xs ≡ true
all_from_lem f h [] = refl
all_from_lem f h (x ∷ xs) = and_both (f x) (all_of f xs) (h x) (all_from_lem f h xs)

pub every_from : (f : Simple → Bool) → ((s : Simple) → f s ≡ true) → every f ≡ true
every_from f h = all_from_lem f h simples

-- one that passes is found
pub first_finds : (f : Simple → Bool) (xs : List Simple) → any_of f xs ≡ true → f (first f xs) ≡ true
first_finds f [] e = absurd (false≢true e)
first_finds f (s ∷ xs) e = step (f s) refl (λ h. first_finds f xs h) e
  where
    step : (q : Bool) → f s ≡ q → (any_of f xs ≡ true → f (first f xs) ≡ true) → q || any_of f xs ≡ true → f (cond q s (first f xs)) ≡ true
    step true h ih p = h
    step false h ih p = ih p

any_from_lem : (f : Simple → Bool) (s : Simple) (xs : List Simple) → In s xs → f s ≡ true → any_of f xs ≡ true
any_from_lem f s [] x'' e = elim x'' [ ]
any_from_lem f s (x ∷ xs) here e = ap (λ q. q || any_of f xs) e
any_from_lem f s (x ∷ xs) (there i) e = step (f x) (any_from_lem f s xs i e)
  where
    step : (q : Bool) → any_of f xs ≡ true → q || any_of f xs ≡ true
    step true h = refl
    step false h = h

pub exists_from : (f : Simple → Bool) (s : Simple) → f s ≡ true → exists f ≡ true
exists_from f s e = any_from_lem f s simples (in_simples s) e

pub every_at : (f : Simple → Bool) → every f ≡ true → (s : Simple) → f s ≡ true
every_at f e s = all_at f s simples (in_simples s) e

pub every₂_at : (f : Simple → Simple → Bool) → every (λ s. every (λ t. f s t)) ≡ true → (s t : Simple) → f s t ≡ true
every₂_at f e s t = every_at (f s) (every_at (λ x. every (λ y. f x y)) e s) t

pub every₃_at : (f : Simple → Simple → Simple → Bool) → every (λ s. every (λ t. every (λ u. f s t u))) ≡ true → (s t u : Simple) → f s t u ≡ true
every₃_at f e s t u = every_at (f s t) (every₂_at (λ x y. every (λ z. f x y z)) e s t) u

pub imp_use : (a b : Bool) → imp a b ≡ true → a ≡ true → b ≡ true
imp_use true b e p = e
imp_use false b e p = absurd (false≢true p)

pub beq_use : (a b : Bool) → beq a b ≡ true → a ≡ b
beq_use true true e = refl
beq_use true false e = absurd (false≢true e)
beq_use false true e = absurd (false≢true e)
beq_use false false e = refl

abbrev pub join_test : Order → Simple → Simple → Simple → Bool
join_test O s t u = beq (O.sle (O.sjoin s t) u) (O.sle s u && O.sle t u)

abbrev pub meet_test : Order → Simple → Simple → Simple → Bool
meet_test O s t u = beq (O.sle u (O.smeet s t)) (O.sle u s && O.sle u t)

pub record Tested (O : Order) : Type 0 where
  pub reflexive : every (λ s. O.sle s s) ≡ true
  pub transitive : every (λ s. every (λ t. every (λ u. imp (O.sle s t && O.sle t u) (O.sle s u)))) ≡ true
  pub antisymmetric : every (λ s. every (λ t. imp (O.sle s t && O.sle t s) (same s t))) ≡ true
  pub null_least_lem : every (λ s. O.sle null s) ≡ true
  pub any_greatest_lem : every (λ s. O.sle s any) ≡ true
  pub join_least : every (λ s. every (λ t. every (λ u. join_test O s t u))) ≡ true
  pub meet_greatest : every (λ s. every (λ t. every (λ u. meet_test O s t u))) ≡ true

pub laws_of : (O : Order) → Tested O → Laws O
laws_of O c =
    record {
      reflexive = every_at (λ s. O.sle s s) c.reflexive;
      transitive = λ s t u p q.
          imp_use (O.sle s t && O.sle t u) (O.sle s u)
          (every₃_at (λ x y z. imp (O.sle x y && O.sle y z) (O.sle x z)) c.transitive s t u)
          (and_both (O.sle s t) (O.sle t u) p q);
      antisymmetric = λ s t p q.
          same_eq s t
          (imp_use (O.sle s t && O.sle t s) (same s t)
          (every₂_at (λ x y. imp (O.sle x y && O.sle y x) (same x y)) c.antisymmetric s t)
          (and_both (O.sle s t) (O.sle t s) p q));
      null_least_lem = every_at (λ s. O.sle null s) c.null_least_lem;
      any_greatest_lem = every_at (λ s. O.sle s any) c.any_greatest_lem;
      join_least = λ s t u. beq_use _ _ (every₃_at (join_test O) c.join_least s t u);
      meet_greatest = λ s t u. beq_use _ _ (every₃_at (meet_test O) c.meet_greatest s t u);
    }

pub flat_laws : (b : Bool) → Laws (flat_order b)
flat_laws b =
    laws_of (flat_order b)
    (record {
      reflexive = refl;
      transitive = refl;
      antisymmetric = refl;
      null_least_lem = refl;
      any_greatest_lem = refl;
      join_least = refl;
      meet_greatest = refl;
    })

pub fixed_laws : Laws fixed
fixed_laws = flat_laws false

-- The laws in a direction, as the theory uses them.
module _ (O : Order) (L : Laws O) where
  pub scmp_refl : (d : Dir) (s : Simple) → scmp O d s s ≡ true
  scmp_refl up s = L.reflexive s
  scmp_refl down s = L.reflexive s

  pub scmp_trans : (d : Dir) (s t u : Simple) → scmp O d s t ≡ true → scmp O d t u ≡ true → scmp O d s u ≡ true
  scmp_trans up s t u p q = L.transitive s t u p q
  scmp_trans down s t u p q = L.transitive u t s q p

  pub scmp_bottom : (d : Dir) (s : Simple) → scmp O d (bottom d) s ≡ true
  scmp_bottom up s = L.null_least_lem s
  scmp_bottom down s = L.any_greatest_lem s

  pub scmp_top : (d : Dir) (s : Simple) → scmp O d s (top d) ≡ true
  scmp_top up s = L.any_greatest_lem s
  scmp_top down s = L.null_least_lem s

  pub scmp_bound : (d : Dir) (s t u : Simple) → scmp O d (sbound O d s t) u ≡ scmp O d s u && scmp O d t u
  scmp_bound up s t u = L.join_least s t u
  scmp_bound down s t u = L.meet_greatest s t u

  -- Any is not below Null
  any_null : (b : Bool) → O.sle any null ≡ b → b ≡ false
  any_null true e = absurd (true≢false (ap (λ s. eqb (code s) 0) (L.antisymmetric any null e (L.null_least_lem any))))
  any_null false e = refl

  pub top_bottom : (d : Dir) → scmp O d (top d) (bottom d) ≡ false
  top_bottom up = any_null (O.sle any null) refl
  top_bottom down = any_null (O.sle any null) refl

-- the type of a date and time value by its number
pub temporal_code : (k : Temporal) → code (temporal_type k) ≡ 4 + code_temporal k
temporal_code on_date = refl
temporal_code at_time = refl
temporal_code at_date_time = refl
temporal_code for_days_and_time = refl
temporal_code for_years_and_months = refl
