-- A table that loads gives a lawful order: what loading tests of the ten simple types are the laws of an order.
-- Idea: the tests are read at each two or three types (`every_at`). Joins are tested; a greatest common subtype is the join of all common subtypes (`gather`), so it exists
-- too. A meet is a join of the relation turned round, so both laws come from one (`exact`).
-- Index: `table_laws`, `fixed_loads` (a table); `refl_of`, `null_least_of`, `any_greatest_of`, `antisym_of`, `trans_of` (a relation that passes 27); `join_found`, `meet_found`,
-- `join_least_of`, `meet_greatest_of` (one that passes 28 too); `exact` (what passes as a join is a least common bound), `passes` (the converse);
-- `bound_first`, `bound_second`, `bound_only` (in a direction, of a lawful order; the last: a common bound below the bound is the bound).
-- Assumes nothing.
use mathlib.Core.Path.{◌≡◌, refl, sym, ◌∙◌, subst}
use mathlib.Core.Bool.{Bool, true, false, cond, ◌&&◌}
use mathlib.Core.List.{List, [], ◌∷◌}
use Prim.Native.Nat.{ℕ}
use Rattle.form.specs.Trees.{Simple, any, null}
use Rattle.order.specs.Order.{same, Dir, Order, Laws, scmp, sbound}
use Rattle.order.specs.Table.{simples, first, every, exists, imp, reflexive, null_least, any_greatest, antisymmetric, transitive, is_ordered, is_join, is_meet, has_joins}
use Rattle.order.specs.Table.{are_flags, in_table, Loads, table_order, fixed_table}
use Rattle.order.proofs.Simple.{same_eq, In, here, there, in_simples, and_left, and_right, and_both, every_from, every_at, every₂_at, every₃_at, exists_from, first_finds, imp_use}
use Rattle.order.proofs.Simple.{scmp_bound}
use Rattle.order.proofs.Ends.{antisym, below_bound}

pub bool_iff : (x y : Bool) → (x ≡ true → y ≡ true) → (y ≡ true → x ≡ true) → x ≡ y
bool_iff true y h k = sym (h refl)
bool_iff false true h k = k refl
bool_iff false false h k = refl

pub imp_from : (a b : Bool) → (a ≡ true → b ≡ true) → imp a b ≡ true
imp_from true b h = h refl
imp_from false b h = refl

-- the relation turned round
abbrev turned : (Simple → Simple → Bool) → Simple → Simple → Bool
turned r s t = r t s

-- ---- what passes as a join
module _ (r : Simple → Simple → Bool) (s t u : Simple) where
  abbrev under : Bool
  under = every (λ c. imp (r s c && r t c) (r u c))

  module _ (h : is_join r s t u ≡ true) where
    join_left : r s u ≡ true
    join_left = and_left (r s u) (r t u && under) h

    join_right : r t u ≡ true
    join_right = and_left (r t u) under (and_right (r s u) (r t u && under) h)

    join_under : (c : Simple) → r s c && r t c ≡ true → r u c ≡ true
    join_under c =
        imp_use (r s c && r t c) (r u c) (every_at (λ x. imp (r s x && r t x) (r u x)) (and_right (r t u) under (and_right (r s u) (r t u && under) h)) c)

    pub exact : ((x y z : Simple) → r x y ≡ true → r y z ≡ true → r x z ≡ true) → (c : Simple) → r u c ≡ r s c && r t c
    exact through c =
        bool_iff (r u c) (r s c && r t c) (λ e. and_both (r s c) (r t c) (through s u c join_left e) (through t u c join_right e)) (join_under c)

  pub passes : r s u ≡ true → r t u ≡ true → ((c : Simple) → r s c && r t c ≡ true → r u c ≡ true) → is_join r s t u ≡ true
  passes p q h =
      and_both (r s u) (r t u && under) p
      (and_both (r t u) under q (every_from (λ c. imp (r s c && r t c) (r u c)) (λ c. imp_from (r s c && r t c) (r u c) (h c))))

-- ---- a relation that passes 27
module _ (r : Simple → Simple → Bool) (o : is_ordered r ≡ true) where
  pub refl_of : (s : Simple) → r s s ≡ true
  unfolding is_ordered
  refl_of = every_at (λ s. r s s) (and_left (reflexive r) (null_least r && (any_greatest r && (antisymmetric r && transitive r))) o)

  after_reflexive : null_least r && (any_greatest r && (antisymmetric r && transitive r)) ≡ true
  unfolding is_ordered
  after_reflexive = and_right (reflexive r) (null_least r && (any_greatest r && (antisymmetric r && transitive r))) o

  pub null_least_of : (s : Simple) → r null s ≡ true
  null_least_of = every_at (λ s. r null s) (and_left (null_least r) (any_greatest r && (antisymmetric r && transitive r)) after_reflexive)

  after_null : any_greatest r && (antisymmetric r && transitive r) ≡ true
  after_null = and_right (null_least r) (any_greatest r && (antisymmetric r && transitive r)) after_reflexive

  pub any_greatest_of : (s : Simple) → r s any ≡ true
  any_greatest_of = every_at (λ s. r s any) (and_left (any_greatest r) (antisymmetric r && transitive r) after_null)

  after_any : antisymmetric r && transitive r ≡ true
  after_any = and_right (any_greatest r) (antisymmetric r && transitive r) after_null

  pub antisym_of : (s t : Simple) → r s t ≡ true → r t s ≡ true → s ≡ t
  antisym_of s t p q =
      same_eq s t
      (imp_use (r s t && r t s) (same s t) (every₂_at (λ x y. imp (r x y && r y x) (same x y)) (and_left (antisymmetric r) (transitive r) after_any) s t)
      (and_both (r s t) (r t s) p q))

  pub trans_of : (s t u : Simple) → r s t ≡ true → r t u ≡ true → r s u ≡ true
  trans_of s t u p q =
      imp_use (r s t && r t u) (r s u) (every₃_at (λ x y z. imp (r x y && r y z) (r x z)) (and_right (antisymmetric r) (transitive r) after_any) s t u)
      (and_both (r s t) (r t u) p q)

-- ---- its least common supertypes and greatest common subtypes
abbrev pub join : (Simple → Simple → Bool) → Simple → Simple → Simple
join r s t = first (is_join r s t) simples

abbrev pub meet : (Simple → Simple → Bool) → Simple → Simple → Simple
meet r s t = first (is_meet r s t) simples

-- the join of all in a list that conform to both
gather : (Simple → Simple → Bool) → Simple → Simple → List Simple → Simple
gather r s t [] = null
gather r s t (x ∷ xs) = cond (r x s && r x t) (join r x (gather r s t xs)) (gather r s t xs)

module _ (r : Simple → Simple → Bool) (o : is_ordered r ≡ true) (j : has_joins r ≡ true) where
  pub join_found : (s t : Simple) → is_join r s t (join r s t) ≡ true
  unfolding has_joins
  join_found s t = first_finds (is_join r s t) simples (every₂_at (λ x y. exists (λ u. is_join r x y u)) j s t)

  pub join_least_of : (s t c : Simple) → r (join r s t) c ≡ r s c && r t c
  join_least_of s t c = exact r s t (join r s t) (join_found s t) (trans_of r o) c

  gather_below : (s t c : Simple) → ((x : Simple) → r x s && r x t ≡ true → r x c ≡ true) → (xs : List Simple) → r (gather r s t xs) c ≡ true
  unfolding gather
  gather_below s t c h [] = null_least_of r o c
  gather_below s t c h (x ∷ xs) = step (r x s && r x t) refl (gather_below s t c h xs)
    where
      step : (q : Bool) → r x s && r x t ≡ q → r (gather r s t xs) c ≡ true → r (cond q (join r x (gather r s t xs)) (gather r s t xs)) c ≡ true
      step true e ih = join_least_of x (gather r s t xs) c ∙ and_both (r x c) (r (gather r s t xs) c) (h x e) ih
      step false e ih = ih

  gather_above : (s t c : Simple) → r c s && r c t ≡ true → (xs : List Simple) → In c xs → r c (gather r s t xs) ≡ true
  unfolding gather
  gather_above s t c h [] x' = elim x' [ ]
  gather_above s t c h (x ∷ xs) here =
      subst (λ q. r c (cond q (join r c (gather r s t xs)) (gather r s t xs)) ≡ true) (sym h)
      (join_left r c (gather r s t xs) (join r c (gather r s t xs)) (join_found c (gather r s t xs)))
  gather_above s t c h (x ∷ xs) (there i) = step (r x s && r x t) (gather_above s t c h xs i)
    where
      step : (q : Bool) → r c (gather r s t xs) ≡ true → r c (cond q (join r x (gather r s t xs)) (gather r s t xs)) ≡ true
      step true ih =
          trans_of r o c (gather r s t xs) (join r x (gather r s t xs)) ih
          (join_right r x (gather r s t xs) (join r x (gather r s t xs)) (join_found x (gather r s t xs)))
      step false ih = ih

  -- what is gathered passes as a meet
  gathered : (s t : Simple) → is_meet r s t (gather r s t simples) ≡ true
  gathered s t =
      passes (turned r) s t (gather r s t simples) (gather_below s t s (λ x. and_left (r x s) (r x t)) simples)
      (gather_below s t t (λ x. and_right (r x s) (r x t)) simples) (λ c h. gather_above s t c h simples (in_simples c))

  pub meet_found : (s t : Simple) → is_meet r s t (meet r s t) ≡ true
  meet_found s t = first_finds (is_meet r s t) simples (exists_from (is_meet r s t) (gather r s t simples) (gathered s t))

  pub meet_greatest_of : (s t c : Simple) → r c (meet r s t) ≡ r c s && r c t
  meet_greatest_of s t c = exact (turned r) s t (meet r s t) (meet_found s t) (λ x y z p q. trans_of r o z y x q p) c

-- ---- a table
pub table_laws : (table : List ℕ) → Loads table → Laws (table_order table)
unfolding table_order
table_laws table l =
    record {
      reflexive = refl_of (in_table table) l.is_ordered_lem;
      transitive = trans_of (in_table table) l.is_ordered_lem;
      antisymmetric = antisym_of (in_table table) l.is_ordered_lem;
      null_least_lem = null_least_of (in_table table) l.is_ordered_lem;
      any_greatest_lem = any_greatest_of (in_table table) l.is_ordered_lem;
      join_least = join_least_of (in_table table) l.is_ordered_lem l.has_joins_lem;
      meet_greatest = meet_greatest_of (in_table table) l.is_ordered_lem l.has_joins_lem;
    }

pub fixed_loads : Loads fixed_table
unfolding are_flags is_ordered has_joins
fixed_loads = record { is_table_lem = refl; is_ordered_lem = refl; has_joins_lem = refl }

-- ---- bounds in a direction
module _ (O : Order) (L : Laws O) (d : Dir) where
  pub bound_first : (s t : Simple) → scmp O d s (sbound O d s t) ≡ true
  bound_first s t = and_left (scmp O d s (sbound O d s t)) (scmp O d t (sbound O d s t)) (below_bound O L d s t)

  pub bound_second : (s t : Simple) → scmp O d t (sbound O d s t) ≡ true
  bound_second s t = and_right (scmp O d s (sbound O d s t)) (scmp O d t (sbound O d s t)) (below_bound O L d s t)

  pub bound_only : (s t u : Simple) → scmp O d s u ≡ true → scmp O d t u ≡ true → scmp O d u (sbound O d s t) ≡ true → u ≡ sbound O d s t
  bound_only s t u p q h = antisym O L d u (sbound O d s t) h (scmp_bound O L d s t u ∙ and_both (scmp O d s u) (scmp O d t u) p q)
