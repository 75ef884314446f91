-- A value against a type by their commands: a null conforms to all; of another kind's types a value conforms to Any, and a leaf to those that a table has above its own.
-- Index: `kind`, `kind_is`, `kind_leaf`, `kind_other`, `leaf_is`, `small_is`, `long_is`, `definition_is` (a value that was read, by its command); `kinds_differ`, `to_any` (conformance by kinds);
-- `short_data`, `leaf_null`, `leaf_same`, `leaf_alike`, `simple_is`, `simple_cmd` (leaves); `held_function`, `counts_differ` (definitions).
-- Assumes nothing.
use Prim.Native.Nat.{ℕ, zero, suc, ◌+◌, ◌-◌, ◌<◌, ◌≤◌}
use mathlib.Core.Path.{◌≡◌, refl, sym, ap, ◌∙◌}
use mathlib.Core.Bool.{Bool, true, false, not, cond, ◌&&◌, ◌||◌, true≢false}
use mathlib.Core.Option.{some}
use mathlib.Core.List.{List}
use native.Mathlib.Omega.{arith}
use lib.ListN.{length, get_or, drop}
use lib.Dec.{eqb}
use borrow.Author.Tests.{ne_eqb}
use Rattle.form.specs.Trees.{Simple, any, null, Ty, leaf, built, list, range, context, function, Tys, no_params, param, code, simple, Leaf, Params, Val, v_leaf, v_range, v_list, v_context, v_function}
use Rattle.form.specs.Trees.{v_built_in, v_type, v_irrelevant, is_data_leaf, is_short_leaf, decode_temporal}
use Rattle.form.specs.Limits.{name_width}
use Rattle.form.specs.Form.{count_tys}
use Rattle.form.specs.Outcome.{pick}
use Rattle.form.proofs.ExactTypes.{code_small}
use Rattle.form.proofs.ExactValues.{code_decode}
use Rattle.order.specs.Order.{same, Dir, up, down, Order, flat, fixed, is_inner, related, order_of}
use Rattle.order.specs.Types.{empty, cmp, cmps}
use Rattle.order.specs.Size.{size}
use Rattle.order.specs.Values.{leaf_type, types_of, to_function, conforms_definition, conforms}
use Rattle.order.proofs.Simple.{same_eq, temporal_code}
use Rattle.order.proofs.Ends.{Ends, reading_ends, end_related}
use Rattle.order.proofs.Alone.{le_functions_down}
use Rattle.order.proofs.Bools.{and_false}
use Rattle.types.specs.At.{Sig, sig, fun_of}
use Rattle.types.proofs.Reading.{cmd}
use Rattle.types.proofs.ByCommand.{le_null, le_other, le_leaves, same_simple_lem, count_sig}
use Rattle.values.specs.At.{value_at, Definition, definition, definition_at}
use Rattle.values.specs.Held.{parameter_way, definition_conforms}
use Rattle.values.proofs.Reading.{IsVal, is_null_lem, is_boolean_lem, is_number, is_string_lem, is_temporal_lem, is_range_lem, is_list_lem, is_context_lem, is_definition_lem}
use Rattle.values.proofs.Reading.{is_built_in_lem, is_type_lem, is_decimal_lem}
use Rattle.values.proofs.Reading.{is_irrelevant_lem, is_val, as_definition, params_at, no_parameter, definition_parts, first_parameter}
use Rattle.form.specs.Layout.{ValueKind, k_definition, is_leaf_command, leaf_type_command}
use Rattle.form.proofs.CommandKinds.{leaf_low, low_type}

-- the command of the types of a value's kind; Any's for a value that has none
abbrev pub kind : Val → ℕ
kind (v_leaf f) = 0x20 + code (leaf_type f)
kind (v_range i j a b) = 0x2B
kind (v_list vs) = 0x2A
kind (v_context es) = 0x2C
kind (v_function ps b r) = 0x2D
kind (v_built_in x) = 0x20
kind (v_type t) = 0x20
kind v_irrelevant = 0x20

-- ---- by the command of a value that was read
-- by the value's own command
unfoldable pub kind_at : ℕ → ℕ
kind_at c = pick (is_leaf_command c) (leaf_type_command c) (pick (eqb c 0x09) 0x2B (pick (eqb c 0x0A) 0x2A (pick (eqb c 0x0B) 0x2C (pick (eqb c 0x0C) 0x2D 0x20))))

pub kind_leaf : (c : ℕ) → is_leaf_command c ≡ true → kind_at c ≡ leaf_type_command c
unfolding kind_at
kind_leaf c h = rw h

pub kind_other : (c : ℕ) → 13 ≤ c → is_leaf_command c ≡ false → kind_at c ≡ 32
unfolding kind_at
kind_other c h n = rw (
  n,
  ne_eqb c 9 (λ e. omega arith),
  ne_eqb c 10 (λ e. omega arith),
  ne_eqb c 11 (λ e. omega arith),
  ne_eqb c 12
      (λ e. omega arith),
)

kind_of_lem : {j : ValueKind} (l : ℕ) (s : List ℕ) (x : Val) → IsVal l s j x → kind x ≡ kind_at (get_or s 0 0)
unfolding kind_at leaf_type_command
kind_of_lem l s x (is_null_lem y c) = ap kind_at (sym c)
kind_of_lem l s x (is_boolean_lem y c) = ap kind_at (sym c)
kind_of_lem l s x (is_number y c) = ap kind_at (sym c)
kind_of_lem l s x (is_string_lem y c) = ap kind_at (sym c)
kind_of_lem l s x (is_temporal_lem y h i) =
    let k = kind_leaf (get_or s 0 0) (leaf_low (get_or s 0 0) i) in
    omega (arith, temporal_code (decode_temporal (get_or s 0 0 - 4)), code_decode (get_or s 0 0 - 4) (omega arith), low_type (get_or s 0 0) (omega arith) i)
kind_of_lem l s x (is_range_lem i j a b c k p) = ap kind_at (sym c)
kind_of_lem l s x (is_list_lem vs c k p) = ap kind_at (sym c)
kind_of_lem l s x (is_context_lem es c k p) = ap kind_at (sym c)
kind_of_lem l s x (is_definition_lem r ps b c k p) = ap kind_at (sym c)
kind_of_lem l s x (is_built_in_lem c k) = ap kind_at (sym c)
kind_of_lem l s x (is_type_lem t c p) = ap kind_at (sym c)
kind_of_lem l s x (is_irrelevant_lem c) = ap kind_at (sym c)
kind_of_lem l s x (is_decimal_lem y p c) = ap kind_at (sym c)

-- a command below 9 is that of a leaf but a decimal and no other, and behind 9 to 11 stand two bytes more
shaped : {j : ValueKind} (l : ℕ) (s : List ℕ) (x : Val) → IsVal l s j x
    → (get_or s 0 0 < 9 → is_short_leaf x ≡ true) × (9 ≤ get_or s 0 0 → get_or s 0 0 ≤ 11 → 3 ≤ length s) × (is_short_leaf x ≡ true → get_or s 0 0 < 9)
shaped l s x (is_null_lem y c) = (λ h. refl, λ h k. omega arith, λ h. omega arith)
shaped l s x (is_boolean_lem y c) = (λ h. refl, λ h k. omega arith, λ h. omega arith)
shaped l s x (is_number y c) = (λ h. refl, λ h k. omega arith, λ h. omega arith)
shaped l s x (is_string_lem y c) = (λ h. refl, λ h k. omega arith, λ h. omega arith)
shaped l s x (is_temporal_lem y h i) = (λ h. refl, λ h k. omega arith, λ h. i)
shaped l s x (is_range_lem i j a b c k p) = (λ h. absurd (omega arith), λ h i. k, λ h. absurd (true≢false (sym h)))
shaped l s x (is_list_lem vs c k p) = (λ h. absurd (omega arith), λ h i. k, λ h. absurd (true≢false (sym h)))
shaped l s x (is_context_lem es c k p) = (λ h. absurd (omega arith), λ h i. k, λ h. absurd (true≢false (sym h)))
shaped l s x (is_definition_lem r ps b c k p) = (λ h. absurd (omega arith), λ h k. omega arith, λ h. absurd (true≢false (sym h)))
shaped l s x (is_built_in_lem c p) = (λ h. absurd (omega arith), λ h k. omega arith, λ h. absurd (true≢false (sym h)))
shaped l s x (is_type_lem t c p) = (λ h. absurd (omega arith), λ h k. omega arith, λ h. absurd (true≢false (sym h)))
shaped l s x (is_decimal_lem y p c) = (λ h. absurd (omega arith), λ h k. omega arith, λ h. absurd (true≢false (sym h)))
shaped l s x (is_irrelevant_lem c) = (λ h. absurd (omega arith), λ h k. omega arith, λ h. absurd (true≢false (sym h)))

-- what a definition is made of
pub record IsDefinition (l : ℕ) (s : List ℕ) (x : Val) : Type 0 where
  pub r : Ty
  pub ps : Params
  pub b : ℕ
  pub four : 4 ≤ length s
  pub read : definition_at (l - 1) (get_or s 1 0) (drop 4 s) ≡ some (definition r ps)
  pub is : x ≡ v_function ps b r

definition_of : {l : ℕ} {s : List ℕ} {x : Val} → IsVal l s k_definition x → IsDefinition l s x
definition_of (is_definition_lem r ps b c k p) = record { r = r; ps = ps; b = b; four = k; read = p; is = refl }

module _ (l : ℕ) (s : List ℕ) (x : Val) (e : value_at l s ≡ some x) where
  pub kind_is : kind x ≡ kind_at (get_or s 0 0)
  kind_is = kind_of_lem l s x (is_val l s x e).1

  pub leaf_is : get_or s 0 0 < 9 → is_short_leaf x ≡ true
  leaf_is = (shaped l s x (is_val l s x e).1).0

  pub long_is : 9 ≤ get_or s 0 0 → get_or s 0 0 ≤ 11 → 3 ≤ length s
  long_is = (shaped l s x (is_val l s x e).1).1

  pub small_is : is_short_leaf x ≡ true → get_or s 0 0 < 9
  small_is = (shaped l s x (is_val l s x e).1).2

  pub definition_is : get_or s 0 0 ≡ 12 → IsDefinition l s x
  definition_is d = definition_of (as_definition l s x e d)

-- ---- conformance by kinds
-- by `related`: a table has a bit for two of 21 to 28 only, so this is no for all but a leaf
module _ (reading : ℕ) where
  -- only Any, for what is none of the eight
  not_any : (i : ℕ) (s : Simple) → is_inner i ≡ false → (cmd (leaf s) ≡ 32 → ⊥) → (order_of reading).sle any s ≡ related reading i (cmd (leaf s) - 32)
  not_any i s h a = (reading_ends reading).from_any s ∙ ne_eqb (code s) 0 (λ e. a (omega arith)) ∙ sym (end_related reading i (cmd (leaf s) - 32) h)

  -- a definition, strict as its function type
  definition_other : (ps : Tys) (r u : Ty) → (cmd u ≡ 32 → ⊥) → (cmd (built (function ps r)) ≡ cmd u → ⊥)
      → conforms_definition (order_of reading) ps r u ≡ related reading 13 (cmd u - 32)
  definition_other ps r u a d = go (order_of reading).strict
    where
      plain : (w : Ty) → (cmd w ≡ 32 → ⊥) → (45 ≡ cmd w → ⊥) → (f : Tys → Ty → Bool) → to_function (order_of reading) w f ≡ related reading 13 (cmd w - 32)
      plain (leaf s) a d f = not_any 13 s refl a
      plain (built (list t)) a d f = sym (end_related reading 13 10 refl)
      plain (built (range t)) a d f = sym (end_related reading 13 11 refl)
      plain (built (context fs)) a d f = sym (end_related reading 13 12 refl)
      plain (built (function qs s)) a d f = absurd (d refl)

      own : Tys → Ty → Bool
      own qs s = cmps (order_of reading) up ps qs && cmp (order_of reading) up r s

      go : (q : Bool) → cond q (cmp (order_of reading) up (built (function ps r)) u) (to_function (order_of reading) u own) ≡ related reading 13 (cmd u - 32)
      go true = le_other reading (built (function ps r)) u d (λ e. omega arith) a
      go false = plain u a d own

  pub kinds_differ : (x : Val) (u : Ty) → (kind x ≡ 41 → ⊥) → (cmd u ≡ 32 → ⊥) → (kind x ≡ cmd u → ⊥)
      → conforms (order_of reading) x u ≡ related reading (kind x - 32) (cmd u - 32)
  unfolding conforms
  kinds_differ (v_leaf f) u n a d = le_other reading (leaf (leaf_type f)) u d n a
  kinds_differ (v_range i j x y) (leaf s) n a d = not_any 11 s refl a
  kinds_differ (v_range i j x y) (built (list t)) n a d = sym (end_related reading 11 10 refl)
  kinds_differ (v_range i j x y) (built (range t)) n a d = absurd (d refl)
  kinds_differ (v_range i j x y) (built (context fs)) n a d = sym (end_related reading 11 12 refl)
  kinds_differ (v_range i j x y) (built (function ps r)) n a d = sym (end_related reading 11 13 refl)
  kinds_differ (v_list vs) (leaf s) n a d = not_any 10 s refl a
  kinds_differ (v_list vs) (built (list t)) n a d = absurd (d refl)
  kinds_differ (v_list vs) (built (range t)) n a d = sym (end_related reading 10 11 refl)
  kinds_differ (v_list vs) (built (context fs)) n a d = sym (end_related reading 10 12 refl)
  kinds_differ (v_list vs) (built (function ps r)) n a d = sym (end_related reading 10 13 refl)
  kinds_differ (v_context es) (leaf s) n a d = not_any 12 s refl a
  kinds_differ (v_context es) (built (list t)) n a d = sym (end_related reading 12 10 refl)
  kinds_differ (v_context es) (built (range t)) n a d = sym (end_related reading 12 11 refl)
  kinds_differ (v_context es) (built (context fs)) n a d = absurd (d refl)
  kinds_differ (v_context es) (built (function ps r)) n a d = sym (end_related reading 12 13 refl)
  kinds_differ (v_function ps b r) u n a d = definition_other (types_of ps) r u a d
  kinds_differ (v_built_in y) (leaf s) n a d = not_any 0 s refl a
  kinds_differ (v_built_in y) (built t) n a d = sym (end_related reading 0 (cmd (built t) - 32) refl)
  kinds_differ (v_type t) (leaf s) n a d = not_any 0 s refl a
  kinds_differ (v_type t) (built u) n a d = sym (end_related reading 0 (cmd (built u) - 32) refl)
  kinds_differ v_irrelevant (leaf s) n a d = not_any 0 s refl a
  kinds_differ v_irrelevant (built t) n a d = sym (end_related reading 0 (cmd (built t) - 32) refl)

any_type : (u : Ty) → cmd u ≡ 32 → u ≡ leaf any
any_type (leaf s) e = ap leaf (same_simple_lem s any e)
any_type (built (list t)) e = absurd (omega arith)
any_type (built (range t)) e = absurd (omega arith)
any_type (built (context fs)) e = absurd (omega arith)
any_type (built (function ps r)) e = absurd (omega arith)

module _ {O : Order} (L : Ends O) where
  either_way : (q : Bool) → cond q (O.sle any any) (O.sle any any) ≡ true
  either_way true = L.reflexive any
  either_way false = L.reflexive any

  of_any : (x : Val) → conforms O x (leaf any) ≡ true
  unfolding conforms cmp
  of_any (v_leaf f) = L.any_greatest_lem (leaf_type f)
  of_any (v_range i j a b) = L.reflexive any
  of_any (v_list vs) = L.reflexive any
  of_any (v_context es) = L.reflexive any
  of_any (v_function ps b r) = either_way O.strict
  of_any (v_built_in x) = L.reflexive any
  of_any (v_type t) = L.reflexive any
  of_any v_irrelevant = L.reflexive any

  pub to_any : (x : Val) (u : Ty) → cmd u ≡ 32 → conforms O x u ≡ true
  to_any x u e = ap (conforms O x) (any_type u e) ∙ of_any x

-- ---- a leaf of data
pub short_data : (x : Val) → is_short_leaf x ≡ true → is_data_leaf x ≡ true
short_data (v_leaf f) e = refl
short_data (v_range i j a b) e = e
short_data (v_list vs) e = e
short_data (v_context es) e = e
short_data (v_function ps b r) e = e
short_data (v_built_in x) e = e
short_data (v_type t) e = e
short_data v_irrelevant e = e

leaf_tree : (x : Val) → is_data_leaf x ≡ true → (f : Leaf) × (x ≡ v_leaf f)
leaf_tree (v_leaf f) e = (f, refl)
leaf_tree (v_range i j a b) e = absurd (true≢false (sym e))
leaf_tree (v_list vs) e = absurd (true≢false (sym e))
leaf_tree (v_context es) e = absurd (true≢false (sym e))
leaf_tree (v_function ps b r) e = absurd (true≢false (sym e))
leaf_tree (v_built_in x) e = absurd (true≢false (sym e))
leaf_tree (v_type t) e = absurd (true≢false (sym e))
leaf_tree v_irrelevant e = absurd (true≢false (sym e))

module _ {O : Order} (L : Ends O) where
  pub leaf_null : (x : Val) (u : Ty) → is_data_leaf x ≡ true → kind x ≡ 41 → conforms O x u ≡ true
  unfolding conforms
  leaf_null x u h e = let g = leaf_tree x h in ap (λ y. conforms O y u) g.1 ∙ (le_null L (leaf (leaf_type g.0)) u (sym (ap kind g.1) ∙ e)).1

  pub leaf_same : (x : Val) (u : Ty) → is_data_leaf x ≡ true → simple u ≡ true → kind x ≡ cmd u → conforms O x u ≡ true
  unfolding conforms
  leaf_same x (leaf s) h k e =
      let g = leaf_tree x h in
      ap (λ y. conforms O y (leaf s)) g.1 ∙ le_leaves L (leaf_type g.0) s (same_simple_lem (leaf_type g.0) s (sym (ap kind g.1) ∙ e))
  leaf_same x (built y) h k e = absurd (true≢false (sym k))

  -- document 01's order has no more than the ends, and each type with itself
  flat_holds : (s t : Simple) → flat s t ≡ true → O.sle s t ≡ true
  flat_holds s t = go (same s null) (same t any) refl refl
    where
      go : (p q : Bool) → same s null ≡ p → same t any ≡ q → p || (q || same s t) ≡ true → O.sle s t ≡ true
      go true q e f h = ap (λ x. O.sle x t) (same_eq s null e) ∙ L.null_least_lem t
      go false true e f h = ap (O.sle s) (same_eq t any f) ∙ L.any_greatest_lem s
      go false false e f h = ap (λ x. O.sle x t) (same_eq s t h) ∙ L.reflexive t

  -- so a leaf that conforms to a simple type under it does so here
  pub leaf_alike : (x : Val) (u : Ty) → is_data_leaf x ≡ true → simple u ≡ true → conforms fixed x u ≡ true → conforms O x u ≡ true
  unfolding conforms cmp
  leaf_alike x (leaf s) h k e =
      let l = leaf_tree x h in
      ap (λ y. conforms O y (leaf s)) l.1 ∙ flat_holds (leaf_type l.0) s (sym (ap (λ y. conforms fixed y (leaf s)) l.1) ∙ e)
  leaf_alike x (built y) h k e = absurd (true≢false (sym k))

pub simple_is : (u : Ty) → cmd u ≤ 41 → simple u ≡ true
simple_is (leaf s) h = refl
simple_is (built (list t)) h = absurd (omega arith)
simple_is (built (range t)) h = absurd (omega arith)
simple_is (built (context fs)) h = absurd (omega arith)
simple_is (built (function ps r)) h = absurd (omega arith)

pub simple_cmd : (u : Ty) → simple u ≡ true → (cmd u ≤ 41) × (size u ≡ 1)
unfolding size
simple_cmd (leaf s) h = let k = code_small s in (omega arith, refl)
simple_cmd (built y) h = absurd (true≢false (sym h))

-- ---- definitions
cmps_count : (O : Order) (d : Dir) (ps qs : Tys) → (count_tys ps ≡ count_tys qs → ⊥) → cmps O d ps qs ≡ false
unfolding cmp count_tys
cmps_count O d no_params no_params n = absurd (n refl)
cmps_count O d no_params (param t qs) n = refl
cmps_count O d (param t ps) no_params n = refl
cmps_count O d (param t ps) (param u qs) n = ap (λ x. cmp O d t u && x) (cmps_count O d ps qs (λ e. n (ap suc e))) ∙ and_false (cmp O d t u)

params_count : (l n : ℕ) (s : List ℕ) (ps : Params) → params_at l n s ≡ some ps → count_tys (types_of ps) ≡ n
unfolding count_tys types_of params_at
params_count l zero s ps e = ap (λ x. count_tys (types_of x)) (no_parameter l s ps e)
params_count l (suc n) s ps e =
    let g = first_parameter l n 0 s ps e in
    ap (λ x. count_tys (types_of x)) g.is ∙ ap suc (params_count l n (drop (name_width + size g.x) s) g.more g.second)

abbrev params_of : Definition → Params
params_of (definition r ps) = ps

definition_count : (l n : ℕ) (s : List ℕ) (r : Ty) (ps : Params) → definition_at l n s ≡ some (definition r ps) → count_tys (types_of ps) ≡ n
definition_count l n s r ps e =
    let g = definition_parts l n s (definition r ps) e in
    ap (λ d. count_tys (types_of (params_of d))) g.is ∙ params_count l n (drop (size g.r) s) g.ps g.second

module _ (O : Order) where
  -- strict or not: with the parameters compared that way round
  pub held_function : (ps : Params) (b : ℕ) (r : Ty) (f : Sig) → conforms O (v_function ps b r) (fun_of f) ≡ definition_conforms O (definition r ps) f
  unfolding conforms
  held_function ps b r (sig qs s) = go O.strict refl
    where
      rest : Dir → Bool
      rest d = cmps O d (types_of ps) qs && cmp O up r s

      go : (q : Bool) → O.strict ≡ q → cond O.strict (cmp O up (built (function (types_of ps) r)) (built (function qs s))) (rest up) ≡ rest (parameter_way O)
      go true e =
          ap (λ q. cond q (cmp O up (built (function (types_of ps) r)) (built (function qs s))) (rest up)) e
          ∙ le_functions_down O (types_of ps) qs r s
          ∙ ap (λ q. cmps O down (types_of ps) qs && ((not q && empty (types_of ps)) || cmp O up r s)) e
          ∙ sym (ap (λ q. rest (cond q down up)) e)
      go false e = ap (λ q. cond q (cmp O up (built (function (types_of ps) r)) (built (function qs s))) (rest up)) e ∙ sym (ap (λ q. rest (cond q down up)) e)

  -- no, since the counts differ
  pub counts_differ : (l n : ℕ) (s : List ℕ) (r : Ty) (ps : Params) (f : Sig) → definition_at l n s ≡ some (definition r ps) → (n ≡ count_sig f → ⊥)
      → definition_conforms O (definition r ps) f ≡ false
  counts_differ l n s r ps (sig qs t) e d =
      ap (λ x. x && cmp O up r t) (cmps_count O (parameter_way O) (types_of ps) qs (λ z. d (sym (definition_count l n s r ps e) ∙ z)))
