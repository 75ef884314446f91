-- Document 02's K9 holds over bytes and calls (`table_vote`). Idea: a table that loads gives a lawful order (`table_laws`), and the statements hold for every lawful order; a call over
-- a table is the call of its order, or the table's refusal.
-- Assumes nothing.
use Prim.Native.Nat.{ℕ}
use mathlib.Core.Path.{◌≡◌, refl, sym, ap, ◌∙◌}
use mathlib.Core.Bool.{Bool, true, false, not, cond, ◌&&◌, false≢true, true≢false}
use mathlib.Core.Logic.{◌↔◌}
use mathlib.Core.List.{List}
use borrow.Author.Tests.{eqb-false}
use Rattle.form.specs.Outcome.{Outcome, done, refused, ◌>>=◌}
use Rattle.form.specs.Trees.{Simple, any, null, Ty, leaf, built, Built, list, range, context, function, Fields, no_fields, field, Tys, no_params, param}
use Rattle.form.specs.Trees.{Val, v_leaf, v_range, v_list, v_context, v_function, v_built_in, v_type, v_irrelevant, Vals, no_items, item, Entries, no_entries, entry}
use Rattle.form.proofs.Accepted.{refused_done}
use Rattle.form.proofs.Refused.{refused_same}
use Rattle.order.specs.Order.{Order, Laws, same, fixed}
use Rattle.order.specs.Table.{is_table, is_ordered, has_joins, in_table, table_order, fixed_table, Loads}
use Rattle.order.specs.Types.{cmp, empty, reduce, reduce_built, reduce_fields, reduce_tys, bound, sup, sub}
use Rattle.order.specs.Values.{is_data_by, are_data, hold_data}
use Rattle.order.specs.Document.{reduced_form}
use Rattle.order.proofs.Ends.{laws_ends}
use Rattle.order.proofs.Table.{table_laws, fixed_loads, join, meet, join_found, meet_found}
use Rattle.order.proofs.Packed.{fixed_order}
use Rattle.tables.specs.Calls.{load_table, check_table}
use Rattle.tables.proofs.CallContracts.{tested, as_tests, checked_refused, loads_from, loads_is_done}
use Rattle.types.specs.Calls as types
use Rattle.bounds.specs.Calls.{combined}
use Rattle.values.specs.Calls as values
use Rattle.infer.specs.Calls.{least_type_by}
use Rattle.vote.specs.TableVote.{LoadedTable, order_in, RefusedFirst, AnswersBy, SimpleTypes, TableVote}
use Rattle.vote.proofs.Vote.{statements}

-- ---- which tables load
module _ (table : List ℕ) where
  abbrev A : Bool
  A = is_table table

  abbrev B : Bool
  B = is_ordered (in_table table)

  abbrev C : Bool
  C = has_joins (in_table table)

  yes_exactly : (check_table table ≡ done true) ↔ ((A ≡ true) × (B ≡ true) × (C ≡ true))
  yes_exactly = (
    λ h. let l = (loads_from table true true (sym h)).0 in (l.is_table_lem, l.is_ordered_lem, l.has_joins_lem),
    λ h. loads_is_done table true (record { is_table_lem = h.0; is_ordered_lem = h.1; has_joins_lem = h.2 }),
  )

  -- refused with n where the three tests say so
  by_tests : (n : ℕ) → (check_table table ≡ refused n) ↔ (tested A B C true ≡ refused n)
  by_tests n = (λ h. sym (as_tests table true) ∙ h, λ h. as_tests table true ∙ h)

  first_fails : (a b c : Bool) → (tested a b c true ≡ refused 26) ↔ (a ≡ false)
  first_fails false b c = (λ h. refl, λ h. refl)
  first_fails true false c = (λ h. absurd (eqb-false 27 26 refl (refused_same h)), λ h. absurd (true≢false h))
  first_fails true true false = (λ h. absurd (eqb-false 28 26 refl (refused_same h)), λ h. absurd (true≢false h))
  first_fails true true true = (λ h. absurd (refused_done (sym h)), λ h. absurd (true≢false h))

  second_fails : (a b c : Bool) → (tested a b c true ≡ refused 27) ↔ ((a ≡ true) × (b ≡ false))
  second_fails false b c = (λ h. absurd (eqb-false 26 27 refl (refused_same h)), λ h. absurd (false≢true h.0))
  second_fails true false c = (λ h. (refl, refl), λ h. refl)
  second_fails true true false = (λ h. absurd (eqb-false 28 27 refl (refused_same h)), λ h. absurd (true≢false h.1))
  second_fails true true true = (λ h. absurd (refused_done (sym h)), λ h. absurd (true≢false h.1))

  third_fails : (a b c : Bool) → (tested a b c true ≡ refused 28) ↔ ((a ≡ true) × (b ≡ true) × (c ≡ false))
  third_fails false b c = (λ h. absurd (eqb-false 26 28 refl (refused_same h)), λ h. absurd (false≢true h.0))
  third_fails true false c = (λ h. absurd (eqb-false 27 28 refl (refused_same h)), λ h. absurd (false≢true h.1))
  third_fails true true false = (λ h. (refl, refl, refl), λ h. refl)
  third_fails true true true = (λ h. absurd (refused_done (sym h)), λ h. absurd (true≢false h.2))

  through : {P Q R : Type 0} → P ↔ Q → Q ↔ R → P ↔ R
  through f g = (λ p. g.0 (f.0 p), λ r. f.1 (g.1 r))

  -- the order is not made where a table does not load
  stopped : (n : ℕ) → check_table table ≡ refused n → load_table table ≡ refused n
  stopped n h = sym (checked_refused table true (table_order table) n (sym h))

  first : (n : ℕ) → check_table table ≡ refused n → RefusedFirst table n
  unfolding ◌>>=◌
  first n h =
      record {
        types_refused = λ a b. ap (λ o. ◌>>=◌ o (λ order. types.is_conformant_by order a b)) (stopped n h);
        values_refused = λ v t. ap (λ o. ◌>>=◌ o (λ order. values.is_conformant_by order v t)) (stopped n h);
        supertype_refused = λ a b s r. ap (λ o. ◌>>=◌ o (λ order. combined (sup order) a b s r)) (stopped n h);
        subtype_refused = λ a b s r. ap (λ o. ◌>>=◌ o (λ order. combined (sub order) a b s r)) (stopped n h);
        least_refused = λ v s r. ap (λ o. ◌>>=◌ o (λ order. least_type_by order v s r)) (stopped n h);
      }

-- ---- over a table that loads
loads_of : (t : LoadedTable) → Loads t.bytes
loads_of t = (loads_from t.bytes true true (sym t.loads)).0

laws_of : (t : LoadedTable) → Laws (order_in t)
laws_of t = table_laws t.bytes (loads_of t)

module _ {X : Type 0} (t : LoadedTable) (more : Order → Outcome X) where
  over : ◌>>=◌ (load_table t.bytes) more ≡ more (order_in t)
  unfolding ◌>>=◌
  over = ap (λ o. ◌>>=◌ o more) (loads_is_done t.bytes (order_in t) (loads_of t))

answers : (t : LoadedTable) → AnswersBy t
answers t =
    record {
      types_answer = λ a b. over t (λ order. types.is_conformant_by order a b);
      values_answer = λ v u. over t (λ order. values.is_conformant_by order v u);
      supertype_answer = λ a b s r. over t (λ order. combined (sup order) a b s r);
      subtype_answer = λ a b s r. over t (λ order. combined (sub order) a b s r);
      least_answer = λ v s r. over t (λ order. least_type_by order v s r);
    }

-- reduced forms and data go by whether the order is strict alone
module _ (O P : Order) (e : O.strict ≡ P.strict) where
  mutual
    unfolding reduce

    same_reduce : (a : Ty) → reduce O a ≡ reduce P a
    same_reduce (leaf s) = refl
    same_reduce (built x) = ap built (same_built x)

    same_built : (x : Built) → reduce_built O x ≡ reduce_built P x
    same_built (list a) = ap list (same_reduce a)
    same_built (range a) = ap range (same_reduce a)
    same_built (context fs) = ap context (same_fields fs)
    same_built (function ps r) = λ i. function (same_tys ps i) (cond (not (e i) && empty ps) (leaf any) (same_reduce r i))

    same_fields : (fs : Fields) → reduce_fields O fs ≡ reduce_fields P fs
    same_fields no_fields = refl
    same_fields (field n a fs) = λ i. field n (same_reduce a i) (same_fields fs i)

    same_tys : (ps : Tys) → reduce_tys O ps ≡ reduce_tys P ps
    same_tys no_params = refl
    same_tys (param a ps) = λ i. param (same_reduce a i) (same_tys ps i)

  mutual
    unfolding is_data_by

    same_data : (v : Val) → is_data_by O v ≡ is_data_by P v
    same_data (v_leaf l) = refl
    same_data (v_range i j v w) = λ k. same_data v k && same_data w k
    same_data (v_list vs) = same_items vs
    same_data (v_context es) = same_entries es
    same_data (v_function ps b r) = e
    same_data (v_built_in b) = refl
    same_data (v_type a) = refl
    same_data v_irrelevant = refl

    same_items : (vs : Vals) → are_data O vs ≡ are_data P vs
    same_items no_items = refl
    same_items (item v vs) = λ k. same_data v k && same_items vs k

    same_entries : (es : Entries) → hold_data O es ≡ hold_data P es
    same_entries no_entries = refl
    same_entries (entry n v es) = λ k. same_data v k && same_entries es k

simple_types : (t : LoadedTable) → SimpleTypes t
unfolding table_order cmp bound reduce
simple_types t =
    let l = loads_of t in
    let r = in_table t.bytes in
    let E = laws_ends (order_in t) (laws_of t) in
    let plain = same_reduce (order_in t) fixed refl in
    record {
      conforms_by = λ s u. refl;
      least_common = λ s u. (join r s u, refl, join_found r l.is_ordered_lem l.has_joins_lem s u);
      greatest_common = λ s u. (meet r s u, refl, meet_found r l.is_ordered_lem l.has_joins_lem s u);
      built_below = λ x s. E.from_any s;
      built_above = λ s x. E.to_null s;
      with_built = λ s x. ap (λ q. reduce (order_in t) (cond q (built x) (leaf any))) (E.to_null s) ∙ reduced_cond (order_in t) (same s null) (built x) any (plain (built x));
      built_with = λ s x. ap (λ q. reduce (order_in t) (cond q (built x) (leaf null))) (E.from_any s) ∙ reduced_cond (order_in t) (same s any) (built x) null (plain (built x));
      reduced_forms = plain;
      data_values = same_data (order_in t) fixed refl;
    }
  where
    reduced_cond : (O : Order) (q : Bool) (a : Ty) (s : Simple) → reduce O a ≡ reduced_form a → reduce O (cond q a (leaf s)) ≡ cond q (reduced_form a) (leaf s)
    reduced_cond O true a s e = e
    reduced_cond O false a s e = refl

abbrev fixed_table_lem : LoadedTable
fixed_table_lem = record { bytes = fixed_table; loads = loads_is_done fixed_table true fixed_loads }

pub table_vote : TableVote
table_vote =
    record {
      loads_exactly = yes_exactly;
      not_a_table = λ t. through t (by_tests t 26) (first_fails t (is_table t) (is_ordered (in_table t)) (has_joins (in_table t)));
      not_ordered = λ t. through t (by_tests t 27) (second_fails t (is_table t) (is_ordered (in_table t)) (has_joins (in_table t)));
      no_join = λ t. through t (by_tests t 28) (third_fails t (is_table t) (is_ordered (in_table t)) (has_joins (in_table t)));
      refused_first = first;
      statements = λ t. statements (order_in t) (laws_of t);
      answers = answers;
      simple_types = simple_types;
      fixed_loads = fixed_table_lem.loads;
      fixed_relation = fixed_order;
      fixed_types = λ a b. (answers fixed_table_lem).types_answer a b ∙ ap (λ O. types.is_conformant_by O a b) fixed_order;
      fixed_values = λ v t. (answers fixed_table_lem).values_answer v t ∙ ap (λ O. values.is_conformant_by O v t) fixed_order;
      fixed_supertype = λ a b s r. (answers fixed_table_lem).supertype_answer a b s r ∙ ap (λ O. combined (sup O) a b s r) fixed_order;
      fixed_subtype = λ a b s r. (answers fixed_table_lem).subtype_answer a b s r ∙ ap (λ O. combined (sub O) a b s r) fixed_order;
      fixed_least = λ v s r. (answers fixed_table_lem).least_answer v s r ∙ ap (λ O. least_type_by O v s r) fixed_order;
    }
