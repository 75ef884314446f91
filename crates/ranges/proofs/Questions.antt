-- The small questions: the reader's refusals first, then the answer from the command and the byte behind it.
-- Index: `questions`, what the calls on a value need: `asked_refused`, `some_byte` (the reader's answer), `kind_done`, `number_done` (by the command), `true_done`, `false_done`,
-- `coercion_done` (by a leaf's byte), `range_no`, `ranged`, `range_done` (ranges); `intervals`, what the calls on an interval type need;
-- `interval_refused`, `interval_done`, `interval_same`, `odd_is` (the same without a `Result`, for a crate above).
-- Assumes nothing.
use Prim.Native.Nat.{ℕ, zero, suc, ◌<◌, ◌≤◌, ◌%◌}
use mathlib.Core.Path.{◌≡◌, refl, sym, ap, ◌∙◌}
use mathlib.Core.Bool.{Bool, true, false, ◌||◌, ◌&&◌}
use mathlib.Core.Option.{some}
use mathlib.Core.List.{List}
use native.Mathlib.Omega.{arith}
use lib.ListN.{length, get_or}
use lib.Dec.{eqb, leb, ltb}
use borrow.Author.Tests.{le-leb, lt-leb, leb-true}
use Rattle.std.specs.declared.result.Result.{Result}
use Rattle.std.specs.declared.result.Result.TheVariants.{Ok, Err}
use Rattle.std.specs.Result.{IsErrAnd}
use Rattle.std.proofs.lemmas.Bool.Decides.{nat_tests}
use Rattle.form.specs.Trees.{Val, v_leaf, v_range, v_list, v_context, v_function, v_built_in, v_type, v_irrelevant}
use Rattle.form.specs.Limits.{value_levels, value_refusals}
use Rattle.form.specs.Layout.{leaf_type_command}
use Rattle.form.specs.Outcome.{Outcome, done, refused, ◌>>=◌, ◌>>◌, check, pick}
use Rattle.form.specs.Form.{bit, level_v}
use Rattle.form.specs.Read.{got, read_v, read_value, check_value}
use Rattle.form.specs.Widths.{command}
use Rattle.form.specs.Answers.{number, outcome}
use Rattle.form.specs.declared.refusals.Refusal.{Refusal}
use Rattle.form.proofs.Accepted.{whole_got, level_told, level_refused}
use Rattle.form.proofs.CommandKinds.{no_type, no_leaf_high}
use Rattle.form.proofs.ExactValues.{code_small_temporal}
use Rattle.form.proofs.Nodes.{value_read}
use Rattle.types.proofs.Reading.{got_seen}
use Rattle.values.specs.At.{value_at}
use Rattle.ranges.specs.Ranges.{opened, closed, undefined, is_valid_range, null_with, the_boolean, a_number, of_leaf}
use Rattle.ranges.specs.Calls.{asked, of_kind, is_number_call, is_true_call, is_false_call, is_invalid_coercion_call, is_valid_range_call, Ranged, RangeOf, RangeIs}
use Rattle.ranges.specs.Calls.{interval_type, interval, opened_call, closed_call, undefined_call}
use Rattle.ranges.proofs.Fronts.{Front, f_null, f_boolean, f_number, f_decimal, f_string, f_temporal, f_other, front_read, command_is}

-- ---- what the reader's answer says
pub handed : (r : Result Bool Refusal) (e : Refusal) → IsErrAnd r (λ x. x ≡ e) → outcome r ≡ refused (number e)
handed (Ok x) e h = absurd h
handed (Err x) e h = ap (λ f. refused (number f)) h

pub asked_refused : (test : Val → Bool) (s : List ℕ) (r : Result Bool Refusal) (e : Refusal) → IsErrAnd r (λ x. x ≡ e) → refused (number e) ≡ check_value s → outcome r ≡ asked test s
unfolding check_value ◌>>=◌
asked_refused test s r e h q = handed r e h ∙ rw (level_refused level_v (read_value s) (number e) (sym q))

-- an accepted value
record Fine (s : List ℕ) : Type 0 where
  v : Val
  reads : read_value s ≡ done v
  there : read_v value_levels s ≡ got v (length s)

fine : {s : List ℕ} {n : ℕ} → done n ≡ check_value s → Fine s
unfolding check_value
fine {s} {n} q = level_told level_v (read_value s) n (sym q) (λ v r d. record { v = v; reads = r; there = whole_got value_refusals (read_v value_levels) s v r })

pub some_byte : (s : List ℕ) {n : ℕ} → done n ≡ check_value s → 0 < length s
some_byte s q = let F = fine q in (value_read value_levels s F.v (length s) F.there).some_byte

-- the answer of a question that its bytes tell
asked_done : (test : Val → Bool) {s : List ℕ} {n : ℕ} (r : Bool) → done n ≡ check_value s → ((v : Val) → Front s v (length s) → test v ≡ r) → done r ≡ asked test s
unfolding ◌>>=◌
asked_done test {s} r h f = let F = fine h in rw F.reads (ap done (sym (f F.v (front_read value_levels s F.v (length s) F.there))))

-- ---- by the command
pub kind_done : (s : List ℕ) (c n : ℕ) → done n ≡ check_value s → done (eqb (get_or s 0 0) c) ≡ of_kind c s
kind_done s c n h = asked_done (λ w. eqb (command w) c) (eqb (get_or s 0 0) c) h (λ v f. ap (λ b. eqb b c) (command_is s v (length s) f))

number_told : (s : List ℕ) (v : Val) (n : ℕ) → Front s v n → of_leaf a_number v ≡ eqb (leaf_type_command (get_or s 0 0)) 0x22
unfolding leaf_type_command
number_told s v n (f_null c k) = grind (arith, nat_tests)
number_told s v n (f_boolean c k x) = grind (arith, nat_tests)
number_told s v n (f_number c k) = grind (arith, nat_tests)
number_told s v n (f_decimal c k x) = grind (arith, nat_tests)
number_told s v n (f_string c k) = grind (arith, nat_tests)
number_told s v n (f_temporal t c k) = let g = code_small_temporal t in grind (arith, nat_tests)
number_told s v n (f_other w k o) = let h = no_type (get_or s 0 0) o.no_leaf in let e = o.no a_number in grind (arith, nat_tests)

pub number_done : (s : List ℕ) (n t : ℕ) → done n ≡ check_value s → t ≡ leaf_type_command (get_or s 0 0) → done (eqb t 0x22) ≡ is_number_call s
number_done s n t h e = asked_done (of_leaf a_number) (eqb t 0x22) h (λ v f. number_told s v (length s) f ∙ ap (λ u. eqb u 0x22) (sym e))

-- ---- a leaf by its command and the byte behind it
abbrev leads : ℕ → ℕ → List ℕ → Bool
leads c x s = ltb 1 (length s) && eqb (get_or s 0 0) c && eqb (get_or s 1 0) x

null_told : (x : ℕ) (s : List ℕ) (v : Val) (n : ℕ) → Front s v n → of_leaf (null_with x) v ≡ leads 0 x s
null_told x s v n (f_null c k) = grind (arith, nat_tests)
null_told x s v n (f_boolean c k y) = grind (arith, nat_tests)
null_told x s v n (f_number c k) = grind (arith, nat_tests)
null_told x s v n (f_decimal c k y) = grind (arith, nat_tests)
null_told x s v n (f_string c k) = grind (arith, nat_tests)
null_told x s v n (f_temporal t c k) = grind (arith, nat_tests)
null_told x s v n (f_other w k o) = let h = no_leaf_high (get_or s 0 0) o.no_leaf in let e = o.no (null_with x) in grind (arith, nat_tests)

boolean_told : (b : Bool) (s : List ℕ) (v : Val) (n : ℕ) → Front s v n → of_leaf (the_boolean b) v ≡ leads 1 (bit b) s
boolean_told b s v n (f_null c k) = grind (arith, nat_tests)
boolean_told true s v n (f_boolean c k y) = grind (arith, nat_tests)
boolean_told false s v n (f_boolean c k y) = grind (arith, nat_tests)
boolean_told b s v n (f_number c k) = grind (arith, nat_tests)
boolean_told b s v n (f_decimal c k y) = grind (arith, nat_tests)
boolean_told b s v n (f_string c k) = grind (arith, nat_tests)
boolean_told b s v n (f_temporal t c k) = grind (arith, nat_tests)
boolean_told b s v n (f_other w k o) = let h = no_leaf_high (get_or s 0 0) o.no_leaf in let e = o.no (the_boolean b) in grind (arith, nat_tests)

module _ (s : List ℕ) (n : ℕ) (r : Bool) (h : done n ≡ check_value s) where
  pub true_done : leads 1 1 s ≡ r → done r ≡ is_true_call s
  true_done e = asked_done (of_leaf (the_boolean true)) r h (λ v f. boolean_told true s v (length s) f ∙ e)

  pub false_done : leads 1 0 s ≡ r → done r ≡ is_false_call s
  false_done e = asked_done (of_leaf (the_boolean false)) r h (λ v f. boolean_told false s v (length s) f ∙ e)

  pub coercion_done : leads 0 1 s ≡ r → done r ≡ is_invalid_coercion_call s
  coercion_done e = asked_done (of_leaf (null_with 1)) r h (λ v f. null_told 1 s v (length s) f ∙ e)

-- ---- ranges
no_range : (v : Val) → (command v ≡ 9 → ⊥) → is_valid_range v ≡ false
no_range (v_leaf l) h = refl
no_range (v_range i j v w) h = absurd (h refl)
no_range (v_list vs) h = refl
no_range (v_context es) h = refl
no_range (v_function ps b r) h = refl
no_range (v_built_in b) h = refl
no_range (v_type t) h = refl
no_range v_irrelevant h = refl

stands : {s : List ℕ} (F : Fine s) → value_at value_levels s ≡ some F.v
unfolding value_at
stands {s} F = got_seen (read_v value_levels s) F.v (length s) F.there

module _ (s : List ℕ) (n : ℕ) (h : done n ≡ check_value s) where
  pub range_no : (get_or s 0 0 ≡ 9 → ⊥) → done false ≡ is_valid_range_call s
  range_no x = asked_done is_valid_range false h (λ v f. no_range v (λ e. x (sym (command_is s v (length s) f) ∙ e)))

  pub ranged : get_or s 0 0 ≡ 9 → Ranged s
  ranged e = let F = fine h in record { value = F.v; read = stands F; is = e }

  pub range_done : (r : Bool) → RangeIs s r → done r ≡ is_valid_range_call s
  unfolding RangeOf ◌>>=◌
  range_done r w = let F = fine h in rw F.reads (ap done (rw (stands F) at w))

-- what the calls on a value need
pub ruleset questions = (asked_refused, some_byte, kind_done, number_done, true_done, false_done, coercion_done, range_no, ranged, range_done, nat_tests)

-- ---- interval types
interval_is : (test : ℕ → Bool) (i : ℕ) → interval test i ≡ pick (leb i 3) (done (test i)) (refused 2)
unfolding ◌>>◌
interval_is test i = go (leb i 3)
  where
    go : (b : Bool) → (do check 2 b; done (test i)) ≡ pick b (done (test i)) (refused 2)
    go true = refl
    go false = refl

pub type_is : (i : ℕ) → interval_type i ≡ pick (leb i 3) (done i) (refused 2)
unfolding ◌>>◌
type_is i = go (leb i 3)
  where
    go : (b : Bool) → (do check 2 b; done i) ≡ pick b (done i) (refused 2)
    go true = refl
    go false = refl

pub opened_is : (i : ℕ) → opened_call i ≡ pick (leb i 3) (done (opened i)) (refused 2)
opened_is i = interval_is opened i

pub closed_is : (i : ℕ) → closed_call i ≡ pick (leb i 3) (done (closed i)) (refused 2)
closed_is i = interval_is closed i

pub undefined_is : (i : ℕ) → undefined_call i ≡ pick (leb i 3) (done (undefined i)) (refused 2)
undefined_is i = interval_is undefined i

pub ruleset intervals = (handed, type_is, opened_is, closed_is, undefined_is, nat_tests)

-- ---- interval types, without a `Result`
pub interval_refused : (test : ℕ → Bool) {i : ℕ} → 3 < i → refused 2 ≡ interval test i
unfolding ◌>>◌
interval_refused test {i} h = rw (lt-leb i 3 h)

pub interval_done : (test : ℕ → Bool) {i : ℕ} {o : Outcome Bool} → i ≤ 3 → o ≡ done (test i) → o ≡ interval test i
unfolding ◌>>◌
interval_done test {i} h e = e ∙ rw (le-leb i 3 h)

-- only the four interval types are asked
pub interval_same : (test other : ℕ → Bool) (i : ℕ) → (i ≤ 3 → test i ≡ other i) → interval test i ≡ interval other i
unfolding ◌>>◌
interval_same test other i f = go (leb i 3) refl
  where
    go : (q : Bool) → leb i 3 ≡ q → (do check 2 q; done (test i)) ≡ (do check 2 q; done (other i))
    go true e = ap done (f (leb-true i 3 e))
    go false e = refl

-- of the four interval types 1 and 3 are the odd ones
pub odd_is : (i : ℕ) → i ≤ 3 → (eqb i 1 || eqb i 3) ≡ eqb (i % 2) 1
odd_is zero h = refl
odd_is (suc zero) h = refl
odd_is (suc (suc zero)) h = refl
odd_is (suc (suc (suc zero))) h = refl
odd_is (suc (suc (suc (suc i)))) h = absurd (omega arith)
