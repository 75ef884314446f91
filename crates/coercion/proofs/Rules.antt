-- The rules of coercion, one by one, as the code asks them; and the results that they give.
-- Idea: each helper says a test of the two trees (`SaysAt`); the result is the definition's at those answers.
-- Index: `value_says`, `function_says`, `bif_rules` (conformance); `keep_rules`, `item_rules`, `inner_rules` (what `keeps`, `takes_item` and `meets_inner` need);
-- `value_byte`, `list_three`, `value_fits` (what is there); `give_conformant`, `give_same`, `give_item`, `give_no_item`, `give_single`, `give_failed` (results);
-- `wrap_long`, `wrap_deep`, `wrap_short`, `wrap_done` (`wrap`); `first_refused`, `second_refused`, `ready` (arguments).
-- Assumes nothing.
use Prim.Native.Nat.{ℕ, zero, suc, ◌+◌, ◌-◌, ◌<◌, ◌≤◌}
use native.Mathlib.Omega.{arith}
use mathlib.Core.Path.{◌≡◌, refl, sym, ap, ap₂, subst, ◌∙◌}
use mathlib.Core.Bool.{Bool, true, false, not, cond, ◌&&◌, ◌||◌, false≢true}
use mathlib.Core.Logic.{◌⊎◌, inl, inr}
use mathlib.Core.Option.{Option, none, some}
use mathlib.Core.List.{List, [], ◌∷◌, append-nil}
use lib.ListN.{length, get_or, take, drop, length-drop}
use lib.Dec.{leb, eqb}
use borrow.Author.Tests.{le-leb, lt-leb, eq-eqb, ne_eqb}
use borrow.Rule.Slice.PartMut.{put_mid}
use Rattle.form.specs.Limits.{type_levels, value_levels, most_bytes}
use Rattle.form.specs.Trees.{any, boolean, number, string, date, time, date_time, days_and_time, years_and_months, null, Ty, leaf, built, list, range, context, function, no_params, param, Val, v_list}
use Rattle.form.specs.Trees.{v_built_in, Vals, no_items, item}
use Rattle.form.specs.Form.{Bytes, bytes, num_at, enc_v, enc_leaf, count_vals, level_v}
use Rattle.form.specs.Layout.{kind_of, ValueKind, k_list, k_definition, k_built_in}
use Rattle.form.specs.Outcome.{done, refused, ◌>>=◌, ◌>>◌, check, fits}
use Rattle.form.specs.Read.{front, and_then, read_run, read_function, step_type, step_t, read_t, read_v, read_type, read_value, check_type, check_value}
use Rattle.form.specs.Answers.{number as number_of, onto, Built}
use Rattle.std.specs.declared.result.Result.TheVariants as result_is
use Rattle.form.specs.declared.refusals.Refusal.{Refusal}
use Rattle.form.specs.declared.refusals.Refusal.TheVariants.{ResultSize, Output}
use Rattle.form.proofs.Exact.{bytes_drop}
use Rattle.form.proofs.Types.{type_told}
use Rattle.form.proofs.Values.{value_accepted, value_told, read_up_v}
use Rattle.form.proofs.Runs.{rest}
use Rattle.order.specs.Types.{cmp}
use Rattle.order.specs.Size.{size, size_val}
use Rattle.order.specs.Order.{fixed}
use Rattle.order.specs.Document.{conforms_to}
use Rattle.order.specs.Inferred.{value_conforms_to}
use Rattle.order.proofs.Size.{size_positive, size_val_positive}
use Rattle.types.specs.At.{seen, type_at, Ok}
use Rattle.types.specs.Conform.{judge, conform_by, conform_of, Met}
use Rattle.types.specs.Calls.{is_yes}
use Rattle.types.proofs.Reading as types
use Rattle.types.proofs.Reading.{is_ok, ok_got, seen_got, got_seen, cmd, cmd_is, some_byte}
use Rattle.types.proofs.CallContracts.{was_refused, whole_type}
use Rattle.values.specs.At.{value_at, items_at}
use Rattle.values.specs.Held.{held}
use Rattle.values.specs.Calls.{is_conformant, Accepted}
use Rattle.values.proofs.CallContracts.{value_accepted as value_held, value_refused, whole_value, not_held}
use Rattle.values.proofs.Definitions.{type_up}
use Rattle.values.proofs.Reading as reading
use Rattle.values.proofs.Reading.{first_item_lem, nth, no_nth, no_item}
use Rattle.output.proofs.OntoLaws.{back}
use Rattle.output.proofs.Outcomes.{built_refused, built_short, built_wrote}
use Rattle.ranges.specs.Ranges.{bif_type}
use Rattle.coercion.specs.Coerce.{failed, single, unchanged, sole_item_conforms, item_conforms, first_item, inner_conforms, to_single, converted, coerced}
use Rattle.coercion.specs.Calls.{coerced_call, Ready, wrapped, Says, SaysAt, BifSays}
use Rattle.coercion.proofs.Theorems.{same_if}
use Rattle.output.specs.Result.{checked_result}
use Rattle.values.proofs.Reading.{IsVal, is_null_lem, is_boolean_lem, is_number, is_string_lem, is_temporal_lem, is_range_lem, is_list_lem, is_context_lem, is_definition_lem}
use Rattle.values.proofs.Reading.{is_built_in_lem, is_type_lem, is_irrelevant_lem, is_decimal_lem}
use Rattle.values.proofs.Reading.{is_val, as_list, as_definition, as_built_in}

single_bytes : (w : Val) → enc_v (single w) ≡ 0x0A ∷ 1 ∷ 0 ∷ enc_v w
unfolding enc_v count_vals bytes
single_bytes w = ap (λ x. 0x0A ∷ 1 ∷ 0 ∷ x) (append-nil (enc_v w))

single_level : (w : Val) → level_v (single w) ≡ level_v w + 1
unfolding level_v
single_level w = omega arith

-- ---- what a helper says
module _ {X Y : Type 0} (test : X → Y → Bool) where
  is_said : (p : Option X) (q : Option Y) (x : X) (y : Y) (r : Bool) → p ≡ some x → q ≡ some y → r ≡ test x y → Says test p q r
  unfolding Says
  is_said p q x y r e f h = rw (e, f) h

  said : (p : Option X) (q : Option Y) (x : X) (y : Y) (r : Bool) → p ≡ some x → q ≡ some y → Says test p q r → r ≡ test x y
  unfolding Says
  said p q x y r e f h = rw (e, f) at h

  -- a pass over both says it by its size
  met_says : (sx : X → ℕ) (sy : Y → ℕ) → ((x : X) → 0 < sx x) → (p : Option X) (q : Option Y) (r u : ℕ) → Met (conform_by sx sy test p q) r u → Says test p q (not (eqb r 0))
  unfolding Says conform_by
  met_says sx sy positive (some x) (some y) r u m = go (test x y) m
    where
      go : (b : Bool) → Met (judge b (sx x) (sy y)) r u → not (eqb r 0) ≡ b
      go true h = ap not (ne_eqb r 0 (λ z. omega (arith, positive x, h.0)))
      go false h = ap not (eq-eqb r 0 h)
  met_says sx sy positive (some x) none r u m = ap not (eq-eqb r 0 m)
  met_says sx sy positive none q r u m = ap not (eq-eqb r 0 m)

pub value_says : (v t : List ℕ) (r u : ℕ) → Met (held fixed (value_at value_levels v) (type_at type_levels t)) r u → SaysAt value_conforms_to v t (not (eqb r 0))
value_says v t r u m = met_says value_conforms_to size_val size size_val_positive (value_at value_levels v) (type_at type_levels t) r u m

-- ---- built-in functions
abbrev number_to_number : Ty
number_to_number = built (function (param (leaf number) no_params) (leaf number))

function_read : type_at type_levels (0x2D ∷ 0x01 ∷ 0x22 ∷ 0x22 ∷ []) ≡ some number_to_number
unfolding type_at seen read_t step_t step_type read_function read_run and_then front kind_of
function_read = refl

pub function_says : (t : List ℕ) (r u : ℕ) → Met (conform_of fixed (type_at type_levels (0x2D ∷ 0x01 ∷ 0x22 ∷ 0x22 ∷ [])) (type_at type_levels t)) r u → BifSays 0 t (not (eqb r 0))
function_says t r u m =
    met_says conforms_to size size size_positive (some number_to_number) (type_at type_levels t) r u
    (subst (λ (x : Option Ty). Met (conform_of fixed x (type_at type_levels t)) r u) function_read m)

module _ (t : List ℕ) (q : Ok (type_at type_levels t)) where
  U : (y : Ty) × (type_at type_levels t ≡ some y)
  U = ok_got (type_at type_levels t) q

  pub type_byte : 0 < length t
  type_byte = some_byte type_levels t U.0 U.1

  any_below : (y : Ty) → conforms_to (leaf any) y ≡ eqb (cmd y) 0x20
  unfolding cmp
  any_below (leaf any) = refl
  any_below (leaf boolean) = refl
  any_below (leaf number) = refl
  any_below (leaf string) = refl
  any_below (leaf date) = refl
  any_below (leaf time) = refl
  any_below (leaf date_time) = refl
  any_below (leaf days_and_time) = refl
  any_below (leaf years_and_months) = refl
  any_below (leaf null) = refl
  any_below (built (list y)) = refl
  any_below (built (range y)) = refl
  any_below (built (context fs)) = refl
  any_below (built (function ps r)) = refl

  pub bif_any : (b : ℕ) → ((b ≡ 0) ⊎ (b ≡ 67) → ⊥) → BifSays b t (eqb (get_or t 0 0) 0x20)
  bif_any b h =
      is_said conforms_to (some (bif_type b)) (type_at type_levels t) (bif_type b) U.0 (eqb (get_or t 0 0) 0x20) refl U.1
      (ap (λ x. eqb x 0x20) (sym (cmd_is type_levels t U.0 U.1)) ∙ sym (any_below U.0)
      ∙ ap (λ x. conforms_to (cond x number_to_number (leaf any)) U.0) (sym (ap₂ ◌||◌ (ne_eqb b 0 (λ e. h (inl e))) (ne_eqb b 67 (λ e. h (inr e))))))

pub ruleset bif_rules = (type_byte, bif_any)

-- a one-item list: three bytes in front, and one level on top
single_result : (room : ℕ) (w : Val) (s : List ℕ) (lv : ℕ) → s ≡ enc_v w → lv ≡ level_v w → checked_result room (single w) ≡ wrapped s lv room
single_result room w s lv e l =
    let b : enc_v (single w) ≡ 0x0A ∷ 1 ∷ 0 ∷ s = single_bytes w ∙ ap (λ x. 0x0A ∷ 1 ∷ 0 ∷ x) (sym e) in
    let n : length (enc_v (single w)) ≡ length s + 3 = ap length b ∙ omega arith in
    let d : level_v (single w) ≡ lv + 1 = single_level w ∙ omega arith in
    ap₂ (λ x y. ◌>>◌ (check 17 (leb x most_bytes && leb y value_levels)) (fits room (enc_v (single w)))) n d
    ∙ ap (λ x. ◌>>◌ (check 17 (leb (length s + 3) most_bytes && leb (lv + 1) value_levels)) (fits room x)) b

-- ---- what stands in the bytes of an accepted value or type
module _ (t : List ℕ) (u : Ty) (e : read_type t ≡ done u) where
  pub type_ok : Ok (type_at type_levels t)
  type_ok = is_ok (type_at type_levels t) u (whole_type.stands t u e)

  pub first_byte : 0 < length t
  first_byte = some_byte type_levels t u (whole_type.stands t u e)

module _ (v : List ℕ) (w : Val) (e : read_value v ≡ done w) where
  pub value_byte : 0 < length v
  value_byte = reading.some_byte value_levels v w (whole_value.stands v w e)

  built_in : get_or v 0 0 ≡ 0x0D → (w ≡ v_built_in (get_or v 1 0)) × (2 ≤ length v)
  built_in c = go (as_built_in value_levels v w (whole_value.stands v w e) c)
    where
      go : {x : Val} → IsVal value_levels v k_built_in x → (x ≡ v_built_in (get_or v 1 0)) × (2 ≤ length v)
      go (is_built_in_lem b k) = (refl, k)

  pub bif_byte : get_or v 0 0 ≡ 0x0D → 1 < length v
  bif_byte c = (built_in c).1

  pub list_three : get_or v 0 0 ≡ 0x0A → 3 ≤ length v
  list_three c = go (as_list value_levels v w (whole_value.stands v w e) c)
    where
      go : {x : Val} → IsVal value_levels v k_list x → 3 ≤ length v
      go (is_list_lem vs b k p) = k

-- ---- the two that were accepted
module _ (t v : List ℕ) (A : Accepted t v) where
  type_there : type_at type_levels t ≡ some A.type
  type_there = whole_type.stands t A.type A.read_t_lem

  value_there : value_at value_levels v ≡ some A.value
  value_there = whole_value.stands v A.value A.read_v_lem

  says : (test : Val → Ty → Bool) (r : Bool) → r ≡ test A.value A.type → SaysAt test v t r
  says test r h = is_said test (value_at value_levels v) (type_at type_levels t) A.value A.type r value_there type_there h

  was : (test : Val → Ty → Bool) (r : Bool) → SaysAt test v t r → r ≡ test A.value A.type
  was test r h = said test (value_at value_levels v) (type_at type_levels t) A.value A.type r value_there type_there h

  -- ---- `keeps`
  pub keeps_definition : get_or v 0 0 ≡ 0x0C → SaysAt unchanged v t true
  keeps_definition c = says unchanged true (go (as_definition value_levels v A.value value_there c))
    where
      go : {x : Val} → IsVal value_levels v k_definition x → true ≡ unchanged x A.type
      go (is_definition_lem r ps b e k p) = refl

  pub keeps_other : false ≡ is_yes (is_conformant v t) → (get_or v 0 0 ≡ 0x0C → ⊥) → (get_or v 0 0 ≡ 0x0D → ⊥) → SaysAt unchanged v t false
  keeps_other f c d = says unchanged false (sym (not_held t v A f) ∙ go (is_val value_levels v A.value value_there).1)
    where
      go : {j : ValueKind} {x : Val} → IsVal value_levels v j x → value_conforms_to x A.type ≡ unchanged x A.type
      go (is_null_lem x e) = refl
      go (is_boolean_lem x e) = refl
      go (is_number x e) = refl
      go (is_string_lem x e) = refl
      go (is_temporal_lem x e k) = refl
      go (is_range_lem i j a b e k p) = refl
      go (is_list_lem vs e k p) = refl
      go (is_context_lem es e k p) = refl
      go (is_definition_lem r ps b e k p) = absurd (c e)
      go (is_built_in_lem e k) = absurd (d e)
      go (is_type_lem u e p) = refl
      go (is_irrelevant_lem e) = refl
      go (is_decimal_lem x p e) = refl

  pub keeps_built_in : false ≡ is_yes (is_conformant v t) → get_or v 0 0 ≡ 0x0D → (r : Bool) → BifSays (get_or v 1 0) t r → SaysAt unchanged v t r
  keeps_built_in f c r h =
      let e = (built_in v A.value A.read_v_lem c).0 in
      let n : value_conforms_to (v_built_in (get_or v 1 0)) A.type ≡ false = ap (λ x. value_conforms_to x A.type) (sym e) ∙ not_held t v A f in
      let q = conforms_to (bif_type (get_or v 1 0)) A.type in
      says unchanged r
      (said conforms_to (some (bif_type (get_or v 1 0))) (type_at type_levels t) (bif_type (get_or v 1 0)) A.type r refl type_there h
      ∙ or_false q ∙ ap (cond q true) (sym n) ∙ ap (λ x. unchanged x A.type) (sym e))
    where
      or_false : (q : Bool) → q ≡ cond q true false
      or_false true = refl
      or_false false = refl

  -- ---- lists of one item
  pub record Listed : Type 0 where
    pub vs : Vals
    pub is : A.value ≡ v_list vs
    pub three : 3 ≤ length v
    pub read : items_at (value_levels - 1) (num_at 2 1 v) (drop 3 v) ≡ some vs

  pub listed : get_or v 0 0 ≡ 0x0A → Listed
  listed c = go refl (as_list value_levels v A.value value_there c)
    where
      go : {x : Val} → A.value ≡ x → IsVal value_levels v k_list x → Listed
      go z (is_list_lem vs e k p) = record { vs = vs; is = z; three = k; read = p }

  item_count : (l n : ℕ) (s : List ℕ) (vs : Vals) → items_at l n s ≡ some vs → count_vals vs ≡ n
  unfolding count_vals
  item_count l zero s vs e = ap count_vals (no_item l s vs e)
  item_count l (suc n) s vs e = let I = first_item_lem l n 0 s vs (omega arith) e in ap count_vals I.is ∙ ap suc (item_count l n (drop (0 + size_val I.x) s) I.more I.second)

  not_one : (vs : Vals) (u : Ty) → (count_vals vs ≡ 1 → ⊥) → sole_item_conforms vs u ≡ false
  unfolding count_vals
  not_one no_items u h = refl
  not_one (item x no_items) u h = absurd (h refl)
  not_one (item x (item y vs)) u h = refl

  pub item_no : get_or v 0 0 ≡ 0x0A → (n : ℕ) → n ≡ num_at 2 1 v → (n ≡ 1 → ⊥) → SaysAt item_conforms v t false
  item_no c n e h =
      let L = listed c in
      says item_conforms false (sym (ap (λ x. item_conforms x A.type) L.is ∙ not_one L.vs A.type
      (λ z. h (e ∙ sym (item_count (value_levels - 1) (num_at 2 1 v) (drop 3 v) L.vs L.read) ∙ z))))

  is_one : (vs : Vals) (u : Ty) → sole_item_conforms vs u ≡ true → count_vals vs ≡ 1
  unfolding count_vals
  is_one no_items u h = absurd (false≢true h)
  is_one (item x no_items) u h = refl
  is_one (item x (item y vs)) u h = absurd (false≢true h)

  count_one : get_or v 0 0 ≡ 0x0A → item_conforms A.value A.type ≡ true → num_at 2 1 v ≡ 1
  count_one c y =
      let L = listed c in
      sym (item_count (value_levels - 1) (num_at 2 1 v) (drop 3 v) L.vs L.read) ∙ is_one L.vs A.type (sym (ap (λ x. item_conforms x A.type) L.is) ∙ y)

  -- the one item
  pub record One : Type 0 where
    pub x : Val
    pub is : A.value ≡ v_list (item x no_items)
    pub there : value_at value_levels (drop 3 v) ≡ some x
    pub bytes : drop 3 v ≡ enc_v x

  front_three : (x : Val) → drop 3 (enc_v (v_list (item x no_items))) ≡ enc_v x
  unfolding enc_v count_vals bytes
  front_three x = append-nil (enc_v x)

  pub one_item : get_or v 0 0 ≡ 0x0A → num_at 2 1 v ≡ 1 → One
  unfolding value_at
  one_item c n =
      let L = listed c in
      let I = nth (value_levels - 1) 0 1 3 v L.vs (omega arith) L.three (ap (λ k. items_at (value_levels - 1) k (drop 3 v)) (sym n) ∙ L.read) in
      let None-more = no_nth (value_levels - 1) 1 1 (3 + size_val I.x) v I.more (omega arith) I.second in
      let is_one : A.value ≡ v_list (item I.x no_items) = L.is ∙ ap v_list (I.is ∙ ap (item I.x) None-more) in
      let C = value_accepted v A.bytes_v A.value A.read_v_lem in
      let whole : v ≡ enc_v (v_list (item I.x no_items)) = C.bytes ∙ ap enc_v is_one in
      record {
        x = I.x;
        is = is_one;
        there =
            seen_got (read_v (value_levels - 1) (drop 3 v)) I.x I.first (λ k r.
            got_seen (read_v value_levels (drop 3 v)) I.x k (read_up_v (value_levels - 1) value_levels (drop 3 v) (bytes_drop 3 v A.bytes_v) I.x k (omega arith) r));
        bytes = ap (drop 3) whole ∙ front_three I.x;
      }

  pub item_says : get_or v 0 0 ≡ 0x0A → (n : ℕ) → n ≡ num_at 2 1 v → n ≡ 1 → (r : Bool) → SaysAt value_conforms_to (take (length v - 3) (drop 3 v)) t r → SaysAt item_conforms v t r
  item_says c n e h r g =
      let I = one_item c (sym e ∙ h) in
      says item_conforms r
      (said value_conforms_to (value_at value_levels (take (length v - 3) (drop 3 v))) (type_at type_levels t) I.x A.type r (ap (value_at value_levels) (rest v 3) ∙ I.there) type_there g
      ∙ sym (ap (λ x. item_conforms x A.type) I.is))

  -- ---- list types
  pub inner_no : (get_or t 0 0 ≡ 0x2A → ⊥) → SaysAt inner_conforms v t false
  inner_no h = says inner_conforms false (go A.type (λ z. h (sym (cmd_is type_levels t A.type type_there) ∙ z)))
    where
      go : (u : Ty) → (cmd u ≡ 0x2A → ⊥) → false ≡ inner_conforms A.value u
      go (leaf s) k = refl
      go (built (list u)) k = absurd (k refl)
      go (built (range u)) k = refl
      go (built (context fs)) k = refl
      go (built (function ps r)) k = refl

  pub inner_says : get_or t 0 0 ≡ 0x2A → (r : Bool) → SaysAt value_conforms_to v (take (length t - 1) (drop 1 t)) r → SaysAt inner_conforms v t r
  inner_says c r g =
      let I = types.is_list_lem type_levels t A.type type_there c in
      let u : type_at type_levels (drop 1 t) ≡ some I.0 = type_up (type_levels - 1) type_levels (drop 1 t) I.0 (omega arith) I.1 in
      says inner_conforms r
      (said value_conforms_to (value_at value_levels v) (type_at type_levels (take (length t - 1) (drop 1 t))) A.value I.0 r value_there (ap (type_at type_levels) (rest t 1) ∙ u) g
      ∙ sym (ap (inner_conforms A.value) I.2))

  -- ---- the results
  accepted_value : (v ≡ enc_v A.value) × (level_v A.value ≤ value_levels) × (length v ≤ most_bytes)
  accepted_value = let C = value_accepted v A.bytes_v A.value A.read_v_lem in (C.bytes, C.low, C.short)

  call_is : (room : ℕ) → coerced_call v t room ≡ checked_result room (coerced A.value A.type)
  unfolding coerced_call ◌>>=◌ ◌>>◌
  call_is room = rw (A.read_v_lem, A.read_t_lem)

  small_result : (room : ℕ) (w : Val) (s : List ℕ) → s ≡ enc_v w → length s ≤ most_bytes → level_v w ≤ value_levels → checked_result room w ≡ fits room s
  unfolding ◌>>◌
  small_result room w s e l h =
      let n : length (enc_v w) ≤ most_bytes = omega (arith, ap length e) in
      ap (λ q. ◌>>◌ (check 17 q) (fits room (enc_v w))) (ap₂ ◌&&◌ (le-leb (length (enc_v w)) most_bytes n) (le-leb (level_v w) value_levels h)) ∙ ap (fits room) (sym e)

  coerced_is : (q : Bool) → unchanged A.value A.type ≡ q → coerced A.value A.type ≡ cond q A.value (converted A.value A.type)
  coerced_is q e = ap (λ b. cond b A.value (converted A.value A.type)) e

  give_unchanged : unchanged A.value A.type ≡ true → (room : ℕ) → fits room v ≡ coerced_call v t room
  give_unchanged e room = sym (call_is room ∙ ap (checked_result room) (coerced_is true e) ∙ small_result room A.value v accepted_value.0 accepted_value.2 accepted_value.1)

  pub give_conformant : value_conforms_to A.value A.type ≡ true → (room : ℕ) → fits room v ≡ coerced_call v t room
  give_conformant h = give_unchanged (same_if A.value A.type h)

  pub give_same : SaysAt unchanged v t true → (room : ℕ) → fits room v ≡ coerced_call v t room
  give_same h = give_unchanged (sym (was unchanged true h))

  failed_is : (room : ℕ) → checked_result room failed ≡ fits room (0 ∷ 1 ∷ [])
  unfolding ◌>>◌ enc_v enc_leaf level_v
  failed_is room = refl

  module _ (h : SaysAt unchanged v t false) where
    changed : coerced A.value A.type ≡ converted A.value A.type
    changed = coerced_is false (sym (was unchanged false h))

    pub give_item : get_or v 0 0 ≡ 0x0A → SaysAt item_conforms v t true → (room : ℕ) → fits room (take (length v - 3) (drop 3 v)) ≡ coerced_call v t room
    unfolding level_v
    give_item c g room =
        let y : item_conforms A.value A.type ≡ true = sym (was item_conforms true g) in
        let n : num_at 2 1 v ≡ 1 = count_one c y in
        let I = one_item c n in
        let z : converted A.value A.type ≡ I.x = ap (λ x. converted x A.type) I.is ∙ ap (λ b. cond b I.x failed) (sym (ap (λ x. item_conforms x A.type) I.is) ∙ y) in
        let low : level_v I.x ≤ value_levels = omega (arith, accepted_value.1, ap level_v I.is) in
        let short : length (drop 3 v) ≤ most_bytes = simp length-drop (omega (arith, accepted_value.2)) in
        ap (fits room) (rest v 3) ∙ sym (call_is room ∙ ap (checked_result room) (changed ∙ z) ∙ small_result room I.x (drop 3 v) I.bytes short low)

    pub give_no_item : get_or v 0 0 ≡ 0x0A → SaysAt item_conforms v t false → (room : ℕ) → fits room (0 ∷ 1 ∷ []) ≡ coerced_call v t room
    give_no_item c g room =
        let L = listed c in
        let y : sole_item_conforms L.vs A.type ≡ false = sym (ap (λ x. item_conforms x A.type) L.is) ∙ sym (was item_conforms false g) in
        let z : converted A.value A.type ≡ failed = ap (λ x. converted x A.type) L.is ∙ ap (λ b. cond b (first_item L.vs) failed) y in
        sym (call_is room ∙ ap (checked_result room) (changed ∙ z) ∙ failed_is room)

    -- no list
    other_is : (get_or v 0 0 ≡ 0x0A → ⊥) → converted A.value A.type ≡ to_single A.value A.type
    other_is c = go (is_val value_levels v A.value value_there).1
      where
        go : {j : ValueKind} {x : Val} → IsVal value_levels v j x → converted x A.type ≡ to_single x A.type
        go (is_null_lem x e) = refl
        go (is_boolean_lem x e) = refl
        go (is_number x e) = refl
        go (is_string_lem x e) = refl
        go (is_temporal_lem x e k) = refl
        go (is_range_lem i j a b e k p) = refl
        go (is_list_lem vs e k p) = absurd (c e)
        go (is_context_lem es e k p) = refl
        go (is_definition_lem r ps b e k p) = refl
        go (is_built_in_lem e k) = refl
        go (is_type_lem u e p) = refl
        go (is_irrelevant_lem e) = refl
        go (is_decimal_lem x p e) = refl

    module _ (c : get_or v 0 0 ≡ 0x0A → ⊥) where
      pub give_failed : SaysAt inner_conforms v t false → (room : ℕ) → fits room (0 ∷ 1 ∷ []) ≡ coerced_call v t room
      give_failed g room =
          let z : to_single A.value A.type ≡ failed = ap (λ b. cond b (single A.value) failed) (sym (was inner_conforms false g)) in
          sym (call_is room ∙ ap (checked_result room) (changed ∙ other_is c ∙ z) ∙ failed_is room)

      pub give_single : SaysAt inner_conforms v t true → (lv : ℕ) → lv ≡ level_v A.value → (room : ℕ) → wrapped v lv room ≡ coerced_call v t room
      give_single g lv l room =
          let z : to_single A.value A.type ≡ single A.value = ap (λ b. cond b (single A.value) failed) (sym (was inner_conforms true g)) in
          sym (call_is room ∙ ap (checked_result room) (changed ∙ other_is c ∙ z) ∙ single_result room A.value v lv accepted_value.0 l)

  pub value_fits : (lv : ℕ) → lv ≡ level_v A.value → (length v ≤ most_bytes) × (lv ≤ value_levels)
  value_fits lv e = (accepted_value.2, omega (arith, accepted_value.1))

pub ruleset keep_rules = (value_byte, bif_byte, type_ok, keeps_definition, keeps_built_in, keeps_other)

pub ruleset item_rules = (list_three, item_no, item_says)

pub ruleset inner_rules = (first_byte, inner_no, inner_says)

-- ---- `wrap`
module _ (v : List ℕ) (lv : ℕ) (old : List ℕ) where
  pub wrap_long : most_bytes < length v + 3 → Built (wrapped v lv (length old)) old old (result_is.Err ResultSize)
  unfolding ◌>>◌
  wrap_long h = built_refused (wrapped v lv (length old)) ResultSize old (rw (lt-leb (length v + 3) most_bytes h))

  pub wrap_deep : length v + 3 ≤ most_bytes → value_levels < lv + 1 → Built (wrapped v lv (length old)) old old (result_is.Err ResultSize)
  unfolding ◌>>◌
  wrap_deep h k = built_refused (wrapped v lv (length old)) ResultSize old (rw (le-leb (length v + 3) most_bytes h, lt-leb (lv + 1) value_levels k))

  module _ (h : length v + 3 ≤ most_bytes) (k : lv + 1 ≤ value_levels) where
    wrap_is : wrapped v lv (length old) ≡ fits (length old) (0x0A ∷ 1 ∷ 0 ∷ v)
    unfolding ◌>>◌
    wrap_is = rw (le-leb (length v + 3) most_bytes h, le-leb (lv + 1) value_levels k)

    pub wrap_short : length old < length v + 3 → Built (wrapped v lv (length old)) old old (result_is.Err Output)
    wrap_short l = built_short (wrapped v lv (length old)) (0x0A ∷ 1 ∷ 0 ∷ v) old wrap_is (omega arith)

    -- the head, then the value over the rest
    pub wrap_done : length v + 3 ≤ length old → (xs ys : List ℕ) → xs ≡ onto (0x0A ∷ 1 ∷ 0 ∷ []) old → ys ≡ onto v (take (length xs - 3) (drop 3 xs))
        → Built (wrapped v lv (length old)) old (put_mid 3 (length xs - 3) xs ys) (result_is.Ok (length v + 3))
    wrap_done l xs ys e q =
        built_wrote (wrapped v lv (length old)) (0x0A ∷ 1 ∷ 0 ∷ v) old (put_mid 3 (length xs - 3) xs ys) (length v + 3) wrap_is (omega arith) (omega arith)
        (back (0x0A ∷ 1 ∷ 0 ∷ []) v old xs ys 3 e refl (omega arith) q)

-- ---- arguments that are refused
module _ (v t : List ℕ) (out : List ℕ) where
  pub first_refused : (e : Refusal) → refused (number_of e) ≡ check_value v → Built (coerced_call v t (length out)) out out (result_is.Err e)
  unfolding coerced_call ◌>>=◌
  first_refused e h = built_refused (coerced_call v t (length out)) e out (rw (value_refused v (number_of e) h))

  pub second_refused : (n : ℕ) (e : Refusal) → Bytes v → done n ≡ check_value v → refused (number_of e) ≡ check_type t → Built (coerced_call v t (length out)) out out (result_is.Err e)
  unfolding coerced_call ◌>>=◌
  second_refused n e b h k = built_refused (coerced_call v t (length out)) e out (rw ((value_held v b n h).whole, was_refused t (number_of e) k))

pub ready : (v t : List ℕ) (n m : ℕ) → Bytes v → Bytes t → done n ≡ check_value v → done m ≡ check_type t → Ready v t n
ready v t n m bv bt e f =
    let W = value_told v bv n (sym e) in
    let T = type_told t bt m (sym f) in
    record { both = record { bytes_t = bt; bytes_v = bv; type = T.tree; value = W.tree; read_t_lem = T.reads; read_v_lem = W.reads }; level = sym W.deep }
