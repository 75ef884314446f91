-- `instance_of`: types that are equal have equal bytes, and contexts are held against each other name by name.
-- Index: `front_bytes`, `same_type`, `other_type` (equal types and equal bytes); `unread`, `passes_test`, `same_or_null`, `neither_same`, `null_first` (`null_or_same`); `list_any`, `list_same`,
-- `list_differ`, `list_short`, `list_apart`, `list_over` (`instance_list`); `instance_contexts`, `context_cut`, `context_short`, `context_apart`, `other_kinds`, `nothing_first`.
-- Assumes nothing.
use Prim.Native.Nat.{ℕ, suc, ◌-◌, ◌<◌, ◌≤◌}
use mathlib.Core.Path.{◌≡◌, refl, sym, ap, ap₂, ◌∙◌}
use mathlib.Core.Bool.{Bool, true, false, ◌||◌, true≢false}
use mathlib.Core.Option.{some}
use mathlib.Core.List.{List}
use native.Mathlib.Omega.{arith}
use lib.ListN.{length, get_or, take, drop, length-drop}
use lib.Seq.{get_or-drop}
use lib.Dec.{eqb}
use borrow.Author.Tests.{eq-eqb, ne_eqb, eqb-true, eqb-false}
use Rattle.form.specs.Trees.{any, null, code, Ty, leaf, built, list, range, context, function, Fields, no_fields, field, decode}
use Rattle.form.specs.Form.{Bytes, num_at, enc, Wf}
use Rattle.form.specs.Limits.{most_bytes, type_levels}
use Rattle.form.specs.Outcome.{done}
use Rattle.form.specs.Read.{read_t, read_type}
use Rattle.form.proofs.ExactTypes.{enc_read}
use Rattle.form.proofs.Types.{took_enc, enc_same, type_accepted}
use Rattle.order.specs.Types.{all_fields}
use Rattle.order.specs.Ascending.{Asc, AscFields}
use Rattle.order.specs.Size.{size, size_fields}
use Rattle.order.specs.Document.{eq_ty, eq_fields, null_or_same, instance_built, is_instance_of}
use Rattle.order.proofs.Simple.{and_both}
use Rattle.order.proofs.Ends.{reading_ends}
use Rattle.order.proofs.Size.{size_positive}
use Rattle.order.proofs.Equal.{eq_ty_self, eq_fields_same}
use Rattle.types.specs.At.{type_at, fields_at, size_at}
use Rattle.types.specs.Conform.{conform_by, types_by, entries, any_two, add_sizes, Met}
use Rattle.types.specs.Calls.{is_yes}
use Rattle.types.proofs.Reading.{seen_got, type_told, cmd, cmd_is, some_byte, t_good, is_list_lem, is_ctx}
use Rattle.types.proofs.Pairs.{map_o, Both, taken, same_test, met_as, yes_of, told_no, told_yes}
use Rattle.types.proofs.ByCommand.{eq_false, le_any}
use Rattle.types.proofs.EntryTests.{common}
use Rattle.types.proofs.Entries.{size_got}
use Rattle.types.proofs.Forward.{read_simple, node_list}
use Rattle.types.proofs.TypeConformance.{sized, fails, met_contexts}
use Rattle.types.proofs.TwoArguments.{asked, both_read, answers_no}
use Rattle.types.proofs.CallContracts.{whole_type}

-- ---- the bytes of a type at the front
pub front_bytes : (l : ℕ) (s : List ℕ) (t : Ty) → Bytes s → type_at l s ≡ some t → Wf t × (take (size t) s ≡ enc t)
unfolding type_at
front_bytes l s t bs e =
    seen_got (read_t l s) t e (λ n r.
    let F = enc_read l s bs t n r in
    let z = (type_told l s t n r).sized in
    (F.well, ap (λ (k : ℕ). take k s) (sym z) ∙ took_enc l s bs t n r))

null_eq : (t : Ty) → (cmd t ≡ 0x29 → eq_ty t (leaf null) ≡ true) × ((cmd t ≡ 0x29 → ⊥) → eq_ty t (leaf null) ≡ false)
unfolding eq_ty
null_eq (leaf s) = (λ p. eq-eqb (code s) 9 (omega arith), λ p. ne_eqb (code s) 9 (λ q. p (omega arith)))
null_eq (built (list t)) = (λ p. absurd (omega arith), λ p. refl)
null_eq (built (range t)) = (λ p. absurd (omega arith), λ p. refl)
null_eq (built (context fs)) = (λ p. absurd (omega arith), λ p. refl)
null_eq (built (function ps r)) = (λ p. absurd (omega arith), λ p. refl)

any_eq : (t : Ty) → (cmd t ≡ 0x20 → eq_ty t (leaf any) ≡ true) × ((cmd t ≡ 0x20 → ⊥) → eq_ty t (leaf any) ≡ false)
unfolding eq_ty
any_eq (leaf s) = (λ p. eq-eqb (code s) 0 (omega arith), λ p. ne_eqb (code s) 0 (λ q. p (omega arith)))
any_eq (built (list t)) = (λ p. absurd (omega arith), λ p. refl)
any_eq (built (range t)) = (λ p. absurd (omega arith), λ p. refl)
any_eq (built (context fs)) = (λ p. absurd (omega arith), λ p. refl)
any_eq (built (function ps r)) = (λ p. absurd (omega arith), λ p. refl)

or_true : (v : Bool) → v || true ≡ true
or_true true = refl
or_true false = refl

-- ---- two types passed over, one of which is none: no test is met
pub unread : (l : ℕ) (a b : List ℕ) (x y : ℕ) → Met (types_by any_two (type_at l a) (type_at l b)) x y → x ≡ 0 → (test : Ty → Ty → Bool) (t : ℕ) → Met (types_by test (type_at l a) (type_at l b)) 0 t
unread l a b x y m z test t = fails test l a b t (λ u w e f. absurd (true≢false (told_no size size any_two size_positive x y m u w e f z)))

-- ---- two types that were passed over, x and y their sizes: what a test of them gives
module _ (l : ℕ) (a b : List ℕ) (x y : ℕ) (m : Met (types_by any_two (type_at l a) (type_at l b)) x y) (z : x ≡ 0 → ⊥) where
  B : Both size size any_two (type_at l a) (type_at l b) x y
  B = taken size size any_two (type_at l a) (type_at l b) x y (yes_of (types_by any_two (type_at l a) (type_at l b)) x y m z)

  pub within : (x ≤ length a) × (y ≤ length b)
  within = (omega (arith, B.size_a, (t_good l a B.x B.read_a).1), omega (arith, B.size_b, (t_good l b B.y B.read_b).1))

  pub byte_first : 0 < length a
  byte_first = some_byte l a B.x B.read_a

  sizes : (t u : Ty) → type_at l a ≡ some t → type_at l b ≡ some u → (x ≡ size t) × (y ≡ size u)
  sizes t u e f = let d = told_yes size size any_two size_positive x y m t u e f z in (d.1, d.2)

  pub passes_test : (test : Ty → Ty → Bool) → ((t u : Ty) → type_at l a ≡ some t → type_at l b ≡ some u → test t u ≡ true) → Met (types_by test (type_at l a) (type_at l b)) x y
  passes_test test f = met_as (types_by any_two (type_at l a) (type_at l b)) x y (same_test size size test any_two (type_at l a) (type_at l b) f) m

  module _ (ba : Bytes a) (bb : Bytes b) where
    pub same_type : take x a ≡ take y b → (t u : Ty) → type_at l a ≡ some t → type_at l b ≡ some u → t ≡ u
    same_type h t u e f =
        let A = front_bytes l a t ba e in
        let B = front_bytes l b u bb f in
        let n = sizes t u e f in
        enc_same t u A.0 B.0 (sym A.1 ∙ ap (λ (k : ℕ). take k a) (sym n.0) ∙ h ∙ ap (λ (k : ℕ). take k b) n.1 ∙ B.1)

    pub other_type : (take x a ≡ take y b → ⊥) → (t u : Ty) → type_at l a ≡ some t → type_at l b ≡ some u → eq_ty t u ≡ false
    other_type h t u e f =
        let A = front_bytes l a t ba e in
        let B = front_bytes l b u bb f in
        let n = sizes t u e f in
        eq_false t u (λ s. h (ap (λ (k : ℕ). take k a) n.0 ∙ A.1 ∙ ap enc s ∙ sym B.1 ∙ ap (λ (k : ℕ). take k b) (sym n.1)))

    -- ---- `null_or_same`
    pub same_or_null : take x a ≡ take y b → Met (types_by null_or_same (type_at l a) (type_at l b)) x y
    same_or_null h = passes_test null_or_same (λ t u e f. ap (λ (q : Bool). eq_ty t (leaf null) || q) (ap (eq_ty t) (sym (same_type h t u e f)) ∙ eq_ty_self t) ∙ or_true (eq_ty t (leaf null)))

    pub neither_same : (get_or a 0 0 ≡ 0x29 → ⊥) → (take x a ≡ take y b → ⊥) → (t : ℕ) → Met (types_by null_or_same (type_at l a) (type_at l b)) 0 t
    neither_same n d t = fails null_or_same l a b t (λ t u e f. ap₂ ◌||◌ ((null_eq t).1 (λ q. n (sym (cmd_is l a t e) ∙ q))) (other_type d t u e f))

  pub null_first : get_or a 0 0 ≡ 0x29 → Met (types_by null_or_same (type_at l a) (type_at l b)) x y
  null_first c = passes_test null_or_same (λ t u e f. ap (λ (q : Bool). q || eq_ty t u) ((null_eq t).0 (cmd_is l a t e ∙ c)))

-- ---- equal contexts pass the test name by name
self_entries : (fs : Fields) (k : ℕ) → AscFields fs k → entries null_or_same fs fs ≡ true
unfolding Asc all_fields
self_entries no_fields k w = refl
self_entries (field n a fs) k w =
    common null_or_same n a a fs fs w.2
    ∙ and_both (null_or_same a a) (entries null_or_same fs fs) (ap (λ (z : Bool). eq_ty a (leaf null) || z) (eq_ty_self a) ∙ or_true (eq_ty a (leaf null))) (self_entries fs (suc n) w.2)

context_entries : (fs gs : Fields) → AscFields fs 0 → eq_fields fs gs || entries null_or_same fs gs ≡ entries null_or_same fs gs
context_entries fs gs w = go (eq_fields fs gs) refl
  where
    go : (q : Bool) → eq_fields fs gs ≡ q → q || entries null_or_same fs gs ≡ entries null_or_same fs gs
    go true e = sym (ap (entries null_or_same fs) (sym (eq_fields_same fs gs e)) ∙ self_entries fs 0 w)
    go false e = refl

-- ---- `is_instance`
differ : (t u : Ty) → (cmd t ≡ cmd u → ⊥) → is_instance_of t u ≡ false
unfolding is_instance_of instance_built
differ (leaf s) u h = refl
differ (built x) (leaf t) h = refl
differ (built (list x)) (built (list y)) h = absurd (h refl)
differ (built (list x)) (built (range y)) h = refl
differ (built (list x)) (built (context y)) h = refl
differ (built (list x)) (built (function ps y)) h = refl
differ (built (range x)) (built y) h = refl
differ (built (context x)) (built (list y)) h = refl
differ (built (context x)) (built (range y)) h = refl
differ (built (context x)) (built (context y)) h = absurd (h refl)
differ (built (context x)) (built (function ps y)) h = refl
differ (built (function ps x)) (built y) h = refl

other : (t u : Ty) → (cmd t ≡ 0x2A → ⊥) → (cmd t ≡ 0x2C → ⊥) → is_instance_of t u ≡ false
unfolding is_instance_of instance_built
other (leaf s) u h k = refl
other (built x) (leaf t) h k = refl
other (built (list x)) (built y) h k = absurd (h refl)
other (built (range x)) (built y) h k = refl
other (built (context x)) (built y) h k = absurd (k refl)
other (built (function ps x)) (built y) h k = refl

-- two lists
record Lists (b : List ℕ) (t u : Ty) : Type 0 where
  pub x : Ty
  pub y : Ty
  pub is_a : t ≡ built (list x)
  pub is_b : u ≡ built (list y)
  pub inner : cmd y ≡ get_or b 1 0
  pub two : 2 ≤ length b

lists : (l : ℕ) (a b : List ℕ) → get_or a 0 0 ≡ 0x2A → get_or b 0 0 ≡ 0x2A → (t u : Ty) → type_at l a ≡ some t → type_at l b ≡ some u → Lists b t u
lists l a b c d t u e f =
    let X = is_list_lem l a t e c in
    let Y = is_list_lem l b u f d in
    let h = some_byte (l - 1) (drop 1 b) Y.0 Y.1 in
    record { x = X.0; y = Y.0; is_a = X.2; is_b = Y.2; inner = cmd_is (l - 1) (drop 1 b) Y.0 Y.1 ∙ get_or-drop 1 b 0 0; two = omega (arith, length-drop 1 b) }

module _ (b : List ℕ) (t u : Ty) (L : Lists b t u) where
  list_test : is_instance_of t u ≡ eq_ty L.x L.y || eq_ty L.y (leaf any)
  unfolding is_instance_of instance_built
  list_test = ap₂ is_instance_of L.is_a L.is_b

  list_of_any : get_or b 1 0 ≡ 0x20 → is_instance_of t u ≡ true
  list_of_any h = list_test ∙ ap (λ (q : Bool). eq_ty L.x L.y || q) ((any_eq L.y).0 (L.inner ∙ h)) ∙ or_true (eq_ty L.x L.y)

  same_lists : t ≡ u → is_instance_of t u ≡ true
  unfolding eq_ty
  same_lists e = list_test ∙ ap (λ (q : Bool). q || eq_ty L.y (leaf any)) (sym (ap₂ eq_ty L.is_a L.is_b) ∙ ap (eq_ty t) (sym e) ∙ eq_ty_self t)

  other_lists : (get_or b 1 0 ≡ 0x20 → ⊥) → (t ≡ u → ⊥) → is_instance_of t u ≡ false
  other_lists n d = list_test ∙ ap₂ ◌||◌ (eq_false L.x L.y (λ z. d (L.is_a ∙ ap (λ w. built (list w)) z ∙ sym L.is_b))) ((any_eq L.y).1 (λ q. n (sym L.inner ∙ q)))

-- ---- the returns of `instance_list`, over whole arguments
abbrev Answer : List ℕ → List ℕ → Bool
Answer a b = is_yes (asked is_instance_of (read_type a) (read_type b))

module _ (a b : List ℕ) (c : get_or a 0 0 ≡ 0x2A) where
  no_answer : ((t u : Ty) → read_type a ≡ done t → read_type b ≡ done u → is_instance_of t u ≡ false) → false ≡ Answer a b
  no_answer f = answers_no whole_type whole_type is_instance_of a b f

  there_a : (t : Ty) → read_type a ≡ done t → type_at type_levels a ≡ some t
  there_a t e = whole_type.stands a t e

  there_b : (u : Ty) → read_type b ≡ done u → type_at type_levels b ≡ some u
  there_b u e = whole_type.stands b u e

  pub list_short : length b < 2 → false ≡ Answer a b
  list_short h = no_answer (λ t u e f. differ t u (λ q. let d = sym (cmd_is type_levels b u (there_b u f)) ∙ sym q ∙ cmd_is type_levels a t (there_a t e)
      ∙ c in omega (arith, (lists type_levels a b c d t u (there_a t e) (there_b u f)).two)))

  pub list_apart : (get_or b 0 0 ≡ 0x2A → ⊥) → false ≡ Answer a b
  list_apart h = no_answer (λ t u e f. differ t u (λ q. h (sym (cmd_is type_levels b u (there_b u f)) ∙ sym q ∙ cmd_is type_levels a t (there_a t e) ∙ c)))

  module _ (d : get_or b 0 0 ≡ 0x2A) where
    both_lists : (t u : Ty) → read_type a ≡ done t → read_type b ≡ done u → Lists b t u
    both_lists t u e f = lists type_levels a b c d t u (there_a t e) (there_b u f)

    -- a list of Any has two bytes
    pub list_over : get_or b 1 0 ≡ 0x20 → (length b ≡ 2 → ⊥) → false ≡ Answer a b
    unfolding size
    list_over h n = no_answer (λ t u e f.
        let L = both_lists t u e f in
        let z = (le_any (reading_ends 0) L.y L.y (L.inner ∙ h)).0 in
        let g = whole_type.fills b u f in
        absurd (n (omega (arith, g.0, ap size L.is_b))))

    module _ (n : ℕ) (ne : n ≡ size_at (type_at type_levels a)) (short : length a ≤ most_bytes) (some-a : 0 < length a) where
      -- the first is no whole type
      not_whole : eqb n (length a) ≡ false → false ≡ Answer a b
      not_whole q = no_answer (λ t u e f. absurd (eqb-false n (length a) q (ne ∙ size_got (type_at type_levels a) t (there_a t e) ∙ (whole_type.fills a t e).0)))

      first_read : eqb n (length a) ≡ true → (t : Ty) × (read_type a ≡ done t)
      first_read q =
          let k = eqb-true n (length a) q in
          let S = sized type_levels a n ne (λ z. omega arith) in
          (S.x, whole_type.accepts a S.x S.read (sym S.is ∙ k) short)

      by_first : ((t : Ty) → read_type a ≡ done t → true ≡ Answer a b) → eqb n (length a) ≡ Answer a b
      by_first f = go (eqb n (length a)) refl
        where
          go : (q : Bool) → eqb n (length a) ≡ q → eqb n (length a) ≡ Answer a b
          go true q = q ∙ (let g = first_read q in f g.0 g.1)
          go false q = q ∙ not_whole q

      pub list_any : get_or b 1 0 ≡ 0x20 → length b ≡ 2 → eqb n (length a) ≡ Answer a b
      unfolding size map_o
      list_any h k = by_first (λ t e.
          let some-b : 0 < length b = omega arith in
          let z = decode (get_or (drop 1 b) 0 0 - 32) in
          let i = get_or-drop 1 b 0 0 in
          let r : type_at type_levels b ≡ some (built (list (leaf z))) = node_list type_levels b (omega arith) some-b d
          ∙ ap (map_o (λ w. built (list w))) (read_simple (type_levels - 1) (drop 1 b) (omega arith) (simp length-drop (omega arith)) (omega arith) (omega arith)) in
          let f = whole_type.accepts b (built (list (leaf z))) r (sym k) (omega arith) in
          sym (ap is_yes (both_read is_instance_of (read_type b) e f) ∙ list_of_any b t (built (list (leaf z))) (both_lists t (built (list (leaf z))) e f) h))

      pub list_same : a ≡ b → eqb n (length a) ≡ Answer a b
      list_same s = by_first (λ t e.
          let f = ap read_type (sym s) ∙ e in
          sym (ap is_yes (both_read is_instance_of (read_type b) e f) ∙ same_lists b t t (both_lists t t e f) refl))

    pub list_differ : Bytes a → Bytes b → (get_or b 1 0 ≡ 0x20 → ⊥) → (a ≡ b → ⊥) → false ≡ Answer a b
    list_differ ba bb n s = no_answer (λ t u e f. other_lists b t u (both_lists t u e f) n (λ q. s ((type_accepted a ba t e).bytes ∙ ap enc q ∙ sym (type_accepted b bb u f).bytes)))

-- ---- the returns of `instance_context` and `is_instance`
pub other_kinds : (a b : List ℕ) → (get_or a 0 0 ≡ 0x2A → ⊥) → (get_or a 0 0 ≡ 0x2C → ⊥) → false ≡ Answer a b
other_kinds a b h k = answers_no whole_type whole_type is_instance_of a b (λ t u e f. let g = cmd_is type_levels a t (whole_type.stands a t e) in other t u (λ q. h (sym g ∙ q)) (λ q. k (sym g ∙ q)))

pub nothing_first : (a b : List ℕ) → length a ≡ 0 → false ≡ Answer a b
nothing_first a b z = answers_no whole_type whole_type is_instance_of a b (λ t u e f. absurd (omega (arith, some_byte type_levels a t (whole_type.stands a t e))))

module _ (a b : List ℕ) (c : get_or a 0 0 ≡ 0x2C) where
  pub context_cut : (3 ≤ length a → ⊥) → false ≡ Answer a b
  context_cut h = answers_no whole_type whole_type is_instance_of a b (λ t u e f. absurd (h (is_ctx type_levels a t (whole_type.stands a t e) c).three))

  -- the other is a context, or of another kind
  beside : ((u : Ty) → read_type b ≡ done u → get_or b 0 0 ≡ 0x2C → ⊥) → false ≡ Answer a b
  beside h = answers_no whole_type whole_type is_instance_of a b (λ t u e f. differ t u (λ q. h u f
      (sym (cmd_is type_levels b u (whole_type.stands b u f)) ∙ sym q ∙ cmd_is type_levels a t (whole_type.stands a t e) ∙ c)))

  pub context_short : (3 ≤ length b → ⊥) → false ≡ Answer a b
  context_short h = beside (λ u f d. h (is_ctx type_levels b u (whole_type.stands b u f) d).three)

  pub context_apart : (get_or b 0 0 ≡ 0x2C → ⊥) → false ≡ Answer a b
  context_apart h = beside (λ u f d. h d)

-- two contexts
pub instance_contexts : (l : ℕ) (a b : List ℕ) → 0 < l → 0 < length a → 0 < length b → (r t n k : ℕ) → n ≡ num_at 2 1 a → k ≡ num_at 2 1 b → get_or a 0 0 ≡ 44 → get_or b 0 0 ≡ 44
    → 3 ≤ length a → 3 ≤ length b
    → Met (add_sizes 3 3 (conform_by size_fields size_fields (entries null_or_same) (fields_at (l - 1) n 0 (take (length a - 3) (drop 3 a))) (fields_at (l - 1) k 0 (take (length b - 3)
    (drop 3 b))))) r t
    → Met (types_by is_instance_of (type_at l a) (type_at l b)) r t
unfolding is_instance_of instance_built
instance_contexts l a b p ha hb r t n k ne ke c d i j m = met_contexts l a b p ha hb r t is_instance_of null_or_same (λ fs gs w. context_entries fs gs w) n k ne ke c d i j m
