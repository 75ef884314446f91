-- Two types read and compared at once: what each return of the walks owes. What is left of both decides, whether it is read or not.
-- Index: `sized`, `unsized`, `two_read` (`skip_both`); `simple_none`, `simple_both`, `simple_apart`, `simple_pair` (`same_simple`); `never`, `fails`, `no_level`, `no_a`, `no_b`, `no_command_lem`
-- (no, by any test); `met_simple`, `met_null`, `met_any`, `met_list`, `met_range`, `met_context`, `met_function`, `met_table`, `no_other`, `no_counts` (`conforms`);
-- `behind_yes`, `behind_no` (`conform_inner`); `SigGo`, `sig_start`, `sig_turn`, `sig_apart`, `sig_done`, `compared_strict`, `compared_some`, `passed_over` (`conform_sig`).
-- Assumes nothing.
use Prim.Native.Nat.{ℕ, ◌+◌, ◌-◌, ◌<◌, ◌≤◌}
use mathlib.Core.Path.{◌≡◌, refl, sym, ap, ap₂, ◌∙◌}
use mathlib.Core.Bool.{Bool, true, false, not, ◌&&◌, ◌||◌}
use mathlib.Core.Logic.{◌⊎◌, ⊎_elim}
use mathlib.Core.Option.{Option, none, some}
use mathlib.Core.List.{List}
use native.Mathlib.Omega.{arith}
use lib.ListN.{length, get_or, take, drop, length-drop}
use lib.Dec.{eqb}
use borrow.Author.Tests.{eq-eqb, ne_eqb}
use Rattle.form.specs.Trees.{Ty, leaf, built, list, range, context, function, Fields, no_params, decode, simple}
use Rattle.form.specs.Form.{num_at}
use Rattle.form.specs.Read.{read_t}
use Rattle.std.specs.declared.option.Option.TheVariants.{None, Some}
use Rattle.form.specs.Walks.{Short}
use Rattle.form.proofs.Runs.{rest, first_at}
use Rattle.form.proofs.ExactTypes.{code_small}
use Rattle.order.specs.Order.{Order, order_of, related}
use Rattle.order.specs.Types.{le, cmp}
use Rattle.order.specs.Ascending.{AscFields}
use Rattle.order.specs.Size.{size, size_fields}
use Rattle.order.specs.Document.{eq_ty}
use Rattle.order.proofs.Sentences.{le_contexts}
use Rattle.order.proofs.Simple.{and_left, and_right}
use Rattle.order.proofs.Bools.{and_false}
use Rattle.order.proofs.Equal.{eq_ty_same, eq_ty_self}
use Rattle.order.proofs.Size.{size_positive}
use Rattle.order.proofs.Ends.{Ends}
use Rattle.tables.proofs.Related.{related_inner}
use Rattle.types.specs.At.{type_at, fields_at, sig, cons, fun_of, size_sig, sig_at, size_at}
use Rattle.types.specs.Conform.{Conform, judge, conform_by, types_by, conform_of, entries, ignores_at, le_sig, any_two, same_simple, add_sizes, Met, No}
use Rattle.types.proofs.Reading.{type_told, cmd, cmd_is, some_byte, some_level, is_ctx, is_fun, fields_good, size_cons, size_fun}
use Rattle.types.proofs.Entries.{size_got}
use Rattle.types.proofs.ByCommand.{same_simple_lem, simple_leaf, simple_small, eq_false, le_null, le_any, le_leaves, le_other, sig_count, le_funs, le_counts, le_cons}
use Rattle.types.proofs.Signatures.{param_at}
use Rattle.types.proofs.Pairs.{map_o, both, taken, yes_of, no_when, mapped, same_test, grown_on, grown_none, met_yes, met_no, met_as, Sized, Pair, MetAt, met_here, pair_yes, pair_none, pair_no}
use Rattle.types.proofs.Pairs.{pair_in}
use Rattle.types.proofs.Forward.{read_simple, node_list, node_range, node_context, node_function, param_on, result_read}
use Rattle.types.proofs.SortedNames.{readable_type}
use Rattle.types.proofs.Short.{Passed, passed, not_passed}

-- ---- a type at a place, from its size
sized_at : (r : Option Ty) (n : ℕ) → n ≡ size_at r → (n ≡ 0 → ⊥) → (t : Ty) × (r ≡ some t) × (n ≡ size t)
unfolding size_at
sized_at (some t) n e z = (t, refl, e)
sized_at none n e z = absurd (z e)

pub sized : (l : ℕ) (s : List ℕ) (n : ℕ) → n ≡ size_at (type_at l s) → (n ≡ 0 → ⊥) → Sized size (type_at l) s n
sized l s n e z = let g = sized_at (type_at l s) n e z in record { x = g.0; read = g.1; is = g.2 }

-- of a part that was passed over
pub sized_part : (l : ℕ) (s : List ℕ) (k n : ℕ) → n ≡ size_at (type_at l (take (length s - k) (drop k s))) → (n ≡ 0 → ⊥) → Sized size (type_at l) (drop k s) n
sized_part l s k n e z = sized l (drop k s) n (e ∙ ap (λ r. size_at (type_at l r)) (rest s k)) z

-- none
pub unsized : (l : ℕ) (s : List ℕ) (n : ℕ) → n ≡ size_at (type_at l s) → n ≡ 0 → (t : Ty) → type_at l s ≡ some t → ⊥
unsized l s n e z t r = omega (arith, size_got (type_at l s) t r, e, size_positive t)

pub unsized_part : (l : ℕ) (s : List ℕ) (k n : ℕ) → n ≡ size_at (type_at l (take (length s - k) (drop k s))) → n ≡ 0 → (t : Ty) → type_at l (drop k s) ≡ some t → ⊥
unsized_part l s k n e z t r = unsized l (drop k s) n (e ∙ ap (λ x. size_at (type_at l x)) (rest s k)) z t r

-- ---- the returns of `skip_both`
pub two_read : (l : ℕ) (a b : List ℕ) (x y : ℕ) → Sized size (type_at l) a x → Sized size (type_at l) b y → Met (types_by any_two (type_at l a) (type_at l b)) x y
two_read l a b x y A B = met_yes (both size size any_two (type_at l a) (type_at l b) A.x B.x A.read B.read) A.is B.is

-- ---- no, whatever the test is
pub cmd_in : (t : Ty) → (32 ≤ cmd t) × (cmd t ≤ 45)
cmd_in (leaf s) = let h = code_small s in (omega arith, omega arith)
cmd_in (built (list t)) = (omega arith, omega arith)
cmd_in (built (range t)) = (omega arith, omega arith)
cmd_in (built (context t)) = (omega arith, omega arith)
cmd_in (built (function ts t)) = (omega arith, omega arith)

pub beyond : (c : ℕ) → 42 ≤ c → (c ≡ 42 → ⊥) → (c ≡ 43 → ⊥) → (c ≡ 44 → ⊥) → (c ≡ 45 → ⊥) → 45 < c
beyond c h p q r s = omega arith

module _ (test : Ty → Ty → Bool) (l : ℕ) (a b : List ℕ) (t : ℕ) where
  pub never : ((x y : Ty) → type_at l a ≡ some x → type_at l b ≡ some y → ⊥) → Met (types_by test (type_at l a) (type_at l b)) 0 t
  never f = met_no 0 t (no_when size size test (type_at l a) (type_at l b) (λ x y e g. absurd (f x y e g))) refl

  pub fails : ((x y : Ty) → type_at l a ≡ some x → type_at l b ≡ some y → test x y ≡ false) → Met (types_by test (type_at l a) (type_at l b)) 0 t
  fails f = met_no 0 t (no_when size size test (type_at l a) (type_at l b) f) refl

  pub no_level : l ≡ 0 → Met (types_by test (type_at l a) (type_at l b)) 0 t
  no_level z = never (λ x y e f. omega (arith, some_level l a x e))

  pub no_a : length a ≡ 0 → Met (types_by test (type_at l a) (type_at l b)) 0 t
  no_a z = never (λ x y e f. omega (arith, some_byte l a x e))

  pub no_b : length b ≡ 0 → Met (types_by test (type_at l a) (type_at l b)) 0 t
  no_b z = never (λ x y e f. omega (arith, some_byte l b y f))

  pub no_command_lem : get_or a 0 0 < 32 ⊎ 45 < get_or a 0 0 → Met (types_by test (type_at l a) (type_at l b)) 0 t
  no_command_lem o = never (λ x y e f. let g = cmd_in x in let c = cmd_is l a x e in ⊎_elim (λ w. omega (arith, c, g.0)) (λ w. omega (arith, c, g.1)) o)

  pub no_context : get_or a 0 0 ≡ 44 → get_or b 0 0 ≡ 44 → (3 ≤ length a → 3 ≤ length b → ⊥) → Met (types_by test (type_at l a) (type_at l b)) 0 t
  no_context c d h = never (λ x y e f. h (is_ctx l a x e c).three (is_ctx l b y f d).three)

  pub no_function : get_or a 0 0 ≡ 45 → get_or b 0 0 ≡ 45 → (2 ≤ length a → 2 ≤ length b → ⊥) → Met (types_by test (type_at l a) (type_at l b)) 0 t
  no_function c d h = never (λ x y e f. h (is_fun l a x e c).two (is_fun l b y f d).two)

-- ---- the returns of `same_simple`
module _ (l : ℕ) (a : List ℕ) (at : ℕ) (b : List ℕ) (bt room : ℕ) where
  no_simple : Short simple (read_t l (drop at a)) None room → (x : Ty) → type_at l (drop at a) ≡ some x → simple x ≡ false
  unfolding type_at
  no_simple h x e = not_passed size simple (read_t l (drop at a)) (λ y m r. (type_told l (drop at a) y m r).sized) room h x e

  a_simple : (n : ℕ) → Short simple (read_t l (drop at a)) (Some n) room → Passed size simple (type_at l (drop at a)) n
  unfolding type_at
  a_simple n h = passed size simple (read_t l (drop at a)) (λ y m r. (type_told l (drop at a) y m r).sized) room n h

  no_pair : ((x y : Ty) → type_at l (drop at a) ≡ some x → type_at l (drop bt b) ≡ some y → same_simple x y ≡ false) → types_by same_simple (type_at l (drop at a)) (type_at l (drop bt b)) ≡ No
  no_pair f = no_when size size same_simple (type_at l (drop at a)) (type_at l (drop bt b)) f

  pub simple_none : Short simple (read_t l (drop at a)) None room → types_by same_simple (type_at l (drop at a)) (type_at l (drop bt b)) ≡ No
  simple_none h = no_pair (λ x y e f. ap (λ q. q && eq_ty x y) (no_simple h x e))

  pub simple_end : length b ≡ bt → types_by same_simple (type_at l (drop at a)) (type_at l (drop bt b)) ≡ No
  simple_end e = no_pair (λ x y p f. absurd (omega (arith, some_byte l (drop bt b) y f, length-drop bt b)))

  cmd_a : (x : Ty) → type_at l (drop at a) ≡ some x → cmd x ≡ get_or a at 0
  cmd_a x e = cmd_is l (drop at a) x e ∙ first_at a at

  cmd_b : (y : Ty) → type_at l (drop bt b) ≡ some y → cmd y ≡ get_or b bt 0
  cmd_b y e = cmd_is l (drop bt b) y e ∙ first_at b bt

  pub simple_apart : (get_or a at 0 ≡ get_or b bt 0 → ⊥) → types_by same_simple (type_at l (drop at a)) (type_at l (drop bt b)) ≡ No
  simple_apart d = no_pair (λ x y e f. ap (λ q. simple x && q) (eq_false x y (λ z. d (sym (cmd_a x e) ∙ ap cmd z ∙ cmd_b y f))) ∙ and_false (simple x))

  pub simple_both : (n : ℕ) → Short simple (read_t l (drop at a)) (Some n) room → bt < length b → get_or a at 0 ≡ get_or b bt 0
      → Met (types_by same_simple (type_at l (drop at a)) (type_at l (drop bt b))) n n × (0 < n)
  unfolding size
  simple_both n h k c =
      let P = a_simple n h in
      let s = simple_leaf P.x P.leafy in
      let p = some_level l (drop at a) P.x P.read in
      let e = cmd_a P.x P.read in
      let g = simple_small P.x P.leafy in
      let f = first_at b bt in
      let r = read_simple l (drop bt b) p (simp length-drop (omega arith)) (omega arith) (omega arith) in
      let d = decode (get_or (drop bt b) 0 0 - 32) in
      let same : P.x ≡ leaf d = s.1 ∙ ap leaf (same_simple_lem s.0 d (sym (ap cmd s.1) ∙ e ∙ c ∙ sym (cmd_b (leaf d) r))) in (
        met_yes (both size size same_simple (type_at l (drop at a)) (type_at l (drop bt b)) P.x (leaf d) P.read r
            ∙ ap (λ q. judge q (size P.x) (size (leaf d))) (ap₂ ◌&&◌ P.leafy (ap (eq_ty P.x) (sym same) ∙ eq_ty_self P.x))) P.is (P.is ∙ ap size same),
        omega (arith, h.room),
      )

-- they conform to each other
pub simple_pair : {O : Order} → Ends O → (l : ℕ) (a : List ℕ) (at : ℕ) (b : List ℕ) (bt n : ℕ) → Met (types_by same_simple (type_at l (drop at a)) (type_at l (drop bt b))) n n → (n ≡ 0 → ⊥)
    → Pair (readable_type l) (readable_type l) (le O) a at b bt n n
simple_pair {O} L l a at b bt n w z =
    let B = taken size size same_simple (type_at l (drop at a)) (type_at l (drop bt b)) n n (yes_of (types_by same_simple (type_at l (drop at a)) (type_at l (drop bt b))) n n w z) in
    let s = simple_leaf B.x (and_left (simple B.x) (eq_ty B.x B.y) B.holds) in
    record {
      x = B.x;
      y = B.y;
      read_a = B.read_a;
      read_b = B.read_b;
      holds = ap₂ (le O) s.1 (sym (eq_ty_same B.x B.y (and_right (simple B.x) (eq_ty B.x B.y) B.holds)) ∙ s.1)
          ∙ le_leaves L s.0 s.0 refl;
      size_a = B.size_a;
      size_b = B.size_b;
    }

-- ---- the returns of `conforms`
module _ (l : ℕ) (a b : List ℕ) (t : ℕ) where
  by_table : (reading : ℕ) → (get_or a 0 0 ≡ get_or b 0 0 → ⊥) → (get_or a 0 0 ≡ 41 → ⊥) → (get_or b 0 0 ≡ 32 → ⊥) → (x y : Ty) → type_at l a ≡ some x → type_at l b ≡ some y
      → le (order_of reading) x y ≡ related reading (get_or a 0 0 - 32) (get_or b 0 0 - 32)
  by_table reading d n o x y e f =
      le_other reading x y (λ z. d (sym (cmd_is l a x e) ∙ z ∙ cmd_is l b y f)) (λ z. n (sym (cmd_is l a x e) ∙ z)) (λ z. o (sym (cmd_is l b y f) ∙ z))
      ∙ ap₂ (λ (i j : ℕ). related reading (i - 32) (j - 32)) (cmd_is l a x e) (cmd_is l b y f)

  pub no_other : (reading : ℕ) → (get_or a 0 0 ≡ get_or b 0 0 → ⊥) → (get_or a 0 0 ≡ 41 → ⊥) → (get_or b 0 0 ≡ 32 → ⊥) → (q : Bool)
      → q ≡ related reading (get_or a 0 0 - 32) (get_or b 0 0 - 32) → q ≡ false → Met (conform_of (order_of reading) (type_at l a) (type_at l b)) 0 t
  no_other reading d n o q r h = fails (le (order_of reading)) l a b t (λ x y e f. by_table reading d n o x y e f ∙ sym r ∙ h)

  -- a table has one below the other: both are simple
  pub met_table : (reading : ℕ) → 0 < l → 0 < length a → 0 < length b → (get_or a 0 0 ≡ get_or b 0 0 → ⊥) → (get_or a 0 0 ≡ 41 → ⊥) → (get_or b 0 0 ≡ 32 → ⊥) → (q : Bool)
      → q ≡ related reading (get_or a 0 0 - 32) (get_or b 0 0 - 32) → q ≡ true → Met (conform_of (order_of reading) (type_at l a) (type_at l b)) 1 1
  unfolding size
  met_table reading p ha hb d n o q r h =
      let i = related_inner reading (get_or a 0 0) (get_or b 0 0) (sym r ∙ h) in
      let x = decode (get_or a 0 0 - 32) in
      let y = decode (get_or b 0 0 - 32) in
      let ea = read_simple l a p ha (omega (arith, i.0.0)) (omega (arith, i.0.1)) in
      let eb = read_simple l b p hb (omega (arith, i.1.0)) (omega (arith, i.1.1)) in
      met_yes (both size size (le (order_of reading)) (type_at l a) (type_at l b) (leaf x) (leaf y) ea eb
      ∙ ap (λ z. judge z 1 1) (by_table reading d n o (leaf x) (leaf y) ea eb ∙ sym r ∙ h)) refl refl

  pub no_counts : (O : Order) → get_or a 0 0 ≡ 45 → get_or b 0 0 ≡ 45 → (get_or a 1 0 ≡ get_or b 1 0 → ⊥) → Met (conform_of O (type_at l a) (type_at l b)) 0 t
  no_counts O c d n = fails (le O) l a b t (λ x y e f.
      let g = is_fun l a x e c in
      let h = is_fun l b y f d in
      ap₂ (le O) g.is h.is
      ∙ le_counts O g.f h.f (λ z. n (sym (sig_count (l - 1) (get_or a 1 0) (drop 2 a) g.f g.read) ∙ z ∙ sig_count (l - 1) (get_or b 1 0) (drop 2 b) h.f h.read)))

-- one is Null, or the other Any: both are only passed over
module _ {O : Order} (L : Ends O) (l : ℕ) (a b : List ℕ) (r t : ℕ) (m : MetAt (readable_type l) (readable_type l) any_two a 0 b 0 r t) where
  met_ends : ((x y : Ty) → type_at l a ≡ some x → type_at l b ≡ some y → le O x y ≡ true) → Met (conform_of O (type_at l a) (type_at l b)) r t
  met_ends f = met_as (types_by any_two (type_at l a) (type_at l b)) r t (same_test size size (le O) any_two (type_at l a) (type_at l b) f)
      (met_here (readable_type l) (readable_type l) any_two a 0 b 0 r t m)

  pub met_null : get_or a 0 0 ≡ 41 → Met (conform_of O (type_at l a) (type_at l b)) r t
  met_null c = met_ends (λ x y e f. (le_null L x y (cmd_is l a x e ∙ c)).1)

  pub met_any : get_or b 0 0 ≡ 32 → Met (conform_of O (type_at l a) (type_at l b)) r t
  met_any c = met_ends (λ x y e f. (le_any L x y (cmd_is l b y f ∙ c)).1)

pub met_simple : {O : Order} → Ends O → (l : ℕ) (a b : List ℕ) → 0 < l → 0 < length a → 0 < length b → get_or a 0 0 ≡ get_or b 0 0 → 32 ≤ get_or a 0 0 → get_or a 0 0 ≤ 41
    → Met (conform_of O (type_at l a) (type_at l b)) 1 1
unfolding size
met_simple {O} L l a b p ha hb e i j =
    let x = decode (get_or a 0 0 - 32) in
    let y = decode (get_or b 0 0 - 32) in
    let xy : x ≡ y = ap (λ c. decode (c - 32)) e in
    met_yes (both size size (le O) (type_at l a) (type_at l b) (leaf x) (leaf y) (read_simple l a p ha i j) (read_simple l b p hb (omega (arith, e)) (omega (arith, e)))
    ∙ ap (λ z. judge z 1 1) (le_leaves L x y xy)) refl refl

module _ (l : ℕ) (a b : List ℕ) (p : 0 < l) (ha : 0 < length a) (hb : 0 < length b) (r t : ℕ) where
  -- two contexts, by a test that goes name by name
  pub met_contexts : (test child : Ty → Ty → Bool) → ((x y : Fields) → AscFields x 0 → test (built (context x)) (built (context y)) ≡ entries child x y) → (n k : ℕ)
      → n ≡ num_at 2 1 a → k ≡ num_at 2 1 b → get_or a 0 0 ≡ 44 → get_or b 0 0 ≡ 44 → 3 ≤ length a → 3 ≤ length b
      → Met (add_sizes 3 3 (conform_by size_fields size_fields (entries child) (fields_at (l - 1) n 0 (take (length a - 3) (drop 3 a))) (fields_at (l - 1) k 0 (take (length b - 3) (drop 3 b))))) r t
      → Met (types_by test (type_at l a) (type_at l b)) r t
  unfolding size
  met_contexts test child is n k ne ke c d i j m = met_as (add_sizes 3 3 (conform_by size_fields size_fields (entries child) (fields_at (l - 1) n 0 (drop 3 a)) (fields_at (l - 1) k 0 (drop 3 b)))) r t
      (ap₂ (types_by test) (node_context l a p ha c i ∙ ap (λ z. map_o (λ fs. built (context fs)) (fields_at (l - 1) z 0 (drop 3 a))) (sym ne))
      (node_context l b p hb d j ∙ ap (λ z. map_o (λ fs. built (context fs)) (fields_at (l - 1) z 0 (drop 3 b))) (sym ke))
      ∙ mapped size_fields size_fields (entries child) size size test (λ x. built (context x)) (λ x. built (context x)) 3 3 (fields_at (l - 1) n 0 (drop 3 a)) (fields_at (l - 1) k 0 (drop 3 b))
      (λ x y e f. is x y (fields_good (l - 1) n 0 (drop 3 a) x e).0) (λ x e. omega arith) (λ x. omega arith)) (rw (rest a 3, rest b 3) at m)

module _ (O : Order) (l : ℕ) (a b : List ℕ) (p : 0 < l) (ha : 0 < length a) (hb : 0 < length b) (r t : ℕ) where
  -- parents of one type each
  met_wrapped : (wrap : Ty → Ty) → type_at l a ≡ map_o wrap (type_at (l - 1) (drop 1 a)) → type_at l b ≡ map_o wrap (type_at (l - 1) (drop 1 b))
      → ((x y : Ty) → le O (wrap x) (wrap y) ≡ le O x y) → ((x : Ty) → size (wrap x) ≡ size x + 1)
      → Met (add_sizes 1 1 (conform_of O (type_at (l - 1) (take (length a - 1) (drop 1 a))) (type_at (l - 1) (take (length b - 1) (drop 1 b))))) r t
      → Met (conform_of O (type_at l a) (type_at l b)) r t
  met_wrapped wrap e f test sz m = met_as (add_sizes 1 1 (conform_of O (type_at (l - 1) (drop 1 a)) (type_at (l - 1) (drop 1 b)))) r t
      (ap₂ (conform_of O) e f ∙ mapped size size (le O) size size (le O) wrap wrap 1 1 (type_at (l - 1) (drop 1 a)) (type_at (l - 1) (drop 1 b)) (λ x y e f. test x y) (λ x e. sz x) sz)
      (rw (rest a 1, rest b 1) at m)

  pub met_list : get_or a 0 0 ≡ 42 → get_or b 0 0 ≡ 42
      → Met (add_sizes 1 1 (conform_of O (type_at (l - 1) (take (length a - 1) (drop 1 a))) (type_at (l - 1) (take (length b - 1) (drop 1 b))))) r t
      → Met (conform_of O (type_at l a) (type_at l b)) r t
  unfolding cmp size
  met_list c d m = met_wrapped (λ x. built (list x)) (node_list l a p ha c) (node_list l b p hb d) (λ x y. refl) (λ x. omega arith) m

  pub met_range : get_or a 0 0 ≡ 43 → get_or b 0 0 ≡ 43
      → Met (add_sizes 1 1 (conform_of O (type_at (l - 1) (take (length a - 1) (drop 1 a))) (type_at (l - 1) (take (length b - 1) (drop 1 b))))) r t
      → Met (conform_of O (type_at l a) (type_at l b)) r t
  unfolding cmp size
  met_range c d m = met_wrapped (λ x. built (range x)) (node_range l a p ha c) (node_range l b p hb d) (λ x y. refl) (λ x. omega arith) m

  pub met_context : (n k : ℕ) → n ≡ num_at 2 1 a → k ≡ num_at 2 1 b → get_or a 0 0 ≡ 44 → get_or b 0 0 ≡ 44 → 3 ≤ length a → 3 ≤ length b
      → Met (add_sizes 3 3 (conform_by size_fields size_fields (entries (le O)) (fields_at (l - 1) n 0 (take (length a - 3) (drop 3 a))) (fields_at (l - 1) k 0 (take (length b - 3) (drop 3 b))))) r t
      → Met (conform_of O (type_at l a) (type_at l b)) r t
  met_context n k ne ke c d i j m = met_contexts l a b p ha hb r t (le O) (le O) (λ x y w. le_contexts O x y) n k ne ke c d i j m

  pub met_function : (n : ℕ) → n ≡ get_or a 1 0 → get_or a 1 0 ≡ get_or b 1 0 → get_or a 0 0 ≡ 45 → get_or b 0 0 ≡ 45 → 2 ≤ length a → 2 ≤ length b
      → Met (add_sizes 2 2 (conform_by size_sig size_sig (le_sig O (ignores_at O n)) (sig_at (l - 1) n (take (length a - 2) (drop 2 a))) (sig_at (l - 1) n (take (length b - 2) (drop 2 b))))) r t
      → Met (conform_of O (type_at l a) (type_at l b)) r t
  met_function n ne ab c d i j m = met_as (add_sizes 2 2 (conform_by size_sig size_sig (le_sig O (ignores_at O n)) (sig_at (l - 1) n (drop 2 a)) (sig_at (l - 1) n (drop 2 b)))) r t
      (ap₂ (conform_of O) (node_function l a p ha c i ∙ ap (λ z. map_o fun_of (sig_at (l - 1) z (drop 2 a))) (sym ne))
      (node_function l b p hb d j ∙ ap (λ z. map_o fun_of (sig_at (l - 1) z (drop 2 b))) (sym (ne ∙ ab)))
      ∙ mapped size_sig size_sig (le_sig O (ignores_at O n)) size size (le O) fun_of fun_of 2 2 (sig_at (l - 1) n (drop 2 a)) (sig_at (l - 1) n (drop 2 b))
      (λ x y e f. le_funs O x y n (sig_count (l - 1) n (drop 2 a) x e)) (λ x e. size_fun x) size_fun) (rw (rest a 2, rest b 2) at m)

-- ---- two at the front, behind k bytes each: the returns of `conform_inner` and of a function without parameters
module _ (test : Ty → Ty → Bool) (l : ℕ) (a b : List ℕ) (k r t : ℕ) (m : MetAt (readable_type l) (readable_type l) test a 0 b 0 r t) where
  pub behind_yes : (r ≡ 0 → ⊥) → (p q : ℕ) → p ≡ r + k → q ≡ t + k → Met (add_sizes k k (types_by test (type_at l a) (type_at l b))) p q
  behind_yes z p q e f = met_yes (ap (add_sizes k k) (pair_yes (readable_type l) (readable_type l) test a 0 b 0 r t m z)) e f

  pub behind_no : r ≡ 0 → (u : ℕ) → Met (add_sizes k k (types_by test (type_at l a) (type_at l b))) 0 u
  behind_no z u = met_no 0 u (ap (add_sizes k k) (pair_none (readable_type l) (readable_type l) test a 0 b 0 r t m z)) refl

pub behind_pair : (test : Ty → Ty → Bool) (l : ℕ) (a b : List ℕ) (k r t : ℕ) → Pair (readable_type l) (readable_type l) test a 0 b 0 r t → (p q : ℕ) → p ≡ r + k → q ≡ t + k
    → Met (add_sizes k k (types_by test (type_at l a) (type_at l b))) p q
behind_pair test l a b k r t P p q e f =
    met_yes (ap (add_sizes k k) (both size size test (type_at l a) (type_at l b) P.x P.y P.read_a P.read_b ∙ ap (λ z. judge z (size P.x) (size P.y)) P.holds))
    (omega (arith, e, P.size_a)) (omega (arith, f, P.size_b))

-- ---- parameters in step
pub record SigGo (O : Order) (l : ℕ) (ig : Bool) (whole : Conform) (a b : List ℕ) (count at bt i : ℕ) : Type 0 where
  pub below : i ≤ count
  pub in_a : at ≤ length a
  pub in_b : bt ≤ length b
  pub goes : whole ≡ add_sizes at bt (conform_by size_sig size_sig (le_sig O ig) (sig_at l (count - i) (drop at a)) (sig_at l (count - i) (drop bt b)))

pub sig_start : (O : Order) (l : ℕ) (ig : Bool) (a b : List ℕ) (count : ℕ) → SigGo O l ig (conform_by size_sig size_sig (le_sig O ig) (sig_at l count a) (sig_at l count b)) a b count 0 0 0
sig_start O l ig a b count =
    let x : count ≡ count - 0 = omega arith in
    record {
      below = omega arith;
      in_a = omega arith;
      in_b = omega arith;
      goes = ap (λ p. conform_by size_sig size_sig (le_sig O ig) (sig_at l p a) (sig_at l p b)) x
          ∙ grown_none (conform_by size_sig size_sig (le_sig O ig) (sig_at l (count - 0) a) (sig_at l (count - 0) b));
    }

module _ {O : Order} {l : ℕ} {ig : Bool} {whole : Conform} {a b : List ℕ} {count at bt i : ℕ} (v : SigGo O l ig whole a b count at bt i) where
  pub sig_turn : i < count → (r s : ℕ) → Pair (readable_type l) (readable_type l) (le O) b bt a at r s → SigGo O l ig whole a b count (at + s) (bt + r) (i + 1)
  sig_turn h r s P =
      let I = pair_in (readable_type l) (readable_type l) (le O) b bt a at r s v.in_b v.in_a P in
      let A = sig_at l (count - (i + 1)) (drop (at + s) a) in
      let B = sig_at l (count - (i + 1)) (drop (bt + r) b) in
      let ea : sig_at l (count - i) (drop at a) ≡ map_o (cons P.y) A = param_on l i count at a P.y h P.read_b
      ∙ ap (λ x. map_o (cons P.y) (sig_at l (count - (i + 1)) (drop (at + x) a))) (sym P.size_b) in
      let eb : sig_at l (count - i) (drop bt b) ≡ map_o (cons P.x) B = param_on l i count bt b P.x h P.read_a
      ∙ ap (λ x. map_o (cons P.x) (sig_at l (count - (i + 1)) (drop (bt + x) b))) (sym P.size_a) in
      record {
        below = omega arith;
        in_a = I.1;
        in_b = I.0;
        goes = v.goes ∙ ap (add_sizes at bt) (ap₂ (conform_by size_sig size_sig (le_sig O ig)) ea eb
            ∙ mapped size_sig size_sig (le_sig O ig) size_sig size_sig (le_sig O ig) (cons P.y) (cons P.x) s r A B
            (λ f g e o. le_cons O ig P.y P.x f g ∙ ap (λ x. x && le_sig O ig f g) P.holds)
            (λ f e. omega (arith, size_cons P.y f, P.size_b)) (λ g. omega (arith, size_cons P.x g, P.size_a)))
            ∙ grown_on at bt s r (conform_by size_sig size_sig (le_sig O ig) A B);
      }

  pub sig_apart : i < count → (k t r s : ℕ) → MetAt (readable_type l) (readable_type l) (le O) b bt a at r s → r ≡ 0 → Met (add_sizes k k whole) 0 t
  sig_apart h k t r s m z = met_no 0 t (ap (add_sizes k k) (v.goes ∙ ap (add_sizes at bt) (no_when size_sig size_sig (le_sig O ig) (sig_at l (count - i) (drop at a)) (sig_at l (count - i) (drop bt b))
      (λ f g e o.
      let A = param_at l i count at a f h v.in_a e in
      let B = param_at l i count bt b g h v.in_b o in
      ap₂ (le_sig O ig) A.is B.is ∙ le_cons O ig A.x B.x A.more B.more
      ∙ ap (λ x. x && le_sig O ig A.more B.more) (pair_no (readable_type l) (readable_type l) (le O) b bt a at r s m z B.x A.x B.first A.first))))) refl

  -- behind the last: the results
  last_is : count ≤ i → whole ≡ add_sizes at bt (types_by (λ r s. ig || le O r s) (type_at l (drop at a)) (type_at l (drop bt b)))
  unfolding cmp size
  last_is h =
      let z : count - i ≡ 0 = omega arith in
      v.goes
      ∙ ap (add_sizes at bt) (ap (λ k. conform_by size_sig size_sig (le_sig O ig) (sig_at l k (drop at a)) (sig_at l k (drop bt b))) z
      ∙ ap₂ (conform_by size_sig size_sig (le_sig O ig)) (result_read l (drop at a)) (result_read l (drop bt b))
      ∙ mapped size size (λ r s. ig || le O r s) size_sig size_sig (le_sig O ig) (sig no_params) (sig no_params) 0 0 (type_at l (drop at a)) (type_at l (drop bt b)) (λ x y e f. refl)
      (λ x e. omega arith) (λ x. omega arith)
      ∙ sym (grown_none (types_by (λ r s. ig || le O r s) (type_at l (drop at a)) (type_at l (drop bt b)))))

-- the results are compared
module _ {O : Order} {l : ℕ} {ig : Bool} {whole : Conform} {a b : List ℕ} {count at bt i : ℕ} (v : SigGo O l ig whole a b count at bt i) (h : count ≤ i) (nz : ig ≡ false) (r s : ℕ)
    (m : MetAt (readable_type l) (readable_type l) (le O) a at b bt r s) where
  looked_at : whole ≡ add_sizes at bt (conform_of O (type_at l (drop at a)) (type_at l (drop bt b)))
  looked_at = last_is v h ∙ ap (λ q. add_sizes at bt (types_by (λ x y. q || le O x y) (type_at l (drop at a)) (type_at l (drop bt b)))) nz

  pub sig_done : (r ≡ 0 → ⊥) → (p q : ℕ) → p ≡ at + r + 2 → q ≡ bt + s + 2 → Met (add_sizes 2 2 whole) p q
  sig_done z p q e f = met_yes (ap (add_sizes 2 2) (looked_at ∙ ap (add_sizes at bt) (pair_yes (readable_type l) (readable_type l) (le O) a at b bt r s m z))) (omega (arith, e)) (omega (arith, f))

  pub sig_last_apart : r ≡ 0 → (t : ℕ) → Met (add_sizes 2 2 whole) 0 t
  sig_last_apart z t = met_no 0 t (ap (add_sizes 2 2) (looked_at ∙ ap (add_sizes at bt) (pair_none (readable_type l) (readable_type l) (le O) a at b bt r s m z))) refl

-- when they are: strict, or with parameters
pub compared_strict : (O : Order) (count : ℕ) → O.strict ≡ true → ignores_at O count ≡ false
compared_strict O count e = ap (λ q. not q && eqb count 0) e

pub compared_some : (O : Order) (count : ℕ) → (0 ≡ count → ⊥) → ignores_at O count ≡ false
compared_some O count nz = ap (λ q. not O.strict && q) (ne_eqb count 0 (λ e. nz (sym e))) ∙ and_false (not O.strict)

-- no parameters, and not strict: the results are passed over
pub passed_over : (O : Order) (l : ℕ) (a b : List ℕ) (count : ℕ) → 0 ≡ count → O.strict ≡ false → (r t : ℕ) → Met (add_sizes 2 2 (types_by any_two (type_at l a) (type_at l b))) r t
    → Met (add_sizes 2 2 (conform_by size_sig size_sig (le_sig O (ignores_at O count)) (sig_at l count a) (sig_at l count b))) r t
passed_over O l a b count z plain r t m =
    met_as (add_sizes 2 2 (types_by any_two (type_at l a) (type_at l b))) r t
    (ap (add_sizes 2 2) (last_is (sig_start O l (ignores_at O count) a b count) (omega (arith, z))
    ∙ sym (grown_none (types_by (λ r s. ignores_at O count || le O r s) (type_at l a) (type_at l b)))
    ∙ ap₂ (λ p q. types_by (λ r s. (not p && q) || le O r s) (type_at l a) (type_at l b)) plain (eq-eqb count 0 (sym z)))) m
