-- Laws of the builders: what each branch asks of its callee, and what it leaves behind, under every order and in either direction.
-- Idea: a list, a range, a context and a function are one case: two parts k bytes behind the starts, joined and wrapped again (`Inner`).
-- Index: `ready`, `both`, `is_combined`, `combined_is` (the predicates of the contracts); `left_ready`, `left_done`, `right_ready`, `right_done`, `simple_done`, `other_done` (any two types);
-- `Inner`, `inner_ready`, `inner_ends`, `inner_done` (the one case); `leaf_done`, `wrapped`, `wrapped_done`, `in_contexts`, `ctx_done`, `in_functions`, `ignored`, `in_sigs`, `fun_done`,
-- `fun_none`, `fun_other` (equal commands).
-- Assumes nothing.
use Prim.Native.Nat.{ℕ, zero, suc, ◌+◌, ◌-◌, ◌/◌, ◌%◌, ◌<◌, ◌≤◌}
use mathlib.Core.Path.{◌≡◌, refl, sym, ap, ap₂, ◌∙◌}
use mathlib.Core.Bool.{Bool, true, false, not, ◌&&◌}
use mathlib.Core.Option.{Option, none, some}
use mathlib.Core.List.{List, [], ◌∷◌}
use native.Mathlib.Omega.{arith}
use lib.ListN.{length, get_or, take, drop, set}
use lib.Dec.{eqb}
use borrow.Rule.Slice.PartMut.{put_mid}
use borrow.Author.Tests.{eqb-true, eq-eqb}
use Rattle.form.specs.Trees.{Simple, any, code, decode, Ty, leaf, built, list, range, context, function, Fields, no_params}
use Rattle.form.specs.Form.{num_at, enc, enc_fields, count_fields, count_tys}
use Rattle.form.specs.Answers.{onto}
use Rattle.form.proofs.Runs.{rest, length_rest, behind}
use Rattle.form.proofs.ExactTypes.{code_decode}
use Rattle.order.specs.Order.{Dir, Order, top, bottom, nearest, order_of}
use Rattle.order.specs.Size.{size}
use Rattle.order.proofs.Simple.{and_right}
use Rattle.order.proofs.Ends.{Ends}
use Rattle.order.proofs.Size.{size_positive}
use Rattle.order.proofs.WellFormed.{count_size}
use Rattle.types.proofs.ByCommand.{same_simple_lem, count_sig, sig_count}
use Rattle.types.specs.At.{type_at, fields_at, Sig, fun_of, sig_at, size_at}
use Rattle.types.specs.Conform.{ignores_at}
use Rattle.types.proofs.Reading.{cmd, cmd_is, some_byte, some_level, is_list_lem, is_range_lem, is_ctx, is_fun, t_good, size_fun, last_cmd, size_list, size_range, size_ctx}
use Rattle.types.proofs.Entries.{size_got}
use Rattle.lattice.specs.Writing.{answer, answer_fields, answer_sig, enc_sig, Joining, of_types, of_fields, of_sigs, most_answer, Ready, Wrote, Combined, Counted}
use Rattle.output.proofs.OntoLaws.{onto_first, onto_two, onto_three, late_three, back}
use Rattle.lattice.proofs.BoundTrees.{enc_ctx, enc_fun, count_answer, functions, functions_none, functions_other, lists, ranges, contexts}
use Rattle.lattice.proofs.BoundTrees.{self, least}
use Rattle.lattice.proofs.BoundTrees.{least_right, other, leaves}

-- ---- the predicates of the contracts, in and out
module _ {X : Type 0} (J : Joining X) where
  pub record Both (x y : Option X) (n : ℕ) : Type 0 where
    pub t : X
    pub u : X
    pub read_a : x ≡ some t
    pub read_b : y ≡ some u
    pub room : J.sized (J.join t u) ≤ n
    pub cap : J.sized (J.join t u) ≤ most_answer

  pub both : (x y : Option X) (n : ℕ) → Ready J x y n → Both x y n
  unfolding Ready
  both (some t) (some u) n h = record { t = t; u = u; read_a = refl; read_b = refl; room = h.0; cap = h.1 }
  both (some t) none n h = absurd h
  both none y n h = absurd h

  pub ready : (x y : Option X) (t u : X) (n : ℕ) → x ≡ some t → y ≡ some u → J.sized (J.join t u) ≤ n → J.sized (J.join t u) ≤ most_answer → Ready J x y n
  unfolding Ready
  ready x y t u n e f h c = rw (e, f) (h, c)

  pub is_combined : (x y : Option X) (t u : X) (old new : List ℕ) (i j w : ℕ) → x ≡ some t → y ≡ some u → Wrote J t u old new i j w → Combined J x y old new i j w
  unfolding Combined
  is_combined x y t u old new i j w e f h = rw (e, f) h

  pub combined_is : (x y : Option X) (t u : X) (old new : List ℕ) (i j w : ℕ) → x ≡ some t → y ≡ some u → Combined J x y old new i j w → Wrote J t u old new i j w
  unfolding Combined
  combined_is x y t u old new i j w e f h = rw (e, f) at h

pub is_counted : (O : Order) (d : Dir) (x y : Option Fields) (t u : Fields) (n : ℕ) → x ≡ some t → y ≡ some u → n ≡ count_fields (answer_fields O d t u) → Counted O d x y n
unfolding Counted
is_counted O d x y t u n e f h = rw (e, f) h

pub counted_is : (O : Order) (d : Dir) (x y : Option Fields) (t u : Fields) (n : ℕ) → x ≡ some t → y ≡ some u → Counted O d x y n → n ≡ count_fields (answer_fields O d t u)
unfolding Counted
counted_is O d x y t u n e f h = rw (e, f) at h

-- ---- of any two types
module _ (O : Order) (d : Dir) (l : ℕ) (a b : List ℕ) (n : ℕ) (p : Ready (of_types O d) (type_at l a) (type_at l b) n) where
  abbrev K : Both (of_types O d) (type_at l a) (type_at l b) n
  K = both (of_types O d) (type_at l a) (type_at l b) n p

  pub byte_a : 0 < length a
  byte_a = some_byte l a K.t K.read_a

  pub byte_b : 0 < length b
  byte_b = some_byte l b K.u K.read_b

  pub level_a : 0 < l
  level_a = some_level l a K.t K.read_a

  pub one : 1 ≤ n
  one = omega (arith, K.room, size_positive (answer O d K.t K.u))

  -- the answer is a known tree, whose bytes were written, and both inputs were skipped
  known : (T : Ty) → answer O d K.t K.u ≡ T → (old new : List ℕ) → new ≡ onto (enc T) old → (x y w : ℕ) → x ≡ size_at (type_at l a) → y ≡ size_at (type_at l b) → w ≡ size T
      → Combined (of_types O d) (type_at l a) (type_at l b) old new x y w
  known T s old new en x y w ex ey ew =
      is_combined (of_types O d) (type_at l a) (type_at l b) K.t K.u old new x y w K.read_a K.read_b
      (record {
        one = ex ∙ size_got (type_at l a) K.t K.read_a;
        two = ey ∙ size_got (type_at l b) K.u K.read_b;
        long = ew ∙ sym (ap size s);
        out = en
            ∙ ap (λ (z : Ty). onto (enc z) old) (sym s);
      })

  leaf_bytes : (s : Simple) → (enc (leaf s) ≡ (32 + code s) ∷ []) × (size (leaf s) ≡ 1)
  unfolding enc size
  leaf_bytes s = (refl, refl)

  -- the answer is a simple type
  pub simple_done : (s : Simple) → answer O d K.t K.u ≡ leaf s → (r : ℕ) → r ≡ 32 + code s → (old : List ℕ) → n ≡ length old → (x y : ℕ) → x ≡ size_at (type_at l a)
      → y ≡ size_at (type_at l b) → Combined (of_types O d) (type_at l a) (type_at l b) old (set old 0 r) x y 1
  simple_done s e r er old en x y ex ey =
      let o = one in
      let g = leaf_bytes s in
      known (leaf s) e old (set old 0 r) (onto_first old r (omega arith) ∙ ap (λ (z : ℕ). onto (z ∷ []) old) er ∙ ap (λ (z : List ℕ). onto z old) (sym g.0)) x y 1 ex ey (sym g.1)

  -- the least and b: the answer is that of b and b
  module _ (L : Ends O) where
    left_least : get_or a 0 0 ≡ 32 + code (bottom d) → (size K.t ≡ 1) × (answer O d K.u K.u ≡ answer O d K.t K.u)
    left_least c =
        let g = least L d K.t K.u (cmd_is l a K.t K.read_a ∙ c) in
        (g.0, self L d K.u (t_good l b K.u K.read_b).0 ∙ sym g.1)

    pub left_ready : get_or a 0 0 ≡ 32 + code (bottom d) → Ready (of_types O d) (type_at l b) (type_at l b) n
    left_ready c = ready (of_types O d) (type_at l b) (type_at l b) K.u K.u n K.read_b K.read_b (omega (arith, K.room, ap size (left_least c).1))
        (omega (arith, K.cap, ap size (left_least c).1))

    pub left_done : get_or a 0 0 ≡ 32 + code (bottom d) → (old new : List ℕ) (i j w : ℕ) → Combined (of_types O d) (type_at l b) (type_at l b) old new i j w
        → Combined (of_types O d) (type_at l a) (type_at l b) old new 1 j w
    left_done c old new i j w h =
        let g = combined_is (of_types O d) (type_at l b) (type_at l b) K.u K.u old new i j w K.read_b K.read_b h in
        is_combined (of_types O d) (type_at l a) (type_at l b) K.t K.u old new 1 j w K.read_a K.read_b
        (record { one = sym (left_least c).0; two = g.two; long = g.long ∙ ap size (left_least c).1; out = g.out ∙ ap (λ (z : Ty). onto (enc z) old) (left_least c).1 })

    right_least : get_or b 0 0 ≡ 32 + code (bottom d) → (size K.u ≡ 1) × (answer O d K.t K.t ≡ answer O d K.t K.u)
    right_least c =
        let g = least_right L d K.t K.u (cmd_is l b K.u K.read_b ∙ c) in
        (g.0, self L d K.t (t_good l a K.t K.read_a).0 ∙ sym g.1)

    pub right_ready : get_or b 0 0 ≡ 32 + code (bottom d) → Ready (of_types O d) (type_at l a) (type_at l a) n
    right_ready c = ready (of_types O d) (type_at l a) (type_at l a) K.t K.t n K.read_a K.read_a (omega (arith, K.room, ap size (right_least c).1))
        (omega (arith, K.cap, ap size (right_least c).1))

    pub right_done : get_or b 0 0 ≡ 32 + code (bottom d) → (old new : List ℕ) (i j w : ℕ) → Combined (of_types O d) (type_at l a) (type_at l a) old new i j w
        → Combined (of_types O d) (type_at l a) (type_at l b) old new i 1 w
    right_done c old new i j w h =
        let g = combined_is (of_types O d) (type_at l a) (type_at l a) K.t K.t old new i j w K.read_a K.read_a h in
        is_combined (of_types O d) (type_at l a) (type_at l b) K.t K.u old new i 1 w K.read_a K.read_b
        (record { one = g.one; two = sym (right_least c).0; long = g.long ∙ ap size (right_least c).1; out = g.out ∙ ap (λ (z : Ty). onto (enc z) old) (right_least c).1 })

-- other commands: r is the command of what a table says, otherwise of the greatest
pub other_done : (reading : ℕ) (d : Dir) (l : ℕ) (a b : List ℕ) (n : ℕ) → Ready (of_types (order_of reading) d) (type_at l a) (type_at l b) n → (get_or a 0 0 ≡ get_or b 0 0 → ⊥)
    → (get_or a 0 0 ≡ 32 + code (bottom d) → ⊥) → (get_or b 0 0 ≡ 32 + code (bottom d) → ⊥)
    → (r : ℕ) → (32 ≤ r) × (r ≤ 41) × (r - 32 ≡ nearest reading d (get_or a 0 0 - 32) (get_or b 0 0 - 32))
    → (old : List ℕ) → n ≡ length old → (x y : ℕ) → x ≡ size_at (type_at l a) → y ≡ size_at (type_at l b)
    → Combined (of_types (order_of reading) d) (type_at l a) (type_at l b) old (set old 0 r) x y 1
other_done reading d l a b n p h ca cb r g =
    let B = both (of_types (order_of reading) d) (type_at l a) (type_at l b) n p in
    let ea = cmd_is l a B.t B.read_a in
    let eb = cmd_is l b B.u B.read_b in
    let lo = g.0 in
    let hi = g.1 in
    let c = code_decode (r - 32) (omega arith) in
    simple_done (order_of reading) d l a b n p (decode (r - 32))
    (other reading d B.t B.u (λ z. h (sym ea ∙ z ∙ eb)) (λ z. ca (sym ea ∙ z)) (λ z. cb (sym eb ∙ z))
    ∙ ap₂ (λ (i j : ℕ). leaf (decode (nearest reading d (i - 32) (j - 32)))) ea eb ∙ ap (λ (k : ℕ). leaf (decode k)) (sym g.2))
    r (omega arith)

-- ---- two things inside two others, k bytes behind their starts
pub record Inner {Z : Type 0} (W : Joining Z) (wa wb : Option Z) (la lb n : ℕ) {X : Type 0} (J : Joining X) (k : ℕ) (ga gb : Option X) : Type 0 where
  pub mk : X → Z
  pub x : X
  pub y : X
  pub read_a : wa ≡ some (mk x)
  pub read_b : wb ≡ some (mk y)
  pub part_a : ga ≡ some x
  pub part_b : gb ≡ some y
  pub in_a : W.sized (mk x) ≤ la
  pub in_b : W.sized (mk y) ≤ lb
  pub longer : (t : X) → W.sized (mk t) ≡ J.sized t + k
  pub joins : W.join (mk x) (mk y) ≡ mk (J.join x y)
  pub room : J.sized (J.join x y) + k ≤ n
  pub cap : J.sized (J.join x y) + k ≤ most_answer

module _ {Z : Type 0} {W : Joining Z} {wa wb : Option Z} {la lb n : ℕ} {X : Type 0} {J : Joining X} {k : ℕ} {ga gb : Option X} (I : Inner W wa wb la lb n J k ga gb) where
  -- what the callee asks, of the rest of an output
  pub inner_ready : (xs : List ℕ) → length xs ≡ n → Ready J ga gb (length (take (length xs - k) (drop k xs)))
  inner_ready xs e = ready J ga gb I.x I.y _ I.part_a I.part_b (omega (arith, I.room, length_rest xs k)) (omega (arith, I.cap))

  module _ (old ys : List ℕ) (i j w : ℕ) (h : Combined J ga gb old ys i j w) where
    pub inner_wrote : Wrote J I.x I.y old ys i j w
    inner_wrote = combined_is J ga gb I.x I.y old ys i j w I.part_a I.part_b h

    pub inner_ends : (i + k ≤ la) × (j + k ≤ lb) × (w + k ≤ n)
    inner_ends =
        let g = inner_wrote in
        (omega (arith, g.one, I.longer I.x, I.in_a), omega (arith, g.two, I.longer I.y, I.in_b), omega (arith, g.long, I.room))

    pub inner_done : (all new : List ℕ) → new ≡ onto (W.text (I.mk (J.join I.x I.y))) all → Combined W wa wb all new (i + k) (j + k) (w + k)
    inner_done all new e =
        let g = inner_wrote in
        is_combined W wa wb (I.mk I.x) (I.mk I.y) all new (i + k) (j + k) (w + k) I.read_a I.read_b
        (record {
          one = omega (arith, g.one, I.longer I.x);
          two = omega (arith, g.two, I.longer I.y);
          long = omega (arith, g.long, I.longer (J.join I.x I.y), ap W.sized I.joins);
          out = e ∙ ap (λ (z : Z). onto (W.text z) all) (sym I.joins);
        })

-- inside two types
abbrev pub InType : (O : Order) (d : Dir) (l : ℕ) (a b : List ℕ) (n : ℕ) {X : Type 0} → Joining X → ℕ → Option X → Option X → Type 0
InType O d l a b n J k ga gb = Inner (of_types O d) (type_at l a) (type_at l b) (length a) (length b) n J k ga gb

-- ---- of two types with the same command
pub leaf_of : (t : Ty) → cmd t < 42 → (s : Simple) × (t ≡ leaf s)
leaf_of (leaf s) h = (s, refl)
leaf_of (built (list t)) h = absurd (omega arith)
leaf_of (built (range t)) h = absurd (omega arith)
leaf_of (built (context fs)) h = absurd (omega arith)
leaf_of (built (function ps r)) h = absurd (omega arith)

-- a list or a range, with the command c
pub record Wrapped (O : Order) (d : Dir) (l : ℕ) (a b : List ℕ) (n c : ℕ) : Type 0 where
  pub inner : InType O d l a b n (of_types O d) 1 (type_at (l - 1) (behind 1 a)) (type_at (l - 1) (behind 1 b))
  pub byte : (t : Ty) → enc (inner.mk t) ≡ c ∷ enc t

-- two functions
pub record Functions (O : Order) (d : Dir) (l : ℕ) (a b : List ℕ) (n : ℕ) : Type 0 where
  pub f : Sig
  pub g : Sig
  pub two_a : 2 ≤ length a
  pub two_b : 2 ≤ length b
  pub read_a : type_at l a ≡ some (fun_of f)
  pub read_b : type_at l b ≡ some (fun_of g)
  pub inner_a : sig_at (l - 1) (get_or a 1 0) (drop 2 a) ≡ some f
  pub inner_b : sig_at (l - 1) (get_or b 1 0) (drop 2 b) ≡ some g
  pub count_a : count_sig f ≡ get_or a 1 0
  pub count_b : count_sig g ≡ get_or b 1 0
  pub room : size (answer O d (fun_of f) (fun_of g)) ≤ n
  pub cap : size (answer O d (fun_of f) (fun_of g)) ≤ most_answer

module _ (O : Order) (d : Dir) (l : ℕ) (a b : List ℕ) (n : ℕ) (p : Ready (of_types O d) (type_at l a) (type_at l b) n) (same : get_or a 0 0 ≡ get_or b 0 0) where
  abbrev B : Both (of_types O d) (type_at l a) (type_at l b) n
  B = both (of_types O d) (type_at l a) (type_at l b) n p

  pub leaf_done : Ends O → get_or a 0 0 < 42 → (old : List ℕ) → n ≡ length old → Combined (of_types O d) (type_at l a) (type_at l b) old (set old 0 (get_or a 0 0)) 1 1 1
  unfolding enc size
  leaf_done L c old en =
      let ca = cmd_is l a B.t B.read_a in
      let cb = cmd_is l b B.u B.read_b in
      go (leaf_of B.t (omega arith)) (leaf_of B.u (omega arith))
    where
      go : (s : Simple) × (B.t ≡ leaf s) → (s : Simple) × (B.u ≡ leaf s) → Combined (of_types O d) (type_at l a) (type_at l b) old (set old 0 (get_or a 0 0)) 1 1 1
      go x y =
          let ea = B.read_a ∙ ap some x.1 in
          let eb = B.read_b ∙ ap some y.1 in
          let ca = cmd_is l a (leaf x.0) ea in
          let cb = cmd_is l b (leaf y.0) eb in
          let s = leaves L d x.0 y.0 (same_simple_lem x.0 y.0 (ca ∙ same ∙ sym cb)) in
          let o = one O d l a b n p in
          is_combined (of_types O d) (type_at l a) (type_at l b) (leaf x.0) (leaf y.0) old _ 1 1 1 ea eb
          (record {
            one = refl;
            two = refl;
            long = sym (ap size s);
            out = onto_first old (get_or a 0 0) (omega arith) ∙ ap (λ (z : ℕ). onto (z ∷ []) old) (sym ca)
                ∙ ap (λ (z : Ty). onto (enc z) old) (sym s);
          })

  pub wrapped : 42 ≤ get_or a 0 0 → get_or a 0 0 < 44 → Wrapped O d l a b n (get_or a 0 0)
  wrapped lo hi = go (get_or a 0 0 - 42) refl
    where
      in_list : get_or a 0 0 ≡ 42 → (x : Ty) × (type_at (l - 1) (drop 1 a) ≡ some x) × (B.t ≡ built (list x)) → (y : Ty) × (type_at (l - 1) (drop 1 b) ≡ some y) × (B.u ≡ built (list y))
          → Wrapped O d l a b n (get_or a 0 0)
      in_list c x y =
          let s = ap₂ (answer O d) x.2 y.2 ∙ lists O d x.0 y.0 in
          record {
            inner = record {
              mk = λ t. built (list t);
              x = x.0;
              y = y.0;
              read_a = B.read_a ∙ ap some x.2;
              read_b = B.read_b ∙ ap some y.2;
              part_a = ap (type_at (l - 1)) (rest a 1) ∙ x.1;
              part_b = ap (type_at (l - 1)) (rest b 1) ∙ y.1;
              in_a = (t_good l a _ (B.read_a ∙ ap some x.2)).1;
              in_b = (t_good l b _ (B.read_b ∙ ap some y.2)).1;
              longer = λ t. (size_list t).0;
              joins = lists O d x.0 y.0;
              room = omega (arith, B.room, ap size s, (size_list (answer O d x.0 y.0)).0);
              cap = omega (arith, B.cap, ap size s, (size_list (answer O d x.0 y.0)).0);
            };
            byte = λ t. (size_list t).1 ∙ ap (λ (z : ℕ). z ∷ enc t) (sym c);
          }

      in_range : get_or a 0 0 ≡ 43 → (x : Ty) × (type_at (l - 1) (drop 1 a) ≡ some x) × (B.t ≡ built (range x)) → (y : Ty) × (type_at (l - 1) (drop 1 b) ≡ some y) × (B.u ≡ built (range y))
          → Wrapped O d l a b n (get_or a 0 0)
      in_range c x y =
          let s = ap₂ (answer O d) x.2 y.2 ∙ ranges O d x.0 y.0 in
          record {
            inner = record {
              mk = λ t. built (range t);
              x = x.0;
              y = y.0;
              read_a = B.read_a ∙ ap some x.2;
              read_b = B.read_b ∙ ap some y.2;
              part_a = ap (type_at (l - 1)) (rest a 1) ∙ x.1;
              part_b = ap (type_at (l - 1)) (rest b 1) ∙ y.1;
              in_a = (t_good l a _ (B.read_a ∙ ap some x.2)).1;
              in_b = (t_good l b _ (B.read_b ∙ ap some y.2)).1;
              longer = λ t. (size_range t).0;
              joins = ranges O d x.0 y.0;
              room = omega (arith, B.room, ap size s, (size_range (answer O d x.0 y.0)).0);
              cap = omega (arith, B.cap, ap size s, (size_range (answer O d x.0 y.0)).0);
            };
            byte = λ t. (size_range t).1 ∙ ap (λ (z : ℕ). z ∷ enc t) (sym c);
          }

      go : (k : ℕ) → get_or a 0 0 - 42 ≡ k → Wrapped O d l a b n (get_or a 0 0)
      go zero e = let c : get_or a 0 0 ≡ 42 = omega arith in in_list c (is_list_lem l a B.t B.read_a c) (is_list_lem l b B.u B.read_b (sym same ∙ c))
      go (suc k) e = let c : get_or a 0 0 ≡ 43 = omega arith in in_range c (is_range_lem l a B.t B.read_a c) (is_range_lem l b B.u B.read_b (sym same ∙ c))

  pub ctx_three : get_or a 0 0 ≡ 44 → (3 ≤ length a) × (3 ≤ length b)
  ctx_three c = ((is_ctx l a B.t B.read_a c).three, (is_ctx l b B.u B.read_b (sym same ∙ c)).three)

  abbrev pub in_contexts : get_or a 0 0 ≡ 44 → (i j : ℕ) → i ≡ num_at 2 1 a → j ≡ num_at 2 1 b → InType O d l a b n (of_fields O d) 3
      (fields_at (l - 1) i 0 (behind 3 a)) (fields_at (l - 1) j 0 (behind 3 b))
  in_contexts c i j ei ej =
      let x = is_ctx l a B.t B.read_a c in
      let y = is_ctx l b B.u B.read_b (sym same ∙ c) in
      let s = ap₂ (answer O d) x.is y.is ∙ contexts O d x.fs y.fs in
      record {
        mk = λ fs. built (context fs);
        x = x.fs;
        y = y.fs;
        read_a = B.read_a ∙ ap some x.is;
        read_b = B.read_b ∙ ap some y.is;
        part_a = ap₂ (λ (k : ℕ) (z : List ℕ). fields_at (l - 1) k 0 z) ei (rest a 3) ∙ x.read;
        part_b = ap₂ (λ (k : ℕ) (z : List ℕ). fields_at (l - 1) k 0 z) ej (rest b 3) ∙ y.read;
        in_a = (t_good l a _ (B.read_a ∙ ap some x.is)).1;
        in_b = (t_good l b _ (B.read_b ∙ ap some y.is)).1;
        longer = λ fs. size_ctx fs;
        joins = contexts O d x.fs y.fs;
        room = omega (arith, B.room, ap size s, size_ctx (answer_fields O d x.fs y.fs));
        cap = omega (arith, B.cap, ap size s, size_ctx (answer_fields O d x.fs y.fs));
      }

  pub in_functions : 44 ≤ get_or a 0 0 → (get_or a 0 0 ≡ 44 → ⊥) → Functions O d l a b n
  in_functions lo ne =
      let e = cmd_is l a B.t B.read_a in
      let c : get_or a 0 0 ≡ 45 = sym e ∙ last_cmd B.t (omega arith) (λ z. ne (sym e ∙ z)) in
      let x = is_fun l a B.t B.read_a c in
      let y = is_fun l b B.u B.read_b (sym same ∙ c) in
      let s = ap₂ (answer O d) x.is y.is in
      record {
        f = x.f;
        g = y.f;
        two_a = x.two;
        two_b = y.two;
        read_a = B.read_a ∙ ap some x.is;
        read_b = B.read_b ∙ ap some y.is;
        inner_a = x.read;
        inner_b = y.read;
        count_a = sig_count (l - 1) (get_or a 1 0) (drop 2 a) x.f x.read;
        count_b = sig_count (l - 1) (get_or b 1 0) (drop 2 b) y.f y.read;
        room = omega (arith, B.room, ap size s);
        cap = omega (arith, B.cap, ap size s);
      }

-- the list or range was written
pub wrapped_done : {O : Order} {d : Dir} {l : ℕ} {a b : List ℕ} {n c : ℕ} (W : Wrapped O d l a b n c) (old ys : List ℕ) (i j w : ℕ) → n ≡ length old
    → Combined (of_types O d) (type_at (l - 1) (behind 1 a)) (type_at (l - 1) (behind 1 b)) (behind 1 (set old 0 c)) ys i j w
    → Combined (of_types O d) (type_at l a) (type_at l b) old (put_mid 1 (length (set old 0 c) - 1) (set old 0 c) ys) (i + 1) (j + 1) (w + 1)
wrapped_done {O} {d} {l} {a} {b} {n} {c} W old ys i j w en h =
    let I = W.inner in
    let g = inner_wrote I (behind 1 (set old 0 c)) ys i j w h in
    let some : 1 ≤ length old = omega (arith, I.room) in
    inner_done I (behind 1 (set old 0 c)) ys i j w h old _
    (back (c ∷ []) (enc (answer O d I.x I.y)) old (set old 0 c) ys 1 (onto_first old c some) refl some g.out ∙ ap (λ (z : List ℕ). onto z old) (sym (W.byte (answer O d I.x I.y))))

-- ---- the contexts were written; their count is stored last
module _ (O : Order) (d : Dir) (l : ℕ) (a b : List ℕ) (n : ℕ) (p : Ready (of_types O d) (type_at l a) (type_at l b) n) (same : get_or a 0 0 ≡ get_or b 0 0) (c : get_or a 0 0 ≡ 44) (i j : ℕ)
    (ei : i ≡ num_at 2 1 a) (ej : j ≡ num_at 2 1 b) (old ys : List ℕ) (u v w k : ℕ) (en : n ≡ length old)
    (h : Combined (of_fields O d) (fields_at (l - 1) i 0 (behind 3 a)) (fields_at (l - 1) j 0 (behind 3 b)) (behind 3 old) ys u v w)
    (m : Counted O d (fields_at (l - 1) i 0 (behind 3 a)) (fields_at (l - 1) j 0 (behind 3 b)) k) where
  abbrev C : InType O d l a b n (of_fields O d) 3 (fields_at (l - 1) i 0 (behind 3 a)) (fields_at (l - 1) j 0 (behind 3 b))
  C = in_contexts O d l a b n p same c i j ei ej

  ctx_counted : k ≡ count_fields (answer_fields O d C.x C.y)
  ctx_counted = counted_is O d (fields_at (l - 1) i 0 (behind 3 a)) (fields_at (l - 1) j 0 (behind 3 b)) C.x C.y k C.part_a C.part_b m

  pub ctx_count : k < 65536
  ctx_count = omega (arith, ctx_counted, C.cap, count_size (answer_fields O d C.x C.y))

  pub ctx_done : (lo hi : ℕ) → lo ≡ k % 256 → hi ≡ k / 256 → Combined (of_types O d) (type_at l a) (type_at l b) old (set (set (set (put_mid 3 (length old - 3) old ys) 0 44) 1 lo) 2 hi)
      (u + 3) (v + 3)
      (w + 3)
  ctx_done lo hi el eh =
      let g = inner_wrote C (behind 3 old) ys u v w h in
      let R = answer_fields O d C.x C.y in
      let e = ctx_counted in
      inner_done C (behind 3 old) ys u v w h old _
      (late_three old ys (enc_fields R) 44 lo hi (omega (arith, C.room)) g.out
      ∙ ap₂ (λ (x y : ℕ). onto (44 ∷ x ∷ y ∷ enc_fields R) old) (el ∙ ap (λ (z : ℕ). z % 256) e) (eh ∙ ap (λ (z : ℕ). z / 256) e)
      ∙ ap (λ (z : List ℕ). onto z old) (sym (enc_ctx R (omega (arith, ctx_count)))))

-- ---- functions: the results are ignored without parameters where the order is not strict
pub ignored : (O : Order) (n : ℕ) → n ≡ 0 → O.strict ≡ false → ignores_at O n ≡ true
ignored O n z plain = ap₂ (λ p q. not p && q) plain (eq-eqb n 0 z)

ignored_zero : (O : Order) (n : ℕ) → ignores_at O n ≡ true → n ≡ 0
ignored_zero O n e = eqb-true n 0 (and_right (not O.strict) (eqb n 0) e)

module _ {O : Order} {d : Dir} {l : ℕ} {a b : List ℕ} {n : ℕ} (F : Functions O d l a b n) where
  -- both were skipped
  fun_known : (T : Ty) → answer O d (fun_of F.f) (fun_of F.g) ≡ T → (old new : List ℕ) → new ≡ onto (enc T) old → (x y w : ℕ) → x ≡ size_at (type_at l a) → y ≡ size_at (type_at l b) → w ≡ size T
      → Combined (of_types O d) (type_at l a) (type_at l b) old new x y w
  fun_known T s old new en x y w ex ey ew =
      is_combined (of_types O d) (type_at l a) (type_at l b) (fun_of F.f) (fun_of F.g) old new x y w F.read_a F.read_b
      (record {
        one = ex ∙ size_got (type_at l a) (fun_of F.f) F.read_a;
        two = ey ∙ size_got (type_at l b) (fun_of F.g) F.read_b;
        long = ew ∙ sym (ap size s);
        out = en
            ∙ ap (λ (z : Ty). onto (enc z) old) (sym s);
      })

  pub fun_one : 1 ≤ n
  fun_one = omega (arith, F.room, size_positive (answer O d (fun_of F.f) (fun_of F.g)))

  pub fun_other : (get_or a 1 0 ≡ get_or b 1 0 → ⊥) → (r : ℕ) → r ≡ 32 + code (top d) → (old : List ℕ) → n ≡ length old → (x y : ℕ) → x ≡ size_at (type_at l a) → y ≡ size_at (type_at l b)
      → Combined (of_types O d) (type_at l a) (type_at l b) old (set old 0 r) x y 1
  unfolding enc size
  fun_other h r er old en x y ex ey =
      let o = fun_one in
      fun_known (leaf (top d)) (functions_other O d F.f F.g (λ e. h (sym F.count_a ∙ e ∙ F.count_b))) old _ (onto_first old r (omega arith) ∙ ap (λ (z : ℕ). onto (z ∷ []) old) er) x y 1 ex ey refl

  module _ (e : get_or a 1 0 ≡ get_or b 1 0) where
    pub counts : count_sig F.f ≡ count_sig F.g
    counts = F.count_a ∙ e ∙ sym F.count_b

    none_size : (size (built (function no_params (leaf any))) ≡ 3) × (enc (built (function no_params (leaf any))) ≡ 45 ∷ 0 ∷ 32 ∷ [])
    unfolding enc size count_tys
    none_size = (refl, refl)

    pub fun_none_room : ignores_at O (get_or a 1 0) ≡ true → 3 ≤ n
    fun_none_room z = omega (arith, F.room, ap size (functions_none O d F.f F.g counts (ap (ignores_at O) F.count_a ∙ z)), none_size.0)

    pub fun_none : ignores_at O (get_or a 1 0) ≡ true → (old : List ℕ) → n ≡ length old → (x y : ℕ) → x ≡ size_at (type_at l a) → y ≡ size_at (type_at l b)
        → Combined (of_types O d) (type_at l a) (type_at l b) old (set (set (set old 0 45) 1 (get_or a 1 0)) 2 32) x y 3
    fun_none z old en x y ex ey =
        let o = fun_none_room z in
        let g = none_size in
        fun_known (built (function no_params (leaf any))) (functions_none O d F.f F.g counts (ap (ignores_at O) F.count_a ∙ z)) old _
        (onto_three old 45 (get_or a 1 0) 32 (omega arith) ∙ ap (λ (k : ℕ). onto (45 ∷ k ∷ 32 ∷ []) old) (ignored_zero O (get_or a 1 0) z)
        ∙ ap (λ (k : List ℕ). onto k old) (sym g.1)) x y 3 ex ey (sym g.0)

    module _ (z : ignores_at O (get_or a 1 0) ≡ false) where
      pub fun_joins : answer O d (fun_of F.f) (fun_of F.g) ≡ fun_of (answer_sig O d F.f F.g)
      fun_joins = functions O d F.f F.g counts (ap (ignores_at O) F.count_a ∙ z)

      abbrev pub in_sigs : (k : ℕ) → k ≡ get_or a 1 0 → InType O d l a b n (of_sigs O d) 2 (sig_at (l - 1) k (behind 2 a)) (sig_at (l - 1) k (behind 2 b))
      in_sigs k ek =
          record {
            mk = fun_of;
            x = F.f;
            y = F.g;
            read_a = F.read_a;
            read_b = F.read_b;
            part_a = ap₂ (λ (k : ℕ) (z : List ℕ). sig_at (l - 1) k z) ek (rest a 2) ∙ F.inner_a;
            part_b = ap₂ (λ (k : ℕ) (z : List ℕ). sig_at (l - 1) k z) (ek ∙ e) (rest b 2) ∙ F.inner_b;
            in_a = (t_good l a (fun_of F.f) F.read_a).1;
            in_b = (t_good l b (fun_of F.g) F.read_b).1;
            longer = size_fun;
            joins = fun_joins;
            room = omega (arith, F.room, ap size fun_joins, size_fun (answer_sig O d F.f F.g));
            cap = omega (arith, F.cap, ap size fun_joins, size_fun (answer_sig O d F.f F.g));
          }

      pub fun_two : 2 ≤ n
      fun_two = omega (arith, (in_sigs (get_or a 1 0) refl).room)

      pub fun_done : (k : ℕ) (ek : k ≡ get_or a 1 0) (old ys : List ℕ) (u v w : ℕ) → n ≡ length old
          → Combined (of_sigs O d) (sig_at (l - 1) k (behind 2 a)) (sig_at (l - 1) k (behind 2 b)) (behind 2 (set (set old 0 45) 1 (get_or a 1 0))) ys u v w
          → Combined (of_types O d) (type_at l a) (type_at l b) old (put_mid 2 (length (set (set old 0 45) 1 (get_or a 1 0)) - 2) (set (set old 0 45) 1 (get_or a 1 0)) ys) (u + 2) (v + 2) (w + 2)
      fun_done k ek old ys u v w en h =
          let I = in_sigs k ek in
          let g = inner_wrote I _ ys u v w h in
          let t : 2 ≤ length old = omega (arith, fun_two) in
          let S = answer_sig O d F.f F.g in
          inner_done I _ ys u v w h old _
          (back (45 ∷ get_or a 1 0 ∷ []) (enc_sig S) old (set (set old 0 45) 1 (get_or a 1 0)) ys 2 (onto_two old 45 (get_or a 1 0) t) refl t g.out
          ∙ ap (λ (k : ℕ). onto (45 ∷ k ∷ enc_sig S) old) (sym (count_answer O d F.f F.g counts ∙ F.count_a))
          ∙ ap (λ (z : List ℕ). onto z old) (sym (enc_fun S)))

-- there is room for the command and the count
pub fun_head : {O : Order} {d : Dir} {l : ℕ} {a b : List ℕ} {n : ℕ} (F : Functions O d l a b n) → get_or a 1 0 ≡ get_or b 1 0 → 2 ≤ n
fun_head {O} {d} {l} {a} {b} {n} F e = go (ignores_at O (get_or a 1 0)) refl
  where
    go : (q : Bool) → ignores_at O (get_or a 1 0) ≡ q → 2 ≤ n
    go true z = omega (arith, fun_none_room F e z)
    go false z = fun_two F e z
