-- The loop that takes the entries of two contexts in step, and what it calls: an entry of one side alone, or an entry of each with the same name.
-- Idea: each turn writes a piece of the answer (`Piece`), and what was written and the bytes of the answer to what is left make the bytes of the whole answer (`FieldsInv`).
-- Index: `One`, `one_is` (a single entry); `alone_ready`, `alone_down` (an entry of one side alone, taken with itself); `in_entries`, `entry_done` (of each, with the same name);
-- `FieldsInv`, `Peeked`, `peeked`, `fields_start`, `fields_done`, `more_a`, `more_b` (start and end); `over_a_fits`, `over_a`, `over_b_fits`, `over_b` (a name that is passed over);
-- `a_ready`, `a_ends`, `a_next`, `b_ready`, `b_ends`, `b_next`, `both_ready`, `both_ends`, `both_next` (a turn).
-- Assumes nothing.
use Prim.Native.Nat.{ℕ, suc, ◌+◌, ◌-◌, ◌<◌, ◌≤◌}
use mathlib.Core.Path.{◌≡◌, refl, sym, ap, ap₂, subst, ◌∙◌}
use mathlib.Core.Bool.{cond}
use mathlib.Core.Option.{some}
use mathlib.Core.List.{List, [], ◌++◌, append_assoc, append-nil}
use native.Mathlib.Omega.{arith}
use lib.ListN.{length, take, drop, length-append, length-drop}
use lib.Dec.{ltb}
use lib.Seq.{drop-drop}
use borrow.Author.Tests.{le-leb}
use borrow.Rule.Slice.PartMut.{put_mid}
use Rattle.form.specs.Trees.{Ty, Fields, no_fields, field}
use Rattle.form.specs.Limits.{name_width, name_end}
use Rattle.form.specs.Form.{bytes, num, num_at, enc, enc_fields, count_fields}
use Rattle.form.specs.Read.{and_then, front, named, operand, or_else, read_named, read_t}
use Rattle.form.specs.Answers.{onto}
use Rattle.form.proofs.Numbers.{length_bytes}
use Rattle.form.proofs.Runs.{rest, length_rest, behind}
use Rattle.order.specs.Order.{Dir, up, down, Order}
use Rattle.order.proofs.Ends.{Ends}
use Rattle.order.specs.Types.{reduce}
use Rattle.order.specs.Ascending.{Asc, AscFields}
use Rattle.order.specs.Size.{size, size_fields}
use Rattle.order.proofs.Size.{length_fields}
use Rattle.order.proofs.WellFormed.{count_size}
use Rattle.order.proofs.Sentences.{sup_fields_first, sup_fields_second, sub_fields_first}
use Rattle.types.specs.At.{seen, type_at, fields_at, size_at}
use Rattle.types.proofs.Reading.{seen_got, t_good}
use Rattle.types.proofs.Entries.{Here, here, gone, ahead, next_is, size_got, enc_field, enc_none, size_field, size_none, count_field}
use Rattle.lattice.specs.Writing.{answer, answer_fields, of_types, of_fields, most_answer, no_entry, Ready, Wrote, Combined, Counted}
use Rattle.output.specs.Output.{over}
use Rattle.output.proofs.OntoLaws.{onto_nil, length_onto, back, back_length, over_onto}
use Rattle.lattice.proofs.BoundTrees.{count_none, fields_none, fields_both, self, Piece, piece_first, piece_second, piece_both}
use Rattle.lattice.proofs.Branches.{both, Both, ready, is_combined, combined_is, is_counted, counted_is, Inner, inner_wrote, inner_done}

-- ---- a single entry
pub record One (l : ℕ) (s : List ℕ) (fs : Fields) : Type 0 where
  pub name : ℕ
  pub t : Ty
  pub named : name ≡ num_at name_width 0 s
  pub first : type_at l (behind name_width s) ≡ some t
  pub fits : name_width + size t ≤ length s
  pub is : fs ≡ field name t no_fields
  pub sized : size_fields fs ≡ name_width + size t

pub one_is : (l : ℕ) (s : List ℕ) (fs : Fields) → fields_at l 1 0 s ≡ some fs → One l s fs
one_is l s fs e = go (here l 0 1 0 0 s fs (omega arith) e)
  where
    go : Here l 0 0 0 s fs → One l s fs
    go A =
        let none : A.more ≡ no_fields = gone l 1 1 (0 + name_width + size A.x) (suc A.name) s A.more (omega arith) A.second in
        record {
          name = A.name;
          t = A.x;
          named = A.named;
          first = ap (type_at l) (rest s name_width) ∙ A.first;
          fits = omega (arith, A.fits);
          is = A.is ∙ ap (field A.name A.x) none;
          sized = omega (arith, A.sized, ap size_fields none, size_none);
        }

front_entry : (l : ℕ) (s : List ℕ) (t : Ty) → name_width ≤ length s → type_at l (drop name_width s) ≡ some t → fields_at l 1 0 s ≡ some (field (num_at name_width 0 s) t no_fields)
unfolding fields_at type_at seen read_named named operand or_else and_then front
front_entry l s t h e =
    seen_got (read_t l (drop name_width s)) t e (λ n p. rw (le-leb name_width (length s) h, le-leb 0 (num (take name_width s)) (omega arith), p) refl)

-- the entry that stands at a place, alone
part : (l : ℕ) {n at least : ℕ} {a : List ℕ} {fs : Fields} (A : Here l n at least a fs) → fields_at l 1 0 (behind at a) ≡ some (field A.name A.x no_fields)
part l {n} {at} {least} {a} {fs} A =
    ap (fields_at l 1 0) (rest a at) ∙ front_entry l (drop at a) A.x (simp length-drop (omega (arith, A.two))) (ap (type_at l) (drop-drop name_width at a) ∙ A.first)
    ∙ ap (λ (z : ℕ). some (field z A.x no_fields)) (sym A.named)

part_name : (l : ℕ) {n at least : ℕ} {a : List ℕ} {fs : Fields} (A : Here l n at least a fs) → num_at name_width 0 (behind at a) ≡ A.name
part_name l {n} {at} {least} {a} {fs} A = ap (num_at name_width 0) (rest a at) ∙ sym A.named

-- ---- an entry of one side alone: passed over, or taken with itself
over_first : (O : Order) (d : Dir) → d ≡ up → (n : ℕ) (t : Ty) (fs gs : Fields) → AscFields gs (suc n) → answer_fields O d (field n t fs) gs ≡ answer_fields O d fs gs
over_first O d e n t fs gs w = subst (λ (d : Dir). answer_fields O d (field n t fs) gs ≡ answer_fields O d fs gs) (sym e) (sup_fields_first O n t fs gs w)

over_second : (O : Order) (d : Dir) → d ≡ up → (n : ℕ) (t : Ty) (fs gs : Fields) → AscFields fs (suc n) → answer_fields O d fs (field n t gs) ≡ answer_fields O d fs gs
over_second O d e n t fs gs w = subst (λ (d : Dir). answer_fields O d fs (field n t gs) ≡ answer_fields O d fs gs) (sym e) (sup_fields_second O fs n (suc n) t gs w (omega arith))

skipped : (l : ℕ) (a : List ℕ) (p z : ℕ) (t : Ty) → z ≡ size_at (type_at l (behind p a)) → type_at l (drop p a) ≡ some t → z ≡ size t
skipped l a p z t e f = e ∙ ap (λ (r : List ℕ). size_at (type_at l r)) (rest a p) ∙ size_got (type_at l (drop p a)) t f

only_down : {O : Order} → Ends O → (d : Dir) → d ≡ down → (n : ℕ) (t : Ty) → Asc t
    → (answer_fields O d (field n t no_fields) (field n t no_fields) ≡ answer_fields O d (field n t no_fields) no_fields)
    × (count_fields (answer_fields O d (field n t no_fields) no_fields) ≡ 1)
unfolding Asc count_fields
only_down {O} L d e n t w =
    let s = sub_fields_first O n t no_fields no_fields tt tt in
    rw e (
      fields_both O down n t t no_fields no_fields tt ∙ ap (λ (z : Ty). field n z (answer_fields O down no_fields no_fields)) (self L down t w) ∙ sym s,
      ap count_fields (s ∙ ap (field n (reduce O t)) (fields_none O down)),
    )

module _ (O : Order) (d : Dir) (l : ℕ) (s : List ℕ) (n : ℕ) (p : Ready (of_fields O d) (fields_at l 1 0 s) no_entry n) where
  abbrev K : Both (of_fields O d) (fields_at l 1 0 s) no_entry n
  K = both (of_fields O d) (fields_at l 1 0 s) no_entry n p

  abbrev E : One l s K.t
  E = one_is l s K.t K.read_a

  -- the other side has none
  none : K.u ≡ no_fields
  none = let e : some no_fields ≡ some K.u = K.read_b in cc

  module _ (L : Ends O) (e : d ≡ down) where
    same_answer : (answer_fields O d K.t K.t ≡ answer_fields O d K.t K.u) × (count_fields (answer_fields O d K.t K.u) ≡ 1)
    same_answer =
        let g = only_down L d e E.name E.t (t_good l (behind name_width s) E.t E.first).0 in
        let u = ap₂ (answer_fields O d) E.is none in
        (ap₂ (answer_fields O d) E.is E.is ∙ g.0 ∙ sym u, ap count_fields u ∙ g.1)

    pub alone_ready : Ready (of_fields O d) (fields_at l 1 0 s) (fields_at l 1 0 s) n
    alone_ready = ready (of_fields O d) _ _ K.t K.t n K.read_a K.read_a (omega (arith, K.room, ap size_fields same_answer.0)) (omega (arith, K.cap, ap size_fields same_answer.0))

    pub alone_down : (old new : List ℕ) (i j w : ℕ) → Combined (of_fields O d) (fields_at l 1 0 s) (fields_at l 1 0 s) old new i j w
        → Combined (of_fields O d) (fields_at l 1 0 s) no_entry old new i 0 w × Counted O d (fields_at l 1 0 s) no_entry 1
    alone_down old new i j w h =
        let g = combined_is (of_fields O d) _ _ K.t K.t old new i j w K.read_a K.read_a h in (
          is_combined (of_fields O d) _ _ K.t K.u old new i 0 w K.read_a K.read_b
              (record {
                one = g.one;
                two = omega (arith, ap size_fields none, size_none);
                long = g.long ∙ ap size_fields same_answer.0;
                out = g.out ∙ ap (λ (z : Fields). onto (enc_fields z) old) same_answer.0;
              }),
          is_counted O d _ _ K.t K.u 1 K.read_a K.read_b (sym same_answer.1),
        )

-- ---- an entry of each with the same name: their types are inside them
pub sized_one : (n : ℕ) (t : Ty) → size_fields (field n t no_fields) ≡ size t + name_width
sized_one n t = omega (arith, size_field n t no_fields, size_none)

pub join_one : (O : Order) (d : Dir) (n : ℕ) (t u : Ty) → answer_fields O d (field n t no_fields) (field n u no_fields) ≡ field n (answer O d t u) no_fields
unfolding Asc
join_one O d n t u = fields_both O d n t u no_fields no_fields tt ∙ ap (field n (answer O d t u)) (fields_none O d)

module _ (O : Order) (d : Dir) (l : ℕ) (a b : List ℕ) (n : ℕ) (p : Ready (of_fields O d) (fields_at l 1 0 a) (fields_at l 1 0 b) n) (same : num_at name_width 0 a ≡ num_at name_width 0 b) where
  abbrev P : Both (of_fields O d) (fields_at l 1 0 a) (fields_at l 1 0 b) n
  P = both (of_fields O d) (fields_at l 1 0 a) (fields_at l 1 0 b) n p

  abbrev A : One l a P.t
  A = one_is l a P.t P.read_a

  abbrev B : One l b P.u
  B = one_is l b P.u P.read_b

  pub is_a : P.t ≡ field (num_at name_width 0 a) A.t no_fields
  is_a = A.is ∙ ap (λ (z : ℕ). field z A.t no_fields) A.named

  pub is_b : P.u ≡ field (num_at name_width 0 a) B.t no_fields
  is_b = B.is ∙ ap (λ (z : ℕ). field z B.t no_fields) (B.named ∙ sym same)

  pub sized_both : size_fields (answer_fields O d P.t P.u) ≡ size (answer O d A.t B.t) + name_width
  sized_both = ap size_fields (ap₂ (answer_fields O d) is_a is_b ∙ join_one O d (num_at name_width 0 a) A.t B.t) ∙ sized_one (num_at name_width 0 a) (answer O d A.t B.t)

  abbrev pub in_entries : Inner (of_fields O d) (fields_at l 1 0 a) (fields_at l 1 0 b) (length a) (length b) n (of_types O d) name_width
      (type_at l (behind name_width a)) (type_at l (behind name_width b))
  in_entries =
      record {
        mk = λ t. field (num_at name_width 0 a) t no_fields;
        x = A.t;
        y = B.t;
        read_a = P.read_a ∙ ap some is_a;
        read_b = P.read_b ∙ ap some is_b;
        part_a = A.first;
        part_b = B.first;
        in_a = omega (arith, A.fits, sized_one (num_at name_width 0 a) A.t);
        in_b = omega (arith, B.fits, sized_one (num_at name_width 0 a) B.t);
        longer = sized_one (num_at name_width 0 a);
        joins = join_one O d (num_at name_width 0 a) A.t B.t;
        room = omega (arith, P.room, sized_both);
        cap = omega (arith, P.cap, sized_both);
      }

  -- the name has room
  pub name_fits : (name_width ≤ length a) × (name_width ≤ length b) × (name_width ≤ n)
  name_fits = (omega (arith, A.fits), omega (arith, B.fits), omega (arith, P.room, sized_both))

  -- the name was copied
  module _ (old xs : List ℕ) (en : n ≡ length old) (ex : xs ≡ over 0 (bytes name_width (num_at name_width 0 a)) old) where
    name_first : xs ≡ onto (bytes name_width (num_at name_width 0 a)) old
    name_first = ex ∙ over_onto [] (bytes name_width (num_at name_width 0 a)) old old 0 (sym (onto_nil old)) refl (omega arith)

    pub name_length : length xs ≡ n
    name_length = ap length name_first ∙ length_onto (bytes name_width (num_at name_width 0 a)) old (omega (arith, name_fits, length_bytes name_width (num_at name_width 0 a))) ∙ sym en

    pub entry_done : (ys : List ℕ) (i j w : ℕ) → Combined (of_types O d) (type_at l (behind name_width a)) (type_at l (behind name_width b)) (behind name_width xs) ys i j w
        → Combined (of_fields O d) (fields_at l 1 0 a) (fields_at l 1 0 b) old (put_mid name_width (length xs - name_width) xs ys) (i + name_width) (j + name_width) (w + name_width)
    entry_done ys i j w h =
        let g = inner_wrote in_entries (behind name_width xs) ys i j w h in
        let N = bytes name_width (num_at name_width 0 a) in
        let U = answer O d A.t B.t in
        let text : N ++ enc U ≡ enc_fields (field (num_at name_width 0 a) U no_fields)
        = ap (λ (z : List ℕ). N ++ z) (sym (append-nil (enc U)) ∙ ap (λ (z : List ℕ). enc U ++ z) (sym enc_none)) ∙ sym (enc_field (num_at name_width 0 a) U no_fields) in
        inner_done in_entries (behind name_width xs) ys i j w h old _
        (back N (enc U) old xs ys name_width name_first (length_bytes name_width (num_at name_width 0 a)) (omega (arith, name_fits, en)) g.out ∙ ap (λ (z : List ℕ). onto z old) text)

-- ---- the loop
pub record FieldsInv (O : Order) (d : Dir) (l : ℕ) (a : List ℕ) (n : ℕ) (b : List ℕ) (m : ℕ) (old out : List ℕ) (at i bt j to k : ℕ) : Type 0 where
  -- those of the order
  pub ends : Ends O
  -- the entries of both, and those that are left
  pub all_a : Fields
  pub all_b : Fields
  pub fs : Fields
  pub gs : Fields
  pub least_a : ℕ
  pub least_b : ℕ
  -- what was written
  pub done : List ℕ
  pub whole_a : fields_at l n 0 a ≡ some all_a
  pub whole_b : fields_at l m 0 b ≡ some all_b
  pub below_a : i ≤ n
  pub below_b : j ≤ m
  pub cap : size_fields (answer_fields O d all_a all_b) ≤ most_answer
  pub in_a : at ≤ length a
  pub in_b : bt ≤ length b
  pub read_a : fields_at l (n - i) least_a (drop at a) ≡ some fs
  pub read_b : fields_at l (m - j) least_b (drop bt b) ≡ some gs
  pub size_a : at + size_fields fs ≡ size_fields all_a
  pub size_b : bt + size_fields gs ≡ size_fields all_b
  pub text : done ++ enc_fields (answer_fields O d fs gs) ≡ enc_fields (answer_fields O d all_a all_b)
  pub many : k + count_fields (answer_fields O d fs gs) ≡ count_fields (answer_fields O d all_a all_b)
  pub long : length done ≡ to
  pub room : to + size_fields (answer_fields O d fs gs) ≤ length old
  pub out_len : length out ≡ length old
  pub state : out ≡ onto done old

-- the next name of each, as `next_name` answers it
pub record Peeked (a : List ℕ) (n : ℕ) (b : List ℕ) (m at i bt j x y : ℕ) : Type 0 where
  pub first : x ≡ cond (ltb i n) (num_at name_width at a) name_end
  pub second : y ≡ cond (ltb j m) (num_at name_width bt b) name_end
  pub low : x ≤ name_end
  pub low2 : y ≤ name_end

pub peeked : {a : List ℕ} {n : ℕ} {b : List ℕ} {m at i bt j x y : ℕ}
    → record { value : x ≡ cond (ltb i n) (num_at name_width at a) name_end; upper_bound : (x ≤ name_end) × (i < n → x < name_end) }
    → record { value : y ≡ cond (ltb j m) (num_at name_width bt b) name_end; upper_bound : (y ≤ name_end) × (j < m → y < name_end) }
    → Peeked a n b m at i bt j x y
peeked p q = record { first = p.value; second = q.value; low = p.upper_bound.0; low2 = q.upper_bound.0 }

pub fields_start : {O : Order} → Ends O → (d : Dir) (l : ℕ) (a : List ℕ) (n : ℕ) (b : List ℕ) (m : ℕ) (old : List ℕ) → Ready (of_fields O d) (fields_at l n 0 a) (fields_at l m 0 b) (length old)
    → FieldsInv O d l a n b m old old 0 0 0 0 0 0
fields_start {O} L d l a n b m old p = go (both (of_fields O d) (fields_at l n 0 a) (fields_at l m 0 b) (length old) p)
  where
    go : Both (of_fields O d) (fields_at l n 0 a) (fields_at l m 0 b) (length old) → FieldsInv O d l a n b m old old 0 0 0 0 0 0
    go K =
        let en : n - 0 ≡ n = omega arith in
        let em : m - 0 ≡ m = omega arith in
        record {
          ends = L;
          all_a = K.t;
          all_b = K.u;
          fs = K.t;
          gs = K.u;
          least_a = 0;
          least_b = 0;
          done = [];
          whole_a = K.read_a;
          whole_b = K.read_b;
          below_a = omega arith;
          below_b = omega arith;
          cap = K.cap;
          in_a = omega arith;
          in_b = omega arith;
          read_a = ap (λ (z : ℕ). fields_at l z 0 a) en ∙ K.read_a;
          read_b = ap (λ (z : ℕ). fields_at l z 0 b) em ∙ K.read_b;
          size_a = omega arith;
          size_b = omega arith;
          text = refl;
          many = omega arith;
          long = refl;
          room = omega (arith, K.room);
          out_len = refl;
          state = sym (onto_nil old);
        }

module _ {O : Order} {d : Dir} {l : ℕ} {a : List ℕ} {n : ℕ} {b : List ℕ} {m : ℕ} {old out : List ℕ} {at i bt j to k : ℕ} (v : FieldsInv O d l a n b m old out at i bt j to k) where
  pub entry_a : i < n → Here l (n - (i + 1)) at v.least_a a v.fs
  entry_a h = here l i n at v.least_a a v.fs h v.read_a

  pub entry_b : j < m → Here l (m - (j + 1)) bt v.least_b b v.gs
  entry_b h = here l j m bt v.least_b b v.gs h v.read_b

  pub peek_a : i < n → at + name_width ≤ length a
  peek_a h = (entry_a h).two

  pub peek_b : j < m → bt + name_width ≤ length b
  peek_b h = (entry_b h).two

  pub to_fits : to ≤ length out
  to_fits = omega (arith, v.room, v.out_len)

  -- ---- the entries that are left behind a turn
  pub record Rest (at' i' bt' j' : ℕ) (fs' gs' : Fields) : Type 0 where
    pub least_a : ℕ
    pub least_b : ℕ
    pub below_a : i' ≤ n
    pub below_b : j' ≤ m
    pub in_a : at' ≤ length a
    pub in_b : bt' ≤ length b
    pub read_a : fields_at l (n - i') least_a (drop at' a) ≡ some fs'
    pub read_b : fields_at l (m - j') least_b (drop bt' b) ≡ some gs'
    pub size_a : at' + size_fields fs' ≡ size_fields v.all_a
    pub size_b : bt' + size_fields gs' ≡ size_fields v.all_b

  rest_a : i < n → (A : Here l (n - (i + 1)) at v.least_a a v.fs) (z : ℕ) → z ≡ size A.x + name_width → Rest (at + z) (i + 1) bt j A.more v.gs
  rest_a h A z e =
      let p : at + name_width + size A.x ≡ at + z = omega arith in
      record {
        least_a = suc A.name;
        least_b = v.least_b;
        below_a = omega arith;
        below_b = v.below_b;
        in_a = omega (arith, A.fits);
        in_b = v.in_b;
        read_a = ap (λ (x : ℕ). fields_at l (n - (i + 1)) (suc A.name) (drop x a)) (sym p) ∙ A.second;
        read_b = v.read_b;
        size_a = omega (arith, v.size_a, A.sized);
        size_b = v.size_b;
      }

  rest_b : j < m → (B : Here l (m - (j + 1)) bt v.least_b b v.gs) (z : ℕ) → z ≡ size B.x + name_width → Rest at i (bt + z) (j + 1) v.fs B.more
  rest_b h B z e =
      let p : bt + name_width + size B.x ≡ bt + z = omega arith in
      record {
        least_a = v.least_a;
        least_b = suc B.name;
        below_a = v.below_a;
        below_b = omega arith;
        in_a = v.in_a;
        in_b = omega (arith, B.fits);
        read_a = v.read_a;
        read_b = ap (λ (x : ℕ). fields_at l (m - (j + 1)) (suc B.name) (drop x b)) (sym p) ∙ B.second;
        size_a = v.size_a;
        size_b = omega (arith, v.size_b, B.sized);
      }

  rest_both : {at' i' bt' j' : ℕ} {fs' gs' : Fields} → Rest at' i' bt j fs' v.gs → Rest at i bt' j' v.fs gs' → Rest at' i' bt' j' fs' gs'
  rest_both P Q =
      record {
        least_a = P.least_a;
        least_b = Q.least_b;
        below_a = P.below_a;
        below_b = Q.below_b;
        in_a = P.in_a;
        in_b = Q.in_b;
        read_a = P.read_a;
        read_b = Q.read_b;
        size_a = P.size_a;
        size_b = Q.size_b;
      }

  -- ---- the piece F of the answer is written, and leaves fs' and gs'
  module _ {F R : Fields} (P : Piece (answer_fields O d v.fs v.gs) F R) where
    piece_room : size_fields F ≤ length (behind to out)
    piece_room = omega (arith, v.room, v.out_len, P.sized, length_rest out to)

    piece_cap : k + count_fields F ≤ most_answer
    piece_cap = omega (arith, v.many, v.cap, P.many, count_size (answer_fields O d v.all_a v.all_b))

    piece_small : size_fields F ≤ most_answer
    piece_small = omega (
      arith,
      v.cap,
      P.sized,
      ap length v.text,
      length-append v.done (enc_fields (answer_fields O d v.fs v.gs)),
      length_fields (answer_fields O d v.fs v.gs),
      length_fields (answer_fields O d v.all_a v.all_b),
    )

  advance : {F fs' gs' : Fields} → Piece (answer_fields O d v.fs v.gs) F (answer_fields O d fs' gs') → {at' i' bt' j' : ℕ} → Rest at' i' bt' j' fs' gs'
      → (ns : List ℕ) (w c : ℕ) → w ≡ size_fields F → c ≡ count_fields F → ns ≡ onto (enc_fields F) (behind to out)
      → length ns ≡ length (behind to out) → FieldsInv O d l a n b m old (put_mid to (length out - to) out ns) at' i' bt' j' (to + w) (k + c)
  advance {F} {fs'} {gs'} P R ns w c ew ec en el =
      let s = to_fits in
      record {
        ends = v.ends;
        all_a = v.all_a;
        all_b = v.all_b;
        fs = fs';
        gs = gs';
        least_a = R.least_a;
        least_b = R.least_b;
        done = v.done ++ enc_fields F;
        whole_a = v.whole_a;
        whole_b = v.whole_b;
        below_a = R.below_a;
        below_b = R.below_b;
        cap = v.cap;
        in_a = R.in_a;
        in_b = R.in_b;
        read_a = R.read_a;
        read_b = R.read_b;
        size_a = R.size_a;
        size_b = R.size_b;
        text = append_assoc v.done (enc_fields F) (enc_fields (answer_fields O d fs' gs')) ∙ ap (λ (x : List ℕ). v.done ++ x) (sym P.text) ∙ v.text;
        many = omega (arith, v.many, P.many);
        long = length-append v.done (enc_fields F) ∙ omega (arith, v.long, length_fields F);
        room = omega (arith, v.room, P.sized);
        out_len = back_length to out ns el ∙ v.out_len;
        state = back v.done (enc_fields F) old out ns to v.state v.long (omega (arith, v.out_len)) en;
      }

  -- nothing is written, and fs' and gs' are left
  pass : {at' i' bt' j' : ℕ} {fs' gs' : Fields} → Rest at' i' bt' j' fs' gs' → answer_fields O d v.fs v.gs ≡ answer_fields O d fs' gs' → FieldsInv O d l a n b m old out at' i' bt' j' to k
  pass {at'} {i'} {bt'} {j'} {fs'} {gs'} R s =
      record {
        ends = v.ends;
        all_a = v.all_a;
        all_b = v.all_b;
        fs = fs';
        gs = gs';
        least_a = R.least_a;
        least_b = R.least_b;
        done = v.done;
        whole_a = v.whole_a;
        whole_b = v.whole_b;
        below_a = R.below_a;
        below_b = R.below_b;
        cap = v.cap;
        in_a = R.in_a;
        in_b = R.in_b;
        read_a = R.read_a;
        read_b = R.read_b;
        size_a = R.size_a;
        size_b = R.size_b;
        text = ap (λ (x : Fields). v.done ++ enc_fields x) (sym s) ∙ v.text;
        many = ap (λ (x : Fields). k + count_fields x) (sym s) ∙ v.many;
        long = v.long;
        room = omega (arith, v.room, ap size_fields s);
        out_len = v.out_len;
        state = v.state;
      }

  module _ {x y : ℕ} (pk : Peeked a n b m at i bt j x y) where
    name_a : x < name_end → (i < n) × (x ≡ num_at name_width at a)
    name_a h = next_is i n (num_at name_width at a) x pk.first h

    name_b : y < name_end → (j < m) × (y ≡ num_at name_width bt b)
    name_b h = next_is j m (num_at name_width bt b) y pk.second h

    pub more_a : x < name_end → i < n
    more_a h = (name_a h).0

    pub more_b : y < name_end → j < m
    more_b h = (name_b h).0

    -- both are at their ends
    pub fields_done : n ≤ i → m ≤ j → Combined (of_fields O d) (fields_at l n 0 a) (fields_at l m 0 b) old out at bt to × Counted O d (fields_at l n 0 a) (fields_at l m 0 b) k
    fields_done h g =
        let ef = gone l i n at v.least_a a v.fs h v.read_a in
        let eg = gone l j m bt v.least_b b v.gs g v.read_b in
        let s : answer_fields O d v.fs v.gs ≡ no_fields = ap₂ (answer_fields O d) ef eg ∙ fields_none O d in
        let te : v.done ≡ enc_fields (answer_fields O d v.all_a v.all_b) = sym (append-nil v.done) ∙ ap (λ (z : List ℕ). v.done ++ z) (sym (ap enc_fields s ∙ enc_none)) ∙ v.text in (
          is_combined (of_fields O d) _ _ v.all_a v.all_b old out at bt to v.whole_a v.whole_b
              (record {
                one = omega (arith, v.size_a, ap size_fields ef, size_none);
                two = omega (arith, v.size_b, ap size_fields eg, size_none);
                long = omega (arith, v.long, ap length te, length_fields (answer_fields O d v.all_a v.all_b));
                out = v.state ∙ ap (λ (z : List ℕ). onto z old) te;
              }),
          is_counted O d _ _ v.all_a v.all_b k v.whole_a v.whole_b (omega (arith, v.many, ap count_fields s, count_none)),
        )

    -- ---- the next entry of the first, alone
    module _ (q : x < y) where
      abbrev HA : Here l (n - (i + 1)) at v.least_a a v.fs
      HA = entry_a (more_a (omega (arith, pk.low2)))

      piece_a : Piece (answer_fields O d v.fs v.gs) (answer_fields O d (field HA.name HA.x no_fields) no_fields) (answer_fields O d HA.more v.gs)
      piece_a = go HA
        where
          go : (HA : Here l (n - (i + 1)) at v.least_a a v.fs) → Piece (answer_fields O d v.fs v.gs) (answer_fields O d (field HA.name HA.x no_fields) no_fields) (answer_fields O d HA.more v.gs)
          go HA =
              let w : AscFields v.gs (suc HA.name) = ahead l j m bt v.least_b b v.gs v.read_b HA.name y pk.second (omega (arith, HA.named, (name_a (omega (arith, pk.low2))).1)) in
              subst (λ (f : Fields). Piece (answer_fields O d f v.gs) (answer_fields O d (field HA.name HA.x no_fields) no_fields) (answer_fields O d HA.more v.gs)) (sym HA.is)
              (piece_first O d HA.name HA.x HA.more v.gs HA.asc w)

      -- passed over
      module _ (z : ℕ) (e : z ≡ size_at (type_at l (behind (at + name_width) a))) where
        pub over_a_fits : at + (name_width + z) ≤ length a
        over_a_fits = omega (arith, HA.fits, skipped l a (at + name_width) z HA.x e HA.first)

        pub over_a : d ≡ up → FieldsInv O d l a n b m old out (at + (name_width + z)) (i + 1) bt j to k
        over_a u = go HA
          where
            go : (HA : Here l (n - (i + 1)) at v.least_a a v.fs) → FieldsInv O d l a n b m old out (at + (name_width + z)) (i + 1) bt j to k
            go HA =
                let w : AscFields v.gs (suc HA.name) = ahead l j m bt v.least_b b v.gs v.read_b HA.name y pk.second (omega (arith, HA.named, (name_a (omega (arith, pk.low2))).1)) in
                pass (rest_a (more_a (omega (arith, pk.low2))) HA (name_width + z) (omega (arith, skipped l a (at + name_width) z HA.x e HA.first)))
                (ap (λ (f : Fields). answer_fields O d f v.gs) HA.is ∙ over_first O d u HA.name HA.x HA.more v.gs w)

      -- taken with itself
      pub a_ready : Ready (of_fields O d) (fields_at l 1 0 (behind at a)) no_entry (length (behind to out))
      a_ready = ready (of_fields O d) _ _ (field HA.name HA.x no_fields) no_fields _ (part l HA) refl (piece_room piece_a) (piece_small piece_a)

      module _ (ns : List ℕ) (e f w c : ℕ) (h : Combined (of_fields O d) (fields_at l 1 0 (behind at a)) no_entry (behind to out) ns e f w)
          (g : Counted O d (fields_at l 1 0 (behind at a)) no_entry c) where
        a_wrote : Wrote (of_fields O d) (field HA.name HA.x no_fields) no_fields (behind to out) ns e f w
        a_wrote = combined_is (of_fields O d) _ _ (field HA.name HA.x no_fields) no_fields (behind to out) ns e f w (part l HA) refl h

        a_count : c ≡ count_fields (answer_fields O d (field HA.name HA.x no_fields) no_fields)
        a_count = counted_is O d _ _ (field HA.name HA.x no_fields) no_fields c (part l HA) refl g

        pub a_ends : (at + e ≤ length a) × (to + w ≤ length out) × (k + c ≤ most_answer)
        a_ends = (
          omega (arith, a_wrote.one, sized_one HA.name HA.x, HA.fits),
          omega (arith, a_wrote.long, piece_room piece_a, length_rest out to, to_fits),
          omega (arith, a_count, piece_cap piece_a),
        )

        pub a_next : length ns ≡ length (behind to out) → FieldsInv O d l a n b m old (put_mid to (length out - to) out ns) (at + e) (i + 1) bt j (to + w) (k + c)
        a_next = advance piece_a (rest_a (more_a (omega (arith, pk.low2))) HA e (a_wrote.one ∙ sized_one HA.name HA.x)) ns w c a_wrote.long a_count a_wrote.out

    -- ---- the next entry of the second, alone
    module _ (q : y < x) where
      abbrev HB : Here l (m - (j + 1)) bt v.least_b b v.gs
      HB = entry_b (more_b (omega (arith, pk.low)))

      piece_b : Piece (answer_fields O d v.fs v.gs) (answer_fields O d (field HB.name HB.x no_fields) no_fields) (answer_fields O d v.fs HB.more)
      piece_b = go HB
        where
          go : (HB : Here l (m - (j + 1)) bt v.least_b b v.gs) → Piece (answer_fields O d v.fs v.gs) (answer_fields O d (field HB.name HB.x no_fields) no_fields) (answer_fields O d v.fs HB.more)
          go HB =
              let w : AscFields v.fs (suc HB.name) = ahead l i n at v.least_a a v.fs v.read_a HB.name x pk.first (omega (arith, HB.named, (name_b (omega (arith, pk.low))).1)) in
              subst (λ (f : Fields). Piece (answer_fields O d v.fs f) (answer_fields O d (field HB.name HB.x no_fields) no_fields) (answer_fields O d v.fs HB.more)) (sym HB.is)
              (piece_second O d HB.name HB.x v.fs HB.more w)

      -- passed over
      module _ (z : ℕ) (e : z ≡ size_at (type_at l (behind (bt + name_width) b))) where
        pub over_b_fits : bt + (name_width + z) ≤ length b
        over_b_fits = omega (arith, HB.fits, skipped l b (bt + name_width) z HB.x e HB.first)

        pub over_b : d ≡ up → FieldsInv O d l a n b m old out at i (bt + (name_width + z)) (j + 1) to k
        over_b u = go HB
          where
            go : (HB : Here l (m - (j + 1)) bt v.least_b b v.gs) → FieldsInv O d l a n b m old out at i (bt + (name_width + z)) (j + 1) to k
            go HB =
                let w : AscFields v.fs (suc HB.name) = ahead l i n at v.least_a a v.fs v.read_a HB.name x pk.first (omega (arith, HB.named, (name_b (omega (arith, pk.low))).1)) in
                pass (rest_b (more_b (omega (arith, pk.low))) HB (name_width + z) (omega (arith, skipped l b (bt + name_width) z HB.x e HB.first)))
                (ap (λ (f : Fields). answer_fields O d v.fs f) HB.is ∙ over_second O d u HB.name HB.x v.fs HB.more w)

      -- taken with itself
      pub b_ready : Ready (of_fields O d) (fields_at l 1 0 (behind bt b)) no_entry (length (behind to out))
      b_ready = ready (of_fields O d) _ _ (field HB.name HB.x no_fields) no_fields _ (part l HB) refl (piece_room piece_b) (piece_small piece_b)

      module _ (ns : List ℕ) (e f w c : ℕ) (h : Combined (of_fields O d) (fields_at l 1 0 (behind bt b)) no_entry (behind to out) ns e f w)
          (g : Counted O d (fields_at l 1 0 (behind bt b)) no_entry c) where
        b_wrote : Wrote (of_fields O d) (field HB.name HB.x no_fields) no_fields (behind to out) ns e f w
        b_wrote = combined_is (of_fields O d) _ _ (field HB.name HB.x no_fields) no_fields (behind to out) ns e f w (part l HB) refl h

        b_count : c ≡ count_fields (answer_fields O d (field HB.name HB.x no_fields) no_fields)
        b_count = counted_is O d _ _ (field HB.name HB.x no_fields) no_fields c (part l HB) refl g

        pub b_ends : (bt + e ≤ length b) × (to + w ≤ length out) × (k + c ≤ most_answer)
        b_ends = (
          omega (arith, b_wrote.one, sized_one HB.name HB.x, HB.fits),
          omega (arith, b_wrote.long, piece_room piece_b, length_rest out to, to_fits),
          omega (arith, b_count, piece_cap piece_b),
        )

        pub b_next : length ns ≡ length (behind to out) → FieldsInv O d l a n b m old (put_mid to (length out - to) out ns) at i (bt + e) (j + 1) (to + w) (k + c)
        b_next = advance piece_b (rest_b (more_b (omega (arith, pk.low))) HB e (b_wrote.one ∙ sized_one HB.name HB.x)) ns w c b_wrote.long b_count b_wrote.out

    -- ---- the next entry of each, with the same name
    module _ (p : y ≤ x) (q : x ≤ y) (r : x ≡ name_end → ⊥) where
      less : x < name_end
      less = omega (arith, pk.low)

      abbrev TA : Here l (n - (i + 1)) at v.least_a a v.fs
      TA = entry_a (more_a less)

      abbrev TB : Here l (m - (j + 1)) bt v.least_b b v.gs
      TB = entry_b (more_b (omega (arith, less)))

      same_names : TA.name ≡ TB.name
      same_names = omega (arith, TA.named, TB.named, (name_a less).1, (name_b (omega (arith, less))).1)

      piece_c : Piece (answer_fields O d v.fs v.gs) (answer_fields O d (field TA.name TA.x no_fields) (field TB.name TB.x no_fields)) (answer_fields O d TA.more TB.more)
      piece_c = go TA TB same_names
        where
          go : (TA : Here l (n - (i + 1)) at v.least_a a v.fs) (TB : Here l (m - (j + 1)) bt v.least_b b v.gs) → TA.name ≡ TB.name
              → Piece (answer_fields O d v.fs v.gs) (answer_fields O d (field TA.name TA.x no_fields) (field TB.name TB.x no_fields)) (answer_fields O d TA.more TB.more)
          go TA TB e =
              rw (TA.is, TB.is) (subst (λ (z : ℕ). Piece (answer_fields O d (field TA.name TA.x TA.more) (field z TB.x TB.more))
              (answer_fields O d (field TA.name TA.x no_fields) (field z TB.x no_fields))
              (answer_fields O d TA.more TB.more)) e (piece_both O d TA.name TA.x TB.x TA.more TB.more TA.asc))

      pub both_ready : Ready (of_fields O d) (fields_at l 1 0 (behind at a)) (fields_at l 1 0 (behind bt b)) (length (behind to out))
      both_ready = ready (of_fields O d) _ _ (field TA.name TA.x no_fields) (field TB.name TB.x no_fields) _ (part l TA) (part l TB) (piece_room piece_c) (piece_small piece_c)

      pub both_names : num_at name_width 0 (behind at a) ≡ num_at name_width 0 (behind bt b)
      both_names = part_name l TA ∙ same_names ∙ sym (part_name l TB)

      module _ (ns : List ℕ) (e f w : ℕ) (h : Combined (of_fields O d) (fields_at l 1 0 (behind at a)) (fields_at l 1 0 (behind bt b)) (behind to out) ns e f w) where
        both_wrote : Wrote (of_fields O d) (field TA.name TA.x no_fields) (field TB.name TB.x no_fields) (behind to out) ns e f w
        both_wrote = combined_is (of_fields O d) _ _ (field TA.name TA.x no_fields) (field TB.name TB.x no_fields) (behind to out) ns e f w (part l TA) (part l TB) h

        both_count : 1 ≡ count_fields (answer_fields O d (field TA.name TA.x no_fields) (field TB.name TB.x no_fields))
        both_count =
            let one = ap (λ (z : ℕ). answer_fields O d (field TA.name TA.x no_fields) (field z TB.x no_fields)) (sym same_names) ∙ join_one O d TA.name TA.x TB.x in
            omega (arith, ap count_fields one, count_field TA.name (answer O d TA.x TB.x) no_fields, count_none)

        pub both_ends : (at + e ≤ length a) × (bt + f ≤ length b) × (to + w ≤ length out) × (k + 1 ≤ most_answer)
        both_ends = (
          omega (arith, both_wrote.one, sized_one TA.name TA.x, TA.fits),
          omega (arith, both_wrote.two, sized_one TB.name TB.x, TB.fits),
          omega (arith, both_wrote.long, piece_room piece_c, length_rest out to, to_fits),
          omega (arith, both_count, piece_cap piece_c),
        )

        pub both_next : length ns ≡ length (behind to out) → FieldsInv O d l a n b m old (put_mid to (length out - to) out ns) (at + e) (i + 1) (bt + f) (j + 1) (to + w) (k + 1)
        both_next = advance piece_c
            (rest_both (rest_a (more_a less) TA e (both_wrote.one ∙ sized_one TA.name TA.x)) (rest_b (more_b (omega (arith, less))) TB f (both_wrote.two ∙ sized_one TB.name TB.x)))
            ns w 1 both_wrote.long both_count
            both_wrote.out
