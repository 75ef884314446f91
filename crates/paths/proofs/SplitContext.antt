-- A context split at a name: the entries below it, its own, and those above it; on trees and in the bytes.
-- Index: `split_some`, `split_none`, `enc_joined`, `count_joined`, `value_well`, `value_level`, `from_well` (on trees); `Around`, `around_some`, `around_none`, `part_some`, `child_whole`
-- (in the bytes); `text_context`, `text_entries`, `well_context`, `well_entries`, `count_context` (a context that was read).
-- Assumes nothing.
use Prim.Native.Nat.{ℕ, suc, ◌+◌, ◌-◌, ◌<◌, ◌≤◌}
use native.Mathlib.Omega.{arith}
use mathlib.Core.Path.{◌≡◌, refl, sym, ap, ap₂, subst, ◌∙◌}
use mathlib.Core.Bool.{Bool, true, false, cond}
use mathlib.Core.Option.{Option, none, some}
use mathlib.Core.List.{List, [], ◌++◌, append_assoc, append-nil}
use lib.ListN.{length, take, drop, length-append, length-drop}
use lib.Seq.{take_at, drop_at, drop-drop}
use lib.Dec.{ltb, eqb}
use borrow.Author.Tests.{lt-ltb, le-ltb, ltb-true, ltb-false}
use Rattle.form.specs.Limits.{name_width}
use Rattle.form.specs.Trees.{Val, v_context, Entries, no_entries, entry}
use Rattle.form.specs.Form.{bytes, num, num_at, Bytes, enc_v, enc_entries, count_entries, level_v, level_entries, WfV, WfEntries}
use Rattle.form.specs.Read.{got, read_v}
use Rattle.form.proofs.Accepted.{found_whole}
use Rattle.form.proofs.First.{length_front}
use Rattle.form.proofs.Exact.{Found}
use Rattle.form.proofs.ExactValues.{enc_read_v, read_enc_v}
use Rattle.form.proofs.Numbers.{length_bytes, num_bytes}
use Rattle.order.specs.Size.{size_val, size_entries}
use Rattle.order.proofs.LeastSize.{length_enc_v, length_entries}
use Rattle.paths.specs.Paths.{value_of, below, above, entry_place}
use Rattle.paths.specs.Places.{whole_at}
use Rattle.paths.proofs.Whole.{is_whole, context_read, Ctx}
use Rattle.paths.proofs.OneName.{value_first, value_later, value_absent, below_more, below_none}
use Rattle.values.proofs.Reading.{From, from_none, from_entry, from_less}
use Rattle.form.proofs.Options.{none_some, some_same}

-- ---- on trees
-- the entries of both, one behind the other
unfoldable pub joined : Entries → Entries → Entries
joined no_entries b = b
joined (entry m v a) b = entry m v (joined a b)

-- the entry of n in front, where it has a value
abbrev put : ℕ → Option Val → Entries → Entries
put n none es = es
put n (some x) es = entry n x es

pub from_well : (es : Entries) (k : ℕ) → WfEntries es k → From k es
unfolding WfEntries
from_well no_entries k w = from_none k
from_well (entry m v es) k w = from_entry k m v es w.0 (from_less (m + 1) k es (omega (arith, w.0)) (from_well es (m + 1) w.1.1.1))

above_here : (n m : ℕ) (v : Val) (es : Entries) → n < m → above n (entry m v es) ≡ entry m v es
unfolding above
above_here n m v es h = ap (λ q. cond q (entry m v es) (above n es)) (lt-ltb n m h)

above_later : (n m : ℕ) (v : Val) (es : Entries) → m ≤ n → above n (entry m v es) ≡ above n es
unfolding above
above_later n m v es h = ap (λ q. cond q (entry m v es) (above n es)) (le-ltb n m h)

-- all of them are above n
above_all : (n k : ℕ) (es : Entries) → WfEntries es k → n < k → above n es ≡ es
unfolding above WfEntries
above_all n k no_entries w h = refl
above_all n k (entry m v es) w h = above_here n m v es (omega (arith, w.0))

split : (n k : ℕ) (es : Entries) → WfEntries es k → es ≡ joined (below n es) (put n (value_of n es) (above n es))
unfolding joined below above value_of WfEntries
split n k no_entries w = refl
split n k (entry m v es) w = go w.1.1.1 (split n (m + 1) es w.1.1.1) (ltb m n) (ltb n m) refl refl
  where
    go : WfEntries es (m + 1) → es ≡ joined (below n es) (put n (value_of n es) (above n es)) → (p q : Bool) → ltb m n ≡ p → ltb n m ≡ q
        → entry m v es ≡ joined (below n (entry m v es)) (put n (value_of n (entry m v es)) (above n (entry m v es)))
    go more ih true q hp hq =
        let h = ltb-true m n hp in
        let d : n ≡ m → ⊥ = λ e. omega arith in
        let a : put n (value_of n (entry m v es)) (above n (entry m v es)) ≡ put n (value_of n es) (above n es) = ap₂ (put n) (value_later n m v es d) (above_later n m v es (omega arith)) in
        ap (entry m v) ih ∙ sym (ap₂ joined (below_more n m v es h) a)
    go more ih false true hp hq =
        let h = ltb-true n m hq in
        let d : n ≡ m → ⊥ = λ e. omega arith in
        let a : put n (value_of n (entry m v es)) (above n (entry m v es)) ≡ entry m v es = ap₂ (put n)
        (value_later n m v es d ∙ value_absent n (m + 1) es (from_well es (m + 1) more) (omega arith)) (above_here n m v es h) in
        sym (ap₂ joined (below_none n m v es (omega arith)) a)
    go more ih false false hp hq =
        let i = ltb-false m n hp in
        let j = ltb-false n m hq in
        let e : n ≡ m = omega arith in
        let a : value_of n (entry m v es) ≡ some v = ap (λ z. value_of n (entry z v es)) (sym e) ∙ value_first n v es in
        let b : above n (entry m v es) ≡ es = above_later n m v es j ∙ above_all n (m + 1) es more (omega arith) in
        let c : put n (value_of n (entry m v es)) (above n (entry m v es)) ≡ entry m v es = ap₂ (put n) a b ∙ ap (λ z. entry z v es) e in
        sym (ap₂ joined (below_none n m v es i) c)

pub split_some : (n k : ℕ) (x : Val) (es : Entries) → WfEntries es k → value_of n es ≡ some x → es ≡ joined (below n es) (entry n x (above n es))
split_some n k x es w e = split n k es w ∙ ap (λ o. joined (below n es) (put n o (above n es))) e

pub split_none : (n k : ℕ) (es : Entries) → WfEntries es k → value_of n es ≡ none → es ≡ joined (below n es) (above n es)
split_none n k es w e = split n k es w ∙ ap (λ o. joined (below n es) (put n o (above n es))) e

pub enc_joined : (a b : Entries) → enc_entries (joined a b) ≡ enc_entries a ++ enc_entries b
unfolding joined enc_entries
enc_joined no_entries b = refl
enc_joined (entry m v a) b =
    ap (λ z. bytes name_width m ++ (enc_v v ++ z)) (enc_joined a b)
    ∙ ap (λ z. bytes name_width m ++ z) (sym (append_assoc (enc_v v) (enc_entries a) (enc_entries b)))
    ∙ sym (append_assoc (bytes name_width m) (enc_v v ++ enc_entries a) (enc_entries b))

pub count_joined : (a b : Entries) → count_entries (joined a b) ≡ count_entries a + count_entries b
unfolding joined count_entries
count_joined no_entries b = omega arith
count_joined (entry m v a) b = omega (arith, count_joined a b)

-- a value of a well-formed context is well-formed, and lower than the context
pub value_well : (n k : ℕ) (x : Val) (es : Entries) → WfEntries es k → value_of n es ≡ some x → WfV x
unfolding value_of WfEntries
value_well n k x no_entries w e = absurd (none_some e)
value_well n k x (entry m v es) w e = go (value_well n (m + 1) x es w.1.1.1) (eqb n m) e
  where
    go : (value_of n es ≡ some x → WfV x) → (q : Bool) → cond q (some v) (value_of n es) ≡ some x → WfV x
    go ih true h = subst WfV (some_same h) w.1.1.0
    go ih false h = ih h

pub value_level : (n : ℕ) (x : Val) (es : Entries) → value_of n es ≡ some x → level_v x ≤ level_entries es
unfolding value_of level_entries
value_level n x no_entries e = absurd (none_some e)
value_level n x (entry m v es) e = go (value_level n x es) (eqb n m) e
  where
    go : (value_of n es ≡ some x → level_v x ≤ level_entries es) → (q : Bool) → cond q (some v) (value_of n es) ≡ some x → level_v x ≤ level_entries (entry m v es)
    go ih true h = omega (arith, ap level_v (some_same h))
    go ih false h = omega (arith, ih h)

-- ---- in the bytes
-- what stands around the entry of n, `at` being its place and `to` its end; the same where it is absent
pub record Around (n : ℕ) (s : List ℕ) (es : Entries) (at to : ℕ) : Type 0 where
  pub front : take (at - 3) (drop 3 s) ≡ enc_entries (below n es)
  pub back : drop to s ≡ enc_entries (above n es)
  pub low : 3 ≤ at
  pub ordered : at ≤ to
  pub inside : to ≤ length s

text_behind : (es : Entries) → drop 3 (enc_v (v_context es)) ≡ enc_entries es
unfolding enc_v bytes
text_behind es = refl

text_count : (es : Entries) → take 2 (drop 1 (enc_v (v_context es))) ≡ bytes 2 (count_entries es)
unfolding enc_v
text_count es = take_at (bytes 2 (count_entries es)) (enc_entries es) 2 (length_bytes 2 (count_entries es))

context_parts : (es : Entries) → WfV (v_context es) → (count_entries es < 65536) × WfEntries es 0
unfolding WfV
context_parts es w = w

context_level : (es : Entries) → level_v (v_context es) ≡ suc (level_entries es)
unfolding level_v
context_level es = refl

text_some : (n : ℕ) (x : Val) (es : Entries) → enc_entries (entry n x es) ≡ (bytes name_width n ++ enc_v x) ++ enc_entries es
unfolding enc_entries
text_some n x es = sym (append_assoc (bytes name_width n) (enc_v x) (enc_entries es))

module _ (l : ℕ) (s : List ℕ) (es : Entries) (bs : Bytes s) (C : Ctx l s es) where
  encoded_context : Found enc_v WfV level_v l s (v_context es) (length s)
  encoded_context = enc_read_v l s bs (v_context es) (length s) (context_read l s es C.read)

  pub text_context : s ≡ enc_v (v_context es)
  text_context = found_whole encoded_context

  pub well_context : WfV (v_context es)
  well_context = encoded_context.well

  pub well_entries : WfEntries es 0
  well_entries = (context_parts es well_context).1

  pub count_context : num_at 2 1 s ≡ count_entries es
  count_context = ap (num_at 2 1) text_context ∙ ap num (text_count es) ∙ num_bytes 2 (count_entries es) (context_parts es well_context).0

  pub text_entries : drop 3 s ≡ enc_entries es
  text_entries = ap (drop 3) text_context ∙ text_behind es

-- bytes in three pieces behind three others
module _ (s a b c : List ℕ) (i j : ℕ) (e : drop 3 s ≡ a ++ (b ++ c)) (p : length a ≡ i) (q : length b ≡ j) (h : 3 ≤ length s) where
  first_piece : take (3 + i - 3) (drop 3 s) ≡ a
  first_piece = let z : 3 + i - 3 ≡ i = omega arith in ap₂ take z e ∙ take_at a (b ++ c) i p

  behind_first : drop (3 + i) s ≡ b ++ c
  behind_first = sym (drop-drop i 3 s) ∙ ap (drop i) e ∙ drop_at a (b ++ c) i p

  last_piece : drop (3 + i + j) s ≡ c
  last_piece = sym (drop-drop j (3 + i) s) ∙ ap (drop j) behind_first ∙ drop_at b c j q

  pieces_inside : 3 + i + j ≤ length s
  pieces_inside = omega (arith, h, p, q, length-append a (b ++ c), length-append b c, ap length e, length-drop 3 s)

pub around_none : (l n : ℕ) (s : List ℕ) (es : Entries) → Bytes s → Ctx l s es → value_of n es ≡ none → Around n s es (entry_place n es) (entry_place n es)
around_none l n s es bs C e =
    let a = enc_entries (below n es) in
    let b = enc_entries (above n es) in
    let i = size_entries (below n es) in
    let t : drop 3 s ≡ a ++ ([] ++ b) = text_entries l s es bs C ∙ ap enc_entries (split_none n 0 es (well_entries l s es bs C) e) ∙ enc_joined (below n es) (above n es) in
    let p = length_entries (below n es) in
    record {
      front = first_piece s a [] b i 0 t p refl C.three;
      back = behind_first s a [] b i 0 t p refl C.three;
      low = omega arith;
      ordered = omega arith;
      inside = omega (arith, pieces_inside s a [] b i 0 t p refl C.three);
    }

module _ (l n : ℕ) (s : List ℕ) (es : Entries) (x : Val) (bs : Bytes s) (C : Ctx l s es) (e : value_of n es ≡ some x) where
  abbrev A : List ℕ
  A = enc_entries (below n es)

  abbrev B : List ℕ
  B = bytes name_width n ++ enc_v x

  abbrev D : List ℕ
  D = enc_entries (above n es)

  three_pieces : drop 3 s ≡ A ++ (B ++ D)
  three_pieces = text_entries l s es bs C ∙ ap enc_entries (split_some n 0 x es (well_entries l s es bs C) e) ∙ enc_joined (below n es) (entry n x (above n es))
      ∙ ap (λ z. A ++ z) (text_some n x (above n es))

  entry_length : length B ≡ name_width + size_val x
  entry_length = omega (arith, length_front name_width n (enc_v x), length_enc_v x)

  pub around_some : Around n s es (entry_place n es) (entry_place n es + name_width + size_val x)
  around_some =
      let i = size_entries (below n es) in
      let j = name_width + size_val x in
      let p = length_entries (below n es) in
      let z : 3 + i + j ≡ entry_place n es + name_width + size_val x = omega arith in
      record {
        front = first_piece s A B D i j three_pieces p entry_length C.three;
        back = ap (λ (k : ℕ). drop k s) (sym z) ∙ last_piece s A B D i j three_pieces p entry_length C.three;
        low = omega arith;
        ordered = omega arith;
        inside = omega (arith, z, pieces_inside s A B D i j three_pieces p entry_length C.three);
      }

  pub part_some : take (size_val x) (drop (entry_place n es + name_width) s) ≡ enc_v x
  part_some =
      let i = size_entries (below n es) in
      ap (take (size_val x))
      (sym (drop-drop name_width (3 + i) s)
      ∙ ap (drop name_width)
      (behind_first s A B D i (name_width + size_val x) three_pieces (length_entries (below n es)) entry_length C.three ∙ append_assoc (bytes name_width n) (enc_v x) D)
      ∙ drop_at (bytes name_width n) (enc_v x ++ D) name_width (length_bytes name_width n))
      ∙ take_at (enc_v x) D (size_val x) (length_enc_v x)

  pub child_whole : whole_at (l - 1) (take (size_val x) (drop (entry_place n es + name_width) s)) ≡ some x
  child_whole =
      let low : level_v x ≤ l - 1 = omega (arith, (encoded_context l s es bs C).low, context_level es, value_level n x es e) in
      let r : read_v (l - 1) (enc_v x) ≡ got x (length (enc_v x)) = ap (read_v (l - 1)) (sym (append-nil (enc_v x))) ∙ read_enc_v x (l - 1) [] (value_well n 0 x es (well_entries l s es bs C) e) low in
      ap (whole_at (l - 1)) part_some ∙ is_whole (l - 1) (enc_v x) x r
