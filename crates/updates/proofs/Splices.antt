-- What a cut says is changed and all else stays: that gives the bytes of the updated context.
-- Idea: induction on the path. Where the name is new or its value goes, the entry is written between those below and those above it; where the cut lies in the value,
-- the bytes around the value stay as they are.
-- Index: `length_nested` (names that are all new); `spliced_is`, `cuts_is`, `length_spliced` (the bytes behind an update); `blocked_is` (Err of apply_entries);
-- `nested_ends`, `nested_bound`, `nested_next` (`write_nested`); `count_more`, `count_kept`, `base_inside`, `front_asks`, `end_fits`, `spliced_out` (`splice`).
-- Assumes nothing.
use Prim.Native.Nat.{ℕ, zero, suc, ◌+◌, ◌-◌, ◌*◌, ◌<◌, ◌≤◌, ◌^◌, min}
use native.Mathlib.Omega.{arith}
use mathlib.Core.Path.{◌≡◌, refl, sym, ap, ap₂, subst, ◌∙◌}
use mathlib.Core.Bool.{Bool, true, false, ◌&&◌, cond}
use mathlib.Core.Option.{none, some}
use mathlib.Core.List.{List, [], ◌∷◌, ◌++◌, append_assoc, append-nil}
use lib.ListN.{length, get_or, take, drop, length-append, length-drop}
use lib.Seq.{length-take-le, take-append-le, drop-append-le, take-append-add, drop-append-add}
use lib.Dec.{eqb, ltb}
use borrow.Rule.Slice.PartMut.{put_mid}
use borrow.Author.Tests.{ne_eqb, lt-ltb, le-ltb}
use Rattle.form.specs.Limits.{name_width, name_end, most_bytes, most_names}
use Rattle.form.specs.Trees.{Val, v_context, Entries, no_entries, entry}
use Rattle.form.specs.Form.{Bytes, bytes, num, num_at, count_entries, enc_v, enc_entries, level_v, WfV, WfEntries}
use Rattle.form.specs.Options.{map}
use Rattle.form.specs.Read.{read_v}
use Rattle.form.proofs.Encoded.{bytes_enc_v}
use Rattle.form.proofs.ExactValues.{read_enc_v}
use Rattle.form.proofs.Numbers.{length_bytes}
use Rattle.order.specs.Size.{size_val}
use Rattle.order.proofs.Bools.{and_false}
use Rattle.order.proofs.LeastSize.{length_entries}
use Rattle.output.specs.Output.{fill, puts}
use Rattle.output.proofs.FillLaws.{fill_then, put_then}
use Rattle.form.proofs.Runs.{rest}
use Rattle.paths.specs.Paths.{value_of, entries_of, bind, or_empty, context_under, below, above, entry_place}
use Rattle.paths.specs.Way.{cut_here, cut_inside, cut_of}
use Rattle.paths.specs.declared.way.Cut.{Cut}
use Rattle.paths.proofs.Whole.{Ctx, ctx_of, read_context}
use Rattle.paths.proofs.SplitContext.{Around, around_none, around_some, count_context, well_entries, split_some, value_well}
use Rattle.paths.proofs.Steps.{Step, fresh, ends, stuck, inside, step, cut_new, cut_ends, cut_stuck, cut_inside_lem, some_names, longer, one_further}
use Rattle.updates.specs.Update.{insert, create, on_the_way, apply}
use Rattle.updates.specs.Writing.{begun, opened, nested, count_after, spliced, blocked, Small, Cuts}
use Rattle.updates.proofs.Formed.{count_size}
use Rattle.updates.proofs.ContextFront.{length_opened}
use Rattle.updates.proofs.PathSteps.{insert_split, count_new, count_same, text_insert}

-- ---- names that are all new
-- the value under them
unfoldable made : List ℕ → Val → Val
made [] x = x
made (n ∷ p) x = v_context (entry n (made p x) no_entries)

nested_is : (p : List ℕ) (x : Val) → nested p (enc_v x) ≡ enc_v (made p x)
unfolding nested made enc_v enc_entries count_entries
nested_is [] x = refl
nested_is (n ∷ p) x = ap (λ (z : List ℕ). (0x0B ∷ bytes 2 1) ++ (bytes name_width n ++ z)) (nested_is p x ∙ sym (append-nil (enc_v (made p x))))

made_create : (n : ℕ) (p : List ℕ) (x : Val) → v_context (create (n ∷ p) x no_entries) ≡ made (n ∷ p) x
unfolding made create insert value_of
made_create n [] x = refl
made_create n (m ∷ p) x = ap (λ z. v_context (entry n z no_entries)) (made_create m p x)

pub length_nested : (p v : List ℕ) → length (nested p v) ≡ length p * (3 + name_width) + length v
unfolding nested
length_nested [] v = omega arith
length_nested (n ∷ p) v =
    omega (arith, length_nested p v, length_bytes 2 1, length_bytes name_width n, length-append (0x0B ∷ bytes 2 1) (bytes name_width n ++ nested p v), length-append (bytes name_width n) (nested p v))

-- ---- how long
module _ (c p : List ℕ) (k : Cut) (C : Cuts c p k) where
  length_first : length (take k.base c) ≡ k.base
  length_first = length-take-le k.base c (omega (arith, C.front, C.end))

  length_front : (count name : ℕ) → length (opened count (drop k.base c) (k.at - k.base) name) ≡ k.at - k.base + name_width
  length_front count name = length_opened count (drop k.base c) (k.at - k.base) name (omega (arith, C.front)) (omega (arith, C.front, C.end, length-drop k.base c))

pub length_spliced : (c : List ℕ) (k : Cut) (p v : List ℕ) → Cuts c p k
    → length (spliced c k p v) ≡ length c - k.gone + name_width + (length p - k.names) * (3 + name_width) + length v
unfolding spliced
length_spliced c k p v C =
    let name = get_or p (k.names - 1) 0 in
    let f = opened (count_after c k) (drop k.base c) (k.at - k.base) name in
    let t = nested (drop k.names p) v in
    let b = drop (k.at + k.gone) c in
    omega (
      arith,
      C.front,
      C.end,
      length-append (take k.base c) (f ++ (t ++ b)),
      length-append f (t ++ b),
      length-append t b,
      length_first c p k C,
      length_front c p k C (count_after c k) name,
      length_nested (drop k.names p) v,
      length-drop k.names p,
      length-drop (k.at + k.gone) c,
    )

-- ---- bytes around bytes
-- the cut lies within: as `Cuts`, but the count is bounded by the bytes, which holds for any length
record Lies (c p : List ℕ) (k : Cut) : Type 0 where
  front : k.base + 3 ≤ k.at
  end : k.at + k.gone ≤ length c
  some_name : 1 ≤ k.names
  names : k.names ≤ length p
  few : count_after c k ≤ length c

pieces : {a b c d e f g h : List ℕ} → a ≡ e → b ≡ f → c ≡ g → d ≡ h → a ++ (b ++ (c ++ d)) ≡ e ++ (f ++ (g ++ h))
pieces p q r s = ap₂ (λ (x y : List ℕ). x ++ y) p (ap₂ (λ (x y : List ℕ). x ++ y) q (ap₂ (λ (x y : List ℕ). x ++ y) r s))

seam : (o a b c d e : List ℕ) → (o ++ a) ++ (b ++ (c ++ (d ++ e))) ≡ o ++ ((a ++ (b ++ (c ++ d))) ++ e)
seam o a b c d e =
    append_assoc o a (b ++ (c ++ (d ++ e)))
    ∙ ap (λ (z : List ℕ). o ++ z)
    (sym (append_assoc a (b ++ (c ++ d)) e ∙ ap (λ (z : List ℕ). a ++ z) (append_assoc b (c ++ d) e ∙ ap (λ (z : List ℕ). b ++ z) (append_assoc c d e))))

opened_front : (count : ℕ) (c t : List ℕ) (at n : ℕ) → 3 ≤ at → at ≤ length c → opened count (c ++ t) at n ≡ opened count c at n
unfolding opened begun
opened_front count c t at n l h =
    ap (λ (z : List ℕ). ((0x0B ∷ bytes 2 count) ++ z) ++ bytes name_width n)
    (ap (take (at - 3)) (drop-append-le 3 c t (omega arith)) ∙ take-append-le (at - 3) (drop 3 c) t (omega (arith, length-drop 3 c)))

later_name : (n : ℕ) (p : List ℕ) (j : ℕ) → 1 ≤ j → (get_or (n ∷ p) (j + 1 - 1) 0 ≡ get_or p (j - 1) 0) × (drop (j + 1) (n ∷ p) ≡ drop j p)
later_name n p zero h = absurd (omega arith)
later_name n p (suc j) h =
    let a : suc j + 1 - 1 ≡ suc j = omega arith in
    let b : suc j - 1 ≡ j = omega arith in
    let c : suc j + 1 ≡ suc (suc j) = omega arith in
    (ap (λ (z : ℕ). get_or (n ∷ p) z 0) a ∙ sym (ap (λ (z : ℕ). get_or p z 0) b), ap (λ (z : ℕ). drop z (n ∷ p)) c)

module _ (o f t : List ℕ) (at : ℕ) (k : Cut) (n : ℕ) (p : List ℕ) (e : length o ≡ at + name_width) (L : Lies f p k) where
  abbrev whole : List ℕ
  whole = o ++ (f ++ t)

  take_in : (i : ℕ) → i ≤ length f → take (at + name_width + i) whole ≡ o ++ take i f
  take_in i h = ap (λ (z : ℕ). take (z + i) whole) (sym e) ∙ take-append-add o (f ++ t) i ∙ ap (λ (z : List ℕ). o ++ z) (take-append-le i f t h)

  drop_in : (i : ℕ) → i ≤ length f → drop (at + name_width + i) whole ≡ drop i f ++ t
  drop_in i h = ap (λ (z : ℕ). drop (z + i) whole) (sym e) ∙ drop-append-add o (f ++ t) i ∙ drop-append-le i f t h

  count_in : count_after whole (cut_inside at k) ≡ count_after f k
  count_in =
      let i : at + name_width + k.base + 1 ≡ at + name_width + (k.base + 1) = omega arith in
      ap (λ (z : ℕ). z + cond (eqb k.gone 0) 1 0)
      (ap num
      (ap (λ (z : ℕ). take 2 (drop z whole)) i ∙ ap (take 2) (drop_in (k.base + 1) (omega (arith, L.front, L.end)))
      ∙ take-append-le 2 (drop (k.base + 1) f) t (omega (arith, L.front, L.end, length-drop (k.base + 1) f))))

  lies_inside : Lies whole (n ∷ p) (cut_inside at k)
  lies_inside =
      let s = length-append o (f ++ t) in
      let u = length-append f t in
      record {
        front = omega (arith, L.front);
        end = omega (arith, e, s, u, L.end);
        some_name = omega arith;
        names = omega (arith, L.names);
        few = omega (arith, count_in, s, u, L.few);
      }

  spliced_inside : (v : List ℕ) → spliced whole (cut_inside at k) (n ∷ p) v ≡ o ++ (spliced f k p v ++ t)
  unfolding spliced
  spliced_inside v =
      let N = later_name n p k.names L.some_name in
      let w : at + name_width + k.at - (at + name_width + k.base) ≡ k.at - k.base = omega (arith, L.front) in
      let j : at + name_width + k.at + k.gone ≡ at + name_width + (k.at + k.gone) = omega arith in
      let front : opened (count_after whole (cut_inside at k)) (drop (at + name_width + k.base) whole) (at + name_width + k.at - (at + name_width + k.base)) (get_or (n ∷ p) (k.names + 1 - 1) 0)
      ≡ opened (count_after f k) (drop k.base f) (k.at - k.base) (get_or p (k.names - 1) 0)
      = rw (count_in, drop_in k.base (omega (arith, L.front, L.end)), w, N.0) (opened_front (count_after f k) (drop k.base f) t (k.at - k.base) (get_or p (k.names - 1) 0)
      (omega (arith, L.front)) (omega (arith, L.front, L.end, length-drop k.base f))) in
      pieces (take_in k.base (omega (arith, L.front, L.end))) front (ap (λ (z : List ℕ). nested z v) N.1)
      (ap (λ (z : ℕ). drop z whole) j ∙ drop_in (k.at + k.gone) L.end)
      ∙ seam o (take k.base f) (opened (count_after f k) (drop k.base f) (k.at - k.base) (get_or p (k.names - 1) 0)) (nested (drop k.names p) v) (drop (k.at + k.gone) f) t

-- ---- what is inserted
create_made : (n : ℕ) (q : List ℕ) (x : Val) (es : Entries) → context_under n es ≡ none → create (n ∷ q) x es ≡ insert n (made q x) es
unfolding made create
create_made n [] x es e = refl
create_made n (m ∷ q) x es e = ap (λ o. insert n (v_context (create (m ∷ q) x (or_empty o))) es) e ∙ ap (λ z. insert n z es) (made_create m q x)

create_ends : (n : ℕ) (q : List ℕ) (x : Val) (es : Entries) → q ≡ [] → create (n ∷ q) x es ≡ insert n (made q x) es
unfolding made create
create_ends n q x es e = ap (λ z. create (n ∷ z) x es) e ∙ sym (ap (λ z. insert n (made z x) es) e)

create_inside : (n : ℕ) (q : List ℕ) (x : Val) (es fs : Entries) → (q ≡ [] → ⊥) → context_under n es ≡ some fs → create (n ∷ q) x es ≡ insert n (v_context (create q x fs)) es
unfolding create
create_inside n [] x es fs d e = absurd (d refl)
create_inside n (m ∷ q) x es fs d e = ap (λ o. insert n (v_context (create (m ∷ q) x (or_empty o))) es) e

-- ---- the entry itself is cut
module _ (n : ℕ) (q : List ℕ) (es : Entries) (w : WfV (v_context es)) where
  abbrev text : List ℕ
  text = enc_v (v_context es)

  abbrev deep : ℕ
  deep = level_v (v_context es)

  read : Ctx deep text es
  read = ctx_of deep text es (read_context deep text es (ap (read_v deep) (sym (append-nil text)) ∙ read_enc_v (v_context es) deep [] w (omega arith)))

  all_bytes : Bytes text
  all_bytes = bytes_enc_v (v_context es) w

  well : WfEntries es 0
  well = well_entries deep text es all_bytes read

  module _ (gone old : ℕ) (A : Around n text es (entry_place n es) (entry_place n es + gone)) where
    abbrev at : ℕ
    at = entry_place n es

    lies_here : count_after text (cut_here at gone old) ≤ count_entries es + 1 → Lies text (n ∷ q) (cut_here at gone old)
    lies_here h = record { front = omega (arith, A.low); end = A.inside; some_name = omega arith; names = omega arith; few = omega (arith, h, count_size es, read.all) }

    spliced_here : (x : Val) → count_after text (cut_here at gone old) ≡ count_entries (insert n (made q x) es)
        → spliced text (cut_here at gone old) (n ∷ q) (enc_v x) ≡ enc_v (v_context (insert n (made q x) es))
    unfolding spliced opened begun
    spliced_here x e =
        let count = count_after text (cut_here at gone old) in
        let z : at - 0 ≡ at = omega arith in
        let last = bytes name_width n ++ (enc_v (made q x) ++ enc_entries (above n es)) in
        ap (λ (i : ℕ). opened count text i n ++ (nested q (enc_v x) ++ drop (at + gone) text)) z
        ∙ ap₂ (λ (t u : List ℕ). opened count text at n ++ (t ++ u)) (nested_is q x) A.back
        ∙ append_assoc (begun count text at) (bytes name_width n) (enc_v (made q x) ++ enc_entries (above n es))
        ∙ append_assoc (0x0B ∷ bytes 2 count) (take (at - 3) (drop 3 text)) last
        ∙ ap₂ (λ (i : ℕ) (f : List ℕ). (0x0B ∷ bytes 2 i) ++ (f ++ last)) e A.front
        ∙ sym (text_insert n 0 es well (made q x))

  around_new : value_of n es ≡ none → Around n text es (entry_place n es) (entry_place n es + 0)
  around_new e = let z : entry_place n es ≡ entry_place n es + 0 = omega arith in subst (λ (i : ℕ). Around n text es (entry_place n es) i) z (around_none deep n text es all_bytes read e)

  around_there : (v : Val) → value_of n es ≡ some v → Around n text es (entry_place n es) (entry_place n es + (name_width + size_val v))
  around_there v e =
      let z : entry_place n es + name_width + size_val v ≡ entry_place n es + (name_width + size_val v) = omega arith in
      subst (λ (i : ℕ). Around n text es (entry_place n es) i) z (around_some deep n text es v all_bytes read e)

  count_text : num_at 2 1 text ≡ count_entries es
  count_text = count_context deep text es all_bytes read

  count_there : (v : Val) (old : ℕ) → count_after text (cut_here (entry_place n es) (name_width + size_val v) old) ≡ count_entries es
  count_there v old =
      let d : name_width + size_val v ≡ 0 → ⊥ = λ z. omega arith in
      let n0 : count_entries es + 0 ≡ count_entries es = omega arith in
      ap₂ (λ (i : ℕ) b. i + cond b 1 0) count_text (ne_eqb (name_width + size_val v) 0 d) ∙ n0

  -- ---- the cut lies in the value of a name
  abbrev before : List ℕ
  before = (0x0B ∷ bytes 2 (count_entries es)) ++ (enc_entries (below n es) ++ bytes name_width n)

  length_before : length before ≡ entry_place n es + name_width
  length_before = omega (
    arith,
    length-append (0x0B ∷ bytes 2 (count_entries es)) (enc_entries (below n es) ++ bytes name_width n),
    length-append (enc_entries (below n es)) (bytes name_width n),
    length_bytes 2 (count_entries es),
    length_bytes name_width n,
    length_entries (below n es),
  )

  around_value : (v x : Val) → value_of n es ≡ some v → enc_v (v_context (insert n x es)) ≡ before ++ (enc_v x ++ enc_entries (above n es))
  around_value v x e =
      let last = enc_v x ++ enc_entries (above n es) in
      text_insert n 0 es well x
      ∙ ap (λ (i : ℕ). (0x0B ∷ bytes 2 i) ++ (enc_entries (below n es) ++ (bytes name_width n ++ last))) (count_same n 0 es well x v e)
      ∙ ap (λ (z : List ℕ). (0x0B ∷ bytes 2 (count_entries es)) ++ z) (sym (append_assoc (enc_entries (below n es)) (bytes name_width n) last))
      ∙ sym (append_assoc (0x0B ∷ bytes 2 (count_entries es)) (enc_entries (below n es) ++ bytes name_width n) last)

  text_is : (v : Val) → value_of n es ≡ some v → text ≡ before ++ (enc_v v ++ enc_entries (above n es))
  text_is v e = ap (λ z. enc_v (v_context z)) (split_some n 0 v es well e ∙ sym (insert_split n v es 0 well)) ∙ around_value v v e

-- ---- the whole path
cut_lies : (p : List ℕ) (es : Entries) → WfV (v_context es) → (p ≡ [] → ⊥) → Lies (enc_v (v_context es)) p (cut_of p (v_context es))
cut_lies [] es w d = absurd (d refl)
cut_lies (n ∷ q) es w d = by (λ fs h f. cut_lies q fs h f) (step n q es)
  where
    there : (v : Val) → value_of n es ≡ some v → cut_of (n ∷ q) (v_context es) ≡ cut_here (entry_place n es) (name_width + size_val v) (level_v v)
        → Lies (enc_v (v_context es)) (n ∷ q) (cut_of (n ∷ q) (v_context es))
    there v e c = subst (λ k. Lies (enc_v (v_context es)) (n ∷ q) k) (sym c)
        (lies_here n q es w (name_width + size_val v) (level_v v) (around_there n q es w v e) (omega (arith, count_there n q es w v (level_v v))))

    by : ((fs : Entries) → WfV (v_context fs) → (q ≡ [] → ⊥) → Lies (enc_v (v_context fs)) q (cut_of q (v_context fs))) → Step n q es
        → Lies (enc_v (v_context es)) (n ∷ q) (cut_of (n ∷ q) (v_context es))
    by ih (fresh e) = subst (λ k. Lies (enc_v (v_context es)) (n ∷ q) k) (sym (cut_new n q es e))
        (lies_here n q es w 0 0 (around_new n q es w e) (omega (arith, count_text n q es w)))
    by ih (ends v e f) = there v e (cut_ends n q es v e f)
    by ih (stuck v e f g) = there v e (cut_stuck n q es v e g)
    by ih (inside fs e f) =
        let L = ih fs (value_well n 0 (v_context fs) es (well n q es w) e) f in
        subst (λ k. Lies (enc_v (v_context es)) (n ∷ q) k) (sym (cut_inside_lem n q es (v_context fs) e L.some_name))
        (subst (λ c. Lies c (n ∷ q) (cut_inside (entry_place n es) (cut_of q (v_context fs)))) (sym (text_is n q es w (v_context fs) e))
        (lies_inside (before n q es w) (enc_v (v_context fs)) (enc_entries (above n es)) (entry_place n es) (cut_of q (v_context fs)) n q (length_before n q es w) L))

pub cuts_is : (p : List ℕ) (es : Entries) → WfV (v_context es) → length (enc_v (v_context es)) ≤ most_bytes → (p ≡ [] → ⊥) → Cuts (enc_v (v_context es)) p (cut_of p (v_context es))
cuts_is p es w h d = let L = cut_lies p es w d in record { front = L.front; end = L.end; some = L.some_name; names = L.names; count = omega (arith, L.few, h) }

pub spliced_is : (p : List ℕ) (x : Val) (es : Entries) → WfV (v_context es) → (p ≡ [] → ⊥) → spliced (enc_v (v_context es)) (cut_of p (v_context es)) p (enc_v x) ≡ enc_v (v_context (create p x es))
spliced_is [] x es w d = absurd (d refl)
spliced_is (n ∷ q) x es w d = by (λ fs h f. spliced_is q x fs h f) (step n q es)
  where
    there : (v : Val) → value_of n es ≡ some v → cut_of (n ∷ q) (v_context es) ≡ cut_here (entry_place n es) (name_width + size_val v) (level_v v) → create (n ∷ q) x es ≡ insert n (made q x) es
        → spliced (enc_v (v_context es)) (cut_of (n ∷ q) (v_context es)) (n ∷ q) (enc_v x) ≡ enc_v (v_context (create (n ∷ q) x es))
    there v e c m =
        ap (λ k. spliced (enc_v (v_context es)) k (n ∷ q) (enc_v x)) c
        ∙ spliced_here n q es w (name_width + size_val v) (level_v v) (around_there n q es w v e) x
        (count_there n q es w v (level_v v) ∙ sym (count_same n 0 es (well n q es w) (made q x) v e))
        ∙ sym (ap (λ z. enc_v (v_context z)) m)

    by : ((fs : Entries) → WfV (v_context fs) → (q ≡ [] → ⊥) → spliced (enc_v (v_context fs)) (cut_of q (v_context fs)) q (enc_v x) ≡ enc_v (v_context (create q x fs))) → Step n q es
        → spliced (enc_v (v_context es)) (cut_of (n ∷ q) (v_context es)) (n ∷ q) (enc_v x) ≡ enc_v (v_context (create (n ∷ q) x es))
    by ih (fresh e) =
        ap (λ k. spliced (enc_v (v_context es)) k (n ∷ q) (enc_v x)) (cut_new n q es e)
        ∙ spliced_here n q es w 0 0 (around_new n q es w e) x (ap (λ (i : ℕ). i + 1) (count_text n q es w) ∙ sym (count_new n 0 es (well n q es w) (made q x) e))
        ∙ sym (ap (λ z. enc_v (v_context z)) (create_made n q x es (ap (λ o. bind o entries_of) e)))
    by ih (ends v e f) = there v e (cut_ends n q es v e f) (create_ends n q x es f)
    by ih (stuck v e f g) = there v e (cut_stuck n q es v e g) (create_made n q x es (ap (λ o. bind o entries_of) e ∙ g))
    by ih (inside fs e f) =
        let W = value_well n 0 (v_context fs) es (well n q es w) e in
        let L = cut_lies q fs W f in
        let k = cut_of q (v_context fs) in
        let o = before n q es w in
        let t = enc_entries (above n es) in
        ap₂ (λ c j. spliced c j (n ∷ q) (enc_v x)) (text_is n q es w (v_context fs) e) (cut_inside_lem n q es (v_context fs) e L.some_name)
        ∙ spliced_inside o (enc_v (v_context fs)) t (entry_place n es) k n q (length_before n q es w) L (enc_v x)
        ∙ ap (λ (z : List ℕ). o ++ (z ++ t)) (ih fs W f)
        ∙ sym (around_value n q es w (v_context fs) (v_context (create q x fs)) e)
        ∙ sym (ap (λ z. enc_v (v_context z)) (create_inside n q x es fs f (ap (λ o. bind o entries_of) e)))

-- ---- Err of apply_entries
apply_empty : (p : List ℕ) (x : Val) → apply p x no_entries ≡ some (create p x no_entries)
unfolding apply create value_of
apply_empty [] x = refl
apply_empty (n ∷ []) x = refl
apply_empty (n ∷ m ∷ p) x = ap (map (λ gs. insert n (v_context gs) no_entries)) (apply_empty (m ∷ p) x)

apply_ends : (n : ℕ) (q : List ℕ) (x : Val) (es : Entries) → q ≡ [] → apply (n ∷ q) x es ≡ some (create (n ∷ q) x es)
unfolding apply create
apply_ends n q x es e = ap (λ z. apply (n ∷ z) x es) e ∙ sym (ap (λ z. some (create (n ∷ z) x es)) e)

apply_stuck : (n : ℕ) (q : List ℕ) (x : Val) (es : Entries) → (q ≡ [] → ⊥) → on_the_way (value_of n es) ≡ none → apply (n ∷ q) x es ≡ none
unfolding apply
apply_stuck n [] x es d e = absurd (d refl)
apply_stuck n (m ∷ q) x es d e = ap (λ o. bind o (λ fs. map (λ gs. insert n (v_context gs) es) (apply (m ∷ q) x fs))) e

apply_inside : (n : ℕ) (q : List ℕ) (x : Val) (es fs : Entries) → (q ≡ [] → ⊥) → on_the_way (value_of n es) ≡ some fs
    → apply (n ∷ q) x es ≡ map (λ gs. insert n (v_context gs) es) (apply q x fs)
unfolding apply
apply_inside n [] x es fs d e = absurd (d refl)
apply_inside n (m ∷ q) x es fs d e = ap (λ o. bind o (λ gs. map (λ hs. insert n (v_context hs) es) (apply (m ∷ q) x gs))) e

-- a new name refuses nothing
apply_new : (n : ℕ) (q : List ℕ) (x : Val) (es : Entries) → value_of n es ≡ none → apply (n ∷ q) x es ≡ some (create (n ∷ q) x es)
apply_new n [] x es e = apply_ends n [] x es refl
apply_new n (m ∷ q) x es e =
    let d : m ∷ q ≡ [] → ⊥ = λ f. let z : ◌≡◌ {A = ℕ} 0 1 = cc in omega arith in
    apply_inside n (m ∷ q) x es no_entries d (ap on_the_way e) ∙ ap (map (λ gs. insert n (v_context gs) es)) (apply_empty (m ∷ q) x)
    ∙ ap some (ap (λ z. insert n z es) (made_create m q x) ∙ sym (create_made n (m ∷ q) x es (ap (λ o. bind o entries_of) e)))

pub blocked_is : (p : List ℕ) (x : Val) (es : Entries) → (p ≡ [] → ⊥) → apply p x es ≡ cond (blocked p (cut_of p (v_context es))) none (some (create p x es))
blocked_is [] x es d = absurd (d refl)
blocked_is (n ∷ q) x es d = by (λ fs f. blocked_is q x fs f) (step n q es)
  where
    said : (b : Bool) → blocked (n ∷ q) (cut_of (n ∷ q) (v_context es)) ≡ b → apply (n ∷ q) x es ≡ cond b none (some (create (n ∷ q) x es))
        → apply (n ∷ q) x es ≡ cond (blocked (n ∷ q) (cut_of (n ∷ q) (v_context es))) none (some (create (n ∷ q) x es))
    said b e f = f ∙ sym (ap (λ z. cond z none (some (create (n ∷ q) x es))) e)

    over : (fs : Entries) (b : Bool) → map (λ gs. insert n (v_context gs) es) (cond b none (some (create q x fs))) ≡ cond b none (some (insert n (v_context (create q x fs)) es))
    over fs true = refl
    over fs false = refl

    by : ((fs : Entries) → (q ≡ [] → ⊥) → apply q x fs ≡ cond (blocked q (cut_of q (v_context fs))) none (some (create q x fs))) → Step n q es
        → apply (n ∷ q) x es ≡ cond (blocked (n ∷ q) (cut_of (n ∷ q) (v_context es))) none (some (create (n ∷ q) x es))
    by ih (fresh e) = said false (ap (blocked (n ∷ q)) (cut_new n q es e) ∙ and_false (ltb 1 (length (n ∷ q)))) (apply_new n q x es e)
    by ih (ends v e f) =
        let c = ap (blocked (n ∷ q)) (cut_ends n q es v e f) in
        let l : length (n ∷ q) ≤ 1 = omega (arith, ap length f) in
        said false (c ∙ ap (λ b. b && ltb 0 (name_width + size_val v)) (le-ltb 1 (length (n ∷ q)) l)) (apply_ends n q x es f)
    by ih (stuck v e f g) =
        let c = ap (blocked (n ∷ q)) (cut_stuck n q es v e g) in
        said true (c ∙ ap₂ (λ a b. a && b) (lt-ltb 1 (length (n ∷ q)) (longer q f)) (lt-ltb 0 (name_width + size_val v) (omega arith)))
        (apply_stuck n q x es f (ap on_the_way e ∙ g))
    by ih (inside fs e f) =
        let k = cut_of q (v_context fs) in
        let b = blocked q k in
        let c : blocked (n ∷ q) (cut_of (n ∷ q) (v_context es)) ≡ b = ap (blocked (n ∷ q)) (cut_inside_lem n q es (v_context fs) e (some_names q fs f))
        ∙ ap (λ z. z && ltb 0 k.gone) (one_further k.names (length q)) in
        said b c
        (apply_inside n q x es fs f (ap on_the_way e)
        ∙ ap (map (λ gs. insert n (v_context gs) es)) (ih fs f)
        ∙ over fs b
        ∙ ap (λ z. cond b none (some z)) (sym (create_inside n q x es fs f (ap (λ o. bind o entries_of) e))))

-- ---- as `write_nested` writes it: no name is left
pub nested_ends : (p v old new : List ℕ) → length p ≡ 0 → new ≡ fill v old → (length v ≡ length (nested p v)) × (new ≡ fill (nested p v) old)
unfolding nested
nested_ends [] v old new e o = (refl, o)
nested_ends (n ∷ p) v old new e o = absurd (omega arith)

-- the length fits
pub nested_bound : (p v : List ℕ) (k : ℕ) → length p ≤ most_names → length v ≤ most_bytes → length (nested (take (length p - k) (drop k p)) v) < 65536
nested_bound p v k a b = omega (arith, length_nested (take (length p - k) (drop k p)) v, ap length (rest p k), length-drop k p)

-- one name, and the rest behind it
nested_one : (n : ℕ) (p v : List ℕ) → opened 1 (0x0B ∷ 0 ∷ 0 ∷ []) 3 n ++ nested p v ≡ nested (n ∷ p) v
unfolding opened begun nested bytes
nested_one n p v = refl

pub nested_next : (path v old mid ys : List ℕ) (name p q n : ℕ) → (length path ≡ 0 → ⊥) → name ≡ get_or path 0 0 → p ≡ 3 + name_width → mid ≡ fill (opened 1 (0x0B ∷ 0 ∷ 0 ∷ []) 3 name) old
    → q ≡ min p (length mid) → n ≡ length (nested (take (length path - 1) (drop 1 path)) v) → ys ≡ fill (nested (take (length path - 1) (drop 1 path)) v) (take (length mid - q) (drop q mid))
    → (p + n ≡ length (nested path v)) × (put_mid q (length mid - q) mid ys ≡ fill (nested path v) old)
nested_next [] v old mid ys name p q n d en ep em eq el ey = absurd (d refl)
nested_next (m ∷ ms) v old mid ys name p q n d en ep em eq el ey =
    let o = opened 1 (0x0B ∷ 0 ∷ 0 ∷ []) 3 name in
    let t : nested (take (length (m ∷ ms) - 1) (drop 1 (m ∷ ms))) v ≡ nested ms v = ap (λ (z : List ℕ). nested z v) (rest (m ∷ ms) 1) in
    let s : o ++ nested ms v ≡ nested (m ∷ ms) v = nested_one name ms v ∙ ap (λ (z : ℕ). nested (z ∷ ms) v) en in
    let long : length o ≡ p = length_opened 1 (0x0B ∷ 0 ∷ 0 ∷ []) 3 name (omega arith) (omega arith) ∙ sym ep in (
      omega (arith, el, ap length t, ap length s, length-append o (nested ms v), long),
      fill_then o (nested ms v) old mid ys p q em long eq (ey ∙ ap (λ (z : List ℕ). fill z (take (length mid - q) (drop q mid))) t) ∙ ap (λ (z : List ℕ). fill z old) s,
    )

-- ---- as `splice` writes it: the entries counted
pub count_more : (c : List ℕ) (k : Cut) (n count : ℕ) → n ≡ num_at 2 (k.base + 1) c → k.gone ≡ 0 → count ≡ n + 1 → count ≡ count_after c k
count_more c k n count e g h = h ∙ ap (λ (z : ℕ). z + 1) e ∙ sym (ap (λ (z : ℕ). num_at 2 (k.base + 1) c + cond (eqb z 0) 1 0) g)

pub count_kept : (c : List ℕ) (k : Cut) (n count : ℕ) → n ≡ num_at 2 (k.base + 1) c → (k.gone ≡ 0 → ⊥) → count ≡ n → count ≡ count_after c k
count_kept c k n count e g h =
    let z : n ≡ n + 0 = omega arith in
    h ∙ z ∙ ap (λ (i : ℕ). i + 0) e ∙ sym (ap (λ b. num_at 2 (k.base + 1) c + cond b 1 0) (ne_eqb k.gone 0 g))

-- what its calls ask
module _ (c path v : List ℕ) (k : Cut) (S : Small c path v) (C : Cuts c path k) where
  pub base_inside : k.base ≡ length (take k.base c)
  base_inside = sym (length_first c path k C)

  pub front_asks : (count name : ℕ) → count ≡ count_after c k → name < name_end → (3 ≤ k.at - k.base) × (k.at - k.base ≤ length (take (length c - k.base) (drop k.base c))) × (count < 65536)
      × (name < name_end) × (k.at - k.base < 65536)
  front_asks count name e h = (
    omega (arith, C.front),
    omega (arith, C.end, ap length (rest c k.base), length-drop k.base c),
    omega (arith, e, C.count),
    h,
    omega (arith, C.end, S.bytes_c),
  )

  pub end_fits : (w n : ℕ) → w ≡ k.at - k.base + name_width → n ≡ length (nested (take (length path - k.names) (drop k.names path)) v)
      → k.base + w + n + length (take (length c - (k.at + k.gone)) (drop (k.at + k.gone) c)) < 2 ^ 64
  end_fits w n ew en = omega (
    arith,
    ew,
    en,
    C.front,
    C.end,
    S.bytes_c,
    nested_bound path v k.names S.names S.bytes_v,
    ap length (rest c (k.at + k.gone)),
    length-drop (k.at + k.gone) c,
  )

-- one piece behind the other: the bytes before the context, its front, what stands under the name, and the rest
module _ (c path v old : List ℕ) (k : Cut) (C : Cuts c path k) (count name : ℕ) (ec : count ≡ count_after c k) (en : name ≡ get_or path (k.names - 1) 0) where
  abbrev first : List ℕ
  first = take k.base c

  abbrev front : List ℕ
  front = opened count (drop k.base c) (k.at - k.base) name

  abbrev under : List ℕ
  under = nested (drop k.names path) v

  abbrev to : ℕ
  to = k.at + k.gone

  four_pieces : ((first ++ front) ++ under) ++ drop to c ≡ spliced c k path v
  unfolding spliced
  four_pieces =
      append_assoc (first ++ front) under (drop to c)
      ∙ append_assoc first front (under ++ drop to c)
      ∙ ap₂ (λ (i j : ℕ). first ++ (opened i (drop k.base c) (k.at - k.base) j ++ (under ++ drop to c))) ec en

  pub spliced_out : (one ys two zs three new : List ℕ) (w q n r m : ℕ) → one ≡ fill first old → q ≡ min k.base (length one) → w ≡ k.at - k.base + name_width
      → ys ≡ fill (opened count (take (length c - k.base) (drop k.base c)) (k.at - k.base) name) (take (length one - q) (drop q one))
      → two ≡ put_mid q (length one - q) one ys → r ≡ min (k.base + w) (length two) → n ≡ length (nested (take (length path - k.names) (drop k.names path)) v)
      → zs ≡ fill (nested (take (length path - k.names) (drop k.names path)) v) (take (length two - r) (drop r two)) → three ≡ put_mid r (length two - r) two zs
      → m ≡ k.base + w + n + length (take (length c - to) (drop to c)) → new ≡ puts (k.base + w + n) (take (length c - to) (drop to c)) three
      → (m ≡ length (spliced c k path v)) × (new ≡ fill (spliced c k path v) old)
  spliced_out one ys two zs three new w q n r m e1 eq ew ey e2 er el ez e3 em e4 =
      let f = ap (λ (z : List ℕ). opened count z (k.at - k.base) name) (rest c k.base) in
      let u = ap (λ (z : List ℕ). nested z v) (rest path k.names) in
      let s2 : two ≡ fill (first ++ front) old = e2
      ∙ fill_then first front old one ys k.base q e1 (length_first c path k C) eq (ey ∙ ap (λ (z : List ℕ). fill z (take (length one - q) (drop q one))) f) in
      let l2 : length (first ++ front) ≡ k.base + w = omega (arith, length-append first front, length_first c path k C, length_front c path k C count name, ew) in
      let s3 : three ≡ fill ((first ++ front) ++ under) old = e3
      ∙ fill_then (first ++ front) under old two zs (k.base + w) r s2 l2 er (ez ∙ ap (λ (z : List ℕ). fill z (take (length two - r) (drop r two))) u) in
      let l3 : length ((first ++ front) ++ under) ≡ k.base + w + n = omega (arith, length-append (first ++ front) under, l2, el, ap length u) in
      let s4 = put_then ((first ++ front) ++ under) (drop to c) old three new (k.base + w + n) s3 l3 (e4 ∙ ap (λ (z : List ℕ). puts (k.base + w + n) z three) (rest c to)) in (
        omega (arith, em, ap length (rest c to), ap length four_pieces, length-append ((first ++ front) ++ under) (drop to c), l3),
        s4 ∙ ap (λ (z : List ℕ). fill z old) four_pieces,
      )
