-- The loop that merges two contexts, their names taken in step: what is left of both, and what was written of the answer.
-- Idea: what was written and the merge of what is left make the bytes of the whole merge, and their levels its level (`Joining`).
-- Index: `Left`, `Seen`, `name_in`, `end_in`, `entry_bytes`, `entry_long` (what is left); `Joining`, `joining_starts`, `joining_few`, `joining_done` (the loop);
-- `Passes`, `passed` (what the pass tells); `own_next`, `new_next`, `new_passed`, `both_next`, `entry_room` (a turn).
-- Assumes nothing.
use Prim.Native.Nat.{ℕ, suc, ◌+◌, ◌-◌, ◌*◌, ◌/◌, ◌%◌, ◌<◌, ◌≤◌, ◌^◌, max}
use native.Mathlib.Omega.{arith}
use mathlib.Core.Path.{◌≡◌, sym, ap, ap₂, subst, ◌∙◌}
use mathlib.Core.Bool.{Bool, true, false, cond}
use mathlib.Core.Option.{some}
use mathlib.Core.List.{List, [], ◌∷◌, ◌++◌, append_assoc, append-nil}
use lib.ListN.{length, take, drop, length-append, length-drop, take-append-drop}
use lib.Seq.{drop-drop, length-take-le, take-append-add}
use lib.Dec.{ltb}
use Rattle.form.specs.Limits.{name_width, name_end, most_bytes}
use Rattle.form.specs.Trees.{Val, v_context, Entries, no_entries, entry}
use Rattle.form.specs.Form.{bytes, num_at, Bytes, count_entries, enc_v, enc_entries, level_v, level_entries}
use Rattle.form.specs.Read.{Got, got, bad, read_v}
use Rattle.form.specs.Walks.{walk_of, Told}
use Rattle.form.proofs.Options.{none_some, some_same}
use Rattle.form.proofs.Exact.{bytes_drop}
use Rattle.form.proofs.Numbers.{length_bytes}
use Rattle.form.proofs.Runs.{rest, behind}
use Rattle.order.specs.Size.{size_val}
use Rattle.types.proofs.Entries.{next_is, at_end_lem}
use Rattle.types.specs.At.{Ok, seen}
use Rattle.values.specs.At.{value_at, entries_at, size_at_v}
use Rattle.values.proofs.Reading.{From, skip_is, size_got, front_text}
use Rattle.output.proofs.OntoLaws.{name_bytes}
use Rattle.output.proofs.FillLaws.{fill_over, late_head}
use Rattle.paths.specs.Places.{context_at}
use Rattle.paths.proofs.Whole.{Ctx, ctx_ok}
use Rattle.updates.specs.Writing.{merged, Joined, Merges}
use Rattle.output.proofs.FillLaws.{put_then}
use Rattle.updates.proofs.MergedContexts.{merged_none, merged_own, merged_both, merged_new, merged_passed}
use Rattle.output.specs.Output.{fill, puts}
use Rattle.values.proofs.EntriesAt.{This, this, none_left, above}
use Rattle.output.proofs.ContextText.{context_text, ended}

-- ---- what is left of a context's bytes
pub record Left (l : ℕ) (s : List ℕ) (n at i : ℕ) (es : Entries) : Type 0 where
  pub least : ℕ
  pub upto : i ≤ n
  pub inside : at ≤ length s
  pub read : entries_at (l - 1) (n - i) least (drop at s) ≡ some es

left_starts : (l : ℕ) (s : List ℕ) (n : ℕ) (es : Entries) → Ctx l s es → n ≡ num_at 2 1 s → Left l s n 3 0 es
left_starts l s n es C e =
    let z : n - 0 ≡ num_at 2 1 s = omega arith in
    record {
      least = 0;
      upto = omega arith;
      inside = C.three;
      read = ap (λ (k : ℕ). entries_at (l - 1) k 0 (drop 3 s)) z ∙ C.entries;
    }

-- the next name, or the end
abbrev pub Seen : List ℕ → ℕ → ℕ → ℕ → ℕ → Type 0
Seen s n at i x = record {
  value : x ≡ cond (ltb i n) (num_at name_width at s) name_end;
  upper_bound : (x ≤ name_end) × (i < n → x < name_end);
}

module _ {l : ℕ} {s : List ℕ} {n at i : ℕ} {es : Entries} (L : Left l s n at i es) where
  module _ {x : ℕ} (X : Seen s n at i x) where
    left_above : (y : ℕ) → y < x → From (suc y) es
    left_above y h = above (l - 1) i n at L.least s es L.read x y X.value h

    left_ended : x ≡ name_end → es ≡ no_entries
    left_ended e = none_left (l - 1) i n at L.least s es (at_end_lem i n x X.upper_bound.1 e) L.read

  module _ (h : i < n) where
    abbrev A : This (l - 1) (n - (i + 1)) at L.least s es
    A = this (l - 1) i n at L.least s es h L.read

    pub name_in : at + name_width ≤ length s
    name_in = A.two

    left_name : {x : ℕ} → Seen s n at i x → x < name_end → x ≡ A.name
    left_name {x} X b = (next_is i n (num_at name_width at s) x X.value b).1 ∙ sym A.named

    module _ (z : ℕ) (e : z ≡ size_at_v (value_at (l - 1) (behind (at + name_width) s))) where
      skipped : z ≡ size_val A.x
      skipped = e ∙ ap (λ (r : List ℕ). size_at_v (value_at (l - 1) r)) (rest s (at + name_width)) ∙ size_got (value_at (l - 1) (drop (at + name_width) s)) A.x A.first

      pub end_in : at + name_width + z ≤ length s
      end_in = omega (arith, A.fits, skipped)

      left_next : Left l s n (at + name_width + z) (i + 1) A.more
      left_next =
          record {
            least = suc A.name;
            upto = omega arith;
            inside = end_in;
            read = ap (λ (q : ℕ). entries_at (l - 1) (n - (i + 1)) (suc A.name) (drop (at + name_width + q) s)) skipped ∙ A.second;
          }

      -- its bytes
      abbrev pub entry_bytes : List ℕ
      entry_bytes = take (at + name_width + z - at) (drop at s)

      pub entry_long : length entry_bytes ≡ name_width + z
      entry_long =
          let k : at + name_width + z - at ≡ name_width + z = omega arith in
          let b : name_width + z ≤ length (drop at s) = omega (arith, length-drop at s, end_in) in
          ap (λ (q : ℕ). length (take q (drop at s))) k ∙ length-take-le (name_width + z) (drop at s) b

      entry_text_lem : Bytes s → entry_bytes ≡ bytes name_width A.name ++ enc_v A.x
      entry_text_lem bs =
          let N = bytes name_width A.name in
          let k : at + name_width + z - at ≡ length N + z = omega (arith, length_bytes name_width A.name) in
          let d : drop at s ≡ N ++ drop (at + name_width) s =
          sym (take-append-drop name_width (drop at s)) ∙ ap₂ (λ (a b : List ℕ). a ++ b) (name_bytes name_width at s bs A.two ∙ ap (bytes name_width) (sym A.named)) (drop-drop name_width at s) in
          ap₂ (λ (q : ℕ) (r : List ℕ). take q r) k d
          ∙ take-append-add N (drop (at + name_width) s) z
          ∙ ap (λ (r : List ℕ). N ++ r) (ap (λ (q : ℕ). take q (drop (at + name_width) s)) skipped ∙ front_text (l - 1) (drop (at + name_width) s) A.x (bytes_drop (at + name_width) s bs) A.first)

-- ---- what was written: the first head, and k entries behind it
pub record Written (head mid out done : List ℕ) (to k : ℕ) : Type 0 where
  pub long : length head + length done ≡ to
  pub few : k ≤ to
  pub state : out ≡ fill (head ++ done) mid

written_starts : (head old mid : List ℕ) (to : ℕ) → length head ≡ to → mid ≡ fill head old → Written head mid mid [] to 0
written_starts head old mid to h e =
    record {
      long = omega arith;
      few = omega arith;
      state = e ∙ sym (fill_over head head old (omega arith)) ∙ ap₂ fill (sym (append-nil head)) (sym e);
    }

written_more : {head mid out done : List ℕ} {to k : ℕ} → Written head mid out done to k → (b new : List ℕ) (t : ℕ) → 0 < length b → new ≡ puts to b out → t ≡ to + length b
    → Written head mid new (done ++ b) t (k + 1)
written_more {head} {mid} {out} {done} {to} {k} W b new t h en et =
    record {
      long = omega (arith, length-append done b, W.long);
      few = omega (arith, W.few);
      state = put_then (head ++ done) b mid out new to W.state (length-append head done ∙ W.long) en ∙ ap (λ (q : List ℕ). fill q mid) (append_assoc head done b);
    }

text_more : (k n : ℕ) (d : List ℕ) (v : Val) (ws : Entries) (b : List ℕ) → b ≡ bytes name_width n ++ enc_v v → context_text k d (entry n v ws) ≡ context_text (k + 1) (d ++ b) ws
unfolding enc_entries count_entries
text_more k n d v ws b e =
    let c : k + suc (count_entries ws) ≡ k + 1 + count_entries ws = omega arith in
    let t : d ++ (bytes name_width n ++ (enc_v v ++ enc_entries ws)) ≡ (d ++ b) ++ enc_entries ws =
    ap (λ (z : List ℕ). d ++ z) (sym (append_assoc (bytes name_width n) (enc_v v) (enc_entries ws)) ∙ ap (λ (z : List ℕ). z ++ enc_entries ws) (sym e)) ∙ sym (append_assoc d b (enc_entries ws)) in
    ap₂ (λ (q : ℕ) (z : List ℕ). (11 ∷ bytes 2 q) ++ z) c t

text_whole : (ws : Entries) → context_text 0 [] ws ≡ enc_v (v_context ws)
unfolding enc_v
text_whole ws = let e : 0 + count_entries ws ≡ count_entries ws = omega arith in ap (λ (c : ℕ). 11 ∷ (bytes 2 c ++ enc_entries ws)) e

merges : (all : Bool) (l : ℕ) (c o : List ℕ) (es gs : Entries) (old new : List ℕ) (r t : ℕ) → context_at l c ≡ some es → context_at l o ≡ some gs → Joined (merged all es gs) old new r t
    → Merges all (context_at l c) (context_at l o) old new r t
unfolding Merges
merges all l c o es gs old new r t ec eo J = rw (ec, eo) J

-- ---- what the pass tells of a value that is there
-- over the value of an entry at p
abbrev pub Passes : ℕ → List ℕ → ℕ → ℕ → ℕ → Type 0
Passes l s p z t = Told (walk_of level_v (read_v (l - 1) (behind (p + name_width) s))) (length (behind (p + name_width) s)) z t

pub passed : (l : ℕ) (s : List ℕ) (p : ℕ) {z t : ℕ} → Passes l s p z t → z ≡ size_at_v (value_at (l - 1) (behind (p + name_width) s))
passed l s p T = T.size ∙ skip_is (l - 1) (behind (p + name_width) s)

level_told : (l : ℕ) (s : List ℕ) (n z t : ℕ) (x : Val) → Told (walk_of level_v (read_v l s)) n z t → value_at l s ≡ some x → (t ≡ level_v x) × (t ≤ z)
unfolding value_at walk_of seen
level_told l s n z t x T e = go (read_v l s) T e
  where
    go : (g : Got Val) → Told (walk_of level_v g) n z t → seen g ≡ some x → (t ≡ level_v x) × (t ≤ z)
    go (got y m) T e = (T.told ∙ ap level_v (some_same e), omega (arith, T.size, T.told, T.inside.1.1))
    go (bad f) T e = absurd (none_some e)

-- ---- the two contexts
pub record Pair (l : ℕ) (c o : List ℕ) : Type 0 where
  pub whole_c : Entries
  pub whole_o : Entries
  pub ctx_c : Ctx l c whole_c
  pub ctx_o : Ctx l o whole_o
  pub small_c : length c ≤ most_bytes
  pub small_o : length o ≤ most_bytes

-- the loop; `mid` is the output before it
pub record Joining (all : Bool) (l : ℕ) (c o : List ℕ) (n m : ℕ) (mid out : List ℕ) (at i bt j to k deep : ℕ) : Type 0 where
  pub both : Pair l c o
  -- what is left of them
  pub es : Entries
  pub gs : Entries
  pub left_c : Left l c n at i es
  pub left_o : Left l o m bt j gs
  -- what was written behind the head
  pub done : List ℕ
  pub wrote : Written (take 3 c) mid out done to k
  pub low : to ≤ at + bt
  pub goes : context_text k done (merged all es gs) ≡ enc_v (v_context (merged all both.whole_c both.whole_o))
  -- its level
  pub shallow : deep ≤ to
  pub levels : max deep (level_entries (merged all es gs)) ≡ level_entries (merged all both.whole_c both.whole_o)

pub context_three : (l : ℕ) (s : List ℕ) → Ok (context_at l s) → 3 ≤ length s
context_three l s h = (ctx_ok l s h).1.three

pub joining_starts : (all : Bool) (l : ℕ) (c o : List ℕ) (n m : ℕ) (old mid : List ℕ) → Ok (context_at l c) → Ok (context_at l o) → (length c ≤ most_bytes) × (length o ≤ most_bytes) → n ≡ num_at 2 1 c
    → m ≡ num_at 2 1 o → mid ≡ fill (take 3 c) old → Joining all l c o n m mid mid 3 0 3 0 3 0 0
joining_starts all l c o n m old mid hc ho short en em e = go (ctx_ok l c hc) (ctx_ok l o ho)
  where
    go : (es : Entries) × Ctx l c es → (gs : Entries) × Ctx l o gs → Joining all l c o n m mid mid 3 0 3 0 3 0 0
    go (es, C) (gs, O) =
        record {
          both = record { whole_c = es; whole_o = gs; ctx_c = C; ctx_o = O; small_c = short.0; small_o = short.1 };
          es = es;
          gs = gs;
          left_c = left_starts l c n es C en;
          left_o = left_starts l o m gs O em;
          done = [];
          wrote = written_starts (take 3 c) old mid 3 (length-take-le 3 c C.three) e;
          low = omega arith;
          goes = text_whole (merged all es gs);
          shallow = omega arith;
          levels = omega arith;
        }

module _ {all : Bool} {l : ℕ} {c o : List ℕ} {n m : ℕ} {mid out : List ℕ} {at i bt j to k deep : ℕ} (Q : Joining all l c o n m mid out at i bt j to k deep) where
  short : to ≤ 2 * most_bytes
  short = omega (arith, Q.low, Q.left_c.inside, Q.left_o.inside, Q.both.small_c, Q.both.small_o)

  pub joining_few : k < 65536
  joining_few = omega (arith, Q.wrote.few, short)

  -- ---- an entry of one of them, put behind what was written
  module _ {s : List ℕ} {n' p i' : ℕ} {fs : Entries} (L : Left l s n' p i' fs) (h : i' < n') (z : ℕ) (v : ℕ) (T : Passes l s p z v) where
    abbrev e : z ≡ size_at_v (value_at (l - 1) (behind (p + name_width) s))
    e = passed l s p T

    pub entry_room : length s ≤ most_bytes → to + length (entry_bytes L h z e) < 2 ^ 64
    entry_room b = omega (arith, entry_long L h z e, end_in L h z e, short)

    entry_joined : {at' i'' bt' j'' : ℕ} {es gs : Entries} → Left l c n at' i'' es → Left l o m bt' j'' gs → at + bt + (name_width + z) ≤ at' + bt'
        → merged all Q.es Q.gs ≡ entry (A L h).name (A L h).x (merged all es gs)
        → Bytes s → (new : List ℕ) (t d : ℕ) → t ≡ to + length (entry_bytes L h z e) → new ≡ puts to (entry_bytes L h z e) out → d ≡ max deep v
        → Joining all l c o n m mid new at' i'' bt' j'' t (k + 1) d
    unfolding level_entries
    entry_joined {es = es} {gs = gs} C O more step bs new t d et en ed =
        let b = entry_bytes L h z e in
        let lv = level_told (l - 1) (behind (p + name_width) s) (length (behind (p + name_width) s)) z v (A L h).x T
        (ap (value_at (l - 1)) (rest s (p + name_width)) ∙ (A L h).first) in
        let y = entry_long L h z e in
        record {
          both = Q.both;
          es = es;
          gs = gs;
          left_c = C;
          left_o = O;
          done = Q.done ++ b;
          wrote = written_more Q.wrote b new t (omega arith) en et;
          low = omega (arith, Q.low);
          goes = sym (ap (context_text k Q.done) step ∙ text_more k (A L h).name Q.done (A L h).x (merged all es gs) b (entry_text_lem L h z e bs)) ∙ Q.goes;
          shallow = omega (arith, lv.1, Q.shallow);
          levels = omega (arith, lv.0, ap level_entries step, Q.levels);
        }

  module _ {x y : ℕ} (X : Seen c n at i x) (Y : Seen o m bt j y) where
    -- ---- a name that the other lacks
    module _ (h : x < y) where
      pub own_more : i < n
      own_more = (next_is i n (num_at name_width at c) x X.value (omega (arith, Y.upper_bound.0))).0

      pub own_next : (z v : ℕ) (T : Passes l c at z v) → Bytes c → (new : List ℕ) (t d : ℕ)
          → t ≡ to + length (entry_bytes Q.left_c own_more z (passed l c at T)) → new ≡ puts to (entry_bytes Q.left_c own_more z (passed l c at T)) out → d ≡ max deep v
          → Joining all l c o n m mid new (at + name_width + z) (i + 1) bt j t (k + 1) d
      own_next z v T =
          let L = Q.left_c in
          let E = A L own_more in
          let named : x ≡ E.name = left_name L own_more X (omega (arith, Y.upper_bound.0)) in
          let f : From (suc E.name) Q.gs = subst (λ (q : ℕ). From (suc q) Q.gs) named (left_above Q.left_o Y x h) in
          entry_joined L own_more z v T (left_next L own_more z (passed l c at T)) Q.left_o (omega arith)
          (ap (λ q. merged all q Q.gs) E.is ∙ merged_own all E.name E.x E.more Q.gs f)

    -- ---- a name that only the other has
    module _ (h : y < x) where
      pub new_more : j < m
      new_more = (next_is j m (num_at name_width bt o) y Y.value (omega (arith, X.upper_bound.0))).0

      abbrev O : This (l - 1) (m - (j + 1)) bt Q.left_o.least o Q.gs
      O = A Q.left_o new_more

      own_above : From (suc O.name) Q.es
      own_above =
          let named : y ≡ O.name = left_name Q.left_o new_more Y (omega (arith, X.upper_bound.0)) in
          subst (λ (q : ℕ). From (suc q) Q.es) named (left_above Q.left_c X y h)

      module _ (z v : ℕ) (T : Passes l o bt z v) where
        -- it is inserted
        pub new_next : all ≡ true → Bytes o → (new : List ℕ) (t d : ℕ)
            → t ≡ to + length (entry_bytes Q.left_o new_more z (passed l o bt T)) → new ≡ puts to (entry_bytes Q.left_o new_more z (passed l o bt T)) out → d ≡ max deep v
            → Joining all l c o n m mid new at i (bt + name_width + z) (j + 1) t (k + 1) d
        new_next a =
            entry_joined Q.left_o new_more z v T Q.left_c (left_next Q.left_o new_more z (passed l o bt T)) (omega arith)
            (ap (merged all Q.es) O.is ∙ merged_new all O.name O.x Q.es O.more a own_above O.asc)

        -- or passed over
        pub new_passed : all ≡ false → Joining all l c o n m mid out at i (bt + name_width + z) (j + 1) to k deep
        new_passed a =
            let step = ap (merged all Q.es) O.is ∙ merged_passed all O.name O.x Q.es O.more a own_above in
            record {
              both = Q.both;
              es = Q.es;
              gs = O.more;
              left_c = Q.left_c;
              left_o = left_next Q.left_o new_more z (passed l o bt T);
              done = Q.done;
              wrote = Q.wrote;
              low = omega (arith, Q.low);
              goes = sym (ap (context_text k Q.done) step) ∙ Q.goes;
              shallow = Q.shallow;
              levels = omega (arith, ap level_entries step, Q.levels);
            }

    module _ (lo : y ≤ x) (hi : x ≤ y) where
      -- ---- a common name
      module _ (d : x ≡ name_end → ⊥) where
        below_end : x < name_end
        below_end = omega (arith, X.upper_bound.0)

        pub both_c : i < n
        both_c = (next_is i n (num_at name_width at c) x X.value below_end).0

        pub both_o : j < m
        both_o = (next_is j m (num_at name_width bt o) y Y.value (omega (arith, below_end))).0

        pub both_next : (u : ℕ) → u ≡ size_at_v (value_at (l - 1) (behind (at + name_width) c)) → (z v : ℕ) (T : Passes l o bt z v) → Bytes o → (new : List ℕ) (t d : ℕ)
            → t ≡ to + length (entry_bytes Q.left_o both_o z (passed l o bt T)) → new ≡ puts to (entry_bytes Q.left_o both_o z (passed l o bt T)) out → d ≡ max deep v
            → Joining all l c o n m mid new (at + name_width + u) (i + 1) (bt + name_width + z) (j + 1) t (k + 1) d
        both_next u f z v T =
            let E = A Q.left_c both_c in
            let G = A Q.left_o both_o in
            let p : x ≡ E.name = left_name Q.left_c both_c X below_end in
            let q : y ≡ G.name = left_name Q.left_o both_o Y (omega (arith, below_end)) in
            let same : E.name ≡ G.name = omega arith in
            entry_joined Q.left_o both_o z v T (left_next Q.left_c both_c u f) (left_next Q.left_o both_o z (passed l o bt T)) (omega arith)
            (ap₂ (merged all) (E.is ∙ ap (λ (r : ℕ). entry r E.x E.more) same) G.is ∙ merged_both all G.name E.x G.x E.more G.more G.asc)

      -- ---- both at their end
      pub joining_done : x ≡ name_end → (p q : ℕ) → p ≡ k % 256 → q ≡ k / 256 → (old new : List ℕ) (t : ℕ) → mid ≡ fill (take 3 c) old → new ≡ fill (11 ∷ p ∷ q ∷ []) out
          → t ≡ deep + 1 → Merges all (context_at l c) (context_at l o) old new to t
      unfolding level_v level_entries
      joining_done d p q ep eq old new t em en et =
          let B = Q.both in
          let y-end : y ≡ name_end = omega arith in
          let head : length (take 3 c) ≡ 3 = length-take-le 3 c B.ctx_c.three in
          let none : merged all Q.es Q.gs ≡ no_entries = ap₂ (merged all) (left_ended Q.left_c X d) (left_ended Q.left_o Y y-end) ∙ merged_none all no_entries in
          let text : enc_v (v_context (merged all B.whole_c B.whole_o)) ≡ (11 ∷ p ∷ q ∷ []) ++ Q.done = sym Q.goes ∙ ap (context_text k Q.done) none
          ∙ ended k p q Q.done joining_few ep eq in
          merges all l c o B.whole_c B.whole_o old new to t B.ctx_c.read B.ctx_o.read
          (record {
            long = omega (arith, ap length text, Q.wrote.long);
            out = late_head (take 3 c) (11 ∷ p ∷ q ∷ []) Q.done old mid out new head em Q.wrote.state en ∙ ap (λ (r : List ℕ). fill r old) (sym text);
            deep = omega (arith, et, Q.levels, ap level_entries none);
          })
