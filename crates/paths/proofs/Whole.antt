-- A context at the front of the bytes, and one of which all bytes were read.
-- Index: `Front`, `front_of` (at the front); `Ctx`, `ctx_of`, `ctx_ok`, `context_read`, `read_context` (all bytes);
-- `whole_is`, `is_whole`, `whole_text` (a whole value); `size_behind` (a value further on).
-- Assumes nothing.
use Prim.Native.Nat.{ℕ, ◌+◌, ◌-◌, ◌<◌, ◌≤◌}
use native.Mathlib.Omega.{arith}
use mathlib.Core.Path.{◌≡◌, refl, sym, ap, ◌∙◌}
use mathlib.Core.Bool.{Bool, true, false}
use mathlib.Core.Option.{Option, none, some}
use mathlib.Core.List.{List}
use lib.ListN.{length, get_or, drop}
use lib.Seq.{take_all}
use lib.Dec.{eqb}
use borrow.Author.Tests.{eqb-true, eq-eqb}
use Rattle.form.specs.Trees.{Val, v_leaf, v_range, v_list, v_context, v_function, v_built_in, v_type, v_irrelevant, Entries}
use Rattle.form.specs.Form.{Bytes, num_at, enc_v}
use Rattle.form.specs.Outcome.{pick}
use Rattle.form.specs.Read.{Got, got, bad, read_v}
use Rattle.form.proofs.Runs.{rest, behind}
use Rattle.form.proofs.Values.{took_enc_v}
use Rattle.order.specs.Size.{size_val, size_entries}
use Rattle.types.specs.At.{Ok}
use Rattle.types.proofs.Reading.{ok_got, got_seen}
use Rattle.values.specs.At.{value_at, entries_at, size_at_v}
use Rattle.values.proofs.Reading.{value_told, IsVal, is_context_lem, is_val}
use Rattle.values.proofs.Reading.{some_level, size_got}
use Rattle.paths.specs.Paths.{entries_of, bind}
use Rattle.paths.specs.Places.{taken, whole_at, context_at}
use Rattle.values.proofs.EntriesAt.{size_context}
use Rattle.form.proofs.Options.{none_some, some_same}
use Rattle.form.specs.Layout.{ValueKind}

-- ---- all bytes were taken
pub taken_is : (n : ℕ) (r : Got Val) (v : Val) → taken n r ≡ some v → r ≡ got v n
unfolding taken
taken_is n (got w m) v e = go (eqb m n) refl e
  where
    go : (q : Bool) → eqb m n ≡ q → pick q (some w) none ≡ some v → got w m ≡ got v n
    go true p h = let a = eqb-true m n p in let b = some_same h in cc
    go false p h = absurd (none_some h)
taken_is n (bad f) v e = absurd (none_some e)

pub is_taken : (n : ℕ) (r : Got Val) (v : Val) → r ≡ got v n → taken n r ≡ some v
unfolding taken
is_taken n r v e = ap (taken n) e ∙ ap (λ q. pick q (some v) none) (eq-eqb n n refl)

pub whole_is : (l : ℕ) (s : List ℕ) (v : Val) → whole_at l s ≡ some v → read_v l s ≡ got v (length s)
unfolding whole_at
whole_is l s v e = taken_is (length s) (read_v l s) v e

pub is_whole : (l : ℕ) (s : List ℕ) (v : Val) → read_v l s ≡ got v (length s) → whole_at l s ≡ some v
unfolding whole_at
is_whole l s v e = is_taken (length s) (read_v l s) v e

-- its bytes
pub whole_text : (l : ℕ) (s : List ℕ) (v : Val) → Bytes s → whole_at l s ≡ some v → s ≡ enc_v v
whole_text l s v b e = sym (take_all (length s) s (omega arith)) ∙ took_enc_v l s b v (length s) (whole_is l s v e)

-- ---- a value further on, as `&s[k..]` hands it over
pub size_behind : (l k : ℕ) (s : List ℕ) (v : Val) → value_at l (drop k s) ≡ some v → size_at_v (value_at l (behind k s)) ≡ size_val v
size_behind l k s v e = ap (λ (r : List ℕ). size_at_v (value_at l r)) (rest s k) ∙ size_got (value_at l (drop k s)) v e

-- ---- a context
pub of_context : (v : Val) (es : Entries) → entries_of v ≡ some es → v ≡ v_context es
of_context (v_leaf l) es e = absurd (none_some e)
of_context (v_range i j v w) es e = absurd (none_some e)
of_context (v_list vs) es e = absurd (none_some e)
of_context (v_context fs) es e = ap v_context (some_same e)
of_context (v_function ps b r) es e = absurd (none_some e)
of_context (v_built_in n) es e = absurd (none_some e)
of_context (v_type t) es e = absurd (none_some e)
of_context v_irrelevant es e = absurd (none_some e)

pub given_is : {X Y : Type 0} (o : Option X) (f : X → Option Y) (y : Y) → bind o f ≡ some y → (x : X) × (o ≡ some x) × (f x ≡ some y)
given_is none f y e = absurd (none_some e)
given_is (some x) f y e = (x, refl, e)

pub context_read : (l : ℕ) (s : List ℕ) (es : Entries) → context_at l s ≡ some es → read_v l s ≡ got (v_context es) (length s)
unfolding context_at
context_read l s es e = go (given_is (whole_at l s) entries_of es e)
  where
    go : (v : Val) × (whole_at l s ≡ some v) × (entries_of v ≡ some es) → read_v l s ≡ got (v_context es) (length s)
    go (v, p, q) = whole_is l s v p ∙ ap (λ w. got w (length s)) (of_context v es q)

pub read_context : (l : ℕ) (s : List ℕ) (es : Entries) → read_v l s ≡ got (v_context es) (length s) → context_at l s ≡ some es
unfolding context_at
read_context l s es e = ap (λ o. bind o entries_of) (is_whole l s (v_context es) e)

-- ---- the context at the front
pub record Front (l : ℕ) (s : List ℕ) (es : Entries) : Type 0 where
  pub three : 3 ≤ length s
  pub level : 0 < l
  pub command : get_or s 0 0 ≡ 11
  pub entries : entries_at (l - 1) (num_at 2 1 s) 0 (drop 3 s) ≡ some es

front : {j : ValueKind} {l : ℕ} {s : List ℕ} {es : Entries} → 0 < l → IsVal l s j (v_context es) → Front l s es
front h (is_context_lem es c k p) = record { three = k; level = h; command = c; entries = p }

pub front_of : (l : ℕ) (s : List ℕ) (v : Val) (es : Entries) → value_at l s ≡ some v → entries_of v ≡ some es → Front l s es
front_of l s v es e h = front (some_level l s v e) (is_val l s (v_context es) (e ∙ ap some (of_context v es h))).1

-- ---- a context of which all bytes were read
pub record Ctx (l : ℕ) (s : List ℕ) (es : Entries) : Type 0 where
  pub read : context_at l s ≡ some es
  pub all : 3 + size_entries es ≡ length s
  pub three : 3 ≤ length s
  pub level : 0 < l
  pub entries : entries_at (l - 1) (num_at 2 1 s) 0 (drop 3 s) ≡ some es

pub ctx_of : (l : ℕ) (s : List ℕ) (es : Entries) → context_at l s ≡ some es → Ctx l s es
unfolding value_at
ctx_of l s es e =
    let r = context_read l s es e in
    let F = front_of l s (v_context es) es (got_seen (read_v l s) (v_context es) (length s) r) refl in
    record {
      read = e;
      all = omega (arith, (value_told l s (v_context es) (length s) r).sized, size_context es);
      three = F.three;
      level = F.level;
      entries = F.entries;
    }

pub ctx_ok : (l : ℕ) (s : List ℕ) → Ok (context_at l s) → (es : Entries) × Ctx l s es
ctx_ok l s h = go (ok_got (context_at l s) h)
  where
    go : (es : Entries) × (context_at l s ≡ some es) → (es : Entries) × Ctx l s es
    go (es, e) = (es, ctx_of l s es e)
