-- Where a value misses a type (document 02, K5), on trees: the walk that document 02 describes, with places counted from the trees; and beside it, as a relation,
-- what a step down and a stop are. Over every order among the simple types.
-- Assumes nothing.
use Rattle.std.specs.Prelude.{ℕ, ◌+◌, ◌≡◌, Bool, true, false, cond, eqb}
use Rattle.std.proofs.Math.Option.{Option, none, some}
use Rattle.form.specs.Limits.{name_width}
use Rattle.form.specs.Options.{map}
use Rattle.form.specs.Trees.{Ty, leaf, built, list, range, context, function, Fields, no_fields, field, Val, v_leaf, v_range, v_list, v_context, v_function, v_built_in, v_type, v_irrelevant}
use Rattle.form.specs.Trees.{Vals, no_items, item, Entries, no_entries, entry}
use Rattle.order.specs.Order.{Order}
use Rattle.order.specs.Types.{all_fields}
use Rattle.order.specs.Size.{size, size_fields, size_val, size_vals, size_entries}
use Rattle.order.specs.Values.{conforms, all_conform, has_value}

-- The spot: the failing part of the value with the type required there; or the context, its type and the name that it lacks. A place counts the bytes from the
-- beginning of the value, and the other one those from the beginning of the type.
pub data Miss : Type 0 where
  part : ℕ → Val → ℕ → Ty → Miss
  lacks : ℕ → Entries → ℕ → Fields → ℕ → Miss

-- seen from i bytes further out in the value and j in the type
abbrev pub shift : ℕ → ℕ → Miss → Miss
shift i j (part p v q t) = part (i + p) v (j + q) t
shift i j (lacks p es q fs n) = lacks (i + p) es (j + q) fs n

-- the first of two that does not conform
abbrev pub first : Option Miss → Option Miss → Option Miss
first none o = o
first (some m) o = some m

-- a name of the type in a context: it is missing, or its value conforms, or that misses
pub data Named : Type 0 where
  absent fits : Named
  misses : Miss → Named

abbrev pub named_by : Option Miss → Named
named_by none = fits
named_by (some m) = misses m

-- seen from k bytes further out in the context
abbrev pub behind : ℕ → Named → Named
behind k absent = absent
behind k fits = fits
behind k (misses m) = misses (shift k 0 m)

-- one entry of the type, whose own type stands at k: the spot in it, or that its name is missing, or what the entries behind it have
abbrev pub entry_miss : Named → Miss → ℕ → Option Miss → Option Miss
entry_miss absent missing k others = some missing
entry_miss fits missing k others = others
entry_miss (misses m) missing k others = some (shift 0 k m)

-- the first entry of the type that does not conform; k is its place in the type
unfoldable pub miss_fields : (ℕ → Ty → Named) → (ℕ → Miss) → ℕ → Fields → Option Miss
miss_fields at missing k no_fields = none
miss_fields at missing k (field n t fs) = entry_miss (at n t) (missing n) (k + name_width) (miss_fields at missing (k + name_width + size t) fs)

-- into the type of a value's own kind; to every other type something else
abbrev pub into_range {ℓ} : {A : Type ℓ} → Ty → A → (Ty → A) → A
into_range (leaf s) a f = a
into_range (built (list u)) a f = a
into_range (built (range u)) a f = f u
into_range (built (context fs)) a f = a
into_range (built (function qs r)) a f = a

abbrev pub into_list {ℓ} : {A : Type ℓ} → Ty → A → (Ty → A) → A
into_list (leaf s) a f = a
into_list (built (list u)) a f = f u
into_list (built (range u)) a f = a
into_list (built (context fs)) a f = a
into_list (built (function qs r)) a f = a

abbrev pub into_context {ℓ} : {A : Type ℓ} → Ty → A → (Fields → A) → A
into_context (leaf s) a f = a
into_context (built (list u)) a f = a
into_context (built (range u)) a f = a
into_context (built (context fs)) a f = f fs
into_context (built (function qs r)) a f = a

module _ (O : Order) where
  -- stop here, unless it conforms
  abbrev pub stop : Val → Ty → Option Miss
  stop v t = cond (conforms O v t) none (some (part 0 v 0 t))

  -- The spot, none where the value conforms: from the top into the first range end, list item or type entry that does not conform.
  unfoldable mutual
    pub miss : Val → Ty → Option Miss
    miss (v_leaf l) t = stop (v_leaf l) t
    miss (v_range i j v w) t = into_range t (stop (v_range i j v w) t) (λ u. map (shift 3 1) (first (miss v u) (map (shift (size_val v) 0) (miss w u))))
    miss (v_list vs) t = into_list t (stop (v_list vs) t) (λ u. map (shift 3 1) (miss_items vs u))
    miss (v_context es) t = into_context t (stop (v_context es) t) (λ fs. miss_fields (λ n u. behind 3 (miss_entry es n u)) (λ n. lacks 0 es 0 fs n) 3 fs)
    miss (v_function ps b r) t = stop (v_function ps b r) t
    miss (v_built_in n) t = stop (v_built_in n) t
    miss (v_type a) t = stop (v_type a) t
    miss v_irrelevant t = stop v_irrelevant t

    -- places are counted from the first item
    pub miss_items : Vals → Ty → Option Miss
    miss_items no_items u = none
    miss_items (item v vs) u = first (miss v u) (map (shift (size_val v) 0) (miss_items vs u))

    -- and from the first entry
    pub miss_entry : Entries → ℕ → Ty → Named
    miss_entry no_entries n u = absent
    miss_entry (entry m v es) n u = cond (eqb n m) (behind name_width (named_by (miss v u))) (behind (name_width + size_val v) (miss_entry es n u))

-- ---- The same as a relation
-- the walk goes into the parts of a range, list or context against a type of that kind, and of nothing else: not of a function
abbrev pub goes_into : Val → Ty → Bool
goes_into (v_leaf l) t = false
goes_into (v_range i j v w) t = into_range t false (λ u. true)
goes_into (v_list vs) t = into_list t false (λ u. true)
goes_into (v_context es) t = into_context t false (λ fs. true)
goes_into (v_function ps b r) t = false
goes_into (v_built_in n) t = false
goes_into (v_type a) t = false
goes_into v_irrelevant t = false

-- one behind the other
unfoldable pub items_then : Vals → Vals → Vals
items_then no_items ws = ws
items_then (item v vs) ws = item v (items_then vs ws)

unfoldable pub entries_then : Entries → Entries → Entries
entries_then no_entries ds = ds
entries_then (entry n v es) ds = entry n v (entries_then es ds)

unfoldable pub fields_then : Fields → Fields → Fields
fields_then no_fields gs = gs
fields_then (field n t fs) gs = field n t (fields_then fs gs)

-- no entry has the name
unfoldable pub without : ℕ → Entries → Bool
without n no_entries = true
without n (entry m v es) = cond (eqb n m) false (without n es)

module _ (O : Order) where
  -- every entry of the type is met by the context
  abbrev pub meets : Entries → Fields → Bool
  meets es fs = all_fields (λ n t. has_value O es n t) fs

  -- A step down: into the first range end, list item or type entry that does not conform; so many bytes further in the value and in the type.
  pub data Step : Val → Ty → ℕ → ℕ → Val → Ty → Type 0 where
    into_start : {i j : ℕ} {v w : Val} {u : Ty} → conforms O v u ≡ false → Step (v_range i j v w) (built (range u)) 3 1 v u
    into_end : {i j : ℕ} {v w : Val} {u : Ty} → conforms O v u ≡ true → conforms O w u ≡ false → Step (v_range i j v w) (built (range u)) (3 + size_val v) 1 w u
    into_item : (before : Vals) (v : Val) (after : Vals) {u : Ty} → all_conform O before u ≡ true → conforms O v u ≡ false
        → Step (v_list (items_then before (item v after))) (built (list u)) (3 + size_vals before) 1 v u
    into_entry : (ahead : Entries) (n : ℕ) (v : Val) (rest : Entries) (before : Fields) (u : Ty) (after : Fields) → without n ahead ≡ true
        → meets (entries_then ahead (entry n v rest)) before ≡ true → conforms O v u ≡ false
        → Step (v_context (entries_then ahead (entry n v rest))) (built (context (fields_then before (field n u after)))) (3 + size_entries ahead + name_width)
        (3 + size_fields before + name_width) v u

  -- A stop: the outer kind is wrong or the part is a function, which is no conforming one; or a name is missing, and every entry of the type before it is met.
  pub data Stop : Val → Ty → Option ℕ → Type 0 where
    at_part : {v : Val} {t : Ty} → goes_into v t ≡ false → conforms O v t ≡ false → Stop v t none
    at_name : {es : Entries} (before : Fields) (n : ℕ) (u : Ty) (after : Fields) → meets es before ≡ true → without n es ≡ true
        → Stop (v_context es) (built (context (fields_then before (field n u after)))) (some n)

  -- The way from a value and its type down to a part and the part's type, with the places of both.
  pub data Way : Val → Ty → ℕ → ℕ → Val → Ty → Type 0 where
    here : {v : Val} {t : Ty} → Way v t 0 0 v t
    down : {v w x : Val} {t u y : Ty} {i j p q : ℕ} → Step v t i j w u → Way w u p q x y → Way v t (i + p) (j + q) x y
