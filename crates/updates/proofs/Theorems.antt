-- What is proved of updates on trees: what stands at every path behind an update, and when apply refuses.
-- Idea: induction on the path, one step at a time.
-- Index: `created_found`, `created_other`, `created_inside`, `created_way` (create); `apply_create`, `apply_refuses`, `refuses_apply` (apply); `set_create`, `null_create` (one name);
-- `move_absent`, `move_nests`, `move_found`, `move_gone`, `move_other`, `move_parent`, `move_replaced`, `move_inside`, `move_below` (move); `removed_gone`, `removed_other` (remove).
-- Assumes nothing.
use Prim.Native.Nat.{ℕ, ◌+◌, ◌<◌}
use native.Mathlib.Omega.{arith}
use mathlib.Core.Path.{◌≡◌, refl, sym, ap, ◌∙◌}
use mathlib.Core.Bool.{Bool, true, false, cond}
use mathlib.Core.Option.{Option, none, some}
use mathlib.Core.List.{List, [], ◌∷◌, ◌++◌}
use lib.Dec.{eqb, ltb}
use borrow.Author.Tests.{ne_eqb, lt-ltb, eqb-true, ltb-true}
use Rattle.form.specs.Trees.{Val, v_context, Entries, no_entries, entry, nothing}
use Rattle.form.specs.Form.{WfEntries}
use Rattle.paths.specs.Paths.{value_of, entries_of, bind, or_empty, context_under, search}
use Rattle.updates.specs.Update.{insert, remove, create, on_the_way, apply, moved, move_entry, set_entry, set_null, remove_entry}
use Rattle.updates.specs.Laws.{Apart, here, later, Blocked}
use Rattle.updates.proofs.InsertedEntries.{absent, value_insert, value_insert_other, value_remove, value_remove_other, remove_absent}
use Rattle.form.specs.Options.{map}
use Rattle.form.proofs.Options.{none_some, some_same, map_is}

not_empty : {n : ℕ} {ns : List ℕ} → n ∷ ns ≡ [] → ⊥
not_empty e = let z : ◌≡◌ {A = ℕ} 0 1 = cc in omega arith

-- ---- a search, one name further
-- nothing is found where there are no entries
pub search_none : (p : List ℕ) → search p no_entries ≡ none
unfolding search value_of
search_none [] = refl
search_none (n ∷ []) = refl
search_none (n ∷ m ∷ ns) = refl

search_or_empty : (p : List ℕ) (o : Option Entries) → search p (or_empty o) ≡ bind o (λ fs. search p fs)
search_or_empty p none = search_none p
search_or_empty p (some fs) = refl

-- under a name just inserted, and under another
search_under : (n m : ℕ) (ns : List ℕ) (x : Val) (es : Entries) → search (n ∷ m ∷ ns) (insert n x es) ≡ bind (entries_of x) (λ fs. search (m ∷ ns) fs)
unfolding search
search_under n m ns x es = ap (λ (o : Option Val). bind (bind o entries_of) (λ fs. search (m ∷ ns) fs)) (value_insert n x es)

search_beside : (n : ℕ) (p : List ℕ) (m : ℕ) (x : Val) (es : Entries) → (n ≡ m → ⊥) → search (n ∷ p) (insert m x es) ≡ search (n ∷ p) es
unfolding search
search_beside n [] m x es d = value_insert_other n m x es d
search_beside n (k ∷ ks) m x es d = ap (λ (o : Option Val). bind (bind o entries_of) (λ fs. search (k ∷ ks) fs)) (value_insert_other n m x es d)

-- ---- create
pub created_found : (p : List ℕ) (x : Val) (es : Entries) → (p ≡ [] → ⊥) → search p (create p x es) ≡ some x
unfolding search create
created_found [] x es d = absurd (d refl)
created_found (n ∷ []) x es d = value_insert n x es
created_found (n ∷ m ∷ ns) x es d =
    let fs = or_empty (context_under n es) in
    search_under n m ns (v_context (create (m ∷ ns) x fs)) es ∙ created_found (m ∷ ns) x fs not_empty

created_beside : (n m : ℕ) (q p : List ℕ) (x : Val) (es : Entries) → (n ≡ m → ⊥) → search (n ∷ q) (create (m ∷ p) x es) ≡ search (n ∷ q) es
unfolding create
created_beside n m q [] x es d = search_beside n q m x es d
created_beside n m q (k ∷ ks) x es d = search_beside n q m (v_context (create (k ∷ ks) x (or_empty (context_under m es)))) es d

created_deeper : (n : ℕ) (q p : List ℕ) (x : Val) (es : Entries) → Apart q p → ((fs : Entries) → search q (create p x fs) ≡ search q fs) → search (n ∷ q) (create (n ∷ p) x es) ≡ search (n ∷ q) es
unfolding search create
created_deeper n [] p x es a ih = elim a [ ]
created_deeper n (k ∷ ks) [] x es a ih = elim a [ ]
created_deeper n (k ∷ ks) (m ∷ ms) x es a ih =
    let fs = or_empty (context_under n es) in
    search_under n k ks (v_context (create (m ∷ ms) x fs)) es ∙ ih fs ∙ search_or_empty (k ∷ ks) (context_under n es)

pub created_other : (q p : List ℕ) (x : Val) (es : Entries) → Apart q p → search q (create p x es) ≡ search q es
created_other q p x es (here n m r s d) = created_beside n m r s x es d
created_other q p x es (later n r s a) = created_deeper n r s x es a (λ fs. created_other r s x fs a)

pub created_inside : (p r : List ℕ) (x : Val) (es : Entries) → (p ≡ [] → ⊥) → (r ≡ [] → ⊥) → search (p ++ r) (create p x es) ≡ bind (entries_of x) (λ fs. search r fs)
unfolding create
created_inside [] r x es d f = absurd (d refl)
created_inside (n ∷ []) [] x es d f = absurd (f refl)
created_inside (n ∷ []) (k ∷ ks) x es d f = search_under n k ks x es
created_inside (n ∷ m ∷ ns) r x es d f =
    let fs = or_empty (context_under n es) in
    search_under n m (ns ++ r) (v_context (create (m ∷ ns) x fs)) es ∙ created_inside (m ∷ ns) r x fs not_empty f

pub created_way : (q r : List ℕ) (x : Val) (es : Entries) → (q ≡ [] → ⊥) → (r ≡ [] → ⊥) → search q (create (q ++ r) x es) ≡ some (v_context (create r x (or_empty (bind (search q es) entries_of))))
unfolding search create
created_way [] r x es d f = absurd (d refl)
created_way (n ∷ []) [] x es d f = absurd (f refl)
created_way (n ∷ []) (k ∷ ks) x es d f = value_insert n (v_context (create (k ∷ ks) x (or_empty (context_under n es)))) es
created_way (n ∷ m ∷ ns) r x es d f =
    let fs = or_empty (context_under n es) in
    search_under n m ns (v_context (create (m ∷ (ns ++ r)) x fs)) es ∙ created_way (m ∷ ns) r x fs not_empty f
    ∙ ap (λ (o : Option Val). some (v_context (create r x (or_empty (bind o entries_of))))) (search_or_empty (m ∷ ns) (context_under n es))

-- ---- apply
mapped_none : {X Y : Type 0} (f : X → Y) (o : Option X) → map f o ≡ none → o ≡ none
mapped_none f none e = refl
mapped_none f (some x) e = absurd (none_some (sym e))

-- the rest of a path applied to the context on the way
abbrev onward : ℕ → ℕ → List ℕ → Val → Entries → Option Entries → Option Entries
onward n m ns x es o = bind o (λ fs. map (λ gs. insert n (v_context gs) es) (apply (m ∷ ns) x fs))

pub apply_create : (p : List ℕ) (x : Val) (es fs : Entries) → apply p x es ≡ some fs → fs ≡ create p x es
unfolding apply create
apply_create [] x es fs e = sym (some_same e)
apply_create (n ∷ []) x es fs e = sym (some_same e)
apply_create (n ∷ m ∷ ns) x es fs e = by (value_of n es) (λ gs hs z. apply_create (m ∷ ns) x gs hs z) e
  where
    on : (o : Option Entries) → ((gs hs : Entries) → apply (m ∷ ns) x gs ≡ some hs → hs ≡ create (m ∷ ns) x gs) → onward n m ns x es o ≡ some fs
        → fs ≡ insert n (v_context (create (m ∷ ns) x (or_empty o))) es
    on none ih z = absurd (none_some z)
    on (some gs) ih z =
        let h = map_is (λ hs. insert n (v_context hs) es) (apply (m ∷ ns) x gs) fs z in
        h.2 ∙ ap (λ hs. insert n (v_context hs) es) (ih gs h.0 h.1)

    by : (o : Option Val) → ((gs hs : Entries) → apply (m ∷ ns) x gs ≡ some hs → hs ≡ create (m ∷ ns) x gs) → onward n m ns x es (on_the_way o) ≡ some fs
        → fs ≡ insert n (v_context (create (m ∷ ns) x (or_empty (bind o entries_of)))) es
    by none ih z = on (some no_entries) ih z
    by (some v) ih z = on (entries_of v) ih z

search_in : (n : ℕ) (p : List ℕ) (fs es : Entries) (v : Val) → context_under n es ≡ some fs → search p fs ≡ some v → search (n ∷ p) es ≡ some v
unfolding search
search_in n [] fs es v c e = absurd (none_some e)
search_in n (m ∷ ns) fs es v c e = ap (λ o. bind o (λ gs. search (m ∷ ns) gs)) c ∙ e

blocked_in : (n : ℕ) (p : List ℕ) (fs es : Entries) → context_under n es ≡ some fs → Blocked p fs → Blocked (n ∷ p) es
blocked_in n p fs es c B =
    record {
      before = n ∷ B.before;
      after = B.after;
      parts = ap (λ q. n ∷ q) B.parts;
      goes_on = B.goes_on;
      v = B.v;
      is_there = search_in n B.before fs es B.v c B.is_there;
      no_context = B.no_context;
    }

none_blocked : (p : List ℕ) → Blocked p no_entries → ⊥
none_blocked p B = none_some (sym (search_none B.before) ∙ B.is_there)

blocked_here : (n m : ℕ) (ns : List ℕ) (es : Entries) (v : Val) → value_of n es ≡ some v → entries_of v ≡ none → Blocked (n ∷ m ∷ ns) es
unfolding search
blocked_here n m ns es v e h = record { before = n ∷ []; after = m ∷ ns; parts = refl; goes_on = not_empty; v = v; is_there = e; no_context = h }

pub apply_refuses : (p : List ℕ) (x : Val) (es : Entries) → apply p x es ≡ none → Blocked p es
unfolding apply
apply_refuses [] x es e = absurd (none_some (sym e))
apply_refuses (n ∷ []) x es e = absurd (none_some (sym e))
apply_refuses (n ∷ m ∷ ns) x es e = by (value_of n es) refl (λ fs z. apply_refuses (m ∷ ns) x fs z) e
  where
    rest : (fs : Entries) → onward n m ns x es (some fs) ≡ none → apply (m ∷ ns) x fs ≡ none
    rest fs z = mapped_none (λ gs. insert n (v_context gs) es) (apply (m ∷ ns) x fs) z

    on : (v : Val) → value_of n es ≡ some v → (o : Option Entries) → entries_of v ≡ o → ((fs : Entries) → apply (m ∷ ns) x fs ≡ none → Blocked (m ∷ ns) fs)
        → onward n m ns x es o ≡ none → Blocked (n ∷ m ∷ ns) es
    on v q none r ih z = blocked_here n m ns es v q r
    on v q (some fs) r ih z = blocked_in n (m ∷ ns) fs es (ap (λ (o : Option Val). bind o entries_of) q ∙ r) (ih fs (rest fs z))

    by : (o : Option Val) → value_of n es ≡ o → ((fs : Entries) → apply (m ∷ ns) x fs ≡ none → Blocked (m ∷ ns) fs) → onward n m ns x es (on_the_way o) ≡ none → Blocked (n ∷ m ∷ ns) es
    by none q ih z = absurd (none_blocked (m ∷ ns) (ih no_entries (rest no_entries z)))
    by (some v) q ih z = on v q (entries_of v) refl ih z

refuses_at : (q r : List ℕ) (x : Val) (es : Entries) (v : Val) → (r ≡ [] → ⊥) → search q es ≡ some v → entries_of v ≡ none → apply (q ++ r) x es ≡ none
unfolding search apply
refuses_at [] r x es v d e h = absurd (none_some e)
refuses_at (n ∷ []) [] x es v d e h = absurd (d refl)
refuses_at (n ∷ []) (m ∷ ns) x es v d e h = ap (λ (o : Option Val). onward n m ns x es (on_the_way o)) e ∙ ap (λ (o : Option Entries). onward n m ns x es o) h
refuses_at (n ∷ m ∷ ns) r x es v d e h = by (value_of n es) (λ fs z. refuses_at (m ∷ ns) r x fs v d z h) e
  where
    on : (o : Option Entries) → ((fs : Entries) → search (m ∷ ns) fs ≡ some v → apply (m ∷ (ns ++ r)) x fs ≡ none) → bind o (λ fs. search (m ∷ ns) fs) ≡ some v → onward n m (ns ++ r) x es o ≡ none
    on none ih z = refl
    on (some fs) ih z = ap (map (λ gs. insert n (v_context gs) es)) (ih fs z)

    by : (o : Option Val) → ((fs : Entries) → search (m ∷ ns) fs ≡ some v → apply (m ∷ (ns ++ r)) x fs ≡ none)
        → bind (bind o entries_of) (λ fs. search (m ∷ ns) fs) ≡ some v → onward n m (ns ++ r) x es (on_the_way o) ≡ none
    by none ih z = absurd (none_some z)
    by (some w) ih z = on (entries_of w) ih z

pub refuses_apply : (p : List ℕ) (x : Val) (es : Entries) → Blocked p es → apply p x es ≡ none
refuses_apply p x es B = ap (λ q. apply q x es) B.parts ∙ refuses_at B.before B.after x es B.v B.goes_on B.is_there B.no_context

-- ---- one name
pub set_create : (n : ℕ) (x : Val) (es : Entries) → set_entry n x es ≡ create (n ∷ []) x es
unfolding create
set_create n x es = refl

pub null_create : (n : ℕ) (es : Entries) → set_null n es ≡ create (n ∷ []) (nothing 0) es
unfolding create
null_create n es = refl

-- ---- move
pub move_absent : (n parent : ℕ) (es : Entries) → value_of n es ≡ none → move_entry n parent es ≡ es
move_absent n parent es e = ap (moved n parent es) e

insert_first : (n k : ℕ) (x : Val) (es : Entries) → WfEntries es k → n < k → insert n x es ≡ entry n x es
unfolding WfEntries insert
insert_first n k x no_entries w h = refl
insert_first n k x (entry m v es) w h =
    let d : n ≡ m → ⊥ = λ e. omega (arith, w.0) in
    ap (λ q. cond q (entry n x es) (cond (ltb n m) (entry n x (entry m v es)) (entry m v (insert n x es)))) (ne_eqb n m d)
    ∙ ap (λ q. cond q (entry n x (entry m v es)) (entry m v (insert n x es))) (lt-ltb n m (omega (arith, w.0)))

-- what is inserted stands in place of what was removed
insert_removed : (n k : ℕ) (x : Val) (es : Entries) → WfEntries es k → insert n x (remove n es) ≡ insert n x es
unfolding WfEntries insert remove
insert_removed n k x no_entries w = refl
insert_removed n k x (entry m v es) w = by (insert_removed n (m + 1) x es w.1.1.1) (eqb n m) refl (ltb n m) refl
  where
    by : insert n x (remove n es) ≡ insert n x es → (q : Bool) → eqb n m ≡ q → (r : Bool) → ltb n m ≡ r
        → insert n x (cond q es (entry m v (remove n es))) ≡ cond q (entry n x es) (cond r (entry n x (entry m v es)) (entry m v (insert n x es)))
    by ih true e r f = let z = eqb-true n m e in insert_first n (m + 1) x es w.1.1.1 (omega arith)
    by ih false e true f =
        let z = ltb-true n m f in
        ap (λ q. cond q (entry n x (remove n es)) (cond (ltb n m) (entry n x (entry m v (remove n es))) (entry m v (insert n x (remove n es))))) e
        ∙ ap (λ q. cond q (entry n x (entry m v (remove n es))) (entry m v (insert n x (remove n es)))) f
        ∙ ap (λ fs. entry n x (entry m v fs)) (remove_absent n es (absent n (m + 1) es w.1.1.1 (omega arith)))
    by ih false e false f =
        ap (λ q. cond q (entry n x (remove n es)) (cond (ltb n m) (entry n x (entry m v (remove n es))) (entry m v (insert n x (remove n es))))) e
        ∙ ap (λ q. cond q (entry n x (entry m v (remove n es))) (entry m v (insert n x (remove n es)))) f
        ∙ ap (entry m v) ih

pub move_nests : (n k : ℕ) (x : Val) (es : Entries) → WfEntries es k → value_of n es ≡ some x → move_entry n n es ≡ insert n (v_context (entry n x no_entries)) es
unfolding create insert
move_nests n k x es w e =
    ap (moved n n es) e
    ∙ ap (λ (o : Option Val). insert n (v_context (insert n x (or_empty (bind o entries_of)))) (remove n es)) (value_remove n k es w)
    ∙ insert_removed n k (v_context (entry n x no_entries)) es w

pub move_found : (n parent : ℕ) (x : Val) (es : Entries) → value_of n es ≡ some x → search (parent ∷ n ∷ []) (move_entry n parent es) ≡ some x
move_found n parent x es e = ap (λ o. search (parent ∷ n ∷ []) (moved n parent es o)) e ∙ created_found (parent ∷ n ∷ []) x (remove n es) not_empty

moved_other : (m n parent : ℕ) (x : Val) (es : Entries) → (m ≡ parent → ⊥) → value_of m (moved n parent es (some x)) ≡ value_of m (remove n es)
unfolding create
moved_other m n parent x es d = value_insert_other m parent (v_context (create (n ∷ []) x (or_empty (context_under parent (remove n es))))) (remove n es) d

pub move_gone : (n parent k : ℕ) (es : Entries) → WfEntries es k → (n ≡ parent → ⊥) → value_of n (move_entry n parent es) ≡ none
move_gone n parent k es w d = by (value_of n es) refl
  where
    by : (o : Option Val) → value_of n es ≡ o → value_of n (moved n parent es o) ≡ none
    by none e = e
    by (some x) e = moved_other n n parent x es d ∙ value_remove n k es w

pub move_other : (m n parent : ℕ) (es : Entries) → (m ≡ n → ⊥) → (m ≡ parent → ⊥) → value_of m (move_entry n parent es) ≡ value_of m es
move_other m n parent es d f = by (value_of n es)
  where
    by : (o : Option Val) → value_of m (moved n parent es o) ≡ value_of m es
    by none = refl
    by (some x) = moved_other m n parent x es f ∙ value_remove_other m n es d

-- the parent behind a move, by what it was
pub move_parent : (n parent : ℕ) (x : Val) (es : Entries) → (n ≡ parent → ⊥) → value_of n es ≡ some x
    → value_of parent (move_entry n parent es) ≡ some (v_context (insert n x (or_empty (context_under parent es))))
unfolding create
move_parent n parent x es d e =
    ap (λ o. value_of parent (moved n parent es o)) e
    ∙ value_insert parent (v_context (insert n x (or_empty (context_under parent (remove n es))))) (remove n es)
    ∙ ap (λ (o : Option Val). some (v_context (insert n x (or_empty (bind o entries_of))))) (value_remove_other parent n es (λ z. d (sym z)))

pub move_replaced : (n parent : ℕ) (x : Val) (es : Entries) → (n ≡ parent → ⊥) → value_of n es ≡ some x → context_under parent es ≡ none
    → value_of parent (move_entry n parent es) ≡ some (v_context (entry n x no_entries))
unfolding insert
move_replaced n parent x es d e c = move_parent n parent x es d e ∙ ap (λ (o : Option Entries). some (v_context (insert n x (or_empty o)))) c

search_removed : (m n : ℕ) (p : List ℕ) (es : Entries) → (m ≡ n → ⊥) → search (m ∷ p) (remove n es) ≡ search (m ∷ p) es
unfolding search
search_removed m n [] es d = value_remove_other m n es d
search_removed m n (k ∷ ks) es d = ap (λ (o : Option Val). bind (bind o entries_of) (λ fs. search (k ∷ ks) fs)) (value_remove_other m n es d)

pub move_inside : (n parent q : ℕ) (rest : List ℕ) (es : Entries) → (n ≡ parent → ⊥) → (q ≡ n → ⊥)
    → search (parent ∷ q ∷ rest) (move_entry n parent es) ≡ search (parent ∷ q ∷ rest) es
move_inside n parent q rest es d f = by (value_of n es)
  where
    by : (o : Option Val) → search (parent ∷ q ∷ rest) (moved n parent es o) ≡ search (parent ∷ q ∷ rest) es
    by none = refl
    by (some x) =
        created_other (parent ∷ q ∷ rest) (parent ∷ n ∷ []) x (remove n es) (later parent (q ∷ rest) (n ∷ []) (here q n rest [] f))
        ∙ search_removed parent n (q ∷ rest) es (λ z. d (sym z))

pub move_below : (n parent : ℕ) (r : List ℕ) (x : Val) (es : Entries) → (r ≡ [] → ⊥) → value_of n es ≡ some x
    → search (parent ∷ n ∷ r) (move_entry n parent es) ≡ bind (entries_of x) (λ fs. search r fs)
move_below n parent r x es f e = ap (λ o. search (parent ∷ n ∷ r) (moved n parent es o)) e ∙ created_inside (parent ∷ n ∷ []) r x (remove n es) not_empty f

-- ---- remove
pub removed_gone : (n k : ℕ) (es : Entries) → WfEntries es k → value_of n (remove_entry n es) ≡ none
removed_gone n k es w = value_remove n k es w

pub removed_other : (m n : ℕ) (es : Entries) → (m ≡ n → ⊥) → value_of m (remove_entry n es) ≡ value_of m es
removed_other m n es d = value_remove_other m n es d
