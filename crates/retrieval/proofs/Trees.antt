-- A retrieved value on trees: it is never longer, its items are as many, and its names are taken in step with the type's.
-- Index: `never_longer`; `list_start`, `items_none`, `item_none`, `item_some` (items); `pass_field`, `pass_entry`, `entries_none`, `entry_none`, `entry_some`, `context_start` (entries in step).
-- Assumes nothing.
use Prim.Native.Nat.{ℕ, suc, ◌+◌, ◌<◌, ◌≤◌}
use native.Mathlib.Omega.{arith}
use mathlib.Core.Path.{◌≡◌, refl, sym, ap, ap₂, ◌∙◌}
use mathlib.Core.Bool.{cond}
use mathlib.Core.Option.{Option, none, some}
use mathlib.Core.List.{List, [], ◌∷◌, ◌++◌, append_assoc}
use borrow.Author.Tests.{eq-eqb, ne_eqb}
use Rattle.form.specs.Limits.{name_width}
use Rattle.form.specs.Trees.{Ty, built, list, context, Fields, field, Val, v_list, v_context, Vals, no_items, item, Entries, no_entries, entry}
use Rattle.form.specs.Form.{bytes, count_vals, count_entries, enc_v, enc_vals, enc_entries}
use Rattle.order.specs.Ascending.{AscFields}
use Rattle.order.specs.Size.{size_val}
use Rattle.order.specs.Types.{lookup}
use Rattle.order.specs.Order.{fixed}
use Rattle.order.proofs.Conform.{look_below as below}
use Rattle.retrieval.proofs.Theorems.{less_val}
use Rattle.retrieval.specs.Retrieve.{kept, retrieve, retrieve_items, retrieve_entries}
use Rattle.form.specs.Options.{map, both}
use Rattle.values.proofs.Reading.{From}
use Rattle.output.proofs.ContextText.{context_text}

-- a retrieved value is never longer
pub never_longer : (v : Val) (t : Ty) (w : Val) → retrieve v t ≡ some w → size_val w ≤ size_val v
never_longer v t w e = (less_val v t w e).shorter

-- ---- as many items
abbrev Counted : ℕ → Option Vals → Type 0
Counted n none = Unit {0}
Counted n (some ws) = count_vals ws ≡ n

count_step : (n : ℕ) (o : Option Val) (p : Option Vals) → Counted n p → Counted (suc n) (both item o p)
unfolding count_vals
count_step n none p h = tt
count_step n (some w) none h = tt
count_step n (some w) (some ws) h = ap suc h

count_items : (vs : Vals) (t : Ty) → Counted (count_vals vs) (retrieve_items vs t)
unfolding retrieve count_vals
count_items no_items t = refl
count_items (item v vs) t = count_step (count_vals vs) (retrieve v t) (retrieve_items vs t) (count_items vs t)

list_text : (vs : Vals) (head : List ℕ) (o : Option Vals) → Counted (count_vals vs) o → ((ws : Vals) → count_vals ws ≡ count_vals vs → head ++ enc_vals ws ≡ enc_v (v_list ws))
    → map (λ ws. head ++ enc_vals ws) o ≡ map enc_v (map v_list o)
list_text vs head none h k = refl
list_text vs head (some ws) h k = ap some (k ws h)

pub list_start : (vs : Vals) (u : Ty) (head : List ℕ) → ((ws : Vals) → count_vals ws ≡ count_vals vs → head ++ enc_vals ws ≡ enc_v (v_list ws))
    → map (λ ws. head ++ enc_vals ws) (retrieve_items vs u) ≡ map enc_v (retrieve (v_list vs) (built (list u)))
unfolding retrieve
list_start vs u head k = list_text vs head (retrieve_items vs u) (count_items vs u) k

-- ---- one item
pub items_none : (u : Ty) → retrieve_items no_items u ≡ some no_items
unfolding retrieve
items_none u = refl

pub item_none : (v : Val) (vs : Vals) (u : Ty) → retrieve v u ≡ none → retrieve_items (item v vs) u ≡ none
unfolding retrieve
item_none v vs u e = ap (λ o. both item o (retrieve_items vs u)) e

item_text : (d : List ℕ) (w : Val) (o : Option Vals) → map (λ ws. d ++ enc_vals ws) (map (item w) o) ≡ map (λ ws. (d ++ enc_v w) ++ enc_vals ws) o
unfolding enc_vals
item_text d w none = refl
item_text d w (some ws) = ap some (sym (append_assoc d (enc_v w) (enc_vals ws)))

pub item_some : (d : List ℕ) (v : Val) (vs : Vals) (u : Ty) (w : Val) → retrieve v u ≡ some w
    → map (λ ws. d ++ enc_vals ws) (retrieve_items (item v vs) u) ≡ map (λ ws. (d ++ enc_v w) ++ enc_vals ws) (retrieve_items vs u)
unfolding retrieve
item_some d v vs u w e = ap (λ o. map (λ ws. d ++ enc_vals ws) (both item o (retrieve_items vs u))) e ∙ item_text d w (retrieve_items vs u)

look_other : (n m : ℕ) (u : Ty) (fs : Fields) → (n ≡ m → ⊥) → lookup n (field m u fs) ≡ lookup n fs
unfolding lookup
look_other n m u fs d = ap (λ q. cond q (some u) (lookup n fs)) (ne_eqb n m d)

look_same : (n : ℕ) (u : Ty) (fs : Fields) → lookup n (field n u fs) ≡ some u
unfolding lookup
look_same n u fs = ap (λ q. cond q (some u) (lookup n fs)) (eq-eqb n n refl)

-- a name below all is not there
look_below : (n : ℕ) (fs : Fields) (k : ℕ) → AscFields fs k → n < k → lookup n fs ≡ none
look_below n fs k a h = below fixed fs k n a h

-- ---- in step
-- a name of the type below those of the value
pub pass_field : (m : ℕ) (u : Ty) (es : Entries) (fs : Fields) → From (suc m) es → retrieve_entries es (field m u fs) ≡ retrieve_entries es fs
unfolding retrieve From
pass_field m u no_entries fs f = refl
pass_field m u (entry n v es) fs f =
    ap (λ o. kept o (λ t. retrieve v t) n (retrieve_entries es (field m u fs))) (look_other n m u fs (λ e. omega (arith, f.0)))
    ∙ ap (kept (lookup n fs) (λ t. retrieve v t) n) (pass_field m u es fs f.1)

-- a name of the value below those of the type
pub pass_entry : (n : ℕ) (v : Val) (es : Entries) (fs : Fields) → AscFields fs (suc n) → retrieve_entries (entry n v es) fs ≡ retrieve_entries es fs
unfolding retrieve
pass_entry n v es fs w = ap (λ o. kept o (λ t. retrieve v t) n (retrieve_entries es fs)) (look_below n fs (suc n) w (omega arith))

-- a common name
common_name : (n : ℕ) (v : Val) (es : Entries) (u : Ty) (fs : Fields) → From (suc n) es → retrieve_entries (entry n v es) (field n u fs) ≡ both (entry n) (retrieve v u) (retrieve_entries es fs)
unfolding retrieve
common_name n v es u fs f =
    ap (λ o. kept o (λ t. retrieve v t) n (retrieve_entries es (field n u fs))) (look_same n u fs)
    ∙ ap (both (entry n) (retrieve v u)) (pass_field n u es fs f)

pub entries_none : (fs : Fields) → retrieve_entries no_entries fs ≡ some no_entries
unfolding retrieve
entries_none fs = refl

pub entry_none : (n : ℕ) (v : Val) (es : Entries) (u : Ty) (fs : Fields) → From (suc n) es → retrieve v u ≡ none → retrieve_entries (entry n v es) (field n u fs) ≡ none
entry_none n v es u fs f e = common_name n v es u fs f ∙ ap (λ o. both (entry n) o (retrieve_entries es fs)) e

entry_text_lem : (k n : ℕ) (d : List ℕ) (w : Val) (o : Option Entries) → map (context_text k d) (map (entry n w) o) ≡ map (context_text (k + 1) ((d ++ bytes name_width n) ++ enc_v w)) o
unfolding enc_entries count_entries
entry_text_lem k n d w none = refl
entry_text_lem k n d w (some ws) =
    let e : k + suc (count_entries ws) ≡ k + 1 + count_entries ws = omega arith in
    let t : d ++ (bytes name_width n ++ (enc_v w ++ enc_entries ws)) ≡ ((d ++ bytes name_width n) ++ enc_v w) ++ enc_entries ws =
    sym (append_assoc d (bytes name_width n) (enc_v w ++ enc_entries ws)) ∙ sym (append_assoc (d ++ bytes name_width n) (enc_v w) (enc_entries ws)) in
    ap some (ap₂ (λ (c : ℕ) (z : List ℕ). (11 ∷ bytes 2 c) ++ z) e t)

pub entry_some : (k n : ℕ) (d : List ℕ) (v : Val) (es : Entries) (u : Ty) (fs : Fields) (w : Val) → From (suc n) es → retrieve v u ≡ some w
    → map (context_text k d) (retrieve_entries (entry n v es) (field n u fs)) ≡ map (context_text (k + 1) ((d ++ bytes name_width n) ++ enc_v w)) (retrieve_entries es fs)
entry_some k n d v es u fs w f e =
    ap (map (context_text k d)) (common_name n v es u fs f ∙ ap (λ o. both (entry n) o (retrieve_entries es fs)) e) ∙ entry_text_lem k n d w (retrieve_entries es fs)

-- ---- the whole context
context_text_lem : (o : Option Entries) → map (context_text 0 []) o ≡ map enc_v (map v_context o)
unfolding enc_v
context_text_lem none = refl
context_text_lem (some ws) = let e : 0 + count_entries ws ≡ count_entries ws = omega arith in ap (λ (c : ℕ). some (11 ∷ (bytes 2 c ++ enc_entries ws))) e

pub context_start : (es : Entries) (fs : Fields) → map (context_text 0 []) (retrieve_entries es fs) ≡ map enc_v (retrieve (v_context es) (built (context fs)))
unfolding retrieve
context_start es fs = context_text_lem (retrieve_entries es fs)
