-- What `retrieve` answers, by the commands of the value and of the type.
-- Index: `kind_any`, `kind_simple`, `kind_range`, `kind_function`, `kind_below`, `kind_above` (`outer_kind`); `null_done`, `list_refused`, `context_refused`, `kind_refused`, `kind_copied`,
-- `copy_fits`, `first_v`, `first_t` (the branches of `retrieve`).
-- Assumes nothing.
use Prim.Native.Nat.{ℕ, ◌+◌, ◌-◌, ◌<◌, ◌≤◌}
use mathlib.Core.Path.{◌≡◌, refl, sym, ap, ◌∙◌}
use mathlib.Core.Bool.{Bool, true, false, ◌||◌, false≢true}
use mathlib.Core.Option.{Option, none, some}
use mathlib.Core.List.{List, [], ◌∷◌}
use native.Mathlib.Omega.{arith}
use lib.ListN.{length, get_or, take}
use lib.Dec.{eqb}
use borrow.Author.Tests.{eq-eqb, ne_eqb, eqb-true, eqb-false, le-leb, lt-leb}
use Rattle.form.specs.Trees.{Simple, any, boolean, number, string, date, time, date_time, days_and_time, years_and_months, null, code, Ty, leaf, built, Built, list, range, context, function, Fields}
use Rattle.form.specs.Trees.{decode_temporal, Leaf, l_null, l_boolean, l_number, l_decimal, l_string, l_temporal, Val, v_leaf, v_range, v_list, v_context, v_function, v_built_in, v_type, v_irrelevant}
use Rattle.form.specs.Form.{Bytes, enc_v, enc_leaf}
use Rattle.form.proofs.CommandKinds.{leaf_low, low_type, plain_type_in}
use Rattle.form.proofs.ExactValues.{code_decode}
use Rattle.order.specs.Order.{same}
use Rattle.order.specs.Values.{leaf_type}
use Rattle.order.specs.Size.{size_val}
use Rattle.order.proofs.Simple.{temporal_code}
use Rattle.order.proofs.LeastSize.{length_enc_v}
use Rattle.types.specs.At.{type_at, size_at, Ok}
use Rattle.types.proofs.Reading as types
use Rattle.types.proofs.Reading.{ok_got, cmd, cmd_is}
use Rattle.types.proofs.Entries.{size_got}
use Rattle.values.specs.At.{value_at, size_at_v}
use Rattle.values.proofs.Reading as values
use Rattle.values.proofs.Reading.{v_inside, IsVal, is_null_lem, is_boolean_lem, is_number, is_string_lem, is_temporal_lem, is_range_lem, is_list_lem, is_context_lem, is_definition_lem}
use Rattle.values.proofs.Reading.{is_built_in_lem, is_type_lem}
use Rattle.values.proofs.Reading.{is_irrelevant_lem, is_decimal_lem, is_val, as_null}
use Rattle.std.specs.declared.option.Option.TheVariants.{None}
use Rattle.retrieval.specs.Filling.{yes}
use Rattle.retrieval.specs.Retrieve.{copied, retrieve_leaf, by_range, by_function, by_any, by_list, by_context, retrieve}
use Rattle.retrieval.specs.Filling.{outer_kind, Retrieves}
use Rattle.retrieval.proofs.BuilderContract.{retrieves, gave_some, gave_none}
use Rattle.form.specs.Options.{map}
use Rattle.output.specs.Output.{fill}
use Rattle.values.proofs.Reading.{front_text}
use Rattle.form.specs.Layout.{ValueKind, k_null, is_leaf_command, leaf_type_command}

-- ---- the test, by the type's command
or_none : (b : Bool) → b || false ≡ b
or_none true = refl
or_none false = refl

pub kind_any : (c d : ℕ) → d ≡ 0x20 → true ≡ outer_kind c d
kind_any c d e = sym (ap (outer_kind c) e)

pub kind_range : (c d : ℕ) → d ≡ 0x2B → eqb c 9 ≡ outer_kind c d
kind_range c d e = sym (ap (outer_kind c) e ∙ or_none (eqb c 9))

pub kind_function : (c d : ℕ) → d ≡ 0x2D → eqb c 12 ≡ outer_kind c d
kind_function c d e = sym (ap (outer_kind c) e)

pub kind_simple : (c d : ℕ) {e : ℕ} → e ≡ leaf_type_command c → 0x21 ≤ d → d ≤ 0x28 → eqb e d ≡ outer_kind c d
kind_simple c d z h k = rw (z, ne_eqb d 0x20 (λ e. omega arith), le-leb 0x21 d h, le-leb d 0x28 k, ne_eqb d 0x2B (λ e. omega arith), ne_eqb d 0x2D (λ e. omega arith))
    (sym (or_none (eqb (leaf_type_command c) d)))

pub kind_below : (c d : ℕ) → d < 0x20 → false ≡ outer_kind c d
kind_below c d h = rw (ne_eqb d 0x20 (λ e. omega arith), lt-leb 0x21 d (omega arith), ne_eqb d 0x2B (λ e. omega arith), ne_eqb d 0x2D (λ e. omega arith))

pub kind_above : (c d : ℕ) → 0x28 < d → (d ≡ 0x2B → ⊥) → (d ≡ 0x2D → ⊥) → false ≡ outer_kind c d
kind_above c d h f g = rw (ne_eqb d 0x20 (λ e. omega arith), le-leb 0x21 d (omega arith), lt-leb d 0x28 h, ne_eqb d 0x2B f, ne_eqb d 0x2D g)

-- ---- a leaf's own type, and Any
-- both 20 on
shifted : (n k : ℕ) → eqb n k ≡ eqb (0x20 + k) (0x20 + n)
shifted n k = go (eqb n k) refl
  where
    go : (q : Bool) → eqb n k ≡ q → q ≡ eqb (0x20 + k) (0x20 + n)
    go true e = sym (eq-eqb (0x20 + k) (0x20 + n) (let z = eqb-true n k e in omega arith))
    go false e = sym (ne_eqb (0x20 + k) (0x20 + n) (λ w. eqb-false n k e (omega arith)))

-- the leaf's type y
leaf_kind : (s : Simple) (c y : ℕ) → 0x20 + y ≡ leaf_type_command c → y ≤ 8 → (eqb (code s) 0 || eqb (code s) y) ≡ outer_kind c (0x20 + code s)
leaf_kind any c y e k = refl
leaf_kind boolean c y e k = shifted 1 y ∙ ap (λ (z : ℕ). eqb z 0x21) e ∙ sym (or_none (eqb (leaf_type_command c) 0x21))
leaf_kind number c y e k = shifted 2 y ∙ ap (λ (z : ℕ). eqb z 0x22) e ∙ sym (or_none (eqb (leaf_type_command c) 0x22))
leaf_kind string c y e k = shifted 3 y ∙ ap (λ (z : ℕ). eqb z 0x23) e ∙ sym (or_none (eqb (leaf_type_command c) 0x23))
leaf_kind date c y e k = shifted 4 y ∙ ap (λ (z : ℕ). eqb z 0x24) e ∙ sym (or_none (eqb (leaf_type_command c) 0x24))
leaf_kind time c y e k = shifted 5 y ∙ ap (λ (z : ℕ). eqb z 0x25) e ∙ sym (or_none (eqb (leaf_type_command c) 0x25))
leaf_kind date_time c y e k = shifted 6 y ∙ ap (λ (z : ℕ). eqb z 0x26) e ∙ sym (or_none (eqb (leaf_type_command c) 0x26))
leaf_kind days_and_time c y e k = shifted 7 y ∙ ap (λ (z : ℕ). eqb z 0x27) e ∙ sym (or_none (eqb (leaf_type_command c) 0x27))
leaf_kind years_and_months c y e k = shifted 8 y ∙ ap (λ (z : ℕ). eqb z 0x28) e ∙ sym (or_none (eqb (leaf_type_command c) 0x28))
leaf_kind null c y e k = ne_eqb 9 y (λ z. omega arith)

-- a command that is no leaf's
other_kind : (s : Simple) (c : ℕ) → leaf_type_command c ≡ 0 → eqb (code s) 0 ≡ outer_kind c (0x20 + code s)
other_kind any c h = refl
other_kind boolean c h = rw h
other_kind number c h = rw h
other_kind string c h = rw h
other_kind date c h = rw h
other_kind time c h = rw h
other_kind date_time c h = rw h
other_kind days_and_time c h = rw h
other_kind years_and_months c h = rw h
other_kind null c h = refl

-- neither a list type nor a context type
abbrev Neither : Ty → Type 0
Neither t = (cmd t ≡ 0x2A → ⊥) × (cmd t ≡ 0x2C → ⊥)

built_leaf : (y : Built) (v : Val) (c : ℕ) → is_leaf_command c ≡ true → Neither (built y) → none ≡ copied (outer_kind c (cmd (built y))) v
built_leaf (list u) v c h n = absurd (n.0 refl)
built_leaf (range u) v c h n = ap (λ b. copied b v) (sym (sym (kind_range c 0x2B refl) ∙ ne_eqb c 9 (λ e. false≢true (sym (ap is_leaf_command e) ∙ h))))
built_leaf (context fs) v c h n = absurd (n.1 refl)
built_leaf (function ps r) v c h n = ap (λ b. copied b v) (sym (sym (kind_function c 0x2D refl) ∙ ne_eqb c 12 (λ e. false≢true (sym (ap is_leaf_command e) ∙ h))))

-- a leaf that is no null, by its command
pub record Plain (x : Leaf) (c : ℕ) : Type 0 where
  pub leafy : is_leaf_command c ≡ true
  pub some : c ≡ 0 → ⊥
  pub type : 0x20 + code (leaf_type x) ≡ leaf_type_command c

simple_leaf : (s : Simple) (x : Leaf) (c : ℕ) → Plain x c → copied (same s any || same s (leaf_type x)) (v_leaf x) ≡ copied (outer_kind c (0x20 + code s)) (v_leaf x)
simple_leaf s x c p = ap (λ b. copied b (v_leaf x)) (leaf_kind s c (code (leaf_type x)) p.type (omega (arith, p.type, plain_type_in c p.leafy p.some)))

leaf_by : (x : Leaf) (t : Ty) (c : ℕ) → Plain x c → Neither t → retrieve_leaf x t ≡ copied (outer_kind c (cmd t)) (v_leaf x)
leaf_by (l_null x) t c p n = absurd (omega (arith, p.type, plain_type_in c p.leafy p.some))
leaf_by (l_boolean x) (leaf s) c p n = simple_leaf s (l_boolean x) c p
leaf_by (l_boolean x) (built y) c p n = built_leaf y (v_leaf (l_boolean x)) c p.leafy n
leaf_by (l_number x) (leaf s) c p n = simple_leaf s (l_number x) c p
leaf_by (l_number x) (built y) c p n = built_leaf y (v_leaf (l_number x)) c p.leafy n
leaf_by (l_decimal x q) (leaf s) c p n = simple_leaf s (l_decimal x q) c p
leaf_by (l_decimal x q) (built y) c p n = built_leaf y (v_leaf (l_decimal x q)) c p.leafy n
leaf_by (l_string x) (leaf s) c p n = simple_leaf s (l_string x) c p
leaf_by (l_string x) (built y) c p n = built_leaf y (v_leaf (l_string x)) c p.leafy n
leaf_by (l_temporal d x) (leaf s) c p n = simple_leaf s (l_temporal d x) c p
leaf_by (l_temporal d x) (built y) c p n = built_leaf y (v_leaf (l_temporal d x)) c p.leafy n

range_by : (t : Ty) → Neither t → by_range t ≡ outer_kind 9 (cmd t)
unfolding leaf_type_command
range_by (leaf s) n = other_kind s 9 refl
range_by (built (list u)) n = refl
range_by (built (range u)) n = refl
range_by (built (context fs)) n = refl
range_by (built (function ps r)) n = refl

function_by : (t : Ty) → Neither t → by_function t ≡ outer_kind 12 (cmd t)
unfolding leaf_type_command
function_by (leaf s) n = other_kind s 12 refl
function_by (built (list u)) n = refl
function_by (built (range u)) n = refl
function_by (built (context fs)) n = refl
function_by (built (function ps r)) n = refl

any_by : (t : Ty) (c : ℕ) → 12 < c → leaf_type_command c ≡ 0 → Neither t → by_any t ≡ outer_kind c (cmd t)
any_by (leaf s) c h z n = other_kind s c z
any_by (built (list u)) c h z n = refl
any_by (built (range u)) c h z n = sym (sym (kind_range c 0x2B refl) ∙ ne_eqb c 9 (λ e. omega arith))
any_by (built (context fs)) c h z n = refl
any_by (built (function ps r)) c h z n = sym (sym (kind_function c 0x2D refl) ∙ ne_eqb c 12 (λ e. omega arith))

list_by : (t : Ty) (v : Val) (f : Ty → Option Val) → Neither t → by_list t v f ≡ copied (outer_kind 10 (cmd t)) v
unfolding leaf_type_command
list_by (leaf s) v f n = ap (λ b. copied b v) (other_kind s 10 refl)
list_by (built (list u)) v f n = absurd (n.0 refl)
list_by (built (range u)) v f n = refl
list_by (built (context fs)) v f n = absurd (n.1 refl)
list_by (built (function ps r)) v f n = refl

context_by : (t : Ty) (v : Val) (f : Fields → Option Val) → Neither t → by_context t v f ≡ copied (outer_kind 11 (cmd t)) v
unfolding leaf_type_command
context_by (leaf s) v f n = ap (λ b. copied b v) (other_kind s 11 refl)
context_by (built (list u)) v f n = absurd (n.0 refl)
context_by (built (range u)) v f n = refl
context_by (built (context fs)) v f n = absurd (n.1 refl)
context_by (built (function ps r)) v f n = refl

at_command : (v : Val) (d i c : ℕ) → c ≡ i → copied (outer_kind i d) v ≡ copied (outer_kind c d) v
at_command v d i c e = ap (λ (z : ℕ). copied (outer_kind z d) v) (sym e)

by_kind : {j : ValueKind} (l : ℕ) (s : List ℕ) (v : Val) (t : Ty) → IsVal l s j v → (get_or s 0 0 ≡ 0 → ⊥) → Neither t → retrieve v t ≡ copied (outer_kind (get_or s 0 0) (cmd t)) v
unfolding retrieve leaf_type_command
by_kind l s v t (is_null_lem x c) z n = absurd (z c)
by_kind l s v t (is_boolean_lem x c) z n = leaf_by (l_boolean x) t (get_or s 0 0) (record { leafy = ap is_leaf_command c; some = z; type = ap leaf_type_command (sym c) }) n
by_kind l s v t (is_number x c) z n = leaf_by (l_number x) t (get_or s 0 0) (record { leafy = ap is_leaf_command c; some = z; type = ap leaf_type_command (sym c) }) n
by_kind l s v t (is_string_lem x c) z n = leaf_by (l_string x) t (get_or s 0 0) (record { leafy = ap is_leaf_command c; some = z; type = ap leaf_type_command (sym c) }) n
by_kind l s v t (is_temporal_lem x c d) z n =
    leaf_by (l_temporal (decode_temporal (get_or s 0 0 - 4)) x) t (get_or s 0 0) (record {
      leafy = leaf_low (get_or s 0 0) d;
      some = z;
      type = omega (arith, temporal_code (decode_temporal (get_or s 0 0 - 4)), code_decode (get_or s 0 0 - 4) (omega arith), low_type (get_or s 0 0) (omega arith) d);
    }) n
by_kind l s v t (is_decimal_lem x p c) z n = leaf_by (l_decimal x p) t (get_or s 0 0) (record { leafy = ap is_leaf_command c; some = z; type = ap leaf_type_command (sym c) }) n
by_kind l s v t (is_range_lem i j a b c k p) z n = ap (λ q. copied q (v_range i j a b)) (range_by t n) ∙ at_command (v_range i j a b) (cmd t) 9 (get_or s 0 0) c
by_kind l s v t (is_list_lem vs c k p) z n = list_by t (v_list vs) _ n ∙ at_command (v_list vs) (cmd t) 10 (get_or s 0 0) c
by_kind l s v t (is_context_lem es c k p) z n = context_by t (v_context es) _ n ∙ at_command (v_context es) (cmd t) 11 (get_or s 0 0) c
by_kind l s v t (is_definition_lem r ps b c k p) z n = ap (λ q. copied q (v_function ps b r)) (function_by t n) ∙ at_command (v_function ps b r) (cmd t) 12 (get_or s 0 0) c
by_kind l s v t (is_built_in_lem c k) z n = ap (λ q. copied q (v_built_in (get_or s 1 0))) (any_by t 13 (omega arith) refl n) ∙ at_command (v_built_in (get_or s 1 0)) (cmd t) 13 (get_or s 0 0) c
by_kind l s v t (is_type_lem a c p) z n = ap (λ q. copied q (v_type a)) (any_by t 14 (omega arith) refl n) ∙ at_command (v_type a) (cmd t) 14 (get_or s 0 0) c
by_kind l s v t (is_irrelevant_lem c) z n = ap (λ q. copied q v_irrelevant) (any_by t 15 (omega arith) refl n) ∙ at_command v_irrelevant (cmd t) 15 (get_or s 0 0) c

-- another value by a list type, and by a context type
not_list : {j : ValueKind} (l : ℕ) (s : List ℕ) (v : Val) (u : Ty) → IsVal l s j v → (get_or s 0 0 ≡ 0 → ⊥) → (get_or s 0 0 ≡ 10 → ⊥) → retrieve v (built (list u)) ≡ none
unfolding retrieve
not_list l s v u (is_null_lem x c) z n = absurd (z c)
not_list l s v u (is_boolean_lem x c) z n = refl
not_list l s v u (is_number x c) z n = refl
not_list l s v u (is_string_lem x c) z n = refl
not_list l s v u (is_temporal_lem x c d) z n = refl
not_list l s v u (is_range_lem i j a b c k p) z n = refl
not_list l s v u (is_list_lem vs c k p) z n = absurd (n c)
not_list l s v u (is_context_lem es c k p) z n = refl
not_list l s v u (is_definition_lem r ps b c k p) z n = refl
not_list l s v u (is_built_in_lem c k) z n = refl
not_list l s v u (is_type_lem a c p) z n = refl
not_list l s v u (is_irrelevant_lem c) z n = refl
not_list l s v u (is_decimal_lem x p c) z n = refl

not_context : {j : ValueKind} (l : ℕ) (s : List ℕ) (v : Val) (fs : Fields) → IsVal l s j v → (get_or s 0 0 ≡ 0 → ⊥) → (get_or s 0 0 ≡ 11 → ⊥) → retrieve v (built (context fs)) ≡ none
unfolding retrieve
not_context l s v fs (is_null_lem x c) z n = absurd (z c)
not_context l s v fs (is_boolean_lem x c) z n = refl
not_context l s v fs (is_number x c) z n = refl
not_context l s v fs (is_string_lem x c) z n = refl
not_context l s v fs (is_temporal_lem x c d) z n = refl
not_context l s v fs (is_range_lem i j a b c k p) z n = refl
not_context l s v fs (is_list_lem vs c k p) z n = refl
not_context l s v fs (is_context_lem es c k p) z n = absurd (n c)
not_context l s v fs (is_definition_lem r ps b c k p) z n = refl
not_context l s v fs (is_built_in_lem c k) z n = refl
not_context l s v fs (is_type_lem a c p) z n = refl
not_context l s v fs (is_irrelevant_lem c) z n = refl
not_context l s v fs (is_decimal_lem x p c) z n = refl

-- Null
null_text : {l : ℕ} {s : List ℕ} {v : Val} (t : Ty) → IsVal l s k_null v → (map enc_v (retrieve v t) ≡ some (0 ∷ 0 ∷ [])) × (2 ≡ size_val v)
unfolding retrieve enc_v enc_leaf size_val
null_text t (is_null_lem x c) = (refl, refl)

-- ---- the branches of the code
module _ (l : ℕ) (t v : List ℕ) (p : Ok (type_at l t)) (q : Ok (value_at l v)) where
  abbrev X : (x : Ty) × (type_at l t ≡ some x)
  X = ok_got (type_at l t) p

  abbrev Y : (y : Val) × (value_at l v ≡ some y)
  Y = ok_got (value_at l v) q

  kind : (j : ValueKind) × IsVal l v j Y.0
  kind = is_val l v Y.0 Y.1

  pub first_v : 0 < length v
  first_v = values.some_byte l v Y.0 Y.1

  pub first_t : 0 < length t
  first_t = types.some_byte l t X.0 X.1

  refused : (old : List ℕ) → retrieve Y.0 X.0 ≡ none → Retrieves (type_at l t) (value_at l v) old old None
  refused old e = retrieves (type_at l t) (value_at l v) X.0 Y.0 old old None X.1 Y.1 (gave_none X.0 Y.0 old old (ap (map enc_v) e) refl)

  pub null_done : get_or v 0 0 ≡ 0 → (k : ℕ) → k ≡ size_at (type_at l t) → (old new : List ℕ) → new ≡ fill (0 ∷ 0 ∷ []) old → Retrieves (type_at l t) (value_at l v) old new (yes k 2 2)
  null_done c k ek old new e =
      let N = null_text X.0 (as_null l v Y.0 Y.1 c) in
      retrieves (type_at l t) (value_at l v) X.0 Y.0 old new (yes k 2 2) X.1 Y.1
      (gave_some X.0 Y.0 old new (0 ∷ 0 ∷ []) k 2 2 N.0 (ek ∙ size_got (type_at l t) X.0 X.1) N.1 refl e)

  pub list_refused : get_or t 0 0 ≡ 0x2A → (get_or v 0 0 ≡ 0 → ⊥) → (get_or v 0 0 ≡ 0x0A → ⊥) → (old : List ℕ) → Retrieves (type_at l t) (value_at l v) old old None
  list_refused c z n old =
      let I = types.is_list_lem l t X.0 X.1 c in
      refused old (ap (retrieve Y.0) I.2 ∙ not_list l v Y.0 I.0 kind.1 z n)

  pub context_refused : get_or t 0 0 ≡ 0x2C → (get_or v 0 0 ≡ 0 → ⊥) → (get_or v 0 0 ≡ 0x0B → ⊥) → (old : List ℕ) → Retrieves (type_at l t) (value_at l v) old old None
  context_refused c z n old =
      let I = types.is_ctx l t X.0 X.1 c in
      refused old (ap (retrieve Y.0) I.is ∙ not_context l v Y.0 I.fs kind.1 z n)

  module _ (z : get_or v 0 0 ≡ 0 → ⊥) (nl : get_or t 0 0 ≡ 0x2A → ⊥) (nc : get_or t 0 0 ≡ 0x2C → ⊥) (b : Bool) (eb : b ≡ outer_kind (get_or v 0 0) (get_or t 0 0)) where
    copies : retrieve Y.0 X.0 ≡ copied b Y.0
    copies =
        let c = cmd_is l t X.0 X.1 in
        by_kind l v Y.0 X.0 kind.1 z (λ e. nl (sym c ∙ e), λ e. nc (sym c ∙ e))
        ∙ ap (λ (d : ℕ). copied (outer_kind (get_or v 0 0) d) Y.0) c
        ∙ ap (λ d. copied d Y.0) (sym eb)

    pub kind_refused : b ≡ false → (old : List ℕ) → Retrieves (type_at l t) (value_at l v) old old None
    kind_refused e old = refused old (copies ∙ ap (λ d. copied d Y.0) e)

    module _ (bs : Bytes v) (n : ℕ) (en : n ≡ size_at_v (value_at l v)) where
      is_size : n ≡ size_val Y.0
      is_size = en ∙ values.size_got (value_at l v) Y.0 Y.1

      pub copy_fits : n ≤ length v
      copy_fits = omega (arith, is_size, v_inside l v Y.0 Y.1)

      pub kind_copied : b ≡ true → (k : ℕ) → k ≡ size_at (type_at l t) → (old new : List ℕ) → new ≡ fill (take n v) old → Retrieves (type_at l t) (value_at l v) old new (yes k n n)
      kind_copied e k ek old new f =
          let text : take n v ≡ enc_v Y.0 = ap (λ (d : ℕ). take d v) is_size ∙ front_text l v Y.0 bs Y.1 in
          retrieves (type_at l t) (value_at l v) X.0 Y.0 old new (yes k n n) X.1 Y.1
          (gave_some X.0 Y.0 old new (enc_v Y.0) k n n (ap (map enc_v) (copies ∙ ap (λ d. copied d Y.0) e)) (ek ∙ size_got (type_at l t) X.0 X.1) is_size
          (is_size ∙ sym (length_enc_v Y.0))
          (f ∙ ap (λ (d : List ℕ). fill d old) text))
