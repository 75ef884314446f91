-- What stands at the front of the bytes says of its parts, and that its names ascend and that it ends within the bytes.
-- Idea: one induction on the reader (`type_told`); the parts by the command byte.
-- Index: `Tells`, `walk_size`, `run_told`, `named_told` (runs, from `RunSizes` and `NamedSizes`); `type_told`, `t_good`, `fields_good` (size, names, end);
-- `cmd`, `cmd_is`, `is_leaf`, `is_list_lem`, `is_range_lem`, `is_ctx`, `is_fun`, `last_cmd` (a type by its command); `result` (no parameters);
-- `size_list`, `size_range`, `size_ctx`, `size_fun`, `size_cons`, `size_result` (sizes); `ok_got`, `seen_got`, `got_seen`.
-- Assumes nothing.
use Prim.Native.Nat.{ℕ, zero, suc, ◌+◌, ◌-◌, ◌<◌, ◌≤◌}
use mathlib.Core.Path.{◌≡◌, refl, sym, ap, subst, ◌∙◌}
use mathlib.Core.Option.{Option, none, some}
use mathlib.Core.List.{List, ◌∷◌}
use native.Mathlib.Omega.{arith}
use native.Mathlib.Numerals.{add-one}
use lib.ListN.{length, get_or, take, drop, length-drop}
use Rattle.form.specs.Trees.{Ty, leaf, built, list, range, context, function, Fields, no_fields, field, Tys, no_params, param, code, decode}
use Rattle.form.specs.Limits.{name_width}
use Rattle.form.specs.Form.{num, num_at, enc}
use Rattle.form.specs.Walks.{walk_of, size_in}
use Rattle.form.specs.Read.{Got, got, bad, and_then, read_run, read_named, read_t, read_tys, read_fields, ascending}
use Rattle.form.proofs.Options.{none_some}
use Rattle.form.proofs.Exact.{got_parts, then_parts}
use Rattle.form.proofs.ExactTypes.{code_decode, code_small}
use Rattle.form.proofs.Nodes.{item_parts, named_parts, NodeT, n_simple, n_list, n_range, n_context, n_function, type_read}
use Rattle.order.specs.Ascending.{Asc, AscFields, AscTys}
use Rattle.order.specs.Size.{size, size_fields, size_tys}
use Rattle.types.specs.At.{seen, type_at, fields_at, Sig, sig, cons, fun_of, size_sig, sig_at, Ok}
use Rattle.form.specs.Trees.{code}

-- ---- results taken apart
pub is_ok : {X : Type 0} (r : Option X) (x : X) → r ≡ some x → Ok r
unfolding Ok
is_ok r x e = rw e tt

pub ok_got : {X : Type 0} (r : Option X) → Ok r → (x : X) × (r ≡ some x)
unfolding Ok
ok_got (some x) h = (x, refl)
ok_got none h = absurd h

pub seen_got : {X : Type 0} {P : Type 0} (r : Got X) (x : X) → seen r ≡ some x → ((n : ℕ) → r ≡ got x n → P) → P
unfolding seen
seen_got (got y n) x e k = let p : y ≡ x = cc in k n (ap (λ z. got z n) p)
seen_got (bad f) x e k = absurd (none_some e)

pub got_seen : {X : Type 0} (r : Got X) (x : X) (n : ℕ) → r ≡ got x n → seen r ≡ some x
unfolding seen
got_seen r x n e = ap seen e

-- ---- the sizes that the reader gives are those of the trees, names ascend, and all ends within the bytes
pub record Told {X : Type 0} (sz : X → ℕ) (asc : X → Type 0) (s : List ℕ) (x : X) (n : ℕ) : Type 0 where
  pub sized : n ≡ sz x
  pub ascend : asc x
  pub inside : n ≤ length s

pub told_as : {X : Type 0} {sz : X → ℕ} {asc : X → Type 0} {s : List ℕ} {x y : X} {n m : ℕ} → x ≡ y → n ≡ m → Told sz asc s x n → Told sz asc s y m
told_as p q f = rw (← p, ← q) f

abbrev pub Tells : {X : Type 0} → (X → ℕ) → (X → Type 0) → (List ℕ → Got X) → Type 0
Tells {X} sz asc read = (s : List ℕ) (x : X) (n : ℕ) → read s ≡ got x n → Told sz asc s x n

-- what a walk over it answers: its size, which is `of` it, 0 where nothing was read
pub walk_size : {X : Type 0} {sz : X → ℕ} {asc : X → Type 0} (lx : X → ℕ) (of : Option X → ℕ) → ((x : X) → of (some x) ≡ sz x) → of none ≡ 0 → (read : List ℕ → Got X) → Tells sz asc read
    → (s : List ℕ) (r : Got X) → read s ≡ r → size_in (walk_of lx r) ≡ of (seen r)
unfolding walk_of seen
walk_size lx of p q read ih s (got x m) e = (ih s x m e).sized ∙ sym (p x)
walk_size lx of p q read ih s (bad f) e = sym q

-- what the sizes and the names of a run say of its children: without names
pub record RunSizes {X R : Type 0} (sz : X → ℕ) (asc : X → Type 0) (nil : R) (cons : X → R → R) (szs : R → ℕ) (ascs : R → Type 0) : Type 0 where
  pub size_nil : szs nil ≡ 0
  pub size_cons : (x : X) (xs : R) → szs (cons x xs) ≡ sz x + szs xs
  pub asc_nil : ascs nil
  pub asc_cons : (x : X) (xs : R) → asc x → ascs xs → ascs (cons x xs)

pub run_told : {X R : Type 0} {sz : X → ℕ} {asc : X → Type 0} {nil : R} {cons : X → R → R} {szs : R → ℕ} {ascs : R → Type 0} → RunSizes sz asc nil cons szs ascs → (child : List ℕ → Got X)
    → Tells sz asc child → (c : ℕ) → Tells szs ascs (read_run nil cons child c)
unfolding read_run
run_told {nil = nil} A child ih zero s x n e = got_parts nil x 0 n e (λ p q. told_as p q (record { sized = sym A.size_nil; ascend = A.asc_nil; inside = omega arith }))
run_told {nil = nil} {cons = cons} A child ih (suc c) s z n e =
    item_parts nil cons child c s z n e (λ x m px y j py pz pn.
    let F = ih s x m px in
    let G = run_told A child ih c (drop m s) y j py in
    told_as pz refl (record {
      sized = omega (arith, F.sized, G.sized, A.size_cons x y);
      ascend = A.asc_cons x y F.ascend G.ascend;
      inside = omega (arith, F.inside, simp length-drop at G.inside);
    }))

-- and with names: behind the name m the next is at least `after m`, in the reader's words `next m`
pub record NamedSizes {X R : Type 0} (sz : X → ℕ) (asc : X → Type 0) (nil : R) (cons : ℕ → X → R → R) (next after : ℕ → ℕ) (szs : R → ℕ) (ascs : R → ℕ → Type 0) : Type 0 where
  pub size_nil : szs nil ≡ 0
  pub size_cons : (m : ℕ) (x : X) (xs : R) → szs (cons m x xs) ≡ name_width + sz x + szs xs
  pub goes_on : (m : ℕ) → next m ≡ after m
  pub asc_nil : (k : ℕ) → ascs nil k
  pub asc_cons : (k m : ℕ) (x : X) (xs : R) → k ≤ m → asc x → ascs xs (after m) → ascs (cons m x xs) k

pub named_told : {X R : Type 0} {sz : X → ℕ} {asc : X → Type 0} {nil : R} {cons : ℕ → X → R → R} {next after : ℕ → ℕ} {szs : R → ℕ} {ascs : R → ℕ → Type 0}
    → NamedSizes sz asc nil cons next after szs ascs → (child : List ℕ → Got X) → Tells sz asc child → (c least : ℕ) → Tells szs (λ xs. ascs xs least) (read_named nil cons next child c least)
unfolding read_named
named_told {nil = nil} A child ih zero least s x n e = got_parts nil x 0 n e (λ p q. told_as p q (record { sized = sym A.size_nil; ascend = A.asc_nil least; inside = omega arith }))
named_told {nil = nil} {cons = cons} {next = next} {ascs = ascs} A child ih (suc c) least s z n e =
    named_parts nil cons next child c least s z n e (λ w h x m px y j py pz pn.
    let F = ih (drop name_width s) x m px in
    let G = named_told A child ih c (next (num (take name_width s))) (drop m (drop name_width s)) y j py in
    told_as pz refl (record {
      sized = omega (arith, F.sized, G.sized, A.size_cons (num (take name_width s)) x y);
      ascend = A.asc_cons least (num (take name_width s)) x y h F.ascend (subst (ascs y) (A.goes_on (num (take name_width s))) G.ascend);
      inside = omega (arith, simp length-drop at F.inside, simp (length-drop, length-drop) at G.inside);
    }))

tys_sizes : RunSizes size Asc no_params param size_tys AscTys
unfolding size Asc
tys_sizes = record { size_nil = refl; size_cons = λ x xs. refl; asc_nil = tt; asc_cons = λ x xs p q. (p, q) }

pub fields_sizes : NamedSizes size Asc no_fields field ascending suc size_fields AscFields
unfolding size Asc
fields_sizes = record { size_nil = refl; size_cons = λ m x xs. refl; goes_on = add-one; asc_nil = λ k. tt; asc_cons = λ k m x xs h p q. (h, p, q) }

type_step : (left : ℕ) (s : List ℕ) → Tells size Asc (read_t left) → 0 < length s → (t : Ty) (n : ℕ) → NodeT left s t n → Told size Asc s t n
unfolding size Asc
type_step left s ih h t n (n_simple p q) = record { sized = refl; ascend = tt; inside = omega arith }
type_step left s ih h t n (n_list e u m r) = let F = ih (drop 1 s) u m r in record { sized = omega (arith, F.sized); ascend = F.ascend; inside = omega (arith, simp length-drop at F.inside) }
type_step left s ih h t n (n_range e u m r) = let F = ih (drop 1 s) u m r in record { sized = omega (arith, F.sized); ascend = F.ascend; inside = omega (arith, simp length-drop at F.inside) }
type_step left s ih h t n (n_context e k fs m r) = let F = named_told fields_sizes (read_t left) ih (num_at 2 1 s) 0 (drop 3 s) fs m r in record
    { sized = omega (arith, F.sized); ascend = F.ascend; inside = omega (arith, simp length-drop at F.inside) }
type_step left s ih h t n (n_function e k ts m r u j q) =
    let F = run_told tys_sizes (read_t left) ih (get_or s 1 0) (drop 2 s) ts m r in
    let G = ih (drop m (drop 2 s)) u j q in
    record { sized = omega (arith, F.sized, G.sized); ascend = (F.ascend, G.ascend); inside = omega (arith, simp length-drop at F.inside, simp (length-drop, length-drop) at G.inside) }

pub type_told : (l : ℕ) → Tells size Asc (read_t l)
type_told zero s t n e = absurd (let h = (type_read zero s t n e).some_level in omega arith)
type_told (suc l) s t n e =
    let R = type_read (suc l) s t n e in
    let z : suc l - 1 ≡ l = omega arith in
    type_step l s (type_told l) R.some_byte t n (subst (λ (k : ℕ). NodeT k s t n) z R.node)

-- ---- a type that was read
-- the command byte
abbrev pub cmd : Ty → ℕ
cmd (leaf s) = 0x20 + code s
cmd (built (list t)) = 0x2A
cmd (built (range t)) = 0x2B
cmd (built (context fs)) = 0x2C
cmd (built (function ps r)) = 0x2D

pub record IsCtx (l : ℕ) (s : List ℕ) (t : Ty) : Type 0 where
  pub fs : Fields
  pub three : 3 ≤ length s
  pub read : fields_at (l - 1) (num_at 2 1 s) 0 (drop 3 s) ≡ some fs
  pub is : t ≡ built (context fs)

pub record IsFun (l : ℕ) (s : List ℕ) (t : Ty) : Type 0 where
  pub f : Sig
  pub two : 2 ≤ length s
  pub read : sig_at (l - 1) (get_or s 1 0) (drop 2 s) ≡ some f
  pub is : t ≡ fun_of f

pub then_got : {X Y Z : Type 0} (g : X → Y → Z) (s : List ℕ) (more : List ℕ → Got Y) (r : Got X) (x : X) (m : ℕ) (y : Y) (n : ℕ) → r ≡ got x m → more (drop m s) ≡ got y n
    → and_then g 0 s more r ≡ got (g x y) (0 + m + n)
unfolding and_then Rattle.form.specs.Read.front
then_got g s more r x m y n p q = rw (p, q)

module _ (l : ℕ) (s : List ℕ) (t : Ty) (q : type_at l s ≡ some t) where
  opened : {P : Type 0} → ((n : ℕ) → read_t l s ≡ got t n → P) → P
  unfolding type_at
  opened k = seen_got (read_t l s) t q k

  pub some_byte : 0 < length s
  some_byte = opened (λ n e. (type_read l s t n e).some_byte)

  pub some_level : 0 < l
  some_level = opened (λ n e. (type_read l s t n e).some_level)

  pub t_good : Asc t × (size t ≤ length s)
  t_good = opened (λ n e. let F = type_told l s t n e in (F.ascend, omega (arith, F.sized, F.inside)))

node_cmd : (left : ℕ) (s : List ℕ) (t : Ty) (n : ℕ) → NodeT left s t n → cmd t ≡ get_or s 0 0
node_cmd left s t n (n_simple p q) = omega (arith, code_decode (get_or s 0 0 - 32) (omega arith))
node_cmd left s t n (n_list e u m r) = sym e
node_cmd left s t n (n_range e u m r) = sym e
node_cmd left s t n (n_context e k fs m r) = sym e
node_cmd left s t n (n_function e k ts m r u j q) = sym e

pub cmd_is : (l : ℕ) (s : List ℕ) (t : Ty) → type_at l s ≡ some t → cmd t ≡ get_or s 0 0
cmd_is l s t q = opened l s t q (λ n e. node_cmd (l - 1) s t n (type_read l s t n e).node)

node_list : (left : ℕ) (s : List ℕ) (t : Ty) (n : ℕ) → NodeT left s t n → get_or s 0 0 ≡ 42 → (u : Ty) × (type_at left (drop 1 s) ≡ some u) × (t ≡ built (list u))
unfolding type_at
node_list left s t n (n_simple p q) c = absurd (omega arith)
node_list left s t n (n_list e u m r) c = (u, got_seen (read_t left (drop 1 s)) u m r, refl)
node_list left s t n (n_range e u m r) c = absurd (omega arith)
node_list left s t n (n_context e k fs m r) c = absurd (omega arith)
node_list left s t n (n_function e k ts m r u j q) c = absurd (omega arith)

node_range : (left : ℕ) (s : List ℕ) (t : Ty) (n : ℕ) → NodeT left s t n → get_or s 0 0 ≡ 43 → (u : Ty) × (type_at left (drop 1 s) ≡ some u) × (t ≡ built (range u))
unfolding type_at
node_range left s t n (n_simple p q) c = absurd (omega arith)
node_range left s t n (n_list e u m r) c = absurd (omega arith)
node_range left s t n (n_range e u m r) c = (u, got_seen (read_t left (drop 1 s)) u m r, refl)
node_range left s t n (n_context e k fs m r) c = absurd (omega arith)
node_range left s t n (n_function e k ts m r u j q) c = absurd (omega arith)

node_ctx : (l : ℕ) (s : List ℕ) (t : Ty) (n : ℕ) → NodeT (l - 1) s t n → get_or s 0 0 ≡ 44 → IsCtx l s t
unfolding fields_at
node_ctx l s t n (n_simple p q) c = absurd (omega arith)
node_ctx l s t n (n_list e u m r) c = absurd (omega arith)
node_ctx l s t n (n_range e u m r) c = absurd (omega arith)
node_ctx l s t n (n_context e k fs m r) c = record { fs = fs; three = k; read = got_seen (read_fields (read_t (l - 1)) (num_at 2 1 s) 0 (drop 3 s)) fs m r; is = refl }
node_ctx l s t n (n_function e k ts m r u j q) c = absurd (omega arith)

node_fun : (l : ℕ) (s : List ℕ) (t : Ty) (n : ℕ) → NodeT (l - 1) s t n → get_or s 0 0 ≡ 45 → IsFun l s t
unfolding sig_at
node_fun l s t n (n_simple p q) c = absurd (omega arith)
node_fun l s t n (n_list e u m r) c = absurd (omega arith)
node_fun l s t n (n_range e u m r) c = absurd (omega arith)
node_fun l s t n (n_context e k fs m r) c = absurd (omega arith)
node_fun l s t n (n_function e k ts m r u j q) c = record {
  f = sig ts u;
  two = k;
  read = got_seen (and_then sig 0 (drop 2 s) (read_t (l - 1)) (read_tys (read_t (l - 1)) (get_or s 1 0) (drop 2 s))) (sig ts u) (0 + m + j)
      (then_got sig (drop 2 s) (read_t (l - 1)) (read_tys (read_t (l - 1)) (get_or s 1 0) (drop 2 s)) ts m u j r q);
  is = refl;
}

node_leaf : (left : ℕ) (s : List ℕ) (t : Ty) (n : ℕ) → NodeT left s t n → 32 ≤ get_or s 0 0 → get_or s 0 0 ≤ 41 → t ≡ leaf (decode (get_or s 0 0 - 32))
node_leaf left s t n (n_simple p q) h k = refl
node_leaf left s t n (n_list e u m r) h k = absurd (omega arith)
node_leaf left s t n (n_range e u m r) h k = absurd (omega arith)
node_leaf left s t n (n_context e i fs m r) h k = absurd (omega arith)
node_leaf left s t n (n_function e i ts m r u j q) h k = absurd (omega arith)

module _ (l : ℕ) (s : List ℕ) (t : Ty) (q : type_at l s ≡ some t) where
  pub is_list_lem : get_or s 0 0 ≡ 42 → (u : Ty) × (type_at (l - 1) (drop 1 s) ≡ some u) × (t ≡ built (list u))
  is_list_lem c = opened l s t q (λ n e. node_list (l - 1) s t n (type_read l s t n e).node c)

  pub is_range_lem : get_or s 0 0 ≡ 43 → (u : Ty) × (type_at (l - 1) (drop 1 s) ≡ some u) × (t ≡ built (range u))
  is_range_lem c = opened l s t q (λ n e. node_range (l - 1) s t n (type_read l s t n e).node c)

  pub is_ctx : get_or s 0 0 ≡ 44 → IsCtx l s t
  is_ctx c = opened l s t q (λ n e. node_ctx l s t n (type_read l s t n e).node c)

  pub is_fun : get_or s 0 0 ≡ 45 → IsFun l s t
  is_fun c = opened l s t q (λ n e. node_fun l s t n (type_read l s t n e).node c)

  pub is_leaf : 32 ≤ get_or s 0 0 → get_or s 0 0 ≤ 41 → t ≡ leaf (decode (get_or s 0 0 - 32))
  is_leaf h k = opened l s t q (λ n e. node_leaf (l - 1) s t n (type_read l s t n e).node h k)

-- ---- entries
pub fields_good : (l n least : ℕ) (s : List ℕ) (fs : Fields) → fields_at l n least s ≡ some fs → AscFields fs least × (size_fields fs ≤ length s)
unfolding fields_at
fields_good l n least s fs e =
    seen_got (read_fields (read_t l) n least s) fs e (λ m r. let F = named_told fields_sizes (read_t l) (type_told l) n least s fs m r in (F.ascend, omega (arith, F.sized, F.inside)))

-- ---- a function type without parameters
pub result : (l : ℕ) (s : List ℕ) (f : Sig) → sig_at l 0 s ≡ some f → (r : Ty) × (type_at l s ≡ some r) × (f ≡ sig no_params r)
unfolding sig_at type_at read_run
result l s f e =
    seen_got (and_then sig 0 s (read_t l) (read_tys (read_t l) 0 s)) f e (λ m q.
    then_parts sig 0 s (read_t l) (read_tys (read_t l) 0 s) f m q (λ ts k pt u j pu pz pn.
    got_parts no_params ts 0 k pt (λ a b.
    (u, got_seen (read_t l s) u j (ap (λ (z : ℕ). read_t l (drop z s)) b ∙ pu), sym pz ∙ ap (λ (z : Tys). sig z u) (sym a)))))

pub size_cons : (t : Ty) (f : Sig) → size_sig (cons t f) ≡ size t + size_sig f
unfolding size
size_cons t (sig ps r) = omega arith

pub size_fun : (f : Sig) → size (fun_of f) ≡ size_sig f + 2
unfolding size
size_fun (sig ps r) = omega arith

-- the command of what is no simple type, list, range or context
pub last_cmd : (t : Ty) → 44 ≤ cmd t → (cmd t ≡ 44 → ⊥) → cmd t ≡ 45
last_cmd (leaf s) h e = absurd (omega (arith, code_small s))
last_cmd (built (list t)) h e = absurd (omega arith)
last_cmd (built (range t)) h e = absurd (omega arith)
last_cmd (built (context fs)) h e = absurd (e refl)
last_cmd (built (function ps r)) h e = refl

pub size_list : (t : Ty) → (size (built (list t)) ≡ size t + 1) × (enc (built (list t)) ≡ 42 ∷ enc t)
unfolding size enc
size_list t = (omega arith, refl)

pub size_range : (t : Ty) → (size (built (range t)) ≡ size t + 1) × (enc (built (range t)) ≡ 43 ∷ enc t)
unfolding size enc
size_range t = (omega arith, refl)

pub size_ctx : (fs : Fields) → size (built (context fs)) ≡ size_fields fs + 3
unfolding size
size_ctx fs = omega arith

pub size_result : (r : Ty) → size_sig (sig no_params r) ≡ size r
unfolding size
size_result r = omega arith
