-- Conformance of two types by their command bytes, and of two functions by their counts.
-- Index: `le_null`, `le_any`, `le_other`, `le_leaves` (by the commands); `simple_leaf`, `simple_small`, `same_simple_lem` (a simple type); `le_funs`, `le_counts`, `le_cons`, `sig_count` (functions);
-- `eq_false`.
-- Assumes nothing.
use Prim.Native.Nat.{ℕ, zero, suc, ◌+◌, ◌-◌, ◌≤◌}
use mathlib.Core.Path.{◌≡◌, refl, sym, ap, ap₂, ◌∙◌}
use mathlib.Core.Bool.{Bool, true, false, not, ◌&&◌, ◌||◌, true≢false}
use mathlib.Core.List.{List}
use native.Mathlib.Omega.{arith}
use lib.ListN.{drop}
use lib.Dec.{eqb}
use borrow.Author.Tests.{eq-eqb, ne_eqb}
use mathlib.Core.Option.{some}
use Rattle.form.specs.Trees.{Simple, any, null, Ty, leaf, built, list, range, context, function, Tys, no_params, param, code, decode, simple}
use Rattle.form.specs.Form.{count_tys}
use Rattle.form.proofs.ExactTypes.{decode_code, code_small}
use Rattle.order.specs.Order.{Order, order_of, related}
use Rattle.order.specs.Types.{le, les, cmp, empty, ignores}
use Rattle.order.specs.Size.{size}
use Rattle.order.specs.Document.{eq_ty}
use Rattle.order.proofs.Bools.{and_assoc}
use Rattle.order.proofs.Equal.{eq_ty_same}
use Rattle.order.proofs.Simple.{and_right}
use Rattle.order.proofs.Ends.{Ends, reading_ends, related_end, end_related}
use Rattle.order.proofs.Sentences.{le_functions}
use Rattle.types.specs.At.{Sig, sig, cons, fun_of, sig_at}
use Rattle.types.specs.Conform.{ignores_at, le_sig}
use Rattle.types.proofs.Reading.{cmd, result}
use Rattle.types.proofs.Signatures.{first_param}

-- ---- by the command bytes
pub same_simple_lem : (s t : Simple) → 32 + code s ≡ 32 + code t → s ≡ t
same_simple_lem s t e = let f : code s ≡ code t = omega arith in sym (decode_code s) ∙ ap decode f ∙ decode_code t

-- a simple type by its tree and its command
pub simple_leaf : (t : Ty) → simple t ≡ true → (s : Simple) × (t ≡ leaf s)
simple_leaf (leaf s) e = (s, refl)
simple_leaf (built x) e = absurd (true≢false (sym e))

pub simple_small : (t : Ty) → simple t ≡ true → (32 ≤ cmd t) × (cmd t ≤ 41)
simple_small (leaf s) e = let h = code_small s in (omega arith, omega arith)
simple_small (built x) e = absurd (true≢false (sym e))

pub eq_false : (t u : Ty) → (t ≡ u → ⊥) → eq_ty t u ≡ false
eq_false t u h = go (eq_ty t u) refl
  where
    go : (q : Bool) → eq_ty t u ≡ q → q ≡ false
    go true e = absurd (h (eq_ty_same t u e))
    go false e = refl

-- Null and Any, and a simple type with itself, under every order
module _ {O : Order} (L : Ends O) where
  pub le_null : (t u : Ty) → cmd t ≡ 41 → (size t ≡ 1) × (le O t u ≡ true)
  unfolding cmp size
  le_null (leaf s) (leaf t) e = (refl, ap (λ x. O.sle x t) (same_simple_lem s null e) ∙ L.null_least_lem t)
  le_null (leaf s) (built y) e = (refl, ap (λ x. O.sle x null) (same_simple_lem s null e) ∙ L.null_least_lem null)
  le_null (built (list t)) u e = absurd (omega arith)
  le_null (built (range t)) u e = absurd (omega arith)
  le_null (built (context fs)) u e = absurd (omega arith)
  le_null (built (function ps r)) u e = absurd (omega arith)

  pub le_any : (t u : Ty) → cmd u ≡ 32 → (size u ≡ 1) × (le O t u ≡ true)
  unfolding cmp size
  le_any (leaf s) (leaf t) e = (refl, ap (λ x. O.sle s x) (same_simple_lem t any e) ∙ L.any_greatest_lem s)
  le_any (built x) (leaf t) e = (refl, ap (λ x. O.sle any x) (same_simple_lem t any e) ∙ L.any_greatest_lem any)
  le_any t (built (list u)) e = absurd (omega arith)
  le_any t (built (range u)) e = absurd (omega arith)
  le_any t (built (context fs)) e = absurd (omega arith)
  le_any t (built (function ps r)) e = absurd (omega arith)

  pub le_leaves : (s t : Simple) → s ≡ t → le O (leaf s) (leaf t) ≡ true
  unfolding cmp
  le_leaves s t e = ap (λ x. O.sle x t) e ∙ L.reflexive t

-- two other commands: what a table says of two of 21 to 28, otherwise no
or_false : (q : Bool) → q || false ≡ q
or_false true = refl
or_false false = refl

pub le_other : (reading : ℕ) (t u : Ty) → (cmd t ≡ cmd u → ⊥) → (cmd t ≡ 41 → ⊥) → (cmd u ≡ 32 → ⊥) → le (order_of reading) t u ≡ related reading (cmd t - 32) (cmd u - 32)
unfolding cmp
le_other g (leaf s) (leaf t) d n a =
    let i : 32 + code s - 32 ≡ code s = omega arith in
    let j : 32 + code t - 32 ≡ code t = omega arith in
    ap (λ q. related g (code s) (code t) || (q || (eqb (code t) 0 || eqb (code s) (code t)))) (ne_eqb (code s) 9 (λ e. n (omega arith)))
    ∙ ap (λ q. related g (code s) (code t) || (q || eqb (code s) (code t))) (ne_eqb (code t) 0 (λ e. a (omega arith)))
    ∙ ap (λ q. related g (code s) (code t) || q) (ne_eqb (code s) (code t) (λ e. d (omega arith)))
    ∙ or_false (related g (code s) (code t)) ∙ sym (ap₂ (related g) i j)
le_other g (leaf s) (built (list b)) d n a = (reading_ends g).to_null s ∙ ne_eqb (code s) 9 (λ e. n (omega arith)) ∙ sym (related_end g (32 + code s - 32) 10 refl)
le_other g (leaf s) (built (range b)) d n a = (reading_ends g).to_null s ∙ ne_eqb (code s) 9 (λ e. n (omega arith)) ∙ sym (related_end g (32 + code s - 32) 11 refl)
le_other g (leaf s) (built (context b)) d n a = (reading_ends g).to_null s ∙ ne_eqb (code s) 9 (λ e. n (omega arith)) ∙ sym (related_end g (32 + code s - 32) 12 refl)
le_other g (leaf s) (built (function pb b)) d n a = (reading_ends g).to_null s ∙ ne_eqb (code s) 9 (λ e. n (omega arith)) ∙ sym (related_end g (32 + code s - 32) 13 refl)
le_other g (built (list a)) (leaf t) d n x = (reading_ends g).from_any t ∙ ne_eqb (code t) 0 (λ e. x (omega arith)) ∙ sym (end_related g 10 (32 + code t - 32) refl)
le_other g (built (range a)) (leaf t) d n x = (reading_ends g).from_any t ∙ ne_eqb (code t) 0 (λ e. x (omega arith)) ∙ sym (end_related g 11 (32 + code t - 32) refl)
le_other g (built (context a)) (leaf t) d n x = (reading_ends g).from_any t ∙ ne_eqb (code t) 0 (λ e. x (omega arith)) ∙ sym (end_related g 12 (32 + code t - 32) refl)
le_other g (built (function pa a)) (leaf t) d n x = (reading_ends g).from_any t ∙ ne_eqb (code t) 0 (λ e. x (omega arith)) ∙ sym (end_related g 13 (32 + code t - 32) refl)
le_other g (built (list a)) (built (list b)) d n x = absurd (d refl)
le_other g (built (list a)) (built (range b)) d n x = sym (end_related g 10 11 refl)
le_other g (built (list a)) (built (context b)) d n x = sym (end_related g 10 12 refl)
le_other g (built (list a)) (built (function pb b)) d n x = sym (end_related g 10 13 refl)
le_other g (built (range a)) (built (list b)) d n x = sym (end_related g 11 10 refl)
le_other g (built (range a)) (built (range b)) d n x = absurd (d refl)
le_other g (built (range a)) (built (context b)) d n x = sym (end_related g 11 12 refl)
le_other g (built (range a)) (built (function pb b)) d n x = sym (end_related g 11 13 refl)
le_other g (built (context a)) (built (list b)) d n x = sym (end_related g 12 10 refl)
le_other g (built (context a)) (built (range b)) d n x = sym (end_related g 12 11 refl)
le_other g (built (context a)) (built (context b)) d n x = absurd (d refl)
le_other g (built (context a)) (built (function pb b)) d n x = sym (end_related g 12 13 refl)
le_other g (built (function pa a)) (built (list b)) d n x = sym (end_related g 13 10 refl)
le_other g (built (function pa a)) (built (range b)) d n x = sym (end_related g 13 11 refl)
le_other g (built (function pa a)) (built (context b)) d n x = sym (end_related g 13 12 refl)
le_other g (built (function pa a)) (built (function pb b)) d n x = absurd (d refl)

-- ---- functions
abbrev pub count_sig : Sig → ℕ
count_sig (sig ps r) = count_tys ps

count_cons : (t : Ty) (f : Sig) → count_sig (cons t f) ≡ suc (count_sig f)
unfolding count_tys
count_cons t (sig ps r) = refl

pub sig_count : (l n : ℕ) (s : List ℕ) (f : Sig) → sig_at l n s ≡ some f → count_sig f ≡ n
unfolding count_tys
sig_count l zero s f e = let g = result l s f e in ap count_sig g.2
sig_count l (suc n) s f e =
    let g = first_param l n 0 s f (omega arith) e in
    ap count_sig g.is ∙ count_cons g.x g.more ∙ ap suc (sig_count l n (drop (0 + size g.x) s) g.more g.second)

empty_count : (ps : Tys) → empty ps ≡ eqb (count_tys ps) 0
unfolding count_tys
empty_count no_params = sym (eq-eqb 0 0 refl)
empty_count (param t ps) = sym (ne_eqb (suc (count_tys ps)) 0 (λ e. omega arith))

module _ (O : Order) where
  les_count : (qs ps : Tys) → les O qs ps ≡ true → count_tys qs ≡ count_tys ps
  unfolding cmp count_tys
  les_count no_params no_params e = refl
  les_count no_params (param t ps) e = absurd (true≢false (sym e))
  les_count (param u qs) no_params e = absurd (true≢false (sym e))
  les_count (param u qs) (param t ps) e = ap suc (les_count qs ps (and_right (le O u t) (les O qs ps) e))

  pub le_funs : (f g : Sig) (n : ℕ) → count_sig f ≡ n → le O (fun_of f) (fun_of g) ≡ le_sig O (ignores_at O n) f g
  le_funs (sig ps r) (sig qs s) n e =
      le_functions O ps qs r s ∙ ap (λ x. les O qs ps && ((not O.strict && x) || le O r s)) (empty_count ps ∙ ap (λ k. eqb k 0) e)

  pub le_counts : (f g : Sig) → (count_sig f ≡ count_sig g → ⊥) → le O (fun_of f) (fun_of g) ≡ false
  le_counts (sig ps r) (sig qs s) d = le_functions O ps qs r s ∙ go (les O qs ps) refl
    where
      go : (q : Bool) → les O qs ps ≡ q → q && (ignores O ps || le O r s) ≡ false
      go true e = absurd (d (sym (les_count qs ps e)))
      go false e = refl

  pub le_cons : (ig : Bool) (t u : Ty) (f g : Sig) → le_sig O ig (cons t f) (cons u g) ≡ le O u t && le_sig O ig f g
  unfolding cmp
  le_cons ig t u (sig ps r) (sig qs s) = and_assoc (le O u t) (les O qs ps) (ig || le O r s)
