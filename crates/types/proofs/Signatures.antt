-- The parameters of a function type that are left at a place: the next one (`Param`, `first_param`, `param_at`), or the result (`Last`, `last`).
-- Assumes nothing.
use Prim.Native.Nat.{ℕ, suc, ◌+◌, ◌-◌, ◌<◌, ◌≤◌}
use mathlib.Core.Path.{◌≡◌, sym, ap, subst, ◌∙◌}
use mathlib.Core.Option.{some}
use mathlib.Core.List.{List}
use native.Mathlib.Omega.{arith}
use lib.ListN.{length, drop, length-drop}
use lib.Seq.{drop-drop}
use Rattle.form.specs.Trees.{Ty, Tys, no_params, param}
use Rattle.form.specs.Read.{and_then, read_t, read_tys}
use Rattle.form.proofs.Exact.{then_parts}
use Rattle.form.proofs.Nodes.{item_parts}
use Rattle.form.proofs.Runs.{step, rest, behind}
use Rattle.order.specs.Size.{size}
use Rattle.types.specs.At.{seen, type_at, Sig, sig, cons, size_sig, sig_at}
use Rattle.types.proofs.Reading.{seen_got, got_seen, type_told, then_got, t_good, result, size_cons, size_result}
use Rattle.types.proofs.ChildAt.{ItemAt}

-- a parameter that stands at `at`, of which n follow
abbrev pub Param : (l n at : ℕ) → List ℕ → Sig → Type 0
Param l n at a f = ItemAt size size_sig (type_at l) (sig_at l) cons n at a f

pub first_param : (l n at : ℕ) (a : List ℕ) (f : Sig) → at ≤ length a → sig_at l (suc n) (drop at a) ≡ some f → Param l n at a f
unfolding sig_at type_at
first_param l n at a f h e =
    let s = drop at a in
    seen_got (and_then sig 0 s (read_t l) (read_tys (read_t l) (suc n) s)) f e (λ m r.
    then_parts sig 0 s (read_t l) (read_tys (read_t l) (suc n) s) f m r (λ ts k pt u j pu pz pn.
    item_parts no_params param (read_t l) n s ts k pt (λ x i px y v py qz qn.
    let F = type_told l s x i px in
    let iv : i + v ≡ k = omega arith in
    let d : drop v (drop i s) ≡ drop k s = drop-drop v i s ∙ ap (λ (z : ℕ). drop z s) iv in
    let on : drop i s ≡ drop (at + size x) a = drop-drop i at a ∙ ap (λ (z : ℕ). drop (at + z) a) F.sized in
    let is : f ≡ cons x (sig y u) = sym pz ∙ ap (λ (z : Tys). sig z u) (sym qz) in
    record {
      x = x;
      more = sig y u;
      first = got_seen (read_t l s) x i px;
      fits = omega (arith, F.sized, simp length-drop at F.inside);
      second = subst (λ (z : List ℕ). seen (and_then sig 0 z (read_t l) (read_tys (read_t l) n z)) ≡ some (sig y u)) on
          (got_seen (and_then sig 0 (drop i s) (read_t l) (read_tys (read_t l) n (drop i s))) (sig y u) (0 + v + j)
          (then_got sig (drop i s) (read_t l) (read_tys (read_t l) n (drop i s)) y v u j py (ap (read_t l) d ∙ pu)));
      is = is;
      sized = ap size_sig is ∙ size_cons x (sig y u);
    })))

pub param_at : (l i n at : ℕ) (a : List ℕ) (f : Sig) → i < n → at ≤ length a → sig_at l (n - i) (drop at a) ≡ some f → Param l (n - (i + 1)) at a f
param_at l i n at a f h k e = first_param l (n - (i + 1)) at a f k (ap (λ (z : ℕ). sig_at l z (drop at a)) (sym (step i n h)) ∙ e)

-- the result that stands at `at`
pub record Last (l at : ℕ) (a : List ℕ) (f : Sig) : Type 0 where
  pub t : Ty
  pub first : type_at l (behind at a) ≡ some t
  pub fits : at + size t ≤ length a
  pub is : f ≡ sig no_params t
  pub sized : size_sig f ≡ size t

pub last : (l i n at : ℕ) (a : List ℕ) (f : Sig) → n ≤ i → at ≤ length a → sig_at l (n - i) (drop at a) ≡ some f → Last l at a f
last l i n at a f h k e = let z : n - i ≡ 0 = omega arith in go (result l (drop at a) f (ap (λ (x : ℕ). sig_at l x (drop at a)) (sym z) ∙ e))
  where
    go : (r : Ty) × (type_at l (drop at a) ≡ some r) × (f ≡ sig no_params r) → Last l at a f
    go g = record {
      t = g.0;
      first = ap (type_at l) (rest a at) ∙ g.1;
      fits = omega (arith, simp length-drop at (t_good l (drop at a) g.0 g.1).1);
      is = g.2;
      sized = ap size_sig g.2 ∙ size_result g.0;
    }
