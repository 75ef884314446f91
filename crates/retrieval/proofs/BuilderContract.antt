-- The contract of a call that retrieves, in and out.
-- Index: `retrieves`, `retrieves_is` (over what was read); `gave_some`, `gave_none` (an answer); `Got`, `gave_yes`, `gave_no`, `gave_length` (what a callee gave).
-- Assumes nothing.
use Prim.Native.Nat.{ℕ, ◌≤◌}
use mathlib.Core.Path.{◌≡◌, refl, sym, ap, subst, ◌∙◌}
use mathlib.Core.Option.{Option, none, some}
use mathlib.Core.List.{List}
use native.Mathlib.Omega.{arith}
use lib.ListN.{length}
use Rattle.form.specs.Trees.{Ty, Val}
use Rattle.form.specs.Form.{enc_v}
use Rattle.order.specs.Size.{size, size_val}
use Rattle.order.proofs.LeastSize.{length_enc_v}
use Rattle.retrieval.specs.declared.builder.Retrieved.{Retrieved}
use Rattle.std.specs.declared.option.Option.{Option as Maybe}
use Rattle.std.specs.declared.option.Option.TheVariants.{None, Some}
use Rattle.retrieval.specs.Retrieve.{retrieve}
use Rattle.retrieval.specs.Filling.{answered, Gave, Retrieves, yes}
use Rattle.output.proofs.FillLaws.{length_fill}
use Rattle.retrieval.proofs.Trees.{never_longer}
use Rattle.form.specs.Options.{map}
use Rattle.output.specs.Output.{fill, Filled}

-- ---- in and out
pub retrieves : (x : Option Ty) (y : Option Val) (t : Ty) (v : Val) (old new : List ℕ) (r : Maybe Retrieved) → x ≡ some t → y ≡ some v → Gave t v old new r → Retrieves x y old new r
unfolding Retrieves
retrieves x y t v old new r e f h = rw (e, f) h

pub retrieves_is : (x : Option Ty) (y : Option Val) (t : Ty) (v : Val) (old new : List ℕ) (r : Maybe Retrieved) → x ≡ some t → y ≡ some v → Retrieves x y old new r → Gave t v old new r
unfolding Retrieves
retrieves_is x y t v old new r e f h = rw (e, f) at h

pub gave_some : (t : Ty) (v : Val) (old new bs : List ℕ) (a b c : ℕ) → map enc_v (retrieve v t) ≡ some bs → a ≡ size t → b ≡ size_val v → c ≡ length bs → new ≡ fill bs old
    → Gave t v old new (yes a b c)
unfolding answered Filled
gave_some t v old new bs a b c e p q w o = record { says = rw (e, p, q, w); out = rw e o }

pub gave_none : (t : Ty) (v : Val) (old new : List ℕ) → map enc_v (retrieve v t) ≡ none → length new ≡ length old → Gave t v old new None
unfolding answered Filled
gave_none t v old new e o = record { says = rw e; out = rw e o }

-- ---- what a call gave
-- a number of what was retrieved, d where nothing was
unfoldable pub worth : ℕ → (Retrieved → ℕ) → Maybe Retrieved → ℕ
worth d f (Some e) = f e
worth d f None = d

pub yes_none : {a b c : ℕ} → yes a b c ≡ None → ⊥
unfolding worth
yes_none e = let z : ◌≡◌ {A = ℕ} 1 0 = ap (worth 0 (λ (r : Retrieved). 1)) e in omega arith

pub record Got (t : Ty) (v : Val) (old new : List ℕ) (a b c : ℕ) : Type 0 where
  pub w : Val
  pub is : retrieve v t ≡ some w
  pub size_t : a ≡ size t
  pub size_v : b ≡ size_val v
  pub long : c ≡ length (enc_v w)
  pub short : c ≤ b
  pub out : new ≡ fill (enc_v w) old

pub gave_yes : (t : Ty) (v : Val) (old new : List ℕ) (r : Maybe Retrieved) (a b c : ℕ) → Gave t v old new r → r ≡ yes a b c → Got t v old new a b c
unfolding answered Filled worth
gave_yes t v old new r a b c G e = go (retrieve v t) refl
  where
    go : (o : Option Val) → retrieve v t ≡ o → Got t v old new a b c
    go none q = absurd (let p : yes a b c ≡ None = sym e ∙ G.says ∙ ap (λ z. answered (size t) (size_val v) (map enc_v z)) q in yes_none p)
    go (some w) q =
        let p : yes a b c ≡ yes (size t) (size_val v) (length (enc_v w)) = sym e ∙ G.says ∙ ap (λ z. answered (size t) (size_val v) (map enc_v z)) q in
        let pa : a ≡ size t = ap (worth 0 (λ r. r.t)) p in
        let pb : b ≡ size_val v = ap (worth 0 (λ r. r.v)) p in
        let pc : c ≡ length (enc_v w) = ap (worth 0 (λ r. r.wrote)) p in
        record {
          w = w;
          is = q;
          size_t = pa;
          size_v = pb;
          long = pc;
          short = omega (arith, pb, pc, length_enc_v w, never_longer v t w q);
          out = subst (λ (z : Option Val). Filled (map enc_v z) old new) q G.out;
        }

pub gave_no : (t : Ty) (v : Val) (old new : List ℕ) (r : Maybe Retrieved) → Gave t v old new r → r ≡ None → (retrieve v t ≡ none) × (length new ≡ length old)
unfolding answered Filled
gave_no t v old new r G e = go (retrieve v t) refl
  where
    go : (o : Option Val) → retrieve v t ≡ o → (retrieve v t ≡ none) × (length new ≡ length old)
    go none q = (q, subst (λ (z : Option Val). Filled (map enc_v z) old new) q G.out)
    go (some w) q =
        absurd (let p : None ≡ yes (size t) (size_val v) (length (enc_v w)) = sym e ∙ G.says ∙ ap
        (λ z. answered (size t) (size_val v) (map enc_v z)) q in yes_none (sym p))

-- the output keeps its length
pub gave_length : (t : Ty) (v : Val) (old new : List ℕ) (r : Maybe Retrieved) → Gave t v old new r → length new ≡ length old
unfolding Filled
gave_length t v old new r G = go (retrieve v t) refl
  where
    go : (o : Option Val) → retrieve v t ≡ o → length new ≡ length old
    go none q = subst (λ (z : Option Val). Filled (map enc_v z) old new) q G.out
    go (some w) q = ap length (subst (λ (z : Option Val). Filled (map enc_v z) old new) q G.out) ∙ length_fill (enc_v w) old
