-- A function definition against a function type: each own parameter to the target's (strict, the other way round), result to result. The definition was read,
-- with one level less than the type has; what is left of the type decides, whether it is read or not.
-- Index: `DefinitionGo`, `definition_start`, `name_there`, `param_turn`, `param_apart`, `param_fits`, `result_yes`, `result_apart`, `result_fits` (the loop);
-- `parameter_plain`, `parameter_apart`, `parameter_swapped` (`conform_parameter`); `definition_bytes`, `definition_ok`, `definition_counts`, `met_definition` (in `conform_other`);
-- `type_up` (more levels).
-- Assumes nothing.
use Prim.Native.Nat.{ℕ, ◌+◌, ◌-◌, ◌<◌, ◌≤◌}
use mathlib.Core.Path.{◌≡◌, refl, sym, ap, ap₂, subst, ◌∙◌}
use mathlib.Core.Bool.{Bool, true, false, cond, ◌&&◌}
use mathlib.Core.Option.{some}
use mathlib.Core.List.{List}
use native.Mathlib.Omega.{arith}
use lib.ListN.{length, get_or, take, drop}
use Rattle.form.specs.Trees.{Ty, no_params, Params, no_parameters, parameter, Val, v_function}
use Rattle.form.specs.Limits.{name_width}
use Rattle.form.specs.Read.{read_t}
use Rattle.form.proofs.AnySize.{Fair}
use Rattle.form.proofs.MoreLevels.{stays}
use Rattle.form.proofs.Options.{some_same}
use Rattle.form.proofs.Runs.{rest}
use Rattle.order.specs.Order.{up, down, Order}
use Rattle.order.specs.Types.{cmp, cmps, le}
use Rattle.order.specs.Size.{size, size_params, size_val}
use Rattle.order.specs.Values.{types_of, conforms}
use Rattle.order.proofs.Bools.{and_assoc}
use Rattle.order.proofs.Conform.{cmp_flip}
use Rattle.order.proofs.Size.{size_positive}
use Rattle.types.specs.At.{type_at, Sig, sig, cons, fun_of, size_sig, sig_at, size_at, Ok}
use Rattle.types.specs.Conform.{Conform, judge, conform_by, types_by, conform_of, add_sizes, Met}
use Rattle.types.proofs.Reading.{seen_got, got_seen, ok_got, is_ok, is_fun, t_good, size_cons, size_fun, result}
use Rattle.types.proofs.Entries.{size_got}
use Rattle.types.proofs.Signatures.{param_at}
use Rattle.types.proofs.ByCommand.{sig_count}
use Rattle.types.proofs.Forward as forward
use Rattle.types.proofs.Forward.{param_on, result_read}
use Rattle.types.proofs.SortedNames.{readable_type}
use Rattle.types.proofs.Pairs.{map_o, map_o_same, both, taken, no_when, mapped, grown_on, met_yes, met_no, met_as, yes_of, told_no, Pair, MetAt, pair, pair_no, pair_in}
use Rattle.values.specs.At.{value_at, Definition, definition, size_definition, definition_at}
use Rattle.values.specs.Held.{held, parameter_way, definition_conforms, held_definition}
use Rattle.values.proofs.Reading.{params_at, definition_parts, ParameterAt, parameter_at, no_parameter}
use Rattle.values.proofs.ByKind.{definition_is, held_function, counts_differ}
use Rattle.values.proofs.ValueConformance.{fails}

-- more levels read the same type
pub type_up : (l m : ℕ) (s : List ℕ) (t : Ty) → l ≤ m → type_at l s ≡ some t → type_at m s ≡ some t
unfolding type_at
type_up l m s t h e = seen_got (read_t l s) t e (λ n r. got_seen (read_t m s) t n (stays l m s h (subst Fair (sym r) tt) ∙ r))

-- ---- the returns of `conform_parameter`: an own parameter's type in v, the target's in t
module _ (O : Order) (l : ℕ) (v t : List ℕ) (r s : ℕ) where
  pub parameter_plain : O.strict ≡ false → Met (conform_of O (type_at l v) (type_at l t)) r s → Met (types_by (cmp O (parameter_way O)) (type_at l v) (type_at l t)) r s
  parameter_plain e w = met_as (conform_of O (type_at l v) (type_at l t)) r s (ap (λ q. types_by (cmp O (cond q down up)) (type_at l v) (type_at l t)) e) w

  -- strict: the target's was held to the own one
  module _ (e : O.strict ≡ true) (w : Met (conform_of O (type_at l t) (type_at l v)) r s) where
    turned : (a b : Ty) → cmp O (parameter_way O) a b ≡ le O b a
    turned a b = ap (λ q. cmp O (cond q down up) a b) e ∙ cmp_flip O up a b

    pub parameter_apart : r ≡ 0 → (u : ℕ) → Met (types_by (cmp O (parameter_way O)) (type_at l v) (type_at l t)) 0 u
    parameter_apart z u =
        met_no 0 u (no_when size size (cmp O (parameter_way O)) (type_at l v) (type_at l t) (λ a b f g.
        turned a b ∙ told_no size size (le O) size_positive r s w b a g f z)) refl

    pub parameter_swapped : (r ≡ 0 → ⊥) → Met (types_by (cmp O (parameter_way O)) (type_at l v) (type_at l t)) s r
    parameter_swapped z =
        let B = taken size size (le O) (type_at l t) (type_at l v) r s (yes_of (conform_of O (type_at l t) (type_at l v)) r s w z) in
        met_yes (both size size (cmp O (parameter_way O)) (type_at l v) (type_at l t) B.y B.x B.read_b B.read_a
        ∙ ap (λ q. judge q (size B.y) (size B.x)) (turned B.y B.x ∙ B.holds)) B.size_b B.size_a

-- ---- the loop of `conform_definition`
-- the test of what is left
abbrev left_conforms : Order → Ty → Params → Sig → Bool
left_conforms O r ps f = definition_conforms O (definition r ps) f

left_cons : (O : Order) (r : Ty) (n : ℕ) (a : Ty) (ps : Params) (u : Ty) (f : Sig)
    → left_conforms O r (parameter n a ps) (cons u f) ≡ cmp O (parameter_way O) a u && left_conforms O r ps f
unfolding cmp types_of
left_cons O r n a ps u (sig qs s) = and_assoc (cmp O (parameter_way O) a u) (cmps O (parameter_way O) (types_of ps) qs) (cmp O up r s)

pub record DefinitionGo (O : Order) (l m : ℕ) (whole : Conform) (v t : List ℕ) (count at bt i : ℕ) : Type 0 where
  pub r : Ty
  pub ps : Params
  pub more : l ≤ m
  pub below : i ≤ count
  pub in_v : at ≤ length v
  pub in_t : bt ≤ length t
  pub read_r : type_at m v ≡ some r
  pub read_v_lem : params_at l (count - i) (drop at v) ≡ some ps
  pub goes : whole ≡ add_sizes at bt (conform_by size_params size_sig (left_conforms O r) (some ps) (sig_at m (count - i) (drop bt t)))

pub definition_start : (O : Order) (l m : ℕ) (v t : List ℕ) (count : ℕ) → l ≤ m → Ok (definition_at l count v) → (at : ℕ) → at ≡ size_at (type_at m v)
    → DefinitionGo O l m (held_definition O (definition_at l count v) (sig_at m count t)) v t count at 0 0
unfolding map_o
definition_start O l m v t count h o at k =
    let g = ok_got (definition_at l count v) o in
    let P = definition_parts l count v g.0 g.1 in
    let R = type_up l m v P.r h P.first in
    let a : at ≡ size P.r = k ∙ size_got (type_at m v) P.r R in
    let c : count ≡ count - 0 = omega arith in
    record {
      r = P.r;
      ps = P.ps;
      more = h;
      below = omega arith;
      in_v = omega (arith, (t_good m v P.r R).1);
      in_t = omega arith;
      read_r = R;
      read_v_lem = ap₂ (λ k z. params_at l k (drop z v)) (sym c) a ∙ P.second;
      goes = ap₂ (held_definition O) (g.1 ∙ ap some P.is) (sym (map_o_same (sig_at m count t)))
          ∙ mapped size_params size_sig (left_conforms O P.r) size_definition size_sig (definition_conforms O) (definition P.r) (λ f. f) at 0 (some P.ps) (sig_at m count t) (λ x y e f. refl)
          (λ x e. omega arith) (λ f. omega arith)
          ∙ ap (λ n. add_sizes at 0 (conform_by size_params size_sig (left_conforms O P.r) (some P.ps) (sig_at m n t))) c;
    }

module _ {O : Order} {l m : ℕ} {whole : Conform} {v t : List ℕ} {count at bt i : ℕ} (I : DefinitionGo O l m whole v t count at bt i) where
  -- the own parameter whose name stands at `at`
  own : i < count → ParameterAt l (count - (i + 1)) at v I.ps
  own h = parameter_at l i count at v I.ps h I.read_v_lem

  own_first : (h : i < count) → type_at m (drop (at + name_width) v) ≡ some (own h).x
  own_first h = type_up l m (drop (at + name_width) v) (own h).x I.more (own h).first

  pub name_there : i < count → at + name_width ≤ length v
  name_there h = (own h).two

  module _ (h : i < count) (x y : ℕ) where
    pub param_apart : MetAt (readable_type m) (readable_type m) (cmp O (parameter_way O)) v (at + name_width) t bt x y → x ≡ 0 → (u : ℕ) → Met (add_sizes 4 2 whole) 0 u
    param_apart w z u = met_no 0 u (ap (add_sizes 4 2) (I.goes ∙ ap (add_sizes at bt) (no_when size_params size_sig (left_conforms O I.r) (some I.ps) (sig_at m (count - i) (drop bt t)) (λ qs f e g.
        let A = own h in
        let B = param_at m i count bt t f h I.in_t g in
        ap₂ (left_conforms O I.r) (sym (some_same e) ∙ A.is) B.is ∙ left_cons O I.r A.name A.x A.more B.x B.more
        ∙ ap (λ q. q && left_conforms O I.r A.more B.more) (pair_no (readable_type m) (readable_type m) (cmp O (parameter_way O)) v (at + name_width) t bt x y w z A.x B.x (own_first h)
        B.first))))) refl

    module _ (P : Pair (readable_type m) (readable_type m) (cmp O (parameter_way O)) v (at + name_width) t bt x y) where
      pub param_fits : (at + name_width + x ≤ length v) × (bt + y ≤ length t)
      param_fits = pair_in (readable_type m) (readable_type m) (cmp O (parameter_way O)) v (at + name_width) t bt x y (own h).two I.in_t P

      pub param_turn : DefinitionGo O l m whole v t count (at + name_width + x) (bt + y) (i + 1)
      unfolding size_params map_o params_at
      param_turn =
          let A = own h in
          let S = sig_at m (count - (i + 1)) (drop (bt + y) t) in
          let a : P.x ≡ A.x = some_same (sym P.read_a ∙ own_first h) in
          let xa : x ≡ size A.x = P.size_a ∙ ap size a in
          let e : sig_at m (count - i) (drop bt t) ≡ map_o (cons P.y) S = param_on m i count bt t P.y h P.read_b
          ∙ ap (λ k. map_o (cons P.y) (sig_at m (count - (i + 1)) (drop (bt + k) t))) (sym P.size_b) in
          let o : at + (name_width + x) ≡ at + name_width + x = omega arith in
          record {
            r = I.r;
            ps = A.more;
            more = I.more;
            below = omega arith;
            in_v = param_fits.0;
            in_t = param_fits.1;
            read_r = I.read_r;
            read_v_lem = ap (λ k. params_at l (count - (i + 1)) (drop (at + name_width + k) v)) xa ∙ A.second;
            goes = I.goes ∙ ap (add_sizes at bt) (ap₂ (conform_by size_params size_sig (left_conforms O I.r)) (ap some A.is) e
                ∙ mapped size_params size_sig (left_conforms O I.r) size_params size_sig (left_conforms O I.r) (parameter A.name A.x) (cons P.y) (name_width + x) y (some A.more) S
                (λ qs f p q. left_cons O I.r A.name A.x qs P.y f ∙ ap (λ b. b && left_conforms O I.r qs f) (ap (λ k. cmp O (parameter_way O) k P.y) (sym a) ∙ P.holds))
                (λ qs p. omega (arith, xa)) (λ f. omega (arith, size_cons P.y f, P.size_b)))
                ∙ grown_on at bt (name_width + x) y (conform_by size_params size_sig (left_conforms O I.r) (some A.more) S)
                ∙ ap (λ k. add_sizes k (bt + y) (conform_by size_params size_sig (left_conforms O I.r) (some A.more) S)) o;
          }

  -- behind the last parameter: the results
  module _ (h : count ≤ i) (x y : ℕ) (w : MetAt (readable_type m) (readable_type m) (le O) v 0 t bt x y) where
    no_more : count - i ≡ 0
    no_more = omega arith

    last : I.ps ≡ no_parameters
    last = no_parameter l (drop at v) I.ps (ap (λ n. params_at l n (drop at v)) (sym no_more) ∙ I.read_v_lem)

    pub result_apart : x ≡ 0 → (u : ℕ) → Met (add_sizes 4 2 whole) 0 u
    unfolding cmp types_of
    result_apart z u = met_no 0 u (ap (add_sizes 4 2) (I.goes ∙ ap (add_sizes at bt) (no_when size_params size_sig (left_conforms O I.r) (some I.ps) (sig_at m (count - i) (drop bt t)) (λ qs f e g.
        let S = result m (drop bt t) f (ap (λ n. sig_at m n (drop bt t)) (sym no_more) ∙ g) in
        ap₂ (left_conforms O I.r) (sym (some_same e) ∙ last) S.2 ∙ pair_no (readable_type m) (readable_type m) (le O) v 0 t bt x y w z I.r S.0 I.read_r S.1)))) refl

    module _ (z : x ≡ 0 → ⊥) where
      P : Pair (readable_type m) (readable_type m) (le O) v 0 t bt x y
      P = pair (readable_type m) (readable_type m) (le O) v 0 t bt x y w z

      pub result_fits : bt + y ≤ length t
      result_fits = (pair_in (readable_type m) (readable_type m) (le O) v 0 t bt x y (omega arith) I.in_t P).1

      pub result_yes : (p q : ℕ) → p ≡ at + 4 → q ≡ bt + y + 2 → Met (add_sizes 4 2 whole) p q
      unfolding cmp types_of size size_params map_o
      result_yes p q e f =
          let s : sig_at m (count - i) (drop bt t) ≡ some (sig no_params P.y) = ap (λ n. sig_at m n (drop bt t)) no_more ∙ result_read m (drop bt t) ∙ ap (map_o (sig no_params)) P.read_b in
          let k : left_conforms O I.r no_parameters (sig no_params P.y) ≡ true = ap (λ r. le O r P.y) (some_same (sym I.read_r ∙ P.read_a)) ∙ P.holds in
          met_yes (ap (add_sizes 4 2) (I.goes ∙ ap (add_sizes at bt)
          (both size_params size_sig (left_conforms O I.r) (some I.ps) (sig_at m (count - i) (drop bt t)) no_parameters (sig no_params P.y)
          (ap some last) s ∙ ap (λ b. judge b 0 (size_sig (sig no_params P.y))) k))) (omega (arith, e)) (omega (arith, f, P.size_b))

-- ---- the returns of `conform_other` at a definition
module _ (l m : ℕ) (v t : List ℕ) (mp : 0 < m) (c : get_or v 0 0 ≡ 12) (d : get_or t 0 0 ≡ 45) (two : 2 ≤ length t) (x : Val) (e : value_at l v ≡ some x) where
  pub definition_bytes : 4 ≤ length v
  definition_bytes = (definition_is l v x e c).four

  pub definition_ok : (n : ℕ) → n ≡ get_or v 1 0 → Ok (definition_at (l - 1) n (take (length v - 4) (drop 4 v)))
  definition_ok n k = let D = definition_is l v x e c in rw (rest v 4) (is_ok (definition_at (l - 1) n (drop 4 v)) (definition D.r D.ps) (ap (λ j. definition_at (l - 1) j (drop 4 v)) k ∙ D.read))

  function_of : ℕ → Definition → Val
  function_of b (definition r ps) = v_function ps b r

  module _ (O : Order) where
    pub definition_counts : (get_or v 1 0 ≡ get_or t 1 0 → ⊥) → (u : ℕ) → Met (held O (value_at l v) (type_at m t)) 0 u
    definition_counts n u = fails (conforms O) l m v t u (λ y z f g.
        let D = definition_is l v y f c in
        let F = is_fun m t z g d in
        ap₂ (conforms O) D.is F.is ∙ held_function O D.ps D.b D.r F.f
        ∙ counts_differ O (l - 1) (get_or v 1 0) (drop 4 v) D.r D.ps F.f D.read (λ z. n (z ∙ sig_count (m - 1) (get_or t 1 0) (drop 2 t) F.f F.read)))

    pub met_definition : (n : ℕ) → n ≡ get_or v 1 0 → get_or v 1 0 ≡ get_or t 1 0 → (r u : ℕ)
        → Met (add_sizes 4 2 (held_definition O (definition_at (l - 1) n (take (length v - 4) (drop 4 v))) (sig_at (m - 1) n (take (length t - 2) (drop 2 t))))) r u
        → Met (held O (value_at l v) (type_at m t)) r u
    unfolding size_val map_o function_of
    met_definition n k q r u w =
        let D = definition_is l v x e c in
        let ev : value_at l v ≡ map_o (function_of D.b) (definition_at (l - 1) n (drop 4 v)) = e ∙ ap some D.is
        ∙ sym (ap (λ j. map_o (function_of D.b) (definition_at (l - 1) j (drop 4 v))) k ∙ ap (map_o (function_of D.b)) D.read) in
        let et : type_at m t ≡ map_o fun_of (sig_at (m - 1) n (drop 2 t)) = forward.node_function m t mp (omega arith) d two ∙ ap (λ j. map_o fun_of (sig_at (m - 1) j (drop 2 t))) (sym (k ∙ q)) in
        met_as (add_sizes 4 2 (held_definition O (definition_at (l - 1) n (drop 4 v)) (sig_at (m - 1) n (drop 2 t)))) r u
        (ap₂ (held O) ev et ∙ mapped size_definition size_sig (definition_conforms O) size_val size (conforms O) (function_of D.b) fun_of 4 2 (definition_at (l - 1) n (drop 4 v))
        (sig_at (m - 1) n (drop 2 t)) (tested D.b) (λ y f. sizes D.b y) size_fun) (rw (rest v 4, rest t 2) at w)
      where
        tested : (b : ℕ) (y : Definition) (f : Sig) → definition_at (l - 1) n (drop 4 v) ≡ some y → sig_at (m - 1) n (drop 2 t) ≡ some f
            → conforms O (function_of b y) (fun_of f) ≡ definition_conforms O y f
        tested b (definition s ps) f p g = held_function O ps b s f

        sizes : (b : ℕ) (y : Definition) → size_val (function_of b y) ≡ size_definition y + 4
        sizes b (definition s ps) = omega arith
