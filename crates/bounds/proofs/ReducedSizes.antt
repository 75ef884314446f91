-- Laws of the walk that measures a reduced form: the size of a type, and that of its reduced form.
-- Idea: a list, a range, a context and a function are one case, a part k bytes behind the start (`Within`); a loop keeps both sizes of what is left.
-- Index: `is_measured`, `measured_is` (the contract); `Within`, `within_ok`, `within_ends`, `within_done`, `in_wrapped`, `in_context`, `in_function`, `simple_sizes`, `none_sizes` (by the command);
-- `EntriesInv`, `entries_start`, `entry_next`, `entries_done` (entries); `ParametersInv`, `parameters_start`, `parameter_next`, `parameters_done` (parameters); `room_enough`, `room_measured`.
-- Assumes nothing.
use Prim.Native.Nat.{ℕ, zero, suc, ◌+◌, ◌-◌, ◌<◌, ◌≤◌}
use mathlib.Core.Path.{◌≡◌, refl, sym, ap, ap₂, ◌∙◌}
use mathlib.Core.Option.{Option, some}
use mathlib.Core.Bool.{Bool, true}
use lib.Dec.{leb}
use borrow.Author.Tests.{le-leb}
use mathlib.Core.List.{List}
use native.Mathlib.Omega.{arith}
use lib.ListN.{length, get_or, drop}
use Rattle.form.specs.Trees.{Simple, Ty, leaf, built, list, range, context, Fields, no_fields, field, no_params, param}
use Rattle.form.specs.Limits.{name_width}
use Rattle.form.specs.Form.{num_at, count_tys}
use Rattle.form.proofs.Runs.{rest, behind}
use Rattle.order.specs.Order.{fixed}
use Rattle.order.specs.Types.{reduce, reduce_fields}
use Rattle.order.specs.Size.{size, size_fields}
use Rattle.order.proofs.Size.{size_reduce}
use Rattle.types.specs.At.{type_at, fields_at, Sig, sig, cons, fun_of, size_sig, sig_at, Ok, size_at}
use Rattle.types.proofs.Reading.{is_ok, ok_got, cmd_is, some_byte, some_level, is_list_lem, is_range_lem, is_ctx, is_fun, t_good, size_fun, size_cons, last_cmd, size_list, size_range, size_ctx}
use Rattle.types.proofs.ChildAt.{item_behind, entry_behind, entry_ok}
use Rattle.types.proofs.Entries.{Here, here, gone, size_got, size_field, size_none}
use Rattle.types.proofs.ByCommand.{count_sig, sig_count}
use Rattle.lattice.proofs.Branches.{leaf_of}
use Rattle.types.proofs.Signatures.{Param, param_at, Last, last}
use Rattle.types.proofs.Reading.{size_result}
use Rattle.bounds.specs.Measured.{reduce_sig, Measured, Roomy}

module _ {X : Type 0} (red : X → X) (sized : X → ℕ) where
  pub is_measured : (x : Option X) (t : X) (i j : ℕ) → x ≡ some t → i ≡ sized t → j ≡ sized (red t) → Measured red sized x i j
  unfolding Measured
  is_measured x t i j e p q = rw e (p, q)

  pub measured_is : (x : Option X) (t : X) (i j : ℕ) → x ≡ some t → Measured red sized x i j → (i ≡ sized t) × (j ≡ sized (red t))
  unfolding Measured
  measured_is x t i j e h = rw e at h

-- ---- reduced forms
reduce_leaf : (s : Simple) → (size (leaf s) ≡ 1) × (reduce fixed (leaf s) ≡ leaf s)
unfolding size reduce
reduce_leaf s = (refl, refl)

reduce_list : (t : Ty) → reduce fixed (built (list t)) ≡ built (list (reduce fixed t))
unfolding reduce
reduce_list t = refl

reduce_range : (t : Ty) → reduce fixed (built (range t)) ≡ built (range (reduce fixed t))
unfolding reduce
reduce_range t = refl

reduce_context : (fs : Fields) → reduce fixed (built (context fs)) ≡ built (context (reduce_fields fixed fs))
unfolding reduce
reduce_context fs = refl

reduce_none : (f : Sig) → count_sig f ≡ 0 → size (reduce fixed (fun_of f)) ≡ 3
unfolding reduce size count_tys
reduce_none (sig no_params r) h = refl
reduce_none (sig (param t ps) r) h = absurd (omega arith)

reduce_fun : (f : Sig) → (count_sig f ≡ 0 → ⊥) → reduce fixed (fun_of f) ≡ fun_of (reduce_sig f)
unfolding reduce reduce_sig count_tys
reduce_fun (sig no_params r) h = absurd (h refl)
reduce_fun (sig (param t ps) r) h = refl

reduce_field : (n : ℕ) (t : Ty) (fs : Fields) → reduce_fields fixed (field n t fs) ≡ field n (reduce fixed t) (reduce_fields fixed fs)
unfolding reduce
reduce_field n t fs = refl

reduce_no_fields : reduce_fields fixed no_fields ≡ no_fields
unfolding reduce
reduce_no_fields = refl

reduce_cons : (t : Ty) (f : Sig) → reduce_sig (cons t f) ≡ cons (reduce fixed t) (reduce_sig f)
unfolding reduce reduce_sig
reduce_cons t (sig ps r) = refl

reduce_result : (r : Ty) → reduce_sig (sig no_params r) ≡ sig no_params (reduce fixed r)
unfolding reduce reduce_sig
reduce_result r = refl

-- ---- something inside the type, k bytes behind its start
pub record Within (l : ℕ) (a : List ℕ) {X : Type 0} (red : X → X) (sized : X → ℕ) (k : ℕ) (ga : Option X) : Type 0 where
  pub mk : X → Ty
  pub x : X
  pub read : type_at l a ≡ some (mk x)
  pub part : ga ≡ some x
  pub longer : (t : X) → size (mk t) ≡ sized t + k
  pub reduces : reduce fixed (mk x) ≡ mk (red x)

module _ {l : ℕ} {a : List ℕ} {X : Type 0} {red : X → X} {sized : X → ℕ} {k : ℕ} {ga : Option X} (I : Within l a red sized k ga) where
  pub within_ok : Ok ga
  within_ok = is_ok ga I.x I.part

  module _ (i j : ℕ) (h : Measured red sized ga i j) where
    within_is : (i + k ≡ size (I.mk I.x)) × (j + k ≡ size (reduce fixed (I.mk I.x)))
    within_is =
        let g = measured_is red sized ga I.x i j I.part h in
        (omega (arith, g.0, I.longer I.x), omega (arith, g.1, I.longer (red I.x), ap size I.reduces))

    pub within_ends : (i + k ≤ length a) × (j + k ≤ length a)
    within_ends =
        let g = within_is in
        let t = (t_good l a (I.mk I.x) I.read).1 in
        (omega (arith, g.0, t), omega (arith, g.1, t, size_reduce fixed (I.mk I.x)))

    pub within_done : Measured (reduce fixed) size (type_at l a) (i + k) (j + k)
    within_done = is_measured (reduce fixed) size (type_at l a) (I.mk I.x) (i + k) (j + k) I.read within_is.0 within_is.1

pub record FunctionAt (l : ℕ) (a : List ℕ) : Type 0 where
  pub f : Sig
  pub two : 2 ≤ length a
  pub read : type_at l a ≡ some (fun_of f)
  pub inner : sig_at (l - 1) (get_or a 1 0) (drop 2 a) ≡ some f
  pub count : count_sig f ≡ get_or a 1 0

module _ (l : ℕ) (a : List ℕ) (p : Ok (type_at l a)) where
  abbrev K : (t : Ty) × (type_at l a ≡ some t)
  K = ok_got (type_at l a) p

  pub some_first : 0 < length a
  some_first = some_byte l a K.0 K.1

  pub some_left : 0 < l
  some_left = some_level l a K.0 K.1

  pub simple_sizes : get_or a 0 0 < 42 → Measured (reduce fixed) size (type_at l a) 1 1
  simple_sizes c = let e = cmd_is l a K.0 K.1 in go (leaf_of K.0 (omega arith))
    where
      go : (s : Simple) × (K.0 ≡ leaf s) → Measured (reduce fixed) size (type_at l a) 1 1
      go x =
          let g = reduce_leaf x.0 in
          is_measured (reduce fixed) size (type_at l a) (leaf x.0) 1 1 (K.1 ∙ ap some x.1) (sym g.0) (sym (ap size g.1 ∙ g.0))

  pub in_wrapped : 42 ≤ get_or a 0 0 → get_or a 0 0 < 44 → Within l a (reduce fixed) size 1 (type_at (l - 1) (behind 1 a))
  in_wrapped lo hi = go (get_or a 0 0 - 42) refl
    where
      in_list : (x : Ty) × (type_at (l - 1) (drop 1 a) ≡ some x) × (K.0 ≡ built (list x)) → Within l a (reduce fixed) size 1 (type_at (l - 1) (behind 1 a))
      in_list x =
          record { mk = λ t. built (list t); x = x.0; read = K.1 ∙ ap some x.2; part = ap (type_at (l - 1)) (rest a 1) ∙ x.1; longer = λ t. (size_list t).0; reduces = reduce_list x.0 }

      in_range : (x : Ty) × (type_at (l - 1) (drop 1 a) ≡ some x) × (K.0 ≡ built (range x)) → Within l a (reduce fixed) size 1 (type_at (l - 1) (behind 1 a))
      in_range x =
          record { mk = λ t. built (range t); x = x.0; read = K.1 ∙ ap some x.2; part = ap (type_at (l - 1)) (rest a 1) ∙ x.1; longer = λ t. (size_range t).0; reduces = reduce_range x.0 }

      go : (k : ℕ) → get_or a 0 0 - 42 ≡ k → Within l a (reduce fixed) size 1 (type_at (l - 1) (behind 1 a))
      go zero e = let c : get_or a 0 0 ≡ 42 = omega arith in in_list (is_list_lem l a K.0 K.1 c)
      go (suc k) e = let c : get_or a 0 0 ≡ 43 = omega arith in in_range (is_range_lem l a K.0 K.1 c)

  pub context_three : get_or a 0 0 ≡ 44 → 3 ≤ length a
  context_three c = (is_ctx l a K.0 K.1 c).three

  pub in_context : get_or a 0 0 ≡ 44 → (i : ℕ) → i ≡ num_at 2 1 a → Within l a (reduce_fields fixed) size_fields 3 (fields_at (l - 1) i 0 (behind 3 a))
  in_context c i ei =
      let x = is_ctx l a K.0 K.1 c in
      record {
        mk = λ fs. built (context fs);
        x = x.fs;
        read = K.1 ∙ ap some x.is;
        part = ap₂ (λ (k : ℕ) (z : List ℕ). fields_at (l - 1) k 0 z) ei (rest a 3) ∙ x.read;
        longer = λ fs. size_ctx fs;
        reduces = reduce_context x.fs;
      }

  pub function_at : 44 ≤ get_or a 0 0 → (get_or a 0 0 ≡ 44 → ⊥) → FunctionAt l a
  function_at lo ne =
      let e = cmd_is l a K.0 K.1 in
      let c : get_or a 0 0 ≡ 45 = sym e ∙ last_cmd K.0 (omega arith) (λ z. ne (sym e ∙ z)) in
      let x = is_fun l a K.0 K.1 c in
      record { f = x.f; two = x.two; read = K.1 ∙ ap some x.is; inner = x.read; count = sig_count (l - 1) (get_or a 1 0) (drop 2 a) x.f x.read }

module _ {l : ℕ} {a : List ℕ} (F : FunctionAt l a) where
  pub none_sizes : get_or a 1 0 ≡ 0 → (x : ℕ) → x ≡ size_at (type_at l a) → Measured (reduce fixed) size (type_at l a) x 3
  none_sizes z x e = is_measured (reduce fixed) size (type_at l a) (fun_of F.f) x 3 F.read (e ∙ size_got (type_at l a) (fun_of F.f) F.read) (sym (reduce_none F.f (F.count ∙ z)))

  pub in_function : (get_or a 1 0 ≡ 0 → ⊥) → (k : ℕ) → k ≡ get_or a 1 0 → Within l a reduce_sig size_sig 2 (sig_at (l - 1) k (behind 2 a))
  in_function z k ek =
      record {
        mk = fun_of;
        x = F.f;
        read = F.read;
        part = ap₂ (λ (k : ℕ) (z : List ℕ). sig_at (l - 1) k z) ek (rest a 2) ∙ F.inner;
        longer = size_fun;
        reduces = reduce_fun F.f (λ h. z (sym F.count ∙ h));
      }

-- ---- the entries of a context
pub record EntriesInv (l : ℕ) (a : List ℕ) (n at to i : ℕ) : Type 0 where
  pub all : Fields
  pub fs : Fields
  pub least : ℕ
  pub whole : fields_at l n 0 a ≡ some all
  pub below : i ≤ n
  pub within : at ≤ length a
  pub low : to ≤ at
  pub read : fields_at l (n - i) least (drop at a) ≡ some fs
  pub sizes : at + size_fields fs ≡ size_fields all
  pub short : to + size_fields (reduce_fields fixed fs) ≡ size_fields (reduce_fields fixed all)

pub entries_start : (l : ℕ) (a : List ℕ) (n : ℕ) → Ok (fields_at l n 0 a) → EntriesInv l a n 0 0 0
entries_start l a n p = go (ok_got (fields_at l n 0 a) p)
  where
    go : (x : Fields) × (fields_at l n 0 a ≡ some x) → EntriesInv l a n 0 0 0
    go x =
        let en : n - 0 ≡ n = omega arith in
        record {
          all = x.0;
          fs = x.0;
          least = 0;
          whole = x.1;
          below = omega arith;
          within = omega arith;
          low = omega arith;
          read = ap (λ (z : ℕ). fields_at l z 0 a) en
              ∙ x.1;
          sizes = omega arith;
          short = omega arith;
        }

module _ {l : ℕ} {a : List ℕ} {n at to i : ℕ} (v : EntriesInv l a n at to i) where
  module _ (h : i < n) where
    abbrev A : Here l (n - (i + 1)) at v.least a v.fs
    A = here l i n at v.least a v.fs h v.read

    pub entry_name : at + name_width ≤ length a
    entry_name = A.two

    pub entry_there : Ok (type_at l (behind (at + name_width) a))
    entry_there = entry_ok A

    module _ (r s : ℕ) (m : Measured (reduce fixed) size (type_at l (behind (at + name_width) a)) r s) where
      entry_is : (r ≡ size A.x) × (s ≡ size (reduce fixed A.x))
      entry_is = measured_is (reduce fixed) size (type_at l (behind (at + name_width) a)) A.x r s (entry_behind A) m

      pub entry_ends : (at + name_width + r ≤ length a) × (to + name_width + s ≤ length a)
      entry_ends = let g = entry_is in (omega (arith, g.0, A.fits), omega (arith, g.1, A.fits, v.low, size_reduce fixed A.x))

      pub entry_next : EntriesInv l a n (at + name_width + r) (to + name_width + s) (i + 1)
      entry_next =
          let g = entry_is in
          let shorter = ap (λ (z : Fields). size_fields (reduce_fields fixed z)) A.is ∙ ap size_fields (reduce_field A.name A.x A.more)
          ∙ size_field A.name (reduce fixed A.x) (reduce_fields fixed A.more) in
          record {
            all = v.all;
            fs = A.more;
            least = suc A.name;
            whole = v.whole;
            below = omega arith;
            within = omega (arith, g.0, A.fits);
            low = omega (arith, g.0, g.1, v.low, size_reduce fixed A.x);
            read = ap (λ (z : ℕ). fields_at l (n - (i + 1)) (suc A.name) (drop (at + name_width + z) a)) g.0 ∙ A.second;
            sizes = omega (arith, v.sizes, A.sized, g.0);
            short = omega (arith, v.short, shorter, g.1);
          }

  pub entries_done : n ≤ i → Measured (reduce_fields fixed) size_fields (fields_at l n 0 a) at to
  entries_done h =
      let e = gone l i n at v.least a v.fs h v.read in
      is_measured (reduce_fields fixed) size_fields (fields_at l n 0 a) v.all at to v.whole
      (omega (arith, v.sizes, ap size_fields e, size_none))
      (omega (arith, v.short, ap (λ (z : Fields). size_fields (reduce_fields fixed z)) e ∙ ap size_fields reduce_no_fields, size_none))

-- ---- parameters and result
pub record ParametersInv (l : ℕ) (a : List ℕ) (n at to i : ℕ) : Type 0 where
  pub all : Sig
  pub f : Sig
  pub whole : sig_at l n a ≡ some all
  pub below : i ≤ n
  pub within : at ≤ length a
  pub low : to ≤ at
  pub read : sig_at l (n - i) (drop at a) ≡ some f
  pub sizes : at + size_sig f ≡ size_sig all
  pub short : to + size_sig (reduce_sig f) ≡ size_sig (reduce_sig all)

pub parameters_start : (l : ℕ) (a : List ℕ) (n : ℕ) → Ok (sig_at l n a) → ParametersInv l a n 0 0 0
parameters_start l a n p = go (ok_got (sig_at l n a) p)
  where
    go : (x : Sig) × (sig_at l n a ≡ some x) → ParametersInv l a n 0 0 0
    go x =
        let en : n - 0 ≡ n = omega arith in
        record {
          all = x.0;
          f = x.0;
          whole = x.1;
          below = omega arith;
          within = omega arith;
          low = omega arith;
          read = ap (λ (z : ℕ). sig_at l z a) en
              ∙ x.1;
          sizes = omega arith;
          short = omega arith;
        }

module _ {l : ℕ} {a : List ℕ} {n at to i : ℕ} (v : ParametersInv l a n at to i) where
  module _ (h : i < n) where
    abbrev N : Param l (n - (i + 1)) at a v.f
    N = param_at l i n at a v.f h v.within v.read

    pub parameter_there : Ok (type_at l (behind at a))
    parameter_there = is_ok (type_at l (behind at a)) N.x (item_behind N)

    module _ (r s : ℕ) (m : Measured (reduce fixed) size (type_at l (behind at a)) r s) where
      parameter_is : (r ≡ size N.x) × (s ≡ size (reduce fixed N.x))
      parameter_is = measured_is (reduce fixed) size (type_at l (behind at a)) N.x r s (item_behind N) m

      pub parameter_ends : (at + r ≤ length a) × (to + s ≤ length a)
      parameter_ends = let g = parameter_is in (omega (arith, g.0, N.fits), omega (arith, g.1, N.fits, v.low, size_reduce fixed N.x))

      pub parameter_next : ParametersInv l a n (at + r) (to + s) (i + 1)
      parameter_next =
          let g = parameter_is in
          let shorter = ap (λ (z : Sig). size_sig (reduce_sig z)) N.is ∙ ap size_sig (reduce_cons N.x N.more) ∙ size_cons (reduce fixed N.x) (reduce_sig N.more) in
          record {
            all = v.all;
            f = N.more;
            whole = v.whole;
            below = omega arith;
            within = omega (arith, g.0, N.fits);
            low = omega (arith, g.0, g.1, v.low, size_reduce fixed N.x);
            read = ap (λ (z : ℕ). sig_at l (n - (i + 1)) (drop (at + z) a)) g.0 ∙ N.second;
            sizes = omega (arith, v.sizes, N.sized, g.0);
            short = omega (arith, v.short, shorter, g.1);
          }

  module _ (h : n ≤ i) where
    abbrev R : Last l at a v.f
    R = last l i n at a v.f h v.within v.read

    pub result_there : Ok (type_at l (behind at a))
    result_there = is_ok (type_at l (behind at a)) R.t R.first

    module _ (r s : ℕ) (m : Measured (reduce fixed) size (type_at l (behind at a)) r s) where
      result_is : (r ≡ size R.t) × (s ≡ size (reduce fixed R.t))
      result_is = measured_is (reduce fixed) size (type_at l (behind at a)) R.t r s R.first m

      pub result_fits : (at + r ≤ length a) × (to + s ≤ length a)
      result_fits = let g = result_is in (omega (arith, g.0, R.fits), omega (arith, g.1, R.fits, v.low, size_reduce fixed R.t))

      pub parameters_done : Measured reduce_sig size_sig (sig_at l n a) (at + r) (to + s)
      parameters_done =
          let g = result_is in
          let shorter = ap (λ (z : Sig). size_sig (reduce_sig z)) R.is ∙ ap size_sig (reduce_result R.t) ∙ size_result (reduce fixed R.t) in
          is_measured reduce_sig size_sig (sig_at l n a) v.all (at + r) (to + s) v.whole (omega (arith, v.sizes, R.sized, g.0)) (omega (arith, v.short, shorter, g.1))

-- ---- room
module _ (l : ℕ) (s : List ℕ) (room : ℕ) (p : Ok (type_at l s)) where
  is_roomy : (q : Bool) → ((t : Ty) → type_at l s ≡ some t → q ≡ leb (size (reduce fixed t)) room) → Roomy (type_at l s) room q
  unfolding Roomy
  is_roomy q k = go (ok_got (type_at l s) p)
    where
      go : (t : Ty) × (type_at l s ≡ some t) → Roomy (type_at l s) room q
      go (t, e) = rw e (k t e)

  -- the type itself has room
  pub room_enough : length s ≤ room → Roomy (type_at l s) room true
  room_enough h = is_roomy true λ t e. sym (le-leb (size (reduce fixed t)) room (omega (arith, h, size_reduce fixed t, (t_good l s t e).1)))

  pub room_measured : (i j : ℕ) → Measured (reduce fixed) size (type_at l s) i j → (q : Bool) → q ≡ leb j room → Roomy (type_at l s) room q
  room_measured i j m q e = is_roomy q λ t f. e ∙ ap (λ (k : ℕ). leb k room) (measured_is (reduce fixed) size (type_at l s) t i j f m).1
