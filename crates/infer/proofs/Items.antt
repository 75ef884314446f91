-- The loop that writes one type for all items: what is left of them, and the type so far at the front of the output.
-- Idea: the type so far, joined with the types of what is left, is the type of all items (`ItemsInv`).
-- Index: `ItemsInv`, `items_none`, `items_first`, `items_start`, `items_done`; `item_room`, `item_fits`, `item_read`, `item_sides`, `item_reduced`, `item_next` (an item);
-- `item_some`, `item_byte`, `item_free`, `leaf_read`, `leaf_sides`, `leaf_reduced`, `leaf_next` (an item that is a leaf).
-- Assumes nothing.
use Prim.Native.Nat.{ℕ, ◌+◌, ◌-◌, ◌<◌, ◌≤◌}
use mathlib.Core.Path.{◌≡◌, refl, sym, ap, subst, ◌∙◌}
use mathlib.Core.Bool.{Bool, true}
use mathlib.Core.Option.{some}
use mathlib.Core.List.{List, [], ◌∷◌}
use native.Mathlib.Omega.{arith}
use lib.ListN.{length, get_or, drop, set, length-set}
use borrow.Rule.Slice.PartMut.{put_mid, same_len_mid}
use Rattle.form.specs.Limits.{most_bytes, value_levels, type_levels}
use Rattle.form.specs.Trees.{null, Ty, leaf, Val, Vals, no_items, item}
use Rattle.form.specs.Form.{Bytes, enc, enc_v, level, level_v, Wf, WfV, WfVals}
use Rattle.form.specs.Layout.{leaf_type_command}
use Rattle.form.proofs.Exact.{Found, bytes_drop}
use Rattle.form.proofs.Runs.{length_rest}
use Rattle.order.specs.Order.{Order}
use Rattle.order.specs.Types.{reduce}
use Rattle.order.specs.Size.{size, size_val, size_vals}
use Rattle.order.specs.Values.{is_data_by, are_data}
use Rattle.order.proofs.Size.{length_enc}
use Rattle.types.specs.At.{type_at}
use Rattle.types.proofs.ChildAt.{item_behind}
use Rattle.values.specs.At.{value_at, items_at}
use Rattle.values.proofs.Reading.{items_sizes, some_byte, Nth, nth, no_nth, no_item, encoded}
use Rattle.output.proofs.OntoLaws.{onto_first}
use Rattle.infer.specs.Typing.{type_by, joined, taken, inner, FitVal, FitItems, Plain, Starts, Wrote, Typed, type_text, inner_text, Sides, Reduced, Joined}
use Rattle.infer.proofs.Trees.{Fine, fine, Sound, sound, type_reduced, joined_reduced, data_item}
use Rattle.infer.proofs.OutputFront.{starts_onto, starts_read, lent_front, lent_back, Opened, open_fit, fit, typed, typed_is, sides, reduced, joined_is, behind}
use Rattle.infer.proofs.ByCommand.{plain_free, plain_put, plain_told}

pub record ItemsInv (O : Order) (m equal : Bool) (l : ℕ) (v : List ℕ) (n : ℕ) (old spare₀ out spare : List ℕ) (at to i : ℕ) : Type 0 where
  -- all, what is left of them, and the type so far
  pub whole : Vals
  pub left : Vals
  pub t : Ty
  pub read_all : items_at l n v ≡ some whole
  pub below : i ≤ n
  pub in_v : at ≤ length v
  pub read : items_at l (n - i) (drop at v) ≡ some left
  pub sized : at + size_vals left ≡ size_vals whole
  pub type : taken O m equal t left ≡ inner O m equal whole
  pub wf : Wf t
  pub reduced : m ≡ true → reduce O t ≡ t
  pub long : size t ≡ to
  pub low : to ≤ at
  pub levels : level t ≤ type_levels
  pub apt : m ≡ true → are_data O left ≡ true
  pub room : size_vals whole + 1 ≤ length old
  pub spared : size_vals whole + 1 ≤ length spare₀
  pub small : size_vals whole + 1 ≤ most_bytes
  pub out_len : length out ≡ length old
  pub spare_len : length spare ≡ length spare₀
  pub state : Starts (enc t) out

leaf_text : enc (leaf null) ≡ 41 ∷ []
unfolding enc
leaf_text = refl

inner_none : (O : Order) (m equal : Bool) → inner O m equal no_items ≡ leaf null
unfolding inner
inner_none O m equal = refl

inner_item : (O : Order) (m equal : Bool) (v : Val) (vs : Vals) → taken O m equal (type_by O m v) vs ≡ inner O m equal (item v vs)
unfolding inner
inner_item O m equal v vs = refl

taken_none : (O : Order) (m equal : Bool) (t : Ty) → taken O m equal t no_items ≡ t
unfolding taken
taken_none O m equal t = refl

taken_item : (O : Order) (m equal : Bool) (t : Ty) (v : Val) (vs : Vals) → taken O m equal (joined O m equal t (type_by O m v)) vs ≡ taken O m equal t (item v vs)
unfolding taken
taken_item O m equal t v vs = refl

module _ (O : Order) (m equal : Bool) (l : ℕ) (s : List ℕ) (n : ℕ) (old spare₀ : List ℕ) (p : FitItems O m (items_at l n s) (length old) (length spare₀)) where
  abbrev K : Opened WfVals (are_data O) (λ vs. size_vals vs + 1) m (items_at l n s) (length old) (length spare₀)
  K = open_fit (items_at l n s) (length old) (length spare₀) p

  pub items_one : 1 ≤ length old
  items_one = omega (arith, K.fits.roomy)

  pub items_none : n ≡ 0 → Typed size_vals (inner_text O m equal) (items_at l n s) old (set old 0 41) 0 1
  items_none z =
      let e : K.x ≡ no_items = no_item l s K.x (ap (λ (k : ℕ). items_at l k s) (sym z) ∙ K.read) in
      let t : inner_text O m equal K.x ≡ 41 ∷ [] = ap (inner_text O m equal) e ∙ ap enc (inner_none O m equal) ∙ leaf_text in
      typed (items_at l n s) K.x old (set old 0 41) 0 1 K.read
      (record {
        all = sym (ap size_vals e ∙ items_sizes.size_nil);
        long = sym (ap length t);
        out = subst (λ (k : List ℕ). Starts k (set old 0 41)) (sym t) (starts_onto (41 ∷ []) old (set old 0 41) (onto_first old 41 items_one));
        kept = length-set old 0 41;
      })

  module _ (bs : Bytes s) (levels : l ≤ value_levels) (h : n ≡ 0 → ⊥) where
    -- the first item
    abbrev F : Nth l (n - (0 + 1)) 0 s K.x
    F = let en : n - 0 ≡ n = omega arith in nth l 0 n 0 s K.x (omega arith) (omega arith) (ap (λ (z : ℕ). items_at l z s) en ∙ K.read)

    first_text : Found enc_v WfV level_v l s F.x (size_val F.x)
    first_text = encoded l s F.x bs F.first

    first_apt : (m ≡ true → is_data_by O F.x ≡ true) × (m ≡ true → are_data O F.more ≡ true)
    first_apt = data_item O m F.x F.more (λ q. ap (are_data O) (sym F.is) ∙ K.fits.apt q)

    pub items_first : FitVal O m (value_at l s) (length old) (length spare₀)
    items_first =
        fit (value_at l s) F.x (length old) (length spare₀) F.first
        (record {
          well = first_text.well;
          apt = first_apt.0;
          roomy = omega (arith, K.fits.roomy, F.sized);
          spared = omega (arith, K.fits.spared, F.sized);
          small = omega (arith, K.fits.small, F.sized);
        })

    pub items_kept : (out : List ℕ) (e w : ℕ) → Typed size_val (type_text O m) (value_at l s) old out e w → length out ≡ length old
    items_kept out e w T = (typed_is (value_at l s) F.x old out e w F.first T).kept

    pub items_start : (out spare : List ℕ) (e w : ℕ) → Typed size_val (type_text O m) (value_at l s) old out e w → length spare ≡ length spare₀ → ItemsInv O m equal l s n out spare out spare e w 1
    items_start out spare e w T k =
        let W = typed_is (value_at l s) F.x old out e w F.first T in
        let G = fine O m F.x first_text.well (omega (arith, K.fits.small, F.sized)) in
        let z : 0 + size_val F.x ≡ e = omega (arith, W.all) in
        record {
          whole = K.x;
          left = F.more;
          t = type_by O m F.x;
          read_all = K.read;
          below = omega arith;
          in_v = omega (arith, F.fits, W.all);
          read = ap (λ (z : ℕ). items_at l (n - 1) (drop z s)) (sym z) ∙ F.second;
          sized = omega (arith, F.sized, W.all);
          type = inner_item O m equal F.x F.more ∙ ap (inner O m equal) (sym F.is);
          wf = G.wf;
          reduced = type_reduced O m F.x;
          long = omega (arith, W.long, length_enc (type_by O m F.x));
          low = omega (arith, W.all, W.long, length_enc (type_by O m F.x), G.short);
          levels = omega (arith, G.low, first_text.low);
          apt = first_apt.1;
          room = omega (arith, K.fits.roomy, W.kept);
          spared = omega (arith, K.fits.spared, k);
          small = K.fits.small;
          out_len = refl;
          spare_len = refl;
          state = W.out;
        }

module _ {O : Order} {m equal : Bool} {l : ℕ} {s : List ℕ} {n : ℕ} {old spare₀ out spare : List ℕ} {at to i : ℕ} (Q : ItemsInv O m equal l s n old spare₀ out spare at to i) (bs : Bytes s) where
  pub item_room : to ≤ length out
  item_room = omega (arith, Q.room, Q.out_len, Q.low, Q.sized)

  module _ (h : i < n) where
    -- the item that stands at `at`
    abbrev N : Nth l (n - (i + 1)) at s Q.left
    N = nth l i n at s Q.left h Q.in_v Q.read

    text : Found enc_v WfV level_v l (drop at s) N.x (size_val N.x)
    text = encoded l (drop at s) N.x (bytes_drop at s bs) N.first

    apt : (m ≡ true → is_data_by O N.x ≡ true) × (m ≡ true → are_data O N.more ≡ true)
    apt = data_item O m N.x N.more (λ q. ap (are_data O) (sym N.is) ∙ Q.apt q)

    pub item_fits : FitVal O m (value_at l (behind at s)) (length (behind to out)) (length spare)
    item_fits =
        fit (value_at l (behind at s)) N.x (length (behind to out)) (length spare) (item_behind N)
        (record {
          well = text.well;
          apt = apt.0;
          roomy = omega (arith, length_rest out to, Q.room, Q.out_len, Q.low, Q.sized, N.sized);
          spared = omega (arith, Q.spared, Q.spare_len, Q.sized, N.sized);
          small = omega (arith, Q.small, Q.sized, N.sized);
        })

    module _ (levels : l ≤ value_levels) (ys sp : List ℕ) (e w : ℕ) (T : Typed size_val (type_text O m) (value_at l (behind at s)) (behind to out) ys e w) (k : length sp ≡ length spare) where
      abbrev W : Wrote size_val (type_text O m) N.x (behind to out) ys e w
      W = typed_is (value_at l (behind at s)) N.x (behind to out) ys e w (item_behind N) T

      abbrev xs : List ℕ
      xs = put_mid to (length out - to) out ys

      abbrev u : Ty
      u = type_by O m N.x

      good : Fine O m N.x
      good = fine O m N.x text.well (omega (arith, Q.small, Q.sized, N.sized))

      both : Sound Q.t u (joined O m equal Q.t u)
      both = sound O m equal Q.t u Q.wf good.wf (omega (arith, good.short, Q.small, Q.low, Q.long, Q.sized, N.sized))

      pub item_read : at + e ≤ length s
      item_read = omega (arith, N.fits, W.all)

      front_long : length (enc Q.t) ≡ to
      front_long = length_enc Q.t ∙ Q.long

      read_t_lem : type_at type_levels xs ≡ some Q.t
      read_t_lem = starts_read type_levels Q.t xs Q.wf Q.levels (lent_front (enc Q.t) out ys to Q.state front_long)

      read_u : type_at type_levels (drop to xs) ≡ some u
      read_u = ap (type_at type_levels) (lent_back (enc Q.t) out ys to Q.state front_long) ∙ starts_read type_levels u ys good.wf (omega (arith, good.low, text.low)) W.out

      xs_len : length xs ≡ length out
      xs_len = same_len_mid to (length out - to) out ys W.kept

      second_size : w ≡ size u
      second_size = W.long ∙ length_enc u

      pub item_sides : Sides (type_at type_levels xs) (type_at type_levels (drop to xs)) xs to w (length sp)
      item_sides =
          sides (type_at type_levels xs) (type_at type_levels (drop to xs)) Q.t u xs to w (length sp) read_t_lem read_u
          (record {
            first = sym Q.long;
            second = second_size;
            inside = omega (arith, xs_len, second_size, good.short, Q.room, Q.out_len, Q.low, Q.sized, N.sized);
            spared = omega (arith, k, second_size, good.short, Q.spared, Q.spare_len, Q.low, Q.sized, N.sized);
            small = omega (arith, second_size, good.short, Q.small, Q.low, Q.sized, N.sized);
            wf_first = Q.wf;
            wf_second = good.wf;
          })

      pub item_reduced : Reduced O m (type_at type_levels xs)
      item_reduced = reduced O m (type_at type_levels xs) Q.t read_t_lem Q.reduced

      pub item_next : (zs sp₂ : List ℕ) (r : ℕ) → Joined O m equal (type_at type_levels xs) (type_at type_levels (drop to xs)) xs zs r → length sp₂ ≡ length sp
          → ItemsInv O m equal l s n old spare₀ zs sp₂ (at + e) r (i + 1)
      item_next zs sp₂ r J k₂ =
          let S = joined_is O m equal (type_at type_levels xs) (type_at type_levels (drop to xs)) Q.t u xs zs r read_t_lem read_u J in
          let j = joined O m equal Q.t u in
          record {
            whole = Q.whole;
            left = N.more;
            t = j;
            read_all = Q.read_all;
            below = omega arith;
            in_v = item_read;
            read = ap (λ (z : ℕ). items_at l (n - (i + 1)) (drop (at + z) s)) W.all ∙ N.second;
            sized = omega (arith, Q.sized, N.sized, W.all);
            type = taken_item O m equal Q.t N.x N.more ∙ ap (taken O m equal Q.t) (sym N.is) ∙ Q.type;
            wf = both.wf;
            reduced = joined_reduced O m equal Q.t u;
            long = sym (length_enc j) ∙ sym S.long;
            low = omega (arith, S.long, length_enc j, both.short, Q.long, Q.low, good.short, W.all);
            levels = omega (arith, both.low, Q.levels, good.low, text.low);
            apt = apt.1;
            room = Q.room;
            spared = Q.spared;
            small = Q.small;
            out_len = S.kept ∙ xs_len ∙ Q.out_len;
            spare_len = k₂ ∙ k ∙ Q.spare_len;
            state = S.out;
          }

    -- the short way past a leaf
    pub item_some : 0 < length (behind at s)
    item_some = some_byte l (behind at s) N.x (item_behind N)

    pub item_byte : at < length s
    item_byte = omega (arith, item_some, length_rest s at)

    pub item_free : to < length out
    item_free = plain_free O m l s at out to spare item_fits bs

    -- b is the command of the leaf's type
    module _ (levels : l ≤ value_levels) (b : ℕ) (t : b ≡ leaf_type_command (get_or s at 0)) (k : ℕ) (P : Plain (get_or (behind at s) 0 0) k) where
      abbrev ys : List ℕ
      ys = set (behind to out) 0 b

      told : Typed size_val (type_text O m) (value_at l (behind at s)) (behind to out) ys k 1
      told = plain_told O m l s at out to spare item_fits bs b t k P

      put : put_mid to (length out - to) out ys ≡ set out to b
      put = plain_put O m l s at out to spare item_fits bs b

      pub leaf_read : at + k ≤ length s
      leaf_read = item_read levels ys spare k 1 told refl

      pub leaf_sides : Sides (type_at type_levels (set out to b)) (type_at type_levels (drop to (set out to b))) (set out to b) to 1 (length spare)
      leaf_sides = subst (λ (z : List ℕ). Sides (type_at type_levels z) (type_at type_levels (drop to z)) z to 1 (length spare)) put (item_sides levels ys spare k 1 told refl)

      pub leaf_reduced : Reduced O m (type_at type_levels (set out to b))
      leaf_reduced = subst (λ (z : List ℕ). Reduced O m (type_at type_levels z)) put (item_reduced levels ys spare k 1 told refl)

      pub leaf_next : (zs sp : List ℕ) (r : ℕ) → Joined O m equal (type_at type_levels (set out to b)) (type_at type_levels (drop to (set out to b))) (set out to b) zs r → length sp ≡ length spare
          → ItemsInv O m equal l s n old spare₀ zs sp (at + k) r (i + 1)
      leaf_next zs sp r J e =
          item_next levels ys spare k 1 told refl zs sp r (subst (λ (z : List ℕ). Joined O m equal (type_at type_levels z) (type_at type_levels (drop to z)) z zs r) (sym put) J) e

  pub items_done : n ≤ i → (first : List ℕ) → length old ≡ length first → Typed size_vals (inner_text O m equal) (items_at l n s) first out at to
  items_done h first k =
      let e : Q.left ≡ no_items = no_nth l i n at s Q.left h Q.read in
      let t : Q.t ≡ inner O m equal Q.whole = sym (ap (taken O m equal Q.t) e ∙ taken_none O m equal Q.t) ∙ Q.type in
      typed (items_at l n s) Q.whole first out at to Q.read_all
      (record {
        all = omega (arith, Q.sized, ap size_vals e, items_sizes.size_nil);
        long = sym Q.long ∙ sym (length_enc Q.t) ∙ ap (λ x. length (enc x)) t;
        out = subst (λ x. Starts (enc x) out) t Q.state;
        kept = Q.out_len ∙ k;
      })
