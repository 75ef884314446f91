-- The loop that retrieves the items of a list: what is left of them, and what was written of the answer.
-- Idea: what was written, with what is retrieved of what is left, is the whole answer, or there is none (`ListInv`).
-- Index: `Lists`, `lists`, `ListInv`, `list_begins`, `list_none`, `list_done`, `list_type_lem`, `list_kept` (start and end); `item_ok`, `item_no`, `item_read`, `item_wrote`, `item_next` (an item).
-- Assumes nothing.
use Prim.Native.Nat.{ℕ, ◌+◌, ◌-◌, ◌<◌, ◌≤◌, min}
use mathlib.Core.Path.{◌≡◌, refl, sym, ap, ◌∙◌}
use mathlib.Core.Option.{none, some}
use mathlib.Core.List.{List, [], ◌∷◌, ◌++◌, append-nil}
use native.Mathlib.Omega.{arith}
use lib.ListN.{length, get_or, take, drop, length-append}
use lib.Seq.{length-take-le}
use borrow.Rule.Slice.PartMut.{put_mid}
use Rattle.form.specs.Trees.{Ty, built, list, Val, v_list, Vals, no_items}
use Rattle.form.specs.Form.{bytes, num_at, Bytes, count_vals, enc_v, enc_vals}
use Rattle.form.proofs.Runs.{rest, behind}
use Rattle.order.specs.Size.{size, size_val, size_vals}
use Rattle.types.specs.At.{type_at, size_at, Ok}
use Rattle.types.proofs.Reading as types
use Rattle.types.proofs.Reading.{is_ok, ok_got}
use Rattle.types.proofs.ChildAt.{item_behind}
use Rattle.types.proofs.Entries.{size_got}
use Rattle.values.specs.At.{value_at, items_at}
use Rattle.values.proofs.Reading.{IsVal, is_list_lem, as_list, some_level, encoded}
use Rattle.values.proofs.Reading.{items_sizes, Nth, nth, no_nth}
use Rattle.retrieval.specs.declared.builder.Retrieved.{Retrieved}
use Rattle.std.specs.declared.option.Option.{Option as Maybe}
use Rattle.std.specs.declared.option.Option.TheVariants.{None}
use Rattle.retrieval.specs.Filling.{yes}
use Rattle.retrieval.specs.Retrieve.{retrieve, retrieve_items}
use Rattle.retrieval.specs.Filling.{Gave, Retrieves}
use Rattle.output.proofs.FillLaws.{length_fill, fill_over, fill_then}
use Rattle.retrieval.proofs.Trees.{list_start, items_none, item_none, item_some}
use Rattle.retrieval.proofs.BuilderContract.{retrieves, retrieves_is, gave_some, gave_none, Got, gave_yes, gave_no, gave_length}
use Rattle.form.specs.Options.{map}
use Rattle.output.specs.Output.{fill}
use Rattle.output.proofs.OntoLaws.{back_length}
use Rattle.form.specs.Layout.{k_list}

-- ---- a list and a list type
pub record Lists (l : ℕ) (t v : List ℕ) : Type 0 where
  pub u : Ty
  pub vs : Vals
  pub read_t_lem : type_at l t ≡ some (built (list u))
  pub read_u : type_at (l - 1) (drop 1 t) ≡ some u
  pub read_v_lem : value_at l v ≡ some (v_list vs)
  pub one : 1 ≤ length t
  pub three : 3 ≤ length v
  pub level : 0 < l
  pub items : items_at (l - 1) (num_at 2 1 v) (drop 3 v) ≡ some vs

record ListVal (l : ℕ) (s : List ℕ) (v : Val) : Type 0 where
  vs : Vals
  three : 3 ≤ length s
  items : items_at (l - 1) (num_at 2 1 s) (drop 3 s) ≡ some vs
  is : v ≡ v_list vs

list_val : {l : ℕ} {s : List ℕ} {v : Val} → IsVal l s k_list v → ListVal l s v
list_val (is_list_lem vs c k p) = record { vs = vs; three = k; items = p; is = refl }

pub lists : (l : ℕ) (t v : List ℕ) → Ok (type_at l t) → Ok (value_at l v) → get_or t 0 0 ≡ 42 → get_or v 0 0 ≡ 10 → Lists l t v
lists l t v p q c d = go (ok_got (type_at l t) p) (ok_got (value_at l v) q)
  where
    go : (x : Ty) × (type_at l t ≡ some x) → (y : Val) × (value_at l v ≡ some y) → Lists l t v
    go X Y =
        let A = types.is_list_lem l t X.0 X.1 c in
        let B = list_val (as_list l v Y.0 Y.1 d) in
        record {
          u = A.0;
          vs = B.vs;
          read_t_lem = X.1 ∙ ap some A.2;
          read_u = A.1;
          read_v_lem = Y.1 ∙ ap some B.is;
          one = types.some_byte l t X.0 X.1;
          three = B.three;
          level = some_level l v Y.0 Y.1;
          items = B.items;
        }

-- the head of a list of as many items
list_head : (vs : Vals) (r : List ℕ) → take 3 (enc_v (v_list vs) ++ r) ≡ 10 ∷ bytes 2 (count_vals vs)
unfolding enc_v bytes
list_head vs r = refl

list_behind : (ws : Vals) (c : ℕ) → count_vals ws ≡ c → (10 ∷ bytes 2 c) ++ enc_vals ws ≡ enc_v (v_list ws)
unfolding enc_v
list_behind ws c e = ap (λ (z : ℕ). (10 ∷ bytes 2 z) ++ enc_vals ws) (sym e)

size_list : (vs : Vals) → size_val (v_list vs) ≡ 3 + size_vals vs
unfolding size_val
size_list vs = refl

text_none : enc_vals no_items ≡ []
unfolding enc_vals
text_none = refl

-- `mid` is the output before the loop
pub record ListInv (l : ℕ) (t v : List ℕ) (n : ℕ) (mid out : List ℕ) (at to bt i : ℕ) : Type 0 where
  pub both : Lists l t v
  pub left : Vals
  -- what was written
  pub done : List ℕ
  pub below : i ≤ n
  pub in_v : at ≤ length v
  pub read : items_at (l - 1) (n - i) (drop at v) ≡ some left
  pub sized : at + size_vals left ≡ size_val (v_list both.vs)
  pub goes : map (λ ws. done ++ enc_vals ws) (retrieve_items left both.u) ≡ map enc_v (retrieve (v_list both.vs) (built (list both.u)))
  pub long : length done ≡ to
  pub head : 3 ≤ to
  pub low : to ≤ at
  pub known : 0 < i → bt ≡ size both.u
  pub state : out ≡ fill done mid

pub list_begins : {l : ℕ} {t v : List ℕ} (L : Lists l t v) (n : ℕ) (old mid : List ℕ) → Bytes v → n ≡ num_at 2 1 v → mid ≡ fill (take 3 v) old → ListInv l t v n mid mid 3 3 0 0
list_begins {l} {t} {v} L n old mid bs en e =
    let F = encoded l v (v_list L.vs) bs L.read_v_lem in
    let h : take 3 v ≡ 10 ∷ bytes 2 (count_vals L.vs) = ap (take 3) F.bytes ∙ list_head L.vs F.rest in
    let z : n - 0 ≡ num_at 2 1 v = omega arith in
    let l3 : length (take 3 v) ≡ 3 = length-take-le 3 v L.three in
    record {
      both = L;
      left = L.vs;
      done = take 3 v;
      below = omega arith;
      in_v = L.three;
      read = ap (λ (k : ℕ). items_at (l - 1) k (drop 3 v)) z ∙ L.items;
      sized = sym (size_list L.vs);
      goes = list_start L.vs L.u (take 3 v) (λ ws c. ap (λ (k : List ℕ). k ++ enc_vals ws) h ∙ list_behind ws (count_vals L.vs) c);
      long = l3;
      head = omega arith;
      low = omega arith;
      known = λ z. absurd (omega arith);
      state = e ∙ sym (fill_over (take 3 v) (take 3 v) old (omega arith)) ∙ ap (fill (take 3 v)) (sym e);
    }

module _ {l : ℕ} {t v : List ℕ} {n : ℕ} {mid out : List ℕ} {at to bt i : ℕ} (Q : ListInv l t v n mid out at to bt i) where
  pub list_kept : length out ≡ length mid
  list_kept = ap length Q.state ∙ length_fill Q.done mid

  pub type_ok : Ok (type_at (l - 1) (behind 1 t))
  type_ok = rw (rest t 1) (is_ok (type_at (l - 1) (drop 1 t)) Q.both.u Q.both.read_u)

  module _ (h : i < n) where
    -- the item that stands at `at`
    abbrev N : Nth (l - 1) (n - (i + 1)) at v Q.left
    N = nth (l - 1) i n at v Q.left h Q.in_v Q.read

    pub item_ok : Ok (value_at (l - 1) (behind at v))
    item_ok = is_ok (value_at (l - 1) (behind at v)) N.x (item_behind N)

    module _ (p : ℕ) (ys : List ℕ) (r : Maybe Retrieved) (T : Retrieves (type_at (l - 1) (behind 1 t)) (value_at (l - 1) (behind at v)) (behind p out) ys r) where
      gave : Gave Q.both.u N.x (behind p out) ys r
      gave = retrieves_is (type_at (l - 1) (behind 1 t)) (value_at (l - 1) (behind at v)) Q.both.u N.x (behind p out) ys r (ap (type_at (l - 1)) (rest t 1) ∙ Q.both.read_u) (item_behind N) T

      pub back_kept : length (put_mid p (length out - p) out ys) ≡ length out
      back_kept = back_length p out ys (gave_length Q.both.u N.x (behind p out) ys r gave)

      pub item_no : r ≡ None → (old : List ℕ) → mid ≡ fill (take 3 v) old → Retrieves (type_at l t) (value_at l v) old (put_mid p (length out - p) out ys) None
      item_no e old m =
          let G = gave_no Q.both.u N.x (behind p out) ys r gave e in
          let z : map enc_v (retrieve (v_list Q.both.vs) (built (list Q.both.u))) ≡ none =
          sym Q.goes ∙ ap (map (λ ws. Q.done ++ enc_vals ws)) (ap (λ k. retrieve_items k Q.both.u) N.is ∙ item_none N.x N.more Q.both.u G.0) in
          retrieves (type_at l t) (value_at l v) (built (list Q.both.u)) (v_list Q.both.vs) old (put_mid p (length out - p) out ys) None Q.both.read_t_lem Q.both.read_v_lem
          (gave_none (built (list Q.both.u)) (v_list Q.both.vs) old (put_mid p (length out - p) out ys) z (back_kept ∙ list_kept ∙ ap length m ∙ length_fill (take 3 v) old))

      module _ (a b c : ℕ) (e : r ≡ yes a b c) where
        G : Got Q.both.u N.x (behind p out) ys a b c
        G = gave_yes Q.both.u N.x (behind p out) ys r a b c gave e

        pub item_read : at + b ≤ length v
        item_read = omega (arith, N.fits, G.size_v)

        pub item_wrote : to + c ≤ length v
        item_wrote = omega (arith, N.fits, G.size_v, G.short, Q.low)

        pub item_next : p ≡ min to (length out) → ListInv l t v n mid (put_mid p (length out - p) out ys) (at + b) (to + c) a (i + 1)
        item_next ep =
            record {
              both = Q.both;
              left = N.more;
              done = Q.done ++ enc_v G.w;
              below = omega arith;
              in_v = item_read;
              read = ap (λ (z : ℕ). items_at (l - 1) (n - (i + 1)) (drop (at + z) v)) G.size_v ∙ N.second;
              sized = omega (arith, Q.sized, N.sized, G.size_v);
              goes = sym (ap (λ k. map (λ ws. Q.done ++ enc_vals ws) (retrieve_items k Q.both.u)) N.is ∙ item_some Q.done N.x N.more Q.both.u G.w G.is) ∙ Q.goes;
              long = omega (arith, length-append Q.done (enc_v G.w), Q.long, G.long);
              head = omega (arith, Q.head);
              low = omega (arith, Q.low, G.short);
              known = λ z. G.size_t;
              state = fill_then Q.done (enc_v G.w) mid out ys to p Q.state Q.long ep G.out;
            }

  ended : n ≤ i → (k : ℕ) → k ≡ size (built (list Q.both.u)) → (old : List ℕ) → mid ≡ fill (take 3 v) old → Retrieves (type_at l t) (value_at l v) old out (yes k at to)
  ended h k ek old m =
      let e : Q.left ≡ no_items = no_nth (l - 1) i n at v Q.left h Q.read in
      let T = built (list Q.both.u) in
      let W = v_list Q.both.vs in
      let l3 : length (take 3 v) ≡ 3 = length-take-le 3 v Q.both.three in
      let g : map enc_v (retrieve W T) ≡ some Q.done =
      sym Q.goes ∙ ap (map (λ ws. Q.done ++ enc_vals ws)) (ap (λ j. retrieve_items j Q.both.u) e ∙ items_none Q.both.u)
      ∙ ap some (ap (λ (j : List ℕ). Q.done ++ j) text_none ∙ append-nil Q.done) in
      retrieves (type_at l t) (value_at l v) T W old out (yes k at to) Q.both.read_t_lem Q.both.read_v_lem
      (gave_some T W old out Q.done k at to g ek (omega (arith, Q.sized, ap size_vals e, items_sizes.size_nil)) (sym Q.long)
      (Q.state ∙ ap (fill Q.done) m ∙ fill_over (take 3 v) Q.done old (omega (arith, Q.long, Q.head))))

  -- there was none
  pub list_none : n ≤ i → (k : ℕ) → k ≡ size_at (type_at l t) → (old : List ℕ) → mid ≡ fill (take 3 v) old → Retrieves (type_at l t) (value_at l v) old out (yes k at to)
  list_none h k ek = ended h k (ek ∙ size_got (type_at l t) (built (list Q.both.u)) Q.both.read_t_lem)

  pub list_done : n ≤ i → 0 < i → (old : List ℕ) → mid ≡ fill (take 3 v) old → Retrieves (type_at l t) (value_at l v) old out (yes (bt + 1) at to)
  list_done h k = ended h (bt + 1) (omega (arith, Q.known k, (types.size_list Q.both.u).0))

  pub list_type_lem : 0 < i → bt + 1 ≤ length t
  list_type_lem k = omega (arith, Q.known k, (types.size_list Q.both.u).0, (types.t_good l t (built (list Q.both.u)) Q.both.read_t_lem).1)
