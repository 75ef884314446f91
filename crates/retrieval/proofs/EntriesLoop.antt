-- The loop that retrieves the entries of a context, its names taken in step with the type's: what is left of both, and what was written of the answer.
-- Idea: what was written, with what is retrieved of what is left, is the whole answer, or there is none (`ContextInv`).
-- Index: `Contexts`, `contexts`, `ContextInv`, `context_begins`, `context_done`, `context_kept` (start and end); `skip_v`, `passed_v`, `skip_t`, `passed_t` (a name of one side);
-- `common_v`, `common_t`, `common_ok_v`, `common_ok_t`, `common-no`, `common-next` (a common name).
-- Assumes nothing.
use Prim.Native.Nat.{ℕ, suc, ◌+◌, ◌-◌, ◌/◌, ◌%◌, ◌<◌, ◌≤◌, min}
use mathlib.Core.Path.{◌≡◌, refl, sym, ap, ap₂, subst, ◌∙◌}
use mathlib.Core.Bool.{cond}
use mathlib.Core.Option.{none, some}
use mathlib.Core.List.{List, [], ◌∷◌, ◌++◌, append_assoc, append-nil}
use native.Mathlib.Omega.{arith}
use lib.ListN.{length, get_or, take, drop, length-append}
use lib.Seq.{length-take-le}
use lib.Dec.{ltb}
use borrow.Rule.Slice.PartMut.{put_mid}
use Rattle.form.specs.Limits.{name_width, name_end}
use Rattle.form.specs.Trees.{Ty, built, context, Fields, no_fields, field, Val, v_context, Entries, no_entries}
use Rattle.form.specs.Form.{bytes, num_at, Bytes, enc_v}
use Rattle.form.proofs.Numbers.{length_bytes}
use Rattle.form.proofs.Runs.{rest, behind}
use Rattle.order.specs.Ascending.{AscFields}
use Rattle.order.specs.Size.{size, size_fields, size_val, size_entries}
use Rattle.types.specs.At.{type_at, fields_at, size_at, Ok}
use Rattle.types.proofs.Reading as types
use Rattle.types.proofs.Reading.{is_ok, ok_got}
use Rattle.types.proofs.ChildAt.{entry_behind, entry_ok}
use Rattle.types.proofs.Entries.{size_got, Here, here, gone, ahead, next_is, at_end_lem}
use Rattle.values.specs.At.{value_at, entries_at, size_at_v}
use Rattle.values.proofs.Reading as values
use Rattle.values.proofs.Reading.{as_context}
use Rattle.values.proofs.Reading.{some_level}
use Rattle.output.proofs.OntoLaws.{name_bytes, back_length}
use Rattle.retrieval.specs.declared.builder.Retrieved.{Retrieved}
use Rattle.std.specs.declared.option.Option.{Option as Maybe}
use Rattle.std.specs.declared.option.Option.TheVariants.{None}
use Rattle.retrieval.specs.Filling.{yes}
use Rattle.retrieval.specs.Retrieve.{retrieve, retrieve_entries}
use Rattle.retrieval.specs.Filling.{Gave, Retrieves}
use Rattle.output.proofs.FillLaws.{length_fill, fill_over, late_head, fill_then}
use Rattle.retrieval.proofs.Trees.{pass_field, pass_entry, entries_none, entry_none, entry_some, context_start}
use Rattle.retrieval.proofs.BuilderContract.{retrieves, retrieves_is, gave_some, gave_none, Got, gave_yes, gave_no, gave_length}
use Rattle.form.specs.Options.{map}
use Rattle.output.specs.Output.{fill}
use Rattle.values.proofs.EntriesAt.{context_val, size_context, size_none, This, this, none_left, above}
use Rattle.values.proofs.Reading.{From}
use Rattle.output.proofs.ContextText.{ended, context_text}

-- ---- a context and a context type
pub record Contexts (l : ℕ) (t v : List ℕ) : Type 0 where
  pub fs : Fields
  pub es : Entries
  pub read_t_lem : type_at l t ≡ some (built (context fs))
  pub read_v_lem : value_at l v ≡ some (v_context es)
  pub three_t : 3 ≤ length t
  pub three_v : 3 ≤ length v
  pub level : 0 < l
  pub fields : fields_at (l - 1) (num_at 2 1 t) 0 (drop 3 t) ≡ some fs
  pub entries : entries_at (l - 1) (num_at 2 1 v) 0 (drop 3 v) ≡ some es

pub contexts : (l : ℕ) (t v : List ℕ) → Ok (type_at l t) → Ok (value_at l v) → get_or t 0 0 ≡ 44 → get_or v 0 0 ≡ 11 → Contexts l t v
contexts l t v p q c d = go (ok_got (type_at l t) p) (ok_got (value_at l v) q)
  where
    go : (x : Ty) × (type_at l t ≡ some x) → (y : Val) × (value_at l v ≡ some y) → Contexts l t v
    go X Y =
        let A = types.is_ctx l t X.0 X.1 c in
        let B = context_val (as_context l v Y.0 Y.1 d) in
        record {
          fs = A.fs;
          es = B.es;
          read_t_lem = X.1 ∙ ap some A.is;
          read_v_lem = Y.1 ∙ ap some B.is;
          three_t = A.three;
          three_v = B.three;
          level = some_level l v Y.0 Y.1;
          fields = A.read;
          entries = B.entries;
        }

size_type : (fs : Fields) → size (built (context fs)) ≡ 3 + size_fields fs
unfolding size
size_type fs = refl

fields_none : size_fields no_fields ≡ 0
unfolding size
fields_none = refl

-- `mid` is the output before the loop
pub record ContextInv (l : ℕ) (t : List ℕ) (m : ℕ) (v : List ℕ) (n : ℕ) (mid out : List ℕ) (bt j at i to k : ℕ) : Type 0 where
  pub both : Contexts l t v
  -- what is left of them
  pub fs : Fields
  pub es : Entries
  pub least_t : ℕ
  pub least_v : ℕ
  -- what was written behind the head
  pub done : List ℕ
  pub below_t : j ≤ m
  pub below_v : i ≤ n
  pub in_t : bt ≤ length t
  pub in_v : at ≤ length v
  pub read_t_lem : fields_at (l - 1) (m - j) least_t (drop bt t) ≡ some fs
  pub read_v_lem : entries_at (l - 1) (n - i) least_v (drop at v) ≡ some es
  pub size_t : bt + size_fields fs ≡ size (built (context both.fs))
  pub size_v : at + size_entries es ≡ size_val (v_context both.es)
  pub goes : map (context_text k done) (retrieve_entries es fs) ≡ map enc_v (retrieve (v_context both.es) (built (context both.fs)))
  pub long : length done + 3 ≡ to
  pub low : to ≤ at
  pub few : k ≤ i
  pub small : n < 65536
  pub state : out ≡ fill (take 3 v ++ done) mid

pub context_begins : {l : ℕ} {t v : List ℕ} (C : Contexts l t v) (m n : ℕ) (old mid : List ℕ) → m ≡ num_at 2 1 t → n ≡ num_at 2 1 v → n < 65536 → mid ≡ fill (take 3 v) old
    → ContextInv l t m v n mid mid 3 0 3 0 3 0
context_begins {l} {t} {v} C m n old mid em en small e =
    let zm : m - 0 ≡ num_at 2 1 t = omega arith in
    let zn : n - 0 ≡ num_at 2 1 v = omega arith in
    let nil : take 3 v ++ [] ≡ take 3 v = append-nil (take 3 v) in
    record {
      both = C;
      fs = C.fs;
      es = C.es;
      least_t = 0;
      least_v = 0;
      done = [];
      below_t = omega arith;
      below_v = omega arith;
      in_t = C.three_t;
      in_v = C.three_v;
      read_t_lem = ap (λ (k : ℕ). fields_at (l - 1) k 0 (drop 3 t)) zm ∙ C.fields;
      read_v_lem = ap (λ (k : ℕ). entries_at (l - 1) k 0 (drop 3 v)) zn ∙ C.entries;
      size_t = sym (size_type C.fs);
      size_v = sym (size_context C.es);
      goes = context_start C.es C.fs;
      long = refl;
      low = omega arith;
      few = omega arith;
      small = small;
      state = e ∙ sym (fill_over (take 3 v) (take 3 v) old (omega arith)) ∙ ap₂ fill (sym nil) (sym e);
    }

module _ {l : ℕ} {t : List ℕ} {m : ℕ} {v : List ℕ} {n : ℕ} {mid out : List ℕ} {bt j at i to k : ℕ} (Q : ContextInv l t m v n mid out bt j at i to k) where
  pub context_kept : length out ≡ length mid
  context_kept = ap length Q.state ∙ length_fill (take 3 v ++ Q.done) mid

  count_fits : k < 65536
  count_fits = omega (arith, Q.few, Q.small, Q.below_v)

  pub entry_v : i < n → This (l - 1) (n - (i + 1)) at Q.least_v v Q.es
  entry_v h = this (l - 1) i n at Q.least_v v Q.es h Q.read_v_lem

  pub entry_t : j < m → Here (l - 1) (m - (j + 1)) bt Q.least_t t Q.fs
  entry_t h = here (l - 1) j m bt Q.least_t t Q.fs h Q.read_t_lem

  pub peek_v : i < n → at + name_width ≤ length v
  peek_v h = (entry_v h).two

  pub peek_t : j < m → bt + name_width ≤ length t
  peek_t h = (entry_t h).two

  module _ (x y : ℕ) (ex : x ≡ cond (ltb i n) (num_at name_width at v) name_end) (ey : y ≡ cond (ltb j m) (num_at name_width bt t) name_end) (lx : x ≤ name_end) (ly : y ≤ name_end) where
    -- ---- a name that the type lacks
    module _ (h : x < y) where
      pub more_v : i < n
      more_v = (next_is i n (num_at name_width at v) x ex (omega arith)).0

      abbrev A : This (l - 1) (n - (i + 1)) at Q.least_v v Q.es
      A = entry_v more_v

      x_name : x ≡ A.name
      x_name = (next_is i n (num_at name_width at v) x ex (omega arith)).1 ∙ sym A.named

      pub name_v : at + name_width ≤ length v
      name_v = A.two

      module _ (z : ℕ) (e : z ≡ size_at_v (value_at (l - 1) (behind (at + name_width) v))) where
        skipped_v : z ≡ size_val A.x
        skipped_v = e ∙ ap (λ (r : List ℕ). size_at_v (value_at (l - 1) r)) (rest v (at + name_width)) ∙ values.size_got (value_at (l - 1) (drop (at + name_width) v)) A.x A.first

        pub skip_v : at + name_width + z ≤ length v
        skip_v = omega (arith, A.fits, skipped_v)

        pub passed_v : ContextInv l t m v n mid out bt j (at + name_width + z) (i + 1) to k
        passed_v =
            let h1 = more_v in
            let w : AscFields Q.fs (suc A.name) = subst (λ (q : ℕ). AscFields Q.fs (suc q)) x_name (ahead (l - 1) j m bt Q.least_t t Q.fs Q.read_t_lem x y ey h) in
            record {
              both = Q.both;
              fs = Q.fs;
              es = A.more;
              least_t = Q.least_t;
              least_v = suc A.name;
              done = Q.done;
              below_t = Q.below_t;
              below_v = omega arith;
              in_t = Q.in_t;
              in_v = skip_v;
              read_t_lem = Q.read_t_lem;
              read_v_lem = ap (λ (q : ℕ). entries_at (l - 1) (n - (i + 1)) (suc A.name) (drop (at + name_width + q) v)) skipped_v ∙ A.second;
              size_t = Q.size_t;
              size_v = omega (arith, Q.size_v, A.sized, skipped_v);
              goes = sym (ap (map (context_text k Q.done)) (ap (λ q. retrieve_entries q Q.fs) A.is ∙ pass_entry A.name A.x A.more Q.fs w)) ∙ Q.goes;
              long = Q.long;
              low = omega (arith, Q.low);
              few = omega (arith, Q.few);
              small = Q.small;
              state = Q.state;
            }

    -- ---- a name that the value lacks
    module _ (h : y < x) where
      pub more_t : j < m
      more_t = (next_is j m (num_at name_width bt t) y ey (omega arith)).0

      abbrev B : Here (l - 1) (m - (j + 1)) bt Q.least_t t Q.fs
      B = entry_t more_t

      y_name : y ≡ B.name
      y_name = (next_is j m (num_at name_width bt t) y ey (omega arith)).1 ∙ sym B.named

      pub name_t : bt + name_width ≤ length t
      name_t = B.two

      module _ (z : ℕ) (e : z ≡ size_at (type_at (l - 1) (behind (bt + name_width) t))) where
        skipped_t : z ≡ size B.x
        skipped_t = e ∙ ap (λ (r : List ℕ). size_at (type_at (l - 1) r)) (rest t (bt + name_width)) ∙ size_got (type_at (l - 1) (drop (bt + name_width) t)) B.x B.first

        pub skip_t : bt + name_width + z ≤ length t
        skip_t = omega (arith, B.fits, skipped_t)

        pub passed_t : ContextInv l t m v n mid out (bt + name_width + z) (j + 1) at i to k
        passed_t =
            let h1 = more_t in
            let w : From (suc B.name) Q.es = subst (λ (q : ℕ). From (suc q) Q.es) y_name (above (l - 1) i n at Q.least_v v Q.es Q.read_v_lem x y ex h) in
            record {
              both = Q.both;
              fs = B.more;
              es = Q.es;
              least_t = suc B.name;
              least_v = Q.least_v;
              done = Q.done;
              below_t = omega arith;
              below_v = Q.below_v;
              in_t = skip_t;
              in_v = Q.in_v;
              read_t_lem = ap (λ (q : ℕ). fields_at (l - 1) (m - (j + 1)) (suc B.name) (drop (bt + name_width + q) t)) skipped_t ∙ B.second;
              read_v_lem = Q.read_v_lem;
              size_t = omega (arith, Q.size_t, B.sized, skipped_t);
              size_v = Q.size_v;
              goes = sym (ap (map (context_text k Q.done)) (ap (retrieve_entries Q.es) B.is ∙ pass_field B.name B.x Q.es B.more w)) ∙ Q.goes;
              long = Q.long;
              low = Q.low;
              few = Q.few;
              small = Q.small;
              state = Q.state;
            }

    -- ---- a common name
    module _ (lo : y ≤ x) (hi : x ≤ y) (d : x ≡ name_end → ⊥) where
      below_end : x < name_end
      below_end = omega arith

      pub both_v : i < n
      both_v = (next_is i n (num_at name_width at v) x ex below_end).0

      pub both_t : j < m
      both_t = (next_is j m (num_at name_width bt t) y ey (omega arith)).0

      abbrev A2 : This (l - 1) (n - (i + 1)) at Q.least_v v Q.es
      A2 = entry_v both_v

      abbrev B2 : Here (l - 1) (m - (j + 1)) bt Q.least_t t Q.fs
      B2 = entry_t both_t

      same_name : A2.name ≡ B2.name
      same_name =
          let p = (next_is i n (num_at name_width at v) x ex below_end).1 in
          let q = (next_is j m (num_at name_width bt t) y ey (omega arith)).1 in
          omega (arith, A2.named, B2.named)

      pub common_v : at + name_width ≤ length v
      common_v = A2.two

      pub common_t : bt + name_width ≤ length t
      common_t = B2.two

      pub common_to : to + name_width ≤ length v
      common_to = omega (arith, A2.two, Q.low)

      pub common_ok_v : Ok (value_at (l - 1) (behind (at + name_width) v))
      common_ok_v = rw (rest v (at + name_width)) (is_ok (value_at (l - 1) (drop (at + name_width) v)) A2.x A2.first)

      pub common_ok_t : Ok (type_at (l - 1) (behind (bt + name_width) t))
      common_ok_t = entry_ok B2

      -- the name was written at w, `mine` is the output then
      module _ (bs : Bytes v) (w : ℕ) (ew : w ≡ min to (length out)) (ns : List ℕ) (en : ns ≡ fill (take (at + name_width - at) (drop at v)) (behind w out)) where
        abbrev mine : List ℕ
        mine = put_mid w (length out - w) out ns

        the_name : take (at + name_width - at) (drop at v) ≡ bytes name_width A2.name
        the_name =
            let z : at + name_width - at ≡ name_width = omega arith in
            ap (λ (q : ℕ). take q (drop at v)) z ∙ name_bytes name_width at v bs A2.two ∙ ap (bytes name_width) (sym A2.named)

        head_long : length (take 3 v) ≡ 3
        head_long = length-take-le 3 v Q.both.three_v

        front_long : length (take 3 v ++ Q.done) ≡ to
        front_long = omega (arith, length-append (take 3 v) Q.done, head_long, Q.long)

        mine_is : mine ≡ fill ((take 3 v ++ Q.done) ++ bytes name_width A2.name) mid
        mine_is = fill_then (take 3 v ++ Q.done) (bytes name_width A2.name) mid out ns to w Q.state front_long ew (en ∙ ap (λ (q : List ℕ). fill q (behind w out)) the_name)

        pub mine_kept : length mine ≡ length out
        mine_kept = back_length w out ns (ap length en ∙ length_fill (take (at + name_width - at) (drop at v)) (behind w out))

        module _ (u : ℕ) (ys : List ℕ) (r : Maybe Retrieved) (T : Retrieves (type_at (l - 1) (behind (bt + name_width) t)) (value_at (l - 1) (behind (at + name_width) v)) (behind u mine) ys r) where
          gave : Gave B2.x A2.x (behind u mine) ys r
          gave = retrieves_is (type_at (l - 1) (behind (bt + name_width) t)) (value_at (l - 1) (behind (at + name_width) v)) B2.x A2.x (behind u mine) ys r
              (entry_behind B2) (entry_behind A2) T

          pub back_kept : length (put_mid u (length mine - u) mine ys) ≡ length mid
          back_kept = back_length u mine ys (gave_length B2.x A2.x (behind u mine) ys r gave) ∙ mine_kept ∙ context_kept

          pub common-no : r ≡ None → (old : List ℕ) → mid ≡ fill (take 3 v) old → Retrieves (type_at l t) (value_at l v) old (put_mid u (length mine - u) mine ys) None
          common-no e old em =
              let G = gave_no B2.x A2.x (behind u mine) ys r gave e in
              let f : Q.fs ≡ field A2.name B2.x B2.more = B2.is ∙ ap (λ (q : ℕ). field q B2.x B2.more) (sym same_name) in
              let X = built (context Q.both.fs) in
              let Y = v_context Q.both.es in
              let z : map enc_v (retrieve Y X) ≡ none =
              sym Q.goes ∙ ap (map (context_text k Q.done)) (ap₂ retrieve_entries A2.is f ∙ entry_none A2.name A2.x A2.more B2.x B2.more A2.asc G.0) in
              retrieves (type_at l t) (value_at l v) X Y old (put_mid u (length mine - u) mine ys) None Q.both.read_t_lem Q.both.read_v_lem
              (gave_none X Y old (put_mid u (length mine - u) mine ys) z (back_kept ∙ ap length em ∙ length_fill (take 3 v) old))

          module _ (b a c : ℕ) (e : r ≡ yes b a c) where
            G : Got B2.x A2.x (behind u mine) ys b a c
            G = gave_yes B2.x A2.x (behind u mine) ys r b a c gave e

            pub both-read-v : at + name_width + a ≤ length v
            both-read-v = omega (arith, A2.fits, G.size_v)

            pub both-read-t : bt + name_width + b ≤ length t
            both-read-t = omega (arith, B2.fits, G.size_t)

            pub both-wrote : to + name_width + c ≤ length v
            both-wrote = omega (arith, A2.fits, G.size_v, G.short, Q.low)

            pub common-next : u ≡ min (to + name_width) (length mine) → ContextInv l t m v n mid (put_mid u (length mine - u) mine ys) (bt + name_width + b) (j + 1) (at + name_width + a) (i + 1)
                (to + name_width + c) (k + 1)
            common-next eu =
                let hv = both_v in
                let ht = both_t in
                let f : Q.fs ≡ field A2.name B2.x B2.more = B2.is ∙ ap (λ (q : ℕ). field q B2.x B2.more) (sym same_name) in
                let nl : length (bytes name_width A2.name) ≡ name_width = length_bytes name_width A2.name in
                let D = Q.done ++ bytes name_width A2.name in
                let front : length ((take 3 v ++ Q.done) ++ bytes name_width A2.name) ≡ to + name_width = omega
                (arith, length-append (take 3 v ++ Q.done) (bytes name_width A2.name), front_long) in
                let shape : ((take 3 v ++ Q.done) ++ bytes name_width A2.name) ++ enc_v G.w ≡ take 3 v ++ (D ++ enc_v G.w) =
                append_assoc (take 3 v ++ Q.done) (bytes name_width A2.name) (enc_v G.w)
                ∙ append_assoc (take 3 v) Q.done (bytes name_width A2.name ++ enc_v G.w)
                ∙ ap (λ (q : List ℕ). take 3 v ++ q) (sym (append_assoc Q.done (bytes name_width A2.name) (enc_v G.w))) in
                record {
                  both = Q.both;
                  fs = B2.more;
                  es = A2.more;
                  least_t = suc B2.name;
                  least_v = suc A2.name;
                  done = D ++ enc_v G.w;
                  below_t = omega arith;
                  below_v = omega arith;
                  in_t = both-read-t;
                  in_v = both-read-v;
                  read_t_lem = ap (λ (q : ℕ). fields_at (l - 1) (m - (j + 1)) (suc B2.name) (drop (bt + name_width + q) t)) G.size_t ∙ B2.second;
                  read_v_lem = ap (λ (q : ℕ). entries_at (l - 1) (n - (i + 1)) (suc A2.name) (drop (at + name_width + q) v)) G.size_v ∙ A2.second;
                  size_t = omega (arith, Q.size_t, B2.sized, G.size_t);
                  size_v = omega (arith, Q.size_v, A2.sized, G.size_v);
                  goes = sym (ap₂ (λ q z. map (context_text k Q.done) (retrieve_entries q z)) A2.is f
                      ∙ entry_some k A2.name Q.done A2.x A2.more B2.x B2.more G.w A2.asc G.is) ∙ Q.goes;
                  long = omega (arith, length-append D (enc_v G.w), length-append Q.done (bytes name_width A2.name), nl, Q.long, G.long);
                  low = omega (arith, Q.low, G.short);
                  few = omega (arith, Q.few);
                  small = Q.small;
                  state = fill_then ((take 3 v ++ Q.done) ++ bytes name_width A2.name) (enc_v G.w) mid mine ys (to + name_width) u mine_is front eu G.out
                      ∙ ap (λ (q : List ℕ). fill q mid) shape;
                }

    -- ---- both at their end
    module _ (nx : i < n → x < name_end) (ny : j < m → y < name_end) (lo : y ≤ x) (hi : x ≤ y) (d : x ≡ name_end) where
      pub context_done : (p q : ℕ) → p ≡ k % 256 → q ≡ k / 256 → (old new : List ℕ) → mid ≡ fill (take 3 v) old → new ≡ fill (11 ∷ p ∷ q ∷ []) out
          → Retrieves (type_at l t) (value_at l v) old new (yes bt at to)
      context_done p q ep eq old new em en =
          let zv : Q.es ≡ no_entries = none_left (l - 1) i n at Q.least_v v Q.es (at_end_lem i n x nx d) Q.read_v_lem in
          let zt : Q.fs ≡ no_fields = gone (l - 1) j m bt Q.least_t t Q.fs (at_end_lem j m y ny (omega arith)) Q.read_t_lem in
          let X = built (context Q.both.fs) in
          let Y = v_context Q.both.es in
          let head_long : length (take 3 v) ≡ 3 = length-take-le 3 v Q.both.three_v in
          let g : map enc_v (retrieve Y X) ≡ some ((11 ∷ p ∷ q ∷ []) ++ Q.done) =
          sym Q.goes ∙ ap (map (context_text k Q.done)) (ap₂ retrieve_entries zv zt ∙ entries_none no_fields)
          ∙ ap some (ended k p q Q.done count_fits ep eq) in
          retrieves (type_at l t) (value_at l v) X Y old new (yes bt at to) Q.both.read_t_lem Q.both.read_v_lem
          (gave_some X Y old new ((11 ∷ p ∷ q ∷ []) ++ Q.done) bt at to g (omega (arith, Q.size_t, ap size_fields zt, fields_none)) (omega (arith, Q.size_v, ap size_entries zv, size_none))
          (omega (arith, Q.long))
          (late_head (take 3 v) (11 ∷ p ∷ q ∷ []) Q.done old mid out new head_long em Q.state en))
