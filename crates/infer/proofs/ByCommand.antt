-- What the writer of a value's type asks and leaves, by the value's command.
-- Idea: every built value is one case: a part of the value is written behind a front that stands already (`Under`).
-- Index: `Under`, `under_head`, `under_room`, `under_free`, `under_read`, `under_wrote`, `under_kept`, `under_done`, `Part`, `part_fits` (the one case); `in_range`, `in_list`, `in_context`,
-- `in_definition`, `in_type`, `type_done` (built values); `leaf_done`, `other_done` (one byte); `plain_free`, `plain_put`, `plain_told` (the short way past a leaf).
-- Assumes nothing.
use Prim.Native.Nat.{ℕ, ◌+◌, ◌-◌, ◌/◌, ◌%◌, ◌<◌, ◌≤◌}
use mathlib.Core.Path.{◌≡◌, refl, sym, ap, ap₂, subst, ◌∙◌}
use mathlib.Core.Bool.{Bool, true, false, ◌&&◌}
use mathlib.Core.Option.{Option, some}
use mathlib.Core.List.{List, [], ◌∷◌, ◌++◌}
use native.Mathlib.Omega.{arith}
use lib.ListN.{length, get_or, take, drop, set, length-append, length-set}
use lib.Seq.{get_or-drop}
use borrow.Rule.Slice.PartMut.{put_mid, same_len_mid, set_mid_at}
use Rattle.form.specs.Trees.{Ty, code, Leaf, Params, Val, v_leaf, v_range, v_list, v_context, v_function, v_type, no_items, item}
use Rattle.form.specs.Trees.{Entries}
use Rattle.form.specs.Form.{bytes, num_at, Bytes, enc, enc_v, WfV, WfVals, WfEntries}
use Rattle.form.proofs.CommandKinds.{leaf_low}
use Rattle.form.specs.Layout.{kind_of, operands_v, operands, width_of, is_leaf_command, leaf_type_command, ValueKind, k_range, k_list, k_context, k_definition, k_type}
use Rattle.form.specs.Answers.{onto}
use Rattle.form.proofs.Exact.{bytes_drop}
use Rattle.form.proofs.Runs.{rest, length_rest}
use Rattle.order.specs.Order.{Order}
use Rattle.order.specs.Size.{size, size_val, size_vals, size_entries}
use Rattle.order.specs.Values.{leaf_type, is_data_by, are_data, hold_data}
use Rattle.order.proofs.Bools.{and_true}
use Rattle.order.proofs.Ends.{Ends}
use Rattle.order.proofs.Size.{length_enc, size_positive}
use Rattle.order.proofs.LeastSize.{count_types_of}
use Rattle.types.specs.At.{type_at, size_at}
use Rattle.types.proofs.Entries.{size_got}
use Rattle.types.proofs.Instances.{front_bytes}
use Rattle.values.specs.At.{value_at, items_at, entries_at, Definition, definition, size_definition, definition_at}
use Rattle.values.proofs.Reading.{some_byte, some_level, v_inside, IsVal, is_null_lem, is_boolean_lem, is_number, is_string_lem, is_temporal_lem, is_range_lem}
use Rattle.values.proofs.Reading.{is_list_lem, is_context_lem, is_definition_lem, is_built_in_lem, is_type_lem}
use Rattle.values.proofs.Reading.{is_irrelevant_lem, is_decimal_lem, is_val, as_leaf, as_range, as_list, as_context, as_definition, as_type, encoded}
use Rattle.output.proofs.OntoLaws.{onto_first, onto_two, onto_three, length_onto}
use Rattle.infer.specs.Typing.{type_by, Fits, FitVal, FitDefinition, Fitting, Plain, Starts, Wrote, Typed, type_text, fields_text, inner_text, signature_text}
use Rattle.infer.proofs.Trees.{fine, list_is, range_is, context_is, leaf_is, built_in_is, irrelevant_is, function_is, type_is, count_is}
use Rattle.infer.proofs.OutputFront.{starts_onto, starts_inside, lent_starts, Opened, open_fit, fit, typed, typed_is, behind}

-- ---- a value of which a part is written from k on, behind the bytes `front`; j bytes of the value stand before the part
pub record Under (O : Order) (m : Bool) (l : ℕ) (s old : List ℕ) {X : Type 0} (sz : X → ℕ) (text : X → List ℕ) (r : Option X) (j k : ℕ) (xs : List ℕ) : Type 0 where
  pub v : Val
  pub read : value_at l s ≡ some v
  pub x : X
  pub part : r ≡ some x
  pub sized : size_val v ≡ sz x + j
  pub front : List ℕ
  pub is : type_text O m v ≡ front ++ text x
  pub short : size (type_by O m v) ≤ size_val v
  pub roomy : size_val v ≤ length old
  pub there : Starts front xs
  pub long : length front ≡ k
  pub same : length xs ≡ length old

module _ {O : Order} {m : Bool} {l : ℕ} {s old : List ℕ} {X : Type 0} {sz : X → ℕ} {text : X → List ℕ} {r : Option X} {j k : ℕ} {xs : List ℕ} (U : Under O m l s old sz text r j k xs) where
  pub under_head : j ≤ length s
  under_head = omega (arith, U.sized, v_inside l s U.v U.read)

  pub under_room : j ≤ length old
  under_room = omega (arith, U.sized, U.roomy)

  pub under_free : k ≤ length xs
  under_free = omega (arith, U.long, starts_inside U.front xs U.there)

  module _ (ys : List ℕ) (e w : ℕ) (T : Typed sz text r (behind k xs) ys e w) where
    abbrev W : Wrote sz text U.x (behind k xs) ys e w
    W = typed_is r U.x (behind k xs) ys e w U.part T

    pub under_read : e + j ≤ length s
    under_read = omega (arith, W.all, U.sized, v_inside l s U.v U.read)

    all_long : w + k ≡ length (type_text O m U.v)
    all_long = omega (arith, W.long, U.long, ap length U.is, length-append U.front (text U.x))

    pub under_wrote : w + k ≤ length s
    under_wrote = omega (arith, all_long, length_enc (type_by O m U.v), U.short, v_inside l s U.v U.read)

    pub under_kept : length (put_mid k (length xs - k) xs ys) ≡ length old
    under_kept = same_len_mid k (length xs - k) xs ys W.kept ∙ U.same

    pub under_done : Typed size_val (type_text O m) (value_at l s) old (put_mid k (length xs - k) xs ys) (e + j) (w + k)
    under_done =
        typed (value_at l s) U.v old (put_mid k (length xs - k) xs ys) (e + j) (w + k) U.read
        (record {
          all = omega (arith, W.all, U.sized);
          long = all_long;
          out = subst (λ (z : List ℕ). Starts z (put_mid k (length xs - k) xs ys)) (sym U.is) (lent_starts U.front (text U.x) xs ys k U.there U.long W.out);
          kept = under_kept;
        })

-- with what a call on the part asks
pub record Part (O : Order) (m : Bool) (l : ℕ) (s old : List ℕ) (spare : ℕ) {X : Type 0} (wf : X → Type 0) (test : X → Bool) (want sz : X → ℕ) (text : X → List ℕ) (r : Option X) (j k : ℕ)
    (xs : List ℕ) : Type 0 where
  pub under : Under O m l s old sz text r j k xs
  pub fits : Fits wf test want m under.x (length old - k) spare

pub part_fits : {O : Order} {m : Bool} {l : ℕ} {s old : List ℕ} {spare : ℕ} {X : Type 0} {wf : X → Type 0} {test : X → Bool} {want sz : X → ℕ} {text : X → List ℕ}
    {r : Option X} {j k : ℕ} {xs : List ℕ}
    → Part O m l s old spare wf test want sz text r j k xs → Fitting wf test want m r (length (behind k xs)) spare
part_fits {m = m} {old = old} {spare = spare} {wf = wf} {test = test} {want = want} {r = r} {k = k} {xs = xs} P =
    let e : length old - k ≡ length (behind k xs) = omega (arith, length_rest xs k, P.under.same) in
    fit r P.under.x (length (behind k xs)) spare P.under.part (subst (λ (z : ℕ). Fits wf test want m P.under.x z spare) e P.fits)

-- a stored byte leaves the room as it was
pub still : (n : ℕ) (xs : List ℕ) (k b : ℕ) → n ≤ length xs → n ≤ length (set xs k b)
still n xs k b h = omega (arith, length-set xs k b)

-- ---- one byte for the whole type
simple_wrote : (O : Order) (m : Bool) (l : ℕ) (s : List ℕ) (v : Val) → value_at l s ≡ some v → (b : ℕ) → type_text O m v ≡ b ∷ [] → (n : ℕ) → n ≡ size_val v → (old : List ℕ) → 1 ≤ length old
    → Typed size_val (type_text O m) (value_at l s) old (set old 0 b) n 1
simple_wrote O m l s v read b t n e old h =
    typed (value_at l s) v old (set old 0 b) n 1 read
    (record {
      all = e;
      long = sym (ap length t);
      out = subst (λ (z : List ℕ). Starts z (set old 0 b)) (sym t) (starts_onto (b ∷ []) old (set old 0 b) (onto_first old b h));
      kept = length-set old 0 b;
    })

-- the whole type is the byte b, and the value has n + 1 bytes
abbrev Simply : Order → Bool → Val → ℕ → ℕ → Type 0
Simply O m v b n = (type_text O m v ≡ b ∷ []) × (n + 1 ≡ size_val v)

leaf_text : (O : Order) (m : Bool) (x : Leaf) → type_text O m (v_leaf x) ≡ (32 + code (leaf_type x)) ∷ []
unfolding enc
leaf_text O m x = ap enc (leaf_is O m x)

module _ (O : Order) (m : Bool) (l : ℕ) (s : List ℕ) where
  leaf_of : (v : Val) → value_at l s ≡ some v → is_leaf_command (get_or s 0 0) ≡ true → Simply O m v (leaf_type_command (get_or s 0 0)) (width_of (get_or s 0 0))
  leaf_of v e h =
      let L = as_leaf l s v e h in
      subst (λ x. Simply O m x (leaf_type_command (get_or s 0 0)) (width_of (get_or s 0 0))) (sym L.is) (leaf_text O m L.x ∙ ap (λ (z : ℕ). z ∷ []) L.type, L.size)

  -- none of the commands that have an arm of their own
  abbrev Other : Type 0
  Other = ((13 ≤ get_or s 0 0) × (get_or s 0 0 ≡ 14 → ⊥)) × (get_or s 0 0 ≡ 16 → ⊥)

  other_of : {j : ValueKind} (v : Val) → IsVal l s j v → Other → Simply O m v 32 (width_of (get_or s 0 0))
  unfolding enc size_val kind_of operands operands_v width_of
  other_of v (is_null_lem x c) g = absurd (omega (arith, g.0.0))
  other_of v (is_boolean_lem x c) g = absurd (omega (arith, g.0.0))
  other_of v (is_number x c) g = absurd (omega (arith, g.0.0))
  other_of v (is_string_lem x c) g = absurd (omega (arith, g.0.0))
  other_of v (is_temporal_lem x c k) g = absurd (omega (arith, g.0.0))
  other_of v (is_range_lem i j a b c k e) g = absurd (omega (arith, g.0.0))
  other_of v (is_list_lem vs c k e) g = absurd (omega (arith, g.0.0))
  other_of v (is_context_lem es c k e) g = absurd (omega (arith, g.0.0))
  other_of v (is_definition_lem r ps b c k e) g = absurd (omega (arith, g.0.0))
  other_of v (is_built_in_lem c k) g = (ap enc (built_in_is O m (get_or s 1 0)), ap (λ (z : ℕ). width_of z + 1) c)
  other_of v (is_type_lem t c e) g = absurd (g.0.1 c)
  other_of v (is_irrelevant_lem c) g = (ap enc (irrelevant_is O m), ap (λ (z : ℕ). width_of z + 1) c)
  other_of v (is_decimal_lem x p c) g = absurd (g.1 c)

-- ---- the built values
module _ (O : Order) (m : Bool) (l : ℕ) (s old : List ℕ) (spare : ℕ) (bs : Bytes s) where
  abbrev Given : Val → Type 0
  Given v = (value_at l s ≡ some v) × (Fits WfV (is_data_by O) size_val m v (length old) spare)

  low : (v : Val) → Given v → size (type_by O m v) ≤ size_val v
  low v G = (fine O m v G.1.well (omega (arith, G.1.small))).short

  one : (v : Val) → Given v → 1 ≤ length old
  one v G = omega (arith, low v G, size_positive (type_by O m v), G.1.roomy)

  abbrev Ranges : Type 0
  Ranges = Part O m l s old spare WfVals (are_data O) (λ vs. size_vals vs + 1) size_vals (inner_text O m true) (items_at (l - 1) 2 (behind 3 s)) 3 1 (set old 0 43)

  range_of_lem : (v : Val) → Given v → IsVal l s k_range v → Ranges
  unfolding enc size_val WfV is_data_by
  range_of_lem v G (is_range_lem i j a b c k e) =
      record {
        under = record {
          v = v_range i j a b;
          read = G.0;
          x = item a (item b no_items);
          part = ap (items_at (l - 1) 2) (rest s 3) ∙ e;
          sized = omega arith;
          front = 43 ∷ [];
          is = ap enc (range_is O m i j a b);
          short = low (v_range i j a b) G;
          roomy = G.1.roomy;
          there = starts_onto (43 ∷ []) old (set old 0 43) (onto_first old 43 (one (v_range i j a b) G));
          long = refl;
          same = length-set old 0 43;
        };
        fits = record {
          well = (G.1.well.1.1.0, (G.1.well.1.1.1, tt));
          apt = λ q. ap (λ (z : Bool). is_data_by O a && z) (and_true (is_data_by O b)) ∙ G.1.apt q;
          roomy = omega (arith, G.1.roomy);
          spared = omega (arith, G.1.spared);
          small = omega (arith, G.1.small);
        };
      }

  abbrev Lists : ℕ → Type 0
  Lists n = Part O m l s old spare WfVals (are_data O) (λ vs. size_vals vs + 1) size_vals (inner_text O m false) (items_at (l - 1) n (behind 3 s)) 3 1 (set old 0 42)

  list_of : Ends O → (n : ℕ) → n ≡ num_at 2 1 s → (v : Val) → Given v → IsVal l s k_list v → Lists n
  unfolding enc size_val WfV is_data_by
  list_of L n w v G (is_list_lem vs c k e) =
      record {
        under = record {
          v = v_list vs;
          read = G.0;
          x = vs;
          part = ap₂ (λ (z : ℕ) (y : List ℕ). items_at (l - 1) z y) w (rest s 3) ∙ e;
          sized = omega arith;
          front = 42 ∷ [];
          is = ap enc (list_is L m vs G.1.well.1);
          short = low (v_list vs) G;
          roomy = G.1.roomy;
          there = starts_onto (42 ∷ []) old (set old 0 42) (onto_first old 42 (one (v_list vs) G));
          long = refl;
          same = length-set old 0 42;
        };
        fits = record {
          well = G.1.well.1;
          apt = G.1.apt;
          roomy = omega (arith, G.1.roomy);
          spared = omega (arith, G.1.spared);
          small = omega (arith, G.1.small);
        };
      }

  abbrev three : List ℕ
  three = set (set (set old 0 44) 1 (get_or s 1 0)) 2 (get_or s 2 0)

  abbrev Contexts : ℕ → Type 0
  Contexts n = Part O m l s old spare (λ es. WfEntries es 0) (hold_data O) size_entries size_entries (fields_text O m) (entries_at (l - 1) n 0 (behind 3 s)) 3 3 three

  -- the count is the value's
  context_text_lem : (es : Entries) → value_at l s ≡ some (v_context es) → type_text O m (v_context es) ≡ 44 ∷ get_or s 1 0 ∷ get_or s 2 0 ∷ fields_text O m es
  unfolding enc enc_v bytes
  context_text_lem es read =
      let F = encoded l s (v_context es) bs read in
      ap enc (context_is O m es)
      ∙ ap (λ (z : ℕ). 44 ∷ z % 256 ∷ z / 256 % 256 ∷ fields_text O m es) (count_is O m es)
      ∙ ap₂ (λ (y z : ℕ). 44 ∷ y ∷ z ∷ fields_text O m es) (sym (ap (λ (z : List ℕ). get_or z 1 0) F.bytes)) (sym (ap (λ (z : List ℕ). get_or z 2 0) F.bytes))

  context_of_lem : (n : ℕ) → n ≡ num_at 2 1 s → (v : Val) → Given v → IsVal l s k_context v → Contexts n
  unfolding size_val WfV is_data_by
  context_of_lem n w v G (is_context_lem es c k e) =
      record {
        under = record {
          v = v_context es;
          read = G.0;
          x = es;
          part = ap₂ (λ (z : ℕ) (y : List ℕ). entries_at (l - 1) z 0 y) w (rest s 3) ∙ e;
          sized = omega arith;
          front = 44 ∷ get_or s 1 0 ∷ get_or s 2 0 ∷ [];
          is = context_text_lem es G.0;
          short = low (v_context es) G;
          roomy = G.1.roomy;
          there = starts_onto (44 ∷ get_or s 1 0 ∷ get_or s 2 0 ∷ []) old three (onto_three old 44 (get_or s 1 0) (get_or s 2 0) (omega (arith, G.1.roomy)));
          long = refl;
          same = length-set (set (set old 0 44) 1 (get_or s 1 0)) 2 (get_or s 2 0) ∙ length-set (set old 0 44) 1 (get_or s 1 0) ∙ length-set old 0 44;
        };
        fits = record {
          well = G.1.well.1;
          apt = G.1.apt;
          roomy = omega (arith, G.1.roomy);
          spared = omega (arith, G.1.spared);
          small = omega (arith, G.1.small);
        };
      }

  abbrev two : List ℕ
  two = set (set old 0 45) 1 (get_or s 1 0)

  abbrev Defines : ℕ → Type 0
  Defines n = Under O m l s old size_definition signature_text (definition_at (l - 1) n (behind 4 s)) 4 2 two

  function_text : (ps : Params) (b : ℕ) (r : Ty) → value_at l s ≡ some (v_function ps b r) → (m ≡ true → is_data_by O (v_function ps b r) ≡ true)
      → type_text O m (v_function ps b r) ≡ 45 ∷ get_or s 1 0 ∷ signature_text (definition r ps)
  unfolding enc enc_v bytes
  function_text ps b r read d =
      let F = encoded l s (v_function ps b r) bs read in
      ap enc (function_is O m ps b r d)
      ∙ ap (λ (z : ℕ). 45 ∷ z ∷ signature_text (definition r ps)) (count_types_of ps ∙ sym (ap (λ (z : List ℕ). get_or z 1 0) F.bytes))

  definition_of : (n : ℕ) → n ≡ get_or s 1 0 → (v : Val) → Given v → IsVal l s k_definition v → Defines n
  unfolding size_val
  definition_of n w v G (is_definition_lem r ps b c k e) =
      record {
        v = v_function ps b r;
        read = G.0;
        x = definition r ps;
        part = ap₂ (λ (z : ℕ) (y : List ℕ). definition_at (l - 1) z y) w (rest s 4) ∙ e;
        sized = omega arith;
        front = 45 ∷ get_or s 1 0 ∷ [];
        is = function_text ps b r G.0 G.1.apt;
        short = low (v_function ps b r) G;
        roomy = G.1.roomy;
        there = starts_onto (45 ∷ get_or s 1 0 ∷ []) old two (onto_two old 45 (get_or s 1 0) (omega (arith, G.1.roomy)));
        long = refl;
        same = length-set (set old 0 45) 1 (get_or s 1 0) ∙ length-set old 0 45;
      }

  -- a type as a value
  pub record AType : Type 0 where
    pub t : Ty
    pub read : value_at l s ≡ some (v_type t)
    pub at : type_at (l - 1) (drop 1 s) ≡ some t
    pub is : type_by O m (v_type t) ≡ t
    pub roomy : 1 + size t ≤ length old

  type_of_lem : (v : Val) → Given v → IsVal l s k_type v → AType
  unfolding size_val
  type_of_lem v G (is_type_lem t c e) = record { t = t; read = G.0; at = e; is = type_is O m t G.1.apt; roomy = G.1.roomy }

  size_type : (t : Ty) → size_val (v_type t) ≡ 1 + size t
  unfolding size_val
  size_type t = refl

  module _ (Y : AType) (n : ℕ) (en : n ≡ size_at (type_at (l - 1) (behind 1 s))) where
    size_n : n ≡ size Y.t
    size_n = en ∙ ap (λ (z : List ℕ). size_at (type_at (l - 1) z)) (rest s 1) ∙ size_got (type_at (l - 1) (drop 1 s)) Y.t Y.at

    pub type_end : n + 1 ≤ length s
    type_end = omega (arith, size_n, size_type Y.t, v_inside l s (v_type Y.t) Y.read)

    type_text_lem : take (n + 1 - 1) (drop 1 s) ≡ enc Y.t
    type_text_lem = let e : n + 1 - 1 ≡ size Y.t = omega (arith, size_n) in ap (λ (z : ℕ). take z (drop 1 s)) e ∙ (front_bytes (l - 1) (drop 1 s) Y.t (bytes_drop 1 s bs) Y.at).1

    pub type_room : length (take (n + 1 - 1) (drop 1 s)) ≤ length old
    type_room = omega (arith, ap length type_text_lem, length_enc Y.t, Y.roomy)

    pub type_done : (new : List ℕ) → new ≡ onto (take (n + 1 - 1) (drop 1 s)) old → Typed size_val (type_text O m) (value_at l s) old new (n + 1) n
    type_done new e =
        let q : type_text O m (v_type Y.t) ≡ enc Y.t = ap enc Y.is in
        let f : new ≡ onto (enc Y.t) old = e ∙ ap (λ (z : List ℕ). onto z old) type_text_lem in
        typed (value_at l s) (v_type Y.t) old new (n + 1) n Y.read
        (record {
          all = omega (arith, size_n, size_type Y.t);
          long = size_n ∙ sym (ap length q ∙ length_enc Y.t);
          out = starts_onto (type_text O m (v_type Y.t)) old new (f ∙ ap (λ (z : List ℕ). onto z old) (sym q));
          kept = ap length f ∙ length_onto (enc Y.t) old (omega (arith, length_enc Y.t, Y.roomy));
        })

-- ---- by the command, from what was asked
module _ (O : Order) (m : Bool) (l : ℕ) (s old spare : List ℕ) (p : FitVal O m (value_at l s) (length old) (length spare)) (bs : Bytes s) where
  abbrev G : Opened WfV (is_data_by O) size_val m (value_at l s) (length old) (length spare)
  G = open_fit (value_at l s) (length old) (length spare) p

  abbrev given : Given O m l s old (length spare) bs G.x
  given = (G.read, G.fits)

  abbrev kind : (j : ValueKind) × IsVal l s j G.x
  kind = is_val l s G.x G.read

  pub first_byte : 0 < length s
  first_byte = some_byte l s G.x G.read

  pub level_left : 0 < l
  level_left = some_level l s G.x G.read

  pub one_free : 1 ≤ length old
  one_free = one O m l s old (length spare) bs G.x given

  simply_ends : (b n : ℕ) → Simply O m G.x b n → n + 1 ≤ length s
  simply_ends b n N = omega (arith, N.1, v_inside l s G.x G.read)

  simply_done : (b n : ℕ) → Simply O m G.x b n → (k : ℕ) → k ≡ n → Typed size_val (type_text O m) (value_at l s) old (set old 0 b) (k + 1) 1
  simply_done b n N k e = simple_wrote O m l s G.x G.read b N.0 (k + 1) (ap (λ (z : ℕ). z + 1) e ∙ N.1) old one_free

  -- a leaf; b is the command of its type
  module _ (h : is_leaf_command (get_or s 0 0) ≡ true) where
    pub leaf_ends : width_of (get_or s 0 0) + 1 ≤ length s
    leaf_ends = simply_ends _ _ (leaf_of O m l s G.x G.read h)

    pub leaf_done : (b : ℕ) → b ≡ leaf_type_command (get_or s 0 0) → (k : ℕ) → k ≡ width_of (get_or s 0 0) → Typed size_val (type_text O m) (value_at l s) old (set old 0 b) (k + 1) 1
    leaf_done b t = simply_done b _ (subst (λ (z : ℕ). Simply O m G.x z (width_of (get_or s 0 0))) (sym t) (leaf_of O m l s G.x G.read h))

  plain_done : (b : ℕ) → b ≡ leaf_type_command (get_or s 0 0) → (n : ℕ) → Plain (get_or s 0 0) n → Typed size_val (type_text O m) (value_at l s) old (set old 0 b) n 1
  plain_done b t n P =
      subst (λ (z : ℕ). Typed size_val (type_text O m) (value_at l s) old (set old 0 b) z 1) (sym P.size) (leaf_done (leaf_low (get_or s 0 0) P.low) b t (width_of (get_or s 0 0)) refl)

  module _ (other : Other O m l s) where
    pub other_ends : width_of (get_or s 0 0) + 1 ≤ length s
    other_ends = simply_ends _ _ (other_of O m l s G.x kind.1 other)

    pub other_done : (k : ℕ) → k ≡ width_of (get_or s 0 0) → Typed size_val (type_text O m) (value_at l s) old (set old 0 32) (k + 1) 1
    other_done = simply_done _ _ (other_of O m l s G.x kind.1 other)

  pub in_range : get_or s 0 0 ≡ 9 → Ranges O m l s old (length spare) bs
  in_range c = range_of_lem O m l s old (length spare) bs G.x given (as_range l s G.x G.read c)

  pub in_list : Ends O → (n : ℕ) → n ≡ num_at 2 1 s → get_or s 0 0 ≡ 10 → Lists O m l s old (length spare) bs n
  in_list L n e c = list_of O m l s old (length spare) bs L n e G.x given (as_list l s G.x G.read c)

  pub in_context : (n : ℕ) → n ≡ num_at 2 1 s → get_or s 0 0 ≡ 11 → Contexts O m l s old (length spare) bs n
  in_context n e c = context_of_lem O m l s old (length spare) bs n e G.x given (as_context l s G.x G.read c)

  pub in_definition : (n : ℕ) → n ≡ get_or s 1 0 → get_or s 0 0 ≡ 12 → Under O m l s old size_definition signature_text (definition_at (l - 1) n (behind 4 s)) 4 2 (set (set old 0 45) 1 (get_or s 1 0))
  in_definition n e c = definition_of O m l s old (length spare) bs n e G.x given (as_definition l s G.x G.read c)

  pub in_type : get_or s 0 0 ≡ 14 → AType O m l s old (length spare) bs
  in_type c = type_of_lem O m l s old (length spare) bs G.x given (as_type l s G.x G.read c)

pub definition_fits : {O : Order} {m : Bool} {l : ℕ} {s old : List ℕ} {r : Option Definition} {xs : List ℕ} → Under O m l s old size_definition signature_text r 4 2 xs
    → FitDefinition r (length (behind 2 xs))
unfolding FitDefinition
definition_fits {r = r} {xs = xs} U = rw U.part (omega (arith, U.sized, U.roomy, U.same, length_rest xs 2))

-- ---- the short way: the type of a leaf at i of s is one byte at j of xs
module _ (O : Order) (m : Bool) (l : ℕ) (s : List ℕ) (i : ℕ) (xs : List ℕ) (j : ℕ) (spare : List ℕ) (p : FitVal O m (value_at l (behind i s)) (length (behind j xs)) (length spare))
    (bs : Bytes s) where
  there : Bytes (behind i s)
  there = subst Bytes (sym (rest s i)) (bytes_drop i s bs)

  one_there : 1 ≤ length (behind j xs)
  one_there = one_free O m l (behind i s) (behind j xs) spare p there

  pub plain_free : j < length xs
  plain_free = omega (arith, one_there, length_rest xs j)

  pub plain_put : (b : ℕ) → put_mid j (length xs - j) xs (set (behind j xs) 0 b) ≡ set xs j b
  plain_put b = let z : j + 0 ≡ j = omega arith in set_mid_at j (length xs - j) 0 xs b (omega (arith, one_there)) ∙ ap (λ (k : ℕ). set xs k b) z

  byte_is : get_or (behind i s) 0 0 ≡ get_or s i 0
  byte_is = let z : i + 0 ≡ i = omega arith in ap (λ (r : List ℕ). get_or r 0 0) (rest s i) ∙ get_or-drop i s 0 0 ∙ ap (λ (k : ℕ). get_or s k 0) z

  pub plain_told : (b : ℕ) → b ≡ leaf_type_command (get_or s i 0) → (k : ℕ) → Plain (get_or (behind i s) 0 0) k
      → Typed size_val (type_text O m) (value_at l (behind i s)) (behind j xs) (set (behind j xs) 0 b) k 1
  plain_told b t k P = plain_done O m l (behind i s) (behind j xs) spare p there b (t ∙ ap leaf_type_command (sym byte_is)) k P
