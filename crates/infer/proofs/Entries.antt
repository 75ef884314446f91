-- The loop that writes the entries of a context: what is left of them, and what stands at the front of the output.
-- Idea: what was written and the text of what is left make the text of all entries (`EntriesInv`).
-- Index: `EntriesInv`, `entries_start`, `entries_done`; `entry_name`, `entry_room`, `entry_fits`, `name_len`, `entry_read`, `entry_wrote`, `entry_next` (an entry);
-- `entry_some`, `entry_byte`, `entry_free`, `entry_leaf_read`, `entry_leaf_wrote`, `entry_leaf` (an entry that is a leaf).
-- Assumes nothing.
use Prim.Native.Nat.{ℕ, suc, ◌+◌, ◌-◌, ◌<◌, ◌≤◌}
use mathlib.Core.Path.{◌≡◌, refl, sym, ap, subst, ◌∙◌}
use mathlib.Core.Bool.{Bool, true}
use mathlib.Core.Option.{some}
use mathlib.Core.List.{List, [], ◌++◌, append_assoc, append-nil}
use native.Mathlib.Omega.{arith}
use lib.ListN.{length, get_or, drop, set, length-append}
use borrow.Rule.Slice.PartMut.{put_mid, same_len_mid}
use Rattle.form.specs.Limits.{name_width, most_bytes}
use Rattle.form.specs.Trees.{Entries, no_entries}
use Rattle.form.specs.Form.{bytes, num_at, Bytes, enc_fields, WfV}
use Rattle.form.specs.Layout.{leaf_type_command}
use Rattle.form.proofs.Exact.{bytes_drop}
use Rattle.form.proofs.Numbers.{length_bytes}
use Rattle.form.proofs.Runs.{length_rest}
use Rattle.order.specs.Order.{Order}
use Rattle.order.specs.Size.{size_val, size_entries}
use Rattle.order.specs.Values.{is_data_by, hold_data}
use Rattle.order.proofs.Size.{length_enc}
use Rattle.types.proofs.ChildAt.{entry_behind}
use Rattle.types.proofs.Entries.{enc_field, enc_none}
use Rattle.values.specs.At.{value_at, entries_at}
use Rattle.values.proofs.Reading.{some_byte, encoded}
use Rattle.output.proofs.OntoLaws.{length_over}
use Rattle.infer.specs.Typing.{type_by, fields_by, FitVal, FitEntries, Plain, Starts, Wrote, Typed, type_text, fields_text}
use Rattle.infer.proofs.Trees.{fine, fields_none, fields_entry, data_entry}
use Rattle.infer.proofs.OutputFront.{starts, lent_starts, over_starts, open_fit, fit, typed, typed_is, behind}
use Rattle.infer.proofs.ByCommand.{plain_free, plain_put, plain_told}
use Rattle.output.specs.Output.{over}
use Rattle.values.proofs.EntriesAt.{This, this, none_left, size_none}

pub record EntriesInv (O : Order) (m : Bool) (l : ℕ) (v : List ℕ) (n : ℕ) (old spare₀ out spare : List ℕ) (at to i : ℕ) : Type 0 where
  -- all, what is left of them, and what was written
  pub whole : Entries
  pub left : Entries
  pub name : ℕ
  pub done : List ℕ
  pub read_all : entries_at l n 0 v ≡ some whole
  pub below : i ≤ n
  pub in_v : at ≤ length v
  pub read : entries_at l (n - i) name (drop at v) ≡ some left
  pub sized : at + size_entries left ≡ size_entries whole
  pub text : done ++ fields_text O m left ≡ fields_text O m whole
  pub long : length done ≡ to
  pub low : to ≤ at
  pub apt : m ≡ true → hold_data O left ≡ true
  pub room : size_entries whole ≤ length old
  pub spared : size_entries whole ≤ length spare₀
  pub small : size_entries whole ≤ most_bytes
  pub out_len : length out ≡ length old
  pub spare_len : length spare ≡ length spare₀
  pub state : Starts done out

pub entries_start : (O : Order) (m : Bool) (l : ℕ) (v : List ℕ) (n : ℕ) (old spare₀ : List ℕ) → FitEntries O m (entries_at l n 0 v) (length old) (length spare₀)
    → EntriesInv O m l v n old spare₀ old spare₀ 0 0 0
entries_start O m l v n old spare₀ p =
    let K = open_fit (entries_at l n 0 v) (length old) (length spare₀) p in
    let en : n - 0 ≡ n = omega arith in
    record {
      whole = K.x;
      left = K.x;
      name = 0;
      done = [];
      read_all = K.read;
      below = omega arith;
      in_v = omega arith;
      read = ap (λ (z : ℕ). entries_at l z 0 v) en ∙ K.read;
      sized = omega arith;
      text = refl;
      long = refl;
      low = omega arith;
      apt = K.fits.apt;
      room = K.fits.roomy;
      spared = K.fits.spared;
      small = K.fits.small;
      out_len = refl;
      spare_len = refl;
      state = starts [] old old refl;
    }

module _ {O : Order} {m : Bool} {l : ℕ} {s : List ℕ} {n : ℕ} {old spare₀ out spare : List ℕ} {at to i : ℕ} (Q : EntriesInv O m l s n old spare₀ out spare at to i) (bs : Bytes s) where
  module _ (h : i < n) where
    -- the entry that stands at `at`
    abbrev H : This l (n - (i + 1)) at Q.name s Q.left
    H = this l i n at Q.name s Q.left h Q.read

    well : WfV H.x
    well = (encoded l (drop (at + name_width) s) H.x (bytes_drop (at + name_width) s bs) H.first).well

    texts : fields_text O m Q.left ≡ bytes name_width H.name ++ (type_text O m H.x ++ fields_text O m H.more)
    texts = ap (fields_text O m) H.is ∙ ap enc_fields (fields_entry O m H.name H.x H.more) ∙ enc_field H.name (type_by O m H.x) (fields_by O m H.more)

    apt : (m ≡ true → is_data_by O H.x ≡ true) × (m ≡ true → hold_data O H.more ≡ true)
    apt = data_entry O m H.name H.x H.more (λ q. ap (hold_data O) (sym H.is) ∙ Q.apt q)

    pub entry_name : at + name_width ≤ length s
    entry_name = H.two

    pub entry_room : to + name_width ≤ length out
    entry_room = omega (arith, Q.room, Q.out_len, Q.low, Q.sized, H.sized)

    pub entry_fits : (xs : List ℕ) → length xs ≡ length out → FitVal O m (value_at l (behind (at + name_width) s)) (length (behind (to + name_width) xs)) (length spare)
    entry_fits xs e =
        fit (value_at l (behind (at + name_width) s)) H.x (length (behind (to + name_width) xs)) (length spare) (entry_behind H)
        (record {
          well = well;
          apt = apt.0;
          roomy = omega (arith, length_rest xs (to + name_width), Q.room, Q.out_len, Q.low, Q.sized, H.sized);
          spared = omega (arith, Q.spared, Q.spare_len, Q.sized, H.sized);
          small = omega (arith, Q.small, Q.sized, H.sized);
        })

    pub name_len : (xs : List ℕ) → xs ≡ over to (bytes name_width (num_at name_width at s)) out → length xs ≡ length out
    name_len xs named = ap length named ∙ length_over to (bytes name_width (num_at name_width at s)) out (omega (arith, length_bytes name_width (num_at name_width at s), entry_room))

    -- the name was copied, and the type written behind it
    module _ (xs ys : List ℕ) (e w : ℕ) (named : xs ≡ over to (bytes name_width (num_at name_width at s)) out)
        (T : Typed size_val (type_text O m) (value_at l (behind (at + name_width) s)) (behind (to + name_width) xs) ys e w) where
      abbrev W : Wrote size_val (type_text O m) H.x (behind (to + name_width) xs) ys e w
      W = typed_is (value_at l (behind (at + name_width) s)) H.x (behind (to + name_width) xs) ys e w (entry_behind H) T

      pub entry_read : at + name_width + e ≤ length s
      entry_read = omega (arith, H.fits, W.all)

      short : w ≤ e
      short = omega (arith, W.all, W.long, length_enc (type_by O m H.x), (fine O m H.x well (omega (arith, Q.small, Q.sized, H.sized))).short)

      pub entry_wrote : to + name_width + w ≤ length s
      entry_wrote = omega (arith, short, Q.low, entry_read)

      pub entry_next : (sp : List ℕ) → length sp ≡ length spare → EntriesInv O m l s n old spare₀ (put_mid (to + name_width) (length xs - (to + name_width)) xs ys) sp (at + name_width + e)
          (to + name_width + w) (i + 1)
      entry_next sp k =
          let name = bytes name_width H.name in
          let p = Q.done ++ name in
          let fs = over_starts Q.done name out to Q.state Q.long in
          let nm : xs ≡ over to name out = named ∙ ap (λ (z : ℕ). over to (bytes name_width z) out) (sym H.named) in
          let lp : length p ≡ to + name_width = omega (arith, length-append Q.done name, Q.long, length_bytes name_width H.name) in
          let sx : Starts p xs = subst (λ (z : List ℕ). Starts p z) (sym nm) fs in
          record {
            whole = Q.whole;
            left = H.more;
            name = suc H.name;
            done = p ++ type_text O m H.x;
            read_all = Q.read_all;
            below = omega arith;
            in_v = entry_read;
            read = ap (λ (z : ℕ). entries_at l (n - (i + 1)) (suc H.name) (drop (at + name_width + z) s)) W.all ∙ H.second;
            sized = omega (arith, Q.sized, H.sized, W.all);
            text = append_assoc p (type_text O m H.x) (fields_text O m H.more) ∙ append_assoc Q.done name (type_text O m H.x ++ fields_text O m H.more)
                ∙ ap (λ (z : List ℕ). Q.done ++ z) (sym texts) ∙ Q.text;
            long = omega (arith, length-append p (type_text O m H.x), W.long);
            low = omega (arith, short, Q.low);
            apt = apt.1;
            room = Q.room;
            spared = Q.spared;
            small = Q.small;
            out_len = same_len_mid (to + name_width) (length xs - (to + name_width)) xs ys W.kept ∙ name_len xs named ∙ Q.out_len;
            spare_len = k ∙ Q.spare_len;
            state = lent_starts p (type_text O m H.x) xs ys (to + name_width) sx lp W.out;
          }

    -- the short way past a leaf
    pub entry_some : 0 < length (behind (at + name_width) s)
    entry_some = some_byte l (behind (at + name_width) s) H.x (entry_behind H)

    pub entry_byte : at + name_width < length s
    entry_byte = omega (arith, entry_some, length_rest s (at + name_width))

    module _ (xs : List ℕ) (named : xs ≡ over to (bytes name_width (num_at name_width at s)) out) where
      abbrev fits : FitVal O m (value_at l (behind (at + name_width) s)) (length (behind (to + name_width) xs)) (length spare)
      fits = entry_fits xs (name_len xs named)

      pub entry_free : to + name_width < length xs
      entry_free = plain_free O m l s (at + name_width) xs (to + name_width) spare fits bs

      -- b is the command of the leaf's type
      module _ (b : ℕ) (t : b ≡ leaf_type_command (get_or s (at + name_width) 0)) (k : ℕ) (P : Plain (get_or (behind (at + name_width) s) 0 0) k) where
        told : Typed size_val (type_text O m) (value_at l (behind (at + name_width) s)) (behind (to + name_width) xs) (set (behind (to + name_width) xs) 0 b) k 1
        told = plain_told O m l s (at + name_width) xs (to + name_width) spare fits bs b t k P

        pub entry_leaf_read : at + name_width + k ≤ length s
        entry_leaf_read = entry_read xs (set (behind (to + name_width) xs) 0 b) k 1 named told

        pub entry_leaf_wrote : to + name_width + 1 ≤ length s
        entry_leaf_wrote = entry_wrote xs (set (behind (to + name_width) xs) 0 b) k 1 named told

        pub entry_leaf : EntriesInv O m l s n old spare₀ (set xs (to + name_width) b) spare (at + name_width + k) (to + name_width + 1) (i + 1)
        entry_leaf =
            subst (λ (z : List ℕ). EntriesInv O m l s n old spare₀ z spare (at + name_width + k) (to + name_width + 1) (i + 1))
            (plain_put O m l s (at + name_width) xs (to + name_width) spare fits bs b)
            (entry_next xs (set (behind (to + name_width) xs) 0 b) k 1 named told spare refl)

  pub entries_done : n ≤ i → Typed size_entries (fields_text O m) (entries_at l n 0 s) old out at to
  entries_done h =
      let e : Q.left ≡ no_entries = none_left l i n at Q.name s Q.left h Q.read in
      let t : Q.done ≡ fields_text O m Q.whole =
      sym (append-nil Q.done) ∙ ap (λ (k : List ℕ). Q.done ++ k) (sym (ap (fields_text O m) e ∙ ap enc_fields (fields_none O m) ∙ enc_none)) ∙ Q.text in
      typed (entries_at l n 0 s) Q.whole old out at to Q.read_all
      (record {
        all = omega (arith, Q.sized, ap size_entries e, size_none);
        long = sym Q.long ∙ ap length t;
        out = subst (λ (k : List ℕ). Starts k out) t Q.state;
        kept = Q.out_len;
      })
