-- Every answer is below 2^32 (`low_word`): what is read is short, and what is made of it is bounded by it.
-- Idea: a bound on each answer is carried along the lines of its call's definition.
-- Assumes nothing.
use Prim.Native.Nat.{ℕ, zero, suc, ◌+◌, ◌*◌, ◌<◌, ◌≤◌}
use native.Mathlib.Omega.{arith}
use mathlib.Core.Path.{◌≡◌, refl, sym, ap, ◌∙◌}
use mathlib.Core.Bool.{Bool, true, false, ◌||◌, cond}
use mathlib.Core.Option.{Option, none, some}
use mathlib.Core.List.{List, [], ◌∷◌, ◌++◌}
use lib.ListN.{length, take, drop, length-append, length-drop}
use lib.Seq.{length-take-le}
use lib.Dec.{leb, eqb}
use borrow.Author.Tests.{leb-true}
use Rattle.form.specs.Limits.{most_names, most_bytes, value_levels}
use Rattle.form.specs.Form.{Bytes, enc, enc_v, level_v, count_entries}
use Rattle.form.specs.Trees.{Simple, any, boolean, number, string, date, time, date_time, days_and_time, years_and_months, null}
use Rattle.form.specs.Trees.{Ty, leaf, built, function, no_params, param, Val, v_context, Entries}
use Rattle.form.specs.Outcome.{Outcome, done, refused, ◌>>=◌, ◌>>◌, pick, check, or_refuse, fits}
use Rattle.form.specs.Answers.{length_of}
use Rattle.form.specs.Read.{read_value, read_type}
use Rattle.form.proofs.Accepted.{refused_done}
use Rattle.form.proofs.Values.{value_accepted, value_told}
use Rattle.form.proofs.Types.{type_accepted, type_told}
use Rattle.order.specs.Order.{Dir, up, down, Order, fixed, strict_order}
use Rattle.order.specs.Order as order
use Rattle.order.specs.Types.{sup, sub}
use Rattle.order.specs.Document.{reduced_form}
use Rattle.order.specs.Values.{least}
use Rattle.order.specs.Inferred.{type_of}
use Rattle.order.specs.Size.{size, size_val}
use Rattle.order.proofs.Simple.{and_left}
use Rattle.order.proofs.Size.{length_enc, size_sup, size_sub, size_reduce}
use Rattle.order.proofs.LeastSize.{length_enc_v, size_least}
use Rattle.order.proofs.TypeOf.{size_type_of}
use Rattle.order.proofs.WellFormed.{asc_of}
use Rattle.form.proofs.Options.{none_some}
use Rattle.bounds.specs.Calls.{combined, reduced_call}
use Rattle.infer.specs.Calls.{least_type_by, type_of_call}
use Rattle.retrieval.specs.Calls.{get_value_checked_call, get_conformant_value_call}
use Rattle.coercion.specs.Calls.{coerced_call}
use Rattle.ranges.specs.Calls.{bif_type_call}
use Rattle.paths.specs.Paths.{entries_of}
use Rattle.paths.specs.Places.{Piece, piece}
use Rattle.paths.specs.Calls.{context_of, len_call}
use Rattle.paths.proofs.Whole.{of_context}
use Rattle.updates.proofs.Formed.{count_size}
use Rattle.feel.specs.Numbers.{high, Halves}
use Rattle.feel.specs.LowWord.{Low, Short, Near, LowWord}
use Rattle.feel.proofs.PartPlaces.{halves_deep, halves_entry, halves_first}
use Rattle.output.specs.Result.{small, checked_result}
use Rattle.form.proofs.Options.{map_is}
use Rattle.names.specs.BuiltInNames.{command, from_str}
use Rattle.names.specs.Reader.{read_texts}
use Rattle.names.specs.Parts.{in_parts, counted_parts, read_parts}
use Rattle.names.specs.Calls.{name_new_call, trim_call, from_str_call}
use Rattle.names.proofs.Reader.{provided_got, end_none, read_zero, read_nil, texts_got}
use Rattle.names.proofs.NameNew.{trim_shorter, added_length}
use Rattle.display.specs.Texts.{text}
use Rattle.display.specs.Tables.{read_table}
use Rattle.display.specs.Calls.{display_call}
use Rattle.display.proofs.Texts.{text_most}
use Rattle.display.proofs.Marks.{table_named}
use Rattle.names.specs.Names.{trim, is_mark, added, pushed, name_new}

-- ---- along a definition
-- what is written has fewer bytes than 2^32
abbrev Written : Outcome (List ℕ) → Type 0
Written o = (bs : List ℕ) → o ≡ done bs → length bs < high 1

written_short : (o : Outcome (List ℕ)) → Written o → Short o
unfolding length_of ◌>>=◌
written_short (done bs) h n e = let z : length bs ≡ n = cc in omega (arith, h bs refl)
written_short (refused k) h n e = absurd (refused_done e)

after : {X : Type 0} (o : Outcome X) (f : X → Outcome (List ℕ)) → ((x : X) → o ≡ done x → Written (f x)) → Written (◌>>=◌ o f)
unfolding ◌>>=◌
after (done x) f h = h x refl
after (refused n) f h = λ bs e. absurd (refused_done e)

behind : {X : Type 0} (o : Outcome X) (m : Outcome (List ℕ)) → Written m → Written (◌>>◌ o m)
unfolding ◌>>◌
behind (done x) m h = h
behind (refused n) m h = λ bs e. absurd (refused_done e)

fitted : (room : ℕ) (s : List ℕ) → length s < high 1 → Written (fits room s)
fitted room s h = go (leb (length s) room)
  where
    go : (q : Bool) (bs : List ℕ) → pick q (done s) (refused 18) ≡ done bs → length bs < high 1
    go true bs e = let z : s ≡ bs = cc in omega (arith, ap length z)
    go false bs e = absurd (refused_done e)

given_some : {X : Type 0} (n : ℕ) (o : Option X) (x : X) → or_refuse n o ≡ done x → o ≡ some x
given_some n none x e = absurd (refused_done e)
given_some n (some y) x e = let z : y ≡ x = cc in ap some z

-- 17
resulted : (room : ℕ) (v : Val) → Written (checked_result room v)
unfolding ◌>>◌
resulted room v = go (small v) refl
  where
    go : (q : Bool) → small v ≡ q → Written (do check 17 q; fits room (enc_v v))
    go true e = fitted room (enc_v v) (omega (arith, leb-true (length (enc_v v)) most_bytes (and_left (leb (length (enc_v v)) most_bytes) (leb (level_v v) value_levels) e)))
    go false e = λ bs z. absurd (refused_done z)

-- ---- what was read
type_small : (t : List ℕ) (u : Ty) → Bytes t → read_type t ≡ done u → size u ≤ most_bytes
type_small t u bs e = let A = type_accepted t bs u e in omega (arith, A.short, ap length A.bytes, length_enc u)

value_small : (v : List ℕ) (w : Val) → Bytes v → read_value v ≡ done w → size_val w ≤ most_bytes
value_small v w bs e = let A = value_accepted v bs w e in omega (arith, A.short, ap length A.bytes, length_enc_v w)

type_fitted : (room : ℕ) (t : Ty) → size t ≤ 2 * most_bytes → Written (fits room (enc t))
type_fitted room t h = fitted room (enc t) (omega (arith, length_enc t))

-- ---- types
combined_written : (answer : Ty → Ty → Ty) → ((s t : Ty) → (a : List ℕ) → Bytes a → read_type a ≡ done s → size (answer s t) ≤ size s + size t)
    → (a b : List ℕ) (scratch room : ℕ) → Bytes a → Bytes b → Written (combined answer a b scratch room)
combined_written answer h a b scratch room ba bb =
    after (read_type a) _
    (λ s es. after (read_type b) _
    (λ t et. behind (check 14 (leb (length a + length b) scratch)) _ (type_fitted room (answer s t) (omega (arith, h s t a ba es, type_small a s ba es, type_small b t bb et)))))

reduced_written : (t : List ℕ) (room : ℕ) → Bytes t → Written (reduced_call t room)
reduced_written t room bs = after (read_type t) _ (λ u e. type_fitted room (reduced_form u) (omega (arith, size_reduce fixed u, type_small t u bs e)))

bound_written : (O : Order) (d : Dir) (a b : List ℕ) (scratch room : ℕ) → Bytes a → Bytes b → Written (combined (order.pick d (sup O) (sub O)) a b scratch room)
bound_written O up a b scratch room ba bb = combined_written (sup O) (λ s t x bx e. size_sup O s t (asc_of s (type_accepted x bx s e).well)) a b scratch room ba bb
bound_written O down a b scratch room ba bb = combined_written (sub O) (λ s t x bx e. size_sub O s t (asc_of s (type_accepted x bx s e).well)) a b scratch room ba bb

least_written : (O : Order) (v : List ℕ) (scratch room : ℕ) → Bytes v → Written (least_type_by O v scratch room)
unfolding least_type_by
least_written O v scratch room bs =
    after (read_value v) _ (λ w e. behind _ _ (behind _ _ (type_fitted room (least O w) (omega (arith, size_least O w (value_accepted v bs w e).well, value_small v w bs e)))))

type_of_written : (v : List ℕ) (scratch room : ℕ) → Bytes v → Written (type_of_call v scratch room)
unfolding type_of_call
type_of_written v scratch room bs = after (read_value v) _ (λ w e. behind _ _ (type_fitted room (type_of w) (omega (arith, size_type_of w, value_small v w bs e))))

bif_written : (b room : ℕ) → Written (bif_type_call b room)
unfolding size
bif_written b room = behind _ _ (go (eqb b 0 || eqb b 67))
  where
    go : (q : Bool) → Written (fits room (enc (cond q (built (function (param (leaf number) no_params) (leaf number))) (leaf any))))
    go true = type_fitted room (built (function (param (leaf number) no_params) (leaf number))) (omega arith)
    go false = type_fitted room (leaf any) (omega arith)

-- ---- values
checked_written : (t v : List ℕ) (room : ℕ) → Written (get_value_checked_call t v room)
unfolding get_value_checked_call
checked_written t v room = after (read_type t) _ (λ u e. after (read_value v) _ (λ w f. after _ _ (λ x g. resulted room x)))

conformant_written : (t v : List ℕ) (room : ℕ) → Written (get_conformant_value_call t v room)
unfolding get_conformant_value_call
conformant_written t v room = after (read_type t) _ (λ u e. after (read_value v) _ (λ w f. resulted room _))

coerced_written : (v t : List ℕ) (room : ℕ) → Written (coerced_call v t room)
unfolding coerced_call
coerced_written v t room = after (read_value v) _ (λ w e. after (read_type t) _ (λ u f. resulted room _))

-- ---- a name
-- the bytes of the parts with a length byte each
abbrev total : List (List ℕ) → ℕ
total [] = 0
total (p ∷ ps) = suc (length p) + total ps

parts_total : (before : Option (List ℕ)) (c : ℕ) (s : List ℕ) (ps : List (List ℕ)) → read_texts in_parts before c s ≡ some ps → total ps ≤ length s
parts_total before zero s ps e = omega (arith, ap total (end_none s ps (sym (read_zero in_parts before s) ∙ e)))
parts_total before (suc c) [] ps e = absurd (none_some (sym (read_nil in_parts before c) ∙ e))
parts_total before (suc c) (n ∷ s) ps e =
    let T = texts_got in_parts before c n s ps e in
    omega (arith, ap total T.is, length-take-le n s T.fits, T.fits, length-drop n s, parts_total (some (take n s)) c (drop n s) T.more T.next)

pushed_long : (i : ℕ) (b : Bool) (r : List ℕ) (ps : List (List ℕ)) → length (pushed i b r ps) ≤ length r + total ps
unfolding pushed
pushed_long i b r [] = omega arith
pushed_long i b r (p ∷ ps) =
    omega (
      arith,
      pushed_long (suc i) (is_mark (trim p)) (r ++ added i b (trim p)) ps,
      length-append r (added i b (trim p)),
      added_length i b (trim p),
      trim_shorter p,
    )

name_long : (s : List ℕ) (ps : List (List ℕ)) → read_parts s ≡ some ps → length (name_new ps) ≤ most_bytes
unfolding read_parts
name_long s ps e = let G = provided_got (leb (length s) most_bytes) (counted_parts s) ps e in go s (leb-true (length s) most_bytes G.0) G.1
  where
    go : (s : List ℕ) → length s ≤ most_bytes → counted_parts s ≡ some ps → length (name_new ps) ≤ most_bytes
    go [] k z = absurd (none_some z)
    go (a ∷ s) k z = omega (arith, pushed_long 0 false [] ps, parts_total none a s ps z)

-- ---- texts
display_written : (t table : List ℕ) (room : ℕ) → Bytes t → Written (display_call t table room)
unfolding display_call
display_written t table room bs =
    after (read_type t) _
    (λ u e. after (or_refuse 19 (read_table table)) _
    (λ ts f. after (or_refuse 20 (text ts u)) _
    (λ s g.
    fitted room s
    (omega (arith, text_most ts (table_named table ts (given_some 19 (read_table table) ts f)) u s (given_some 20 (text ts u) s g), type_small t u bs e)))))

name_written : (parts : List ℕ) (room : ℕ) → Written (name_new_call parts room)
unfolding name_new_call
name_written parts room = after (or_refuse 19 (read_parts parts)) _ (λ ps e. fitted room (name_new ps) (omega (arith, name_long parts ps (given_some 19 (read_parts parts) ps e))))

trim_written : (s : List ℕ) (room : ℕ) → Written (trim_call s room)
unfolding trim_call ◌>>◌
trim_written s room = go (leb (length s) most_bytes) refl
  where
    go : (q : Bool) → leb (length s) most_bytes ≡ q → Written (do check 19 q; fits room (trim s))
    go true e = fitted room (trim s) (omega (arith, leb-true (length s) most_bytes e, trim_shorter s))
    go false e = λ bs z. absurd (refused_done z)

-- ---- numbers that are no lengths
code_low : (x : Simple) → command x < high 1
code_low any = omega arith
code_low boolean = omega arith
code_low number = omega arith
code_low string = omega arith
code_low date = omega arith
code_low time = omega arith
code_low date_time = omega arith
code_low days_and_time = omega arith
code_low years_and_months = omega arith
code_low null = omega arith

known_low : (s : List ℕ) (c : ℕ) → from_str_call s ≡ some c → c < high 1
known_low s c e = let M = map_is command (from_str s) c e in omega (arith, M.2, code_low M.0)

near : (o : Outcome (Option Piece)) → Halves o → Near o
near (done none) h q e = absurd (let z : ◌≡◌ {A = ℕ} 0 1 = cc in omega arith)
near (done (some (piece p n))) h q e = omega (arith, h.0, h.1)
near (refused k) h q e = absurd (refused_done e)

len_low : (c : List ℕ) → Bytes c → Low (len_call c)
unfolding context_of ◌>>=◌ ◌>>◌ size_val
len_low c bs n e = go (read_value c) refl e
  where
    named : (v : Val) → read_value c ≡ done v → (o : Option Entries) → entries_of v ≡ o → (do es ← or_refuse 12 o; done (count_entries es)) ≡ done n → n < high 1
    named v r none q z = absurd (refused_done z)
    named v r (some es) q z =
        let k : count_entries es ≡ n = cc in
        omega (arith, count_size es, value_small c (v_context es) bs (r ∙ ap done (of_context v es q)))

    go : (o : Outcome Val) → read_value c ≡ o → (do es ← (do self ← o; check 11 (leb 0 most_names); or_refuse 12 (entries_of self)); done (count_entries es)) ≡ done n → n < high 1
    go (refused m) r z = absurd (refused_done z)
    go (done v) r z = named v r (entries_of v) refl z

pub low_word : LowWord
low_word = record {
  check_value_lem = λ v bs n e. let T = value_told v bs n e in omega (arith, T.deep, T.accepted.low);
  check_type_lem = λ t bs n e. let T = type_told t bs n e in omega (arith, T.deep, T.accepted.low);
  len = len_low;
  from_str_lem = known_low;
  search_deep = λ c p bs. near _ (halves_deep c p _ bs refl);
  get_entry = λ c n bs. near _ (halves_entry c n _ bs refl);
  get_first_lem = λ c bs. near _ (halves_first c _ bs refl);
  common_supertype_lem = λ a b scratch room ba bb. written_short _ (bound_written fixed up a b scratch room ba bb);
  common_subtype_lem = λ a b scratch room ba bb. written_short _ (bound_written fixed down a b scratch room ba bb);
  strict_common_supertype_lem = λ a b scratch room ba bb. written_short _ (bound_written strict_order up a b scratch room ba bb);
  strict_common_subtype_lem = λ a b scratch room ba bb. written_short _ (bound_written strict_order down a b scratch room ba bb);
  table_common_supertype_lem = λ table a b scratch room ba bb. written_short _ (after _ _ (λ O e. bound_written O up a b scratch room ba bb));
  table_common_subtype_lem = λ table a b scratch room ba bb. written_short _ (after _ _ (λ O e. bound_written O down a b scratch room ba bb));
  reduced = λ t room bs. written_short _ (reduced_written t room bs);
  least_type_lem = λ v scratch room bs. written_short _ (least_written fixed v scratch room bs);
  strict_least_type = λ v scratch room bs. written_short _ (least_written strict_order v scratch room bs);
  table_least_type = λ table v scratch room bs. written_short _ (after _ _ (λ O e. least_written O v scratch room bs));
  type_of_lem = λ v scratch room bs. written_short _ (type_of_written v scratch room bs);
  get_value_checked_lem = λ t v room. written_short _ (checked_written t v room);
  get_conformant_value_lem = λ t v room. written_short _ (conformant_written t v room);
  coerced = λ v t room. written_short _ (coerced_written v t room);
  bif_feel_type = λ b room. written_short _ (bif_written b room);
  create_entries = λ c p v room. written_short _ (after _ _ (λ g e. resulted room _));
  apply_entries = λ c p v room. written_short _ (after _ _ (λ g e. after _ _ (λ new f. resulted room _)));
  zip = λ c o room. written_short _ (after _ _ (λ two e. resulted room _));
  overwrite = λ c o room. written_short _ (after _ _ (λ two e. resulted room _));
  move_entry_lem = λ c n parent room. written_short _ (after _ _ (λ es e. resulted room _));
  set_entry_lem = λ c n v room. written_short _ (after _ _ (λ g e. resulted room _));
  remove_entry_lem = λ c n room. written_short _ (after _ _ (λ es e. resulted room _));
  set_null_lem = λ c n room. written_short _ (after _ _ (λ es e. resulted room _));
  display = λ t table room bs. written_short _ (display_written t table room bs);
  name_new_lem = λ parts room. written_short _ (name_written parts room);
  trim = λ s room. written_short _ (trim_written s room);
}
