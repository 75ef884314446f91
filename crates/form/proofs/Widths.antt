-- The statements of `specs/Widths.antt` hold (`widths`).
-- Idea: the table by one test over all bytes, which is computed; encodings by cases on the tree; what is read by cases on the reader's nodes.
-- Index: `as_table` (the old table); `value_parts`, `value_width`, `type_parts`, `type_width` (encodings); `value_behind`, `type_behind` (what is read, by its node); `widths` (all).
-- Assumes nothing.
use Prim.Native.Nat.{ℕ, zero, suc, ◌+◌, ◌-◌, ◌<◌, ◌≤◌}
use mathlib.Core.Path.{◌≡◌, refl, sym, ap, ◌∙◌}
use mathlib.Core.Bool.{Bool, true, false}
use mathlib.Core.List.{List, [], ◌∷◌, ◌++◌, append-nil, append_assoc}
use native.Mathlib.Omega.{arith}
use lib.Dec.{eqb, ltb, eqb→eq}
use lib.ListN.{length, get_or, drop, get_or-eq_default}
use lib.Seq.{drop-append_seam}
use borrow.Author.Tests.{ltb-true, ltb-false}
use Rattle.form.specs.Limits.{name_width}
use Rattle.form.specs.Trees.{Ty, leaf, built, list, range, context, function, code, decode}
use Rattle.form.specs.Trees.{Leaf, l_null, l_boolean, l_number, l_decimal, l_string, l_temporal, code_temporal, decode_temporal}
use Rattle.form.specs.Trees.{no_fields, field, no_params, param, no_parameters, parameter, no_items, item, no_entries, entry}
use Rattle.form.specs.Trees.{Val, v_leaf, v_range, v_list, v_context, v_function, v_built_in, v_type, v_irrelevant, is_data_leaf}
use Rattle.form.specs.Form.{bytes, num_at, enc, enc_leaf, enc_v, count_fields, count_tys, count_params, count_vals, count_entries}
use Rattle.form.specs.Layout.{ValueKind, no_command, kind_of, operands, operands_v, operands_t, no_width, width_of, is_leaf_command}
use Rattle.form.specs.Faults.{Shape}
use Rattle.form.specs.Read.{Got, got, bad, front, and_then, read_run, read_named, ascending, any_order, read_t, read_v, step_t, step_v}
use Rattle.form.specs.Widths.{old_widths, table_width, leaf_command, command, leaf_operands, operand_bytes, child_bytes, read_children}
use Rattle.form.specs.Widths.{command_t, operand_bytes_t, child_bytes_t, read_children_t, Behind, Widths}
use Rattle.form.proofs.Table.{between}
use Rattle.form.proofs.First.{length_front}
use Rattle.form.proofs.Numbers.{length_bytes}
use Rattle.form.proofs.CommandKinds.{width_is, width_beyond, range_width, width_none, key_width, leaf_low}
use Rattle.form.proofs.Exact.{got_parts}
use Rattle.form.proofs.ExactTypes.{enc_read, code_small, code_decode}
use Rattle.form.proofs.ExactValues.{enc_read_v, code_small_temporal}
use Rattle.form.proofs.ExactValues as values
use Rattle.form.proofs.TypeLaws as type-laws
use Rattle.form.proofs.ValueLaws as value-laws
use Rattle.form.proofs.Nodes.{item_parts, named_parts, NodeT, n_simple, n_list, n_range, n_context, n_function, type_read}
use Rattle.form.proofs.Nodes.{NodeV, n_null, n_boolean, n_number, n_string, n_temporal, n_range_v, n_list_v, n_context_v, n_definition, n_built_in, n_type, n_irrelevant, n_decimal, value_read}

-- ---- the old table
same : ℕ → Bool
same b = eqb (width_of b) (table_width b)

-- the 256 bytes, one after the other
byte_widths : (b : ℕ) → b < 256 → width_of b ≡ table_width b
unfolding same width_of kind_of operands operands_v operands_t table_width old_widths
byte_widths b h = eqb→eq (width_of b) (table_width b) (between same 0 256 tt b (omega arith) (omega arith))

-- no number beyond is a command
pub as_table : (b : ℕ) → width_of b ≡ table_width b
unfolding table_width old_widths
as_table b = go (ltb b 256) refl
  where
    go : (q : Bool) → ltb b 256 ≡ q → width_of b ≡ table_width b
    go true e = byte_widths b (ltb-true b 256 e)
    go false e = let h = ltb-false b 256 e in width_beyond b (omega arith) ∙ sym (get_or-eq_default old_widths 255 {n = b} (omega arith))

none_exact : (b : ℕ) → (width_of b ≡ no_width → kind_of b ≡ no_command) × (kind_of b ≡ no_command → width_of b ≡ no_width)
unfolding operands
none_exact b = (width_none b, width_is b no_command)

-- ---- leaves of data
leaf_exact : (x : Leaf) → is_leaf_command (leaf_command x) ≡ true
leaf_exact (l_null t) = refl
leaf_exact (l_boolean b) = refl
leaf_exact (l_number k) = refl
leaf_exact (l_decimal k p) = refl
leaf_exact (l_string n) = refl
leaf_exact (l_temporal t k) = let h = code_small_temporal t in leaf_low (0x04 + code_temporal t) (omega arith)

leaves_exact : (v : Val) → is_leaf_command (command v) ≡ is_data_leaf v
leaves_exact (v_leaf x) = leaf_exact x
leaves_exact (v_range i j v w) = refl
leaves_exact (v_list vs) = refl
leaves_exact (v_context es) = refl
leaves_exact (v_function ps b r) = refl
leaves_exact (v_built_in n) = refl
leaves_exact (v_type t) = refl
leaves_exact v_irrelevant = refl

-- ---- the encodings in three parts
leaf_parts : (x : Leaf) → enc_leaf x ≡ leaf_command x ∷ (leaf_operands x ++ [])
unfolding enc_leaf leaf_operands
leaf_parts (l_null t) = refl
leaf_parts (l_boolean b) = refl
leaf_parts (l_number k) = ap (λ (r : List ℕ). 0x02 ∷ r) (sym (append-nil (bytes 8 k)))
leaf_parts (l_decimal k p) = ap (λ (r : List ℕ). 0x10 ∷ r) (sym (append-nil (bytes 8 k ++ (p ∷ []))))
leaf_parts (l_string n) = ap (λ (r : List ℕ). 0x03 ∷ r) (sym (append-nil (bytes name_width n)))
leaf_parts (l_temporal t k) = ap (λ (r : List ℕ). (0x04 + code_temporal t) ∷ r) (sym (append-nil (bytes 8 k)))

pub value_parts : (v : Val) → enc_v v ≡ command v ∷ (operand_bytes v ++ child_bytes v)
unfolding enc_v operand_bytes child_bytes
value_parts (v_leaf x) = leaf_parts x
value_parts (v_range i j v w) = refl
value_parts (v_list vs) = refl
value_parts (v_context es) = refl
value_parts (v_function ps b r) = refl
value_parts (v_built_in n) = refl
value_parts (v_type t) = refl
value_parts v_irrelevant = refl

leaf_width : (x : Leaf) → length (leaf_operands x) ≡ width_of (leaf_command x)
unfolding leaf_operands width_of kind_of operands operands_v
leaf_width (l_null t) = refl
leaf_width (l_boolean b) = refl
leaf_width (l_number k) = length_bytes 8 k
leaf_width (l_decimal k p) = length_front 8 k (p ∷ [])
leaf_width (l_string n) = length_bytes name_width n
leaf_width (l_temporal t k) = let h = code_small_temporal t in length_bytes 8 k ∙ sym (key_width (0x04 + code_temporal t) (omega arith) (omega arith))

pub value_width : (v : Val) → length (operand_bytes v) ≡ width_of (command v)
unfolding operand_bytes width_of kind_of operands operands_v
value_width (v_leaf x) = leaf_width x
value_width (v_range i j v w) = refl
value_width (v_list vs) = length_bytes 2 (count_vals vs)
value_width (v_context es) = length_bytes 2 (count_entries es)
value_width (v_function ps b r) = ap suc (length_bytes 2 b)
value_width (v_built_in n) = refl
value_width (v_type t) = refl
value_width v_irrelevant = refl

pub type_parts : (t : Ty) → enc t ≡ command_t t ∷ (operand_bytes_t t ++ child_bytes_t t)
unfolding enc operand_bytes_t child_bytes_t
type_parts (leaf s) = refl
type_parts (built (list t)) = refl
type_parts (built (range t)) = refl
type_parts (built (context fs)) = refl
type_parts (built (function ts t)) = refl

simple_width : (b : ℕ) → 0x20 ≤ b → b < 0x2A → width_of b ≡ 0
unfolding width_of kind_of operands operands_t
simple_width b h i = range_width 0x20 10 0 tt b h i

pub type_width : (t : Ty) → length (operand_bytes_t t) ≡ width_of (command_t t)
unfolding operand_bytes_t width_of kind_of operands operands_t
type_width (leaf s) = let h = code_small s in sym (simple_width (0x20 + code s) (omega arith) (omega arith))
type_width (built (list t)) = refl
type_width (built (range t)) = refl
type_width (built (context fs)) = length_bytes 2 (count_fields fs)
type_width (built (function ts t)) = refl

-- from the parts: what stands behind the operands
behind_operands : (c : ℕ) (e o k : List ℕ) → e ≡ c ∷ (o ++ k) → length o ≡ width_of c → drop (1 + width_of (get_or e 0 0)) e ≡ k
behind_operands c e o k p q =
    let n : 1 + width_of c ≡ suc (length o) = omega arith in
    rw p (ap (λ (i : ℕ). drop i (c ∷ (o ++ k))) n ∙ drop-append_seam o k)

-- and what bytes were taken
taken_parts : (c n : ℕ) (s e o k r : List ℕ) → e ≡ c ∷ (o ++ k) → s ≡ e ++ r → n ≡ length e → s ≡ c ∷ (o ++ (k ++ drop n s))
taken_parts c n s e o k r p q m =
    let d : drop n s ≡ r = rw (q, m) (drop-append_seam e r) in
    q ∙ rw (d, p) (ap (λ (z : List ℕ). c ∷ z) (append_assoc o k r))

-- ---- what is read
-- a run has as many as were asked for
run_count : {X R : Type 0} (nil : R) (cons : X → R → R) (count : R → ℕ) → count nil ≡ 0 → ((x : X) (r : R) → count (cons x r) ≡ suc (count r)) → (child : List ℕ → Got X)
    → (c : ℕ) (s : List ℕ) (r : R) (n : ℕ) → read_run nil cons child c s ≡ got r n → count r ≡ c
unfolding read_run
run_count nil cons count z more child zero s r n e = got_parts nil r 0 n e (λ p q. ap count (sym p) ∙ z)
run_count nil cons count z more child (suc c) s r n e =
    item_parts nil cons child c s r n e (λ x m px y j py pz pn. ap count (sym pz) ∙ more x y ∙ ap suc (run_count nil cons count z more child c (drop m s) y j py))

named_count : {X R : Type 0} (nil : R) (cons : ℕ → X → R → R) (next : ℕ → ℕ) (count : R → ℕ) → count nil ≡ 0 → ((m : ℕ) (x : X) (r : R) → count (cons m x r) ≡ suc (count r))
    → (child : List ℕ → Got X) (c least : ℕ) (s : List ℕ) (r : R) (n : ℕ) → read_named nil cons next child c least s ≡ got r n → count r ≡ c
unfolding read_named
named_count nil cons next count z more child zero least s r n e = got_parts nil r 0 n e (λ p q. ap count (sym p) ∙ z)
named_count nil cons next count z more child (suc c) least s r n e =
    named_parts nil cons next child c least s r n e (λ h k x m px y j py pz pn. ap count (sym pz) ∙ more _ x y ∙ ap suc (named_count nil cons next count z more child c _ _ y j py))

-- from the width w of the command c
behind : {X : Type 0} (c w : ℕ) (children : List ℕ → Got X) (s : List ℕ) (x : X) (rest n : ℕ) → get_or s 0 0 ≡ c → width_of c ≡ w → 1 + w ≤ length s
    → children (drop (1 + w) s) ≡ got x rest → n ≡ 1 + w + rest → Behind c children s x n
behind c w children s x rest n p q h r t =
    let e : width_of (get_or s 0 0) ≡ w = ap width_of p ∙ q in
    record { first = p; there = rw e h; rest = rest; read = rw e r; took = rw e t }

pub type_behind : (l : ℕ) (s : List ℕ) → 0 < length s → (t : Ty) (n : ℕ) → NodeT l s t n → Behind (command_t t) (read_children_t l t) s t n
unfolding read_children_t front and_then count_fields count_tys width_of kind_of operands operands_t
type_behind l s h t n (n_simple p q) =
    let c : get_or s 0 0 ≡ 0x20 + code (decode (get_or s 0 0 - 0x20)) = omega (arith, code_decode (get_or s 0 0 - 0x20) (omega arith)) in
    behind (0x20 + code (decode (get_or s 0 0 - 0x20))) 0 _ s t 0 1 c (simple_width (0x20 + code (decode (get_or s 0 0 - 0x20))) (omega arith) (omega arith)) h refl refl
type_behind l s h t n (n_list c u m e) = behind 0x2A 0 _ s t (0 + m) n c refl h (rw e) (omega arith)
type_behind l s h t n (n_range c u m e) = behind 0x2B 0 _ s t (0 + m) n c refl h (rw e) (omega arith)
type_behind l s h t n (n_context c k fs m e) =
    behind 0x2C 2 _ s t (0 + m) n c refl k (rw (named_count no_fields field ascending count_fields refl (λ x y z. refl) (read_t l) (num_at 2 1 s) 0 (drop 3 s) fs m e, e)) (omega arith)
type_behind l s h t n (n_function c k ts m e u j f) =
    behind 0x2D 1 _ s t (0 + m + j) n c refl k (rw (run_count no_params param count_tys refl (λ x y. refl) (read_t l) (get_or s 1 0) (drop 2 s) ts m e, e, f)) (omega arith)

pub value_behind : {j : ValueKind} (l : ℕ) (s : List ℕ) → 0 < length s → (v : Val) (n : ℕ) → NodeV l s j v n → Behind (command v) (read_children l v) s v n
unfolding read_children front and_then count_vals count_entries count_params width_of kind_of operands operands_v
value_behind l s h v n (n_null c k x) = behind 0x00 1 _ s v 0 2 c refl k refl refl
value_behind l s h v n (n_boolean c k x) = behind 0x01 1 _ s v 0 2 c refl k refl refl
value_behind l s h v n (n_number c k) = behind 0x02 8 _ s v 0 9 c refl k refl refl
value_behind l s h v n (n_string c k) = behind 0x03 name_width _ s v 0 (1 + name_width) c refl k refl refl
value_behind l s h v n (n_temporal p q k) =
    let c : get_or s 0 0 ≡ 0x04 + code_temporal (decode_temporal (get_or s 0 0 - 0x04)) = omega (arith, values.code_decode (get_or s 0 0 - 0x04) (omega arith)) in
    behind (0x04 + code_temporal (decode_temporal (get_or s 0 0 - 0x04))) 8 _ s v 0 9 c (key_width (0x04 + code_temporal (decode_temporal (get_or s 0 0 - 0x04))) (omega arith)
    (omega arith)) k refl refl
value_behind l s h v n (n_range_v c k x y a m e b j f) = behind 0x09 2 _ s v (0 + m + j) n c refl k (rw (e, f)) (omega arith)
value_behind l s h v n (n_list_v c k vs m e) =
    behind 0x0A 2 _ s v (0 + m) n c refl k (rw (run_count no_items item count_vals refl (λ x y. refl) (read_v l) (num_at 2 1 s) (drop 3 s) vs m e, e)) (omega arith)
value_behind l s h v n (n_context_v c k es m e) =
    behind 0x0B 2 _ s v (0 + m) n c refl k (rw (named_count no_entries entry ascending count_entries refl (λ x y z. refl) (read_v l) (num_at 2 1 s) 0 (drop 3 s) es m e, e)) (omega arith)
value_behind l s h v n (n_definition c k t m e ps j f) =
    behind 0x0C 3 _ s v (0 + m + j) n c refl k
    (rw (named_count no_parameters parameter any_order count_params refl (λ x y z. refl) (read_t l) (get_or s 1 0) 0 (drop m (drop 4 s)) ps j f, e, f)) (omega arith)
value_behind l s h v n (n_built_in c k x) = behind 0x0D 1 _ s v 0 2 c refl k refl refl
value_behind l s h v n (n_type c t m e) = behind 0x0E 0 _ s v (0 + m) n c refl h (rw e) (omega arith)
value_behind l s h v n (n_irrelevant c) = behind 0x0F 0 _ s v 0 1 c refl h refl refl
value_behind l s h v n (n_decimal c k x) = behind 0x10 9 _ s v 0 10 c refl k refl refl

-- ---- what is refused
value_short : (l b : ℕ) (s : List ℕ) → length s < width_of b → read_v (suc l) (b ∷ s) ≡ bad Shape
unfolding read_v width_of
value_short l b s h = value-laws.step_short (read_v l) (read_t l) (kind_of b) b s h

type_short : (l b : ℕ) (s : List ℕ) → length s < width_of b → read_t (suc l) (b ∷ s) ≡ bad Shape
unfolding read_t width_of
type_short l b s h = type-laws.step_short (read_t l) (kind_of b) b s h

value_none : (l b : ℕ) (s : List ℕ) → width_of b ≡ no_width → read_v (suc l) (b ∷ s) ≡ bad Shape
unfolding read_v step_v
value_none l b s e = rw (width_none b e)

type_none : (l b : ℕ) (s : List ℕ) → width_of b ≡ no_width → read_t (suc l) (b ∷ s) ≡ bad Shape
unfolding read_t step_t
type_none l b s e = rw (width_none b e)

-- ---- all
pub widths : Widths
widths = record {
  as_table = as_table;
  none_exact = none_exact;
  leaves_exact = leaves_exact;
  value_parts = value_parts;
  value_width = value_width;
  value_behind = λ v. behind_operands (command v) (enc_v v) (operand_bytes v) (child_bytes v) (value_parts v) (value_width v);
  type_parts = type_parts;
  type_width = type_width;
  type_behind = λ t. behind_operands (command_t t) (enc t) (operand_bytes_t t) (child_bytes_t t) (type_parts t) (type_width t);
  value_read = λ l s v n e. let R = value_read l s v n e in value_behind (l - 1) s R.some_byte v n R.node;
  type_read = λ l s t n e. let R = type_read l s t n e in type_behind (l - 1) s R.some_byte t n R.node;
  value_taken = λ l s bs v n e. let F = enc_read_v l s bs v n e in taken_parts (command v) n s (enc_v v) (operand_bytes v) (child_bytes v) F.rest (value_parts v) F.bytes F.took;
  type_taken = λ l s bs t n e. let F = enc_read l s bs t n e in taken_parts (command_t t) n s (enc t) (operand_bytes_t t) (child_bytes_t t) F.rest (type_parts t) F.bytes F.took;
  value_short = value_short;
  type_short = type_short;
  value_none = value_none;
  type_none = type_none;
}
