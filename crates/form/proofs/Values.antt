-- The laws of the byte form of values: accepted exactly when an encoding of a well-formed tree within the limits; equal bytes are equal values.
-- Idea: the laws of a whole (Accepted) at the reader of values (ExactValues).
-- Index: `AcceptedValue`, `value_accepted`, `value_accepts`, `value_exact` (acceptance); `enc_v_same`, `took_enc_v`, `read_inside_v`, `read_up_v` (bytes and trees);
-- `ValueTold`, `value_told` (the tree behind the code's answer).
-- Assumes nothing.
use Prim.Native.Nat.{ℕ, ◌+◌, ◌<◌, ◌≤◌}
use mathlib.Core.Path.{◌≡◌, ap}
use mathlib.Core.Logic.{◌↔◌}
use mathlib.Core.List.{List, [], ◌++◌}
use native.Mathlib.Omega.{arith}
use lib.ListN.{length, take}
use lib.Seq.{take-append_seam}
use Rattle.form.specs.Trees.{l_null, l_boolean, l_number, l_decimal, l_string, l_temporal, Val, v_leaf, v_range, v_list, v_context, v_function, v_built_in, v_type, v_irrelevant}
use Rattle.form.specs.Limits.{value_levels, value_refusals}
use Rattle.form.specs.Outcome.{done}
use Rattle.form.specs.Form.{Bytes, enc_leaf, enc_v, level_v, WfV}
use Rattle.form.specs.Read.{got, read_v, read_value, check_value}
use Rattle.form.proofs.Exact.{found_inside}
use Rattle.form.proofs.ExactValues.{read_enc_v, enc_read_v}
use Rattle.form.specs.ByteForm.{Accepted}
use Rattle.form.proofs.Accepted.{whole_accepted, whole_accepts, read_same, level_told}

pub enc_v_some : (v : Val) → 0 < length (enc_v v)
unfolding enc_v enc_leaf
enc_v_some (v_leaf (l_null t)) = omega arith
enc_v_some (v_leaf (l_boolean b)) = omega arith
enc_v_some (v_leaf (l_number k)) = omega arith
enc_v_some (v_leaf (l_decimal k p)) = omega arith
enc_v_some (v_leaf (l_string n)) = omega arith
enc_v_some (v_leaf (l_temporal t k)) = omega arith
enc_v_some (v_range i j v w) = omega arith
enc_v_some (v_list vs) = omega arith
enc_v_some (v_context es) = omega arith
enc_v_some (v_function ps b t) = omega arith
enc_v_some (v_built_in n) = omega arith
enc_v_some (v_type t) = omega arith
enc_v_some v_irrelevant = omega arith

-- a value is accepted exactly when it is the encoding of a well-formed tree of level at most 31 and at most 16,384 bytes
abbrev pub AcceptedValue : List ℕ → Val → Type 0
AcceptedValue s v = Accepted enc_v WfV level_v value_levels s v

pub value_accepted : (s : List ℕ) → Bytes s → (v : Val) → read_value s ≡ done v → AcceptedValue s v
value_accepted s bs v e = whole_accepted enc_v WfV level_v value_refusals value_levels (read_v value_levels) (enc_read_v value_levels) s bs v e

pub value_accepts : (s : List ℕ) (v : Val) → AcceptedValue s v → read_value s ≡ done v
value_accepts s v A = whole_accepts enc_v WfV level_v value_refusals value_levels (read_v value_levels) (λ x g h r. read_enc_v x value_levels r g h) enc_v_some s v A

pub value_exact : (s : List ℕ) → Bytes s → (v : Val) → (read_value s ≡ done v) ↔ AcceptedValue s v
value_exact s bs v = (value_accepted s bs v, value_accepts s v)

-- equal bytes, equal values
pub enc_v_same : (v w : Val) → WfV v → WfV w → enc_v v ≡ enc_v w → v ≡ w
enc_v_same v w g h e =
    let l = level_v v + level_v w in
    read_same (read_v l) (enc_v v ++ []) (enc_v w ++ []) v w (length (enc_v v)) (length (enc_v w)) (ap (λ (r : List ℕ). r ++ []) e) (read_enc_v v l [] g (omega arith))
    (read_enc_v w l [] h (omega arith))

-- the bytes that were taken are the tree's
pub took_enc_v : (l : ℕ) (s : List ℕ) → Bytes s → (v : Val) (n : ℕ) → read_v l s ≡ got v n → take n s ≡ enc_v v
took_enc_v l s bs v n e = let F = enc_read_v l s bs v n e in rw (F.took, F.bytes) (take-append_seam (enc_v v) F.rest)

-- a value ends within the bytes
pub read_inside_v : (l : ℕ) (s : List ℕ) → Bytes s → (v : Val) (n : ℕ) → read_v l s ≡ got v n → n ≤ length s
read_inside_v l s bs v n e = found_inside (enc_read_v l s bs v n e)

-- with more levels left the same is read
pub read_up_v : (l k : ℕ) (s : List ℕ) → Bytes s → (v : Val) (n : ℕ) → l ≤ k → read_v l s ≡ got v n → read_v k s ≡ got v n
read_up_v l k s bs v n h e =
    let F = enc_read_v l s bs v n e in
    let f = F.low in
    rw (F.took, F.bytes) (read_enc_v v k F.rest F.well (omega arith))

-- ---- what a caller has from the code's answer: the tree
pub record ValueTold (s : List ℕ) (n : ℕ) : Type 0 where
  pub tree : Val
  pub reads : read_value s ≡ done tree
  pub accepted : AcceptedValue s tree
  pub deep : level_v tree ≡ n

pub value_told : (s : List ℕ) → Bytes s → (n : ℕ) → check_value s ≡ done n → ValueTold s n
unfolding check_value
value_told s bs n e = level_told level_v (read_value s) n e (λ v r d. record { tree = v; reads = r; accepted = value_accepted s bs v r; deep = d })
