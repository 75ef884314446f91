-- The public calls: what the readers' answers say, and a whole value for the laws of a call over two arguments.
-- Index: `value_refused`, `value_accepted`, `Holds` (the reader's answer); `whole_value` (for the laws of TwoArguments in crate `types`); `passed`, `Passed`, `not_held` (a yes and a no of the call).
-- Assumes nothing.
use Prim.Native.Nat.{ℕ}
use mathlib.Core.Path.{◌≡◌, sym}
use mathlib.Core.Option.{some}
use mathlib.Core.List.{List}
use native.Mathlib.Omega.{arith}
use lib.ListN.{length}
use Rattle.form.specs.Trees.{Val}
use Rattle.form.specs.Limits.{type_levels, value_levels, value_refusals}
use Rattle.form.specs.Outcome.{done, refused}
use Rattle.form.specs.Form.{Bytes, level_v}
use Rattle.form.specs.Read.{read_v, read_value, check_value, read_type}
use Rattle.form.proofs.Accepted.{whole_got, level_told, level_refused}
use Rattle.form.proofs.Nodes.{value_read}
use Rattle.form.proofs.Values.{read_up_v}
use Rattle.order.specs.Size.{size_val}
use Rattle.order.proofs.Size.{size_val_positive}
use Rattle.types.proofs.Reading.{got_seen}
use Rattle.types.proofs.TwoArguments.{Whole, whole_by, fails, agree}
use Rattle.values.specs.At.{value_at}
use Rattle.values.proofs.Reading.{value_told}
use mathlib.Core.Bool.{true, false}
use Rattle.order.specs.Inferred.{value_conforms_to}
use Rattle.types.specs.Calls.{is_yes}
use Rattle.values.specs.Calls.{is_conformant_by, is_conformant, Accepted}

-- ---- what a reader's answer says
pub value_refused : (s : List ℕ) (n : ℕ) → refused n ≡ check_value s → read_value s ≡ refused n
unfolding check_value
value_refused s n e = level_refused level_v (read_value s) n (sym e)

-- the value, which also stands there with the levels of a type
pub record Holds (s : List ℕ) : Type 0 where
  pub v : Val
  pub whole : read_value s ≡ done v
  pub stands : value_at type_levels s ≡ some v

pub value_accepted : (s : List ℕ) → Bytes s → (n : ℕ) → done n ≡ check_value s → Holds s
unfolding check_value value_at
value_accepted s bs n e =
    level_told level_v (read_value s) n (sym e) (λ v r d.
    record {
      v = v;
      whole = r;
      stands = got_seen (read_v type_levels s) v (length s) (read_up_v value_levels type_levels s bs v (length s) (omega arith)
          (whole_got value_refusals (read_v value_levels) s v r));
    })

-- ---- a whole value: what the reader accepts stands at the front and takes all bytes
pub whole_value : Whole size_val (value_at value_levels) read_value
unfolding value_at
whole_value = whole_by size_val (read_v value_levels) value_refusals size_val_positive (λ s v n e. ((value_told value_levels s v n e).sized, (value_read value_levels s v n e).some_byte))

-- both were accepted, and the call says no
pub not_held : (t v : List ℕ) (A : Accepted t v) → false ≡ is_yes (is_conformant v t) → value_conforms_to A.value A.type ≡ false
unfolding is_conformant_by
not_held t v A e = fails value_conforms_to (read_type t) A.read_v_lem A.read_t_lem e

-- both were accepted, and the value conforms
pub record Passed (t v : List ℕ) : Type 0 where
  pub both : Accepted t v
  pub holds : value_conforms_to both.value both.type ≡ true

pub passed : (t v : List ℕ) → Bytes t → Bytes v → true ≡ is_yes (is_conformant v t) → Passed t v
unfolding is_conformant_by
passed t v bt bv e =
    let G = agree value_conforms_to (read_value v) (read_type t) e in
    record { both = record { bytes_t = bt; bytes_v = bv; type = G.y; value = G.x; read_t_lem = G.second; read_v_lem = G.first }; holds = G.holds }
