-- What the builders of a common supertype (`up`) or subtype (`down`) ask and leave: of two types, of the entries of two contexts,
-- of two functions.
-- Assumes nothing.
use Rattle.std.specs.Prelude.{◌≡◌, List, ◌++◌, ℕ, ◌≤◌}
use Rattle.std.proofs.Math.Option.{Option, some}
use Rattle.form.specs.Trees.{Ty, Fields, no_fields}
use Rattle.form.specs.Form.{enc, enc_fields, enc_tys, count_fields}
use Rattle.form.specs.Answers.{onto}
use Rattle.form.specs.Options.{WhereBoth}
use Rattle.order.specs.Order.{Dir, flip, pick, Order}
use Rattle.order.specs.Types.{reduce, reduce_fields, reduce_tys, bound, bounds, intersect_with, merge}
use Rattle.order.specs.Size.{size, size_fields}
use Rattle.types.specs.At.{Sig, sig, size_sig}

-- ---- the answers under an order
abbrev pub answer : Order → Dir → Ty → Ty → Ty
answer O d t u = reduce O (bound O d t u)

abbrev pub answer_fields : Order → Dir → Fields → Fields → Fields
answer_fields O d fs gs = reduce_fields O (pick d (intersect_with O fs gs) (merge O fs gs))

unfoldable pub answer_sig : Order → Dir → Sig → Sig → Sig
answer_sig O d (sig ps r) (sig qs s) = sig (reduce_tys O (bounds O (flip d) ps qs)) (answer O d r s)

unfoldable pub enc_sig : Sig → List ℕ
enc_sig (sig ps r) = enc_tys ps ++ enc r

-- ---- a way to take two things together: the answer, its size, its bytes
pub record Joining (X : Type 0) : Type 0 where
  pub join : X → X → X
  pub sized : X → ℕ
  pub text : X → List ℕ

abbrev pub of_types : Order → Dir → Joining Ty
of_types O d = record { join = answer O d; sized = size; text = enc }

abbrev pub of_fields : Order → Dir → Joining Fields
of_fields O d = record { join = answer_fields O d; sized = size_fields; text = enc_fields }

abbrev pub of_sigs : Order → Dir → Joining Sig
of_sigs O d = record { join = answer_sig O d; sized = size_sig; text = enc_sig }

-- what the builders ask of an answer: fewer bytes than 16 bits count, so that its names do too (of two accepted types it has at most 32,768)
abbrev pub most_answer : ℕ
most_answer = 65535

-- both are there, and the answer has room
unfoldable pub Ready : {X : Type 0} → Joining X → Option X → Option X → ℕ → Type 0
Ready J x y n = WhereBoth ⊥ (λ t u. (J.sized (J.join t u) ≤ n) × (J.sized (J.join t u) ≤ most_answer)) x y

-- `first` and `second` bytes were read of the two, and the answer's `wrote` bytes are over the front of the output
pub record Wrote {X : Type 0} (J : Joining X) (t u : X) (old new : List ℕ) (first second wrote : ℕ) : Type 0 where
  pub one : first ≡ J.sized t
  pub two : second ≡ J.sized u
  pub long : wrote ≡ J.sized (J.join t u)
  pub out : new ≡ onto (J.text (J.join t u)) old

unfoldable pub Combined : {X : Type 0} → Joining X → Option X → Option X → List ℕ → List ℕ → ℕ → ℕ → ℕ → Type 0
Combined J x y old new first second wrote = WhereBoth (Unit {0}) (λ t u. Wrote J t u old new first second wrote) x y

-- so many entries
unfoldable pub Counted : Order → Dir → Option Fields → Option Fields → ℕ → Type 0
Counted O d x y n = WhereBoth (Unit {0}) (λ fs gs. n ≡ count_fields (answer_fields O d fs gs)) x y

-- the entries of a context that has none (left)
abbrev pub no_entry : Option Fields
no_entry = some no_fields
