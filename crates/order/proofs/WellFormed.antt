-- Well-formed types: their names ascend, and the answers of well-formed types are well-formed, as long as a count of names fits its 16 bits.
-- Idea: well-formed means ascending names and numbers that fit; a context has fewer names than bytes.
-- Index: `wf_sup`, `wf_sub` (answers); `asc_of`, `fits_of`, `wf_of`, `Fits` (well-formed in two parts).
-- Assumes nothing.
use Prim.Native.Nat.{ℕ, ◌+◌, ◌<◌, ◌≤◌}
use native.Mathlib.Omega.{arith}
use native.Mathlib.Numerals.{add-one}
use Rattle.form.specs.Trees.{Ty, leaf, built, Built, list, range, context, function, Fields, no_fields, field, Tys, no_params, param}
use Rattle.form.specs.Limits.{name_end}
use Rattle.form.specs.Form.{count_fields, Wf, WfBuilt, WfFields, WfTys}
use Rattle.order.specs.Order.{Order}
use Rattle.order.specs.Types.{sup, sub}
use Rattle.order.specs.Ascending.{Asc, AscBuilt, AscFields, AscTys}
use Rattle.order.specs.Size.{size, size_built, size_fields, size_tys}
use Rattle.order.proofs.Answers.{asc_sup, asc_sub}
use Rattle.order.proofs.Holds.{Holds, HoldsBuilt, HoldsFields, HoldsTys, holds_sup, holds_sub}
use Rattle.order.proofs.Size.{size_sup, size_sub}

mutual
  unfolding Wf Asc

  pub asc_of : (t : Ty) → Wf t → Asc t
  asc_of (leaf s) w = tt
  asc_of (built x) w = asc_built x w

  asc_built : (x : Built) → WfBuilt x → AscBuilt x
  asc_built (list t) w = asc_of t w
  asc_built (range t) w = asc_of t w
  asc_built (context fs) w = asc_fields fs 0 w.1
  asc_built (function ts t) w = (asc_tys ts w.1.0, asc_of t w.1.1)

  asc_fields : (fs : Fields) (k : ℕ) → WfFields fs k → AscFields fs k
  asc_fields no_fields k w = tt
  asc_fields (field m t fs) k w = (w.0, asc_of t w.1.1.0, rw add-one at (asc_fields fs (m + 1) w.1.1.1))

  asc_tys : (ts : Tys) → WfTys ts → AscTys ts
  asc_tys no_params w = tt
  asc_tys (param t ts) w = (asc_of t w.0, asc_tys ts w.1)

-- every name and every parameter count fits its place
abbrev pub Fits : Ty → Type 0
Fits t = Holds (λ n. n < name_end) (λ c. c < 256) t

mutual
  unfolding Wf Holds

  pub fits_of : (t : Ty) → Wf t → Fits t
  fits_of (leaf s) w = tt
  fits_of (built x) w = fits_built x w

  fits_built : (x : Built) → WfBuilt x → HoldsBuilt (λ n. n < name_end) (λ c. c < 256) x
  fits_built (list t) w = fits_of t w
  fits_built (range t) w = fits_of t w
  fits_built (context fs) w = fits_fields fs 0 w.1
  fits_built (function ts t) w = (w.0, fits_tys ts w.1.0, fits_of t w.1.1)

  fits_fields : (fs : Fields) (k : ℕ) → WfFields fs k → HoldsFields (λ n. n < name_end) (λ c. c < 256) fs
  fits_fields no_fields k w = tt
  fits_fields (field m t fs) k w = (w.1.0, fits_of t w.1.1.0, fits_fields fs (m + 1) w.1.1.1)

  fits_tys : (ts : Tys) → WfTys ts → HoldsTys (λ n. n < name_end) (λ c. c < 256) ts
  fits_tys no_params w = tt
  fits_tys (param t ts) w = (fits_of t w.0, fits_tys ts w.1)

-- a context has fewer names than bytes
pub count_size : (fs : Fields) → count_fields fs ≤ size_fields fs
unfolding size count_fields
count_size no_fields = omega arith
count_size (field m t fs) = omega (arith, count_size fs)

mutual
  unfolding Wf Asc Holds size

  pub wf_of : (t : Ty) → Asc t → Fits t → size t < 65536 → Wf t
  wf_of (leaf s) a f h = tt
  wf_of (built x) a f h = wf_built x a f h

  wf_built : (x : Built) → AscBuilt x → HoldsBuilt (λ n. n < name_end) (λ c. c < 256) x → size_built x < 65536 → WfBuilt x
  wf_built (list t) a f h = wf_of t a f (omega arith)
  wf_built (range t) a f h = wf_of t a f (omega arith)
  wf_built (context fs) a f h = (omega (arith, count_size fs), wf_fields fs 0 a f (omega arith))
  wf_built (function ts t) a f h = (f.0, (wf_tys ts a.0 f.1 (omega arith), wf_of t a.1 f.2 (omega arith)))

  wf_fields : (fs : Fields) (k : ℕ) → AscFields fs k → HoldsFields (λ n. n < name_end) (λ c. c < 256) fs → size_fields fs < 65536 → WfFields fs k
  wf_fields no_fields k a f h = tt
  wf_fields (field m t fs) k a f h = (a.0, (f.0, (wf_of t a.1 f.1 (omega arith), wf_fields fs (m + 1) (rw (add-one m) a.2) f.2 (omega arith))))

  wf_tys : (ts : Tys) → AscTys ts → HoldsTys (λ n. n < name_end) (λ c. c < 256) ts → size_tys ts < 65536 → WfTys ts
  wf_tys no_params a f h = tt
  wf_tys (param t ts) a f h = (wf_of t a.0 f.0 (omega arith), wf_tys ts a.1 f.1 (omega arith))

module _ (O : Order) (a b : Ty) (v : Wf a) (w : Wf b) (h : size a + size b < 65536) where
  pub wf_sup : Wf (sup O a b)
  wf_sup = wf_of (sup O a b) (asc_sup O a b (asc_of a v) (asc_of b w)) (holds_sup (λ n. n < name_end) (λ c. c < 256) O a b (fits_of a v) (fits_of b w)) (omega (arith, size_sup O a b (asc_of a v)))

  pub wf_sub : Wf (sub O a b)
  wf_sub = wf_of (sub O a b) (asc_sub O a b (asc_of a v) (asc_of b w)) (holds_sub (λ n. n < name_end) (λ c. c < 256) O a b (fits_of a v) (fits_of b w)) (omega (arith, size_sub O a b (asc_of a v)))
