-- The laws of `fill`: as much as has room, one piece behind the other.
-- Idea: induction on the piece and the output together; a place beyond the output is cut to its length (`min`).
-- Index: `fill_then`, `put_is`, `put_then` (one more piece); `fill_front`, `handed` (what a spare place holds is handed on); `fill_over`, `late_head` (written over);
-- `fills`, `cut_length` (the code of `fill`); `length_fill`; `two_bytes` (a number in two bytes).
-- Assumes nothing.
use mathlib.Core.Path.{◌≡◌, refl, sym, ap, ap₂, subst, ◌∙◌}
use mathlib.Core.List.{List, [], ◌∷◌, ◌++◌, append-nil}
use Prim.Native.Nat.{ℕ, zero, suc, ◌-◌, ◌≤◌, min, ◌/◌, ◌%◌, ◌<◌}
use native.Mathlib.Omega.{arith}
use lib.ListN.{length, take, drop, length-append, length-take, length-drop, drop_of_length-le}
use lib.Seq.{take_all}
use borrow.Rule.Slice.PartMut.{put_mid}
use Rattle.form.specs.Answers.{onto, Built}
use Rattle.form.specs.Outcome.{Outcome, fits}
use Rattle.std.specs.declared.result.Result.{Result}
use Rattle.form.specs.declared.refusals.Refusal.{Refusal}
use Rattle.form.proofs.Runs.{rest}
use Rattle.output.specs.Output.{fill, puts}
use Rattle.form.specs.Form.{bytes}

-- ---- byte by byte
fill_nil : (old : List ℕ) → fill [] old ≡ old
unfolding fill onto
fill_nil [] = refl
fill_nil (o ∷ old) = refl

fill_full : (bs : List ℕ) → fill bs [] ≡ []
unfolding fill onto
fill_full [] = refl
fill_full (b ∷ bs) = refl

fill_one : (b o : ℕ) (bs old : List ℕ) → fill (b ∷ bs) (o ∷ old) ≡ b ∷ fill bs old
unfolding fill onto
fill_one b o bs old = refl

-- a text that has room stands there whole
pub fill_front : (bs old : List ℕ) → length bs ≤ length old → take (length bs) (fill bs old) ≡ bs
fill_front [] old k = refl
fill_front (b ∷ bs) [] k = absurd (omega arith)
fill_front (b ∷ bs) (o ∷ old) k = ap (take (suc (length bs))) (fill_one b o bs old) ∙ ap (λ (z : List ℕ). b ∷ z) (fill_front bs old (omega arith))

-- what a spare place holds is handed on
pub handed : (o : Outcome (List ℕ)) (bs spare was old new : List ℕ) (n : ℕ) (r : Result ℕ Refusal) → o ≡ fits (length old) bs → spare ≡ fill bs was → n ≡ length bs → n ≤ length was
    → Built (fits (length old) (take n spare)) old new r
    → Built o old new r
handed o bs spare was old new n r e es en h b =
    let text : take n spare ≡ bs = ap₂ take en es ∙ fill_front bs was (omega (arith, en)) in
    subst (λ q. Built q old new r) (ap (fits (length old)) text ∙ sym e) b

pub length_fill : (bs old : List ℕ) → length (fill bs old) ≡ length old
length_fill [] old = ap length (fill_nil old)
length_fill (b ∷ bs) [] = ap length (fill_full (b ∷ bs))
length_fill (b ∷ bs) (o ∷ old) = ap length (fill_one b o bs old) ∙ ap suc (length_fill bs old)

-- a longer text over a shorter one
pub fill_over : (h d old : List ℕ) → length h ≤ length d → fill d (fill h old) ≡ fill d old
fill_over [] d old k = ap (fill d) (fill_nil old)
fill_over (x ∷ h) [] old k = absurd (omega arith)
fill_over (x ∷ h) (y ∷ d) [] k = ap (fill (y ∷ d)) (fill_full (x ∷ h))
fill_over (x ∷ h) (y ∷ d) (o ∷ old) k =
    ap (fill (y ∷ d)) (fill_one x o h old) ∙ fill_one y x d (fill h old) ∙ ap (λ (z : List ℕ). y ∷ z) (fill_over h d old (omega arith)) ∙ sym (fill_one y o d old)

-- another head of the same length
refill : (h k e old : List ℕ) → length h ≡ length k → fill k (fill (h ++ e) old) ≡ fill (k ++ e) old
refill [] [] e old q = fill_nil (fill e old)
refill [] (y ∷ k) e old q = absurd (omega arith)
refill (x ∷ h) [] e old q = absurd (omega arith)
refill (x ∷ h) (y ∷ k) e [] q = ap (fill (y ∷ k)) (fill_full (x ∷ (h ++ e))) ∙ fill_full (y ∷ k) ∙ sym (fill_full (y ∷ (k ++ e)))
refill (x ∷ h) (y ∷ k) e (o ∷ old) q =
    ap (fill (y ∷ k)) (fill_one x o (h ++ e) old) ∙ fill_one y x k (fill (h ++ e) old) ∙ ap (λ (z : List ℕ). y ∷ z) (refill h k e old (omega arith)) ∙ sym (fill_one y o (k ++ e) old)

-- the rest behind the first text, or behind all
fill_rest : (a b old : List ℕ) (p : ℕ) → p ≡ min (length a) (length old) → take p (fill a old) ++ fill b (drop p (fill a old)) ≡ fill (a ++ b) old
fill_rest [] b old zero e = ap (fill b) (fill_nil old)
fill_rest [] b old (suc p) e = absurd (omega arith)
fill_rest (x ∷ a) b [] zero e = ap (fill b) (fill_full (x ∷ a)) ∙ fill_full b ∙ sym (fill_full (x ∷ (a ++ b)))
fill_rest (x ∷ a) b [] (suc p) e = absurd (omega arith)
fill_rest (x ∷ a) b (o ∷ old) zero e = absurd (omega arith)
fill_rest (x ∷ a) b (o ∷ old) (suc p) e =
    ap (λ (z : List ℕ). take (suc p) z ++ fill b (drop (suc p) z)) (fill_one x o a old) ∙ ap (λ (z : List ℕ). x ∷ z) (fill_rest a b old p (omega arith)) ∙ sym (fill_one x o (a ++ b) old)

-- `fill_rest` as the code has it: `&mut out[p..]` was lent with `out` at xs, and came back at ys
pub fill_then : (a b old xs ys : List ℕ) (n p : ℕ) → xs ≡ fill a old → length a ≡ n → p ≡ min n (length xs)
    → ys ≡ fill b (take (length xs - p) (drop p xs))
    → put_mid p (length xs - p) xs ys ≡ fill (a ++ b) old
fill_then a b old xs ys n p ex el ep ey =
    let short : length (drop p xs) ≤ length xs - p = simp length-drop (omega arith) in
    let none : drop (length xs - p) (drop p xs) ≡ [] = drop_of_length-le (drop p xs) short in
    let same : length xs ≡ length old = ap length ex ∙ length_fill a old in
    rw (none, append-nil, ey, rest xs p, ex) (fill_rest a b old p (omega arith))

past_end : (xs : List ℕ) (p : ℕ) → drop (length xs - p) (drop p xs) ≡ []
past_end xs p = let short : length (drop p xs) ≤ length xs - p = simp length-drop (omega arith) in drop_of_length-le (drop p xs) short

-- `&mut out[p..]` was lent with `out` at xs, and came back at ys
pub put_is : (src xs ys : List ℕ) (at p : ℕ) → p ≡ min at (length xs) → ys ≡ fill src (take (length xs - p) (drop p xs)) → put_mid p (length xs - p) xs ys ≡ puts at src xs
unfolding puts
put_is src xs ys at p ep ey = rw (past_end xs p, append-nil, ey, rest xs p, ep)

-- behind what was written before
pub put_then : (a b old xs new : List ℕ) (n : ℕ) → xs ≡ fill a old → length a ≡ n → new ≡ puts n b xs → new ≡ fill (a ++ b) old
put_then a b old xs new n ex el en =
    let p = min n (length xs) in
    let ys = fill b (take (length xs - p) (drop p xs)) in
    en ∙ sym (put_is b xs ys n p refl refl) ∙ fill_then a b old xs ys n p ex el refl refl

-- the head is written again when all stands behind it; `mid` had the first head alone
pub late_head : (h k e old mid out new : List ℕ) → length h ≡ length k → mid ≡ fill h old → out ≡ fill (h ++ e) mid → new ≡ fill k out → new ≡ fill (k ++ e) old
late_head h k e old mid out new l em eo en =
    en ∙ ap (fill k) eo ∙ refill h k e mid l ∙ ap (fill (k ++ e)) em ∙ fill_over h (k ++ e) old (omega (arith, length-append k e))

-- what the code of `fill` copies
cut : (src : List ℕ) (n m : ℕ) → n ≡ min (length src) m → take n src ≡ take m src
cut [] zero m e = sym (take_all m [] (omega arith))
cut [] (suc n) m e = absurd (omega arith)
cut (b ∷ src) zero zero e = refl
cut (b ∷ src) zero (suc m) e = absurd (omega arith)
cut (b ∷ src) (suc n) zero e = absurd (omega arith)
cut (b ∷ src) (suc n) (suc m) e = ap (λ (z : List ℕ). b ∷ z) (cut src n m (omega arith))

pub fills : (src old new : List ℕ) (n : ℕ) → n ≡ min (length src) (length old) → new ≡ onto (take n src) old → new ≡ fill src old
unfolding fill
fills src old new n e q = q ∙ ap (λ (z : List ℕ). onto z old) (cut src n (length old) e)

pub cut_length : (src old : List ℕ) (n : ℕ) → n ≡ min (length src) (length old) → length (take n src) ≤ length old
cut_length src old n e = simp length-take (omega arith)

-- a number below 65536 in two bytes
pub two_bytes : (n p q : ℕ) → n < 65536 → p ≡ n % 256 → q ≡ n / 256 → bytes 2 n ≡ p ∷ q ∷ []
unfolding bytes
two_bytes n p q h ep eq = let f : n / 256 % 256 ≡ q = omega arith in ap₂ (λ (x y : ℕ). x ∷ y ∷ []) (sym ep) f
