-- The laws of `onto` (bytes over the front of an output), and of a rest of the output that was lent and came back.
-- Index: `onto_nil`, `onto_set`, `onto_first`, `onto_two`, `onto_three`, `onto_rest` (one more piece); `back`, `back_length`, `lent_over`, `over_onto` (a lent rest that came back);
-- `copy_more`, `copy-all` (the loop of `copy`); `name_bytes` (a name); `onto_front`, `length_onto`, `length_over`; `late_three` (a head stored after the rest).
-- Assumes nothing.
use mathlib.Core.Path.{◌≡◌, refl, ap, sym, ◌∙◌}
use mathlib.Core.List.{List, [], ◌∷◌, ◌++◌, append_assoc, append-nil}
use Prim.Native.Nat.{ℕ, suc, ◌+◌, ◌-◌, ◌≤◌, ◌<◌}
use native.Mathlib.Omega.{arith}
use lib.ListN.{length, take, drop, set, length-append, length-take, length-drop, take-append-drop, drop_of_length-le}
use lib.Seq.{drop-cons, drop-drop, take_at, drop_at, set_at, length-take-le}
use borrow.Rule.Slice.PartMut.{put_mid, same_len_mid}
use Rattle.form.specs.Form.{bytes, num_at, Bytes}
use Rattle.form.proofs.Numbers.{bytes_num, bytes_take}
use Rattle.form.proofs.Exact.{bytes_drop}
use Rattle.form.proofs.Runs.{rest}
use Rattle.form.specs.Answers.{onto}
use Rattle.output.specs.Output.{over}

-- nothing over it
pub onto_nil : (old : List ℕ) → onto [] old ≡ old
unfolding onto
onto_nil old = refl

pub length_onto : (p old : List ℕ) → length p ≤ length old → length (onto p old) ≡ length old
unfolding onto
length_onto p old h = simp (length-append, length-drop) (omega arith)

-- the next byte is stored
pub onto_set : (p old : List ℕ) (n b : ℕ) → length p ≡ n → n < length old → set (onto p old) n b ≡ onto (p ++ (b ∷ [])) old
unfolding onto
onto_set p old n b e h =
    let more : length (p ++ (b ∷ [])) ≡ suc n = simp length-append (omega arith) in
    rw (more, e, append_assoc, drop-cons old n 0) (set_at p _ _ b n e)

-- the rest, lent at n, comes back with q over its front
pub onto_rest : (p q old : List ℕ) (n : ℕ) → length p ≡ n → n ≤ length old → take n (onto p old) ++ onto q (drop n (onto p old)) ≡ onto (p ++ q) old
unfolding onto
onto_rest p q old n e h =
    let t = take_at p (drop (length p) old) n e in
    let d = drop_at p (drop (length p) old) n e in
    rw (t, d, append_assoc, length-append, drop-drop)

-- `onto_rest` as the code has it: `&mut out[n..]` was lent with `out` at xs, and came back at ys
pub back : (p q old xs ys : List ℕ) (n : ℕ) → xs ≡ onto p old → length p ≡ n → n ≤ length old
    → ys ≡ onto q (take (length xs - n) (drop n xs))
    → put_mid n (length xs - n) xs ys ≡ onto (p ++ q) old
back p q old xs ys n ex e h ey =
    let short : length (drop n xs) ≤ length xs - n = simp length-drop (omega arith) in
    let none : drop (length xs - n) (drop n xs) ≡ [] = drop_of_length-le (drop n xs) short in
    rw (none, append-nil, ey, rest xs n, ex) (onto_rest p q old n e h)

pub back_length : (n : ℕ) (xs ys : List ℕ) → length ys ≡ length (take (length xs - n) (drop n xs)) → length (put_mid n (length xs - n) xs ys) ≡ length xs
back_length n xs ys e = same_len_mid n (length xs - n) xs ys e

-- the first byte is stored
pub onto_first : (old : List ℕ) (b : ℕ) → 1 ≤ length old → set old 0 b ≡ onto (b ∷ []) old
unfolding onto
onto_first old b h = onto_set [] old 0 b refl h

-- what was written can be taken again
pub onto_front : (bs old : List ℕ) (n : ℕ) → n ≡ length bs → take n (onto bs old) ≡ bs
unfolding onto
onto_front bs old n e = take_at bs (drop (length bs) old) n (sym e)

-- ---- a part that was lent at n came back with q over its front
onto_self : (n : ℕ) (xs : List ℕ) → n ≤ length xs → onto (take n xs) xs ≡ xs
unfolding onto
onto_self n xs h = rw (length-take-le n xs h) (take-append-drop n xs)

pub lent_over : (n : ℕ) (xs ys q : List ℕ) → n ≤ length xs → ys ≡ onto q (take (length xs - n) (drop n xs)) → put_mid n (length xs - n) xs ys ≡ over n q xs
unfolding over
lent_over n xs ys q h e =
    let s = onto_self n xs h in
    back (take n xs) q xs xs ys n (sym s) (length-take-le n xs h) h e
    ∙ sym (onto_rest (take n xs) q xs n (length-take-le n xs h) h)
    ∙ ap (λ (z : List ℕ). take n z ++ onto q (drop n z)) s

-- more bytes behind those that are there
pub over_onto : (p q old xs : List ℕ) (n : ℕ) → xs ≡ onto p old → length p ≡ n → n ≤ length old → over n q xs ≡ onto (p ++ q) old
unfolding over
over_onto p q old xs n e l h = rw e (onto_rest p q old n l h)

pub length_over : (n : ℕ) (q xs : List ℕ) → n + length q ≤ length xs → length (over n q xs) ≡ length xs
unfolding over onto
length_over n q xs h = simp (length-append, length-take, length-drop) (omega arith)

-- the name that is copied
pub name_bytes : (k at : ℕ) (s : List ℕ) → Bytes s → at + k ≤ length s → take k (drop at s) ≡ bytes k (num_at k at s)
name_bytes k at s bs h =
    let l : length (take k (drop at s)) ≡ k = length-take-le k (drop at s) (simp length-drop (omega arith)) in
    sym (bytes_num k (take k (drop at s)) l (bytes_take k (drop at s) (bytes_drop at s bs)))

-- three bytes that are stored after the rest
pub late_three : (old ys bs : List ℕ) (p q r : ℕ) → 3 ≤ length old → ys ≡ onto bs (take (length old - 3) (drop 3 old))
    → set (set (set (put_mid 3 (length old - 3) old ys) 0 p) 1 q) 2 r ≡ onto (p ∷ q ∷ r ∷ bs) old
unfolding onto
late_three [] ys bs p q r h e = absurd (omega arith)
late_three (x ∷ []) ys bs p q r h e = absurd (omega arith)
late_three (x ∷ y ∷ []) ys bs p q r h e = absurd (omega arith)
late_three (x ∷ y ∷ z ∷ old) ys bs p q r h e = ap (λ (k : List ℕ). set (set (set k 0 p) 1 q) 2 r) (back (x ∷ y ∷ z ∷ []) bs (x ∷ y ∷ z ∷ old) (x ∷ y ∷ z ∷ old) ys 3 refl refl h e)

-- the first two, and the first three bytes are stored
pub onto_two : (old : List ℕ) (p q : ℕ) → 2 ≤ length old → set (set old 0 p) 1 q ≡ onto (p ∷ q ∷ []) old
onto_two old p q h = ap (λ (z : List ℕ). set z 1 q) (onto_first old p (omega arith)) ∙ onto_set (p ∷ []) old 1 q refl (omega arith)

pub onto_three : (old : List ℕ) (p q r : ℕ) → 3 ≤ length old → set (set (set old 0 p) 1 q) 2 r ≡ onto (p ∷ q ∷ r ∷ []) old
onto_three old p q r h = ap (λ (z : List ℕ). set z 2 r) (onto_two old p q (omega arith)) ∙ onto_set (p ∷ q ∷ []) old 2 r refl (omega arith)
