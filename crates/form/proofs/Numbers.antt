-- A number in k bytes, and back, at every width.
-- Index: `num_bytes`, `bytes_num` (both ways); `num_below`, `length_bytes` (bounds); `word_is` (a 16-bit number from its two bytes); `bytes_take`, `take_length`.
-- Assumes nothing.
use Prim.Native.Nat.{ℕ, zero, suc, ◌+◌, ◌*◌, ◌/◌, ◌%◌, ◌<◌, ◌≤◌, ◌^◌}
use mathlib.Core.Path.{◌≡◌, refl, ap, ap₂, ◌∙◌}
use mathlib.Core.List.{List, [], ◌∷◌}
use native.Mathlib.Omega.{arith}
use native.Mathlib.Nat.{pow-suc, pow-zero}
use native.Mathlib.Nat.{add-zero}
use lib.ListN.{length, get_or, take, drop, length-drop}
use lib.Seq.{get_or-drop}
use Rattle.form.specs.Form.{bytes, num, num_at, Bytes}

pub length_bytes : (k n : ℕ) → length (bytes k n) ≡ k
unfolding bytes
length_bytes zero n = refl
length_bytes (suc k) n = ap suc (length_bytes k (n / 256))

pub num_bytes : (k n : ℕ) → n < 256 ^ k → num (bytes k n) ≡ n
unfolding bytes num
num_bytes zero n h = let e = pow-zero 256 in omega arith
num_bytes (suc k) n h =
    let e : 256 ^ suc k ≡ 256 ^ k * 256 = pow-suc 256 k in
    let q : n / 256 < 256 ^ k = omega arith in
    let i : num (bytes k (n / 256)) ≡ n / 256 = num_bytes k (n / 256) q in
    omega arith

pub num_below : (k : ℕ) (s : List ℕ) → length s ≡ k → Bytes s → num s < 256 ^ k
unfolding num Bytes
num_below zero [] h bs = let e = pow-zero 256 in omega arith
num_below (suc k) [] h bs = absurd (omega arith)
num_below zero (b ∷ s) h bs = absurd (omega arith)
num_below (suc k) (b ∷ s) h bs =
    let e : 256 ^ suc k ≡ 256 ^ k * 256 = pow-suc 256 k in
    let i : num s < 256 ^ k = num_below k s (omega arith) bs.1 in
    let c = bs.0 in
    omega arith

pub bytes_num : (k : ℕ) (s : List ℕ) → length s ≡ k → Bytes s → bytes k (num s) ≡ s
unfolding num Bytes bytes
bytes_num zero [] h bs = refl
bytes_num (suc k) [] h bs = absurd (omega arith)
bytes_num zero (b ∷ s) h bs = absurd (omega arith)
bytes_num (suc k) (b ∷ s) h bs =
    let c = bs.0 in
    let p : (b + num s * 256) % 256 ≡ b = omega arith in
    let q : (b + num s * 256) / 256 ≡ num s = omega arith in
    ap₂ (λ (a : ℕ) (r : List ℕ). a ∷ r) p (ap (bytes k) q ∙ bytes_num k s (omega arith) bs.1)

pub bytes_take : (n : ℕ) (s : List ℕ) → Bytes s → Bytes (take n s)
unfolding Bytes
bytes_take zero s h = tt
bytes_take (suc n) [] h = tt
bytes_take (suc n) (b ∷ s) h = (h.0, bytes_take n s h.1)

pub take_length : (n : ℕ) (s : List ℕ) → n ≤ length s → length (take n s) ≡ n
take_length zero s h = refl
take_length (suc n) [] h = absurd (omega arith)
take_length (suc n) (b ∷ s) h = ap suc (take_length n s (omega arith))

-- a 16-bit number from its two bytes
two : (s : List ℕ) → 2 ≤ length s → num (take 2 s) ≡ get_or s 0 0 + get_or s 1 0 * 256
unfolding num
two [] h = absurd (omega arith)
two (a ∷ []) h = absurd (omega arith)
two (a ∷ b ∷ s) h = omega arith

pub word_is : (s : List ℕ) (at : ℕ) → at + 2 ≤ length s → num_at 2 at s ≡ get_or s at 0 + get_or s (at + 1) 0 * 256
word_is s at h = two (drop at s) (simp length-drop (omega arith)) ∙ rw (get_or-drop at s 0 0, get_or-drop at s 1 0, add-zero at)
