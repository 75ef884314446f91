-- What a reader accepts is exactly an encoding: the laws of the combinators and of the runs, whatever is read.
-- Idea: two directions. An encoding is read back whatever follows it; what was read is taken apart, and its parts are encodings (`Found`, `Sound`).
-- Index: `front_read`, `then_read`, `item_read`, `named_read`, `operand_read`, `counted_read` (read back); `front_parts`, `then_parts`, `operand_parts`, `flag_parts`, `or_else_parts` (taken apart);
-- `front_found`, `then_found`, `found_behind` (an encoding from its parts); `run_sound`, `named_sound`, `counted_sound` (runs, from `RunLaws` and `NamedLaws`).
-- Assumes nothing.
use Prim.Native.Nat.{ℕ, zero, suc, ◌+◌, ◌<◌, ◌≤◌, ◌^◌, max}
use mathlib.Core.Path.{◌≡◌, refl, sym, ap, ap₂, subst, ◌∙◌}
use mathlib.Core.Bool.{Bool, true, false}
use mathlib.Core.List.{List, [], ◌∷◌, ◌++◌, append_assoc}
use native.Mathlib.Omega.{arith}
use lib.ListN.{length, take, drop, length-append, take-append-drop}
use lib.Seq.{drop-append_seam}
use lib.Dec.{leb}
use borrow.Author.Tests.{le-leb, leb-true}
use Rattle.form.specs.Trees.{Val}
use Rattle.form.specs.Limits.{name_width, name_end}
use Rattle.form.specs.Form.{bytes, num, Bytes}
use Rattle.form.specs.Read.{Got, got, bad, front, and_then, or_else, operand, named, read_run, read_named, read_flag, counted}
use Rattle.form.specs.Faults.{Fault, Shape, Names}
use Rattle.form.proofs.First.{length_front, operand_front}
use Rattle.form.proofs.Numbers.{num_below, bytes_num, bytes_take, take_length}

pub got_is : {X : Type 0} {x : X} {n m : ℕ} → n ≡ m → got x n ≡ got x m
got_is {X} {x} p = ap (got x) p

pub bad_got : {X : Type 0} {f : Fault} {x : X} {n : ℕ} → bad f ≡ got x n → ⊥
bad_got e = let z : ◌≡◌ {A = ℕ} 0 1 = cc in omega arith

pub bytes_drop : (n : ℕ) (s : List ℕ) → Bytes s → Bytes (drop n s)
unfolding Bytes
bytes_drop zero s h = h
bytes_drop (suc n) [] h = h
bytes_drop (suc n) (b ∷ s) h = bytes_drop n s h.1

pub bytes_head : (b : ℕ) (s : List ℕ) → Bytes (b ∷ s) → (b < 256) × Bytes s
unfolding Bytes
bytes_head b s h = h

-- ---- THE ENCODING IS READ BACK, whatever follows it
pub front_read : {X Z : Type 0} (g : X → Z) (k : ℕ) (e : List ℕ) (x : X) (r : Got X) → r ≡ got x (length e) → front g k r ≡ got (g x) (k + length e)
unfolding front
front_read g k e x r h = rw h

pub then_read : {X Y Z : Type 0} (f : X → Y → Z) (k : ℕ) (first : List ℕ → Got X) (more : List ℕ → Got Y) (ex ey r : List ℕ) (x : X) (y : Y) → first (ex ++ (ey ++ r)) ≡ got x (length ex)
    → more (ey ++ r) ≡ got y (length ey) → and_then f k ((ex ++ ey) ++ r) more (first ((ex ++ ey) ++ r)) ≡ got (f x y) (k + length (ex ++ ey))
unfolding and_then front
then_read f k first more ex ey r x y hx hy =
    rw (append_assoc ex ey r, hx, drop-append_seam ex (ey ++ r), hy)
    (got_is (rw (length-append ex ey) (omega arith)))

pub item_read : {X R : Type 0} (nil : R) (cons : X → R → R) (child : List ℕ → Got X) (ex er r : List ℕ) (x : X) (xs : R) (n : ℕ) → child (ex ++ (er ++ r)) ≡ got x (length ex)
    → read_run nil cons child n (er ++ r) ≡ got xs (length er) → read_run nil cons child (suc n) ((ex ++ er) ++ r) ≡ got (cons x xs) (length (ex ++ er))
unfolding read_run
item_read nil cons child ex er r x xs n hx hs = then_read cons 0 child (read_run nil cons child n) ex er r x xs hx hs ∙ got_is (omega arith)

pub operand_read : {X : Type 0} (k : ℕ) (more : ℕ → List ℕ → Got X) (n : ℕ) (e r : List ℕ) → n < 256 ^ k → operand k more ((bytes k n ++ e) ++ r) ≡ more n (e ++ r)
operand_read k more n e r h = ap (operand k more) (append_assoc (bytes k n) e r) ∙ operand_front k more n (e ++ r) h

pub named_read : {X R : Type 0} (nil : R) (cons : ℕ → X → R → R) (next : ℕ → ℕ) (child : List ℕ → Got X) (m least : ℕ) (ex er r : List ℕ) (x : X) (xs : R) (n : ℕ) → least ≤ m → m < name_end
    → child (ex ++ (er ++ r)) ≡ got x (length ex) → read_named nil cons next child n (next m) (er ++ r) ≡ got xs (length er)
    → read_named nil cons next child (suc n) least ((bytes name_width m ++ (ex ++ er)) ++ r) ≡ got (cons m x xs) (length (bytes name_width m ++ (ex ++ er)))
unfolding read_named named or_else
named_read nil cons next child m least ex er r x xs n h b hx hs =
    operand_read name_width (named cons (λ j. read_named nil cons next child n (next j)) child least) m (ex ++ er) r b
    ∙ rw (le-leb least m h) (then_read (cons m) name_width child (read_named nil cons next child n (next m)) ex er r x xs hx hs ∙ got_is (sym (length_front name_width m (ex ++ er))))

pub counted_read : {R Z : Type 0} (g : R → Z) (run : ℕ → List ℕ → Got R) (n : ℕ) (e r : List ℕ) (x : R) → n < 65536 → run n (e ++ r) ≡ got x (length e)
    → counted g run ((bytes 2 n ++ e) ++ r) ≡ got (g x) (suc (length (bytes 2 n ++ e)))
unfolding counted
counted_read g run n e r x b h =
    let l = length_front 2 n e in
    operand_read 2 (λ c q. front g 3 (run c q)) n e r b ∙ front_read g 3 e x (run n (e ++ r)) h ∙ got_is (omega arith)

-- ---- WHAT IS READ IS AN ENCODING
pub record Found {X : Type 0} (enc : X → List ℕ) (good : X → Type 0) (lv : X → ℕ) (l : ℕ) (s : List ℕ) (x : X) (n : ℕ) : Type 0 where
  pub rest : List ℕ
  pub bytes : s ≡ enc x ++ rest
  pub took : n ≡ length (enc x)
  pub well : good x
  pub low : lv x ≤ l

pub found_inside : {X : Type 0} {enc : X → List ℕ} {good : X → Type 0} {lv : X → ℕ} {l : ℕ} {s : List ℕ} {x : X} {n : ℕ} → Found enc good lv l s x n → n ≤ length s
found_inside {enc = enc} {x = x} F = let t = F.took in omega (arith, ap length F.bytes, length-append (enc x) F.rest)

-- a reader that reads nothing but encodings
abbrev pub Sound : {X : Type 0} → (X → List ℕ) → (X → Type 0) → (X → ℕ) → ℕ → (List ℕ → Got X) → Type 0
Sound {X} enc good lv l read = (s : List ℕ) → Bytes s → (x : X) (n : ℕ) → read s ≡ got x n → Found enc good lv l s x n

pub found_as : {X : Type 0} {enc : X → List ℕ} {good : X → Type 0} {lv : X → ℕ} {l : ℕ} {s : List ℕ} {x y : X} {n m : ℕ} → x ≡ y → n ≡ m → Found enc good lv l s x n → Found enc good lv l s y m
found_as p q f = rw (← p, ← q) f

-- the parts of what a combinator found
pub or_else_parts : {X : Type 0} {P : Type 0} (f : Fault) (b : Bool) (r : Got X) (x : X) (n : ℕ) → or_else f b r ≡ got x n → (b ≡ true → r ≡ got x n → P) → P
unfolding or_else
or_else_parts f true r x n e k = k refl e
or_else_parts f false r x n e k = absurd (bad_got e)

pub got_parts : {X : Type 0} {P : Type 0} (x y : X) (n m : ℕ) → got x n ≡ got y m → (x ≡ y → n ≡ m → P) → P
got_parts x y n m e k =
    let p : x ≡ y = cc in
    let q : n ≡ m = cc in
    k p q

-- an operand was there: its bytes, and what was read behind them
pub operand_parts : {X : Type 0} {P : Type 0} (k : ℕ) (more : ℕ → List ℕ → Got X) (s : List ℕ) (x : X) (n : ℕ) → operand k more s ≡ got x n
    → (k ≤ length s → more (num (take k s)) (drop k s) ≡ got x n → P) → P
unfolding operand
operand_parts k more s x n e f = or_else_parts Shape (leb k (length s)) (more (num (take k s)) (drop k s)) x n e (λ t q. f (leb-true k (length s) t) q)

-- one operand byte was there
pub flag_parts : {P : Type 0} (m : ℕ) (mk : ℕ → Val) (s : List ℕ) (v : Val) (n : ℕ) → read_flag m mk s ≡ got v n
    → ((x : ℕ) (r : List ℕ) → s ≡ x ∷ r → x ≤ m → mk x ≡ v → 2 ≡ n → P) → P
unfolding read_flag
flag_parts m mk [] v n e k = absurd (bad_got e)
flag_parts m mk (x ∷ s) v n e k = or_else_parts Shape (leb x m) (got (mk x) 2) v n e (λ t e₁. got_parts (mk x) v 2 n e₁ (λ p q. k x s refl (leb-true x m t) p q))

pub operand_below : (k : ℕ) (s : List ℕ) → Bytes s → k ≤ length s → num (take k s) < 256 ^ k
operand_below k s bs h = num_below k (take k s) (take_length k s h) (bytes_take k s bs)

pub operand_bytes_lem : (k : ℕ) (s : List ℕ) → Bytes s → k ≤ length s → bytes k (num (take k s)) ≡ take k s
operand_bytes_lem k s bs h = bytes_num k (take k s) (take_length k s h) (bytes_take k s bs)

pub front_parts : {X Z : Type 0} {P : Type 0} (g : X → Z) (k : ℕ) (r : Got X) (z : Z) (n : ℕ) → front g k r ≡ got z n → ((x : X) (m : ℕ) → r ≡ got x m → g x ≡ z → k + m ≡ n → P) → P
unfolding front
front_parts g k (got x m) z n e f = got_parts (g x) z (k + m) n e (λ p q. f x m refl p q)
front_parts g k (bad b) z n e f = absurd (bad_got e)

pub then_parts : {X Y Z : Type 0} {P : Type 0} (g : X → Y → Z) (k : ℕ) (s : List ℕ) (more : List ℕ → Got Y) (r : Got X) (z : Z) (n : ℕ) → and_then g k s more r ≡ got z n
    → ((x : X) (m : ℕ) → r ≡ got x m → (y : Y) (j : ℕ) → more (drop m s) ≡ got y j → g x y ≡ z → k + m + j ≡ n → P) → P
unfolding and_then
then_parts g k s more (got x m) z n e f = front_parts (g x) (k + m) (more (drop m s)) z n e (λ y j p q t. f x m refl y j p q t)
then_parts g k s more (bad b) z n e f = absurd (bad_got e)

-- a, then b behind it
join : (s a r b q : List ℕ) (k : ℕ) → s ≡ a ++ r → k ≡ length a → drop k s ≡ b ++ q → s ≡ (a ++ b) ++ q
join s a r b q k p ke h =
    let x : drop k s ≡ r = ap₂ drop ke p ∙ drop-append_seam a r in
    p ∙ ap (λ (y : List ℕ). a ++ y) (sym x ∙ h) ∙ sym (append_assoc a b q)

-- a parent of one thing, with the bytes `pre` in front
pub front_found : {X Z : Type 0} {encX : X → List ℕ} {goodX : X → Type 0} {lx : X → ℕ} {encZ : Z → List ℕ} {goodZ : Z → Type 0} {lz : Z → ℕ} {l l' : ℕ} {s : List ℕ} {x : X} {z : Z} {m k n : ℕ}
    (pre : List ℕ)
    → Found encX goodX lx l s x m → encZ z ≡ pre ++ encX x → goodZ z → lz z ≤ l' → k ≡ length pre → k + m ≡ n → Found encZ goodZ lz l' (pre ++ s) z n
front_found {encX = encX} {x = x} pre F e w low ke ne = record {
  rest = F.rest;
  bytes = rw (e, append_assoc pre (encX x) F.rest) (ap (λ (r : List ℕ). pre ++ r) F.bytes);
  took = rw (e, length-append pre (encX x)) (let t = F.took in omega arith);
  well = w;
  low = low;
}

-- two things, the second behind the first
pub then_found : {X Y Z : Type 0} {encX : X → List ℕ} {goodX : X → Type 0} {lx : X → ℕ} {encY : Y → List ℕ} {goodY : Y → Type 0} {ly : Y → ℕ} {encZ : Z → List ℕ} {goodZ : Z → Type 0} {lz : Z → ℕ}
    {l l' : ℕ} {s : List ℕ} {x : X} {y : Y} {z : Z} {m j k n : ℕ} (pre : List ℕ)
    → Found encX goodX lx l s x m → Found encY goodY ly l (drop m s) y j → encZ z ≡ pre ++ (encX x ++ encY y) → goodZ z → lz z ≤ l' → k ≡ length pre → k + m + j ≡ n
    → Found encZ goodZ lz l' (pre ++ s) z n
then_found {encX = encX} {encY = encY} {s = s} {x = x} {y = y} {m = m} pre F G e w low ke ne = record {
  rest = G.rest;
  bytes =
      rw (e, append_assoc pre (encX x ++ encY y) G.rest)
      (ap (λ (r : List ℕ). pre ++ r) (join s (encX x) F.rest (encY y) G.rest m F.bytes F.took G.bytes));
  took = rw (e, length-append pre (encX x ++ encY y), length-append (encX x) (encY y)) (let t = F.took in let u = G.took in omega arith);
  well = w;
  low = low;
}

-- the first k bytes of s in front of what was found behind them
pub found_behind : {X : Type 0} {enc : X → List ℕ} {good : X → Type 0} {lv : X → ℕ} {l : ℕ} {x : X} {n : ℕ} (pre : List ℕ) (k : ℕ) (s : List ℕ)
    → Found enc good lv l ((pre ++ take k s) ++ drop k s) x n → Found enc good lv l (pre ++ s) x n
found_behind {enc = enc} {good = good} {lv = lv} {l = l} {x = x} {n = n} pre k s F = subst (λ (r : List ℕ). Found enc good lv l r x n)
    (append_assoc pre (take k s) (drop k s) ∙ ap (λ (r : List ℕ). pre ++ r) (take-append-drop k s)) F

-- ---- a run
pub record RunLaws {X R : Type 0} (encX : X → List ℕ) (goodX : X → Type 0) (lx : X → ℕ) (encR : R → List ℕ) (good_r : R → Type 0) (lr : R → ℕ) (count : R → ℕ) (nil : R)
    (cons : X → R → R) : Type 0 where
  pub e_nil : encR nil ≡ []
  pub e_cons : (x : X) (r : R) → encR (cons x r) ≡ encX x ++ encR r
  pub g_nil : good_r nil
  pub g_cons : (x : X) (r : R) → goodX x → good_r r → good_r (cons x r)
  pub l_nil : lr nil ≡ 0
  pub l_cons : (x : X) (r : R) → lr (cons x r) ≡ max (lx x) (lr r)
  pub c_nil : count nil ≡ 0
  pub c_cons : (x : X) (r : R) → count (cons x r) ≡ suc (count r)

module _ {X R : Type 0} {encX : X → List ℕ} {goodX : X → Type 0} {lx : X → ℕ} {encR : R → List ℕ} {good_r : R → Type 0} {lr : R → ℕ} {count : R → ℕ} {nil : R} {cons : X → R → R}
    (A : RunLaws encX goodX lx encR good_r lr count nil cons) (child : List ℕ → Got X) (l : ℕ) (snd : Sound encX goodX lx l child) where
  pub run_sound : (c : ℕ) → Sound encR (λ r. (count r ≡ c) × good_r r) lr l (read_run nil cons child c)
  unfolding read_run
  run_sound zero s bs x n e =
      got_parts nil x 0 n e (λ p q. found_as p q (record {
        rest = s;
        bytes = ap (λ (y : List ℕ). y ++ s) (sym A.e_nil);
        took = ap length (sym A.e_nil);
        well = (A.c_nil, A.g_nil);
        low =
            let z = A.l_nil in omega arith;
      }))
  run_sound (suc c) s bs z n e =
      then_parts cons 0 s (read_run nil cons child c) (child s) z n e (λ x m px y j py pz pn.
      let F = snd s bs x m px in
      let G = run_sound c (drop m s) (bytes_drop m s bs) y j py in
      found_as pz refl (then_found [] F G (A.e_cons x y) (A.c_cons x y ∙ ap suc G.well.0, A.g_cons x y F.well G.well.1)
      (let i = A.l_cons x y in let f = F.low in let g = G.low in omega arith) refl pn))

-- ---- a named run
pub record NamedLaws {X R : Type 0} (encX : X → List ℕ) (goodX : X → Type 0) (lx : X → ℕ) (encR : R → List ℕ) (good_r : R → ℕ → Type 0) (lr : R → ℕ) (count : R → ℕ) (nil : R) (cons : ℕ → X → R → R)
    (next : ℕ → ℕ) : Type 0 where
  pub e_nil : encR nil ≡ []
  pub e_cons : (m : ℕ) (x : X) (r : R) → encR (cons m x r) ≡ bytes name_width m ++ (encX x ++ encR r)
  pub g_nil : (k : ℕ) → good_r nil k
  pub g_cons : (k m : ℕ) (x : X) (r : R) → k ≤ m → m < name_end → goodX x → good_r r (next m) → good_r (cons m x r) k
  pub l_nil : lr nil ≡ 0
  pub l_cons : (m : ℕ) (x : X) (r : R) → lr (cons m x r) ≡ max (lx x) (lr r)
  pub c_nil : count nil ≡ 0
  pub c_cons : (m : ℕ) (x : X) (r : R) → count (cons m x r) ≡ suc (count r)

module _ {X R : Type 0} {encX : X → List ℕ} {goodX : X → Type 0} {lx : X → ℕ} {encR : R → List ℕ} {good_r : R → ℕ → Type 0} {lr : R → ℕ} {count : R → ℕ} {nil : R} {cons : ℕ → X → R → R} {next : ℕ → ℕ}
    (A : NamedLaws encX goodX lx encR good_r lr count nil cons next) (child : List ℕ → Got X) (l : ℕ) (snd : Sound encX goodX lx l child) where
  pub named_sound : (c least : ℕ) → Sound encR (λ r. (count r ≡ c) × good_r r least) lr l (read_named nil cons next child c least)
  unfolding read_named named
  named_sound zero least s bs x n e =
      got_parts nil x 0 n e (λ p q. found_as p q (record {
        rest = s;
        bytes = ap (λ (y : List ℕ). y ++ s) (sym A.e_nil);
        took = ap length (sym A.e_nil);
        well = (A.c_nil, A.g_nil least);
        low =
            let z = A.l_nil in omega arith;
      }))
  named_sound (suc c) least s bs z n e =
      operand_parts name_width (named cons (λ j. read_named nil cons next child c (next j)) child least) s z n e (λ h e₀.
      or_else_parts Names (leb least (num (take name_width s))) (and_then (cons (num (take name_width s))) name_width (drop name_width s) (read_named nil cons next child c (next (num
      (take name_width s))))
      (child (drop name_width s))) z n e₀ (λ t e₁.
      then_parts (cons (num (take name_width s))) name_width (drop name_width s) (read_named nil cons next child c (next (num (take name_width s)))) (child (drop name_width s)) z n e₁
      (λ x m px y j py pz pn.
      let F = snd (drop name_width s) (bytes_drop name_width s bs) x m px in
      let G = named_sound c (next (num (take name_width s))) (drop m (drop name_width s)) (bytes_drop m (drop name_width s) (bytes_drop name_width s bs)) y j py in
      found_as pz refl (found_behind [] name_width s (then_found (take name_width s) F G
      (A.e_cons (num (take name_width s)) x y ∙ ap (λ (r : List ℕ). r ++ (encX x ++ encR y)) (operand_bytes_lem name_width s bs h)) (
        A.c_cons (num (take name_width s)) x y ∙ ap suc G.well.0,
        A.g_cons least (num (take name_width s)) x y (leb-true least (num (take name_width s)) t) (operand_below name_width s bs h) F.well
            G.well.1,
      )
      (let i = A.l_cons (num (take name_width s)) x y in let f = F.low in let g = G.low in omega arith) (sym (take_length name_width s h)) pn)))))

-- ---- a counted run behind a command
pub counted_sound : {R Z : Type 0} {encR : R → List ℕ} {good_r : R → Type 0} {lr : R → ℕ} {encZ : Z → List ℕ} {goodZ : Z → Type 0} {lz : Z → ℕ} {count : R → ℕ} (l : ℕ) (g : R → Z)
    (run : ℕ → List ℕ → Got R) (cmd : ℕ)
    → ((r : R) → encZ (g r) ≡ cmd ∷ (bytes 2 (count r) ++ encR r)) → ((r : R) → count r < 65536 → good_r r → goodZ (g r)) → ((r : R) → lz (g r) ≡ suc (lr r))
    → ((c : ℕ) → Sound encR (λ r. (count r ≡ c) × good_r r) lr l (run c))
    → (b : ℕ) → b ≡ cmd → (s : List ℕ) → Bytes s → (z : Z) (n : ℕ) → counted g run s ≡ got z n → Found encZ goodZ lz (suc l) (b ∷ s) z n
unfolding counted
counted_sound {encR = encR} l g run cmd e w h snd b be s bs z n eq =
    operand_parts 2 (λ c r. front g 3 (run c r)) s z n eq (λ k e₀.
    front_parts g 3 (run (num (take 2 s)) (drop 2 s)) z n e₀ (λ x m px pz pn.
    let F = snd (num (take 2 s)) (drop 2 s) (bytes_drop 2 s bs) x m px in
    let t = take_length 2 s k in
    found_as pz refl (found_behind (b ∷ []) 2 s (front_found (b ∷ take 2 s) F
    (e x ∙ ap₂ (λ (a : ℕ) (r : List ℕ). a ∷ (r ++ encR x)) (sym be) (ap (bytes 2) F.well.0 ∙ operand_bytes_lem 2 s bs k))
    (w x (let c = F.well.0 in let q = operand_below 2 s bs k in omega arith) F.well.1)
    (let i = h x in let f = F.low in omega arith) (omega arith) pn))))
