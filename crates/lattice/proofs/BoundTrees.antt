-- The bytes of trees, and the common supertype and subtype by the command bytes, said once over the order and the direction.
-- Index: `least`, `least_right`, `other`, `leaves`, `self` (by the commands); `lists`, `ranges`, `contexts`, `functions`, `functions_none`, `functions_other` (built types);
-- `fields_none`, `fields_both`, `Piece`, `piece_first`, `piece_second`, `piece_both` (entries); `answer_cons`, `answer_result`, `count_answer` (parameters); `turned`, `least_code` (the
-- flag of the direction); `enc_ctx`, `enc_fun`, `enc_cons`, `enc_result`, `length_sig` (bytes).
-- Assumes nothing.
use Prim.Native.Nat.{ℕ, suc, ◌+◌, ◌-◌, ◌/◌, ◌%◌, ◌<◌}
use mathlib.Core.Path.{◌≡◌, refl, sym, ap, ap₂, ◌∙◌}
use mathlib.Core.Bool.{Bool, true, false, not, cond, ◌&&◌, false≢true}
use mathlib.Core.List.{◌∷◌, ◌++◌, append_assoc}
use native.Mathlib.Omega.{arith}
use lib.ListN.{length, length-append}
use lib.Dec.{ltb}
use borrow.Author.Tests.{ne_eqb}
use Rattle.form.specs.Trees.{Simple, any, null, code, decode, Ty, leaf, built, Built, list, range, context, function, Fields, no_fields, field, Tys, no_params, param}
use Rattle.form.specs.Form.{bytes, enc, enc_fields, enc_tys, count_fields, count_tys}
use Rattle.form.proofs.ExactTypes.{decode_code}
use Rattle.order.specs.Order.{same, Dir, up, down, flip, toward, Order, top, bottom, scmp, sbound, is_inner, closer, narrowed, nearest, order_of}
use Rattle.order.specs.Types.{same_count, kind, ignores, reduce, reduce_fields, reduce_tys, bound, bounds, sup, sub, sup_tys, sub_tys}
use Rattle.order.specs.Ascending.{Asc, AscBuilt, AscFields, AscTys}
use Rattle.order.specs.Size.{size, size_fields}
use Rattle.order.proofs.Bools.{and_false}
use Rattle.order.proofs.Bound.{bound_other}
use Rattle.order.proofs.Ends.{Ends, reading_ends}
use Rattle.order.proofs.Sentences.{sup_functions, sub_functions, sup_functions_other, sub_functions_other, sup_fields_first, sub_fields_first, sup_fields_second, sub_fields_second}
use Rattle.order.proofs.Sentences.{sup_fields_both, sub_fields_both}
use Rattle.order.proofs.Size.{length_enc, length_tys}
use Rattle.types.specs.At.{Sig, sig, cons, fun_of, size_sig}
use Rattle.types.specs.Conform.{ignores_at}
use Rattle.types.proofs.ByCommand.{same_simple_lem, count_sig}
use Rattle.types.proofs.Reading.{cmd}
use Rattle.lattice.specs.Writing.{answer, answer_fields, answer_sig, enc_sig}

-- ---- the bytes of trees
pub enc_ctx : (fs : Fields) → count_fields fs < 65536 → enc (built (context fs)) ≡ 44 ∷ count_fields fs % 256 ∷ count_fields fs / 256 ∷ enc_fields fs
unfolding enc bytes
enc_ctx fs h =
    let e : count_fields fs / 256 % 256 ≡ count_fields fs / 256 = omega arith in
    ap (λ (z : ℕ). 44 ∷ count_fields fs % 256 ∷ z ∷ enc_fields fs) e

pub count_none : count_fields no_fields ≡ 0
unfolding count_fields
count_none = refl

-- ---- signatures
pub enc_fun : (f : Sig) → enc (fun_of f) ≡ 45 ∷ count_sig f ∷ enc_sig f
unfolding enc enc_sig
enc_fun (sig ps r) = refl

pub enc_cons : (t : Ty) (f : Sig) → enc_sig (cons t f) ≡ enc t ++ enc_sig f
unfolding enc enc_sig
enc_cons t (sig ps r) = append_assoc (enc t) (enc_tys ps) (enc r)

pub enc_result : (r : Ty) → enc_sig (sig no_params r) ≡ enc r
unfolding enc enc_sig
enc_result r = refl

pub length_sig : (f : Sig) → length (enc_sig f) ≡ size_sig f
unfolding enc_sig
length_sig (sig ps r) = omega (arith, length-append (enc_tys ps) (enc r), length_tys ps, length_enc r)

equal_counts : (ps qs : Tys) → count_tys ps ≡ count_tys qs → same_count ps qs ≡ true
unfolding same_count count_tys
equal_counts no_params no_params e = refl
equal_counts no_params (param b qs) e = absurd (omega arith)
equal_counts (param a ps) no_params e = absurd (omega arith)
equal_counts (param a ps) (param b qs) e = equal_counts ps qs (omega arith)

other_counts : (ps qs : Tys) → (count_tys ps ≡ count_tys qs → ⊥) → same_count ps qs ≡ false
unfolding same_count count_tys
other_counts no_params no_params e = absurd (e refl)
other_counts no_params (param b qs) e = refl
other_counts (param a ps) no_params e = refl
other_counts (param a ps) (param b qs) e = other_counts ps qs (λ h. e (ap suc h))

module _ (O : Order) where
  pub answer_cons : (d : Dir) (t u : Ty) (f g : Sig) → answer_sig O d (cons t f) (cons u g) ≡ cons (answer O (flip d) t u) (answer_sig O d f g)
  unfolding answer_sig bound reduce
  answer_cons d t u (sig ps r) (sig qs s) = refl

  pub answer_result : (d : Dir) (r s : Ty) → answer_sig O d (sig no_params r) (sig no_params s) ≡ sig no_params (answer O d r s)
  unfolding answer_sig bound reduce
  answer_result d r s = refl

  -- whether the result is ignored, by the count
  ignored_count : (ps : Tys) → ignores O ps ≡ ignores_at O (count_tys ps)
  unfolding count_tys
  ignored_count no_params = refl
  ignored_count (param t ps) = ap (λ q. not O.strict && q) (sym (ne_eqb (suc (count_tys ps)) 0 (λ e. omega arith)))

  count_bounds : (d : Dir) (ps qs : Tys) → count_tys ps ≡ count_tys qs → count_tys (reduce_tys O (bounds O d ps qs)) ≡ count_tys ps
  unfolding count_tys bound reduce
  count_bounds d no_params no_params e = refl
  count_bounds d no_params (param b qs) e = refl
  count_bounds d (param a ps) no_params e = absurd (omega arith)
  count_bounds d (param a ps) (param b qs) e = ap suc (count_bounds d ps qs (omega arith))

  pub count_answer : (d : Dir) (f g : Sig) → count_sig f ≡ count_sig g → count_sig (answer_sig O d f g) ≡ count_sig f
  unfolding answer_sig
  count_answer d (sig ps r) (sig qs s) e = count_bounds (flip d) ps qs e

  -- equal counts, with the results taken together; without them; other counts
  pub functions : (d : Dir) (f g : Sig) → count_sig f ≡ count_sig g → ignores_at O (count_sig f) ≡ false → answer O d (fun_of f) (fun_of g) ≡ fun_of (answer_sig O d f g)
  unfolding answer_sig
  functions up (sig ps r) (sig qs s) e h = sup_functions O ps qs r s (equal_counts ps qs e) ∙ ap (λ q. built (function (sub_tys O ps qs) (cond q (leaf any) (sup O r s)))) (ignored_count ps ∙ h)
  functions down (sig ps r) (sig qs s) e h = sub_functions O ps qs r s (equal_counts ps qs e) ∙ ap (λ q. built (function (sup_tys O ps qs) (cond q (leaf any) (sub O r s)))) (ignored_count ps ∙ h)

  pub functions_none : (d : Dir) (f g : Sig) → count_sig f ≡ count_sig g → ignores_at O (count_sig f) ≡ true → answer O d (fun_of f) (fun_of g) ≡ built (function no_params (leaf any))
  unfolding count_tys bound reduce same_count
  functions_none d (sig no_params r) (sig no_params s) e h = ap (λ q. built (function no_params (cond q (leaf any) (answer O d r s)))) (ignored_count no_params ∙ h)
  functions_none d (sig no_params r) (sig (param u qs) s) e h = absurd (omega arith)
  functions_none d (sig (param t ps) r) g e h = absurd (false≢true (sym (and_false (not O.strict)) ∙ ignored_count (param t ps) ∙ h))

  pub functions_other : (d : Dir) (f g : Sig) → (count_sig f ≡ count_sig g → ⊥) → answer O d (fun_of f) (fun_of g) ≡ leaf (top d)
  functions_other up (sig ps r) (sig qs s) h = sup_functions_other O ps qs r s (other_counts ps qs h)
  functions_other down (sig ps r) (sig qs s) h = sub_functions_other O ps qs r s (other_counts ps qs h)

  -- ---- lists, ranges, contexts
  pub lists : (d : Dir) (t u : Ty) → answer O d (built (list t)) (built (list u)) ≡ built (list (answer O d t u))
  unfolding bound reduce
  lists d t u = refl

  pub ranges : (d : Dir) (t u : Ty) → answer O d (built (range t)) (built (range u)) ≡ built (range (answer O d t u))
  unfolding bound reduce
  ranges d t u = refl

  pub contexts : (d : Dir) (fs gs : Fields) → answer O d (built (context fs)) (built (context gs)) ≡ built (context (answer_fields O d fs gs))
  unfolding bound reduce
  contexts d fs gs = refl

  pub fields_none : (d : Dir) → answer_fields O d no_fields no_fields ≡ no_fields
  unfolding bound reduce
  fields_none up = refl
  fields_none down = refl

  pub fields_both : (d : Dir) (n : ℕ) (a b : Ty) (fs gs : Fields) → AscFields fs (suc n) → answer_fields O d (field n a fs) (field n b gs) ≡ field n (answer O d a b) (answer_fields O d fs gs)
  fields_both up n a b fs gs w = sup_fields_both O n a b fs gs w
  fields_both down n a b fs gs w = sub_fields_both O n a b fs gs w

-- ---- the entries of an answer W: those that the next entry of one side or of both gives, F, and then R
pub record Piece (W F R : Fields) : Type 0 where
  pub text : enc_fields W ≡ enc_fields F ++ enc_fields R
  pub sized : size_fields W ≡ size_fields F + size_fields R
  pub many : count_fields W ≡ count_fields F + count_fields R

no_piece : (W F R : Fields) → W ≡ R → F ≡ no_fields → Piece W F R
unfolding enc size count_fields
no_piece W F R e f = rw (e, f) (record { text = refl; sized = omega arith; many = omega arith })

one_piece : (n : ℕ) (U : Ty) (W F R : Fields) → W ≡ field n U R → F ≡ field n U no_fields → Piece W F R
unfolding enc size count_fields
one_piece n U W F R e f = rw (e, f) (record { text = simp append_assoc; sized = omega arith; many = omega arith })

module _ (O : Order) where
  pub piece_first : (d : Dir) (n : ℕ) (t : Ty) (fs gs : Fields) → AscFields fs (suc n) → AscFields gs (suc n)
      → Piece (answer_fields O d (field n t fs) gs) (answer_fields O d (field n t no_fields) no_fields) (answer_fields O d fs gs)
  unfolding Asc
  piece_first up n t fs gs v w = no_piece _ _ _ (sup_fields_first O n t fs gs w) (sup_fields_first O n t no_fields no_fields tt ∙ fields_none O up)
  piece_first down n t fs gs v w =
      one_piece n (reduce O t) _ _ _ (sub_fields_first O n t fs gs v w) (sub_fields_first O n t no_fields no_fields tt tt ∙ ap (field n (reduce O t)) (fields_none O down))

  pub piece_second : (d : Dir) (n : ℕ) (t : Ty) (fs gs : Fields) → AscFields fs (suc n)
      → Piece (answer_fields O d fs (field n t gs)) (answer_fields O d (field n t no_fields) no_fields) (answer_fields O d fs gs)
  unfolding Asc
  piece_second up n t fs gs v = no_piece _ _ _ (sup_fields_second O fs n (suc n) t gs v (omega arith)) (sup_fields_first O n t no_fields no_fields tt ∙ fields_none O up)
  piece_second down n t fs gs v =
      one_piece n (reduce O t) _ _ _ (sub_fields_second O fs n (suc n) t gs v (omega arith))
      (sub_fields_first O n t no_fields no_fields tt tt ∙ ap (field n (reduce O t)) (fields_none O down))

  pub piece_both : (d : Dir) (n : ℕ) (t u : Ty) (fs gs : Fields) → AscFields fs (suc n)
      → Piece (answer_fields O d (field n t fs) (field n u gs)) (answer_fields O d (field n t no_fields) (field n u no_fields)) (answer_fields O d fs gs)
  unfolding Asc
  piece_both d n t u fs gs v =
      one_piece n (answer O d t u) _ _ _ (fields_both O d n t u fs gs v) (fields_both O d n t u no_fields no_fields tt ∙ ap (field n (answer O d t u)) (fields_none O d))

-- the other direction, as a flag
pub turned : (q : Bool) → toward (not q) ≡ flip (toward q)
turned true = refl
turned false = refl

-- the greatest in the other direction is the least
pub least_code : (q : Bool) → 32 + code (top (toward (not q))) ≡ 32 + code (bottom (toward q))
least_code true = refl
least_code false = refl

low_bottom : (d : Dir) → code (bottom d) < 10
low_bottom up = omega arith
low_bottom down = omega arith

-- ---- over an order with its ends
module _ {O : Order} (L : Ends O) where
  simple_self : (d : Dir) (s : Simple) → sbound O d s s ≡ s
  simple_self up s = L.join_same s
  simple_self down s = L.meet_same s

  -- a type with itself is its reduced form
  mutual
    unfolding bound reduce Asc

    pub self : (d : Dir) (t : Ty) → Asc t → answer O d t t ≡ reduce O t
    self d (leaf s) w = ap leaf (simple_self d s)
    self d (built x) w = self_built d x w

    self_built : (d : Dir) (x : Built) → AscBuilt x → answer O d (built x) (built x) ≡ reduce O (built x)
    self_built d (list t) w = ap (λ z. built (list z)) (self d t w)
    self_built d (range t) w = ap (λ z. built (range z)) (self d t w)
    self_built d (context fs) w = ap (λ z. built (context z)) (self_fields d fs 0 w)
    self_built up (function ps r) w =
        sup_functions O ps ps r r (equal_counts ps ps refl)
        ∙ ap₂ (λ (x : Tys) (y : Ty). built (function x (cond (ignores O ps) (leaf any) y))) (self_tys down ps w.0) (self up r w.1)
    self_built down (function ps r) w =
        sub_functions O ps ps r r (equal_counts ps ps refl)
        ∙ ap₂ (λ (x : Tys) (y : Ty). built (function x (cond (ignores O ps) (leaf any) y))) (self_tys up ps w.0) (self down r w.1)

    self_fields : (d : Dir) (fs : Fields) (k : ℕ) → AscFields fs k → answer_fields O d fs fs ≡ reduce_fields O fs
    self_fields d no_fields k w = fields_none O d
    self_fields d (field n t fs) k w = fields_both O d n t t fs fs w.2 ∙ ap₂ (field n) (self d t w.1) (self_fields d fs (suc n) w.2)

    self_tys : (d : Dir) (ps : Tys) → AscTys ps → reduce_tys O (bounds O d ps ps) ≡ reduce_tys O ps
    self_tys d no_params w = refl
    self_tys d (param t ps) w = ap₂ param (self d t w.0) (self_tys d ps w.1)

  -- equal simple types
  pub leaves : (d : Dir) (s t : Simple) → s ≡ t → answer O d (leaf s) (leaf t) ≡ leaf s
  unfolding bound reduce
  leaves d s t e = ap (λ (x : Simple). leaf (sbound O d s x)) (sym e) ∙ ap leaf (simple_self d s)

  -- the least in the direction with u: the reduced u
  least_simple : (d : Dir) (t : Simple) → sbound O d (bottom d) t ≡ t
  least_simple up t = L.null_join t
  least_simple down t = L.any_meet t

  least_simple_right : (d : Dir) (s : Simple) → sbound O d s (bottom d) ≡ s
  least_simple_right up s = L.join_null s
  least_simple_right down s = L.meet_any s

  -- the least is below itself
  least_least : (d : Dir) → scmp O d (bottom d) (bottom d) ≡ true
  least_least up = L.reflexive null
  least_least down = L.reflexive any

  pub least : (d : Dir) (t u : Ty) → cmd t ≡ 32 + code (bottom d) → (size t ≡ 1) × (answer O d t u ≡ reduce O u)
  unfolding bound reduce size
  least d (leaf s) (leaf t) e = (refl, ap (λ (x : Simple). leaf (sbound O d x t)) (same_simple_lem s (bottom d) e) ∙ ap leaf (least_simple d t))
  least d (leaf s) (built y) e =
      (refl, ap (λ (x : Simple). answer O d (leaf x) (built y)) (same_simple_lem s (bottom d) e) ∙ ap (λ q. reduce O (cond q (built y) (leaf (top d)))) (least_least d))
  least d (built (list t)) u e = absurd (omega (arith, low_bottom d))
  least d (built (range t)) u e = absurd (omega (arith, low_bottom d))
  least d (built (context fs)) u e = absurd (omega (arith, low_bottom d))
  least d (built (function ps r)) u e = absurd (omega (arith, low_bottom d))

  pub least_right : (d : Dir) (t u : Ty) → cmd u ≡ 32 + code (bottom d) → (size u ≡ 1) × (answer O d t u ≡ reduce O t)
  unfolding bound reduce size
  least_right d (leaf s) (leaf t) e = (refl, ap (λ (x : Simple). leaf (sbound O d s x)) (same_simple_lem t (bottom d) e) ∙ ap leaf (least_simple_right d s))
  least_right d (built x) (leaf t) e =
      (refl, ap (λ (z : Simple). answer O d (built x) (leaf z)) (same_simple_lem t (bottom d) e) ∙ ap (λ q. reduce O (cond q (built x) (leaf (top d)))) (least_least d))
  least_right d t (built (list u)) e = absurd (omega (arith, low_bottom d))
  least_right d t (built (range u)) e = absurd (omega (arith, low_bottom d))
  least_right d t (built (context fs)) e = absurd (omega (arith, low_bottom d))
  least_right d t (built (function ps r)) e = absurd (omega (arith, low_bottom d))

-- ---- other commands that are not equal: what a table says of two of 21 to 28, otherwise the greatest in the direction
cond_same : (q : Bool) (x : ℕ) → cond q x x ≡ x
cond_same true x = refl
cond_same false x = refl

built_outer : (x : Built) → is_inner (cmd (built x) - 32) ≡ false
built_outer (list t) = refl
built_outer (range t) = refl
built_outer (context fs) = refl
built_outer (function ps r) = refl

cmd_kind : (x : Built) → cmd (built x) ≡ 42 + kind x
cmd_kind (list t) = refl
cmd_kind (range t) = refl
cmd_kind (context fs) = refl
cmd_kind (function ps r) = refl

module _ (reading : ℕ) (d : Dir) where
  greatest : (k : ℕ) → k ≡ code (top d) → leaf (top d) ≡ leaf (decode k)
  greatest k e = sym (ap (λ (x : ℕ). leaf (decode x)) e ∙ ap leaf (decode_code (top d)))

  -- of all but the eight, as the first or as the second
  outer_nearest : (i j : ℕ) → is_inner i && is_inner j ≡ false → leaf (top d) ≡ leaf (decode (nearest reading d i j))
  outer_nearest i j e = greatest (nearest reading d i j)
      (ap (λ q. cond (ltb reading 2) (code (top d)) (cond q (narrowed (closer reading d i j) (code (top d)) 1 8) (code (top d)))) e ∙ cond_same (ltb reading 2) (code (top d)))

  built_nearest : (x : Built) (j : ℕ) → leaf (top d) ≡ leaf (decode (nearest reading d (cmd (built x) - 32) j))
  built_nearest x j = outer_nearest (cmd (built x) - 32) j (ap (λ q. q && is_inner j) (built_outer x))

  nearest_built : (i : ℕ) (y : Built) → leaf (top d) ≡ leaf (decode (nearest reading d i (cmd (built y) - 32)))
  nearest_built i y = outer_nearest i (cmd (built y) - 32) (ap (λ q. is_inner i && q) (built_outer y) ∙ and_false (is_inner i))

module _ (reading : ℕ) where
  other_simple : (d : Dir) (s t : Simple) → (32 + code s ≡ 32 + code t → ⊥) → (32 + code s ≡ 32 + code (bottom d) → ⊥) → (32 + code t ≡ 32 + code (bottom d) → ⊥)
      → sbound (order_of reading) d s t ≡ decode (nearest reading d (code s) (code t))
  other_simple up s t h n x =
      let far = decode (nearest reading up (code s) (code t)) in
      ap (λ q. cond q t (cond (same t null) s (cond (same s t) s far))) (ne_eqb (code s) 9 (λ e. n (omega arith)))
      ∙ ap (λ q. cond q s (cond (same s t) s far)) (ne_eqb (code t) 9 (λ e. x (omega arith)))
      ∙ ap (λ q. cond q s far) (ne_eqb (code s) (code t) (λ e. h (omega arith)))
  other_simple down s t h n x =
      let far = decode (nearest reading down (code s) (code t)) in
      ap (λ q. cond q t (cond (same t any) s (cond (same s t) s far))) (ne_eqb (code s) 0 (λ e. n (omega arith)))
      ∙ ap (λ q. cond q s (cond (same s t) s far)) (ne_eqb (code t) 0 (λ e. x (omega arith)))
      ∙ ap (λ q. cond q s far) (ne_eqb (code s) (code t) (λ e. h (omega arith)))

  not_least : (d : Dir) (s : Simple) → (32 + code s ≡ 32 + code (bottom d) → ⊥) → scmp (order_of reading) d s (bottom d) ≡ false
  not_least up s n = (reading_ends reading).to_null s ∙ ne_eqb (code s) 9 (λ e. n (omega arith))
  not_least down s n = (reading_ends reading).from_any s ∙ ne_eqb (code s) 0 (λ e. n (omega arith))

  pub other : (d : Dir) (t u : Ty) → (cmd t ≡ cmd u → ⊥) → (cmd t ≡ 32 + code (bottom d) → ⊥) → (cmd u ≡ 32 + code (bottom d) → ⊥)
      → answer (order_of reading) d t u ≡ leaf (decode (nearest reading d (cmd t - 32) (cmd u - 32)))
  unfolding bound reduce
  other d (leaf s) (leaf t) h n x =
      let i : 32 + code s - 32 ≡ code s = omega arith in
      let j : 32 + code t - 32 ≡ code t = omega arith in
      ap leaf (other_simple d s t h n x ∙ sym (ap₂ (λ (a b : ℕ). decode (nearest reading d a b)) i j))
  other d (leaf s) (built y) h n x =
      ap (λ q. reduce (order_of reading) (cond q (built y) (leaf (top d)))) (not_least d s n) ∙ nearest_built reading d (cmd (leaf s) - 32) y
  other d (built z) (leaf t) h n x =
      ap (λ q. reduce (order_of reading) (cond q (built z) (leaf (top d)))) (not_least d t x) ∙ built_nearest reading d z (cmd (leaf t) - 32)
  other d (built z) (built y) h n x =
      ap (reduce (order_of reading)) (bound_other (order_of reading) d z y (ne_eqb (kind z) (kind y) (λ e. h (cmd_kind z ∙ ap (λ (k : ℕ). 42 + k) e ∙ sym (cmd_kind y)))))
      ∙ built_nearest reading d z (cmd (built y) - 32)
