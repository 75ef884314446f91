-- Two ascending lists of names taken in step: entries of some kind (of a context type, of a context) against the entries of a context type.
-- The verdict on the whole is that on what is left of both, behind what was passed, whether it is read or not (`NamesGo`). What the first list is made
-- of, and what a common name is held to, are told by two records (`Run`, `Tests`), so that every such loop cites the same laws.
-- Index: `Run`, `Tests`, `fields_run`, `named_on`, `readable_type` (what is given); `NamesGo`, `names_start`, `names_done`, `names_left` (start and end); `cut_a`, `cut_b`, `falls_a`
-- (a name at fault); `names_missing`, `names_unread`, `names_skip` (a name of one list only); `names_common`, `names_apart`, `b_more` (a common name).
-- Assumes nothing.
use Prim.Native.Nat.{ℕ, suc, ◌+◌, ◌-◌, ◌<◌, ◌≤◌}
use mathlib.Core.Path.{◌≡◌, refl, sym, ap, ap₂, subst, ◌∙◌}
use mathlib.Core.Bool.{Bool, true, false, cond, ◌&&◌}
use mathlib.Core.Option.{Option, some}
use mathlib.Core.List.{List}
use native.Mathlib.Omega.{arith}
use native.Mathlib.Numerals.{add-one}
use lib.ListN.{length, take, drop, length-drop}
use lib.Seq.{drop-drop}
use lib.Dec.{ltb}
use borrow.Author.Tests.{le-leb}
use Rattle.form.specs.Trees.{Ty, Fields, no_fields, field}
use Rattle.form.specs.Limits.{name_width, name_end}
use Rattle.form.specs.Form.{num, num_at}
use Rattle.form.specs.Read.{Got, got, or_else, operand, named, and_then, read_named, read_t, ascending}
use Rattle.order.specs.Ascending.{AscFields}
use Rattle.order.specs.Size.{size, size_fields}
use Rattle.form.proofs.Runs.{step}
use Rattle.order.proofs.Size.{size_positive}
use Rattle.types.specs.At.{seen, type_at, fields_at}
use Rattle.types.specs.Conform.{Conform, judge, conform_by, add_sizes, Met}
use Rattle.types.proofs.Reading.{seen_got, type_told, t_good, fields_good}
use Rattle.types.proofs.ChildAt.{EntryAt}
use Rattle.types.proofs.Entries.{Here, here, ahead, next_is}
use Rattle.types.proofs.Pairs.{map_o, map_o_same, seen_front, both, no_when, mapped, met_yes, met_no, grown_on, grown_none, Readable, Sized, sized_in, Pair, MetAt, pair_no, pair_in}

-- a list of names, each with what stands behind it, as it is read
pub record Run {X N : Type 0} (sx : X → ℕ) (sn : N → ℕ) (one : List ℕ → Option X) (many : ℕ → ℕ → List ℕ → Option N) (nil : N) (cons : ℕ → X → N → N) (Asc : N → ℕ → Type 0) : Type 0 where
  pub readable : Readable sx one
  pub size_nil : sn nil ≡ 0
  pub size_cons : (n : ℕ) (x : X) (fs : N) → sn (cons n x fs) ≡ name_width + sx x + sn fs
  pub none : (least : ℕ) (s : List ℕ) → many 0 least s ≡ some nil
  pub on : (n least : ℕ) (s : List ℕ) (x : X) → name_width ≤ length s → least ≤ num (take name_width s) → one (drop name_width s) ≡ some x
      → many (suc n) least s ≡ map_o (cons (num (take name_width s)) x) (many n (num (take name_width s) + 1) (drop (sx x) (drop name_width s)))
  pub back : (i n at least : ℕ) (s : List ℕ) (fs : N) → i < n → many (n - i) least (drop at s) ≡ some fs → EntryAt sx sn Asc one many cons suc (n - (i + 1)) at least s fs

-- a test of two lists, name by name
pub record Tests {X N : Type 0} (nil : N) (cons : ℕ → X → N → N) (Asc : N → ℕ → Type 0) (test : X → Ty → Bool) (all : N → Fields → Bool) : Type 0 where
  pub done : all nil no_fields ≡ true
  pub left : (m : ℕ) (u : Ty) (gs : Fields) → all nil (field m u gs) ≡ false
  pub first : (n : ℕ) (x : X) (fs : N) (gs : Fields) → AscFields gs (suc n) → all (cons n x fs) gs ≡ all fs gs
  pub missing : (n : ℕ) (x : X) (fs : N) (m : ℕ) (u : Ty) (gs : Fields) → Asc fs (suc n) → m < n → all (cons n x fs) (field m u gs) ≡ false
  pub common : (n : ℕ) (x : X) (u : Ty) (fs : N) (gs : Fields) → AscFields gs (suc n) → all (cons n x fs) (field n u gs) ≡ test x u && all fs gs

-- ---- the reader forward
pub named_on : {X N : Type 0} (sx : X → ℕ) (nil : N) (cons : ℕ → X → N → N) (child : List ℕ → Got X) → ((s : List ℕ) (x : X) (m : ℕ) → child s ≡ got x m → m ≡ sx x)
    → (n least : ℕ) (s : List ℕ) (x : X) → name_width ≤ length s → least ≤ num (take name_width s) → seen (child (drop name_width s)) ≡ some x
    → seen (read_named nil cons ascending child (suc n) least s) ≡ map_o (cons (num (take name_width s)) x)
    (seen (read_named nil cons ascending child n (num (take name_width s) + 1) (drop (sx x) (drop name_width s))))
unfolding read_named operand named or_else and_then
named_on sx nil cons child told n least s x w h e =
    seen_got (child (drop name_width s)) x e (λ m r.
    rw (le-leb name_width (length s) w, le-leb least (num (take name_width s)) h, r, ← told (drop name_width s) x m r)
    (seen_front (cons (num (take name_width s)) x) (name_width + m) (read_named nil cons ascending child n (num (take name_width s) + 1) (drop m (drop name_width s)))))

pub readable_type : (l : ℕ) → Readable size (type_at l)
readable_type l = record { positive = size_positive; inside = λ s x e. (t_good l s x e).1 }

-- the entries of a context type
pub fields_run : (l : ℕ) → Run size size_fields (type_at l) (fields_at l) no_fields field AscFields
unfolding size type_at fields_at seen read_named
fields_run l = record {
  readable = readable_type l;
  size_nil = refl;
  size_cons = λ n x fs. refl;
  none = λ least s. refl;
  on = λ n least s x w h e. named_on size no_fields field (read_t l) (λ r y m f. (type_told l r y m f).sized) n least s x w h e;
  back = here l;
}

module _ {X N : Type 0} {sx : X → ℕ} {sn : N → ℕ} {one : List ℕ → Option X} {many : ℕ → ℕ → List ℕ → Option N} {nil : N} {cons : ℕ → X → N → N} {Asc : N → ℕ → Type 0}
    (R : Run sx sn one many nil cons Asc) (i n at least : ℕ) (a : List ℕ) where
  -- an entry that stands at `at`
  entry_at : (name : ℕ) (x : X) → i < n → at + name_width ≤ length a → name ≡ num_at name_width at a → least ≤ name → one (drop (at + name_width) a) ≡ some x
      → many (n - i) least (drop at a) ≡ map_o (cons name x) (many (n - (i + 1)) (name + 1) (drop (at + name_width + sx x) a))
  entry_at name x h w ne o e =
      ap (λ k. many k least (drop at a)) (step i n h)
      ∙ R.on (n - (i + 1)) least (drop at a) x (simp length-drop (omega arith)) (omega (arith, ne)) (ap one (drop-drop name_width at a) ∙ e)
      ∙ ap₂ (λ k r. map_o (cons k x) (many (n - (i + 1)) (k + 1) r)) (sym ne) (ap (drop (sx x)) (drop-drop name_width at a) ∙ drop-drop (sx x) (at + name_width) a)

  none_at : n ≤ i → many (n - i) least (drop at a) ≡ some nil
  none_at h = let z : n - i ≡ 0 = omega arith in ap (λ k. many k least (drop at a)) z ∙ R.none least (drop at a)

-- ---- the verdict on the whole is that on what is left, behind what was passed
pub record NamesGo {X N : Type 0} (sx : X → ℕ) (sn : N → ℕ) (one : List ℕ → Option X) (many : ℕ → ℕ → List ℕ → Option N) (nil : N) (cons : ℕ → X → N → N) (Asc : N → ℕ → Type 0) (test : X → Ty → Bool)
    (all : N → Fields → Bool) (l : ℕ) (whole : Conform) (a : List ℕ) (n : ℕ) (b : List ℕ) (m at least i bt j : ℕ) : Type 0 where
  pub run : Run sx sn one many nil cons Asc
  pub tests : Tests nil cons Asc test all
  pub least_b : ℕ
  pub under : least_b ≤ least
  pub below_a : i ≤ n
  pub below_b : j ≤ m
  pub in_a : at ≤ length a
  pub in_b : bt ≤ length b
  pub goes : whole ≡ add_sizes at bt (conform_by sn size_fields all (many (n - i) least (drop at a)) (fields_at l (m - j) least_b (drop bt b)))

pub names_start : {X N : Type 0} {sx : X → ℕ} {sn : N → ℕ} {one : List ℕ → Option X} {many : ℕ → ℕ → List ℕ → Option N} {nil : N} {cons : ℕ → X → N → N} {Asc : N → ℕ → Type 0} {test : X → Ty → Bool}
    {all : N → Fields → Bool}
    → Run sx sn one many nil cons Asc → Tests nil cons Asc test all → (l : ℕ) (a : List ℕ) (n : ℕ) (b : List ℕ) (m : ℕ)
    → NamesGo sx sn one many nil cons Asc test all l (conform_by sn size_fields all (many n 0 a) (fields_at l m 0 b)) a n b m 0 0 0 0 0
names_start {sn = sn} {many = many} {all = all} R T l a n b m =
    let x : n ≡ n - 0 = omega arith in
    let y : m ≡ m - 0 = omega arith in
    record {
      run = R;
      tests = T;
      least_b = 0;
      under = omega arith;
      below_a = omega arith;
      below_b = omega arith;
      in_a = omega arith;
      in_b = omega arith;
      goes = ap₂ (λ p q. conform_by sn size_fields all (many p 0 a) (fields_at l q 0 b)) x y ∙ grown_none (conform_by sn size_fields all (many (n - 0) 0 a) (fields_at l (m - 0) 0 b));
    }

module _ {X N : Type 0} {sx : X → ℕ} {sn : N → ℕ} {one : List ℕ → Option X} {many : ℕ → ℕ → List ℕ → Option N} {nil : N} {cons : ℕ → X → N → N} {Asc : N → ℕ → Type 0} {test : X → Ty → Bool}
    {all : N → Fields → Bool} {l : ℕ} {whole : Conform} {a : List ℕ} {n : ℕ} {b : List ℕ} {m at least i bt j : ℕ} (v : NamesGo sx sn one many nil cons Asc test all l whole a n b m at least i bt j)
    (k t : ℕ) where
  -- no, since what is left fails
  names_no : ((fs : N) (gs : Fields) → many (n - i) least (drop at a) ≡ some fs → fields_at l (m - j) v.least_b (drop bt b) ≡ some gs → all fs gs ≡ false) → Met (add_sizes k k whole) 0 t
  names_no f = met_no 0 t (ap (add_sizes k k) (v.goes ∙ ap (add_sizes at bt) (no_when sn size_fields all (many (n - i) least (drop at a)) (fields_at l (m - j) v.least_b (drop bt b)) f))) refl

  at_a : i < n → (fs : N) → many (n - i) least (drop at a) ≡ some fs → EntryAt sx sn Asc one many cons suc (n - (i + 1)) at least a fs
  at_a h fs e = v.run.back i n at least a fs h e

  at_b : j < m → (gs : Fields) → fields_at l (m - j) v.least_b (drop bt b) ≡ some gs → Here l (m - (j + 1)) bt v.least_b b gs
  at_b h gs e = here l j m bt v.least_b b gs h e

  -- a name that is not there whole
  pub cut_a : i < n → length a - at < name_width → Met (add_sizes k k whole) 0 t
  cut_a h w = names_no (λ fs gs e f. absurd (let A = at_a h fs e in omega (arith, A.two)))

  pub cut_b : j < m → length b - bt < name_width → Met (add_sizes k k whole) 0 t
  cut_b h w = names_no (λ fs gs e f. absurd (let B = at_b h gs f in omega (arith, B.two)))

  -- one that is too small
  pub falls_a : i < n → (name : ℕ) → name ≡ num_at name_width at a → name < least → Met (add_sizes k k whole) 0 t
  falls_a h name ne c = names_no (λ fs gs e f. absurd (let A = at_a h fs e in omega (arith, A.named, A.above, ne)))

  -- the first is at its end
  pub names_left : n ≤ i → j < m → Met (add_sizes k k whole) 0 t
  names_left h q = names_no (λ fs gs e f. let B = at_b q gs f in ap₂ all (at_end_lem fs e) B.is ∙ v.tests.left B.name B.x B.more)
    where
      at_end_lem : (fs : N) → many (n - i) least (drop at a) ≡ some fs → fs ≡ nil
      at_end_lem fs e = let g = none_at v.run i n at least a h in cc

  pub names_done : n ≤ i → m ≤ j → (r : ℕ) → r ≡ at + k → t ≡ bt + k → Met (add_sizes k k whole) r t
  names_done h q r p s =
      let e = both sn size_fields all (many (n - i) least (drop at a)) (fields_at l (m - j) v.least_b (drop bt b)) nil no_fields (none_at v.run i n at least a h)
      (none_at (fields_run l) j m bt v.least_b b q) in
      let f = ap (λ z. judge z (sn nil) (size_fields no_fields)) v.tests.done in
      met_yes (ap (add_sizes k k) (v.goes ∙ ap (add_sizes at bt) (e ∙ f))) (omega (arith, p, v.run.size_nil)) (omega (arith, s, (fields_run l).size_nil))

  module _ (h : i < n) (w : at + name_width ≤ length a) (name next : ℕ) (ne : name ≡ num_at name_width at a) (above : least ≤ name) (small : name < name_end)
      (ye : next ≡ cond (ltb j m) (num_at name_width bt b) name_end) where
    -- a name of the second that the first lacks
    pub names_missing : next < name → Met (add_sizes k k whole) 0 t
    names_missing q = names_no (λ fs gs e f.
        let E = next_is j m (num_at name_width bt b) next ye (omega arith) in
        let A = at_a h fs e in
        let B = at_b E.0 gs f in
        ap₂ all A.is B.is ∙ v.tests.missing A.name A.x A.more B.name B.x B.more A.asc (omega (arith, A.named, B.named, E.1, ne)))

    -- a name of the first that the second lacks: what stands behind it is passed over
    pub names_unread : ((x : X) → one (drop (at + name_width) a) ≡ some x → ⊥) → Met (add_sizes k k whole) 0 t
    names_unread u = names_no (λ fs gs f g. absurd (let A = at_a h fs f in u A.x A.first))

    pub names_skip : name < next → (z : ℕ) → Sized sx one (drop (at + name_width) a) z → NamesGo sx sn one many nil cons Asc test all l whole a n b m (at + name_width + z) (name + 1) (i + 1) bt j
    names_skip q z S =
        let A = many (n - (i + 1)) (name + 1) (drop (at + name_width + z) a) in
        let B = fields_at l (m - j) v.least_b (drop bt b) in
        let ea : many (n - i) least (drop at a) ≡ map_o (cons name S.x) A = entry_at v.run i n at least a name S.x h w ne above S.read
        ∙ ap (λ x. map_o (cons name S.x) (many (n - (i + 1)) (name + 1) (drop (at + name_width + x) a))) (sym S.is) in
        let s = S.is in
        let o : at + (name_width + z) ≡ at + name_width + z = omega arith in
        let o' : bt + 0 ≡ bt = omega arith in
        record {
          run = v.run;
          tests = v.tests;
          least_b = v.least_b;
          under = omega (arith, v.under);
          below_a = omega arith;
          below_b = v.below_b;
          in_a = sized_in v.run.readable a (at + name_width) z w S;
          in_b = v.in_b;
          goes = v.goes ∙ ap (add_sizes at bt) (ap₂ (conform_by sn size_fields all) ea (sym (map_o_same B))
              ∙ mapped sn size_fields all sn size_fields all (cons name S.x) (λ x. x) (name_width + z) 0 A B
              (λ fs gs e f. v.tests.first name S.x fs gs (ahead l j m bt v.least_b b gs f name next ye q)) (λ x e. omega (arith, v.run.size_cons name S.x x))
              (λ x. omega arith))
              ∙ grown_on at bt (name_width + z) 0 (conform_by sn size_fields all A B) ∙ ap₂ (λ p r. add_sizes p r (conform_by sn size_fields all A B)) o o';
        }

    -- a common name
    module _ (lo : next ≤ name) (hi : name ≤ next) where
      pub b_more : j < m
      b_more = (next_is j m (num_at name_width bt b) next ye (omega arith)).0

      b_named : name ≡ num_at name_width bt b
      b_named = omega (arith, (next_is j m (num_at name_width bt b) next ye (omega arith)).1)

      pub names_apart : (r s : ℕ) → MetAt v.run.readable (readable_type l) test a (at + name_width) b (bt + name_width) r s → r ≡ 0 → Met (add_sizes k k whole) 0 t
      names_apart r s e z = names_no (λ fs gs f g.
          let A = at_a h fs f in
          let B = at_b b_more gs g in
          let same : B.name ≡ A.name = omega (arith, A.named, B.named, ne, b_named) in
          ap₂ all A.is (B.is ∙ ap (λ x. field x B.x B.more) same)
          ∙ v.tests.common A.name A.x B.x A.more B.more (subst (λ (x : ℕ). AscFields B.more (suc x)) same B.asc)
          ∙ ap (λ x. x && all A.more B.more) (pair_no v.run.readable (readable_type l) test a (at + name_width) b (bt + name_width) r s e z A.x B.x
          A.first B.first))

      pub names_common : bt + name_width ≤ length b → (r s : ℕ) → Pair v.run.readable (readable_type l) test a (at + name_width) b (bt + name_width) r s
          → NamesGo sx sn one many nil cons Asc test all l whole a n b m (at + name_width + r) (name + 1) (i + 1) (bt + name_width + s) (j + 1)
      names_common u r s P =
          let jm = b_more in
          let I = pair_in v.run.readable (readable_type l) test a (at + name_width) b (bt + name_width) r s w u P in
          let A = many (n - (i + 1)) (name + 1) (drop (at + name_width + r) a) in
          let B = fields_at l (m - (j + 1)) (name + 1) (drop (bt + name_width + s) b) in
          let ea : many (n - i) least (drop at a) ≡ map_o (cons name P.x) A = entry_at v.run i n at least a name P.x h w ne above P.read_a
          ∙ ap (λ x. map_o (cons name P.x) (many (n - (i + 1)) (name + 1) (drop (at + name_width + x) a))) (sym P.size_a) in
          let eb : fields_at l (m - j) v.least_b (drop bt b) ≡ map_o (field name P.y) B = entry_at (fields_run l) j m bt v.least_b b name P.y jm u b_named (omega (arith, v.under))
          P.read_b ∙ ap (λ x. map_o (field name P.y) (fields_at l (m - (j + 1)) (name + 1) (drop (bt + name_width + x) b))) (sym P.size_b) in
          let sa = P.size_a in
          let sb = P.size_b in
          let o : at + (name_width + r) ≡ at + name_width + r = omega arith in
          let o' : bt + (name_width + s) ≡ bt + name_width + s = omega arith in
          record {
            run = v.run;
            tests = v.tests;
            least_b = name + 1;
            under = omega arith;
            below_a = omega arith;
            below_b = omega arith;
            in_a = I.0;
            in_b = I.1;
            goes = v.goes ∙ ap (add_sizes at bt) (ap₂ (conform_by sn size_fields all) ea eb
                ∙ mapped sn size_fields all sn size_fields all (cons name P.x) (field name P.y) (name_width + r) (name_width + s) A B
                (λ fs gs e f. v.tests.common name P.x P.y fs gs (rw add-one at (fields_good l (m - (j + 1)) (name + 1) (drop (bt + name_width + s) b) gs f).0)
                ∙ ap (λ x. x && all fs gs) P.holds) (λ x e. omega (arith, v.run.size_cons name P.x x)) (λ x. omega (arith, (fields_run l).size_cons name P.y x)))
                ∙ grown_on at bt (name_width + r) (name_width + s) (conform_by sn size_fields all A B) ∙ ap₂ (λ p q. add_sizes p q (conform_by sn size_fields all A B)) o o';
          }
