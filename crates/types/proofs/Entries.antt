-- The entries of a context type, one after the other: what stands at an index, and which names are still to come.
-- Index: `Here`, `here`, `gone` (the next entry, or none); `ahead`, `next_is`, `at_end_lem` (names still to come); `skip_is`, `skip_short`, `size_got` (what `skip` answers);
-- `size_field`, `size_none`, `enc_field`, `enc_none`, `count_field`.
-- Assumes nothing.
use Prim.Native.Nat.{ℕ, suc, ◌+◌, ◌-◌, ◌<◌, ◌≤◌}
use mathlib.Core.Path.{◌≡◌, refl, sym, ap, ◌∙◌}
use mathlib.Core.Bool.{Bool, true, false, cond}
use mathlib.Core.Option.{Option, some}
use mathlib.Core.List.{List, [], ◌++◌}
use native.Mathlib.Omega.{arith}
use lib.ListN.{drop}
use lib.Dec.{ltb}
use borrow.Author.Tests.{ltb-true, ltb-false}
use Rattle.form.specs.Trees.{Ty, Fields, no_fields, field, simple}
use Rattle.form.specs.Limits.{name_width, name_end}
use Rattle.form.specs.Form.{num_at, bytes, enc, enc_fields, count_fields}
use Rattle.form.specs.Read.{read_t, read_named}
use Rattle.std.specs.declared.option.Option.TheVariants.{Some}
use Rattle.form.specs.Walks.{walk_of, size_in, Short}
use Rattle.form.specs.Form.{level}
use Rattle.form.proofs.WalkAnswers.{short_end}
use Rattle.form.proofs.TypeLaws.{simple_level}
use Rattle.order.specs.Ascending.{Asc, AscFields}
use Rattle.order.specs.Size.{size, size_fields}
use Rattle.types.specs.At.{seen, type_at, fields_at, size_at}
use Rattle.types.proofs.Reading.{walk_size, type_told, t_good, fields_sizes}
use Rattle.form.proofs.Runs.{step}
use Rattle.types.proofs.ChildAt.{EntryAt, entry_at, none_at}

-- ---- what `skip` answers
pub skip_is : (l : ℕ) (s : List ℕ) → size_in (walk_of level (read_t l s)) ≡ size_at (type_at l s)
unfolding type_at size_at
skip_is l s = walk_size level size_at (λ t. refl) refl (read_t l) (type_told l) s (read_t l s) refl

pub skip_short : (l : ℕ) (s : List ℕ) (n room : ℕ) → Short simple (read_t l s) (Some n) room → n ≡ size_at (type_at l s)
skip_short l s n room h = ap size_in (sym (short_end level simple simple_level (read_t l s) n room h)) ∙ skip_is l s

pub size_got : (r : Option Ty) (t : Ty) → r ≡ some t → size_at r ≡ size t
unfolding size_at
size_got r t e = ap size_at e

-- ---- an entry that stands at `at`, of which n follow
abbrev pub Here : (l n at least : ℕ) → List ℕ → Fields → Type 0
Here l n at least a fs = EntryAt size size_fields AscFields (type_at l) (fields_at l) field suc n at least a fs

pub here : (l i n at least : ℕ) (a : List ℕ) (fs : Fields) → i < n → fields_at l (n - i) least (drop at a) ≡ some fs → Here l (n - (i + 1)) at least a fs
unfolding fields_at type_at
here l i n at least a fs h e = entry_at fields_sizes (read_t l) (type_told l) (n - (i + 1)) at least a fs (ap (λ z. fields_at l z least (drop at a)) (sym (step i n h)) ∙ e)

pub gone : (l i n at least : ℕ) (a : List ℕ) (fs : Fields) → n ≤ i → fields_at l (n - i) least (drop at a) ≡ some fs → fs ≡ no_fields
unfolding fields_at seen read_named
gone l i n at least a fs h e = none_at no_fields fs (λ k. fields_at l k least (drop at a)) i n refl h e

-- all names are above x, since the next one is, or there is none
pub ahead : (l j m bt least : ℕ) (b : List ℕ) (gs : Fields) → fields_at l (m - j) least (drop bt b) ≡ some gs → (x y : ℕ) → y ≡ cond (ltb j m) (num_at name_width bt b) name_end → x < y
    → AscFields gs (suc x)
unfolding Asc
ahead l j m bt least b gs e x y p h = go (ltb j m) refl
  where
    go : (q : Bool) → ltb j m ≡ q → AscFields gs (suc x)
    go true s =
        let B = here l j m bt least b gs (ltb-true j m s) e in
        let r : y ≡ num_at name_width bt b = p ∙ ap (λ z. cond z (num_at name_width bt b) name_end) s in
        rw B.is (omega (arith, B.named), (t_good l (drop (bt + name_width) b) B.x B.first).0, B.asc)
    go false s = rw (gone l j m bt least b gs (ltb-false j m s) e) tt

-- the next name is y, if y is a name
pub next_is : (j m v y : ℕ) → y ≡ cond (ltb j m) v name_end → y < name_end → (j < m) × (y ≡ v)
next_is j m v y p h = go (ltb j m) refl
  where
    go : (q : Bool) → ltb j m ≡ q → (j < m) × (y ≡ v)
    go true s = (ltb-true j m s, p ∙ ap (λ z. cond z v name_end) s)
    go false s = absurd (let r : y ≡ name_end = p ∙ ap (λ z. cond z v name_end) s in omega arith)

pub at_end_lem : (i n x : ℕ) → (i < n → x < name_end) → x ≡ name_end → n ≤ i
at_end_lem i n x h e = go (ltb i n) refl
  where
    go : (q : Bool) → ltb i n ≡ q → n ≤ i
    go true s = absurd (let z = h (ltb-true i n s) in omega arith)
    go false s = ltb-false i n s

pub enc_field : (m : ℕ) (t : Ty) (fs : Fields) → enc_fields (field m t fs) ≡ bytes name_width m ++ (enc t ++ enc_fields fs)
unfolding enc
enc_field m t fs = refl

pub enc_none : enc_fields no_fields ≡ []
unfolding enc
enc_none = refl

pub size_field : (n : ℕ) (t : Ty) (fs : Fields) → size_fields (field n t fs) ≡ name_width + size t + size_fields fs
unfolding size
size_field n t fs = refl

pub size_none : size_fields no_fields ≡ 0
unfolding size
size_none = refl

pub count_field : (n : ℕ) (t : Ty) (fs : Fields) → count_fields (field n t fs) ≡ suc (count_fields fs)
unfolding count_fields
count_field n t fs = refl
