-- Plain facts about tests.
-- Index: `and_assoc`, `and_comm`, `and_swap`, `and_mix`, `and_implied`, `not_both` (and); `or_right`, `or_trans`, `or_cases` (or); `function_tests` (two function types);
-- `found_ext`, `found_and`, `found_some`, `found_none` (a name that is found or not).
-- Assumes nothing.
use mathlib.Core.Path.{◌≡◌, refl, sym, ap}
use mathlib.Core.Bool.{Bool, true, false, cond, ◌&&◌, ◌||◌}
use mathlib.Core.Option.{Option, none, some}
use Rattle.order.specs.Types.{found}

pub and_false : (a : Bool) → a && false ≡ false
and_false true = refl
and_false false = refl

pub or_right : (a b : Bool) → b ≡ true → a || b ≡ true
or_right true b h = refl
or_right false b h = h

pub and_true : (a : Bool) → a && true ≡ a
and_true true = refl
and_true false = refl

pub and_same : (a : Bool) → a && a ≡ a
and_same true = refl
and_same false = refl

pub and_assoc : (a b c : Bool) → (a && b) && c ≡ a && (b && c)
and_assoc true b c = refl
and_assoc false b c = refl

pub and_swap : (a b c : Bool) → a && (b && c) ≡ b && (a && c)
and_swap true true c = refl
and_swap true false c = refl
and_swap false true c = refl
and_swap false false c = refl

pub and_comm : (a b : Bool) → a && b ≡ b && a
and_comm true true = refl
and_comm true false = refl
and_comm false true = refl
and_comm false false = refl

pub and_mix : (a b c d : Bool) → (a && b) && (c && d) ≡ (a && c) && (b && d)
and_mix true b c d = and_swap b c d
and_mix false b c d = refl

-- a test that implies another
pub and_implied : (a b : Bool) → (b ≡ true → a ≡ true) → b ≡ a && b
and_implied true b h = refl
and_implied false true h = sym (h refl)
and_implied false false h = refl

pub not_both : (a b : Bool) → (a ≡ true → b ≡ true → ⊥) → a && b ≡ false
not_both true true h = absurd (h refl refl)
not_both true false h = refl
not_both false b h = refl

-- two function types of one count: parameters a and b, results x and y, of which i says that they are ignored
pub function_tests : (a b i x y : Bool) → (a && b) && (i || (x && y)) ≡ (a && (i || x)) && (b && (i || y))
function_tests true true true x y = refl
function_tests true true false x y = refl
function_tests true false i x y = sym (and_false (i || x))
function_tests false b i x y = refl

pub or_trans : (i x y z : Bool) → i || x ≡ true → i || y ≡ true → (x ≡ true → y ≡ true → z ≡ true) → i || z ≡ true
or_trans true x y z p q h = refl
or_trans false x y z p q h = h p q

pub or_cases : {P : Type 0} (x y : Bool) → x || y ≡ true → (x ≡ true → P) → (y ≡ true → P) → P
or_cases true y e f g = f refl
or_cases false y e f g = g e

pub found_cond : {A : Type 0} (q : Bool) (a : A) (o : Option A) (f : A → Bool) → found (cond q (some a) o) f ≡ cond q (f a) (found o f)
found_cond true a o f = refl
found_cond false a o f = refl

pub found_ext : {A : Type 0} (o : Option A) (f g : A → Bool) → ((a : A) → f a ≡ g a) → found o f ≡ found o g
found_ext none f g h = refl
found_ext (some a) f g h = h a

pub found_and : {A : Type 0} (o : Option A) (f g h : A → Bool) → ((a : A) → f a ≡ g a && h a) → found o f ≡ found o g && found o h
found_and none f g h k = refl
found_and (some a) f g h k = k a

pub found_none : {A : Type 0} (o : Option A) (f : A → Bool) → o ≡ none → found o f ≡ false
found_none o f e = ap (λ x. found x f) e

pub found_some : {A : Type 0} (o : Option A) (f : A → Bool) (a : A) → o ≡ some a → found o f ≡ f a
found_some o f a e = ap (λ x. found x f) e

pub cond_up : (q x x' y y' : Bool) → (x ≡ true → x' ≡ true) → (y ≡ true → y' ≡ true) → cond q x y ≡ true → cond q x' y' ≡ true
cond_up true x x' y y' h k e = h e
cond_up false x x' y y' h k e = k e
