-- What may be missing: none is not some, and what a function on it gives.
-- Index: `none_some`, `some_same`; `map_is`, `map_twice` (a function on one), `both_is` (a function on two).
-- Assumes nothing.
use Prim.Native.Nat.{ℕ}
use native.Mathlib.Omega.{arith}
use mathlib.Core.Path.{◌≡◌, refl, sym}
use mathlib.Core.Option.{Option, none, some}
use Rattle.form.specs.Options.{map, both}

pub none_some : {X : Type 0} {x : X} → none ≡ some x → ⊥
none_some e = let z : ◌≡◌ {A = ℕ} 0 1 = cc in omega arith

pub some_same : {X : Type 0} {x y : X} → some x ≡ some y → x ≡ y
some_same e = cc

pub map_is : {X Y : Type 0} (f : X → Y) (o : Option X) (y : Y) → map f o ≡ some y → (x : X) × (o ≡ some x) × (y ≡ f x)
map_is f none y e = absurd (none_some e)
map_is f (some x) y e = (x, refl, sym (some_same e))

pub map_twice : {X Y Z : Type 0} (f : Y → Z) (g : X → Y) (o : Option X) → map f (map g o) ≡ map (λ x. f (g x)) o
map_twice f g none = refl
map_twice f g (some x) = refl

pub both_is : {X Y Z : Type 0} (f : X → Y → Z) (o : Option X) (p : Option Y) (z : Z) → both f o p ≡ some z → (x : X) × (y : Y) × (o ≡ some x) × (p ≡ some y) × (z ≡ f x y)
both_is f none p z e = absurd (none_some e)
both_is f (some x) p z e = let m = map_is (f x) p z e in (x, m.0, refl, m.1, m.2)
