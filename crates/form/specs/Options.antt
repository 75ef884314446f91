-- What may be missing: a function on what is there, a sentence about what is there.
-- Assumes nothing.
use Rattle.std.proofs.Math.Option.{Option, none, some}

abbrev pub map : {X Y : Type 0} → (X → Y) → Option X → Option Y
map f none = none
map f (some x) = some (f x)

-- both, or none
abbrev pub both : {X Y Z : Type 0} → (X → Y → Z) → Option X → Option Y → Option Z
both f none y = none
both f (some x) y = map (f x) y

-- P of what was read; D where nothing was
abbrev pub WhereRead : {X : Type 0} → Type 0 → (X → Type 0) → Option X → Type 0
WhereRead D P none = D
WhereRead D P (some x) = P x

-- P where both were read, else D
abbrev pub WhereBoth : {X Y : Type 0} → Type 0 → (X → Y → Type 0) → Option X → Option Y → Type 0
WhereBoth D P none s = D
WhereBoth D P (some x) s = WhereRead D (P x) s
