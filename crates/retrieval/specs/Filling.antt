-- What the builder of a retrieved value leaves: as much of the answer as has room, and how long it is.
-- Assumes nothing.
use Rattle.std.specs.Prelude.{◌≡◌, Bool, ◌&&◌, ◌||◌, List, ℕ, length, leb, eqb}
use Rattle.std.proofs.Math.Option.{Option, none, some}
use Rattle.form.specs.Trees.{Ty, Val}
use Rattle.form.specs.Form.{enc_v}
use Rattle.form.specs.Layout.{leaf_type_command}
use Rattle.order.specs.Size.{size, size_val}
use Rattle.retrieval.specs.Retrieve.{retrieve}
use Rattle.std.specs.declared.option.Option.{Option as Maybe}
use Rattle.std.specs.declared.option.Option.TheVariants.{None, Some}
use Rattle.retrieval.specs.declared.builder.Retrieved.{Retrieved}
use Rattle.output.specs.Output.{Filled}
use Rattle.form.specs.Options.{map, WhereBoth}

-- whether a type with command d copies a value with command c: Any, and the outer kind of leaves, ranges and functions
abbrev pub outer_kind : ℕ → ℕ → Bool
outer_kind c d = eqb d 0x20 || ((leb 0x21 d && (leb d 0x28 && eqb (leaf_type_command c) d)) || ((eqb d 0x2B && eqb c 0x09) || (eqb d 0x2D && eqb c 0x0C)))

-- the sizes of the type and of the value, and the length of the answer
abbrev pub yes : ℕ → ℕ → ℕ → Maybe Retrieved
yes t v n = Some (record { t = t; v = v; wrote = n })

-- those of the answer, or Err
unfoldable pub answered : ℕ → ℕ → Option (List ℕ) → Maybe Retrieved
answered t v (some bs) = yes t v (length bs)
answered t v none = None

pub record Gave (t : Ty) (v : Val) (old new : List ℕ) (r : Maybe Retrieved) : Type 0 where
  pub says : r ≡ answered (size t) (size_val v) (map enc_v (retrieve v t))
  pub out : Filled (map enc_v (retrieve v t)) old new

unfoldable pub Retrieves : Option Ty → Option Val → List ℕ → List ℕ → Maybe Retrieved → Type 0
Retrieves x y old new r = WhereBoth (Unit {0}) (λ t v. Gave t v old new r) x y
