-- A value that was read, held to a type that was read: yes with both sizes, or no.
-- Assumes nothing.
use Rattle.std.specs.Prelude.{Bool, cond, ◌&&◌}
use Rattle.std.proofs.Math.Option.{Option}
use Rattle.form.specs.Trees.{Ty, Fields, simple, Val, Vals, Entries, is_short_leaf}
use Rattle.order.specs.Order.{Dir, up, down, Order}
use Rattle.order.specs.Types.{all_fields, cmp, cmps}
use Rattle.order.specs.Size.{size, size_fields, size_val, size_vals, size_entries}
use Rattle.order.specs.Values.{types_of, conforms, all_conform, has_value}
use Rattle.order.specs.Inferred.{value_conforms_to}
use Rattle.types.specs.At.{Sig, sig, size_sig}
use Rattle.types.specs.Conform.{Conform, conform_by}
use Rattle.values.specs.At.{Definition, definition, size_definition}

-- a value against a type, by some test
abbrev pub held_by : (Val → Ty → Bool) → Option Val → Option Ty → Conform
held_by test x y = conform_by size_val size test x y

-- conformance under an order
abbrev pub held : Order → Option Val → Option Ty → Conform
held O x y = held_by (conforms O) x y

-- a leaf of data but a decimal against a simple type, by document 01's order: what conforms so does under every reading
abbrev pub leaf_conforms : Val → Ty → Bool
leaf_conforms x y = is_short_leaf x && (simple y && value_conforms_to x y)

-- every item against one type
abbrev pub held_items : Order → Option Vals → Option Ty → Conform
held_items O x y = conform_by size_vals size (all_conform O) x y

-- every name of the type is present, and its value conforms
abbrev pub entries_conform : Order → Entries → Fields → Bool
entries_conform O es fs = all_fields (λ n t. has_value O es n t) fs

abbrev pub held_entries : Order → Option Entries → Option Fields → Conform
held_entries O x y = conform_by size_entries size_fields (entries_conform O) x y

-- which way round a definition's parameters are compared: each own one ≤ the target's; strict, the target's ≤ the own one
abbrev pub parameter_way : Order → Dir
parameter_way O = cond O.strict down up

-- each parameter that way round, result ≤ result
abbrev pub definition_conforms : Order → Definition → Sig → Bool
definition_conforms O (definition r ps) (sig qs s) = cmps O (parameter_way O) (types_of ps) qs && cmp O up r s

abbrev pub held_definition : Order → Option Definition → Option Sig → Conform
held_definition O x y = conform_by size_definition size_sig (definition_conforms O) x y
