-- `values::compare::conform_other` meets its contract, by the value's command: Any takes all, a null conforms to every type that is read, a leaf to its own type
-- and to those that a table has above it, a definition by its types, all else to none.
-- Assumes nothing.
use mathlib.Core.Path.{◌≡◌, ◌∙◌}
use mathlib.Core.Bool.{true}
use lib.ListN.{get_or}
use Rattle.form.specs.Layout.{is_leaf_command}
use Rattle.form.proofs.CommandKinds.{leaf_low, leaf_decimal, leaf_high}
use Prim.Native.Nat.{◌-◌}
use native.Mathlib.Omega.{arith}
use Rattle.form.proofs.WalkAnswers.{part_room}
use Rattle.order.specs.Order.{order_of}
use Rattle.order.specs.Values.{conforms}
use Rattle.order.proofs.Ends.{reading_ends}
use Rattle.types.proofs.TypeConformance.{sized_part, unsized_part}
use Rattle.values.proofs.ValueConformance.{sized_value, unsized_value, never, no_level, no_value, no_type, met_any, function_apart, rest_apart, no_signature_there, no_null, met_null}
use Rattle.values.proofs.ValueConformance.{met_plain, met_table, plain_apart}
use Rattle.values.proofs.Definitions.{definition_bytes, definition_ok, definition_counts, met_definition}
use Rattle.values.proofs.compare.conform_other.Goals as goal
use Rattle.values.proofs.compare.conform_other.Goals.{After-leaf_type-e, in-16-1, in_default+then-c-lt9}

arm-leaf : (c : After-leaf_type-e) → is_leaf_command (get_or c.args.v.now 0 0) ≡ true
arm-leaf c =
    let b = get_or c.args.v.now 0 0 in
    elim c.in-1-to-8-1.branch [ in-16-1 w ↦ leaf_decimal b (omega arith) | in_default+then-c-lt9 w ↦ leaf_low b (omega arith) ]

arm-not-null : (c : After-leaf_type-e) → get_or c.args.v.now 0 0 ≡ 0 → ⊥
arm-not-null c z = elim c.in-1-to-8-1.branch [ in-16-1 w ↦ omega (arith, z) | in_default+then-c-lt9 w ↦ omega (arith, z) ]

pub returns-then-left-lt2 : goal.returns-then-left-lt2
returns-then-left-lt2 c =
    let args = c.args in
    no_level (conforms (order_of args.reading)) (args.left - 1) args.left args.v.now args.t.now _ (omega arith)

pub returns-then-v-eq0 : goal.returns-then-v-eq0
returns-then-v-eq0 c =
    let args = c.args in
    no_value (conforms (order_of args.reading)) (args.left - 1) args.left args.v.now args.t.now _
    c.if-v-eq0.true

pub returns-then-t-eq0 : goal.returns-then-t-eq0
returns-then-t-eq0 c =
    let args = c.args in
    no_type (conforms (order_of args.reading)) (args.left - 1) args.left args.v.now args.t.now _
    c.if-t-eq0.true

pub returns-then-d-eq-ANY_TYPE : goal.returns-then-d-eq-ANY_TYPE
returns-then-d-eq-ANY_TYPE c =
    let args = c.args in
    met_any (reading_ends args.reading) (args.left - 1) args.left args.v.now args.t.now (omega arith) (omega arith)
    c.if-d-eq-ANY_TYPE.true c.skip.result c.skip.ensures

pub returns-in_default-leaf_size_at : goal.returns-in_default-leaf_size_at
returns-in_default-leaf_size_at c =
    let args = c.args in
    no_null (conforms (order_of args.reading)) (args.left - 1) args.left args.v.now args.t.now _ _ c.in_default-leaf_size_at.ensures c.in-0.is

pub returns-then-m-eq0 : goal.returns-then-m-eq0
returns-then-m-eq0 c =
    let args =
    c.args in
    never (conforms (order_of args.reading)) (args.left - 1) args.left args.v.now args.t.now _
    (λ x y e f.
    unsized_part args.left args.t.now 0 c.skip-m.result c.skip-m.ensures
    c.if-m-eq0.true y f)

pub returns-then-d-ne-FUNCTION_TYPE : goal.returns-then-d-ne-FUNCTION_TYPE
returns-then-d-ne-FUNCTION_TYPE c =
    let args =
    c.args in
    function_apart args.reading (args.left - 1) args.left args.v.now args.t.now _
    c.in-12.is c.if-d-eq-ANY_TYPE.false c.if-d-ne-FUNCTION_TYPE.true

pub returns-then-t-lt2 : goal.returns-then-t-lt2
returns-then-t-lt2 c =
    let args =
    c.args in
    no_signature_there (conforms (order_of args.reading)) (args.left - 1) args.left args.v.now args.t.now _
    c.if-d-ne-FUNCTION_TYPE.false
    (λ h. omega arith)

pub returns-then-n-eq0 : goal.returns-then-n-eq0
returns-then-n-eq0 c =
    let args =
    c.args in
    never (conforms (order_of args.reading)) (args.left - 1) args.left args.v.now args.t.now _
    (λ x y e f.
    unsized_value (args.left - 1) args.v.now 0 c.skip-n.result
    c.skip-n.ensures c.if-n-eq0.true x e)

pub bounds-v-1 : goal.bounds-v-1
bounds-v-1 c =
    let args =
    c.args in
    let sized-value1 = sized_value (args.left - 1) args.v.now 0 c.skip-n.result
    c.skip-n.ensures c.if-n-eq0.false in
    let h = definition_bytes (args.left - 1) args.left args.v.now args.t.now (omega arith)
    c.in-12.is c.if-d-ne-FUNCTION_TYPE.false (omega arith) sized-value1.x sized-value1.read in
    omega arith

pub returns-then-k-t : goal.returns-then-k-t
returns-then-k-t c =
    let args =
    c.args in
    let sized-value1 =
    sized_value (args.left - 1) args.v.now 0 c.skip-n.result c.skip-n.ensures
    c.if-n-eq0.false in
    definition_counts (args.left - 1) args.left args.v.now args.t.now (omega arith)
    c.in-12.is c.if-d-ne-FUNCTION_TYPE.false (omega arith) sized-value1.x sized-value1.read (order_of args.reading)
    c.if-k-t.true _

pub slice_bounds-conform_definition-count : goal.slice_bounds-conform_definition-count
slice_bounds-conform_definition-count c =
    let args =
    c.args in
    let sized-value1 =
    sized_value (args.left - 1) args.v.now 0 c.skip-n.result c.skip-n.ensures
    c.if-n-eq0.false in
    let h = definition_bytes (args.left - 1) args.left args.v.now args.t.now (omega arith)
    c.in-12.is c.if-d-ne-FUNCTION_TYPE.false (omega arith) sized-value1.x sized-value1.read in
    omega arith

pub slice_bounds-conform_definition-start : goal.slice_bounds-conform_definition-start
slice_bounds-conform_definition-start c =
    let args =
    c.args in
    let sized-value1 =
    sized_value (args.left - 1) args.v.now 0 c.skip-n.result c.skip-n.ensures
    c.if-n-eq0.false in
    let h = definition_bytes (args.left - 1) args.left args.v.now args.t.now (omega arith)
    c.in-12.is c.if-d-ne-FUNCTION_TYPE.false (omega arith) sized-value1.x sized-value1.read in
    omega arith

pub conform_definition-requires : goal.conform_definition-requires
conform_definition-requires c =
    let args = c.args in
    let sized-value1 = sized_value (args.left - 1) args.v.now 0 c.skip-n.result
    c.skip-n.ensures c.if-n-eq0.false in (
      part_room args.v.now 4
          (definition_bytes (args.left - 1) args.left args.v.now args.t.now (omega arith)
          c.in-12.is c.if-d-ne-FUNCTION_TYPE.false (omega arith) sized-value1.x sized-value1.read)
          (omega (arith, c.well_formed)),
      part_room args.t.now 2 (omega arith) (omega (arith, c.well_formed)),
      definition_ok (args.left - 1) args.left args.v.now args.t.now (omega arith)
          c.in-12.is c.if-d-ne-FUNCTION_TYPE.false (omega arith) sized-value1.x sized-value1.read
          c.from.result c.from.ensures,
    )

pub returns-then-is_related : goal.returns-then-is_related
returns-then-is_related c =
    let args = c.args in
    met_table args.reading (args.left - 1) args.left args.v.now args.t.now (omega arith) (omega arith) (arm-leaf (goal.at.returns-then-is_related c).After-leaf_type-e)
    c.if-d-eq-ANY_TYPE.false c.leaf_type-e.result c.leaf_type-e.ensures c.if-d-e.true
    c.is_related.result c.is_related.ensures c.if-is_related.true
    c.skip-then-is_related.result c.skip-then-is_related.ensures

pub returns-then-d-e : goal.returns-then-d-e
returns-then-d-e c =
    let args = c.args in
    plain_apart args.reading (args.left - 1) args.left args.v.now args.t.now _ (arm-leaf (goal.at.returns-then-d-e c).After-leaf_type-e) (arm-not-null (goal.at.returns-then-d-e c).After-leaf_type-e)
    c.if-d-eq-ANY_TYPE.false c.leaf_type-e.result c.leaf_type-e.ensures c.if-d-e.true
    c.is_related.result c.is_related.ensures c.if-is_related.false

pub returns-else-m-eq0 : goal.returns-else-m-eq0
returns-else-m-eq0 c =
    let args =
    c.args in
    met_null (reading_ends args.reading) (args.left - 1) args.left args.v.now args.t.now c.in-Some.n _
    c.in-Some.ensures c.in-0.is
    c.skip-m.result
    (sized_part args.left args.t.now 0 c.skip-m.result c.skip-m.ensures
    c.if-m-eq0.false)

pub returns-else-k-t : goal.returns-else-k-t
returns-else-k-t c =
    let args =
    c.args in
    let sized-value1 = sized_value (args.left - 1) args.v.now 0 c.skip-n.result
    c.skip-n.ensures c.if-n-eq0.false in
    met_definition (args.left - 1) args.left args.v.now args.t.now (omega arith)
    c.in-12.is c.if-d-ne-FUNCTION_TYPE.false (omega arith) sized-value1.x sized-value1.read (order_of args.reading)
    c.from.result c.from.ensures c.if-k-t.false _ _
    c.conform_definition.ensures

pub returns-in_default : goal.returns-in_default
returns-in_default c =
    rest_apart c.args.reading (c.args.left - 1) c.args.left c.args.v.now c.args.t.now _ c.requires c.if-d-eq-ANY_TYPE.false
    (leaf_high (get_or c.args.v.now 0 0) c.in_default.if-c-lt9-own.false c.in_default.in_default-own.rest.0.1) c.in_default.in_default-own.rest.1

pub returns-else-d-e : goal.returns-else-d-e
returns-else-d-e c =
    let args = c.args in
    met_plain (reading_ends args.reading) (args.left - 1) args.left args.v.now args.t.now (omega arith) (omega arith) (arm-leaf (goal.at.returns-else-d-e c).After-leaf_type-e)
    (c.if-d-e.false ∙ c.leaf_type-e.ensures) c.skip-in-1-to-8.result c.skip-in-1-to-8.ensures
