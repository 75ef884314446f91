-- The smallest inputs to which the ported and the strict calls answer otherwise (docs/DIFFERENCES.md), and one to which they do not: one table, one result (`readings`, in proofs).
-- Assumes nothing.
use Rattle.std.specs.Prelude.{true, false, List, [], ◌∷◌}
use Rattle.types.specs.Calls as types
use Rattle.bounds.specs.Calls.{common_supertype, common_subtype, strict_common_supertype, strict_common_subtype}
use Rattle.values.specs.Calls as values
use Rattle.infer.specs.Calls.{least_type_call, strict_least_type_call}
use Rattle.vote.specs.Examples.{Row, bytes_are, verdict_is, build_refused_by}

unfoldable pub readings_table : List Row
readings_table =
    -- 2D 00 20 to 2D 00 21
    verdict_is (types.is_conformant (0x2D ∷ 0 ∷ 0x20 ∷ []) (0x2D ∷ 0 ∷ 0x21 ∷ [])) true
    ∷ verdict_is (types.strict_is_conformant (0x2D ∷ 0 ∷ 0x20 ∷ []) (0x2D ∷ 0 ∷ 0x21 ∷ [])) false
    -- supertype of 29 and 2D 00 21
    ∷ bytes_are (common_supertype (0x29 ∷ []) (0x2D ∷ 0 ∷ 0x21 ∷ []) 4 3) (0x2D ∷ 0 ∷ 0x20 ∷ [])
    ∷ bytes_are (strict_common_supertype (0x29 ∷ []) (0x2D ∷ 0 ∷ 0x21 ∷ []) 4 3) (0x2D ∷ 0 ∷ 0x21 ∷ [])
    -- subtype of 20 and 2D 00 21
    ∷ bytes_are (common_subtype (0x20 ∷ []) (0x2D ∷ 0 ∷ 0x21 ∷ []) 4 3) (0x2D ∷ 0 ∷ 0x20 ∷ [])
    ∷ bytes_are (strict_common_subtype (0x20 ∷ []) (0x2D ∷ 0 ∷ 0x21 ∷ []) 4 3) (0x2D ∷ 0 ∷ 0x21 ∷ [])
    -- subtype of 2D 00 22 and 2D 00 23
    ∷ bytes_are (common_subtype (0x2D ∷ 0 ∷ 0x22 ∷ []) (0x2D ∷ 0 ∷ 0x23 ∷ []) 6 3) (0x2D ∷ 0 ∷ 0x20 ∷ [])
    ∷ bytes_are (strict_common_subtype (0x2D ∷ 0 ∷ 0x22 ∷ []) (0x2D ∷ 0 ∷ 0x23 ∷ []) 6 3) (0x2D ∷ 0 ∷ 0x29 ∷ [])
    -- a definition with a parameter number to function<Any> to Any
    ∷ verdict_is (values.is_conformant (0x0C ∷ 1 ∷ 0 ∷ 0 ∷ 0x20 ∷ 0 ∷ 0 ∷ 0x22 ∷ []) (0x2D ∷ 1 ∷ 0x20 ∷ 0x20 ∷ [])) true
    ∷ verdict_is (values.strict_is_conformant (0x0C ∷ 1 ∷ 0 ∷ 0 ∷ 0x20 ∷ 0 ∷ 0 ∷ 0x22 ∷ []) (0x2D ∷ 1 ∷ 0x20 ∷ 0x20 ∷ [])) false
    -- one with a parameter Any to function<number> to Any
    ∷ verdict_is (values.is_conformant (0x0C ∷ 1 ∷ 0 ∷ 0 ∷ 0x20 ∷ 0 ∷ 0 ∷ 0x20 ∷ []) (0x2D ∷ 1 ∷ 0x22 ∷ 0x20 ∷ [])) false
    ∷ verdict_is (values.strict_is_conformant (0x0C ∷ 1 ∷ 0 ∷ 0 ∷ 0x20 ∷ 0 ∷ 0 ∷ 0x20 ∷ []) (0x2D ∷ 1 ∷ 0x22 ∷ 0x20 ∷ [])) true
    -- one whose result is a function without parameters
    ∷ verdict_is (values.is_conformant (0x0C ∷ 0 ∷ 0 ∷ 0 ∷ 0x2D ∷ 0 ∷ 0x22 ∷ []) (0x2D ∷ 0 ∷ 0x2D ∷ 0 ∷ 0x23 ∷ [])) true
    ∷ verdict_is (values.strict_is_conformant (0x0C ∷ 0 ∷ 0 ∷ 0 ∷ 0x2D ∷ 0 ∷ 0x22 ∷ []) (0x2D ∷ 0 ∷ 0x2D ∷ 0 ∷ 0x23 ∷ [])) false
    -- its own result is compared under both
    ∷ verdict_is (values.is_conformant (0x0C ∷ 0 ∷ 0 ∷ 0 ∷ 0x22 ∷ []) (0x2D ∷ 0 ∷ 0x23 ∷ [])) false
    ∷ verdict_is (values.strict_is_conformant (0x0C ∷ 0 ∷ 0 ∷ 0 ∷ 0x22 ∷ []) (0x2D ∷ 0 ∷ 0x23 ∷ [])) false
    -- least types of definitions
    ∷ build_refused_by (least_type_call (0x0C ∷ 0 ∷ 0 ∷ 0 ∷ 0x20 ∷ []) 20 3) 13
    ∷ bytes_are (strict_least_type_call (0x0C ∷ 0 ∷ 0 ∷ 0 ∷ 0x20 ∷ []) 20 3) (0x2D ∷ 0 ∷ 0x20 ∷ [])
    ∷ bytes_are (strict_least_type_call (0x0A ∷ 2 ∷ 0 ∷ 0x0C ∷ 0 ∷ 0 ∷ 0 ∷ 0x22 ∷ 0x0C ∷ 0 ∷ 0 ∷ 0 ∷ 0x23 ∷ []) 52 4) (0x2A ∷ 0x2D ∷ 0 ∷ 0x20 ∷ [])
    -- of a built-in function there is none under either
    ∷ build_refused_by (least_type_call (0x0D ∷ 0 ∷ []) 8 1) 13
    ∷ build_refused_by (strict_least_type_call (0x0D ∷ 0 ∷ []) 8 1) 13
    ∷ []
