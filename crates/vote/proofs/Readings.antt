-- The rows of the two readings hold (`readings`): all of them by computing.
-- Assumes nothing.
use mathlib.Core.Path.{refl}
use Rattle.form.specs.Outcome.{◌>>=◌, ◌>>◌}
use Rattle.form.specs.Form.{bytes, num, count_fields, count_tys, enc}
use Rattle.form.specs.Layout.{kind_of}
use Rattle.form.specs.Read.{front, and_then, or_else, operand, read_run, named, read_named, read_flag, read_key, counted, read_function, read_range, signature, read_definition}
use Rattle.form.specs.Read.{step_type, step_t, read_t, step_value, step_v, read_v, number_of, all, read_whole}
use Rattle.order.specs.Types.{cmp, reduce, bound, lookup, insert_with, same_count, all_fields}
use Rattle.order.specs.Values.{types_of, least, is_data_by, conforms}
use Rattle.types.specs.Calls as types
use Rattle.values.specs.Calls as values
use Rattle.infer.specs.Calls.{least_type_by}
use Rattle.vote.specs.Examples.{Holds, All}
use Rattle.vote.specs.Readings.{readings_table}

pub readings : All readings_table
unfolding Holds All bytes num count_fields count_tys enc kind_of front and_then or_else operand read_run named read_named read_flag read_key counted read_function read_range
    signature read_definition step_type step_t read_t step_value step_v read_v number_of all read_whole cmp reduce bound lookup insert_with same_count all_fields least is_data_by
    conforms types.is_conformant_by least_type_by values.is_conformant_by ◌>>=◌ ◌>>◌ readings_table types_of
readings = (refl, (refl, (refl, (refl, (refl, (refl, (refl, (refl, (refl, (refl, (refl, (refl, (refl, (refl, (refl, (refl, (refl, (refl, (refl, (refl, (refl, tt)))))))))))))))))))))
