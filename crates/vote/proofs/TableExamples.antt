-- K9's examples hold (`table_examples`): all of them by computing.
-- Assumes nothing.
use mathlib.Core.Path.{refl}
use Rattle.form.specs.Outcome.{◌>>=◌, ◌>>◌}
use Rattle.form.specs.Form.{bytes, num, count_fields, count_tys, enc}
use Rattle.form.specs.Layout.{kind_of}
use Rattle.form.specs.Read.{front, and_then, or_else, operand, read_run, named, read_named, read_flag, read_key, counted, read_function, read_range, signature, read_definition}
use Rattle.form.specs.Read.{step_type, step_t, read_t, step_value, step_v, read_v, number_of, all, read_whole}
use Rattle.order.specs.Table.{is_ordered, has_joins, are_flags, table_order}
use Rattle.order.specs.Types.{cmp, reduce, bound, lookup, insert_with, same_count, all_fields}
use Rattle.order.specs.Values.{types_of, least, is_data_by, conforms}
use Rattle.tables.specs.Calls.{where_loads}
use Rattle.types.specs.Calls as types
use Rattle.values.specs.Calls as values
use Rattle.infer.specs.Calls.{least_type_by}
use Rattle.vote.specs.TableExamples.{TableExamples}

pub table_examples : TableExamples
unfolding bytes num count_fields count_tys enc kind_of front and_then or_else operand read_run named read_named read_flag read_key counted read_function read_range
    signature read_definition step_type step_t read_t step_value step_v read_v number_of all read_whole cmp reduce bound lookup insert_with same_count all_fields least is_data_by
    conforms types.is_conformant_by least_type_by values.is_conformant_by ◌>>=◌ ◌>>◌ types_of is_ordered has_joins are_flags table_order where_loads
table_examples =
    record {
      fixed_bytes = refl;
      date_loads = refl;
      date_conforms = refl;
      date_not_back = refl;
      date_not_time = refl;
      date_supertype = refl;
      date_subtype = refl;
      date_value = refl;
      date_least = refl;
      diamond_loads = refl;
      diamond_supertype = refl;
      diamond_subtype = refl;
      long_fails = refl;
      long_number = refl;
      byte_fails = refl;
      byte_number = refl;
      reflexive_fails = refl;
      reflexive_number = refl;
      null_fails = refl;
      null_number = refl;
      any_fails = refl;
      any_number = refl;
      mutual_fails = refl;
      mutual_number = refl;
      transitive_fails = refl;
      transitive_number = refl;
      join_fails = refl;
      join_number = refl;
      byte_first = refl;
      order_first = refl;
      table_first = refl;
    }
