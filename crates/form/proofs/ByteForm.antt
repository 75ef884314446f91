-- The statements of the byte form hold (`byte_form`): the laws of types, values and refusals, gathered.
-- Assumes nothing.
use Rattle.form.specs.Limits.{type_levels, value_levels, type_refusals, value_refusals}
use Rattle.form.specs.Form.{enc, enc_v, level, level_v, Wf, WfV}
use Rattle.form.specs.Trees.{no_fields, field, no_entries, entry}
use Rattle.form.specs.Read.{ascending, read_t, read_v}
use Rattle.form.specs.ByteForm.{ByteForm}
use Rattle.form.proofs.First.{no_byte, level_next, name_first}
use Rattle.form.proofs.ExactTypes.{read_enc, enc_read}
use Rattle.form.proofs.ExactValues.{read_enc_v, enc_read_v}
use Rattle.form.proofs.Refused.{refused_length, refused_fault, refused_left, refused_numbers}
use Rattle.form.proofs.Types.{type_exact, enc_same, enc_some, took_enc, read_inside, any_exact}
use Rattle.form.proofs.Values.{value_exact, enc_v_same, enc_v_some, took_enc_v, read_inside_v}
use Rattle.form.proofs.AnySize.{accepted_any, any_some, any_numbers}
use Rattle.form.proofs.Encoded.{bytes_enc, bytes_enc_v}

pub byte_form : ByteForm
byte_form = record {
  types_exact = type_exact;
  values_exact = value_exact;
  types_bytes = bytes_enc;
  values_bytes = bytes_enc_v;
  types_same = enc_same;
  values_same = enc_v_same;
  types_inside = read_inside;
  values_inside = read_inside_v;
  types_took = took_enc;
  values_took = took_enc_v;
  value_length = refused_length value_refusals (read_v value_levels);
  type_length = refused_length type_refusals (read_t type_levels);
  value_fault = refused_fault value_refusals (read_v value_levels);
  type_fault = refused_fault type_refusals (read_t type_levels);
  value_left = refused_left enc_v WfV level_v value_refusals value_levels (read_v value_levels) (enc_read_v value_levels) (λ v g h r. read_enc_v v value_levels r g h) enc_v_some;
  type_left = refused_left enc Wf level type_refusals type_levels (read_t type_levels) (enc_read type_levels) (λ t g h r. read_enc t type_levels r g h) enc_some;
  no_byte = no_byte;
  level_next = level_next;
  value_name = λ l. name_first no_entries entry ascending (read_v l);
  type_name = λ l. name_first no_fields field ascending (read_t l);
  value_numbers = refused_numbers value_refusals (read_v value_levels);
  type_numbers = refused_numbers type_refusals (read_t type_levels);
  any_size = any_exact;
  accepted_any = accepted_any;
  any_some = any_some;
  any_numbers = any_numbers;
}
