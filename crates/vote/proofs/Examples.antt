-- The examples hold (`examples`): each row by computing it, example 12 by the law of crate `context`.
-- Assumes nothing.
use Prim.Native.Nat.{ℕ, ◌+◌}
use native.Mathlib.Omega.{arith}
use mathlib.Core.Path.{◌≡◌, refl}
use mathlib.Core.List.{List}
use lib.ListN.{length}
use Rattle.form.specs.Limits.{most_bytes}
use Rattle.form.specs.Outcome.{done, refused, ◌>>=◌, ◌>>◌}
use Rattle.form.specs.Form.{bytes, num, count_fields, count_tys, count_vals, count_entries, enc, enc_leaf, enc_v, level, level_v}
use Rattle.form.specs.Layout.{kind_of}
use Rattle.form.specs.Read.{front, and_then, or_else, operand, read_run, named, read_named, read_flag, read_key, counted, read_function, read_range, signature, read_definition}
use Rattle.form.specs.Read.{step_type, step_t, read_t, step_value, step_v, read_v, number_of, all, read_whole, check_value, check_type}
use Rattle.order.specs.Types.{cmp, reduce, bound, lookup, insert_with, same_count, all_fields}
use Rattle.order.specs.Document.{eq_ty}
use Rattle.order.specs.Values.{least, is_data_by, conforms}
use Rattle.order.specs.Inferred.{type_of}
use Rattle.types.specs.Calls as types
use Rattle.values.specs.Calls as values
use Rattle.infer.specs.Calls.{least_type_by, type_of_call}
use Rattle.retrieval.specs.Retrieve.{retrieve}
use Rattle.retrieval.specs.Calls.{get_value_checked_call}
use Rattle.coercion.specs.Calls.{coerced_call}
use Rattle.context.specs.Calls.{create_entries_call, apply_entries_call}
use Rattle.context.specs.Example12.{self, path, created}
use Rattle.context.proofs.Example12.{example12}
use Rattle.vote.specs.Vote.{AcceptedValue}
use Rattle.vote.specs.Examples.{Fitting, Holds, All, one, null, yes, pair, full, part, inferred, least_of, nested, times, longest, lists, longest_type, table}

longer : (v : List ℕ) → length (created v) ≡ 10 + length v
longer v = omega arith

create_every : (v : AcceptedValue) → Fitting v
    → create_entries_call self path v.bytes most_bytes ≡ done (created v.bytes)
create_every v f =
    example12.create v.bytes (record { are_bytes = v.are_bytes; value = v.value; read = v.accepted }) most_bytes
    (record { level = f.low; bytes = omega (arith, longer v.bytes, f.short) }) (omega (arith, longer v.bytes, f.short))

apply_every : (v : AcceptedValue) → apply_entries_call self path v.bytes most_bytes ≡ refused 16
apply_every v = example12.apply v.bytes (record { are_bytes = v.are_bytes; value = v.value; read = v.accepted }) most_bytes

pub examples : All table
unfolding Holds All one null yes pair full part inferred least_of nested times longest lists longest_type table bytes num count_fields count_tys enc level level_v kind_of
    front and_then or_else operand read_run named read_named read_flag read_key counted read_function read_range signature read_definition step_type step_t read_t step_value step_v read_v
    number_of all read_whole check_value check_type cmp reduce bound lookup insert_with same_count all_fields eq_ty least is_data_by conforms type_of types.is_conformant_by least_type_by type_of_call
    values.is_conformant_by get_value_checked_call coerced_call retrieve enc_v enc_leaf count_vals count_entries ◌>>=◌ ◌>>◌
examples = (
  refl,
  (
    refl,
    (
      refl,
      (
        refl,
        (
          refl,
          (
            refl,
            (
              refl,
              (
                refl,
                (
                  refl,
                  (
                    refl,
                    (
                      refl,
                      (
                        refl,
                        (
                          refl,
                          (
                            refl,
                            (
                              refl,
                              (
                                refl,
                                (
                                  refl,
                                  (
                                    refl,
                                    (
                                      refl,
                                      (
                                        refl,
                                        (refl, (create_every, (apply_every, (refl, (refl, (refl, (refl, (refl, (refl, (refl, (refl, tt))))))))))),
                                      ),
                                    ),
                                  ),
                                ),
                              ),
                            ),
                          ),
                        ),
                      ),
                    ),
                  ),
                ),
              ),
            ),
          ),
        ),
      ),
    ),
  ),
)
