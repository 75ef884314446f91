-- `types::instance::instance_fields` meets its contract: two ascending lists of names in step, as in conformance, with Null or the equal type in place of conformance.
use Rattle.order.specs.Document.{null_or_same}
use Rattle.order.specs.Size.{size, size_fields}
use Rattle.types.specs.At.{type_at, fields_at}
use Rattle.types.specs.Conform.{conform_by, entries}
use Rattle.form.specs.Trees.{no_fields, field}
use Rattle.order.specs.Ascending.{AscFields}
use Rattle.types.proofs.SortedNames.{NamesGo}
use Rattle.types.proofs.instance.instance_fields.Given as goal

abbrev pub invariant-loop : goal.invariant-loop
invariant-loop l = NamesGo size size_fields (type_at l.left) (fields_at l.left) no_fields field AscFields null_or_same
    (entries null_or_same) l.left
    (conform_by size_fields size_fields (entries null_or_same) (fields_at l.left l.n 0 l.a) (fields_at l.left l.m 0 l.b))
    l.a l.n l.b l.m l.at l.least l.counter l.bt l.j
