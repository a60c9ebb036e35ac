use Rattle.std.proofs.Common.{◌≡◌, drop, map}
use Rattle.debug_records.specs.Fields.{field_in}
use Rattle.debug_records.specs.Views.{field_view}
use Rattle.debug_records.proofs.fields.field_in.Given as goal

abbrev pub invariant-loop-field : goal.invariant-loop-field
invariant-loop-field l = record {
  rest : field_in (map field_view l.fields) l.name ≡ field_in (map field_view (drop l.field-index l.fields)) l.name;
}
