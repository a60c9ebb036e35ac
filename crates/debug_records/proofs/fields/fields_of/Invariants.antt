use Rattle.std.proofs.Common.{◌≡◌, ◌-◌, [], length, map}
use Rattle.debug_records.specs.Fields.{fields_within}
use Rattle.debug_records.specs.Views.{field_view}
use Rattle.debug_records.proofs.fields.fields_of.Given as goal

abbrev pub invariant-loop : goal.invariant-loop
invariant-loop l = record {
  read : fields_within (length l.text) [] l.text ≡ fields_within (l.end - l.counter) (map field_view l.fields.items) l.rest;
}
