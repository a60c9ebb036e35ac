use Rattle.std.proofs.Common.{◌≡◌, drop}
use Rattle.debug_records.specs.Reading.{first_missing}
use Rattle.debug_records.specs.Views.{info_view}
use Rattle.debug_records.proofs.reference.first_missing.Given as goal

abbrev pub invariant-loop-reference : goal.invariant-loop-reference
invariant-loop-reference l = record {
  rest : first_missing (info_view l.info) l.references ≡ first_missing (info_view l.info) (drop l.reference-index l.references);
}
