use Rattle.std.proofs.Common.{◌≡◌, ◌++◌, drop, map}
use Rattle.source_map.specs.Lines.{source_view}
use Rattle.trace_rows.specs.Records.{records_from, records_text}
use Rattle.trace_rows.proofs.lcov.push_records.Given as goal

abbrev pub invariant-loop-file : goal.invariant-loop-file
invariant-loop-file l = l.text.items ++ records_from l.tally l.rows l.file (map source_view (drop l.file l.sources)) ≡ l.fn.text.items
    ++ records_text l.places l.tally
