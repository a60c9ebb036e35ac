use Rattle.std.proofs.Common.{◌≤◌}
use Rattle.debug_records.proofs.Extents.{Taken}
use Rattle.debug_records.proofs.table.put_row.Given as goal

abbrev pub invariant-loop-address : goal.invariant-loop-address
invariant-loop-address l = record {
  low : l.first ≤ l.address;
  high : l.address ≤ l.past;
  taken : Taken l.wanted l.row l.first l.initial.table.items l.table.items l.address;
}
