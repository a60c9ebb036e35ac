use Rattle.std.proofs.Common.{◌≡◌, drop}
use Rattle.source_map.specs.Lines.{row_at}
use Rattle.source_map.proofs.places.first_row_at.Given as goal

abbrev pub invariant-loop-row : goal.invariant-loop-row
invariant-loop-row l = record {
  rest : row_at l.rows l.address ≡ row_at (drop l.row-index l.rows) l.address;
}
