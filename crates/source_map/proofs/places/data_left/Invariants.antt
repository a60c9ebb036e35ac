use Rattle.std.proofs.Common.{◌≡◌, drop}
use Rattle.source_map.specs.Lines.{data_left}
use Rattle.source_map.proofs.places.data_left.Given as goal

abbrev pub invariant-loop-row : goal.invariant-loop-row
invariant-loop-row l = record {
  rest : data_left l.rows l.address ≡ data_left (drop l.row-index l.rows) l.address;
}
