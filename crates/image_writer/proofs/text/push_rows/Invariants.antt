use Rattle.std.proofs.Common.{◌≡◌, ◌≤◌, ◌<◌, ◌++◌, [], drop, length}
use Rattle.image_writer.specs.Rows.{rows}
use Rattle.image_writer.proofs.Going.{texts}
use Rattle.image_writer.proofs.text.push_rows.Given as goal

abbrev pub invariant-loop-address : goal.invariant-loop-address
invariant-loop-address l = record {
  text : l.out.items ++ texts l.form (rows l.address l.row.items (drop l.address l.cells)) ≡ l.initial.out.items ++ texts l.form (rows 0 [] l.cells);
  few : length l.row.items < 16;
  after : length l.row.items ≤ l.address;
}
