use Rattle.std.proofs.Common.{◌≡◌, ◌++◌, ◌≤◌, length, drop}
use Rattle.word_trace.specs.Notes.{kept}
use Rattle.word_trace.proofs.notes.kept.Given as goal

abbrev pub invariant-loop-address : goal.invariant-loop-address
invariant-loop-address l = record {
  short : length l.kept.items ≤ l.address-index;
  rows : l.kept.items ++ kept l.session.current.bus.map l.file.rom l.file.port (drop l.address-index l.stores.items)
      ≡ kept l.session.current.bus.map l.file.rom l.file.port l.stores.items;
}
