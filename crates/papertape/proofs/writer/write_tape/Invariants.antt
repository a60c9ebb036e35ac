use Rattle.std.proofs.Common.{◌≡◌, ◌≤◌, ◌+◌, ◌-◌, ◌++◌, length, drop}
use Rattle.std.specs.List.{flat_map}
use Rattle.model.specs.TapeText.{data_line}
use Rattle.papertape.specs.Writing.{cuts}
use Rattle.papertape.proofs.writer.write_tape.Given as goal

abbrev pub invariant-loop-piece : goal.invariant-loop-piece
invariant-loop-piece l = record {
  inside : l.from ≤ 65536;
  count : l.count + length (cuts l.from 0 (drop l.from l.cells)) ≡ length (cuts 0 0 l.cells);
  text : l.out.items ++ flat_map data_line (cuts l.from 0 (drop l.from l.cells)) ≡ flat_map data_line (cuts 0 0 l.cells);
}

abbrev pub decreases-loop-piece : goal.decreases-loop-piece
decreases-loop-piece l = 65536 - l.from
