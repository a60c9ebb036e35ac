use Rattle.std.proofs.Common.{◌≡◌, take}
use Rattle.std.specs.Prelude.{slice_index}
use Rattle.model.specs.Undo.{put_cells, cells_of}
use Rattle.debugger.proofs.stops.byte_before.Given as goal

abbrev pub invariant-loop-place : goal.invariant-loop-place
invariant-loop-place l = l.byte ≡ slice_index (put_cells (take l.place-index (cells_of l.change)) l.machine.bus.memory) l.address
