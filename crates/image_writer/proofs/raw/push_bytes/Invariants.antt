use Rattle.std.proofs.Common.{◌≡◌, ◌++◌, map, take}
use Rattle.image_writer.specs.ImageTexts.{byte_of}
use Rattle.image_writer.proofs.raw.push_bytes.Given as goal

abbrev pub invariant-loop-cell : goal.invariant-loop-cell
invariant-loop-cell l = l.out.items ≡ l.initial.out.items ++ map (byte_of l.fill) (take l.cell-index l.part)
