use Rattle.std.proofs.Common.{take}
use Rattle.source_notes.specs.Blocks.{AreBlocks}
use Rattle.source_notes.specs.Lines.{texts_of}
use Rattle.fault_notes.specs.Blocks.{fault_blocks}
use Rattle.fault_notes.specs.Marks.{IsMeant, known_of}
use Rattle.fault_notes.proofs.block.line_blocks.Given as goal

abbrev pub invariant-loop-fault : goal.invariant-loop-fault
invariant-loop-fault l = AreBlocks (fault_blocks (IsMeant (known_of l.context))) l.file (texts_of l.lines) (take l.fault-index l.faults) l.text.items
