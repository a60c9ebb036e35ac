use Rattle.std.proofs.Common.{[], take}
use Rattle.source_notes.specs.Blocks.{AreBlocks}
use Rattle.fault_notes.specs.Blocks.{fault_blocks, means_first}
use Rattle.fault_notes.proofs.block.large_blocks.Given as goal

abbrev pub invariant-loop-fault : goal.invariant-loop-fault
invariant-loop-fault l = AreBlocks (fault_blocks means_first) l.file [] (take l.fault-index l.faults) l.text.items
