use Rattle.std.proofs.Common.{[], ap, arith}
use Rattle.fault_notes.specs.Blocks.{fault_blocks, means_first}
use Rattle.fault_notes.specs.Marks.{facts_of}
use Rattle.fault_notes.proofs.Told.{block_without_line}
use Rattle.source_notes.proofs.BlockSteps.{all_done}
use Rattle.fault_notes.proofs.block.large_blocks.Goals as goal

pub loop-fault-preserved : goal.loop-fault-preserved
loop-fault-preserved c = block_without_line c.args.file.now means_first c.args.faults.now c.loop-fault.fault-index _ c.loop-fault.text.items _
    c.new-note.result (omega (arith, c.loop-fault-test.true)) c.loop-fault.invariant (ap facts_of c.new-note.ensures) c.in_ok-push_fault.ensures

pub returns : goal.returns
returns c = all_done (fault_blocks means_first) c.args.file.now [] c.args.faults.now c.loop-fault.fault-index c.loop-fault.text.items
    (omega (arith, c.loop-fault-test.false)) c.loop-fault.invariant
