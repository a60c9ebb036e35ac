use Rattle.std.proofs.Common.{arith}
use Rattle.fault_notes.specs.Blocks.{fault_blocks}
use Rattle.fault_notes.specs.Marks.{IsMeant, known_of}
use Rattle.source_notes.specs.Lines.{texts_of}
use Rattle.source_notes.proofs.BlockSteps.{all_done, block_done}
use Rattle.fault_notes.proofs.block.line_blocks.Goals as goal

pub loop-fault-preserved : goal.loop-fault-preserved
loop-fault-preserved c = block_done (fault_blocks (IsMeant (known_of c.args.context.now))) c.args.file.now (texts_of c.args.lines.now)
    c.args.faults.now c.loop-fault.fault-index _ c.loop-fault.text.items _ _ _ c.in_ok-note.note (omega (arith, c.loop-fault-test.true))
    c.loop-fault.invariant c.line_of-line.ensures c.line_or_none.ensures c.in_ok-note.ensures c.in_ok-push_fault.ensures

pub returns : goal.returns
returns c = all_done (fault_blocks (IsMeant (known_of c.args.context.now))) c.args.file.now (texts_of c.args.lines.now) c.args.faults.now
    c.loop-fault.fault-index c.loop-fault.text.items (omega (arith, c.loop-fault-test.false)) c.loop-fault.invariant
