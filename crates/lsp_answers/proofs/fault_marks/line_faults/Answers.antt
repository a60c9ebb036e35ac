use Rattle.std.proofs.Common.{arith, refl}
use Rattle.fault_notes.specs.Blocks.{fault_blocks}
use Rattle.fault_notes.specs.Marks.{IsMeant, known_of}
use Rattle.lsp_answers.specs.Diagnostics.{fault_kind}
use Rattle.source_notes.specs.Lines.{texts_of}
use Rattle.lsp_answers.proofs.Marking.{all_put, none_yet, put_more}
use Rattle.lsp_answers.proofs.fault_marks.line_faults.Goals as goal

pub loop-fault-init : goal.loop-fault-init
loop-fault-init c = none_yet (fault_blocks (IsMeant (known_of c.args.context.now))) fault_kind (texts_of c.args.lines.now) c.args.faults.now
    c.new.result.items c.new.ensures.items

pub loop-fault-preserved : goal.loop-fault-preserved
loop-fault-preserved c = put_more (fault_blocks (IsMeant (known_of c.args.context.now))) fault_kind (texts_of c.args.lines.now) c.args.faults.now
    c.loop-fault.fault-index _ c.loop-fault.found c.with_note-found.result _ _ _ _ _ (omega (arith, c.loop-fault-test.true)) c.loop-fault.invariant
    c.line_of.ensures c.line_or_none-line.ensures refl refl c.note_of-note.ensures c.with_note-found.ensures

pub returns : goal.returns
returns c = all_put (fault_blocks (IsMeant (known_of c.args.context.now))) fault_kind (texts_of c.args.lines.now) c.args.faults.now
    c.loop-fault.fault-index c.loop-fault.found (omega (arith, c.loop-fault-test.false)) c.loop-fault.invariant
