use Rattle.std.proofs.Common.{arith}
use Rattle.source_notes.specs.Lines.{names_of, texts_of}
use Rattle.source_notes.proofs.BlockSteps.{all_done, block_done}
use Rattle.warning_notes.specs.Blocks.{warning_blocks}
use Rattle.warning_notes.proofs.Told.{note_of_same}
use Rattle.warning_notes.proofs.block.line_blocks.Goals as goal

pub loop-warning-preserved : goal.loop-warning-preserved
loop-warning-preserved c =
    let lines = texts_of c.args.lines.now in
    block_done (warning_blocks (names_of lines)) c.args.file.now lines c.args.warnings.now c.loop-warning.warning-index _ c.loop-warning.text.items _
    _ _ c.in_ok-note.note (omega (arith, c.loop-warning-test.true)) c.loop-warning.invariant c.line_of-line.ensures c.line_or_none-shown.ensures
    (note_of_same _ _ _ _ _ c.in_ok-note.note c.requires c.in_ok-note.ensures) c.in_ok-push_warning.ensures

pub returns : goal.returns
returns c = all_done (warning_blocks (names_of (texts_of c.args.lines.now))) c.args.file.now (texts_of c.args.lines.now) c.args.warnings.now
    c.loop-warning.warning-index c.loop-warning.text.items (omega (arith, c.loop-warning-test.false)) c.loop-warning.invariant
