use Rattle.std.proofs.Common.{take}
use Rattle.source_notes.specs.Blocks.{AreBlocks}
use Rattle.source_notes.specs.Lines.{names_of, texts_of}
use Rattle.warning_notes.specs.Blocks.{warning_blocks}
use Rattle.warning_notes.proofs.block.line_blocks.Given as goal

abbrev pub invariant-loop-warning : goal.invariant-loop-warning
invariant-loop-warning l = AreBlocks (warning_blocks (names_of (texts_of l.lines))) l.file (texts_of l.lines) (take l.warning-index l.warnings) l.text.items
