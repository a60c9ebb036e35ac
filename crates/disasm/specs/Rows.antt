-- Rows without the bytes after their text.
use Rattle.std.specs.Prelude.{take}
use Rattle.model.specs.InstructionText.{TextRow}
use Rattle.disasm.specs.declared.line.TextLine.{TextLine}

abbrev pub row_view : TextLine → TextRow
row_view r = record { len = r.len; text = take r.text_len r.text }
