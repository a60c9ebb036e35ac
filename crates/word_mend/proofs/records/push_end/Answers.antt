use Rattle.std.proofs.Common.{ap, sym, ◌∙◌}
use Rattle.image_writer.specs.ImageTexts.{end_text}
use Rattle.word_mend.proofs.RecordLines.{end_put, hex_end, s_end}
use Rattle.word_mend.proofs.records.push_end.Goals as goal

pub returns-in-Hex : goal.returns-in-Hex
returns-in-Hex c = end_put c.extend_from_slice.result c.args.out.now.items c.extend_from_slice.new.self.items _ (end_text c.args.form)
    c.extend_from_slice.ensures.items (hex_end ∙ ap end_text (sym c.in-Hex.is))

pub returns-in-SRecord : goal.returns-in-SRecord
returns-in-SRecord c =
    end_put c.extend_from_slice-in-SRecord.result c.args.out.now.items c.extend_from_slice-in-SRecord.new.self.items _ (end_text c.args.form)
    c.extend_from_slice-in-SRecord.ensures.items (s_end ∙ ap end_text (sym c.in-SRecord.is))
