use Rattle.std.proofs.Common.{◌+◌}
use Rattle.word_info.proofs.Noted.{below_noted, cut_at}
use Rattle.word_info.proofs.overlaps.note_record.Goals as goal

pub returns : goal.returns
returns c = λ n noted.
    below_noted c.note_bytes.new.once c.note_bytes.new.again n c.args.first c.args.count c.min-past.result c.requires.first
    (cut_at (c.args.first + c.args.count) c.min-past.result c.min-past.ensures) (c.note_bytes.ensures n noted)
