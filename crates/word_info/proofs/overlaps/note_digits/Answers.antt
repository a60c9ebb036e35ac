use Rattle.word_info.proofs.Noted.{by_digits}
use Rattle.word_info.proofs.overlaps.note_digits.Goals as goal

pub returns : goal.returns
returns c = λ n noted.
    by_digits c.note_record.new.once c.note_record.new.again n c.args.digits.now c.pair_at.result c.pair_at-2.result c.pair_at-3.result
    c.pair_at.ensures.value c.pair_at-2.ensures.value c.pair_at-3.ensures.value (c.note_record.ensures n noted)
