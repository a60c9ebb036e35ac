use Rattle.word_info.proofs.Noted.{unwritten, written_there}
use Rattle.word_info.proofs.overlaps.note_place.Goals as goal

pub returns-then-text-place-ne59 : goal.returns-then-text-place-ne59
returns-then-text-place-ne59 c = λ n noted. unwritten c.args.once.now c.args.again.now n c.args.text.now c.args.place c.if-text-place-ne59.true noted

pub returns : goal.returns
returns c = λ n noted.
    written_there c.note_digits.new.once c.note_digits.new.again n c.args.text.now c.behind.result.now c.args.place c.if-text-place-ne59.false
    c.behind.ensures (c.note_digits.ensures n noted)
