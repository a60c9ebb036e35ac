use Rattle.std.proofs.Common.{arith}
use Rattle.word_info.proofs.Noted.{nothing_noted}
use Rattle.word_info.proofs.Writes.{next_place, noted_all, writes_before}
use Rattle.word_info.proofs.overlaps.written_again.Goals as goal

pub loop-place-init : goal.loop-place-init
loop-place-init c = nothing_noted c.in-Ok.once c.in-Ok-new.again c.in-Ok.ensures.empty c.in-Ok-new.ensures.empty c.cells.ensures.image.size
    c.cells-2.ensures.image.size

pub loop-place-preserved : goal.loop-place-preserved
loop-place-preserved c =
    next_place c.args.text.now c.note_place.new.once c.note_place.new.again c.loop-place.place
    (c.note_place.ensures (writes_before c.args.text.now c.loop-place.place) c.loop-place.invariant)

pub returns : goal.returns
returns c = noted_all c.args.text.now c.loop-place.once c.loop-place.again c.loop-place.place (omega arith) c.loop-place.invariant
