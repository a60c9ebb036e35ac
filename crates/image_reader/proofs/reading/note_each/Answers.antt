use Rattle.std.proofs.Common.{◌∙◌, arith}
use Rattle.image_reader.proofs.Again.{one_again}
use Rattle.image_reader.proofs.reading.note_each.Goals as goal

pub loop-i-preserved : goal.loop-i-preserved
loop-i-preserved c =
    one_again c.args.image.now c.loop-i.again c.note.new.again c.args.address c.loop-i.i _ c.args.bytes.now c.loop-i-test.true
    (omega (arith, c.loop-i-test.true, c.requires, c.ranges.address)) c.note.ensures
    ∙ c.loop-i.invariant
