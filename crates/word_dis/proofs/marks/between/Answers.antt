use Rattle.word_dis.proofs.Between.{begun}
use Rattle.word_dis.proofs.marks.between.Goals as goal

pub loop-address-init : goal.loop-address-init
loop-address-init c = begun c.args.image.now c.args.first c.args.last c.in-Ok.part c.in-Ok.ensures.empty c.cells.ensures.image.size
