use Rattle.std.proofs.Common.{Some, arith}
use Rattle.word_dis.specs.Fill.{IsKept}
use Rattle.word_dis.proofs.Between.{begun_each, turn_each}
use Rattle.word_dis.proofs.fill.without_runs.Goals as goal

pub loop-address-init : goal.loop-address-init
loop-address-init c = begun_each (IsKept c.args.image.now (Some c.args.fill)) c.in-Ok.part c.in-Ok.ensures.empty c.cells.ensures.image.size

pub loop-address-preserved : goal.loop-address-preserved
loop-address-preserved c =
    turn_each (IsKept c.args.image.now (Some c.args.fill)) c.loop-address.part c.put_cell.new.part c.loop-address.address c.kept_cell-cell.result
    c.loop-address.invariant (omega arith) c.kept_cell-cell.ensures c.put_cell.ensures

pub returns : goal.returns
returns c = λ a h. c.loop-address.invariant.done a (omega (arith, h))
