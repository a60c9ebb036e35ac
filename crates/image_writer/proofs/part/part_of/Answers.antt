use Rattle.std.proofs.Common.{arith, ◌∙◌, ap, ◌+◌}
use Rattle.image_writer.specs.Window.{filled_with}
use Rattle.image_writer.proofs.Parts.{all_cells, none_yet, one_cell, part_size, size_kept}
use Rattle.image_writer.proofs.part.part_of.Goals as goal

pub loop-address-init : goal.loop-address-init
loop-address-init c = record {
  size = part_size c.in-Ok.part c.in-Ok.ensures.empty;
  each = none_yet c.args.low c.args.fill c.args.image.now c.in-Ok.part c.in-Ok.ensures.empty;
}

pub loop-address-preserved : goal.loop-address-preserved
loop-address-preserved c = record {
  size = size_kept c.loop-address.part c.put_cell.new.part c.loop-address.address c.filled_with.result c.put_cell.ensures c.loop-address.invariant.size;
  each = one_cell c.args.low c.loop-address.address c.args.fill c.filled_with.result c.args.image.now c.loop-address.part c.put_cell.new.part
      (omega arith) (omega arith) c.loop-address.invariant.size
      (c.filled_with.ensures ∙ ap (filled_with c.args.fill) c.get.ensures) c.put_cell.ensures c.loop-address.invariant.each;
}

pub returns : goal.returns
returns c = all_cells c.args.low c.args.high c.loop-address.address c.args.fill c.args.image.now c.loop-address.part (omega arith) c.loop-address.invariant.each
