use Rattle.std.proofs.Common.{◌∙◌, arith}
use Rattle.memory_map.proofs.Images.{empty_image_is}
use Rattle.memory_map.proofs.image.Image.new.Goals as goal

pub returns-clause-empty : goal.returns-clause-empty
returns-clause-empty c = c.loop.invariant ∙ empty_image_is _ (omega arith)
