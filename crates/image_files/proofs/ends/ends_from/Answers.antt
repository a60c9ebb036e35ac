use Rattle.std.proofs.Common.{arith}
use Rattle.image_files.proofs.Ranges.{ends_in_order, has_last}
use Rattle.image_files.proofs.ends.ends_from.Goals as goal

pub returns-in-None : goal.returns-in-None
returns-in-None c = absurd (has_last c.args.image.now c.args.low (omega arith) c.requires c.in-None.ensures)

pub returns-in-Some : goal.returns-in-Some
returns-in-Some c = (
  (c.requires, c.in-Some.ensures),
  ends_in_order c.args.image.now c.args.low c.in-Some.high c.requires c.in-Some.ensures,
)
