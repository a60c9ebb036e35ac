use Rattle.std.proofs.Common.{refl}
use Rattle.c_frames.proofs.Passes.{begins_raising}
use Rattle.c_frames.proofs.closing.depths.Goals as goal

pub loop-init : goal.loop-init
loop-init c = begins_raising _ 65536 _ refl c.in_ok-table.ensures
