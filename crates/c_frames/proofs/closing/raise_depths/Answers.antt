use Rattle.c_frames.proofs.Passes.{depth_read, depths_further}
use Rattle.c_frames.specs.Closures.{depth_at}
use Rattle.c_frames.specs.Programs.{program_view}
use Rattle.c_frames.proofs.closing.raise_depths.Goals as goal

pub loop-address-preserved : goal.loop-address-preserved
loop-address-preserved c =
    depths_further (program_view c.args.program.now) (depth_at c.args.rests.now) c.args.depths.now.items c.loop-address.depths.items
    c.raise_on-has_changed.new.depths.items
    c.loop-address.address c.index-depth.result.now c.ways_at-ways.result c.loop-address.has_changed c.raise_on-has_changed.result
    c.loop-address-test.true (depth_read c.loop-address.depths.items c.loop-address.address c.index-depth.result.now c.loop-address.invariant.size
    c.loop-address-test.true c.index-depth.ensures)
    c.ways_at-ways.ensures c.loop-address.invariant c.raise_on-has_changed.ensures
