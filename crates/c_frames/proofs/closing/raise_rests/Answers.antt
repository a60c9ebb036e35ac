use Rattle.std.proofs.Common.{◌∙◌, ◌-◌, ap, refl}
use Rattle.c_frames.proofs.Passes.{rests_further, rests_raised}
use Rattle.c_frames.specs.Closures.{depth_at, rest_by}
use Rattle.c_frames.specs.Programs.{program_view}
use Rattle.c_frames.proofs.closing.raise_rests.Goals as goal

pub loop-count-preserved : goal.loop-count-preserved
loop-count-preserved c =
    rests_further (program_view c.args.program.now) c.args.rests.now.items c.loop-count.rests.items c.raise-has_changed.new.table.items
    c.loop-count.count (65535 - c.loop-count.count) c.ways_at.result c.rest_by-rest.result c.loop-count.has_changed c.raise-has_changed.result
    c.loop-count-test.true refl c.ways_at.ensures (c.rest_by-rest.ensures ∙ ap (λ t. rest_by (depth_at t) c.ways_at.result) c.deref.ensures.value)
    c.loop-count.invariant c.raise-has_changed.ensures

pub returns : goal.returns
returns c = rests_raised (program_view c.args.program.now) c.args.rests.now.items c.loop-count.rests.items c.loop-count.count c.loop-count.has_changed
    c.loop-count-test.false c.loop-count.invariant
