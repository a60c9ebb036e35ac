use Rattle.std.proofs.Common.{◌+◌, ◌-◌, arith, refl}
use Rattle.mon_screen.specs.Around.{next_number, source_line}
use Rattle.source_map.specs.Lines.{texts_at}
use Rattle.mon_screen.proofs.Listings.{all_shown, line_shown}
use Rattle.mon_screen.proofs.around.push_source.Goals as goal

pub loop-preserved : goal.loop-preserved
loop-preserved c = line_shown (source_line (texts_at c.args.places.now.sources c.args.file) c.args.here) next_number (c.args.count - c.loop.counter)
    (c.args.count - (c.loop.counter + 1)) _ _ _ _ _
    (omega (arith, c.loop-test.true)) c.in_ok-push_source_line.ensures refl c.loop.invariant

pub returns : goal.returns
returns c = all_shown (source_line (texts_at c.args.places.now.sources c.args.file) c.args.here) next_number (c.args.count - c.loop.counter) _ _ _
    (omega (arith, c.loop-test.false)) c.loop.invariant
