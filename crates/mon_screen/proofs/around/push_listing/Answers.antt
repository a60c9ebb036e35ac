use Rattle.std.proofs.Common.{◌+◌, ◌-◌, arith}
use Rattle.mon_screen.specs.Around.{marked_line, next_address}
use Rattle.mon_screen.proofs.Listings.{all_shown, line_shown}
use Rattle.mon_screen.proofs.around.push_listing.Goals as goal

pub loop-preserved : goal.loop-preserved
loop-preserved c = line_shown (marked_line c.args.session.now.current c.args.places.now) (next_address c.args.session.now.current c.args.places.now)
    (c.args.count - c.loop.counter) (c.args.count - (c.loop.counter + 1)) _ _ _ _ _
    (omega (arith, c.loop-test.true)) c.in_ok-address.ensures.ok c.in_ok-address.ensures.next c.loop.invariant

pub returns : goal.returns
returns c = all_shown (marked_line c.args.session.now.current c.args.places.now) (next_address c.args.session.now.current c.args.places.now)
    (c.args.count - c.loop.counter) _ _ _ (omega (arith, c.loop-test.false)) c.loop.invariant
