use Rattle.std.proofs.Common.{◌≡◌, ap, sym, ◌∙◌, arith, length, ◌++◌, ◌∷◌}
use Rattle.circular_buffer.specs.Buffer.{buffer}
use Rattle.mon_session.proofs.Rings.{take-one_more, drop-one_more}
use Rattle.mon_session.proofs.events.move_last.Goals as goal

pub loop-preserved : goal.loop-preserved
loop-preserved c = record {
  rest = rw (c.move_one.ensures.rest, c.loop.invariant.rest, take-one_more);
  moved = rw (c.move_one.ensures.moved, c.loop.invariant.rest, c.loop.invariant.moved, drop-one_more);
}
