use Rattle.debugger.proofs.Replays.{follows_of}
use Rattle.debugger.proofs.trail.happen.Goals as goal

pub returns-in-Ok : goal.returns-in-Ok
returns-in-Ok c = record {
  ok = follows_of c.in-Ok.field-0 _ _ c.args.event c.in-Ok.ensures.ok c.in-Ok.ensures.undo;
  err = tt;
  same =
      λ since le kept same. c.stamp_all.ensures since le kept _;
}
