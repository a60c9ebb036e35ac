use Rattle.std.proofs.Common.{arith}
use Rattle.t65_runner.proofs.Since.{restored}
use Rattle.t65_runner.proofs.going_back.restore.Goals as goal

pub returns-in-Ok-back : goal.returns-in-Ok-back
returns-in-Ok-back c = record {
  ok = restored c.args.map c.args.image.now c.args.session.now c.back.new.self c.held-held.result c.requires.since c.requires.stops
      c.held-held.ensures.held (omega (arith, c.requires.since.within, c.held-held.ensures.held)) c.in-Ok-back.ensures.ok;
}
