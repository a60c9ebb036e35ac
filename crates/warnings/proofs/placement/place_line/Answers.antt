use Rattle.std.proofs.Common.{rules}
use Rattle.warnings.proofs.Placing.{placed_more}
use Rattle.warnings.proofs.placement.place_line.Goals as goal

pub returns-in_ok-push-in-Ok : goal.returns-in_ok-push-in-Ok
returns-in_ok-push-in-Ok c = placed_more c.args.lines.now.items c.push.new.self.items _ _ c.in_ok-push-in-Ok.ensures.items (search rules)
