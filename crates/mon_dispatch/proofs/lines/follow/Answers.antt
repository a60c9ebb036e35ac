use Rattle.std.proofs.Common.{ap}
use Rattle.mon_dispatch.proofs.Followed.{followed}
use Rattle.mon_lines.specs.Lines.{asked_view}
use Rattle.mon_dispatch.proofs.lines.follow.Goals as goal

pub returns-in-Ok : goal.returns-in-Ok
returns-in-Ok c =
    followed c.execute.result (asked_view c.args.asked.now) c.in-Ok.command c.args.mon.now c.execute.new.mon (ap asked_view c.in-Ok.is)
    c.execute.ensures.does c.execute.ensures.text c.execute.ensures.outcome
