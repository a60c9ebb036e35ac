use Rattle.std.proofs.Common.{codes, ◌++◌}
use Rattle.model.proofs.Written.{front_after, front_more}
use Rattle.arguments.specs.FaultLines.{joined}
use Rattle.arguments.specs.Shown.{shown_name}
use Rattle.arguments.specs.Words.{texts}
use Rattle.arguments.proofs.fault_line.put_named.Goals as goal

pub returns-in-Err : goal.returns-in-Err
returns-in-Err g c = front_more _ _ (codes "mos65: ") (shown_name c.args.file.now ++ joined (texts c.args.parts.now)) c.in-Err.ensures

pub returns-in-Ok-put_shown : goal.returns-in-Ok-put_shown
returns-in-Ok-put_shown g c =
    front_after _ _ _ (codes "mos65: ") (shown_name c.args.file.now ++ joined (texts c.args.parts.now)) c.in-Ok.ensures
    (front_after _ _ _ (shown_name c.args.file.now) (joined (texts c.args.parts.now)) c.in-Ok-put_shown.ensures c.put_all.ensures)

pub returns-in-Err-put_shown : goal.returns-in-Err-put_shown
returns-in-Err-put_shown g c =
    front_after _ _ _ (codes "mos65: ") (shown_name c.args.file.now ++ joined (texts c.args.parts.now)) c.in-Ok.ensures
    (front_more _ _ (shown_name c.args.file.now) (joined (texts c.args.parts.now)) c.in-Err-put_shown.ensures)
