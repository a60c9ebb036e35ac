use Rattle.std.proofs.Common.{Result, refl, subst, sym}
use Rattle.std.specs.Prelude.{OnOk}
use Rattle.word_mon.specs.Attended.{ObeysRead}
use Rattle.mon_lines.specs.Lines.{asked_view}
use Rattle.mon_lines.specs.declared.command.Command.{Command}
use Rattle.mon_lines.specs.declared.slip.Slip.{Slip}
use Rattle.word_mon.proofs.terminal.obey_read.Goals as goal

pub returns-in-Ok-clause-obeyed : goal.returns-in-Ok-clause-obeyed
returns-in-Ok-clause-obeyed g c =
    subst (λ (asked : Result Command Slip). OnOk c.obey.result (ObeysRead (asked_view asked) c.args.terminal.now c.obey.new.terminal))
    (sym c.in-Ok.is) c.obey.ensures.obeyed

pub returns-in-Err-clause-obeyed : goal.returns-in-Err-clause-obeyed
returns-in-Err-clause-obeyed g c =
    subst (λ (asked : Result Command Slip). ObeysRead (asked_view asked) c.args.terminal.now c.args.terminal.now) (sym c.in-Err.is) refl
