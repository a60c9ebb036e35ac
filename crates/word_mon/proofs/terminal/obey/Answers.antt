use Rattle.std.proofs.Common.{◌≡◌, refl, subst, sym}
use Rattle.std.specs.Prelude.{OnOk}
use Rattle.word_mon.proofs.Again.{on_ok_map}
use Rattle.word_mon.specs.Attended.{Obeys}
use Rattle.mon_lines.specs.Lines.{command_view}
use Rattle.mon_lines.specs.declared.command.Command.{Command}
use Rattle.mon_lines.specs.declared.command.Command.TheVariants as line
use Rattle.word_mon.proofs.terminal.obey.Goals as goal

pub returns-in-Save-clause-obeyed : goal.returns-in-Save-clause-obeyed
returns-in-Save-clause-obeyed g c =
    subst (λ (command : Command). OnOk c.save.result (Obeys (command_view command) c.args.terminal.now c.save.new.terminal)) (sym c.in-Save.is)
    (on_ok_map c.save.result _ _ (λ s. (c.save.ensures.rests, s.0, s.1)) c.save.ensures.said)

pub returns-in-Page-clause-obeyed : goal.returns-in-Page-clause-obeyed
returns-in-Page-clause-obeyed g c =
    subst (λ (command : Command). OnOk c.show.result (Obeys (command_view command) c.args.terminal.now c.show.new.terminal)) (sym c.in-Page.is)
    c.show.ensures.shown

pub returns-in-Reload-clause-obeyed : goal.returns-in-Reload-clause-obeyed
returns-in-Reload-clause-obeyed g c =
    subst (λ (command : Command). OnOk c.reload.result (Obeys (command_view command) c.args.terminal.now c.reload.new.terminal)) (sym c.in-Reload.is)
    c.reload.ensures.reloaded

pub returns-in-Draw-clause-obeyed : goal.returns-in-Draw-clause-obeyed
returns-in-Draw-clause-obeyed g c =
    subst (λ (command : Command). OnOk c.show_again.result (Obeys (command_view command) c.args.terminal.now c.show_again.new.terminal)) (sym c.in-Draw.is)
    (on_ok_map c.show_again.result _ _ (λ said. (c.show_again.ensures.rests, said)) c.show_again.ensures.said)

-- A line that is none of those before it.
pub returns-in_default-clause-obeyed : goal.returns-in_default-clause-obeyed
returns-in_default-clause-obeyed g c = by_command c.args.command.now refl
  where
    by_command : (command : Command) → c.args.command.now ≡ command → Obeys (command_view command) c.args.terminal.now c.args.terminal.now
    by_command (line.Save file stretch) e = absurd (c.in_default.not-Save file stretch e)
    by_command (line.Page file) e = absurd (c.in_default.not-Page file e)
    by_command line.Reload e = absurd (c.in_default.not-Reload e)
    by_command (line.Draw drawing) e = absurd (c.in_default.not-Draw drawing e)
    by_command _ e = refl
