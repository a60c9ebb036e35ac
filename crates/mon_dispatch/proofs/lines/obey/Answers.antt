use Rattle.std.proofs.Common.{◌≡◌, ◌++◌, Result, Ok, Err, refl}
use Rattle.std.specs.Prelude.{⊤, OnOk}
use Rattle.std.specs.declared.alloc.AllocError.{AllocError}
use Rattle.mon_dispatch.specs.LookTexts.{look_text}
use Rattle.mon_dispatch.specs.Lines.{Does, Tells}
use Rattle.mon_lines.specs.declared.command.Command.{Command}
use Rattle.mon_lines.specs.declared.command.Command.TheVariants as line
use Rattle.mon_session.specs.Course.{ShowsOnly}
use Rattle.mon_dispatch.proofs.lines.obey.Goals as goal

always : (r : Result ⊤ AllocError) (P : Type 0) → P → OnOk r P
always (Ok x) P p = p
always (Err e) P p = tt

-- A line that is handed on is none of those before it.
pub returns-in_default-clause-does : goal.returns-in_default-clause-does
returns-in_default-clause-does c = always c.look.result (Does c.args.command.now c.args.mon.now c.look.new.mon)
    (by_command c.args.command.now refl c.look.ensures.shows)
  where
    by_command : (command : Command) → c.args.command.now ≡ command → ShowsOnly c.args.mon.now c.look.new.mon → Does command c.args.mon.now c.look.new.mon
    by_command line.Nothing e shows = absurd (c.in_default.not-Nothing e)
    by_command (line.Step n) e shows = absurd (c.in_default.not-Step n e)
    by_command line.Over e shows = absurd (c.in_default.not-Over e)
    by_command line.Out e shows = absurd (c.in_default.not-Out e)
    by_command line.Line e shows = absurd (c.in_default.not-Line e)
    by_command line.LineBack e shows = absurd (c.in_default.not-LineBack e)
    by_command (line.Until a) e shows = absurd (c.in_default.not-Until a e)
    by_command (line.Go n) e shows = absurd (c.in_default.not-Go n e)
    by_command (line.Back u) e shows = absurd (c.in_default.not-Back u e)
    by_command line.Rback e shows = absurd (c.in_default.not-Rback e)
    by_command (line.Redo n) e shows = absurd (c.in_default.not-Redo n e)
    by_command line.Where e shows = absurd (c.in_default.not-Where e)
    by_command (line.Locals n) e shows = absurd (c.in_default.not-Locals n e)
    by_command (line.History n) e shows = absurd (c.in_default.not-History n e)
    by_command (line.Break a l t n) e shows = absurd (c.in_default.not-Break a l t n e)
    by_command (line.Watch s k) e shows = absurd (c.in_default.not-Watch s k e)
    by_command (line.WatchRegister r) e shows = absurd (c.in_default.not-WatchRegister r e)
    by_command line.List e shows = absurd (c.in_default.not-List e)
    by_command (line.Delete a l) e shows = absurd (c.in_default.not-Delete a l e)
    by_command (line.DeleteRegister r) e shows = absurd (c.in_default.not-DeleteRegister r e)
    by_command (line.Display p) e shows = absurd (c.in_default.not-Display p e)
    by_command (line.Undisplay a) e shows = absurd (c.in_default.not-Undisplay a e)
    by_command (line.Set s) e shows = absurd (c.in_default.not-Set s e)
    by_command (line.SetFlag f v) e shows = absurd (c.in_default.not-SetFlag f v e)
    by_command (line.Put a b) e shows = absurd (c.in_default.not-Put a b e)
    by_command (line.Asm a t) e shows = absurd (c.in_default.not-Asm a t e)
    by_command (line.«Type» b) e shows = absurd (c.in_default.not-Type b e)
    by_command (line.Irq l) e shows = absurd (c.in_default.not-Irq l e)
    by_command line.Nmi e shows = absurd (c.in_default.not-Nmi e)
    by_command line.Reset e shows = absurd (c.in_default.not-Reset e)
    by_command _ e shows = shows

pub returns-in_default-clause-text : goal.returns-in_default-clause-text
returns-in_default-clause-text c =
    by_command c.args.command.now refl c.look.ensures.text
  where
    by_command : (command : Command) → c.args.command.now ≡ command
        → OnOk c.look.result (c.look.new.mon.text.items ≡ c.args.mon.now.text.items ++ look_text command c.args.mon.now.session.current c.args.mon.now.places)
        → OnOk c.look.result (Tells command c.args.mon.now c.look.new.mon)
    by_command line.Nothing e said = absurd (c.in_default.not-Nothing e)
    by_command (line.Step n) e said = absurd (c.in_default.not-Step n e)
    by_command line.Over e said = absurd (c.in_default.not-Over e)
    by_command line.Out e said = absurd (c.in_default.not-Out e)
    by_command line.Line e said = absurd (c.in_default.not-Line e)
    by_command line.LineBack e said = absurd (c.in_default.not-LineBack e)
    by_command (line.Until a) e said = absurd (c.in_default.not-Until a e)
    by_command (line.Go n) e said = absurd (c.in_default.not-Go n e)
    by_command (line.Back u) e said = absurd (c.in_default.not-Back u e)
    by_command line.Rback e said = absurd (c.in_default.not-Rback e)
    by_command (line.Redo n) e said = absurd (c.in_default.not-Redo n e)
    by_command line.Where e said = absurd (c.in_default.not-Where e)
    by_command (line.Locals n) e said = absurd (c.in_default.not-Locals n e)
    by_command (line.History n) e said = absurd (c.in_default.not-History n e)
    by_command (line.Break a l t n) e said = absurd (c.in_default.not-Break a l t n e)
    by_command (line.Watch s k) e said = absurd (c.in_default.not-Watch s k e)
    by_command (line.WatchRegister r) e said = absurd (c.in_default.not-WatchRegister r e)
    by_command line.List e said = absurd (c.in_default.not-List e)
    by_command (line.Delete a l) e said = absurd (c.in_default.not-Delete a l e)
    by_command (line.DeleteRegister r) e said = absurd (c.in_default.not-DeleteRegister r e)
    by_command (line.Display p) e said = absurd (c.in_default.not-Display p e)
    by_command (line.Undisplay a) e said = absurd (c.in_default.not-Undisplay a e)
    by_command (line.Set s) e said = absurd (c.in_default.not-Set s e)
    by_command (line.SetFlag f v) e said = absurd (c.in_default.not-SetFlag f v e)
    by_command (line.Put a b) e said = absurd (c.in_default.not-Put a b e)
    by_command (line.Asm a t) e said = absurd (c.in_default.not-Asm a t e)
    by_command (line.«Type» b) e said = absurd (c.in_default.not-Type b e)
    by_command (line.Irq l) e said = absurd (c.in_default.not-Irq l e)
    by_command line.Nmi e said = absurd (c.in_default.not-Nmi e)
    by_command line.Reset e said = absurd (c.in_default.not-Reset e)
    by_command _ e said = said
