use Rattle.std.proofs.Common.{◌≡◌, ◌-◌, ◌≤◌, ◌++◌, true, List, ℕ}
use Rattle.std.specs.Io.KnownBytes.{Appends, Consumes, IsAtEnd}
use Rattle.console.specs.Taking.{Waits}
use Rattle.console.specs.Turns.{first_known, known}
use Rattle.console.proofs.Turning.{RunsOn}
use Rattle.console.proofs.running.make_turns.Given as goal

abbrev pub invariant-loop-steps : goal.invariant-loop-steps
invariant-loop-steps g l = (told : List ℕ) × (text : List ℕ) × record {
  within : l.steps ≤ l.fn.limit;
  flushed : l.flushed ≤ l.steps;
  consumes : Consumes (g.R.Read.remaining l.fn.reader) (g.R.Read.remaining l.reader) told;
  appends : Appends (g.W.Write.contents l.fn.writer) (g.W.Write.contents l.writer) text;
  out : l.session.current.bus.out ≡ l.fn.session.current.bus.out ++ text;
  waits : Waits l.session.current l.player.waiting;
  over : l.player.is_over ≡ true → IsAtEnd (g.R.Read.remaining l.reader);
  runs : RunsOn l.fn.until l.fn.limit l.fn.session (first_known l.fn.written) told l.player.is_over l.steps l.session (known l.player);
}

abbrev pub decreases-loop-steps : goal.decreases-loop-steps
decreases-loop-steps g l = l.fn.limit - l.steps
