use Rattle.std.proofs.Common.{◌≡◌, ◌++◌, List, ℕ}
use Rattle.std.specs.Io.KnownBytes.{Appends, Consumes}
use Rattle.console.proofs.Turning.{RunsOn}
use Rattle.console.specs.Taking.{Waits}
use Rattle.console.specs.Turns.{EndsOnce, known}
use Rattle.word_trace.specs.Traces.{EndsAt}
use Rattle.word_trace.specs.Gathered.{gathered}
use Rattle.word_trace.specs.Texts.{pass_step}
use Rattle.word_trace.proofs.Making.{MakesOn}
use Rattle.word_trace.proofs.trace.run_to_place.Given as goal

abbrev pub invariant-loop-steps : goal.invariant-loop-steps
invariant-loop-steps g l = (told : List ℕ) × (put : List ℕ) × record {
  consumes : Consumes (g.R.Read.remaining l.fn.input) (g.R.Read.remaining l.input) told;
  once : EndsOnce l.fn.player.is_over l.player.is_over told;
  waits : Waits l.session.current l.player.waiting;
  over : EndsAt l.player.is_over (g.R.Read.remaining l.input);
  runs : RunsOn l.fn.place 18446744073709551615 l.fn.session (known l.fn.player) told l.player.is_over l.steps l.session (known l.player);
  makes : MakesOn pass_step l.fn.place 18446744073709551615 l.fn.session (known l.fn.player) told l.player.is_over l.steps l.session (known l.player)
      (gathered l.fn.tracer) (gathered l.tracer);
  sheet : l.tracer.sheet ≡ l.fn.tracer.sheet;
  out : l.session.current.bus.out ≡ l.fn.session.current.bus.out ++ put;
  appends : Appends (g.E.Write.contents l.fn.errors) (g.E.Write.contents l.errors) put;
}
