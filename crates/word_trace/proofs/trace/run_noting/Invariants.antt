use Rattle.std.proofs.Common.{◌≡◌, ◌++◌, List, ℕ}
use Rattle.std.specs.Io.KnownBytes.{Appends, Consumes}
use Rattle.console.proofs.Turning.{RunsOn}
use Rattle.console.specs.Taking.{Waits}
use Rattle.console.specs.Turns.{EndsOnce, known}
use Rattle.word_trace.specs.Traces.{EndsAt}
use Rattle.word_trace.specs.Gathered.{Gathers, gathered}
use Rattle.word_trace.specs.Texts.{no_text, note_step, noted_in}
use Rattle.word_trace.proofs.Making.{MakesOn}
use Rattle.word_trace.proofs.trace.run_noting.Given as goal

abbrev pub invariant-loop-steps : goal.invariant-loop-steps
invariant-loop-steps g l = (told : List ℕ) × (noted : List ℕ) × (put : List ℕ) × record {
  consumes : Consumes (g.R.Read.remaining l.fn.input) (g.R.Read.remaining l.input) told;
  once : EndsOnce l.fn.player.is_over l.player.is_over told;
  waits : Waits l.session.current l.player.waiting;
  over : EndsAt l.player.is_over (g.R.Read.remaining l.input);
  runs : RunsOn l.fn.to l.fn.limit l.fn.session (known l.fn.player) told l.player.is_over l.steps l.session (known l.player);
  makes : MakesOn note_step l.fn.to l.fn.limit l.fn.session (known l.fn.player) told l.player.is_over l.steps l.session (known l.player)
      (no_text (gathered l.fn.tracer)) (noted_in l.tracer noted);
  text : Gathers (g.O.Write.contents l.fn.output) (g.O.Write.contents l.output) l.fn.tracer.sheet.text.items l.tracer.sheet.text.items noted;
  out : l.session.current.bus.out ≡ l.fn.session.current.bus.out ++ put;
  appends : Appends (g.E.Write.contents l.fn.errors) (g.E.Write.contents l.errors) put;
}
