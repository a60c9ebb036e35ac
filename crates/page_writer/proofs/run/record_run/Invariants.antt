use Rattle.std.proofs.Common.{◌≡◌, ◌++◌, true, false, List, ℕ, []}
use Rattle.console.specs.Taking.{Waits}
use Rattle.console.specs.Turns.{first_known, known}
use Rattle.console.proofs.Turning.{RunsOn}
use Rattle.page_writer.specs.Data.{AreRecords, IsSentSafely}
use Rattle.page_writer.specs.Steps.{Made, last_of}
use Rattle.page_writer.proofs.Stepping.{StepsOn}
use Rattle.page_writer.proofs.run.record_run.Given as goal

abbrev pub invariant-loop-steps : goal.invariant-loop-steps
invariant-loop-steps g l = (told : List ℕ) × (records : List ℕ) × (done : List Made) × record {
  consumes : l.fn.input ≡ told ++ l.left;
  waits : Waits l.session.current l.player.waiting;
  over : l.player.is_over ≡ true → l.left ≡ [];
  runs : RunsOn l.fn.until l.fn.limit l.fn.session (first_known l.fn.written) told l.player.is_over l.steps l.session (known l.player);
  steps : StepsOn l.fn.until l.fn.limit l.fn.session (first_known l.fn.written) told l.player.is_over l.steps l.session (known l.player) done;
  are : AreRecords l.fn.session.current done records;
  last : last_of l.fn.session.current done ≡ l.session.current;
  sent : IsSentSafely (g.W.Write.contents l.fn.writer) (g.W.Write.contents l.writer) (l.fn.pending.items ++ records) l.pending.items;
}
