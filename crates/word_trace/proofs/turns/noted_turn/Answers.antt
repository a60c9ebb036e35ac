use Rattle.std.proofs.Common.{◌≡◌, ◌∙◌, ◌++◌, ℕ, List, [], IfOk, OnErr, ap, append-nil, refl, subst, sym}
use Rattle.std.proofs.KnownBytes.{Appends-nil}
use Rattle.model.specs.Writers.{Writes}
use Rattle.console.specs.declared.turn.Player.{Player}
use Rattle.model.specs.Session.{Session}
use Rattle.word_run.specs.Runs.{Streams}
use Rattle.word_trace.specs.Gathered.{gathered}
use Rattle.word_trace.specs.Traces.{NotedCut, NotedTurn}
use Rattle.word_trace.specs.declared.sheet.Sheet.{Sheet}
use Rattle.word_trace.specs.declared.tracer.Tracer.{Tracer}
use Rattle.word_trace.proofs.Gathering.{gathers_none}
use Rattle.word_trace.proofs.Making.{turn_counted, turned_alone, with_same}
use Rattle.word_trace.proofs.turns.noted_turn.Goals as goal

pub returns-then-take_counted_turn-clause-ok : goal.returns-then-take_counted_turn-clause-ok
returns-then-take_counted_turn-clause-ok g c =
    let turn = c.take_counted_turn.ensures in
    let is = c.if-take_counted_turn.true in (
      [],
      [],
      turned_alone _ _ _ _ _ turn.over (turn.made is),
      turn_counted c.args.session.now.current c.take_counted_turn.new.session.current (gathered c.args.tracer.now)
          (gathered c.take_counted_turn.new.tracer) (turn.noted is) (turn.text is),
      gathers_none _ _ _ _ refl (ap (λ (sheet : Sheet). sheet.text.items) turn.sheet),
    )

pub returns-clause-ok : goal.returns-clause-ok
returns-clause-ok g c =
    let same = c.take_counted_turn.ensures.not c.if-take_counted_turn.false in
    let slow = c.note_slowly in
    let streams : Streams = record {
      given = g.R.Read.remaining c.args.input.now;
      left = g.R.Read.remaining slow.new.input;
      held = g.O.Write.contents c.args.output.now;
      now = g.O.Write.contents slow.new.output;
    } in
    let T : Tracer → Session → Player → Type 0 = λ t s p. IfOk slow.result
    (λ ending. NotedTurn ending s p t streams slow.new.session slow.new.player slow.new.tracer) in
    subst (λ t. T t c.args.session.now c.args.player.now) same.2 (with_same (T c.take_counted_turn.new.tracer) same.0 same.1 slow.ensures.ok)

pub returns-clause-err : goal.returns-clause-err
returns-clause-err g c =
    let same = c.take_counted_turn.ensures.not c.if-take_counted_turn.false in
    let slow = c.note_slowly in
    let streams : Streams = record {
      given = g.R.Read.remaining c.args.input.now;
      left = g.R.Read.remaining slow.new.input;
      held = g.O.Write.contents c.args.output.now;
      now = g.O.Write.contents slow.new.output;
    } in
    let T : Tracer → Session → Player → Type 0 = λ t s p. OnErr slow.result (NotedCut s p t streams slow.new.session slow.new.player slow.new.tracer) in
    subst (λ t. T t c.args.session.now c.args.player.now) same.2 (with_same (T c.take_counted_turn.new.tracer) same.0 same.1 slow.ensures.err)

pub returns-then-take_counted_turn-clause-output : goal.returns-then-take_counted_turn-clause-output
returns-then-take_counted_turn-clause-output g c =
    ([], c.take_counted_turn.ensures.output ∙ sym (append-nil c.args.session.now.current.bus.out), Appends-nil _)

pub returns-clause-output : goal.returns-clause-output
returns-clause-output g c =
    let same = c.take_counted_turn.ensures.not c.if-take_counted_turn.false in
    let slow = c.note_slowly in
    subst (λ (s : Session). (text : List ℕ) × (slow.new.session.current.bus.out ≡ s.current.bus.out ++ text)
    × Writes (g.E.Write.contents c.args.errors.now) (g.E.Write.contents slow.new.errors) text slow.result)
    same.0 slow.ensures.output
