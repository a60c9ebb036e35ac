use Rattle.std.proofs.Common.{[], Some, None, ap, inl, inr, refl}
use Rattle.console.specs.Turns.{known}
use Rattle.word_trace.specs.Gathered.{gathered, text_of_step}
use Rattle.word_trace.proofs.Cutting.{all_front}
use Rattle.word_trace.proofs.Gathering.{front_of_lost, front_of_none, gathers_none}
use Rattle.word_trace.proofs.Making.{turn_noted, turned}
use Rattle.word_trace.proofs.turns.note_slowly.Goals as goal

pub returns-in-Ok-Some-clause-ok : goal.returns-in-Ok-Some-clause-ok
returns-in-Ok-Some-clause-ok g c =
    let turn = rw c.in-Ok-Some.field-0-is at c.in-Ok-Some.ensures.ok in
    (turn.0, [], turned (Some c.in-Ok-Some.ending) _ _ _ _ _ _ turn.0 turn.1 turn.2 turn.3 turn.4, (refl, refl), gathers_none _ _ _ _ refl refl)

pub returns-in-Ok-clause-ok : goal.returns-in-Ok-clause-ok
returns-in-Ok-clause-ok g c =
    let turn = rw c.in-Ok-None.field-0-is at c.in-Ok-None.ensures.ok in
    let old = c.args.tracer.now in
    let s = c.args.session.now.current in
    let t = c.take_turn.new.session.current in
    let ahead = c.look_ahead-ahead.result in (
      turn.0,
      text_of_step t ahead (gathered old),
      turned None _ _ _ _ _ _ turn.0 turn.1 turn.2 turn.3 turn.4,
      turn_noted s t (gathered old) (gathered c.note.new.self) ahead c.look_ahead-ahead.ensures c.in-Ok.ensures.noted,
      c.in-Ok.ensures.gathered,
    )

pub returns-in-Err-clause-err : goal.returns-in-Err-clause-err
returns-in-Err-clause-err g c =
    let cut = c.in-Err.ensures.err in
    (cut.0, [], record { consumes = cut.1; over = cut.2; once = cut.3; cut = cut.4 }, inl refl, front_of_none _ c.args.tracer.now.sheet.text.items)

-- The step was made, and its rows not written.
pub returns-in-Err-note-clause-err : goal.returns-in-Err-note-clause-err
returns-in-Err-note-clause-err g c =
    let turn = rw c.in-Ok-None.field-0-is at c.in-Ok-None.ensures.ok in
    let old = c.args.tracer.now in
    let t = c.take_turn.new.session.current in
    let ahead = c.look_ahead-ahead.result in
    let text = text_of_step t ahead (gathered old) in (
      turn.0,
      text,
      record { consumes = turn.1; over = turn.2; once = turn.3; cut = λ rest may. inr (known c.take_turn.new.player, turn.4 rest may) },
      inr (turn.4, ap (λ x. text_of_step t x (gathered old)) c.look_ahead-ahead.ensures),
      front_of_lost _ _ old.sheet.text.items c.note.new.self.sheet.text.items text c.in-Err-note.ensures.cut c.in-Err-note.ensures.emptied,
    )

pub returns-in-Err-note-clause-output : goal.returns-in-Err-note-clause-output
returns-in-Err-note-clause-output g c = let put = c.in-Ok-None.ensures.output in (put.0, put.1, all_front _ _ put.0 put.2)
