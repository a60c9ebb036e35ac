use Rattle.std.proofs.Common.{◌≡◌, ◌∙◌, ◌++◌, ℕ, List, [], IfOk, OnErr, append-nil, subst, sym}
use Rattle.std.proofs.KnownBytes.{Appends-nil}
use Rattle.model.specs.Writers.{Writes}
use Rattle.console.specs.declared.turn.Player.{Player}
use Rattle.model.specs.Session.{Session}
use Rattle.word_trace.specs.Traces.{PassedTurn, TurnCut}
use Rattle.word_trace.proofs.Making.{turned_alone, with_same}
use Rattle.word_trace.proofs.turns.passed_turn.Goals as goal

pub returns-then-take_unnoted_turn-clause-ok : goal.returns-then-take_unnoted_turn-clause-ok
returns-then-take_unnoted_turn-clause-ok g c =
    let turn = c.take_unnoted_turn.ensures in
    let is = c.if-take_unnoted_turn.true in
    ([], turned_alone _ _ _ _ _ turn.over (turn.made is), turn.passed is)

pub returns-clause-ok : goal.returns-clause-ok
returns-clause-ok g c =
    let same = c.take_unnoted_turn.ensures.not c.if-take_unnoted_turn.false in
    let slow = c.pass_slowly in
    with_same (λ (s : Session) (p : Player). IfOk slow.result
    (λ ending. PassedTurn ending s p c.args.tracer.now (g.R.Read.remaining c.args.input.now) (g.R.Read.remaining slow.new.input) slow.new.session
    slow.new.player slow.new.tracer))
    same.0 same.1 slow.ensures.ok

pub returns-then-take_unnoted_turn-clause-output : goal.returns-then-take_unnoted_turn-clause-output
returns-then-take_unnoted_turn-clause-output g c =
    ([], c.take_unnoted_turn.ensures.output ∙ sym (append-nil c.args.session.now.current.bus.out), Appends-nil _)

pub returns-clause-err : goal.returns-clause-err
returns-clause-err g c =
    let same = c.take_unnoted_turn.ensures.not c.if-take_unnoted_turn.false in
    let slow = c.pass_slowly in
    with_same (λ (s : Session) (p : Player). OnErr slow.result
    ((told : List ℕ) × TurnCut s p (g.R.Read.remaining c.args.input.now) (g.R.Read.remaining slow.new.input) slow.new.session slow.new.player told))
    same.0 same.1 slow.ensures.err

pub returns-clause-output : goal.returns-clause-output
returns-clause-output g c =
    let same = c.take_unnoted_turn.ensures.not c.if-take_unnoted_turn.false in
    let slow = c.pass_slowly in
    subst (λ (s : Session). (text : List ℕ) × (slow.new.session.current.bus.out ≡ s.current.bus.out ++ text)
    × Writes (g.E.Write.contents c.args.errors.now) (g.E.Write.contents slow.new.errors) text slow.result)
    same.0 slow.ensures.output
