use Rattle.std.proofs.Common.{◌≡◌, [], true, false, arith, refl, sym, ap, ◌∙◌, length, length-append, inl}
use Rattle.std.proofs.KnownBytes.{Consumes-nil}
use Rattle.console.specs.Line.{room_of}
use Rattle.console.proofs.Lines.{input-none, given-none}
use Rattle.console.proofs.Turning.{line_over}
use Rattle.console.proofs.turn.supply.Goals as goal

pub returns-then-not-is_asked-clause-ok : goal.returns-then-not-is_asked-clause-ok
returns-then-not-is_asked-clause-ok g c = (
  [],
  Consumes-nil _,
  λ is. inl (is, refl),
  λ is. (refl, is),
  refl,
  sym (input-none _),
  sym (given-none _),
  λ rest may. rw c.if-not-is_asked.true refl,
)

pub returns-then-player-clause-ok : goal.returns-then-player-clause-ok
returns-then-player-clause-ok g c = (
  [],
  Consumes-nil _,
  λ is. inl (is, refl),
  λ is. (refl, is),
  refl,
  sym (input-none _),
  sym (given-none _),
  λ rest may. line_over c.args.is_asked (room_of c.args.session.now.current) rest (may c.if-player.true),
)

pub returns-in-Err-clause-err : goal.returns-in-Err-clause-err
returns-in-Err-clause-err g c = (
  [],
  Consumes-nil _,
  λ is. inl (is, refl),
  λ is. (refl, is),
  sym (input-none _),
)

pub returns-in-Err-hand_in_line-clause-err : goal.returns-in-Err-hand_in_line-clause-err
returns-in-Err-hand_in_line-clause-err g c =
    let line = c.in-Err-hand_in_line.ensures.err in (
      line.0,
      line.1,
      (λ is. let no : true ≡ false = sym is ∙ c.if-player.false in cc),
      (λ is. let no : true ≡ false = sym is ∙ c.if-player.false in cc),
      line.2,
    )

pub overflow_add-player : goal.overflow_add-player
overflow_add-player g c =
    let line = c.in-Ok-hand_in_line.ensures.line in
    let given = ap (λ s. length s.bus.given) line.5 in
    omega (arith, c.is_state.ensures.bus.given_room, given, line.3, length-append c.args.session.now.current.bus.given line.0)
