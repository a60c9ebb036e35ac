use Rattle.std.proofs.Common.{◌≡◌, Some, None, ap, sym, ◌∙◌, inl, inr}
use Rattle.console.specs.Playing.{ending_here, unless_ended, stepped}
use Rattle.console.specs.Turns.{Known, known, play_at, turn_to}
use Rattle.model.specs.Step.{step}
use Rattle.accesses.specs.Access.{access_here}
use Rattle.console.proofs.Lines.{access_given}
use Rattle.console.proofs.Turning.{turned}
use Rattle.console.proofs.turn.take_turn.Goals as goal

pub returns-in-Some-clause-ok : goal.returns-in-Some-clause-ok
returns-in-Some-clause-ok g c =
    let line = c.in-Ok.ensures.ok in
    let s = c.args.session.now in let t = c.supply.new.session in let k = known c.args.player.now in
    let asked = c.asks-is_asked.result in
    let ending : ending_here k.memo k.written asked c.in-Ok.came t.current ≡ Some c.in-Some.ending
    = sym (ap (λ (x : Known). ending_here x.memo x.written asked c.in-Ok.came t.current) c.in-Ok.ensures.known) ∙ sym c.ending_here.ensures ∙ c.in-Some.is in (
      line.0,
      line.1,
      line.2,
      line.3,
      λ rest may.
          turned s t k line.0 rest asked c.supply.new.player.is_over c.in-Ok.came c.asks-is_asked.ensures line.7 may line.5 line.4
          ∙ ap (λ e. unless_ended e (play_at t k rest) (stepped (play_at t k rest) asked c.in-Ok.came (step t.current))) ending
          ∙ ap (λ m. turn_to (Some c.in-Some.ending) t m rest) (sym c.in-Ok.ensures.known),
    )

pub returns-in-Ok-make_step-clause-ok : goal.returns-in-Ok-make_step-clause-ok
returns-in-Ok-make_step-clause-ok g c =
    let line = c.in-Ok.ensures.ok in
    let s = c.args.session.now in let t = c.supply.new.session in let k = known c.args.player.now in
    let asked = c.asks-is_asked.result in
    let over = c.in-Ok-make_step.ensures.over in
    let ending : ending_here k.memo k.written asked c.in-Ok.came t.current ≡ None
    = sym (ap (λ (x : Known). ending_here x.memo x.written asked c.in-Ok.came t.current) c.in-Ok.ensures.known) ∙ sym c.ending_here.ensures ∙ c.in-None.is in (
      line.0,
      line.1,
      (λ is. line.2 (sym over ∙ is)),
      (λ is. let ends = line.3 is in (ends.0, over ∙ ends.1)),
      λ rest may.
          turned s t k line.0 rest asked c.supply.new.player.is_over c.in-Ok.came c.asks-is_asked.ensures line.7 (λ is. may (over ∙ is)) line.5 line.4
          ∙ ap (λ e. unless_ended e (play_at t k rest) (stepped (play_at t k rest) asked c.in-Ok.came (step t.current))) ending
          ∙ ap (λ m. stepped (play_at t m rest) asked c.in-Ok.came (step t.current)) (sym c.in-Ok.ensures.known)
          ∙ c.in-Ok-make_step.ensures.ok rest,
    )

pub returns-in-Err-clause-err : goal.returns-in-Err-clause-err
returns-in-Err-clause-err g c =
    let line = c.in-Err.ensures.err in (line.0, line.1, line.2, line.3, λ rest may. inl line.4)

pub returns-in-Err-make_step-clause-err : goal.returns-in-Err-make_step-clause-err
returns-in-Err-make_step-clause-err g c =
    let line = c.in-Ok.ensures.ok in
    let s = c.args.session.now in let t = c.supply.new.session in let k = known c.args.player.now in
    let asked = c.asks-is_asked.result in
    let over = c.in-Err-make_step.ensures.over in
    let ending : ending_here k.memo k.written asked c.in-Ok.came t.current ≡ None
    = sym (ap (λ (x : Known). ending_here x.memo x.written asked c.in-Ok.came t.current) c.in-Ok.ensures.known) ∙ sym c.ending_here.ensures ∙ c.in-None.is in (
      line.0,
      line.1,
      (λ is. line.2 (sym over ∙ is)),
      (λ is. let ends = line.3 is in (ends.0, over ∙ ends.1)),
      λ rest may.
          inr (
            known c.make_step.new.player,
            turned s t k line.0 rest asked c.supply.new.player.is_over c.in-Ok.came c.asks-is_asked.ensures line.7 (λ is. may (over ∙ is)) line.5 line.4
                ∙ ap (λ e. unless_ended e (play_at t k rest) (stepped (play_at t k rest) asked c.in-Ok.came (step t.current))) ending
                ∙ ap (λ m. stepped (play_at t m rest) asked c.in-Ok.came (step t.current)) (sym c.in-Ok.ensures.known)
                ∙ c.in-Err-make_step.ensures.err rest,
          ),
    )

pub make_step-requires-clause-access : goal.make_step-requires-clause-access
make_step-requires-clause-access g c =
    let line = c.in-Ok.ensures.ok in
    let s = c.args.session.now.current in
    c.access_here-access.ensures ∙ sym (access_given s line.0) ∙ sym (ap access_here line.6)
