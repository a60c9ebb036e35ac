use Rattle.std.proofs.Common.{◌<◌, ap, arith, refl, subst, sym}
use Rattle.model.specs.Session.{Session}
use Rattle.debugger.proofs.PlainRuns.{after_no_more}
use Rattle.console.specs.Taking.{Waits}
use Rattle.console.specs.Turns.{known}
use Rattle.console.proofs.Gliding.{no_entry_made, same_console, same_waits, steps_plainly, turns_plainly}
use Rattle.console.proofs.stretch.take_plain_turn.Goals as goal

pub returns-then-ran-eq0-clause-not : goal.returns-then-ran-eq0-clause-not
returns-then-ran-eq0-clause-not c = λ _. (after_no_more _ _ _ c.run_within-ran.ensures.session c.if-ran-eq0.true, cc)

pub returns-then-ran-eq0-clause-waits : goal.returns-then-ran-eq0-clause-waits
returns-then-ran-eq0-clause-waits c =
    let same = after_no_more _ _ _ c.run_within-ran.ensures.session c.if-ran-eq0.true in
    subst (λ (s : Session). Waits s.current c.args.player.now.waiting) (sym same) c.requires.waits

pub returns-then-ran-eq0-clause-output : goal.returns-then-ran-eq0-clause-output
returns-then-ran-eq0-clause-output c =
    ap (λ (s : Session). s.current.bus.out) (after_no_more _ _ _ c.run_within-ran.ensures.session c.if-ran-eq0.true)

pub returns-clause-made : goal.returns-clause-made
returns-clause-made c = λ _.
    let ran = c.run_within-ran in
    let player = c.args.player.now in
    let may = c.if-not-may_glide.ensures in
    let some : 0 < ran.result.steps = omega (arith, c.if-ran-eq0.false) in
    let made = ran.ensures.last some in
    turns_plainly made.0 (known player) ran.result.from player.is_over c.args.session.now ran.new.session (may.rests refl) (may.idle refl) made.1
    ran.ensures.size (may.stands refl)
    (steps_plainly made.0 ran.result.steps ran.result.from c.args.session.now ran.new.session some ran.ensures.within made.2 ran.ensures.session)

pub returns-clause-entry : goal.returns-clause-entry
returns-clause-entry c = λ _.
    let ran = c.run_within-ran in
    let some : 0 < ran.result.steps = omega (arith, c.if-ran-eq0.false) in
    let made = ran.ensures.last some in
    no_entry_made made.0 ran.result.from c.args.session.now ran.new.session
    (steps_plainly made.0 ran.result.steps ran.result.from c.args.session.now ran.new.session some ran.ensures.within made.2 ran.ensures.session)

pub returns-clause-waits : goal.returns-clause-waits
returns-clause-waits c =
    let ran = c.run_within-ran in
    let some : 0 < ran.result.steps = omega (arith, c.if-ran-eq0.false) in
    let made = ran.ensures.last some in
    same_waits c.args.session.now.current ran.new.session.current c.args.player.now.waiting
    (same_console made.0 ran.result.from c.args.session.now ran.new.session
    (steps_plainly made.0 ran.result.steps ran.result.from c.args.session.now ran.new.session some ran.ensures.within made.2 ran.ensures.session))
    c.requires.waits

pub returns-clause-output : goal.returns-clause-output
returns-clause-output c =
    let ran = c.run_within-ran in
    let some : 0 < ran.result.steps = omega (arith, c.if-ran-eq0.false) in
    let made = ran.ensures.last some in
    (same_console made.0 ran.result.from c.args.session.now ran.new.session
    (steps_plainly made.0 ran.result.steps ran.result.from c.args.session.now ran.new.session some ran.ensures.within made.2 ran.ensures.session)).out
