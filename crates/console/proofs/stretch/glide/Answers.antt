use Rattle.std.proofs.Common.{◌<◌, ap, arith, refl, subst, sym}
use Rattle.model.specs.Session.{Session}
use Rattle.debugger.proofs.PlainRuns.{after_no_more}
use Rattle.console.specs.Taking.{Waits}
use Rattle.console.specs.Turns.{known}
use Rattle.console.proofs.Gliding.{glides_all, glides_known, glides_nowhere, same_waits}
use Rattle.console.proofs.stretch.glide.Goals as goal

pub returns-then-ran-eq0-clause-turns : goal.returns-then-ran-eq0-clause-turns
returns-then-ran-eq0-clause-turns c =
    let ran = c.run_up_to-ran in
    glides_nowhere c.args.until c.args.session.now ran.new.session (known c.args.player.now) ran.new.written
    (after_no_more _ _ _ ran.ensures.session c.if-ran-eq0.true) ran.ensures.written

pub returns-then-ran-eq0-clause-waits : goal.returns-then-ran-eq0-clause-waits
returns-then-ran-eq0-clause-waits c =
    let same = after_no_more _ _ _ c.run_up_to-ran.ensures.session c.if-ran-eq0.true in
    subst (λ (s : Session). Waits s.current c.args.player.now.waiting) (sym same) c.requires.waits

pub returns-then-ran-eq0-clause-output : goal.returns-then-ran-eq0-clause-output
returns-then-ran-eq0-clause-output c =
    ap (λ (s : Session). s.current.bus.out) (after_no_more _ _ _ c.run_up_to-ran.ensures.session c.if-ran-eq0.true)

pub returns-clause-turns : goal.returns-clause-turns
returns-clause-turns c =
    let ran = c.run_up_to-ran in
    let player = c.args.player.now in
    let may = c.if-not-may_glide.ensures in
    let some : 0 < ran.result.steps = omega (arith, c.if-ran-eq0.false) in
    let made = ran.ensures.last some in
    glides_known c.args.until ran.result.steps c.args.session.now ran.new.session (known player) ran.new.written ran.result.from (may.rests refl)
    (may.idle refl) ran.ensures.written
    (glides_all made.0 player.written c.args.until player.memo.from ran.result.steps ran.result.from c.args.session.now ran.new.session made.1
    c.is_state.ensures (may.off refl) (may.stands refl) some made.2 ran.ensures.session).0

pub returns-clause-waits : goal.returns-clause-waits
returns-clause-waits c =
    let ran = c.run_up_to-ran in
    let player = c.args.player.now in
    let may = c.if-not-may_glide.ensures in
    let some : 0 < ran.result.steps = omega (arith, c.if-ran-eq0.false) in
    let made = ran.ensures.last some in
    same_waits c.args.session.now.current ran.new.session.current player.waiting
    (glides_all made.0 player.written c.args.until player.memo.from ran.result.steps ran.result.from c.args.session.now ran.new.session made.1
    c.is_state.ensures (may.off refl) (may.stands refl) some made.2 ran.ensures.session).1
    c.requires.waits

pub returns-clause-output : goal.returns-clause-output
returns-clause-output c =
    let ran = c.run_up_to-ran in
    let player = c.args.player.now in
    let may = c.if-not-may_glide.ensures in
    let some : 0 < ran.result.steps = omega (arith, c.if-ran-eq0.false) in
    let made = ran.ensures.last some in
    (glides_all made.0 player.written c.args.until player.memo.from ran.result.steps ran.result.from c.args.session.now ran.new.session made.1
    c.is_state.ensures (may.off refl) (may.stands refl) some made.2 ran.ensures.session).1.out
