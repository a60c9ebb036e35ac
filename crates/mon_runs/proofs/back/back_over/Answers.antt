use Rattle.std.proofs.Common.{◌≡◌, ◌+◌, ◌-◌, length, suc, ap, ◌∙◌, arith}
use Rattle.mon_runs.proofs.Found.{length-back_one}
use Rattle.mon_runs.specs.Runs.{gone_back}
use Rattle.mon_runs.proofs.Counts.{gone-none, gone-more}
use Rattle.mon_runs.proofs.Way.{gone-first, way-none, way-on, way-one}
use Rattle.mon_runs.proofs.back.back_over.Goals as goal

pub returns-then-held-eq0-clause-undone : goal.returns-then-held-eq0-clause-undone
returns-then-held-eq0-clause-undone c = gone-none c.args.session.now

pub returns-then-held-eq0-clause-over : goal.returns-then-held-eq0-clause-over
returns-then-held-eq0-clause-over c =
    way-none c.args.session.now c.held-held.result c.held-held.ensures.held c.if-held-eq0.true

pub returns-then-not-was_return-clause-undone : goal.returns-then-not-was_return-clause-undone
returns-then-not-was_return-clause-undone c =
    gone-more 0 c.args.session.now c.args.session.now c.back_by_one.new.session (gone-none c.args.session.now) c.back_by_one.ensures

pub returns-then-not-was_return-clause-over : goal.returns-then-not-was_return-clause-over
returns-then-not-was_return-clause-over c =
    let some : c.held-held.result ≡ suc (c.held-held.result - 1) = omega (arith, c.if-held-eq0.false) in
    way-one c.regs-stack.result.s c.held-held.result (c.held-held.result - 1) c.args.session.now c.back_by_one.new.session c.was_return.result
    (ap (λ r. r.s) c.regs-stack.ensures) c.held-held.ensures.held some c.back_by_one.ensures
    (c.was_return.ensures c.args.session.now.current c.cycles-cycles.ensures) c.if-not-was_return.true

pub back_to_call-requires : goal.back_to_call-requires
back_to_call-requires c =
    let fewer : length c.back_by_one.new.session.earlier ≡ length c.args.session.now.earlier - 1 =
    length-back_one c.args.session.now c.back_by_one.new.session c.back_by_one.ensures in
    omega (arith, fewer, c.held-held.ensures.held)

pub returns-clause-undone : goal.returns-clause-undone
returns-clause-undone c =
    let k = c.back_to_call.result in
    let more : suc k ≡ k + 1 = omega arith in
    c.back_to_call.ensures.undone ∙ ap (gone_back k) c.back_by_one.ensures
    ∙ gone-first k c.args.session.now ∙ ap (λ j. gone_back j c.args.session.now) more

pub returns-clause-over : goal.returns-clause-over
returns-clause-over c =
    let some : c.held-held.result ≡ suc (c.held-held.result - 1) = omega (arith, c.if-held-eq0.false) in
    way-on c.regs-stack.result.s c.held-held.result (c.held-held.result - 1) c.back_to_call.result c.args.session.now c.back_by_one.new.session
    c.back_to_call.new.session c.was_return.result
    (ap (λ r. r.s) c.regs-stack.ensures) c.held-held.ensures.held some c.back_by_one.ensures
    (c.was_return.ensures c.args.session.now.current c.cycles-cycles.ensures) c.if-not-was_return.false c.back_to_call.ensures.over
