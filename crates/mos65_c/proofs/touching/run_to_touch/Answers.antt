use Rattle.std.proofs.Common.{◌≡◌, ◌+◌, ◌-◌, suc, arith}
use Rattle.mos65_c.specs.Touching.{touching_run}
use Rattle.mos65_c.proofs.TouchingRuns.{touching-breaks, touching-ends, touching-goes, touching-over, touching-refused, touching-steps, touching-watches}
use Rattle.mos65_c.proofs.touching.run_to_touch.Goals as goal

pub returns-then-touches : goal.returns-then-touches
returns-then-touches c =
    touching-ends c.args.marks.now (c.args.limit - c.loop-did.did) (c.args.limit - (c.loop-did.did + 1)) c.loop-did.did
    c.loop-did.session c.touches.result _ c.loop-did.invariant (omega (arith, c.loop-did-test.true)) c.touches.ensures c.if-touches.true

pub returns-in-Refused : goal.returns-in-Refused
returns-in-Refused c =
    let n = c.args.limit - (c.loop-did.did + 1) in
    let some : c.args.limit - c.loop-did.did ≡ suc n = omega (arith, c.loop-did-test.true) in
    touching-refused c.loop-did.did c.run-why.new.self c.run-why.result.why c.in-Refused.field-0 (touching_run c.args.marks.now n c.run-why.new.self) _
    (touching-steps c.args.marks.now (c.args.limit - c.loop-did.did) n c.loop-did.did c.loop-did.session c.run-why.new.self c.run-why.result c.touches.result _
    c.loop-did.invariant some c.touches.ensures c.if-touches.false c.run-why.ensures.end c.run-why.ensures.after)
    c.in-Refused.is

pub returns-in-Break : goal.returns-in-Break
returns-in-Break c =
    let n = c.args.limit - (c.loop-did.did + 1) in
    let some : c.args.limit - c.loop-did.did ≡ suc n = omega (arith, c.loop-did-test.true) in
    touching-breaks c.loop-did.did c.in-Break.field-0 c.run-why.new.self c.run-why.result.why (touching_run c.args.marks.now n c.run-why.new.self) _
    (touching-steps c.args.marks.now (c.args.limit - c.loop-did.did) n c.loop-did.did c.loop-did.session c.run-why.new.self c.run-why.result c.touches.result _
    c.loop-did.invariant some c.touches.ensures c.if-touches.false c.run-why.ensures.end c.run-why.ensures.after)
    c.in-Break.is

pub returns-in-Watch : goal.returns-in-Watch
returns-in-Watch c =
    let n = c.args.limit - (c.loop-did.did + 1) in
    let some : c.args.limit - c.loop-did.did ≡ suc n = omega (arith, c.loop-did-test.true) in
    touching-watches c.loop-did.did c.in-Watch.field-0 c.run-why.new.self c.run-why.result.why (touching_run c.args.marks.now n c.run-why.new.self) _
    (touching-steps c.args.marks.now (c.args.limit - c.loop-did.did) n c.loop-did.did c.loop-did.session c.run-why.new.self c.run-why.result c.touches.result _
    c.loop-did.invariant some c.touches.ensures c.if-touches.false c.run-why.ensures.end c.run-why.ensures.after)
    c.in-Watch.is

pub loop-did-preserved : goal.loop-did-preserved
loop-did-preserved c =
    let n = c.args.limit - (c.loop-did.did + 1) in
    let some : c.args.limit - c.loop-did.did ≡ suc n = omega (arith, c.loop-did-test.true) in
    touching-goes c.args.marks.now n c.loop-did.did c.run-why.new.self c.run-why.result.why _
    (touching-steps c.args.marks.now (c.args.limit - c.loop-did.did) n c.loop-did.did c.loop-did.session c.run-why.new.self c.run-why.result c.touches.result _
    c.loop-did.invariant some c.touches.ensures c.if-touches.false c.run-why.ensures.end c.run-why.ensures.after)
    c.in-Limit.is

pub returns : goal.returns
returns c =
    let all = c.loop-did.auto.did-end in
    touching-over c.args.marks.now (c.args.limit - c.loop-did.did) c.loop-did.did c.args.limit c.loop-did.session _
    c.loop-did.invariant (omega (arith, c.loop-did-test.false)) (omega (arith, c.loop-did-test.false, all))
