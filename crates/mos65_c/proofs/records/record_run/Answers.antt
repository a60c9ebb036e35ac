use Rattle.std.proofs.Common.{◌≡◌, ◌∙◌, false, true, ◌+◌, ◌-◌, suc, List, ℕ, length, ap, arith, subst, sym}
use Rattle.model.specs.Run.{after_steps, run_end}
use Rattle.model.specs.declared.run_end.RunEnd.{RunEnd}
use Rattle.model.specs.declared.run_end.Why.TheVariants.{Limit}
use Rattle.law_sessions.proofs.Runs.{after_steps-zero}
use Rattle.model.specs.Step.{step}
use Rattle.page_data.specs.Runs.{IsRecorded}
use Rattle.page_data.proofs.Recording.{none_recorded}
use Rattle.mos65_c.proofs.RunsOfOne.{after-more, after-one, begins, later, no_more, on_err, run-ends, run-goes, run-over, told-why}
use Rattle.mos65_c.proofs.records.record_run.Goals as goal

pub loop-did-init : goal.loop-did-init
loop-did-init c =
    let s = c.args.session.now in (
      begins c.args.limit s,
      sym (after_steps-zero step s),
      subst (λ (l : List ℕ). IsRecorded s.current l s.current) (sym c.requires) (none_recorded s.current),
      (let none = ap length c.requires in omega (arith, none)),
    )

pub returns-in_err-end-clause-err : goal.returns-in_err-end-clause-err
returns-in_err-end-clause-err c =
    let s = c.args.session.now in
    let u = c.loop-did.session in
    let n = c.args.limit - (c.loop-did.did + 1) in
    let some : c.args.limit - c.loop-did.did ≡ suc n = omega (arith, c.loop-did-test.true) in
    on_err c.from_residual.result _ (
      c.loop-did.did + (run_end 1 u).did,
      no_more _ n c.loop-did.did u _ c.loop-did.invariant.0 some,
      c.record_one.ensures.after
          ∙ after-more c.loop-did.did s u c.loop-did.invariant.1,
    )

pub returns-then-not-goes_on-clause-end : goal.returns-then-not-goes_on-clause-end
returns-then-not-goes_on-clause-end c =
    let u = c.loop-did.session in
    let n = c.args.limit - (c.loop-did.did + 1) in
    let some : c.args.limit - c.loop-did.did ≡ suc n = omega (arith, c.loop-did-test.true) in
    let end = c.in_ok-end.ensures.end in
    let off = told-why c.goes_on.result false c.in_ok-end.end (run_end 1 u) c.goes_on.ensures end c.if-not-goes_on.true in
    ap (later c.loop-did.did) end ∙ sym (run-ends _ n c.loop-did.did u _ c.loop-did.invariant.0 some off)

pub returns-then-not-goes_on-clause-after : goal.returns-then-not-goes_on-clause-after
returns-then-not-goes_on-clause-after c =
    let s = c.args.session.now in
    let u = c.loop-did.session in
    let n = c.args.limit - (c.loop-did.did + 1) in
    let some : c.args.limit - c.loop-did.did ≡ suc n = omega (arith, c.loop-did-test.true) in
    let off = told-why c.goes_on.result false c.in_ok-end.end (run_end 1 u) c.goes_on.ensures c.in_ok-end.ensures.end c.if-not-goes_on.true in
    let whole = run-ends _ n c.loop-did.did u _ c.loop-did.invariant.0 some off in
    c.record_one.ensures.after ∙ after-more c.loop-did.did s u c.loop-did.invariant.1
    ∙ ap (λ (e : RunEnd). after_steps e.did s) (sym whole)

pub loop-did-preserved : goal.loop-did-preserved
loop-did-preserved c =
    let s = c.args.session.now in
    let u = c.loop-did.session in
    let n = c.args.limit - (c.loop-did.did + 1) in
    let some : c.args.limit - c.loop-did.did ≡ suc n = omega (arith, c.loop-did-test.true) in
    let on = told-why c.goes_on.result true c.in_ok-end.end (run_end 1 u) c.goes_on.ensures c.in_ok-end.ensures.end c.if-not-goes_on.false in
    let next = c.record_one.ensures.after in
    let few = c.in_ok-end.ensures.within in (
      run-goes _ n c.loop-did.did u _ c.loop-did.invariant.0 some on ∙ ap (λ v. later (c.loop-did.did + 1) (run_end n v)) (sym next),
      next ∙ after-one c.loop-did.did s u c.loop-did.invariant.1 on,
      c.in_ok-end.ensures.told s.current c.loop-did.invariant.2,
      (
          let more = c.in_ok-end.ensures.short in
          let before = c.loop-did.invariant.3 in
          omega (arith, more, before, few)
          ),
    )

pub returns-clause-end : goal.returns-clause-end
returns-clause-end c =
    let all = c.loop-did.auto.did-end in
    let none : c.args.limit - c.loop-did.did ≡ 0 = omega (arith, c.loop-did-test.false) in
    let did : c.loop-did.did ≡ c.args.limit = omega (arith, c.loop-did-test.false, all) in
    sym (run-over _ c.loop-did.did c.loop-did.session _ c.loop-did.invariant.0 none ∙ (λ i. record { did = did i; why = Limit }))

pub returns-clause-after : goal.returns-clause-after
returns-clause-after c =
    let none : c.args.limit - c.loop-did.did ≡ 0 = omega (arith, c.loop-did-test.false) in
    c.loop-did.invariant.1
    ∙ ap (λ (e : RunEnd). after_steps e.did c.args.session.now) (sym (run-over _ c.loop-did.did c.loop-did.session _ c.loop-did.invariant.0 none))
