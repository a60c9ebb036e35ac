use Rattle.std.proofs.Common.{◌≡◌, ◌∙◌, ap, arith, false, refl}
use Rattle.model.specs.Session.{Session}
use Rattle.cpu.proofs.PlainRuns.{ran_join, ran_none, ran_same}
use Rattle.debugger.proofs.PlainRuns.{after_both, after_no_more, after_none, goes_on}
use Rattle.debugger.proofs.session.Session.run_plainly.Goals as goal

pub loop-ran-init : goal.loop-ran-init
loop-ran-init c = record { within = omega arith; session = after_none 0 _ refl; ran = ran_none _ _ _ _ }

pub loop-ran-preserved : goal.loop-ran-preserved
loop-ran-preserved c =
    let before = c.loop-ran.invariant in
    let more = c.run_plainly_on-more in
    let goes : c.loop-ran.ran.stopped ≡ false = goes_on _ c.if-not-ran.true in
    record {
      within = omega (arith, more.ensures.within, before.within);
      session = after_both _ _ _ _ _ before.session more.ensures.session;
      ran = ran_join _ _ _ _ _ _ _ goes (omega (arith, c.if-more-eq0.false)) before.ran more.ensures.ran;
    }

pub returns-then-more-eq0-clause-session : goal.returns-then-more-eq0-clause-session
returns-then-more-eq0-clause-session c = after_no_more _ _ _ c.run_plainly_on-more.ensures.session c.if-more-eq0.true ∙ c.loop-ran.invariant.session

pub returns-then-more-eq0-clause-on : goal.returns-then-more-eq0-clause-on
returns-then-more-eq0-clause-on c =
    let same = after_no_more _ _ _ c.run_plainly_on-more.ensures.session c.if-more-eq0.true in
    (ran_same _ _ _ _ _ _ (ap (λ (x : Session). x.current) same) c.loop-ran.invariant.ran).on

pub returns-then-more-eq0-clause-last : goal.returns-then-more-eq0-clause-last
returns-then-more-eq0-clause-last c =
    let same = after_no_more _ _ _ c.run_plainly_on-more.ensures.session c.if-more-eq0.true in
    (ran_same _ _ _ _ _ _ (ap (λ (x : Session). x.current) same) c.loop-ran.invariant.ran).last

pub returns-then-more-eq0-clause-some : goal.returns-then-more-eq0-clause-some
returns-then-more-eq0-clause-some c = c.loop-ran.invariant.ran.some

pub returns-then-more-eq0-clause-stop : goal.returns-then-more-eq0-clause-stop
returns-then-more-eq0-clause-stop c =
    let same = after_no_more _ _ _ c.run_plainly_on-more.ensures.session c.if-more-eq0.true in
    (ran_same _ _ _ _ _ _ (ap (λ (x : Session). x.current) same) c.loop-ran.invariant.ran).stop
