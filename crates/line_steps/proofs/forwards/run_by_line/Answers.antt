use Rattle.std.proofs.Common.{◌≡◌, ◌<◌, ◌+◌, ℕ, false, sym, ap, ◌∙◌, arith}
use Rattle.std.specs.Prelude.{◌||◌, not}
use Rattle.model.specs.Run.{after_steps}
use Rattle.line_steps.specs.Forwards.{is_limit, is_line_on}
use Rattle.line_steps.proofs.Calling.{call_none}
use Rattle.line_steps.proofs.Counted.{none_more, none_yet}
use Rattle.line_steps.proofs.LineRuns.{ends_before, ends_here, ends_last, no_end, no_line, there_on}
use Rattle.line_steps.proofs.Steps.{made_next, made_none, on_begin, on_more}
use Rattle.line_steps.proofs.forwards.run_by_line.Goals as goal

pub loop-done-init : goal.loop-done-init
loop-done-init c = record {
  on = on_begin c.args.session.now;
  call = call_none c.args.session.now;
  first = none_yet (λ (k : ℕ). is_line_on c.args.lines.now c.args.from c.args.session.now k);
}

-- ---- a step that is refused

pub returns-then-end-eq0-clause-after : goal.returns-then-end-eq0-clause-after
returns-then-end-eq0-clause-after c =
    made_none c.args.session.now c.loop-done.session c.step_once-end.new.session c.loop-done.done c.step_once-end.result
    c.loop-done.invariant.on c.step_once-end.ensures.after c.if-end-eq0.true

pub returns-then-end-eq0-clause-end : goal.returns-then-end-eq0-clause-end
returns-then-end-eq0-clause-end c =
    ends_before c.args.lines.now c.args.from c.args.session.now c.loop-done.session c.loop-done.done c.args.limit c.step_once-end.result
    c.loop-done.invariant.on c.step_once-end.ensures.end (omega (arith, c.loop-done-test.true)) c.if-end-eq0.true c.loop-done.invariant.first

-- ---- a step that ends the run

pub returns-then-is_end-clause-after : goal.returns-then-is_end-clause-after
returns-then-is_end-clause-after c =
    made_next c.args.session.now c.loop-done.session c.step_once-end.new.session c.loop-done.done c.step_once-end.result
    c.loop-done.invariant.on c.step_once-end.ensures.end c.step_once-end.ensures.after (omega (arith, c.if-end-eq0.false))

pub returns-then-is_end-clause-end : goal.returns-then-is_end-clause-end
returns-then-is_end-clause-end c =
    let some : 0 < c.step_once-end.result.did = omega (arith, c.if-end-eq0.false) in
    let there = there_on c.loop-done.call c.loop-done.invariant.on c.loop-done.invariant.call c.step_once-end.ensures.end c.step_once-end.ensures.after some
    c.call_begun-begun.ensures c.call_open-call.ensures c.is_end.ensures in
    ends_here c.args.lines.now c.args.from c.args.session.now c.loop-done.session c.loop-done.done c.args.limit c.step_once-end.result
    c.loop-done.invariant.on c.step_once-end.ensures.end (omega (arith, c.loop-done-test.true)) some c.loop-done.invariant.first
    (sym there.is_end ∙ c.if-is_end.true)

-- ---- on, and over

pub loop-done-preserved : goal.loop-done-preserved
loop-done-preserved c =
    let some : 0 < c.step_once-end.result.did = omega (arith, c.if-end-eq0.false) in
    let there = there_on c.loop-done.call c.loop-done.invariant.on c.loop-done.invariant.call c.step_once-end.ensures.end c.step_once-end.ensures.after some
    c.call_begun-begun.ensures c.call_open-call.ensures c.is_end.ensures in
    let none : (is_line_on c.args.lines.now c.args.from c.args.session.now (c.loop-done.done + 1) || not (is_limit c.step_once-end.result.why)) ≡ false
    = sym there.is_end ∙ c.if-is_end.false in
    record {
      on = on_more c.args.session.now c.loop-done.session c.step_once-end.new.session c.loop-done.done c.step_once-end.result
          c.loop-done.invariant.on c.step_once-end.ensures.end c.step_once-end.ensures.after some
          (no_end (is_line_on c.args.lines.now c.args.from c.args.session.now (c.loop-done.done + 1)) (is_limit c.step_once-end.result.why) none);
      call = there.call;
      first = none_more (λ (k : ℕ). is_line_on c.args.lines.now c.args.from c.args.session.now k) c.loop-done.done c.loop-done.invariant.first
          (no_line (is_line_on c.args.lines.now c.args.from c.args.session.now (c.loop-done.done + 1)) (is_limit c.step_once-end.result.why) none);
    }

pub returns-clause-after : goal.returns-clause-after
returns-clause-after c =
    let all : c.loop-done.done ≡ c.args.limit = omega (arith, c.loop-done-test.false, c.loop-done.auto.done-end) in
    c.loop-done.invariant.on.made ∙ ap (λ (k : ℕ). after_steps k c.args.session.now) all

pub returns-clause-end : goal.returns-clause-end
returns-clause-end c =
    let all : c.loop-done.done ≡ c.args.limit = omega (arith, c.loop-done-test.false, c.loop-done.auto.done-end) in
    ends_last c.args.lines.now c.args.from c.args.session.now c.loop-done.session c.loop-done.done c.args.limit
    c.loop-done.invariant.on c.loop-done.invariant.first all
