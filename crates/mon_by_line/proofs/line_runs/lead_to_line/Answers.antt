use Rattle.std.proofs.Common.{◌≡◌, ◌+◌, refl, sym, ap, ◌∙◌, None, arith}
use Rattle.line_steps.specs.Forwards.{is_line_on}
use Rattle.line_steps.proofs.Calling.{call_none}
use Rattle.line_steps.proofs.Counted.{none_more, none_yet}
use Rattle.line_steps.proofs.LineRuns.{call_on}
use Rattle.model.specs.Run.{after_steps}
use Rattle.mon_runs.specs.Looked.{Place, why_of_step}
use Rattle.mon_runs.specs.declared.looked.Goal.TheVariants.{Rest}
use Rattle.mon_runs.proofs.Counts.{steps_more}
use Rattle.mon_by_line.proofs.Lines.{IsNext, IsStep, at_line, ends_last, ends_met, ends_stopped, on_begin, on_more}
use Rattle.mon_by_line.proofs.line_runs.lead_to_line.Goals as goal
use Rattle.mon_by_line.proofs.line_runs.lead_to_line.Goals.{After-is_at_line, After-make_step-made}

pub loop-done-init : goal.loop-done-init
loop-done-init c = record {
  on = on_begin c.args.stops.now.watches.items (c.args.session.now, c.args.stops.now.breaks.items);
  call = call_none c.args.session.now;
  first = none_yet (is_line_on c.args.lines.now c.args.line c.args.session.now);
  watches = refl;
  changes = refl;
}

-- ---- a step

made_step : (c : After-make_step-made) → IsStep c.args.stops.now.watches.items (c.loop-done.session, c.loop-done.stops.breaks.items)
    (c.make_step-made.new.session, c.make_step-made.new.stops.breaks.items) c.make_step-made.result.did c.make_step-made.result.from
    c.make_step-made.result.why
made_step c =
    let q : Place = (c.loop-done.session, c.loop-done.stops.breaks.items) in
    record {
      did = c.make_step-made.ensures.did;
      from = c.make_step-made.ensures.from;
      why = c.make_step-made.ensures.why ∙ ap (λ w. why_of_step w.items Rest None q) c.loop-done.invariant.watches;
      after = c.make_step-made.ensures.after;
      steps = c.make_step-made.ensures.steps;
    }

-- ---- a step that ends the run

pub returns-in-Some-clause-steps : goal.returns-in-Some-clause-steps
returns-in-Some-clause-steps c = steps_more c.loop-done.done c.make_step-made.result.did c.args.session.now c.loop-done.session
    c.make_step-made.new.session c.loop-done.invariant.on.made c.make_step-made.ensures.steps

pub returns-in-Some-clause-run : goal.returns-in-Some-clause-run
returns-in-Some-clause-run c =
    ends_stopped c.args.lines.now c.args.line c.args.limit c.args.stops.now.watches.items
    (c.args.session.now, c.args.stops.now.breaks.items) _ (c.loop-done.done + c.make_step-made.result.did)
    c.loop-done.invariant.on (made_step (goal.at.returns-in-Some-clause-run c).After-make_step-made) c.loop-done.invariant.first
    (omega (arith, c.loop-done-test.true)) refl c.in-Some.is

-- ---- a step after which the run may go on

made_next : (c : After-is_at_line) → IsStep c.args.stops.now.watches.items (c.loop-done.session, c.loop-done.stops.breaks.items)
    (c.make_step-made.new.session, c.make_step-made.new.stops.breaks.items) c.make_step-made.result.did c.make_step-made.result.from
    c.make_step-made.result.why
    → IsNext c.args.lines.now c.args.line c.args.stops.now.watches.items (c.args.session.now, c.args.stops.now.breaks.items)
    (c.make_step-made.new.session, c.make_step-made.new.stops.breaks.items) (c.loop-done.done + 1) c.call_open-call.result c.is_at_line.result
made_next c is =
    let on = on_more c.loop-done.invariant.on is c.in_default.is in
    let call = call_on c.args.session.now c.loop-done.session c.make_step-made.new.session c.loop-done.done c.loop-done.call
    c.call_begun-within.result c.call_open-call.result c.loop-done.invariant.call c.loop-done.invariant.on.made on.made
    c.call_begun-within.ensures c.call_open-call.ensures in
    record {
      on = on;
      call = call;
      at = at_line c.args.lines.now c.args.line c.args.session.now c.make_step-made.new.session (c.loop-done.done + 1)
          c.call_open-call.result c.is_at_line.result on.made call c.is_at_line.ensures;
    }

pub returns-then-is_at_line-clause-steps : goal.returns-then-is_at_line-clause-steps
returns-then-is_at_line-clause-steps c =
    let at = goal.at.returns-then-is_at_line-clause-steps c in
    (made_next at.After-is_at_line (made_step at.After-make_step-made)).on.made

pub returns-then-is_at_line-clause-run : goal.returns-then-is_at_line-clause-run
returns-then-is_at_line-clause-run c =
    let at = goal.at.returns-then-is_at_line-clause-run c in
    let next = made_next at.After-is_at_line (made_step at.After-make_step-made) in
    ends_met c.args.lines.now c.args.line c.args.limit c.args.stops.now.watches.items
    (c.args.session.now, c.args.stops.now.breaks.items) (c.loop-done.done + 1) next.on c.loop-done.invariant.first
    (omega (arith, c.loop-done-test.true)) (sym next.at ∙ c.if-is_at_line.true) refl

pub loop-done-preserved : goal.loop-done-preserved
loop-done-preserved c =
    let at = goal.at.loop-done-preserved c in
    let next = made_next at.After-is_at_line (made_step at.After-make_step-made) in
    record {
      on = next.on;
      call = next.call;
      first = none_more (is_line_on c.args.lines.now c.args.line c.args.session.now) c.loop-done.done c.loop-done.invariant.first
          (sym next.at ∙ c.if-is_at_line.false);
      watches = c.make_step-made.ensures.watches ∙ c.loop-done.invariant.watches;
      changes = c.make_step-made.ensures.changes ∙ c.loop-done.invariant.changes;
    }

-- ---- all steps made

pub returns-clause-steps : goal.returns-clause-steps
returns-clause-steps c =
    let all : c.loop-done.done ≡ c.args.limit = omega (arith, c.loop-done-test.false, c.loop-done.auto.done-end) in
    c.loop-done.invariant.on.made ∙ ap (λ k. after_steps k c.args.session.now) all

pub returns-clause-run : goal.returns-clause-run
returns-clause-run c =
    let all : c.loop-done.done ≡ c.args.limit = omega (arith, c.loop-done-test.false, c.loop-done.auto.done-end) in
    ends_last c.args.lines.now c.args.line c.args.limit c.args.stops.now.watches.items
    (c.args.session.now, c.args.stops.now.breaks.items) c.args.limit c.loop-done.invariant.on c.loop-done.invariant.first all (sym all)
