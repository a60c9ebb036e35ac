use Rattle.std.proofs.Common.{◌≡◌, ◌∙◌, ◌+◌, ◌-◌, suc, refl, ap, arith, None}
use Rattle.std.specs.Option.{option_or}
use Rattle.dap_desk.proofs.LineRuns.{line_begin, line_ends, line_goes, line_over}
use Rattle.mon_runs.specs.Looked.{Place, why_of_step}
use Rattle.mon_runs.specs.declared.looked.Goal.TheVariants.{Rest}
use Rattle.dap_desk.proofs.lines.lead_to_line.Goals as goal

pub loop-init : goal.loop-init
loop-init c = record {
  small = omega arith;
  left = line_begin _ _ _ _ _;
  watches = refl;
  changes = refl;
}

pub returns-in-Some-clause-run : goal.returns-in-Some-clause-run
returns-in-Some-clause-run c =
    let n = c.args.limit - (c.loop.counter + 1) in
    let some : c.args.limit - c.loop.counter ≡ suc n = omega (arith, c.loop-test.true) in
    let p : Place = (c.loop.session, c.loop.stops.breaks.items) in
    let q : Place = (c.make_step-made.new.session, c.make_step-made.new.stops.breaks.items) in
    let made = c.make_step-made.ensures.why ∙ ap (λ w. why_of_step w.items Rest None p) c.loop.invariant.watches in
    let why = c.why_or.ensures ∙ (λ i. option_or (made i) (c.met_if-met.ensures i)) in
    line_ends c.args.starts.now c.args.from c.args.stops.now.watches.items (c.args.limit - c.loop.counter) n c.loop.did
    c.make_step-made.result.did c.make_step-made.result.from p q _ c.why_or.result _
    c.loop.invariant.left some c.make_step-made.ensures.did c.make_step-made.ensures.from c.make_step-made.ensures.after why c.in-Some.is

pub returns-clause-run : goal.returns-clause-run
returns-clause-run c =
    let none : c.args.limit - c.loop.counter ≡ 0 = omega (arith, c.loop-test.false) in
    line_over c.args.starts.now c.args.from c.args.stops.now.watches.items (c.args.limit - c.loop.counter) c.loop.did
    (c.loop.session, c.loop.stops.breaks.items) _ c.loop.invariant.left none

pub loop-preserved : goal.loop-preserved
loop-preserved c =
    let n = c.args.limit - (c.loop.counter + 1) in
    let some : c.args.limit - c.loop.counter ≡ suc n = omega (arith, c.loop-test.true) in
    let p : Place = (c.loop.session, c.loop.stops.breaks.items) in
    let q : Place = (c.make_step-made.new.session, c.make_step-made.new.stops.breaks.items) in
    let made = c.make_step-made.ensures.why ∙ ap (λ w. why_of_step w.items Rest None p) c.loop.invariant.watches in
    let why = c.why_or.ensures ∙ (λ i. option_or (made i) (c.met_if-met.ensures i)) in
    record {
      small = omega (arith, c.loop.invariant.small);
      left = line_goes c.args.starts.now c.args.from c.args.stops.now.watches.items (c.args.limit - c.loop.counter) n c.loop.did
          c.make_step-made.result.did c.make_step-made.result.from p q c.why_or.result _
          c.loop.invariant.left some c.make_step-made.ensures.did c.make_step-made.ensures.from c.make_step-made.ensures.after why c.in_default.is;
      watches = c.make_step-made.ensures.watches ∙ c.loop.invariant.watches;
      changes = c.make_step-made.ensures.changes ∙ c.loop.invariant.changes;
    }
