use Rattle.std.proofs.Common.{◌<◌, ◌∙◌, add-one, ap, arith, length, refl}
use Rattle.mon_steps.specs.BackLines.{remade_one}
use Rattle.mon_files.proofs.Again.{none_told}
use Rattle.mon_files.proofs.held.record_each.Goals as goal

pub loop-init : goal.loop-init
loop-init c = record {
  course = refl;
  few = omega arith;
  history = refl;
  told = λ start none room at. none_told start c.args.mon.now.session c.new-records.result.items c.new-records.ensures.items none at;
  stops = (refl, refl, refl);
  text = refl;
}

pub loop-preserved : goal.loop-preserved
loop-preserved c =
    let before = c.loop.invariant in
    let one = c.record_one.ensures in
    record {
      course = rw add-one (one.course ∙ ap remade_one before.course);
      few = omega (arith, one.few, before.few);
      history = one.history ∙ before.history;
      told = λ start none room at.
          let held : length c.loop.mon.session.earlier < c.loop.mon.session.history = omega (arith, before.few, before.history, none, room, c.loop-test.true) in
          c.in_ok-record_one.ensures.told start held (before.told start none room at);
      stops = (one.stops.0 ∙ before.stops.0, one.stops.1 ∙ before.stops.1, one.stops.2 ∙ before.stops.2);
      text = one.text ∙ before.text;
    }

pub returns-in_err-record_one-clause-stops : goal.returns-in_err-record_one-clause-stops
returns-in_err-record_one-clause-stops c =
    let one = c.record_one.ensures in
    let before = c.loop.invariant in
    (one.stops.0 ∙ before.stops.0, one.stops.1 ∙ before.stops.1, one.stops.2 ∙ before.stops.2)

pub returns-in_err-record_one-clause-text : goal.returns-in_err-record_one-clause-text
returns-in_err-record_one-clause-text c = c.record_one.ensures.text ∙ c.loop.invariant.text

pub returns-clause-told : goal.returns-clause-told
returns-clause-told c = λ start none room at. c.loop.invariant.told start none room at
