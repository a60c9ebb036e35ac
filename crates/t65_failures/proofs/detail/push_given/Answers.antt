use Rattle.std.proofs.Common.{◌∙◌, ap}
use Rattle.std.specs.Prelude.{string_bytes}
use Rattle.t65_failures.proofs.Told.{all_given, appended, given_off, given_on, one_refused, one_taken}
use Rattle.t65_failures.proofs.detail.push_given.Goals as goal

pub loop-item-preserved : goal.loop-item-preserved
loop-item-preserved c = record {
  text = c.loop-item.invariant.text;
  given = given_on c.args.values c.args.items.now c.loop-item.item-index c.loop-item.session _ _ _ c.loop-item-test.true
      (c.given_one.ensures.taken c.if-not-given_one.false) c.loop-item.invariant.given;
  told = one_taken c.args.about.now c.args.values c.args.items.now c.loop-item.item-index c.loop-item.session _ _ _ c.loop-item-test.true
      (c.given_one.ensures.taken c.if-not-given_one.false) c.loop-item.invariant.told;
  stops = c.given_one.ensures.stops ∙ c.loop-item.invariant.stops;
}

pub returns-then-not-given_one-clause-refused : goal.returns-then-not-given_one-clause-refused
returns-then-not-given_one-clause-refused c = λ _.
    given_off c.args.values c.args.items.now c.loop-item.item-index c.loop-item.session _ _ c.loop-item-test.true
    (c.given_one.ensures.refused c.if-not-given_one.true) c.loop-item.invariant.given

pub returns-then-not-given_one-clause-told : goal.returns-then-not-given_one-clause-told
returns-then-not-given_one-clause-told c = λ _.
    appended _ _ _ _ _ (ap (λ t. string_bytes t) c.loop-item.invariant.text) c.in_ok-push_refusal.ensures
    (one_refused c.args.about.now c.args.values c.args.items.now c.loop-item.item-index c.loop-item.session _ _ _ c.loop-item-test.true
    c.number_of-number.ensures (c.given_one.ensures.refused c.if-not-given_one.true) c.loop-item.invariant.told)

pub returns-clause-taken : goal.returns-clause-taken
returns-clause-taken c = λ _. all_given c.args.values c.args.items.now c.loop-item.item-index c.loop-item.session _ c.loop-item-test.false
    c.loop-item.invariant.given
