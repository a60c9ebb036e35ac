use Rattle.std.proofs.Common.{◌∙◌, ◌+◌, sym, ap, drop}
use Rattle.t65_runner.specs.Passes.{given_all, if_given}
use Rattle.t65_runner.proofs.Firsts.{given_end, given_more}
use Rattle.t65_runner.proofs.passes.given_all.Goals as goal

pub returns-then-not-given_one-clause-refused : goal.returns-then-not-given_one-clause-refused
returns-then-not-given_one-clause-refused c = λ _.
    sym c.loop-item.invariant.left
    ∙ (given_more c.args.values c.args.items.now c.loop-item.item-index c.loop-item.session _ c.loop-item-test.true
    ∙ ap (λ found. if_given found (given_all c.args.values (drop (c.loop-item.item-index + 1) c.args.items.now)))
    (c.given_one.ensures.refused c.if-not-given_one.true))

pub returns-then-not-given_one-clause-since : goal.returns-then-not-given_one-clause-since
returns-then-not-given_one-clause-since c = λ s since. c.given_one.ensures.since s (c.loop-item.invariant.since s since)

pub loop-item-preserved : goal.loop-item-preserved
loop-item-preserved c = record {
  left = sym (given_more c.args.values c.args.items.now c.loop-item.item-index c.loop-item.session _ c.loop-item-test.true
      ∙ ap (λ found. if_given found (given_all c.args.values (drop (c.loop-item.item-index + 1) c.args.items.now)))
      (c.given_one.ensures.taken c.if-not-given_one.false))
      ∙ c.loop-item.invariant.left;
  since = λ s since. c.given_one.ensures.since s (c.loop-item.invariant.since s since);
  stops = c.given_one.ensures.stops ∙ c.loop-item.invariant.stops;
}

pub returns-clause-taken : goal.returns-clause-taken
returns-clause-taken c = λ _. sym c.loop-item.invariant.left
    ∙ given_end c.args.values c.args.items.now c.loop-item.item-index c.loop-item.session c.loop-item-test.false
