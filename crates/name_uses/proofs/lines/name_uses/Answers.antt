use Rattle.std.proofs.Common.{arith, sym, true-eqb, ◌∙◌}
use Rattle.name_uses.proofs.Steps.{line_last, line_more, lines_done, starts}
use Rattle.name_uses.specs.Views.{use_views}
use Rattle.name_uses.proofs.lines.name_uses.Goals as goal

pub loop-rest-init : goal.loop-rest-init
loop-rest-init c = record {
  found = starts c.args.profile c.args.source.now c.new-uses.result.items c.new-uses.ensures.items;
  room = omega (arith, c.requires);
}

pub loop-rest-preserved : goal.loop-rest-preserved
loop-rest-preserved c = record {
  found = line_more c.args.profile c.loop-rest.number c.loop-rest.rest.now c.next_line.result.0.now c.next_line.result.1.now
      (use_views c.loop-rest.uses.items) (use_views c.push_line.new.uses.items) _
      c.next_line.ensures.cut (sym c.in_ok-ended.ensures.end ∙ c.if-ended.false) c.in_ok-ended.ensures.uses c.loop-rest.invariant.found;
  room = omega (arith, c.next_line.ensures.shorter, c.loop-rest.invariant.room);
}

pub returns-then-ended : goal.returns-then-ended
returns-then-ended c =
    line_last c.args.profile c.loop-rest.number c.loop-rest.rest.now c.next_line.result.0.now c.next_line.result.1.now
    (use_views c.loop-rest.uses.items) (use_views c.push_line.new.uses.items) _
    c.next_line.ensures.cut (sym c.in_ok-ended.ensures.end ∙ c.if-ended.true) c.in_ok-ended.ensures.uses c.loop-rest.invariant.found

pub returns : goal.returns
returns c = lines_done c.args.profile c.loop-rest.number c.loop-rest.rest.now (use_views c.loop-rest.uses.items) _
    (true-eqb _ 0 c.loop-rest-test.ensures) c.loop-rest.invariant.found
