use Rattle.std.proofs.Common.{arith, sym, true-eqb, ◌∙◌}
use Rattle.name_uses.proofs.FaultySteps.{line_faulty, line_last, line_more, lines_done, starts}
use Rattle.name_uses.proofs.faulty.faulty_line.Goals as goal

pub loop-rest-init : goal.loop-rest-init
loop-rest-init c = record {
  found = starts c.args.profile c.args.source.now c.args.word.now c.args.other.now;
  room = omega (arith, c.requires);
}

pub returns-then-faulty : goal.returns-then-faulty
returns-then-faulty c =
    line_faulty c.args.profile c.args.word.now c.args.other.now c.loop-rest.number c.loop-rest.rest.now c.next_line.result.0.now c.next_line.result.1.now _
    c.next_line.ensures.cut (sym c.in_ok-faulty.ensures.faulty ∙ c.if-faulty.true) c.loop-rest.invariant.found

pub returns-then-ended : goal.returns-then-ended
returns-then-ended c =
    line_last c.args.profile c.args.word.now c.args.other.now c.loop-rest.number c.loop-rest.rest.now c.next_line.result.0.now c.next_line.result.1.now _
    c.next_line.ensures.cut (sym c.in_ok-faulty.ensures.faulty ∙ c.if-faulty.false) (sym c.in_ok-faulty.ensures.end ∙ c.if-ended.true)
    c.loop-rest.invariant.found

pub loop-rest-preserved : goal.loop-rest-preserved
loop-rest-preserved c = record {
  found = line_more c.args.profile c.args.word.now c.args.other.now c.loop-rest.number c.loop-rest.rest.now c.next_line.result.0.now c.next_line.result.1.now _
      c.next_line.ensures.cut (sym c.in_ok-faulty.ensures.faulty ∙ c.if-faulty.false) (sym c.in_ok-faulty.ensures.end ∙ c.if-ended.false)
      c.loop-rest.invariant.found;
  room = omega (arith, c.next_line.ensures.shorter, c.loop-rest.invariant.room);
}

pub returns : goal.returns
returns c = lines_done c.args.profile c.args.word.now c.args.other.now c.loop-rest.number c.loop-rest.rest.now _
    (true-eqb _ 0 c.loop-rest-test.ensures) c.loop-rest.invariant.found
