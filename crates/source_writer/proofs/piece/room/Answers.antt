use Rattle.std.proofs.Common.{◌≡◌, ◌+◌, suc, true, false, sym, ◌∙◌, arith}
use Rattle.source_forms.specs.Pieces.{room, begins_line}
use Rattle.source_writer.proofs.Rooms.{ends, goes_on, none}
use Rattle.source_writer.proofs.piece.room.Goals as goal

pub returns-then-begins_line-clause-exact : goal.returns-then-begins_line-clause-exact
returns-then-begins_line-clause-exact c =
    let last = ends c.args.flags.now c.loop-left.left (c.args.address + c.loop-left.count) (c.args.address + (c.loop-left.count + 1))
    c.loop-left-test.true (omega arith) (sym c.begins_line.ensures ∙ c.if-begins_line.true) in
    omega (arith, c.loop-left.invariant.found, last)

pub loop-left-preserved : goal.loop-left-preserved
loop-left-preserved c =
    let more = goes_on c.args.flags.now c.loop-left.left (c.args.address + c.loop-left.count) (c.args.address + (c.loop-left.count + 1))
    c.loop-left-test.true (omega arith) (sym c.begins_line.ensures ∙ c.if-begins_line.false) in
    record {
      found = omega (arith, c.loop-left.invariant.found, more);
      size = omega (arith, c.loop-left.invariant.size, c.loop-left-test.true);
    }

pub returns-clause-exact : goal.returns-clause-exact
returns-clause-exact c =
    let zero_left : c.loop-left.left ≡ 0 = omega (arith, c.loop-left-test.false) in
    let all = rw zero_left at c.loop-left.invariant.found in
    omega (arith, all, none c.args.flags.now (c.args.address + c.loop-left.count))
