use Rattle.std.proofs.Common.{◌≡◌, ◌+◌, ◌-◌, suc, true, false, sym, ◌∙◌, arith}
use Rattle.source_forms.specs.Runs.{run_length, is_number}
use Rattle.source_writer.proofs.Runs.{ends, goes_on, none}
use Rattle.source_writer.proofs.note.run_length.Goals as goal

pub returns-then-not-is_number-clause-exact : goal.returns-then-not-is_number-clause-exact
returns-then-not-is_number-clause-exact c =
    let last = ends c.args.cells.now c.args.marks.now c.args.byte c.loop-left.left (c.args.address + c.loop-left.count)
    (sym c.is_number.ensures ∙ c.if-not-is_number.true) in
    omega (arith, c.loop-left.invariant.found, last)

pub loop-left-preserved : goal.loop-left-preserved
loop-left-preserved c =
    let more = goes_on c.args.cells.now c.args.marks.now c.args.byte c.loop-left.left (c.args.address + c.loop-left.count) c.loop-left-test.true
    (sym c.is_number.ensures ∙ c.if-not-is_number.false) in
    let step : (c.args.address + c.loop-left.count) + 1 ≡ c.args.address + (c.loop-left.count + 1) = omega arith in
    let there = rw step at more in
    record {
      found = omega (arith, c.loop-left.invariant.found, there);
      size = omega (arith, c.loop-left.invariant.size, c.loop-left-test.true);
    }

pub returns-clause-exact : goal.returns-clause-exact
returns-clause-exact c =
    let zero_left : c.loop-left.left ≡ 0 = omega (arith, c.loop-left-test.false) in
    let all = rw zero_left at c.loop-left.invariant.found in
    omega (arith, all, none c.args.cells.now c.args.marks.now c.args.byte (c.args.address + c.loop-left.count))
