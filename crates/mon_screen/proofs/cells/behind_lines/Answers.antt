use Rattle.std.proofs.Common.{◌∙◌, ◌+◌, ◌-◌, ap, arith, sym}
use Rattle.mon_screen.specs.Cells.{behind_lines}
use Rattle.mon_screen.proofs.Lines.{none_behind, one_behind}
use Rattle.mon_screen.proofs.cells.behind_lines.Goals as goal

pub loop-preserved : goal.loop-preserved
loop-preserved c = ap (behind_lines (c.args.count - (c.loop.counter + 1))) c.behind_line-rest.ensures
    ∙ sym (one_behind (c.args.count - c.loop.counter) (c.args.count - (c.loop.counter + 1)) _ (omega (arith, c.loop-test.true)))
    ∙ c.loop.invariant

pub returns : goal.returns
returns c = sym (none_behind (c.args.count - c.loop.counter) _ (omega (arith, c.loop-test.false))) ∙ c.loop.invariant
