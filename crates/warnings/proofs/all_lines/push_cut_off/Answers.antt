use Rattle.std.proofs.Common.{sym, true-eqb, ◌∙◌}
use Rattle.warnings.proofs.Looking.{found, none_found}
use Rattle.warnings.proofs.all_lines.push_cut_off.Goals as goal

pub returns-then-told : goal.returns-then-told
returns-then-told c =
    found c.push_if.result c.args.profile c.loop-rest.at c.loop-rest.rest.now c.next_line.result.0.now c.next_line.result.1.now
    c.args.warnings.now.items c.loop-rest.warnings.items c.push_if.new.warnings.items
    _ c.is_silenced.result c.loop-rest.invariant.same c.next_line.ensures.cut (sym c.in_ok-told.ensures ∙ c.if-told.true) c.is_silenced.ensures
    c.push_if.ensures c.loop-rest.invariant.left

pub returns : goal.returns
returns c =
    none_found c.args.profile c.loop-rest.at c.loop-rest.rest.now c.args.warnings.now.items c.loop-rest.warnings.items _ c.loop-rest.invariant.same
    (true-eqb _ 0 c.loop-rest-test.ensures)
    c.loop-rest.invariant.left
