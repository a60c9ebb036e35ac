use Rattle.std.proofs.Common.{◌≡◌, ◌∙◌, [], sym, rules}
use Rattle.source_notes.proofs.LineSteps.{line_more, lines_end, none_left}
use Rattle.source_notes.proofs.lines.every_line.Goals as goal

pub loop-rest-preserved : goal.loop-rest-preserved
loop-rest-preserved c = line_more _ _ c.next_line.result.0 _ _ c.in_ok-push.ensures.items c.next_line.ensures.cut ∙ c.loop-rest.invariant

pub returns : goal.returns
returns c =
    let none : c.loop-rest.rest.now ≡ [] = none_left c.loop-rest.rest.now (search rules) in
    sym (lines_end c.loop-rest.lines.items c.loop-rest.rest.now none) ∙ c.loop-rest.invariant
